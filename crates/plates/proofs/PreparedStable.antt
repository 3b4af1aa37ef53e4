-- A plate is prepared where it is not that it is not: what there is to know of it compares numbers, and numbers can be compared.
use mathlib.Core.List.{List}
use mathlib.Core.Path.{◌≡◌}
use native.Mathlib.Decide.{dec_le, ℕ_discrete}
use Prim.Native.Nat.{◌<◌, ℕ, ◌≤◌}
use Rattle.plates.proofs.SoundIsPrepared.{prepared, sound}
use Rattle.plates.specs.declared.Plate.{Plate}
use Rattle.plates.specs.Prepare.{IsPrepared}
use Rattle.plates.specs.Reduced.{Reduced}
use Rattle.plates.specs.Sound.{Sound}
use Rattle.words.specs.Span.{Lead, Spans}

-- not refuted
abbrev Unrefuted : Type 0 → Type 0
Unrefuted P = (P → ⊥) → ⊥

same : {a b : ℕ} → Unrefuted (a ≡ b) → a ≡ b
same {a} {b} h = here (ℕ_discrete a b)
  where
    here : Dec (a ≡ b) → a ≡ b
    here (yes e) = e
    here (no n) = absurd (h n)

within : {a b : ℕ} → Unrefuted (a ≤ b) → a ≤ b
within {a} {b} h = here (dec_le a b)
  where
    here : Dec (a ≤ b) → a ≤ b
    here (yes l) = l
    here (no n) = absurd (h n)

below : {a b : ℕ} → Unrefuted (a < b) → a < b
below h = within h

lead : {B : ℕ → ℕ → Type 0} {w p : ℕ} → Unrefuted (Lead B w p) → Lead B w p
lead h = record { one = same (λ n. h (λ s. n s.one)); zeros = λ i b. same (λ n. h (λ s. n (s.zeros i b))) }

spans : {rows : List ℕ} {f l : ℕ → ℕ} → Unrefuted (Spans rows f l) → Spans rows f l
spans h = record {
  first = λ j b. lead (λ n. h (λ s. n (s.first j b)));
  last = λ j b. lead (λ n. h (λ s. n (s.last j b)));
  rising = λ i j a b. below (λ n. h (λ s. n (s.rising i j a b)));
  apart = λ i j a b e. same (λ n. h (λ s. n (s.apart i j a b e)));
}

reduced : {rows : List ℕ} {f l : ℕ → ℕ} → Unrefuted (Reduced rows f l) → Reduced rows f l
reduced h = record {
  spans = spans (λ n. h (λ s. n s.spans));
  reduced = λ i j a b c. same (λ n. h (λ s. n (s.reduced i j a b c)));
}

sound-stable : {plate : Plate} → Unrefuted (Sound plate) → Sound plate
sound-stable h = record {
  positive = within (λ n. h (λ s. n s.positive));
  short = within (λ n. h (λ s. n s.short));
  few = within (λ n. h (λ s. n s.few));
  masked = below (λ n. h (λ s. n s.masked));
  table = same (λ n. h (λ s. n s.table));
  below = λ j b. below (λ n. h (λ s. n (s.below j b)));
  reduced = reduced (λ n. h (λ s. n s.reduced));
  unused_rows = λ j b. same (λ n. h (λ s. n (s.unused_rows j b)));
  entries = same (λ n. h (λ s. n s.entries));
  profile = λ t b. same (λ n. h (λ s. n (s.profile t b)));
  unused_entries = λ t b. same (λ n. h (λ s. n (s.unused_entries t b)));
  narrow = λ t b. within (λ n. h (λ s. n (s.narrow t b)));
}

pub prepared-stable : {plate : Plate} → ((IsPrepared plate → ⊥) → ⊥) → IsPrepared plate
prepared-stable h = prepared (sound-stable (λ n. h (λ p. n (sound p))))
