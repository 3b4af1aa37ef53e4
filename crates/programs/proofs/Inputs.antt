-- What was read stands for the whole input.
use Rattle.std.proofs.Common.{Err}
use Rattle.plates.specs.declared.Refusal.{Refusal}
use borrow.Author.Tests.{lt-ltb}
use lib.ListN.{length, length-append, take}
use mathlib.Core.Bool.{Bool, false, true}
use mathlib.Core.List.{List, ◌++◌, append-nil}
use mathlib.Core.Path.{◌≡◌, ap, refl, subst, sym, ◌∙◌}
use native.Mathlib.Omega.{arith}
use Prim.Native.Nat.{◌<◌, ℕ}
use Rattle.plates.specs.declared.Refusal.TheVariants.{InputTooLong}
use Rattle.programs.specs.declared.streams.Got.{Got}
use Rattle.programs.specs.Input.{IsPrefixLen, StandsFor, Stopped, Whole}
use Rattle.std.specs.Prelude.{IfOk, Ok, Result}
use Rattle.sheets.specs.Sheet.{contents, reading, reading_by, refused, verdict}

-- a read that gave nothing met the end
pub stopped-early : {got : Got} {room : List ℕ} → got.ended ≡ true → Stopped got room
stopped-early g = record { full = λ e. let z : true ≡ false = sym g ∙ e in let y : ◌≡◌ {A = ℕ} 0 1 = cc in absurd (omega arith) }

pub stopped-full : {got : Got} {room : List ℕ} → got.size ≡ length room → Stopped got room
stopped-full h = record { full = λ e. h }

-- a full room of 32,769 bytes is longer than a sheet may be
pub stands-for : {got : Got} {room : List ℕ} → length room ≡ 32769 → got.size ≡ length (take got.size room) → Stopped got room
    → StandsFor got.ended (take got.size room)
stands-for l k s = record { long = λ e. omega (arith, s.full e, l, k) }

-- so what a read that did not fail gave
pub stands-read : {E : Type 0} {r : Result Got E} {got : Got} (room : List ℕ) → length room ≡ 32769 → IfOk r (λ (g : Got). IsPrefixLen g.size room)
    → IfOk r (λ (g : Got). Stopped g room) → r ≡ Ok got → StandsFor got.ended (take got.size room)
stands-read {E} {r} {got} room l k s e =
    let prefix : IsPrefixLen got.size room = subst (λ (x : Result Got E). IfOk x (λ (g : Got). IsPrefixLen g.size room)) e k in
    stands-for l prefix.1 (subst (λ (x : Result Got E). IfOk x (λ (g : Got). Stopped g room)) e s)

verdict-long : (s : List ℕ) → 32768 < length s → verdict s ≡ Err InputTooLong
unfolding verdict
verdict-long s h = rw (lt-ltb 32768 (length s) h)

reads-long : (s : List ℕ) → 32768 < length s → reading s ≡ refused InputTooLong
reads-long s h = ap (λ (v : Result (Unit {0}) Refusal). reading_by v (contents s)) (verdict-long s h)

reads-by : (ended : Bool) (read whole : List ℕ) → StandsFor ended read → Whole ended read whole → reading whole ≡ reading read
reads-by true read whole s w = ap reading (w.is ∙ ap (λ (r : List ℕ). read ++ r) (w.none refl) ∙ append-nil read)
reads-by false read whole s w =
    let h = s.long refl in
    let l : length whole ≡ length (read ++ w.rest) = ap length w.is in
    reads-long whole (omega (arith, h, l, length-append read w.rest)) ∙ sym (reads-long read h)

-- so the whole input is read as what was read of it
pub reads_same : {ended : Bool} {read whole : List ℕ} → StandsFor ended read → Whole ended read whole → reading whole ≡ reading read
reads_same {ended} {read} {whole} s w = reads-by ended read whole s w
