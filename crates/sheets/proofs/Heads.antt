-- The head of a sheet by what was read of it.
use Rattle.std.proofs.Common.{Result, Ok, Err}
use Prim.Native.Nat.{ℕ, ◌+◌, ◌≤◌, ◌<◌}
use borrow.Author.Tests.{eq-eqb, ne_eqb, lt-ltb, le-ltb}
use lib.ListN.{length, take}
use mathlib.Core.List.{List, [], ◌∷◌}
use mathlib.Core.Path.{◌≡◌, ◌∙◌, ap}
use native.Mathlib.Omega.{arith}
use Rattle.plates.specs.declared.Refusal.{Refusal}
use Rattle.plates.specs.declared.Refusal.TheVariants.{Length, SheetLine}
use Rattle.sheets.specs.Text.{line_feed, fields, lines}
use Rattle.sheets.specs.Covers.{cover_of}
use Rattle.sheets.specs.Sheet.{cover_front, cover_in, cover_bad, length_bad, first_refusal, refusal_of}
use Rattle.sheets.specs.Readers.{HeadIs, HeadRead, Until}
use Rattle.sheets.specs.declared.line.Fault.{Fault}
use Rattle.sheets.specs.declared.cover.Cover.{Cover}
use Rattle.sheets.proofs.Parts.{parts-front, after-some, after_last}
use Rattle.sheets.proofs.Endings.{line-closed}

module _ (s : List ℕ) where
  abbrev verdict : Result Cover Fault → Result (Unit {0}) Refusal
  verdict line = first_refusal (cover_bad line ∷ length_bad (cover_in line).n ∷ [])

  -- a refusal
  head-refused : (q : Refusal) → verdict (cover_front (lines s)) ≡ Err q → HeadRead s (Err q)
  head-refused q e = record { is = λ cover next g. never g; not = λ p g. e ∙ ap Err (same g) }
    where
      never : {A : Type 0} {cover : Cover} {next : ℕ} → ◌≡◌ {A = Result (Cover × ℕ) Refusal} (Err q) (Ok (cover, next)) → A
      never g = let z : ◌≡◌ {A = ℕ} 0 1 = cc in absurd (omega arith)

      same : {p : Refusal} → ◌≡◌ {A = Result (Cover × ℕ) Refusal} (Err q) (Err p) → q ≡ p
      same g = cc

  module _ (r : ℕ) (u : Until line_feed s 0 r) where
    -- no line
    pub head-open : r ≡ length s → HeadRead s (Err (SheetLine 1))
    head-open e = head-refused (SheetLine 1) (rw (parts-front line_feed s r u, after_last line_feed s r u.high e))

    module _ (n : r ≡ length s → ⊥) (line : Result Cover Fault) (e : cover_of (fields (take r s)) ≡ line) where
      is-line : cover_front (lines s) ≡ line
      is-line = ap cover_front (parts-front line_feed s r u) ∙ rw (after-some line_feed s r u.high n) e

      -- a line that is no cover
      pub head-bad : (f : Fault) → line ≡ Err f → (q : Refusal) → q ≡ refusal_of 1 f → HeadRead s (Err q)
      head-bad f g q h = head-refused q (rw (is-line ∙ g, h))

      module _ (cover : Cover) (q : line ≡ Ok cover) where
        -- n out of its range
        pub head-none : cover.n ≡ 0 → HeadRead s (Err Length)
        head-none z = head-refused Length (rw (is-line ∙ q, eq-eqb cover.n 0 z))

        pub head-over : (cover.n ≡ 0 → ⊥) → 64 < cover.n → HeadRead s (Err Length)
        head-over z k = head-refused Length (rw (is-line ∙ q, ne_eqb cover.n 0 z, lt-ltb 64 cover.n k))

        -- a cover in its range
        pub head-is : (cover.n ≡ 0 → ⊥) → cover.n ≤ 64 → HeadRead s (Ok (cover, r + 1))
        head-is z k = record { is = λ c m g. found g; not = λ p g. never g }
          where
            fine : HeadIs s cover (r + 1)
            fine = record {
              form = is-line ∙ q;
              range = rw (ne_eqb cover.n 0 z, le-ltb 64 cover.n k);
              most = k;
              ended = line-closed s 0 r u n;
            }

            found : {c : Cover} {m : ℕ} → ◌≡◌ {A = Result (Cover × ℕ) Refusal} (Ok (cover, r + 1)) (Ok (c, m)) → HeadIs s c m
            found {c} {m} g =
                let p : ◌≡◌ {A = Cover × ℕ} (cover, r + 1) (c, m) = cc in
                let a : cover ≡ c = ap (λ (x : Cover × ℕ). x.0) p in
                let b : r + 1 ≡ m = ap (λ (x : Cover × ℕ). x.1) p in
                rw (← a, ← b) fine

            never : {A : Type 0} {p : Refusal} → ◌≡◌ {A = Result (Cover × ℕ) Refusal} (Ok (cover, r + 1)) (Err p) → A
            never g = let z : ◌≡◌ {A = ℕ} 0 1 = cc in absurd (omega arith)
