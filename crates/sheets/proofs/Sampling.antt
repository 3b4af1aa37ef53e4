-- The samples of a line one after the other: what the loop over them keeps.
use Rattle.std.proofs.Common.{Some, None, Result, Ok, Err}
use Prim.Native.Nat.{ℕ, ◌+◌, ◌-◌, ◌≤◌, ◌<◌}
use lib.IntN.{ℤ}
use lib.ListN.{length, take, drop, set, length-set}
use mathlib.Core.List.{List}
use mathlib.Core.Path.{◌≡◌, refl, sym, ◌∙◌}
use native.Mathlib.Numerals.{add-one}
use native.Mathlib.Omega.{arith}
use Rattle.sheets.specs.Text.{tab, fields_from}
use Rattle.sheets.specs.Numbers.{sample_of}
use Rattle.sheets.specs.Room.{laid}
use Rattle.sheets.specs.Blocks.{samples_of, values_of}
use Rattle.sheets.specs.Readers.{FieldsRead, SamplesRead, Until}
use Rattle.sheets.proofs.Parts.{from_more, from-none}
use Rattle.sheets.proofs.Laying.{laid_from, laid_none, laid_on}

-- where the answer is a field that is no sample, nothing is asked of the room
pub read-bad : (d : Result ℕ ℕ) (vs room room' : List ℤ) (f : ℕ) → d ≡ Err f → SamplesRead d vs room (Err f) room'
read-bad d vs room room' f e = record { is = sym e; stored = λ k q. absurd (never q) }
  where
    never : {k : ℕ} → Err f ≡ Ok k → ⊥
    never q = let z : ◌≡◌ {A = ℕ} 0 1 = cc in omega arith

-- k samples are taken, and the next field begins at `at`: the fields left, after those, are all of them
pub record Sampling (lead : ℕ) (line : List ℕ) (from : ℕ) (room₀ room : List ℤ) (at k : ℕ) : Type 0 where
  pub low : from + k ≤ at
  pub high : at ≤ length line + 1
  pub size : length room ≡ length room₀
  pub counted : samples_of lead k (fields_from line at) ≡ samples_of lead 0 (fields_from line from)
  pub kept : laid_from k (values_of (fields_from line at)) room ≡ laid (values_of (fields_from line from)) room₀

pub sample-start : (lead : ℕ) (line : List ℕ) (from : ℕ) (room : List ℤ) → from ≤ length line + 1 → Sampling lead line from room room from 0
sample-start lead line from room h = record { low = omega arith; high = h; size = refl; counted = refl; kept = refl }

module _ {lead : ℕ} {line : List ℕ} {from : ℕ} {room₀ room : List ℤ} {at k : ℕ} (i : Sampling lead line from room₀ room at k) where
  -- at the end all are taken
  pub sample-end : length line < at → FieldsRead lead (fields_from line from) room₀ (Ok k) room
  sample-end h =
      let e = from-none tab line at h in
      record {
        is = rw e at i.counted;
        stored = λ m q. sym (laid_none k room) ∙ (rw e at i.kept);
      }

  module _ (r : ℕ) (h : at ≤ length line) (u : Until tab line at r) where
    -- one field more, which is a sample
    pub sample-on : (v : ℤ) → sample_of (take (r - at) (drop at line)) ≡ Some v → Sampling lead line from room₀ (set room k v) (r + 1) (k + 1)
    sample-on v e =
        let m = from_more tab line at r h u in
        record {
          low = omega arith;
          high = omega arith;
          size = simp length-set i.size;
          counted = rw (m, e) at i.counted;
          kept = rw (add-one k, laid_on k v) (rw (m, e) at i.kept);
        }

    -- a field that is none
    pub sample-bad : sample_of (take (r - at) (drop at line)) ≡ None
        → FieldsRead lead (fields_from line from) room₀ (Err (k + lead)) room
    sample-bad e = read-bad _ _ room₀ room (k + lead) (sym i.counted ∙ rw (from_more tab line at r h u, e))
