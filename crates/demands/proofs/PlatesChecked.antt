-- Tests that a plate is sound, that it is the plate of a matrix, and that a matrix is refused.
use Rattle.std.proofs.Common.{Ok}
use lib.ListN.{drop, get_or, length}
use lib.Seq.{get_or-drop}
use mathlib.Core.List.{List}
use mathlib.Core.Logic.Iff
use mathlib.Core.Logic.{inl, inr, ◌↔◌, ◌⊎◌}
use mathlib.Core.Path.{ap, subst, sym, ◌∙◌, ◌≡◌}
use native.Mathlib.Omega.{arith}
use Prim.Native.Nat.{◌+◌, ◌-◌, ◌<◌, ◌^◌, suc, ℕ, ◌≤◌}
use Rattle.demands.proofs.Checking.{Check, at_most, below, both, by, each, equal, less, unequal, zeros}
use Rattle.demands.proofs.CodeWords.{same_code}
use Rattle.plates.proofs.OnePlate.{one-plate}
use Rattle.plates.proofs.SoundIsPrepared.{prepared, sound, used-row, used-rows}
use Rattle.plates.specs.Code.{InCode}
use Rattle.plates.specs.declared.Kind.{Kind}
use Rattle.plates.specs.declared.Plate.{Plate}
use Rattle.plates.specs.declared.Refusal.{Refusal}
use Rattle.plates.specs.Prepare.{IsPrepared, PlateOf, Prepares, Wide, prepare_conditions, rows_of}
use Rattle.plates.specs.Profile.{live_at}
use Rattle.plates.specs.Reduced.{Reduced}
use Rattle.plates.specs.Refusals.{Passes}
use Rattle.plates.specs.Sound.{Sound}
use Rattle.trellises.proofs.AcceptedIsPrepared.{plate-same}
use Rattle.words.proofs.Ends.{first-is, last-is}
use Rattle.words.proofs.Span.{lt-tri}
use Rattle.words.specs.Ends.{first, firsts, last, lasts}
use Rattle.words.specs.Sum.{IsSum}
use Rattle.words.specs.Word.{bit}

-- ---- a plate is sound

-- a row is a word of length n, not zero
abbrev pub good_row : (n r : ℕ) → Check ((0 < r) × ((r < 2 ^ 64) × (r < 2 ^ n)))
good_row n r = both (less 0 r) (both (less r (2 ^ 64)) (less r (2 ^ n)))

-- of two rows the first begins before the second, they end apart, and the first has 0 where the second begins inside it
abbrev pub Apart₂ : ℕ → ℕ → Type 0
Apart₂ x y = (first x < first y) × ((last x ≡ last y → ⊥) × (last y < last x → bit x (first y) ≡ 0))

-- its test
abbrev pub good_pair : (x y : ℕ) → Check (Apart₂ x y)
good_pair x y = both (less (first x) (first y)) (both (unequal (last x) (last y)) (below (last y) (last x) (equal (bit x (first y)) 0)))

-- such rows are reduced
reduced-rows : (rows : List ℕ) → ((j : ℕ) → j < length rows → (0 < get_or rows j 0) × (get_or rows j 0 < 2 ^ 64))
    → ((j : ℕ) → j < length rows → (i : ℕ) → i < j → Apart₂ (get_or rows i 0) (get_or rows j 0)) → Reduced rows (firsts rows) (lasts rows)
reduced-rows rows one two = record {
  spans = record {
    first = λ j h. first-is (get_or rows j 0) (one j h).0 (one j h).1;
    last = λ j h. last-is (get_or rows j 0) (one j h).0 (one j h).1;
    rising = λ i j h k. (two j k i h).0;
    apart = λ i j h k e. same i j h k e (lt-tri i j);
  };
  reduced = λ i j h k. (two j k i h).1.1;
}
  where
    same : (i j : ℕ) → i < length rows → j < length rows → lasts rows i ≡ lasts rows j → (i < j) ⊎ ((i ≡ j) ⊎ (j < i)) → i ≡ j
    same i j h k e (inl l) = absurd ((two j k i l).1.0 e)
    same i j h k e (inr (inl q)) = q
    same i j h k e (inr (inr l)) = absurd ((two i h j l).1.0 (sym e))

-- the places of a table from k on
pub unused : (xs : List ℕ) (k : ℕ) → ((i : ℕ) → get_or (drop k xs) i 0 ≡ 0) → (j : ℕ) → k ≤ j → get_or xs j 0 ≡ 0
unused xs k h j l =
    let e : k + (j - k) ≡ j = omega arith in
    sym (ap (λ (x : ℕ). get_or xs x 0) e) ∙ sym (get_or-drop k xs (j - k) 0) ∙ h (j - k)

module _ (plate : Plate) where
  -- what is tested of a plate
  pub record TestedPlate : Type 0 where
    pub positive : 1 ≤ plate.n
    pub short : plate.n ≤ 64
    pub few : plate.k ≤ 64
    pub masked : plate.mask < 2 ^ plate.n
    pub table : length plate.rows ≡ 64
    pub entries : length plate.profile ≡ 65
    pub row : (j : ℕ) → j < length (rows_of plate)
        → (0 < get_or (rows_of plate) j 0) × ((get_or (rows_of plate) j 0 < 2 ^ 64) × (get_or (rows_of plate) j 0 < 2 ^ plate.n))
    pub two : (j : ℕ) → j < length (rows_of plate) → (i : ℕ) → i < j → Apart₂ (get_or (rows_of plate) i 0) (get_or (rows_of plate) j 0)
    pub depth : (t : ℕ) → t < suc plate.n → (get_or plate.profile t 0 ≡ live_at (rows_of plate) t) × (live_at (rows_of plate) t ≤ 12)
    pub no_rows : (i : ℕ) → get_or (drop plate.k plate.rows) i 0 ≡ 0
    pub no_entries : (i : ℕ) → get_or (drop (suc plate.n) plate.profile) i 0 ≡ 0

  -- all of it, computed
  abbrev pub tested : Check TestedPlate
  tested =
      by (λ p. record {
        positive = p.0.0;
        short = p.0.1.0;
        few = p.0.1.1.0;
        masked = p.0.1.1.1.0;
        table = p.0.1.1.1.1.0;
        entries = p.0.1.1.1.1.1;
        row = p.1.0;
        two = p.1.1.0;
        depth = p.1.1.1.0;
        no_rows = p.1.1.1.1.0;
        no_entries = p.1.1.1.1.1;
      })
      (both
      (both (at_most 1 plate.n)
      (both (at_most plate.n 64)
      (both (at_most plate.k 64)
      (both (less plate.mask (2 ^ plate.n)) (both (equal (length plate.rows) 64) (equal (length plate.profile) 65))))))
      (both (each (length (rows_of plate)) (λ j. good_row plate.n (get_or (rows_of plate) j 0)))
      (both (each (length (rows_of plate)) (λ j. each j (λ i. good_pair (get_or (rows_of plate) i 0) (get_or (rows_of plate) j 0))))
      (both (each (suc plate.n) (λ t. both (equal (get_or plate.profile t 0) (live_at (rows_of plate) t)) (at_most (live_at (rows_of plate) t) 12)))
      (both (zeros (drop plate.k plate.rows)) (zeros (drop (suc plate.n) plate.profile)))))))

  -- such a plate is sound
  pub tested-sound : TestedPlate → Sound plate
  tested-sound p = record {
    positive = p.positive;
    short = p.short;
    few = p.few;
    masked = p.masked;
    table = p.table;
    below = λ j h.
        subst (λ (x : ℕ). x < 2 ^ plate.n) (used-row plate j h) (p.row j (omega (arith, used-rows plate p.few p.table))).1.1;
    reduced = reduced-rows (rows_of plate) (λ j h. ((p.row j h).0, (p.row j h).1.0)) p.two;
    unused_rows = unused plate.rows plate.k p.no_rows;
    entries = p.entries;
    profile = λ t h. (p.depth t (omega arith)).0;
    unused_entries = λ t h. unused plate.profile (suc plate.n) p.no_entries t (omega arith);
    narrow = λ t h. (p.depth t (omega arith)).1;
  }

-- a plate is prepared
abbrev pub is_prepared : (plate : Plate) → Check (IsPrepared plate)
is_prepared plate = by (λ p. prepared (tested-sound plate p)) (tested plate)

-- ---- a matrix is accepted with a plate

module _ (kind : Kind) (rows : List ℕ) (plate : Plate) where
  -- refusals 1 to 3, 23 and 4 do not meet it
  passes : IsPrepared plate → length rows ≤ 64 → ((j : ℕ) → j < length rows → get_or rows j 0 < 2 ^ plate.n)
      → PlateOf (InCode kind plate.n rows) plate.n plate.mask plate → Passes (prepare_conditions plate.n kind rows plate.mask)
  passes p few low a = (
    p.same.reply.0.0,
    (
      (λ q b. omega (arith, b.0, few)),
      ((λ q w. omega (arith, w.over, low w.row w.there)), ((λ q m. omega (arith, m.0, (sound p).masked)), (wide, tt))),
    ),
  )
    where
      wide : (q : Refusal) → Wide (InCode kind plate.n rows) plate.n q → ⊥
      wide q w =
          let e : w.rows ≡ rows_of plate = one-plate (InCode kind plate.n rows) w.rows (rows_of plate) _ _ _ _ w.plate a.rows in
          let o : 12 < live_at (rows_of plate) w.depth = subst (λ (x : List ℕ). 12 < live_at x w.depth) e w.over in
          omega (arith, (sound p).narrow w.depth w.within)

  -- a sound plate whose rows generate the code is what preparing replies
  pub accepted-with : IsPrepared plate → length rows ≤ 64 → ((j : ℕ) → j < length rows → get_or rows j 0 < 2 ^ plate.n)
      → ((w : ℕ) → InCode kind plate.n rows w ↔ IsSum (rows_of plate) w)
      → Prepares plate.n kind rows plate.mask (record { verdict = Ok tt; plate = plate })
  accepted-with p few low e =
      let a = plate-same (IsSum (rows_of plate)) (InCode kind plate.n rows) (λ w. Iff.symm (e w)) plate.n plate.mask plate p.same.reply.1 in
      record { reply = (passes p few low a, a) }

-- the test of a matrix and a mask with their plate
abbrev pub accepted : (n : ℕ) (kind : Kind) (rows : List ℕ) (mask : ℕ) (plate : Plate)
    → Check (Prepares n kind rows mask (record { verdict = Ok tt; plate = plate }))
accepted n kind rows mask plate =
    by (λ p.
    subst (λ (x : ℕ). Prepares x kind rows mask (record { verdict = Ok tt; plate = plate })) p.0.0
    (subst (λ (x : ℕ). Prepares plate.n kind rows x (record { verdict = Ok tt; plate = plate })) p.0.1
    (accepted-with kind rows plate p.1.0 p.1.1.0 p.1.1.1.0 p.1.1.1.1)))
    (both (both (equal plate.n n) (equal plate.mask mask))
    (both (is_prepared plate)
    (both (at_most (length rows) 64)
    (both (each (length rows) (λ j. less (get_or rows j 0) (2 ^ plate.n))) (same_code kind plate.n rows (rows_of plate))))))
