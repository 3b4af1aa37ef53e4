-- A plate is prepared exactly if it is sound, so refusal 5 is a direct test of its rows.
use lib.ListN.{get_or, length}
use lib.Seq.{get_or-take, length-take-le}
use mathlib.Core.Bool.{Bool}
use mathlib.Core.List.{List}
use mathlib.Core.Logic.{inl, inr, ◌⊎◌}
use mathlib.Core.Path.{refl, subst, sym, ◌≡◌}
use native.Mathlib.Decide.{dec_lt}
use native.Mathlib.Nat.{le_refl}
use native.Mathlib.Omega.{arith}
use Prim.Native.Nat.{◌<◌, ◌^◌, suc, zero, ℕ, ◌≤◌}
use Rattle.plates.proofs.LastOnesDiffer.{rows-reduced}
use Rattle.plates.proofs.OnePlate.{one-plate}
use Rattle.plates.proofs.ReducedIsPlate.{plate-of}
use Rattle.plates.specs.declared.Kind.TheVariants.{G}
use Rattle.plates.specs.declared.Plate.{Plate}
use Rattle.plates.specs.declared.Refusal.{Refusal}
use Rattle.plates.specs.declared.Refusal.TheVariants.{Length, MaskBeyond, RowBeyond, TooWide}
use Rattle.plates.specs.Heads.{RowsOf}
use Rattle.plates.specs.Prepare.{IsPrepared, PlateOf, RowOver, Tests, Wide, prepare_conditions, rows_of}
use Rattle.plates.specs.Profile.{live_at}
use Rattle.plates.specs.Refusals.{Passes}
use Rattle.plates.specs.Sound.{Sound}
use Rattle.plates.specs.Tested.{Decides}
use Rattle.words.proofs.Span.{lt-tri}
use Rattle.words.proofs.Sums.{in-xor}
use Rattle.words.specs.Ends.{firsts, lasts}
use Rattle.words.specs.Sum.{IsSum}

-- where no row is over, all are below
row_below : (n : ℕ) (rows : List ℕ) → ((q : Refusal) → RowOver n rows q → ⊥) → (m : ℕ) → m < length rows → ((i : ℕ) → i < m → get_or rows i 0 < 2 ^ n) → get_or rows m 0 < 2 ^ n
row_below n rows h m b before = here (dec_lt (get_or rows m 0) (2 ^ n))
  where
    here : Dec (get_or rows m 0 < 2 ^ n) → get_or rows m 0 < 2 ^ n
    here (yes a) = a
    here (no a) = absurd (h (RowBeyond m) (record { row = m; there = b; over = omega arith; first = before; is = refl }))

rows-below : (n : ℕ) (rows : List ℕ) → ((q : Refusal) → RowOver n rows q → ⊥) → (m : ℕ) → m ≤ length rows → (j : ℕ) → j < m → get_or rows j 0 < 2 ^ n
rows-below n rows h zero b j k = absurd (omega arith)
rows-below n rows h (suc m) b j k = go (rows-below n rows h m (omega arith)) (lt-tri j m)
  where
    go : ((i : ℕ) → i < m → get_or rows i 0 < 2 ^ n) → (j < m) ⊎ ((j ≡ m) ⊎ (m < j)) → get_or rows j 0 < 2 ^ n
    go before (inl a) = before j a
    go before (inr (inl e)) = subst (λ (x : ℕ). get_or rows x 0 < 2 ^ n) (sym e) (row_below n rows h m b before)
    go before (inr (inr a)) = absurd (omega arith)

-- where a code's plate is not too wide, none of its profile exceeds 12
depths-narrow : (C : ℕ → Type 0) (n : ℕ) (rows : List ℕ) → RowsOf C rows (firsts rows) (lasts rows) → ((q : Refusal) → Wide C n q → ⊥) → (m : ℕ) → (t : ℕ) → t < m → t ≤ n → live_at rows t ≤ 12
depths-narrow C n rows p h zero t l b = absurd (omega arith)
depths-narrow C n rows p h (suc m) t l b = here (dec_lt 12 (live_at rows t)) (depths-narrow C n rows p h m)
  where
    here : Dec (12 < live_at rows t) → ((i : ℕ) → i < m → i ≤ n → live_at rows i ≤ 12) → live_at rows t ≤ 12
    here (no o) before = omega arith
    here (yes o) before = absurd (h (TooWide t) (record {
      rows = rows;
      plate = p;
      depth = t;
      within = b;
      over = o;
      first = λ i k. before i (omega arith) (omega arith);
      is = refl;
    }))

-- the rows in use are the first k of the table
pub used-rows : (plate : Plate) → plate.k ≤ 64 → length plate.rows ≡ 64 → length (rows_of plate) ≡ plate.k
used-rows plate h e = length-take-le plate.k plate.rows (omega arith)

pub used-row : (plate : Plate) (j : ℕ) → j < plate.k → get_or (rows_of plate) j 0 ≡ get_or plate.rows j 0
used-row plate j h = get_or-take plate.k plate.rows j 0 h

pub sound : {plate : Plate} → IsPrepared plate → Sound plate
sound {plate} p = record {
  positive = not-zero (dec_lt 0 plate.n);
  short = not-over (dec_lt 64 plate.n);
  few = p.few;
  masked = not_beyond (dec_lt plate.mask (2 ^ plate.n));
  table = answer.table;
  below = λ j k. subst (λ (x : ℕ). x < 2 ^ plate.n) (used-row plate j k) (rows-below plate.n (rows_of plate) pass.1.1.0 (length (rows_of plate)) (le_refl _) j (omega (arith, size)));
  reduced = rows-reduced (IsSum (rows_of plate)) (λ a b. in-xor) (rows_of plate) _ _ answer.rows;
  unused_rows = answer.unused_rows;
  entries = answer.entries;
  profile = answer.profile;
  unused_entries = answer.unused_entries;
  narrow = λ t h. depths-narrow (IsSum (rows_of plate)) plate.n (rows_of plate) answer.rows pass.1.1.1.1.0 (suc t) t (omega arith) h;
}
  where
    pass : Passes (prepare_conditions plate.n G (rows_of plate) plate.mask)
    pass = p.same.reply.0

    answer : PlateOf (IsSum (rows_of plate)) plate.n plate.mask plate
    answer = p.same.reply.1

    size : length (rows_of plate) ≡ plate.k
    size = used-rows plate p.few answer.table

    not-zero : Dec (0 < plate.n) → 1 ≤ plate.n
    not-zero (yes h) = h
    not-zero (no h) = absurd (pass.0 Length (inl (omega arith), refl))

    not-over : Dec (64 < plate.n) → plate.n ≤ 64
    not-over (yes h) = absurd (pass.0 Length (inr h, refl))
    not-over (no h) = omega arith

    not_beyond : Dec (plate.mask < 2 ^ plate.n) → plate.mask < 2 ^ plate.n
    not_beyond (yes h) = h
    not_beyond (no h) = absurd (pass.1.1.1.0 MaskBeyond (omega arith, refl))

pub prepared : {plate : Plate} → Sound plate → IsPrepared plate
prepared {plate} s = record { few = s.few; same = record { reply = (pass, answer) } }
  where
    size : length (rows_of plate) ≡ plate.k
    size = used-rows plate s.few s.table

    rows : RowsOf (IsSum (rows_of plate)) (rows_of plate) (firsts (rows_of plate)) (lasts (rows_of plate))
    rows = plate-of (rows_of plate) _ _ s.reduced

    wide : (q : Refusal) → Wide (IsSum (rows_of plate)) plate.n q → ⊥
    wide q w =
        let e : w.rows ≡ rows_of plate = one-plate (IsSum (rows_of plate)) w.rows (rows_of plate) _ _ _ _ w.plate rows in
        let o : 12 < live_at (rows_of plate) w.depth = subst (λ (x : List ℕ). 12 < live_at x w.depth) e w.over in
        omega (arith, s.narrow w.depth w.within)

    over : (q : Refusal) → RowOver plate.n (rows_of plate) q → ⊥
    over q w =
        let k : w.row < plate.k = omega (arith, w.there, size) in
        omega (arith, s.below w.row k, subst (λ (x : ℕ). 2 ^ plate.n ≤ x) (used-row plate w.row k) w.over)

    pass : Passes (prepare_conditions plate.n G (rows_of plate) plate.mask)
    pass = ((λ q b. bad b.0), ((λ q b. omega (arith, b.0, size, s.few)), (over, ((λ q b. omega (arith, b.0, s.masked)), (wide, tt)))))
      where
        bad : (plate.n ≡ 0) ⊎ (64 < plate.n) → ⊥
        bad (inl e) = omega (arith, e, s.positive)
        bad (inr h) = omega (arith, h, s.short)

    answer : PlateOf (IsSum (rows_of plate)) plate.n plate.mask plate
    answer = record {
      length_n = refl;
      mask_is = refl;
      few = s.few;
      table = s.table;
      rows = rows;
      unused_rows = s.unused_rows;
      entries = s.entries;
      profile = s.profile;
      unused_entries = s.unused_entries;
    }

-- what the test of a plate's parts says of the plate
pub sound-tested : {plate : Plate} {r : Bool} → Decides (Sound plate) r → Tests plate r
sound-tested s = record { yes_is = λ e. prepared (s.yes_is e); no_is = λ e p. s.no_is e (sound p) }
