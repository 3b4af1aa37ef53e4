-- The replies of a preparing: each refusal where it is the first that holds, and the plate where none holds.
use Rattle.std.proofs.Common.{Ok}
use lib.ListN.{get_or, length, take}
use lib.Pow.{pow_pos}
use mathlib.Core.List.{List}
use mathlib.Core.Logic.{inl, inr, ◌↔◌, ◌⊎◌}
use mathlib.Core.Path.{refl, subst, sym, ◌≡◌}
use native.Mathlib.Decide.{dec_lt}
use native.Mathlib.Omega.{arith}
use Prim.Native.Nat.{◌+◌, ◌<◌, ◌^◌, zero-le, ℕ, ◌≤◌}
use Rattle.plates.proofs.Deciding.{alike, at-most, fails, holds}
use lib.Dec.{leb}
use Rattle.plates.proofs.OnePlate.{one-plate}
use Rattle.plates.specs.Tested.{Decides}
use mathlib.Core.Bool.{false, true}
use Rattle.plates.proofs.ProfilePassed.{live-tallied}
use Rattle.plates.proofs.ReducedIsPlate.{plate-of}
use Rattle.plates.proofs.TableFilled.{sums-used}
use Rattle.plates.specs.Code.{InCode}
use Rattle.plates.specs.declared.Kind.{Kind}
use Rattle.plates.specs.declared.Plate.{Plate}
use Rattle.plates.specs.declared.Prepared.{Prepared}
use Rattle.plates.specs.declared.Refusal.{Refusal}
use Rattle.plates.specs.declared.Refusal.TheVariants.{Length, MaskBeyond, RowBeyond, TooManyRows, TooWide}
use Rattle.plates.specs.Filling.{Filled}
use Rattle.plates.specs.Heads.{RowsOf}
use Rattle.plates.specs.Prepare.{PlateOf, Prepares, RowOver, Wide, bad_length, mask_beyond, prepare_conditions, rows_of}
use Rattle.plates.specs.Profile.{live_at}
use Rattle.plates.specs.Profiling.{Marks, Tallied}
use Rattle.plates.specs.Reducing.{ReducedFrom}
use Rattle.plates.specs.Refusals.{Refuses}
use Rattle.plates.specs.Replying.{refused_with}
use Rattle.plates.specs.Working.{Beyond, FirstAt, NoneIn, OverTwelve, SameSums}
use Rattle.words.proofs.Span.{zero_one}
use Rattle.words.proofs.Word.{below-bits, bits_below}
use Rattle.words.specs.Ends.{LastOne, firsts, lasts}
use Rattle.words.specs.Sum.{IsSum}

-- ---- what `last_one` tells of a row

pub zero-short : {w n : ℕ} → w ≡ 0 → Decides (Beyond n w) false
zero-short {w} {n} e = fails (λ b. omega (arith, pow_pos n, b.over))

pub last-short : {w n r : ℕ} → (w ≡ 0 → ⊥) → LastOne w r → r < n → Decides (Beyond n w) false
last-short {w} {n} {r} d f h =
    let p : 0 < w = omega arith in
    let s : w < 2 ^ n = below-bits n w (λ i l. (f.some p).zeros i (omega arith)) in
    fails (λ b. omega (arith, b.over))

pub last-beyond : {w n r : ℕ} → (w ≡ 0 → ⊥) → LastOne w r → n ≤ r → Decides (Beyond n w) true
last-beyond {w} {n} {r} d f h = holds (go (dec_lt w (2 ^ n)))
  where
    go : Dec (w < 2 ^ n) → Beyond n w
    go (no b) = record { over = omega arith }
    go (yes b) = absurd (zero_one (bits_below n w b r h) (f.some (omega arith)).one)

-- so does the test that compares it with the length
pub last-reaches : {w n r : ℕ} → (w ≡ 0 → ⊥) → LastOne w r → Decides (Beyond n w) (leb n r)
last-reaches {w} {n} {r} d f = alike (λ h. (last-beyond d f h).yes_is refl) (λ b. back b (dec_lt r n)) (at-most n r)
  where
    back : Beyond n w → Dec (r < n) → n ≤ r
    back b (yes h) = absurd ((last-short d f h).no_is refl b)
    back b (no h) = omega arith

-- a row that does not reach beyond is of length n
pub not_beyond : {w n : ℕ} → (Beyond n w → ⊥) → w < 2 ^ n
not_beyond {w} {n} d = go (dec_lt w (2 ^ n))
  where
    go : Dec (w < 2 ^ n) → w < 2 ^ n
    go (yes b) = b
    go (no b) = absurd (d (record { over = omega arith }))

pub none-beyond : {n : ℕ} (rows : List ℕ) → NoneIn rows (Beyond n) 0 (length rows) → (j : ℕ) → j < length rows → get_or rows j 0 < 2 ^ n
none-beyond rows f j l = not_beyond (f j zero-le l)

-- ---- refusals 1 to 3, and 23

module _ {n mask : ℕ} {kind : Kind} {rows : List ℕ} {r : Prepared} where
  refuse : {q : Refusal} → Refuses (prepare_conditions n kind rows mask) q → r ≡ refused_with q → Prepares n kind rows mask r
  refuse h e = subst (Prepares n kind rows mask) (sym e) (record { reply = (h, refl) })

  pub refuse-length : (n ≡ 0) ⊎ (64 < n) → r ≡ refused_with Length → Prepares n kind rows mask r
  refuse-length bad = refuse (inl (bad, refl))

good_length : {n : ℕ} → 0 < n → n ≤ 64 → (p : Refusal) → bad_length n p → ⊥
good_length {n} some short p c = go c.0
  where
    go : (n ≡ 0) ⊎ (64 < n) → ⊥
    go (inl e) = omega arith
    go (inr h) = omega arith

good-rows : {n : ℕ} {rows : List ℕ} → ((j : ℕ) → j < length rows → get_or rows j 0 < 2 ^ n) → (c : Refusal) → RowOver n rows c → ⊥
good-rows small c o = omega (arith, o.over, small o.row o.there)

module _ {n mask : ℕ} {kind : Kind} {rows : List ℕ} {r : Prepared} (some : 0 < n) (short : n ≤ 64) where
  pub refuse-rows : 64 < length rows → r ≡ refused_with TooManyRows → Prepares n kind rows mask r
  refuse-rows many = refuse (inr (good_length some short, inl (many, refl)))

  pub refuse-beyond : {i : ℕ} → length rows ≤ 64 → FirstAt rows (Beyond n) 0 (length rows) i → r ≡ refused_with (RowBeyond i)
      → Prepares n kind rows mask r
  refuse-beyond {i} few f =
      refuse (inr (
        good_length some short,
        inr (
          (λ p c. omega (arith, c.0)),
          inl (record {
            row = i;
            there = f.within;
            over = f.here.over;
            first = λ j l. not_beyond (f.none j zero-le l);
            is = refl;
          }),
        ),
      ))

  pub refuse-mask : length rows ≤ 64 → ((j : ℕ) → j < length rows → get_or rows j 0 < 2 ^ n) → Beyond n mask
      → r ≡ refused_with MaskBeyond → Prepares n kind rows mask r
  refuse-mask few small b =
      refuse (inr (
        good_length some short,
        inr ((λ p c. omega (arith, c.0)), inr (good-rows small, inl (b.over, refl))),
      ))

-- ---- the plate

-- one code said in two ways has one plate
rows_same : {C D : ℕ → Type 0} {rows : List ℕ} {f l : ℕ → ℕ} → ((w : ℕ) → C w ↔ D w) → RowsOf C rows f l → RowsOf D rows f l
rows_same s p = record {
  row = λ j k. (let r = p.row j k in record {
    codeword = (s _).0 r.codeword;
    begins = r.begins;
    ends = r.ends;
    soonest = λ w q c. r.soonest w q ((s w).1 c);
    earliest = λ w c. r.earliest w ((s w).1 c);
  });
  order = p.order;
  heads = λ w q c. p.heads w q ((s w).1 c);
}

-- what filling, reducing and the pass over the depths leave
pub plate-done : {n used k mask heads ends : ℕ} {kind : Kind} {rows t u p : List ℕ} → Filled n kind rows t used → ReducedFrom t u n k
    → Marks (firsts u) k heads → Marks (lasts u) k ends → Tallied heads ends n p
    → PlateOf (InCode kind n rows) n mask (record { n = n; k = k; mask = mask; rows = u; profile = p })
plate-done {n} {used} {k} {mask} {heads} {ends} {kind} {rows} {t} {u} {p} f s mh me q = record {
  length_n = refl;
  mask_is = refl;
  few = s.rows.table.few;
  table = s.rows.table.size;
  rows = rows_same code (plate-of (take k u) (firsts (take k u)) (lasts (take k u)) s.rows.reduced);
  unused_rows = s.rows.table.unused;
  entries = q.entries;
  profile = live-tallied s.rows mh me q;
  unused_entries = q.unused;
}
  where
    used-rows : SameSums (take k u) u
    used-rows = sums-used u k (omega (arith, s.rows.table.size, s.rows.table.few)) s.rows.table.unused

    code : (w : ℕ) → IsSum (take k u) w ↔ InCode kind n rows w
    code w = ((λ g. (f.code w).0 (s.same.from w (used-rows.to w g))), λ c. used-rows.from w (s.same.to w ((f.code w).1 c)))

-- ---- refusal 4, and the answer

good-mask : (n : ℕ) {mask : ℕ} → mask < 2 ^ n → (c : Refusal) → mask_beyond n mask c → ⊥
good-mask n masked c o = omega (arith, o.0, masked)

module _ {n mask : ℕ} {kind : Kind} {rows : List ℕ} {plate : Plate} (some : 0 < n) (short : n ≤ 64) (few : length rows ≤ 64)
    (small : (j : ℕ) → j < length rows → get_or rows j 0 < 2 ^ n) (masked : mask < 2 ^ n) (p : PlateOf (InCode kind n rows) n mask plate) where
  pub refuse-wide : {r : Prepared} {d : ℕ} → FirstAt plate.profile OverTwelve 0 (n + 1) d → r ≡ refused_with (TooWide d) → Prepares n kind rows mask r
  refuse-wide {r} {d} w =
      let h : d ≤ n = omega (arith, w.within) in
      refuse (inr (
        good_length some short,
        inr (
          (λ c o. omega (arith, o.0)),
          inr (
            good-rows small,
            inr (
              good-mask n masked,
              inl (record {
                rows = rows_of plate;
                plate = p.rows;
                depth = d;
                within = h;
                over = subst (λ (x : ℕ). 12 < x) (p.profile d h) w.here;
                first = λ t l. subst (λ (x : ℕ). x ≤ 12) (p.profile t (omega arith)) (entry t (dec_lt 12 (get_or plate.profile t 0)) (w.none t zero-le l));
                is = refl;
              }),
            ),
          ),
        ),
      ))
    where
      entry : (t : ℕ) → Dec (12 < get_or plate.profile t 0) → (12 < get_or plate.profile t 0 → ⊥) → get_or plate.profile t 0 ≤ 12
      entry t (yes o) f = absurd (f o)
      entry t (no o) f = omega arith

  pub accept : NoneIn plate.profile OverTwelve 0 (n + 1) → Prepares n kind rows mask (record { verdict = Ok tt; plate = plate })
  accept w = record { reply = ((good_length some short, ((λ c o. omega (arith, o.0)), (good-rows small, (good-mask n masked, (narrow, tt))))), p) }
    where
      narrow : (c : Refusal) → Wide (InCode kind n rows) n c → ⊥
      narrow c o =
          let e : o.rows ≡ rows_of plate =
          one-plate (InCode kind n rows) o.rows (rows_of plate) (firsts o.rows) (lasts o.rows) (firsts (rows_of plate)) (lasts (rows_of plate)) o.plate p.rows in
          w o.depth zero-le (omega (arith, o.within))
          (subst (λ (x : ℕ). 12 < x) (sym (p.profile o.depth o.within)) (subst (λ (x : List ℕ). 12 < live_at x o.depth) e o.over))
