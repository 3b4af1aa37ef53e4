-- Preparing a matrix as G and as H: the same verdict, plates of the same length with the same profile, and where they are refused with 4
-- the same place, which is the first depth over 12 of both.
use Rattle.std.proofs.Common.{Result, Ok, Err}
use lib.ListN.{get_or, length}
use lib.Pow.{pow_pos}
use lib.Seq.{ext_get_or}
use mathlib.Core.List.{List, [], ◌++◌, ◌∷◌}
use mathlib.Core.Logic.{inl, inr, ◌⊎◌}
use mathlib.Core.Path.{ap, refl, subst, sym, ◌∙◌, ◌≡◌}
use native.Mathlib.Decide.{dec_lt}
use native.Mathlib.Omega.{arith}
use Prim.Native.Nat.{◌+◌, ◌<◌, ◌^◌, suc, ℕ, ◌≤◌}
use Rattle.plates.proofs.PrepareDetermined.{prepare-determined}
use Rattle.plates.proofs.Refusing.{never_both}
use Rattle.plates.proofs.SoundIsPrepared.{used-rows}
use Rattle.plates.specs.Code.{InCode}
use Rattle.plates.specs.declared.Kind.{Kind}
use Rattle.plates.specs.declared.Kind.TheVariants.{G, H}
use Rattle.plates.specs.declared.Plate.{Plate}
use Rattle.plates.specs.declared.Prepared.{Prepared}
use Rattle.plates.specs.declared.Refusal.{Refusal}
use Rattle.plates.specs.declared.Refusal.TheVariants.{TooWide}
use Rattle.plates.specs.Heads.{RowsOf}
use Rattle.plates.specs.Prepare.{Prepares, PreparesAs, RowOver, Wide, bad_length, mask_beyond, prepare_conditions, rows_of, too_many_rows}
use Rattle.plates.specs.Profile.{live_at}
use Rattle.plates.specs.Refusals.{Passes, Refuses, number, place}
use Rattle.trellises.proofs.AcceptedIsPrepared.{accepted, all-below}
use Rattle.trellises.proofs.DualProfiles.{dual-dimensions, dual-profiles}
use Rattle.trellises.specs.Dual.{FirstWide, TooWideAt}
use Rattle.words.specs.Ends.{firsts, lasts}

-- a refusal is by one of the first conditions, whatever follows them, or they all pass and it is by one that follows
by_first : (cs ds : List (Refusal → Type 0)) (q : Refusal) → Refuses (cs ++ ds) q
    → ((es : List (Refusal → Type 0)) → Refuses (cs ++ es) q) ⊎ (Passes cs × Refuses ds q)
by_first [] ds q r = inr (tt, r)
by_first (c ∷ cs) ds q (inl x) = inl (λ es. inl x)
by_first (c ∷ cs) ds q (inr x) = go (by_first cs ds q x.1)
  where
    go : ((es : List (Refusal → Type 0)) → Refuses (cs ++ es) q) ⊎ (Passes cs × Refuses ds q)
        → ((es : List (Refusal → Type 0)) → Refuses (c ∷ (cs ++ es)) q) ⊎ (Passes (c ∷ cs) × Refuses ds q)
    go (inl e) = inl (λ es. inr (x.0, e es))
    go (inr p) = inr ((x.0, p.0), p.1)

-- a refusal by a single condition
by_only : (c : Refusal → Type 0) (q : Refusal) → Refuses (c ∷ []) q → c q
by_only c q (inl x) = x
by_only c q (inr x) = absurd x.1

-- the matrix read the other way
abbrev dual : Kind → Kind
dual G = H
dual H = G

-- two replies have the same verdict, and plates of the same length with the same profile
record SameProfile (r s : Prepared) : Type 0 where
  verdict : r.verdict ≡ s.verdict
  length_n : r.plate.n ≡ s.plate.n
  profile : r.plate.profile ≡ s.plate.profile

-- equal replies have all of it alike
same-reply : (r s : Prepared) → r ≡ s → SameProfile r s
same-reply r s e = record {
  verdict = ap (λ (x : Prepared). x.verdict) e;
  length_n = ap (λ (x : Prepared). x.plate.n) e;
  profile = ap (λ (x : Prepared). x.plate.profile) e;
}

-- the plate rows of a code
record Plated (C : ℕ → Type 0) : Type 0 where
  rows : List ℕ
  plate : RowsOf C rows (firsts rows) (lasts rows)

module _ (n : ℕ) (matrix : List ℕ) where
  -- the conditions of refusals 1 to 3 and 23, which do not ask whether the matrix is G or H, and that of 4, which does
  abbrev early : List (Refusal → Type 0)
  early = bad_length n ∷ too_many_rows matrix ∷ RowOver n matrix ∷ mask_beyond n 0 ∷ []

  abbrev wide : Kind → Refusal → Type 0
  wide kind = Wide (InCode kind n matrix) n

  -- what preparing may reply
  abbrev Reply : Kind → Plate → Result (Unit {0}) Refusal → Type 0
  Reply kind = PreparesAs (prepare_conditions n kind matrix 0) (InCode kind n matrix) n 0

  -- past refusal 3 each row is below 2 ^ n
  below : Passes early → (j : ℕ) → j < length matrix → get_or matrix j 0 < 2 ^ n
  below v j = all-below n matrix v.1.1.0 (suc j) j (omega arith)

  -- what passes all conditions passes these
  first_three : (kind : Kind) → Passes (prepare_conditions n kind matrix 0) → Passes early
  first_three kind p = (p.0, (p.1.0, (p.1.1.0, (p.1.1.1.0, tt))))

  -- the profiles are equal, whichever of the two is G
  profiles : Passes early → (kind : Kind) (a b : List ℕ) → RowsOf (InCode kind n matrix) a (firsts a) (lasts a)
      → RowsOf (InCode (dual kind) n matrix) b (firsts b) (lasts b) → (t : ℕ) → t ≤ n → live_at a t ≡ live_at b t
  profiles v G a b p q t h = dual-profiles n matrix (below v) a b p q t h
  profiles v H a b p q t h = sym (dual-profiles n matrix (below v) b a q p t h)

  -- what is accepted has a plate, and so has what is refused with 4
  plated : Passes early → (kind : Kind) (b : Plate) (w : Result (Unit {0}) Refusal) → Reply kind b w → Plated (InCode kind n matrix)
  plated v kind b (Ok _) y = record { rows = rows_of b; plate = y.1.rows }
  plated v kind b (Err q) y = go (by_first early (wide kind ∷ []) q y.0)
    where
      go : ((es : List (Refusal → Type 0)) → Refuses (early ++ es) q) ⊎ (Passes early × Refuses (wide kind ∷ []) q) → Plated (InCode kind n matrix)
      go (inl e) = absurd (never_both early v q (e []))
      go (inr x) = let c : wide kind q = by_only (wide kind) q x.1 in record { rows = c.rows; plate = c.plate }

  -- what refuses the one refuses the other
  refused-both : (kind : Kind) (q : Refusal) (b : Plate) (w : Result (Unit {0}) Refusal) → Refuses (prepare_conditions n kind matrix 0) q → Reply (dual kind) b w
      → Refuses (prepare_conditions n (dual kind) matrix 0) q
  refused-both kind q b w r y = go (by_first early (wide kind ∷ []) q r)
    where
      go : ((es : List (Refusal → Type 0)) → Refuses (early ++ es) q) ⊎ (Passes early × Refuses (wide kind ∷ []) q)
          → Refuses (prepare_conditions n (dual kind) matrix 0) q
      go (inl e) = e (wide (dual kind) ∷ [])
      go (inr x) =
          let c : wide kind q = by_only (wide kind) q x.1 in
          let d : Plated (InCode (dual kind) n matrix) = plated x.0 (dual kind) b w y in
          inr (
            x.0.0,
            inr (
              x.0.1.0,
              inr (
                x.0.1.1.0,
                inr (
                  x.0.1.1.1.0,
                  inl (record {
                    rows = d.rows;
                    plate = d.plate;
                    depth = c.depth;
                    within = c.within;
                    over = omega (arith, c.over, profiles x.0 kind c.rows d.rows c.plate d.plate c.depth c.within);
                    first = λ t h. omega (arith, c.first t h, profiles x.0 kind c.rows d.rows c.plate d.plate t (omega (arith, c.within)));
                    is = c.is;
                  }),
                ),
              ),
            ),
          )

  -- the two replies by their cases; where one is refused they are equal
  by_cases : (a b : Plate) (v w : Result (Unit {0}) Refusal) → Reply G a v → Reply H b w → SameProfile (record { verdict = v; plate = a }) (record { verdict = w; plate = b })
  by_cases a b (Ok _) (Ok _) x y = record {
    verdict = refl;
    length_n = x.1.length_n ∙ sym y.1.length_n;
    profile = ext_get_or 0 a.profile b.profile (x.1.entries ∙ sym y.1.entries) (λ t h. entry t (dec_lt n t));
  }
    where
      entry : (t : ℕ) → Dec (n < t) → get_or a.profile t 0 ≡ get_or b.profile t 0
      entry t (yes h) = x.1.unused_entries t h ∙ sym (y.1.unused_entries t h)
      entry t (no h) =
          let l : t ≤ n = omega arith in
          x.1.profile t l ∙ profiles (first_three G x.0) G (rows_of a) (rows_of b) x.1.rows y.1.rows t l ∙ sym (y.1.profile t l)
  by_cases a b (Ok _) (Err q) x y =
      same-reply _ _ (prepare-determined n G matrix 0 (record { verdict = Ok tt; plate = a }) (record { verdict = Err q; plate = b })
      (record { reply = x }) (record { reply = (refused-both H q a (Ok tt) y.0 x, y.1) }))
  by_cases a b (Err q) w x y =
      same-reply _ _ (prepare-determined n H matrix 0 (record { verdict = Err q; plate = a }) (record { verdict = w; plate = b })
      (record { reply = (refused-both G q b w x.0 y, x.1) }) (record { reply = y }))

  -- accepted, or refused with 4
  abbrev OrWide : Result (Unit {0}) Refusal → Type 0
  OrWide v = (v ≡ Ok tt) ⊎ ((d : ℕ) × (v ≡ Err (TooWide d)))

  -- past the first four conditions a matrix is accepted or refused with 4
  accepted-or-wide : Passes early → (kind : Kind) (a : Plate) (v : Result (Unit {0}) Refusal) → Reply kind a v → OrWide v
  accepted-or-wide p kind a (Ok _) x = inl refl
  accepted-or-wide p kind a (Err q) x = go (by_first early (wide kind ∷ []) q x.0)
    where
      go : ((es : List (Refusal → Type 0)) → Refuses (early ++ es) q) ⊎ (Passes early × Refuses (wide kind ∷ []) q) → OrWide (Err q)
      go (inl e) = absurd (never_both early p q (e []))
      go (inr z) = let c : wide kind q = by_only (wide kind) q z.1 in inr (c.depth, ap Err c.is)

  -- refusal 4 is by none of the first four conditions
  not-early : (d : ℕ) → Refuses early (TooWide d) → ⊥
  not-early d (inl c) = omega (arith, ap number c.1)
  not-early d (inr x) = second x.1
    where
      second : Refuses (too_many_rows matrix ∷ RowOver n matrix ∷ mask_beyond n 0 ∷ []) (TooWide d) → ⊥
      second (inl c) = omega (arith, ap number c.1)
      second (inr z) = third z.1
        where
          third : Refuses (RowOver n matrix ∷ mask_beyond n 0 ∷ []) (TooWide d) → ⊥
          third (inl c) = omega (arith, ap number c.is)
          third (inr y) = omega (arith, ap number (by_only (mask_beyond n 0) (TooWide d) y.1).1)

  -- the place of refusal 4 is the first depth over 12 of the code's plate
  refused-at : (kind : Kind) (d : ℕ) (a : Plate) (v : Result (Unit {0}) Refusal) → Reply kind a v → v ≡ Err (TooWide d) → TooWideAt (InCode kind n matrix) n d
  refused-at kind d a v x e = go (by_first early (wide kind ∷ []) (TooWide d) (subst (Reply kind a) e x).0)
    where
      found : wide kind (TooWide d) → TooWideAt (InCode kind n matrix) n d
      found c =
          let first : FirstWide c.rows n c.depth = record { within = c.within; over = c.over; earlier = c.first } in record {
            rows = c.rows;
            plate = c.plate;
            first = subst (FirstWide c.rows n) (sym (ap place c.is)) first;
          }

      go : ((es : List (Refusal → Type 0)) → Refuses (early ++ es) (TooWide d)) ⊎ (Passes early × Refuses (wide kind ∷ []) (TooWide d))
          → TooWideAt (InCode kind n matrix) n d
      go (inl f) = absurd (not-early d (f []))
      go (inr z) = found (by_only (wide kind) (TooWide d) z.1)

  -- ---- preparing the same matrix as G and as H
  module _ (r s : Prepared) (x : Prepares n G matrix 0 r) (y : Prepares n H matrix 0 s) where
    -- what the next three say, together
    both : SameProfile r s
    both = by_cases r.plate s.plate r.verdict s.verdict x.reply y.reply

    -- both are accepted, or both refused, with the same refusal
    pub same-verdict : r.verdict ≡ s.verdict
    same-verdict = both.verdict

    -- the profiles are equal
    pub same_profile : r.plate.profile ≡ s.plate.profile
    same_profile = both.profile

    -- the plates have the same length
    pub same_length : r.plate.n ≡ s.plate.n
    same_length = both.length_n

    -- a valid matrix is accepted both times, or refused with 4 both times, at the same depth
    pub accepted-or-refused-both : 1 ≤ n → n ≤ 64 → length matrix ≤ 64 → ((j : ℕ) → j < length matrix → get_or matrix j 0 < 2 ^ n)
        → ((r.verdict ≡ Ok tt) × (s.verdict ≡ Ok tt)) ⊎ ((d : ℕ) × (r.verdict ≡ Err (TooWide d)) × (s.verdict ≡ Err (TooWide d)))
    accepted-or-refused-both positive short few low = go (accepted-or-wide valid G r.plate r.verdict x.reply)
      where
        bad : (n ≡ 0) ⊎ (64 < n) → ⊥
        bad (inl e) = omega arith
        bad (inr h) = omega arith

        valid : Passes early
        valid = ((λ q c. bad c.0), ((λ q c. omega (arith, c.0)), ((λ q c. omega (arith, low c.row c.there, c.over)), ((λ q c. omega (arith, c.0, pow_pos n)), tt))))

        go : (r.verdict ≡ Ok tt) ⊎ ((d : ℕ) × (r.verdict ≡ Err (TooWide d)))
            → ((r.verdict ≡ Ok tt) × (s.verdict ≡ Ok tt)) ⊎ ((d : ℕ) × (r.verdict ≡ Err (TooWide d)) × (s.verdict ≡ Err (TooWide d)))
        go (inl e) = inl (e, sym same-verdict ∙ e)
        go (inr e) = inr (e.0, e.1, sym same-verdict ∙ e.1)

    -- where they are accepted, k of the one and k of the other are n
    pub dimensions-together : r.verdict ≡ Ok tt → r.plate.k + s.plate.k ≡ n
    dimensions-together e =
        let g = accepted n G matrix 0 r x e in
        let h = accepted n H matrix 0 s y (sym same-verdict ∙ e) in
        omega (
          arith,
          dual-dimensions n matrix (below (first_three G g.0)) (rows_of r.plate) (rows_of s.plate) g.1.rows h.1.rows,
          used-rows r.plate g.1.few g.1.table,
          used-rows s.plate h.1.few h.1.table,
        )

    -- where the one is refused with 4 at a depth, so is the other, and that is the first depth at which each of the two plates is too wide
    pub refused-at-same-depth : (d : ℕ) → r.verdict ≡ Err (TooWide d)
        → (s.verdict ≡ Err (TooWide d)) × TooWideAt (InCode G n matrix) n d × TooWideAt (InCode H n matrix) n d
    refused-at-same-depth d e =
        let f : s.verdict ≡ Err (TooWide d) = sym same-verdict ∙ e in
        (f, refused-at G d r.plate r.verdict x.reply e, refused-at H d s.plate s.verdict y.reply f)
