-- The numbers of a line put into a table one by one.
use lib.Dec.{eqb}
use lib.ListN.{drop, length, length-replicate, length-set, replicate, set, take}
use lib.Seq.{sets, sets-eq, take-append_seam}
use mathlib.Core.Bool.{Bool, cond, false, true}
use mathlib.Core.List.{◌++◌, List, [], ◌∷◌}
use mathlib.Core.Path.{◌≡◌, ap, refl, sym, ◌∙◌}
use native.Mathlib.Numerals.{add-one}
use native.Mathlib.Omega.{arith}
use Prim.Native.Nat.{◌+◌, ◌-◌, ◌<◌, suc, zero, ℕ, ◌≤◌}
use Rattle.std.proofs.Common.{Err, None, Option, Result, Some}
use Rattle.std.specs.Option.{ok_or}
use Rattle.plates.specs.declared.Refusal.{Refusal}
use Rattle.alists.specs.Lines.{Found, Line, before, faulty, feed_of, found, further, line_of, next_of, nothing, number_of, reads, rest_of}
use Rattle.alists.specs.Lists.{largest}
use borrow.Author.Tests.{eq-eqb, eqb-true, ne_eqb}
use Rattle.alists.specs.Working.{ReadsLine, Stored, StoredAs, met, stored}

-- the refusal in place of nothing
pub refused-for : {T : Type 0} {o : Option T} {e q : Refusal} → o ≡ None → ◌≡◌ {A = Result T Refusal} (Err e) (ok_or o q) → e ≡ q
refused-for {T} {o} {e} {q} n v = let w : ◌≡◌ {A = Result T Refusal} (Err e) (Err q) = rw n at v in cc

-- a number before others is put before them
pub stored-before : (table : List ℕ) (i v : ℕ) (l : Line) → stored table i (before v l) ≡ stored (set table i v) (suc i) l
stored-before table i v (reads vs s) = refl
stored-before table i v faulty = refl

-- the line's end: nothing more is put
pub feed-stores : {l : Line} {text : List ℕ} (table : List ℕ) (i : ℕ) (r : Option ℕ) → ReadsLine l [] text r → StoredAs (stored table i l) text table r
feed-stores table i (Some next) p = (rw p.is.0, p.is.1)
feed-stores table i None p = rw p.is

-- from number i on, at a place, the rest of the line is put as the whole
pub record Storing (text : List ℕ) (count at i : ℕ) (table : List ℕ) (whole : Stored) (size₀ : ℕ) : Type 0 where
  pub high : i ≤ count
  pub place : at ≤ length text
  pub size : length table ≡ size₀
  pub stands : stored table i (rest_of (count - i) (drop at text)) ≡ whole

module _ {text : List ℕ} {count at i : ℕ} {table : List ℕ} {whole : Stored} {size₀ : ℕ} where
  -- one number more
  pub storing-on : (v next : ℕ) → i < count → next_of (drop at text) ≡ found v (drop next text) → next ≤ length text
      → Storing text count at i table whole size₀ → Storing text count next (i + 1) (set table i v) whole size₀
  storing-on v next h e p s =
      let k : count - i ≡ suc (count - suc i) = omega arith in
      record {
        high = omega arith;
        place = p;
        size = length-set table i v ∙ s.size;
        stands = rw add-one (sym (stored-before table i v (rest_of (count - suc i) (drop next text))) ∙ rw (k, e) at s.stands);
      }

  -- none where one is to be
  pub storing-bad : i < count → next_of (drop at text) ≡ nothing → Storing text count at i table whole size₀ → whole ≡ None
  storing-bad h e s =
      let k : count - i ≡ suc (count - suc i) = omega arith in
      sym s.stands ∙ rw (k, e)

  -- all are put
  pub storing-end : count ≤ i → (r : Option ℕ) → ReadsLine (feed_of (drop at text)) [] text r
      → Storing text count at i table whole size₀ → StoredAs whole text table r
  storing-end h r p s =
      let k : count - i ≡ 0 = omega arith in
      let e = rw k at s.stands in
      rw (← e) (feed-stores table i r p)

pub storing-start : (text : List ℕ) (count at i : ℕ) (table : List ℕ) → i ≤ count → at ≤ length text
    → Storing text count at i table (stored table i (rest_of (count - i) (drop at text))) (length table)
storing-start text count at i table h p = record { high = h; place = p; size = refl; stands = refl }

-- ---- a whole line

module _ (table : List ℕ) (count : ℕ) (s : List ℕ) where
  -- the first number, then the rest
  pub first-stored : (v : ℕ) (rest : List ℕ) → 0 < count → number_of s ≡ found v rest
      → stored table 0 (line_of count s) ≡ stored (set table 0 v) 1 (rest_of (count - 1) rest)
  first-stored v rest h e = go count h
    where
      go : (n : ℕ) → 0 < n → stored table 0 (line_of n s) ≡ stored (set table 0 v) 1 (rest_of (n - 1) rest)
      go zero z = absurd (omega arith)
      go (suc n) z = let k : suc n - 1 ≡ n = omega arith in rw (e, k) (stored-before table 0 v (rest_of n rest))

  pub first-lost : 0 < count → number_of s ≡ nothing → stored table 0 (line_of count s) ≡ None
  first-lost h e = go count h
    where
      go : (n : ℕ) → 0 < n → stored table 0 (line_of n s) ≡ None
      go zero z = absurd (omega arith)
      go (suc n) z = rw e

-- ---- what has been put

before-long : (v n : ℕ) (l : Line) → ((vs s : List ℕ) → l ≡ reads vs s → length vs ≡ n) → (vs s : List ℕ) → before v l ≡ reads vs s → length vs ≡ suc n
before-long v n (reads ws t) h vs s e = let k : (v ∷ ws) ≡ vs = cc in rw (← k) (ap suc (h ws t refl))
before-long v n faulty h vs s e = absurd (let z : ◌≡◌ {A = ℕ} 0 1 = cc in omega arith)

further-long : (n : ℕ) (f : Found) (on : List ℕ → Line) → ((t vs s : List ℕ) → on t ≡ reads vs s → length vs ≡ n) → (vs s : List ℕ) → further f on ≡ reads vs s
    → length vs ≡ suc n
further-long n (found v t) on h vs s e = before-long v n (on t) (h t) vs s e
further-long n nothing on h vs s e = absurd (let z : ◌≡◌ {A = ℕ} 0 1 = cc in omega arith)

feed-long : (t vs s : List ℕ) → feed_of t ≡ reads vs s → length vs ≡ 0
feed-long [] vs s e = absurd (let z : ◌≡◌ {A = ℕ} 0 1 = cc in omega arith)
feed-long (x ∷ t) vs s e = go (eqb x 10) e
  where
    go : (b : Bool) → cond b (reads [] t) faulty ≡ reads vs s → length vs ≡ 0
    go true d = let k : [] ≡ vs = cc in rw (← k)
    go false d = absurd (let z : ◌≡◌ {A = ℕ} 0 1 = cc in omega arith)

rest-long : (n : ℕ) (t vs s : List ℕ) → rest_of n t ≡ reads vs s → length vs ≡ n
rest-long zero t vs s e = feed-long t vs s e
rest-long (suc n) t vs s e = further-long n (next_of t) (rest_of n) (rest-long n) vs s e

-- a line has as many numbers as it is to have
pub line-long : (n : ℕ) (t vs s : List ℕ) → line_of n t ≡ reads vs s → length vs ≡ n
line-long zero t vs s e = feed-long t vs s e
line-long (suc n) t vs s e = further-long n (number_of t) (rest_of n) (rest-long n) vs s e

stored-case : (table : List ℕ) (n : ℕ) (l : Line) → ((vs s : List ℕ) → l ≡ reads vs s → length vs ≡ n) → n ≤ length table
    → (table' s : List ℕ) → stored table 0 l ≡ Some (table', s)
    → l ≡ reads (take n table') s
stored-case table n (reads vs t) h f table' s e =
    let l = h vs t refl in
    let p : ◌≡◌ {A = List ℕ × List ℕ} (sets table 0 vs, t) (table', s) = cc in
    let a : sets table 0 vs ≡ table' = ap (λ (q : List ℕ × List ℕ). q.0) p in
    let b : t ≡ s = ap (λ (q : List ℕ × List ℕ). q.1) p in
    let g : sets table 0 vs ≡ vs ++ drop (0 + length vs) table = sets-eq vs table 0 (omega arith) in
    let k : take n table' ≡ vs = rw (← a, g, ← l) (take-append_seam vs (drop (0 + length vs) table)) in
    rw (k, b)
stored-case table n faulty h f table' s e = absurd (let z : ◌≡◌ {A = ℕ} 0 1 = cc in omega arith)

lost-case : (table : List ℕ) (l : Line) → stored table 0 l ≡ None → l ≡ faulty
lost-case table (reads vs t) e = absurd (let z : ◌≡◌ {A = ℕ} 0 1 = cc in omega arith)
lost-case table faulty e = refl

-- the line that a table of zeros then holds at its start
pub line_kept : (n : ℕ) (t : List ℕ) {table' s : List ℕ} → n ≤ 64 → stored (replicate 64 0) 0 (line_of n t) ≡ Some (table', s)
    → line_of n t ≡ reads (take n table') s
line_kept n t {table'} {s} h e =
    stored-case (replicate 64 0) n (line_of n t) (line-long n t) (omega (arith, length-replicate {A = ℕ} 64 0)) table' s e

pub line-lost : (table : List ℕ) (n : ℕ) (t : List ℕ) → stored table 0 (line_of n t) ≡ None → line_of n t ≡ faulty
line-lost table n t e = lost-case table (line_of n t) e

-- the same for any table that is long enough
pub line-kept-in : (table : List ℕ) (n : ℕ) (t : List ℕ) {table' s : List ℕ} → n ≤ length table → stored table 0 (line_of n t) ≡ Some (table', s)
    → line_of n t ≡ reads (take n table') s
line-kept-in table n t {table'} {s} h e = stored-case table n (line_of n t) (line-long n t) h table' s e

-- ---- a line of weights

module _ (most : ℕ) where
  pub met-lost : (table : List ℕ) (l : Line) → stored table 0 l ≡ None → stored table 0 (met most l) ≡ None
  met-lost table (reads ws s) e = absurd (let z : ◌≡◌ {A = ℕ} 0 1 = cc in omega arith)
  met-lost table faulty e = refl

  pub met-unmet : (table : List ℕ) {l : Line} (ws s : List ℕ) → l ≡ reads ws s → (largest ws ≡ most → ⊥) → stored table 0 (met most l) ≡ None
  met-unmet table ws s e h = rw (e, ne_eqb (largest ws) most h)

  pub met-same : {l : Line} (ws s : List ℕ) → l ≡ reads ws s → largest ws ≡ most → met most l ≡ l
  met-same ws s e h = rw (e, eq-eqb (largest ws) most h)

  met-known : (l : Line) (vs s : List ℕ) → met most l ≡ reads vs s → (l ≡ reads vs s) × (largest vs ≡ most)
  met-known (reads ws t) vs s e = go (eqb (largest ws) most) refl e
    where
      go : (b : Bool) → eqb (largest ws) most ≡ b → cond b (reads ws t) faulty ≡ reads vs s → (reads ws t ≡ reads vs s) × (largest vs ≡ most)
      go true k d = let v : ws ≡ vs = cc in (d, rw (← v) (eqb-true (largest ws) most k))
      go false k d = absurd (let z : ◌≡◌ {A = ℕ} 0 1 = cc in omega arith)
  met-known faulty vs s e = absurd (let z : ◌≡◌ {A = ℕ} 0 1 = cc in omega arith)

  -- the weights that a table of zeros then holds at its start
  pub weights-kept : (n : ℕ) (t : List ℕ) {table' s : List ℕ} → n ≤ 64 → stored (replicate 64 0) 0 (met most (line_of n t)) ≡ Some (table', s)
      → (line_of n t ≡ reads (take n table') s) × (largest (take n table') ≡ most)
  weights-kept n t {table'} {s} h e =
      met-known (line_of n t) (take n table') s
      (stored-case (replicate 64 0) n (met most (line_of n t)) (λ vs r d. line-long n t vs r ((met-known (line_of n t) vs r d).0))
      (omega (arith, length-replicate {A = ℕ} 64 0)) table' s e)

  pub weights-lost : (table : List ℕ) (l : Line) → stored table 0 (met most l) ≡ None → met most l ≡ faulty
  weights-lost table l e = lost-case table (met most l) e
