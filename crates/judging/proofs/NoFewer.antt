-- A right listing has at least our states at each depth, and at least our branches in each section, of those on full paths.
use lib.Bits.{bit_xor, differ, xor_comm, xor_zero_r}
use lib.ListN.{get_or, length}
use mathlib.Core.List.{List}
use mathlib.Core.Path.{ap, refl, subst, sym, ◌∙◌, ◌≡◌}
use native.Mathlib.Decide.{dec_lt}
use native.Mathlib.Omega.{arith}
use Prim.Native.Nat.{◌*◌, ◌+◌, ◌<◌, ◌^◌, suc, suc-le-suc, ℕ, ◌≤◌}
use Rattle.plates.proofs.Live.{live_is}
use Rattle.plates.specs.Code.{Masked}
use Rattle.plates.specs.Profile.{live}
use Rattle.trellises.proofs.Active.{active-is}
use Rattle.trellises.proofs.Gluing.{splice-below, splice-high, splice-low, spliced}
use Rattle.trellises.proofs.MaskedGraph.{xor-twice}
use Rattle.trellises.specs.Beginnings.{splice}
use Rattle.trellises.specs.Graph.{Graph, Path, Spells}
use Rattle.trellises.specs.States.{active}
use Rattle.words.proofs.Choice.{spread-injective}
use Rattle.words.proofs.Pigeonhole.{pigeonhole}
use Rattle.words.proofs.Span.{cut}
use Rattle.words.proofs.Sums.{in-xor}
use Rattle.words.proofs.Word.{bit-lt, bit-xor, differ_self, xor_assoc, xor-cancel, xor-four, xor_self}
use Rattle.words.specs.Choice.{count, spread}
use Rattle.words.specs.Span.{Spans}
use Rattle.words.specs.Sum.{IsSum, sum_of}
use Rattle.words.specs.Word.{bit}
use Rattle.judging.specs.Surplus.{BranchOn, Number, StateOn}

-- a list has a place for each number of different values
pub fits : (P : ℕ → Type 0) (c m : ℕ) → Number P c → (value : ℕ → ℕ) → ((i : ℕ) → i < m → P (value i)) → ((i j : ℕ) → i < m → j < m → value i ≡ value j → i ≡ j) → m ≤ c
fits P c m r value on apart = pigeonhole m c (λ i. place i (dec_lt i m)) (λ i l. below i (dec_lt i m) l) (λ i j l k e. same i j l k (dec_lt i m) (dec_lt j m) e)
  where
    place : (i : ℕ) → Dec (i < m) → ℕ
    place i (yes l) = (r.all (value i) (on i l)).0
    place i (no d) = 0

    below : (i : ℕ) (d : Dec (i < m)) → i < m → place i d < c
    below i (yes l) h = (r.all (value i) (on i l)).1
    below i (no d) h = absurd (d h)

    same : (i j : ℕ) → i < m → j < m → (d : Dec (i < m)) (f : Dec (j < m)) → place i d ≡ place j f → i ≡ j
    same i j l k (yes d) (yes f) e =
        apart i j l k (sym (r.all (value i) (on i d)).2 ∙ ap (λ (x : ℕ). get_or r.list x 0) e ∙ (r.all (value j) (on j f)).2)
    same i j l k (no d) f e = absurd (d l)
    same i j l k (yes d) (no f) e = absurd (f k)

module _ (g : Graph) (n : ℕ) (rows : List ℕ) (mask : ℕ) (f l : ℕ → ℕ) (s : Spans rows f l) (r : Spells g n (Masked (IsSum rows) mask)) where
  -- the word of a choice of rows
  abbrev word_of : ℕ → ℕ
  word_of x = bit_xor (sum_of rows x) mask

  code : (x : ℕ) → IsSum rows (bit_xor (bit_xor (sum_of rows x) mask) mask)
  code x = record { by = x; sum = sym (xor-twice (sum_of rows x) mask) }

  word : (x : ℕ) → (bit_xor (sum_of rows x) mask < 2 ^ n) × Path g n (bit_xor (sum_of rows x) mask)
  word x = (r.exact (bit_xor (sum_of rows x) mask)).0 (code x)

  -- the mask is gone from a sum of two words
  unmasked : (a b : ℕ) → bit_xor (bit_xor a mask) (bit_xor b mask) ≡ bit_xor a b
  unmasked a b = xor-four a mask b mask ∙ ap (bit_xor (bit_xor a b)) (xor_self mask) ∙ xor_zero_r (bit_xor a b)

  -- two sums whose paths meet at depth t, and whose words agree from there to q, agree on each row across the two
  meet : (t q x y : ℕ) → t ≤ n → (word x).1.state t ≡ (word y).1.state t → ((i : ℕ) → t ≤ i → i < q → bit (word_of x) i ≡ bit (word_of y) i)
      → (j : ℕ) → j < length rows → f j < q → t ≤ l j → bit x j ≡ bit y j
  meet t q x y h e more =
      let X : ℕ = word_of x in
      let Y : ℕ = word_of y in
      let Z : ℕ = splice t (word_of x) (word_of y) in
      let z : IsSum rows (bit_xor Z mask) = (r.exact Z).1 (splice-below n t X Y h (word y).0, spliced g n t X Y (word x).1 (word y).1 e) in
      cut rows f l s x y (bit_xor Z Y) (bit_xor X Z) t q
      (sym (xor_comm (bit_xor Z Y) (bit_xor X Z) ∙ xor_assoc X Z (bit_xor Z Y) ∙ ap (bit_xor X) (xor-cancel Z Y) ∙ unmasked (sum_of rows x) (sum_of rows y)))
      (subst (IsSum rows) (unmasked Z Y) (in-xor z (code y))) (subst (IsSum rows) (unmasked X Z) (in-xor (code x) z))
      (λ i m. bit-xor i Z Y ∙ ap (λ (b : ℕ). differ b (bit Y i)) (splice-high t X Y i m) ∙ differ_self (bit Y i))
      (λ i m. bit-xor i X Z ∙ ap (differ (bit X i)) (low i m (dec_lt i t)) ∙ differ_self (bit X i))
    where
      low : (i : ℕ) → i < q → Dec (i < t) → bit (splice t (word_of x) (word_of y)) i ≡ bit (word_of x) i
      low i m (yes d) = splice-low t (word_of x) (word_of y) i d
      low i m (no d) = splice-high t (word_of x) (word_of y) i (omega arith) ∙ sym (more i (omega arith) m)

  -- no fewer states than 2 ^ (number of rows live at t)
  pub no-fewer-states : (t c : ℕ) → t ≤ n → Number (StateOn g n t) c → 2 ^ count (length rows) (live f l t) ≤ c
  no-fewer-states t c h k =
      fits (StateOn g n t) c (2 ^ count (length rows) (live f l t)) k (λ v. (word (spread (length rows) (live f l t) v)).1.state t)
      (λ v m. record { word = word_of (spread (length rows) (live f l t) v); path = (word (spread (length rows) (live f l t) v)).1; here = refl })
      (λ v w d e q. spread-injective (length rows) (live f l t) v w d e
      (λ j m a. meet t t (spread (length rows) (live f l t) v) (spread (length rows) (live f l t) w) h q (λ i p o. absurd (omega arith)) j m (live_is f l t j a).0 (live_is f l t j a).1))

  -- and no fewer branches than 2 ^ (number of rows active in section t)
  pub no-fewer-branches : (t c : ℕ) → t < n → Number (BranchOn g n t) c → 2 ^ count (length rows) (active f l t) ≤ c
  no-fewer-branches t c h k =
      fits (BranchOn g n t) c (2 ^ count (length rows) (active f l t)) k (λ v. (word (spread (length rows) (active f l t) v)).1.state t * 2 + bit (word_of (spread (length rows) (active f l t) v)) t)
      (λ v m. record { word = word_of (spread (length rows) (active f l t) v); path = (word (spread (length rows) (active f l t) v)).1; here = refl })
      (λ v w d e q. spread-injective (length rows) (active f l t) v w d e
      (λ j m a. meet t (suc t) (spread (length rows) (active f l t) v) (spread (length rows) (active f l t) w) (omega arith) (same_from _ _ q) (same_out _ _ q) j m
      (suc-le-suc (active-is f l t j a).0) (active-is f l t j a).1))
    where
      same_from : (x y : ℕ) → (word x).1.state t * 2 + bit (word_of x) t ≡ (word y).1.state t * 2 + bit (word_of y) t → (word x).1.state t ≡ (word y).1.state t
      same_from x y q = omega (arith, q, bit-lt t (word_of x), bit-lt t (word_of y))

      same_out : (x y : ℕ) → (word x).1.state t * 2 + bit (word_of x) t ≡ (word y).1.state t * 2 + bit (word_of y) t
          → (i : ℕ) → t ≤ i → i < suc t → bit (word_of x) i ≡ bit (word_of y) i
      same_out x y q i m o =
          let e : t ≡ i = omega arith in
          let b : bit (word_of x) t ≡ bit (word_of y) t = omega (arith, q, bit-lt t (word_of x), bit-lt t (word_of y)) in
          subst (λ (i : ℕ). bit (word_of x) i ≡ bit (word_of y) i) e b
