-- A graph and the one that a mask makes of it: the same states, a path for each path, and so the words that the mask makes of those spelled.
use lib.Bits.{bit_xor, differ, xor_comm, xor_lt}
use lib.ListN.{get_or, length}
use mathlib.Core.List.{List, [], ◌∷◌}
use mathlib.Core.Path.{ap, refl, subst, sym, ◌∙◌, ◌≡◌}
use native.Mathlib.Omega.{arith}
use Prim.Native.Nat.{◌<◌, ◌^◌, suc, zero, ℕ, ◌≤◌}
use Rattle.plates.specs.Code.{Masked}
use Rattle.trellises.specs.Graph.{Branch, Graph, Has, Path, Spells, branch_at, no_branch}
use Rattle.trellises.specs.Masking.{masked, turned, turned_all, turned_branch}
use Rattle.trellises.specs.Smallest.{Different, HasAll, Proper, SamePath, Smallest}
use Rattle.words.proofs.Word.{bit-lt, bit-xor, xor-cancel}
use Rattle.words.specs.Word.{bit}

-- ---- bits turned

-- what is turned twice is as it was
pub turned-twice : (d b : ℕ) → turned d (turned d b) ≡ b
turned-twice zero b = refl
turned-twice (suc d) zero = refl
turned-twice (suc d) (suc zero) = refl
turned-twice (suc d) (suc (suc b)) = refl

-- turning a bit adds to it modulo 2
pub turned-differ : (d b : ℕ) → d < 2 → b < 2 → turned d b ≡ differ b d
turned-differ zero zero h l = refl
turned-differ zero (suc zero) h l = refl
turned-differ (suc zero) zero h l = refl
turned-differ (suc zero) (suc zero) h l = refl
turned-differ (suc (suc d)) b h l = absurd (omega arith)
turned-differ zero (suc (suc b)) h l = absurd (omega arith)
turned-differ (suc zero) (suc (suc b)) h l = absurd (omega arith)

-- a bit turned is a bit
pub turned-digit : (d b : ℕ) → b ≤ 1 → turned d b < 2
turned-digit zero b h = omega arith
turned-digit (suc d) zero h = omega arith
turned-digit (suc d) (suc zero) h = omega arith
turned-digit (suc d) (suc (suc b)) h = absurd (omega arith)

-- which is their sum, as numbers too
pub turned-xor : (d b : ℕ) → d < 2 → b ≤ 1 → turned d b ≡ bit_xor b d
turned-xor zero zero h l = refl
turned-xor zero (suc zero) h l = refl
turned-xor (suc zero) zero h l = refl
turned-xor (suc zero) (suc zero) h l = refl
turned-xor (suc (suc d)) b h l = absurd (omega arith)
turned-xor zero (suc (suc b)) h l = absurd (omega arith)
turned-xor (suc zero) (suc (suc b)) h l = absurd (omega arith)

-- a word's bits turned by the mask's are the bits of their sum
pub turned_bit : (mask w t : ℕ) → turned (bit mask t) (bit w t) ≡ bit (bit_xor w mask) t
turned_bit mask w t = turned-differ (bit mask t) (bit w t) (bit-lt t mask) (bit-lt t w) ∙ sym (bit-xor t w mask)

-- a mask added twice
pub xor-twice : (w mask : ℕ) → bit_xor (bit_xor w mask) mask ≡ w
xor-twice w mask = xor_comm (bit_xor w mask) mask ∙ ap (bit_xor mask) (xor_comm w mask) ∙ xor-cancel mask w

-- ---- branches turned

pub turned-length : (d : ℕ) (bs : List Branch) → length (turned_all d bs) ≡ length bs
turned-length d [] = refl
turned-length d (b ∷ bs) = ap suc (turned-length d bs)

turned-at : (d : ℕ) (bs : List Branch) (i : ℕ) → i < length bs → get_or (turned_all d bs) i no_branch ≡ turned_branch d (get_or bs i no_branch)
turned-at d [] i h = absurd (omega arith)
turned-at d (b ∷ bs) zero h = refl
turned-at d (b ∷ bs) (suc i) h = turned-at d bs i (omega arith)

branch-twice : (d : ℕ) (b : Branch) → turned_branch d (turned_branch d b) ≡ b
branch-twice d b = ap (λ (x : ℕ). record { from = b.from; out = x; to = b.to }) (turned-twice d b.out)

module _ (mask : ℕ) (g : Graph) where
  -- as many branches in each section
  pub masked-branches : (t : ℕ) → length ((masked mask g).branches t) ≡ length (g.branches t)
  masked-branches t = turned-length (bit mask t) (g.branches t)

  -- the branch at a place
  pub masked-branch : (t i : ℕ) → i < length (g.branches t) → branch_at (masked mask g) t i ≡ turned_branch (bit mask t) (branch_at g t i)
  masked-branch t i h = turned-at (bit mask t) (g.branches t) i h

  -- a branch with a bit is one with the turned bit
  abbrev pub has_on : {t a b c : ℕ} → Has g t a b c → Has (masked mask g) t a (turned (bit mask t) b) c
  has_on {t} {a} {b} {c} h = record {
    place = h.place;
    there = omega (arith, h.there, masked-branches t);
    leaves = ap (λ (x : Branch). x.from) (masked-branch t h.place h.there) ∙ h.leaves;
    spells = ap (λ (x : Branch). x.out) (masked-branch t h.place h.there) ∙ ap (turned (bit mask t)) h.spells;
    leads = ap (λ (x : Branch). x.to) (masked-branch t h.place h.there) ∙ h.leads;
  }

  -- and back
  abbrev pub has-off : {t a b c : ℕ} → Has (masked mask g) t a b c → Has g t a (turned (bit mask t) b) c
  has-off {t} {a} {b} {c} h =
      let l : h.place < length (g.branches t) = omega (arith, h.there, masked-branches t) in
      let e : branch_at (masked mask g) t h.place ≡ turned_branch (bit mask t) (branch_at g t h.place) = masked-branch t h.place l in record {
        place = h.place;
        there = l;
        leaves = sym (ap (λ (x : Branch). x.from) e) ∙ h.leaves;
        spells = sym (turned-twice (bit mask t) (branch_at g t h.place).out)
            ∙ ap (turned (bit mask t)) (sym (ap (λ (x : Branch). x.out) e) ∙ h.spells);
        leads = sym (ap (λ (x : Branch). x.to) e) ∙ h.leads;
      }

  -- ---- paths

  -- a branch with a word's bit, under another name of the bit
  abbrev renamed : {h : Graph} {t a b b' c : ℕ} → b ≡ b' → Has h t a b c → Has h t a b' c
  renamed e x = record { place = x.place; there = x.there; leaves = x.leaves; spells = x.spells ∙ e; leads = x.leads }

  -- a path that spells a word is one that spells the word plus mask, through the same states
  abbrev pub path-on : {n w : ℕ} → Path g n w → Path (masked mask g) n (bit_xor w mask)
  path-on {n} {w} p = record { state = p.state; inside = p.inside; branch = λ t h. renamed (turned_bit mask w t) (has_on (p.branch t h)) }

  abbrev pub path-off : {n w : ℕ} → Path (masked mask g) n w → Path g n (bit_xor w mask)
  path-off {n} {w} p = record { state = p.state; inside = p.inside; branch = λ t h. renamed (turned_bit mask w t) (has-off (p.branch t h)) }

  -- where a word has one path, the word plus mask has one
  pub once-masked : {n w : ℕ} → ((p q : Path g n (bit_xor w mask)) → SamePath g n (bit_xor w mask) p q)
      → (p q : Path (masked mask g) n w) → SamePath (masked mask g) n w p q
  once-masked once p q = let s = once (path-off p) (path-off q) in record { branches = s.branches; states = s.states }

  -- ---- what the paths spell

  -- the words that the mask makes of those that the graph spells
  pub spells-masked : {n : ℕ} {C : ℕ → Type 0} → mask < 2 ^ n → Spells g n C → Spells (masked mask g) n (Masked C mask)
  spells-masked {n} {C} short s = record {
    start = s.start;
    end = s.end;
    exact = λ w. (
      (λ c. let x = (s.exact (bit_xor w mask)).0 c in (
        subst (λ (v : ℕ). v < 2 ^ n) (xor-twice w mask) (xor_lt n (bit_xor w mask) mask x.0 short),
        subst (Path (masked mask g) n) (xor-twice w mask) (path-on x.1),
      )),
      λ x. (s.exact (bit_xor w mask)).1 (xor_lt n w mask x.0 short, path-off x.1),
    );
  }

  -- a graph that spells the words that the mask makes of a code becomes one that spells the code
  pub spells-code : {n : ℕ} {C : ℕ → Type 0} → mask < 2 ^ n → Spells g n (Masked C mask) → Spells (masked mask g) n C
  spells-code {n} {C} short s =
      let m = spells-masked short s in record {
        start = m.start;
        end = m.end;
        exact = λ w. ((λ c. (m.exact w).0 (subst C (sym (xor-twice w mask)) c)), λ x. subst C (xor-twice w mask) ((m.exact w).1 x));
      }

  -- all branches different, all branches in a list
  pub different-masked : (t : ℕ) → Different g t → Different (masked mask g) t
  different-masked t d i j h k e =
      let h' : i < length (g.branches t) = omega (arith, h, masked-branches t) in
      let k' : j < length (g.branches t) = omega (arith, k, masked-branches t) in
      d i j h' k'
      (sym (branch-twice (bit mask t) (branch_at g t i))
      ∙ ap (turned_branch (bit mask t)) (sym (masked-branch t i h') ∙ e ∙ masked-branch t j k') ∙ branch-twice (bit mask t) (branch_at g t j))

  all-masked : (t : ℕ) (once : List Branch) → HasAll g t once → HasAll (masked mask g) t (turned_all (bit mask t) once)
  all-masked t once all i h =
      let h' : i < length (g.branches t) = omega (arith, h, masked-branches t) in
      let x = all i h' in (
        x.0,
        omega (arith, x.1, turned-length (bit mask t) once),
        turned-at (bit mask t) once x.0 x.1 ∙ ap (turned_branch (bit mask t)) x.2 ∙ sym (masked-branch t i h'),
      )

-- ---- the smallest graph of a code becomes the smallest of the words that a mask makes of it

pub smallest-masked : (mask : ℕ) (g : Graph) {n : ℕ} {C : ℕ → Type 0} → mask < 2 ^ n → Smallest g n C → Smallest (masked mask g) n (Masked C mask)
smallest-masked mask g {n} {C} short s = record {
  spells = spells-masked mask g short s.spells;
  once = λ w p q. once-masked mask g (s.once (bit_xor w mask)) p q;
  different = λ t. different-masked mask g t (s.different t);
  states_least = λ other r. s.states_least (masked mask other) (spells-code mask other short r);
  branches_least = λ other r t h once all.
      omega (
        arith,
        s.branches_least (masked mask other) (spells-code mask other short r) t h (turned_all (bit mask t) once) (all-masked mask other t once all),
        masked-branches mask g t,
        turned-length (bit mask t) once,
      );
}

pub proper-masked : (mask : ℕ) (g : Graph) {n : ℕ} → Proper g n → Proper (masked mask g) n
proper-masked mask g {n} s = record {
  root = s.root;
  state_used = λ t a h k. let x = s.state_used t a h k in (bit_xor x.0 mask, path-on mask g x.1, x.2);
  branch_used = λ t i h k. let x = s.branch_used t i h (omega (arith, k, masked-branches mask g t)) in (bit_xor x.0 mask, path-on mask g x.1, x.2);
  parted = λ t i j h k e f.
      let h' : i < length (g.branches t) = omega (arith, h, masked-branches mask g t) in
      let k' : j < length (g.branches t) = omega (arith, k, masked-branches mask g t) in
      let a = masked-branch mask g t i h' in
      let b = masked-branch mask g t j k' in
      s.parted t i j h' k' (sym (ap (λ (x : Branch). x.from) a) ∙ e ∙ ap (λ (x : Branch). x.from) b)
      (sym (turned-twice (bit mask t) (branch_at g t i).out)
      ∙ ap (turned (bit mask t)) (sym (ap (λ (x : Branch). x.out) a) ∙ f ∙ ap (λ (x : Branch). x.out) b)
      ∙ turned-twice (bit mask t) (branch_at g t j).out);
}
