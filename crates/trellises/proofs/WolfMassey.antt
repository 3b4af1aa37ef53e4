-- The states of Massey and of Wolf: two beginnings of words of the plate lead to the same state exactly if they have the same continuations, and,
-- for a parity-check matrix of the code, exactly if they have the same partial syndrome. So the trellis is theirs up to the names of states.
use Rattle.std.proofs.Common.{Ok}
use lib.Bits.{bit_xor, differ, xor_mod, xor_zero_r}
use lib.Dec.{ltb, ltb→lt, lt→ltb}
use lib.ListN.{get_or, length}
use lib.Pow.{mod-pow-add, pow_pos}
use mathlib.Core.List.{List}
use mathlib.Core.Logic.Iff
use mathlib.Core.Logic.{inl, inr, ◌↔◌, ◌⊎◌}
use mathlib.Core.Path.{ap, ap₂, refl, subst, sym, ◌∙◌, ◌≡◌}
use native.Mathlib.Decide.{dec_lt}
use native.Mathlib.Numerals.{add-one}
use native.Mathlib.Omega.{arith}
use Prim.Native.Nat.{◌%◌, ◌*◌, ◌+◌, ◌/◌, ◌<◌, ◌^◌, suc, zero, ℕ, ◌≤◌}
use Rattle.plates.proofs.Live.{is_live, live_is}
use Rattle.plates.specs.Code.{Checked, InCode, Masked}
use Rattle.plates.specs.declared.Kind.{Kind}
use Rattle.plates.specs.declared.Plate.{Plate}
use Rattle.plates.specs.declared.Prepared.{Prepared}
use Rattle.plates.specs.Prepare.{IsPrepared, IsWord, Prepares, rows_of}
use Rattle.plates.specs.Profile.{live}
use Rattle.trellises.proofs.AcceptedIsPrepared.{accepted-code, accepted-length, accepted-prepared}
use Rattle.trellises.proofs.Gluing.{splice-below, splice-high, splice-low}
use Rattle.trellises.proofs.MaskedGraph.{path-off, xor-twice}
use Rattle.trellises.proofs.PathsOnce.{kept-state}
use Rattle.trellises.proofs.PlateTrellis.{plate-kept, plate-spans}
use Rattle.trellises.proofs.WordsTrellis.{accepted-words}
use Rattle.trellises.specs.Beginnings.{SameContinuations, SameSyndrome, beginning, splice, syndrome}
use Rattle.trellises.specs.Branching.{code_trellis, kept_to, trellis_of}
use Rattle.trellises.specs.Graph.{Path}
use Rattle.trellises.specs.States.{state_of}
use Rattle.words.proofs.Choice.{gather-same, gather-shows, spread-gather, spread-zero}
use Rattle.words.proofs.Parity.{differ-mod, parity-comm, parity-xor}
use Rattle.words.proofs.Span.{cut}
use Rattle.words.proofs.Sums.{in-xor, sum-agree, sum-xor, sum-zero}
use Rattle.words.proofs.Word.{bit-ext, bit-xor, bit-zero, differ-eq, differ_self, xor-cancel, xor_self}
use Rattle.words.specs.Choice.{gather, spread}
use Rattle.words.specs.Ends.{firsts}
use Rattle.words.specs.Parity.{parity}
use Rattle.words.specs.Span.{Spans}
use Rattle.words.specs.Sum.{IsSum, sum_of}
use Rattle.words.specs.Word.{bit}

-- ---- sums of spliced words

-- beginnings add up, and so do continuations
splice-xor : (t a b c d : ℕ) → bit_xor (splice t a c) (splice t b d) ≡ splice t (bit_xor a b) (bit_xor c d)
splice-xor t a b c d = bit-ext _ _ (λ i. bit-xor i (splice t a c) (splice t b d) ∙ go i (dec_lt i t))
  where
    go : (i : ℕ) → Dec (i < t) → differ (bit (splice t a c) i) (bit (splice t b d) i) ≡ bit (splice t (bit_xor a b) (bit_xor c d)) i
    go i (yes h) = ap₂ differ (splice-low t a c i h) (splice-low t b d i h) ∙ sym (splice-low t (bit_xor a b) (bit_xor c d) i h ∙ bit-xor i a b)
    go i (no h) =
        let m : t ≤ i = omega arith in
        ap₂ differ (splice-high t a c i m) (splice-high t b d i m) ∙ sym (splice-high t (bit_xor a b) (bit_xor c d) i m ∙ bit-xor i c d)

-- a word with its own continuation
splice-self : (t a : ℕ) → splice t a a ≡ a
splice-self t a = bit-ext _ _ (λ i. go i (dec_lt i t))
  where
    go : (i : ℕ) → Dec (i < t) → bit (splice t a a) i ≡ bit a i
    go i (yes h) = splice-low t a a i h
    go i (no h) = splice-high t a a i (omega arith)

-- the beginning followed by zeros
splice-zero : (t w : ℕ) → splice t w 0 ≡ beginning t w
unfolding splice
splice-zero zero w = omega arith
splice-zero (suc t) w =
    ap (λ (x : ℕ). x * 2 + w % 2) (splice-zero t (w / 2)) ∙ sym (mod-pow-add w t 1) ∙ ap (λ (x : ℕ). w % 2 ^ x) (add-one t)

module _ (rows : List ℕ) (f l : ℕ → ℕ) (s : Spans rows f l) (t : ℕ) where
  -- a codeword that takes no live row: its beginning, followed by zeros, is a codeword, made of the rows that end before t
  cut_off : (x : ℕ) → ((j : ℕ) → j < length rows → f j < t → t ≤ l j → bit x j ≡ 0) → IsSum rows (splice t (sum_of rows x) 0)
  cut_off x none = record { by = m; sum = bit-ext _ _ (λ i. at i (dec_lt i t)) }
    where
      m : ℕ
      m = spread (length rows) (λ j. ltb (f j) t) (gather (length rows) (λ j. ltb (f j) t) x)

      early : (j : ℕ) → j < length rows → f j < t → bit m j ≡ bit x j
      early j k a = spread-gather (length rows) (λ j. ltb (f j) t) x j k (lt→ltb (f j) t a)

      late : (j : ℕ) → j < length rows → t ≤ f j → bit m j ≡ bit 0 j
      late j k a = spread-zero (length rows) (λ j. ltb (f j) t) _ j k (λ b. omega (arith, ltb→lt (f j) t b)) ∙ sym (bit-zero j)

      low : (i : ℕ) → i < t → (j : ℕ) → j < length rows → Dec (f j < t) → (bit (get_or rows j 0) i ≡ 0) ⊎ (bit m j ≡ bit x j)
      low i h j k (yes a) = inr (early j k a)
      low i h j k (no a) = inl ((s.first j k).zeros i (omega arith))

      high : (i : ℕ) → t ≤ i → (j : ℕ) → j < length rows → Dec (f j < t) → Dec (l j < t) → (bit (get_or rows j 0) i ≡ 0) ⊎ (bit m j ≡ bit 0 j)
      high i h j k (yes a) (yes b) = inl ((s.last j k).zeros i (omega arith))
      high i h j k (yes a) (no b) = inr (early j k a ∙ none j k a (omega arith) ∙ sym (bit-zero j))
      high i h j k (no a) b = inr (late j k (omega arith))

      at : (i : ℕ) → Dec (i < t) → bit (sum_of rows m) i ≡ bit (splice t (sum_of rows x) 0) i
      at i (yes h) = sum-agree rows i m x (λ j k. low i h j k (dec_lt (f j) t)) ∙ sym (splice-low t (sum_of rows x) 0 i h)
      at i (no h) =
          sum-agree rows i m 0 (λ j k. high i (omega arith) j k (dec_lt (f j) t) (dec_lt (l j) t)) ∙ ap (λ (w : ℕ). bit w i) (sum-zero rows)
          ∙ sym (splice-high t (sum_of rows x) 0 i (omega arith))

  -- two choices of rows lead to one state exactly if the beginning of their words' difference, followed by zeros, is a codeword
  states-meet : (x y : ℕ) → (state_of rows f l t x ≡ state_of rows f l t y) ↔ IsSum rows (splice t (bit_xor (sum_of rows x) (sum_of rows y)) 0)
  states-meet x y = (
    (λ e. subst (λ (w : ℕ). IsSum rows (splice t w 0)) (sum-xor rows x y) (cut_off (bit_xor x y)
        (λ j k a b. bit-xor j x y ∙ ap (λ (d : ℕ). differ d (bit y j)) (gather-shows (length rows) (live f l t) x y e j k (is_live f l t j a b)) ∙ differ_self (bit y j)))),
    λ g. gather-same (length rows) (live f l t) x y (λ j k a. let b = live_is f l t j a in apart g j k b.0 b.1),
  )
    where
      z : ℕ
      z = bit_xor (sum_of rows x) (sum_of rows y)

      head : ℕ
      head = splice t z 0

      apart : IsSum rows (splice t z 0) → (j : ℕ) → j < length rows → f j < t → t ≤ l j → bit x j ≡ bit y j
      apart g =
          cut rows f l s x y head (bit_xor head z) t t (sym (xor-cancel head z)) g
          (in-xor g (in-xor (record { by = x; sum = refl }) (record { by = y; sum = refl }))) (λ i h. splice-high t z 0 i h ∙ bit-zero i)
          (λ i h. bit-xor i head z ∙ ap (λ (d : ℕ). differ d (bit z i)) (splice-low t z 0 i h) ∙ differ_self (bit z i))

  -- ---- Massey

  -- a continuation of the one is a continuation of the other
  carried : (u v c : ℕ) → state_of rows f l t u ≡ state_of rows f l t v → IsSum rows (splice t (sum_of rows u) c) → IsSum rows (splice t (sum_of rows v) c)
  carried u v c e g =
      subst (IsSum rows) (splice-xor t (sum_of rows u) (bit_xor (sum_of rows u) (sum_of rows v)) c 0
      ∙ ap₂ (splice t) (xor-cancel (sum_of rows u) (sum_of rows v)) (xor_zero_r c)) (in-xor g ((states-meet u v).0 e))

  -- two beginnings of words of the plate lead to the same state exactly if they have the same continuations
  pub massey : (u v : ℕ) → (state_of rows f l t u ≡ state_of rows f l t v) ↔ SameContinuations (IsSum rows) t (sum_of rows u) (sum_of rows v)
  massey u v = ((λ e c. (carried u v c e, carried v u c (sym e))), λ h. (states-meet u v).1 (difference ((h (sum_of rows v)).1 own)))
    where
      own : IsSum rows (splice t (sum_of rows v) (sum_of rows v))
      own = record { by = v; sum = sym (splice-self t (sum_of rows v)) }

      difference : IsSum rows (splice t (sum_of rows u) (sum_of rows v)) → IsSum rows (splice t (bit_xor (sum_of rows u) (sum_of rows v)) 0)
      difference g =
          subst (IsSum rows) (splice-xor t (sum_of rows u) (sum_of rows v) (sum_of rows v) (sum_of rows v)
          ∙ ap (splice t (bit_xor (sum_of rows u) (sum_of rows v))) (xor_self (sum_of rows v))) (in-xor g own)

  -- ---- Wolf

  -- with a parity-check matrix of the same code: exactly if they have the same partial syndrome
  pub wolf : (n : ℕ) (checks : List ℕ) → ((w : ℕ) → IsSum rows w ↔ Checked n checks w) → t ≤ n → (u v : ℕ)
      → (state_of rows f l t u ≡ state_of rows f l t v) ↔ SameSyndrome checks t (sum_of rows u) (sum_of rows v)
  wolf n checks same h u v = (
    (λ e j k. differ-eq _ _ (sym (parities j) ∙ ((same difference).0 ((states-meet u v).0 e)).even j k)),
    λ e. (states-meet u v).1 ((same difference).1 (record {
      below = splice-below n t (bit_xor (sum_of rows u) (sum_of rows v)) 0 h (pow_pos n);
      even = λ j k. parities j ∙ ap (λ (d : ℕ). differ d (syndrome checks t (sum_of rows v) j)) (e j k) ∙ differ_self (syndrome checks t (sum_of rows v) j);
    })),
  )
    where
      difference : ℕ
      difference = splice t (bit_xor (sum_of rows u) (sum_of rows v)) 0

      -- parity is linear
      parities : (j : ℕ) → parity (get_or checks j 0) difference ≡ differ (syndrome checks t (sum_of rows u) j) (syndrome checks t (sum_of rows v) j)
      parities j =
          let c : ℕ = get_or checks j 0 in
          let a : ℕ = beginning t (sum_of rows u) in
          let b : ℕ = beginning t (sum_of rows v) in
          ap (parity c) (sym (splice-xor t (sum_of rows u) (sum_of rows v) 0 0) ∙ ap₂ bit_xor (splice-zero t (sum_of rows u)) (splice-zero t (sum_of rows v)))
          ∙ parity-comm c (bit_xor a b) ∙ parity-xor a b c ∙ ap₂ differ (parity-comm a c) (parity-comm b c)

-- ---- the same of the paths through the trellis of a prepared plate

-- the state at depth t of the rows that u takes
abbrev reached : Plate → ℕ → ℕ → ℕ
reached plate t u = state_of (rows_of plate) (firsts (rows_of plate)) (kept_to plate) t u

-- a word plus mask is spliced of the beginning and the continuation, each plus mask
splice-masked : (t a c mask : ℕ) → bit_xor (splice t a c) mask ≡ splice t (bit_xor a mask) (bit_xor c mask)
splice-masked t a c mask = ap (bit_xor (splice t a c)) (sym (splice-self t mask)) ∙ splice-xor t a mask c mask

-- what two beginnings have alike they have alike with the mask added
continuations-masked : (C : ℕ → Type 0) (mask t a b : ℕ) → SameContinuations C t (bit_xor a mask) (bit_xor b mask) ↔ SameContinuations (Masked C mask) t a b
continuations-masked C mask t a b = (
  (λ s c. (
    (λ x. subst C (sym (splice-masked t b c mask)) ((s (bit_xor c mask)).0 (subst C (splice-masked t a c mask) x))),
    λ x. subst C (sym (splice-masked t a c mask)) ((s (bit_xor c mask)).1 (subst C (splice-masked t b c mask) x)),
  )),
  λ s c. (
    (λ x. subst C (back b c) ((s (bit_xor c mask)).0 (subst C (sym (back a c)) x))),
    λ x. subst C (back a c) ((s (bit_xor c mask)).1 (subst C (sym (back b c)) x)),
  ),
)
  where
    back : (v c : ℕ) → bit_xor (splice t v (bit_xor c mask)) mask ≡ splice t (bit_xor v mask) c
    back v c = splice-masked t v (bit_xor c mask) mask ∙ ap (splice t (bit_xor v mask)) (xor-twice c mask)

syndrome-masked : (checks : List ℕ) (mask t w j : ℕ)
    → syndrome checks t (bit_xor w mask) j ≡ differ (syndrome checks t w j) (syndrome checks t mask j)
syndrome-masked checks mask t w j =
    let c : ℕ = get_or checks j 0 in
    ap (parity c) (xor_mod w mask t) ∙ parity-comm c (bit_xor (beginning t w) (beginning t mask)) ∙ parity-xor (beginning t w) (beginning t mask) c
    ∙ ap₂ differ (parity-comm (beginning t w) c) (parity-comm (beginning t mask) c)

syndromes-masked : (checks : List ℕ) (mask t a b : ℕ) → SameSyndrome checks t (bit_xor a mask) (bit_xor b mask) ↔ SameSyndrome checks t a b
syndromes-masked checks mask t a b = (
  (λ s j h. same-added _ _ _ (digit a j) (digit b j) (digit mask j)
      (sym (syndrome-masked checks mask t a j) ∙ s j h ∙ syndrome-masked checks mask t b j)),
  λ s j h. syndrome-masked checks mask t a j ∙ ap (λ (d : ℕ). differ d (syndrome checks t mask j)) (s j h) ∙ sym (syndrome-masked checks mask t b j),
)
  where
    digit : (w j : ℕ) → syndrome checks t w j < 2
    digit w j = let r : parity (get_or checks j 0) (beginning t w) < 2 = omega arith in r

    -- digits to which the same is added are the same where their sums are
    same-added : (x y d : ℕ) → x < 2 → y < 2 → d < 2 → differ x d ≡ differ y d → x ≡ y
    same-added x y d hx hy hd e = omega (arith, differ-mod x d hx hd, differ-mod y d hy hd, e)

module _ (plate : Plate) (given : IsPrepared plate) (a b : ℕ) (x : IsWord plate a) (y : IsWord plate b)
    (p : Path (trellis_of plate) plate.n a) (q : Path (trellis_of plate) plate.n b) (t : ℕ) (h : t ≤ plate.n) where
  -- a word's path stands where the code's path of the word plus mask does
  stands : (w : ℕ) (g : IsWord plate w) (r : Path (trellis_of plate) plate.n w) → r.state t ≡ reached plate t g.by
  stands w g r =
      subst (λ (v : ℕ). (r : Path (code_trellis plate) plate.n v) → r.state t ≡ reached plate t g.by) g.sum
      (λ r. kept-state (rows_of plate) _ _ (plate-kept plate given) plate.n g.by r t h) (path-off plate.mask (code_trellis plate) r)

  -- so what says when two choices of rows reach the same state says when the two paths meet
  meet : (R : ℕ → ℕ → Type 0) → ((reached plate t x.by ≡ reached plate t y.by) ↔ R (sum_of (rows_of plate) x.by) (sum_of (rows_of plate) y.by))
      → (p.state t ≡ q.state t) ↔ R (bit_xor a plate.mask) (bit_xor b plate.mask)
  meet R e = (
    (λ m. subst (R (bit_xor a plate.mask)) y.sum
        (subst (λ (v : ℕ). R v (sum_of (rows_of plate) y.by)) x.sum (e.0 (sym (stands a x p) ∙ m ∙ stands b y q)))),
    λ r. stands a x p ∙ e.1 (subst (λ (v : ℕ). R v (sum_of (rows_of plate) y.by)) (sym x.sum) (subst (R (bit_xor a plate.mask)) (sym y.sum) r))
        ∙ sym (stands b y q),
  )

  -- Massey: two words' paths meet at depth t exactly if their beginnings have the same continuations
  pub plate-massey : (p.state t ≡ q.state t) ↔ SameContinuations (IsWord plate) t a b
  plate-massey =
      Iff.trans (meet (SameContinuations (IsSum (rows_of plate)) t) (massey (rows_of plate) _ _ (plate-spans plate given) t x.by y.by))
      (continuations-masked (IsSum (rows_of plate)) plate.mask t a b)

  -- Wolf: exactly if their beginnings have the same partial syndrome, by any parity-check matrix of the code
  pub plate-wolf : (checks : List ℕ) → ((w : ℕ) → IsSum (rows_of plate) w ↔ Checked plate.n checks w) → (p.state t ≡ q.state t) ↔ SameSyndrome checks t a b
  plate-wolf checks same =
      Iff.trans (meet (SameSyndrome checks t) (wolf (rows_of plate) _ _ (plate-spans plate given) t plate.n checks same h x.by y.by))
      (syndromes-masked checks plate.mask t a b)

-- ---- the same of the plate that preparing a matrix and a mask accepts

module _ (n : ℕ) (kind : Kind) (rows : List ℕ) (mask : ℕ) (r : Prepared) (p : Prepares n kind rows mask r) (e : r.verdict ≡ Ok tt) (a b : ℕ)
    (x : Masked (InCode kind n rows) mask a) (y : Masked (InCode kind n rows) mask b) where
  -- the words that the mask makes of the matrix's code are the plate's
  words : (w : ℕ) → Masked (InCode kind n rows) mask w ↔ IsWord r.plate w
  words = accepted-words n kind rows mask r p e

  -- Massey
  pub matrix-massey : (s : Path (trellis_of r.plate) n a) (q : Path (trellis_of r.plate) n b) (t : ℕ) → t ≤ n
      → (s.state t ≡ q.state t) ↔ SameContinuations (Masked (InCode kind n rows) mask) t a b
  matrix-massey =
      subst (λ (m : ℕ). (s : Path (trellis_of r.plate) m a) (q : Path (trellis_of r.plate) m b) (t : ℕ) → t ≤ m
      → (s.state t ≡ q.state t) ↔ SameContinuations (Masked (InCode kind n rows) mask) t a b) (accepted-length n kind rows mask r p e)
      (λ s q t h. Iff.trans (plate-massey r.plate (accepted-prepared n kind rows mask r p e) a b ((words a).0 x) ((words b).0 y) s q t h) (
        (λ c w. Iff.trans (words (splice t a w)) (Iff.trans (c w) (Iff.symm (words (splice t b w))))),
        λ c w. Iff.trans (Iff.symm (words (splice t a w))) (Iff.trans (c w) (words (splice t b w))),
      ))

  -- Wolf: with any parity-check matrix of the code, as the matrix itself is where it was prepared as H
  pub matrix-wolf : (checks : List ℕ) → ((w : ℕ) → InCode kind n rows w ↔ Checked n checks w)
      → (s : Path (trellis_of r.plate) n a) (q : Path (trellis_of r.plate) n b) (t : ℕ) → t ≤ n → (s.state t ≡ q.state t) ↔ SameSyndrome checks t a b
  matrix-wolf checks same =
      subst (λ (m : ℕ). ((w : ℕ) → IsSum (rows_of r.plate) w ↔ Checked m checks w) → (s : Path (trellis_of r.plate) m a)
      (q : Path (trellis_of r.plate) m b) (t : ℕ) → t ≤ m → (s.state t ≡ q.state t) ↔ SameSyndrome checks t a b) (accepted-length n kind rows mask r p e)
      (λ checked s q t h. plate-wolf r.plate (accepted-prepared n kind rows mask r p e) a b ((words a).0 x) ((words b).0 y) s q t h checks checked)
      (λ w. Iff.trans (Iff.symm (accepted-code n kind rows mask r p e w)) (same w))
