-- The ways through the sections of a prepared plate spell exactly its codewords.
use lib.IntN.{ℤ}
use lib.ListN.{length}
use lib.Pow.{pow_pos, shr-shr}
use mathlib.Core.List.{List, [], ◌∷◌}
use mathlib.Core.Path.{ap, refl, subst, sym, ◌∙◌, ◌≡◌}
use native.Mathlib.Nat.{div-eq_of_lt, pow-suc}
use native.Mathlib.Numerals.{add-one}
use native.Mathlib.Omega.{arith}
use Prim.Native.Nat.{◌%◌, ◌+◌, ◌/◌, ◌<◌, ◌^◌, suc, zero, ℕ, ◌≤◌}
use Rattle.decoding.proofs.BestWay.{Way}
use Rattle.decoding.specs.Backward.{Chain}
use Rattle.plates.proofs.SoundIsPrepared.{sound}
use Rattle.plates.specs.declared.Plate.{Plate}
use Rattle.plates.specs.Prepare.{IsPrepared, rows_of}
use Rattle.trellises.proofs.PlateTrellis.{plate-path-ends, plate-spans, plate-spells}
use Rattle.trellises.proofs.SectionAgrees.{Agrees, chosen, section-agrees}
use Rattle.trellises.proofs.SectionBranches.{has-number, number-has}
use Rattle.trellises.proofs.SectionFits.{narrow, begun, column-small, ending-live}
use Rattle.trellises.specs.Branching.{code_trellis}
use Rattle.trellises.specs.declared.Section.{Section}
use Rattle.trellises.specs.Graph.{Has, Path}
use Rattle.trellises.specs.Numbers.{leads_to}
use Rattle.trellises.specs.SectionOf.{section_of}
use Rattle.trellises.specs.States.{state_of}
use Rattle.words.proofs.Choice.{gather-lt}
use Rattle.words.proofs.Word.{bit-div}
use Rattle.words.specs.Ends.{firsts, lasts}
use Rattle.words.specs.Sum.{IsSum}
use Rattle.words.specs.Word.{bit}

module _ (plate : Plate) (given : IsPrepared plate) where
  abbrev sections : ℕ → Section
  sections = section_of (rows_of plate)

  agrees : (t : ℕ) → Agrees (rows_of plate) t (section_of (rows_of plate) t)
  agrees t = section-agrees (rows_of plate) (plate-spans plate given) t

  pub plate-chain : Chain (section_of (rows_of plate)) plate.n
  plate-chain = record {
    fits = λ t h. (let k : t ≤ plate.n = omega arith in
        record { narrow = narrow (sound given) t k; ending = ending-live (sound given) t k; column = column-small (sound given) t k; begun = begun (sound given) t k });
    leads = λ t h x k.
        subst (λ (z : ℕ). z < 2 ^ (sections (suc t)).live) (sym ((agrees t).to_state x (omega (arith, k, (agrees t).branches))))
        (subst (λ (z : ℕ). state_of (rows_of plate) (firsts (rows_of plate)) (lasts (rows_of plate)) (suc t) (chosen (rows_of plate) t x) < 2 ^ z) (sym (agrees (suc t)).states)
        (gather-lt (length (rows_of plate)) _ _));
  }

  -- the start has one state
  pub start-state : 0 < 2 ^ (section_of (rows_of plate) 0).live
  start-state = pow_pos (section_of (rows_of plate) 0).live

  -- ---- a path is a way

  path-way : (w : ℕ) → w < 2 ^ plate.n → (p : Path (code_trellis plate) plate.n w) (ys : List ℤ) (t : ℕ) → t + length ys ≡ plate.n
      → Way (section_of (rows_of plate)) ys t (p.state t) (w / 2 ^ t)
  path-way w h p [] t e = shr-all (subst (λ (x : ℕ). w < 2 ^ x) (sym (omega arith)) h)
    where
      shr-all : w < 2 ^ t → w / 2 ^ t ≡ 0
      shr-all = div-eq_of_lt
  path-way w h p (y ∷ ys) t e =
      let k : t < plate.n = omega arith in
      let b = has-number (rows_of plate) t (sections t) (agrees t) _ _ _ (p.branch t k) in
      let d : w / 2 ^ suc t ≡ w / 2 ^ t / 2 = sym (shr-shr w t 1 ∙ ap (λ (x : ℕ). w / 2 ^ x) (add-one t)) in (
        b.number,
        b.below,
        b.leaving,
        b.spells ∙ bit-div t w,
        subst (λ (i : ℕ). Way sections ys (suc t) i (w / 2 ^ t / 2)) (sym b.leads)
            (subst (Way sections ys (suc t) (p.state (suc t))) d (path-way w h p ys (suc t) (omega arith))),
      )

  -- ---- a way is a path

  -- the state after d branches
  after : (ys : List ℤ) (t i w : ℕ) → Way (section_of (rows_of plate)) ys t i w → ℕ → ℕ
  after [] t i w a d = i
  after (y ∷ ys) t i w a zero = i
  after (y ∷ ys) t i w a (suc d) = after ys (suc t) (leads_to (sections t) a.0) (w / 2) a.4 d

  after-start : (ys : List ℤ) (t i w : ℕ) (a : Way (section_of (rows_of plate)) ys t i w) → after ys t i w a 0 ≡ i
  unfolding after
  after-start [] t i w a = refl
  after-start (y ∷ ys) t i w a = refl

  way-inside : (ys : List ℤ) (t i w : ℕ) (a : Way (section_of (rows_of plate)) ys t i w) → t + length ys ≡ plate.n → i < 2 ^ (section_of (rows_of plate) t).live
      → (d : ℕ) → d ≤ length ys → after ys t i w a d < 2 ^ (section_of (rows_of plate) (t + d)).live
  unfolding after
  way-inside [] t i w a e h d k = let z : t ≡ t + d = omega arith in subst (λ (x : ℕ). i < 2 ^ (sections x).live) z h
  way-inside (y ∷ ys) t i w a e h zero k = let z : t ≡ t + 0 = omega arith in subst (λ (x : ℕ). i < 2 ^ (sections x).live) z h
  way-inside (y ∷ ys) t i w a e h (suc d) k =
      let z : suc t + d ≡ t + suc d = omega arith in
      subst (λ (x : ℕ). after ys (suc t) (leads_to (sections t) a.0) (w / 2) a.4 d < 2 ^ (sections x).live) z
      (way-inside ys (suc t) _ (w / 2) a.4 (omega arith) (plate-chain.leads t (omega arith) a.0 a.1) d (omega arith))

  way-branch : (ys : List ℤ) (t i w : ℕ) (a : Way (section_of (rows_of plate)) ys t i w) → t + length ys ≡ plate.n
      → (d : ℕ) → d < length ys → Has (code_trellis plate) (t + d) (after ys t i w a d) (bit w d) (after ys t i w a (suc d))
  unfolding after
  way-branch [] t i w a e d k = absurd (omega arith)
  way-branch (y ∷ ys) t i w a e zero k =
      let z : t ≡ t + 0 = omega arith in
      subst (λ (x : ℕ). Has (code_trellis plate) x i (w % 2) (after ys (suc t) (leads_to (sections t) a.0) (w / 2) a.4 0)) z
      (number-has (rows_of plate) t (sections t) (agrees t) i (w % 2) _
      (record { number = a.0; below = a.1; leaving = a.2; spells = a.3; leads = sym (after-start ys (suc t) _ (w / 2) a.4) }))
  way-branch (y ∷ ys) t i w a e (suc d) k =
      let z : suc t + d ≡ t + suc d = omega arith in
      subst (λ (x : ℕ). Has (code_trellis plate) x (after ys (suc t) (leads_to (sections t) a.0) (w / 2) a.4 d) (bit (w / 2) d) (after ys (suc t) (leads_to (sections t) a.0) (w / 2) a.4 (suc d))) z
      (way-branch ys (suc t) _ (w / 2) a.4 (omega arith) d (omega arith))

  way-below : (ys : List ℤ) (t i w : ℕ) → Way (section_of (rows_of plate)) ys t i w → w < 2 ^ length ys
  way-below [] t i w a = omega (arith, a)
  way-below (y ∷ ys) t i w a = omega (arith, way-below ys (suc t) _ (w / 2) a.4, pow-suc 2 (length ys))

  -- ---- the ways from the start are the codewords

  module _ (ys : List ℤ) (size : length ys ≡ plate.n) (w : ℕ) where
    pub codeword-way : IsSum (rows_of plate) w → Way (section_of (rows_of plate)) ys 0 0 w
    codeword-way g =
        let p = ((plate-spells plate given).exact w).0 g in
        let one : w / 1 ≡ w = omega arith in
        subst (Way sections ys 0 0) one
        (subst (λ (i : ℕ). Way sections ys 0 i (w / 2 ^ 0)) (plate-path-ends plate given w p.1).0 (path-way w p.0 p.1 ys 0 (omega arith)))

    pub way-codeword : Way (section_of (rows_of plate)) ys 0 0 w → IsSum (rows_of plate) w
    way-codeword a = ((plate-spells plate given).exact w).1 (
      subst (λ (x : ℕ). w < 2 ^ x) size (way-below ys 0 0 w a),
      record {
        state = after ys 0 0 w a;
        inside = λ t h. subst (λ (x : ℕ). after ys 0 0 w a t < 2 ^ x) (agrees t).states (inside t (omega arith));
        branch = λ t h. branch t (omega arith);
      },
    )
      where
        inside : (t : ℕ) → t ≤ length ys → after ys 0 0 w a t < 2 ^ (sections t).live
        inside t h = let z : 0 + t ≡ t = omega arith in subst (λ (x : ℕ). after ys 0 0 w a t < 2 ^ (sections x).live) z (way-inside ys 0 0 w a (omega arith) start-state t h)

        branch : (t : ℕ) → t < length ys → Has (code_trellis plate) t (after ys 0 0 w a t) (bit w t) (after ys 0 0 w a (suc t))
        branch t h =
            let z : 0 + t ≡ t = omega arith in
            subst (λ (x : ℕ). Has (code_trellis plate) x (after ys 0 0 w a t) (bit w t) (after ys 0 0 w a (suc t))) z (way-branch ys 0 0 w a (omega arith) t h)
