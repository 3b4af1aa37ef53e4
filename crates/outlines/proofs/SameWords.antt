-- Theorems: the sheet of an input's plate has the input's words; two inputs have the same words exactly if their plates' sheets have the same bytes.
use Rattle.std.proofs.Common.{Ok}
use lib.Bits.{bit_xor, xor_comm, xor_zero_r}
use mathlib.Core.List.{List}
use mathlib.Core.Logic.Iff
use mathlib.Core.Logic.{◌↔◌}
use mathlib.Core.Path.{◌≡◌, ap, subst, sym, ◌∙◌}
use Prim.Native.Nat.{◌<◌, ◌^◌, ℕ}
use Rattle.decoding.proofs.MaskedWords.{mask_word, rest_of, word-code}
use Rattle.decoding.proofs.RestOfWords.{xor-through}
use Rattle.decoding.specs.Cosets.{taken_off}
use Rattle.outlines.proofs.Fitting.{rows_few}
use Rattle.outlines.proofs.ReadBack.{canonical, read_back}
use Rattle.outlines.proofs.Replying.{opened-prepared}
use Rattle.outlines.proofs.RestTells.{rest_below, rest-same, rested-prepared, rested-words, rested_plate, rows-below}
use Rattle.outlines.specs.declared.opening.Which.{Which}
use Rattle.outlines.specs.declared.opening.Which.TheVariants.{Own}
use Rattle.outlines.specs.Opening.{kind_as, mask_as}
use Rattle.outlines.specs.SheetText.{sheet_of}
use Rattle.outlines.specs.Words.{PrintsSheet, SameWords, WordOf, as_sheet}
use Rattle.plates.proofs.OnePlate.{one-plate}
use Rattle.plates.proofs.SoundIsPrepared.{sound}
use Rattle.plates.specs.declared.Kind.TheVariants.{G}
use Rattle.plates.specs.declared.Plate.{Plate}
use Rattle.plates.specs.Prepare.{IsPrepared, IsWord, Prepares, rows_of}
use Rattle.sheets.specs.Sheet.{Contents, reading, says}
use Rattle.trellises.proofs.AcceptedIsPrepared.{accepted-code, accepted-length, accepted-mask, plate-same}
use Rattle.words.proofs.Sums.{in-xor}
use Rattle.words.proofs.Word.{xor_assoc, xor_self}
use Rattle.words.specs.Sum.{IsSum}

-- ---- a plate and its sheet

-- it is read as the plate's rows as G and what is left of its mask
pub sheet-read : (plate : Plate) → IsPrepared plate → reading (sheet_of plate) ≡ says (canonical G plate.n (rest_of plate) (rows_of plate))
sheet-read plate p =
    let s = sound p in
    read_back G plate.n (rest_of plate) (rows_of plate) s.positive s.short (rows_few p) (rest_below plate p plate.mask s.masked)
    (rows-below plate p)

-- whose preparing gives the plate again, with that mask
pub sheet-prepares : (plate : Plate) (p : IsPrepared plate)
    → Prepares plate.n G (rows_of plate) (rest_of plate) (record { verdict = Ok tt; plate = rested_plate plate p })
sheet-prepares plate p = (rested-prepared plate p).same

-- ---- two plates

module _ (a b : Plate) (p : IsPrepared a) (q : IsPrepared b) where
  -- the same words come of the same code
  same_code : ((w : ℕ) → IsWord a w ↔ IsWord b w) → (v : ℕ) → IsSum (rows_of a) v → IsSum (rows_of b) v
  same_code e v g =
      let m = a.mask in
      let one : IsWord b (bit_xor v m) = (e (bit_xor v m)).0
      (subst (IsSum (rows_of a)) (sym (xor_assoc v m m ∙ ap (bit_xor v) (xor_self m) ∙ xor_zero_r v)) g) in
      let other : IsWord b m = (e m).0 (mask_word a) in
      subst (IsSum (rows_of b))
      (ap (bit_xor (bit_xor (bit_xor v m) b.mask)) (xor_comm m b.mask) ∙ xor-through (bit_xor v m) b.mask m
      ∙ (xor_assoc v m m ∙ ap (bit_xor v) (xor_self m) ∙ xor_zero_r v))
      (in-xor one other)

module _ (a b : Plate) (p : IsPrepared a) (q : IsPrepared b) where
  -- so of the same rows
  same_rows : ((w : ℕ) → IsWord a w ↔ IsWord b w) → rows_of a ≡ rows_of b
  same_rows e =
      let f : (v : ℕ) → IsSum (rows_of a) v ↔ IsSum (rows_of b) v = λ v. (same_code a b p q e v, same_code b a q p (λ w. Iff.symm (e w)) v) in
      one-plate (IsSum (rows_of b)) (rows_of a) (rows_of b) _ _ _ _
      (plate-same (IsSum (rows_of a)) (IsSum (rows_of b)) f a.n a.mask a p.same.reply.1).rows q.same.reply.1.rows

  -- and what is left of the masks is the same
  same_rest : a.n ≡ b.n → ((w : ℕ) → IsWord a w ↔ IsWord b w) → rest_of a ≡ rest_of b
  same_rest n e =
      rest-same a p a.mask b.mask (sound p).masked (subst (λ (x : ℕ). b.mask < 2 ^ x) (sym n) (sound q).masked)
      (subst (λ (rows : List ℕ). IsSum rows (bit_xor a.mask b.mask)) (sym (same_rows e)) ((e a.mask).0 (mask_word a)))
      ∙ ap (λ (rows : List ℕ). taken_off rows b.mask) (same_rows e)

  pub to-bytes : a.n ≡ b.n → ((w : ℕ) → IsWord a w ↔ IsWord b w) → sheet_of a ≡ sheet_of b
  to-bytes n e = rw (n, same_rest n e, same_rows e)

  same-contents : {c d : Contents} → says c ≡ says d → c ≡ d
  same-contents e = cc

  read_same : sheet_of a ≡ sheet_of b → canonical G a.n (rest_of a) (rows_of a) ≡ canonical G b.n (rest_of b) (rows_of b)
  read_same e = same-contents (sym (sheet-read a p) ∙ ap reading e ∙ sheet-read b q)

  pub from-bytes-length : sheet_of a ≡ sheet_of b → a.n ≡ b.n
  from-bytes-length e = ap (λ (z : Contents). z.n) (read_same e)

  pub from_bytes : sheet_of a ≡ sheet_of b → (w : ℕ) → IsWord a w → IsWord b w
  from_bytes e w g =
      let rows : rows_of a ≡ rows_of b = ap (λ (z : Contents). z.rows) (read_same e) in
      let rest : rest_of a ≡ rest_of b = ap (λ (z : Contents). z.mask) (read_same e) in
      let code : IsSum (rows_of b) (bit_xor w (rest_of b)) =
      subst (λ (x : ℕ). IsSum (rows_of b) (bit_xor w x)) rest (subst (λ (x : List ℕ). IsSum x (bit_xor w (rest_of a))) rows (word-code a w g)) in
      (rested-words b q w).1 code

-- ---- two inputs

-- the words of an input that is not refused are those of its plate, its own or the dual's
module _ {which : Which} {input text : List ℕ} (s : PrintsSheet which input text) (c : Contents) (r : reading input ≡ says c) where
  pub is-prepared : IsPrepared s.prepared.plate
  is-prepared = opened-prepared s.opened s.accepted

  pub prepares : Prepares c.n (kind_as which c.kind) c.rows (mask_as which c.mask) s.prepared
  prepares = rw r at s.opened.is

  pub length_is : s.prepared.plate.n ≡ c.n
  length_is = accepted-length c.n (kind_as which c.kind) c.rows (mask_as which c.mask) s.prepared prepares s.accepted

  pub words_are : (w : ℕ) → WordOf (as_sheet which c) w ↔ IsWord s.prepared.plate w
  words_are w =
      subst (λ (m : ℕ). WordOf (as_sheet which c) w ↔ IsSum (rows_of s.prepared.plate) (bit_xor w m))
      (sym (accepted-mask c.n (kind_as which c.kind) c.rows (mask_as which c.mask) s.prepared prepares s.accepted))
      (accepted-code c.n (kind_as which c.kind) c.rows (mask_as which c.mask) s.prepared prepares s.accepted
      (bit_xor w (mask_as which c.mask)))

pub iff-then : {A B C : Type 0} → A ↔ B → B ↔ C → A ↔ C
iff-then f g = ((λ a. g.0 (f.0 a)), λ c. f.1 (g.1 c))

-- what is printed is read back as a sheet with the same words
pub printed-words : {which : Which} {input text : List ℕ} (s : PrintsSheet which input text) (c : Contents) → reading input ≡ says c
    → (d : Contents) × (reading text ≡ says d) × SameWords (as_sheet which c) d
printed-words s c r =
    let plate = s.prepared.plate in
    let p = is-prepared s c r in (
      canonical G plate.n (rest_of plate) (rows_of plate),
      ap reading s.is ∙ sheet-read plate p,
      (sym (length_is s c r), λ w. iff-then (words_are s c r w) (rested-words plate p w)),
    )

-- two inputs have the same words exactly if the same bytes are printed for both
pub same-words : {input other text text' : List ℕ} (s : PrintsSheet Own input text) (t : PrintsSheet Own other text') (c d : Contents)
    → reading input ≡ says c → reading other ≡ says d → SameWords c d ↔ (text ≡ text')
same-words s t c d r q =
    let a = s.prepared.plate in
    let b = t.prepared.plate in
    let p = is-prepared s c r in
    let o = is-prepared t d q in (
      (λ e. s.is ∙ to-bytes a b p o (length_is s c r ∙ e.0 ∙ sym (length_is t d q))
          (λ w. iff-then (Iff.symm (words_are s c r w)) (iff-then (e.1 w) (words_are t d q w))) ∙ sym t.is),
      (λ e. (let f : sheet_of a ≡ sheet_of b = sym s.is ∙ e ∙ t.is in (
        sym (length_is s c r) ∙ from-bytes-length a b p o f ∙ length_is t d q,
        λ w. iff-then (words_are s c r w) (iff-then (from_bytes a b p o f w, from_bytes b a o p (sym f) w) (Iff.symm (words_are t d q w))),
      ))),
    )
