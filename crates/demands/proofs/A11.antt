-- A11, masked plates: the words of a plate are codewords plus mask modulo 2 (plates/specs/Code: `Masked`, Prepare: `IsWord`), and the promises of all
-- calls but the weights (A9: `weights-of-matrix`) speak of those; demands 2 and 3 are stated over them. Here: the words, profile and counts, 23, refusal 5,
-- the mask line of a sheet and its 17, and a masked decode against a plain one. What a zero mask gives: ZeroMasks. 23 stands after 3 and before 4 by
-- Demand1: `prepare-numbers`; the mask is reversed with the rows in A4's statement, by sheets/specs/Turned: `rest_turned`.
use Rattle.std.proofs.Common.{Result, Ok, Err}
use lib.Bits.{bit_xor, xor_comm}
use lib.IntN.{ℤ}
use lib.ListN.{length}
use lib.Pow.{pow_pos}
use mathlib.Core.Bool.{false, true}
use mathlib.Core.List.{List, [], ◌∷◌}
use mathlib.Core.Logic.Iff
use mathlib.Core.Logic.{inl, inr, ◌↔◌}
use mathlib.Core.Path.{ap, refl, subst, sym, ◌∙◌, ◌≡◌}
use native.Mathlib.Omega.{arith}
use Prim.Native.Nat.{◌<◌, ◌^◌, ℕ, ◌≤◌}
use Rattle.coding.proofs.PlateWords.{mask-twice}
use Rattle.decoding.proofs.DecodeDetermined.{counts_same}
use Rattle.decoding.proofs.MaskedCounts.{mask-branches, mask-entering}
use Rattle.decoding.proofs.MaskedDecoding.{PlainlyBest, decode-masked, metric-masked}
use Rattle.decoding.specs.declared.Answer.{Answer}
use Rattle.decoding.specs.Decode.{Best, Decodes}
use Rattle.decoding.specs.Turning.{turned_by}
use Rattle.demands.proofs.Demand1.{prepare-refuses-exactly}
use Rattle.demands.specs.Masks.{AlikeButMask, with_mask}
use Rattle.plates.proofs.PrepareDetermined.{prepare-determined}
use Rattle.plates.proofs.SoundIsPrepared.{prepared, sound}
use Rattle.plates.specs.Code.{InCode, Masked}
use Rattle.plates.specs.declared.Kind.{Kind}
use Rattle.plates.specs.declared.Kind.TheVariants.{G}
use Rattle.plates.specs.declared.Plate.{Plate}
use Rattle.plates.specs.declared.Prepared.{Prepared}
use Rattle.plates.specs.declared.Refusal.{Refusal}
use Rattle.plates.specs.declared.Refusal.TheVariants.{MaskBeyond}
use Rattle.plates.specs.Prepare.{IsPrepared, IsWord, PlateOf, Prepares, PreparesAs, RowOver, bad_length, prepare_conditions, rows_of, too_many_rows}
use Rattle.plates.specs.Refusals.{Passes, Refuses, number, place}
use Rattle.plates.specs.Replying.{refused_with}
use Rattle.sheets.proofs.ZeroMasks.{no-mask-is-zero, zero-mask}
use Rattle.sheets.specs.declared.Order.{Order}
use Rattle.sheets.specs.declared.word.Word.{Word}
use Rattle.sheets.specs.declared.word.Word.TheVariants.{Block, Cover, End, Heard, Mask, Other, Row}
use Rattle.sheets.specs.Faults.{Part, Wrong, after, first_word, in_turn, on_blocks, on_cover, on_heard, on_mask, on_nothing, on_rows, out_of_turn}
use Rattle.sheets.specs.Lines.{row_rest}
use Rattle.sheets.specs.Masks.{mask_by, mask_is}
use Rattle.sheets.specs.Sheet.{Contents, masks_of, reading, says}
use Rattle.sheets.specs.ZeroMasks.{AlikeButLine, ZeroMasked}
use Rattle.trellises.proofs.AcceptedIsPrepared.{accepted, accepted-mask}
use Rattle.trellises.proofs.MaskedGraph.{masked-branches}
use Rattle.trellises.proofs.PlateGenerates.{code-closed, code-zero}
use Rattle.trellises.proofs.WordsTrellis.{accepted-words}
use Rattle.trellises.specs.Branching.{code_trellis}
use Rattle.words.proofs.Word.{xor_assoc, xor-cancel, xor_self}

-- ---- the words

-- words are codewords plus mask modulo 2
pub codewords-plus-mask : (C : ℕ → Type 0) (mask w : ℕ) → Masked C mask w ↔ ((c : ℕ) × C c × (w ≡ bit_xor c mask))
codewords-plus-mask C mask w = (
  (λ g. (bit_xor w mask, g, sym (mask-twice w mask))),
  λ x. subst C (sym (ap (λ (v : ℕ). bit_xor v mask) x.2 ∙ mask-twice x.0 mask)) x.1,
)

-- masks m and m' give the same words of a code exactly if m + m' is a codeword
module _ (C : ℕ → Type 0) (zero_in : C 0) (closed : (a b : ℕ) → C a → C b → C (bit_xor a b)) (m m' : ℕ) where
  pub same-words : ((w : ℕ) → Masked C m w ↔ Masked C m' w) ↔ C (bit_xor m m')
  same-words = (
    (λ s. (s m).0 (subst C (sym (xor_self m)) zero_in)),
    λ c w. (
      (λ x. subst C (on w) (closed (bit_xor w m) (bit_xor m m') x c)),
      λ x. subst C (back w) (closed (bit_xor w m') (bit_xor m m') x c),
    ),
  )
    where
      on : (w : ℕ) → bit_xor (bit_xor w m) (bit_xor m m') ≡ bit_xor w m'
      on w = xor_assoc w m (bit_xor m m') ∙ ap (bit_xor w) (xor-cancel m m')

      back : (w : ℕ) → bit_xor (bit_xor w m') (bit_xor m m') ≡ bit_xor w m
      back w = xor_assoc w m' (bit_xor m m') ∙ ap (bit_xor w) (ap (bit_xor m') (xor_comm m m') ∙ xor-cancel m' m)

-- ---- preparing: 23

module _ (n : ℕ) (kind : Kind) (rows : List ℕ) (mask : ℕ) (r : Prepared) (p : Prepares n kind rows mask r) where
  -- 23 is replied exactly where 1 to 3 are not and the mask has a one at n or beyond
  pub mask-refused-exactly : (r.verdict ≡ Err MaskBeyond) ↔ (Passes (bad_length n ∷ too_many_rows rows ∷ RowOver n rows ∷ []) × (2 ^ n ≤ mask))
  mask-refused-exactly = (
    (λ e. first ((prepare-refuses-exactly n kind rows mask r p MaskBeyond).0 e)),
    λ h. (prepare-refuses-exactly n kind rows mask r p MaskBeyond).1 (inr (h.0.0, inr (h.0.1.0, inr (h.0.1.1.0, inl (h.1, refl))))),
  )
    where
      first : Refuses (prepare_conditions n kind rows mask) MaskBeyond → Passes (bad_length n ∷ too_many_rows rows ∷ RowOver n rows ∷ []) × (2 ^ n ≤ mask)
      first (inl a) = absurd (omega (arith, ap number a.1))
      first (inr (a, inl b)) = absurd (omega (arith, ap number b.1))
      first (inr (a, inr (b, inl c))) = absurd (omega (arith, ap number c.is))
      first (inr (a, inr (b, inr (c, inl m)))) = ((a, (b, (c, tt))), m.0)
      first (inr (a, inr (b, inr (c, inr (m, inl d))))) = absurd (omega (arith, ap number d.is))
      first (inr (a, inr (b, inr (c, inr (m, inr (d, none)))))) = absurd none

  -- an accepted plate has the mask
  pub plate-has-mask : r.verdict ≡ Ok tt → r.plate.mask ≡ mask
  plate-has-mask = accepted-mask n kind rows mask r p

-- its number is 23, and its place 0
pub mask-number : (number MaskBeyond ≡ 23) × (place MaskBeyond ≡ 0)
mask-number = (refl, refl)

-- ---- refusal 5: the plate's own rows and mask

-- any reply to a prepared plate's own first k rows as G and its own mask is the plate itself
pub prepared-is-own : (plate : Plate) → IsPrepared plate → (r : Prepared) → Prepares plate.n G (rows_of plate) plate.mask r
    → r ≡ record { verdict = Ok tt; plate = plate }
prepared-is-own plate p r x = prepare-determined plate.n G (rows_of plate) plate.mask r (record { verdict = Ok tt; plate = plate }) x p.same

-- with another mask it is prepared exactly if that one has no one at n or beyond
pub remasked-prepared : (plate : Plate) → IsPrepared plate → (mask : ℕ) → IsPrepared (with_mask mask plate) ↔ (mask < 2 ^ plate.n)
remasked-prepared plate given mask = (
  (λ p. (sound p).masked),
  λ h.
      let s = sound given in
      prepared (record {
        positive = s.positive;
        short = s.short;
        few = s.few;
        masked = h;
        table = s.table;
        below = s.below;
        reduced = s.reduced;
        unused_rows = s.unused_rows;
        entries = s.entries;
        profile = s.profile;
        unused_entries = s.unused_entries;
        narrow = s.narrow;
      }),
)

-- ---- profile and counts

-- a plate with another mask: all else, its states, its branches and its counts are as they were
pub alike : (mask : ℕ) (plate : Plate) → AlikeButMask plate (with_mask mask plate)
alike mask plate = record {
  same_n = refl;
  same_k = refl;
  same_rows = refl;
  same_profile = refl;
  same_states = λ t. refl;
  same_branches = λ t. masked-branches plate.mask (code_trellis plate) t ∙ sym (masked-branches mask (code_trellis plate) t);
  same_additions = mask-branches plate.mask (code_trellis plate) plate.n ∙ sym (mask-branches mask (code_trellis plate) plate.n);
  same_comparisons = mask-entering plate.mask (code_trellis plate) plate.n ∙ sym (mask-entering mask (code_trellis plate) plate.n);
}

-- one matrix prepared with two masks of its length
module _ (n : ℕ) (kind : Kind) (rows : List ℕ) (m m' : ℕ) (h : m < 2 ^ n) (h' : m' < 2 ^ n) (r s : Prepared) (p : Prepares n kind rows m r)
    (q : Prepares n kind rows m' s) where
  -- what refuses the one refuses the other
  other-refuses : (c : Refusal) → Refuses (prepare_conditions n kind rows m) c → Refuses (prepare_conditions n kind rows m') c
  other-refuses c (inl a) = inl a
  other-refuses c (inr (a, inl b)) = inr (a, inl b)
  other-refuses c (inr (a, inr (b, inl o))) = inr (a, inr (b, inl o))
  other-refuses c (inr (a, inr (b, inr (o, inl x)))) = absurd (omega (arith, x.0, h))
  other-refuses c (inr (a, inr (b, inr (o, inr (x, d))))) = inr (a, inr (b, inr (o, inr ((λ y z. omega (arith, z.0, h')), d))))

  -- and the plate of the one, with the other mask, is that of the other
  other-accepts : (plate : Plate) → Passes (prepare_conditions n kind rows m) × PlateOf (InCode kind n rows) n m plate
      → s ≡ record { verdict = Ok tt; plate = with_mask m' plate }
  other-accepts plate ((a, (b, (c, (d, e)))), x) =
      prepare-determined n kind rows m' s (record { verdict = Ok tt; plate = with_mask m' plate }) q (record {
        reply = (
          (a, (b, (c, ((λ y z. omega (arith, z.0, h')), e)))),
          record {
            length_n = x.length_n;
            mask_is = refl;
            few = x.few;
            table = x.table;
            rows = x.rows;
            unused_rows = x.unused_rows;
            entries = x.entries;
            profile = x.profile;
            unused_entries = x.unused_entries;
          },
        );
      })

  -- both are accepted, or both refused with the same refusal
  pub same-verdict : s.verdict ≡ r.verdict
  same-verdict = go r.verdict r.plate p.reply
    where
      go : (v : Result (Unit {0}) Refusal) (plate : Plate) → PreparesAs (prepare_conditions n kind rows m) (InCode kind n rows) n m plate v → s.verdict ≡ v
      go (Err c) plate x =
          ap (λ (y : Prepared). y.verdict) (prepare-determined n kind rows m' s (refused_with c) q (record { reply = (other-refuses c x.0, refl) }))
      go (Ok _) plate x = ap (λ (y : Prepared). y.verdict) (other-accepts plate x)

  module _ (e : r.verdict ≡ Ok tt) where
    -- the plates differ in their masks alone
    pub differ-in-mask : s.plate ≡ with_mask m' r.plate
    differ-in-mask = ap (λ (y : Prepared). y.plate) (other-accepts r.plate (accepted n kind rows m r p e))

    -- profile and counts do not change
    pub profile-and-counts-unchanged : AlikeButMask r.plate s.plate
    profile-and-counts-unchanged = subst (AlikeButMask r.plate) (sym differ-in-mask) (alike m' r.plate)

    -- nor those that decoding reports, whatever the samples and the rooms
    pub decode-counts-unchanged : (samples samples' metrics metrics' room room' : List ℤ) (decisions decisions' words words' : List ℕ) (a b : Answer)
        → Decodes r.plate samples metrics decisions metrics' decisions' (Ok a) → Decodes s.plate samples' room words room' words' (Ok b)
        → a.counts ≡ b.counts
    decode-counts-unchanged samples samples' metrics metrics' room room' decisions decisions' words words' a b x y =
        let c = profile-and-counts-unchanged in
        counts_same (x.1.additions ∙ c.same_additions ∙ sym y.1.additions) (x.1.comparisons ∙ c.same_comparisons ∙ sym y.1.comparisons)

    -- the plates have the same words exactly if the masks' sum is a codeword
    pub same-plate-words : ((w : ℕ) → IsWord r.plate w ↔ IsWord s.plate w) ↔ InCode kind n rows (bit_xor m m')
    same-plate-words = (
      (λ x. same.0 (λ w. Iff.trans (of-r w) (Iff.trans (x w) (Iff.symm (of-s w))))),
      λ c w. Iff.trans (Iff.symm (of-r w)) (Iff.trans (same.1 c w) (of-s w)),
    )
      where
        same : ((w : ℕ) → Masked (InCode kind n rows) m w ↔ Masked (InCode kind n rows) m' w) ↔ InCode kind n rows (bit_xor m m')
        same = same-words (InCode kind n rows) (code-zero kind n rows) (code-closed kind n rows) m m'

        of-r : (w : ℕ) → Masked (InCode kind n rows) m w ↔ IsWord r.plate w
        of-r = accepted-words n kind rows m r p e

        of-s : (w : ℕ) → Masked (InCode kind n rows) m' w ↔ IsWord s.plate w
        of-s = accepted-words n kind rows m' s q (same-verdict ∙ e)

-- ---- a masked decode against the plain one

-- one matrix prepared with a mask and without
module _ (n : ℕ) (kind : Kind) (rows : List ℕ) (mask : ℕ) (h : mask < 2 ^ n) (r s : Prepared) (p : Prepares n kind rows mask r)
    (q : Prepares n kind rows 0 s) (e : r.verdict ≡ Ok tt) (samples : List ℤ) where
  plain : s.plate ≡ with_mask 0 r.plate
  plain = differ-in-mask n kind rows mask 0 h (pow_pos n) r s p q e

  -- The answer's word plus mask is a codeword of greatest metric with the samples whose signs are turned where the mask has ones; of equals it is
  -- the one that is earliest with the mask added; metric and counts are those of the plain plate
  pub masked-decode : (a : Answer) → Best r.plate samples a ↔ PlainlyBest s.plate mask samples a
  masked-decode a =
      subst (λ (x : Plate). Best r.plate samples a ↔ PlainlyBest x mask samples a) (sym plain)
      (subst (λ (x : ℕ). Best r.plate samples a ↔ PlainlyBest (with_mask 0 r.plate) x samples a) (accepted-mask n kind rows mask r p e)
      (decode-masked r.plate samples a))

  -- so metric and counts are those of a plain decode of these samples
  pub masked-metric : (a b : Answer) → Best r.plate samples a → Best s.plate (turned_by mask samples) b → (a.metric ≡ b.metric) × (a.counts ≡ b.counts)
  masked-metric a b x y =
      metric-masked r.plate samples a b x
      (subst (λ (m : ℕ). Best (with_mask 0 r.plate) (turned_by m samples) b) (sym (accepted-mask n kind rows mask r p e))
      (subst (λ (z : Plate). Best z (turned_by mask samples) b) plain y))

-- ---- the mask line of a sheet

-- after the cover a mask line may stand; in every other part, so after a mask, a row, a block or a heard line, before the cover and after end, it is 17
pub mask-after-cover : in_turn on_mask Mask ≡ true
mask-after-cover = refl

pub mask-elsewhere-is-seventeen : (n : ℕ) (part : Part) (fs : List (List ℕ)) → first_word fs ≡ Mask → (part ≡ on_mask → ⊥) → Wrong n part fs 17 1
mask-elsewhere-is-seventeen n part fs e other = out_of_turn (ap (in_turn part) e ∙ out part other) refl refl
  where
    out : (p : Part) → (p ≡ on_mask → ⊥) → in_turn p Mask ≡ false
    out on_cover o = refl
    out on_mask o = absurd (o refl)
    out on_rows o = refl
    out on_blocks o = refl
    out on_heard o = refl
    out on_nothing o = refl

-- only the line after the cover is in that part
pub mask-part-is-after-cover : (w : Word) → after w ≡ on_mask → w ≡ Cover
mask-part-is-after-cover Cover e = refl
mask-part-is-after-cover Mask e = let z : ◌≡◌ {A = ℕ} 0 1 = cc in absurd (omega arith)
mask-part-is-after-cover Row e = let z : ◌≡◌ {A = ℕ} 0 1 = cc in absurd (omega arith)
mask-part-is-after-cover Block e = let z : ◌≡◌ {A = ℕ} 0 1 = cc in absurd (omega arith)
mask-part-is-after-cover Heard e = let z : ◌≡◌ {A = ℕ} 0 1 = cc in absurd (omega arith)
mask-part-is-after-cover End e = let z : ◌≡◌ {A = ℕ} 0 1 = cc in absurd (omega arith)
mask-part-is-after-cover Other e = let z : ◌≡◌ {A = ℕ} 0 1 = cc in absurd (omega arith)

-- it is written and turned like a row: its field's characters in the cover's order
pub mask-is-read-as-row : (n : ℕ) (order : Order) (fs : List (List ℕ)) → mask_by n order Mask fs ≡ mask_is (row_rest n order fs)
mask-is-read-as-row n order fs = refl

-- it is optional: a sheet without one has the mask 0, and one of zeros says the same, its lines counted one later
pub no-mask-line-is-zero : (s : List ℕ) (c : Contents) → reading s ≡ says c → masks_of s c ≡ 0 → c.mask ≡ 0
no-mask-line-is-zero = no-mask-is-zero

pub mask-line-of-zeros : (s t : List ℕ) → ZeroMasked s t → length s ≤ 32768 → length t ≤ 32768 → AlikeButLine (reading s) (reading t)
mask-line-of-zeros = zero-mask
