-- A zero mask gives all earlier replies (document 02, A11): the promise of each call is the one that it was before plates had masks.
use Rattle.std.proofs.Common.{Result, Ok, Err, Option, Some, None}
use Rattle.decoding.specs.declared.Answer.{Answer}
use Rattle.asking.specs.declared.Reason.{Reason}
use Rattle.decoding.specs.declared.firmness.Flag.{Flag}
use Rattle.decoding.specs.declared.apart.Selection.{Selection}
use Rattle.decoding.specs.declared.apart.Measure.{Measure}
use lib.IntN.{ℤ}
use lib.Pow.{pow_pos}
use mathlib.Core.List.{List, [], ◌∷◌}
use mathlib.Core.Logic.{inl, inr, ◌↔◌}
use mathlib.Core.Path.{ap, fun_ext, refl, subst, sym, ◌∙◌, ◌≡◌}
use native.Mathlib.Omega.{arith}
use Prim.Native.Nat.{ℕ}
use Rattle.asking.proofs.AskingUnmasked.{why-not-unmasked}
use Rattle.asking.specs.Asking.{Asks}
use Rattle.coding.proofs.ZeroMask.{zero-mask-encodes, zero-mask-reads-back}
use Rattle.coding.specs.Coding.{Encodes, ReadsBack}
use Rattle.coding.specs.Unmasked.{EncodesCodeword, ReadsCodeword}
use Rattle.decoding.proofs.MaskedDecoding.{decode-unmasked, firmness-unmasked, metric-unmasked, word-unmasked}
use Rattle.decoding.specs.Apart.{Chooses, Measures}
use Rattle.decoding.specs.Decode.{Decodes}
use Rattle.decoding.specs.Firmness.{TellsFirmness}
use Rattle.demands.specs.Unmasked.{AsksCodeword, BranchesIn, ChoosesCodeword, DecodesCodeword, JudgesCodeword, MeasuresCodeword}
use Rattle.demands.specs.Unmasked.{IsPreparedUnmasked, PreparesUnmasked, unmasked_conditions}
use Rattle.plates.specs.Code.{InCode}
use Rattle.plates.specs.declared.Kind.{Kind}
use Rattle.plates.specs.declared.Kind.TheVariants.{G}
use Rattle.plates.specs.declared.Plate.{Plate}
use Rattle.plates.specs.declared.Prepared.{Prepared}
use Rattle.plates.specs.declared.Refusal.{Refusal}
use Rattle.plates.specs.Prepare.{IsPrepared, Prepares, PreparesAs, prepare_conditions, rows_of}
use Rattle.plates.specs.Refusals.{Passes, Refuses}
use Rattle.trellises.specs.Branching.{Branches, code_trellis, trellis_of}
use Rattle.trellises.specs.Graph.{Branch, Graph}
use Rattle.trellises.specs.Masking.{masked, turned_all}
use Rattle.words.proofs.Word.{bit-zero}

-- ---- prepare

module _ (n : ℕ) (kind : Kind) (rows : List ℕ) where
  -- a zero mask is never refused, so 23 drops out of the order
  without-23 : (q : Refusal) → Refuses (prepare_conditions n kind rows 0) q → Refuses (unmasked_conditions n kind rows) q
  without-23 q (inl a) = inl a
  without-23 q (inr (a, inl b)) = inr (a, inl b)
  without-23 q (inr (a, inr (b, inl c))) = inr (a, inr (b, inl c))
  without-23 q (inr (a, inr (b, inr (c, inl m)))) = absurd (omega (arith, m.0, pow_pos n))
  without-23 q (inr (a, inr (b, inr (c, inr (m, d))))) = inr (a, inr (b, inr (c, d)))

  with-23 : (q : Refusal) → Refuses (unmasked_conditions n kind rows) q → Refuses (prepare_conditions n kind rows 0) q
  with-23 q (inl a) = inl a
  with-23 q (inr (a, inl b)) = inr (a, inl b)
  with-23 q (inr (a, inr (b, inl c))) = inr (a, inr (b, inl c))
  with-23 q (inr (a, inr (b, inr (c, d)))) = inr (a, inr (b, inr (c, inr ((λ x m. omega (arith, m.0, pow_pos n)), d))))

  reply-unmasked : (v : Result (Unit {0}) Refusal) (plate : Plate)
      → PreparesAs (prepare_conditions n kind rows 0) (InCode kind n rows) n 0 plate v
      ↔ PreparesAs (unmasked_conditions n kind rows) (InCode kind n rows) n 0 plate v
  reply-unmasked (Err q) plate = ((λ x. (without-23 q x.0, x.1)), λ x. (with-23 q x.0, x.1))
  reply-unmasked (Ok _) plate = ((λ x. (short x.0, x.1)), λ x. (long x.0, x.1))
    where
      short : Passes (prepare_conditions n kind rows 0) → Passes (unmasked_conditions n kind rows)
      short (a, (b, (c, (m, d)))) = (a, (b, (c, d)))

      long : Passes (unmasked_conditions n kind rows) → Passes (prepare_conditions n kind rows 0)
      long (a, (b, (c, d))) = (a, (b, (c, ((λ x m. omega (arith, m.0, pow_pos n)), d))))

  pub prepare-zero-mask : (r : Prepared) → Prepares n kind rows 0 r ↔ PreparesUnmasked n kind rows r
  prepare-zero-mask r =
      ((λ p. (reply-unmasked r.verdict r.plate).0 p.reply), λ x. record { reply = (reply-unmasked r.verdict r.plate).1 x })

-- ---- refusal 5, and with it the lines that take a plate

module _ (plate : Plate) (none : plate.mask ≡ 0) where
  pub is-prepared-zero-mask : IsPrepared plate ↔ IsPreparedUnmasked plate
  is-prepared-zero-mask = (
    (λ p. (
      p.few,
      (prepare-zero-mask plate.n G (rows_of plate) own).0 (subst (λ (m : ℕ). Prepares plate.n G (rows_of plate) m own) none p.same),
    )),
    λ x. record {
      few = x.0;
      same = subst (λ (m : ℕ). Prepares plate.n G (rows_of plate) m own) (sym none) ((prepare-zero-mask plate.n G (rows_of plate) own).1 x.1);
    },
  )
    where
      own : Prepared
      own = record { verdict = Ok tt; plate = plate }

  -- ---- branch

  -- the trellis is the code's
  turned_none : (bs : List Branch) → turned_all 0 bs ≡ bs
  turned_none [] = refl
  turned_none (b ∷ bs) = ap (λ (x : List Branch). b ∷ x) (turned_none bs)

  pub trellis-zero-mask : trellis_of plate ≡ code_trellis plate
  trellis-zero-mask =
      ap (λ (m : ℕ). masked m (code_trellis plate)) none
      ∙ ap (λ (f : ℕ → List Branch). record { states = (code_trellis plate).states; branches = f })
      (fun_ext (λ t. ap (λ (d : ℕ). turned_all d ((code_trellis plate).branches t)) (bit-zero t) ∙ turned_none ((code_trellis plate).branches t)))

  in_code : (depth state bit : ℕ) (r : Result (Option ℕ) Refusal) → BranchesIn (trellis_of plate) plate depth state bit r ↔ BranchesIn (code_trellis plate) plate depth state bit r
  in_code depth state bit r = (
    subst (λ (g : Graph). BranchesIn g plate depth state bit r) trellis-zero-mask,
    subst (λ (g : Graph). BranchesIn g plate depth state bit r) (sym trellis-zero-mask),
  )

  pub branch-zero-mask : (depth state bit : ℕ) (r : Result (Option ℕ) Refusal) → Branches plate depth state bit r ↔ BranchesIn (code_trellis plate) plate depth state bit r
  branch-zero-mask depth state bit (Ok (Some next)) = in_code depth state bit (Ok (Some next))
  branch-zero-mask depth state bit (Ok None) = in_code depth state bit (Ok None)
  branch-zero-mask depth state bit (Err q) = in_code depth state bit (Err q)

  -- ---- encode and read back

  pub encode-zero-mask : (information : ℕ) (r : Result ℕ Refusal) → Encodes plate information r ↔ EncodesCodeword plate information r
  encode-zero-mask = zero-mask-encodes plate none

  pub read-back-zero-mask : (word : ℕ) (r : Result ℕ Refusal) → ReadsBack plate word r ↔ ReadsCodeword plate word r
  read-back-zero-mask = zero-mask-reads-back plate none

  -- ---- decode, metric, word, firmness, why not: over the codewords

  pub decode-zero-mask : (samples metrics : List ℤ) (decisions : List ℕ) (metrics' : List ℤ) (decisions' : List ℕ) (r : Result Answer Refusal)
      → Decodes plate samples metrics decisions metrics' decisions' r ↔ DecodesCodeword plate samples metrics decisions metrics' decisions' r
  decode-zero-mask samples metrics decisions metrics' decisions' (Ok a) =
      let e = decode-unmasked plate none samples a in ((λ x. (x.0, e.0 x.1, x.2)), λ x. (x.0, e.1 x.1, x.2))
  decode-zero-mask samples metrics decisions metrics' decisions' (Err q) = ((λ x. x), λ x. x)

  pub metric-zero-mask : (samples metrics metrics' : List ℤ) (r : Result Measure Refusal)
      → Measures plate samples metrics metrics' r ↔ MeasuresCodeword plate samples metrics metrics' r
  metric-zero-mask samples metrics metrics' (Ok m) =
      let e = metric-unmasked plate none samples m in ((λ x. (x.0, e.0 x.1, x.2)), λ x. (x.0, e.1 x.1, x.2))
  metric-zero-mask samples metrics metrics' (Err q) = ((λ x. x), λ x. x)

  pub word-zero-mask : (samples metrics : List ℤ) (decisions : List ℕ) (metrics' : List ℤ) (decisions' : List ℕ) (r : Result Selection Refusal)
      → Chooses plate samples metrics decisions metrics' decisions' r ↔ ChoosesCodeword plate samples metrics decisions metrics' decisions' r
  word-zero-mask samples metrics decisions metrics' decisions' (Ok c) =
      let e = word-unmasked plate none samples c in ((λ x. (x.0, e.0 x.1, x.2)), λ x. (x.0, e.1 x.1, x.2))
  word-zero-mask samples metrics decisions metrics' decisions' (Err q) = ((λ x. x), λ x. x)

  pub firmness-zero-mask : (samples : List ℤ) (position : ℕ) (metrics : List ℤ) (decisions : List ℕ) (metrics' : List ℤ) (decisions' : List ℕ) (r : Result Flag Refusal)
      → TellsFirmness plate samples position metrics decisions metrics' decisions' r ↔ JudgesCodeword plate samples position metrics decisions metrics' decisions' r
  firmness-zero-mask samples position metrics decisions metrics' decisions' (Ok flag) =
      let e = firmness-unmasked plate none samples position flag in ((λ x. (x.0, e.0 x.1, x.2)), λ x. (x.0, e.1 x.1, x.2))
  firmness-zero-mask samples position metrics decisions metrics' decisions' (Err q) = ((λ x. x), λ x. x)

  pub why-not-zero-mask : (samples : List ℤ) (w : ℕ) (metrics : List ℤ) (decisions : List ℕ) (metrics' : List ℤ) (decisions' : List ℕ) (r : Result Reason Refusal)
      → Asks plate samples w metrics decisions metrics' decisions' r ↔ AsksCodeword plate samples w metrics decisions metrics' decisions' r
  why-not-zero-mask samples w metrics decisions metrics' decisions' (Ok reason) =
      let e = why-not-unmasked plate none samples w reason in ((λ x. (x.0, e.0 x.1, x.2)), λ x. (x.0, e.1 x.1, x.2))
  why-not-zero-mask samples w metrics decisions metrics' decisions' (Err q) = ((λ x. x), λ x. x)
