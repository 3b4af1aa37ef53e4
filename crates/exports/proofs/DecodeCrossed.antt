-- How the replies of decode cross: an answer into its cells, a refusal into the cell of the place.
use Rattle.std.proofs.Common.{Ok, Err}
use lib.IntN.{ℤ}
use lib.ListN.{length, set}
use mathlib.Core.List.{List}
use mathlib.Core.Logic.{inr}
use mathlib.Core.Path.{ap, ap₂, sym, ◌∙◌, ◌≡◌}
use Prim.Native.Nat.{ℕ}
use Rattle.decoding.specs.declared.Answer.{Answer}
use Rattle.exports.specs.Calls.{Crossing, RefusedAt, done}
use Rattle.exports.specs.Crossing.{AnswerPut, DecodeCells, Decoding, decoded, decoded_as}
use Rattle.exports.specs.Flat.{plate_of}
use Rattle.exports.specs.Promises.{CallsDecode, DecodeShape, DecodesTo, decode_cells}
use Rattle.plates.specs.declared.Refusal.{Refusal}

module _ (samples : List ℤ) (lent : DecodeCells) (d : Decoding) (words : List ℕ)
    (shape : DecodeShape (length words) (length lent.word) (length lent.metric) (length lent.counts) (length lent.at))
    (decodes : DecodesTo (plate_of words) samples lent d) where
  -- a code and cells that the reply crosses as
  crossed : {out : Crossing DecodeCells} → out ≡ decoded lent d → CallsDecode words samples lent out.code out.cells
  crossed e = record { by_shape = inr (shape, record { reply = d; promised = decodes; crosses = e }) }

  -- the answer is in its cells
  pub decode-found : {a : Answer} {word' counts' : List ℕ} {metric' : List ℤ} → d.reply ≡ Ok a
      → AnswerPut a lent.word lent.metric lent.counts word' metric' counts'
      → CallsDecode words samples lent done (decode_cells d.metrics d.decisions word' metric' counts' (set lent.at 0 0))
  decode-found {a} {word'} {counts'} e laid =
      crossed
      (ap₂ (λ (w : List ℕ) (m : List ℤ). record { code = done; cells = decode_cells d.metrics d.decisions w m counts' (set lent.at 0 0) }) laid.word_is laid.metric_is
      ∙ ap (λ (k : List ℕ). record { code = done; cells = decode_cells d.metrics d.decisions (set lent.word 0 a.word) (set lent.metric 0 a.metric) k (set lent.at 0 0) }) laid.counts_are
      ∙ sym (ap (decoded_as lent d.metrics d.decisions) e))

  -- the place is in its cell
  pub decode-refused : {q : Refusal} {r : ℕ} {at' : List ℕ} → d.reply ≡ Err q → RefusedAt q lent.at r at'
      → CallsDecode words samples lent r (decode_cells d.metrics d.decisions lent.word lent.metric lent.counts at')
  decode-refused e f =
      crossed
      (ap₂ (λ (x : ℕ) (p : List ℕ). record { code = x; cells = decode_cells d.metrics d.decisions lent.word lent.metric lent.counts p }) f.number_is f.place_is
      ∙ sym (ap (decoded_as lent d.metrics d.decisions) e))
