-- Demand 2: the trellis is that of Wolf and Massey: full paths spell exactly the codewords, each once. Decoding returns the codeword of
-- greatest correlation, of equals the one with 0 at the first difference. Encode and read back undo each other. "Code" and "codeword" are
-- read as the words of the plate (document 02, A11): codewords plus mask, which are the codewords where the mask is zero.
use Rattle.std.proofs.Common.{Result, Ok, Err}
use Rattle.plates.specs.declared.Refusal.{Refusal}
use lib.IntN.{nat_abs, pos, ℤ}
use lib.ListN.{get_or, length}
use mathlib.Core.List.{List}
use mathlib.Core.Logic.{◌↔◌}
use mathlib.Core.Path.{subst, sym, ◌∙◌, ◌≡◌}
use Prim.Native.Nat.{◌<◌, ◌^◌, ℕ, ◌≤◌}
use Rattle.coding.proofs.PlateWords.{made-is-word}
use Rattle.coding.proofs.RoundTrip.{encode-then-read, read-refuses, read-then-encode}
use Rattle.coding.specs.Coding.{Encodes, ReadsBack, word_of}
use Rattle.decoding.specs.declared.Answer.{Answer}
use Rattle.decoding.specs.Decode.{Decodes, decision_need, metric_need}
use Rattle.decoding.specs.Metric.{limit}
use Rattle.demands.proofs.Demand1.{decode-passed-found, decode-passes}
use Rattle.demands.specs.Greatest.{Greatest}
use Rattle.plates.specs.Code.{Checked, InCode, Masked}
use Rattle.plates.specs.declared.Kind.{Kind}
use Rattle.plates.specs.declared.Prepared.{Prepared}
use Rattle.plates.specs.declared.Refusal.TheVariants.{NoCodeword}
use Rattle.plates.specs.Prepare.{Prepares}
use Rattle.trellises.proofs.AcceptedIsPrepared.{accepted-length, accepted-prepared}
use Rattle.trellises.proofs.WolfMassey.{matrix-massey, matrix-wolf}
use Rattle.trellises.proofs.WordsTrellis.{accepted-words, matrix-smallest, matrix-spells, words-proper}
use Rattle.trellises.specs.Beginnings.{SameContinuations, SameSyndrome}
use Rattle.trellises.specs.Branching.{trellis_of}
use Rattle.trellises.specs.Graph.{Path}
use Rattle.trellises.specs.Smallest.{Proper, SamePath}

-- A matrix as G or H and a mask, and what preparing them replies where it accepts. The words are those that the mask makes of the matrix's own code
module _ (n : ℕ) (kind : Kind) (rows : List ℕ) (mask : ℕ) (r : Prepared) (p : Prepares n kind rows mask r) (e : r.verdict ≡ Ok tt) where
  -- ---- the trellis

  -- full paths spell exactly the words
  pub paths-spell-words : (w : ℕ) → Masked (InCode kind n rows) mask w ↔ ((w < 2 ^ n) × Path (trellis_of r.plate) n w)
  paths-spell-words = (matrix-spells n kind rows mask r p e).exact

  -- each once
  pub each-spelled-once : (w : ℕ) (a b : Path (trellis_of r.plate) n w) → SamePath (trellis_of r.plate) n w a b
  each-spelled-once = (matrix-smallest n kind rows mask r p e).once

  -- every state and every branch is on the path of a word, and a state and a bit decide the branch
  pub trellis-is-proper : Proper (trellis_of r.plate) n
  trellis-is-proper =
      subst (Proper (trellis_of r.plate)) (accepted-length n kind rows mask r p e) (words-proper r.plate (accepted-prepared n kind rows mask r p e))

  module _ (a b : ℕ) (x : Masked (InCode kind n rows) mask a) (y : Masked (InCode kind n rows) mask b)
      (s : Path (trellis_of r.plate) n a) (q : Path (trellis_of r.plate) n b) (t : ℕ) (h : t ≤ n) where
    -- of Massey: the paths of two words meet exactly where their beginnings have the same continuations
    pub trellis-of-massey : (s.state t ≡ q.state t) ↔ SameContinuations (Masked (InCode kind n rows) mask) t a b
    trellis-of-massey = matrix-massey n kind rows mask r p e a b x y s q t h

    -- of Wolf: exactly where their beginnings have the same partial syndrome, by any parity-check matrix of the matrix's code
    pub trellis-of-wolf : (checks : List ℕ) → ((w : ℕ) → InCode kind n rows w ↔ Checked n checks w)
        → (s.state t ≡ q.state t) ↔ SameSyndrome checks t a b
    trellis-of-wolf checks same = matrix-wolf n kind rows mask r p e a b x y checks same s q t h

  -- ---- decoding

  -- whatever decoding finds is the word of greatest correlation, of equals the one with 0 at the first difference
  pub decode-greatest : (samples metrics metrics' : List ℤ) (decisions decisions' : List ℕ) (a : Answer)
      → Decodes r.plate samples metrics decisions metrics' decisions' (Ok a) → Greatest (Masked (InCode kind n rows) mask) samples a.word a.metric
  decode-greatest samples metrics metrics' decisions decisions' a d = record {
    codeword = (accepted-words n kind rows mask r p e a.word).1 d.1.codeword;
    own = d.1.metric;
    greatest = λ w c. d.1.greatest w ((accepted-words n kind rows mask r p e w).0 c);
    earliest = λ w c. d.1.earliest w ((accepted-words n kind rows mask r p e w).0 c);
  }

  -- and n samples within the limit, with rooms that are long enough, are decoded so
  pub decode-returns-greatest : (samples metrics metrics' : List ℤ) (decisions decisions' : List ℕ) (x : Result Answer Refusal)
      → Decodes r.plate samples metrics decisions metrics' decisions' x → length samples ≡ n
      → ((i : ℕ) → i < length samples → nat_abs (get_or samples i (pos 0)) ≤ limit) → metric_need r.plate ≤ length metrics
      → decision_need r.plate ≤ length decisions → (a : Answer) × (x ≡ Ok a) × Greatest (Masked (InCode kind n rows) mask) samples a.word a.metric
  decode-returns-greatest samples metrics metrics' decisions decisions' x d size within m o =
      let g = accepted-prepared n kind rows mask r p e in
      let h = decode-passes r.plate samples metrics decisions g (size ∙ sym (accepted-length n kind rows mask r p e)) within m o in
      let f = decode-passed-found r.plate samples metrics decisions metrics' decisions' x d h in
      let found = subst (Decodes r.plate samples metrics decisions metrics' decisions') f.1 d in
      (f.0, f.1, decode-greatest samples metrics metrics' decisions decisions' f.0 found)

  -- ---- encode and read back

  -- information with no one at k or beyond is encoded to a word, which is read back as that information
  pub encode-then-read-back : (u : ℕ) → u < 2 ^ r.plate.k → (x : Result ℕ Refusal) → Encodes r.plate u x
      → (w : ℕ) × Masked (InCode kind n rows) mask w × (x ≡ Ok w) × ((s : Result ℕ Refusal) → ReadsBack r.plate w s → s ≡ Ok u)
  encode-then-read-back u h x d =
      let w : ℕ = word_of r.plate u in
      let b = encode-then-read r.plate (accepted-prepared n kind rows mask r p e) u h x d in
      (w, (accepted-words n kind rows mask r p e w).1 (made-is-word r.plate u), b.0, b.1)

  -- a word is read back as information which is encoded to that word
  pub read-back-then-encode : (w : ℕ) → Masked (InCode kind n rows) mask w → (s : Result ℕ Refusal) → ReadsBack r.plate w s
      → (u : ℕ) × (s ≡ Ok u) × ((x : Result ℕ Refusal) → Encodes r.plate u x → x ≡ Ok w)
  read-back-then-encode w c =
      read-then-encode r.plate (accepted-prepared n kind rows mask r p e) w ((accepted-words n kind rows mask r p e w).0 c)

  -- any that is no word of the plate is refused
  pub read-back-refuses-others : (w : ℕ) (s : Result ℕ Refusal) → ReadsBack r.plate w s → (s ≡ Err NoCodeword) ↔ (Masked (InCode kind n rows) mask w → ⊥)
  read-back-refuses-others w s d =
      let c = accepted-words n kind rows mask r p e w in
      let b = read-refuses r.plate (accepted-prepared n kind rows mask r p e) w s d in
      ((λ x y. b.0 x (c.0 y)), λ x. b.1 (λ y. x (c.1 y)))
