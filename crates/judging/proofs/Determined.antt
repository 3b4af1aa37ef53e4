-- Determined: two replies that meet the promise of `judge` are equal, and so is what stands in the lent room.
use Rattle.std.proofs.Common.{Err, Ok, Option, Result}
use Rattle.sheets.specs.declared.listed.Branch.{Branch}
use lib.ListN.{get_or}
use lib.Seq.{ext_get_or}
use mathlib.Core.Bool.{Bool, false≢true}
use mathlib.Core.List.{List}
use mathlib.Core.Logic.{inl, inr, ◌↔◌, ◌⊎◌}
use mathlib.Core.Path.{ap, refl, subst, sym, ◌∙◌, ◌≡◌}
use native.Mathlib.Decide.{dec_lt}
use native.Mathlib.Nat.{pow-suc}
use native.Mathlib.Omega.{arith}
use Prim.Native.Nat.{◌%◌, ◌/◌, ◌<◌, ◌^◌, suc, zero, ℕ, ◌≤◌}
use Rattle.plates.proofs.Refusing.{Single, never_both, refuses-once}
use Rattle.plates.specs.declared.Plate.{Plate}
use Rattle.plates.specs.declared.Refusal.{Refusal}
use Rattle.plates.specs.declared.Refusal.TheVariants.{BranchFault, BranchTwice}
use Rattle.plates.specs.Prepare.{IsWord, rows_of}
use Rattle.sheets.specs.declared.listed.Entry.{Entry}
use Rattle.sheets.specs.Listed.{entries, entry_at}
use Rattle.trellises.specs.Graph.{Graph, Path, Spells}
use Rattle.words.proofs.Word.{bit-cases}
use Rattle.words.specs.Word.{Earlier, bit}
use Rattle.judging.proofs.NoFewer.{fits}
use Rattle.judging.specs.declared.Judged.{Judged}
use Rattle.judging.specs.declared.Judged.TheVariants.{NotSpelled, Right, SpelledWrongly}
use Rattle.judging.specs.declared.Judgement.{Judgement}
use Rattle.judging.specs.Judging.{FirstLine, Judges, JudgesBy, Missing, Wrongly, graph_against, judging_conditions}
use Rattle.judging.specs.Listing.{faulty_at, repeats_at}
use Rattle.judging.specs.Surplus.{Number, SurplusIn, SurplusOver}

-- of two words of one length, one is the earlier, or they are the same
behind : (a b : ℕ) → a % 2 ≡ b % 2 → Earlier (a / 2) (b / 2) → Earlier a b
behind a b q e = record { place = suc e.place; same = same; zero_here = e.zero_here; one_there = e.one_there }
  where
    same : (i : ℕ) → i < suc e.place → bit a i ≡ bit b i
    same zero m = q
    same (suc i) m = e.same i (omega arith)

one_earlier : (n a b : ℕ) → a < 2 ^ n → b < 2 ^ n → (a ≡ b) ⊎ (Earlier a b ⊎ Earlier b a)
one_earlier zero a b l m = inl (omega arith)
one_earlier (suc n) a b l m = go (bit-cases a 0) (bit-cases b 0) (one_earlier n (a / 2) (b / 2) (omega (arith, pow-suc 2 n)) (omega (arith, pow-suc 2 n)))
  where
    here : (a b : ℕ) → bit a 0 ≡ 0 → bit b 0 ≡ 1 → Earlier a b
    here a b p q = record { place = 0; same = λ i h. absurd (omega arith); zero_here = p; one_there = q }

    later : a % 2 ≡ b % 2 → (a / 2 ≡ b / 2) ⊎ (Earlier (a / 2) (b / 2) ⊎ Earlier (b / 2) (a / 2)) → (a ≡ b) ⊎ (Earlier a b ⊎ Earlier b a)
    later q (inl e) = inl (omega (arith, q, e))
    later q (inr (inl e)) = inr (inl (behind a b q e))
    later q (inr (inr e)) = inr (inr (behind b a (sym q) e))

    go : (bit a 0 ≡ 0) ⊎ (bit a 0 ≡ 1) → (bit b 0 ≡ 0) ⊎ (bit b 0 ≡ 1) → (a / 2 ≡ b / 2) ⊎ (Earlier (a / 2) (b / 2) ⊎ Earlier (b / 2) (a / 2)) → (a ≡ b) ⊎ (Earlier a b ⊎ Earlier b a)
    go (inl p) (inr q) e = inr (inl (here a b p q))
    go (inr p) (inl q) e = inr (inr (here b a q p))
    go (inl p) (inl q) e = later (p ∙ sym q) e
    go (inr p) (inr q) e = later (p ∙ sym q) e

-- ---- numbers

pub number-once : {P : ℕ → Type 0} {c d : ℕ} → Number P c → Number P d → c ≡ d
number-once {P} {c} {d} a b = omega (arith, least a b, least b a)
  where
    least : {c d : ℕ} → Number P c → Number P d → c ≤ d
    least {c} {d} a b = fits P d c b (λ i. get_or a.list i 0) a.each (λ i j l m e. apart i j l m e (dec_lt i j) (dec_lt j i))
      where
        apart : (i j : ℕ) → i < c → j < c → get_or a.list i 0 ≡ get_or a.list j 0 → Dec (i < j) → Dec (j < i) → i ≡ j
        apart i j l m e (yes h) k = absurd (a.different i j h m e)
        apart i j l m e (no h) (yes k) = absurd (a.different j i k l (sym e))
        apart i j l m e (no h) (no k) = omega arith

module _ (g : Graph) (n : ℕ) (rows : List ℕ) {s s' b b' : List ℕ} where
  surplus-once : SurplusOver g n rows s b → SurplusOver g n rows s' b' → (s ≡ s') × (b ≡ b')
  surplus-once x y = (
    ext_get_or 0 s s' (x.depths ∙ sym y.depths) (λ i l. state i (dec_lt n i)),
    ext_get_or 0 b b' (x.sections ∙ sym y.sections) (λ i l. branch i (dec_lt i n)),
  )
    where
      state : (i : ℕ) → Dec (n < i) → get_or s i 0 ≡ get_or s' i 0
      state i (yes h) = x.no_depth i h ∙ sym (y.no_depth i h)
      state i (no h) = omega (arith, number-once (x.state i (omega (arith, h))) (y.state i (omega (arith, h))))

      branch : (i : ℕ) → Dec (i < n) → get_or b i 0 ≡ get_or b' i 0
      branch i (yes h) = omega (arith, number-once (x.branch i h) (y.branch i h))
      branch i (no h) = x.no_section i (omega (arith, h)) ∙ sym (y.no_section i (omega (arith, h)))

-- ---- verdicts

first-once : (es : List (Option Branch)) (test : ℕ → Bool) (i j : ℕ) → FirstLine es test i → FirstLine es test j → i ≡ j
first-once es test i j x y = go (dec_lt i j) (dec_lt j i)
  where
    go : Dec (i < j) → Dec (j < i) → i ≡ j
    go (yes h) k = absurd (false≢true (sym (y.first i h) ∙ x.found))
    go (no h) (yes k) = absurd (false≢true (sym (x.first j k) ∙ y.found))
    go (no h) (no k) = omega arith

module _ (g : Graph) (n : ℕ) (C : ℕ → Type 0) where
  wrongly-once : (v w : ℕ) → Wrongly g n C v → Wrongly g n C w → v ≡ w
  wrongly-once v w x y = go (one_earlier n v w x.before.below y.before.below)
    where
      go : (v ≡ w) ⊎ (Earlier v w ⊎ Earlier w v) → v ≡ w
      go (inl e) = e
      go (inr (inl e)) = absurd (x.no_word ((y.before.earlier v x.before.below e).1 x.spelled))
      go (inr (inr e)) = absurd (y.no_word ((x.before.earlier w y.before.below e).1 y.spelled))

  missing-once : (v w : ℕ) → Missing g n C v → Missing g n C w → v ≡ w
  missing-once v w x y = go (one_earlier n v w x.before.below y.before.below)
    where
      go : (v ≡ w) ⊎ (Earlier v w ⊎ Earlier w v) → v ≡ w
      go (inl e) = e
      go (inr (inl e)) = absurd (x.not_spelled ((y.before.earlier v x.before.below e).0 x.word))
      go (inr (inr e)) = absurd (y.not_spelled ((x.before.earlier w y.before.below e).0 y.word))

  not-both : (v w : ℕ) → Wrongly g n C v → Missing g n C w → ⊥
  not-both v w x y = go (one_earlier n v w x.before.below y.before.below)
    where
      go : (v ≡ w) ⊎ (Earlier v w ⊎ Earlier w v) → ⊥
      go (inl e) = y.not_spelled (subst (Path g n) e x.spelled)
      go (inr (inl e)) = x.no_word ((y.before.earlier v x.before.below e).1 x.spelled)
      go (inr (inr e)) = y.not_spelled ((x.before.earlier w y.before.below e).0 y.word)

  -- a right listing has no such word, and one with such a word is not right
  pub right-not-wrongly : (w : ℕ) → Spells g n C → Wrongly g n C w → ⊥
  right-not-wrongly w s x = x.no_word ((s.exact w).1 (x.before.below, x.spelled))

  pub right-not-missing : (w : ℕ) → Spells g n C → Missing g n C w → ⊥
  right-not-missing w s x = x.not_spelled ((s.exact w).0 x.word).1

module _ (plate : Plate) (es : List (Option Branch)) (room : List ℕ) where
  single : Single (judging_conditions plate es room)
  single = (
    (λ p q x y. x.1 ∙ sym y.1),
    (
      (λ p q x y. x.1 ∙ sym y.1),
      (
        (λ p q x y. x.is ∙ ap (λ (i : ℕ). BranchFault (suc i)) (first-once es (faulty_at es) x.line y.line x.at y.at) ∙ sym y.is),
        (
          (λ p q x y. x.is ∙ ap (λ (i : ℕ). BranchTwice (suc i)) (first-once es (repeats_at es) x.line y.line x.at y.at) ∙ sym y.is),
          ((λ p q x y. x.1 ∙ sym y.1), tt),
        ),
      ),
    ),
  )

  abbrev conditions : List (Refusal → Type 0)
  conditions = judging_conditions plate es room

  abbrev g : Graph
  g = graph_against plate es

  abbrev C : ℕ → Type 0
  C = IsWord plate

  verdict-once : {room' room'' : List ℕ} (v w : Result Judged Refusal) → JudgesBy plate es room room' v → JudgesBy plate es room room'' w → (v ≡ w) × (room' ≡ room'')
  verdict-once (Err p) (Err q) x y = (ap Err (refuses-once conditions single p q x.0 y.0), x.1 ∙ sym y.1)
  verdict-once (Err p) (Ok Right) x y = absurd (never_both conditions y.0 p x.0)
  verdict-once (Err p) (Ok (SpelledWrongly w)) x y = absurd (never_both conditions y.0 p x.0)
  verdict-once (Err p) (Ok (NotSpelled w)) x y = absurd (never_both conditions y.0 p x.0)
  verdict-once (Ok Right) (Err q) x y = absurd (never_both conditions x.0 q y.0)
  verdict-once (Ok Right) (Ok Right) x y = (refl, x.2 ∙ sym y.2)
  verdict-once (Ok Right) (Ok (SpelledWrongly w)) x y = absurd (right-not-wrongly g plate.n C w x.1 y.1)
  verdict-once (Ok Right) (Ok (NotSpelled w)) x y = absurd (right-not-missing g plate.n C w x.1 y.1)
  verdict-once (Ok (SpelledWrongly v)) (Err q) x y = absurd (never_both conditions x.0 q y.0)
  verdict-once (Ok (SpelledWrongly v)) (Ok Right) x y = absurd (right-not-wrongly g plate.n C v y.1 x.1)
  verdict-once (Ok (SpelledWrongly v)) (Ok (SpelledWrongly w)) x y = (ap (λ (u : ℕ). Ok (SpelledWrongly u)) (wrongly-once g plate.n C v w x.1 y.1), x.2 ∙ sym y.2)
  verdict-once (Ok (SpelledWrongly v)) (Ok (NotSpelled w)) x y = absurd (not-both g plate.n C v w x.1 y.1)
  verdict-once (Ok (NotSpelled v)) (Err q) x y = absurd (never_both conditions x.0 q y.0)
  verdict-once (Ok (NotSpelled v)) (Ok Right) x y = absurd (right-not-missing g plate.n C v y.1 x.1)
  verdict-once (Ok (NotSpelled v)) (Ok (SpelledWrongly w)) x y = absurd (not-both g plate.n C w v y.1 x.1)
  verdict-once (Ok (NotSpelled v)) (Ok (NotSpelled w)) x y = (ap (λ (u : ℕ). Ok (NotSpelled u)) (missing-once g plate.n C v w x.1 y.1), x.2 ∙ sym y.2)

  surplus-same : (v : Result Judged Refusal) {s s' b b' : List ℕ} → SurplusIn g plate.n (rows_of plate) v s b → SurplusIn g plate.n (rows_of plate) v s' b' → (s ≡ s') × (b ≡ b')
  surplus-same (Ok Right) x y = surplus-once g plate.n (rows_of plate) x y
  surplus-same (Ok (SpelledWrongly w)) x y = (x.0 ∙ sym y.0, x.1 ∙ sym y.1)
  surplus-same (Ok (NotSpelled w)) x y = (x.0 ∙ sym y.0, x.1 ∙ sym y.1)
  surplus-same (Err q) x y = (x.0 ∙ sym y.0, x.1 ∙ sym y.1)

pub judge-determined : (plate : Plate) (text room room' room'' : List ℕ) (r s : Judgement) → Judges plate text room room' r → Judges plate text room room'' s
    → (r ≡ s) × (room' ≡ room'')
judge-determined plate text room room' room'' r s x y =
    let v = verdict-once plate (entries plate.n text) room r.verdict s.verdict x.reply y.reply in
    let z = surplus-same plate (entries plate.n text) room s.verdict
    (subst (λ (w : Result Judged Refusal). SurplusIn (graph_against plate (entries plate.n text)) plate.n (rows_of plate) w r.states r.branches) v.0 x.surplus) y.surplus in (
      ap (λ (w : Result Judged Refusal). record { verdict = w; states = r.states; branches = r.branches }) v.0
          ∙ ap (λ (l : List ℕ). record { verdict = s.verdict; states = l; branches = r.branches }) z.0
          ∙ ap (λ (l : List ℕ). record { verdict = s.verdict; states = s.states; branches = l }) z.1,
      v.1,
    )

-- the same of `sheets::listed::read_entry`, whose promise names the reply
pub read-entry-determined : (n : ℕ) (text : List ℕ) (at : ℕ) (r s : Entry) → r ≡ entry_at n text at → s ≡ entry_at n text at → r ≡ s
read-entry-determined n text at r s p q = p ∙ sym q

-- ---- right exactly if the full paths spell exactly the plate's words

-- a verdict that is not right
abbrev NotRight : Result Judged Refusal → Type 0
NotRight (Ok Right) = ⊥
NotRight (Ok (SpelledWrongly w)) = Unit {0}
NotRight (Ok (NotSpelled w)) = Unit {0}
NotRight (Err q) = Unit {0}

not_right : (v : Result Judged Refusal) → NotRight v → v ≡ Ok Right → ⊥
not_right v n e = subst NotRight e n

pub right-exactly : (plate : Plate) (text room room' : List ℕ) (r : Judgement) → Judges plate text room room' r → ((q : Refusal) → r.verdict ≡ Err q → ⊥)
    → (r.verdict ≡ Ok Right) ↔ Spells (graph_against plate (entries plate.n text)) plate.n (IsWord plate)
right-exactly plate text room room' r x d = go r.verdict x.reply d
  where
    go : (v : Result Judged Refusal) → JudgesBy plate (entries plate.n text) room room' v → ((q : Refusal) → v ≡ Err q → ⊥)
        → (v ≡ Ok Right) ↔ Spells (graph_against plate (entries plate.n text)) plate.n (IsWord plate)
    go (Ok Right) y d = ((λ e. y.1), λ s. refl)
    go (Ok (SpelledWrongly w)) y d =
        ((λ e. absurd (not_right (Ok (SpelledWrongly w)) tt e)), λ s. absurd (right-not-wrongly (graph_against plate (entries plate.n text)) plate.n (IsWord plate) w s y.1))
    go (Ok (NotSpelled w)) y d =
        ((λ e. absurd (not_right (Ok (NotSpelled w)) tt e)), λ s. absurd (right-not-missing (graph_against plate (entries plate.n text)) plate.n (IsWord plate) w s y.1))
    go (Err q) y d = absurd (d q refl)
