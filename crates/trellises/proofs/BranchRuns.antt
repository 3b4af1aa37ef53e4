-- Asking for branches in turn: a word is one of the plate's exactly if each of its bits is answered by a state, the last by state 0; otherwise
-- some question on the way is answered by "no branch".
use Rattle.std.proofs.Common.{Ok, Some}
use lib.ListN.{length}
use lib.Pow.{pow_pos}
use mathlib.Core.List.{List}
use mathlib.Core.Logic.Iff
use mathlib.Core.Logic.{inl, inr, ◌↔◌, ◌⊎◌}
use mathlib.Core.Path.{ap, refl, subst, sym, ◌∙◌, ◌≡◌}
use native.Mathlib.Decide.{dec_lt, ℕ_discrete}
use native.Mathlib.Nat.{le_refl}
use native.Mathlib.Omega.{arith}
use Prim.Native.Nat.{◌<◌, ◌^◌, suc, zero, ℕ, ◌≤◌}
use Rattle.plates.specs.Code.{InCode, Masked}
use Rattle.plates.specs.declared.Kind.{Kind}
use Rattle.plates.specs.declared.Plate.{Plate}
use Rattle.plates.specs.declared.Prepared.{Prepared}
use Rattle.plates.specs.Prepare.{IsPrepared, IsWord, Prepares, rows_of}
use Rattle.plates.specs.Profile.{live_at}
use Rattle.plates.specs.Refusals.{Passes}
use Rattle.trellises.proofs.AcceptedIsPrepared.{accepted-length, accepted-prepared}
use Rattle.trellises.proofs.MaskedGraph.{has-off}
use Rattle.trellises.proofs.PathsOnce.{kept-branch}
use Rattle.trellises.proofs.PlateTrellis.{plate-kept}
use Rattle.trellises.proofs.WordsTrellis.{accepted-words, words-once, words-path-ends, words-spelled}
use Rattle.trellises.specs.Branching.{Branches, branch_conditions, code_trellis, trellis_of}
use Rattle.trellises.specs.Graph.{Branch, Graph, Has, Path, branch_at}
use Rattle.trellises.specs.Masking.{turned}
use Rattle.trellises.specs.Running.{Runs, Stops}
use Rattle.words.proofs.Choice.{gather-lt}
use Rattle.words.proofs.Word.{bit-lt}
use Rattle.words.specs.Word.{bit}

module _ (g : Graph) (t a b : ℕ) where
  -- the first m branches of a section have one from a with bit b, or they have none
  among : (m : ℕ) → m ≤ length (g.branches t) → ((c : ℕ) × Has g t a b c) ⊎ ((c : ℕ) (h : Has g t a b c) → h.place < m → ⊥)
  among zero l = inr (λ c h k. omega arith)
  among (suc m) l = go (among m (omega arith)) (ℕ_discrete (branch_at g t m).from a) (ℕ_discrete (branch_at g t m).out b)
    where
      -- none before m, and not at m
      neither : ((c : ℕ) (h : Has g t a b c) → h.place < m → ⊥) → ((c : ℕ) (h : Has g t a b c) → h.place ≡ m → ⊥) → (c : ℕ) (h : Has g t a b c)
          → h.place < suc m → ⊥
      neither before here c h k = side (dec_lt h.place m)
        where
          side : Dec (h.place < m) → ⊥
          side (yes d) = before c h d
          side (no d) = here c h (omega arith)

      go : ((c : ℕ) × Has g t a b c) ⊎ ((c : ℕ) (h : Has g t a b c) → h.place < m → ⊥) → Dec ((branch_at g t m).from ≡ a) → Dec ((branch_at g t m).out ≡ b)
          → ((c : ℕ) × Has g t a b c) ⊎ ((c : ℕ) (h : Has g t a b c) → h.place < suc m → ⊥)
      go (inl x) d e = inl x
      go (inr n) (yes d) (yes e) = inl ((branch_at g t m).to, record { place = m; there = l; leaves = d; spells = e; leads = refl })
      go (inr n) (no d) e = inr (neither n (λ c h q. d (ap (λ (i : ℕ). (branch_at g t i).from) (sym q) ∙ h.leaves)))
      go (inr n) (yes d) (no e) = inr (neither n (λ c h q. e (ap (λ (i : ℕ). (branch_at g t i).out) (sym q) ∙ h.spells)))

  -- and so all of them
  find : ((c : ℕ) × Has g t a b c) ⊎ ((c : ℕ) → Has g t a b c → ⊥)
  find = go (among (length (g.branches t)) (le_refl _))
    where
      go : ((c : ℕ) × Has g t a b c) ⊎ ((c : ℕ) (h : Has g t a b c) → h.place < length (g.branches t) → ⊥) → ((c : ℕ) × Has g t a b c) ⊎ ((c : ℕ) → Has g t a b c → ⊥)
      go (inl x) = inl x
      go (inr n) = inr (λ c h. n c h h.there)

-- the state found, or 0
abbrev found : {A : ℕ → Type 0} → ((c : ℕ) × A c) ⊎ ((c : ℕ) → A c → ⊥) → ℕ
found (inl x) = x.0
found (inr n) = 0

module _ (plate : Plate) (given : IsPrepared plate) (w : ℕ) where
  -- a question at a depth and a state that exist is not refused
  passes : (i s : ℕ) → i < plate.n → s < 2 ^ live_at (rows_of plate) i → Passes (branch_conditions plate i s (bit w i))
  passes i s h k = ((λ q x. x.0 given), ((λ q x. go x.0), tt))
    where
      go : (plate.n ≤ i) ⊎ ((2 ^ live_at (rows_of plate) i ≤ s) ⊎ (1 < bit w i)) → ⊥
      go (inl a) = omega arith
      go (inr (inl a)) = omega arith
      go (inr (inr a)) = omega (arith, bit-lt i w)

  -- a branch leads to a state of the next depth
  inside : (t a b c : ℕ) → Has (trellis_of plate) t a b c → c < 2 ^ live_at (rows_of plate) (suc t)
  inside t a b c h =
      subst (λ (x : ℕ). x < 2 ^ live_at (rows_of plate) (suc t))
      (sym (ap (λ (b : Branch). b.to) (kept-branch (rows_of plate) _ _ (plate-kept plate given) t own.place own.there)) ∙ own.leads)
      (gather-lt (length (rows_of plate)) _ _)
    where
      -- the code's branch
      own : Has (code_trellis plate) t a (turned (bit plate.mask t) b) c
      own = has-off plate.mask (code_trellis plate) h

  -- a run is a path through the sections that were asked for
  run-path : (t s : ℕ) → Runs plate w t s → Path (trellis_of plate) t w
  run-path t s r = record { state = r.state; inside = within; branch = λ i h. (r.answers i h).1 }
    where
      within : (i : ℕ) → i ≤ t → r.state i < (trellis_of plate).states i
      within zero h = omega (arith, r.begins, (words-spelled plate given).start)
      within (suc i) h = inside i _ _ _ (r.answers i h).1

  -- a word's questions have one outcome
  pub runs-once : (t s s' : ℕ) → Runs plate w t s → Runs plate w t s' → s ≡ s'
  unfolding run-path
  runs-once t s s' r r' =
      sym r.ends ∙ (words-once plate given t w (run-path t s r) (run-path t s' r')).states t (le_refl t) ∙ r'.ends

  -- each bit of a word of the plate is answered by a state, and the last by state 0
  pub word-runs : IsWord plate w → Runs plate w plate.n 0
  word-runs c = run (((words-spelled plate given).exact w).0 c).1
    where
      run : Path (trellis_of plate) plate.n w → Runs plate w plate.n 0
      run p = record {
        state = p.state;
        begins = (words-path-ends plate given w p).0;
        answers = λ i h. (passes i (p.state i) h (p.inside i (omega arith)), p.branch i h);
        ends = (words-path-ends plate given w p).1;
      }

  -- ---- the states in turn, as far as there is a branch

  -- the state after t questions
  walk : ℕ → ℕ
  walk zero = 0
  walk (suc t) = found (find (trellis_of plate) t (walk t) (bit w t))

  -- there is no branch from here with the word's bit
  abbrev None : ℕ → Type 0
  None t = (c : ℕ) → Has (trellis_of plate) t (walk t) (bit w t) c → ⊥

  -- the next question is answered by a state or by "no branch"
  onward : (t : ℕ) → Has (trellis_of plate) t (walk t) (bit w t) (walk (suc t)) ⊎ None t
  unfolding walk
  onward t = go (find (trellis_of plate) t (walk t) (bit w t))
    where
      go : (d : ((c : ℕ) × Has (trellis_of plate) t (walk t) (bit w t) c) ⊎ None t) → Has (trellis_of plate) t (walk t) (bit w t) (found d) ⊎ None t
      go (inl x) = inl x.1
      go (inr n) = inr n

  -- each of the first t questions is answered by the next state
  abbrev Answered : ℕ → Type 0
  Answered t = (i : ℕ) → i < t → Branches plate i (walk i) (bit w i) (Ok (Some (walk (suc i))))

  -- that is a run
  walked : (t : ℕ) → Answered t → Runs plate w t (walk t)
  unfolding walk
  walked t a = record { state = walk; begins = refl; answers = a; ends = refl }

  -- or one is answered by "no branch"
  asked : (t : ℕ) → t ≤ plate.n → (Answered t × (walk t < 2 ^ live_at (rows_of plate) t)) ⊎ Stops plate w
  unfolding walk
  asked zero h = inl ((λ i k. absurd (omega arith)), pow_pos (live_at (rows_of plate) 0))
  asked (suc t) h = go (asked t (omega arith)) (onward t)
    where
      more : Answered t → walk t < 2 ^ live_at (rows_of plate) t → Has (trellis_of plate) t (walk t) (bit w t) (walk (suc t)) → Answered (suc t)
      more a l b i k = side (dec_lt i t)
        where
          side : Dec (i < t) → Branches plate i (walk i) (bit w i) (Ok (Some (walk (suc i))))
          side (yes d) = a i d
          side (no d) =
              let e : t ≡ i = omega arith in
              subst (λ (i : ℕ). Branches plate i (walk i) (bit w i) (Ok (Some (walk (suc i))))) e (passes t (walk t) h l, b)

      go : (Answered t × (walk t < 2 ^ live_at (rows_of plate) t)) ⊎ Stops plate w → Has (trellis_of plate) t (walk t) (bit w t) (walk (suc t)) ⊎ None t
          → (Answered (suc t) × (walk (suc t) < 2 ^ live_at (rows_of plate) (suc t))) ⊎ Stops plate w
      go (inr s) d = inr s
      go (inl a) (inl b) = inl (more a.0 a.1 b, inside t _ _ _ b)
      go (inl a) (inr n) = inr (record { depth = t; within = h; state = walk t; run = walked t a.0; answer = (passes t (walk t) h a.1, n) })

  -- ---- words of length n

  module _ (below : w < 2 ^ plate.n) where
    -- a word whose bits are all answered by states is one of the plate's, and its last state is 0
    pub runs-word : (s : ℕ) → Runs plate w plate.n s → IsWord plate w × (s ≡ 0)
    unfolding run-path
    runs-word s r =
        let p = run-path plate.n s r in
        (((words-spelled plate given).exact w).1 (below, p), sym r.ends ∙ (words-path-ends plate given w p).1)

    -- so exactly the plate's words run to depth n
    pub branch-runs : IsWord plate w ↔ Runs plate w plate.n 0
    branch-runs = (word-runs, λ r. (runs-word 0 r).0)

    -- with any other word some question on the way is answered by "no branch"
    pub other-word-stops : (IsWord plate w → ⊥) → Stops plate w
    other-word-stops n = go (asked plate.n (le_refl plate.n))
      where
        go : (Answered plate.n × (walk plate.n < 2 ^ live_at (rows_of plate) plate.n)) ⊎ Stops plate w → Stops plate w
        go (inl a) = absurd (n (runs-word (walk plate.n) (walked plate.n a.0)).0)
        go (inr s) = s

  -- and with no word of the plate
  pub word-never-stops : IsWord plate w → Stops plate w → ⊥
  unfolding run-path
  word-never-stops c k =
      k.answer.1 (p.state (suc k.depth))
      (subst (λ (s : ℕ). Has (trellis_of plate) k.depth s (bit w k.depth) (p.state (suc k.depth))) same (p.branch k.depth k.within))
    where
      p : Path (trellis_of plate) plate.n w
      p = (((words-spelled plate given).exact w).0 c).1

      -- the first sections of the word's path
      part : Path (trellis_of plate) k.depth w
      part = record {
        state = p.state;
        inside = λ i h. p.inside i (omega (arith, k.within));
        branch = λ i h. p.branch i (omega (arith, k.within));
      }

      same : p.state k.depth ≡ k.state
      same =
          (words-once plate given k.depth w part (run-path k.depth k.state k.run)).states k.depth
          (le_refl k.depth) ∙ k.run.ends

-- the same of the plate that preparing a matrix accepts: exactly the words that the mask makes of the matrix's code run to depth n
pub matrix-runs : (n : ℕ) (kind : Kind) (rows : List ℕ) (mask : ℕ) (r : Prepared) → Prepares n kind rows mask r → r.verdict ≡ Ok tt
    → (w : ℕ) → w < 2 ^ n → Masked (InCode kind n rows) mask w ↔ Runs r.plate w n 0
matrix-runs n kind rows mask r p e w h =
    Iff.trans (accepted-words n kind rows mask r p e w)
    (subst (λ (m : ℕ). w < 2 ^ m → IsWord r.plate w ↔ Runs r.plate w m 0) (accepted-length n kind rows mask r p e)
    (branch-runs r.plate (accepted-prepared n kind rows mask r p e) w) h)
