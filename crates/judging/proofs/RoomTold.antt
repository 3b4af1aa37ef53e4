-- The lines told one by one, from the last to the first.
use lib.ListN.{get_or, length-set, set}
use lib.Seq.{get_or-set_other, get_or-set_same}
use mathlib.Core.List.{List, ◌∷◌}
use mathlib.Core.Path.{ap, ap₂, refl, subst, sym, ◌∙◌, ◌≡◌}
use native.Mathlib.Decide.{dec_lt, ℕ_discrete}
use native.Mathlib.Numerals.{add-one}
use native.Mathlib.Omega.{arith}
use Prim.Native.Nat.{◌%◌, ◌*◌, ◌+◌, ◌-◌, ◌/◌, ◌<◌, suc, zero, ℕ}
use Rattle.sheets.specs.declared.listed.Branch.{Branch}
use Rattle.trellises.specs.Graph.{Graph}
use Rattle.judging.specs.Listing.{listed_graph}
use Rattle.judging.specs.Ours.{ours}
use Rattle.judging.specs.Room.{Holds, SameLines, ToldAt, ToldFrom, decoded, lead_at, listed, start_at, theirs, told_at}
use Rattle.judging.specs.Steps.{Asking, Ready}
use Rattle.judging.specs.Ways.{Tells}

-- ---- the same lines make the same graph

pub same_none : (lines : ℕ) (room : List ℕ) → SameLines lines room room
same_none lines room = record { size = refl; start = λ i l. refl; lead = λ i l. refl }

pub listed_same : (m : ℕ) (F G : ℕ → Branch) → ((i : ℕ) → i < m → F i ≡ G i) → listed m F ≡ listed m G
listed_same zero F G h = refl
listed_same (suc m) F G h = ap₂ ◌∷◌ (h 0 (omega arith)) (listed_same m (λ i. F (suc i)) (λ i. G (suc i)) (λ i l. h (suc i) (omega arith)))

module _ {lines : ℕ} {room room' : List ℕ} (same : SameLines lines room room') where
  pub theirs-same : (n : ℕ) → theirs n lines room' ≡ theirs n lines room
  theirs-same n =
      ap (listed_graph n) (listed_same lines (decoded room') (decoded room) (λ i l.
      ap₂ (λ (s e : ℕ). record { depth = s / 2048; from = s / 2 % 1024; bit = s % 2; to = e }) (same.start i l) (same.lead i l)))

  pub holds_same : {n : ℕ} → Holds n lines room → Holds n lines room'
  holds_same {n} h = record {
    size = same.size ∙ h.size;
    few = h.few;
    short = h.short;
    starts = λ i l. subst (λ (s : ℕ). s < n * 2048) (sym (same.start i l)) (h.starts i l);
    leads = λ i l. subst (λ (e : ℕ). e < 1024) (sym (same.lead i l)) (h.leads i l);
    order = λ i j l m. omega (arith, h.order i j l m, ap (λ (s : ℕ). s / 2048) (same.start i (omega (arith, l, m))), ap (λ (s : ℕ). s / 2048) (same.start j m));
    apart = λ i j l m e. h.apart i j l m (sym (same.start i (omega (arith, l, m))) ∙ e ∙ same.start j m);
  }

-- what is told at a line, in another room with the same line
pub told_moved : (g : Graph) (rows : List ℕ) (mask n : ℕ) (room room' : List ℕ) (j : ℕ) → start_at room j ≡ start_at room' j → lead_at room j ≡ lead_at room' j
    → told_at room j ≡ told_at room' j → ToldAt g rows mask n room j → ToldAt g rows mask n room' j
told_moved g rows mask n room room' j s l x t = record {
  tells =
      subst (λ (s : ℕ). Tells g (ours rows mask) (n - suc (s / 2048)) (suc (s / 2048)) (suc (lead_at room' j)) (told_at room' j)) s
      (subst (λ (l : ℕ). Tells g (ours rows mask) (n - suc (start_at room j / 2048)) (suc (start_at room j / 2048)) (suc l) (told_at room' j)) l
      (subst (Tells g (ours rows mask) (n - suc (start_at room j / 2048)) (suc (start_at room j / 2048)) (suc (lead_at room j))) x t.tells));
}

-- ---- one line more

module _ (rows : List ℕ) (mask n lines : ℕ) (room₀ room : List ℕ) (i : ℕ) (ready : Ready rows mask n room₀ lines) (same : SameLines lines room₀ room)
    (told : ToldFrom (theirs n lines room₀) rows mask n lines room (suc i)) (l : i < lines) where
  holds : Holds n lines room
  holds = holds_same same ready.holds

  pub depth_below : start_at room i / 2048 < n
  depth_below = omega (arith, holds.starts i l)

  pub lead-small : lead_at room i < 1024
  lead-small = holds.leads i l

  -- the state that the line leads to can be told: the lines of its depth come later
  pub asking : Asking rows mask n room lines (start_at room i / 2048 + 1)
  asking = record { ready = record { plate = ready.plate; holds = holds }; within = omega (arith, depth_below); told = λ h j m e. there j m e (dec_lt i j) }
    where
      there : (j : ℕ) → j < lines → start_at room j / 2048 ≡ start_at room i / 2048 + 1 → Dec (i < j) → ToldAt (theirs n lines room) rows mask n room j
      there j m e (yes d) = subst (λ (g : Graph). ToldAt g rows mask n room j) (sym (theirs-same same n)) (told j d m)
      there j m e (no d) = before (ℕ_discrete i j)
        where
          before : Dec (i ≡ j) → ToldAt (theirs n lines room) rows mask n room j
          before (yes q) = absurd (omega (arith, e, ap (λ (k : ℕ). start_at room k / 2048) q))
          before (no q) = absurd (omega (arith, e, holds.order j i (omega (arith, d, q)) l))

  module _ (x : ℕ) where
    other : (k : ℕ) → (k ≡ 4 * i + 2 → ⊥) → get_or (set room (4 * i + 2) x) k 0 ≡ get_or room k 0
    other k d = get_or-set_other room (4 * i + 2) k x 0 (λ e. d e)

    pub same_more : SameLines lines room₀ (set room (4 * i + 2) x)
    same_more = record {
      size = length-set room (4 * i + 2) x ∙ same.size;
      start = λ j m. other (4 * j) (λ e. omega (arith, e)) ∙ same.start j m;
      lead = λ j m. other (4 * j + 1) (λ e. omega (arith, e)) ∙ same.lead j m;
    }

    pub told_more : Tells (theirs n lines room) (ours rows mask) (n - (start_at room i / 2048 + 1)) (start_at room i / 2048 + 1) (suc (lead_at room i)) x
        → ToldFrom (theirs n lines room₀) rows mask n lines (set room (4 * i + 2) x) i
    told_more t j m k = go (ℕ_discrete i j)
      where
        here : ToldAt (theirs n lines room₀) rows mask n (set room (4 * i + 2) x) i
        here = record {
          tells =
              subst (λ (g : Graph). Tells g (ours rows mask) (n - suc (start_at (set room (4 * i + 2) x) i / 2048)) (suc (start_at (set room (4 * i + 2) x) i / 2048)) (suc (lead_at (set room (4 * i + 2) x) i)) (told_at (set room (4 * i + 2) x) i)) (theirs-same same n)
              (subst (λ (s : ℕ). Tells (theirs n lines room) (ours rows mask) (n - suc (s / 2048)) (suc (s / 2048)) (suc (lead_at (set room (4 * i + 2) x) i)) (told_at (set room (4 * i + 2) x) i)) (sym (other (4 * i) (λ e. omega (arith, e))))
              (subst (λ (e : ℕ). Tells (theirs n lines room) (ours rows mask) (n - suc (start_at room i / 2048)) (suc (start_at room i / 2048)) (suc e) (told_at (set room (4 * i + 2) x) i)) (sym (other (4 * i + 1) (λ e. omega (arith, e))))
              (subst (Tells (theirs n lines room) (ours rows mask) (n - suc (start_at room i / 2048)) (suc (start_at room i / 2048)) (suc (lead_at room i))) (sym (get_or-set_same room (4 * i + 2) x 0 (omega (arith, holds.size, l))))
              (subst (λ (d : ℕ). Tells (theirs n lines room) (ours rows mask) (n - d) d (suc (lead_at room i)) x) (add-one (start_at room i / 2048)) t))));
        }

        go : Dec (i ≡ j) → ToldAt (theirs n lines room₀) rows mask n (set room (4 * i + 2) x) j
        go (yes q) = subst (ToldAt (theirs n lines room₀) rows mask n (set room (4 * i + 2) x)) q here
        go (no d) =
            told_moved (theirs n lines room₀) rows mask n room (set room (4 * i + 2) x) j (sym (other (4 * j) (λ e. omega (arith, e)))) (sym (other (4 * j + 1) (λ e. omega (arith, e))))
            (sym (other (4 * j + 2) (λ e. d (omega (arith, e))))) (told j (omega (arith, m, d)) k)

pub told_none : (rows : List ℕ) (mask n lines : ℕ) (g : Graph) (room : List ℕ) → ToldFrom g rows mask n lines room lines
told_none rows mask n lines g room j l m = absurd (omega arith)
