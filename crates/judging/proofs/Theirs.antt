-- The graph that the room holds: its branches are the lines, and a line looked up is the branch asked for.
use borrow.Author.Tests.{eq-eqb, eqb-true}
use lib.Dec.{eqb}
use lib.ListN.{get_or, length}
use mathlib.Core.Bool.{Bool, false, false≢true, true}
use mathlib.Core.List.{List}
use mathlib.Core.Path.{ap, refl, subst, sym, ◌∙◌, ◌≡◌}
use native.Mathlib.Decide.{dec_lt}
use native.Mathlib.Omega.{arith}
use Prim.Native.Nat.{◌%◌, ◌/◌, ◌<◌, suc, zero, ℕ, ◌≤◌}
use Rattle.sheets.specs.declared.listed.Branch.{Branch}
use Rattle.trellises.specs.Graph.{Has}
use Rattle.trellises.specs.Graph as Graphs
use Rattle.judging.specs.Listing.{section_at, with}
use Rattle.judging.specs.Room.{Holds, LineFrom, decoded, key_of, key_test, lead_at, lead_number, listed, start_at, theirs}
use Rattle.judging.specs.Ways.{Leads}
use Rattle.judging.specs.Working.{FirstAt, FirstFound}
use Rattle.std.proofs.Common.{None, Option, Some}

-- a listed branch as a branch of the graph
abbrev plain : Branch → Graphs.Branch
plain b = record { from = b.from; out = b.bit; to = b.to }

-- ---- the branches of a section are the listed ones of its depth

abbrev From : ℕ → (ℕ → Branch) → ℕ → Graphs.Branch → Type 0
From m F t x = (i : ℕ) × (i < m) × ((F i).depth ≡ t) × (x ≡ plain (F i))

pub section-listed : (m : ℕ) (F : ℕ → Branch) (t p : ℕ) → p < length (section_at t (listed m F)) → From m F t (get_or (section_at t (listed m F)) p Graphs.no_branch)
section-listed zero F t p l = absurd (omega arith)
section-listed (suc m) F t p l = go (eqb (F 0).depth t) refl (λ p l. section-listed m (λ i. F (suc i)) t p l) p l
  where
    rest : List Graphs.Branch
    rest = section_at t (listed m (λ i. F (suc i)))

    shift : {x : Graphs.Branch} → From m (λ i. F (suc i)) t x → From (suc m) F t x
    shift r = (suc r.0, omega (arith, r.1), r.2, r.3)

    go : (b : Bool) → eqb (F 0).depth t ≡ b
        → ((p : ℕ) → p < length (section_at t (listed m (λ i. F (suc i)))) → From m (λ i. F (suc i)) t (get_or (section_at t (listed m (λ i. F (suc i)))) p Graphs.no_branch))
        → (p : ℕ) → p < length (with b (plain (F 0)) (section_at t (listed m (λ i. F (suc i)))))
        → From (suc m) F t (get_or (with b (plain (F 0)) (section_at t (listed m (λ i. F (suc i))))) p Graphs.no_branch)
    go true e ih zero l = (0, omega arith, eqb-true (F 0).depth t e, refl)
    go true e ih (suc p) l = shift (ih p (omega arith))
    go false e ih p l = shift (ih p l)

abbrev There : ℕ → (ℕ → Branch) → ℕ → Graphs.Branch → Type 0
There m F t x = (p : ℕ) × (p < length (section_at t (listed m F))) × (get_or (section_at t (listed m F)) p Graphs.no_branch ≡ x)

pub listed-section : (m : ℕ) (F : ℕ → Branch) (t i : ℕ) → i < m → (F i).depth ≡ t → There m F t (plain (F i))
listed-section zero F t i l e = absurd (omega arith)
listed-section (suc m) F t zero l e = rw (eq-eqb (F 0).depth t e) (0, omega arith, refl)
listed-section (suc m) F t (suc i) l e = go (eqb (F 0).depth t) (listed-section m (λ i. F (suc i)) t i (omega arith) e)
  where
    go : (b : Bool) → There m (λ i. F (suc i)) t (plain (F (suc i)))
        → (p : ℕ) × (p < length (with b (plain (F 0)) (section_at t (listed m (λ i. F (suc i))))))
        × (get_or (with b (plain (F 0)) (section_at t (listed m (λ i. F (suc i))))) p Graphs.no_branch ≡ plain (F (suc i)))
    go true r = (suc r.0, omega (arith, r.1), r.2)
    go false r = r

-- ---- lines

module _ (n lines : ℕ) (room : List ℕ) where
  -- a branch of the graph is a line
  pub has-line : (t a b c : ℕ) → Has (theirs n lines room) t a b c → (i : ℕ) × (i < lines) × (start_at room i ≡ key_of t a b) × (lead_at room i ≡ c)
  has-line t a b c h =
      let r = section-listed lines (decoded room) t h.place h.there in
      let k : ℕ = start_at room r.0 in
      let d : k / 2048 ≡ t = r.2 in
      let f : k / 2 % 1024 ≡ a = ap (λ (x : Graphs.Branch). x.from) (sym r.3) ∙ h.leaves in
      let o : k % 2 ≡ b = ap (λ (x : Graphs.Branch). x.out) (sym r.3) ∙ h.spells in
      (r.0, r.1, omega (arith, d, f, o), ap (λ (x : Graphs.Branch). x.to) (sym r.3) ∙ h.leads)

  pub has-range : (t a b c : ℕ) → Has (theirs n lines room) t a b c → (a < 1024) × (b < 2)
  has-range t a b c h =
      let r = section-listed lines (decoded room) t h.place h.there in
      let f : start_at room r.0 / 2 % 1024 ≡ a = ap (λ (x : Graphs.Branch). x.from) (sym r.3) ∙ h.leaves in
      let o : start_at room r.0 % 2 ≡ b = ap (λ (x : Graphs.Branch). x.out) (sym r.3) ∙ h.spells in
      (omega (arith, f), omega (arith, o))

  -- and a line is a branch
  pub line-has : (t a b i : ℕ) → a < 1024 → b < 2 → i < lines → start_at room i ≡ key_of t a b → Has (theirs n lines room) t a b (lead_at room i)
  line-has t a b i la lb l e =
      let d : start_at room i / 2048 ≡ t = omega (arith, e) in
      let r = listed-section lines (decoded room) t i l d in
      record {
        place = r.0;
        there = r.1;
        leaves = ap (λ (x : Graphs.Branch). x.from) r.2 ∙ omega (arith, e);
        spells = ap (λ (x : Graphs.Branch). x.out) r.2 ∙ omega (arith, e);
        leads = ap (λ (x : Graphs.Branch). x.to) r.2;
      }

  module _ (holds : Holds n lines room) (t u b : ℕ) (j : Option ℕ) (small : u ≤ 1024) (two : b < 2) (l : LineFrom room lines t u b j) where
    found-at : (i v : ℕ) → j ≡ Some i → u ≡ suc v → FirstAt lines (key_test room (key_of t v b)) i
    found-at i v q e = subst (FirstFound lines (key_test room (key_of t v b))) q (l.some v e)

    -- the line that is found has the start asked for
    pub found-start : (i v : ℕ) → j ≡ Some i → u ≡ suc v → start_at room i ≡ key_of t v b
    found-start i v q e = eqb-true (start_at room i) (key_of t v b) (found-at i v q e).here

    lead_is : (i : ℕ) → j ≡ Some i → lead_number room j ≡ suc (lead_at room i)
    lead_is i q = ap (lead_number room) q

    no_lead : j ≡ None → lead_number room j ≡ 0
    no_lead q = ap (lead_number room) q

    -- a line with that start is the one that is found
    only : (v : ℕ) → u ≡ suc v → (i : ℕ) → i < lines → start_at room i ≡ key_of t v b → j ≡ Some i
    only v e i m q = go j refl
      where
        tested : key_test room (key_of t v b) i ≡ true
        tested = eq-eqb (start_at room i) (key_of t v b) q

        same : (k : ℕ) → j ≡ Some k → Dec (i < k) → Dec (k < i) → k ≡ i
        same k p (yes d) x = absurd (false≢true (sym ((found-at k v p e).before i d) ∙ tested))
        same k p (no d) (yes x) = absurd (holds.apart k i x m (found-start k v p e ∙ sym q))
        same k p (no d) (no x) = omega arith

        go : (o : Option ℕ) → j ≡ o → j ≡ Some i
        go None p = absurd (false≢true (sym (subst (FirstFound lines (key_test room (key_of t v b))) p (l.some v e) i m) ∙ tested))
        go (Some k) p = p ∙ ap Some (same k p (dec_lt i k) (dec_lt k i))

    some : (c : ℕ) (o : Option ℕ) → j ≡ o → lead_number room j ≡ suc c → (w : ℕ) → w ≡ u → (v : ℕ) × (u ≡ suc v) × Has (theirs n lines room) t v b c
    some c None p e w q = absurd (omega (arith, e, no_lead p))
    some c (Some i) p e zero q = absurd (omega (arith, e, no_lead (l.none (sym q))))
    some c (Some i) p e (suc v) q =
        let k : lead_at room i ≡ c = omega (arith, lead_is i p, e) in
        (v, sym q, subst (Has (theirs n lines room) t v b) k (line-has t v b i (omega (arith, q, small)) two (l.there i p) (found-start i v p (sym q))))

    -- it leads where the branch asked for leads
    pub line-leads : Leads (theirs n lines room) t u b (lead_number room j)
    line-leads = record {
      none = λ e. no_lead (l.none e);
      all = λ v c e h. let r = has-line t v b c h in lead_is r.0 (only v e r.0 r.1 r.2) ∙ ap suc r.3;
      some = λ c e. some c j refl e u refl;
    }
