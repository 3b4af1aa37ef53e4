-- The lists of an alist text, those of the columns and then those of the rows, judged one after the other (A1).
use borrow.Author.Tests.{eq-eqb, eqb-true, le-ltb, lt-ltb, ne_eqb}
use lib.Dec.{eqb, ltb}
use lib.ListN.{drop, get_or, length, length-append, length-drop, take}
use lib.Seq.{drop-cons, take-append_seam}
use mathlib.Core.Bool.{Bool, ◌&&◌, cond, false, true}
use mathlib.Core.List.{◌++◌, List, [], append_assoc, append-nil, ◌∷◌}
use mathlib.Core.Logic.{inl}
use mathlib.Core.Path.{ap, refl, subst, sym, ◌∙◌, ◌≡◌}
use native.Mathlib.Omega.{arith}
use Prim.Native.Nat.{◌+◌, ◌-◌, ◌<◌, suc, ℕ, ◌≤◌}
use Rattle.alists.proofs.NumbersFound.{both}
use Rattle.alists.proofs.Storing.{line-long}
use Rattle.alists.specs.Lines.{Line, faulty, line_of, reads}
use Rattle.alists.specs.Lists.{column}
use Rattle.alists.specs.Reading.{Lists, Word, ended, faulty_at, judged, listed_as, listed_on, lists, lists_from}
use Rattle.alists.specs.Reading.{on_columns, on_rows, onto, shows, word, word_of, wrong}
use Rattle.demands.proofs.AlistLines.{lines-some}
use Rattle.demands.proofs.AlistSteps.{Outcome, fit, true-not-false, unfit, unread}
use Rattle.demands.specs.AlistFaults.{FirstFaulty, fits, is_list, shows_ones, word_in, words_in}
use Rattle.sheets.specs.Text.{lines}
use Rattle.sheets.specs.Text as Texts

-- ---- behind the last list

-- the lists before some others
abbrev pub after : List ℕ → Lists → Lists
after us (lists ws s) = lists (us ++ ws) s
after us (faulty_at i) = faulty_at i

after-onto : (us : List ℕ) (w : ℕ) (l : Lists) → after us (onto w l) ≡ after (us ++ w ∷ []) l
after-onto us w (lists ws s) = ap (λ (vs : List ℕ). lists vs s) (sym (append_assoc us (w ∷ []) ws))
after-onto us w (faulty_at i) = refl

-- the line is another number
at-line : (above : List (List ℕ)) (s : List ℕ) {j k : ℕ} → j ≡ k → FirstFaulty above (lines s) j → FirstFaulty above (lines s) k
at-line above s e = subst (λ (i : ℕ). FirstFaulty above (lines s) i) e

module _ (a b c d : List ℕ) where
  abbrev pub n : ℕ
  n = get_or a 0 0

  abbrev pub m : ℕ
  m = get_or a 1 0

  abbrev pub tall : ℕ
  tall = get_or b 0 0

  abbrev pub wide : ℕ
  wide = get_or b 1 0

  -- the four lines, and lists
  abbrev pub top : List (List ℕ) → List (List ℕ)
  top ls = a ∷ b ∷ c ∷ d ∷ ls

  -- no line is left: an extra one is told
  end-judged : (ls : List (List ℕ)) (rows s : List ℕ) → length ls ≡ n + m → length rows ≡ m → Outcome (top ls) s (ended n rows s)
  end-judged ls rows [] e f = (eq-eqb (length ls) (n + m) e, refl)
  end-judged ls rows (x ∷ s) e f =
      at-line (top ls) (x ∷ s) (omega (arith, e, f)) (go (eqb x 10) refl)
    where
      column-list : List ℕ → Bool
      column-list vs = eqb (length vs) tall && is_list (word_of m (get_or c (length ls) 0) vs)

      row_list : List ℕ → Bool
      row_list vs = eqb (length vs) wide && shows_ones (word_of n (get_or d (length ls - n) 0) vs) (column (words_in m c (take n ls)) (length ls - n))

      none : (vs : List ℕ) → fits (top ls) vs ≡ true → ⊥
      none vs g =
          let one : Bool → Bool = λ t. cond t (row_list vs) false in
          let two : Bool → Bool = λ t. cond t (column-list vs) (cond (ltb (length ls) (n + m)) (row_list vs) false) in
          true-not-false (sym g ∙ ap two (le-ltb (length ls) n (omega (arith, e)))
          ∙ ap one (le-ltb (length ls) (n + m) (omega (arith, e))))

      told : (l : List ℕ) (ps : List (List ℕ)) → (l ≡ [] → ps ≡ [] → ⊥) → FirstFaulty (top ls) (l ∷ ps) (suc (length (top ls)))
      told l [] h = (refl, λ w z. h z refl)
      told l (p ∷ ps) h = inl (refl, λ vs q g. none vs g)

      on : (ps : List (List ℕ)) → FirstFaulty (top ls) (Texts.onto x ps) (suc (length (top ls)))
      on [] = told (x ∷ []) [] (λ z w. let y : ◌≡◌ {A = ℕ} 0 1 = cc in omega arith)
      on (p ∷ ps) = told (x ∷ p) ps (λ z w. let y : ◌≡◌ {A = ℕ} 0 1 = cc in omega arith)

      go : (t : Bool) → eqb x 10 ≡ t → FirstFaulty (top ls) (cond t ([] ∷ lines s) (Texts.onto x (lines s))) (suc (length (top ls)))
      go true q = told [] (lines s) (λ z w. lines-some s w)
      go false q = on (lines s)

  -- ---- the rows' lists, behind those of the columns

  module _ (cols : List (List ℕ)) (counted : length cols ≡ n) (some : 0 < length (words_in m c cols)) (rows-many : length d ≡ m) where
    abbrev seen : List ℕ
    seen = words_in m c cols

    shows-is : (ws : List ℕ) → 0 < length ws → (i w : ℕ) → shows ws i w ≡ eqb w (column ws i)
    shows-is [] h i w = absurd (omega arith)
    shows-is (v ∷ vs) h i w = refl

    -- what fits as row i's list
    row_fits : (ls : List (List ℕ)) → length ls < m → (vs : List ℕ)
        → fits (top (cols ++ ls)) vs ≡ (eqb (length vs) wide && shows_ones (word_of n (get_or d (length ls) 0) vs) (column seen (length ls)))
    row_fits ls h vs =
        let l : length (cols ++ ls) ≡ n + length ls = length-append cols ls ∙ ap (λ (x : ℕ). x + length ls) counted in
        let i : length (cols ++ ls) - n ≡ length ls = omega (arith, l) in
        let t : take n (cols ++ ls) ≡ cols = ap (λ (x : ℕ). take x (cols ++ ls)) (sym counted) ∙ take-append_seam cols ls in
        rw (le-ltb (length (cols ++ ls)) n (omega (arith, l)), lt-ltb (length (cols ++ ls)) (n + m) (omega (arith, l, h)), i, t)

    one-row : (ls : List (List ℕ)) (us : List ℕ) (w : ℕ) (ws s : List ℕ) → length ls < m → get_or d (length ls) 0 ≡ w
        → ((vs t : List ℕ) (v : ℕ) → Outcome (top (cols ++ (ls ++ vs ∷ []))) t (on_rows n (after (us ++ v ∷ []) (lists_from wide n seen (suc (length ls)) ws t))))
        → Outcome (top (cols ++ ls)) s (on_rows n (after us (lists_from wide n seen (length ls) (w ∷ ws) s)))
    one-row ls us w ws s h g on = go (line_of wide s) refl
      where
        place : suc (length (top (cols ++ ls))) ≡ 5 + n + length ls
        place = omega (arith, length-append cols ls, counted)

        fits-is : (vs : List ℕ) → fits (top (cols ++ ls)) vs ≡ (eqb (length vs) wide && shows_ones (word_of n w vs) (column seen (length ls)))
        fits-is vs = row_fits ls h vs ∙ ap (λ (x : ℕ). eqb (length vs) wide && shows_ones (word_of n x vs) (column seen (length ls))) g

        read : (vs t : List ℕ) → line_of wide s ≡ reads vs t → (z : Word) → word_of n w vs ≡ z
            → Outcome (top (cols ++ ls)) s (on_rows n (after us (listed_on (listed_as z t) seen (length ls) (lists_from wide n seen (suc (length ls)) ws))))
        read vs t e wrong y =
            at-line (top (cols ++ ls)) s place (unfit (top (cols ++ ls)) s wide vs t e (fits-is vs ∙ rw (eq-eqb (length vs) wide (line-long wide s vs t e), y)))
        read vs t e (word v) y = shown (eqb v (column seen (length ls))) refl
          where
            fits-as : fits (top (cols ++ ls)) vs ≡ eqb v (column seen (length ls))
            fits-as = fits-is vs ∙ rw (eq-eqb (length vs) wide (line-long wide s vs t e), y)

            shown : (q : Bool) → eqb v (column seen (length ls)) ≡ q
                → Outcome (top (cols ++ ls)) s
                (on_rows n (after us (cond (shows seen (length ls) v) (onto v (lists_from wide n seen (suc (length ls)) ws t)) (faulty_at (length ls)))))
            shown true p =
                rw (shows-is seen some (length ls) v, p, after-onto us v (lists_from wide n seen (suc (length ls)) ws t))
                (fit (top (cols ++ ls)) s wide vs t e (fits-as ∙ p) (on_rows n (after (us ++ v ∷ []) (lists_from wide n seen (suc (length ls)) ws t)))
                (subst (λ (x : List (List ℕ)). Outcome (top x) t (on_rows n (after (us ++ v ∷ []) (lists_from wide n seen (suc (length ls)) ws t))))
                (sym (append_assoc cols ls (vs ∷ []))) (on vs t v)))
            shown false p =
                rw (shows-is seen some (length ls) v, p) (at-line (top (cols ++ ls)) s place (unfit (top (cols ++ ls)) s wide vs t e (fits-as ∙ p)))

        go : (l : Line) → line_of wide s ≡ l
            → Outcome (top (cols ++ ls)) s (on_rows n (after us (listed_on (judged n w l) seen (length ls) (lists_from wide n seen (suc (length ls)) ws))))
        go faulty e =
            at-line (top (cols ++ ls)) s place
            (unread (top (cols ++ ls)) s wide e (λ vs f. eqb-true (length vs) wide (both (eqb (length vs) wide) _ (sym (fits-is vs) ∙ f)).0)
            (ne_eqb (length (cols ++ ls)) (n + m) (λ z. omega (arith, z, length-append cols ls, counted, h))))
        go (reads vs t) e = read vs t e (word_of n w vs) refl

    rows-judged : (ws : List ℕ) (ls : List (List ℕ)) (us s : List ℕ) → ws ≡ drop (length ls) d → length us ≡ length ls → length ls ≤ m
        → Outcome (top (cols ++ ls)) s (on_rows n (after us (lists_from wide n seen (length ls) ws s)))
    rows-judged [] ls us s e u h =
        let l : 0 ≡ length d - length ls = ap length e ∙ length-drop (length ls) d in
        end-judged (cols ++ ls) (us ++ []) s (omega (arith, l, h, rows-many, length-append cols ls, counted))
        (omega (arith, length-append us [], u, l, h, rows-many))
    rows-judged (w ∷ ws) ls us s e u h =
        let l : suc (length ws) ≡ length d - length ls = ap length e ∙ length-drop (length ls) d in
        let k : length ls < length d = omega (arith, l) in
        let f : w ∷ ws ≡ get_or d (length ls) 0 ∷ drop (suc (length ls)) d = e ∙ drop-cons d (length ls) 0 k in
        let g : get_or d (length ls) 0 ≡ w = cc in
        let r : ws ≡ drop (suc (length ls)) d = cc in
        one-row ls us w ws s (omega (arith, k, rows-many)) g
        (λ vs t v. on vs t v r (omega (arith, k, rows-many)) (rows-judged ws (ls ++ vs ∷ []) (us ++ v ∷ []) t))
      where
        on : (vs t : List ℕ) (v : ℕ) → ws ≡ drop (suc (length ls)) d → length ls < m
            → (ws ≡ drop (length (ls ++ vs ∷ [])) d → length (us ++ v ∷ []) ≡ length (ls ++ vs ∷ []) → length (ls ++ vs ∷ []) ≤ m
            → Outcome (top (cols ++ (ls ++ vs ∷ []))) t (on_rows n (after (us ++ v ∷ []) (lists_from wide n seen (length (ls ++ vs ∷ [])) ws t))))
            → Outcome (top (cols ++ (ls ++ vs ∷ []))) t (on_rows n (after (us ++ v ∷ []) (lists_from wide n seen (suc (length ls)) ws t)))
        on vs t v r k next =
            let i : length (ls ++ vs ∷ []) ≡ suc (length ls) = omega (arith, length-append ls (vs ∷ [])) in
            subst (λ (x : ℕ). Outcome (top (cols ++ (ls ++ vs ∷ []))) t (on_rows n (after (us ++ v ∷ []) (lists_from wide n seen x ws t)))) i
            (next (r ∙ ap (λ (x : ℕ). drop x d) (sym i)) (omega (arith, u, i, length-append us (v ∷ []))) (omega (arith, i, k)))

  -- ---- the columns' lists

  pub after_none : (l : Lists) → after [] l ≡ l
  after_none (lists ws s) = refl
  after_none (faulty_at i) = refl

  -- one word more
  words-on : (ws : List ℕ) (ls : List (List ℕ)) (vs : List ℕ) → length ls < length ws
      → words_in m ws (ls ++ vs ∷ []) ≡ words_in m ws ls ++ word_in (word_of m (get_or ws (length ls) 0) vs) ∷ []
  words-on [] ls vs h = absurd (omega arith)
  words-on (w ∷ []) [] vs h = refl
  words-on (w ∷ x ∷ ws) [] vs h = refl
  words-on (w ∷ ws) (l ∷ ls) vs h = ap (λ (r : List ℕ). word_in (word_of m w l) ∷ r) (words-on ws ls vs (omega arith))

  words-many : (ws : List ℕ) (ls : List (List ℕ)) → length ls ≤ length ws → length (words_in m ws ls) ≡ length ls
  words-many [] [] h = refl
  words-many [] (l ∷ ls) h = absurd (omega arith)
  words-many (w ∷ ws) [] h = refl
  words-many (w ∷ ws) (l ∷ ls) h = ap suc (words-many ws ls (omega arith))

  module _ (positive : 1 ≤ n) (columns-many : length c ≡ n) (rows-many : length d ≡ m) where
    abbrev pub Read : List (List ℕ) → List ℕ → Lists → Type 0
    Read ls s found = Outcome (top ls) s (on_columns n wide d found)

    one-column : (ls : List (List ℕ)) (us : List ℕ) (w : ℕ) (ws s : List ℕ) → length ls < n → get_or c (length ls) 0 ≡ w
        → ((vs t : List ℕ) (v : ℕ) → word_of m w vs ≡ word v → Read (ls ++ vs ∷ []) t (after (us ++ v ∷ []) (lists_from tall m [] (suc (length ls)) ws t)))
        → Read ls s (after us (lists_from tall m [] (length ls) (w ∷ ws) s))
    one-column ls us w ws s h g on = go (line_of tall s) refl
      where
        fits-is : (vs : List ℕ) → fits (top ls) vs ≡ (eqb (length vs) tall && is_list (word_of m w vs))
        fits-is vs = rw (lt-ltb (length ls) n h, g)

        place : suc (length (top ls)) ≡ 5 + length ls
        place = omega arith

        read : (vs t : List ℕ) → line_of tall s ≡ reads vs t → (z : Word) → word_of m w vs ≡ z
            → Read ls s (after us (listed_on (listed_as z t) [] (length ls) (lists_from tall m [] (suc (length ls)) ws)))
        read vs t e wrong y =
            at-line (top ls) s place (unfit (top ls) s tall vs t e (fits-is vs ∙ rw (eq-eqb (length vs) tall (line-long tall s vs t e), y)))
        read vs t e (word v) y =
            rw (after-onto us v (lists_from tall m [] (suc (length ls)) ws t))
            (fit (top ls) s tall vs t e (fits-is vs ∙ rw (eq-eqb (length vs) tall (line-long tall s vs t e), y))
            (on_columns n wide d (after (us ++ v ∷ []) (lists_from tall m [] (suc (length ls)) ws t))) (on vs t v y))

        go : (l : Line) → line_of tall s ≡ l → Read ls s (after us (listed_on (judged m w l) [] (length ls) (lists_from tall m [] (suc (length ls)) ws)))
        go faulty e =
            at-line (top ls) s place
            (unread (top ls) s tall e (λ vs f. eqb-true (length vs) tall (both (eqb (length vs) tall) _ (sym (fits-is vs) ∙ f)).0)
            (ne_eqb (length ls) (n + m) (λ z. omega (arith, z, h))))
        go (reads vs t) e = read vs t e (word_of m w vs) refl

    pub columns-judged : (ws : List ℕ) (ls : List (List ℕ)) (us s : List ℕ) → ws ≡ drop (length ls) c → us ≡ words_in m c ls → length ls ≤ n
        → Read ls s (after us (lists_from tall m [] (length ls) ws s))
    columns-judged [] ls us s e u h =
        let l : 0 ≡ length c - length ls = ap length e ∙ length-drop (length ls) c in
        let k : length ls ≡ n = omega (arith, l, h, columns-many) in
        let some : 0 < length (words_in m c ls) = omega (arith, words-many c ls (omega (arith, k, columns-many)), k, positive) in
        let r : Outcome (top (ls ++ [])) s (on_rows n (after [] (lists_from wide n (words_in m c ls) 0 d s))) =
        rows-judged ls k some rows-many d [] [] s refl refl (omega arith) in
        subst (λ (vs : List ℕ). Outcome (top ls) s (on_rows n (lists_from wide n vs 0 d s))) (sym (append-nil us ∙ u))
        (subst (λ (x : List (List ℕ)). Outcome (top x) s (on_rows n (lists_from wide n (words_in m c ls) 0 d s))) (append-nil ls)
        (subst (λ (x : Lists). Outcome (top (ls ++ [])) s (on_rows n x)) (after_none (lists_from wide n (words_in m c ls) 0 d s)) r))
    columns-judged (w ∷ ws) ls us s e u h =
        let l : suc (length ws) ≡ length c - length ls = ap length e ∙ length-drop (length ls) c in
        let k : length ls < length c = omega (arith, l) in
        let f : w ∷ ws ≡ get_or c (length ls) 0 ∷ drop (suc (length ls)) c = e ∙ drop-cons c (length ls) 0 k in
        let g : get_or c (length ls) 0 ≡ w = cc in
        let r : ws ≡ drop (suc (length ls)) c = cc in
        one-column ls us w ws s (omega (arith, k, columns-many)) g (λ vs t v y. on vs t v y g r k (columns-judged ws (ls ++ vs ∷ []) (us ++ v ∷ []) t))
      where
        on : (vs t : List ℕ) (v : ℕ) → word_of m w vs ≡ word v → get_or c (length ls) 0 ≡ w → ws ≡ drop (suc (length ls)) c → length ls < length c
            → (ws ≡ drop (length (ls ++ vs ∷ [])) c → us ++ v ∷ [] ≡ words_in m c (ls ++ vs ∷ []) → length (ls ++ vs ∷ []) ≤ n
            → Read (ls ++ vs ∷ []) t (after (us ++ v ∷ []) (lists_from tall m [] (length (ls ++ vs ∷ [])) ws t)))
            → Read (ls ++ vs ∷ []) t (after (us ++ v ∷ []) (lists_from tall m [] (suc (length ls)) ws t))
        on vs t v y g r k next =
            let i : length (ls ++ vs ∷ []) ≡ suc (length ls) = omega (arith, length-append ls (vs ∷ [])) in
            let x : word_in (word_of m (get_or c (length ls) 0) vs) ≡ v = ap (λ (q : ℕ). word_in (word_of m q vs)) g ∙ ap word_in y in
            subst (λ (x : ℕ). Read (ls ++ vs ∷ []) t (after (us ++ v ∷ []) (lists_from tall m [] x ws t))) i
            (next (r ∙ ap (λ (q : ℕ). drop q c) (sym i))
            (ap (λ (q : List ℕ). q ++ v ∷ []) u ∙ ap (λ (q : ℕ). words_in m c ls ++ q ∷ []) (sym x) ∙ sym (words-on c ls vs k))
            (omega (arith, i, k, columns-many)))
