-- Theorems: what is told of two inputs holds of their sheets' words, and it is told exactly if it holds: same of the same words, mirrored of mirrored words.
use lib.ListN.{get_or}
use mathlib.Core.List.{List}
use mathlib.Core.Logic.Iff
use mathlib.Core.Logic.{inl, inr, ◌↔◌, ◌⊎◌}
use mathlib.Core.Path.{◌≡◌, ap, refl, subst, sym, ◌∙◌}
use native.Mathlib.Decide.{ℕ_discrete}
use native.Mathlib.Omega.{arith}
use Prim.Native.Nat.{ℕ}
use Rattle.outlines.proofs.SameWords.{iff-then, length_is, words_are}
use Rattle.outlines.proofs.Settling.{either-earlier}
use Rattle.outlines.specs.Comparing.{Alone, Equal, Mirrors, NoneEarlier, PrintsTold, Tells, told_line}
use Rattle.words.specs.Reversed.{reversed}
use Rattle.outlines.specs.declared.comparing.Told.{Told}
use Rattle.outlines.specs.declared.comparing.Told.TheVariants.{First, Lengths, Mirrored, Same, Second}
use Rattle.outlines.specs.declared.opening.Which.TheVariants.{Own}
use Rattle.outlines.specs.SheetText.{sheet_of}
use Rattle.outlines.specs.Words.{PrintsSheet, SameWords, WordOf}
use Rattle.sheets.specs.Sheet.{Contents, reading, says}
use Rattle.words.specs.Word.{Earlier}

-- ---- one thing is told

module _ (n m : ℕ) (P Q : ℕ → Type 0) where
  -- two words that one has alone, each with no earlier such word, are one
  one_word : {w v : ℕ} → Alone P Q w ⊎ Alone Q P w → NoneEarlier P Q w → Alone P Q v ⊎ Alone Q P v → NoneEarlier P Q v → w ≡ v
  one_word {w} {v} a f b g = go (ℕ_discrete w v)
    where
      absurd-by : Earlier w v ⊎ Earlier v w → ⊥
      absurd-by (inl e) = g w a e
      absurd-by (inr e) = f v b e

      go : Dec (w ≡ v) → w ≡ v
      go (yes e) = e
      go (no h) = absurd (absurd-by (either-earlier w v h))

  -- no word is the first's alone and the second's alone
  not-both : {A : Type 0} {w v : ℕ} → Alone P Q w → NoneEarlier P Q w → Alone Q P v → NoneEarlier P Q v → A
  not-both a f b g = absurd (a.1 (subst Q (sym (one_word (inl a) f (inr b) g)) b.0))

  pub tells-once : (s t : Told) → Tells n m P Q s → Tells n m P Q t → s ≡ t
  tells-once Lengths Lengths x y = refl
  tells-once Lengths Same x y = absurd (x y.0)
  tells-once Lengths Mirrored x y = absurd (x y.0)
  tells-once Lengths (First v) x y = absurd (x y.0)
  tells-once Lengths (Second v) x y = absurd (x y.0)
  tells-once Same Lengths x y = absurd (y x.0)
  tells-once Same Same x y = refl
  tells-once Same Mirrored x y = absurd (y.1 x.1)
  tells-once Same (First v) x y = absurd (y.2.1 ((x.1 v).0 y.2.0))
  tells-once Same (Second v) x y = absurd (y.2.1 ((x.1 v).1 y.2.0))
  tells-once Mirrored Lengths x y = absurd (y x.0)
  tells-once Mirrored Same x y = absurd (x.1 y.1)
  tells-once Mirrored Mirrored x y = refl
  tells-once Mirrored (First v) x y = absurd (y.1 x.2)
  tells-once Mirrored (Second v) x y = absurd (y.1 x.2)
  tells-once (First w) Lengths x y = absurd (y x.0)
  tells-once (First w) Same x y = absurd (x.2.1 ((y.1 w).0 x.2.0))
  tells-once (First w) Mirrored x y = absurd (x.1 y.2)
  tells-once (First w) (First v) x y = ap First (one_word (inl x.2) x.3 (inl y.2) y.3)
  tells-once (First w) (Second v) x y = not-both x.2 x.3 y.2 y.3
  tells-once (Second w) Lengths x y = absurd (y x.0)
  tells-once (Second w) Same x y = absurd (x.2.1 ((y.1 w).1 x.2.0))
  tells-once (Second w) Mirrored x y = absurd (x.1 y.2)
  tells-once (Second w) (First v) x y = not-both y.2 y.3 x.2 x.3
  tells-once (Second w) (Second v) x y = ap Second (one_word (inr x.2) x.3 (inr y.2) y.3)

-- ---- of the same words the same is told

alone-same : {A B A' B' : ℕ → Type 0} → ((w : ℕ) → A w ↔ A' w) → ((w : ℕ) → B w ↔ B' w) → {w : ℕ} → Alone A B w → Alone A' B' w
alone-same a b {w} x = ((a w).0 x.0, λ y. x.1 ((b w).1 y))

module _ {P Q P' Q' : ℕ → Type 0} (p : (w : ℕ) → P w ↔ P' w) (q : (w : ℕ) → Q w ↔ Q' w) where
  none-same : {w : ℕ} → NoneEarlier P Q w → NoneEarlier P' Q' w
  none-same h v (inl a) e = h v (inl (alone-same (λ u. Iff.symm (p u)) (λ u. Iff.symm (q u)) a)) e
  none-same h v (inr a) e = h v (inr (alone-same (λ u. Iff.symm (q u)) (λ u. Iff.symm (p u)) a)) e

  equal-back : Equal P' Q' → Equal P Q
  equal-back h w = iff-then (p w) (iff-then (h w) (Iff.symm (q w)))

  mirrors-back : (n : ℕ) → Mirrors n P' Q' → Mirrors n P Q
  mirrors-back n h w l = iff-then (p w) (iff-then (h w l) (Iff.symm (q (reversed n w))))

  tells-same : (n m : ℕ) (t : Told) → Tells n m P Q t → Tells n m P' Q' t
  tells-same n m Lengths x = x
  tells-same n m Same x = (x.0, λ w. iff-then (Iff.symm (p w)) (iff-then (x.1 w) (q w)))
  tells-same n m Mirrored x = (x.0, (λ h. x.1 (equal-back h)), λ w l. iff-then (Iff.symm (p w)) (iff-then (x.2 w l) (q (reversed n w))))
  tells-same n m (First v) x = (x.0, (λ h. x.1 (mirrors-back n h)), alone-same p q x.2, none-same x.3)
  tells-same n m (Second v) x = (x.0, (λ h. x.1 (mirrors-back n h)), alone-same q p x.2, none-same x.3)

-- ---- two inputs

module _ {first second text : List ℕ} {told : Told} (t : PrintsTold first second text told) (c d : Contents) (r : reading first ≡ says c)
    (q : reading second ≡ says d) where
  abbrev one : PrintsSheet Own first (sheet_of t.one.plate)
  one = record { prepared = t.one; opened = t.opened_one; accepted = t.accepted_one; is = refl }

  abbrev other : PrintsSheet Own second (sheet_of t.other.plate)
  other = record { prepared = t.other; opened = t.opened_other; accepted = t.accepted_other; is = refl }

  -- it holds of the words of their sheets
  told-of-sheets : Tells c.n d.n (WordOf c) (WordOf d) told
  told-of-sheets =
      subst (λ (n : ℕ). Tells n d.n (WordOf c) (WordOf d) told) (length_is one c r)
      (subst (λ (m : ℕ). Tells t.one.plate.n m (WordOf c) (WordOf d) told) (length_is other d q)
      (tells-same (λ w. Iff.symm (words_are one c r w)) (λ w. Iff.symm (words_are other d q w)) t.one.plate.n t.other.plate.n told t.tells))

  -- and is told exactly if it holds
  pub told-exactly : (s : Told) → (told ≡ s) ↔ Tells c.n d.n (WordOf c) (WordOf d) s
  told-exactly s = (
    (λ e. subst (Tells c.n d.n (WordOf c) (WordOf d)) e told-of-sheets),
    λ x. tells-once c.n d.n (WordOf c) (WordOf d) told s told-of-sheets x,
  )

  pub text-is : text ≡ told_line c.n told
  text-is = t.is ∙ ap (λ (n : ℕ). told_line n told) (length_is one c r)

  -- the line says same, or mirrored, for nothing else
  says_same : (n : ℕ) (s : Told) → told_line n s ≡ told_line n Same → s ≡ Same
  unfolding told_line
  says_same n Same e = refl
  says_same n Mirrored e = let z : ◌≡◌ {A = ℕ} 109 115 = ap (λ (l : List ℕ). get_or l 0 0) e in absurd (omega (arith, z))
  says_same n Lengths e = let z : ◌≡◌ {A = ℕ} 111 115 = ap (λ (l : List ℕ). get_or l 0 0) e in absurd (omega (arith, z))
  says_same n (First w) e = let z : ◌≡◌ {A = ℕ} 111 115 = ap (λ (l : List ℕ). get_or l 0 0) e in absurd (omega (arith, z))
  says_same n (Second w) e = let z : ◌≡◌ {A = ℕ} 111 115 = ap (λ (l : List ℕ). get_or l 0 0) e in absurd (omega (arith, z))

  says-mirrored : (n : ℕ) (s : Told) → told_line n s ≡ told_line n Mirrored → s ≡ Mirrored
  unfolding told_line
  says-mirrored n Mirrored e = refl
  says-mirrored n Same e = let z : ◌≡◌ {A = ℕ} 115 109 = ap (λ (l : List ℕ). get_or l 0 0) e in absurd (omega (arith, z))
  says-mirrored n Lengths e = let z : ◌≡◌ {A = ℕ} 111 109 = ap (λ (l : List ℕ). get_or l 0 0) e in absurd (omega (arith, z))
  says-mirrored n (First w) e = let z : ◌≡◌ {A = ℕ} 111 109 = ap (λ (l : List ℕ). get_or l 0 0) e in absurd (omega (arith, z))
  says-mirrored n (Second w) e = let z : ◌≡◌ {A = ℕ} 111 109 = ap (λ (l : List ℕ). get_or l 0 0) e in absurd (omega (arith, z))

  -- same is printed exactly if the sheets have the same words
  pub prints-same : (text ≡ told_line c.n Same) ↔ SameWords c d
  prints-same = (
    (λ e. (told-exactly Same).0 (says_same c.n told (sym text-is ∙ e))),
    λ x. text-is ∙ ap (told_line c.n) ((told-exactly Same).1 x),
  )

  -- mirrored exactly if they do not, and the words of one are those of the other from the far end
  pub prints-mirrored : (text ≡ told_line c.n Mirrored) ↔ ((c.n ≡ d.n) × (Equal (WordOf c) (WordOf d) → ⊥) × Mirrors c.n (WordOf c) (WordOf d))
  prints-mirrored = (
    (λ e. (told-exactly Mirrored).0 (says-mirrored c.n told (sym text-is ∙ e))),
    λ x. text-is ∙ ap (told_line c.n) ((told-exactly Mirrored).1 x),
  )
