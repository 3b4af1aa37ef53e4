-- Words of a known length, letter by letter.
use Prim.Native.Nat.{ℕ, suc}
use lib.Dec.{eqb}
use lib.Pointwise.{pointwise}
use lib.ListN.{length, get_or}
use mathlib.Core.Bool.{Bool, true, false, cond, ◌&&◌}
use mathlib.Core.List.{List, [], ◌∷◌}
use mathlib.Core.Path.{◌≡◌, refl, ap}
use native.Mathlib.Omega.{arith}
use Rattle.sheets.specs.Words.{same, cover, mask, row, block, heard, end, word_of}
use Rattle.sheets.specs.declared.word.Word.TheVariants.{Cover, Mask, Row, Block, Heard, End, Other}

both : (t u : Bool) → u ≡ false → cond t u false ≡ false
both true u e = e
both false u e = refl

-- texts of two lengths are not the same
pub apart : (f g : List ℕ) → (length f ≡ length g → ⊥) → same f g ≡ false
apart [] [] n = absurd (n refl)
apart [] (y ∷ ys) n = refl
apart (x ∷ xs) [] n = refl
apart (x ∷ xs) (y ∷ ys) n = both (eqb x y) (same xs ys) (apart xs ys (λ e. n (ap suc e)))

and-cond : (t u v : Bool) → u ≡ v → (t && u) ≡ cond t v false
and-cond true u v e = e
and-cond false u v e = refl

-- what `==` of two slices tells
pub same-pointwise : (f g : List ℕ) → pointwise eqb f g ≡ same f g
same-pointwise [] [] = refl
same-pointwise [] (y ∷ ys) = refl
same-pointwise (x ∷ xs) [] = refl
same-pointwise (x ∷ xs) (y ∷ ys) = and-cond (eqb x y) (pointwise eqb xs ys) (same xs ys) (same-pointwise xs ys)

-- a text by its letters
pub listed3 : (f : List ℕ) → length f ≡ 3 → f ≡ get_or f 0 0 ∷ get_or f 1 0 ∷ get_or f 2 0 ∷ []
listed3 [] h = absurd (omega arith)
listed3 (a ∷ []) h = absurd (omega arith)
listed3 (a ∷ b ∷ []) h = absurd (omega arith)
listed3 (a ∷ b ∷ c ∷ []) h = refl
listed3 (a ∷ b ∷ c ∷ d ∷ f) h = absurd (omega arith)

pub listed4 : (f : List ℕ) → length f ≡ 4 → f ≡ get_or f 0 0 ∷ get_or f 1 0 ∷ get_or f 2 0 ∷ get_or f 3 0 ∷ []
listed4 [] h = absurd (omega arith)
listed4 (a ∷ []) h = absurd (omega arith)
listed4 (a ∷ b ∷ []) h = absurd (omega arith)
listed4 (a ∷ b ∷ c ∷ []) h = absurd (omega arith)
listed4 (a ∷ b ∷ c ∷ d ∷ []) h = refl
listed4 (a ∷ b ∷ c ∷ d ∷ e ∷ f) h = absurd (omega arith)

pub listed5 : (f : List ℕ) → length f ≡ 5 → f ≡ get_or f 0 0 ∷ get_or f 1 0 ∷ get_or f 2 0 ∷ get_or f 3 0 ∷ get_or f 4 0 ∷ []
listed5 [] h = absurd (omega arith)
listed5 (a ∷ []) h = absurd (omega arith)
listed5 (a ∷ b ∷ []) h = absurd (omega arith)
listed5 (a ∷ b ∷ c ∷ []) h = absurd (omega arith)
listed5 (a ∷ b ∷ c ∷ d ∷ []) h = absurd (omega arith)
listed5 (a ∷ b ∷ c ∷ d ∷ e ∷ []) h = refl
listed5 (a ∷ b ∷ c ∷ d ∷ e ∷ g ∷ f) h = absurd (omega arith)

-- three letters are row, end or neither
pub three : (a b c : ℕ) → let f = a ∷ b ∷ c ∷ [] in word_of f ≡ cond (same f row) Row (cond (same f end) End Other)
three a b c =
    let f = a ∷ b ∷ c ∷ [] in
    rw (apart f cover (λ e. omega arith), apart f mask (λ e. omega arith), apart f block (λ e. omega arith), apart f heard (λ e. omega arith))

-- four letters are mask or not
pub four : (a b c d : ℕ) → let f = a ∷ b ∷ c ∷ d ∷ [] in word_of f ≡ cond (same f mask) Mask Other
four a b c d =
    let f = a ∷ b ∷ c ∷ d ∷ [] in
    rw (
      apart f cover (λ e. omega arith),
      apart f row (λ e. omega arith),
      apart f block (λ e. omega arith),
      apart f heard (λ e. omega arith),
      apart f end (λ e. omega arith),
    )

-- five letters are cover, block, heard or none of these
pub five : (a b c d e : ℕ) → let f = a ∷ b ∷ c ∷ d ∷ e ∷ [] in word_of f ≡ cond (same f cover) Cover (cond (same f block) Block (cond (same f heard) Heard Other))
five a b c d e = let f = a ∷ b ∷ c ∷ d ∷ e ∷ [] in rw (apart f mask (λ e. omega arith), apart f row (λ e. omega arith), apart f end (λ e. omega arith))

-- a text of another length is none of the six words
pub no_word : (f : List ℕ) → (length f ≡ 3 → ⊥) → (length f ≡ 4 → ⊥) → (length f ≡ 5 → ⊥) → word_of f ≡ Other
no_word f k m n = rw (apart f cover n, apart f mask m, apart f row k, apart f block n, apart f heard n, apart f end k)
