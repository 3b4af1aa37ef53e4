-- The six parts of a text put one after the other.
use lib.ListN.{length}
use mathlib.Core.List.{◌++◌, List, [], map, ◌∷◌}
use mathlib.Core.Path.{◌≡◌}
use native.Mathlib.Omega.{arith}
use Prim.Native.Nat.{◌+◌, ℕ, ◌≤◌}
use Rattle.alists.proofs.Bounds.{text-parts, text-short}
use Rattle.alists.proofs.ListsPut.{largest-few, weights-small}
use Rattle.alists.proofs.Putting.{Going, going_end, going_on, going-room, going_start}
use Rattle.alists.specs.Lists.{largest, list_of}
use Rattle.alists.specs.Text.{line, matrix_text, text_of, weights}
use Rattle.alists.specs.Working.{Puts, Small}

-- what the function that puts them has at hand
pub record Weighed (cols rows heights widths : List ℕ) (tall wide : ℕ) : Type 0 where
  pub few_columns : length cols ≤ 64
  pub few_rows : length rows ≤ 64
  pub heights_are : heights ≡ weights cols
  pub widths_are : widths ≡ weights rows
  pub tall_is : tall ≡ largest heights
  pub wide_is : wide ≡ largest widths

module _ {cols rows heights widths : List ℕ} {tall wide : ℕ} (w : Weighed cols rows heights widths tall wide) where
  pub tall-few : tall ≤ 64
  tall-few = rw (w.tall_is, w.heights_are) (largest-few cols)

  pub wide-few : wide ≤ 64
  wide-few = rw (w.wide_is, w.widths_are) (largest-few rows)

  pub heights-small : Small heights
  heights-small = rw w.heights_are (weights-small cols)

  pub widths-small : Small widths
  widths-small = rw w.widths_are (weights-small rows)

module _ (cols rows heights widths : List ℕ) (tall wide : ℕ) where
  -- the parts
  abbrev pub one : List ℕ
  one = line (length cols ∷ length rows ∷ [])

  abbrev pub two : List ℕ
  two = line (tall ∷ wide ∷ [])

  abbrev pub five : List ℕ
  five = text_of (map (list_of tall) cols)

  abbrev pub six : List ℕ
  six = text_of (map (list_of wide) rows)

  -- all of them
  abbrev pub whole : List ℕ
  whole = one ++ (two ++ (line heights ++ (line widths ++ (five ++ six))))

  module _ (w : Weighed cols rows heights widths tall wide) where
    pub whole_is : matrix_text cols rows ≡ whole
    whole_is = rw (w.tall_is, w.wide_is, w.heights_are, w.widths_are) (text-parts cols rows)

    pub whole-short : 0 + length whole ≤ 32768
    whole-short = rw (w.tall_is, w.wide_is, w.heights_are, w.widths_are) (text-short cols rows w.few_columns w.few_rows)

    pub room-one : (room : List ℕ) → 0 + length one ≤ 32768
    room-one room = going-room one (two ++ (line heights ++ (line widths ++ (five ++ six)))) 32768 (going_start room 0 whole) whole-short

    module _ {room : List ℕ} where
      module _ {room₁ : List ℕ} {a₁ : ℕ} (p₁ : Puts room 0 one room₁ a₁) where
        after_one : Going room₁ a₁ (two ++ (line heights ++ (line widths ++ (five ++ six)))) room 0 whole
        after_one = going_on one (two ++ (line heights ++ (line widths ++ (five ++ six)))) (going_start room 0 whole) p₁

        pub room-two : a₁ + length two ≤ 32768
        room-two = going-room two (line heights ++ (line widths ++ (five ++ six))) 32768 after_one whole-short

        module _ {room₂ : List ℕ} {a₂ : ℕ} (p₂ : Puts room₁ a₁ two room₂ a₂) where
          after_two : Going room₂ a₂ (line heights ++ (line widths ++ (five ++ six))) room 0 whole
          after_two = going_on two (line heights ++ (line widths ++ (five ++ six))) after_one p₂

          pub room-three : a₂ + length (line heights) ≤ 32768
          room-three = going-room (line heights) (line widths ++ (five ++ six)) 32768 after_two whole-short

          module _ {room₃ : List ℕ} {a₃ : ℕ} (p₃ : Puts room₂ a₂ (line heights) room₃ a₃) where
            after-three : Going room₃ a₃ (line widths ++ (five ++ six)) room 0 whole
            after-three = going_on (line heights) (line widths ++ (five ++ six)) after_two p₃

            pub room-four : a₃ + length (line widths) ≤ 32768
            room-four = going-room (line widths) (five ++ six) 32768 after-three whole-short

            module _ {room₄ : List ℕ} {a₄ : ℕ} (p₄ : Puts room₃ a₃ (line widths) room₄ a₄) where
              after-four : Going room₄ a₄ (five ++ six) room 0 whole
              after-four = going_on (line widths) (five ++ six) after-three p₄

              pub room-five : a₄ + length five ≤ 32768
              room-five = going-room five six 32768 after-four whole-short

              module _ {room₅ : List ℕ} {a₅ : ℕ} (p₅ : Puts room₄ a₄ five room₅ a₅) where
                after-five : Going room₅ a₅ six room 0 whole
                after-five = going_on five six after-four p₅

                pub room-six : a₅ + length six ≤ 32768
                room-six = let l = after-five.long in let b = whole-short in omega (arith, l, b)

                pub all-put : {room₆ : List ℕ} {a₆ : ℕ} → Puts room₅ a₅ six room₆ a₆ → Puts room 0 (matrix_text cols rows) room₆ a₆
                all-put p₆ = rw whole_is (going_end six after-five p₆)
