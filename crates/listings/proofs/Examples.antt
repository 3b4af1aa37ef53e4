-- The paper's listing and the ends of the ranges, computed.
use lib.IntN.{negsuc, pos}
use mathlib.Core.List.{[], ◌∷◌}
use mathlib.Core.Path.{refl, ◌≡◌}
use Rattle.listings.specs.Decimal.{decimal, signed_decimal}
use Rattle.listings.specs.Lines.{line_of_end, plate_line, profile_line, refused_line, word_line}

-- plate 8 4 3
pub plate-example : plate_line 8 4 (0 ∷ 1 ∷ 2 ∷ 3 ∷ 2 ∷ 3 ∷ 2 ∷ 1 ∷ 0 ∷ []) ≡ 112 ∷ 108 ∷ 97 ∷ 116 ∷ 101 ∷ 9 ∷ 56 ∷ 9 ∷ 52 ∷ 9 ∷ 51 ∷ 10 ∷ []
unfolding plate_line decimal
plate-example = refl

-- profile 0 1 2 3 2 3 2 1 0
pub profile-example : profile_line (0 ∷ 1 ∷ 2 ∷ 3 ∷ 2 ∷ 3 ∷ 2 ∷ 1 ∷ 0 ∷ [])
    ≡ 112 ∷ 114 ∷ 111 ∷ 102 ∷ 105 ∷ 108 ∷ 101 ∷ 9 ∷ 48 ∷ 9 ∷ 49 ∷ 9 ∷ 50 ∷ 9 ∷ 51 ∷ 9 ∷ 50 ∷ 9 ∷ 51 ∷ 9 ∷ 50 ∷ 9 ∷ 49 ∷ 9 ∷ 48 ∷ 10 ∷ []
unfolding profile_line decimal
profile-example = refl

-- word 11110000 19 44 11
pub word-example : word_line 8 15 (pos 19) 44 11
    ≡ 119 ∷ 111 ∷ 114 ∷ 100 ∷ 9 ∷ 49 ∷ 49 ∷ 49 ∷ 49 ∷ 48 ∷ 48 ∷ 48 ∷ 48 ∷ 9 ∷ 49 ∷ 57 ∷ 9 ∷ 52 ∷ 52 ∷ 9 ∷ 49 ∷ 49 ∷ 10 ∷ []
unfolding word_line signed_decimal decimal
word-example = refl

-- end 1
pub end-example : line_of_end 1 ≡ 101 ∷ 110 ∷ 100 ∷ 9 ∷ 49 ∷ 10 ∷ []
unfolding line_of_end decimal
end-example = refl

-- refused 4 13
pub refused-example : refused_line 4 13 0 ≡ 114 ∷ 101 ∷ 102 ∷ 117 ∷ 115 ∷ 101 ∷ 100 ∷ 9 ∷ 52 ∷ 9 ∷ 49 ∷ 51 ∷ 10 ∷ []
unfolding refused_line decimal
refused-example = refl

-- refused 10 1 0
pub missing-example : refused_line 10 1 0 ≡ 114 ∷ 101 ∷ 102 ∷ 117 ∷ 115 ∷ 101 ∷ 100 ∷ 9 ∷ 49 ∷ 48 ∷ 9 ∷ 49 ∷ 9 ∷ 48 ∷ 10 ∷ []
unfolding refused_line decimal
missing-example = refl

-- refused 19 1 3
pub field-example : refused_line 19 1 3 ≡ 114 ∷ 101 ∷ 102 ∷ 117 ∷ 115 ∷ 101 ∷ 100 ∷ 9 ∷ 49 ∷ 57 ∷ 9 ∷ 49 ∷ 9 ∷ 51 ∷ 10 ∷ []
unfolding refused_line decimal
field-example = refl

-- 18446744073709551615
pub greatest-number : decimal 18446744073709551615 ≡ 49 ∷ 56 ∷ 52 ∷ 52 ∷ 54 ∷ 55 ∷ 52 ∷ 52 ∷ 48 ∷ 55 ∷ 51 ∷ 55 ∷ 48 ∷ 57 ∷ 53 ∷ 53 ∷ 49 ∷ 54 ∷ 49 ∷ 53 ∷ []
unfolding decimal
greatest-number = refl

-- 0
pub zero-has-no-minus : signed_decimal (pos 0) ≡ 48 ∷ []
unfolding signed_decimal decimal
zero-has-no-minus = refl

-- -2147483648
pub least-number : signed_decimal (negsuc 2147483647) ≡ 45 ∷ 50 ∷ 49 ∷ 52 ∷ 55 ∷ 52 ∷ 56 ∷ 51 ∷ 54 ∷ 52 ∷ 56 ∷ []
unfolding signed_decimal decimal
least-number = refl
