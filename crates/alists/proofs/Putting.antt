-- A text put into a room piece by piece.
use borrow.Author.Tests.{le-ltb, lt-ltb}
use lib.ListN.{drop, get_or, length, length-append, set}
use lib.Seq.{length-sets, sets}
use mathlib.Core.List.{◌++◌, List, [], map, ◌∷◌}
use mathlib.Core.Path.{◌≡◌, ap, refl, sym, ◌∙◌}
use native.Mathlib.Omega.{arith}
use Prim.Native.Nat.{◌%◌, ◌+◌, ◌/◌, ◌<◌, suc, ℕ, ◌≤◌}
use Rattle.alists.proofs.Places.{done, here}
use Rattle.alists.specs.Lists.{list_of}
use Rattle.alists.specs.Text.{decimal, following, line, text_of}
use Rattle.alists.specs.Working.{Puts}

-- one text after another
pub sets-append : (a b room : List ℕ) (at : ℕ) → sets room at (a ++ b) ≡ sets (sets room at a) (at + length a) b
sets-append [] b room at = let e : at + 0 ≡ at = omega arith in rw e
sets-append (x ∷ a) b room at =
    let e : at + suc (length a) ≡ suc at + length a = omega arith in
    sets-append a b (set room at x) (suc at) ∙ rw e

pub puts-size : {room text room' : List ℕ} {at r : ℕ} → Puts room at text room' r → length room' ≡ length room
puts-size {room} {text} {room'} {at} {r} p = ap length p.stands ∙ length-sets room at text

pub puts_then : {room a room' b room'' : List ℕ} {at r k : ℕ} → Puts room at a room' r → Puts room' r b room'' k → Puts room at (a ++ b) room'' k
puts_then {room} {a} {room'} {b} {room''} {at} {r} {k} p q = record {
  stands = q.stands ∙ rw (p.stands, p.next) (sym (sets-append a b room at));
  next = q.next ∙ rw (p.next, length-append a b) (omega arith);
}

-- what is still to be put from a place on makes up the whole
pub record Going (room : List ℕ) (at : ℕ) (text room₀ : List ℕ) (at₀ : ℕ) (text₀ : List ℕ) : Type 0 where
  pub stands : sets room at text ≡ sets room₀ at₀ text₀
  pub long : at + length text ≡ at₀ + length text₀
  pub size : length room ≡ length room₀

pub going_start : (room : List ℕ) (at : ℕ) (text : List ℕ) → Going room at text room at text
going_start room at text = record { stands = refl; long = refl; size = refl }

module _ {room : List ℕ} {at : ℕ} {room₀ : List ℕ} {at₀ : ℕ} {text₀ : List ℕ} where
  -- one piece more
  pub going_on : (a b : List ℕ) {room' : List ℕ} {r : ℕ} → Going room at (a ++ b) room₀ at₀ text₀ → Puts room at a room' r → Going room' r b room₀ at₀ text₀
  going_on a b {room'} {r} g p = record {
    stands = rw (p.stands, p.next) (sym (sets-append a b room at) ∙ g.stands);
    long = let l = length-append a b in omega (arith, l, g.long, p.next);
    size = puts-size p ∙ g.size;
  }

  -- the last piece
  pub going_end : (a : List ℕ) {room' : List ℕ} {r : ℕ} → Going room at a room₀ at₀ text₀ → Puts room at a room' r → Puts room₀ at₀ text₀ room' r
  going_end a g p = record { stands = p.stands ∙ g.stands; next = p.next ∙ g.long }

  -- no piece is left
  pub going_done : Going room at [] room₀ at₀ text₀ → Puts room₀ at₀ text₀ room at
  going_done g = record { stands = g.stands; next = let l = g.long in omega arith }

  -- there is room for a piece
  pub going-room : (a b : List ℕ) (most : ℕ) → Going room at (a ++ b) room₀ at₀ text₀ → at₀ + length text₀ ≤ most → at + length a ≤ most
  going-room a b most g h = let l = length-append a b in omega (arith, l, g.long, h)

-- ---- lines

-- one number more of a line
pub following-here : (xs : List ℕ) (i : ℕ) → i < length xs → following (drop i xs) ≡ 32 ∷ (decimal (get_or xs i 0) ++ following (drop (i + 1) xs))
following-here xs i h = rw (here xs i h)

pub line-here : (xs : List ℕ) → 0 < length xs → line xs ≡ decimal (get_or xs 0 0) ++ following (drop 1 xs)
line-here [] h = absurd (omega arith)
line-here (x ∷ xs) h = refl

-- one list more
pub lists-here : (most : ℕ) (ws : List ℕ) (i : ℕ) → i < length ws
    → text_of (map (list_of most) (drop i ws)) ≡ line (list_of most (get_or ws i 0)) ++ text_of (map (list_of most) (drop (i + 1) ws))
lists-here most ws i h = rw (here ws i h)

-- ---- numbers

pub decimal-one : (x : ℕ) → x < 10 → decimal x ≡ (48 + x) ∷ []
decimal-one x h = rw (lt-ltb x 10 h)

pub decimal-two : (x : ℕ) → 10 ≤ x → decimal x ≡ (48 + x / 10) ∷ (48 + x % 10) ∷ []
decimal-two x h = rw (le-ltb x 10 h)

-- ---- the ends of lines and lists

pub empty-line : (xs : List ℕ) → length xs ≡ 0 → line xs ≡ 10 ∷ []
empty-line [] e = refl
empty-line (x ∷ xs) e = absurd (omega arith)

pub following-end : (xs : List ℕ) (i : ℕ) → length xs ≤ i → following (drop i xs) ≡ 10 ∷ []
following-end xs i h = rw (done xs i h)

pub lists-end : (most : ℕ) (ws : List ℕ) (i : ℕ) → length ws ≤ i → text_of (map (list_of most) (drop i ws)) ≡ []
lists-end most ws i h = rw (done ws i h)

-- the first number of a line is put: there is room for the others
pub rest-room : {room : List ℕ} {at : ℕ} {room' : List ℕ} {r : ℕ} (xs : List ℕ) (most : ℕ) → 0 < length xs → at + length (line xs) ≤ most
    → Puts room at (decimal (get_or xs 0 0)) room' r → r + length (following (drop 1 xs)) ≤ most
rest-room xs most z h p =
    let e = ap length (line-here xs z) ∙ length-append (decimal (get_or xs 0 0)) (following (drop 1 xs)) in
    omega (arith, e, h, p.next)

-- the line is put whole
pub line-whole : {room : List ℕ} {at : ℕ} {room' : List ℕ} {r : ℕ} {room'' : List ℕ} {k : ℕ} (xs : List ℕ) → 0 < length xs
    → Puts room at (decimal (get_or xs 0 0)) room' r → Puts room' r (following (drop 1 xs)) room'' k → Puts room at (line xs) room'' k
line-whole xs z p q = rw (line-here xs z) (puts_then p q)

-- the first number fits
pub first-room : (at : ℕ) (xs : List ℕ) (most : ℕ) → 0 < length xs → at + length (line xs) ≤ most → at + length (decimal (get_or xs 0 0)) ≤ most
first-room at xs most z h =
    let e = ap length (line-here xs z) ∙ length-append (decimal (get_or xs 0 0)) (following (drop 1 xs)) in
    omega (arith, e, h)
