-- The lines of a plate's weights put into a room, one after the other.
use Rattle.std.proofs.Common.{Result, Ok, Err}
use borrow.Author.Tests.{ne_eqb}
use lib.Dec.{eqb}
use lib.ListN.{drop, get_or, length, length-append, length-replicate, replicate, take}
use lib.Seq.{length-take-le, sets, sets-eq, take_all, take-append_seam}
use mathlib.Core.Bool.{Bool, cond, false, true}
use mathlib.Core.List.{◌++◌, List, [], append_assoc, append-nil, ◌∷◌}
use mathlib.Core.Logic.{inl, inr}
use mathlib.Core.Path.{◌≡◌, ap, subst, sym, ◌∙◌}
use native.Mathlib.Numerals.{add-one}
use native.Mathlib.Omega.{arith}
use Prim.Native.Nat.{◌*◌, ◌+◌, ◌<◌, suc, zero, ℕ, ◌≤◌}
use Rattle.listings.proofs.Fits256.{decimal-length, decimal-two, least-fits-256, no-least-fits-256, weight-fits-256}
use Rattle.listings.specs.Lines.{least_line, no_least_line, weight_line}
use Rattle.listings.specs.Writing.{WritesAs, WritesLine, line_room}
use Rattle.outlines.proofs.Putting.{puts_none, puts_then}
use Rattle.outlines.specs.Putting.{Puts}
use Rattle.outlines.specs.WeightLines.{last_line, weight_lines, weight_part, weights_text}
use Rattle.plates.specs.declared.Refusal.{Refusal}
use Rattle.plates.specs.Refusals.{Refuses}

-- ---- a line made in an array of 256 bytes

abbrev zeros : List ℕ
zeros = replicate 256 0

module _ (text : List ℕ) (short : length text ≤ 256) {line : List ℕ} {w : Result ℕ Refusal} (m : WritesLine text zeros w line) where
  -- it is not refused
  made : {A : Type 0} {q : Refusal} → w ≡ Err q → A
  made {A} {q} e = by (subst (WritesAs (line_room text zeros ∷ []) text zeros line) e m.reply).0
    where
      by : Refuses (line_room text zeros ∷ []) q → A
      by (inl h) = absurd (omega (arith, h.0, short, length-replicate {A = ℕ} 256 0))
      by (inr h) = absurd h.1

  module _ {size : ℕ} (e : w ≡ Ok size) where
    reply : WritesAs (line_room text zeros ∷ []) text zeros line (Ok size)
    reply = subst (WritesAs (line_room text zeros ∷ []) text zeros line) e m.reply

    made-there : take size line ≡ text
    made-there = rw (reply.1, reply.2) (take-append_seam text (drop (length text) zeros))

    made-within : size ≤ length line
    made-within = rw (reply.1, reply.2) (omega (arith, length-append text (drop (length text) zeros)))

-- ---- the line of a weight

pub weight-none : (weight count : ℕ) {room : List ℕ} {at : ℕ} → count ≡ 0 → Puts room at (weight_part weight count) room at
unfolding weight_part
weight-none weight count {room} {at} e = rw e (puts_none room at)

module _ (weight count : ℕ) {line : List ℕ} {w : Result ℕ Refusal} (m : WritesLine (weight_line weight count) zeros w line) where
  pub weight-made : {q : Refusal} {room : List ℕ} {at : ℕ} → w ≡ Err q → Puts room at (weight_part weight count) room at
  weight-made = made (weight_line weight count) (weight-fits-256 weight count) m

  pub weight-within : {size : ℕ} → w ≡ Ok size → size ≤ length line
  weight-within = made-within (weight_line weight count) (weight-fits-256 weight count) m

  pub weight-taken : {size : ℕ} → w ≡ Ok size → size ≡ length (take size line)
  weight-taken {size} e = sym (length-take-le size line (weight-within e))

  pub weight-put : {size at r : ℕ} {room room' : List ℕ} → (count ≡ 0 → ⊥) → w ≡ Ok size → Puts room at (take size line) room' r
      → Puts room at (weight_part weight count) room' r
  unfolding weight_part
  weight-put h e p = rw (ne_eqb count 0 h, ← made-there (weight_line weight count) (weight-fits-256 weight count) m e) p

-- ---- the last line

last-short : (none : Bool) (least : ℕ) → length (last_line none least) ≤ 256
unfolding last_line
last-short true least = no-least-fits-256
last-short false least = least-fits-256 least

module _ (none : Bool) (least : ℕ) {line : List ℕ} {w : Result ℕ Refusal} (m : WritesLine (last_line none least) zeros w line) where
  pub last_made : {q : Refusal} {room : List ℕ} {at : ℕ} → w ≡ Err q → Puts room at (last_line none least) room at
  last_made = made (last_line none least) (last-short none least) m

  pub last_within : {size : ℕ} → w ≡ Ok size → size ≤ length line
  last_within = made-within (last_line none least) (last-short none least) m

  pub last_taken : {size : ℕ} → w ≡ Ok size → size ≡ length (take size line)
  last_taken {size} e = sym (length-take-le size line (last_within e))

  pub last-put : {size at r : ℕ} {room room' : List ℕ} → w ≡ Ok size → Puts room at (take size line) room' r → Puts room at (last_line none least) room' r
  last-put e p = rw (← made-there (last_line none least) (last-short none least) m e) p

-- ---- the lines of the weights, from turn to turn

-- those of the first i are put
pub record LinesPut (room counts : List ℕ) (i : ℕ) (room' : List ℕ) (r : ℕ) : Type 0 where
  pub within : i ≤ length counts
  pub puts : Puts room 0 (weight_lines 0 (take i counts)) room' r

-- one weight more
lines_more : (w : ℕ) (counts : List ℕ) (i : ℕ) → i < length counts
    → weight_lines w (take (suc i) counts) ≡ weight_lines w (take i counts) ++ weight_part (w + i) (get_or counts i 0)
lines_more w [] i h = absurd (omega arith)
lines_more w (c ∷ counts) zero h = let e : w + 0 ≡ w = omega arith in rw e (append-nil (weight_part w c))
lines_more w (c ∷ counts) (suc i) h =
    let e : suc w + i ≡ w + suc i = omega arith in
    ap (λ (rest : List ℕ). weight_part w c ++ rest) (lines_more (suc w) counts i (omega arith) ∙ rw e)
    ∙ sym (append_assoc (weight_part w c) (weight_lines (suc w) (take i counts)) (weight_part (w + suc i) (get_or counts i 0)))

module _ {room counts : List ℕ} where
  pub lines_start : LinesPut room counts 0 room 0
  lines_start = record { within = omega arith; puts = puts_none room 0 }

  module _ {i : ℕ} {room' : List ℕ} {r : ℕ} (b : LinesPut room counts i room' r) where
    pub lines-on : {room'' : List ℕ} {k : ℕ} → i < length counts → Puts room' r (weight_part i (get_or counts i 0)) room'' k
        → LinesPut room counts (i + 1) room'' k
    lines-on h q =
        let z : 0 + i ≡ i = omega arith in
        record { within = omega (arith, h); puts = rw (add-one, lines_more 0 counts i h, z) (puts_then b.puts q) }

    pub lines-size : length room' ≡ length room
    lines-size = b.puts.size

    pub lines_end : length counts ≤ i → Puts room 0 (weight_lines 0 counts) room' r
    lines_end h = rw (take_all i counts h) at b.puts

-- ---- the whole text

pub text-whole : (counts : List ℕ) (none : Bool) (least : ℕ) {room room' room'' : List ℕ} {r k : ℕ} → Puts room 0 (weight_lines 0 counts) room' r
    → Puts room' r (last_line none least) room'' k → Puts room 0 (weights_text counts none least) room'' k
text-whole counts none least = puts_then

-- ---- its length: 6 + 1 + 2 + 1 + 20 + 1 bytes a weight, and 27 for the last line

part_length : (weight count : ℕ) → weight < 100 → length (weight_part weight count) ≤ 31
unfolding weight_part weight_line
part_length weight count h = by (eqb count 0)
  where
    by : (none : Bool) → length (cond none [] (weight_line weight count)) ≤ 31
    by true = omega arith
    by false = simp length-append (omega (arith, decimal-two weight h, decimal-length count))

lines-length : (w : ℕ) (counts : List ℕ) → w + length counts ≤ 100 → length (weight_lines w counts) ≤ length counts * 31
lines-length w [] h = omega arith
lines-length w (c ∷ counts) h =
    omega (
      arith,
      lines-length (suc w) counts (omega (arith, h)),
      length-append (weight_part w c) (weight_lines (suc w) counts),
      part_length w c (omega (arith, h)),
    )

last-length : (none : Bool) (least : ℕ) → length (last_line none least) ≤ 27
unfolding last_line least_line no_least_line
last-length true least = omega arith
last-length false least = simp length-append (omega (arith, decimal-length least))

pub text-length : (counts : List ℕ) (none : Bool) (least : ℕ) → length counts ≤ 65 → length (weights_text counts none least) ≤ 2048
text-length counts none least h =
    omega (
      arith,
      h,
      length-append (weight_lines 0 counts) (last_line none least),
      lines-length 0 counts (omega (arith, h)),
      last-length none least,
    )

-- a text at the start of a room that has so many bytes
module _ {text room room' : List ℕ} {size : ℕ} (p : Puts room 0 text room' size) (short : length text ≤ 2048) (long : 2048 ≤ length room) where
  fits : 0 + length text < 18446744073709551616
  fits = omega (arith, short)

  pub text-size : size ≡ length text
  text-size = p.next fits ∙ omega arith

  pub text-stands : room' ≡ text ++ drop (length text) room
  text-stands =
      let z : 0 + length text ≡ length text = omega arith in
      let s : sets room 0 text ≡ text ++ drop (0 + length text) room = sets-eq text room 0 (omega (arith, short, long)) in
      p.stands fits ∙ rw z at s
