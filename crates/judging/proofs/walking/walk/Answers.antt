-- `walking::walk` meets its contract. The loop's invariant: the ways from the two numbers differ, and their earliest difference makes the whole.
use native.Mathlib.Omega.{arith}
use mathlib.Core.Path.{◌≡◌, subst}
use Prim.Native.Nat.{ℕ}
use Rattle.judging.proofs.StatesTold.{end-states, start-states}
use Rattle.judging.proofs.WalkSteps.{Walked, walked_end, walked_on, walked_start}
use Rattle.judging.specs.Ours.{ours}
use Rattle.judging.specs.Room.{theirs}
use borrow.Author.Tests.{eq-eqb, ne_eqb}
use lib.Dec.{eqb}
use mathlib.Core.Bool.{Bool, false, true}
use mathlib.Core.List.{List}
use Rattle.judging.specs.Steps.{WalkAsks}
use Rattle.judging.specs.Ways.{Differs}
use Rattle.judging.proofs.walking.walk.Goals as goal

-- the walk at the end shows a word
ended : {rows : List ℕ} {mask n : ℕ} {room : List ℕ} (lines : ℕ) → WalkAsks rows mask n room lines → (t u y word : ℕ) → t ≡ n
    → Walked (theirs n lines room) (ours rows mask) n t u y word → (b : Bool) → eqb u 1 ≡ b
    → Differs (theirs n lines room) (ours rows mask) n 0 1 1 word b
ended {rows} {mask} {n} {room} lines p t u y word e w b q =
    let A = theirs n lines room in
    let B = ours rows mask in
    subst (Differs A B n 0 1 1 word) q
    (walked_end A B n u y word (end-states p.ready.plate) (subst (λ (k : ℕ). Walked A B n k u y word) e w))

pub loop-t-init : goal.loop-t-init
loop-t-init c =
    walked_start (theirs c.args.n c.args.lines c.args.room.now) (ours c.args.rows.now c.args.mask) c.args.n (start-states c.requires.ready.plate) c.requires.apart

pub step-next-requires : goal.step-next-requires
step-next-requires c =
    let l = c.loop-t in
    let h = c.loop-t-test.true in
    record {
      asking = record { ready = c.requires.ready; within = l.invariant.within; told = λ k j m e. c.requires.told j (omega arith) m };
      before = h;
      theirs_small = l.invariant.theirs_small;
      ours_small = l.invariant.ours_small;
    }

pub with_bit-word-requires : goal.with_bit-word-requires
with_bit-word-requires c =
    let l = c.loop-t in
    (omega (arith, c.loop-t-test.true, c.requires.ready.holds.short), l.invariant.word_small, c.step-next.ensures.bit_small)

pub loop-t-preserved : goal.loop-t-preserved
loop-t-preserved c =
    let l = c.loop-t in
    walked_on (theirs c.args.n c.args.lines c.args.room.now) (ours c.args.rows.now c.args.mask) c.args.n l.t l.u l.y l.word c.loop-t-test.true l.invariant c.step-next.result c.step-next.ensures c.with_bit-word.result c.with_bit-word.ensures.0 c.with_bit-word.ensures.1

pub returns-then-u-eq1 : goal.returns-then-u-eq1
returns-then-u-eq1 c =
    let l = c.loop-t in
    ended c.args.lines c.requires l.t l.u l.y l.word (omega (arith, c.loop-t-test.false, l.invariant.within)) l.invariant true (eq-eqb l.u 1 c.if-u-eq1.true)

pub returns-else-u-eq1 : goal.returns-else-u-eq1
returns-else-u-eq1 c =
    let l = c.loop-t in
    ended c.args.lines c.requires l.t l.u l.y l.word (omega (arith, c.loop-t-test.false, l.invariant.within)) l.invariant false (ne_eqb l.u 1 c.if-u-eq1.false)
