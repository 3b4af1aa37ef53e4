-- `trellises::sections::section_of` meets its contract: the loop goes down over the rows, so those passed are the list's tail.
use borrow.Author.Rules.{rules}
use lib.ListN.{drop, get_or, length-drop}
use lib.Seq.{drop-length}
use mathlib.Core.List.{List}
use mathlib.Core.Path.{◌≡◌, ◌∙◌, ap, subst, sym}
use native.Mathlib.Omega.{arith}
use Prim.Native.Nat.{ℕ, ◌-◌, suc}
use Rattle.trellises.specs.SectionOf.{HasRoom, held, section_of, with_row}
use Rattle.trellises.specs.declared.Section.{Section}
use Rattle.trellises.proofs.HeldSection.{has_room, held_on, quiet-past}
use Rattle.trellises.proofs.sections.section_of.Goals as goal

pub returns-then-t-ge64 : goal.returns-then-t-ge64
returns-then-t-ge64 c = let a = c.args in sym (ap held (quiet-past a.rows.now a.t c.if-t-ge64.true))

pub loop-j-init : goal.loop-j-init
loop-j-init c =
    let a = c.args in
    (omega arith, sym (ap (λ (rows : List ℕ). held (section_of rows a.t)) (drop-length a.rows.now)))

pub with_row-section-requires : goal.with_row-section-requires
with_row-section-requires c =
    let a = c.args in
    let l = c.loop-j in
    subst (HasRoom a.t) (sym l.invariant.1)
    (has_room (drop l.j a.rows.now) a.t (search rules) (omega (arith, length-drop l.j a.rows.now, c.loop-j-test.true)))

pub loop-j-preserved : goal.loop-j-preserved
loop-j-preserved c =
    let a = c.args in
    let l = c.loop-j in
    let i : l.j ≡ suc (l.j - 1) = omega (arith, c.loop-j-test.true) in (
      omega arith,
      c.with_row-section.ensures
          ∙ ap (λ (z : Section). held (with_row a.t (get_or a.rows.now (l.j - 1) 0) z)) (l.invariant.1 ∙ ap (λ (j : ℕ). held (section_of (drop j a.rows.now) a.t)) i)
          ∙ held_on a.rows.now a.t (l.j - 1) (omega (arith, c.loop-j-test.true)),
    )

pub returns : goal.returns
returns c =
    let a = c.args in
    let e : c.loop-j.j ≡ 0 = omega arith in
    c.loop-j.invariant.1 ∙ ap (λ (j : ℕ). held (section_of (drop j a.rows.now) a.t)) e
