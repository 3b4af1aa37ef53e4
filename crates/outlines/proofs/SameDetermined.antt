-- Determined: two replies of `write_same`, with the rooms after them, that meet its promise are equal.
use Rattle.std.proofs.Common.{Result, Ok, Err}
use Rattle.plates.specs.declared.Refusal.{Refusal}
use mathlib.Core.List.{List}
use mathlib.Core.Path.{◌≡◌, ap₂, subst, sym, ◌∙◌}
use Prim.Native.Nat.{ℕ}
use Rattle.listings.proofs.Determined.{determined}
use Rattle.listings.specs.Writing.{WritesLine}
use Rattle.outlines.proofs.Determined.{once, one-opened}
use Rattle.outlines.proofs.ToldWords.{tells-once}
use Rattle.outlines.specs.Comparing.{FirstBy, SecondBy, WritesSame, WritesTold, replied_as, told_line}
use Rattle.outlines.specs.declared.Compared.{Compared}
use Rattle.outlines.specs.declared.Uncompared.{Uncompared}
use Rattle.outlines.specs.declared.comparing.Told.{Told}
use Rattle.outlines.specs.declared.opening.Which.TheVariants.{Own}
use Rattle.plates.specs.declared.Plate.{Plate}
use Rattle.plates.specs.declared.Prepared.{Prepared}
use Rattle.plates.specs.Prepare.{IsWord}
use Rattle.sheets.specs.Sheet.{reading}

module _ {r s : Result Compared Uncompared} {x y : List ℕ} where
  told-determined : (a b : Plate) (room : List ℕ) → WritesTold a b room r x → WritesTold a b room s y → (r ≡ s) × (x ≡ y)
  told-determined a b room p q =
      let e : p.told ≡ q.told = tells-once a.n b.n (IsWord a) (IsWord b) p.told q.told p.tells q.tells in
      let f = determined _ (once, tt) (told_line a.n q.told) room (subst (λ (t : Told). WritesLine (told_line a.n t) room p.written x) e p.puts) q.puts in
      (p.is ∙ ap₂ replied_as e f.0 ∙ sym q.is, f.1)

  second-determined : (v : Result (Unit {0}) Refusal) (a b : Plate) (room : List ℕ) → SecondBy v a b room r x → SecondBy v a b room s y → (r ≡ s) × (x ≡ y)
  second-determined (Err q) a b room f g = (f.0 ∙ sym g.0, f.1 ∙ sym g.1)
  second-determined (Ok _) a b room f g = told-determined a b room f g

  first-determined : (v : Result (Unit {0}) Refusal) (a : Plate) (second room : List ℕ) → FirstBy v a second room r x → FirstBy v a second room s y → (r ≡ s) × (x ≡ y)
  first-determined (Err q) a second room f g = (f.0 ∙ sym g.0, f.1 ∙ sym g.1)
  first-determined (Ok _) a second room f g =
      let e = one-opened Own (reading second) f.prepared g.prepared f.opened.is g.opened.is in
      second-determined g.prepared.verdict a g.prepared.plate room
      (subst (λ (p : Prepared). SecondBy p.verdict a p.plate room r x) e f.is) g.is

  pub write-same-determined : (first second room : List ℕ) → WritesSame first second room r x → WritesSame first second room s y → (r ≡ s) × (x ≡ y)
  write-same-determined first second room f g =
      let e = one-opened Own (reading first) f.prepared g.prepared f.opened.is g.opened.is in
      first-determined g.prepared.verdict g.prepared.plate second room
      (subst (λ (p : Prepared). FirstBy p.verdict p.plate second room r x) e f.is) g.is
