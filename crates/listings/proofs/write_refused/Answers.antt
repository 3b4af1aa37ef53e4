-- `listings::write_refused` meets its contract.
use Rattle.std.proofs.Common.{◌≡◌, ◌∙◌, sym, true, false}
use Rattle.listings.specs.Lines.{names_field, refused_line}
use Rattle.listings.proofs.Fits256.{refused-fits-256}
use Rattle.listings.proofs.write_refused.Goals as goal

pub write_numbers-requires : goal.write_numbers-requires
unfolding refused_line
write_numbers-requires c =
    let a = c.args in
    let e : names_field a.number ≡ true = sym c.names_field.ensures ∙ c.if-names_field.true in
    rw e at (refused-fits-256 a.number a.place a.field)

pub returns-then-names_field : goal.returns-then-names_field
unfolding refused_line
returns-then-names_field c =
    let e : names_field c.args.number ≡ true = sym c.names_field.ensures ∙ c.if-names_field.true in
    rw e c.write_numbers.ensures

pub write_numbers-requires-2 : goal.write_numbers-requires-2
unfolding refused_line
write_numbers-requires-2 c =
    let a = c.args in
    let e : names_field a.number ≡ false = sym c.names_field.ensures ∙ c.if-names_field.false in
    rw e at (refused-fits-256 a.number a.place a.field)

pub returns : goal.returns
unfolding refused_line
returns c =
    let e : names_field c.args.number ≡ false = sym c.names_field.ensures ∙ c.if-names_field.false in
    rw e c.write_numbers-2.ensures
