-- `number`: there is room for it.
use native.Mathlib.Omega.{arith}
use Rattle.decimal.specs.Decimal.{numeral}
use Rattle.listing.proofs.Writing.{number_fits, wrote_number}
use Rattle.listing.proofs.line.Text.number.Goals as goal

pub unwrap-requires : goal.unwrap-requires
unwrap-requires c = rw (number_fits _ _ _ _ c.write.ensures c.requires)

pub overflow_add-self : goal.overflow_add-self
overflow_add-self c =
    let n = wrote_number c.args.self.now _ _ (numeral c.args.word) c.write.ensures c.requires _ c.unwrap.ensures in
    omega (arith, n.next)

pub returns : goal.returns
returns c = wrote_number _ _ _ _ c.write.ensures c.requires _ c.unwrap.ensures
