-- `cell_at`: the sum in 64 bits is the exact address, or larger than any size.
use Rattle.std.proofs.Common.{◌≡◌, ℕ, ltb, ◌+ℤ◌, ap, ◌∙◌, arith}
use Rattle.std.specs.Bool.{then_some}
use Rattle.std.proofs.lemmas.Int.{ints}
use Rattle.std.specs.Int.{w32, w64, cast_signed, cast_unsigned}
use Rattle.machine.specs.Inside.{cell_said}
use Rattle.machine.proofs.Addresses.{cell_of_sum}
use Rattle.machine.proofs.operation.cell_at.Goals as goal

pub returns : goal.returns
returns c =
    let at : c.cast_unsigned-at.result ≡ cast_unsigned w64 (cast_signed w32 c.args.base +ℤ cast_signed w32 c.args.index) = omega (arith, ints) in
    ap cell_said c.then_some.ensures
    ∙ ap (λ (n : ℕ). cell_said (then_some (ltb n c.args.size) n)) at
    ∙ cell_of_sum c.args.base c.args.index c.args.size c.ranges.base.fits c.ranges.index.fits c.requires
