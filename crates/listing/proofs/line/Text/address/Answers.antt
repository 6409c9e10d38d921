-- `address`: the base, and the index in brackets.
use Rattle.listing.proofs.Writing.{wrote_then}
use Rattle.listing.proofs.line.Text.address.Goals as goal

pub returns : goal.returns
returns c = wrote_then c.register.ensures (wrote_then c.put.ensures (wrote_then c.number.ensures c.put-2.ensures))
