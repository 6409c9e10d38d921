-- `line`: the label, the mnemonic, the words after it and the newline, one after another.
use Rattle.listing.specs.Line.{instruction_line}
use Rattle.listing.proofs.Writing.{wrote_then}
use Rattle.listing.proofs.line.Text.line.Goals as goal

pub returns : goal.returns
unfolding instruction_line
returns c =
    wrote_then c.label.ensures (wrote_then c.mnemonic.ensures (wrote_then c.operands.ensures c.put.ensures))
