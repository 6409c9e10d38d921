-- `instruction`: the first of the four words is an operation's number.
use Rattle.listing.proofs.Lines.{an_operation}
use Rattle.listing.proofs.Marks.{formed_at}
use Rattle.listing.proofs.code.Code.instruction.Goals as goal

pub unwrap-operation-requires : goal.unwrap-operation-requires
unwrap-operation-requires c = an_operation _ _ _ _ _ c.try_from.ensures (formed_at c.args.self.now.sound _ c.requires _ _ _ _ c.words_at-op.ensures)
