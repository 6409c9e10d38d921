-- `write`: at each turn the lines below are written.
use Rattle.listing.specs.Listing.{lines}
use Rattle.listing.specs.Inside.{Wrote}
use Rattle.listing.proofs.Listing.write.Given as goal

abbrev pub invariant-lines : goal.invariant-lines
invariant-lines l = Wrote l.initial.written l.written (lines l.self.code.now.words.now l.place)
