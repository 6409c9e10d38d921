-- `measure`: at each turn the length of the lines below.
use mathlib.Core.Path.{◌≡◌}
use lib.ListN.{length}
use Rattle.listing.specs.Listing.{lines}
use Rattle.listing.proofs.Listing.measure.Given as goal

abbrev pub invariant-lines : goal.invariant-lines
invariant-lines l = l.total ≡ length (lines l.self.code.now.words.now l.place)
