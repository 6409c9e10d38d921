-- `mark`: at each turn the labels that the instructions below name are marked.
use Rattle.listing.specs.Inside.{Marked}
use Rattle.listing.proofs.mark.Given as goal

abbrev pub invariant-instructions : goal.invariant-instructions
invariant-instructions l = Marked l.code.words.now l.place l.marks
