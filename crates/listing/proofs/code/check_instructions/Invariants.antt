-- `check_instructions`: at each turn the instructions below are sound.
use mathlib.Core.Path.{◌≡◌}
use mathlib.Core.Bool.{Bool, not}
use mathlib.Core.List.{List}
use Prim.Native.Nat.{ℕ}
use Rattle.refusal.proofs.Scans.{scan_from}
use Rattle.instruction.specs.Instruction.{fetch, count_of}
use Rattle.listing.specs.Listing.{sound, instructions}
use Rattle.listing.proofs.code.check_instructions.Given as goal

-- what is refused of a code
abbrev pub bad : List ℕ → ℕ → Bool
bad code j = not (sound (count_of code) (fetch code j))

abbrev pub invariant-instructions : goal.invariant-instructions
invariant-instructions l = instructions l.words ≡ scan_from (λ j. 21) (bad l.words) (count_of l.words) l.place
