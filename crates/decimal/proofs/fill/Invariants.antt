-- `fill`: the digits that are still to come, before those that stand, are the number's.
use Rattle.std.proofs.Common.{◌≡◌, ◌++◌, ◌<◌, ◌≤◌, ◌^◌, drop}
use Rattle.decimal.specs.Decimal.{digits}
use Rattle.decimal.proofs.Filling.{last_digits}
use Rattle.decimal.proofs.fill.Given as goal

abbrev pub invariant-loop-place : goal.invariant-loop-place
invariant-loop-place l =
    (last_digits l.place l.rest ++ drop l.place l.places ≡ digits l.n) × (l.rest < 10 ^ l.place) × (1 ≤ l.place)
