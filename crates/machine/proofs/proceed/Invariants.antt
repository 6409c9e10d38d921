-- `proceed`: at each turn what is left to run, limit - place steps, is the whole run from its start.
use Rattle.std.proofs.Common.{◌≡◌, ◌+◌, ◌-◌, ◌<◌, ◌≤◌, min, length}
use Rattle.machine.specs.Inside.{Cleared}
use Rattle.machine.specs.Run.{run_of}
use Rattle.machine.proofs.proceed.Given as goal

abbrev pub invariant-turns : goal.invariant-turns
invariant-turns l = record {
  within : l.place ≤ l.limit;
  budgeted : l.limit ≤ l.place + l.budget;
  fits : l.limit < 8589934592;
  stops : l.stop ≡ min l.count l.limit;
  as_long : length l.memory ≡ length l.initial.memory;
  whole : run_of l.code (l.limit - l.place) l.place l.registers l.memory ≡ run_of l.code l.budget l.from l.initial.registers l.initial.memory;
  cleared : Cleared l.registers;
}

abbrev pub decreases-turns : goal.decreases-turns
decreases-turns l = l.limit - l.place
