-- `proceed`: at each turn what is left to run, limit - place steps, is the whole run from its start.
use Rattle.std.proofs.Common.{◌≡◌, ℕ, suc, ◌+◌, ◌-◌, ◌<◌, refl, ap, ◌∙◌, add-one, arith}
use Rattle.machine.specs.Run.{run_of}
use Rattle.machine.proofs.Cleared.{step_cleared}
use Rattle.machine.proofs.Places.{step_to}
use Rattle.machine.proofs.Runs.{run_go, run_halt, run_fault, run_out, step_outside}
use Rattle.machine.proofs.proceed.Goals as goal

pub turns-init : goal.turns-init
turns-init c =
    let i : c.args.from + c.args.budget - c.args.from ≡ c.args.budget = omega arith in
    record {
      within = omega arith;
      budgeted = omega arith;
      fits = omega (arith, c.requires.3, c.ranges.budget.fits);
      stops = c.min-stop.ensures;
      as_long = refl;
      whole = rw i;
      cleared = c.requires.1;
    }

pub turns-preserved-in-On : goal.turns-preserved-in-On
turns-preserved-in-On c =
    let l = c.turns in let d = c.advance in
    let t : l.place < l.limit = omega (arith, l.invariant.stops, c.turns-test.true) in
    let i : l.limit - (l.place + 1) ≡ l.limit - l.place - 1 = omega arith in
    record {
      within = omega (arith, t);
      budgeted = omega (arith, l.invariant.budgeted);
      fits = l.invariant.fits;
      stops = l.invariant.stops;
      as_long = d.auto.memory ∙ l.invariant.as_long;
      whole = rw (i, add-one) (run_go _ _ _ _ _ _ _ c.in-On.ensures (l.limit - l.place) (suc l.place) (omega (arith, t)) refl ∙ l.invariant.whole);
      cleared = step_cleared _ _ _ _ _ _ _ c.in-On.ensures l.invariant.cleared;
    }

pub overflow_add-limit-in-To : goal.overflow_add-limit-in-To
overflow_add-limit-in-To c =
    let h = step_to _ _ _ _ _ _ _ _ c.in-To.ensures refl in
    record { fits = omega (arith, h, c.requires.0, c.turns.invariant.fits) }

pub turns-preserved : goal.turns-preserved
turns-preserved c =
    let l = c.turns in let d = c.advance in let q = c.in-To.next in
    let h = step_to _ _ _ _ _ _ _ _ c.in-To.ensures refl in
    let t : l.place < l.limit = omega (arith, l.invariant.stops, c.turns-test.true) in
    let i : q + (l.limit - l.place - 1) - q ≡ l.limit - l.place - 1 = omega arith in
    record {
      within = omega arith;
      budgeted = omega (arith, l.invariant.budgeted);
      fits = omega (arith, h, c.requires.0, l.invariant.budgeted, c.ranges.budget.fits);
      stops = c.min-stop-in-To.ensures;
      as_long = d.auto.memory ∙ l.invariant.as_long;
      whole =
          ap (λ (n : ℕ). run_of c.args.code.now n q d.new.registers d.new.memory) i
          ∙ run_go _ _ _ _ _ _ _ c.in-To.ensures (l.limit - l.place) q (omega (arith, t)) refl
          ∙ l.invariant.whole;
      cleared = step_cleared _ _ _ _ _ _ _ c.in-To.ensures l.invariant.cleared;
    }

pub returns-in-Halt : goal.returns-in-Halt
returns-in-Halt c =
    let l = c.turns in
    rw c.stopped.ensures
    (run_halt _ _ _ _ _ _ _ c.in-Halt.ensures (l.limit - l.place) (omega (arith, l.invariant.stops, c.turns-test.true)) refl ∙ l.invariant.whole)

pub returns-in-Fault : goal.returns-in-Fault
returns-in-Fault c =
    let l = c.turns in
    rw (c.stopped-in-Fault.ensures, c.from.ensures)
    (run_fault _ _ _ _ _ _ _ c.in-Fault.ensures (l.limit - l.place) _ (omega (arith, l.invariant.stops, c.turns-test.true)) refl ∙ l.invariant.whole)

pub returns-then-place-limit : goal.returns-then-place-limit
returns-then-place-limit c =
    let l = c.turns in
    rw (c.stopped-then-place-limit.ensures, c.from-fault.ensures)
    (run_fault _ _ _ _ _ _ _ (step_outside _ _ _ _ (omega (arith, l.invariant.stops, c.turns-test.false, c.if-place-limit.true))) (l.limit - l.place) 1 (omega (arith, c.if-place-limit.true)) refl ∙ l.invariant.whole)

pub returns : goal.returns
returns c =
    let l = c.turns in
    rw c.stopped-2.ensures (run_out _ _ _ _ (l.limit - l.place) (omega (arith, c.if-place-limit.false)) ∙ l.invariant.whole)
