-- `run_in_place`: a refusal leaves all as it came; otherwise the run over a cleared place 0, put back after it, whose place and budget fit.
use Rattle.std.proofs.lemmas.Result.{err_from_is_err_and}
use Rattle.machine.specs.Entry.{run_entry}
use Rattle.machine.proofs.Entries.{fine_sizes, left_at, place_at}
use Rattle.machine.proofs.Cleared.{cleared, put_back}
use Rattle.std.proofs.Common.{sym, arith, rules}
use Rattle.machine.proofs.run_in_place.Goals as goal

pub proceed-stop-requires : goal.proceed-stop-requires
proceed-stop-requires c = let f = fine_sizes _ _ (sym c.in_ok-check_sizes.ensures) in (f.0, cleared c.args.registers.now, f.1, search rules)

pub overflow_cast-place-2 : goal.overflow_cast-place-2
overflow_cast-place-2 c = record { fits = place_at _ _ _ _ _ _ (fine_sizes _ _ (sym c.in_ok-check_sizes.ensures)).0 (search rules) c.proceed-stop.ensures }

pub overflow_sub-steps : goal.overflow_sub-steps
overflow_sub-steps c = let h = left_at _ _ _ _ _ _ c.proceed-stop.ensures in omega arith

pub returns-in_err-check_sizes : goal.returns-in_err-check_sizes
unfolding run_entry
returns-in_err-check_sizes c =
    let p = err_from_is_err_and c.from_residual.result c.from_residual.ensures.1 in
    rw (p.1, p.2, ← c.in_err-check_sizes.ensures)

pub returns : goal.returns
unfolding run_entry
returns c = rw (← c.in_ok-check_sizes.ensures, ← put_back _ 0 _ _ _ _ _ c.proceed-stop.ensures)
