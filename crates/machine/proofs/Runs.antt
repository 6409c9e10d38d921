-- A run, one step further.
-- Assumes nothing.
use Rattle.std.proofs.Common.{◌≡◌, ℕ, zero, suc, ◌-◌, ◌<◌, ◌≤◌, List, refl, arith, le-ltb}
use Rattle.machine.specs.declared.Ending.TheVariants.{Halted, Faulted, Unfinished}
use Rattle.instruction.specs.Instruction.{fetch, count_of}
use Rattle.machine.specs.Step.{Next, Go, Halt, Fault, did, tried, step_of}
use Rattle.machine.specs.Run.{ran, run_of}

module _ (code : List ℕ) (p : ℕ) (g m g' m' : List ℕ) (x : Next) (h : did x g' m' ≡ step_of code p g m) where
  pub run_go : (k q : ℕ) → 0 < k → x ≡ Go q → run_of code (k - 1) q g' m' ≡ run_of code k p g m
  unfolding run_of
  run_go zero q lt e = absurd (omega arith)
  run_go (suc k) q lt e = let i : suc k - 1 ≡ k = omega arith in rw (i, ← h, e)

  pub run_halt : (k : ℕ) → 0 < k → x ≡ Halt → ran Halted (k - 1) p g' m' ≡ run_of code k p g m
  unfolding run_of
  run_halt zero lt e = absurd (omega arith)
  run_halt (suc k) lt e = let i : suc k - 1 ≡ k = omega arith in rw (i, ← h, e)

  pub run_fault : (k f : ℕ) → 0 < k → x ≡ Fault f → ran (Faulted f) k p g' m' ≡ run_of code k p g m
  unfolding run_of
  run_fault zero f lt e = absurd (omega arith)
  run_fault (suc k) f lt e = rw (← h, e)

pub run_out : (code : List ℕ) (p : ℕ) (g m : List ℕ) (k : ℕ) → k ≤ 0 → ran Unfinished 0 p g m ≡ run_of code k p g m
unfolding run_of
run_out code p g m zero lt = refl
run_out code p g m (suc k) lt = absurd (omega arith)

pub step_outside : (code : List ℕ) (p : ℕ) (g m : List ℕ) → count_of code ≤ p → did (Fault 1) g m ≡ step_of code p g m
unfolding step_of fetch tried
step_outside code p g m h = rw (le-ltb _ _ h)
