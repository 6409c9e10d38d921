-- An unfinished run of a steps, followed by a run of b, is a run of a + b.
-- Assumes nothing.
use Rattle.std.proofs.Common.{◌≡◌, ℕ, zero, suc, ◌+◌, List, arith}
use Rattle.machine.specs.declared.Ending.TheVariants.{Unfinished}
use Rattle.machine.specs.Step.{Next, Go, Halt, Fault, Did, step_of}
use Rattle.machine.specs.Run.{Ran, follow, run_of}

-- a run that goes on from where another ended
abbrev pub goes_on : List ℕ → ℕ → Ran → Ran
goes_on code b r = run_of code b r.place r.registers r.memory

followed : (code : List ℕ) (a b p : ℕ) → ((q : ℕ) (g m : List ℕ) → (run_of code a q g m).ending ≡ Unfinished → run_of code (a + b) q g m ≡ goes_on code b (run_of code a q g m))
    → (x : Next) (g m : List ℕ) → (follow (run_of code a) a p x g m).ending ≡ Unfinished → follow (run_of code (a + b)) (a + b) p x g m ≡ goes_on code b (follow (run_of code a) a p x g m)
followed code a b p ih (Go q) g m e = ih q g m e
followed code a b p ih Halt g m e = let z : ◌≡◌ {A = ℕ} 0 1 = cc in absurd (omega arith)
followed code a b p ih (Fault f) g m e = let z : ◌≡◌ {A = ℕ} 0 1 = cc in absurd (omega arith)

pub runs_join : (code : List ℕ) (a b p : ℕ) (g m : List ℕ) → (run_of code a p g m).ending ≡ Unfinished → run_of code (a + b) p g m ≡ goes_on code b (run_of code a p g m)
unfolding run_of
runs_join code zero b p g m e = let i : 0 + b ≡ b = omega arith in rw i
runs_join code (suc a) b p g m e =
    let d : Did = step_of code p g m in
    let i : suc a + b ≡ suc (a + b) = omega arith in
    rw i (followed code a b p (runs_join code a b) d.next d.registers d.memory e)
