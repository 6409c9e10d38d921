-- A run that halts under a budget goes the same way under every larger one, and leaves as much more as the budget is larger.
-- Assumes nothing.
use mathlib.Core.Path.{◌≡◌, refl, ◌∙◌, ap}
use mathlib.Core.List.{List}
use Prim.Native.Nat.{ℕ, zero, suc, ◌+◌, ◌-◌, ◌≤◌}
use native.Mathlib.Omega.{arith}
use Rattle.machine.specs.declared.Ending.TheVariants.{Halted}
use Rattle.machine.specs.Step.{Next, Go, Halt, Fault, Did, step_of}
use Rattle.machine.specs.Run.{Ran, ran, follow, run_of}
use Rattle.machine.specs.Entry.{shown, ended, state_of, run_shown}
use Rattle.machine.proofs.Entries.{run_left}

-- the same with d more left
abbrev more : ℕ → Ran → Ran
more d r = ran r.ending (r.left + d) r.place r.registers r.memory

module _ (C : List ℕ) (d : ℕ) where
  followed : (k p : ℕ) → ((q : ℕ) (g m : List ℕ) → (run_of C k q g m).ending ≡ Halted → run_of C (k + d) q g m ≡ more d (run_of C k q g m))
      → (x : Next) (g m : List ℕ) → (follow (run_of C k) k p x g m).ending ≡ Halted
      → follow (run_of C (k + d)) (k + d) p x g m ≡ more d (follow (run_of C k) k p x g m)
  followed k p ih (Go q) g m e = ih q g m e
  followed k p ih Halt g m e = refl
  followed k p ih (Fault f) g m e = let z : ◌≡◌ {A = ℕ} 0 1 = cc in absurd (omega arith)

  run_more : (k p : ℕ) (g m : List ℕ) → (run_of C k p g m).ending ≡ Halted → run_of C (k + d) p g m ≡ more d (run_of C k p g m)
  unfolding run_of
  run_more zero p g m e = let z : ◌≡◌ {A = ℕ} 0 1 = cc in absurd (omega arith)
  run_more (suc k) p g m e =
      let s : Did = step_of C p g m in
      let i : suc k + d ≡ suc (k + d) = omega arith in
      rw i (followed k p (run_more k) s.next s.registers s.memory e)

-- so that it shows the same
pub shown_more : (C : List ℕ) (b c p : ℕ) (g m : List ℕ) → b ≤ c → (run_of C b p g m).ending ≡ Halted
    → run_shown c (run_of C c p g m) ≡ run_shown b (run_of C b p g m)
shown_more C b c p g m h e =
    let r : Ran = run_of C b p g m in
    let i : c ≡ b + (c - b) = omega arith in
    let l : r.left ≤ b = run_left C b p g m in
    let j : c - (r.left + (c - b)) ≡ b - r.left = omega arith in
    ap (λ (x : ℕ). run_shown c (run_of C x p g m)) i ∙ ap (run_shown c) (run_more C (c - b) b p g m e)
    ∙ ap (λ (x : ℕ). shown (ended r.ending x) (state_of r.place r.registers) r.memory) j
