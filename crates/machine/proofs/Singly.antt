-- An accepted run is that many single steps, fewer only where one halts or faults; a refused one is what a refused step is.
-- Assumes nothing.
use Rattle.std.proofs.Common.{◌≡◌, ℕ, zero, suc, ◌-◌, ◌≤◌, List, length, sym, refl, ap, ◌∙◌, arith}
use Rattle.machine.specs.declared.State.{State}
use Rattle.machine.specs.declared.Ending.TheVariants.{Halted, Faulted}
use Rattle.refusal.specs.Refusal.{Verdict, Passes, Refuses}
use Rattle.machine.specs.Step.{Next, Go, Halt, Fault, Did, step_of}
use Rattle.machine.specs.Run.{Ran, follow, run_of}
use Rattle.machine.specs.Entry.{ended, Shown, shown, state_of, sizes_of, entered, run_shown, run_entry, step_shown, step_entry}
use Rattle.machine.specs.Single.{counted, onward, singly}
use Rattle.machine.proofs.Entries.{run_left}
use Rattle.machine.proofs.Lengths.{step_kept}

module _ (code : List ℕ) where
  abbrev Accepted : List ℕ → Type 0
  Accepted m = sizes_of (length code) (length m) ≡ Passes

  -- one more step, counted
  more : (k : ℕ) (r : Ran) → r.left ≤ k → shown (counted (run_shown k r).said) (run_shown k r).state (run_shown k r).memory ≡ run_shown (suc k) r
  more k r h =
      let e : suc (k - r.left) ≡ suc k - r.left = omega arith in
      ap (λ (n : ℕ). shown (ended r.ending n) (state_of r.place r.registers) r.memory) e

  step_first : (k p : ℕ) → ((q : ℕ) (g m : List ℕ) → Accepted m → run_shown k (run_of code k q g m) ≡ singly code k (state_of q g) m) → (x : Next) (g m : List ℕ)
      → Accepted m
      → run_shown (suc k) (follow (run_of code k) k p x g m)
      ≡ onward (singly code k) (step_shown p x g m).said (step_shown p x g m).state (step_shown p x g m).memory
  step_first k p ih (Go q) g m h =
      sym (more k (run_of code k q g m) (run_left code k q g m))
      ∙ ap (λ (y : Shown). shown (counted y.said) y.state y.memory) (ih q g m h)
  step_first k p ih Halt g m h =
      let e : suc k - k ≡ 1 = omega arith in
      ap (λ (n : ℕ). shown (ended Halted n) (state_of p g) m) e
  step_first k p ih (Fault f) g m h =
      let e : suc k - suc k ≡ 0 = omega arith in
      ap (λ (n : ℕ). shown (ended (Faulted f) n) (state_of p g) m) e

  kept : (p : ℕ) (g m : List ℕ) → Accepted m → Accepted (step_of code p g m).memory
  kept p g m h = ap (sizes_of (length code)) (step_kept code p g m) ∙ h

  -- an accepted step is shown as it went
  accepted : (s : State) (m : List ℕ) → Accepted m
      → step_entry code m s ≡ step_shown s.place (step_of code s.place s.registers m).next (step_of code s.place s.registers m).registers (step_of code s.place s.registers m).memory
  unfolding step_entry
  accepted s m h =
      let d : Did = step_of code s.place s.registers m in
      ap (λ (x : Verdict). entered x (step_shown s.place d.next d.registers d.memory) s m) h

  shown_singly : (k p : ℕ) (g m : List ℕ) → Accepted m → run_shown k (run_of code k p g m) ≡ singly code k (state_of p g) m
  unfolding run_of singly
  shown_singly zero p g m h = refl
  shown_singly (suc k) p g m h =
      let d : Did = step_of code p g m in
      step_first k p (shown_singly k) d.next d.registers d.memory (kept p g m h)
      ∙ ap (λ (x : Shown). onward (singly code k) x.said x.state x.memory) (sym (accepted (state_of p g) m h))

-- demand 2: an accepted run is its single steps
pub run_is_single_steps : (code m : List ℕ) (s : State) (budget : ℕ) → sizes_of (length code) (length m) ≡ Passes
    → run_entry code m s budget ≡ singly code budget s m
unfolding run_entry
run_is_single_steps code m s budget h =
    ap (λ (x : Verdict). entered x (run_shown budget (run_of code budget s.place s.registers m)) s m) h
    ∙ shown_singly code budget s.place s.registers m h

-- demand 1: a run is refused as a single step is, with nothing changed
pub refused_alike : (code m : List ℕ) (s : State) (budget : ℕ) → (sizes_of (length code) (length m) ≡ Passes → ⊥)
    → run_entry code m s budget ≡ step_entry code m s
unfolding run_entry step_entry
refused_alike code m s budget h = go (sizes_of (length code) (length m)) h
  where
    go : (x : Verdict) → (x ≡ Passes → ⊥)
        → entered x (run_shown budget (run_of code budget s.place s.registers m)) s m
        ≡ entered x (step_shown s.place (step_of code s.place s.registers m).next (step_of code s.place s.registers m).registers (step_of code s.place s.registers m).memory) s m
    go Passes f = absurd (f refl)
    go (Refuses n k) f = refl
