-- Laws of the entry points: what accepted sizes are, what a run has left, and that a single step is a run under the budget 1.
-- Assumes nothing.
use Rattle.std.proofs.Common.{◌≡◌, ℕ, zero, suc, ◌<◌, ◌≤◌, Bool, true, false, cond, leb, List, length, Result, sym, refl, ap, ◌∙◌, arith, leb-true}
use Rattle.instruction.specs.Instruction.{taken}
use Rattle.instruction.proofs.Forms.{taken_words}
use Rattle.std.specs.Prelude.{Ok, Err}
use Rattle.refusal.specs.declared.Refusal.{Refusal}
use Rattle.machine.specs.declared.State.{State}
use Rattle.machine.specs.declared.Ended.{Ended}
use Rattle.machine.specs.declared.Taken.{Taken}
use Rattle.machine.specs.Inside.{taken_of, stepped_of}
use Rattle.machine.specs.declared.Ending.{Ending}
use Rattle.machine.specs.declared.Ending.TheVariants.{Halted, Faulted, Unfinished}
use Rattle.refusal.specs.Refusal.{Verdict, Passes, Refuses}
use Rattle.machine.specs.Step.{Next, Go, Halt, Fault, Did, step_of}
use Rattle.machine.specs.Run.{Ran, follow, run_of}
use Rattle.machine.proofs.Places.{run_place}
use Rattle.machine.specs.Entry.{Said, refused, ended, went, halted, faulted, Shown, shown, state_of, cells_taken, sizes_of, entered, run_said, step_said, run_shown, run_entry, step_shown, step_entry}

-- "13 comes before 14": code of a wrong size is refused whatever the memory
pub thirteen_first : (w c : ℕ) → taken w ≡ false → sizes_of w c ≡ Refuses 13 0
unfolding sizes_of
thirteen_first w c h = rw h

pub fine_sizes : (w c : ℕ) → sizes_of w c ≡ Passes → (w ≤ 262144) × (c ≤ 65536)
unfolding sizes_of
fine_sizes w c = go (taken w) refl (leb c 65536) refl
  where
    go : (s : Bool) → taken w ≡ s → (t : Bool) → leb c 65536 ≡ t → cond s (cond t Passes (Refuses 14 0)) (Refuses 13 0) ≡ Passes → (w ≤ 262144) × (c ≤ 65536)
    go true e true f h = ((taken_words w e).1, leb-true c 65536 f)
    go true e false f h = let z : ◌≡◌ {A = ℕ} 0 1 = cc in absurd (omega arith)
    go false e t f h = let z : ◌≡◌ {A = ℕ} 0 1 = cc in absurd (omega arith)

followed : (code : List ℕ) (k p : ℕ) → ((q : ℕ) (g m : List ℕ) → (run_of code k q g m).left ≤ k) → (x : Next) (g m : List ℕ)
    → (follow (run_of code k) k p x g m).left ≤ suc k
followed code k p ih (Go q) g m = let h = ih q g m in omega arith
followed code k p ih Halt g m = omega arith
followed code k p ih (Fault f) g m = omega arith

pub run_left : (code : List ℕ) (k p : ℕ) (g m : List ℕ) → (run_of code k p g m).left ≤ k
unfolding run_of
run_left code zero p g m = omega arith
run_left code (suc k) p g m =
    let d : Did = step_of code p g m in
    followed code k p (run_left code k) d.next d.registers d.memory

-- how a run under the budget 1 went, as a single step
abbrev stepped : Ending → Said
stepped Halted = halted
stepped (Faulted f) = faulted f
stepped Unfinished = went

abbrev pub as_step : Said → Said
as_step (refused n k) = refused n k
as_step (ended e n) = stepped e
as_step went = went
as_step halted = halted
as_step (faulted f) = faulted f

abbrev pub as_stepped : Shown → Shown
as_stepped x = shown (as_step x.said) x.state x.memory

-- the verdict on code and cells, by whether the size of each is taken
abbrev verdict : Bool → Bool → Verdict
verdict t c = cond t (cond c Passes (Refuses 14 0)) (Refuses 13 0)

-- what holds of a refusal, and of each way that a step can go beside the run under the budget 1, holds of the two entries
module _ (P : Shown → Shown → Type 0)
    (refuses : (n : ℕ) (s : State) (m : List ℕ) → P (shown (refused n 0) s m) (shown (refused n 0) s m))
    (goes : (s : State) (m : List ℕ) → P (shown went s m) (shown (ended Unfinished 1) s m))
    (halts : (s : State) (m : List ℕ) → P (shown halted s m) (shown (ended Halted 1) s m))
    (faults : (f : ℕ) (s : State) (m : List ℕ) → P (shown (faulted f) s m) (shown (ended (Faulted f) 0) s m)) where
  pub step_beside_run : (code m : List ℕ) (s : State) → P (step_entry code m s) (run_entry code m s 1)
  unfolding step_entry run_entry run_of sizes_of
  step_beside_run code m s =
      let d : Did = step_of code s.place s.registers m in
      within (taken (length code)) (cells_taken (length m)) d.next d.registers d.memory
    where
      within : (t c : Bool) (y : Next) (g m' : List ℕ)
          → P (entered (verdict t c) (step_shown s.place y g m') s m) (entered (verdict t c) (run_shown 1 (follow (run_of code 0) 0 s.place y g m')) s m)
      within true true (Go q) g m' = goes (state_of q g) m'
      within true true Halt g m' = halts (state_of s.place g) m'
      within true true (Fault f) g m' = faults f (state_of s.place g) m'
      within true false y g m' = refuses 14 s m
      within false c y g m' = refuses 13 s m

pub step_is_run : (code m : List ℕ) (s : State) → step_entry code m s ≡ as_stepped (run_entry code m s 1)
step_is_run = step_beside_run (λ (x y : Shown). x ≡ as_stepped y) (λ n s m. refl) (λ s m. refl) (λ s m. refl) (λ f s m. refl)

pub as_step_lem : (code m : List ℕ) (s : State) {x : Shown} → x ≡ run_entry code m s 1 → as_stepped x ≡ step_entry code m s
as_step_lem code m s e = ap as_stepped e ∙ sym (step_is_run code m s)

stepped_said : (a : Result Ended Refusal) → step_said (stepped_of a) ≡ as_step (run_said a)
stepped_said (Ok e) = go e.ending e.steps
  where
    go : (x : Ending) (n : ℕ) → step_said (Ok (taken_of x)) ≡ as_step (ended x n)
    go Halted n = refl
    go (Faulted f) n = refl
    go Unfinished n = refl
stepped_said (Err r) = refl

-- so what a run under the budget 1 answers, as a step's, is what a step answers
pub step_of_run : (code m : List ℕ) (s : State) (a : Result Ended Refusal) (b : Result Taken Refusal) (t : State) (l : List ℕ)
    → shown (run_said a) t l ≡ run_entry code m s 1 → b ≡ stepped_of a → shown (step_said b) t l ≡ step_entry code m s
step_of_run code m s a b t l e h =
    ap (λ (x : Result Taken Refusal). shown (step_said x) t l) h ∙ ap (λ (x : Said). shown x t l) (stepped_said a) ∙ as_step_lem code m s e

-- of what an accepted run leaves, the budget and the place
pub left_at : (code : List ℕ) (k p : ℕ) (g m : List ℕ) (r : Ran) → r ≡ run_of code k p g m → r.left ≤ k
left_at code k p g m r e = rw e (run_left code k p g m)

pub place_at : (code : List ℕ) (k p : ℕ) (g m : List ℕ) (r : Ran) → length code ≤ 262144 → p < 4294967296 → r ≡ run_of code k p g m
    → r.place < 4294967296
place_at code k p g m r few h e =
    let w : (run_of code k p g m).place ≤ 4294967295 = run_place code 4294967295 (omega arith) k p g m (omega arith) in
    rw e (omega arith)
