-- Each entry point's promise leaves room for one outcome: two results that meet it are equal, for the answer, the state and every cell.
-- Assumes nothing.
use Rattle.std.proofs.Common.{◌≡◌, ℕ, List, Result, sym, refl, ap, ap₂, ◌∙◌, arith}
use Rattle.std.specs.Prelude.{Ok, Err}
use Rattle.refusal.specs.declared.Refusal.{Refusal}
use Rattle.refusal.specs.Refusal.{number_of, value_of}
use Rattle.refusal.proofs.Outcomes.{one_refusal}
use Rattle.machine.specs.declared.State.{State}
use Rattle.machine.specs.declared.Ending.{Ending}
use Rattle.machine.specs.declared.Ended.{Ended}
use Rattle.machine.specs.declared.Taken.{Taken}
use Rattle.machine.specs.Entry.{Said, refused, ended, went, halted, faulted, Shown, shown, run_said, step_said}

same_run : (a b : Result Ended Refusal) → run_said a ≡ run_said b → a ≡ b
same_run (Ok e) (Ok f) h =
    let p : e.ending ≡ f.ending = cc in
    let q : e.steps ≡ f.steps = cc in
    ap₂ (λ (x : Ending) (n : ℕ). Ok (record { ending = x; steps = n })) p q
same_run (Ok e) (Err s) h = let z : ◌≡◌ {A = ℕ} 0 1 = cc in absurd (omega arith)
same_run (Err r) (Ok f) h = let z : ◌≡◌ {A = ℕ} 0 1 = cc in absurd (omega arith)
same_run (Err r) (Err s) h =
    let p : number_of r ≡ number_of s = cc in
    let q : value_of r ≡ value_of s = cc in
    ap Err (one_refusal r s p q)

pub one_run : (a b : Result Ended Refusal) (s t : State) (m n : List ℕ) → shown (run_said a) s m ≡ shown (run_said b) t n → (a ≡ b) × (s ≡ t) × (m ≡ n)
one_run a b s t m n e =
    (same_run a b (ap (λ (r : Shown). r.said) e), ap (λ (r : Shown). r.state) e, ap (λ (r : Shown). r.memory) e)

-- the step that is said
abbrev step_back : Said → Taken
step_back went = Taken.Went
step_back halted = Taken.Halted
step_back (faulted f) = Taken.Faulted f
step_back (ended e n) = Taken.Went
step_back (refused n k) = Taken.Went

taken_back : (t : Taken) → step_back (step_said (Ok t)) ≡ t
taken_back Taken.Went = refl
taken_back Taken.Halted = refl
taken_back (Taken.Faulted f) = refl

not_refused : (t : Taken) (n k : ℕ) → step_said (Ok t) ≡ refused n k → ⊥
not_refused Taken.Went n k h = let z : ◌≡◌ {A = ℕ} 0 1 = cc in omega arith
not_refused Taken.Halted n k h = let z : ◌≡◌ {A = ℕ} 0 1 = cc in omega arith
not_refused (Taken.Faulted f) n k h = let z : ◌≡◌ {A = ℕ} 0 1 = cc in omega arith

same_step : (a b : Result Taken Refusal) → step_said a ≡ step_said b → a ≡ b
same_step (Ok x) (Ok y) h = ap Ok (sym (taken_back x) ∙ ap step_back h ∙ taken_back y)
same_step (Ok x) (Err s) h = absurd (not_refused x (number_of s) (value_of s) h)
same_step (Err r) (Ok y) h = absurd (not_refused y (number_of r) (value_of r) (sym h))
same_step (Err r) (Err s) h =
    let p : number_of r ≡ number_of s = cc in
    let q : value_of r ≡ value_of s = cc in
    ap Err (one_refusal r s p q)

pub one_step : (a b : Result Taken Refusal) (s t : State) (m n : List ℕ) → shown (step_said a) s m ≡ shown (step_said b) t n → (a ≡ b) × (s ≡ t) × (m ≡ n)
one_step a b s t m n e =
    (same_step a b (ap (λ (r : Shown). r.said) e), ap (λ (r : Shown). r.state) e, ap (λ (r : Shown). r.memory) e)
