-- A run as single steps, one after the other, over the very definition that `step` promises. 01-scope.md; demand 2 of the minutes.
use Rattle.std.specs.Prelude.{ℕ, zero, suc, List}
use Rattle.machine.specs.declared.State.{State}
use Rattle.machine.specs.declared.Ending.TheVariants.{Halted, Faulted, Unfinished}
use Rattle.machine.specs.Entry.{Said, refused, ended, went, halted, faulted, Shown, shown, step_entry}

-- one step more
abbrev pub counted : Said → Said
counted (refused n k) = refused n k
counted (ended e n) = ended e (suc n)
counted went = went
counted halted = halted
counted (faulted f) = faulted f

-- what follows a single step: `rest` goes on from a next state
abbrev pub onward : (State → List ℕ → Shown) → Said → State → List ℕ → Shown
onward rest (refused n k) s m = shown (refused n k) s m
onward rest (ended e n) s m = shown (ended e n) s m
onward rest went s m = let x : Shown = rest s m in shown (counted x.said) x.state x.memory
onward rest halted s m = shown (ended Halted 1) s m
onward rest (faulted f) s m = shown (ended (Faulted f) 0) s m

-- "an accepted run under a budget is that many single steps, fewer only if it halts or faults"
unfoldable pub singly : List ℕ → ℕ → State → List ℕ → Shown
singly code zero s m = shown (ended Unfinished 0) s m
singly code (suc b) s m =
    let x : Shown = step_entry code m s in
    onward (singly code b) x.said x.state x.memory
