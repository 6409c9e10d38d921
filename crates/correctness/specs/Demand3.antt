-- What demand 3 promises: a run shows what a rule means, and only registers of the pool have changed.
-- Assumes nothing.
use Rattle.std.specs.Prelude.{◌≡◌, List, [], ◌∷◌, ℕ, ◌-◌, get_or}
use Rattle.machine.specs.declared.Ending.{Ending}
use Rattle.machine.specs.declared.Ending.TheVariants.{Halted, Faulted, Unfinished}
use Rattle.machine.specs.Entry.{ended, Shown}
use Rattle.correctness.specs.Meaning.{Outcome, done, fault, out}
pub use Rattle.correctness.specs.Meaning.{left_of}

-- k is none of the registers F
abbrev pub Free : ℕ → List ℕ → Type 0
Free k [] = Unit {0}
Free k (t ∷ F) = ((k ≡ t) → ⊥) × Free k F

-- the ending and the memory of a rule's outcome
abbrev pub ending_of : Outcome (Unit {0}) → Ending
ending_of (done _ m b) = Halted
ending_of (fault n m b) = Faulted n
ending_of (out m) = Unfinished

abbrev pub memory_of : Outcome (Unit {0}) → List ℕ
memory_of (done _ m b) = m
memory_of (fault n m b) = m
memory_of (out m) = m

-- what a run shows that began with the registers R under a budget is the outcome o: its ending, its steps and every cell of memory;
-- and every register outside the pool F is as it was, in $0's place too
pub record AsMeant (F R : List ℕ) (budget : ℕ) (o : Outcome (Unit {0})) (x : Shown) : Type 0 where
  pub said : x.said ≡ ended (ending_of o) (budget - left_of o)
  pub memory : x.memory ≡ memory_of o
  pub registers : (k : ℕ) → Free k F → get_or x.state.registers k 0 ≡ get_or R k 0
