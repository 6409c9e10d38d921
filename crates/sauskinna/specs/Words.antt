-- What each function of the C library returns and answers: what is said, in words.
use Rattle.std.specs.Prelude.{List, [], ◌∷◌, ℕ}
use Rattle.machine.specs.declared.State.{State}
use Rattle.machine.specs.declared.Ending.{Ending}
use Rattle.machine.specs.declared.Ending.TheVariants.{Halted, Faulted, Unfinished}
use Rattle.compiler.specs.Answer as compiler
use Rattle.listing.specs.Listing as listing
use Rattle.machine.specs.Entry as machine

-- compile returns 0, or the refusal's number
abbrev pub compile_returned : compiler.Said → ℕ
compile_returned (compiler.accepted n c k) = 0
compile_returned (compiler.refused n v) = n

-- compile's answer
abbrev pub compile_answered : compiler.Said → List ℕ
-- instructions, cells, need
compile_answered (compiler.accepted n c k) = n ∷ c ∷ k ∷ []
-- on a refusal the value returned, then 0, 0
compile_answered (compiler.refused n v) = v ∷ 0 ∷ 0 ∷ []

-- listing returns 0, or the refusal's number
abbrev pub list_returned : listing.Said → ℕ
list_returned (listing.listed n) = 0
list_returned (listing.refused n v) = n

-- listing's answer: the bytes written, or on a refusal the value returned; then 0, 0
abbrev pub list_answered : listing.Said → List ℕ
list_answered (listing.listed n) = n ∷ 0 ∷ 0 ∷ []
list_answered (listing.refused n v) = v ∷ 0 ∷ 0 ∷ []

-- step and run return 0, or the refusal's number
abbrev pub returned : machine.Said → ℕ
returned (machine.refused n v) = n
returned (machine.ended e n) = 0
returned machine.went = 0
returned machine.halted = 0
returned (machine.faulted f) = 0

-- a run's ending and its steps: 1 halted, 2 faulted, 3 unfinished; the fault's number or 0; steps
abbrev pub ending_answered : Ending → ℕ → List ℕ
ending_answered Halted n = 1 ∷ 0 ∷ n ∷ []
ending_answered (Faulted f) n = 2 ∷ f ∷ n ∷ []
ending_answered Unfinished n = 3 ∷ 0 ∷ n ∷ []

-- step's and run's answer
abbrev pub answered : machine.Said → List ℕ
-- on a refused step or run 0, 0, 0
answered (machine.refused n v) = 0 ∷ 0 ∷ 0 ∷ []
-- run's, by its ending
answered (machine.ended e n) = ending_answered e n
-- step's: 0 went on, 1 halted, 2 faulted; the fault's number or 0; steps taken, 1 if it went on or halted, 0 if it faulted
answered machine.went = 0 ∷ 0 ∷ 1 ∷ []
answered machine.halted = 1 ∷ 0 ∷ 1 ∷ []
answered (machine.faulted f) = 2 ∷ f ∷ 0 ∷ []

-- all that a step or a run leaves: the number returned, the answer, the state and the memory
pub record Left : Type 0 where
  pub number : ℕ
  pub answer : List ℕ
  pub state : State
  pub memory : List ℕ

abbrev pub left : ℕ → List ℕ → State → List ℕ → Left
left n a s m = record { number = n; answer = a; state = s; memory = m }

-- what the machine shows, in words
abbrev pub in_words : machine.Shown → Left
in_words x = left (returned x.said) (answered x.said) x.state x.memory

-- the version of these functions and of what they answer: its first number × 1,000 + its second
abbrev pub version : ℕ
version = 1001
