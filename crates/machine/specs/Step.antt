-- One step of the machine, over the registers and the memory as lists of words. 01-scope.md, "The machine"; source document 000.
use Rattle.std.specs.Prelude.{ℕ, suc, Bool, cond, not, List, [], ◌∷◌, length, ◌==◌, nat_lt, slice_index, slice_index_or, slice_set}
use Rattle.word.specs.Word.{sum_of, difference_of, product_of, less_of, address_of, cell_of, Cell, At, Nowhere}
use Rattle.instruction.specs.Instruction.{Instruction, ins, Fetched, outside, unknown, found, fetch, count_of}

-- "A step gives the next state, a halt, or a fault": the next place, or the fault's number
pub data Next : Type 0 where
  Go : ℕ → Next
  Halt : Next
  Fault : ℕ → Next

-- where a step leads, with the registers and the memory that it leaves
pub record Did : Type 0 where
  pub next : Next
  pub registers : List ℕ
  pub memory : List ℕ

-- the same, by its parts
abbrev pub did : Next → List ℕ → List ℕ → Did
did x g m = record { next = x; registers = g; memory = m }

-- "$0 reads as 0 whatever is stored in its place"
unfoldable pub read_of : List ℕ → ℕ → ℕ
read_of g r = cond (r == 0) 0 (slice_index g r)

-- check 3, "a result written to $0"; otherwise the next place follows
abbrev pub wrote_next : ℕ → ℕ → Next
wrote_next p a = cond (a == 0) (Fault 3) (Go (suc p))

-- and register a holds v
abbrev pub wrote_registers : ℕ → ℕ → List ℕ → List ℕ
wrote_registers a v g = cond (a == 0) g (slice_set g a v)

-- v written to register a
abbrev pub writes : ℕ → ℕ → ℕ → List ℕ → List ℕ → Did
writes p a v g m = did (wrote_next p a) (wrote_registers a v g) m

-- the cell at the address of registers b and i, if the memory has it
abbrev pub cell_at : List ℕ → List ℕ → ℕ → ℕ → Cell
cell_at g m b i = cell_of (address_of (read_of g b) (read_of g i)) (length m)

-- a load to register a: check 4, "load or store address outside memory", after check 3
abbrev pub loads : ℕ → ℕ → Cell → List ℕ → List ℕ → Did
loads p a (At i) g m = writes p a (slice_index m i) g m
loads p a Nowhere g m = did (cond (a == 0) (Fault 3) (Fault 4)) g m

-- a store of v: check 4
abbrev pub stores : ℕ → ℕ → Cell → List ℕ → List ℕ → Did
stores p v (At i) g m = did (Go (suc p)) g (slice_set m i v)
stores p v Nowhere g m = did (Fault 4) g m

-- check 5, "a jump that is taken to a number outside the code", in a code of n instructions
abbrev pub jumps_to : ℕ → ℕ → Next
jumps_to n l = cond (nat_lt l n) (Go l) (Fault 5)

-- "A branch not taken does not look at its label."
abbrev pub branches : Bool → ℕ → ℕ → ℕ → Next
branches taken n p l = cond taken (jumps_to n l) (Go (suc p))

-- 1 where it holds, else 0
abbrev pub flag_of : Bool → ℕ
flag_of t = cond t 1 0

-- document 000's rules in the order of the operations' numbers, for the words a b c at place p of a code of n instructions
abbrev pub rules : ℕ → ℕ → List ℕ → List ℕ → ℕ → ℕ → ℕ → List Did
rules n p g m a b c =
    did Halt g m
    ∷ did (Go (suc p)) g m
    ∷ writes p a (sum_of (read_of g b) (read_of g c)) g m
    ∷ writes p a (sum_of b (read_of g c)) g m
    ∷ writes p a (difference_of (read_of g b) (read_of g c)) g m
    ∷ writes p a (product_of (read_of g b) (read_of g c)) g m
    ∷ loads p a (cell_at g m b c) g m
    ∷ stores p (read_of g c) (cell_at g m a b) g m
    ∷ did (jumps_to n a) g m
    ∷ did (branches (not (read_of g a == read_of g b)) n p c) g m
    ∷ did (branches (read_of g a == read_of g b) n p c) g m
    ∷ writes p a (flag_of (less_of (read_of g b) (read_of g c))) g m
    ∷ []

-- an instruction at place p of a code of n instructions; a number that no operation has is check 2's fault
unfoldable pub perform : ℕ → ℕ → List ℕ → List ℕ → Instruction → Did
perform n p g m (ins o a b c) = slice_index_or (rules n p g m a b c) o (did (Fault 2) g m)

-- checks 1, "place outside the code", and 2, "unknown operation, an unused word not 0, or a register number outside 0..63"
unfoldable pub tried : ℕ → ℕ → List ℕ → List ℕ → Fetched → Did
tried n p g m outside = did (Fault 1) g m
tried n p g m unknown = did (Fault 2) g m
tried n p g m (found i) = perform n p g m i

-- a step from place p
unfoldable pub step_of : List ℕ → ℕ → List ℕ → List ℕ → Did
step_of code p g m = tried (count_of code) p g m (fetch code p)
