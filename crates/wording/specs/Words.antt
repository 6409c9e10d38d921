-- What the programs write of a number of things, of a run's end, of words and of a pool.
use Rattle.std.specs.Prelude.{ℕ, zero, suc, ◌/◌, ◌%◌, ◌^◌, List, [], ◌++◌, ◌==◌, codes, decimal, if◌then◌else◌, flat_map}
use Rattle.std.specs.Fmt.{signed_decimal}
use Rattle.std.specs.Int.{w32, cast_signed}
use Rattle.machine.specs.declared.Ending.{Ending}
use Rattle.machine.specs.declared.Ending.TheVariants.{Halted, Faulted, Unfinished}

-- so many of a thing, with the plural's s unless it is one
abbrev pub counted : ℕ → List ℕ → List ℕ
counted count thing = decimal count ++ codes " " ++ thing ++ (if count == 1 then [] else codes "s")

-- an ending
abbrev pub ending_words : Ending → List ℕ
ending_words Halted = codes "halted"
ending_words (Faulted fault) = codes "fault " ++ decimal fault
ending_words Unfinished = codes "unfinished"

-- a run: its ending, and its steps
abbrev pub run_words : Ending → ℕ → List ℕ
run_words ending steps = ending_words ending ++ codes " after " ++ counted steps (codes "step")

-- words as the signed numbers that they stand for, a blank before each
abbrev pub signed_words : List ℕ → List ℕ
signed_words = flat_map (λ word. codes " " ++ signed_decimal (cast_signed w32 word))

-- the registers below $n whose bits are set in a pool, in their order, a blank before each
unfoldable pub pool_words : ℕ → ℕ → List ℕ
pool_words pool zero = []
pool_words pool (suc n) = pool_words pool n ++ (if pool / 2 ^ n % 2 == 1 then codes " $" ++ decimal n else [])
