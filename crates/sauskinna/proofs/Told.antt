-- A run is refused with the value 0, so that its words tell the value returned, as every other answer's do.
-- Assumes nothing.
use mathlib.Core.Path.{◌≡◌, refl}
use mathlib.Core.Bool.{Bool, true, false, cond}
use mathlib.Core.List.{List, [], ◌∷◌}
use Prim.Native.Nat.{ℕ}
use lib.ListN.{length}
use Rattle.refusal.specs.Refusal.{Verdict, Passes, Refuses}
use Rattle.machine.specs.declared.State.{State}
use Rattle.machine.specs.Run.{Ran, run_of}
use Rattle.machine.specs.Entry as machine
use Rattle.machine.specs.Entry.{Shown, cells_taken, sizes_of, entered, run_shown, run_entry}
use Rattle.sauskinna.specs.Words.{Left, left, returned, answered, in_words}

-- what is said, with the value returned at a refusal
abbrev pub told : machine.Said → List ℕ
told (machine.refused n v) = v ∷ 0 ∷ 0 ∷ []
told (machine.ended e n) = answered (machine.ended e n)
told machine.went = answered machine.went
told machine.halted = answered machine.halted
told (machine.faulted f) = answered (machine.faulted f)

abbrev pub as_told : Shown → Left
as_told x = left (returned x.said) (told x.said) x.state x.memory

abbrev verdict : Bool → Bool → Verdict
verdict t c = cond t (cond c Passes (Refuses 14 0)) (Refuses 13 0)

pub run_told : (code m : List ℕ) (s : State) (budget : ℕ) → in_words (run_entry code m s budget) ≡ as_told (run_entry code m s budget)
unfolding run_entry sizes_of
run_told code m s budget = within _ (cells_taken (length m)) (run_of code budget s.place s.registers m)
  where
    within : (t c : Bool) (r : Ran) → in_words (entered (verdict t c) (run_shown budget r) s m) ≡ as_told (entered (verdict t c) (run_shown budget r) s m)
    within true true r = refl
    within true false r = refl
    within false c r = refl
