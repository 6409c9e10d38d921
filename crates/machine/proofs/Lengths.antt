-- A step leaves the memory as long as it was.
-- Assumes nothing.
use Rattle.std.proofs.Common.{◌≡◌, ℕ, List, length, refl, length-set}
use Rattle.word.specs.Word.{Cell, At, Nowhere}
use Rattle.instruction.specs.Instruction.{Instruction, ins, Fetched, outside, unknown, found, fetch, count_of}
use Rattle.machine.specs.Step.{Fault, Did, did, loads, stores, read_of, cell_at, rules, perform, tried, step_of}
use Rattle.machine.proofs.Places.{All, looked_up}

module _ (n p : ℕ) (g m : List ℕ) where
  abbrev Kept : Did → Type 0
  Kept d = length d.memory ≡ length m

  loaded : (a : ℕ) (x : Cell) → Kept (loads p a x g m)
  loaded a (At i) = refl
  loaded a Nowhere = refl

  stored : (v : ℕ) (x : Cell) → Kept (stores p v x g m)
  stored v (At i) = length-set m i v
  stored v Nowhere = refl

  performed : (i : Instruction) → Kept (perform n p g m i)
  unfolding perform
  performed (ins o a b c) = looked_up Kept (rules n p g m a b c) (did (Fault 2) g m) each refl o
    where
      each : All Kept (rules n p g m a b c)
      each = (
        refl,
        (
          refl,
          (
            refl,
            (
              refl,
              (
                refl,
                (refl, (loaded a (cell_at g m b c), (stored (read_of g c) (cell_at g m a b), (refl, (refl, (refl, (refl, tt))))))),
              ),
            ),
          ),
        ),
      )

  pub try_kept : (f : Fetched) → Kept (tried n p g m f)
  unfolding tried
  try_kept outside = refl
  try_kept unknown = refl
  try_kept (found i) = performed i

pub step_kept : (code : List ℕ) (p : ℕ) (g m : List ℕ) → length (step_of code p g m).memory ≡ length m
unfolding step_of
step_kept code p g m = try_kept (count_of code) p g m (fetch code p)
