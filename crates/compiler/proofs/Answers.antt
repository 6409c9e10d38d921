-- Laws of the answer: what refusals 11 and 12 compare, and the buffer with the program laid over its front.
-- Assumes nothing.
use mathlib.Core.Path.{◌≡◌, ap, ◌∙◌}
use mathlib.Core.List.{List, ◌++◌}
use Prim.Native.Nat.{ℕ, ◌+◌, ◌*◌, ◌≤◌}
use native.Mathlib.Nat.{zero-add}
use native.Mathlib.Omega.{arith}
use lib.ListN.{length, drop}
use lib.Seq.{sets-eq}
use Rattle.instruction.specs.Instruction.{assemble}
use Rattle.rule.specs.Tree.{Com, Binding}
use Rattle.std.proofs.lemmas.Bool.Decides.{nat_tests}
use Rattle.refusal.specs.Refusal.{Passes, laid_over}
use Rattle.compiler.specs.Answer.{enough, room_for}
use Rattle.compiler.specs.Compile.{size_com, t_prog}
use Rattle.compiler.specs.Inside.{put}
use Rattle.compiler.proofs.Sizes.{size_prog, length_assemble}

-- where refusal 11 is not given the registers are enough, and where 12 is not the buffer has room
pub enough_passes : (need count : ℕ) → Passes ≡ enough need count → need ≤ count
unfolding enough
enough_passes need count e = grind (arith, nat_tests)

pub room_passes : (n words : ℕ) → Passes ≡ room_for n words → n * 4 ≤ words
unfolding room_for
room_passes n words e = grind (arith, nat_tests)

-- the program laid over the front of the buffer
pub program_laid : (l : List ℕ) (ρ : ℕ → Binding) (c : Com) (F : List ℕ) → (size_com ρ c + 1) * 4 ≤ length l
    → put l 0 (t_prog ρ c F) ≡ laid_over (assemble (t_prog ρ c F)) l
unfolding put
program_laid l ρ c F h =
    let ws = assemble (t_prog ρ c F) in
    let n : length ws ≡ (size_com ρ c + 1) * 4 = length_assemble (t_prog ρ c F) ∙ ap (λ (k : ℕ). k * 4) (size_prog ρ c F) in
    let z : 0 + length ws ≡ length ws = zero-add (length ws) in
    sets-eq ws l 0 (omega arith) ∙ ap (λ (k : ℕ). ws ++ drop k l) z
