-- The theorem of trees: a compiled rule runs as the rule means.
-- Assumes nothing.
use mathlib.Core.Path.{◌≡◌, refl, ◌∙◌, sym, subst}
use mathlib.Core.List.{List, [], ◌∷◌}
use Prim.Native.Nat.{ℕ, zero, suc, ◌+◌, ◌≤◌}
use native.Mathlib.Omega.{arith}
use lib.ListN.{length, get_or}
use Rattle.instruction.specs.Instruction.{ins, halt, found, fetch, count_of, assemble}
use Rattle.machine.specs.Run.{Ran, run_of}
use Rattle.rule.specs.Tree.{Com, Binding}
use Rattle.correctness.specs.Meaning.{Outcome, left_of, bind, spend, rule_meaning}
use Rattle.compiler.specs.Compile.{size_com, need_com, t_prog}
use Rattle.correctness.specs.Demand3.{Free, ending_of, memory_of}
use Rattle.correctness.proofs.Frame.{Pool}
use Rattle.correctness.proofs.Fits.{Fit, WordsCom}
use Rattle.correctness.proofs.Sim.{Sim, comes, faults, ends}
use Rattle.correctness.proofs.Steps.{stops}
use Rattle.correctness.proofs.Places.{at_com}
use Rattle.correctness.proofs.Commands.{Any, tcom_right}
use Rattle.correctness.proofs.Assembled.{at_assemble}
use Rattle.compiler.proofs.Sizes.{size_prog, length_assemble}
use Rattle.correctness.proofs.Formed.{tprog_formed}

-- the run x that started with the registers R is the outcome o, and only registers of the pool F have changed
pub record RanAsMeant (F R : List ℕ) (o : Outcome (Unit {0})) (x : Ran) : Type 0 where
  pub ending : x.ending ≡ ending_of o
  pub left : x.left ≡ left_of o
  pub memory : x.memory ≡ memory_of o
  pub registers : (k : ℕ) → Free k F → get_or x.registers k 0 ≡ get_or R k 0

-- the command's run, and then the end of rule
finish : {C F R m : List ℕ} {p q b : ℕ} {o : Outcome (Unit {0})} → fetch C q ≡ found (ins halt 0 0 0) → Sim C F q Any R m p b o
    → RanAsMeant F R (bind o (λ _. spend 1)) (run_of C b p R m)
unfolding run_of
finish {F} {R} h (comes {c = zero} S k _ i e) =
    subst (RanAsMeant F R _) (sym e) (record { ending = refl; left = refl; memory = refl; registers = k.same })
finish {C} {F} {R} {q} h (comes {m'} {c = suc c} S k _ i e) =
    subst (RanAsMeant F R _) (sym (e ∙ stops C S m' q h c)) (record { ending = refl; left = refl; memory = refl; registers = k.same })
finish {F} {R} h (faults S s k e) =
    subst (RanAsMeant F R _) (sym e) (record { ending = refl; left = refl; memory = refl; registers = k.same })
finish {F} {R} h (ends S s k e) =
    subst (RanAsMeant F R _) (sym e) (record { ending = refl; left = refl; memory = refl; registers = k.same })

pub count_tprog : (ρ : ℕ → Binding) (c : Com) (F : List ℕ) → count_of (assemble (t_prog ρ c F)) ≡ size_com ρ c + 1
count_tprog ρ c F = omega (arith, length_assemble (t_prog ρ c F), size_prog ρ c F)

pub program_right : (ρ : ℕ → Binding) → ((x : ℕ) → Fit (ρ x)) → (c : Com) → WordsCom c → (F : List ℕ) → Pool F → need_com ρ c ≤ length F
    → (R m : List ℕ) (b : ℕ) → length R ≡ 64 → RanAsMeant F R (rule_meaning ρ c m b) (run_of (assemble (t_prog ρ c F)) b 0 R m)
unfolding t_prog rule_meaning
program_right ρ fit c w F g n R m b l =
    let C : List ℕ = assemble (t_prog ρ c F) in
    let h = at_com C ρ c F 0 (ins halt 0 0 0 ∷ []) (at_assemble (t_prog ρ c F) (tprog_formed ρ c F n g)) in
    finish h.1.0 ((tcom_right C ρ fit c F 0 w n g h.0 (omega (arith, count_tprog ρ c F)) R l).from m b)
