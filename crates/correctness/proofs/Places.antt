-- Where the parts of emitted code stand: a part of a code that stands at p stands at its own place.
-- Assumes nothing.
use mathlib.Core.Path.{◌≡◌, refl, subst}
use mathlib.Core.List.{List, [], ◌∷◌, ◌++◌}
use Prim.Native.Nat.{ℕ, suc, ◌+◌}
use native.Mathlib.Omega.{arith}
use lib.ListN.{length}
use Rattle.instruction.specs.Instruction.{Instruction, found, fetch}
use Rattle.rule.specs.Tree.{Exp, Com, Binding}
use Rattle.compiler.specs.Compile.{size_exp, size_com, t_exp, t_com}
use Rattle.compiler.proofs.Sizes.{size_exp_lem, size_com_lem}

-- the instructions stand in C from p on
abbrev pub At : List ℕ → ℕ → List Instruction → Type 0
At C p [] = Unit {0}
At C p (i ∷ is) = (fetch C p ≡ found i) × At C (suc p) is

at_append : (C : List ℕ) (xs ys : List Instruction) (p n : ℕ) → length xs ≡ n → At C p (xs ++ ys) → At C p xs × At C (p + n) ys
at_append C [] ys p n e h =
    let f : p ≡ p + n = omega arith in
    (tt, subst (λ (q : ℕ). At C q ys) f h)
at_append C (x ∷ xs) ys p n e h =
    let r = at_append C xs ys (suc p) (length xs) refl h.1 in
    let f : suc p + length xs ≡ p + n = omega arith in
    ((h.0, r.0), subst (λ (q : ℕ). At C q ys) f r.1)

-- the code of an expression or a command stands first, and then ys
pub at_exp : (C : List ℕ) (ρ : ℕ → Binding) (e : Exp) (r : ℕ) (F : List ℕ) (p : ℕ) (ys : List Instruction) → At C p (t_exp ρ e r F p ++ ys)
    → At C p (t_exp ρ e r F p) × At C (p + size_exp ρ e) ys
at_exp C ρ e r F p ys h = at_append C (t_exp ρ e r F p) ys p (size_exp ρ e) (size_exp_lem ρ e r F p) h

pub at_com : (C : List ℕ) (ρ : ℕ → Binding) (c : Com) (F : List ℕ) (p : ℕ) (ys : List Instruction) → At C p (t_com ρ c F p ++ ys)
    → At C p (t_com ρ c F p) × At C (p + size_com ρ c) ys
at_com C ρ c F p ys h = at_append C (t_com ρ c F p) ys p (size_com ρ c) (size_com_lem ρ c F p) h
