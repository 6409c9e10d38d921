-- What a declaration's kind says of its binding.
-- Assumes nothing.
use mathlib.Core.Path.{◌≡◌, ap}
use mathlib.Core.Bool.{Bool, true, false, cond}
use mathlib.Core.List.{List}
use Prim.Native.Nat.{ℕ, ◌≤◌}
use native.Mathlib.Omega.{arith}
use lib.Dec.{eqb}
use borrow.Author.Tests.{eq-eqb, ne_eqb}
use Rattle.rule.specs.Tree.{Binding, constant, variable, array, base}
use Rattle.rule.specs.Table.{sort, given, first_cell, binding_of}
use Rattle.compiler.specs.Compile.{need_named, size_named}

module _ (ds : List ℕ) (x : ℕ) where
  pub binding_constant : sort ds x ≡ 1 → binding_of ds x ≡ constant (given ds x)
  unfolding binding_of
  binding_constant e = simp (eq-eqb _ _ e)

  -- what is no constant lies in memory: it needs a register, and has two instructions
  stored : (sort ds x ≡ 1 → ⊥) → (need_named (binding_of ds x) ≡ 1) × (size_named (binding_of ds x) ≡ 2) × (base (binding_of ds x) ≡ first_cell ds x)
  unfolding binding_of
  stored f = go (eqb (sort ds x) 2) (simp (ne_eqb _ _ f))
    where
      go : (b : Bool) → binding_of ds x ≡ cond b (variable (first_cell ds x)) (array (first_cell ds x) (given ds x))
          → (need_named (binding_of ds x) ≡ 1) × (size_named (binding_of ds x) ≡ 2) × (base (binding_of ds x) ≡ first_cell ds x)
      go true e = (ap need_named e, ap size_named e, ap base e)
      go false e = (ap need_named e, ap size_named e, ap base e)

  pub need_stored : (sort ds x ≡ 1 → ⊥) → need_named (binding_of ds x) ≡ 1
  need_stored f = (stored f).0

  pub size_stored : (sort ds x ≡ 1 → ⊥) → size_named (binding_of ds x) ≡ 2
  size_stored f = (stored f).1

  pub base_stored : (sort ds x ≡ 1 → ⊥) → base (binding_of ds x) ≡ first_cell ds x
  base_stored f = (stored f).2

-- a name needs one register at most
pub need_named_lem : (x : Binding) → need_named x ≤ 1
need_named_lem (constant v) = omega arith
need_named_lem (variable a) = omega arith
need_named_lem (array a s) = omega arith
