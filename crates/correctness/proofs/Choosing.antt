-- A choice of registers exists exactly where the need is within the pool's count, and the lowest is one.
-- Assumes nothing.
use mathlib.Core.Path.{◌≡◌, refl, ap}
use mathlib.Core.Logic.{◌↔◌}
use mathlib.Core.List.{List, [], ◌∷◌}
use Prim.Native.Nat.{ℕ, suc, ◌≤◌, ◌<◌}
use native.Mathlib.Omega.{arith}
use lib.ListN.{length}
use Rattle.rule.specs.Tree.{Exp, value, ident, element, binary, negate}
use Rattle.rule.specs.Tree.{Com, skip, assign, assign_at, sequence, choose, while}
use Rattle.rule.specs.Tree.{Binding, constant, variable, array}
use Rattle.compiler.specs.Pool.{fresh, without}
use Rattle.compiler.specs.Compile.{need_named, need_exp, need_com}
use Rattle.correctness.specs.Choice.{Takes, here, there, ChoosesNamed, for_constant, for_variable, for_array}
use Rattle.correctness.specs.Choice.{Chooses, for_value, for_identifier, for_element, for_binary, for_not}
use Rattle.correctness.specs.Choice.{ChoosesCom, for_skip, for_assign, for_assign_element, for_sequence, for_if, for_while}
use Rattle.compiler.proofs.Pools.{length_without}

one_less : {t : ℕ} {F G : List ℕ} → Takes t F G → length F ≡ suc (length G)
one_less here = refl
one_less (there k) = ap suc (one_less k)

-- the lowest register is one of those that may be taken
pub lowest_taken : (F : List ℕ) → 0 < length F → Takes (fresh F) F (without F)
lowest_taken [] h = absurd (omega arith)
lowest_taken (t ∷ F) h = here

named_needs : {b : Binding} {F : List ℕ} → ChoosesNamed b F → need_named b ≤ length F
named_needs for_constant = omega arith
named_needs (for_variable k) = omega (arith, one_less k)
named_needs (for_array k) = omega (arith, one_less k)

need_suffices_named : (b : Binding) (F : List ℕ) → need_named b ≤ length F → ChoosesNamed b F
need_suffices_named (constant v) F h = for_constant
need_suffices_named (variable a) F h = for_variable (lowest_taken F h)
need_suffices_named (array a s) F h = for_array (lowest_taken F h)

module _ (ρ : ℕ → Binding) where
  pub choice_needs_exp : {e : Exp} {F : List ℕ} → Chooses ρ e F → need_exp ρ e ≤ length F
  unfolding need_exp
  choice_needs_exp for_value = omega arith
  choice_needs_exp (for_identifier k) = named_needs k
  choice_needs_exp (for_element t i b) = omega (arith, one_less t, choice_needs_exp i, one_less b)
  choice_needs_exp (for_binary t l u r) = omega (arith, one_less t, choice_needs_exp l, one_less u, choice_needs_exp r)
  choice_needs_exp (for_not t e) = omega (arith, one_less t, choice_needs_exp e)

  pub choice_needs : {c : Com} {F : List ℕ} → ChoosesCom ρ c F → need_com ρ c ≤ length F
  unfolding need_com
  choice_needs for_skip = omega arith
  choice_needs (for_assign t e b) = omega (arith, one_less t, choice_needs_exp e, one_less b)
  choice_needs (for_assign_element t i u e b) =
      omega (arith, one_less t, choice_needs_exp i, one_less u, choice_needs_exp e, one_less b)
  choice_needs (for_sequence c d) = omega (arith, choice_needs c, choice_needs d)
  choice_needs (for_if t e c d) = omega (arith, one_less t, choice_needs_exp e, choice_needs c, choice_needs d)
  choice_needs (for_while t e c) = omega (arith, one_less t, choice_needs_exp e, choice_needs c)

  -- by the lowest register at each place
  pub need_suffices_exp : (e : Exp) (F : List ℕ) → need_exp ρ e ≤ length F → Chooses ρ e F
  unfolding need_exp
  need_suffices_exp (value v) F h = for_value
  need_suffices_exp (ident x) F h = for_identifier (need_suffices_named (ρ x) F h)
  need_suffices_exp (element x i) F h =
      let g = length_without F in
      for_element (lowest_taken F (omega arith)) (need_suffices_exp i (without F) (omega arith)) (lowest_taken (without F) (omega arith))
  need_suffices_exp (binary o l r) F h =
      let G = without F in
      let g = length_without F in
      let g' = length_without G in
      let left = need_suffices_exp l G (omega arith) in
      let right = need_suffices_exp r (without G) (omega arith) in
      for_binary (lowest_taken F (omega arith)) left (lowest_taken G (omega arith)) right
  need_suffices_exp (negate e) F h =
      let g = length_without F in
      for_not (lowest_taken F (omega arith)) (need_suffices_exp e (without F) (omega arith))

  pub need_suffices : (c : Com) (F : List ℕ) → need_com ρ c ≤ length F → ChoosesCom ρ c F
  unfolding need_com
  need_suffices skip F h = for_skip
  need_suffices (assign x e) F h =
      let g = length_without F in
      for_assign (lowest_taken F (omega arith)) (need_suffices_exp e (without F) (omega arith)) (lowest_taken (without F) (omega arith))
  need_suffices (assign_at x i e) F h =
      let G = without F in
      let g = length_without F in
      let g' = length_without G in
      let index = need_suffices_exp i G (omega arith) in
      let val = need_suffices_exp e (without G) (omega arith) in
      for_assign_element (lowest_taken F (omega arith)) index (lowest_taken G (omega arith)) val (lowest_taken (without G) (omega arith))
  need_suffices (sequence c d) F h = for_sequence (need_suffices c F (omega arith)) (need_suffices d F (omega arith))
  need_suffices (choose e c d) F h =
      let g = length_without F in
      let test = need_suffices_exp e (without F) (omega arith) in
      for_if (lowest_taken F (omega arith)) test (need_suffices c F (omega arith)) (need_suffices d F (omega arith))
  need_suffices (while e c) F h =
      let g = length_without F in
      let test = need_suffices_exp e (without F) (omega arith) in
      for_while (lowest_taken F (omega arith)) test (need_suffices c F (omega arith))

  pub choice_exactly : (c : Com) (F : List ℕ) → ChoosesCom ρ c F ↔ need_com ρ c ≤ length F
  choice_exactly c F = (λ k. choice_needs k, need_suffices c F)
