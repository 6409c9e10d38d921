-- The code of a tree has as many instructions as its size says.
-- Assumes nothing.
use mathlib.Core.Path.{◌≡◌, refl, ap, ◌∙◌}
use mathlib.Core.List.{List, [], ◌∷◌, ◌++◌}
use Prim.Native.Nat.{ℕ, suc, ◌+◌, ◌*◌}
use native.Mathlib.Omega.{arith}
use lib.ListN.{length, length-append}
use Rattle.instruction.specs.Instruction.{Instruction, ins, halt, encode, assemble}
use Rattle.rule.specs.Tree.{Op, plus, minus, times, less, equal, both, either}
use Rattle.rule.specs.Tree.{Exp, value, ident, element, binary, negate}
use Rattle.rule.specs.Tree.{Com, skip, assign, assign_at, sequence, choose, while}
use Rattle.rule.specs.Tree.{Binding, constant, variable, array}
use Rattle.compiler.specs.Pool.{fresh, without}
use Rattle.compiler.specs.Compile.{left_target, left_pool, size_named, size_op, size_exp, size_com, named_code, operator_code, t_exp, t_com, t_prog}

size_named_lem : (x : Binding) (r : ℕ) (F : List ℕ) → length (named_code x r F) ≡ size_named x
size_named_lem (constant v) r F = refl
size_named_lem (variable a) r F = refl
size_named_lem (array a s) r F = refl

size_operator : (o : Op) (r t u q : ℕ) → length (operator_code o r t u q) ≡ size_op o
size_operator plus r t u q = refl
size_operator minus r t u q = refl
size_operator times r t u q = refl
size_operator less r t u q = refl
size_operator equal r t u q = refl
size_operator both r t u q = refl
size_operator either r t u q = refl

module _ (ρ : ℕ → Binding) where
  pub size_exp_lem : (e : Exp) (r : ℕ) (F : List ℕ) (p : ℕ) → length (t_exp ρ e r F p) ≡ size_exp ρ e
  unfolding t_exp size_exp
  size_exp_lem (value v) r F p = refl
  size_exp_lem (ident x) r F p = size_named_lem (ρ x) r F
  size_exp_lem (element x e) r F p =
      let h = size_exp_lem e (left_target r F) (left_pool F) p in
      simp length-append (omega arith)
  size_exp_lem (binary o a b) r F p =
      let F₁ = left_pool F in
      let ha = size_exp_lem a (left_target r F) F₁ p in
      let hb = size_exp_lem b (fresh F₁) (without F₁) (p + size_exp ρ a) in
      let ho = size_operator o r (left_target r F) (fresh F₁) (p + size_exp ρ a + size_exp ρ b) in
      simp length-append (omega arith)
  size_exp_lem (negate e) r F p =
      let h = size_exp_lem e (fresh F) (without F) p in
      simp length-append (omega arith)

  pub size_com_lem : (c : Com) (F : List ℕ) (p : ℕ) → length (t_com ρ c F p) ≡ size_com ρ c
  unfolding t_com size_com
  size_com_lem skip F p = refl
  size_com_lem (assign x e) F p =
      let h = size_exp_lem e (fresh F) (without F) p in
      simp length-append (omega arith)
  size_com_lem (assign_at x i e) F p =
      let h = size_exp_lem i (fresh F) (without F) p in
      let h' = size_exp_lem e (fresh (without F)) (without (without F)) (p + size_exp ρ i) in
      simp length-append (omega arith)
  size_com_lem (sequence c d) F p =
      let h = size_com_lem c F p in
      let h' = size_com_lem d F (p + size_com ρ c) in
      simp length-append (omega arith)
  size_com_lem (choose e c d) F p =
      let q = p + size_exp ρ e in
      let l = suc q + size_com ρ c in
      let h = size_exp_lem e (fresh F) (without F) p in
      let h₁ = size_com_lem c F (suc q) in
      let h₂ = size_com_lem d F (suc l) in
      simp length-append (omega arith)
  size_com_lem (while e c) F p =
      let q = p + size_exp ρ e in
      let h = size_exp_lem e (fresh F) (without F) p in
      let h₁ = size_com_lem c F (suc q) in
      simp length-append (omega arith)

  pub size_prog : (c : Com) (F : List ℕ) → length (t_prog ρ c F) ≡ size_com ρ c + 1
  unfolding t_prog
  size_prog c F = length-append (t_com ρ c F 0) (ins halt 0 0 0 ∷ []) ∙ ap (λ (n : ℕ). n + 1) (size_com_lem c F 0)

-- four words an instruction
pub length_assemble : (c : List Instruction) → length (assemble c) ≡ length c * 4
unfolding assemble encode
length_assemble [] = refl
length_assemble (ins o a b d ∷ c) = let h = length_assemble c in omega arith

pub assemble_append : (a b : List Instruction) → assemble (a ++ b) ≡ assemble a ++ assemble b
unfolding assemble encode
assemble_append [] b = refl
assemble_append (ins o x y z ∷ a) b = ap (λ (l : List ℕ). o ∷ x ∷ y ∷ z ∷ l) (assemble_append a b)
