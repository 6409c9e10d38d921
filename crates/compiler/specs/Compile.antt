-- Compilation: the rules of source document 001, in its order and letters, with the register choice of 01-scope.md.
-- e an expression, c a command, r the target, ρ the environment, F the pool, p the place of the first instruction.
use Rattle.std.specs.Prelude.{List, [], ◌∷◌, ◌++◌, ℕ, zero, suc, ◌+◌, max}
use Rattle.instruction.specs.Instruction.{Instruction, ins, halt, nop, add, addi, sub, mul, load, store, jmp, bne, beq, slt}
use Rattle.rule.specs.Tree.{Op, plus, minus, times, less, equal, both, either}
use Rattle.rule.specs.Tree.{Exp, value, ident, element, binary, negate}
use Rattle.rule.specs.Tree.{Com, skip, assign, assign_at, sequence, choose, while}
use Rattle.rule.specs.Tree.{Binding, constant, variable, array, base}
use Rattle.compiler.specs.Pool.{fresh, without}

-- "Binary: t1 fresh, left into t1 with the pool less t1": the left operand's register and pool, for the target r and the pool F.
-- The same for an element's index.
abbrev pub left_target : ℕ → List ℕ → ℕ
left_target r F = fresh F

abbrev pub left_pool : List ℕ → List ℕ
left_pool F = without F

-- Registers needed

-- "value, constant ... 0; variable 1"
abbrev pub need_named : Binding → ℕ
need_named (constant v) = 0
need_named (variable a) = 1
need_named (array a s) = 1

-- "element 1 + the larger of 1 and the index's need; binary the larger of 1 + left and 2 + right; not 1 + operand"
unfoldable pub need_exp : (ℕ → Binding) → Exp → ℕ
need_exp ρ (value v) = 0
need_exp ρ (ident x) = need_named (ρ x)
need_exp ρ (element x e) = 1 + max 1 (need_exp ρ e)
need_exp ρ (binary op l r) = max (1 + need_exp ρ l) (2 + need_exp ρ r)
need_exp ρ (negate e) = 1 + need_exp ρ e

-- "skip 0 ... assign 1 + the larger of 1 and value; assign element the largest of 1 + index, 2 + value, 3;
-- if and while the largest of 1 + test and the bodies; sequence the larger"
unfoldable pub need_com : (ℕ → Binding) → Com → ℕ
need_com ρ skip = 0
need_com ρ (assign x e) = 1 + max 1 (need_exp ρ e)
need_com ρ (assign_at x i e) = max (1 + need_exp ρ i) (max (2 + need_exp ρ e) 3)
need_com ρ (sequence c d) = max (need_com ρ c) (need_com ρ d)
need_com ρ (choose e c d) = max (1 + need_exp ρ e) (max (need_com ρ c) (need_com ρ d))
need_com ρ (while e c) = max (1 + need_exp ρ e) (need_com ρ c)

-- Instructions emitted: the last column of the step table

abbrev pub size_named : Binding → ℕ
size_named (constant v) = 1
size_named (variable a) = 2
size_named (array a s) = 2

abbrev pub size_op : Op → ℕ
size_op plus = 1
size_op minus = 1
size_op times = 1
size_op less = 1
size_op equal = 4
size_op both = 4
size_op either = 4

unfoldable pub size_exp : (ℕ → Binding) → Exp → ℕ
size_exp ρ (value v) = 1
size_exp ρ (ident x) = size_named (ρ x)
size_exp ρ (element x e) = size_exp ρ e + 2
size_exp ρ (binary op l r) = size_exp ρ l + size_exp ρ r + size_op op
size_exp ρ (negate e) = size_exp ρ e + 3

unfoldable pub size_com : (ℕ → Binding) → Com → ℕ
size_com ρ skip = 1
size_com ρ (assign x e) = size_exp ρ e + 2
size_com ρ (assign_at x i e) = size_exp ρ i + size_exp ρ e + 2
size_com ρ (sequence c d) = size_com ρ c + size_com ρ d
size_com ρ (choose e c d) = size_exp ρ e + size_com ρ c + size_com ρ d + 2
size_com ρ (while e c) = size_exp ρ e + size_com ρ c + 2

-- the place k instructions after q
abbrev pub after : ℕ → ℕ → ℕ
after zero q = q
after (suc k) q = suc (after k q)

-- "Access to array", after the index is in t, from the first cell a: bx fresh from what is left
abbrev pub load_code : ℕ → ℕ → ℕ → List ℕ → List Instruction
load_code a r t F = ins addi (fresh F) a 0 ∷ ins load r (fresh F) t ∷ []

-- "Constants", "Variables": bx fresh, and $0 for an index
abbrev pub named_code : Binding → ℕ → List ℕ → List Instruction
named_code (constant v) r F = ins addi r v 0 ∷ []
named_code (variable a) r F = load_code a r 0 F
named_code (array a s) r F = load_code a r 0 F

-- "Addition" to "Or", after the operands are in t and u: the operator's own instructions, at q
abbrev pub operator_code : Op → ℕ → ℕ → ℕ → ℕ → List Instruction
operator_code plus r t u q = ins add r t u ∷ []
operator_code minus r t u q = ins sub r t u ∷ []
operator_code times r t u q = ins mul r t u ∷ []
operator_code less r t u q = ins slt r t u ∷ []
operator_code equal r t u q = ins beq t u (after 3 q) ∷ ins addi r 0 0 ∷ ins jmp (after 4 q) 0 0 ∷ ins addi r 1 0 ∷ []
operator_code both r t u q = ins addi r 0 0 ∷ ins beq t 0 (after 4 q) ∷ ins beq u 0 (after 4 q) ∷ ins addi r 1 0 ∷ []
operator_code either r t u q = ins addi r 1 0 ∷ ins bne t 0 (after 4 q) ∷ ins bne u 0 (after 4 q) ∷ ins addi r 0 0 ∷ []

-- "Not", after the operand is in t, at q
abbrev pub not_code : ℕ → ℕ → ℕ → List Instruction
not_code r t q = ins addi r 1 0 ∷ ins beq t 0 (after 3 q) ∷ ins addi r 0 0 ∷ []

unfoldable pub t_exp : (ℕ → Binding) → Exp → ℕ → List ℕ → ℕ → List Instruction
t_exp ρ (value v) r F p = ins addi r v 0 ∷ []
t_exp ρ (ident x) r F p = named_code (ρ x) r F
t_exp ρ (element x e) r F p = t_exp ρ e (left_target r F) (left_pool F) p ++ load_code (base (ρ x)) r (left_target r F) (left_pool F)
t_exp ρ (binary op e₁ e₂) r F p =
    let t₁ = left_target r F in
    let F₁ = left_pool F in
    let q = p + size_exp ρ e₁ in
    t_exp ρ e₁ t₁ F₁ p ++ (t_exp ρ e₂ (fresh F₁) (without F₁) q ++ operator_code op r t₁ (fresh F₁) (q + size_exp ρ e₂))
t_exp ρ (negate e) r F p = t_exp ρ e (fresh F) (without F) p ++ not_code r (fresh F) (p + size_exp ρ e)

-- the two instructions of either assignment, to the first cell a: the index is in t, the value in u, bx fresh
abbrev pub store_code : ℕ → ℕ → ℕ → List ℕ → List Instruction
store_code a t u F = ins addi (fresh F) a 0 ∷ ins store (fresh F) t u ∷ []

unfoldable pub t_com : (ℕ → Binding) → Com → List ℕ → ℕ → List Instruction
t_com ρ skip F p = ins nop 0 0 0 ∷ []
t_com ρ (assign x e) F p = t_exp ρ e (fresh F) (without F) p ++ store_code (base (ρ x)) 0 (fresh F) (without F)
t_com ρ (assign_at x e₁ e₂) F p =
    let t₁ = fresh F in
    let F₁ = without F in
    t_exp ρ e₁ t₁ F₁ p ++ (t_exp ρ e₂ (fresh F₁) (without F₁) (p + size_exp ρ e₁) ++ store_code (base (ρ x)) t₁ (fresh F₁) (without F₁))
t_com ρ (sequence c₁ c₂) F p = t_com ρ c₁ F p ++ t_com ρ c₂ F (p + size_com ρ c₁)
t_com ρ (choose e c₁ c₂) F p =
    let q = p + size_exp ρ e in
    let l = suc q + size_com ρ c₁ in
    t_exp ρ e (fresh F) (without F) p
    ++ (ins beq (fresh F) 0 (suc l) ∷ t_com ρ c₁ F (suc q) ++ (ins jmp (suc l + size_com ρ c₂) 0 0 ∷ t_com ρ c₂ F (suc l)))
t_com ρ (while e c) F p =
    let q = p + size_exp ρ e in
    let l = suc q + size_com ρ c in
    t_exp ρ e (fresh F) (without F) p ++ (ins beq (fresh F) 0 (suc l) ∷ t_com ρ c F (suc q) ++ (ins jmp p 0 0 ∷ []))

-- "Compilation of programs": C, then Halt
unfoldable pub t_prog : (ℕ → Binding) → Com → List ℕ → List Instruction
t_prog ρ c F = t_com ρ c F 0 ++ (ins halt 0 0 0 ∷ [])
