-- Every instruction that is emitted is formed: its registers are below 64.
-- Assumes nothing.
use mathlib.Core.Path.{◌≡◌, refl}
use mathlib.Core.Bool.{true, ◌&&◌}
use mathlib.Core.List.{List, [], ◌∷◌, ◌++◌}
use Prim.Native.Nat.{ℕ, suc, ◌+◌, ◌<◌, ◌≤◌, max}
use native.Mathlib.Omega.{arith}
use lib.Dec.{ltb}
use lib.ListN.{length}
use borrow.Author.Tests.{lt-ltb}
use Rattle.instruction.specs.Instruction as I
use Rattle.instruction.specs.Instruction.{Instruction, ins, operation_of, operations, formed, addi, load, jmp, beq}
use Rattle.rule.specs.Tree.{Op, plus, minus, times, less, equal, both, either}
use Rattle.rule.specs.Tree.{Exp, value, ident, element, binary, negate}
use Rattle.rule.specs.Tree.{Com, skip, assign, assign_at, sequence, choose, while}
use Rattle.rule.specs.Tree.{Binding, constant, variable, array, base}
use Rattle.compiler.specs.Pool.{fresh, without}
use Rattle.compiler.specs.Compile.{operator_code, not_code, named_code, load_code, store_code, need_named, size_exp, size_com, need_exp, need_com, t_exp, t_com, t_prog}
use Rattle.correctness.proofs.Frame.{Pool}
use Rattle.correctness.proofs.LeftOperand.{Chosen, chosen, left_chosen}
use Rattle.correctness.proofs.Assembled.{AllFormed, append_formed}

-- the three shapes that a formed instruction's words have here, beside those without registers
three : {a b c : ℕ} → a < 64 → b < 64 → c < 64 → ltb a 64 && (ltb b 64 && ltb c 64) ≡ true
three {a} {b} {c} ha hb hc = simp (lt-ltb a 64 ha, lt-ltb b 64 hb, lt-ltb c 64 hc)

sum : {a c : ℕ} → a < 64 → c < 64 → ltb a 64 && (true && ltb c 64) ≡ true
sum {a} {c} ha hc = simp (lt-ltb a 64 ha, lt-ltb c 64 hc)

branch : {a b : ℕ} → a < 64 → b < 64 → ltb a 64 && (ltb b 64 && true) ≡ true
branch {a} {b} ha hb = simp (lt-ltb a 64 ha, lt-ltb b 64 hb)

zero_low : 0 < 64
zero_low = omega arith

operator_formed : (op : Op) (r t u q : ℕ) → r < 64 → t < 64 → u < 64 → AllFormed (operator_code op r t u q)
unfolding formed operation_of operations
operator_formed plus r t u q hr ht hu = (three hr ht hu, tt)
operator_formed minus r t u q hr ht hu = (three hr ht hu, tt)
operator_formed times r t u q hr ht hu = (three hr ht hu, tt)
operator_formed less r t u q hr ht hu = (three hr ht hu, tt)
operator_formed equal r t u q hr ht hu = (branch ht hu, (sum hr zero_low, (refl, (sum hr zero_low, tt))))
operator_formed both r t u q hr ht hu = (sum hr zero_low, (branch ht zero_low, (branch hu zero_low, (sum hr zero_low, tt))))
operator_formed either r t u q hr ht hu = (sum hr zero_low, (branch ht zero_low, (branch hu zero_low, (sum hr zero_low, tt))))

not_formed : (r t q : ℕ) → r < 64 → t < 64 → AllFormed (not_code r t q)
unfolding formed operation_of operations
not_formed r t q hr ht = (sum hr zero_low, (branch ht zero_low, (sum hr zero_low, tt)))

-- an address into u, and then a load into r or a store from it
load_formed : (a r u k : ℕ) → r < 64 → u < 64 → k < 64 → AllFormed (ins addi u a 0 ∷ ins load r u k ∷ [])
unfolding formed operation_of operations
load_formed a r u k hr hu hk = (sum hu zero_low, (three hr hu hk, tt))

store_formed : (a r u k : ℕ) → r < 64 → u < 64 → k < 64 → AllFormed (ins addi u a 0 ∷ ins I.store u k r ∷ [])
unfolding formed operation_of operations
store_formed a r u k hr hu hk = (sum hu zero_low, (three hu hk hr, tt))

addi_formed : (v r : ℕ) → r < 64 → AllFormed (ins addi r v 0 ∷ [])
unfolding formed operation_of operations
addi_formed v r hr = (sum hr zero_low, tt)

named_formed : (x : Binding) (r : ℕ) (F : List ℕ) → need_named x ≤ length F → Pool (r ∷ F) → AllFormed (named_code x r F)
named_formed (constant v) r F n g = addi_formed v r g.1
named_formed (variable a) r [] n g = absurd (omega arith)
named_formed (variable a) r (t ∷ F) n g = load_formed a r t 0 g.1 g.3.1 zero_low
named_formed (array a s) r [] n g = absurd (omega arith)
named_formed (array a s) r (t ∷ F) n g = load_formed a r t 0 g.1 g.3.1 zero_low

module _ (ρ : ℕ → Binding) where
  abbrev Whole : Exp → Type 0
  Whole e = (r : ℕ) (F : List ℕ) (p : ℕ) → need_exp ρ e ≤ length F → Pool (r ∷ F) → AllFormed (t_exp ρ e r F p)

  element_formed : (x : ℕ) (e : Exp) → Whole e → (r : ℕ) (F : List ℕ) (p : ℕ) {t : ℕ} {H : List ℕ} → r < 64 → Chosen (max 1 (need_exp ρ e)) r F t H
      → AllFormed (t_exp ρ e t H p ++ load_code (base (ρ x)) r t H)
  element_formed x e ih r F p hr (chosen {t} {u} {G} g i n a) =
      append_formed (t_exp ρ e t (u ∷ G) p) (load_code (base (ρ x)) r t (u ∷ G)) (ih t (u ∷ G) p (omega arith) g)
      (load_formed (base (ρ x)) r u t hr g.3.1 g.1)

  binary_formed : (op : Op) (x y : Exp) → Whole x → Whole y → (r : ℕ) (F : List ℕ) (p q s : ℕ) {t : ℕ} {H : List ℕ} → r < 64
      → Chosen (max (need_exp ρ x) (1 + need_exp ρ y)) r F t H
      → AllFormed (t_exp ρ x t H p ++ (t_exp ρ y (fresh H) (without H) q ++ operator_code op r t (fresh H) s))
  binary_formed op x y ix iy r F p q s hr (chosen {t} {u} {G} g i n a) =
      let z : List Instruction = operator_code op r t u s in
      append_formed (t_exp ρ x t (u ∷ G) p) (t_exp ρ y u G q ++ z) (ix t (u ∷ G) p (omega arith) g)
      (append_formed (t_exp ρ y u G q) z (iy u G q (omega arith) g.3) (operator_formed op r t u s hr g.1 g.3.1))

  texp_formed : (e : Exp) → Whole e
  unfolding t_exp need_exp
  texp_formed (value v) r F p n g = addi_formed v r g.1
  texp_formed (ident x) r F p n g = named_formed (ρ x) r F n g
  texp_formed (element x e) r F p n g =
      element_formed x e (texp_formed e) r F p g.1 (left_chosen (max 1 (need_exp ρ e)) r F (omega arith) (omega arith) g)
  texp_formed (binary op x y) r F p n g =
      binary_formed op x y (texp_formed x) (texp_formed y) r F p (p + size_exp ρ x) (p + size_exp ρ x + size_exp ρ y) g.1
      (left_chosen (max (need_exp ρ x) (1 + need_exp ρ y)) r F (omega arith) (omega arith) g)
  texp_formed (negate e) r [] p n g = absurd (omega arith)
  texp_formed (negate e) r (t ∷ F) p n g =
      append_formed (t_exp ρ e t F p) (not_code r t (p + size_exp ρ e)) (texp_formed e t F p (omega arith) g.3) (not_formed r t (p + size_exp ρ e) g.1 g.3.1)

  tcom_formed : (c : Com) (F : List ℕ) (p : ℕ) → need_com ρ c ≤ length F → Pool F → AllFormed (t_com ρ c F p)
  unfolding t_com need_com formed operation_of operations
  tcom_formed skip F p n g = (refl, tt)
  tcom_formed (assign x e) [] p n g = absurd (omega arith)
  tcom_formed (assign x e) (t ∷ []) p n g = absurd (omega arith)
  tcom_formed (assign x e) (t ∷ u ∷ F) p n g =
      append_formed (t_exp ρ e t (u ∷ F) p) (store_code (base (ρ x)) 0 t (u ∷ F)) (texp_formed e t (u ∷ F) p (omega arith) g)
      (store_formed (base (ρ x)) t u 0 g.1 g.3.1 zero_low)
  tcom_formed (assign_at x i e) [] p n g = absurd (omega arith)
  tcom_formed (assign_at x i e) (t ∷ []) p n g = absurd (omega arith)
  tcom_formed (assign_at x i e) (t ∷ u ∷ []) p n g = absurd (omega arith)
  tcom_formed (assign_at x i e) (t ∷ u ∷ y ∷ F) p n g =
      let q : ℕ = p + size_exp ρ i in
      let z : List Instruction = store_code (base (ρ x)) t u (y ∷ F) in
      let gu : Pool (u ∷ y ∷ F) = g.3 in
      append_formed (t_exp ρ i t (u ∷ y ∷ F) p) (t_exp ρ e u (y ∷ F) q ++ z) (texp_formed i t (u ∷ y ∷ F) p (omega arith) g)
      (append_formed (t_exp ρ e u (y ∷ F) q) z (texp_formed e u (y ∷ F) q (omega arith) gu)
      (store_formed (base (ρ x)) u y t gu.1 gu.3.1 g.1))
  tcom_formed (sequence c d) F p n g =
      append_formed (t_com ρ c F p) (t_com ρ d F (p + size_com ρ c)) (tcom_formed c F p (omega arith) g) (tcom_formed d F (p + size_com ρ c) (omega arith) g)
  tcom_formed (choose e c d) [] p n g = absurd (omega arith)
  tcom_formed (choose e c d) (t ∷ F) p n g =
      let q : ℕ = p + size_exp ρ e in
      let l : ℕ = suc q + size_com ρ c in
      let z : List Instruction = ins jmp (suc l + size_com ρ d) 0 0 ∷ t_com ρ d (t ∷ F) (suc l) in
      append_formed (t_exp ρ e t F p) (ins beq t 0 (suc l) ∷ t_com ρ c (t ∷ F) (suc q) ++ z) (texp_formed e t F p (omega arith) g) (
        branch g.1 zero_low,
        append_formed (t_com ρ c (t ∷ F) (suc q)) z (tcom_formed c (t ∷ F) (suc q) (omega arith) g) (refl, tcom_formed d (t ∷ F) (suc l) (omega arith) g),
      )
  tcom_formed (while e c) [] p n g = absurd (omega arith)
  tcom_formed (while e c) (t ∷ F) p n g =
      let q : ℕ = p + size_exp ρ e in
      let l : ℕ = suc q + size_com ρ c in
      append_formed (t_exp ρ e t F p) (ins beq t 0 (suc l) ∷ t_com ρ c (t ∷ F) (suc q) ++ (ins jmp p 0 0 ∷ [])) (texp_formed e t F p (omega arith) g) (
        branch g.1 zero_low,
        append_formed (t_com ρ c (t ∷ F) (suc q)) (ins jmp p 0 0 ∷ []) (tcom_formed c (t ∷ F) (suc q) (omega arith) g) (refl, tt),
      )

  -- every instruction of a program is formed
  pub tprog_formed : (c : Com) (F : List ℕ) → need_com ρ c ≤ length F → Pool F → AllFormed (t_prog ρ c F)
  unfolding t_prog formed operation_of operations
  tprog_formed c F n g = append_formed (t_com ρ c F 0) (ins I.halt 0 0 0 ∷ []) (tcom_formed c F 0 n g) (refl, tt)
