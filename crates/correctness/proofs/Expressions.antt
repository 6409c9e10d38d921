-- Expressions: the code of an expression runs as its meaning says, and leaves its value in the target.
-- Assumes nothing.
use mathlib.Core.Path.{◌≡◌, refl, ◌∙◌, sym, ap}
use mathlib.Core.List.{List, [], ◌∷◌, ◌++◌}
use Prim.Native.Nat.{ℕ, zero, suc, ◌+◌, ◌<◌, ◌≤◌, max}
use native.Mathlib.Omega.{arith}
use lib.Dec.{eqb}
use lib.IntN.{pos}
use lib.ListN.{length}
use Rattle.word.specs.Word.{Word, address_of}
use Rattle.instruction.specs.Instruction.{ins, count_of, addi, load}
use Rattle.machine.specs.Step.{read_of}
use Rattle.rule.specs.Tree.{Op, Exp, value, ident, element, binary, negate}
use Rattle.rule.specs.Tree.{Binding, constant, variable, array, base}
use Rattle.correctness.specs.Meaning.{◌>>◌, spend, read, element_of, named, eval}
use Rattle.compiler.specs.Pool.{fresh, without}
use Rattle.compiler.specs.Compile.{after, size_op, size_named, size_exp, need_named, need_exp, named_code, load_code, operator_code, not_code, t_exp}
use Rattle.correctness.specs.Demand3.{Free}
use Rattle.correctness.proofs.Frame.{Pool, Within, keep_set, keep_read, read_set}
use Rattle.correctness.proofs.Fits.{Fit, base_fit, WordsExp}
use Rattle.correctness.proofs.Sim.{Runs, runs_return, runs_bind, runs_to}
use Rattle.correctness.proofs.Steps.{address_base, address_cell}
use Rattle.correctness.proofs.Instructions.{runs_addi}
use Rattle.correctness.proofs.Places.{At, at_exp}
use Rattle.correctness.proofs.LeftOperand.{Apart, Chosen, chosen, left_chosen}
use Rattle.correctness.proofs.Operators.{Holds, operator_runs, not_runs, read_runs}

after_add : (k q : ℕ) → after k q ≡ q + k
after_add zero q = omega arith
after_add (suc k) q = omega (arith, after_add k q)

-- what is to be shown of an expression
abbrev pub Right : List ℕ → (ℕ → Binding) → Exp → ℕ → List ℕ → ℕ → Type 0
Right C ρ e r F p = (R : List ℕ) → length R ≡ 64 → Runs C (r ∷ F) (p + size_exp ρ e) (Holds r) R p (eval ρ e)

module _ (C : List ℕ) (ρ : ℕ → Binding) where
  value_right : (v r : ℕ) (F : List ℕ) (p : ℕ) → Pool (r ∷ F) → Word v → At C p (ins addi r v 0 ∷ []) → Right C ρ (value v) r F p
  unfolding eval size_exp
  value_right v r F p g w h R l =
      runs_to (omega arith)
      (runs_addi h.0 g.0 w (keep_set F R r v) (λ m. refl) (runs_return (read_set R r v l g.0 g.1)))

  -- u takes the address; it may be the target
  variable_right : (a r u : ℕ) (F : List ℕ) (p : ℕ) → 0 < r → r < 64 → 0 < u → u < 64 → Within (u ∷ []) (r ∷ F) → a < 2147483648
      → At C p (ins addi u a 0 ∷ ins load r u 0 ∷ []) → (R : List ℕ) → length R ≡ 64
      → Runs C (r ∷ F) (p + 2) (Holds r) R p (spend 1 >> read (pos a))
  unfolding read_of
  variable_right a r u F p hr lr hu lu i f h R l =
      runs_to (omega arith) (read_runs C F r u 0 p a (pos a) R l hr lr hu lu (omega arith) i f (address_cell a f) h)

  named_right : (x : Binding) (r : ℕ) (F : List ℕ) (p : ℕ) → Fit x → need_named x ≤ length F → Pool (r ∷ F) → At C p (named_code x r F)
      → (R : List ℕ) → length R ≡ 64 → Runs C (r ∷ F) (p + size_named x) (Holds r) R p (named x)
  unfolding eval size_exp
  named_right (constant v) r F p f n g h R l = value_right v r F p g f h R l
  named_right (variable a) r [] p f n g h R l = absurd (omega arith)
  named_right (variable a) r (t ∷ F) p f n g h R l =
      variable_right a r t (t ∷ F) p g.0 g.1 g.3.0 g.3.1 (λ k o. (o.1.0, tt)) f h R l
  named_right (array a s) r [] p f n g h R l = absurd (omega arith)
  named_right (array a s) r (t ∷ F) p f n g h R l =
      variable_right a r t (t ∷ F) p g.0 g.1 g.3.0 g.3.1 (λ k o. (o.1.0, tt)) f h R l

  -- t holds the index and u takes the address; t may be the target
  element_right : (x : ℕ) (e : Exp) (r t u : ℕ) (F G : List ℕ) (p : ℕ) → base (ρ x) < 2147483648 → 0 < r → r < 64 → Pool (t ∷ u ∷ G)
      → Within (t ∷ u ∷ G) (r ∷ F) → Right C ρ e t (u ∷ G) p → At C (p + size_exp ρ e) (ins addi u (base (ρ x)) 0 ∷ ins load r u t ∷ [])
      → Right C ρ (element x e) r F p
  unfolding eval size_exp
  element_right x e r t u F G p f hr lr g i ih h R l =
      let gu : Pool (u ∷ G) = g.3 in
      runs_to (omega arith)
      (runs_bind i (ih R l)
      (λ j S k v. read_runs C F r u t (p + size_exp ρ e) (base (ρ x)) (element_of (ρ x) j) S (k.size ∙ l) hr lr gu.0 gu.1
      g.2.0 (λ d o. ((i d o).1.0, tt)) f (ap (address_of (base (ρ x))) v ∙ address_base (base (ρ x)) j f) h))

  -- the left operand goes to t with the pool u ∷ G, the right to u with G; t may be the target where the operator allows it
  binary_right : (op : Op) (x y : Exp) (r t u : ℕ) (F G : List ℕ) (p : ℕ) → 0 < r → r < 64 → Free t (u ∷ G) → Within (t ∷ u ∷ G) (r ∷ F)
      → Apart op r t u → Right C ρ x t (u ∷ G) p → Right C ρ y u G (p + size_exp ρ x)
      → At C (p + size_exp ρ x + size_exp ρ y) (operator_code op r t u (p + size_exp ρ x + size_exp ρ y))
      → p + size_exp ρ x + size_exp ρ y + size_op op < count_of C → Right C ρ (binary op x y) r F p
  unfolding eval size_exp
  binary_right op x y r t u F G p hr lr g i a ix iy h n R l =
      runs_to (after_add (size_op op) (p + size_exp ρ x + size_exp ρ y) ∙ omega arith)
      (runs_bind i (ix R l)
      (λ v S k et. runs_bind (λ d o. (i d o).1) (iy S (k.size ∙ l))
      (λ w T j eu. operator_runs C F r t u (p + size_exp ρ x + size_exp ρ y) v w T (j.size ∙ k.size ∙ l) hr lr
      (keep_read j t g ∙ et) eu op a h n)))

  negate_right : (e : Exp) (r t : ℕ) (F : List ℕ) (p : ℕ) → Pool (r ∷ t ∷ F) → Right C ρ e t F p
      → At C (p + size_exp ρ e) (not_code r t (p + size_exp ρ e)) → p + size_exp ρ e + 3 < count_of C → Right C ρ (negate e) r (t ∷ F) p
  unfolding eval size_exp
  negate_right e r t F p g ih h n R l =
      runs_to (omega arith)
      (runs_bind (λ k o. o.1) (ih R l)
      (λ v S k et. not_runs C (t ∷ F) r t t (p + size_exp ρ e) v v S (k.size ∙ l) g.0 g.1
      et et (λ d. g.2.0 (sym d), λ d. g.2.0 (sym d)) h n (eqb v 0) refl))

-- The theorem of expressions
module _ (C : List ℕ) (ρ : ℕ → Binding) (fit : (x : ℕ) → Fit (ρ x)) where
  abbrev Whole : Exp → Type 0
  Whole e = (r : ℕ) (F : List ℕ) (p : ℕ) → need_exp ρ e ≤ length F → Pool (r ∷ F) → At C p (t_exp ρ e r F p) → p + size_exp ρ e < count_of C
      → Right C ρ e r F p

  element_whole : (x : ℕ) (e : Exp) → Whole e → (r : ℕ) (F : List ℕ) (p : ℕ) {t : ℕ} {H : List ℕ} → 0 < r → r < 64
      → Chosen (max 1 (need_exp ρ e)) r F t H → At C p (t_exp ρ e t H p ++ load_code (base (ρ x)) r t H) → p + size_exp ρ e + 2 < count_of C
      → Right C ρ (element x e) r F p
  element_whole x e ih r F p hr lr (chosen {t} {u} {G} g i n a) h b =
      let s = at_exp C ρ e t (u ∷ G) p (load_code (base (ρ x)) r t (u ∷ G)) h in
      element_right C ρ x e r t u F G p (base_fit (ρ x) (fit x)) hr lr g i (ih t (u ∷ G) p (omega arith) g s.0 (omega arith)) s.1

  binary_whole : (op : Op) (x y : Exp) → Whole x → Whole y → (r : ℕ) (F : List ℕ) (p : ℕ) {t : ℕ} {H : List ℕ} → 0 < r → r < 64
      → Chosen (max (need_exp ρ x) (1 + need_exp ρ y)) r F t H
      → At C p (t_exp ρ x t H p ++ (t_exp ρ y (fresh H) (without H) (p + size_exp ρ x) ++ operator_code op r t (fresh H) (p + size_exp ρ x + size_exp ρ y)))
      → p + size_exp ρ x + size_exp ρ y + size_op op < count_of C → Right C ρ (binary op x y) r F p
  binary_whole op x y ix iy r F p hr lr (chosen {t} {u} {G} g i n a) h b =
      let q : ℕ = p + size_exp ρ x in
      let s = at_exp C ρ x t (u ∷ G) p (t_exp ρ y u G q ++ operator_code op r t u (q + size_exp ρ y)) h in
      let z = at_exp C ρ y u G q (operator_code op r t u (q + size_exp ρ y)) s.1 in
      binary_right C ρ op x y r t u F G p hr lr g.2 i (a op) (ix t (u ∷ G) p (omega arith) g s.0 (omega arith))
      (iy u G q (omega arith) g.3 z.0 (omega arith)) z.1 b

  pub texp_right : (e : Exp) → WordsExp e → Whole e
  unfolding t_exp need_exp size_exp eval
  texp_right (value v) w r F p n g h b = value_right C ρ v r F p g w h
  texp_right (ident x) w r F p n g h b = named_right C ρ (ρ x) r F p (fit x) n g h
  texp_right (element x e) w r F p n g h b =
      element_whole x e (texp_right e w) r F p g.0 g.1 (left_chosen (max 1 (need_exp ρ e)) r F (omega arith) (omega arith) g) h (omega arith)
  texp_right (binary op x y) w r F p n g h b =
      binary_whole op x y (texp_right x w.0) (texp_right y w.1) r F p g.0 g.1
      (left_chosen (max (need_exp ρ x) (1 + need_exp ρ y)) r F (omega arith) (omega arith) g) h (omega arith)
  texp_right (negate e) w r [] p n g h b = absurd (omega arith)
  texp_right (negate e) w r (t ∷ F) p n g h b =
      let s = at_exp C ρ e t F p (not_code r t (p + size_exp ρ e)) h in
      negate_right C ρ e r t F p g (texp_right e w t F p (omega arith) g.3 s.0 (omega arith)) s.1 (omega arith)
