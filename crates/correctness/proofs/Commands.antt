-- Commands: the code of a command runs as its meaning says.
-- Assumes nothing.
use mathlib.Core.Path.{◌≡◌, refl, ◌∙◌, ap, ap₂}
use mathlib.Core.Bool.{Bool, true, false, cond, not}
use mathlib.Core.List.{List, [], ◌∷◌, ◌++◌}
use Prim.Native.Nat.{ℕ, zero, suc, ◌+◌, ◌<◌, ◌≤◌}
use native.Mathlib.Nat.{le_refl}
use native.Mathlib.Omega.{arith}
use lib.Dec.{eqb}
use lib.IntN.{ℤ, pos}
use lib.ListN.{length}
use Rattle.word.specs.Word.{address_of}
use Rattle.instruction.specs.Instruction as I
use Rattle.instruction.specs.Instruction.{Instruction, ins, found, fetch, count_of, addi, beq, jmp, nop}
use Rattle.machine.specs.Step.{read_of, perform}
use Rattle.machine.specs.Run.{run_of}
use Rattle.rule.specs.Tree.{Exp, Com, skip, assign, assign_at, sequence, choose, while, Binding, base}
use Rattle.correctness.specs.Meaning.{M, ◌>>◌, return, spend, store, element_of, turns, eval, exec}
use Rattle.compiler.specs.Compile.{after, size_exp, size_com, need_com, t_exp, t_com}
use Rattle.correctness.proofs.Frame.{Pool, Within, keep_refl, keep_set, keep_read, widen, read_set}
use Rattle.correctness.proofs.Fits.{Fit, base_fit, WordsCom}
use Rattle.correctness.proofs.Sim.{Sim, ends, sim_after, sim_bind, Runs, runs_return, runs_bind, runs_to}
use Rattle.correctness.proofs.Steps.{address_base, address_cell, beq_goes}
use Rattle.correctness.proofs.Instructions.{runs_next, runs_addi, runs_jump, beq_taken, beq_passed, runs_store}
use Rattle.correctness.proofs.Places.{At, at_exp, at_com}
use Rattle.correctness.proofs.Operators.{Holds}
use Rattle.correctness.proofs.Expressions.{Right, texp_right}

-- the post of a command: it has no answer
abbrev pub Any : Unit {0} → List ℕ → Type 0
Any _ S = Unit {0}

abbrev pub RightCom : List ℕ → (ℕ → Binding) → Com → List ℕ → ℕ → Type 0
RightCom C ρ c F p = (R : List ℕ) → length R ≡ 64 → Runs C F (p + size_com ρ c) Any R p (exec ρ c)

-- the two instructions that store the register t into a cell: k holds the index, and x is the rule's address
store_runs : (C G : List ℕ) (u k t q a v : ℕ) (x : ℤ) (S : List ℕ) → length S ≡ 64 → 0 < u → u < 64 → ((k ≡ u) → ⊥) → ((t ≡ u) → ⊥)
    → Within (u ∷ []) G → a < 2147483648 → address_of a (read_of S k) ≡ x → read_of S t ≡ v → At C q (ins addi u a 0 ∷ ins I.store u k t ∷ [])
    → Runs C G (after 2 q) Any S q (spend 1 >> store x v)
store_runs C G u k t q a v x S l hu lu nk nt w f e d h =
    let kept = keep_set [] S u a in
    runs_addi h.0 hu (omega arith) (widen w kept) (λ m. refl)
    (runs_store h.1.0 tt (ap₂ address_of (read_set S u a l hu lu) (keep_read kept k (nk, tt)) ∙ e) (keep_read kept t (nt, tt) ∙ d))

module _ (C : List ℕ) (ρ : ℕ → Binding) where
  skip_right : (F : List ℕ) (p : ℕ) → At C p (ins nop 0 0 0 ∷ []) → RightCom C ρ skip F p
  unfolding exec size_com perform
  skip_right F p h R l = runs_to (omega arith) (runs_next h.0 (keep_refl F R) (λ m. refl) (λ m. refl) (runs_return tt))

  assign_right : (x : ℕ) (e : Exp) (t u : ℕ) (F : List ℕ) (p : ℕ) → base (ρ x) < 2147483648 → Pool (t ∷ u ∷ F) → Right C ρ e t (u ∷ F) p
      → At C (p + size_exp ρ e) (ins addi u (base (ρ x)) 0 ∷ ins I.store u 0 t ∷ []) → RightCom C ρ (assign x e) (t ∷ u ∷ F) p
  unfolding exec size_com read_of
  assign_right x e t u F p f g ih h R l =
      let gu : Pool (u ∷ F) = g.3 in
      runs_to (omega arith)
      (runs_bind (λ k o. o) (ih R l)
      (λ v S k et. store_runs C (t ∷ u ∷ F) u 0 t (p + size_exp ρ e) (base (ρ x)) v (pos (base (ρ x))) S (k.size ∙ l) gu.0 gu.1
      (omega arith) g.2.0 (λ j o. (o.1.0, tt)) f (address_cell (base (ρ x)) f) et h))

  assign_at_right : (x : ℕ) (i e : Exp) (t u y : ℕ) (F : List ℕ) (p : ℕ) → base (ρ x) < 2147483648 → Pool (t ∷ u ∷ y ∷ F)
      → Right C ρ i t (u ∷ y ∷ F) p → Right C ρ e u (y ∷ F) (p + size_exp ρ i)
      → At C (p + size_exp ρ i + size_exp ρ e) (ins addi y (base (ρ x)) 0 ∷ ins I.store y t u ∷ []) → RightCom C ρ (assign_at x i e) (t ∷ u ∷ y ∷ F) p
  unfolding exec size_com
  assign_at_right x i e t u y F p f g ii ie h R l =
      let gu : Pool (u ∷ y ∷ F) = g.3 in
      let gy : Pool (y ∷ F) = gu.3 in
      runs_to (omega arith)
      (runs_bind (λ k o. o) (ii R l)
      (λ j S k et. runs_bind (λ b o. o.1) (ie S (k.size ∙ l))
      (λ v T b eu. store_runs C (t ∷ u ∷ y ∷ F) y t u (p + size_exp ρ i + size_exp ρ e) (base (ρ x)) v (element_of (ρ x) j) T
      (b.size ∙ k.size ∙ l) gy.0 gy.1 g.2.1.0 gu.2.0 (λ d o. (o.1.1.0, tt)) f
      (ap (address_of (base (ρ x))) (keep_read b t g.2 ∙ et) ∙ address_base (base (ρ x)) j f) eu h)))

  sequence_right : (c d : Com) (F : List ℕ) (p : ℕ) → RightCom C ρ c F p → RightCom C ρ d F (p + size_com ρ c) → RightCom C ρ (sequence c d) F p
  unfolding exec size_com
  sequence_right c d F p ic id R l =
      runs_to (omega arith) (runs_bind (λ k o. o) (ic R l) (λ _ S k _. id S (k.size ∙ l)))

  -- the test has been made, and its value is v
  choose_runs : (c d : Com) (t : ℕ) (F : List ℕ) (q v : ℕ) (S : List ℕ) → length S ≡ 64 → read_of S t ≡ v → RightCom C ρ c (t ∷ F) (suc q)
      → RightCom C ρ d (t ∷ F) (suc (suc q + size_com ρ c)) → fetch C q ≡ found (ins beq t 0 (suc (suc q + size_com ρ c)))
      → fetch C (suc q + size_com ρ c) ≡ found (ins jmp (suc (suc q + size_com ρ c) + size_com ρ d) 0 0)
      → suc (suc q + size_com ρ c) + size_com ρ d < count_of C → (b : Bool) → eqb v 0 ≡ b
      → Runs C (t ∷ F) (suc (suc q + size_com ρ c) + size_com ρ d) Any S q (spend 1 >> cond (not b) (exec ρ c >> spend 1) (exec ρ d))
  unfolding read_of
  choose_runs c d t F q v S l et ic id h j n true e = beq_taken h et refl e (omega arith) (λ m. refl) (id S l)
  choose_runs c d t F q v S l et ic id h j n false e =
      beq_passed h et refl e (λ m. refl)
      (runs_bind (λ k o. o) (ic S l) (λ _ T k _. runs_jump j n (λ m. refl) (runs_return tt)))

  choose_right : (e : Exp) (c d : Com) (t : ℕ) (F : List ℕ) (p : ℕ) → Right C ρ e t F p → RightCom C ρ c (t ∷ F) (suc (p + size_exp ρ e))
      → RightCom C ρ d (t ∷ F) (suc (suc (p + size_exp ρ e) + size_com ρ c))
      → fetch C (p + size_exp ρ e) ≡ found (ins beq t 0 (suc (suc (p + size_exp ρ e) + size_com ρ c)))
      → fetch C (suc (p + size_exp ρ e) + size_com ρ c) ≡ found (ins jmp (suc (suc (p + size_exp ρ e) + size_com ρ c) + size_com ρ d) 0 0)
      → p + size_com ρ (choose e c d) < count_of C → RightCom C ρ (choose e c d) (t ∷ F) p
  unfolding exec size_com
  choose_right e c d t F p ie ic id h j n R l =
      runs_to (omega arith)
      (runs_bind (λ k o. o) (ie R l)
      (λ v S k et. choose_runs c d t F (p + size_exp ρ e) v S (k.size ∙ l) et ic id h j (omega arith) (eqb v 0) refl))

-- while: t is the test's register, p its place, q the branch's, j the jump's
module _ (C : List ℕ) (t : ℕ) (F : List ℕ) (p q j : ℕ) (test : M ℕ) (body : M (Unit {0}))
    (it : (R : List ℕ) → length R ≡ 64 → Runs C (t ∷ F) q (Holds t) R p test)
    (ib : (R : List ℕ) → length R ≡ 64 → Runs C (t ∷ F) j Any R (suc q) body)
    (hq : fetch C q ≡ found (ins beq t 0 (suc j))) (hj : fetch C j ≡ found (ins jmp p 0 0)) (np : p < count_of C) (nj : suc j < count_of C) where
  -- the body and the jump back
  back : (R : List ℕ) → length R ≡ 64 → Runs C (t ∷ F) p Any R (suc q) (body >> spend 1)
  back R l = runs_bind (λ k o. o) (ib R l) (λ _ S k _. runs_jump hj np (λ m. refl) (runs_return tt))

  -- the test fails
  leave : (S : List ℕ) (v : ℕ) → read_of S t ≡ v → eqb v 0 ≡ true → Runs C (t ∷ F) (suc j) Any S q (spend 1 >> return tt)
  unfolding read_of
  leave S v et e = beq_taken hq et refl e nj (λ m. refl) (runs_return tt)

  -- the test has been made; `again` is the rest of the turns
  turn : (f : ℕ) → ((R m : List ℕ) (b : ℕ) → length R ≡ 64 → b ≤ f → Sim C (t ∷ F) (suc j) Any R m p b (turns test body f m b))
      → (S m : List ℕ) (v c : ℕ) → length S ≡ 64 → read_of S t ≡ v → c ≤ suc f → (x : Bool) → eqb v 0 ≡ x
      → Sim C (t ∷ F) (suc j) Any S m q c (◌>>◌ (spend 1) (cond (not x) (body >> spend 1 >> turns test body f) (return tt)) m c)
  unfolding run_of read_of
  turn f again S m v c l et i true e = (leave S v et e).from m c
  turn f again S m v zero l et i false e = ends S q (keep_refl (t ∷ F) S) refl
  turn f again S m v (suc c) l et i false e =
      sim_after (keep_refl (t ∷ F) S) (omega arith) (beq_goes C S m q hq (ap (λ (y : ℕ). eqb y 0) et ∙ e) c)
      (sim_bind (λ k o. o) ((back S l).from m c) (λ _ m' d T k _ h. again T m' d (k.size ∙ l) (omega arith)))

  turns_sim : (f : ℕ) (R m : List ℕ) (b : ℕ) → length R ≡ 64 → b ≤ f → Sim C (t ∷ F) (suc j) Any R m p b (turns test body f m b)
  unfolding turns run_of
  turns_sim zero R m zero l i = ends R p (keep_refl (t ∷ F) R) refl
  turns_sim zero R m (suc b) l i = absurd (omega arith)
  turns_sim (suc f) R m b l i =
      sim_bind (λ k o. o) ((it R l).from m b)
      (λ v m' c S k et h. turn f (turns_sim f) S m' v c (k.size ∙ l) et (omega arith) (eqb v 0) refl)

-- The theorem of commands
module _ (C : List ℕ) (ρ : ℕ → Binding) (fit : (x : ℕ) → Fit (ρ x)) where
  while_right : (e : Exp) (c : Com) (t : ℕ) (F : List ℕ) (p : ℕ) → Right C ρ e t F p → RightCom C ρ c (t ∷ F) (suc (p + size_exp ρ e))
      → fetch C (p + size_exp ρ e) ≡ found (ins beq t 0 (suc (suc (p + size_exp ρ e) + size_com ρ c)))
      → fetch C (suc (p + size_exp ρ e) + size_com ρ c) ≡ found (ins jmp p 0 0)
      → p + size_com ρ (while e c) < count_of C → RightCom C ρ (while e c) (t ∷ F) p
  unfolding exec size_com
  while_right e c t F p ie ic h j n R l =
      runs_to (omega arith)
      (record {
        from = λ m b. turns_sim C t F p (p + size_exp ρ e) (suc (p + size_exp ρ e) + size_com ρ c) (eval ρ e) (exec ρ c) ie ic h j
            (omega arith) (omega arith) b R m b l (le_refl b);
      })

  pub tcom_right : (c : Com) (F : List ℕ) (p : ℕ) → WordsCom c → need_com ρ c ≤ length F → Pool F → At C p (t_com ρ c F p)
      → p + size_com ρ c < count_of C → RightCom C ρ c F p
  unfolding t_com need_com size_com
  tcom_right skip F p w n g h b = skip_right C ρ F p h
  tcom_right (assign x e) [] p w n g h b = absurd (omega arith)
  tcom_right (assign x e) (t ∷ []) p w n g h b = absurd (omega arith)
  tcom_right (assign x e) (t ∷ u ∷ F) p w n g h b =
      let s = at_exp C ρ e t (u ∷ F) p (ins addi u (base (ρ x)) 0 ∷ ins I.store u 0 t ∷ []) h in
      assign_right C ρ x e t u F p (base_fit (ρ x) (fit x)) g (texp_right C ρ fit e w t (u ∷ F) p (omega arith) g s.0 (omega arith)) s.1
  tcom_right (assign_at x i e) [] p w n g h b = absurd (omega arith)
  tcom_right (assign_at x i e) (t ∷ []) p w n g h b = absurd (omega arith)
  tcom_right (assign_at x i e) (t ∷ u ∷ []) p w n g h b = absurd (omega arith)
  tcom_right (assign_at x i e) (t ∷ u ∷ y ∷ F) p w n g h b =
      let q : ℕ = p + size_exp ρ i in
      let z : List Instruction = ins addi y (base (ρ x)) 0 ∷ ins I.store y t u ∷ [] in
      let s = at_exp C ρ i t (u ∷ y ∷ F) p (t_exp ρ e u (y ∷ F) q ++ z) h in
      let s' = at_exp C ρ e u (y ∷ F) q z s.1 in
      assign_at_right C ρ x i e t u y F p (base_fit (ρ x) (fit x)) g
      (texp_right C ρ fit i w.0 t (u ∷ y ∷ F) p (omega arith) g s.0 (omega arith))
      (texp_right C ρ fit e w.1 u (y ∷ F) q (omega arith) g.3 s'.0 (omega arith)) s'.1
  tcom_right (sequence c d) F p w n g h b =
      let s = at_com C ρ c F p (t_com ρ d F (p + size_com ρ c)) h in
      sequence_right C ρ c d F p (tcom_right c F p w.0 (omega arith) g s.0 (omega arith))
      (tcom_right d F (p + size_com ρ c) w.1 (omega arith) g s.1 (omega arith))
  tcom_right (choose e c d) [] p w n g h b = absurd (omega arith)
  tcom_right (choose e c d) (t ∷ F) p w n g h b =
      let q : ℕ = p + size_exp ρ e in
      let l : ℕ = suc q + size_com ρ c in
      let z : List Instruction = ins jmp (suc l + size_com ρ d) 0 0 ∷ t_com ρ d (t ∷ F) (suc l) in
      let s = at_exp C ρ e t F p (ins beq t 0 (suc l) ∷ t_com ρ c (t ∷ F) (suc q) ++ z) h in
      let s' = at_com C ρ c (t ∷ F) (suc q) z s.1.1 in
      choose_right C ρ e c d t F p (texp_right C ρ fit e w.0 t F p (omega arith) g s.0 (omega arith))
      (tcom_right c (t ∷ F) (suc q) w.1 (omega arith) g s'.0 (omega arith))
      (tcom_right d (t ∷ F) (suc l) w.2 (omega arith) g s'.1.1 (omega arith)) s.1.0 s'.1.0 (omega arith)
  tcom_right (while e c) [] p w n g h b = absurd (omega arith)
  tcom_right (while e c) (t ∷ F) p w n g h b =
      let q : ℕ = p + size_exp ρ e in
      let l : ℕ = suc q + size_com ρ c in
      let s = at_exp C ρ e t F p (ins beq t 0 (suc l) ∷ t_com ρ c (t ∷ F) (suc q) ++ (ins jmp p 0 0 ∷ [])) h in
      let s' = at_com C ρ c (t ∷ F) (suc q) (ins jmp p 0 0 ∷ []) s.1.1 in
      while_right e c t F p (texp_right C ρ fit e w.0 t F p (omega arith) g s.0 (omega arith))
      (tcom_right c (t ∷ F) (suc q) w.1 (omega arith) g s'.0 (omega arith)) s.1.0 s'.1.0 (omega arith)
