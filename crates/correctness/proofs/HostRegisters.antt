-- Emitted code writes no register outside the pool: a run of it, from every state and under every budget, leaves those as they were.
-- Assumes nothing.
use mathlib.Core.Path.{◌≡◌, refl}
use mathlib.Core.List.{List, [], ◌∷◌, ◌++◌}
use Prim.Native.Nat.{ℕ, suc, ◌+◌, ◌*◌}
use lib.ListN.{length, get_or, take}
use Rattle.instruction.specs.Instruction.{Instruction, ins, halt, jmp, beq, assemble}
use Rattle.machine.specs.declared.State.{State}
use Rattle.machine.specs.Entry.{run_entry}
use Rattle.machine.proofs.Spared.{Spares, Other, spares_other, spares_jmp, spared_kept}
use Rattle.rule.specs.Tree.{Op, plus, minus, times, less, equal, both, either}
use Rattle.rule.specs.Tree.{Exp, value, ident, element, binary, negate}
use Rattle.rule.specs.Tree.{Com, skip, assign, assign_at, sequence, choose, while}
use Rattle.rule.specs.Tree.{Binding, constant, variable, array, base}
use Rattle.rule.specs.Table.{binding_of, program}
use Rattle.compiler.specs.Pool.{registers_of, fresh, without}
use Rattle.compiler.specs.Compile.{left_target, left_pool, operator_code, not_code, named_code, load_code, store_code, size_exp, size_com, t_exp, t_com, t_prog}
use Rattle.compiler.specs.Answer.{accepted, compiled, leaves}
use Rattle.correctness.specs.Demand3.{Free}
use Rattle.correctness.proofs.Assembled.{Each, each_append, fetch_each}
use Rattle.correctness.proofs.Acceptance.{code_left}

module _ (j : ℕ) where
  abbrev AllSpare : List Instruction → Type 0
  AllSpare = Each (Spares j)

  other : {o a b c : ℕ} → Other j a → Spares j (ins o a b c)
  other = spares_other j

  append : (xs ys : List Instruction) → AllSpare xs → AllSpare ys → AllSpare (xs ++ ys)
  append = each_append (Spares j)

  -- a fresh register, and what is left; where the pool is empty the fresh one is $0
  other_fresh : (F : List ℕ) → Free j F → Other j (fresh F)
  other_fresh [] h e = refl
  other_fresh (t ∷ F) h e = absurd (h.0 e)

  free_without : (F : List ℕ) → Free j F → Free j (without F)
  free_without [] h = tt
  free_without (t ∷ F) h = h.1

  operator_spares : (op : Op) (r t u q : ℕ) → Other j r → Other j t → Other j u → AllSpare (operator_code op r t u q)
  operator_spares plus r t u q hr ht hu = (other hr, tt)
  operator_spares minus r t u q hr ht hu = (other hr, tt)
  operator_spares times r t u q hr ht hu = (other hr, tt)
  operator_spares less r t u q hr ht hu = (other hr, tt)
  operator_spares equal r t u q hr ht hu = (other ht, (other hr, (spares_jmp j, (other hr, tt))))
  operator_spares both r t u q hr ht hu = (other hr, (other ht, (other hu, (other hr, tt))))
  operator_spares either r t u q hr ht hu = (other hr, (other ht, (other hu, (other hr, tt))))

  load_spares : (a r t : ℕ) (F : List ℕ) → Other j r → Free j F → AllSpare (load_code a r t F)
  load_spares a r t F hr h = (other (other_fresh F h), (other hr, tt))

  store_spares : (a t u : ℕ) (F : List ℕ) → Free j F → AllSpare (store_code a t u F)
  store_spares a t u F h = (other (other_fresh F h), (other (other_fresh F h), tt))

  named_spares : (x : Binding) (r : ℕ) (F : List ℕ) → Other j r → Free j F → AllSpare (named_code x r F)
  named_spares (constant v) r F hr h = (other hr, tt)
  named_spares (variable a) r F hr h = load_spares a r 0 F hr h
  named_spares (array a s) r F hr h = load_spares a r 0 F hr h

  module _ (ρ : ℕ → Binding) where
    texp_spares : (e : Exp) (r : ℕ) (F : List ℕ) (p : ℕ) → Other j r → Free j F → AllSpare (t_exp ρ e r F p)
    unfolding t_exp
    texp_spares (value v) r F p hr h = (other hr, tt)
    texp_spares (ident x) r F p hr h = named_spares (ρ x) r F hr h
    texp_spares (element x e) r F p hr h =
        append (t_exp ρ e (left_target r F) (left_pool F) p) (load_code (base (ρ x)) r (left_target r F) (left_pool F))
        (texp_spares e (left_target r F) (left_pool F) p (other_fresh F h) (free_without F h))
        (load_spares (base (ρ x)) r (left_target r F) (left_pool F) hr (free_without F h))
    texp_spares (binary op x y) r F p hr h =
        let t : ℕ = left_target r F in
        let G : List ℕ = left_pool F in
        let ht : Other j t = other_fresh F h in
        let hG : Free j G = free_without F h in
        let q : ℕ = p + size_exp ρ x in
        let z : List Instruction = operator_code op r t (fresh G) (q + size_exp ρ y) in
        append (t_exp ρ x t G p) (t_exp ρ y (fresh G) (without G) q ++ z) (texp_spares x t G p ht hG)
        (append (t_exp ρ y (fresh G) (without G) q) z (texp_spares y (fresh G) (without G) q (other_fresh G hG) (free_without G hG))
        (operator_spares op r t (fresh G) (q + size_exp ρ y) hr ht (other_fresh G hG)))
    texp_spares (negate e) r F p hr h =
        append (t_exp ρ e (fresh F) (without F) p) (not_code r (fresh F) (p + size_exp ρ e))
        (texp_spares e (fresh F) (without F) p (other_fresh F h) (free_without F h)) (other hr, (other (other_fresh F h), (other hr, tt)))

    test_spares : (e : Exp) (F : List ℕ) (p : ℕ) → Free j F → AllSpare (t_exp ρ e (fresh F) (without F) p)
    test_spares e F p h = texp_spares e (fresh F) (without F) p (other_fresh F h) (free_without F h)

    tcom_spares : (c : Com) (F : List ℕ) (p : ℕ) → Free j F → AllSpare (t_com ρ c F p)
    unfolding t_com
    tcom_spares skip F p h = (other (λ e. refl), tt)
    tcom_spares (assign x e) F p h =
        append (t_exp ρ e (fresh F) (without F) p) (store_code (base (ρ x)) 0 (fresh F) (without F)) (test_spares e F p h)
        (store_spares (base (ρ x)) 0 (fresh F) (without F) (free_without F h))
    tcom_spares (assign_at x i e) F p h =
        let G : List ℕ = without F in
        let hG : Free j G = free_without F h in
        let q : ℕ = p + size_exp ρ i in
        let z : List Instruction = store_code (base (ρ x)) (fresh F) (fresh G) (without G) in
        append (t_exp ρ i (fresh F) G p) (t_exp ρ e (fresh G) (without G) q ++ z) (test_spares i F p h)
        (append (t_exp ρ e (fresh G) (without G) q) z (test_spares e G q hG) (store_spares (base (ρ x)) (fresh F) (fresh G) (without G) (free_without G hG)))
    tcom_spares (sequence c d) F p h =
        append (t_com ρ c F p) (t_com ρ d F (p + size_com ρ c)) (tcom_spares c F p h) (tcom_spares d F (p + size_com ρ c) h)
    tcom_spares (choose e c d) F p h =
        let q : ℕ = p + size_exp ρ e in
        let l : ℕ = suc q + size_com ρ c in
        let z : List Instruction = ins jmp (suc l + size_com ρ d) 0 0 ∷ t_com ρ d F (suc l) in
        append (t_exp ρ e (fresh F) (without F) p) (ins beq (fresh F) 0 (suc l) ∷ t_com ρ c F (suc q) ++ z) (test_spares e F p h) (
          other (other_fresh F h),
          append (t_com ρ c F (suc q)) z (tcom_spares c F (suc q) h) (spares_jmp j, tcom_spares d F (suc l) h),
        )
    tcom_spares (while e c) F p h =
        let q : ℕ = p + size_exp ρ e in
        let l : ℕ = suc q + size_com ρ c in
        append (t_exp ρ e (fresh F) (without F) p) (ins beq (fresh F) 0 (suc l) ∷ t_com ρ c F (suc q) ++ (ins jmp p 0 0 ∷ [])) (test_spares e F p h) (
          other (other_fresh F h),
          append (t_com ρ c F (suc q)) (ins jmp p 0 0 ∷ []) (tcom_spares c F (suc q) h) (spares_jmp j, tt),
        )

    tprog_spares : (c : Com) (F : List ℕ) → Free j F → AllSpare (t_prog ρ c F)
    unfolding t_prog
    tprog_spares c F h = append (t_com ρ c F 0) (ins halt 0 0 0 ∷ []) (tcom_spares c F 0 h) (other (λ e. refl), tt)

-- the code that an accepted compilation leaves
pub host_registers_kept : (ds ns : List ℕ) (pool : ℕ) (code : List ℕ) (n c k : ℕ) → compiled ds ns pool (length code) ≡ accepted n c k
    → (m : List ℕ) (s : State) (budget j : ℕ) → Free j (registers_of pool)
    → get_or (run_entry (take (n * 4) (leaves ds ns pool code)) m s budget).state.registers j 0 ≡ get_or s.registers j 0
host_registers_kept ds ns pool code n c k said m s budget j h =
    let is : List Instruction = t_prog (binding_of ds) (program ns) (registers_of pool) in
    rw (code_left ds ns pool code n c k said)
    (spared_kept j (assemble is) (fetch_each (Spares j) is (tprog_spares j (binding_of ds) (program ns) (registers_of pool) h)) m s budget)
