-- The code of an accepted rule can be printed: its instructions are formed, and every label that a jump names is inside it.
-- Assumes nothing.
use mathlib.Core.Path.{◌≡◌, refl, ◌∙◌, ap}
use mathlib.Core.Bool.{true}
use mathlib.Core.List.{List, [], ◌∷◌, ◌++◌}
use Prim.Native.Nat.{ℕ, zero, suc, ◌+◌, ◌*◌, ◌<◌, ◌≤◌}
use native.Mathlib.Omega.{arith}
use lib.ListN.{length, take}
use borrow.Author.Tests.{lt-ltb}
use Rattle.instruction.specs.Instruction.{Instruction, ins, operation_of, operations, halt, jmp, beq, assemble, fetch, count_of, taken}
use Rattle.instruction.proofs.Forms.{words_taken}
use Rattle.refusal.specs.Refusal.{laid_over}
use Rattle.listing.specs.Listing as T
use Rattle.listing.specs.Listing.{target_of, inside, sound}
use Rattle.listing.proofs.Answers.{all_pass, has_room, too_short}
use Rattle.rule.specs.Tree.{Op, plus, minus, times, less, equal, both, either}
use Rattle.rule.specs.Tree.{Exp, value, ident, element, binary, negate}
use Rattle.rule.specs.Tree.{Com, skip, assign, assign_at, sequence, choose, while}
use Rattle.rule.specs.Tree.{Binding, constant, variable, array, base}
use Rattle.rule.specs.Table.{binding_of, program}
use Rattle.compiler.specs.Pool.{registers_of, fresh, without}
use Rattle.compiler.specs.Compile.{left_target, left_pool, after, operator_code, not_code, named_code, load_code, store_code}
use Rattle.compiler.specs.Compile.{need_com, size_op, size_exp, size_com, t_exp, t_com, t_prog}
use Rattle.compiler.specs.Answer.{accepted, compiled, leaves}
use Rattle.compiler.proofs.Sizes.{size_prog}
use Rattle.correctness.proofs.Frame.{Pool}
use Rattle.correctness.proofs.Places.{At}
use Rattle.correctness.proofs.Assembled.{Each, each_append, at_assemble}
use Rattle.correctness.proofs.Formed.{tprog_formed}
use Rattle.correctness.proofs.Program.{count_tprog}
use Rattle.correctness.proofs.Acceptance.{pool_said, need_enough, small_said, length_code, code_left}

-- in a code of n instructions
module _ (n : ℕ) where
  -- the label that the instruction names, if it names one, is inside
  abbrev Inside : Instruction → Type 0
  Inside i = inside n (target_of i) ≡ true

  abbrev AllInside : List Instruction → Type 0
  AllInside = Each Inside

  append : (xs ys : List Instruction) → AllInside xs → AllInside ys → AllInside (xs ++ ys)
  append = each_append Inside

  -- labels are at most the place after the construct, which is inside
  operator_inside : (op : Op) (r t u q : ℕ) → q + size_op op < n → AllInside (operator_code op r t u q)
  unfolding operation_of operations
  operator_inside plus r t u q h = (refl, tt)
  operator_inside minus r t u q h = (refl, tt)
  operator_inside times r t u q h = (refl, tt)
  operator_inside less r t u q h = (refl, tt)
  operator_inside equal r t u q h = (lt-ltb (after 3 q) n (omega arith), (refl, (lt-ltb (after 4 q) n (omega arith), (refl, tt))))
  operator_inside both r t u q h = (refl, (lt-ltb (after 4 q) n (omega arith), (lt-ltb (after 4 q) n (omega arith), (refl, tt))))
  operator_inside either r t u q h = (refl, (lt-ltb (after 4 q) n (omega arith), (lt-ltb (after 4 q) n (omega arith), (refl, tt))))

  not_inside : (r t q : ℕ) → q + 3 < n → AllInside (not_code r t q)
  unfolding operation_of operations
  not_inside r t q h = (refl, (lt-ltb (after 3 q) n (omega arith), (refl, tt)))

  load_inside : (a r t : ℕ) (F : List ℕ) → AllInside (load_code a r t F)
  unfolding operation_of operations
  load_inside a r t F = (refl, (refl, tt))

  store_inside : (a t u : ℕ) (F : List ℕ) → AllInside (store_code a t u F)
  unfolding operation_of operations
  store_inside a t u F = (refl, (refl, tt))

  named_inside : (x : Binding) (r : ℕ) (F : List ℕ) → AllInside (named_code x r F)
  unfolding operation_of operations
  named_inside (constant v) r F = (refl, tt)
  named_inside (variable a) r F = load_inside a r 0 F
  named_inside (array a s) r F = load_inside a r 0 F

  module _ (ρ : ℕ → Binding) where
    texp_inside : (e : Exp) (r : ℕ) (F : List ℕ) (p : ℕ) → p + size_exp ρ e < n → AllInside (t_exp ρ e r F p)
    unfolding t_exp size_exp operation_of operations
    texp_inside (value v) r F p h = (refl, tt)
    texp_inside (ident x) r F p h = named_inside (ρ x) r F
    texp_inside (element x e) r F p h =
        let t : ℕ = left_target r F in
        let G : List ℕ = left_pool F in
        append (t_exp ρ e t G p) (load_code (base (ρ x)) r t G) (texp_inside e t G p (omega arith)) (load_inside (base (ρ x)) r t G)
    texp_inside (binary op x y) r F p h =
        let t : ℕ = left_target r F in
        let G : List ℕ = left_pool F in
        let q : ℕ = p + size_exp ρ x in
        let z : List Instruction = operator_code op r t (fresh G) (q + size_exp ρ y) in
        append (t_exp ρ x t G p) (t_exp ρ y (fresh G) (without G) q ++ z) (texp_inside x t G p (omega arith))
        (append (t_exp ρ y (fresh G) (without G) q) z (texp_inside y (fresh G) (without G) q (omega arith))
        (operator_inside op r t (fresh G) (q + size_exp ρ y) (omega arith)))
    texp_inside (negate e) r F p h =
        append (t_exp ρ e (fresh F) (without F) p) (not_code r (fresh F) (p + size_exp ρ e))
        (texp_inside e (fresh F) (without F) p (omega arith)) (not_inside r (fresh F) (p + size_exp ρ e) (omega arith))

    tcom_inside : (c : Com) (F : List ℕ) (p : ℕ) → p + size_com ρ c < n → AllInside (t_com ρ c F p)
    unfolding t_com size_com operation_of operations
    tcom_inside skip F p h = (refl, tt)
    tcom_inside (assign x e) F p h =
        append (t_exp ρ e (fresh F) (without F) p) (store_code (base (ρ x)) 0 (fresh F) (without F))
        (texp_inside e (fresh F) (without F) p (omega arith)) (store_inside (base (ρ x)) 0 (fresh F) (without F))
    tcom_inside (assign_at x i e) F p h =
        let G : List ℕ = without F in
        let q : ℕ = p + size_exp ρ i in
        let z : List Instruction = store_code (base (ρ x)) (fresh F) (fresh G) (without G) in
        append (t_exp ρ i (fresh F) G p) (t_exp ρ e (fresh G) (without G) q ++ z) (texp_inside i (fresh F) G p (omega arith))
        (append (t_exp ρ e (fresh G) (without G) q) z (texp_inside e (fresh G) (without G) q (omega arith))
        (store_inside (base (ρ x)) (fresh F) (fresh G) (without G)))
    tcom_inside (sequence c d) F p h =
        append (t_com ρ c F p) (t_com ρ d F (p + size_com ρ c)) (tcom_inside c F p (omega arith)) (tcom_inside d F (p + size_com ρ c) (omega arith))
    tcom_inside (choose e c d) F p h =
        let q : ℕ = p + size_exp ρ e in
        let l : ℕ = suc q + size_com ρ c in
        let z : List Instruction = ins jmp (suc l + size_com ρ d) 0 0 ∷ t_com ρ d F (suc l) in
        append (t_exp ρ e (fresh F) (without F) p) (ins beq (fresh F) 0 (suc l) ∷ t_com ρ c F (suc q) ++ z)
        (texp_inside e (fresh F) (without F) p (omega arith)) (
          lt-ltb (suc l) n (omega arith),
          append (t_com ρ c F (suc q)) z (tcom_inside c F (suc q) (omega arith))
              (lt-ltb (suc l + size_com ρ d) n (omega arith), tcom_inside d F (suc l) (omega arith)),
        )
    tcom_inside (while e c) F p h =
        let q : ℕ = p + size_exp ρ e in
        let l : ℕ = suc q + size_com ρ c in
        append (t_exp ρ e (fresh F) (without F) p) (ins beq (fresh F) 0 (suc l) ∷ t_com ρ c F (suc q) ++ (ins jmp p 0 0 ∷ []))
        (texp_inside e (fresh F) (without F) p (omega arith)) (
          lt-ltb (suc l) n (omega arith),
          append (t_com ρ c F (suc q)) (ins jmp p 0 0 ∷ []) (tcom_inside c F (suc q) (omega arith)) (lt-ltb p n (omega arith), tt),
        )

    -- the place after the command holds the halt
    tprog_inside : (c : Com) (F : List ℕ) → size_com ρ c < n → AllInside (t_prog ρ c F)
    unfolding t_prog operation_of operations
    tprog_inside c F h = append (t_com ρ c F 0) (ins halt 0 0 0 ∷ []) (tcom_inside c F 0 (omega arith)) (refl, tt)

  -- instructions that stand in a code from p on, with labels inside, are sound
  at_sound : (C : List ℕ) (is : List Instruction) (p : ℕ) → At C p is → AllInside is → (k : ℕ) → k < length is → sound n (fetch C (p + k)) ≡ true
  at_sound C [] p a s k h = absurd (omega arith)
  at_sound C (i ∷ is) p a s zero h =
      let e : p + 0 ≡ p = omega arith in
      ap (sound n) (ap (fetch C) e ∙ a.0) ∙ s.0
  at_sound C (i ∷ is) p a s (suc k) h =
      let e : p + suc k ≡ suc p + k = omega arith in
      ap (λ (q : ℕ). sound n (fetch C q)) e ∙ at_sound C is (suc p) a.1 s.1 k (omega arith)

program_sound : (ρ : ℕ → Binding) (c : Com) (F : List ℕ) → need_com ρ c ≤ length F → Pool F → (p : ℕ) → p < count_of (assemble (t_prog ρ c F))
    → sound (count_of (assemble (t_prog ρ c F))) (fetch (assemble (t_prog ρ c F)) p) ≡ true
program_sound ρ c F w g p h =
    let is : List Instruction = t_prog ρ c F in
    let n : ℕ = count_of (assemble is) in
    let l : n ≡ size_com ρ c + 1 = count_tprog ρ c F in
    let z : p ≡ 0 + p = omega arith in
    ap (λ (q : ℕ). sound n (fetch (assemble is) q)) z
    ∙ at_sound n (assemble is) is 0 (at_assemble is (tprog_formed ρ c F w g)) (tprog_inside n ρ c F (omega arith)) p (omega (arith, size_prog ρ c F))

-- the code that an accepted compilation leaves
module _ (ds ns : List ℕ) (pool : ℕ) (code : List ℕ) (n c k : ℕ) (said : compiled ds ns pool (length code) ≡ accepted n c k) where
  abbrev emitted : List ℕ
  emitted = take (n * 4) (leaves ds ns pool code)

  emitted_taken : taken (length emitted) ≡ true
  emitted_taken =
      let e : length emitted ≡ n * 4 = ap length (code_left ds ns pool code n c k said) ∙ length_code ds ns pool code n c k said in
      words_taken (length emitted) (omega arith) (omega (arith, small_said ds ns pool code n c k said))

  emitted_sound : (p : ℕ) → p < count_of emitted → sound (count_of emitted) (fetch emitted p) ≡ true
  emitted_sound =
      rw (code_left ds ns pool code n c k said)
      (program_sound (binding_of ds) (program ns) (registers_of pool) (need_enough ds ns pool code n c k said) (pool_said ds ns pool code n c k said))

  pub emitted_listed : (text : List ℕ) → length (T.listing emitted) ≤ length text
      → (T.answered emitted (length text) ≡ T.listed (length (T.listing emitted))) × (T.leaves emitted text ≡ laid_over (T.listing emitted) text)
  emitted_listed text h = let a = has_room emitted text emitted_taken (all_pass emitted emitted_sound) h in (a.said, a.left)

  pub emitted_needs : (text : List ℕ) → length text < length (T.listing emitted)
      → (T.answered emitted (length text) ≡ T.refused 22 (length (T.listing emitted))) × (T.leaves emitted text ≡ text)
  emitted_needs text h = let a = too_short emitted text emitted_taken (all_pass emitted emitted_sound) h in (a.said, a.left)
