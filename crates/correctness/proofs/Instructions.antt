-- One rule of the judgement for each kind of instruction that compiled code has.
-- Assumes nothing.
use mathlib.Core.Path.{◌≡◌, refl, ◌∙◌, ap, ap₂}
use mathlib.Core.Bool.{Bool, true, false, not}
use mathlib.Core.List.{List}
use Prim.Native.Nat.{ℕ, zero, suc, ◌<◌}
use native.Mathlib.Omega.{arith}
use lib.Dec.{eqb}
use lib.IntN.{ℤ}
use lib.ListN.{length, get_or, set}
use Rattle.word.specs.Word.{Word, sum_of, cell_of, address_of, Cell, At, Nowhere}
use Rattle.instruction.specs.Instruction as I
use Rattle.instruction.specs.Instruction.{Instruction, ins, found, fetch, count_of, addi, load, jmp, beq, bne}
use Rattle.machine.specs.Step.{Go, did, read_of, loads, stores, branches, perform, step_of}
use Rattle.machine.specs.Run.{run_of}
use Rattle.correctness.specs.Meaning.{out, M, read, read_cell, store, store_cell}
use Rattle.correctness.proofs.Frame.{Keep, keep_refl}
use Rattle.correctness.proofs.Sim.{Sim, comes, faults, ends, Runs, runs_tick}
use Rattle.correctness.proofs.Steps.{sum_zero, writes_next, loads_nowhere, jumps_next, performs, goes, breaks}

module _ {C : List ℕ} {B : Type 0} {F : List ℕ} {q : ℕ} {Q : B → List ℕ → Type 0} where
  -- an instruction that does not touch memory
  pub runs_next : {R S : List ℕ} {p s : ℕ} {i : Instruction} {o : M B} → fetch C p ≡ found i → Keep F R S
      → ((m : List ℕ) → perform (count_of C) p R m i ≡ did (Go s) S m) → ((m : List ℕ) → o m 0 ≡ out m)
      → Runs C F q Q S s (λ m c. o m (suc c)) → Runs C F q Q R p o
  runs_next {R} {p} e h f z r = runs_tick h (λ m c. goes C R m p (performs C R m p e ∙ f m) c) z r

  pub runs_addi : {R : List ℕ} {p a v : ℕ} {o : M B} → fetch C p ≡ found (ins addi a v 0) → 0 < a → Word v → Keep F R (set R a v)
      → ((m : List ℕ) → o m 0 ≡ out m) → Runs C F q Q (set R a v) (suc p) (λ m c. o m (suc c)) → Runs C F q Q R p o
  unfolding perform read_of
  runs_addi {R} {p} {a} {v} e h w k z r =
      runs_next e k (λ m. writes_next p a (sum_of v 0) R m h ∙ ap (λ (x : ℕ). did (Go (suc p)) (set R a x) m) (sum_zero v w)) z r

  pub runs_jump : {R : List ℕ} {p L : ℕ} {o : M B} → fetch C p ≡ found (ins jmp L 0 0) → L < count_of C
      → ((m : List ℕ) → o m 0 ≡ out m) → Runs C F q Q R L (λ m c. o m (suc c)) → Runs C F q Q R p o
  unfolding perform
  runs_jump {R} {L} e h z r = runs_next e (keep_refl F R) (λ m. jumps_next (count_of C) L R m h) z r

  -- a branch: `t` says whether it is taken
  module _ {R : List ℕ} {p : ℕ} {i : Instruction} {o : M B} (L : ℕ) (t : Bool) (e : fetch C p ≡ found i)
      (f : (m : List ℕ) → perform (count_of C) p R m i ≡ did (branches t (count_of C) p L) R m) (z : (m : List ℕ) → o m 0 ≡ out m) where
    taken : t ≡ true → L < count_of C → Runs C F q Q R L (λ m c. o m (suc c)) → Runs C F q Q R p o
    taken d h r =
        runs_next e (keep_refl F R)
        (λ m. f m ∙ ap (λ (x : Bool). did (branches x (count_of C) p L) R m) d ∙ jumps_next (count_of C) L R m h) z r

    passed : t ≡ false → Runs C F q Q R (suc p) (λ m c. o m (suc c)) → Runs C F q Q R p o
    passed d r = runs_next e (keep_refl F R) (λ m. f m ∙ ap (λ (x : Bool). did (branches x (count_of C) p L) R m) d) z r

  module _ {R : List ℕ} {p a b L v w : ℕ} {o : M B} where
    pub beq_taken : fetch C p ≡ found (ins beq a b L) → read_of R a ≡ v → read_of R b ≡ w → eqb v w ≡ true → L < count_of C
        → ((m : List ℕ) → o m 0 ≡ out m) → Runs C F q Q R L (λ m c. o m (suc c)) → Runs C F q Q R p o
    unfolding perform
    beq_taken e ea eb d h z r = taken L (eqb (read_of R a) (read_of R b)) e (λ m. refl) z (ap₂ eqb ea eb ∙ d) h r

    pub beq_passed : fetch C p ≡ found (ins beq a b L) → read_of R a ≡ v → read_of R b ≡ w → eqb v w ≡ false
        → ((m : List ℕ) → o m 0 ≡ out m) → Runs C F q Q R (suc p) (λ m c. o m (suc c)) → Runs C F q Q R p o
    unfolding perform
    beq_passed e ea eb d z r = passed L (eqb (read_of R a) (read_of R b)) e (λ m. refl) z (ap₂ eqb ea eb ∙ d) r

    pub bne_taken : fetch C p ≡ found (ins bne a b L) → read_of R a ≡ v → read_of R b ≡ w → eqb v w ≡ false → L < count_of C
        → ((m : List ℕ) → o m 0 ≡ out m) → Runs C F q Q R L (λ m c. o m (suc c)) → Runs C F q Q R p o
    unfolding perform
    bne_taken e ea eb d h z r = taken L (not (eqb (read_of R a) (read_of R b))) e (λ m. refl) z (ap not (ap₂ eqb ea eb ∙ d)) h r

    pub bne_passed : fetch C p ≡ found (ins bne a b L) → read_of R a ≡ v → read_of R b ≡ w → eqb v w ≡ true
        → ((m : List ℕ) → o m 0 ≡ out m) → Runs C F q Q R (suc p) (λ m c. o m (suc c)) → Runs C F q Q R p o
    unfolding perform
    bne_passed e ea eb d z r = passed L (not (eqb (read_of R a) (read_of R b))) e (λ m. refl) z (ap not (ap₂ eqb ea eb ∙ d)) r

-- the step that reads memory, and the step that stores
module _ {C F R : List ℕ} {p : ℕ} where
  reads : {P : ℕ → List ℕ → Type 0} {a : ℕ} → ((v : ℕ) → Keep F R (set R a v)) → ((v : ℕ) → P v (set R a v)) → 0 < a
      → (m : List ℕ) (c : ℕ) (w : Cell) → step_of C p R m ≡ loads p a w R m → Sim C F (suc p) P R m p (suc c) (read_cell m c w)
  reads {a} k g h m c (At x) e =
      comes {c = c} _ (k (get_or m x 0)) (g (get_or m x 0)) (omega arith) (goes C R m p (e ∙ writes_next p a (get_or m x 0) R m h) c)
  reads {a} k g h m c Nowhere e = faults R p (keep_refl F R) (breaks C R m p (e ∙ loads_nowhere p a R m h) c)

  pub runs_load : {P : ℕ → List ℕ → Type 0} {a b i : ℕ} {x : ℤ} → fetch C p ≡ found (ins load a b i) → ((v : ℕ) → Keep F R (set R a v))
      → ((v : ℕ) → P v (set R a v)) → 0 < a → address_of (read_of R b) (read_of R i) ≡ x → Runs C F (suc p) P R p (read x)
  unfolding perform run_of
  runs_load {P} {a} {x} e k g h f = record { from = go }
    where
      go : (m : List ℕ) (c : ℕ) → Sim C F (suc p) P R m p c (read x m c)
      go m zero = ends R p (keep_refl F R) refl
      go m (suc c) =
          reads k g h m c (cell_of x (length m)) (performs C R m p e ∙ ap (λ (y : ℤ). loads p a (cell_of y (length m)) R m) f)

  stored : {P : Unit {0} → List ℕ → Type 0} (v : ℕ) → P tt R
      → (m : List ℕ) (c : ℕ) (w : Cell) → step_of C p R m ≡ stores p v w R m → Sim C F (suc p) P R m p (suc c) (store_cell v m c w)
  stored v g m c (At x) e = comes {c = c} R (keep_refl F R) g (omega arith) (goes C R m p e c)
  stored v g m c Nowhere e = faults R p (keep_refl F R) (breaks C R m p e c)

  pub runs_store : {P : Unit {0} → List ℕ → Type 0} {a b i v : ℕ} {x : ℤ} → fetch C p ≡ found (ins I.store b i a) → P tt R
      → address_of (read_of R b) (read_of R i) ≡ x → read_of R a ≡ v → Runs C F (suc p) P R p (store x v)
  unfolding perform run_of
  runs_store {P} {a} {v} {x} e g f d = record { from = go }
    where
      go : (m : List ℕ) (c : ℕ) → Sim C F (suc p) P R m p c (store x v m c)
      go m zero = ends R p (keep_refl F R) refl
      go m (suc c) =
          stored v g m c (cell_of x (length m))
          (performs C R m p e ∙ ap (λ (y : ℤ). stores p (read_of R a) (cell_of y (length m)) R m) f
          ∙ ap (λ (y : ℕ). stores p y (cell_of x (length m)) R m) d)
