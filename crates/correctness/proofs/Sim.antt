-- The judgement: a run goes as an outcome of the meaning says. Its rules follow the meaning's `bind`, `spend`, `read` and `store`.
-- Assumes nothing.
use mathlib.Core.Path.{◌≡◌, refl, ◌∙◌, sym, subst}
use mathlib.Core.List.{List}
use Prim.Native.Nat.{ℕ, zero, suc, ◌≤◌}
use native.Mathlib.Nat.{le_refl, le_trans}
use native.Mathlib.Omega.{arith}
use Rattle.machine.specs.declared.Ending.TheVariants.{Faulted, Unfinished}
use Rattle.machine.specs.Run.{ran, run_of}
use Rattle.correctness.specs.Meaning.{Outcome, done, fault, out, M, bind, ◌>>=◌, return}
use Rattle.correctness.proofs.Frame.{Keep, Within, keep_refl, keep_trans, widen}

-- The code C is run from the place p, the registers R and the memory m, with b steps left. If the outcome is done, the run comes to q, with
-- registers that meet the post P; if it is not, the run's answer is that outcome. Only registers of F have changed.
pub data Sim {A : Type 0} (C F : List ℕ) (q : ℕ) (P : A → List ℕ → Type 0) (R m : List ℕ) (p b : ℕ) : Outcome A → Type 0 where
  comes : {a : A} {m' : List ℕ} {c : ℕ} (S : List ℕ) → Keep F R S → P a S → c ≤ b → run_of C b p R m ≡ run_of C c q S m'
      → Sim C F q P R m p b (done a m' c)
  faults : {n : ℕ} {m' : List ℕ} {c : ℕ} (S : List ℕ) (s : ℕ) → Keep F R S → run_of C b p R m ≡ ran (Faulted n) c s S m'
      → Sim C F q P R m p b (fault n m' c)
  ends : {m' : List ℕ} (S : List ℕ) (s : ℕ) → Keep F R S → run_of C b p R m ≡ ran Unfinished 0 s S m' → Sim C F q P R m p b (out m')

-- first to a point on the way, and then as o says
pub sim_after : {A : Type 0} {C F : List ℕ} {q : ℕ} {P : A → List ℕ → Type 0} {R S m m' : List ℕ} {p s b c : ℕ} {o : Outcome A}
    → Keep F R S → c ≤ b → run_of C b p R m ≡ run_of C c s S m' → Sim C F q P S m' s c o → Sim C F q P R m p b o
sim_after k l e (comes T h g i f) = comes T (keep_trans k h) g (le_trans i l) (e ∙ f)
sim_after k l e (faults T s h f) = faults T s (keep_trans k h) (e ∙ f)
sim_after k l e (ends T s h f) = ends T s (keep_trans k h) (e ∙ f)

-- one computation, and then another that depends on its answer
pub sim_bind : {A B : Type 0} {C F G : List ℕ} {q s : ℕ} {P : A → List ℕ → Type 0} {Q : B → List ℕ → Type 0} {R m : List ℕ} {p b : ℕ}
    {o : Outcome A} {k : A → M B} → Within F G → Sim C F s P R m p b o
    → ((a : A) (m' : List ℕ) (c : ℕ) (S : List ℕ) → Keep F R S → P a S → c ≤ b → Sim C G q Q S m' s c (k a m' c))
    → Sim C G q Q R m p b (bind o k)
sim_bind w (comes {a} {m'} {c} S h g i f) next = sim_after (widen w h) i f (next a m' c S h g i)
sim_bind w (faults S s h f) next = faults S s (widen w h) f
sim_bind w (ends S s h f) next = ends S s (widen w h) f

-- The same for a computation, from every memory and every budget

pub record Runs {A : Type 0} (C F : List ℕ) (q : ℕ) (P : A → List ℕ → Type 0) (R : List ℕ) (p : ℕ) (o : M A) : Type 0 where
  pub from : (m : List ℕ) (b : ℕ) → Sim C F q P R m p b (o m b)

pub runs_return : {A : Type 0} {C F : List ℕ} {q : ℕ} {P : A → List ℕ → Type 0} {R : List ℕ} {a : A} → P a R → Runs C F q P R q (return a)
runs_return {F} {R} g = record { from = λ m b. comes R (keep_refl F R) g (le_refl b) refl }

pub runs_bind : {A B : Type 0} {C F G : List ℕ} {q s : ℕ} {P : A → List ℕ → Type 0} {Q : B → List ℕ → Type 0} {R : List ℕ} {p : ℕ}
    {o : M A} {k : A → M B} → Within F G → Runs C F s P R p o
    → ((a : A) (S : List ℕ) → Keep F R S → P a S → Runs C G q Q S s (k a))
    → Runs C G q Q R p (o >>= k)
runs_bind w r next = record { from = λ m b. sim_bind w (r.from m b) (λ a m' c S h g i. (next a S h g).from m' c) }

-- one step of the machine, for a computation that takes one step too
tick : {B : Type 0} {C F : List ℕ} {q s : ℕ} {Q : B → List ℕ → Type 0} {R S : List ℕ} {p : ℕ} (o : M B) → Keep F R S
    → ((m : List ℕ) (c : ℕ) → run_of C (suc c) p R m ≡ run_of C c s S m) → ((m : List ℕ) → o m 0 ≡ out m)
    → Runs C F q Q S s (λ m c. o m (suc c)) → (m : List ℕ) (b : ℕ) → Sim C F q Q R m p b (o m b)
unfolding run_of
tick {C} {F} {q} {Q} {R} {p} o h e z next m zero = subst (Sim C F q Q R m p 0) (sym (z m)) (ends R p (keep_refl F R) refl)
tick o h e z next m (suc c) = sim_after h (omega arith) (e m c) (next.from m c)

pub runs_tick : {B : Type 0} {C F : List ℕ} {q s : ℕ} {Q : B → List ℕ → Type 0} {R S : List ℕ} {p : ℕ} {o : M B} → Keep F R S
    → ((m : List ℕ) (c : ℕ) → run_of C (suc c) p R m ≡ run_of C c s S m) → ((m : List ℕ) → o m 0 ≡ out m)
    → Runs C F q Q S s (λ m c. o m (suc c)) → Runs C F q Q R p o
runs_tick {o} h e z next = record { from = tick o h e z next }

pub runs_to : {A : Type 0} {C F : List ℕ} {q s : ℕ} {P : A → List ℕ → Type 0} {R : List ℕ} {p : ℕ} {o : M A}
    → q ≡ s → Runs C F q P R p o → Runs C F s P R p o
runs_to {C} {F} {P} {R} {p} {o} e r = subst (λ (x : ℕ). Runs C F x P R p o) e r
