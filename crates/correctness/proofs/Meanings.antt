-- Laws of the meaning, from the meaning alone: what is left of a budget, how a rule ends under a larger one, its one fault, and while turn by turn.
-- Assumes nothing.
use mathlib.Core.Path.{◌≡◌, refl, sym, subst}
use mathlib.Core.Bool.{Bool, true, false, cond, not}
use mathlib.Core.List.{List}
use Prim.Native.Nat.{ℕ, zero, suc, ◌+◌, ◌<◌, ◌≤◌}
use native.Mathlib.Nat.{le_refl}
use native.Mathlib.Omega.{arith}
use lib.IntN.{pos}
use Rattle.rule.specs.Tree.{Exp, value, ident, element, binary, negate}
use Rattle.rule.specs.Tree.{Com, skip, assign, assign_at, sequence, choose, while}
use Rattle.rule.specs.Tree.{Binding, constant, variable, array, base}
use Rattle.correctness.specs.Meaning.{Outcome, done, fault, out, left_of, M, bind, ◌>>=◌, ◌>>◌, return, spend}
use Rattle.correctness.specs.Meaning.{element_of, truth, flag, result, steps, named, eval, turns, exec, rule_meaning}
use Rattle.correctness.proofs.Timed.{Larger, Four, Timed, timed_return, timed_bind, timed_spend, timed_cond, timed_read, timed_store}

-- Expressions

timed_named : (x : Binding) → Timed (named x)
timed_named (constant v) = timed_bind (timed_spend 1) (λ _. timed_return v)
timed_named (variable a) = timed_bind (timed_spend 1) (λ _. timed_read _)
timed_named (array a s) = timed_bind (timed_spend 1) (λ _. timed_read _)

pub timed_eval : (ρ : ℕ → Binding) (e : Exp) → Timed (eval ρ e)
unfolding eval
timed_eval ρ (value v) = timed_bind (timed_spend 1) (λ _. timed_return v)
timed_eval ρ (ident x) = timed_named (ρ x)
timed_eval ρ (element x e) = timed_bind (timed_eval ρ e) (λ i. timed_bind (timed_spend 1) (λ _. timed_read _))
timed_eval ρ (binary op l r) =
    timed_bind (timed_eval ρ l) (λ v. timed_bind (timed_eval ρ r) (λ w. timed_bind (timed_spend (steps op v w)) (λ _. timed_return (result op v w))))
timed_eval ρ (negate e) = timed_bind (timed_eval ρ e) (λ v. timed_bind (timed_spend (cond (truth v) 3 2)) (λ _. timed_return (flag (not (truth v)))))

-- an expression takes a step before anything else
named_first : (x : Binding) (m : List ℕ) → named x m 0 ≡ out m
named_first (constant v) m = refl
named_first (variable a) m = refl
named_first (array a s) m = refl

eval_first : (ρ : ℕ → Binding) (e : Exp) (m : List ℕ) → eval ρ e m 0 ≡ out m
unfolding eval
eval_first ρ (value v) m = refl
eval_first ρ (ident x) m = named_first (ρ x) m
eval_first ρ (element x e) m = rw (eval_first ρ e m)
eval_first ρ (binary op l r) m = rw (eval_first ρ l m)
eval_first ρ (negate e) m = rw (eval_first ρ e m)

-- While

-- two computations that agree under every budget up to b agree after an outcome that leaves no more
bind_same : {A B : Type 0} (b : ℕ) (x : Outcome A) (k l : A → M B) → left_of x ≤ b
    → ((a : A) (m : List ℕ) (c : ℕ) → c ≤ b → k a m c ≡ l a m c) → bind x k ≡ bind x l
bind_same b (done a m c) k l h e = e a m c h
bind_same b (fault n m c) k l h e = refl
bind_same b (out m) k l h e = refl

module _ (test : M ℕ) (body : M (Unit {0})) where
  -- one turn, and then the rest: what follows the test's value v, and the whole
  abbrev tested : M (Unit {0}) → ℕ → M (Unit {0})
  tested rest v = spend 1 >> cond (truth v) (body >> spend 1 >> rest) (return tt)

  abbrev turn : M (Unit {0}) → M (Unit {0})
  turn rest = test >>= tested rest

  module _ (t : Timed test) (u : Timed body) (first : (m : List ℕ) → test m 0 ≡ out m) where
    timed_turns : (f : ℕ) → Timed (turns test body f)
    unfolding turns
    timed_turns zero = record { within = λ m b. omega arith; lasts = λ m b d. tt; four = λ m b. tt }
    timed_turns (suc f) =
        timed_bind t (λ v. timed_bind (timed_spend 1)
        (λ _. timed_cond (truth v) (timed_bind (timed_bind u (λ _. timed_spend 1)) (λ _. timed_turns f)) (timed_return tt)))

    -- what follows a turn has less budget
    module _ (k l : M (Unit {0})) (b : ℕ) (e : (m : List ℕ) (c : ℕ) → c < b → k m c ≡ l m c) where
      arm_same : (c : ℕ) → c < b → (m : List ℕ) (x : Bool)
          → cond x (body >> spend 1 >> k) (return tt) m c ≡ cond x (body >> spend 1 >> l) (return tt) m c
      arm_same c h m true =
          bind_same c ((body >> spend 1) m c) (λ _. k) (λ _. l) ((timed_bind u (λ _. timed_spend 1)).within m c) (λ a m' d i. e m' d (omega arith))
      arm_same c h m false = refl

      tested_same : (v : ℕ) (m : List ℕ) (c : ℕ) → c ≤ b → tested k v m c ≡ tested l v m c
      tested_same v m zero h = refl
      tested_same v m (suc c) h = arm_same c (omega arith) m (truth v)

      turn_same : (m : List ℕ) → turn k m b ≡ turn l m b
      turn_same m = bind_same b (test m b) (tested k) (tested l) (t.within m b) tested_same

    turn_first : (k : M (Unit {0})) (m : List ℕ) → turn k m 0 ≡ out m
    turn_first k m = rw (first m)

    -- as many turns as there is budget are enough
    turns_same : (f g : ℕ) (m : List ℕ) (b : ℕ) → b ≤ f → b ≤ g → turns test body f m b ≡ turns test body g m b
    unfolding turns
    turns_same zero zero m b h i = refl
    turns_same zero (suc g) m zero h i = sym (turn_first (turns test body g) m)
    turns_same zero (suc g) m (suc b) h i = absurd (omega arith)
    turns_same (suc f) zero m zero h i = turn_first (turns test body f) m
    turns_same (suc f) zero m (suc b) h i = absurd (omega arith)
    turns_same (suc f) (suc g) m b h i =
        turn_same (turns test body f) (turns test body g) b (λ m' c l. turns_same f g m' c (omega arith) (omega arith)) m

    -- the turns, as many as there is budget
    abbrev all_turns : M (Unit {0})
    all_turns m b = turns test body b m b

    turns_again : (m : List ℕ) (b : ℕ) → all_turns m b ≡ turn all_turns m b
    unfolding turns
    turns_again m zero = sym (turn_first all_turns m)
    turns_again m (suc b) = turn_same (turns test body b) all_turns (suc b) (λ m' c l. turns_same b c m' c (omega arith) (le_refl c)) m

    timed_all_turns : Timed all_turns
    timed_all_turns =
        record {
          within = λ m b. (timed_turns b).within m b;
          lasts = λ m b d. rw (turns_same b (b + d) m b (le_refl b) (omega arith)) ((timed_turns (b + d)).lasts m b d);
          four = λ m b. (timed_turns b).four m b;
        }

-- Commands

pub timed_exec : (ρ : ℕ → Binding) (c : Com) → Timed (exec ρ c)
unfolding exec
timed_exec ρ skip = timed_spend 1
timed_exec ρ (assign x e) = timed_bind (timed_eval ρ e) (λ v. timed_bind (timed_spend 1) (λ _. timed_store (pos (base (ρ x))) v))
timed_exec ρ (assign_at x i e) =
    timed_bind (timed_eval ρ i) (λ j. timed_bind (timed_eval ρ e) (λ v. timed_bind (timed_spend 1) (λ _. timed_store (element_of (ρ x) j) v)))
timed_exec ρ (sequence c d) = timed_bind (timed_exec ρ c) (λ _. timed_exec ρ d)
timed_exec ρ (choose e c d) =
    timed_bind (timed_eval ρ e) (λ v. timed_bind (timed_spend 1)
    (λ _. timed_cond (truth v) (timed_bind (timed_exec ρ c) (λ _. timed_spend 1)) (timed_exec ρ d)))
timed_exec ρ (while e c) = timed_all_turns (eval ρ e) (exec ρ c) (timed_eval ρ e) (timed_exec ρ c) (eval_first ρ e)

timed_rule : (ρ : ℕ → Binding) (c : Com) → Timed (rule_meaning ρ c)
unfolding rule_meaning
timed_rule ρ c = timed_bind (timed_exec ρ c) (λ _. timed_spend 1)

-- The laws

pub while_again : (ρ : ℕ → Binding) (e : Exp) (c : Com) (m : List ℕ) (b : ℕ)
    → exec ρ (while e c) m b
    ≡ (do
      v ← eval ρ e
      spend 1
      cond (truth v) (exec ρ c >> spend 1 >> exec ρ (while e c)) (return tt)) m b
unfolding exec
while_again ρ e c = turns_again (eval ρ e) (exec ρ c) (timed_eval ρ e) (timed_exec ρ c) (eval_first ρ e)

pub never_gains : (ρ : ℕ → Binding) (c : Com) (m : List ℕ) (b : ℕ) → left_of (rule_meaning ρ c m b) ≤ b
never_gains ρ c = (timed_rule ρ c).within

pub ends_alike : (ρ : ℕ → Binding) (c : Com) (m m' : List ℕ) (b l d : ℕ)
    → (rule_meaning ρ c m b ≡ done tt m' l → rule_meaning ρ c m (b + d) ≡ done tt m' (l + d))
    × ((n : ℕ) → rule_meaning ρ c m b ≡ fault n m' l → rule_meaning ρ c m (b + d) ≡ fault n m' (l + d))
ends_alike ρ c m m' b l d =
    let h : Larger d (rule_meaning ρ c m b) (rule_meaning ρ c m (b + d)) = (timed_rule ρ c).lasts m b d in
    let P : Outcome (Unit {0}) → Type 0 = λ x. Larger d x (rule_meaning ρ c m (b + d)) in
    (λ e. subst P e h, λ n e. subst P e h)

pub faults_with_4 : (ρ : ℕ → Binding) (c : Com) (m m' : List ℕ) (b l n : ℕ) → rule_meaning ρ c m b ≡ fault n m' l → n ≡ 4
faults_with_4 ρ c m m' b l n e = subst Four e ((timed_rule ρ c).four m b)
