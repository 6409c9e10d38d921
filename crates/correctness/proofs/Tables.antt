-- What is read from tables of words fits: every value of a program's tree is a word, and so is every constant.
-- Assumes nothing.
use mathlib.Core.Bool.{Bool, true, false, cond}
use mathlib.Core.List.{List, [], ◌∷◌, ◌++◌}
use Prim.Native.Nat.{ℕ, zero, suc, ◌+◌, ◌-◌, ◌*◌, ◌≤◌}
use native.Mathlib.Omega.{arith}
use lib.Dec.{eqb}
use lib.ListN.{get_or}
use Rattle.word.specs.Word.{Word, Words}
use Rattle.rule.specs.Tree.{Exp, value, Com, skip, constant, variable, array}
use Rattle.rule.specs.Kind.{Kind, unknown, a_value, an_ident, an_element, a_binary, a_not, a_skip, an_assign, an_assign_at, a_sequence, an_if, a_while}
use Rattle.rule.specs.Table.{sort, given, first_cell, binding_of, node_rows, word, kind_at, built, entry, exp_of, com_of, exp_row, com_row, exp_at, com_at, program}
use Rattle.correctness.proofs.Fits.{Fit, WordsExp, WordsCom}

get_d_word : (ws : List ℕ) (i : ℕ) → Words ws → Word (get_or ws i 0)
get_d_word [] i h = omega arith
get_d_word (w ∷ ws) zero h = h.0
get_d_word (w ∷ ws) (suc i) h = get_d_word ws i h.1

pub binding_fit : (ds : List ℕ) (x : ℕ) → Words ds → first_cell ds x ≤ 65536 → Fit (binding_of ds x)
unfolding binding_of
binding_fit ds x w h = go (eqb (sort ds x) 1) (eqb (sort ds x) 2)
  where
    go : (s t : Bool) → Fit (cond s (constant (given ds x)) (cond t (variable (first_cell ds x)) (array (first_cell ds x) (given ds x))))
    go true t = get_d_word ds (x * 2 + 1) w
    go false true = omega arith
    go false false = omega arith

-- what each row's step keeps holds of every entry of a table that is built up
module _ {A : Type 0} (P : A → Type 0) (d : A) (step : ℕ → (ℕ → A) → A) (none : P d)
    (keeps : (i : ℕ) (E : ℕ → A) → ((j : ℕ) → P (E j)) → P (step i E)) where
  one_more : (xs : List A) (x : A) → ((j : ℕ) → P (get_or xs j d)) → P x → (j : ℕ) → P (get_or (xs ++ (x ∷ [])) j d)
  one_more [] x h g zero = g
  one_more [] x h g (suc j) = none
  one_more (y ∷ xs) x h g zero = h 0
  one_more (y ∷ xs) x h g (suc j) = one_more xs x (λ k. h (suc k)) g j

  built_all : (n j : ℕ) → P (get_or (built d step n) j d)
  unfolding built
  built_all zero j = none
  built_all (suc n) j =
      one_more (built d step n) (step n (λ k. get_or (built d step n) k d)) (built_all n) (keeps n (λ k. get_or (built d step n) k d) (built_all n)) j

  entry_all : (i : ℕ) → P (entry d step i)
  unfolding entry
  entry_all i = keeps i (λ j. get_or (built d step i) j d) (built_all i)

exp_of_words : (E : ℕ → Exp) → ((j : ℕ) → WordsExp (E j)) → (k : Kind) (a b : ℕ) → Word a → WordsExp (exp_of E k a b)
exp_of_words E h unknown a b w = omega arith
exp_of_words E h a_value a b w = w
exp_of_words E h an_ident a b w = tt
exp_of_words E h an_element a b w = h b
exp_of_words E h (a_binary op) a b w = (h a, h b)
exp_of_words E h a_not a b w = h a
exp_of_words E h a_skip a b w = omega arith
exp_of_words E h an_assign a b w = omega arith
exp_of_words E h an_assign_at a b w = omega arith
exp_of_words E h a_sequence a b w = omega arith
exp_of_words E h an_if a b w = omega arith
exp_of_words E h a_while a b w = omega arith

com_of_words : (E : ℕ → Exp) (C : ℕ → Com) → ((j : ℕ) → WordsExp (E j)) → ((j : ℕ) → WordsCom (C j)) → (k : Kind) (a b c : ℕ) → WordsCom (com_of E C k a b c)
com_of_words E C h g unknown a b c = tt
com_of_words E C h g a_value a b c = tt
com_of_words E C h g an_ident a b c = tt
com_of_words E C h g an_element a b c = tt
com_of_words E C h g (a_binary op) a b c = tt
com_of_words E C h g a_not a b c = tt
com_of_words E C h g a_skip a b c = tt
com_of_words E C h g an_assign a b c = h b
com_of_words E C h g an_assign_at a b c = (h b, h c)
com_of_words E C h g a_sequence a b c = (g a, g b)
com_of_words E C h g an_if a b c = (h a, g b, g c)
com_of_words E C h g a_while a b c = (h a, g b)

module _ (ns : List ℕ) (w : Words ns) where
  exp_at_words : (i : ℕ) → WordsExp (exp_at ns i)
  unfolding exp_at
  exp_at_words i =
      entry_all WordsExp (value 0) (exp_row ns) (omega arith)
      (λ j E h. exp_of_words E h (kind_at ns j) (word ns j 1) (word ns j 2) (get_d_word ns (j * 4 + 1) w)) i

  com_at_words : (i : ℕ) → WordsCom (com_at ns i)
  unfolding com_at
  com_at_words i =
      entry_all WordsCom skip (com_row ns) tt
      (λ j C h. com_of_words (exp_at ns) C exp_at_words h (kind_at ns j) (word ns j 1) (word ns j 2) (word ns j 3)) i

  pub program_words : WordsCom (program ns)
  program_words = com_at_words (node_rows ns - 1)
