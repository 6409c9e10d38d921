-- That a choice of registers exists, "even if a fresh register might be any one left and not the lowest". 01-scope.md, "Register choice".
-- ρ is what the names stand for and F the pool handed to a construct.
use Rattle.std.specs.Prelude.{◌≡◌, List, ◌∷◌, ℕ, length}
use Rattle.refusal.specs.Refusal.{Passes}
use Rattle.rule.specs.Tree.{Op, Exp, value, ident, element, binary, negate}
use Rattle.rule.specs.Tree.{Com, skip, assign, assign_at, sequence, choose, while}
use Rattle.rule.specs.Tree.{Binding, constant, variable, array}
use Rattle.rule.specs.Check.{node_words, declaration_words, declarations, rows, used_once}
use Rattle.compiler.specs.Answer.{pool_bit}

-- t is a register of the pool F, and G is "the pool less t"
pub data Takes (t : ℕ) : List ℕ → List ℕ → Type 0 where
  here : {F : List ℕ} → Takes t (t ∷ F) F
  there : {s : ℕ} {F G : List ℕ} → Takes t F G → Takes t (s ∷ F) (s ∷ G)

-- an identifier, by what it stands for
pub data ChoosesNamed : Binding → List ℕ → Type 0 where
  -- "value, constant, skip 0"
  for_constant : {v : ℕ} {F : List ℕ} → ChoosesNamed (constant v) F
  -- "Identifier (variable): bx fresh"
  for_variable : {a bx : ℕ} {F G : List ℕ} → Takes bx F G → ChoosesNamed (variable a) F
  -- an array, which no accepted rule names here, is read as its first cell
  for_array : {a s bx : ℕ} {F G : List ℕ} → Takes bx F G → ChoosesNamed (array a s) F

pub data Chooses (ρ : ℕ → Binding) : Exp → List ℕ → Type 0 where
  -- "value, constant, skip 0"
  for_value : {v : ℕ} {F : List ℕ} → Chooses ρ (value v) F
  -- "Kind 2 names a constant or variable"
  for_identifier : {x : ℕ} {F : List ℕ} → ChoosesNamed (ρ x) F → Chooses ρ (ident x) F
  -- "Element: t1 fresh, index into t1 without it; bx fresh from what is left"
  for_element : {x t₁ bx : ℕ} {i : Exp} {F G H : List ℕ} → Takes t₁ F G → Chooses ρ i G → Takes bx G H → Chooses ρ (element x i) F
  -- "Binary: t1 fresh, left into t1 with the pool less t1; then t2 fresh from that pool, right into t2 with both removed"
  for_binary : {o : Op} {t₁ t₂ : ℕ} {l r : Exp} {F G H : List ℕ} → Takes t₁ F G → Chooses ρ l G → Takes t₂ G H → Chooses ρ r H
      → Chooses ρ (binary o l r) F
  -- "Not: t1 fresh"
  for_not : {t₁ : ℕ} {e : Exp} {F G : List ℕ} → Takes t₁ F G → Chooses ρ e G → Chooses ρ (negate e) F

pub data ChoosesCom (ρ : ℕ → Binding) : Com → List ℕ → Type 0 where
  -- "value, constant, skip 0"
  for_skip : {F : List ℕ} → ChoosesCom ρ skip F
  -- "Assign: t1 fresh, value into t1, then bx fresh from the pool less t1"
  for_assign : {x t₁ bx : ℕ} {e : Exp} {F G H : List ℕ} → Takes t₁ F G → Chooses ρ e G → Takes bx G H → ChoosesCom ρ (assign x e) F
  -- "Assign element: t1 for the index and t2 for the value, with the pools of a binary's left and right; then bx from the pool less both"
  for_assign_element : {x t₁ t₂ bx : ℕ} {i e : Exp} {F G H I : List ℕ} → Takes t₁ F G → Chooses ρ i G → Takes t₂ G H → Chooses ρ e H
      → Takes bx H I → ChoosesCom ρ (assign_at x i e) F
  -- "Sequence: both get the whole pool"
  for_sequence : {c d : Com} {F : List ℕ} → ChoosesCom ρ c F → ChoosesCom ρ d F → ChoosesCom ρ (sequence c d) F
  -- "If, while: t fresh for the test; the bodies get the whole pool"
  for_if : {t : ℕ} {e : Exp} {c d : Com} {F G : List ℕ} → Takes t F G → Chooses ρ e G → ChoosesCom ρ c F → ChoosesCom ρ d F
      → ChoosesCom ρ (choose e c d) F
  for_while : {t : ℕ} {e : Exp} {c : Com} {F G : List ℕ} → Takes t F G → Chooses ρ e G → ChoosesCom ρ c F → ChoosesCom ρ (while e c) F

-- refusals 1 to 10 are not given
pub record EarlierPass (ds ns : List ℕ) (pool : ℕ) : Type 0 where
  pub node_words_lem : node_words (length ns) ≡ Passes
  pub declaration_words_lem : declaration_words (length ds) ≡ Passes
  pub pool_bit_lem : pool_bit pool ≡ Passes
  pub declarations_pass : declarations ds ≡ Passes
  pub rows_pass : rows ds ns ≡ Passes
  pub used_once_lem : used_once ns ≡ Passes
