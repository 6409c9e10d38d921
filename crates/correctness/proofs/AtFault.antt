-- A fault in a part is the whole's, with the memory as the part left it: nothing is skipped and nothing is taken back.
-- Assumes nothing.
use mathlib.Core.Path.{◌≡◌, ◌∙◌, ap}
use mathlib.Core.List.{List}
use Prim.Native.Nat.{ℕ}
use Rattle.rule.specs.Tree.{Exp, binary, both, either, Com, sequence, Binding}
use Rattle.correctness.specs.Meaning.{Outcome, done, fault, M, bind, eval, exec}

module _ {A B : Type 0} (o : Outcome A) (k : A → M B) (m : List ℕ) (b : ℕ) where
  goes_on : (a : A) {x : Outcome B} → o ≡ done a m b → k a m b ≡ x → bind o k ≡ x
  goes_on a e f = ap (λ (y : Outcome A). bind y k) e ∙ f

  stops : (n : ℕ) → o ≡ fault n m b → bind o k ≡ fault n m b
  stops n e = ap (λ (y : Outcome A). bind y k) e

module _ (ρ : ℕ → Binding) (m m₁ m₂ : List ℕ) (b b₁ b₂ n : ℕ) where
  -- "and, or evaluate both": whatever the left operand is, the right one's fault does not go missing
  module _ (l r : Exp) (v : ℕ) (left : eval ρ l m b ≡ done v m₁ b₁) (right : eval ρ r m₁ b₁ ≡ fault n m₂ b₂) where
    pub and_faults : eval ρ (binary both l r) m b ≡ fault n m₂ b₂
    unfolding eval
    and_faults = goes_on _ _ m₁ b₁ v left (stops _ _ m₂ b₂ n right)

    pub or_faults : eval ρ (binary either l r) m b ≡ fault n m₂ b₂
    unfolding eval
    or_faults = goes_on _ _ m₁ b₁ v left (stops _ _ m₂ b₂ n right)

  -- what the first command stored stays
  pub sequence_faults : (c d : Com) → exec ρ c m b ≡ done tt m₁ b₁ → exec ρ d m₁ b₁ ≡ fault n m₂ b₂ → exec ρ (sequence c d) m b ≡ fault n m₂ b₂
  unfolding exec
  sequence_faults c d first second = goes_on _ _ m₁ b₁ tt first second
