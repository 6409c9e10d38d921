-- The choice of registers for two operands: what the left operand's register and pool are, and all that the proofs ask of them.
-- Assumes nothing.
use mathlib.Core.Path.{◌≡◌, sym}
use mathlib.Core.List.{List, [], ◌∷◌}
use Prim.Native.Nat.{ℕ, suc, ◌≤◌}
use native.Mathlib.Omega.{arith}
use lib.ListN.{length}
use Rattle.rule.specs.Tree.{Op, plus, minus, times, less, equal, both, either}
use Rattle.compiler.specs.Compile.{left_target, left_pool}
use Rattle.correctness.proofs.Frame.{Pool, Within}

-- and, or and not write the target before they read
abbrev pub Apart : Op → ℕ → ℕ → ℕ → Type 0
Apart plus r t u = Unit {0}
Apart minus r t u = Unit {0}
Apart times r t u = Unit {0}
Apart less r t u = Unit {0}
Apart equal r t u = Unit {0}
Apart both r t u = ((t ≡ r) → ⊥) × ((u ≡ r) → ⊥)
Apart either r t u = ((t ≡ r) → ⊥) × ((u ≡ r) → ⊥)

apart_fresh : (op : Op) (r t u : ℕ) → ((t ≡ r) → ⊥) → ((u ≡ r) → ⊥) → Apart op r t u
apart_fresh plus r t u f g = tt
apart_fresh minus r t u f g = tt
apart_fresh times r t u f g = tt
apart_fresh less r t u f g = tt
apart_fresh equal r t u f g = tt
apart_fresh both r t u f g = (f, g)
apart_fresh either r t u f g = (f, g)

-- for the target r and the pool F, the left operand goes to t with the pool u ∷ G, in which k registers are left; the right operand goes to u
pub data Chosen (k r : ℕ) (F : List ℕ) : ℕ → List ℕ → Type 0 where
  chosen : {t u : ℕ} {G : List ℕ} → Pool (t ∷ u ∷ G) → Within (t ∷ u ∷ G) (r ∷ F) → k ≤ suc (length G) → ((op : Op) → Apart op r t u)
      → Chosen k r F t (u ∷ G)

pub left_chosen : (k r : ℕ) (F : List ℕ) → suc k ≤ length F → 1 ≤ k → Pool (r ∷ F) → Chosen k r F (left_target r F) (left_pool F)
left_chosen k r [] n o g = absurd (omega arith)
left_chosen k r (t ∷ []) n o g = absurd (omega arith)
left_chosen k r (t ∷ u ∷ G) n o g =
    chosen {G = G} g.3 (λ j h. h.1) (omega arith) (λ op. apart_fresh op r t u (λ d. g.2.0 (sym d)) (λ d. g.2.1.0 (sym d)))
