-- Registers: what it is to change none outside a list, what `set` does, and what a pool is.
-- Assumes nothing.
use mathlib.Core.Path.{◌≡◌, refl, ◌∙◌, ap}
use mathlib.Core.Bool.{cond}
use mathlib.Core.List.{List, [], ◌∷◌}
use Prim.Native.Nat.{ℕ, ◌<◌}
use native.Mathlib.Omega.{arith}
use lib.Dec.{eqb}
use lib.ListN.{length, get_or, set, length-set}
use lib.Seq.{get_or-set_same, get_or-set_other}
use borrow.Author.Tests.{ne_eqb}
use Rattle.machine.specs.Step.{read_of}
use Rattle.correctness.specs.Demand3.{Free}

-- a pool: registers $1 to $63, each once
abbrev pub Pool : List ℕ → Type 0
Pool [] = Unit {0}
Pool (t ∷ F) = (0 < t) × (t < 64) × Free t F × Pool F

-- S is R but for the registers F. $0's place counts like any other
pub record Keep (F R S : List ℕ) : Type 0 where
  pub size : length S ≡ length R
  pub same : (k : ℕ) → Free k F → get_or S k 0 ≡ get_or R k 0

pub keep_refl : (F R : List ℕ) → Keep F R R
keep_refl F R = record { size = refl; same = λ k h. refl }

pub keep_trans : {F R S T : List ℕ} → Keep F R S → Keep F S T → Keep F R T
keep_trans c d = record { size = d.size ∙ c.size; same = λ k h. d.same k h ∙ c.same k h }

-- F lies in G
abbrev pub Within : List ℕ → List ℕ → Type 0
Within F G = (k : ℕ) → Free k G → Free k F

pub widen : {F G R S : List ℕ} → Within F G → Keep F R S → Keep G R S
widen w c = record { size = c.size; same = λ k h. c.same k (w k h) }

pub keep_set : (F R : List ℕ) (t v : ℕ) → Keep (t ∷ F) R (set R t v)
keep_set F R t v = record { size = length-set R t v; same = λ k h. get_or-set_other R t k v 0 h.0 }

-- a register's reading is kept where its place is
pub keep_read : {F R S : List ℕ} → Keep F R S → (k : ℕ) → Free k F → read_of S k ≡ read_of R k
unfolding read_of
keep_read c k h = ap (λ (v : ℕ). cond (eqb k 0) 0 v) (c.same k h)

pub read_set : (R : List ℕ) (t v : ℕ) → length R ≡ 64 → 0 < t → t < 64 → read_of (set R t v) t ≡ v
unfolding read_of
read_set R t v l h k = rw (ne_eqb t 0 (omega arith)) (get_or-set_same R t v 0 (omega arith))
