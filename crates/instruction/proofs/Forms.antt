-- Laws of the forms: what a formed instruction's words are, and that no operation has a number from 12 on.
-- Assumes nothing.
use mathlib.Core.Path.{◌≡◌, refl, sym, ap}
use mathlib.Core.Bool.{Bool, true, false, cond, ◌&&◌, true≢false}
use Prim.Native.Nat.{ℕ, zero, suc, ◌%◌, ◌<◌, ◌≤◌}
use native.Mathlib.Omega.{arith}
use lib.Dec.{eqb, ltb, leb}
use lib.ListN.{get_or-eq_default}
use Rattle.instruction.specs.declared.Form.TheVariants.{Unknown}
use borrow.Author.Tests.{eqb-true, ltb-true, leb-true, eq-eqb, le-leb}
use Rattle.instruction.specs.Instruction.{register, operation, operations, operation_of, is_of, ins, formed, found, unknown, decode, taken}

pub and_true : (s t : Bool) → s && t ≡ true → (s ≡ true) × (t ≡ true)
and_true true t e = (refl, e)
and_true false t e = absurd (true≢false (sym e))

-- a number that is none of those below k, said last of k - 1, is at least k
abbrev pub Others : Type 0 → ℕ → ℕ → Type 0
Others X zero o = X
Others X (suc k) o = Others X k o × (o ≡ k → ⊥)

pub others : (X : Type 0) (k o : ℕ) → Others X k o → k ≤ o
others X zero o h = omega arith
others X (suc k) o h = above (others X k o h.0) h.1
  where
    above : k ≤ o → (o ≡ k → ⊥) → suc k ≤ o
    above l n = omega arith

pub no_operation : (o : ℕ) → 12 ≤ o → operation_of o ≡ operation "" Unknown
unfolding operation_of operations
no_operation o h = get_or-eq_default operations (operation "" Unknown) h

-- registers that passed the test
module _ (a b c : ℕ) where
  pub registers_below : is_of register a && (is_of register b && is_of register c) ≡ true → (a < 64) × (b < 64) × (c < 64)
  registers_below e =
      let h = and_true (ltb a 64) (ltb b 64 && ltb c 64) e in
      let k = and_true (ltb b 64) (ltb c 64) h.1 in
      (ltb-true a 64 h.0, ltb-true b 64 k.0, ltb-true c 64 k.1)

-- decoding the words of a formed instruction gives it back
pub decode_back : (o a b c : ℕ) → formed (ins o a b c) ≡ true → decode o a b c ≡ found (ins o a b c)
unfolding decode
decode_back o a b c e = ap (λ (t : Bool). cond t (found (ins o a b c)) unknown) e

pub decode_none : (o a b c : ℕ) → formed (ins o a b c) ≡ false → decode o a b c ≡ unknown
unfolding decode
decode_none o a b c e = ap (λ (t : Bool). cond t (found (ins o a b c)) unknown) e

-- what the words of a code that is taken are, and that such numbers are taken
pub taken_words : (w : ℕ) → taken w ≡ true → (w % 4 ≡ 0) × (w ≤ 262144)
unfolding taken
taken_words w e = let h = and_true (eqb (w % 4) 0) (leb w 262144) e in (eqb-true (w % 4) 0 h.0, leb-true w 262144 h.1)

pub words_taken : (w : ℕ) → w % 4 ≡ 0 → w ≤ 262144 → taken w ≡ true
unfolding taken
words_taken w e h = rw (eq-eqb (w % 4) 0 e, le-leb w 262144 h)
