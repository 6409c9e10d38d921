-- Assembled code: each formed instruction is fetched from its place, and nothing else is from any.
-- Assumes nothing.
use mathlib.Core.Path.{◌≡◌, ◌∙◌, ap}
use mathlib.Core.Bool.{Bool, true, false, cond}
use mathlib.Core.List.{List, [], ◌∷◌, ◌++◌}
use Prim.Native.Nat.{ℕ, zero, suc, ◌+◌, ◌*◌, ◌/◌, ◌<◌}
use native.Mathlib.Omega.{arith}
use lib.Dec.{ltb}
use lib.ListN.{length}
use borrow.Author.Tests.{lt-ltb, le-ltb}
use Rattle.word.proofs.Biased.{ltb_same}
use Rattle.instruction.specs.Instruction.{Instruction, ins, outside, unknown, found, formed, decode, encode, assemble, fetch}
use Rattle.instruction.proofs.Forms.{decode_back}
use Rattle.machine.proofs.Spared.{IfFound}
use Rattle.correctness.proofs.Places.{At}

abbrev pub Each : (Instruction → Type 0) → List Instruction → Type 0
Each P [] = Unit {0}
Each P (i ∷ is) = P i × Each P is

pub each_append : (P : Instruction → Type 0) (xs ys : List Instruction) → Each P xs → Each P ys → Each P (xs ++ ys)
each_append P [] ys h k = k
each_append P (x ∷ xs) ys h k = (h.0, each_append P xs ys h.1 k)

abbrev pub AllFormed : List Instruction → Type 0
AllFormed = Each (λ i. formed i ≡ true)

pub append_formed : (xs ys : List Instruction) → AllFormed xs → AllFormed ys → AllFormed (xs ++ ys)
append_formed = each_append (λ i. formed i ≡ true)

-- the first instruction's words, and those after them
module _ (o a b c : ℕ) (ws : List ℕ) where
  fetch_first : formed (ins o a b c) ≡ true → fetch (o ∷ a ∷ b ∷ c ∷ ws) 0 ≡ found (ins o a b c)
  unfolding fetch
  fetch_first e =
      let h : 0 < length (o ∷ a ∷ b ∷ c ∷ ws) / 4 = omega arith in
      ap (λ (t : Bool). cond t (decode o a b c) outside) (lt-ltb 0 (length (o ∷ a ∷ b ∷ c ∷ ws) / 4) h) ∙ decode_back o a b c e

  fetch_next : (p : ℕ) → fetch (o ∷ a ∷ b ∷ c ∷ ws) (suc p) ≡ fetch ws p
  unfolding fetch
  fetch_next p =
      let e : suc p * 4 ≡ suc (suc (suc (suc (p * 4)))) = omega arith in
      let e₁ : suc p * 4 + 1 ≡ suc (suc (suc (suc (p * 4 + 1)))) = omega arith in
      let e₂ : suc p * 4 + 2 ≡ suc (suc (suc (suc (p * 4 + 2)))) = omega arith in
      let e₃ : suc p * 4 + 3 ≡ suc (suc (suc (suc (p * 4 + 3)))) = omega arith in
      let t : ltb (suc p) (length (o ∷ a ∷ b ∷ c ∷ ws) / 4) ≡ ltb p (length ws / 4)
      = ltb_same (suc p) (length (o ∷ a ∷ b ∷ c ∷ ws) / 4) p (length ws / 4) (omega arith) (omega arith) in
      rw (t, e₁, e₂, e₃, e)

-- what holds of each instruction holds of what is fetched, from every place
pub fetch_each : (P : Instruction → Type 0) (is : List Instruction) → Each P is → (p : ℕ) → IfFound P (fetch (assemble is) p)
unfolding assemble encode fetch decode
fetch_each P [] h p = rw (le-ltb p 0 (omega arith)) tt
fetch_each P (ins o a b c ∷ is) h zero = go (ltb 0 (length (o ∷ a ∷ b ∷ c ∷ assemble is) / 4)) (formed (ins o a b c))
  where
    go : (t f : Bool) → IfFound P (cond t (cond f (found (ins o a b c)) unknown) outside)
    go true true = h.0
    go true false = tt
    go false f = tt
fetch_each P (ins o a b c ∷ is) h (suc p) = rw (fetch_next o a b c (assemble is) p) (fetch_each P is h.1 p)

-- ys is what is left of xs at p
at_rest : (xs ys : List Instruction) (p : ℕ) → ((k : ℕ) → fetch (assemble xs) (p + k) ≡ fetch (assemble ys) k) → AllFormed ys → At (assemble xs) p ys
unfolding assemble encode
at_rest xs [] p h s = tt
at_rest xs (ins o a b c ∷ is) p h s =
    let z : p ≡ p + 0 = omega arith in
    (ap (fetch (assemble xs)) z ∙ h 0 ∙ fetch_first o a b c (assemble is) s.0, at_rest xs is (suc p) rest s.1)
  where
    rest : (k : ℕ) → fetch (assemble xs) (suc p + k) ≡ fetch (assemble is) k
    rest k =
        let z : suc p + k ≡ p + suc k = omega arith in
        ap (fetch (assemble xs)) z ∙ h (suc k) ∙ fetch_next o a b c (assemble is) k

pub at_assemble : (is : List Instruction) → AllFormed is → At (assemble is) 0 is
at_assemble is s = at_rest is is 0 (λ k. let z : 0 + k ≡ k = omega arith in ap (fetch (assemble is)) z) s
