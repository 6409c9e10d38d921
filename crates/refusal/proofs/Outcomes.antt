-- The number and what is returned with it leave one refusal, and a verdict one answer of a check.
-- Assumes nothing.
use Rattle.std.proofs.Common.{◌≡◌, ℕ, refl, sym, ap, ◌∙◌, Result}
use Rattle.std.specs.Prelude.{Ok, Err, ⊤, List, [], ◌∷◌, get_or}
use Rattle.refusal.specs.declared.Refusal.{Refusal}
use Rattle.refusal.specs.declared.Refusal.TheVariants as R
use Rattle.refusal.specs.Refusal.{Verdict, Passes, Refuses, number_of, value_of, verdict_of}

-- the refusals in the order of their numbers, from 0 on; a number that is none is read as 22
abbrev refusals : List (ℕ → Refusal)
refusals =
    R.TextRoom
    ∷ (λ v. R.NodeWords)
    ∷ (λ v. R.DeclarationWords)
    ∷ (λ v. R.Pool)
    ∷ R.Declaration
    ∷ R.Cells
    ∷ R.Word
    ∷ R.Sort
    ∷ R.Name
    ∷ R.NamedKind
    ∷ R.Uses
    ∷ R.Registers
    ∷ R.Room
    ∷ (λ v. R.CodeWords)
    ∷ (λ v. R.MemoryCells)
    ∷ R.TextRoom
    ∷ R.TextRoom
    ∷ R.TextRoom
    ∷ R.TextRoom
    ∷ R.TextRoom
    ∷ R.TextRoom
    ∷ R.Instruction
    ∷ []

-- the refusal of a number, and of what is returned with it
abbrev refusal_of : ℕ → ℕ → Refusal
refusal_of n = get_or refusals n R.TextRoom

pub refusal_back : (r : Refusal) → refusal_of (number_of r) (value_of r) ≡ r
refusal_back R.NodeWords = refl
refusal_back R.DeclarationWords = refl
refusal_back R.Pool = refl
refusal_back (R.Declaration row) = refl
refusal_back (R.Cells row) = refl
refusal_back (R.Word row) = refl
refusal_back (R.Sort row) = refl
refusal_back (R.Name row) = refl
refusal_back (R.NamedKind row) = refl
refusal_back (R.Uses row) = refl
refusal_back (R.Registers need) = refl
refusal_back (R.Room instructions) = refl
refusal_back R.CodeWords = refl
refusal_back R.MemoryCells = refl
refusal_back (R.Instruction place) = refl
refusal_back (R.TextRoom needed) = refl

pub one_refusal : (r s : Refusal) → number_of r ≡ number_of s → value_of r ≡ value_of s → r ≡ s
one_refusal r s p q = sym (refusal_back r) ∙ ap (λ (n : ℕ). refusal_of n (value_of r)) p ∙ ap (refusal_of (number_of s)) q ∙ refusal_back s

pub one_refusal_number : (r : Refusal) (m n : ℕ) → m ≡ number_of r → n ≡ number_of r → m ≡ n
one_refusal_number r m n p q = p ∙ sym q

pub one_refusal_value : (r : Refusal) (m n : ℕ) → m ≡ value_of r → n ≡ value_of r → m ≡ n
one_refusal_value r m n p q = p ∙ sym q

-- the answer of a check, of a verdict
abbrev check_of : Verdict → Result ⊤ Refusal
check_of Passes = Ok tt
check_of (Refuses n v) = Err (refusal_of n v)

check_back : (a : Result ⊤ Refusal) → check_of (verdict_of a) ≡ a
check_back (Ok x) = refl
check_back (Err r) = ap Err (refusal_back r)

pub one_check : (a b : Result ⊤ Refusal) → verdict_of a ≡ verdict_of b → a ≡ b
one_check a b e = sym (check_back a) ∙ ap check_of e ∙ check_back b
