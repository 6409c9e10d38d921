-- The promise of `compile` leaves room for one outcome: two results that meet it are equal, for the answer and every word of the buffer.
-- Assumes nothing.
use Rattle.std.proofs.Common.{◌≡◌, sym, ap, ◌∙◌, ℕ, List, length, Result}
use Rattle.std.specs.Prelude.{Ok, Err}
use Rattle.refusal.specs.declared.Refusal.{Refusal}
use Rattle.refusal.specs.Refusal.{number_of, value_of}
use Rattle.refusal.proofs.Outcomes.{one_refusal}
use Rattle.compiler.specs.declared.Accepted.{Accepted}
use Rattle.compiler.specs.Answer.{Said, accepted, refused, compile_said, compiled, leaves}

abbrev accepted_of : Said → Accepted
accepted_of (accepted n c k) = record { instructions = n; cells = c; need = k }
accepted_of (refused n v) = record { instructions = 0; cells = 0; need = 0 }

number_said : (r s : Refusal) → refused (number_of r) (value_of r) ≡ refused (number_of s) (value_of s) → number_of r ≡ number_of s
number_said r s e = cc

value_said : (r s : Refusal) → refused (number_of r) (value_of r) ≡ refused (number_of s) (value_of s) → value_of r ≡ value_of s
value_said r s e = cc

pub one_answer : (a b : Result Accepted Refusal) → compile_said a ≡ compile_said b → a ≡ b
one_answer (Ok a) (Ok b) e = ap (λ (x : Said). Ok (accepted_of x)) e
one_answer (Ok a) (Err s) e = cc
one_answer (Err r) (Ok b) e = cc
one_answer (Err r) (Err s) e = ap Err (one_refusal r s (number_said r s e) (value_said r s e))

-- l and m are the buffers left
pub one_compile : (ds ns : List ℕ) (pool : ℕ) (code : List ℕ) (a b : Result Accepted Refusal) (l m : List ℕ)
    → compile_said a ≡ compiled ds ns pool (length code) → l ≡ leaves ds ns pool code
    → compile_said b ≡ compiled ds ns pool (length code) → m ≡ leaves ds ns pool code → (a ≡ b) × (l ≡ m)
one_compile ds ns pool code a b l m p q r s = (one_answer a b (p ∙ sym r), q ∙ sym s)
