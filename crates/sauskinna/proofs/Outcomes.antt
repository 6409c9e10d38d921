-- Each function's promise leaves room for one outcome: two results that meet it are equal, for the number returned, the answer and every word lent.
-- Assumes nothing.
use mathlib.Core.Path.{◌≡◌, ap, sym, ◌∙◌}
use mathlib.Core.List.{List}
use Prim.Native.Nat.{ℕ}
use lib.ListN.{length}
use Rattle.compiler.specs.Answer.{compiled, leaves}
use Rattle.listing.specs.Listing.{answered, leaves as text_left}
use Rattle.machine.specs.Entry.{state_of, step_entry, run_entry}
use Rattle.sauskinna.specs.Words.{compile_returned, compile_answered, list_returned, list_answered, Left, left, in_words, version}

-- l and m are the buffers left
pub one_sauskinna_compile : (ds ns : List ℕ) (pool : ℕ) (code : List ℕ) (r s : ℕ) (a b l m : List ℕ)
    → r ≡ compile_returned (compiled ds ns pool (length code)) → a ≡ compile_answered (compiled ds ns pool (length code)) → l ≡ leaves ds ns pool code
    → s ≡ compile_returned (compiled ds ns pool (length code)) → b ≡ compile_answered (compiled ds ns pool (length code)) → m ≡ leaves ds ns pool code
    → (r ≡ s) × (a ≡ b) × (l ≡ m)
one_sauskinna_compile ds ns pool code r s a b l m p q u v w x = (p ∙ sym v, q ∙ sym w, u ∙ sym x)

-- l and m are the texts left
pub one_sauskinna_listing : (code text : List ℕ) (r s : ℕ) (a b l m : List ℕ)
    → r ≡ list_returned (answered code (length text)) → a ≡ list_answered (answered code (length text)) → l ≡ text_left code text
    → s ≡ list_returned (answered code (length text)) → b ≡ list_answered (answered code (length text)) → m ≡ text_left code text
    → (r ≡ s) × (a ≡ b) × (l ≡ m)
one_sauskinna_listing code text r s a b l m p q u v w x = (p ∙ sym v, q ∙ sym w, u ∙ sym x)

-- two results of a step or a run: the numbers returned, the answers, places, registers and memories
module _ (r s : ℕ) (a b : List ℕ) (p q : ℕ) (g h m n : List ℕ) where
  abbrev Same : Type 0
  Same = (r ≡ s) × (a ≡ b) × (p ≡ q) × (g ≡ h) × (m ≡ n)

  same : left r a (state_of p g) m ≡ left s b (state_of q h) n → Same
  same e = (
    ap (λ (x : Left). x.number) e,
    ap (λ (x : Left). x.answer) e,
    ap (λ (x : Left). x.state.place) e,
    ap (λ (x : Left). x.state.registers) e,
    ap (λ (x : Left). x.memory) e,
  )

  module _ (code memory : List ℕ) (place : ℕ) (registers : List ℕ) where
    pub one_sauskinna_step : left r a (state_of p g) m ≡ in_words (step_entry code memory (state_of place registers))
        → left s b (state_of q h) n ≡ in_words (step_entry code memory (state_of place registers)) → Same
    one_sauskinna_step d e = same (d ∙ sym e)

    pub one_sauskinna_run : (budget : ℕ) → left r a (state_of p g) m ≡ in_words (run_entry code memory (state_of place registers) budget)
        → left s b (state_of q h) n ≡ in_words (run_entry code memory (state_of place registers) budget) → Same
    one_sauskinna_run budget d e = same (d ∙ sym e)

pub one_sauskinna_version : (r s : ℕ) → r ≡ version → s ≡ version → r ≡ s
one_sauskinna_version r s p q = p ∙ sym q
