-- The promise of `list` leaves room for one outcome: two results that meet it are equal, for the answer and every byte of the text.
-- Assumes nothing.
use mathlib.Core.Path.{◌≡◌, ap, sym, ◌∙◌}
use mathlib.Core.List.{List}
use Prim.Native.Nat.{ℕ}
use lib.ListN.{length}
use Rattle.std.specs.Prelude.{Result, Ok, Err}
use Rattle.refusal.specs.declared.Refusal.{Refusal}
use Rattle.refusal.specs.Refusal.{number_of, value_of}
use Rattle.refusal.proofs.Outcomes.{one_refusal}
use Rattle.listing.specs.Listing.{list_said, answered, leaves}

-- an answer is known by what it says
one_said : (r s : Result ℕ Refusal) → list_said r ≡ list_said s → r ≡ s
one_said (Ok n) (Ok m) e = cc
one_said (Ok n) (Err s) e = cc
one_said (Err r) (Ok m) e = cc
one_said (Err r) (Err s) e =
    let n : number_of r ≡ number_of s = cc in
    let v : value_of r ≡ value_of s = cc in
    ap Err (one_refusal r s n v)

-- l and m are the texts left
pub one_list : (code text : List ℕ) (r s : Result ℕ Refusal) (l m : List ℕ)
    → list_said r ≡ answered code (length text) → l ≡ leaves code text → list_said s ≡ answered code (length text) → m ≡ leaves code text
    → (r ≡ s) × (l ≡ m)
one_list code text r s l m p q u v = (one_said r s (p ∙ sym u), q ∙ sym v)
