-- The lines of a code: what four words are, and that more lines are longer.
-- Assumes nothing.
use mathlib.Core.Path.{◌≡◌, refl, sym, ap, ◌∙◌}
use mathlib.Core.Logic.{⊎_elim}
use mathlib.Core.Bool.{Bool, true, false, cond, true≢false}
use mathlib.Core.List.{List, ◌++◌}
use Prim.Native.Nat.{ℕ, zero, suc, ◌+◌, ◌*◌, ◌<◌, ◌≤◌}
use native.Mathlib.Nat.{eq-or-lt_of_le}
use native.Mathlib.Omega.{arith}
use lib.ListN.{length, get_or, length-append}
use borrow.Author.Tests.{lt-ltb}
use Rattle.std.specs.Prelude.{Result, Ok, Err, IsOk}
use Rattle.instruction.specs.declared.Operation.{Operation}
use Rattle.instruction.specs.declared.UnknownOperation.{UnknownOperation}
use Rattle.instruction.specs.Instruction.{ins, found, unknown, formed, fits, operands_of, form_of, Operation as Row, Numbered, decode, fetch, count_of}
use Rattle.instruction.proofs.Forms.{no_operation}
use Rattle.listing.specs.Listing.{sound, line, lines}

-- the words at a place of the code are what is fetched from it
pub fetch_words : (code : List ℕ) (p : ℕ) → p < count_of code
    → decode (get_or code (p * 4) 0) (get_or code (p * 4 + 1) 0) (get_or code (p * 4 + 2) 0) (get_or code (p * 4 + 3) 0) ≡ fetch code p
unfolding fetch
fetch_words code p h = rw (lt-ltb p (count_of code) h)

-- four words that are sound are a formed instruction
pub sound_formed : (n o a b c : ℕ) → sound n (decode o a b c) ≡ true → formed (ins o a b c) ≡ true
unfolding decode
sound_formed n o a b c s = go (formed (ins o a b c)) s
  where
    go : (t : Bool) → sound n (cond t (found (ins o a b c)) unknown) ≡ true → t ≡ true
    go true e = refl
    go false e = e

-- so the first of them is an operation's number
pub an_operation : (n a b c : ℕ) (r : Result Operation UnknownOperation) → Numbered n r → formed (ins n a b c) ≡ true → IsOk r
unfolding formed
an_operation n a b c (Ok o) e f = refl
an_operation n a b c (Err u) e f = absurd (true≢false (sym f ∙ ap (λ (x : Row). fits (operands_of (form_of x)) a b c) (no_operation n (omega arith))))

pub lines_next : (code : List ℕ) (p : ℕ) → lines code (p + 1) ≡ lines code p ++ line code p
unfolding lines
lines_next code p = let e : p + 1 ≡ suc p = omega arith in rw e

-- more lines are longer
pub lines_grow : (code : List ℕ) (p n : ℕ) → p ≤ n → length (lines code p) ≤ length (lines code n)
unfolding lines
lines_grow code p zero h = let e : p ≡ 0 = omega arith in rw e (omega arith)
lines_grow code p (suc n) h = ⊎_elim same (λ l. let g = lines_grow code p n (omega arith) in let e = length-append (lines code n) (line code n) in omega arith) (eq-or-lt_of_le h)
  where
    same : p ≡ suc n → length (lines code p) ≤ length (lines code (suc n))
    same e = rw e (omega arith)
