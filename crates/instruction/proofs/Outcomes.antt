-- Each function's promise leaves room for one outcome: two answers that meet it are equal.
-- Assumes nothing.
use mathlib.Core.Path.{◌≡◌, refl, sym, ap, ◌∙◌}
use mathlib.Core.Bool.{Bool, true}
use mathlib.Core.HLevel.{is_prop→PathP}
use Prim.Native.Nat.{ℕ}
use native.Mathlib.Omega.{arith}
use Rattle.std.proofs.Math.Bool.{Bool-set}
use Rattle.std.specs.Prelude.{Option, Some, None, Result}
use Rattle.instruction.specs.declared.Form.{Form}
use Rattle.instruction.specs.declared.Operation.{Operation as Coded}
use Rattle.instruction.specs.declared.UnknownOperation.{UnknownOperation}
use Rattle.instruction.specs.declared.Instruction.{Instruction as Decoded}
use Rattle.instruction.specs.Instruction.{operation_number, Numbered, operation_of, form_of, ins, formed, decode, taken}
use Rattle.instruction.specs.Decoded.{fetched_of}

pub one_formed : (op a b c : ℕ) (r s : Bool) → r ≡ formed (ins op a b c) → s ≡ formed (ins op a b c) → r ≡ s
one_formed op a b c r s p q = p ∙ sym q

pub one_form_of : (op : ℕ) (r s : Form) → r ≡ form_of (operation_of op) → s ≡ form_of (operation_of op) → r ≡ s
one_form_of op r s p q = p ∙ sym q

pub one_taken : (words : ℕ) (r s : Bool) → r ≡ taken words → s ≡ taken words → r ≡ s
one_taken words r s p q = p ∙ sym q

pub one_form : (o : Coded) (r s : Form) → r ≡ form_of (operation_of (operation_number o)) → s ≡ form_of (operation_of (operation_number o)) → r ≡ s
one_form o r s p q = p ∙ sym q

pub one_takes : (o : Coded) (a b c : ℕ) (r s : Bool) → r ≡ formed (ins (operation_number o) a b c) → s ≡ formed (ins (operation_number o) a b c) → r ≡ s
one_takes o a b c r s p q = p ∙ sym q

-- an operation is known by its number
pub same_operation : (o p : Coded) → operation_number o ≡ operation_number p → o ≡ p
same_operation o p e = grind arith

-- an instruction is known by its operation and its three words
pub same_instruction : (i j : Decoded) → i.operation ≡ j.operation → i.a ≡ j.a → i.b ≡ j.b → i.c ≡ j.c → i ≡ j
same_instruction i j o a b c = λ t. record {
  operation = o t;
  a = a t;
  b = b t;
  c = c t;
  formed = is_prop→PathP (λ u. formed (ins (operation_number (o u)) (a u) (b u) (c u)) ≡ true) (λ u. Bool-set (formed (ins (operation_number (o u)) (a u) (b u) (c u))) true) i.formed j.formed t;
}

pub one_number : (o : Coded) (r s : ℕ) → r ≡ operation_number o → s ≡ operation_number o → r ≡ s
one_number o r s p q = p ∙ sym q

pub one_operation : (n : ℕ) (r s : Result Coded UnknownOperation) → Numbered n r → Numbered n s → r ≡ s
one_operation n r s p q = grind (arith, same_operation)

pub one_decoded : (op a b c : ℕ) (r s : Option Decoded) → fetched_of r ≡ decode op a b c → fetched_of s ≡ decode op a b c → r ≡ s
one_decoded op a b c r s p q = same r s (p ∙ sym q)
  where
    same : (r s : Option Decoded) → fetched_of r ≡ fetched_of s → r ≡ s
    same None None e = refl
    same None (Some j) e = grind arith
    same (Some i) None e = grind arith
    same (Some i) (Some j) e = ap Some (same_instruction i j (same_operation i.operation j.operation (cc)) (cc) (cc) (cc))
