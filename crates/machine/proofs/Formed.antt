-- Which words of an instruction are registers, by how they are written.
-- Assumes nothing.
use Rattle.std.proofs.Common.{◌≡◌, true, ◌∙◌, sym, ap}
use Rattle.instruction.specs.declared.Instruction.{Instruction}
use Rattle.instruction.specs.Instruction.{Operands, fits, formed}
use Rattle.instruction.proofs.Forms.{registers_below}
use Rattle.machine.specs.Inside.{operands, ThreeRegisters, NumberBetween, TwoRegisters, Register}

module _ (i : Instruction) where
  -- the words fit as they are written
  written : (o : Operands) → operands i ≡ o → fits o i.a i.b i.c ≡ true
  unfolding formed
  written o e = ap (λ (x : Operands). fits x i.a i.b i.c) (sym e) ∙ i.formed

  pub three_registers : ThreeRegisters i → Register i.a × Register i.b × Register i.c
  three_registers e = registers_below i.a i.b i.c (written _ e)

  pub number_between : NumberBetween i → Register i.a × Register i.c
  number_between e = let h = registers_below i.a 0 i.c (written _ e) in (h.0, h.2)

  pub two_registers : TwoRegisters i → Register i.a × Register i.b
  two_registers e = let h = registers_below i.a i.b 0 (written _ e) in (h.0, h.1)
