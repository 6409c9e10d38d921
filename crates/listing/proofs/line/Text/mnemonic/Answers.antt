-- `mnemonic`: each arm is its operation's row of the table.
use Rattle.instruction.specs.Instruction.{operation_of, operations}
use Rattle.listing.proofs.line.Text.mnemonic.Goals as goal

pub put-requires : goal.put-requires
unfolding operation_of operations
put-requires c = record { fits = (rw c.in-Halt.is at c.requires).fits }

pub put-requires-in-Nop : goal.put-requires-in-Nop
unfolding operation_of operations
put-requires-in-Nop c = record { fits = (rw c.in-Nop.is at c.requires).fits }

pub put-requires-in-Add : goal.put-requires-in-Add
unfolding operation_of operations
put-requires-in-Add c = record { fits = (rw c.in-Add.is at c.requires).fits }

pub put-requires-in-Addi : goal.put-requires-in-Addi
unfolding operation_of operations
put-requires-in-Addi c = record { fits = (rw c.in-Addi.is at c.requires).fits }

pub put-requires-in-Sub : goal.put-requires-in-Sub
unfolding operation_of operations
put-requires-in-Sub c = record { fits = (rw c.in-Sub.is at c.requires).fits }

pub put-requires-in-Mul : goal.put-requires-in-Mul
unfolding operation_of operations
put-requires-in-Mul c = record { fits = (rw c.in-Mul.is at c.requires).fits }

pub put-requires-in-Load : goal.put-requires-in-Load
unfolding operation_of operations
put-requires-in-Load c = record { fits = (rw c.in-Load.is at c.requires).fits }

pub put-requires-in-Store : goal.put-requires-in-Store
unfolding operation_of operations
put-requires-in-Store c = record { fits = (rw c.in-Store.is at c.requires).fits }

pub put-requires-in-Jmp : goal.put-requires-in-Jmp
unfolding operation_of operations
put-requires-in-Jmp c = record { fits = (rw c.in-Jmp.is at c.requires).fits }

pub put-requires-in-Bne : goal.put-requires-in-Bne
unfolding operation_of operations
put-requires-in-Bne c = record { fits = (rw c.in-Bne.is at c.requires).fits }

pub put-requires-in-Beq : goal.put-requires-in-Beq
unfolding operation_of operations
put-requires-in-Beq c = record { fits = (rw c.in-Beq.is at c.requires).fits }

pub put-requires-in-Slt : goal.put-requires-in-Slt
unfolding operation_of operations
put-requires-in-Slt c = record { fits = (rw c.in-Slt.is at c.requires).fits }

pub returns-in-Halt : goal.returns-in-Halt
unfolding operation_of operations
returns-in-Halt c = rw c.in-Halt.is c.put.ensures

pub returns-in-Nop : goal.returns-in-Nop
unfolding operation_of operations
returns-in-Nop c = rw c.in-Nop.is c.put-in-Nop.ensures

pub returns-in-Add : goal.returns-in-Add
unfolding operation_of operations
returns-in-Add c = rw c.in-Add.is c.put-in-Add.ensures

pub returns-in-Addi : goal.returns-in-Addi
unfolding operation_of operations
returns-in-Addi c = rw c.in-Addi.is c.put-in-Addi.ensures

pub returns-in-Sub : goal.returns-in-Sub
unfolding operation_of operations
returns-in-Sub c = rw c.in-Sub.is c.put-in-Sub.ensures

pub returns-in-Mul : goal.returns-in-Mul
unfolding operation_of operations
returns-in-Mul c = rw c.in-Mul.is c.put-in-Mul.ensures

pub returns-in-Load : goal.returns-in-Load
unfolding operation_of operations
returns-in-Load c = rw c.in-Load.is c.put-in-Load.ensures

pub returns-in-Store : goal.returns-in-Store
unfolding operation_of operations
returns-in-Store c = rw c.in-Store.is c.put-in-Store.ensures

pub returns-in-Jmp : goal.returns-in-Jmp
unfolding operation_of operations
returns-in-Jmp c = rw c.in-Jmp.is c.put-in-Jmp.ensures

pub returns-in-Bne : goal.returns-in-Bne
unfolding operation_of operations
returns-in-Bne c = rw c.in-Bne.is c.put-in-Bne.ensures

pub returns-in-Beq : goal.returns-in-Beq
unfolding operation_of operations
returns-in-Beq c = rw c.in-Beq.is c.put-in-Beq.ensures

pub returns-in-Slt : goal.returns-in-Slt
unfolding operation_of operations
returns-in-Slt c = rw c.in-Slt.is c.put-in-Slt.ensures
