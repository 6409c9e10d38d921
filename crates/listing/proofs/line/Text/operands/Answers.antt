-- `operands`: each arm writes its form's words, one after another, and nothing after the last.
use Rattle.listing.proofs.Writing.{wrote_none, wrote_then}
use Rattle.listing.proofs.line.Text.operands.Goals as goal

pub returns-in-Registers : goal.returns-in-Registers
returns-in-Registers c =
    let third = wrote_then c.register-in-Registers-2.ensures (wrote_none _) in
    rw (← c.in-Registers.ensures) (wrote_then c.register.ensures (wrote_then c.register-in-Registers.ensures third))

pub returns-in-Immediate : goal.returns-in-Immediate
returns-in-Immediate c =
    let third = wrote_then c.register-in-Immediate-2.ensures (wrote_none _) in
    rw (← c.in-Immediate.ensures) (wrote_then c.register-in-Immediate.ensures (wrote_then c.put.ensures (wrote_then c.number.ensures third)))

pub returns-in-Load : goal.returns-in-Load
returns-in-Load c = rw (← c.in-Load.ensures) (wrote_then c.register-in-Load.ensures (wrote_then c.address.ensures (wrote_none _)))

pub returns-in-Store : goal.returns-in-Store
returns-in-Store c = rw (← c.in-Store.ensures) (wrote_then c.address-in-Store.ensures (wrote_then c.register-in-Store.ensures (wrote_none _)))

pub returns-in-Branch : goal.returns-in-Branch
returns-in-Branch c =
    let third = wrote_then c.target-in-Branch.ensures (wrote_none _) in
    rw (← c.in-Branch.ensures) (wrote_then c.register-in-Branch.ensures (wrote_then c.register-in-Branch-2.ensures third))
