-- `write`: at each turn the lines below are written.
use mathlib.Core.Path.{◌≡◌, refl, sym, ap, ◌∙◌}
use Prim.Native.Nat.{◌+◌}
use native.Mathlib.Omega.{arith}
use lib.ListN.{length, length-append}
use Rattle.std.proofs.Common.{rules}
use Rattle.refusal.specs.Refusal.{laid_over}
use Rattle.instruction.specs.Instruction.{count_of}
use Rattle.listing.specs.Listing.{line, lines, listing}
use Rattle.listing.proofs.Lines.{lines_next, lines_grow}
use Rattle.listing.proofs.Writing.{wrote_none, wrote_as, wrote_then, room_as, laid_front}
use Rattle.listing.proofs.Listing.write.Goals as goal

pub lines-init : goal.lines-init
unfolding lines
lines-init c = wrote_none _

pub line-requires-in-lines : goal.line-requires-in-lines
line-requires-in-lines c =
    let turn = c.lines in
    let code = c.args.self.now.code.now.words.now in
    let e = ap length (lines_next code turn.place) ∙ length-append (lines code turn.place) (line code turn.place) in
    let g = lines_grow code (turn.place + 1) (count_of code) (omega arith) in
    room_as (sym c.line.ensures) (record { fits = omega (arith, turn.invariant.next, turn.invariant.size, c.requires) })

pub lines-preserved : goal.lines-preserved
lines-preserved c =
    wrote_as (wrote_then c.lines.invariant (wrote_as c.line-in-lines.ensures c.line.ensures)) (sym (lines_next c.args.self.now.code.now.words.now c.lines.place))

pub returns-clause-text : goal.returns-clause-text
returns-clause-text c =
    let code = c.args.self.now.code.now.words.now in
    let e : c.lines.place ≡ count_of code = omega arith in
    let l : c.lines.written.bytes.now ≡ laid_over (listing code) c.args.text.now = laid_front (listing code) refl c.requires (wrote_as c.lines.invariant (ap (lines code) e)) in
    search rules
