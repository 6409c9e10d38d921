-- `check_instructions`: at each turn the instructions below are sound.
use mathlib.Core.Path.{sym, ap, ◌∙◌}
use mathlib.Core.Bool.{not}
use native.Mathlib.Omega.{arith}
use lib.ListN.{length}
use Rattle.refusal.proofs.Scans.{scan_start, scan_hit, scan_miss, scan_end}
use Rattle.instruction.specs.Instruction.{count_of}
use Rattle.instruction.proofs.Forms.{taken_words}
use Rattle.listing.specs.Listing.{sound, instructions}
use Rattle.listing.proofs.code.check_instructions.Invariants.{bad}
use Rattle.listing.proofs.code.check_instructions.Goals as goal

pub instructions-init : goal.instructions-init
unfolding instructions
instructions-init c = let code = c.args.words.now in scan_start (λ j. 21) (bad code) (count_of code)

pub overflow_cast-result : goal.overflow_cast-result
overflow_cast-result c = omega (arith, taken_words (length c.args.words.now) c.requires)

pub returns-then-not-sound : goal.returns-then-not-sound
returns-then-not-sound c =
    let code = c.args.words.now in
    let e = ap (sound (count_of code)) (sym (c.decode.ensures ∙ c.words_at-op.ensures)) ∙ sym c.sound.ensures ∙ c.if-not-sound.true in
    sym (c.instructions.invariant ∙ scan_hit (λ j. 21) (bad code) (count_of code) c.instructions.place c.instructions-test.true (ap not e))

pub instructions-preserved : goal.instructions-preserved
instructions-preserved c =
    let code = c.args.words.now in
    let e = ap (sound (count_of code)) (sym (c.decode.ensures ∙ c.words_at-op.ensures)) ∙ sym c.sound.ensures ∙ c.if-not-sound.false in
    c.instructions.invariant ∙ scan_miss (λ j. 21) (bad code) (count_of code) c.instructions.place c.instructions-test.true (ap not e)

pub returns : goal.returns
returns c =
    let code = c.args.words.now in
    sym (c.instructions.invariant ∙ scan_end (λ j. 21) (bad code) (count_of code) c.instructions.place c.instructions-test.false)
