-- `print`: the room alone decides.
use mathlib.Core.Path.{sym, ap, ◌∙◌}
use native.Mathlib.Omega.{arith}
use Rattle.std.proofs.lemmas.Result.{err_from_is_err_and}
use Rattle.refusal.specs.Refusal.{Passes, Refuses}
use Rattle.listing.specs.Listing.{listed}
use Rattle.listing.proofs.Answers.{room_decides, room_enough}
use Rattle.listing.proofs.Marks.{few, listing_short, none_marked}
use Rattle.listing.proofs.print.Goals as goal

pub mark-requires : goal.mark-requires
mark-requires c = none_marked _

pub returns-in_err-check_room : goal.returns-in_err-check_room
returns-in_err-check_room c =
    let sound = c.args.code.now.sound in
    let a = room_decides c.args.code.now.words.now c.args.text.now sound.words sound.instructions (Refuses _ _) (sym c.in_err-check_room.ensures) in
    let p = err_from_is_err_and c.from_residual.result c.from_residual.ensures.1 in
    record { answer = rw (p.1, p.2) (sym a.said); text = sym a.left }

pub write-requires : goal.write-requires
write-requires c = room_enough _ _ (sym c.in_ok-check_room.ensures)

pub overflow_cast-result : goal.overflow_cast-result
overflow_cast-result c = let sound = c.args.code.now.sound in omega (arith, few sound, listing_short sound, c.write.ensures.length)

pub returns : goal.returns
returns c =
    let sound = c.args.code.now.sound in
    let a = room_decides c.args.code.now.words.now c.args.text.now sound.words sound.instructions Passes (sym c.in_ok-check_room.ensures) in
    record { answer = ap listed c.write.ensures.length ∙ sym a.said; text = c.write.ensures.text ∙ sym a.left }
