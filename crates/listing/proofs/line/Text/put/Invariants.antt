-- `put`: at each turn what is left of the bytes, laid over the text as it stands, gives the whole.
use mathlib.Core.Path.{◌≡◌}
use Prim.Native.Nat.{◌+◌}
use lib.ListN.{length, drop}
use lib.Seq.{sets}
use Rattle.listing.proofs.line.Text.put.Given as goal

abbrev pub invariant-bytes : goal.invariant-bytes
invariant-bytes l = (sets l.text (l.at + l.i) (drop l.i l.bytes) ≡ sets l.initial.text l.at l.bytes) × (length l.text ≡ length l.initial.text)
