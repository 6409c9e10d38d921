-- A buffer with words or bytes laid over its front: those are in front, and each beyond them is the buffer's own.
-- Assumes nothing.
use mathlib.Core.Path.{◌≡◌, ◌∙◌}
use mathlib.Core.List.{List}
use Prim.Native.Nat.{ℕ, ◌+◌, ◌<◌}
use lib.ListN.{length, get_or, get_or-append}
use lib.Seq.{get_or-append-add, get_or-drop}
use Rattle.refusal.specs.Refusal.{laid_over}

module _ (ws buffer : List ℕ) (i : ℕ) where
  pub laid_in_front : i < length ws → get_or (laid_over ws buffer) i 0 ≡ get_or ws i 0
  laid_in_front h = get_or-append ws _ 0 i h

  pub kept_beyond : get_or (laid_over ws buffer) (length ws + i) 0 ≡ get_or buffer (length ws + i) 0
  kept_beyond = get_or-append-add ws _ i 0 ∙ get_or-drop (length ws) buffer i 0
