-- What `list` answers and leaves, check by check: refusal 13, then 21, and then the room alone decides.
-- Assumes nothing.
use mathlib.Core.Path.{◌≡◌, refl, sym, ap, ◌∙◌}
use mathlib.Core.Bool.{Bool, true, false, cond, not}
use mathlib.Core.List.{List}
use Prim.Native.Nat.{ℕ, ◌<◌, ◌≤◌}
use native.Mathlib.Omega.{arith}
use lib.Dec.{leb}
use lib.ListN.{length}
use borrow.Author.Tests.{le-leb, lt-leb, leb-true}
use Rattle.refusal.specs.Refusal.{Verdict, Passes, Refuses, ◌and_then◌, laid_over}
use Rattle.refusal.proofs.Scans.{scan_all, scan_passes}
use Rattle.instruction.specs.Instruction.{fetch, count_of, taken}
use Rattle.listing.specs.Listing.{Said, sound, code_words, instructions, room_for, verdict, listed, refused, said_as, answered, text_as, leaves, listing}

-- the answer is x, and the text l is left of text
pub record Answer (code text : List ℕ) (x : Said) (l : List ℕ) : Type 0 where
  pub said : answered code (length text) ≡ x
  pub left : leaves code text ≡ l

-- instructions that are all sound pass, and then each is sound
module _ (code : List ℕ) where
  pub all_pass : ((p : ℕ) → p < count_of code → sound (count_of code) (fetch code p) ≡ true) → instructions code ≡ Passes
  unfolding instructions
  all_pass s = scan_all (λ p. 21) (λ p. not (sound (count_of code) (fetch code p))) (count_of code) (λ j h. ap not (s j h))

  pub passed_sound : instructions code ≡ Passes → (p : ℕ) → p < count_of code → sound (count_of code) (fetch code p) ≡ true
  unfolding instructions
  passed_sound e p h =
      both (sound (count_of code) (fetch code p)) (scan_passes (λ p. 21) (λ p. not (sound (count_of code) (fetch code p))) (count_of code) e p h)
    where
      both : (b : Bool) → not b ≡ false → b ≡ true
      both true e = refl
      both false e = sym e

module _ (needed room : ℕ) where
  pub enough_room : needed ≤ room → room_for needed room ≡ Passes
  unfolding room_for
  enough_room h = rw (le-leb needed room h)

  pub no_room : room < needed → room_for needed room ≡ Refuses 22 needed
  unfolding room_for
  no_room h = rw (lt-leb needed room h)

  pub room_enough : room_for needed room ≡ Passes → needed ≤ room
  unfolding room_for
  room_enough = go (leb needed room) refl
    where
      go : (b : Bool) → leb needed room ≡ b → cond b Passes (Refuses 22 needed) ≡ Passes → needed ≤ room
      go true e f = leb-true needed room e
      go false e f = let z : ◌≡◌ {A = ℕ} 0 1 = cc in absurd (omega arith)

module _ (code text : List ℕ) where
  -- the answer where all checks together give v, and what is left
  answer_as : (v : Verdict) → verdict code (length text) ≡ v → Answer code text (said_as (length (listing code)) v) (text_as (listing code) text (said_as (length (listing code)) v))
  unfolding answered leaves
  answer_as v e = let a = ap (said_as (length (listing code))) e in record { said = a; left = ap (text_as (listing code) text) a }

  -- the code alone decides
  pub refused_by_code : (n k : ℕ) → (code_words (length code) and_then instructions code) ≡ Refuses n k → Answer code text (refused n k) text
  unfolding verdict
  refused_by_code n k e = answer_as (Refuses n k) (chained (code_words (length code)) ∙ ap (λ (v : Verdict). v and_then room_for (length (listing code)) (length text)) e)
    where
      chained : (v : Verdict) → (v and_then (instructions code and_then room_for (length (listing code)) (length text)))
          ≡ ((v and_then instructions code) and_then room_for (length (listing code)) (length text))
      chained Passes = refl
      chained (Refuses m l) = refl

  pub left_by_code : (n k : ℕ) → (code_words (length code) and_then instructions code) ≡ Refuses n k → text ≡ leaves code text
  left_by_code n k e = sym (refused_by_code n k e).left

  pub not_taken : taken (length code) ≡ false → Answer code text (refused 13 0) text
  unfolding code_words
  not_taken t = refused_by_code 13 0 (rw t)

  module _ (t : taken (length code) ≡ true) where
    pub not_sound : (n k : ℕ) → instructions code ≡ Refuses n k → Answer code text (refused n k) text
    unfolding code_words
    not_sound n k e = refused_by_code n k (rw (t, e))

    module _ (e : instructions code ≡ Passes) where
      -- the room's verdict decides
      pub room_decides : (v : Verdict) → room_for (length (listing code)) (length text) ≡ v
          → Answer code text (said_as (length (listing code)) v) (text_as (listing code) text (said_as (length (listing code)) v))
      unfolding verdict code_words
      room_decides v r = answer_as v (rw (t, e) r)

      pub has_room : length (listing code) ≤ length text → Answer code text (listed (length (listing code))) (laid_over (listing code) text)
      has_room h = room_decides Passes (enough_room (length (listing code)) (length text) h)

      pub too_short : length text < length (listing code) → Answer code text (refused 22 (length (listing code))) text
      too_short h = room_decides (Refuses 22 (length (listing code))) (no_room (length (listing code)) (length text) h)
