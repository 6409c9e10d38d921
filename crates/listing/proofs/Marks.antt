-- Sound code, turn by turn: the label that an instruction names is marked, and its line is written as the marks say.
-- Assumes nothing.
use mathlib.Core.Path.{◌≡◌, refl, sym, ap, ◌∙◌}
use mathlib.Core.Bool.{Bool, true, false, ◌||◌}
use mathlib.Core.List.{List, ◌++◌}
use Prim.Native.Nat.{ℕ, zero, suc, ◌+◌, ◌*◌, ◌<◌, ◌≤◌}
use native.Mathlib.Omega.{arith}
use lib.Dec.{eqb}
use lib.ListN.{length, get_or, set, replicate, length-append, length-replicate, get_or-replicate, length-set}
use lib.Seq.{get_or-set_same, get_or-set_other}
use borrow.Author.Tests.{eqb-true, eqb-false, ltb-true}
use Rattle.refusal.specs.Refusal.{Passes}
use Rattle.instruction.specs.Instruction.{Instruction, ins, formed, Fetched, outside, unknown, found, decode, fetch, count_of, taken}
use Rattle.instruction.proofs.Forms.{taken_words, decode_back}
use Rattle.std.specs.Prelude.{Option, Some, None}
use Rattle.listing.specs.Line.{label_part, instruction_line}
use Rattle.listing.specs.Listing.{target_of, leads_to, jumps_to, named_in, inside, sound, line_of, line, lines, listing, instructions, listed, answered}
use Rattle.listing.specs.Inside.{most, longest, marked, Sound, Marked}
use Rattle.listing.proofs.Lines.{fetch_words, sound_formed}
use Rattle.listing.proofs.Bounds.{line_short}
use Rattle.listing.proofs.Answers.{passed_sound, has_room}

pub none_marked : (code : List ℕ) → Marked code 0 (replicate most false)
unfolding named_in
none_marked code = record { size = length-replicate most false; mark = λ p h. get_or-replicate most p false false h }

or_false : (b : Bool) → b ≡ b || false
or_false true = refl
or_false false = refl

or_true : (b : Bool) → true ≡ b || true
or_true true = refl
or_true false = refl

-- a label's mark is set beside those that are
mark_set : (marks : List Bool) (t : Option ℕ) (named : ℕ → Bool) → length marks ≡ most → ((p : ℕ) → p < most → get_or marks p false ≡ named p)
    → (p : ℕ) → p < most → get_or (marked t marks) p false ≡ named p || leads_to t p
mark_set marks None named n m p h = m p h ∙ or_false (named p)
mark_set marks (Some l) named n m p h = go (eqb l p) refl
  where
    go : (b : Bool) → eqb l p ≡ b → get_or (set marks l true) p false ≡ named p || b
    go true e =
        let q : l ≡ p = eqb-true l p e in
        ap (λ (k : ℕ). get_or (set marks l true) k false) (sym q) ∙ get_or-set_same marks l true false (omega arith) ∙ or_true (named p)
    go false e = get_or-set_other marks l p true false (λ q. eqb-false l p e (sym q)) ∙ m p h ∙ or_false (named p)

size_set : (marks : List Bool) (t : Option ℕ) → length (marked t marks) ≡ length marks
size_set marks None = refl
size_set marks (Some l) = length-set marks l true

module _ {code : List ℕ} (s : Sound code) where
  pub few : count_of code ≤ most
  few = let h = taken_words (length code) s.words in omega arith

  module _ (p : ℕ) (h : p < count_of code) where
    sound_at : sound (count_of code) (fetch code p) ≡ true
    sound_at = passed_sound code s.instructions p h

    -- the words at p are an instruction
    module _ (o a b c : ℕ) (e : decode o a b c ≡ fetch code p) where
      pub formed_at : formed (ins o a b c) ≡ true
      formed_at = sound_formed (count_of code) o a b c (ap (sound (count_of code)) e ∙ sound_at)

      pub found_at : found (ins o a b c) ≡ fetch code p
      found_at = sym (decode_back o a b c formed_at) ∙ e

    module _ (x : Instruction) (e : found x ≡ fetch code p) where
      inside_code : inside (count_of code) (target_of x) ≡ true
      inside_code = ap (sound (count_of code)) e ∙ sound_at

      formed_read : formed x ≡ true
      formed_read =
          let o : ℕ = get_or code (p * 4) 0 in
          let a : ℕ = get_or code (p * 4 + 1) 0 in
          let b : ℕ = get_or code (p * 4 + 2) 0 in
          let c : ℕ = get_or code (p * 4 + 3) 0 in
          let w : decode o a b c ≡ fetch code p = fetch_words code p h in
          let i : x ≡ ins o a b c = cc (e ∙ sym (found_at o a b c w)) in
          ap formed i ∙ formed_at o a b c w

      pub short_at : (t : Bool) → length (label_part t p ++ instruction_line x) ≤ longest
      short_at t = line_short t (count_of code) p x few (omega (arith, few)) formed_read inside_code

      pub label_below : (l : ℕ) → target_of x ≡ Some l → l < most
      label_below l t = omega (arith, ltb-true l (count_of code) (ap (inside (count_of code)) (sym t) ∙ inside_code), few)

      pub mark_next : (t : Option ℕ) → t ≡ target_of x → (marks : List Bool) → Marked code p marks → Marked code (p + 1) (marked t marks)
      unfolding named_in
      mark_next t n marks m =
          let next : p + 1 ≡ suc p = omega arith in
          rw next (record {
            size = size_set marks t ∙ m.size;
            mark = λ q k.
                mark_set marks t (named_in code p) m.size m.mark q k
                ∙ ap (λ (u : Option ℕ). named_in code p q || leads_to u q) n
                ∙ ap (λ (f : Fetched). named_in code p q || jumps_to f q) e;
          })

      pub marked_line : (marks : List Bool) → Marked code (count_of code) marks → label_part (get_or marks p false) p ++ instruction_line x ≡ line code p
      marked_line marks m =
          ap (λ (t : Bool). label_part t p ++ instruction_line x) (m.mark p (omega (arith, few))) ∙ ap (line_of (named_in code (count_of code) p) p) e

    pub short_line : length (line code p) ≤ longest
    short_line = go (fetch code p) refl
      where
        go : (f : Fetched) → f ≡ fetch code p → length (line_of (named_in code (count_of code) p) p f) ≤ longest
        go outside e = omega arith
        go unknown e = omega arith
        go (found x) e = short_at x e (named_in code (count_of code) p)

  -- a text with room for the longest line, as often as there are lines, has room for the listing
  pub lines_short : (n : ℕ) → n ≤ count_of code → length (lines code n) ≤ n * longest
  unfolding lines
  lines_short zero h = omega arith
  lines_short (suc n) h = omega (arith, lines_short n (omega arith), length-append (lines code n) (line code n), short_line n h)

  pub listing_short : length (listing code) ≤ count_of code * longest
  listing_short = lines_short (count_of code) (omega arith)

-- so a text with 33 bytes for each instruction is never too short
pub always_room : (code text : List ℕ) → taken (length code) ≡ true → instructions code ≡ Passes → count_of code * 33 ≤ length text
    → answered code (length text) ≡ listed (length (listing code))
always_room code text t e h =
    (has_room code text t e (omega (arith, listing_short {code = code} (record { words = t; instructions = e })))).said
