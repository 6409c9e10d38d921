-- Bytes written into a part of a text: where there is room and where there is none, and one run after another.
-- Assumes nothing.
use Rattle.std.proofs.Common.{◌≡◌, List, [], ◌∷◌, ◌++◌, ℕ, suc, ◌+◌, ◌<◌, ◌≤◌, Some, None, length, set, take, drop, sym, ap, ap₂, ◌∙◌, add-suc, add-zero, suc-add, append_assoc, le-leb, arith}
use Rattle.std.proofs.lemmas.Bool.{lt-leb}
use Rattle.std.proofs.Math.Seq.{drop-drop}
use Rattle.std.proofs.lemmas.List.Edits.{sets, sets-eq}
use borrow.Rule.Slice.PartMut.{put_mid}
use Rattle.decimal.specs.Bytes.{written, written_at}

pub written_room : (text : List ℕ) (at : ℕ) (bs : List ℕ) → at + length bs ≤ length text → written_at text at bs ≡ written (Some (length bs)) (sets text at bs)
unfolding written_at
written_room text at bs h = rw (le-leb (at + length bs) (length text) h)

pub written_no_room : (text : List ℕ) (at : ℕ) (bs : List ℕ) → length text < at + length bs → written_at text at bs ≡ written None text
unfolding written_at
written_no_room text at bs h = rw (lt-leb (at + length bs) (length text) h)

-- the same as the part that is lent for the bytes, and handed back with them
pub written_part : (text : List ℕ) (at k : ℕ) (bs : List ℕ) → k ≡ length bs → at + k ≤ length text → written (Some k) (put_mid at k text bs) ≡ written_at text at bs
written_part text at k bs e h =
    ap₂ (λ (n : ℕ) (rest : List ℕ). written (Some n) (take at text ++ (bs ++ rest))) e (drop-drop k at text ∙ ap (λ (n : ℕ). drop (at + n) text) e)
    ∙ ap (written (Some (length bs))) (sym (append_assoc (take at text) bs (drop (at + length bs) text)) ∙ sym (sets-eq bs text at (omega arith)))
    ∙ sym (written_room text at bs (omega arith))

-- one run after another
pub sets_append : (l : List ℕ) (i : ℕ) (a b : List ℕ) → sets (sets l i a) (i + length a) b ≡ sets l i (a ++ b)
sets_append l i [] b = ap (λ (k : ℕ). sets l k b) (add-zero i)
sets_append l i (x ∷ a) b =
    ap (λ (k : ℕ). sets (sets (set l i x) (suc i) a) k b) (add-suc i (length a) ∙ sym (suc-add i (length a)))
    ∙ sets_append (set l i x) (suc i) a b
