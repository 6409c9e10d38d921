-- Instructions laid into a buffer, one run after another, and one that is written last though it stands first.
-- Assumes nothing.
use mathlib.Core.Path.{◌≡◌, refl, sym, ap, ◌∙◌}
use mathlib.Core.List.{List, [], ◌∷◌, ◌++◌}
use Prim.Native.Nat.{ℕ, zero, suc, ◌+◌, ◌*◌, ◌<◌}
use native.Mathlib.Nat.{add-suc, add-zero, suc-add}
use native.Mathlib.Numerals.{towards_suc}
use native.Mathlib.Omega.{arith}
use lib.ListN.{length, set, length-append, length-set}
use lib.Seq.{sets, set_comm}
use Rattle.instruction.specs.Instruction.{Instruction, ins, encode, assemble}
use Rattle.compiler.specs.Compile.{after}
use Rattle.compiler.specs.Inside.{put, Emitted}
use Rattle.compiler.proofs.Sizes.{length_assemble, assemble_append}

sets_append : (l : List ℕ) (i : ℕ) (a b : List ℕ) → sets (sets l i a) (i + length a) b ≡ sets l i (a ++ b)
sets_append l i [] b = ap (λ (k : ℕ). sets l k b) (add-zero i)
sets_append l i (x ∷ a) b =
    ap (λ (k : ℕ). sets (sets (set l i x) (suc i) a) k b) (add-suc i (length a) ∙ sym (suc-add i (length a)))
    ∙ sets_append (set l i x) (suc i) a b

-- code behind code
pub put_append : (l : List ℕ) (p q : ℕ) (a b : List Instruction) → q ≡ p + length a → put (put l p a) q b ≡ put l p (a ++ b)
unfolding put
put_append l p q a b e =
    ap (λ (k : ℕ). sets (sets l (p * 4) (assemble a)) k (assemble b)) (let h = length_assemble a in omega arith)
    ∙ sets_append l (p * 4) (assemble a) (assemble b)
    ∙ ap (sets l (p * 4)) (sym (assemble_append a b))

-- the four words of one instruction
pub one_laid : (l : List ℕ) (p o a b d : ℕ)
    → Emitted l (set (set (set (set l (p * 4) o) (p * 4 + 1) a) (p * 4 + 2) b) (p * 4 + 3) d) p (p + 1) (ins o a b d ∷ [])
unfolding put assemble encode
one_laid l p o a b d = record { next = refl; code = simp towards_suc; kept = simp length-set }

set_before : (l : List ℕ) (i j x : ℕ) (ws : List ℕ) → i < j → set (sets l j ws) i x ≡ sets (set l i x) j ws
set_before l i j x [] h = refl
set_before l i j x (w ∷ ws) h =
    set_before (set l j w) i (suc j) x ws (omega arith) ∙ ap (λ (m : List ℕ). sets m (suc j) ws) (set_comm l j i w x (λ e. omega arith))

-- a branch is written after the code that follows it
pub put_late : (l : List ℕ) (p : ℕ) (i : Instruction) (c : List Instruction) → put (put l (suc p) c) p (i ∷ []) ≡ put l p (i ∷ c)
unfolding put assemble encode
put_late l p (ins o a b d) c =
    let P = p * 4 in
    let Q = suc p * 4 in
    let ws = assemble c in
    ap (λ (m : List ℕ). set (set (set m (suc P) a) (suc (suc P)) b) (suc (suc (suc P))) d) (set_before l P Q o ws (omega arith))
    ∙ ap (λ (m : List ℕ). set (set m (suc (suc P)) b) (suc (suc (suc P))) d) (set_before (set l P o) (suc P) Q a ws (omega arith))
    ∙ ap (λ (m : List ℕ). set m (suc (suc (suc P))) d) (set_before (set (set l P o) (suc P) a) (suc (suc P)) Q b ws (omega arith))
    ∙ set_before (set (set (set l P o) (suc P) a) (suc (suc P)) b) (suc (suc (suc P))) Q d ws (omega arith)
    ∙ ap (λ (k : ℕ). sets (set (set (set (set l P o) (suc P) a) (suc (suc P)) b) (suc (suc (suc P))) d) k ws) (omega arith)

-- the same of what was laid: a run behind a run, and a branch that is written after the code that follows it
pub emitted_then : {l l' l'' : List ℕ} {p q q' : ℕ} {c d : List Instruction} → Emitted l l' p q c → Emitted l' l'' q q' d → Emitted l l'' p q' (c ++ d)
emitted_then {l} {l'' = l''} {p} {q} {q'} {c} {d} x y = record {
  next = let e = length-append c d in let h = x.next in let h' = y.next in omega arith;
  code = y.code ∙ ap (λ (m : List ℕ). put m q d) x.code ∙ put_append l p q c d x.next;
  kept = y.kept ∙ x.kept;
}

pub emitted_late : {l l₁ l₂ : List ℕ} {p p₁ q q₁ : ℕ} {i : Instruction} {c : List Instruction} → p₁ ≡ suc p → Emitted l l₁ p₁ q c
    → Emitted l₁ l₂ p q₁ (i ∷ []) → Emitted l l₂ p q (i ∷ c)
emitted_late {l} {l₁} {l₂} {p} {p₁} {q} {q₁} {i} {c} e x y = record {
  next = let h = x.next in omega arith;
  code = y.code ∙ ap (λ (m : List ℕ). put m p (i ∷ [])) (x.code ∙ ap (λ (k : ℕ). put l k c) e) ∙ put_late l p i c;
  kept = y.kept ∙ x.kept;
}

pub after_add : (k q : ℕ) → after k q ≡ q + k
after_add zero q = omega arith
after_add (suc k) q = let h = after_add k q in omega arith
