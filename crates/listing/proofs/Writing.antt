-- Bytes written into a text, one run after another, and room for them.
-- Assumes nothing.
use mathlib.Core.Path.{◌≡◌, refl, ap, ◌∙◌, subst}
use mathlib.Core.List.{List, [], ◌++◌}
use Prim.Native.Nat.{ℕ, ◌+◌, ◌≤◌}
use native.Mathlib.Omega.{arith}
use lib.ListN.{length, drop, length-append}
use lib.Seq.{sets, length-sets, sets-eq}
use Rattle.std.specs.Prelude.{Option, Some}
use Rattle.refusal.specs.Refusal.{laid_over}
use Rattle.decimal.specs.Bytes.{Written, written, written_at}
use Rattle.decimal.proofs.Writing.{written_room, sets_append}
use Rattle.listing.specs.declared.line.Text.{Text}
use Rattle.listing.specs.Inside.{Room, Wrote}

-- nothing is written
pub wrote_none : (t : Text) → Wrote t t []
wrote_none t = record { same = refl; size = refl; next = omega arith; text = refl }

pub room_as : {t : Text} {c d : List ℕ} → c ≡ d → Room t c → Room t d
room_as {t} e = subst (Room t) e

pub room_first : {t : Text} (c d : List ℕ) → Room t (c ++ d) → Room t c
room_first c d r = record { fits = let e = length-append c d in let h = r.fits in omega arith }

module _ {t u : Text} {c : List ℕ} (x : Wrote t u c) where
  -- room for what comes after
  pub room_then : (d : List ℕ) → Room t (c ++ d) → Room u d
  room_then d r = record { fits = let e = length-append c d in let h = r.fits in let n = x.next in let k = x.size in omega arith }

  pub wrote_as : {d : List ℕ} → c ≡ d → Wrote t u d
  wrote_as e = subst (Wrote t u) e x

  pub wrote_then : {v : Text} {d : List ℕ} → Wrote u v d → Wrote t v (c ++ d)
  wrote_then {v} {d} y = record {
    same = y.same ∙ x.same;
    size = y.size ∙ x.size;
    next = let e = length-append c d in let h = x.next in let h' = y.next in omega arith;
    text =
        y.text
        ∙ ap (λ (m : List ℕ). sets m u.at d) x.text
        ∙ ap (λ (k : ℕ). sets (sets t.bytes.now t.at c) k d) x.next
        ∙ sets_append t.bytes.now t.at c d;
  }

-- a number that there is room for
module _ (t : Text) (o : Option ℕ) (l bs : List ℕ) (e : written o l ≡ written_at t.bytes.now t.at bs) (h : Room t bs) where
  pub number_fits : o ≡ Some (length bs)
  number_fits = ap (λ (w : Written). w.count) (e ∙ written_room t.bytes.now t.at bs h.fits)

  pub wrote_number : (r : ℕ) → o ≡ Some r → Wrote t (record t { bytes = record t.bytes { now = l }; at = t.at + r }) bs
  wrote_number r f =
      let n : r ≡ length bs = cc number_fits in
      let text : l ≡ sets t.bytes.now t.at bs = ap (λ (w : Written). w.text) (e ∙ written_room t.bytes.now t.at bs h.fits) in
      record {
        same = refl;
        size = ap length text ∙ length-sets t.bytes.now t.at bs;
        next = ap (λ (k : ℕ). t.at + k) n;
        text = text;
      }

-- what is written from the front on is laid over it
pub laid_front : {t u : Text} (c : List ℕ) → t.at ≡ 0 → length c ≤ length t.bytes.now → Wrote t u c → u.bytes.now ≡ laid_over c t.bytes.now
laid_front {t} c z h x =
    let e : sets t.bytes.now t.at c ≡ sets t.bytes.now 0 c = ap (λ (k : ℕ). sets t.bytes.now k c) z in
    let l : 0 + length c ≡ length c = omega arith in
    x.text ∙ e ∙ sets-eq c t.bytes.now 0 (omega arith) ∙ ap (λ (k : ℕ). c ++ drop k t.bytes.now) l
