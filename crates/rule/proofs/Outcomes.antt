-- Each function's promise leaves room for one outcome: two answers that meet it are equal.
-- Assumes nothing.
use mathlib.Core.Path.{◌≡◌, refl, sym, ap, ap₂, ◌∙◌}
use mathlib.Core.List.{List}
use Prim.Native.Nat.{ℕ}
use native.Mathlib.Omega.{arith}
use Rattle.std.specs.Prelude.{⊤, Result, Ok, Err}
use Rattle.refusal.specs.declared.Refusal.{Refusal}
use Rattle.refusal.specs.Refusal.{number_of, value_of}
use Rattle.refusal.proofs.Outcomes.{one_refusal}
use Rattle.rule.specs.declared.layout.Layout.{Layout}
use Rattle.rule.specs.declared.kind.Kind.{Kind}
use Rattle.rule.specs.declared.kind.UnknownKind.{UnknownKind}
use Rattle.rule.specs.declared.kind.Sort.{Sort}
use Rattle.rule.specs.declared.kind.UnknownSort.{UnknownSort}
use Rattle.rule.specs.Kind.{unknown, row_said, kind_number, Decodes, sort_number, DecodesSort}
use Rattle.rule.specs.Answer.{Said, passed, accepted, refused, verdict_said, check_said, words_checked, rows_checked, checked}
use Rattle.rule.specs.Layout.{Laid, laid_said, layout_of}

-- the refusal's number and the number returned with it, of what is said
abbrev number_said : Said → ℕ
number_said passed = 0
number_said (accepted n) = 0
number_said (refused n v) = n

abbrev value_said : Said → ℕ
value_said passed = 0
value_said (accepted n) = n
value_said (refused n v) = v

refusal_said : (r s : Refusal) → refused (number_of r) (value_of r) ≡ refused (number_of s) (value_of s) → r ≡ s
refusal_said r s e = one_refusal r s (ap number_said e) (ap value_said e)

pub one_verdict : (a b : Result ⊤ Refusal) → verdict_said a ≡ verdict_said b → a ≡ b
unfolding verdict_said
one_verdict (Ok x) (Ok y) e = refl
one_verdict (Ok x) (Err s) e = cc
one_verdict (Err r) (Ok y) e = cc
one_verdict (Err r) (Err s) e = ap Err (refusal_said r s e)

pub one_answer : (a b : Result ℕ Refusal) → check_said a ≡ check_said b → a ≡ b
one_answer (Ok n) (Ok m) e = ap Ok (ap value_said e)
one_answer (Ok n) (Err s) e = cc
one_answer (Err r) (Ok m) e = cc
one_answer (Err r) (Err s) e = ap Err (refusal_said r s e)

pub one_layout : (a b : Result Layout Refusal) → laid_said a ≡ laid_said b → a ≡ b
unfolding laid_said
one_layout (Ok l) (Ok m) e =
    ap₂ (λ (n : ℕ) (bases : List ℕ). Ok (record { cells = n; bases = bases })) (ap (λ (x : Laid). x.cells) e) (ap (λ (x : Laid). x.bases) e)
one_layout (Ok l) (Err s) e = let z : passed ≡ refused (number_of s) (value_of s) = ap (λ (x : Laid). x.said) e in cc
one_layout (Err r) (Ok m) e = let z : refused (number_of r) (value_of r) ≡ passed = ap (λ (x : Laid). x.said) e in cc
one_layout (Err r) (Err s) e = ap Err (refusal_said r s (ap (λ (x : Laid). x.said) e))

pub one_check_words : (n d : ℕ) (a b : Result ⊤ Refusal) → verdict_said a ≡ words_checked n d → verdict_said b ≡ words_checked n d → a ≡ b
one_check_words n d a b p q = one_verdict a b (p ∙ sym q)

pub one_lay_out : (ds : List ℕ) (a b : Result Layout Refusal) → laid_said a ≡ layout_of ds → laid_said b ≡ layout_of ds → a ≡ b
one_lay_out ds a b p q = one_layout a b (p ∙ sym q)

module _ (ds ns : List ℕ) where
  pub one_check_rows : (a b : Result ⊤ Refusal) → verdict_said a ≡ rows_checked ds ns → verdict_said b ≡ rows_checked ds ns → a ≡ b
  one_check_rows a b p q = one_verdict a b (p ∙ sym q)

  pub one_check : (a b : Result ℕ Refusal) → check_said a ≡ checked ds ns → check_said b ≡ checked ds ns → a ≡ b
  one_check a b p q = one_answer a b (p ∙ sym q)

-- Kinds and sorts, read from their numbers and given back by them

-- a kind is known by what it is called in specs, a sort by its number
same_kind : (k l : Kind) → row_said k ≡ row_said l → k ≡ l
same_kind k l e = grind arith

known_kind : (k : Kind) → row_said k ≡ unknown → ⊥
known_kind k e = grind arith

same_sort : (s t : Sort) → sort_number s ≡ sort_number t → s ≡ t
same_sort s t e = grind arith

pub one_kind : (n : ℕ) (r s : Result Kind UnknownKind) → Decodes n r → Decodes n s → r ≡ s
one_kind n r s p q = grind (arith, same_kind, known_kind)

pub one_kind_number : (k : Kind) (m n : ℕ) → m ≡ kind_number k → n ≡ kind_number k → m ≡ n
one_kind_number k m n p q = p ∙ sym q

pub one_sort : (n : ℕ) (r s : Result Sort UnknownSort) → DecodesSort n r → DecodesSort n s → r ≡ s
one_sort n r s p q = grind (arith, same_sort)

pub one_sort_number : (s : Sort) (m n : ℕ) → m ≡ sort_number s → n ≡ sort_number s → m ≡ n
one_sort_number s m n p q = p ∙ sym q
