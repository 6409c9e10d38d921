-- Refusal 11 is given exactly where the checks before it pass and no choice of registers exists.
-- Assumes nothing.
use mathlib.Core.Path.{◌≡◌, refl, ap, ◌∙◌}
use mathlib.Core.Logic.{◌↔◌}
use mathlib.Core.Bool.{Bool, true, false, cond, ◌&&◌}
use mathlib.Core.List.{List}
use Prim.Native.Nat.{ℕ, suc, ◌-◌, ◌*◌, ◌%◌, ◌≤◌, ◌<◌}
use native.Mathlib.Omega.{arith}
use lib.Dec.{eqb, ltb, leb}
use lib.ListN.{length}
use borrow.Author.Tests.{leb-false, lt-leb}
use Rattle.rule.specs.Kind.{is_command}
use Rattle.rule.specs.Table.{declaration_rows, sort, given, first_cell, binding_of, node_rows, kind_at, program}
use Rattle.refusal.specs.Refusal.{Verdict, Passes, Refuses, ◌and_then◌, lowest_from, first_refused}
use Rattle.rule.specs.Check.{is_declaration, declaration_no, refused as refused_no, last_no, row_no, misused, node_words, declaration_words, declarations, rows, used_once}
use Rattle.compiler.specs.Pool.{registers_of}
use Rattle.correctness.specs.Choice.{ChoosesCom}
use Rattle.compiler.specs.Answer.{refused, said_as, pool_bit, enough, room_for, need, instructions, cells, verdict, compiled}
use Rattle.correctness.proofs.Choosing.{choice_needs, need_suffices}
use Rattle.correctness.specs.Choice.{EarlierPass}

-- Refusal 11: the checks before it refuse with a lower number

abbrev Low : Verdict → Type 0
Low v = (n k : ℕ) → v ≡ Refuses n k → n ≤ 10

low_test : (t : Bool) (m v : ℕ) → m ≤ 10 → Low (cond t Passes (Refuses m v))
low_test true m v h n k e = let z : ◌≡◌ {A = ℕ} 0 1 = cc in absurd (omega arith)
low_test false m v h n k e = let z : m ≡ n = cc in omega arith

low_scan : (f : ℕ → ℕ) (p : ℕ → Bool) (m : ℕ) → ((i : ℕ) → f i ≤ 10) → Low (first_refused f p m)
low_scan f p m h n k e = go (ltb (lowest_from p m 0) m) e
  where
    go : (b : Bool) → cond b (Refuses (f (lowest_from p m 0)) (lowest_from p m 0)) Passes ≡ Refuses n k → n ≤ 10
    go true r = let z : f (lowest_from p m 0) ≡ n = cc in omega (arith, h (lowest_from p m 0))
    go false r = let z : ◌≡◌ {A = ℕ} 0 1 = cc in absurd (omega arith)

low_of_three : (s t : Bool) (a b c : ℕ) → a ≤ 10 → b ≤ 10 → c ≤ 10 → cond s (cond t a b) c ≤ 10
low_of_three true true a b c h i j = h
low_of_three true false a b c h i j = i
low_of_three false t a b c h i j = j

low_declaration : (ds : List ℕ) (x : ℕ) → declaration_no ds x ≤ 10
low_declaration ds x =
    low_of_three (is_declaration (sort ds x) (given ds x)) (leb (first_cell ds (suc x)) 65536) 10 5 4 (omega arith) (omega arith) (omega arith)

low_row : (ds ns : List ℕ) (i : ℕ) → row_no ds ns i ≤ 10
unfolding row_no
low_row ds ns i =
    let h : last_no ns i ≤ 10 = low_of_three (eqb (suc i) (node_rows ns)) (is_command (kind_at ns i)) 10 7 10 (omega arith) (omega arith) (omega arith) in
    omega arith

low_node_words : (n : ℕ) → Low (node_words n)
unfolding node_words
low_node_words n = low_test (eqb (n % 4) 0 && (ltb 0 n && leb n 4096)) 1 0 (omega arith)

low_declaration_words : (n : ℕ) → Low (declaration_words n)
unfolding declaration_words
low_declaration_words n = low_test (eqb (n % 2) 0 && leb n 512) 2 0 (omega arith)

low_pool_bit : (pool : ℕ) → Low (pool_bit pool)
unfolding pool_bit
low_pool_bit pool = low_test (eqb (pool % 2) 0) 3 0 (omega arith)

low_declarations : (ds : List ℕ) → Low (declarations ds)
unfolding declarations
low_declarations ds = low_scan (declaration_no ds) (λ x. refused_no (declaration_no ds x)) (declaration_rows ds) (low_declaration ds)

low_rows : (ds ns : List ℕ) → Low (rows ds ns)
unfolding rows
low_rows ds ns = low_scan (row_no ds ns) (λ i. refused_no (row_no ds ns i)) (node_rows ns) (low_row ds ns)

low_used_once : (ns : List ℕ) → Low (used_once ns)
unfolding used_once
low_used_once ns = low_scan (λ j. 10) (misused ns) (node_rows ns - 1) (λ j. omega arith)

passed_over : (a b : Verdict) (k : ℕ) → Low a → a and_then b ≡ Refuses 11 k → (a ≡ Passes) × (b ≡ Refuses 11 k)
passed_over Passes b k h e = (refl, e)
passed_over (Refuses n v) b k h e = let z = h 11 k e in absurd (omega arith)

too_few : (need count : ℕ) → count < need → enough need count ≡ Refuses 11 need
unfolding enough
too_few need count h = rw (lt-leb need count h)

too_few_needed : (n count m words k : ℕ) → enough n count and_then room_for m words ≡ Refuses 11 k → (count < n) × (k ≡ n)
unfolding enough room_for
too_few_needed n count m words k e = go (leb n count) refl (leb (m * 4) words) e
  where
    go : (b : Bool) → leb n count ≡ b → (c : Bool) → (cond b Passes (Refuses 11 n) and_then cond c Passes (Refuses 12 m)) ≡ Refuses 11 k → (count < n) × (k ≡ n)
    go true p true r = let z : ◌≡◌ {A = ℕ} 0 1 = cc in absurd (omega arith)
    go true p false r = let z : ◌≡◌ {A = ℕ} 12 11 = cc in absurd (omega arith)
    go false p c r = (leb-false n count p, cc)

verdict_said_lem : (n c m k : ℕ) (v : Verdict) → said_as n c m v ≡ refused 11 k → v ≡ Refuses 11 k
verdict_said_lem n c m k Passes e = let z : ◌≡◌ {A = ℕ} 0 1 = cc in absurd (omega arith)
verdict_said_lem n c m k (Refuses i v) e = cc

module _ (ds ns : List ℕ) (pool words : ℕ) where
  -- 11 and 12
  abbrev last : Verdict
  last = enough (need ds ns) (length (registers_of pool)) and_then room_for (instructions ds ns) words

  past_earlier : EarlierPass ds ns pool → verdict ds ns pool words ≡ last
  unfolding verdict
  past_earlier o = rw (o.node_words_lem, o.declaration_words_lem, o.pool_bit_lem, o.declarations_pass, o.rows_pass, o.used_once_lem)

  eleven_means : (k : ℕ) → verdict ds ns pool words ≡ Refuses 11 k → EarlierPass ds ns pool × (length (registers_of pool) < need ds ns) × (k ≡ need ds ns)
  unfolding verdict
  eleven_means k e =
      let v₆ = used_once ns and_then last in
      let v₅ = rows ds ns and_then v₆ in
      let v₄ = declarations ds and_then v₅ in
      let v₃ = pool_bit pool and_then v₄ in
      let v₂ = declaration_words (length ds) and_then v₃ in
      let a = passed_over (node_words (length ns)) v₂ k (low_node_words (length ns)) e in
      let b = passed_over (declaration_words (length ds)) v₃ k (low_declaration_words (length ds)) a.1 in
      let c = passed_over (pool_bit pool) v₄ k (low_pool_bit pool) b.1 in
      let d = passed_over (declarations ds) v₅ k (low_declarations ds) c.1 in
      let f = passed_over (rows ds ns) v₆ k (low_rows ds ns) d.1 in
      let g = passed_over (used_once ns) last k (low_used_once ns) f.1 in
      let h = too_few_needed (need ds ns) (length (registers_of pool)) (instructions ds ns) words k g.1 in (
        record { node_words_lem = a.0; declaration_words_lem = b.0; pool_bit_lem = c.0; declarations_pass = d.0; rows_pass = f.0; used_once_lem = g.0 },
        h.0,
        h.1,
      )

  eleven_given : EarlierPass ds ns pool → length (registers_of pool) < need ds ns → verdict ds ns pool words ≡ Refuses 11 (need ds ns)
  eleven_given o h =
      past_earlier o ∙ ap (λ (v : Verdict). v and_then room_for (instructions ds ns) words) (too_few (need ds ns) (length (registers_of pool)) h)

  eleven_said : (k : ℕ) → compiled ds ns pool words ≡ refused 11 k → verdict ds ns pool words ≡ Refuses 11 k
  unfolding compiled
  eleven_said k e = verdict_said_lem (instructions ds ns) (cells ds ns) (need ds ns) k (verdict ds ns pool words) e

  said_eleven : (k : ℕ) → verdict ds ns pool words ≡ Refuses 11 k → compiled ds ns pool words ≡ refused 11 k
  unfolding compiled
  said_eleven k e = ap (said_as (instructions ds ns) (cells ds ns) (need ds ns)) e

  -- "too few registers | the need"
  pub eleven_says_need : (k : ℕ) → compiled ds ns pool words ≡ refused 11 k → k ≡ need ds ns
  eleven_says_need k e = (eleven_means k (eleven_said k e)).2

  -- "Refusal 11 is given exactly when no choice of registers by these rules exists"
  pub eleven_exactly : compiled ds ns pool words ≡ refused 11 (need ds ns)
      ↔ EarlierPass ds ns pool × (ChoosesCom (binding_of ds) (program ns) (registers_of pool) → ⊥)
  eleven_exactly = (
    λ e.
        let m = eleven_means (need ds ns) (eleven_said (need ds ns) e) in
        (m.0, λ k. omega (arith, m.1, choice_needs (binding_of ds) k)),
    λ p.
        let h : need ds ns ≤ length (registers_of pool) → ⊥ = λ n. p.1 (need_suffices (binding_of ds) (program ns) (registers_of pool) n) in
        said_eleven (need ds ns) (eleven_given p.0 (omega arith)),
  )
