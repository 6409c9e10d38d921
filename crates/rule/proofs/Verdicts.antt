-- Checks one after another: what is known where they pass.
-- Assumes nothing.
use mathlib.Core.Path.{◌≡◌, refl, sym}
use mathlib.Core.Bool.{Bool, true, false, cond, ◌&&◌, true≢false}
use Prim.Native.Nat.{ℕ, ◌<◌, ◌≤◌, ◌%◌}
use native.Mathlib.Omega.{arith}
use lib.Dec.{eqb, ltb, leb}
use borrow.Author.Tests.{eqb-true, ltb-true, leb-true}
use Rattle.refusal.specs.Refusal.{Verdict, Passes, Refuses, ◌and_then◌}
use Rattle.rule.specs.Check.{node_words, declaration_words}

pub both_hold : (s t : Bool) → s && t ≡ true → (s ≡ true) × (t ≡ true)
both_hold true t e = (refl, e)
both_hold false t e = absurd (true≢false (sym e))

pub both_pass : (a b : Verdict) → a and_then b ≡ Passes → (a ≡ Passes) × (b ≡ Passes)
both_pass Passes b e = (refl, e)
both_pass (Refuses n v) b e = let z : ◌≡◌ {A = ℕ} 0 1 = cc in absurd (omega arith)

passes_where : (t : Bool) (n v : ℕ) → cond t Passes (Refuses n v) ≡ Passes → t ≡ true
passes_where true n v e = refl
passes_where false n v e = let z : ◌≡◌ {A = ℕ} 0 1 = cc in absurd (omega arith)

pub node_words_pass : (n : ℕ) → node_words n ≡ Passes → (n % 4 ≡ 0) × (0 < n) × (n ≤ 4096)
unfolding node_words
node_words_pass n e =
    let h = both_hold (eqb (n % 4) 0) (ltb 0 n && leb n 4096) (passes_where (eqb (n % 4) 0 && (ltb 0 n && leb n 4096)) 1 0 e) in
    let k = both_hold (ltb 0 n) (leb n 4096) h.1 in
    (eqb-true (n % 4) 0 h.0, ltb-true 0 n k.0, leb-true n 4096 k.1)

pub declaration_words_pass : (n : ℕ) → declaration_words n ≡ Passes → (n % 2 ≡ 0) × (n ≤ 512)
unfolding declaration_words
declaration_words_pass n e =
    let h = both_hold (eqb (n % 2) 0) (leb n 512) (passes_where (eqb (n % 2) 0 && leb n 512) 2 0 e) in
    (eqb-true (n % 2) 0 h.0, leb-true n 512 h.1)
