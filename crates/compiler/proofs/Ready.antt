-- What the checks leave is what the code generator asks.
-- Assumes nothing.
use mathlib.Core.Path.{◌≡◌, refl, sym, ap, ◌∙◌}
use mathlib.Core.List.{List}
use Prim.Native.Nat.{ℕ, ◌-◌, ◌≤◌, ◌<◌}
use native.Mathlib.Omega.{arith}
use lib.ListN.{length, get_or}
use Rattle.instruction.specs.Instruction.{assemble}
use Rattle.std.specs.Prelude.{Ok}
use Rattle.rule.specs.declared.layout.Layout.{Layout}
use Rattle.rule.specs.Table.{declaration_rows, first_cell, binding_of, node_rows, com_at, program}
use Rattle.refusal.specs.Refusal.{Verdict, Passes, Refuses, ◌and_then◌}
use Rattle.rule.specs.Check.{node_words, declaration_words, declarations, declared, rows, used_once, nodes}
use Rattle.rule.specs.Layout.{laid_said, layout_of}
use Rattle.rule.proofs.Verdicts.{both_pass, node_words_pass, declaration_words_pass}
use Rattle.rule.proofs.Clean.{rows_in_order, row_in_order, last_in_order}
use Rattle.rule.proofs.Cells.{base_at}
use Rattle.rule.proofs.Answers.{layout_verdict, layout_cells, layout_bases}
use Rattle.compiler.specs.Pool.{registers_of}
use Rattle.compiler.specs.Compile.{size_com, t_prog}
use Rattle.compiler.specs.Answer.{Said, pool_bit, need, instructions, cells, rest, said_as, verdict, compiled, buffer_as, leaves}
use Rattle.compiler.specs.Inside.{Rows, Based, ComRow}
use Rattle.compiler.proofs.Bound.{program_small}

-- the tables of a rule whose rows are in order
pub record Ready (ds ns : List ℕ) : Type 0 where
  pub rows_fit : Rows ds ns
  pub last : ComRow ns (node_rows ns - 1)
  pub some : 0 < node_rows ns
  pub small : size_com (binding_of ds) (com_at ns (node_rows ns - 1)) ≤ 4096

-- what the checks 1, 2 and 6 to 10 leave
pub ready : (ds ns : List ℕ) → node_words (length ns) and_then declaration_words (length ds) ≡ Passes → nodes ds ns ≡ Passes → Ready ds ns
unfolding nodes
ready ds ns e f =
    let (w, v) = both_pass (node_words (length ns)) (declaration_words (length ds)) e in
    let (w', g) = both_pass (node_words (length ns)) (rows ds ns and_then used_once ns) f in
    let (p, q) = both_pass (rows ds ns) (used_once ns) g in
    let n = node_words_pass (length ns) w in
    let m = declaration_words_pass (length ds) v in
    let all : Rows ds ns = record { few = omega arith; short = omega arith; ok = λ i h. row_in_order ds ns i (rows_in_order ds ns p i (omega arith)) } in
    let c = last_in_order ds ns p (omega arith) in
    let b = program_small (binding_of ds) ds ns (omega arith) (omega arith) all p q c in
    record {
      rows_fit = all;
      last = record { there = omega arith; sort = c };
      some = omega arith;
      small = omega arith;
    }

module _ (ds : List ℕ) (l : Layout) (e : laid_said (Ok l) ≡ layout_of ds) where
  layout_passes : declared ds ≡ Passes
  layout_passes = sym (layout_verdict ds (Ok l) e)

  pub layout_based : Based ds l.bases
  unfolding declared
  layout_based =
      let n = declaration_words_pass (length ds) (both_pass (declaration_words (length ds)) (declarations ds) layout_passes).0 in
      record {
        based = λ x h. ap (λ (b : List ℕ). get_or b x 0) (layout_bases ds l e layout_passes) ∙ base_at ds (declaration_rows ds) x h (omega arith);
      }

  pub layout_counts : l.cells ≡ first_cell ds (declaration_rows ds)
  layout_counts = layout_cells ds l e layout_passes

-- a check that is made again passes where it did
again : (a b p c d e f : Verdict) → (a and_then b) and_then (p and_then ((b and_then c) and_then ((a and_then d and_then e) and_then f))) ≡ a and_then b and_then p and_then c and_then d and_then e and_then f
again (Refuses n v) b p c d e f = refl
again Passes (Refuses n v) p c d e f = refl
again Passes Passes (Refuses n v) c d e f = refl
again Passes Passes Passes (Refuses n v) d e f = refl
again Passes Passes Passes Passes (Refuses n v) e f = refl
again Passes Passes Passes Passes Passes (Refuses n v) f = refl
again Passes Passes Passes Passes Passes Passes f = refl

module _ (ds ns : List ℕ) (pool words : ℕ) where
  -- the answer, from the checks in their order
  pub compiled_from : {w p l r : Verdict} → w ≡ node_words (length ns) and_then declaration_words (length ds) → p ≡ pool_bit pool → l ≡ declared ds → r ≡ nodes ds ns
      → said_as (instructions ds ns) (cells ds ns) (need ds ns) (w and_then (p and_then (l and_then (r and_then rest ds ns pool words)))) ≡ compiled ds ns pool words
  unfolding compiled verdict declared nodes
  compiled_from e f g h =
      rw (e, f, g, h)
      (ap (said_as (instructions ds ns) (cells ds ns) (need ds ns))
      (again (node_words (length ns)) (declaration_words (length ds)) (pool_bit pool) (declarations ds) (rows ds ns) (used_once ns) (rest ds ns pool words)))

-- the buffer follows from what is said
pub leaves_by : (ds ns : List ℕ) (pool : ℕ) (code code' : List ℕ) (x : Said) → x ≡ compiled ds ns pool (length code)
    → code' ≡ buffer_as (assemble (t_prog (binding_of ds) (program ns) (registers_of pool))) code x → code' ≡ leaves ds ns pool code
unfolding leaves
leaves_by ds ns pool code code' x e b = b ∙ ap (buffer_as (assemble (t_prog (binding_of ds) (program ns) (registers_of pool))) code) e
