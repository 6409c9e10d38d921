-- `compile`: the checks in their order, and past them what the tables give.
use Rattle.std.proofs.Common.{◌≡◌, refl, sym, ap, ◌∙◌, ℕ, List, length, Result, arith}
use Rattle.std.specs.Prelude.{Err, IsErrAnd}
use Rattle.std.proofs.lemmas.Result.{err_from_is_err_and}
use Rattle.refusal.specs.declared.Refusal.{Refusal}
use Rattle.refusal.specs.Refusal.{Passes, number_of, value_of, ◌and_then◌}
use Rattle.rule.specs.Check.{node_words, declaration_words, declared, nodes}
use Rattle.rule.proofs.Answers.{words_verdict, rows_verdict, layout_verdict}
use Rattle.compiler.specs.declared.Accepted.{Accepted}
use Rattle.compiler.specs.Answer.{refused, need, instructions, rest, said_as, compile_said, compiled, leaves}
use Rattle.compiler.proofs.Ready.{Ready, ready, layout_based, layout_counts, compiled_from, leaves_by}
use Rattle.compiler.proofs.compile.Goals as goal
use Rattle.compiler.proofs.compile.Goals.{In_ok-check_words, In_ok-check_pool, In_ok-layout, In_ok-check_rows}

-- what has passed
words_pass : (c : In_ok-check_words) → Passes ≡ node_words (length c.args.nodes.now) and_then declaration_words (length c.args.declarations.now)
words_pass c = words_verdict _ _ _ c.in_ok-check_words.ensures

declarations_pass : (c : In_ok-layout) → Passes ≡ declared c.args.declarations.now
declarations_pass c = layout_verdict c.args.declarations.now _ c.in_ok-layout.ensures

rows_pass : (c : In_ok-check_rows) → Passes ≡ nodes c.args.declarations.now c.args.nodes.now
rows_pass c = rows_verdict c.args.declarations.now c.args.nodes.now _ c.in_ok-check_rows.ensures

is_ready : (c : In_ok-check_rows) → Ready c.args.declarations.now c.args.nodes.now
is_ready c = ready _ _ (sym (words_verdict _ _ _ c.in_ok-check_words.ensures)) (sym (rows_pass c))

-- where a refusal is given, nothing is written
module _ (ds ns : List ℕ) (pool : ℕ) (code : List ℕ) (a : Result Accepted Refusal) (r : Refusal) (x : IsErrAnd a (λ y. y ≡ r))
    (e : refused (number_of r) (value_of r) ≡ compiled ds ns pool (length code)) where
  refused_answer : compile_said a ≡ compiled ds ns pool (length code)
  refused_answer = let left = err_from_is_err_and a x in ap compile_said (left.1 ∙ ap Err left.2) ∙ e

  refused_buffer : code ≡ leaves ds ns pool code
  refused_buffer = leaves_by ds ns pool code code _ e refl

pub returns-in_err-check_words : goal.returns-in_err-check_words
returns-in_err-check_words c =
    let ds = c.args.declarations.now in
    let ns = c.args.nodes.now in
    let code = c.args.code.now in
    let x = c.from_residual.ensures.1 in
    let e = compiled_from ds ns c.args.pool (length code) (words_verdict _ _ _ c.in_err-check_words.ensures) refl refl refl in
    record { answer = refused_answer ds ns c.args.pool code _ _ x e; buffer = refused_buffer ds ns c.args.pool code _ _ x e }

pub returns-in_err-check_pool : goal.returns-in_err-check_pool
returns-in_err-check_pool c =
    let ds = c.args.declarations.now in
    let ns = c.args.nodes.now in
    let code = c.args.code.now in
    let w = words_pass (goal.at.returns-in_err-check_pool c).In_ok-check_words in
    let x = c.from_residual-in_err-check_pool.ensures.1 in
    let e = compiled_from ds ns c.args.pool (length code) w c.in_err-check_pool.ensures refl refl in
    record { answer = refused_answer ds ns c.args.pool code _ _ x e; buffer = refused_buffer ds ns c.args.pool code _ _ x e }

pub returns-in_err-layout : goal.returns-in_err-layout
returns-in_err-layout c =
    let ds = c.args.declarations.now in
    let ns = c.args.nodes.now in
    let code = c.args.code.now in
    let w = words_pass (goal.at.returns-in_err-layout c).In_ok-check_words in
    let x = c.from_residual-in_err-layout.ensures.1 in
    let e = compiled_from ds ns c.args.pool (length code) w c.in_ok-check_pool.ensures (layout_verdict ds _ c.in_err-layout.ensures) refl in
    record { answer = refused_answer ds ns c.args.pool code _ _ x e; buffer = refused_buffer ds ns c.args.pool code _ _ x e }

pub returns-in_err-check_rows : goal.returns-in_err-check_rows
returns-in_err-check_rows c =
    let ds = c.args.declarations.now in
    let ns = c.args.nodes.now in
    let code = c.args.code.now in
    let at = goal.at.returns-in_err-check_rows c in
    let x = c.from_residual-in_err-check_rows.ensures.1 in
    let e =
    compiled_from ds ns c.args.pool (length code) (words_pass at.In_ok-check_words) c.in_ok-check_pool.ensures (declarations_pass at.In_ok-layout)
    (rows_verdict ds ns _ c.in_err-check_rows.ensures) in
    record { answer = refused_answer ds ns c.args.pool code _ _ x e; buffer = refused_buffer ds ns c.args.pool code _ _ x e }

pub invariant_of-tables : goal.invariant_of-tables
invariant_of-tables c =
    let at = goal.at.invariant_of-tables c in
    record {
      rows = (is_ready at.In_ok-check_rows).rows_fit;
      based = layout_based c.args.declarations.now _ c.in_ok-layout.ensures;
    }

pub generate-requires : goal.generate-requires
generate-requires c =
    let r = is_ready (goal.at.generate-requires c).In_ok-check_rows in
    let n = r.small in
    record { some = r.some; com_row = r.last; row_bound = omega arith }

pub returns : goal.returns
returns c =
    let ds = c.args.declarations.now in
    let ns = c.args.nodes.now in
    let code = c.args.code.now in
    let at = goal.at.returns c in
    let e =
    c.generate.ensures.answer
    ∙ ap (λ (k : ℕ). said_as (instructions ds ns) k (need ds ns) (rest ds ns c.args.pool (length code))) (layout_counts ds _ c.in_ok-layout.ensures)
    ∙ compiled_from ds ns c.args.pool (length code) (words_pass at.In_ok-check_words) c.in_ok-check_pool.ensures (declarations_pass at.In_ok-layout) (rows_pass at.In_ok-check_rows) in
    record { answer = e; buffer = leaves_by ds ns c.args.pool code _ _ e c.generate.ensures.buffer }
