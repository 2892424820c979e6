-- `dimacs::read_lines` meets its contract: what it leaves is the reply of `read_text`, once what a refused text left in the table is cleared.
-- Assumes nothing.
use mathlib.Core.Path.{◌≡◌, refl, ◌∙◌}
use native.Mathlib.Omega.{arith}
use Rattle.std.specs.Prelude.{Ok, Err}
use Rattle.std.proofs.lemmas.Grind.{common_steps}
use Rattle.std.proofs.lemmas.List.{take_rest}
use Rattle.std.proofs.lemmas.Result.{err_from_is_err_and}
use Rattle.dimacs.proofs.LineByLine.{so_none, so_ended, so_faulty, so_next, end_33, end_39, end_accepted}
use Rattle.dimacs.proofs.read_lines.Goals as goal

pub loop-at-init : goal.loop-at-init
loop-at-init c = (refl, so_none _ _ c.requires)

pub returns-in_err-map_err-clause-lines_read : goal.returns-in_err-map_err-clause-lines_read
returns-in_err-map_err-clause-lines_read c =
    let p = err_from_is_err_and c.from_residual.result c.from_residual.ensures.1 in
    let e = c.in_err-map_err.field-0.0 in
    let outcome : c.read_first-first.result.outcome ≡ Err e.refusal = grind (arith, common_steps) in
    let at : e.line ≡ c.loop-at.line = grind (arith, common_steps) in
    let w = rw outcome at c.read_first-first.ensures.line_read in
    rw (p.1, p.2, at)
    (so_faulty c.loop-at.invariant.1 (take_rest c.args.text.now c.loop-at.at) c.read_first-first.ensures.first_line w)

pub loop-at-preserved : goal.loop-at-preserved
loop-at-preserved c =
    let outcome : c.read_first-first.result.outcome ≡ Ok tt = grind (arith, common_steps) in
    let w = rw outcome at c.read_first-first.ensures.line_read in (
      c.read_first-first.ensures.same_reference ∙ c.loop-at.invariant.0,
      so_next c.loop-at.invariant.1 (take_rest c.args.text.now c.loop-at.at) c.read_first-first.ensures.first_line w c.loop-at-test.true,
    )

pub returns-in_default-clause-lines_read : goal.returns-in_default-clause-lines_read
returns-in_default-clause-lines_read c =
    end_33 _ c.loop-at.reader (rw c.in_default.is) ∙ so_ended c.loop-at.invariant.1 c.loop-at-test.false

pub returns-then-s-clause-lines_read : goal.returns-then-s-clause-lines_read
returns-then-s-clause-lines_read c =
    end_39 _ c.loop-at.reader c.in-Passed.is (λ e. omega arith) ∙ so_ended c.loop-at.invariant.1 c.loop-at-test.false

pub returns-clause-lines_read : goal.returns-clause-lines_read
returns-clause-lines_read c =
    end_accepted _ c.loop-at.reader c.in-Passed.is (omega arith) ∙ so_ended c.loop-at.invariant.1 c.loop-at-test.false
