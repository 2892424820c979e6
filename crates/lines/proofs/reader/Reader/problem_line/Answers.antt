-- `lines::Reader::problem_line` meets its contract: the tests 34 and 32 in their order, and then the two numbers. Assumes nothing.
use mathlib.Core.Path.{◌≡◌, ◌∙◌}
use native.Mathlib.Omega.{arith}
use Rattle.std.proofs.lemmas.Grind.{common_steps}
use Rattle.std.proofs.lemmas.Result.{err_from_is_err_and}
use Rattle.refusal.specs.declared.Refusal.TheVariants.{Form}
use Rattle.lines.proofs.Lines.{past_fault, line-problem}
use Rattle.lines.proofs.Steps.{faulty, stepped_as}
use Rattle.lines.proofs.reader.Reader.problem_line.Goals as goal

pub returns-in_err-n-clause-line_read : goal.returns-in_err-n-clause-line_read
returns-in_err-n-clause-line_read c =
    let p = err_from_is_err_and c.from_residual.result c.from_residual.ensures.1 in
    let none = rw c.in_err-n.ensures.ok_part at c.problem_numbers.ensures in
    let form : c.in_err-n.field-0.0 ≡ Form = grind (arith, common_steps) in
    rw (p.1, p.2, form) (faulty (none.goes _ ∙ past_fault _ (line-problem _ _ c.requires.starts) (rw c.in-Before.is)))

pub returns-clause-line_read : goal.returns-clause-line_read
returns-clause-line_read c =
    let some = rw c.in_ok-n.ensures.ok_part at c.problem_numbers.ensures in
    stepped_as c.problem.ensures.line_read (some.goes _ ∙ past_fault _ (line-problem _ _ c.requires.starts) (rw c.in-Before.is))
