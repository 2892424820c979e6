-- `lines::Reader::edge_line` meets its contract: the tests 33 and 32 in their order, and then the two numbers. Assumes nothing.
use mathlib.Core.Path.{◌≡◌, ap, ◌∙◌}
use native.Mathlib.Omega.{arith}
use Rattle.std.proofs.lemmas.Result.{err_from_is_err_and}
use Rattle.std.proofs.lemmas.Grind.{common_steps}
use Rattle.refusal.specs.declared.Refusal.TheVariants.{Form}
use Rattle.model.specs.Text.{fault}
use Rattle.lines.proofs.Lines.{at_fault, past_fault, line-edge, edge_fields}
use Rattle.lines.proofs.Steps.{faulty, stepped_as}
use Rattle.lines.proofs.reader.Reader.edge_line.Goals as goal

pub returns-in_default-clause-line_read : goal.returns-in_default-clause-line_read
returns-in_default-clause-line_read c = faulty (at_fault _ (line-edge _ _ _) (rw c.in_default.is))

pub returns-in_err-u-clause-line_read : goal.returns-in_err-u-clause-line_read
returns-in_err-u-clause-line_read c =
    let p = err_from_is_err_and c.from_residual.result c.from_residual.ensures.1 in
    let none = rw c.in_err-u.ensures.ok_part at c.two_numbers.ensures in
    let form : c.in_err-u.field-0.0 ≡ Form = grind (arith, common_steps) in
    rw (p.1, p.2, form) (faulty (none.goes _ ∙ edge_fields _ _ ∙ past_fault _ (line-edge _ _ _) (rw c.in-Passed.is)))

pub returns-clause-line_read : goal.returns-clause-line_read
returns-clause-line_read c =
    let some = rw c.in_ok-u.ensures.ok_part at c.two_numbers.ensures in
    stepped_as c.edge.ensures.line_read (ap (fault 33 _) (some.goes _ ∙ edge_fields _ _) ∙ line-edge _ _ _)
