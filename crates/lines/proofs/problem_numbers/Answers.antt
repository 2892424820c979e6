-- `lines::problem_numbers` meets its contract: the six bytes, a space, and then two numbers. Assumes nothing.
use mathlib.Core.List.{[], ◌∷◌}
use mathlib.Core.Path.{◌∙◌}
use Rattle.std.proofs.lemmas.Bool.Decides.{Decides-eqb}
use Rattle.std.proofs.lemmas.Slice.Eq.{strip_prefix_is}
use Rattle.lines.proofs.Lines.{p_edge, problem-other, problem-unspaced, problem_fields}
use Rattle.lines.proofs.problem_numbers.Goals as goal

pub returns-in_err-strip_prefix : goal.returns-in_err-strip_prefix
returns-in_err-strip_prefix c =
    let other = rw c.in_err-strip_prefix.was at (strip_prefix_is Decides-eqb c.args.line.now p_edge _ c.strip_prefix.ensures.cases) in
    rw c.from_residual.ensures (record { goes = λ room. problem-other room c.requires other; small = tt })

pub returns-in_err-fields : goal.returns-in_err-fields
returns-in_err-fields c =
    let head = rw c.in_ok-strip_prefix.was at (strip_prefix_is Decides-eqb c.args.line.now p_edge _ c.strip_prefix.ensures.cases) in
    let other = rw c.in_err-fields.was at (strip_prefix_is Decides-eqb c.in_ok-strip_prefix.field-0.now (32 ∷ []) _ c.strip_prefix-2.ensures.cases) in
    rw c.from_residual-in_err-fields.ensures (record { goes = λ room. problem-unspaced room head other; small = tt })

pub returns : goal.returns
returns c =
    let head = rw c.in_ok-strip_prefix.was at (strip_prefix_is Decides-eqb c.args.line.now p_edge _ c.strip_prefix.ensures.cases) in
    let space = rw c.in_ok-fields.was at (strip_prefix_is Decides-eqb c.in_ok-strip_prefix.field-0.now (32 ∷ []) _ c.strip_prefix-2.ensures.cases) in
    record { goes = λ room. c.two_numbers.ensures.goes _ ∙ problem_fields room head space; small = c.two_numbers.ensures.small }
