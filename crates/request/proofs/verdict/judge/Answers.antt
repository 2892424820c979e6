-- `request::verdict::judge` meets its contract. Assumes nothing.
use mathlib.Core.Path.{refl, sym}
use Rattle.std.proofs.lemmas.Result.{err_from_is_err_and}
use Rattle.isolation.specs.Numbers.{settings_of}
use Rattle.request.proofs.JudgedText.{judged_long, judged_refused, judged_graph, read_few}
use Rattle.request.proofs.verdict.judge.Goals as goal

pub returns-then-text_too_long : goal.returns-then-text_too_long
returns-then-text_too_long c = rw c.into.ensures (judged_long _ (sym c.if-text_too_long.ensures))

pub returns-in_err-said : goal.returns-in_err-said
returns-in_err-said c =
    let p = err_from_is_err_and c.from_residual.result c.from_residual.ensures.1 in
    rw (p.1, p.2) (judged_refused _ _ c.requires.table_clear (sym c.if-text_too_long.ensures) c.in_err-said.ensures)

pub invariant_of-result : goal.invariant_of-result
invariant_of-result c =
    record {
      proper = c.requires.settings_pass;
      few = read_few (settings_of c.args.settings) _ c.requires.table_clear (sym c.if-text_too_long.ensures) c.in_ok-said.said c.in_ok-said.ensures c.read.auto.table;
    }

pub returns : goal.returns
returns c = judged_graph _ _ c.requires.table_clear (sym c.if-text_too_long.ensures) c.in_ok-said.said refl c.in_ok-said.ensures
