-- `request::verdict::decide` meets its contract: the words decide, or the text does. Assumes nothing.
use Rattle.std.proofs.lemmas.Result.{err_from_is_err_and}
use Rattle.request.proofs.JudgedText.{decides_wrong, decides_text}
use Rattle.request.proofs.verdict.decide.Goals as goal

pub returns-in_err-settings : goal.returns-in_err-settings
returns-in_err-settings c =
    let p = err_from_is_err_and c.from_residual.result c.from_residual.ensures.1 in
    rw (p.1, p.2) (decides_wrong c.in_err-settings.ensures)

pub returns : goal.returns
returns c = decides_text c.in_ok-settings.ensures c.judge.ensures
