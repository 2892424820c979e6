-- `request::words::Arguments::settings` meets its contract: each return goes by the tests that led there. Assumes nothing.
use Rattle.std.proofs.lemmas.Result.{err_from_is_err_and}
use Rattle.request.proofs.ReadWords.{read_count, read_first, read_second, read_third, read_bounds, read_chosen}
use Rattle.request.proofs.words.Arguments.settings.Goals as goal

pub returns-then-self-ne-WORDS : goal.returns-then-self-ne-WORDS
returns-then-self-ne-WORDS c = read_count _ c.if-self-ne-WORDS.true

pub returns-in_err-notion : goal.returns-in_err-notion
returns-in_err-notion c =
    let p = err_from_is_err_and c.from_residual.result c.from_residual.ensures.1 in
    let e = c.in_err-notion.ensures in
    rw (p.1, p.2, e.0) (read_first _ c.if-self-ne-WORDS.false e.1)

pub returns-in_err-kind : goal.returns-in_err-kind
returns-in_err-kind c =
    let p = err_from_is_err_and c.from_residual-in_err-kind.result c.from_residual-in_err-kind.ensures.1 in
    let e = c.in_err-kind.ensures in
    rw (p.1, p.2, e.0) (read_second _ c.if-self-ne-WORDS.false c.in_ok-notion.ensures e.1)

pub returns-in_err-factor : goal.returns-in_err-factor
returns-in_err-factor c =
    let p = err_from_is_err_and c.from_residual-in_err-factor.result c.from_residual-in_err-factor.ensures.1 in
    let e = c.in_err-factor.ensures in
    rw (p.1, p.2, e.0) (read_third _ c.if-self-ne-WORDS.false c.in_ok-notion.ensures c.in_ok-kind.ensures e.1)

pub returns-in_err-check : goal.returns-in_err-check
returns-in_err-check c =
    let p = err_from_is_err_and c.from_residual-in_err-check.result c.from_residual-in_err-check.ensures.1 in
    rw (p.1, p.2) (read_bounds _ c.if-self-ne-WORDS.false c.in_ok-notion.ensures c.in_ok-kind.ensures c.in_ok-factor.ensures c.in_err-check.ensures.refused)

pub returns : goal.returns
returns c = read_chosen _ c.if-self-ne-WORDS.false c.in_ok-notion.ensures c.in_ok-kind.ensures c.in_ok-factor.ensures c.in_ok-check.ensures.refused
