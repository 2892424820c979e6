-- `listing::list_all` meets its contract. The loop keeps the replies so far; the weight of the position falls, since each page makes a step.
-- Assumes nothing.
use mathlib.Core.Path.{sym, ◌∙◌}
use Rattle.theory.proofs.Calls.Bounds.{page_bounds}
use Rattle.listing.proofs.PageByPage.{used-fits, paged_none, turned_cut, turned_whole, turned_paged, turned_falls}
use Rattle.listing.proofs.list_all.Goals as goal

pub loop-settings-init : goal.loop-settings-init
loop-settings-init g c = paged_none _ _ c.requires.start

-- the used entries of a page are within the output
pub print_page-requires-clause-used : goal.print_page-requires-clause-used
print_page-requires-clause-used g c = used-fits (page_bounds _ _) c.one_page-page.ensures

pub returns-then-is_err : goal.returns-then-is_err
returns-then-is_err g c =
    turned_cut c.requires c.loop-settings.invariant _ c.loop-settings.auto.work c.one_page-page.ensures c.add.ensures.groups c.add.ensures.steps

pub returns-then-page-from : goal.returns-then-page-from
returns-then-page-from g c =
    turned_whole c.requires c.loop-settings.invariant _ c.loop-settings.auto.work c.one_page-page.ensures c.add.ensures.groups c.add.ensures.steps (c.if-page-from.true ∙ c.from.ensures)

pub loop-settings-smaller : goal.loop-settings-smaller
loop-settings-smaller g c =
    turned_falls c.requires c.loop-settings.invariant _ c.loop-settings.auto.work c.one_page-page.ensures c.loop-settings.auto.output (λ e. c.if-page-from.false (e ∙ sym c.from.ensures))

pub loop-settings-preserved : goal.loop-settings-preserved
loop-settings-preserved g c =
    turned_paged c.requires c.loop-settings.invariant _ c.loop-settings.auto.work c.one_page-page.ensures c.add.ensures.groups c.add.ensures.steps
