-- `pack::ByteTable::check` meets its contract: each return goes by the tests that led there.
-- Assumes nothing.
use mathlib.Core.Path.{refl, sym, ◌∙◌}
use Rattle.model.specs.Calls.{refuse}
use Rattle.pack.proofs.Faults.{bytes_by}
use Rattle.pack.proofs.bytes.ByteTable.check.Goals as goal

pub returns-then-any_over : goal.returns-then-any_over
unfolding refuse
returns-then-any_over c = bytes_by _ _ (sym c.any_over.ensures ∙ c.if-any_over.true) refl refl

pub returns-then-has_loop : goal.returns-then-has_loop
unfolding refuse
returns-then-has_loop c = bytes_by _ _ (sym c.any_over.ensures ∙ c.if-any_over.false) (sym c.has_loop.ensures ∙ c.if-has_loop.true) refl

pub returns-then-has_one_way : goal.returns-then-has_one_way
unfolding refuse
returns-then-has_one_way c =
    bytes_by _ _ (sym c.any_over.ensures ∙ c.if-any_over.false) (sym c.has_loop.ensures ∙ c.if-has_loop.false) (sym c.has_one_way.ensures ∙ c.if-has_one_way.true)

pub returns : goal.returns
unfolding refuse
returns c =
    bytes_by _ _ (sym c.any_over.ensures ∙ c.if-any_over.false) (sym c.has_loop.ensures ∙ c.if-has_loop.false) (sym c.has_one_way.ensures ∙ c.if-has_one_way.false)
