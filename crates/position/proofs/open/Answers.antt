-- `position::open` meets its contract: each return goes by the tests that led there.
-- Assumes nothing.
use mathlib.Core.Path.{◌≡◌, refl, sym, ◌∙◌}
use mathlib.Core.Bool.{false}
use native.Mathlib.Omega.{arith}
use Rattle.model.specs.Listing.{rules}
use Rattle.model.specs.Calls.{refuse, over, gap}
use Rattle.isolation.specs.Numbers.{settings_in}
use Rattle.position.proofs.Refusals.{position_by}
use Rattle.position.proofs.open.Goals as goal
use Rattle.position.proofs.open.Goals.{Else-any_over, Else-has_gap}

pub returns-then-any_over : goal.returns-then-any_over
unfolding refuse
returns-then-any_over c =
    record { refused = position_by (rules _ (settings_in c.args.q)) _ (sym c.any_over.ensures ∙ c.if-any_over.true) refl refl; stands = tt }

-- no byte is over 2
bytes : (c : Else-any_over) → over 2 c.args.position.now ≡ false
bytes c = sym c.any_over.ensures ∙ c.if-any_over.false

pub returns-then-has_gap : goal.returns-then-has_gap
unfolding refuse
returns-then-has_gap c =
    record {
      refused = position_by (rules _ (settings_in c.args.q)) _ (bytes (goal.at.returns-then-has_gap c).Else-any_over) (sym c.has_gap.ensures ∙ c.if-has_gap.true) refl;
      stands = tt;
    }

-- nor is a decided rank after an open one
gapless : (c : Else-has_gap) → gap c.args.position.now ≡ false
gapless c = sym c.has_gap.ensures ∙ c.if-has_gap.false

pub rebuild-s-requires : goal.rebuild-s-requires
rebuild-s-requires c =
    let q = c.requires in
    (q.0, q.1, bytes (goal.at.rebuild-s-requires c).Else-any_over, gapless (goal.at.rebuild-s-requires c).Else-has_gap, omega (arith, c.saturating_sub-last.ensures, c.decided_count.ensures))

pub returns-then-is_dead : goal.returns-then-is_dead
unfolding refuse
returns-then-is_dead c =
    record {
      refused = position_by (rules _ (settings_in c.args.q)) _ (bytes (goal.at.returns-then-is_dead c).Else-any_over) (gapless (goal.at.returns-then-is_dead c).Else-has_gap) (sym (c.is_dead.ensures _ _ _ c.rebuild-s.ensures) ∙ c.if-is_dead.true);
      stands = tt;
    }

pub returns : goal.returns
unfolding refuse
returns c =
    record {
      refused = position_by (rules _ (settings_in c.args.q)) _ (bytes (goal.at.returns c).Else-any_over) (gapless (goal.at.returns c).Else-has_gap) (sym (c.is_dead.ensures _ _ _ c.rebuild-s.ensures) ∙ c.if-is_dead.false);
      stands = c.rebuild-s.ensures;
    }
