-- The refusal number of a position by the outcome of the tests.
-- Assumes nothing.
use mathlib.Core.Path.{◌≡◌}
use mathlib.Core.Bool.{Bool}
use Rattle.model.specs.Walk.{Position, Rules}
use Rattle.model.specs.Calls.{refuse, over, gap, reopened, refuse_position}

-- by the outcome of each test
pub position_by : (R : Rules) (p : Position) {a b d : Bool} → over 2 p ≡ a → gap p ≡ b → R.dead (reopened p) ≡ d
    → refuse 21 a (refuse 22 b (refuse 23 d 0)) ≡ refuse_position R p
unfolding refuse_position
position_by R p x y z = rw (x, y, z)
