-- What the refusals of a position find.
-- Assumes nothing.
use Rattle.std.specs.Prelude.{ℕ, ◌≡◌, List, Result, IfOk}
use Rattle.model.specs.Graph.{Graph}
use Rattle.model.specs.Walk.{Position}
use Rattle.model.specs.Listing.{rules}
use Rattle.model.specs.Calls.{reopened, refuse_position}
use Rattle.refusal.specs.declared.Refusal.{Refusal}
use Rattle.refusal.specs.Numbers.{fault}
use Rattle.isolation.specs.declared.criterion.Criterion.{Criterion}
use Rattle.isolation.specs.Numbers.{settings_in}
use Rattle.state.specs.declared.State.{State}
use Rattle.state.specs.State.{Stands}

-- the refusal is that of the position, and where there is none the state and the memory stand for the position with its last decided rank opened
pub record PositionJudged (G : Graph) (q : Criterion) (p : Position) (memory : List ℕ) (r : Result State Refusal) : Type 0 where
  pub refused : fault r ≡ refuse_position (rules G (settings_in q)) p
  pub stands : IfOk r (Stands G (reopened p) memory)
