-- What an accepted page call has before its walk goes on.
-- Assumes nothing.
use Rattle.std.specs.Prelude.{ℕ, ◌*◌, ◌≤◌, ◌≡◌, List}
use Rattle.model.specs.Graph.{Graph}
use Rattle.model.specs.Meaning.{Simple}
use Rattle.model.specs.Walk.{Position}
use Rattle.model.specs.Listing.{rules}
use Rattle.model.specs.Calls.{reopened, refuse_position}
use Rattle.graph.specs.Given.{LentAs}
use Rattle.ranks.specs.declared.ranked.Ranked.{Ranked}
use Rattle.ranks.specs.Held.{ranked_graph}
use Rattle.isolation.specs.declared.Settings.{Settings}
use Rattle.isolation.specs.declared.criterion.Criterion.{Criterion}
use Rattle.isolation.specs.Numbers.{settings_of, settings_in}
use Rattle.state.specs.declared.State.{State}
use Rattle.state.specs.State.{Stands}

-- A call on a graph of document 01 with the settings q, the position p and a work slice of so many entries passes all refusals, and the state and the memory stand
-- for the position with its last decided rank opened.
pub record Accepted (G : Graph) (q : Criterion) (p : Position) (work : ℕ) (memory : List ℕ) (s : State) : Type 0 where
  pub simple : Simple G
  pub enough : 8 * G.size ≤ work
  pub passes : refuse_position (rules G (settings_in q)) p ≡ 0
  pub stands : Stands G (reopened p) memory s

-- What an accepted call with the table t, the degrees d, n, the settings s, the position p and a work slice of so many entries goes on with: its graph in rank
-- order, the criterion of its settings, and the state of its position with the last decided rank opened.
pub record CallAccepted (n : ℕ) (t d : List ℕ) (s : Settings) (p : Position) (work : ℕ) (memory : List ℕ) (r : Ranked × Criterion × State) : Type 0 where
  pub graph : LentAs n t d r.0.lent
  pub settings : settings_in r.1 ≡ settings_of s
  pub accepted : Accepted (ranked_graph r.0) r.1 p work memory r.2
