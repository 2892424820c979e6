-- What a call has that passes the refusals of its input.
-- Assumes nothing.
use Rattle.std.specs.Prelude.{ℕ, ◌≡◌, List}
use Rattle.graph.specs.Given.{LentAs}
use Rattle.graph.specs.declared.lent.Lent.{Lent}
use Rattle.isolation.specs.declared.Settings.{Settings}
use Rattle.isolation.specs.declared.criterion.Criterion.{Criterion}
use Rattle.isolation.specs.Numbers.{settings_of, settings_in}

-- the graph is that of the table and the list of degrees, and the criterion stands for the settings
pub record InputAs (n : ℕ) (held listed : List ℕ) (s : Settings) (r : Lent × Criterion) : Type 0 where
  pub graph : LentAs n held listed r.0
  pub settings : settings_in r.1 ≡ settings_of s
