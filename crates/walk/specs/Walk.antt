-- What the functions that walk leave behind: the state as the next rank is decided, and the marks of the position.
-- Assumes nothing.
use Rattle.std.specs.Prelude.{ℕ, ◌-◌, ◌≤◌, ◌<◌, ◌≡◌, List, length, get_or}
use Rattle.model.specs.Graph.{Graph}
use Rattle.model.specs.Groups.{Settings}
use Rattle.model.specs.Meaning.{Simple}
use Rattle.model.specs.Walk.{Position, step}
use Rattle.model.specs.Listing.{rules}
use Rattle.model.specs.Calls.{refuse_position}
use Rattle.state.specs.State.{Stands}
use Rattle.state.specs.declared.State.{State}

-- the position passes refusals 21 to 23
abbrev pub Passes : Graph → Settings → Position → Type 0
Passes G q p = refuse_position (rules G q) p ≡ 0

-- Of some ranks the first are kept, where k ranks stay taken: none where k is 0; else the others, the last ones, are r or more, and the last one kept is
-- less.
pub record Trimmed (ranks : List ℕ) (k r kept : ℕ) : Type 0 where
  pub none : k ≡ 0 → kept ≡ 0
  pub fewer : kept ≤ length ranks
  pub dropped : 0 < k → (j : ℕ) → kept ≤ j → j < length ranks → r ≤ get_or ranks j 0
  pub last-kept : 0 < kept → get_or ranks (kept - 1) 0 < r

-- the position after a move, and the state and the work slice for it
pub record Moved (G : Graph) (q p₂ : Position) (w₂ : List ℕ) (s₂ : State) : Type 0 where
  pub position : p₂ ≡ q
  pub stands : Stands G q w₂ s₂

-- What a step goes by beside the ranked table: its graph is one of document 01, and the state and the work slice are for a position that passes refusals 21 to 23.
pub record Walking (G : Graph) (q : Settings) (p : Position) (w : List ℕ) (s : State) : Type 0 where
  pub simple : Simple G
  pub stands : Stands G p w s
  pub passes : Passes G q p

-- the same after a step, with a position that passes refusals 21 to 23 again
pub record Stepped (G : Graph) (q : Settings) (p p₂ : Position) (w₂ : List ℕ) (s₂ : State) : Type 0 where
  pub position : p₂ ≡ step (rules G q) p
  pub stands : Stands G (step (rules G q) p) w₂ s₂
  pub passes : Passes G q (step (rules G q) p)
