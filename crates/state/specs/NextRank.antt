-- What the functions that decide or open ranks leave behind: the state with the next rank decided, and the marks of the position.
-- Assumes nothing.
use Rattle.std.specs.Prelude.{ℕ, ◌+◌, ◌≤◌, ◌<◌, ◌≡◌, List, length, get_or}
use Rattle.model.specs.Graph.{Graph}
use Rattle.model.specs.Walk.{Position}
use Rattle.theory.specs.Parts.{part, left_ranks_at, candidates_at, Kept}
use Rattle.state.specs.State.{left_ranks, Stands}
use Rattle.state.specs.declared.State.{State}

-- q is p with rank d decided as x and all ranks after it open
pub record Decides (d x : ℕ) (p q : Position) : Type 0 where
  pub same_length : length q ≡ length p
  pub before : (r : ℕ) → r < d → get_or q r 0 ≡ get_or p r 0
  pub there : get_or q d 0 ≡ x
  pub then_open : (r : ℕ) → d < r → get_or q r 0 ≡ 0

-- The state s₂ with the work slice w₂ stands for each position that has the next rank decided as x, where the state s with the work slice w
-- stands for the position before.
pub record Pushed (G : Graph) (x : ℕ) (w : List ℕ) (s : State) (w₂ : List ℕ) (s₂ : State) : Type 0 where
  pub stands : (p q : Position) → Stands G p w s → Decides s.decided x p q → Stands G q w₂ s₂
  pub next : s₂.decided ≡ s.decided + 1

-- As the next rank is taken: part 2 holds the m left neighbours of the pivot of every position that then has it taken, and all else is as it was.
pub record LeftOnceTaken (G : Graph) (w : List ℕ) (s : State) (w₂ : List ℕ) (m : ℕ) : Type 0 where
  pub holds : (p q : Position) → Stands G p w s → Decides s.decided 1 p q → part w₂ (left_ranks_at G.size) m ≡ left_ranks G q
  pub few : m ≤ s.decided
  pub kept : Kept (left_ranks_at G.size) (candidates_at G.size) w w₂

-- the ranks from a to below e are open, and the others are as they were
pub record RanksOpened (a e : ℕ) (p q : Position) : Type 0 where
  pub same_length : length q ≡ length p
  pub cleared : (r : ℕ) → a ≤ r → r < e → get_or q r 0 ≡ 0
  pub below : (r : ℕ) → r < a → get_or q r 0 ≡ get_or p r 0
  pub above : (r : ℕ) → e ≤ r → get_or q r 0 ≡ get_or p r 0
