-- How the state of a page stands for a position: the one invariant of its functions.
-- Assumes nothing.
use Rattle.std.specs.Prelude.{ℕ, ◌+◌, ◌*◌, ◌≤◌, ◌<◌, ◌≡◌, Bool, false, ◌&&◌, ◌≢◌, List, [], ◌∷◌, length, get_or, take}
use Rattle.model.specs.Below.{passing}
use Rattle.model.specs.Graph.{Graph, degree}
use Rattle.theory.specs.Parts.{part, taken_ranks_at, members_at, left_ranks_at}
use Rattle.model.specs.Walk.{Position, has, finished}
use Rattle.model.specs.Listing.{is, adjacent, pivot, apart, taken_list, rules}
use Rattle.isolation.specs.declared.criterion.Criterion.{Criterion}
use Rattle.isolation.specs.Numbers.{settings_in}
use Rattle.state.specs.declared.State.{State}

-- the taken ranks, lowest first
unfoldable pub taken_ranks : Graph → Position → List ℕ
taken_ranks G p = passing G.size (is 1 p)

-- something is taken, and rank r is left and adjacent to the pivot
abbrev pub left_of_pivot : Graph → Position → ℕ → Bool
left_of_pivot G p r = has 1 p && is 2 p r && adjacent G (pivot G p) r

-- the left ranks that are adjacent to the pivot, lowest first; none where nothing is taken
unfoldable pub left_ranks : Graph → Position → List ℕ
left_ranks G p = passing G.size (left_of_pivot G p)

-- the degrees of the vertices, summed
unfoldable pub degrees_of : Graph → List ℕ → ℕ
degrees_of G [] = 0
degrees_of G (v ∷ vs) = degree G v + degrees_of G vs

-- The state s and the work slice w stand for the position p of the graph G. The work slice has three parts of n entries in use: part 0 for the
-- taken ranks, part 1 for their vertices and part 2 for the left neighbours of the pivot, each from its start. All other entries are free.
pub record Stands (G : Graph) (p : Position) (w : List ℕ) (s : State) : Type 0 where
  pub long : length p ≡ G.size
  pub room : 8 * G.size ≤ length w
  pub bound : s.decided ≤ G.size
  pub taken-bound : s.taken ≤ s.decided
  pub left-bound : s.left ≤ s.decided
  pub bytes : (r : ℕ) → get_or p r 0 ≤ 2
  pub decided : (r : ℕ) → r < s.decided → get_or p r 0 ≢ 0
  pub still_open : (r : ℕ) → s.decided ≤ r → get_or p r 0 ≡ 0
  pub ranks : part w (taken_ranks_at G.size) s.taken ≡ taken_ranks G p
  pub vertices : part w (members_at G.size) s.taken ≡ taken_list G p
  pub left : part w (left_ranks_at G.size) s.left ≡ left_ranks G p
  pub sum : s.sum ≡ degrees_of G (taken_list G p)
  pub apart : s.apart ≡ apart G p

-- the state of the fresh position: nothing is decided
abbrev pub fresh : State
fresh = record { decided = 0; taken = 0; left = 0; sum = 0; apart = false }

-- the first k entries are those of another slice, and the length stays
pub record Copied (k : ℕ) (from before after : List ℕ) : Type 0 where
  pub front : take k after ≡ take k from
  pub length-kept : length after ≡ length before

-- the state and the work slice stand for some position
abbrev pub StandsForOne : Graph → List ℕ → State → Type 0
StandsForOne G w s = (p : Position) × Stands G p w s

-- and a rank of it is open, so that a next rank can be decided
abbrev pub StandsOpen : Graph → List ℕ → State → Type 0
StandsOpen G w s = StandsForOne G w s × (s.decided < G.size)

-- what `finished` says of every position for which the state stands
abbrev pub SaysFinished : ℕ → State → Bool → Type 0
SaysFinished n s b = (G : Graph) (p : Position) (w : List ℕ) → G.size ≡ n → Stands G p w s → b ≡ finished p

-- what `is_dead` says of every position for which the state stands: whether the rules of the settings have it dead
abbrev pub SaysDead : Criterion → State → Bool → Type 0
SaysDead q s b = (G : Graph) (p : Position) (w : List ℕ) → Stands G p w s → b ≡ (rules G (settings_in q)).dead p
