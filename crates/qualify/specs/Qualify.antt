-- Which vertices can be added to the taken ones, and whether the taken set qualifies, as code computes them from the state of the walk.
-- Assumes nothing.
use Rattle.std.specs.Prelude.{ℕ, ◌-◌, ◌*◌, ◌≤◌, ◌<◌, ◌≡◌, Bool, cond, List, [], ◌∷◌, map, length, get_or}
use Rattle.model.specs.Graph.{Graph, degree, vertex_at}
use Rattle.model.specs.Meaning.{Simple}
use Rattle.model.specs.Walk.{Position, found}
use Rattle.model.specs.Listing.{taken_list, rules}
use Rattle.theory.specs.Search.{joined_all}
use Rattle.isolation.specs.declared.criterion.Criterion.{Criterion}
use Rattle.isolation.specs.declared.Tally.{Tally}
use Rattle.isolation.specs.Numbers.{settings_in}
use Rattle.theory.specs.Parts.{part, members_at, left_ranks_at, HoldsVertices, CandidatesIn}
use Rattle.graph.specs.Vertices.{VerticesOf}
use Rattle.state.specs.declared.State.{State}
use Rattle.state.specs.State.{left_ranks, degrees_of, Stands, StandsForOne}

-- those of the vertices vs that are joined to each of the vertices us, in their order
unfoldable pub joined_of : Graph → List ℕ → List ℕ → List ℕ
joined_of G us [] = []
joined_of G us (v ∷ vs) = let rest = joined_of G us vs in cond (joined_all G v us) (v ∷ rest) rest

-- the left neighbours of the pivot that are joined to each taken vertex
unfoldable pub candidates_of : Graph → Position → List ℕ
candidates_of G p = joined_of G (taken_list G p) (map (vertex_at G) (left_ranks G p))

-- what `candidates` asks for: taken vertices in part 1 of the work slice and left ranks in part 2
pub record Sifts (G : Graph) (w : List ℕ) (taken left : ℕ) : Type 0 where
  pub room : 8 * G.size ≤ length w
  pub few-taken : taken ≤ G.size
  pub few-left : left ≤ G.size
  pub vertices : HoldsVertices G.size w (members_at G.size) taken
  pub left_ranks_lem : HoldsVertices G.size w (left_ranks_at G.size) left

-- what it leaves: in part 3 m vertices, those of the left ones that are joined to each taken one; and that the state's entries are as they were
pub record Sifted (G : Graph) (before after : List ℕ) (taken left m : ℕ) : Type 0 where
  pub fewer : m ≤ left
  pub found : CandidatesIn G.size taken (joined_of G (part before (members_at G.size) taken) (map (vertex_at G) (part before (left_ranks_at G.size) left))) before after m

-- the taken set's numbers: how many, the sum of their degrees, the least, which is the first one's, and the largest, which is the last one's
abbrev pub tally_of : Graph → Position → Tally
tally_of G p =
    record {
      members = length (taken_list G p);
      sum = degrees_of G (taken_list G p);
      least = degree G (get_or (taken_list G p) 0 0);
      largest = degree G (get_or (taken_list G p) (length (taken_list G p) - 1) 0);
    }

-- the same as code reads them off the state and the taken vertices
abbrev pub read_tally : Graph → List ℕ → State → Tally
read_tally G vs s =
    record {
      members = s.taken;
      sum = s.sum;
      least = degree G (get_or vs 0 0);
      largest = degree G (get_or vs (s.taken - 1) 0);
    }

-- what reading them asks for: as many vertices of a graph on n as the state counts, and at least one
pub record TallyFits (n : ℕ) (vs : List ℕ) (s : State) : Type 0 where
  pub whole : length vs ≡ s.taken
  pub some : 0 < s.taken
  pub vertices : VerticesOf n vs

-- what `qualifies` asks for beside the ranked table: its graph is one of document 01, and the state stands for a position
pub record Asks (G : Graph) (w : List ℕ) (q : Criterion) (s : State) : Type 0 where
  pub simple : Simple G
  pub stands : StandsForOne G w s

-- its answer for each position for which the state stands, and that the state still stands for it
pub record SaysQualifies (G : Graph) (before after : List ℕ) (q : Criterion) (s : State) (r : Bool) : Type 0 where
  pub answer : (p : Position) → Stands G p before s → r ≡ found (rules G (settings_in q)) p
  pub stands : (p : Position) → Stands G p before s → Stands G p after s
  pub length-kept : length after ≡ length before
