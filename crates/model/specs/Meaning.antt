-- Document 01, "Which sets qualify", and document 002, section 2, as propositions. `Rattle.theory.proofs.Graph.Meaning` proves that
-- `qualifies` computes exactly this.
-- Assumes nothing.
use Rattle.std.specs.Prelude.{ℕ, zero, suc, ◌*◌, ◌≤◌, ◌<◌, ◌≡◌, true, false, ◌≢◌, get_or}
use mathlib.Core.List.{List, [], ◌∷◌, Memᴰ}
use Rattle.model.specs.Graph.{Graph, degree, rank_of, vertex_at}
use Rattle.model.specs.Groups.{Factor, Settings, VertexSet, size_of, outside, outgoing}
use Rattle.model.specs.Walk.{Position}
use Rattle.model.specs.Listing.{taken_set}

-- no vertex is joined to itself
abbrev pub Loopless : Graph → Type 0
Loopless G = (u : ℕ) → u < G.size → G.joined u u ≡ false

-- two vertices are joined both ways or not at all
abbrev pub Symmetric : Graph → Type 0
Symmetric G = (u v : ℕ) → u < G.size → v < G.size → G.joined u v ≡ G.joined v u

-- Document 01, "Graph and ranks": n is at most 1,024, the diagonal is 0 and the table is symmetric
pub record Simple (G : Graph) : Type 0 where
  pub bounded : G.size ≤ 1024
  pub loopless : Loopless G
  pub symmetric : Symmetric G

-- Document 01, "Graph and ranks": every vertex has a rank of its own below n, a lower rank has no larger degree, and equal degrees go by smaller
-- vertex number
pub record Ranked (G : Graph) : Type 0 where
  pub below : (v : ℕ) → v < G.size → rank_of G v < G.size
  pub vertex_of_rank : (v : ℕ) → v < G.size → vertex_at G (rank_of G v) ≡ v
  pub rank_of-vertex : (r : ℕ) → r < G.size → (vertex_at G r < G.size) × (rank_of G (vertex_at G r) ≡ r)
  pub by_degree : (q r : ℕ) → q < r → r < G.size → degree G (vertex_at G q) ≤ degree G (vertex_at G r)
  pub by_number : (q r : ℕ) → q < r → r < G.size → degree G (vertex_at G q) ≡ degree G (vertex_at G r) → vertex_at G q < vertex_at G r

-- v is a vertex, and in the set
abbrev pub In : Graph → VertexSet → ℕ → Type 0
In G S v = (v < G.size) × (S v ≡ true)

-- Document 01: a clique is a non-empty set whose members are pairwise joined
pub record Clique (G : Graph) (S : VertexSet) : Type 0 where
  pub nonempty : (v : ℕ) × In G S v
  pub pairwise : (u v : ℕ) → In G S u → In G S v → u ≢ v → G.joined u v ≡ true

-- x is less than c × k
unfoldable pub Under : Factor → ℕ → ℕ → Type 0
Under c k x = x < c * k

-- Document 002, section 2.1. Notion 0, min: some member has outside count less than c, that is c × 1; notion 1, avg: the outside counts sum
-- to less than c × k; notion 2, max: every member has outside count less than c
abbrev pub Isolated : Graph → ℕ → Factor → VertexSet → Type 0
Isolated G zero c S = (u : ℕ) × In G S u × Under c 1 (outside G S u)
Isolated G (suc zero) c S = Under c (size_of G S) (outgoing G S)
Isolated G (suc (suc m)) c S = (u : ℕ) → In G S u → Under c 1 (outside G S u)

-- a clique that is isolated in the chosen notion
pub record IsolatedClique (G : Graph) (notion : ℕ) (c : Factor) (S : VertexSet) : Type 0 where
  pub clique : Clique G S
  pub isolated : Isolated G notion c S

-- L contains S and is larger
pub record Larger (G : Graph) (L S : VertexSet) : Type 0 where
  pub contains : (v : ℕ) → In G S v → In G L v
  pub further : (v : ℕ) × In G L v × (S v ≡ false)

-- what no larger set may be. Document 002, definition 2 (kind 0, maximal isolated): an isolated clique; definition 1 (kind 1, isolated
-- maximal): a clique
abbrev pub Rival : Graph → ℕ → ℕ → Factor → VertexSet → Type 0
Rival G zero notion c L = IsolatedClique G notion c L
Rival G (suc k) notion c L = Clique G L

-- the set qualifies: an isolated clique, and no larger set is its rival
pub record Qualifies (G : Graph) (s : Settings) (S : VertexSet) : Type 0 where
  pub isolated_clique_lem : IsolatedClique G s.notion s.factor S
  pub maximal : (L : VertexSet) → Larger G L S → Rival G s.kind s.notion s.factor L → ⊥

-- Document 01, "Which sets qualify", order of sets, as positions with all ranks decided: at the lowest rank where two sets differ, the one
-- holding that rank comes first
pub record Earlier (p q : Position) : Type 0 where
  pub rank : ℕ
  pub same-below : (i : ℕ) → i < rank → get_or p i 0 ≡ get_or q i 0
  pub holds : get_or p rank 0 ≡ 1
  pub lacks : get_or q rank 0 ≡ 2

-- each comes before all after it, so that none stands twice
abbrev pub Ordered : List Position → Type 0
Ordered [] = Unit {0}
Ordered (p ∷ ps) = ((q : Position) → Memᴰ q ps → Earlier p q) × Ordered ps

-- Document 01, "Which sets qualify": the full list has every set that qualifies, each once, in this order
pub record Lists (G : Graph) (s : Settings) (ps : List Position) : Type 0 where
  pub sound : (p : Position) → Memᴰ p ps → Qualifies G s (taken_set G p)
  pub complete : (S : VertexSet) → Qualifies G s S → (p : Position) × Memᴰ p ps × ((v : ℕ) → v < G.size → taken_set G p v ≡ S v)
  pub ordered : Ordered ps
