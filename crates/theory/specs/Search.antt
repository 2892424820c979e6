-- Document 01, "Which sets qualify", as code computes it: over the number of members, their degrees and lists of vertices.
-- Assumes nothing.
use Rattle.std.specs.Prelude.{ℕ, zero, suc, ◌+◌, ◌-◌, ◌*◌, ◌<◌, min, max, ◌≡◌, Bool, true, false, ◌&&◌, ◌||◌, not, cond, List, [], ◌∷◌, ◌++◌, length, get_or, ltb, eqb}
use Rattle.model.specs.Below.{implies, all, any}
use Rattle.model.specs.Graph.{Graph, degree}
use Rattle.model.specs.Groups.{Factor, VertexSet, within, size_of}
use Rattle.model.specs.Meaning.{In}

-- v is joined to every member
abbrev pub JoinsAll : Graph → VertexSet → ℕ → Type 0
JoinsAll G S v = (u : ℕ) → In G S u → G.joined v u ≡ true

-- a common neighbour of the set: a vertex outside it that is joined to every member
unfoldable pub common : Graph → VertexSet → ℕ → Bool
common G S v = not (S v) && all G.size (λ u. implies (S u) (G.joined v u))

-- the same as a proposition
pub record Common (G : Graph) (S : VertexSet) (v : ℕ) : Type 0 where
  pub vertex : v < G.size
  pub beyond : S v ≡ false
  pub joins : JoinsAll G S v

-- f of the members below n joined by op, from a start
unfoldable pub gather : (ℕ → ℕ → ℕ) → ℕ → ℕ → VertexSet → (ℕ → ℕ) → ℕ
gather op start zero S f = start
gather op start (suc n) S f = let rest = gather op start n S f in cond (S n) (op rest (f n)) rest

-- the members' degrees summed
unfoldable pub degree_sum : Graph → VertexSet → ℕ
degree_sum G S = gather ◌+◌ 0 G.size S (degree G)

-- the least degree of a member, and the number of vertices where there is no member
unfoldable pub least_degree : Graph → VertexSet → ℕ
least_degree G S = gather min G.size G.size S (degree G)

-- the largest degree of a member, and 0 where there is no member
unfoldable pub largest_degree : Graph → VertexSet → ℕ
largest_degree G S = gather max 0 G.size S (degree G)

-- the number of members and these, as numbers that code keeps
pub record Tally (G : Graph) (S : VertexSet) (k sum least largest : ℕ) : Type 0 where
  pub members : k ≡ size_of G S
  pub summed : sum ≡ degree_sum G S
  pub lowest : least ≡ least_degree G S
  pub highest : largest ≡ largest_degree G S

-- The isolation test of a clique from its k members' degrees: their sum, the least and the largest. A member's outside count is its degree less
-- k - 1.
unfoldable pub isolated_by : ℕ → Factor → ℕ → ℕ → ℕ → ℕ → Bool
isolated_by zero c k sum least largest = within c 1 (least - (k - 1))
isolated_by (suc zero) c k sum least largest = within c k (sum - k * (k - 1))
isolated_by (suc (suc m)) c k sum least largest = within c 1 (largest - (k - 1))

-- v is joined to each vertex of the list
unfoldable pub joined_all : Graph → ℕ → List ℕ → Bool
joined_all G v [] = true
joined_all G v (u ∷ us) = let rest = joined_all G v us in G.joined v u && rest

-- Document 01, "Forms to follow in each place": the recursive search over common neighbours for a larger isolated clique, the candidates left falling. A candidate is added
-- where it is joined to those added so far, or passed over. k, sum, least and largest are of the members with those added.
unfoldable pub find_larger : Graph → ℕ → Factor → List ℕ → ℕ → ℕ → ℕ → ℕ → List ℕ → Bool
find_larger G notion c added k sum least largest [] = false
find_larger G notion c added k sum least largest (v ∷ vs) =
    let d = degree G v in
    let here = isolated_by notion c (k + 1) (sum + d) (min least d) (max largest d) in
    let deeper = find_larger G notion c (added ++ (v ∷ [])) (k + 1) (sum + d) (min least d) (max largest d) vs in
    let rest = find_larger G notion c added k sum least largest vs in
    (joined_all G v added && (here || deeper)) || rest

-- v stands in the list
abbrev pub Listed : ℕ → List ℕ → Type 0
Listed v vs = (i : ℕ) × (i < length vs) × (get_or vs i 0 ≡ v)

-- the vertices that stand in the list
unfoldable pub among : List ℕ → VertexSet
among us v = any (length us) (λ i. eqb (get_or us i 0) v)

-- the list has the members of the set, every one, each once, in any order
pub record Members (G : Graph) (S : VertexSet) (us : List ℕ) : Type 0 where
  pub sound : (i : ℕ) → i < length us → In G S (get_or us i 0)
  pub complete : (v : ℕ) → In G S v → Listed v us
  pub once : (i j : ℕ) → i < length us → j < length us → get_or us i 0 ≡ get_or us j 0 → i ≡ j

-- the list has the common neighbours of the set, every one, in any order
pub record Candidates (G : Graph) (S : VertexSet) (vs : List ℕ) : Type 0 where
  pub sound : (i : ℕ) → i < length vs → (get_or vs i 0 < G.size) × (common G S (get_or vs i 0) ≡ true)
  pub complete : (v : ℕ) → v < G.size → common G S v ≡ true → Listed v vs

-- kind 0 with avg or max is searched for; for kind 1, and for min, a common neighbour decides
unfoldable pub searched : ℕ → ℕ → Bool
searched zero zero = false
searched zero (suc m) = true
searched (suc k) notion = false

-- whether an isolated clique with the candidates vs is not maximal, by kind, notion and factor
unfoldable pub beaten : Graph → ℕ → ℕ → Factor → ℕ → ℕ → ℕ → ℕ → List ℕ → Bool
beaten G kind notion c k sum least largest vs =
    let deep = find_larger G notion c [] k sum least largest vs in
    cond (searched kind notion) deep (ltb 0 (length vs))
