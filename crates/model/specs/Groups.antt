-- Document 01, "Which sets qualify", and document 002, section 2: each notion as a test that computes. `Meaning` states the same as
-- propositions, and `Rattle.theory.proofs.Graph.Meaning` proves that they agree.
-- Assumes nothing.
use Rattle.std.specs.Prelude.{ℕ, zero, suc, ◌*◌, Bool, false, ◌&&◌, ◌||◌, not, cond, ltb, eqb}
use Rattle.model.specs.Below.{implies, all, any, count, total}
use Rattle.model.specs.Graph.{Graph}

-- a set of vertices, as a test; what it says of numbers that are no vertices has no bearing on anything
abbrev pub VertexSet : Type 0
VertexSet = ℕ → Bool

-- the factor c. Document 002, section 2.1, keeps it whole for simplicity
abbrev pub Factor : Type 0
Factor = ℕ

-- what a call fixes beside the graph: notion 0 min, 1 avg, 2 max; kind 0 maximal isolated, 1 isolated maximal; the factor c
pub record Settings : Type 0 where
  pub notion : ℕ
  pub kind : ℕ
  pub factor : Factor

-- the settings of a notion, a kind and a factor, as a call gives them
abbrev pub settings : ℕ → ℕ → ℕ → Settings
settings notion kind c = record { notion = notion; kind = kind; factor = c }

-- x is less than c × k: the one comparison with the factor. Document 002, section 2.1: "less than", never "at most"
unfoldable pub within : Factor → ℕ → ℕ → Bool
within c k x = ltb x (c * k)

-- how many members
unfoldable pub size_of : Graph → VertexSet → ℕ
size_of G S = count G.size S

-- Document 01: a clique is a non-empty set whose members are pairwise joined
unfoldable pub clique : Graph → VertexSet → Bool
clique G S =
    any G.size S
    && all G.size (λ u. all G.size (λ v. implies (S u && S v && not (eqb u v)) (G.joined u v)))

-- Document 01: for a member, its outside count is its neighbours not in the set
unfoldable pub outside : Graph → VertexSet → ℕ → ℕ
outside G S u = count G.size (λ v. G.joined u v && not (S v))

-- Document 002, section 2.1, min-c-isolated (notion 0): some member has outside count less than c
unfoldable pub isolated_min : Graph → Factor → VertexSet → Bool
isolated_min G c S = any G.size (λ u. S u && within c 1 (outside G S u))

-- the outside counts of the members, summed: the outgoing edges of document 002, section 2.1
unfoldable pub outgoing : Graph → VertexSet → ℕ
outgoing G S = total G.size (λ u. cond (S u) (outside G S u) 0)

-- Document 002, section 2.1, avg-c-isolated (notion 1): the outside counts sum to less than c × k
unfoldable pub isolated_avg : Graph → Factor → VertexSet → Bool
isolated_avg G c S = within c (size_of G S) (outgoing G S)

-- Document 002, section 2.1, max-c-isolated (notion 2): every member has outside count less than c
unfoldable pub isolated_max : Graph → Factor → VertexSet → Bool
isolated_max G c S = all G.size (λ u. implies (S u) (within c 1 (outside G S u)))

-- isolated in the chosen notion, one of the three of document 002, section 2.1
unfoldable pub isolated : Graph → ℕ → Factor → VertexSet → Bool
isolated G zero c S = isolated_min G c S
isolated G (suc zero) c S = isolated_avg G c S
isolated G (suc (suc m)) c S = isolated_max G c S

-- L contains S and has a member more
unfoldable pub larger : Graph → VertexSet → VertexSet → Bool
larger G L S =
    all G.size (λ v. implies (S v) (L v)) && any G.size (λ v. L v && not (S v))

-- S and n
abbrev pub with_vertex : ℕ → VertexSet → VertexSet
with_vertex n S v = eqb v n || S v

-- some set of vertices below n passes P
unfoldable pub some_set : ℕ → (VertexSet → Bool) → Bool
some_set zero P = P (λ v. false)
some_set (suc n) P =
    let out = some_set n P in
    some_set n (λ S. P (with_vertex n S)) || out

-- a clique that is isolated in the chosen notion
unfoldable pub isolated_clique : Graph → ℕ → Factor → VertexSet → Bool
isolated_clique G notion c S = clique G S && isolated G notion c S

-- some larger set passes P
unfoldable pub some_larger : Graph → VertexSet → (VertexSet → Bool) → Bool
some_larger G S P = some_set G.size (λ L. larger G L S && P L)

-- what no larger set may be. Document 002, definition 2 (kind 0, maximal isolated): an isolated clique; definition 1 (kind 1, isolated
-- maximal): a clique. The max screening of documents 000, section 3.2, and 002, section 2.2.3, is not used: x + 1 common neighbours of degree at most
-- size + c + x do not make an isolated clique, x + 2 are needed (K5)
unfoldable pub rival : Graph → ℕ → ℕ → Factor → VertexSet → Bool
rival G zero notion c L = isolated_clique G notion c L
rival G (suc k) notion c L = clique G L

-- the set qualifies: an isolated clique, and no larger set is its rival
unfoldable pub qualifies : Graph → Settings → VertexSet → Bool
qualifies G s S =
    isolated_clique G s.notion s.factor S && not (some_larger G S (rival G s.kind s.notion s.factor))
