-- Document 02, C-14, as propositions: what a record says of a set, what the records of a list say, and what a page that stops Full wants.
-- `Walk.Records`, `Calls.Pages` and `Calls.Full` of `Rattle.theory.proofs` prove them, in this order, of graphs with at most 1,024 vertices.
-- Assumes nothing.
use Rattle.std.specs.Prelude.{ℕ, ◌+◌, ◌*◌, ◌<◌, ◌≡◌, true, ◌≢◌, length, get_or}
use mathlib.Core.List.{List, [], ◌∷◌, ◌++◌}
use Rattle.model.specs.Graph.{Graph, rank_of}
use Rattle.model.specs.Groups.{Settings, VertexSet, size_of, outgoing}
use Rattle.model.specs.Meaning.{In, Qualifies, Lists}
use Rattle.model.specs.Walk.{Position, decided, stopped_full}
use Rattle.model.specs.Listing.{taken_set, record_length}
use Rattle.model.specs.Calls.{PageReply}
use Rattle.model.specs.Demand.{joined_output, all_groups, SomeFinished}

-- "outgoing edges div 65,536, the rest": so many edges are 65,536 times the first entry and the second, which is below 65,536
abbrev pub MakeUp : ℕ → ℕ → ℕ → Type 0
MakeUp edges high low = (high * 65536 + low ≡ edges) × (low < 65536)

-- "The record is now size, outgoing edges div 65,536, the rest, then the vertices": what the entries say of the set
pub record RecordSays (G : Graph) (S : VertexSet) (es : List ℕ) : Type 0 where
  pub high : ℕ
  pub low : ℕ
  pub vertices : List ℕ
  pub entries : es ≡ size_of G S ∷ high ∷ low ∷ vertices
  -- "the edge count equals the summed outside counts", and its first part too fits an entry of 16 bits
  pub edges : MakeUp (outgoing G S) high low
  pub fits : high < 65536
  -- the vertices are the set's members, each once, in rank order
  pub members : length vertices ≡ size_of G S
  pub sound : (i : ℕ) → i < length vertices → In G S (get_or vertices i 0)
  pub complete : (v : ℕ) → In G S v → (i : ℕ) × (i < length vertices) × (get_or vertices i 0 ≡ v)
  pub in_rank_order : (i j : ℕ) → i < j → j < length vertices → rank_of G (get_or vertices i 0) < rank_of G (get_or vertices j 0)

-- the entries are, one after another, a record of each of these sets
abbrev pub Recorded : Graph → List Position → List ℕ → Type 0
Recorded G [] es = es ≡ []
Recorded G (p ∷ ps) es = (first : List ℕ) × (rest : List ℕ) × (es ≡ first ++ rest) × RecordSays G (taken_set G p) first × Recorded G ps rest

-- "Completeness is about the sets in the records": the joined output of a list of replies
pub record RecordsMade (G : Graph) (s : Settings) (rs : List PageReply) : Type 0 where
  -- the sets that qualify, each once, in the order of sets: the first of them, and the rest
  pub sets : List Position
  pub rest : List Position
  pub lists : Lists G s (sets ++ rest)
  -- it is a record of each of the first, one after another, and as many groups were reported
  pub recorded : Recorded G sets (joined_output rs)
  pub number : all_groups rs ≡ length sets
  -- once a call has said Finished there is no rest
  pub whole : SomeFinished rs → rest ≡ []

-- "A group takes size + 3 entries, at Full and in the wanted count too"
pub record Wants (G : Graph) (s : Settings) (r : PageReply) : Type 0 where
  -- a page that stops Full has reached a position with all ranks decided whose set qualifies; its record takes size + 3 entries, which are wanted, and
  -- fewer are unused
  pub full : r.stop ≡ stopped_full
      → (decided r.position ≡ true)
      × Qualifies G s (taken_set G r.position)
      × (r.wanted ≡ record_length (size_of G (taken_set G r.position)))
      × (length r.output < r.used + r.wanted)
  -- any other reply wants none
  pub else : r.stop ≢ stopped_full → r.wanted ≡ 0
