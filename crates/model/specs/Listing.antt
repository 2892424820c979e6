-- The rules of document 01 for the walk, the list and the page: the isolated cliques of a graph.
-- Assumes nothing.
use Rattle.std.specs.Prelude.{ℕ, ◌+◌, ◌/◌, ◌%◌, Bool, ◌&&◌, ◌||◌, not, List, ◌∷◌, map, length, get_or, ltb, eqb}
use Rattle.model.specs.Below.{any, count, least, passing}
use Rattle.model.specs.Graph.{Graph, rank_of, vertex_at}
use Rattle.model.specs.Groups.{Factor, Settings, VertexSet, within, outgoing, qualifies}
use Rattle.model.specs.Walk.{Position, Rules, has}

-- rank r of a position is x
abbrev pub is : ℕ → Position → ℕ → Bool
is x p r = eqb (get_or p r 0) x

-- the vertices at ranks r and s are joined
unfoldable pub adjacent : Graph → ℕ → ℕ → Bool
adjacent G r s = G.joined (vertex_at G r) (vertex_at G s)

-- Document 01, "Graph and ranks", and documents 000, section 2, and 002, section 2.2: the pivot of a set is its member of lowest rank, here as its
-- rank
unfoldable pub pivot : Graph → Position → ℕ
pivot G p = least G.size (is 1 p)

-- two taken ranks are not adjacent
unfoldable pub apart : Graph → Position → Bool
apart G p = any G.size (λ r. any G.size (λ s. ltb r s && is 1 p r && is 1 p s && not (adjacent G r s)))

-- how many neighbours of rank r are left
unfoldable pub left_neighbours : Graph → Position → ℕ → ℕ
left_neighbours G p r = count G.size (λ i. is 2 p i && adjacent G r i)

-- Document 01, "The walk": dead if two taken ranks are not adjacent, or if something is taken and at least c neighbours of the pivot are
-- left. It doesn't depend on notion or kind. Documents 000, section 2, and 002, section 2.2: a pivot has less than c outgoing edges
unfoldable pub dead : Graph → Factor → Position → Bool
dead G c p = apart G p || (has 1 p && not (within c 1 (left_neighbours G p (pivot G p))))

-- the vertices whose ranks are taken
unfoldable pub taken_set : Graph → Position → VertexSet
taken_set G p v = is 1 p (rank_of G v)

-- those vertices, in rank order
unfoldable pub taken_list : Graph → Position → List ℕ
taken_list G p = map (vertex_at G) (passing G.size (is 1 p))

-- Document 02, C-14: "The record is now size, outgoing edges div 65,536, the rest, then the vertices", here of the vertices vs with so many outgoing
-- edges
unfoldable pub record_with : ℕ → List ℕ → List ℕ
record_with edges vs = length vs ∷ edges / 65536 ∷ edges % 65536 ∷ vs

-- that of the taken set: its outside counts summed, and its vertices in rank order
unfoldable pub record_of : Graph → Position → List ℕ
record_of G p = record_with (outgoing G (taken_set G p)) (taken_list G p)

-- Document 02, C-14: "A group takes size + 3 entries", k being the size
abbrev pub record_length : ℕ → ℕ
record_length k = k + 3

-- the rules of a graph and settings
abbrev pub rules : Graph → Settings → Rules
rules G s =
    record {
      dead = dead G s.factor;
      listed = λ p. qualifies G s (taken_set G p);
      entries = record_of G;
    }
