-- Document 01, "Graph and ranks". A graph is its number of vertices and which of them are joined, whatever table holds it.
-- Assumes nothing.
use Rattle.std.specs.Prelude.{ℕ, zero, suc, ◌+◌, ◌-◌, ◌*◌, ◌/◌, ◌%◌, ◌^◌, Bool, ◌&&◌, ◌||◌, List, [], ◌++◌, get_or, set, ltb, eqb}
use Rattle.std.specs.Int.{bit_at}
use Rattle.model.specs.Below.{bit, count, total, least, listed}

-- the vertices are the numbers below `size`
pub record Graph : Type 0 where
  pub size : ℕ
  pub joined : ℕ → ℕ → Bool

-- A graph as a call is lent it, whatever holds it. A call goes by these two alone: the number of the first fault of what holds the graph, 0 where it
-- has none, and the graph, whose size is the n that the call is given.
pub record LentGraph : Type 0 where
  pub fault : ℕ
  pub graph : Graph

-- u and v are vertices, and f says that they are joined. What is not a vertex is joined to nothing, so that two tables that agree on the
-- vertices give one and the same graph
unfoldable pub among_vertices : ℕ → (ℕ → ℕ → Bool) → ℕ → ℕ → Bool
among_vertices n f u v = ltb u n && ltb v n && f u v

-- the graph on n vertices in which u and v are joined where f says so
abbrev pub on_vertices : ℕ → (ℕ → ℕ → Bool) → Graph
on_vertices n f = record { size = n; joined = among_vertices n f }

-- ---- a byte for each pair

-- Document 01, "Graph and ranks": byte u × n + v is 1 if u and v are joined
unfoldable pub byte_joined : ℕ → List ℕ → ℕ → ℕ → Bool
byte_joined n t u v = eqb (get_or t (u * n + v) 0) 1

-- Document 01, "Graph and ranks": the table is n × n bytes, row by row
abbrev pub by_table : ℕ → List ℕ → Graph
by_table n t = on_vertices n (byte_joined n t)

-- the table with x in both bytes of the pair of u and v: 1 joins it, and 0 parts it
unfoldable pub with_pair : ℕ → ℕ → ℕ → ℕ → List ℕ → List ℕ
with_pair x n u v t = set (set t (u * n + v) x) (v * n + u) x

-- ---- packed rows

-- Document 02, C-15: "Each row becomes ceil(n / 64) numbers of 64 bits"
unfoldable pub row_length : ℕ → ℕ
row_length n = (n + 63) / 64

-- Document 02, C-15, what the row of u has for v: "vertex v at bit v mod 64 (weight 2 to that power) of number v div 64"; bit k of x is x div 2 to the
-- power k, mod 2
unfoldable pub pair_bit : ℕ → List ℕ → ℕ → ℕ → ℕ
pair_bit n t u v = bit_at (get_or t (u * row_length n + v / 64) 0) (v % 64)

-- u and v are joined where that bit is 1
unfoldable pub packed_joined : ℕ → List ℕ → ℕ → ℕ → Bool
packed_joined n t u v = eqb (pair_bit n t u v) 1

-- the graph of a packed table: n rows, one after another
abbrev pub by_packed : ℕ → List ℕ → Graph
by_packed n t = on_vertices n (packed_joined n t)

-- Document 02, C-15, "an edit touches no bit but the pair's two": the number x with bit k as b says, and each other bit kept
unfoldable pub with_bit : Bool → ℕ → ℕ → ℕ
with_bit b k x = x - bit_at x k * 2 ^ k + bit b * 2 ^ k

-- the packed table with the bit that the row of u has for v as b says
unfoldable pub with_row_bit : Bool → ℕ → ℕ → ℕ → List ℕ → List ℕ
with_row_bit b n u v t = let i = u * row_length n + v / 64 in set t i (with_bit b (v % 64) (get_or t i 0))

-- the packed table with both bits of the pair of u and v so
unfoldable pub with_bits : Bool → ℕ → ℕ → ℕ → List ℕ → List ℕ
with_bits b n u v t = with_row_bit b n v u (with_row_bit b n u v t)

-- Document 02, C-15, the same numbers of any graph: number j of the row of u has the vertices from 64 × j on, each by its weight, and 0 past the last, since
-- what is not a vertex is joined to nothing
unfoldable pub packed_number : Graph → ℕ → ℕ → ℕ
packed_number G u j = total 64 (λ k. bit (G.joined u (64 * j + k)) * 2 ^ k)

-- the rows of the vertices below m
unfoldable pub packed_rows : Graph → ℕ → List ℕ
packed_rows G zero = []
packed_rows G (suc u) = packed_rows G u ++ listed (row_length G.size) (packed_number G u)

-- the packed table of a graph
abbrev pub packed_of : Graph → List ℕ
packed_of G = packed_rows G G.size

-- ---- degrees and ranks

-- Document 01, "Graph and ranks": the degree of a vertex is the ones in its row
unfoldable pub degree : Graph → ℕ → ℕ
degree G u = count G.size (G.joined u)

-- Document 02, C-12: the list of the n degrees, vertex by vertex
abbrev pub degree_list : Graph → List ℕ
degree_list G = listed G.size (degree G)

-- Document 01, "Graph and ranks": rank 0 is the vertex of least degree, and equal degrees go by smaller vertex number. So u comes before v
-- where it has the smaller degree, or the same degree and the smaller number. Documents 000, section 2, and 002, section 2.2, sort by degree too and
-- leave equal degrees open
unfoldable pub before : Graph → ℕ → ℕ → Bool
before G u v = ltb (degree G u) (degree G v) || (eqb (degree G u) (degree G v) && ltb u v)

-- the rank of v: how many vertices come before it; its index in documents 000, section 2, and 002, section 2.2
unfoldable pub rank_of : Graph → ℕ → ℕ
rank_of G v = count G.size (λ u. before G u v)

-- the vertex at rank r
unfoldable pub vertex_at : Graph → ℕ → ℕ
vertex_at G r = least G.size (λ v. eqb (rank_of G v) r)
