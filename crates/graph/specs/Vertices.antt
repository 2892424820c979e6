-- Vertices in a lent slice.
-- Assumes nothing.
use Rattle.std.specs.Prelude.{ℕ, ◌<◌, List, EachIndex, slice_index}

-- the entries of the list are vertices of a graph on n vertices
abbrev pub VerticesOf : ℕ → List ℕ → Type 0
VerticesOf n vs = EachIndex vs (λ i. slice_index vs i < n)
