-- What the lines of a text say, as numbers. Assumes nothing.
use Rattle.std.specs.Prelude.{ℕ, ◌*◌, Bool, true, false}
use Rattle.lines.specs.declared.said.Progress.{Progress}
use Rattle.lines.specs.declared.said.Progress.TheVariants.{Before, Passed}

-- whether a p line passed
abbrev pub passed_of : Progress → Bool
passed_of (Passed s) = true
passed_of (Before c) = false

-- N, 0 before a p line, M and the count of e lines
abbrev pub vertices_of : Progress → ℕ
vertices_of (Passed s) = s.vertices
vertices_of (Before c) = 0

abbrev pub stated_of : Progress → ℕ
stated_of (Passed s) = s.stated
stated_of (Before c) = c.stated

abbrev pub edges_of : Progress → ℕ
edges_of (Passed s) = s.edges
edges_of (Before c) = c.edges

-- the bytes of the table slice that are the table: the first N × N
abbrev pub area_of : Progress → ℕ
area_of s = vertices_of s * vertices_of s
