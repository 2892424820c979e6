-- The ones in a packed row.
-- Assumes nothing.
use Rattle.std.specs.Prelude.{ℕ, ◌+◌, List, [], ◌∷◌, count_ones}

-- Document 02, C-15: "The ones in a row give its degree": those of each of its numbers, added up
unfoldable pub ones_of : List ℕ → ℕ
ones_of [] = 0
ones_of (x ∷ row) = count_ones x + ones_of row
