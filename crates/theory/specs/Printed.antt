-- Document 01, "One set, one text, one program", as code computes it: what is printed of a page's output entries, one entry after another.
-- Assumes nothing.
use Rattle.std.specs.Prelude.{ℕ, zero, suc, ◌≡◌, List, [], ◌∷◌, ◌++◌, take}
use Rattle.model.specs.Calls.{PageReply}
use Rattle.model.specs.Program.{numeral}

-- What is printed of output entries where so many of the two entries that tell the outgoing edges of the record at hand are still to come, and so many
-- of its vertices: a space between two vertices, and byte 10 after the last of them. Document 02, C-14: "The program prints no edge counts."
unfoldable pub printed_from : ℕ → ℕ → List ℕ → List ℕ
printed_from (suc k) left [] = []
printed_from (suc k) left (e ∷ es) = printed_from k left es
printed_from zero zero [] = []
printed_from zero zero (zero ∷ es) = 10 ∷ printed_from 2 zero es
printed_from zero zero (suc k ∷ es) = printed_from 2 (suc k) es
printed_from zero (suc k) [] = []
printed_from zero (suc zero) (v ∷ es) = numeral (suc v) ++ (10 ∷ printed_from zero zero es)
printed_from zero (suc (suc k)) (v ∷ es) = numeral (suc v) ++ (32 ∷ printed_from zero (suc k) es)

-- what is printed of a page's output entries: a line for each record
unfoldable pub printed : List ℕ → List ℕ
printed es = printed_from 0 0 es

-- what is printed page by page: of each reply its used entries
unfoldable pub printed_pages : List PageReply → List ℕ
printed_pages [] = []
printed_pages (r ∷ rs) = printed (take r.used r.output) ++ printed_pages rs

-- the bytes xs are the first of ys
abbrev pub Begins : List ℕ → List ℕ → Type 0
Begins xs ys = (rest : List ℕ) × (ys ≡ xs ++ rest)
