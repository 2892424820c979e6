-- Where the candidates and their marks stand in the work slice, and what is left behind where a member is added.
-- Assumes nothing.
use Rattle.std.specs.Prelude.{ℕ, ◌+◌, ◌<◌, ◌≡◌, List, length, get_or}
use Rattle.theory.specs.Parts.{candidates_at, marks_at, Kept}
use Rattle.theory.specs.Marks.{Marks, drop_out, count_in}
use Rattle.model.specs.Graph.{Graph}

-- the candidates in the work slice, by place
abbrev pub candidates_in : ℕ → List ℕ → ℕ → ℕ
candidates_in n w e = get_or w (candidates_at n + e) 0

-- their marks
abbrev pub marks_in : ℕ → List ℕ → Marks
marks_in n w e = get_or w (marks_at n + e) 0

-- the marks in a slice that holds nothing else
abbrev pub marks_of : List ℕ → Marks
marks_of marks e = get_or marks e 0

-- every entry but the marks of candidates i to m - 1 is as it was
abbrev pub KeptButMarks : ℕ → ℕ → ℕ → List ℕ → List ℕ → Type 0
KeptButMarks n i m = Kept (marks_at n + i) (marks_at n + m)

-- Of the candidates, which had these marks before and have those in the slice after, each that was still in and is not joined to v has dropped out at the depth;
-- r of them have.
pub record Dropped (G : Graph) (candidates : List ℕ) (before : Marks) (after : List ℕ) (v depth r : ℕ) : Type 0 where
  pub marks : (e : ℕ) → e < length after → marks_of after e ≡ drop_out G (marks_of candidates) v depth before e
  pub out : r + count_in (marks_of after) 0 (length after) ≡ count_in before 0 (length after)
