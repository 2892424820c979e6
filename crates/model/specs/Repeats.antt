-- Document 02, C-11: texts that differ only in e lines whose pair is given again, in this direction or the other, in M, which counts the e lines
-- of each, and in comments. `Rattle.theory.proofs.Text.EdgeTextRepeats` shows that they are texts of one graph.
-- Assumes nothing.
use Rattle.std.specs.Prelude.{ℕ, ◌≡◌}
use mathlib.Core.List.{List, [], ◌∷◌, Memᴰ}
use Rattle.model.specs.EdgeText.{Lines, Line, comment, problem, edge, SpellAll, edges, HasPair, NoProblem}

-- what a line says, but for M
abbrev pub but_m : Line → Line
but_m comment = comment
but_m (problem n m) = problem n 0
but_m (edge u v) = edge u v

-- ys are the lines xs, M aside, with comments put in and e lines whose pair the lines `all` have, in either direction
pub data PutIn (all : List Line) : List Line → List Line → Type 0 where
  none : PutIn all [] []
  -- both have this line, but for M
  kept : {x y : Line} {xs ys : List Line} → but_m x ≡ but_m y → PutIn all xs ys → PutIn all (x ∷ xs) (y ∷ ys)
  -- a comment put in
  noted : {xs ys : List Line} → PutIn all xs ys → PutIn all xs (comment ∷ ys)
  -- an e line put in, after the p line: none is still to come
  repeated : {u v : ℕ} {xs ys : List Line} → HasPair all u v → NoProblem xs → PutIn all xs ys → PutIn all xs (edge u v ∷ ys)

-- both are the same lines, with repeated e lines and comments put in
pub record OnlyRepeats (xs ys : List Line) : Type 0 where
  pub shared : List Line
  pub first : PutIn shared shared xs
  pub second : PutIn shared shared ys

-- a text's lines say this, and every M that they state is the count of their e lines
pub record RightlyCounted (text : List ℕ) (said : List Line) : Type 0 where
  pub lines : List (List ℕ)
  pub cut : Lines text lines
  pub spelled : SpellAll lines said
  pub stated : (n m : ℕ) → Memᴰ (problem n m) said → m ≡ edges said

-- two texts that differ only in repeated e lines, each with its own right M
pub record DifferInRepeats (text other : List ℕ) : Type 0 where
  pub said : List Line
  pub other-said : List Line
  pub text-counted : RightlyCounted text said
  pub other-counted : RightlyCounted other other-said
  pub only : OnlyRepeats said other-said
