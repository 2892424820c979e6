-- What the search for a larger isolated clique, and the test for being maximal, require and leave behind.
-- Assumes nothing.
use Rattle.std.specs.Prelude.{ℕ, ◌+◌, ◌-◌, ◌*◌, ◌≤◌, ◌<◌, ◌≡◌, Bool, false, ◌&&◌, not, ◌⊎◌, List, length, get_or}
use Rattle.model.specs.Graph.{Graph, degree}
use Rattle.model.specs.Groups.{VertexSet}
use Rattle.model.specs.Meaning.{Clique, Loopless, Symmetric}
use Rattle.theory.specs.Search.{Candidates}
use Rattle.isolation.specs.declared.criterion.Criterion.{Criterion}
use Rattle.isolation.specs.declared.Tally.{Tally}
use Rattle.isolation.specs.Numbers.{hopeless_of, beaten_of, TallyOf}
use Rattle.larger.specs.Numbers.{find_of, with_of, larger_of}
use Rattle.theory.specs.Parts.{part, candidates_at, HoldsVertices}
use Rattle.theory.specs.Marks.{StillIn, DroppedAt, BringsBack, count_in}
use Rattle.larger.specs.Places.{candidates_in, marks_in, KeptButMarks}

-- No degree of a vertex in the list is below r. That is all the search needs: a smaller number costs time, and no answer.
pub record Lowest (G : Graph) (us : List ℕ) (r : ℕ) : Type 0 where
  pub small : r ≤ 65535
  pub least : (e : ℕ) → e < length us → r ≤ degree G (get_or us e 0)

-- A state of the search: members with the numbers y, and candidates i to m - 1, of which `left` are still in. No mark is more than the number of members,
-- so that none is the depth of a further one. There is room for the candidates beside the members, and the sum of degrees is small.
pub record Room (n : ℕ) (w : List ℕ) (q : Criterion) (y : Tally) (low i m left : ℕ) : Type 0 where
  pub order : i ≤ m
  pub room : y.members + (m - i) ≤ n
  pub few : m ≤ n
  pub sum : y.sum ≤ 1024 * y.members
  pub low_small : low ≤ 65535
  pub candidates : HoldsVertices n w (candidates_at n) m
  pub depths : (e : ℕ) → e < m → marks_in n w e ≤ y.members
  pub still : left ≡ count_in (marks_in n w) i (m - i)

-- the same beside a candidate v that is to be added
pub record RoomWith (n : ℕ) (w : List ℕ) (q : Criterion) (y : Tally) (low v i m left : ℕ) : Type 0 where
  pub state : Room n w q y low i m left
  pub more : y.members + 1 + (m - i) ≤ n
  pub vertex : v < n

-- What the search leaves behind: it writes nothing but the marks of its candidates, and where it answers no the slice is as it was, every mark in its place.
pub record Restored (n m : ℕ) (before after : List ℕ) (r : Bool) : Type 0 where
  pub kept : KeptButMarks n 0 m before after
  pub on_no : r ≡ false → after ≡ before

-- what the search answers, and what it leaves behind
pub record Searched (G : Graph) (before after : List ℕ) (q : Criterion) (y : Tally) (low i m : ℕ) (r : Bool) : Type 0 where
  pub answer : r ≡ find_of G q low (candidates_in G.size before) (marks_in G.size before) y i (m - i)
  pub restored : Restored G.size m before after r

-- the same with v added
pub record SearchedWith (G : Graph) (before after : List ℕ) (q : Criterion) (y : Tally) (low v i m : ℕ) (r : Bool) : Type 0 where
  pub answer : r ≡ with_of G q low (candidates_in G.size before) (marks_in G.size before) y v i (m - i)
  pub restored : Restored G.size m before after r

-- A state of the search where the last of the members, which have the numbers z, was just added, which is at their depth: no candidate before place i dropped out
-- there.
pub record RoomBelow (n : ℕ) (w : List ℕ) (q : Criterion) (z : Tally) (low i m left : ℕ) : Type 0 where
  pub state : Room n w q z low i m left
  pub none : (e : ℕ) → e < i → DroppedAt z.members (marks_in n w) e → ⊥

-- What a return from the depth leaves: it brings back exactly those of the m candidates that dropped out there, and nothing is written but the marks of
-- candidates i to m - 1.
pub record Returned (n : ℕ) (before after : List ℕ) (depth i m : ℕ) : Type 0 where
  pub brings_back : BringsBack depth m (marks_in n before) (marks_in n after)
  pub kept : KeptButMarks n i m before after

-- what is found with those that are left, of which there are as many as the state says; where nothing is, the search has returned from the depth
pub record SearchedBelow (G : Graph) (before after : List ℕ) (q : Criterion) (z : Tally) (low i m left : ℕ) (r : Bool) : Type 0 where
  pub answer : r ≡ (not (hopeless_of q z left low) && find_of G q low (candidates_in G.size before) (marks_in G.size before) z i (m - i))
  pub kept : KeptButMarks G.size 0 m before after
  pub on_no : r ≡ false → Returned G.size before after z.members i m

-- The question that `beaten` answers: the numbers y are those of a clique in a graph with no loops that is symmetric, and the first m entries of
-- part 3 are its common neighbours. The members and these are no more than the vertices.
pub record Posed (G : Graph) (w : List ℕ) (q : Criterion) (y : Tally) (m : ℕ) : Type 0 where
  pub set : VertexSet
  pub room : y.members + m ≤ G.size
  pub loopless : Loopless G
  pub symmetric : Symmetric G
  pub clique : Clique G set
  pub tally : TallyOf G set y
  pub candidates : Candidates G set (part w (candidates_at G.size) m)

-- Whether some larger set is an isolated clique, and that nothing but the candidates' marks is written. Where the answer is no nothing is written at all, or every
-- candidate is in at the end, as at the start.
pub record Found (G : Graph) (before after : List ℕ) (q : Criterion) (y : Tally) (m : ℕ) (r : Bool) : Type 0 where
  pub answer : r ≡ larger_of G q y (part before (candidates_at G.size) m)
  pub kept : KeptButMarks G.size 0 m before after
  pub on_no : r ≡ false → (after ≡ before) ⊎ ((e : ℕ) → e < m → StillIn (marks_in G.size after) e)

-- the answer to the question, and the same
pub record Tested (G : Graph) (before after : List ℕ) (q : Criterion) (y : Tally) (m : ℕ) (r : Bool) : Type 0 where
  pub answer : r ≡ beaten_of G q y (part before (candidates_at G.size) m)
  pub kept : KeptButMarks G.size 0 m before after
