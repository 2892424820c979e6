-- Parts of a lent slice, the names of those of the work slice, and what a function leaves of them.
-- Assumes nothing.
use Rattle.std.specs.Prelude.{ℕ, ◌+◌, ◌*◌, ◌≤◌, ◌<◌, ◌≡◌, List, length, get_or, take, drop}

-- k entries from entry a on
abbrev pub part : List ℕ → ℕ → ℕ → List ℕ
part w a k = take k (drop a w)

-- ---- the parts of the work slice, of n entries each, by the entry at which each begins

-- part 0: the taken ranks
abbrev pub taken_ranks_at : ℕ → ℕ
taken_ranks_at n = 0

-- part 1: the members of the set that is looked at, which in the walk are the taken vertices
abbrev pub members_at : ℕ → ℕ
members_at n = n

-- part 2: the ranks of the left neighbours of the pivot
abbrev pub left_ranks_at : ℕ → ℕ
left_ranks_at n = 2 * n

-- part 3: the candidates of the search for a larger clique
abbrev pub candidates_at : ℕ → ℕ
candidates_at n = 3 * n

-- part 4: the candidates' marks
abbrev pub marks_at : ℕ → ℕ
marks_at n = 4 * n

-- ---- what is left as it was

-- k entries from entry a on are as they were
abbrev pub SamePart : ℕ → ℕ → List ℕ → List ℕ → Type 0
SamePart a k before after = (i : ℕ) → i < k → get_or after (a + i) 0 ≡ get_or before (a + i) 0

-- the state's entries are as they were: part 0, the first k entries of part 1, part 2, and the slice's length
pub record StateKept (n k : ℕ) (before after : List ℕ) : Type 0 where
  pub taken_ranks_lem : SamePart (taken_ranks_at n) n before after
  pub members : SamePart (members_at n) k before after
  pub left_ranks_lem : SamePart (left_ranks_at n) n before after
  pub length-kept : length after ≡ length before

-- every entry outside a to b - 1 is as it was
pub record Kept (a b : ℕ) (before after : List ℕ) : Type 0 where
  pub below : (e : ℕ) → e < a → get_or after e 0 ≡ get_or before e 0
  pub above : (e : ℕ) → b ≤ e → get_or after e 0 ≡ get_or before e 0
  pub length-kept : length after ≡ length before

-- k entries from entry a on are vertices of a graph of n
abbrev pub HoldsVertices : ℕ → List ℕ → ℕ → ℕ → Type 0
HoldsVertices n w a k = (i : ℕ) → i < k → get_or w (a + i) 0 < n

-- a loop has written the k entries of the list l from entry a on, and every entry outside a to b - 1 is as it was
pub record Filled (a b : ℕ) (l before after : List ℕ) (k : ℕ) : Type 0 where
  pub listed : part after a k ≡ l
  pub kept : Kept a b before after

-- the candidates l are the first m entries of part 3, and the state's entries with k members are as they were
pub record CandidatesIn (n k : ℕ) (l before after : List ℕ) (m : ℕ) : Type 0 where
  pub listed : part after (candidates_at n) m ≡ l
  pub few : m ≤ n
  pub kept : StateKept n k before after
