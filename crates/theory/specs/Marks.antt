-- Document 02, C-13: the search for a larger isolated clique over marks. Each candidate has a mark: 0 while it is still a candidate, else the depth at
-- which it dropped out. The depth is the number of members of the set that the search looks at: a member added at depth d is the set's d-th.
-- Assumes nothing.
use Rattle.std.specs.Prelude.{ℕ, zero, suc, ◌+◌, ◌<◌, min, max, ◌≡◌, Bool, false, ◌&&◌, ◌||◌, not, cond, eqb}
use Rattle.model.specs.Below.{bit}
use Rattle.model.specs.Graph.{Graph, degree}
use Rattle.model.specs.Groups.{Factor}
use Rattle.theory.specs.Search.{isolated_by}
use Rattle.theory.specs.Bound.{hopeless}

-- the mark of each candidate, by its place
abbrev pub Marks : Type 0
Marks = ℕ → ℕ

-- the candidate at place e is still in
abbrev pub StillIn : Marks → ℕ → Type 0
StillIn marks e = marks e ≡ 0

-- the same as a test
unfoldable pub still_in : Marks → ℕ → Bool
still_in marks e = eqb (marks e) 0

-- the candidate at place e dropped out at depth d
abbrev pub DroppedAt : ℕ → Marks → ℕ → Type 0
DroppedAt d marks e = marks e ≡ d

-- A member is added at depth d: the mark of a candidate that is or is not joined to it. A candidate that is still in and not joined to the member drops
-- out; every other mark is kept.
unfoldable pub dropped : ℕ → Bool → ℕ → ℕ
dropped d joined mark = cond (eqb mark 0 && not joined) d mark

-- the marks once the member v is added at depth d
unfoldable pub drop_out : Graph → (ℕ → ℕ) → ℕ → ℕ → Marks → Marks
drop_out G candidate v d marks e = dropped d (G.joined v (candidate e)) (marks e)

-- The search returns from depth d: a mark d is set back to 0, every other mark is kept.
unfoldable pub returned : ℕ → ℕ → ℕ
returned d mark = cond (eqb mark d) 0 mark

-- A return from depth d, of m candidates: it brings back exactly those that dropped out at the depth it leaves, and keeps every other mark. Who is in after it,
-- said at once, is the law `brings_back_exactly` in `proofs/Marks`.
pub record BringsBack (d m : ℕ) (before after : Marks) : Type 0 where
  pub back : (e : ℕ) → e < m → DroppedAt d before e → StillIn after e
  pub others : (e : ℕ) → e < m → (DroppedAt d before e → ⊥) → after e ≡ before e

-- the marks where every candidate is in
abbrev pub all_in : Marks
all_in e = 0

-- how many of the r candidates from place j on are still in
unfoldable pub count_in : Marks → ℕ → ℕ → ℕ
count_in marks j zero = 0
count_in marks j (suc r) = bit (still_in marks j) + count_in marks (suc j) r

-- What the search finds with v added to k members, of which sum, least and largest are the numbers: the set with v is isolated, or there is hope by the number of the
-- r candidates from place j on that are still in then, no degree of which is below low, and the search below v finds more.
abbrev pub found_with : Graph → ℕ → Factor → ℕ → (ℕ → ℕ) → Marks → ℕ → ℕ → ℕ → ℕ → ℕ → ℕ → ℕ → Bool → Bool
found_with G notion c low candidate marks k sum least largest v j r deeper =
    let d = degree G v in
    let here = isolated_by notion c (k + 1) (sum + d) (min least d) (max largest d) in
    let leaves = hopeless notion c low (count_in (drop_out G candidate v (k + 1) marks) j r) (k + 1) (sum + d) (min least d) (max largest d) in
    here || (not leaves && deeper)

-- The search of `Rattle.theory.specs.Search.find_larger` over marks, for the r candidates from place j on. A candidate that is still in is added, and the candidates after it are
-- searched with the marks that this leaves; else, and after that, it is passed over. A branch is left where nothing larger can be isolated by the candidates after it
-- that are still in.
unfoldable pub find_marked : Graph → ℕ → Factor → ℕ → (ℕ → ℕ) → Marks → ℕ → ℕ → ℕ → ℕ → ℕ → ℕ → Bool
find_marked G notion c low candidate marks k sum least largest j zero = false
find_marked G notion c low candidate marks k sum least largest j (suc r) =
    let v = candidate j in
    let d = degree G v in
    let deeper = find_marked G notion c low candidate (drop_out G candidate v (k + 1) marks) (k + 1) (sum + d) (min least d) (max largest d) (suc j) r in
    let rest = find_marked G notion c low candidate marks k sum least largest (suc j) r in
    let leaves = hopeless notion c low (count_in marks (suc j) r) k sum least largest in
    cond (still_in marks j) (found_with G notion c low candidate marks k sum least largest v (suc j) r deeper || (not leaves && rest)) rest

-- what the search finds with v added, among the r candidates from place j on
unfoldable pub find_with : Graph → ℕ → Factor → ℕ → (ℕ → ℕ) → Marks → ℕ → ℕ → ℕ → ℕ → ℕ → ℕ → ℕ → Bool
find_with G notion c low candidate marks k sum least largest v j r =
    let d = degree G v in
    let deeper = find_marked G notion c low candidate (drop_out G candidate v (k + 1) marks) (k + 1) (sum + d) (min least d) (max largest d) j r in
    found_with G notion c low candidate marks k sum least largest v j r deeper
