-- The members of a set in the work slice, and what is found of them.
-- Assumes nothing.
use Rattle.std.specs.Prelude.{ℕ, ◌*◌, ◌≤◌, ◌≡◌, Bool, List, length, get_or, take}
use Rattle.model.specs.Below.{all}
use Rattle.model.specs.Graph.{Graph}
use Rattle.model.specs.Groups.{VertexSet}
use Rattle.theory.specs.Parts.{part, members_at, HoldsVertices}
use Rattle.theory.specs.Search.{joined_all, Members}
use Rattle.graph.specs.Degrees.{HoldsDegrees}
use Rattle.isolation.specs.declared.Tally.{Tally}
use Rattle.isolation.specs.Numbers.{TallyOf}

-- n is at most 1,024, and the work slice has the parts 0 and 1
pub record MembersFit (n : ℕ) (w : List ℕ) : Type 0 where
  pub small : n ≤ 1024
  pub parts : 2 * n ≤ length w

-- the work slice has the parts 0 to 3, and the first k entries of part 1 are vertices of a graph of n
pub record HoldsMembers (n : ℕ) (w : List ℕ) (k : ℕ) : Type 0 where
  pub few : k ≤ n
  pub parts : 4 * n ≤ length w
  pub vertices : HoldsVertices n w (members_at n) k

-- the members l of a set are the first k entries of part 1, and the slice is as long as it was
pub record MembersIn (n : ℕ) (l before after : List ℕ) (k : ℕ) : Type 0 where
  pub listed : part after (members_at n) k ≡ l
  pub few : k ≤ n
  pub length-kept : length after ≡ length before

-- each vertex of the list is joined to all before it
unfoldable pub pairwise : Graph → List ℕ → Bool
pairwise G us = all (length us) (λ i. joined_all G (get_or us i 0) (take i us))

-- y holds the numbers of every set with these members, in every graph of n vertices whose degrees the list holds
abbrev pub Tallies : ℕ → List ℕ → List ℕ → Tally → Type 0
Tallies n degrees us y = (G : Graph) → G.size ≡ n → HoldsDegrees n G degrees → (S : VertexSet) → Members G S us → TallyOf G S y
