-- Document 02, C-12: the calls that join or part a pair, and the call that lists the degrees, as functions of their arguments.
-- Assumes nothing.
use Rattle.std.specs.Prelude.{ℕ, zero, suc, ◌+◌, ◌*◌, ◌-◌, ◌/◌, ◌%◌, ◌≤◌, ◌≡◌, Bool, true, false, ◌&&◌, not, ◌↔◌, ◌≢◌, ◌⊎◌, List, [], ◌∷◌, ◌++◌, length, get_or, set, ltb, eqb}
use Rattle.std.specs.Bool.{beq}
use Rattle.std.specs.Int.{bit_at}
use Rattle.model.specs.Graph.{Graph, LentGraph, row_length, by_packed, with_bits, degree_list}
use Rattle.model.specs.Calls.{refuse, or_else, packed_table, with_degrees}
use Rattle.model.specs.Fault.{Fault, numbered}

-- ---- an edit

-- "43 (edit, after 42) a vertex not below n; 44 (edit, after 43) both ends equal"
unfoldable pub refuse_pair : ℕ → ℕ → ℕ → ℕ
refuse_pair n u v = refuse 43 (not (ltb u n && ltb v n)) (refuse 44 (eqb u v) 0)

-- the refusal number of an edit: what is lent is tested first, and then the pair
unfoldable pub refuse_edit : LentGraph → ℕ → ℕ → ℕ
refuse_edit L u v = or_else L.fault (refuse_pair L.graph.size u v)

-- "its two degrees follow": one more where the pair is then joined, and one less where it is then parted
unfoldable pub moved : Bool → ℕ → ℕ
moved true k = k + 1
moved false k = k - 1

-- the list with the degree of u so
unfoldable pub recount : Bool → ℕ → List ℕ → List ℕ
recount b u d = set d u (moved b (get_or d u 0))

-- an edit's answer, and the table and the degree list as it leaves them
pub record EditReply : Type 0 where
  pub refused : ℕ
  pub unchanged : Bool
  pub table : List ℕ
  pub degrees : List ℕ

-- By the refusal number and whether the pair is so already, of a table t and a list d, and of t₁ and d₁, which have the pair so. "Joining a joined
-- pair, or parting a parted one, changes nothing, and only then the answer says so"; a refused call "has 0 in its other numbers and changes no lent
-- memory".
unfoldable pub edit_reply : ℕ → Bool → List ℕ → List ℕ → List ℕ → List ℕ → EditReply
edit_reply zero true t d t₁ d₁ = record { refused = 0; unchanged = true; table = t; degrees = d }
edit_reply zero false t d t₁ d₁ = record { refused = 0; unchanged = false; table = t₁; degrees = d₁ }
edit_reply (suc k) so t d t₁ d₁ = record { refused = suc k; unchanged = false; table = t; degrees = d }

-- The reply to an edit of what is lent as L in the table t with the list d: the pair of u and v is to be joined where b says so, and else parted. t₁ is
-- the table with the pair so.
unfoldable pub edit_to : LentGraph → Bool → ℕ → ℕ → List ℕ → List ℕ → List ℕ → EditReply
edit_to L b u v t d t₁ = edit_reply (refuse_edit L u v) (beq (L.graph.joined u v) b) t d t₁ (recount b u (recount b v d))

-- an edit of a packed table: "the pair is then joined, or parted, its two degrees follow, and no other entry is touched"; document 02, C-15: "an edit
-- touches no bit but the pair's two"
abbrev pub edit_call : Bool → ℕ → List ℕ → List ℕ → ℕ → ℕ → EditReply
edit_call b n t d u v = edit_to (with_degrees (packed_table n t) d) b u v t d (with_bits b n u v t)

-- ---- what a reader believes of it

-- the faults of an edit of what is lent with these faults
abbrev pub edit_faults : List Fault → ℕ → ℕ → ℕ → List Fault
edit_faults faults n u v = faults ++ (numbered 43 ((n ≤ u) ⊎ (n ≤ v)) ∷ numbered 44 (u ≡ v) ∷ [])

-- the graph H is G but for the pair of u and v, which is joined in H exactly where b says so
pub record ButFor (b : Bool) (u v : ℕ) (G H : Graph) : Type 0 where
  pub same_size : H.size ≡ G.size
  pub there : H.joined u v ≡ b
  pub and_back : H.joined v u ≡ b
  pub elsewhere : (x y : ℕ) → ((x ≡ u) × (y ≡ v) → ⊥) → ((x ≡ v) × (y ≡ u) → ⊥) → H.joined x y ≡ G.joined x y

-- an accepted edit of a packed table t of a graph on n vertices with the list d of its degrees
pub record Edited (b : Bool) (n u v : ℕ) (t d : List ℕ) (r : EditReply) : Type 0 where
  -- "the pair is then joined, or parted", in a graph that is otherwise the old one
  pub graph : ButFor b u v (by_packed n t) (by_packed n r.table)
  -- "its two degrees follow": the list is that of the new graph
  pub follows : r.degrees ≡ degree_list (by_packed n r.table)
  -- Document 02, C-15: "an edit touches no bit but the pair's two", bit v mod 64 of number v div 64 in the row of u and the other way round
  pub table-length : length r.table ≡ length t
  pub table-others : (i k : ℕ) → ((i ≡ u * row_length n + v / 64) × (k ≡ v % 64) → ⊥) → ((i ≡ v * row_length n + u / 64) × (k ≡ u % 64) → ⊥)
      → bit_at (get_or r.table i 0) k ≡ bit_at (get_or t i 0) k
  -- "no other entry is touched"
  pub degrees-length : length r.degrees ≡ length d
  pub degrees-others : (w : ℕ) → w ≢ u → w ≢ v → get_or r.degrees w 0 ≡ get_or d w 0
  -- "changes nothing, and only then the answer says so": unchanged exactly where the graph is the same, and then so is all that is lent
  pub unchanged_iff : (r.unchanged ≡ true) ↔ (by_packed n r.table ≡ by_packed n t)
  pub unchanged-all : r.unchanged ≡ true → (r.table ≡ t) × (r.degrees ≡ d)

-- ---- the list of degrees

-- the refusal number of the call that lists the degrees: what holds the graph is tested first, and then 42 is a list not n long
unfoldable pub refuse_list : LentGraph → List ℕ → ℕ
refuse_list L d = or_else L.fault (refuse 42 (not (eqb (length d) L.graph.size)) 0)

-- its answer, and the list as it leaves it
pub record DegreesReply : Type 0 where
  pub refused : ℕ
  pub degrees : List ℕ

-- by the refusal number: accepted, the degrees of the graph; refused, the list as it was
unfoldable pub degrees_reply : ℕ → Graph → List ℕ → DegreesReply
degrees_reply zero G d = record { refused = 0; degrees = degree_list G }
degrees_reply (suc k) G d = record { refused = suc k; degrees = d }

-- the reply to that call on what is lent as L, with a list that is handed as d
unfoldable pub degrees_to : LentGraph → List ℕ → DegreesReply
degrees_to L d = degrees_reply (refuse_list L d) L.graph d

-- the same of a packed table
abbrev pub degrees_call : ℕ → List ℕ → List ℕ → DegreesReply
degrees_call n t d = degrees_to (packed_table n t) d

-- the faults of that call on what is lent with these faults
abbrev pub list_faults : List Fault → ℕ → List ℕ → List Fault
list_faults faults n d = faults ++ (numbered 42 (length d ≢ n) ∷ [])
