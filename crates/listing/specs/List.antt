-- What the listing of a graph promises: the totals of replies to page calls, from the fresh position on, and whether one of them has said Finished.
-- Assumes nothing.
use Rattle.std.specs.Prelude.{ℕ, ◌*◌, ◌≤◌, ◌≡◌, true, List, length, Result, IfOk, MatchResult}
use Rattle.model.specs.Groups.{Settings}
use Rattle.model.specs.Walk.{Position, fresh, lasts, full_sets}
use Rattle.model.specs.Listing.{rules, record_length}
use Rattle.model.specs.Calls.{Call, refuse_settings, PageReply, reply_to}
use Rattle.model.specs.Demand.{left_at, all_steps, all_groups, SomeFinished}
use Rattle.model.specs.Program.{group_lines, held}
use Rattle.theory.specs.Replies.{Chain}
use Rattle.theory.specs.Printed.{printed_pages, Begins}
use Rattle.model.specs.Graph.{Graph, LentGraph}
use Rattle.graph.specs.Table.{lent}
use Rattle.graph.specs.declared.lent.Lent.{Lent}
use Rattle.listing.specs.declared.totals.Totals.{Totals}

-- what is lent, as a call has it
abbrev pub lent_of : Lent → LentGraph
lent_of g = lent g.table.n g.table.numbers.now g.degrees.now

-- a page call with the largest budget
abbrev pub turn_call : Lent → Settings → List ℕ → ℕ → Call
turn_call g s out work = record { lent = lent_of g; settings = s; budget = 4294967295; output = out; work = work }

-- the reply to it
abbrev pub turn_reply : Lent → Settings → Position → List ℕ → ℕ → PageReply
turn_reply g s p out work = reply_to (turn_call g s out work) p

-- a graph and settings without fault, its fresh position, and room for any record, for the work and for what is printed
pub record ListBegins (g : Lent) (s : Settings) (p out work bytes : List ℕ) : Type 0 where
  pub no_fault : (lent_of g).fault ≡ 0
  pub settings : refuse_settings s ≡ 0
  pub start : p ≡ fresh g.table.n
  pub output : record_length g.table.n ≤ length out
  pub room : 8 * g.table.n ≤ length work
  pub buffer : 6 * length out ≤ length bytes

-- the totals are those of replies, held
pub record TotalsOf (replies : List PageReply) (l : Totals) : Type 0 where
  pub groups : l.groups ≡ held (all_groups replies)
  pub steps : l.steps ≡ held (all_steps replies)

-- replies to page calls on the graph G, from fresh to the position p, with their totals held
pub record Paged (G : Graph) (s : Settings) (p : Position) (l : Totals) : Type 0 where
  pub replies : List PageReply
  pub chain : Chain (rules G s) (fresh G.size) replies
  pub left : left_at replies (fresh G.size) ≡ p
  pub totals : TotalsOf replies l

-- The whole list: one of the replies has said Finished, what is printed of them is a line for each group of the full list, and the totals are the
-- number of groups of the full list and the walk's length, both held.
pub record WholeList (G : Graph) (s : Settings) (replies : List PageReply) (l : Totals) : Type 0 where
  pub ended : SomeFinished replies
  pub pages : printed_pages replies ≡ group_lines G (full_sets (rules G s) G.size)
  pub full-groups : l.groups ≡ held (length (full_sets (rules G s) G.size))
  pub full-steps : (k : ℕ) × (lasts (rules G s) k (fresh G.size) ≡ true) × (l.steps ≡ held k)

-- The replies to page calls, from fresh on: what is printed of them is the beginning of the list's lines, and where the list is said to be whole it is all
-- of them. So a list is said to be whole only after a page has said Finished. That it is cut only at a write that failed, and then always, is in the code
-- alone: no contract can speak of what a write does.
pub record Ran (G : Graph) (s : Settings) (r : Result Totals Totals) : Type 0 where
  pub replies : List PageReply
  pub chain : Chain (rules G s) (fresh G.size) replies
  pub totals : MatchResult r (TotalsOf replies) (TotalsOf replies)
  pub begins : Begins (printed_pages replies) (group_lines G (full_sets (rules G s) G.size))
  pub whole-list : IfOk r (WholeList G s replies)
