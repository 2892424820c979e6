-- Demand 2: a set is in the finished list, and gets a yes from an accepted set query, if and only if it qualifies; and a text is read if and only if it
-- is an edge text within document 01's bounds, giving exactly its graph. Each is over the contract of the function that it speaks of.
-- Assumes nothing.
use Rattle.std.specs.Prelude.{ℕ, ◌*◌, ◌≡◌, ◌↔◌, List, ◌++◌, map, length, drop}
use Rattle.model.specs.Graph.{Graph}
use Rattle.model.specs.Groups.{Settings, settings}
use Rattle.model.specs.Meaning.{Qualifies, Simple, Lists}
use Rattle.model.specs.Walk.{Position, fresh, records}
use Rattle.model.specs.Listing.{rules}
use Rattle.model.specs.Calls.{refuse_table, by_bytes}
use Rattle.model.specs.Demand.{joined_output, SomeFinished}
use Rattle.model.specs.EdgeText.{EdgeText}
use Rattle.graph.specs.Table.{lent, graph_of}
use Rattle.query.specs.declared.SetAnswer.{SetAnswer}
use Rattle.query.specs.Query.{Answers}
use Rattle.dimacs.specs.declared.TextAnswer.{TextAnswer}
use Rattle.dimacs.specs.Reply.{ReadsAs}
use Rattle.demand.specs.Demand.{MadeCall, reported, Calls}

-- an accepted call of `query::set_query` says yes exactly where the set qualifies
abbrev pub QueryDemand : Type 0
QueryDemand =
    (n : ℕ) (t degrees set work work-left : List ℕ) (notion kind c : ℕ) (a : SetAnswer) → Answers (lent n t degrees) set work work-left notion kind c a → a.refusal ≡ 0
    → (a.yes ≡ 1) ↔ Qualifies (graph_of n t) (settings notion kind c) (by_bytes set)

-- once a call of `page::page` has said Finished, the joined output is the records of positions that list the sets that qualify: sound, complete, in order
abbrev pub ListDemand : Type 0
ListDemand =
    (G : Graph) (s : Settings) → Simple G → (cs : List MadeCall) → Calls G s (fresh G.size) cs → SomeFinished (map reported cs)
    → (ps : List Position) × (joined_output (map reported cs) ≡ records (rules G s) ps) × Lists G s ps

-- a call of `dimacs::read_text` that left a text read: N, M, line 0, the table, and the rest of the slice untouched
pub record Read (n m : ℕ) (t before after : List ℕ) (a : TextAnswer) : Type 0 where
  pub accepted : a.refusal ≡ 0
  pub vertices : a.vertices ≡ n
  pub edges : a.edges ≡ m
  pub line : a.line ≡ 0
  pub table : after ≡ t ++ drop (n * n) before
  pub never_refused : refuse_table n t ≡ 0

-- it reads a text exactly where it is an edge text for which the slice has room, and gives its graph
pub record TextDemand (text before after : List ℕ) (a : TextAnswer) : Type 0 where
  pub read_iff : (a.refusal ≡ 0) ↔ ((n : ℕ) × (m : ℕ) × (t : List ℕ) × EdgeText (length before) text n m t)
  pub graph : (n m : ℕ) (t : List ℕ) → EdgeText (length before) text n m t → Read n m t before after a

-- that of every call of `dimacs::read_text`
abbrev pub ReaderDemand : Type 0
ReaderDemand = (text before after : List ℕ) (a : TextAnswer) → ReadsAs text before after a → TextDemand text before after a
