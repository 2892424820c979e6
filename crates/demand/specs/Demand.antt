-- Document 01, demand 3, of the calls of `page::page`: a single claim about a whole list of page calls.
-- Assumes nothing.
use Rattle.std.specs.Prelude.{ℕ, ◌≤◌, ◌≡◌, false, ◌≢◌, List, [], ◌∷◌, map, length}
use Rattle.model.specs.Graph.{Graph}
use Rattle.model.specs.Groups.{Settings, settings, VertexSet}
use Rattle.model.specs.Meaning.{Qualifies, Simple}
use Rattle.model.specs.Walk.{Position, fresh, finished}
use Rattle.model.specs.Listing.{rules, record_length}
use Rattle.model.specs.Calls.{PageReply}
use Rattle.model.specs.Demand.{joined_output, SomeFinished, Demand3}
use Rattle.graph.specs.Table.{lent_table, lent, graph_of}
use Rattle.rounds.specs.declared.PageAnswer.{PageAnswer}
use Rattle.page.specs.Call.{PageCalled}

-- One call of `page::page`: the values of its arguments, the slices as it was handed them, its answer, and the slices as it left them.
pub record MadeCall : Type 0 where
  pub table : List ℕ
  pub degrees : List ℕ
  pub position : Position
  pub output : List ℕ
  pub work : List ℕ
  pub size : ℕ
  pub notion : ℕ
  pub kind : ℕ
  pub factor : ℕ
  pub budget : ℕ
  pub answer : PageAnswer
  pub position-left : Position
  pub output-left : List ℕ
  pub work-left : List ℕ

-- the call keeps the promise of `page::page`: these are the words of its `ensures`
abbrev pub Promised : MadeCall → Type 0
Promised c =
    PageCalled (lent c.size c.table c.degrees) (settings c.notion c.kind c.factor) c.budget c.position c.output c.work
    c.answer c.position-left c.output-left c.work-left

-- what a call reported, with the position and the output as it left them
abbrev pub reported : MadeCall → PageReply
reported c =
    record {
      refused = c.answer.refusal;
      stop = c.answer.stop;
      groups = c.answer.groups;
      used = c.answer.used;
      steps = c.answer.steps;
      wanted = c.answer.wanted;
      position = c.position-left;
      output = c.output-left;
    }

-- a call of a list on the graph G with the settings s, where the position is p
pub record OneOf (G : Graph) (s : Settings) (p : Position) (c : MadeCall) : Type 0 where
  -- it keeps the promise of `page::page`
  pub promised : Promised c
  -- it is handed the position as the call before it left it, and nobody else writes it meanwhile
  pub handed : c.position ≡ p
  -- "Every accepted call brings this graph's table and this notion, kind and factor. A refused call may bring anything else beside the position."
  pub agrees : c.answer.refusal ≡ 0 → (graph_of c.size c.table ≡ G) × (settings c.notion c.kind c.factor ≡ s)

-- a list of calls of which the first is handed p, and each later one the position as the call before it left it
abbrev pub Calls : Graph → Settings → Position → List MadeCall → Type 0
Calls G s p [] = Unit {0}
Calls G s p (c ∷ cs) = OneOf G s p c × Calls G s c.position-left cs

-- what demand 3 says of each call by itself
pub record EachCall (c : MadeCall) : Type 0 where
  -- "steps made equal the budget: stop Spent": never more steps than the budget
  pub within-budget : c.answer.steps ≤ c.budget
  -- "With budget 1 or more and output of n + 1 entries or more, a call on an unfinished walk makes at least one step." Document 02, C-14: "the progress
  -- rule wants n + 3"
  pub makes_step : c.answer.refusal ≡ 0 → finished c.position ≡ false → 1 ≤ c.budget → record_length c.size ≤ length c.output → 1 ≤ c.answer.steps
  -- a refused call "adds no output, groups or steps", and leaves the lent memory unchanged
  pub refused_idle : c.answer.refusal ≢ 0
      → (c.answer.used ≡ 0) × (c.answer.groups ≡ 0) × (c.answer.steps ≡ 0) × (c.position-left ≡ c.position) × (c.output-left ≡ c.output) × (c.work-left ≡ c.work)

-- that of every call of the list
abbrev pub Every : List MadeCall → Type 0
Every [] = Unit {0}
Every (c ∷ cs) = EachCall c × Every cs

-- "After the list:"
pub record PageDemand (G : Graph) (s : Settings) (cs : List MadeCall) : Type 0 where
  -- the four points of demand 3, of what the calls reported
  pub done : Demand3 (rules G s) G.size (map reported cs)
  -- "A page that says Finished with an empty list: demand 3 shuts it out, no output meaning no qualifying set."
  pub none-qualifies : SomeFinished (map reported cs) → joined_output (map reported cs) ≡ [] → (S : VertexSet) → Qualifies G s S → ⊥
  pub each : Every cs

-- Demand 3: of every graph of document 01, all settings, and any list of calls of `page::page` that begins at fresh, the empty one too
abbrev pub PageDemanded : Type 0
PageDemanded = (G : Graph) (s : Settings) → Simple G → (cs : List MadeCall) → Calls G s (fresh G.size) cs → PageDemand G s cs

-- the same of calls that bring one table: of which the first is handed p, and each later one the position as the call before it left it
abbrev pub TableCalls : List ℕ → Settings → Position → List MadeCall → Type 0
TableCalls t s p [] = Unit {0}
TableCalls t s p (c ∷ cs) =
    Promised c × (c.position ≡ p) × (c.answer.refusal ≡ 0 → (c.table ≡ t) × (settings c.notion c.kind c.factor ≡ s))
    × TableCalls t s c.position-left cs

-- Demand 3 of a graph's table, one without fault: "Every accepted call brings this graph's table and this notion, kind and factor."
abbrev pub TableDemanded : Type 0
TableDemanded = (n : ℕ) (t : List ℕ) (s : Settings) → (lent_table n t).fault ≡ 0 → (cs : List MadeCall) → TableCalls t s (fresh n) cs → PageDemand (graph_of n t) s cs
