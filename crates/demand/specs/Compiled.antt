-- What demands 2 and 3 and the requests C-11, C-12, C-14 and C-15 say of a compiled function, over its contract as the checker itself reads it from the function's source
-- and proves it: `Post` is that contract, of the arguments, the answer and the memory at exit.
-- Assumes nothing.
use Rattle.std.specs.Prelude.{ℕ, ◌*◌, ◌≤◌, ◌≡◌, Bool, true, false, ◌↔◌, ◌⊎◌, List, [], ◌∷◌, map, length}
use Rattle.std.proofs.Common.{inl, inr}
use contract.Lifetimes.{Lfts}
use borrow.Fn.Kinds.{ParamKind, ResultKind, In, Out, Dens, res_t, ended_of}
use denote.Triple.Clauses.{AtExit}
use Rattle.model.specs.Graph.{Graph}
use Rattle.model.specs.Groups.{Settings, settings}
use Rattle.model.specs.Meaning.{Qualifies, Simple, Lists}
use Rattle.model.specs.Walk.{Position, fresh, records}
use Rattle.model.specs.Listing.{rules}
use Rattle.model.specs.Calls.{by_bytes}
use Rattle.model.specs.Demand.{joined_output, SomeFinished}
use Rattle.model.specs.Records.{RecordsMade, Wants}
use Rattle.model.specs.Repeats.{DifferInRepeats}
use Rattle.model.specs.BothTables.{SameGraph}
use Rattle.graph.specs.Table.{graph_of}
use Rattle.page.proofs.page.Kinds as page-kinds
use Rattle.query.proofs.set_query.Kinds as query-kinds
use Rattle.dimacs.proofs.read_text.Kinds as reader-kinds
use Rattle.pack.proofs.packing.pack.Kinds as pack-kinds
use Rattle.edits.proofs.join.Kinds as edit-kinds
use Rattle.edits.proofs.list_degrees.Kinds as list-kinds
use Rattle.demand.specs.Demand.{MadeCall, reported, PageDemand}
use Rattle.demand.specs.Membership.{TextDemand}
use Rattle.demand.specs.Repeats.{Never38, ComparesLines, SameTable}
use Rattle.demand.specs.Edits.{EditMade, MadeEdit, Undoes, PassesAfter, RestoredAfter, ListMade}
use Rattle.demand.specs.Packing.{PackMade, PagesAlike, QueryAlike, EditAlike, ListAlike}

-- A call of a compiled function: any arguments, answer and memory at exit that its contract allows.
pub record Compiled (m : ℕ) (ps : List (ParamKind m)) (r : ResultKind m) (Post : Out m ps r) : Type 0 where
  pub lifetimes : Lfts m
  pub arguments : Dens lifetimes ps
  pub answer : (res_t r lifetimes).Denot
  pub at_exit : AtExit (ended_of m ps r) lifetimes
  pub promised : Post lifetimes arguments answer at_exit

-- a function that asks for nothing, so that any arguments may be given: `Pre` is what its contract asks of the arguments
abbrev pub AsksNothing : (m : ℕ) (ps : List (ParamKind m)) → In m ps → Type 0
AsksNothing m ps Pre = (κs : Lfts m) (a : Dens κs ps) → Pre κs a

-- ---- the page call

-- a call of a function with the parameters and the answer of `page::page`
abbrev pub CompiledPage : Out 5 page-kinds.ps page-kinds.r → Type 0
CompiledPage Post = Compiled 5 page-kinds.ps page-kinds.r Post

-- its values: table, degrees, position, output, work, n, notion, kind, c, budget
abbrev pub call_of : {Post : Out 5 page-kinds.ps page-kinds.r} → CompiledPage Post → MadeCall
call_of k =
    let a = k.arguments in
    record {
      table = a.0.now;
      degrees = a.1.0.now;
      position = a.1.1.0.now;
      output = a.1.1.1.0.now;
      work = a.1.1.1.1.0.now;
      size = a.1.1.1.1.1.0;
      notion = a.1.1.1.1.1.1.0;
      kind = a.1.1.1.1.1.1.1.0;
      factor = a.1.1.1.1.1.1.1.1.0;
      budget = a.1.1.1.1.1.1.1.1.1.0;
      answer = k.answer;
      position-left = k.at_exit.1.1.0.now;
      output-left = k.at_exit.1.1.1.0.now;
      work-left = k.at_exit.1.1.1.1.0.now;
    }

-- the first call is handed p, each later one the position as the call before it left it; and every accepted call brings the graph G and the settings s
abbrev pub Chained : {Post : Out 5 page-kinds.ps page-kinds.r} → Graph → Settings → Position → List (CompiledPage Post) → Type 0
Chained G s p [] = Unit {0}
Chained G s p (k ∷ ks) =
    ((call_of k).position ≡ p)
    × ((call_of k).answer.refusal ≡ 0 → (graph_of (call_of k).size (call_of k).table ≡ G) × (settings (call_of k).notion (call_of k).kind (call_of k).factor ≡ s))
    × Chained G s (call_of k).position-left ks

-- Demand 3 of a compiled page call: of every graph of document 01, all settings and any list of its calls that begins at fresh.
abbrev pub PageHolds : Out 5 page-kinds.ps page-kinds.r → Type 0
PageHolds Post =
    (G : Graph) (s : Settings) → Simple G → (ks : List (CompiledPage Post)) → Chained G s (fresh G.size) ks → PageDemand G s (map call_of ks)

-- Demand 2, the finished list: once a call has said Finished, the joined output is the records of positions that list the sets that qualify.
abbrev pub ListHolds : Out 5 page-kinds.ps page-kinds.r → Type 0
ListHolds Post =
    (G : Graph) (s : Settings) → Simple G → (ks : List (CompiledPage Post)) → Chained G s (fresh G.size) ks
    → SomeFinished (map reported (map call_of ks))
    → (ps : List Position) × (joined_output (map reported (map call_of ks)) ≡ records (rules G s) ps) × Lists G s ps

-- C-14 of a compiled page call: what the records of the joined output say,
abbrev pub RecordsHold : Out 5 page-kinds.ps page-kinds.r → Type 0
RecordsHold Post =
    (G : Graph) (s : Settings) → Simple G → (ks : List (CompiledPage Post)) → Chained G s (fresh G.size) ks → RecordsMade G s (map reported (map call_of ks))

-- and the entries that a call wants.
abbrev pub WantsHolds : Out 5 page-kinds.ps page-kinds.r → Type 0
WantsHolds Post =
    (k : CompiledPage Post)
    → let c = call_of k in
    Wants (graph_of c.size c.table) (settings c.notion c.kind c.factor) (reported c)

-- ---- the set query

-- Demand 2 of a compiled set query, with the parameters table, degrees, set, work, n, notion, kind, c: accepted, it says yes exactly where the set qualifies.
abbrev pub QueryHolds : Out 4 query-kinds.ps query-kinds.r → Type 0
QueryHolds Post =
    (k : Compiled 4 query-kinds.ps query-kinds.r Post) → k.answer.refusal ≡ 0
    → let table = k.arguments.0.now in
    let set = k.arguments.1.1.0.now in
    let n = k.arguments.1.1.1.1.0 in
    let notion = k.arguments.1.1.1.1.1.0 in
    let kind = k.arguments.1.1.1.1.1.1.0 in
    let c = k.arguments.1.1.1.1.1.1.1.0 in
    (k.answer.yes ≡ 1) ↔ Qualifies (graph_of n table) (settings notion kind c) (by_bytes set)

-- ---- the text reader

-- a call of a function with the parameters and the answer of `dimacs::read_text`
abbrev pub CompiledRead : Out 2 reader-kinds.ps reader-kinds.r → Type 0
CompiledRead Post = Compiled 2 reader-kinds.ps reader-kinds.r Post

-- its text, and the table slice as it was lent and as it was left
module _ {Post : Out 2 reader-kinds.ps reader-kinds.r} (k : CompiledRead Post) where
  abbrev pub text_of : List ℕ
  text_of = k.arguments.0.now

  abbrev pub table_lent : List ℕ
  table_lent = k.arguments.1.0.now

  abbrev pub table_left : List ℕ
  table_left = k.at_exit.1.0.now

-- Demand 2 of a compiled text reader: it reads a text exactly where it is an edge text, and gives its graph.
abbrev pub ReaderHolds : Out 2 reader-kinds.ps reader-kinds.r → Type 0
ReaderHolds Post = (k : CompiledRead Post) → TextDemand (text_of k) (table_lent k) (table_left k) k.answer

-- C-11 of a compiled text reader: it never answers 38;
abbrev pub Never38Holds : Out 2 reader-kinds.ps reader-kinds.r → Type 0
Never38Holds Post = (k : CompiledRead Post) → Never38 k.answer

-- it answers 39 exactly where M differs from the number of e lines and nothing else is at fault;
abbrev pub ComparesLinesHolds : Out 2 reader-kinds.ps reader-kinds.r → Type 0
ComparesLinesHolds Post = (k : CompiledRead Post) → ComparesLines (text_of k) (table_lent k) k.answer

-- and texts that differ only in repeated e lines, each with its own right M, give the same table, where one is read and the slice of the other can
-- hold it.
abbrev pub RepeatsHold : Out 2 reader-kinds.ps reader-kinds.r → Type 0
RepeatsHold Post =
    (k l : CompiledRead Post) → DifferInRepeats (text_of k) (text_of l) → k.answer.refusal ≡ 0
    → k.answer.vertices * k.answer.vertices ≤ length (table_lent l)
    → SameTable (table_lent k) (table_left k) k.answer (table_lent l) (table_left l) l.answer

-- ---- the edits and the list of degrees

-- the values of a call of a function that joins where b says so, and else parts: table, degrees, n, u, v
abbrev pub made : Bool → {Post : Out 2 edit-kinds.ps edit-kinds.r} → Compiled 2 edit-kinds.ps edit-kinds.r Post → MadeEdit
made b k =
    let a = k.arguments in
    record {
      joins = b;
      size = a.1.1.0;
      table = a.0.now;
      degrees = a.1.0.now;
      from = a.1.1.1.0;
      to = a.1.1.1.1.0;
      answer = k.answer;
      table_left_lem = k.at_exit.0.now;
      degrees-left = k.at_exit.1.0.now;
    }

-- C-12 of a compiled edit
abbrev pub EditHolds : Bool → Out 2 edit-kinds.ps edit-kinds.r → Type 0
EditHolds b Post =
    (k : Compiled 2 edit-kinds.ps edit-kinds.r Post)
    → let e = made b k in
    EditMade b e.size e.table e.degrees e.from e.to e.answer e.table_left_lem e.degrees-left

-- of a function that joins and one that parts
module _ (Join Part : Out 2 edit-kinds.ps edit-kinds.r) where
  -- a call of one of the two
  abbrev pub CompiledEdit : Type 0
  CompiledEdit = Compiled 2 edit-kinds.ps edit-kinds.r Join ⊎ Compiled 2 edit-kinds.ps edit-kinds.r Part

  -- its values
  abbrev pub edit_of : CompiledEdit → MadeEdit
  edit_of (inl k) = made true k
  edit_of (inr k) = made false k

  -- C-12 of any two such calls: the one that parts undoes the one that joins, and the other way round
  abbrev pub UndoHolds : Type 0
  UndoHolds = (k l : CompiledEdit) → Undoes (edit_of k) (edit_of l)

  -- of any list of them: a table and a list that pass before them pass after them,
  abbrev pub ChainHolds : Type 0
  ChainHolds = (ks : List CompiledEdit) → PassesAfter (map edit_of ks)

  -- and are the same again where the graph is
  abbrev pub RestoredHolds : Type 0
  RestoredHolds = (ks : List CompiledEdit) → RestoredAfter (map edit_of ks)

-- C-12 of a compiled call that lists the degrees, with the parameters table, degrees, n
abbrev pub ListedHolds : Out 2 list-kinds.ps list-kinds.r → Type 0
ListedHolds Post =
    (k : Compiled 2 list-kinds.ps list-kinds.r Post)
    → let a = k.arguments in
    ListMade a.1.1.0 a.0.now a.1.0.now k.answer k.at_exit.1.0.now

-- ---- packed tables

-- C-15 of a compiled call that packs a byte table, with the parameters bytes, packed, n
abbrev pub PackHolds : Out 2 pack-kinds.ps pack-kinds.r → Type 0
PackHolds Post =
    (k : Compiled 2 pack-kinds.ps pack-kinds.r Post)
    → let a = k.arguments in
    PackMade a.1.1.0 a.0.now a.1.0.now k.answer k.at_exit.1.0.now

-- C-15 of a compiled page call: it answers on a packed table as on the byte table of the same graph;
abbrev pub PagesAlikeHold : Out 5 page-kinds.ps page-kinds.r → Type 0
PagesAlikeHold Post = (k : CompiledPage Post) → PagesAlike (call_of k)

-- so does a compiled set query,
abbrev pub QueriesAlikeHold : Out 4 query-kinds.ps query-kinds.r → Type 0
QueriesAlikeHold Post =
    (k : Compiled 4 query-kinds.ps query-kinds.r Post) (t : List ℕ)
    → let table = k.arguments.0.now in
    let degrees = k.arguments.1.0.now in
    let set = k.arguments.1.1.0.now in
    let work = k.arguments.1.1.1.0.now in
    let n = k.arguments.1.1.1.1.0 in
    let notion = k.arguments.1.1.1.1.1.0 in
    let kind = k.arguments.1.1.1.1.1.1.0 in
    let c = k.arguments.1.1.1.1.1.1.1.0 in
    SameGraph n t table → QueryAlike n t degrees set notion kind c (length work) k.answer

-- a compiled edit,
abbrev pub EditsAlikeHold : Bool → Out 2 edit-kinds.ps edit-kinds.r → Type 0
EditsAlikeHold b Post =
    (k : Compiled 2 edit-kinds.ps edit-kinds.r Post) (t : List ℕ)
    → let e = made b k in
    SameGraph e.size t e.table → EditAlike e t

-- and a compiled call that lists the degrees
abbrev pub ListsAlikeHold : Out 2 list-kinds.ps list-kinds.r → Type 0
ListsAlikeHold Post =
    (k : Compiled 2 list-kinds.ps list-kinds.r Post) (t : List ℕ)
    → let a = k.arguments in
    SameGraph a.1.1.0 t a.0.now → ListAlike a.1.1.0 t a.1.0.now k.answer k.at_exit.1.0.now
