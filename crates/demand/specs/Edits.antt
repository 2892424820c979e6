-- Document 02, C-12, of the calls of `edits::join`, `edits::part` and `edits::list_degrees`: what a reader believes of them, over their contracts.
-- Assumes nothing.
use Rattle.std.specs.Prelude.{ℕ, ◌≤◌, ◌≡◌, Bool, not, ◌≢◌, ◌⊎◌, List, [], ◌∷◌, ◌++◌, eqb}
use Rattle.model.specs.Graph.{degree_list}
use Rattle.model.specs.Fault.{FirstFault}
use Rattle.model.specs.Faults.{packed_faults, degrees_faults}
use Rattle.model.specs.Edits.{EditReply, edit_faults, Edited, list_faults}
use Rattle.graph.specs.Table.{lent, graph_of}
use Rattle.edits.specs.declared.EditAnswer.{EditAnswer}
use Rattle.edits.specs.Edits.{EditReplies, ListReplies}

-- ---- an edit

-- what an edit answered, with the table and the list as it left them
abbrev pub told : EditAnswer → List ℕ → List ℕ → EditReply
told a t₁ d₁ = record { refused = a.refusal; unchanged = eqb a.unchanged 1; table = t₁; degrees = d₁ }

-- of an edit that joins where b says so, and else parts; handed the table t and the list d, it left them as t₁ and d₁
pub record EditMade (b : Bool) (n : ℕ) (t d : List ℕ) (u v : ℕ) (a : EditAnswer) (t₁ d₁ : List ℕ) : Type 0 where
  -- each fault meets its number, in the order 1, 2, 45, 4, 5, 42, 43, 44, and an edit without a named fault is accepted
  pub first : FirstFault (edit_faults (packed_faults n t ++ degrees_faults (graph_of n t) d) n u v) a.refusal
  -- "a refused call .. has 0 in its other numbers and changes no lent memory"
  pub refused : a.refusal ≢ 0 → (a.unchanged ≡ 0) × (t₁ ≡ t) × (d₁ ≡ d)
  -- "the pair is then joined, or parted, its two degrees follow, and no other entry is touched", no bit but the pair's two; the answer says
  -- "unchanged" exactly where it is so
  pub accepted : a.refusal ≡ 0 → Edited b n u v t d (told a t₁ d₁)
  pub zero_or_one : a.unchanged ≤ 1
  -- the same table and list pass 1, 2, 45, 4, 5 and 42 again
  pub passes_again : a.refusal ≡ 0 → (lent n t₁ d₁).fault ≡ 0

-- that of every call of an edit
abbrev pub EditDemand : Type 0
EditDemand =
    (b : Bool) (n : ℕ) (t d : List ℕ) (u v : ℕ) (a : EditAnswer) (t₁ d₁ : List ℕ) → EditReplies b n t d u v a t₁ d₁ → EditMade b n t d u v a t₁ d₁

-- ---- an edit after another

-- one edit of several: the arguments and the lent memory that it was handed, its answer, and the table and the list as it left them
pub record MadeEdit : Type 0 where
  pub joins : Bool
  pub size : ℕ
  pub table : List ℕ
  pub degrees : List ℕ
  pub from : ℕ
  pub to : ℕ
  pub answer : EditAnswer
  pub table_left_lem : List ℕ
  pub degrees-left : List ℕ

-- its contract
abbrev pub Replied : MadeEdit → Type 0
Replied e = EditReplies e.joins e.size e.table e.degrees e.from e.to e.answer e.table_left_lem e.degrees-left

-- it was handed this size, table and list
abbrev pub Handed : ℕ → List ℕ → List ℕ → MadeEdit → Type 0
Handed n t d e = (e.size ≡ n) × (e.table ≡ t) × (e.degrees ≡ d)

-- x and y are u and v, in either order
abbrev pub SamePair : ℕ → ℕ → ℕ → ℕ → Type 0
SamePair u v x y = ((x ≡ u) × (y ≡ v)) ⊎ ((x ≡ v) × (y ≡ u))

-- where e changed something, and f is the other edit of the same pair, on table and list as e left them: f is accepted and gives back those that e was
-- handed, entry for entry
abbrev pub Undoes : MadeEdit → MadeEdit → Type 0
Undoes e f =
    e.answer.refusal ≡ 0 → e.answer.unchanged ≡ 0
    → f.joins ≡ not e.joins → Handed e.size e.table_left_lem e.degrees-left f → SamePair e.from e.to f.from f.to
    → (f.answer.refusal ≡ 0) × (f.answer.unchanged ≡ 0) × (f.table_left_lem ≡ e.table) × (f.degrees-left ≡ e.degrees)

-- that of every two edits
abbrev pub UndoDemand : Type 0
UndoDemand = (e f : MadeEdit) → Replied e → Replied f → Undoes e f

-- ---- any list of edits

-- each of them keeps its contract
abbrev pub AllReplied : List MadeEdit → Type 0
AllReplied [] = Unit {0}
AllReplied (e ∷ es) = Replied e × AllReplied es

-- the first is handed the table t and the list d, and each later one those as the edit before it left them
abbrev pub HandedOn : ℕ → List ℕ → List ℕ → List MadeEdit → Type 0
HandedOn n t d [] = Unit {0}
HandedOn n t d (e ∷ es) = Handed n t d e × HandedOn n e.table_left_lem e.degrees-left es

-- a table t as the last of them leaves it
abbrev pub table_after : List ℕ → List MadeEdit → List ℕ
table_after t [] = t
table_after t (e ∷ es) = table_after e.table_left_lem es

-- and so a list d
abbrev pub degrees_after : List ℕ → List MadeEdit → List ℕ
degrees_after d [] = d
degrees_after d (e ∷ es) = degrees_after e.degrees-left es

-- where table and list pass 1, 2, 45, 4, 5 and 42 before such edits, accepted and refused ones in any order, they pass after them
abbrev pub PassesAfter : List MadeEdit → Type 0
PassesAfter es = (n : ℕ) (t d : List ℕ) → (lent n t d).fault ≡ 0 → HandedOn n t d es → (lent n (table_after t es) (degrees_after d es)).fault ≡ 0

-- and where the graph is then the same again, whatever edits were made in between, so are table and list, entry for entry
abbrev pub RestoredAfter : List MadeEdit → Type 0
RestoredAfter es =
    (n : ℕ) (t d : List ℕ) → (lent n t d).fault ≡ 0 → HandedOn n t d es
    → graph_of n (table_after t es) ≡ graph_of n t
    → (table_after t es ≡ t) × (degrees_after d es ≡ d)

-- both of every list of edits
abbrev pub ChainDemand : Type 0
ChainDemand = (es : List MadeEdit) → AllReplied es → PassesAfter es

abbrev pub RestoredDemand : Type 0
RestoredDemand = (es : List MadeEdit) → AllReplied es → RestoredAfter es

-- ---- the list of degrees

-- of a call that was handed the list d, answered k and left the list as d₁
pub record ListMade (n : ℕ) (t d : List ℕ) (k : ℕ) (d₁ : List ℕ) : Type 0 where
  -- each fault meets its number, in the order 1, 2, 45, 4, 5, 42, and a call without a named fault is accepted
  pub first : FirstFault (list_faults (packed_faults n t) n d) k
  pub refused : k ≢ 0 → d₁ ≡ d
  -- accepted, the list is that of the graph's degrees, and so passes 42
  pub accepted : k ≡ 0 → (d₁ ≡ degree_list (graph_of n t)) × ((lent n t d₁).fault ≡ 0)

-- that of every call of `edits::list_degrees`
abbrev pub ListedDemand : Type 0
ListedDemand = (n : ℕ) (t d : List ℕ) (k : ℕ) (d₁ : List ℕ) → ListReplies n t d k d₁ → ListMade n t d k d₁
