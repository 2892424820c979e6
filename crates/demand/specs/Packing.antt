-- Document 02, C-15, of the calls of `pack::pack`, and of every other call that takes a table: each answers on a packed table as it did on the byte table
-- of the same graph. All are over the functions' contracts.
-- Assumes nothing.
use Rattle.std.specs.Prelude.{ℕ, ◌≡◌, ◌≢◌, List, length}
use Rattle.model.specs.Below.{bit}
use Rattle.model.specs.Groups.{settings}
use Rattle.model.specs.Fault.{FirstFault}
use Rattle.model.specs.Packing.{pack_faults, Packs}
use Rattle.model.specs.BothTables.{byte_page_call, byte_query, byte_edit_call, byte_degrees_call, SameGraph}
use Rattle.graph.specs.Table.{lent}
use Rattle.pack.specs.Packing.{PackReplies}
use Rattle.query.specs.declared.SetAnswer.{SetAnswer}
use Rattle.query.specs.Query.{Answers}
use Rattle.edits.specs.Edits.{ListReplies}
use Rattle.demand.specs.Demand.{MadeCall, Promised, reported}
use Rattle.demand.specs.Edits.{MadeEdit, Replied}

-- ---- the call that packs

-- a call that was handed the byte table t and the packed slice p, answered k and left the slice as p₁
pub record PackMade (n : ℕ) (t p : List ℕ) (k : ℕ) (p₁ : List ℕ) : Type 0 where
  -- each fault meets its number, in the order 1 to 5, and a call without a named fault is accepted
  pub first : FirstFault (pack_faults n t p) k
  -- a refused call changes no lent memory
  pub refused : k ≢ 0 → p₁ ≡ p
  -- accepted, the slice is the packed table of the same graph, and no other packed table of it passes
  pub accepted : k ≡ 0 → Packs n t (record { refused = k; packed = p₁ })
  -- so that every call answers on it as on the bytes, by what is said below
  pub same : k ≡ 0 → SameGraph n t p₁

-- that of every call of `pack::pack`
abbrev pub PackDemand : Type 0
PackDemand = (n : ℕ) (t p : List ℕ) (k : ℕ) (p₁ : List ℕ) → PackReplies n t p k p₁ → PackMade n t p k p₁

-- ---- "All answers are those for the byte table of the same graph, shown once over both tables."

-- a page call reports, and leaves position and output, as the page call on the bytes
abbrev pub PagesAlike : MadeCall → Type 0
PagesAlike c =
    (t : List ℕ) → SameGraph c.size t c.table
    → reported c ≡ byte_page_call c.size t c.degrees (settings c.notion c.kind c.factor) c.budget c.position c.output (length c.work)

-- a set query answers as the set query on the bytes
pub record QueryAlike (n : ℕ) (t d bs : List ℕ) (notion kind c work : ℕ) (a : SetAnswer) : Type 0 where
  pub refusal : a.refusal ≡ (byte_query n t d (settings notion kind c) bs work).refused
  pub yes : a.yes ≡ bit (byte_query n t d (settings notion kind c) bs work).yes

-- an edit answers as the edit of the bytes, leaves the degrees as that does, and a packed table of the same graph as that does
pub record EditAlike (e : MadeEdit) (t : List ℕ) : Type 0 where
  pub refusal : e.answer.refusal ≡ (byte_edit_call e.joins e.size t e.degrees e.from e.to).refused
  pub unchanged : e.answer.unchanged ≡ bit (byte_edit_call e.joins e.size t e.degrees e.from e.to).unchanged
  pub degrees : e.degrees-left ≡ (byte_edit_call e.joins e.size t e.degrees e.from e.to).degrees
  pub tables : SameGraph e.size (byte_edit_call e.joins e.size t e.degrees e.from e.to).table e.table_left_lem

-- the list of the degrees answers and is left as on the bytes
pub record ListAlike (n : ℕ) (t d : List ℕ) (k : ℕ) (d₁ : List ℕ) : Type 0 where
  pub refusal : k ≡ (byte_degrees_call n t d).refused
  pub degrees : d₁ ≡ (byte_degrees_call n t d).degrees

-- all four, of every call that keeps its contract
pub record AlikeDemand : Type 0 where
  pub pages : (c : MadeCall) → Promised c → PagesAlike c
  pub queries : (n : ℕ) (t p d bs work left : List ℕ) (notion kind c : ℕ) (a : SetAnswer) → SameGraph n t p → Answers (lent n p d) bs work left notion kind c a
      → QueryAlike n t d bs notion kind c (length work) a
  pub edits : (e : MadeEdit) → Replied e → (t : List ℕ) → SameGraph e.size t e.table → EditAlike e t
  pub lists : (n : ℕ) (t p d : List ℕ) (k : ℕ) (d₁ : List ℕ) → SameGraph n t p → ListReplies n p d k d₁ → ListAlike n t d k d₁
