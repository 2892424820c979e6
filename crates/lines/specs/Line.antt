-- What the readers of a line promise. Assumes nothing.
use Rattle.std.specs.Prelude.{ℕ, ◌+◌, ◌^◌, ◌≤◌, ◌≡◌, ◌<◌, false, not, IfSome, List, [], ◌∷◌, ◌++◌, length, take, drop, Option, Result, Ok, Err}
use Rattle.model.specs.Text.{Reading, Step, bad, next, fault, p_line, e_line, p_fields, fields_of, lines_of}
use Rattle.model.specs.EdgeText.{Spells, edge}
use Rattle.number.specs.Field.{on_pair}
use Rattle.refusal.specs.declared.Refusal.{Refusal}
use Rattle.refusal.specs.Numbers.{number}
use Rattle.lines.specs.declared.said.Progress.{Progress}
use Rattle.lines.specs.declared.EdgeLine.{EdgeLine}
use Rattle.lines.specs.Said.{passed_of, vertices_of, stated_of, edges_of, area_of}
use Rattle.lines.specs.declared.reader.Reader.{Reader}

-- the first bytes of a line
abbrev pub StartsWith : List ℕ → List ℕ → Type 0
StartsWith head line = (rest : List ℕ) × (line ≡ head ++ rest)

-- what the lines so far say, and the first N × N bytes of the table slice, as the definition's reading
abbrev pub reading : Progress → List ℕ → Reading
reading s t = record {
  passed = passed_of s;
  vertices = vertices_of s;
  stated = stated_of s;
  edges = edges_of s;
  table = take (area_of s) t;
}

abbrev pub reading_of : Reader → Reading
reading_of r = reading r.said r.table.now

-- the reading before the first line
abbrev pub start : Reading
start = record { passed = false; vertices = 0; stated = 0; edges = 0; table = [] }

-- the length of the table slice
abbrev pub room_of : Reader → ℕ
room_of r = length r.table.now

-- an e line in form: 33 no p line before it, else its numbers
abbrev pub edge_step : Reading → ℕ → ℕ → Step
edge_step r u v = fault 33 (not r.passed) (e_line r u v)

-- a p line's two numbers, N and M, or 32
pub record ProblemRead (line : List ℕ) (r : Option (ℕ × ℕ)) : Type 0 where
  pub goes : (room : ℕ) → on_pair r (p_line room) ≡ p_fields room (fields_of line)
  pub small : IfSome r (λ p. (p.0 < 1000000) × (p.1 < 1000000))

-- one more e line can be counted
abbrev pub CanCountOne : Reader → Type 0
CanCountOne r = edges_of r.said + 1 < 2 ^ 64

-- document 01's number of a faulty line, or the reading that goes on
abbrev pub step_of : Result (Unit {0}) Refusal → Reader → Step
step_of (Err e) r = bad (number e)
step_of (Ok _) r = next (reading_of r)

-- from one line to the next: nothing past the table is written
pub record ReadOn (before after : Reader) : Type 0 where
  pub size : room_of after ≡ room_of before
  pub rest : drop (area_of after.said) after.table.now ≡ drop (area_of after.said) before.table.now
  pub grows : vertices_of before.said ≤ vertices_of after.said
  pub counted : edges_of after.said ≤ edges_of before.said + 1

-- a faulty line changes nothing
pub record Unchanged (before after : Reader) : Type 0 where
  pub said : after.said ≡ before.said
  pub table : after.table.now ≡ before.table.now

abbrev pub Carried : Reader → Reader → Result (Unit {0}) Refusal → Type 0
Carried before after (Err e) = Unchanged before after
Carried before after (Ok _) = ReadOn before after

-- a line, or a part of it, is read as the definition's step says, and takes a reader from one state to the next
pub record LineRead (wanted : Step) (before after : Reader) (r : Result (Unit {0}) Refusal) : Type 0 where
  pub step : step_of r after ≡ wanted
  pub kept : Carried before after r

-- the first line of a text has this length, and the others start after its byte 10
pub record FirstLine (text : List ℕ) (size : ℕ) : Type 0 where
  pub within : size ≤ length text
  pub lines : lines_of text ≡ take size text ∷ lines_of (drop (size + 1) text)

-- an e line in form comes first
pub record EdgeFirst (text : List ℕ) (e : EdgeLine) : Type 0 where
  pub first : FirstLine text e.length
  pub spelled : Spells (take e.length text) (edge e.u e.v)
