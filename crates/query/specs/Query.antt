-- The set query's answer, and what its steps give.
-- Assumes nothing.
use Rattle.std.specs.Prelude.{ℕ, ◌≡◌, Bool, List, ◌≢◌, length, Result, Ok, Err}
use Rattle.model.specs.Below.{bit}
use Rattle.model.specs.Graph.{Graph, LentGraph}
use Rattle.model.specs.Groups.{settings, qualifies}
use Rattle.model.specs.Groups as groups
use Rattle.model.specs.Calls.{by_bytes, refuse_query, answer_to}
use Rattle.refusal.specs.declared.Refusal.{Refusal}
use Rattle.refusal.specs.Numbers.{number}
use Rattle.graph.specs.Table.{lent}
use Rattle.graph.specs.declared.lent.Lent.{Lent}
use Rattle.isolation.specs.declared.criterion.Criterion.{Criterion}
use Rattle.query.specs.declared.SetAnswer.{SetAnswer}
use Rattle.isolation.specs.Numbers.{settings_in}

-- the call is accepted
pub record QueryReady (l : Lent) (bs w : List ℕ) (q : Criterion) : Type 0 where
  pub accepted : refuse_query (lent l.table.n l.table.numbers.now l.degrees.now) (settings_in q) bs (length w) ≡ 0

-- whether the set qualifies, and the work slice as long as before
pub record Decided (G : Graph) (bs before after : List ℕ) (s : groups.Settings) (r : Bool) : Type 0 where
  pub answer : r ≡ qualifies G s (by_bytes bs)
  pub length-kept : length after ≡ length before

-- the answer of a set query that is accepted, and says whether the set qualifies, or refused
abbrev pub answer_of : Result Bool Refusal → SetAnswer
answer_of (Ok qualifies) = record { refusal = 0; yes = bit qualifies }
answer_of (Err r) = record { refusal = number r; yes = 0 }

-- Document 01, "One set, one text, one program" and "Turned back by the input", of a call that is lent a graph as L: the answer of `answer_to` of crate model as two numbers; the work slice
-- keeps its length, and where the call is refused all that it holds. Its contents after acceptance are left open, as document 01 leaves them
pub record Answers (L : LentGraph) (bs before after : List ℕ) (notion kind c : ℕ) (r : SetAnswer) : Type 0 where
  pub refused : r.refusal ≡ (answer_to L (settings notion kind c) bs (length before)).refused
  pub yes : r.yes ≡ bit (answer_to L (settings notion kind c) bs (length before)).yes
  pub length-kept : length after ≡ length before
  pub unchanged : r.refusal ≢ 0 → after ≡ before
