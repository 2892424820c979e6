-- Document 02, C-15: "All answers are those for the byte table of the same graph, shown once over both tables."
-- Assumes nothing.
use Rattle.std.specs.Prelude.{ℕ, ◌*◌, ◌≡◌, Bool, false, List, length}
use Rattle.model.specs.Below.{bit}
use Rattle.model.specs.Graph.{by_table, with_pair, row_length, by_packed}
use Rattle.model.specs.Groups.{Settings}
use Rattle.model.specs.Walk.{Position}
use Rattle.model.specs.Calls.{over, stray, refuse_table, byte_table, refuse_packed, with_degrees, PageReply, reply_to, page_call, QueryReply, answer_to, query}
use Rattle.model.specs.Edits.{EditReply, edit_to, edit_call, DegreesReply, degrees_to, degrees_call}

-- ---- the calls on a byte table, as they were before that request

abbrev pub byte_page_call : ℕ → List ℕ → List ℕ → Settings → ℕ → Position → List ℕ → ℕ → PageReply
byte_page_call n t d s budget p out work =
    reply_to (record { lent = with_degrees (byte_table n t) d; settings = s; budget = budget; output = out; work = work }) p

abbrev pub byte_query : ℕ → List ℕ → List ℕ → Settings → List ℕ → ℕ → QueryReply
byte_query n t d s bs work = answer_to (with_degrees (byte_table n t) d) s bs work

abbrev pub byte_edit_call : Bool → ℕ → List ℕ → List ℕ → ℕ → ℕ → EditReply
byte_edit_call b n t d u v = edit_to (with_degrees (byte_table n t) d) b u v t d (with_pair (bit b) n u v t)

abbrev pub byte_degrees_call : ℕ → List ℕ → List ℕ → DegreesReply
byte_degrees_call n t d = degrees_to (byte_table n t) d

-- ---- one graph in both tables

-- a byte table t and a packed table p of one graph on n vertices, each of the right length, the one without a byte over 1, and the other without a stray
-- bit: refusals 2, 3 and 45 speak of one table alone
pub record SameGraph (n : ℕ) (t p : List ℕ) : Type 0 where
  pub bytes : length t ≡ n * n
  pub zero_or_one : over 1 t ≡ false
  pub numbers : length p ≡ n * row_length n
  pub none-stray : stray n p ≡ false
  pub one_graph : by_packed n p ≡ by_table n t

-- then every call answers both alike, whatever else it is lent
pub record AnswersAlike (n : ℕ) (t p : List ℕ) : Type 0 where
  -- refusals 1, 4 and 5
  pub faults : refuse_packed n p ≡ refuse_table n t
  -- pages and set queries: the answers, and the position and the output as a page leaves them
  pub pages : (d : List ℕ) (s : Settings) (budget : ℕ) (q : Position) (out : List ℕ) (work : ℕ)
      → page_call n p d s budget q out work ≡ byte_page_call n t d s budget q out work
  pub queries : (d : List ℕ) (s : Settings) (bs : List ℕ) (work : ℕ) → query n p d s bs work ≡ byte_query n t d s bs work
  pub lists : (d : List ℕ) → degrees_call n p d ≡ byte_degrees_call n t d
  -- edits: the answer and the degrees, and the tables hold one graph again
  pub edit-numbers : (b : Bool) (d : List ℕ) (u v : ℕ) → (edit_call b n p d u v).refused ≡ (byte_edit_call b n t d u v).refused
  pub edit_unchanged : (b : Bool) (d : List ℕ) (u v : ℕ) → (edit_call b n p d u v).unchanged ≡ (byte_edit_call b n t d u v).unchanged
  pub edit_degrees : (b : Bool) (d : List ℕ) (u v : ℕ) → (edit_call b n p d u v).degrees ≡ (byte_edit_call b n t d u v).degrees
  pub edit_tables : (b : Bool) (d : List ℕ) (u v : ℕ) → SameGraph n (byte_edit_call b n t d u v).table (edit_call b n p d u v).table

-- of every graph that both tables hold, at once
abbrev pub BothTables : Type 0
BothTables = (n : ℕ) (t p : List ℕ) → SameGraph n t p → AnswersAlike n t p
