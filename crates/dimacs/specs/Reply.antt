-- What the text reader promises: its answer and the table slice as it leaves it are those of `read_text`. Assumes nothing.
use Rattle.std.specs.Prelude.{ℕ, ◌≡◌, List, Result, Ok, Err}
use Rattle.model.specs.Text.{TextReply, refused_at, read_text}
use Rattle.refusal.specs.Numbers.{number}
use Rattle.lines.specs.declared.said.Said.{Said}
use Rattle.lines.specs.declared.reader.Reader.{Reader}
use Rattle.lines.specs.Line.{reading_of}
use Rattle.dimacs.specs.declared.Refused.{Refused}
use Rattle.dimacs.specs.declared.TextAnswer.{TextAnswer}

-- the answer's four numbers and the table slice are those of a reply
pub record TextReplies (reply : TextReply) (slice : List ℕ) (answer : TextAnswer) : Type 0 where
  pub refusal : answer.refusal ≡ reply.refused
  pub vertices : answer.vertices ≡ reply.vertices
  pub edges : answer.edges ≡ reply.stated
  pub line : answer.line ≡ reply.line
  pub table : slice ≡ reply.slice

-- the whole contract of the text reader: a text and a table slice before and after, and the answer
abbrev pub ReadsAs : List ℕ → List ℕ → List ℕ → TextAnswer → Type 0
ReadsAs text before after answer = TextReplies (read_text text before) after answer

-- ---- in steps

-- what was read as a reply, and as the answer that C gets
abbrev pub text_reply : Result Said Refused → List ℕ → TextReply
text_reply (Ok s) t = record { refused = 0; vertices = s.vertices; stated = s.stated; line = 0; slice = t }
text_reply (Err e) t = record { refused = number e.refusal; vertices = 0; stated = 0; line = e.line; slice = t }

abbrev pub answer_of : Result Said Refused → TextAnswer
answer_of (Ok s) = record { refusal = 0; vertices = s.vertices; edges = s.stated; line = 0 }
answer_of (Err e) = record { refusal = number e.refusal; vertices = 0; edges = 0; line = e.line }

-- what the lines were read as, once what a refused text left in the table is cleared
abbrev pub cleared_reply : Result Said Refused → Reader → TextReply
cleared_reply (Ok s) q = text_reply (Ok s) q.table.now
cleared_reply (Err e) q = refused_at (number e.refusal) e.line (reading_of q) q.table.now
