-- The answer of a page call as the code gives it, and how it stands for the reply of document 01's page call.
-- Assumes nothing.
use Rattle.std.specs.Prelude.{ℕ, ◌≡◌, List, Result, Ok, Err}
use Rattle.model.specs.Walk.{Position, stopped_finished, stopped_spent, stopped_full}
use Rattle.model.specs.Calls.{PageReply}
use Rattle.refusal.specs.declared.Refusal.{Refusal}
use Rattle.refusal.specs.Numbers.{number}
use Rattle.rounds.specs.declared.Page.{Page}
use Rattle.rounds.specs.declared.PageAnswer.{PageAnswer}
use Rattle.rounds.specs.declared.Stop.{Stop}
use Rattle.rounds.specs.declared.Stop.TheVariants.{Finished, Spent, Full}

-- Document 01, "A page": stop Finished (1), Spent (2), Full (3)
abbrev pub stop_number : Stop → ℕ
stop_number Finished = stopped_finished
stop_number Spent = stopped_spent
stop_number (Full full) = stopped_full

-- and the entries wanted, size + 3 at Full (document 02, C-14), else 0
abbrev pub wanted_at : Stop → ℕ
wanted_at Finished = 0
wanted_at Spent = 0
wanted_at (Full full) = full.wanted

-- the answer a, with the position and the output as the call leaves them, is the reply r
pub record PageReplies (a : PageAnswer) (p : Position) (out : List ℕ) (r : PageReply) : Type 0 where
  pub refusal : a.refusal ≡ r.refused
  pub stop : a.stop ≡ r.stop
  pub groups : a.groups ≡ r.groups
  pub steps : a.steps ≡ r.steps
  pub used : a.used ≡ r.used
  pub wanted : a.wanted ≡ r.wanted
  pub position : p ≡ r.position
  pub output : out ≡ r.output

-- the answer of an accepted call, whose page did so much
abbrev pub accepted : Page → PageAnswer
accepted page =
    record { refusal = 0; stop = stop_number page.stop; groups = page.groups; steps = page.steps; used = page.used; wanted = wanted_at page.stop }

-- the answer of a refused call: all other numbers are 0
abbrev pub refused : ℕ → PageAnswer
refused number = record { refusal = number; stop = 0; groups = 0; steps = 0; used = 0; wanted = 0 }

-- the one or the other
abbrev pub answer_of : Result Page Refusal → PageAnswer
answer_of (Ok page) = accepted page
answer_of (Err refusal) = refused (number refusal)
