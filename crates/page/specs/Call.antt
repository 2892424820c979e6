-- What a page call promises: its answer and the lent memory are those of document 01's page call, whatever it is handed.
-- Assumes nothing.
use Rattle.std.specs.Prelude.{ℕ, ◌≡◌, ◌≢◌, List, length}
use Rattle.model.specs.Graph.{LentGraph}
use Rattle.model.specs.Groups.{Settings}
use Rattle.model.specs.Walk.{Position}
use Rattle.model.specs.Calls.{reply_to}
use Rattle.rounds.specs.declared.PageAnswer.{PageAnswer}
use Rattle.rounds.specs.Answer.{PageReplies}

-- A call that is lent a graph as L, with the settings s and a budget, was handed the position p, the output out and the work slice w; it answered a and
-- left them as p₁, out₁ and w₁. Document 01, "A page": after acceptance the contents of the work slice are free, the only free thing; its length stays.
pub record PageCalled (L : LentGraph) (s : Settings) (budget : ℕ) (p : Position) (out w : List ℕ) (a : PageAnswer) (p₁ : Position) (out₁ w₁ : List ℕ) : Type 0 where
  pub replies : PageReplies a p₁ out₁ (reply_to (record { lent = L; settings = s; budget = budget; output = out; work = length w }) p)
  pub work-length : length w₁ ≡ length w
  pub work-kept : a.refusal ≢ 0 → w₁ ≡ w
