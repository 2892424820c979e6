-- `rounds::run` meets its contract: it makes the rounds of a page.
-- Assumes nothing.
use mathlib.Core.Path.{refl, ◌∙◌}
use native.Mathlib.Omega.{arith}
use Rattle.std.proofs.Common.{rules, ◌≡◌, ℕ, Option, Some, None, Ok}
use Rattle.std.proofs.lemmas.Result.{IfOk-at_ok, IfErr-at_err}
use Rattle.rounds.proofs.Turn.{turn_finished, turn_spent}
use Rattle.rounds.proofs.Running.{Added, running_on, reply_full}
use Rattle.rounds.proofs.Round.{says, goes_on}
use Rattle.rounds.proofs.run.Goals as goal
use Rattle.rounds.proofs.run.Goals.{After-step-s, in-Ok-None, in-Ok-Some}

-- what the answer of putting out has added
added : (c : After-step-s) → (put : Option ℕ) × (c.emit.result ≡ Ok put) × Added put c.loop-q.groups c.loop-q.used c.match-emit-2.groups c.match-emit-2.used
added c =
    elim c.match-emit-2.branch [
      | in-Ok-None w ↦ (None, search (rules), (w.groups-is, w.used-is))
      | in-Ok-Some w ↦ (Some c.match-emit-2.used, search (rules), (w.groups-is, refl))
    ]

pub loop-q-preserved : goal.loop-q-preserved
loop-q-preserved c =
    let s = c.step-s in
    let r = c.loop-q.invariant in
    let put = added (goal.at.loop-q-preserved c).After-step-s in
    running_on r (IfOk-at_ok _ put.1 (c.emit.ensures.at _ r.holds.stands).put) (λ z. omega (arith, c.if-steps-budget.false))
    (says r.holds c.finished.ensures ∙ c.if-finished.false) put.2 s.ensures.position (goes_on r.holds s.ensures)
    (s.auto.work ∙ c.emit.auto.work ∙ r.work-long) s.auto.position

pub returns-then-finished : goal.returns-then-finished
returns-then-finished c = let r = c.loop-q.invariant in turn_finished r.turn (says r.holds c.finished.ensures ∙ c.if-finished.true)

pub returns-then-steps-budget : goal.returns-then-steps-budget
returns-then-steps-budget c =
    let r = c.loop-q.invariant in
    turn_spent r.turn (says r.holds c.finished.ensures ∙ c.if-finished.false) (omega (arith, c.if-steps-budget.true, r.turn.steps-fit))

pub returns-in-Err : goal.returns-in-Err
returns-in-Err c =
    let r = c.loop-q.invariant in
    reply_full r c.in-Err.full (IfErr-at_err _ c.in-Err.is (c.emit.ensures.at _ r.holds.stands).full) (λ z. omega (arith, c.if-steps-budget.false))
    (says r.holds c.finished.ensures ∙ c.if-finished.false)
