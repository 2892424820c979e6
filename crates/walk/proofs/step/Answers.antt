-- `walk::step` meets its contract: the state tells which of the two moves the step is.
-- Assumes nothing.
use mathlib.Core.Path.{sym, ◌∙◌}
use native.Mathlib.Omega.{arith}
use Rattle.walk.proofs.OneStep.{passes_calm, dead-taken, decided-taken, stepped_down, stepped_dead, stepped_decided}
use Rattle.walk.proofs.step.Goals as goal

pub back-requires : goal.back-requires
back-requires c =
    let W = c.requires.walking in
    (W.stands, dead-taken W (sym (c.is_dead.ensures _ _ _ W.stands) ∙ c.if-is_dead.true), passes_calm W)

pub returns-then-is_dead : goal.returns-then-is_dead
returns-then-is_dead c =
    let W = c.requires.walking in
    stepped_dead W (sym (c.is_dead.ensures _ _ _ W.stands) ∙ c.if-is_dead.true) c.back.ensures

pub returns-then-s-g : goal.returns-then-s-g
returns-then-s-g c =
    let W = c.requires.walking in
    stepped_down W (sym (c.is_dead.ensures _ _ _ W.stands) ∙ c.if-is_dead.false) (omega arith) c.take.ensures

pub back-requires-2 : goal.back-requires-2
back-requires-2 c =
    let W = c.requires.walking in
    (W.stands, decided-taken W c.requires.unfinished (omega arith), passes_calm W)

pub returns : goal.returns
returns c =
    stepped_decided c.requires.walking (omega arith) c.back-2.ensures
