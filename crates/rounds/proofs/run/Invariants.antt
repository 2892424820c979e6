-- `rounds::run` meets its contract: it makes the rounds of a page.
-- Assumes nothing.
use Prim.Native.Nat.{◌-◌}
use Rattle.model.specs.Listing.{rules}
use Rattle.ranks.specs.Held.{ranked_graph}
use Rattle.isolation.specs.Numbers.{settings_in}
use Rattle.walk.specs.Walk.{Walking}
use Rattle.rounds.proofs.Running.{Running}
use Rattle.rounds.proofs.run.Given as goal

abbrev pub invariant-loop-q : goal.invariant-loop-q
invariant-loop-q l =
    let G = ranked_graph l.g in
    let q = settings_in l.q in
    Running (rules G q) (λ s p w. Walking G q p w s) l.budget l.initial.position l.initial.output l.initial.work l.position l.output l.work l.s l.steps l.groups l.used

abbrev pub decreases-loop-q : goal.decreases-loop-q
decreases-loop-q l =
    l.budget - l.steps
