-- `isolation::Criterion::hopeless` meets its contract: a test for each notion.
-- Assumes nothing.
use Rattle.std.proofs.Common.{refl}
use Rattle.isolation.proofs.Hopeless.{hopeless-min, hopeless-none, hopeless-max, hopeless-all, hopeless-one}
use Rattle.isolation.proofs.criterion.Criterion.hopeless.Goals as goal

pub returns-in-Min : goal.returns-in-Min
returns-in-Min c = hopeless-min c.args.self c.args.t c.args.r c.args.low c.in-Min.is

pub returns-then-r-eq0 : goal.returns-then-r-eq0
returns-then-r-eq0 c = rw c.if-r-eq0.true (hopeless-none c.args.self c.args.t 0 c.args.low (rw c.in-Avg.is (λ e. cc e)) refl)

pub returns-then-not-isolates : goal.returns-then-not-isolates
returns-then-not-isolates c =
    hopeless-one c.args.self c.args.t c.args.r c.args.low c.if-r-eq0.false c.grown.ensures c.isolates.ensures c.in-Avg.is c.if-not-isolates.true
    c.grown-then-not-isolates.ensures c.isolates-then-not-isolates.ensures

pub returns-else-not-isolates : goal.returns-else-not-isolates
returns-else-not-isolates c =
    rw c.if-not-isolates.false
    (hopeless-all c.args.self c.args.t c.args.r c.args.low c.if-r-eq0.false c.grown.ensures c.isolates.ensures c.in-Avg.is c.if-not-isolates.false)

pub returns-then-r-eq0-2 : goal.returns-then-r-eq0-2
returns-then-r-eq0-2 c = rw c.if-r-eq0-2.true (hopeless-none c.args.self c.args.t 0 c.args.low (rw c.in-Max.is (λ e. cc e)) refl)

pub returns-else-r-eq0-2 : goal.returns-else-r-eq0-2
returns-else-r-eq0-2 c =
    hopeless-max c.args.self c.args.t c.args.r c.args.low c.if-r-eq0-2.false c.grown-else-r-eq0-2.ensures c.isolates-else-r-eq0-2.ensures c.in-Max.is
