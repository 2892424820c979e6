-- `qualify::qualifies` meets its contract: each test says what it says of every position for which the state stands.
-- Assumes nothing.
use mathlib.Core.Path.{sym, ◌∙◌}
use Rattle.qualify.proofs.Verdicts.{judged_open, judged_untaken, judged_apart, judged_exposed, judged_by, tally-fits, sifts, parts, posed}
use Rattle.qualify.proofs.qualifies.Goals as goal

pub returns-then-s-n : goal.returns-then-s-n
returns-then-s-n c = judged_open c.requires c.if-s-n.true

pub returns-then-s-eq0 : goal.returns-then-s-eq0
returns-then-s-eq0 c = judged_untaken c.requires c.if-s-eq0.true

pub returns-then-s : goal.returns-then-s
returns-then-s c = judged_apart c.requires c.if-s.true

pub numbers-y-requires : goal.numbers-y-requires
numbers-y-requires c =
    tally-fits c.requires c.if-s-n.false c.if-s-eq0.false c.if-s.false

pub returns-then-not-isolates : goal.returns-then-not-isolates
returns-then-not-isolates c =
    judged_exposed c.requires c.if-s-n.false c.if-s-eq0.false c.if-s.false c.numbers-y.ensures
    (sym c.isolates.ensures ∙ c.if-not-isolates.true)

pub candidates-m-requires : goal.candidates-m-requires
candidates-m-requires c =
    sifts c.requires c.if-s-n.false c.if-s-eq0.false c.if-s.false c.numbers-y.ensures

pub beaten-requires-clause-parts : goal.beaten-requires-clause-parts
beaten-requires-clause-parts c =
    parts c.requires c.if-s-n.false c.if-s-eq0.false c.if-s.false c.numbers-y.ensures c.candidates-m.ensures

-- the question is posed whatever the criterion
pub beaten-requires-clause-posed : goal.beaten-requires-clause-posed
beaten-requires-clause-posed c =
    let p = posed c.requires c.if-s-n.false c.if-s-eq0.false c.if-s.false c.numbers-y.ensures c.candidates-m.ensures in
    record { set = p.set; room = p.room; loopless = p.loopless; symmetric = p.symmetric; clique = p.clique; tally = p.tally; candidates = p.candidates }

pub returns : goal.returns
returns c =
    judged_by c.requires c.if-s-n.false c.if-s-eq0.false c.if-s.false c.numbers-y.ensures c.candidates-m.ensures
    (sym c.isolates.ensures ∙ c.if-not-isolates.false) (record { answer = c.beaten.ensures.answer; kept = c.beaten.ensures.kept })
