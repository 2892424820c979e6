-- `larger::search_all` meets its contract: each return goes by what the steps before it gave.
-- Assumes nothing.
use Rattle.std.proofs.Common.{◌-◌, ◌*◌, sym, ◌∙◌, ◌++◌, arith}
use lib.ListN.{set}
use borrow.Rule.Slice.PartMut.{put_mid}
use mathlib.Core.Path.{refl}
use Rattle.graph.specs.Held.{graph_in}
use Rattle.theory.specs.Marks.{all_in}
use Rattle.larger.proofs.Marking.{DroppedIn, marks_dropped}
use Rattle.larger.proofs.First.{sum_few, first_none, first_hopeless, some, first-vertex, first-depth, first_found, others-vertices, cleared-vertices, parts-cleared, first-out, room_first, below_found, below_hopeless, room_others, others_found}
use Rattle.larger.proofs.search_all.Goals as goal
use Rattle.larger.proofs.search_all.Goals.{After-mark_first-out}

pub returns-then-m-eq0 : goal.returns-then-m-eq0
returns-then-m-eq0 c = first_none c.args.lent.now.table.fits.small c.requires.parts c.requires.posed c.if-m-eq0.true

pub hopeless-requires : goal.hopeless-requires
hopeless-requires c =
    let small = c.args.lent.now.table.fits.small in
    let sum = sum_few small c.requires.parts c.requires.posed in
    (omega (arith, small, c.requires.posed.room), omega (arith, small, c.requires.posed.room, sum), omega arith)

pub returns-then-hopeless : goal.returns-then-hopeless
returns-then-hopeless c = first_hopeless c.args.lent.now.table.fits.small c.requires.parts c.requires.posed (sym c.hopeless.ensures ∙ c.if-hopeless.true)

pub degree-d-requires : goal.degree-d-requires
degree-d-requires c = first-vertex c.args.lent.now.table.fits.small c.requires.parts c.requires.posed c.if-m-eq0.false c.from-v.ensures

pub with_member-first-requires : goal.with_member-first-requires
with_member-first-requires c =
    let small = c.args.lent.now.table.fits.small in
    let sum = sum_few small c.requires.parts c.requires.posed in
    (omega (arith, small, c.requires.posed.room), omega (arith, small, c.requires.posed.room, sum), omega (arith, small, c.degree-d.ensures))

pub isolates-requires : goal.isolates-requires
isolates-requires c =
    let small = c.args.lent.now.table.fits.small in
    let depth = first-depth small c.requires.parts c.requires.posed c.if-m-eq0.false c.from-v.ensures c.degree-d.ensures c.with_member-first.ensures in
    omega (arith, small, c.requires.posed.room, c.if-m-eq0.false, depth)

pub returns-then-isolates : goal.returns-then-isolates
returns-then-isolates c =
    first_found c.args.lent.now.table.fits.small c.requires.parts c.requires.posed c.if-m-eq0.false c.from-v.ensures c.degree-d.ensures c.with_member-first.ensures
    (sym c.if-isolates.true ∙ c.isolates.ensures)

pub least_degree-low-requires : goal.least_degree-low-requires
least_degree-low-requires c =
    others-vertices c.args.lent.now.table.fits.small c.requires.parts c.requires.posed c.if-m-eq0.false c.from-v.ensures c.degree-d.ensures c.with_member-first.ensures

pub mark_first-out-requires-clause-member : goal.mark_first-out-requires-clause-member
mark_first-out-requires-clause-member c =
    let small = c.args.lent.now.table.fits.small in
    let vertex = first-vertex small c.requires.parts c.requires.posed c.if-m-eq0.false c.from-v.ensures in
    let depth = first-depth small c.requires.parts c.requires.posed c.if-m-eq0.false c.from-v.ensures c.degree-d.ensures c.with_member-first.ensures in
    (vertex, omega (arith, depth), omega (arith, small, c.requires.posed.room, c.if-m-eq0.false, depth))

pub mark_first-out-requires-clause-vertices : goal.mark_first-out-requires-clause-vertices
mark_first-out-requires-clause-vertices c =
    cleared-vertices c.args.lent.now.table.fits.small c.requires.parts c.requires.posed c.if-m-eq0.false c.from-v.ensures c.degree-d.ensures c.with_member-first.ensures
    (sym c.isolates.ensures ∙ c.if-isolates.false) c.least_degree-low.ensures c.split_at_mut-front.ensures.front

-- where those not joined to the first candidate have dropped out it is added
dropped : (c : After-mark_first-out)
    → DroppedIn (graph_in c.args.lent.now.table) (set c.args.work.now (4 * c.args.lent.now.table.n) 0) all_in (c.split_at_mut-front.result.0.now ++ put_mid 1 (c.args.m - 1) c.split_at_mut-front.result.1.now c.mark_first-out.new.marks) c.from-v.result
    c.with_member-first.result.members 1 c.args.m c.mark_first-out.result
dropped c =
    let small = c.args.lent.now.table.fits.small in
    let there = some small c.requires.parts c.requires.posed c.if-m-eq0.false in
    marks_dropped _ _ 1 c.args.m there (omega (arith, c.requires.posed.room))
    (parts-cleared small c.requires.parts c.requires.posed c.if-m-eq0.false c.from-v.ensures c.degree-d.ensures c.with_member-first.ensures
    (sym c.isolates.ensures ∙ c.if-isolates.false) c.least_degree-low.ensures)
    c.split_at_mut-front.ensures.front c.split_at_mut-front.ensures.back c.mark_first-out.new.marks c.mark_first-out.auto.marks _ _ (λ e h l. refl) c.mark_first-out.ensures

pub overflow_sub-m-2 : goal.overflow_sub-m-2
overflow_sub-m-2 c =
    first-out c.args.lent.now.table.fits.small c.requires.parts c.requires.posed c.if-m-eq0.false c.from-v.ensures c.degree-d.ensures c.with_member-first.ensures
    (sym c.isolates.ensures ∙ c.if-isolates.false) c.least_degree-low.ensures
    (dropped (goal.at.overflow_sub-m-2 c).After-mark_first-out)

pub search_below-requires-clause-state : goal.search_below-requires-clause-state
search_below-requires-clause-state c =
    room_first c.args.lent.now.table.fits.small c.requires.parts c.requires.posed c.if-m-eq0.false c.from-v.ensures c.degree-d.ensures c.with_member-first.ensures
    (sym c.isolates.ensures ∙ c.if-isolates.false) c.least_degree-low.ensures
    (dropped (goal.at.search_below-requires-clause-state c).After-mark_first-out)

pub returns-then-search_below : goal.returns-then-search_below
returns-then-search_below c =
    below_found c.args.lent.now.table.fits.small c.requires.parts c.requires.posed c.if-m-eq0.false c.from-v.ensures c.degree-d.ensures c.with_member-first.ensures
    (sym c.isolates.ensures ∙ c.if-isolates.false) c.least_degree-low.ensures
    (dropped (goal.at.returns-then-search_below c).After-mark_first-out) c.search_below.ensures c.if-search_below.true

pub hopeless-requires-2 : goal.hopeless-requires-2
hopeless-requires-2 c =
    let small = c.args.lent.now.table.fits.small in
    let sum = sum_few small c.requires.parts c.requires.posed in
    (omega (arith, small, c.requires.posed.room), omega (arith, small, c.requires.posed.room, sum), c.least_degree-low.ensures.small)

pub returns-then-hopeless-2 : goal.returns-then-hopeless-2
returns-then-hopeless-2 c =
    below_hopeless c.args.lent.now.table.fits.small c.requires.parts c.requires.posed c.if-m-eq0.false c.from-v.ensures c.degree-d.ensures c.with_member-first.ensures
    (sym c.isolates.ensures ∙ c.if-isolates.false) c.least_degree-low.ensures
    (dropped (goal.at.returns-then-hopeless-2 c).After-mark_first-out) c.search_below.ensures c.if-search_below.false (sym c.hopeless-2.ensures ∙ c.if-hopeless-2.true)

pub search-requires-clause-state : goal.search-requires-clause-state
search-requires-clause-state c =
    room_others c.args.lent.now.table.fits.small c.requires.parts c.requires.posed c.if-m-eq0.false c.from-v.ensures c.degree-d.ensures c.with_member-first.ensures
    (sym c.isolates.ensures ∙ c.if-isolates.false) c.least_degree-low.ensures
    (dropped (goal.at.search-requires-clause-state c).After-mark_first-out) c.search_below.ensures c.if-search_below.false

pub returns : goal.returns
returns c =
    others_found c.args.lent.now.table.fits.small c.requires.parts c.requires.posed c.if-m-eq0.false c.from-v.ensures c.degree-d.ensures c.with_member-first.ensures
    (sym c.isolates.ensures ∙ c.if-isolates.false) c.least_degree-low.ensures
    (dropped (goal.at.returns c).After-mark_first-out) c.search_below.ensures c.if-search_below.false (sym c.hopeless-2.ensures ∙ c.if-hopeless-2.false) c.search.ensures
