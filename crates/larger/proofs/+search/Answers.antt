-- `larger::search`, `larger::search_with` and `larger::search_below` meet their contracts: at each candidate the search says of those from it on what it says of all,
-- and with a candidate added a return undoes what adding it did.
-- Assumes nothing.
use Rattle.std.proofs.Common.{ℕ, ◌-◌, sym, ◌∙◌, ◌++◌, arith}
use mathlib.Core.Logic.{inl, inr}
use borrow.Rule.Slice.PartMut.{put_mid}
use Rattle.graph.specs.Held.{graph_in}
use Rattle.larger.proofs.Marking.{marks_dropped, marks_lent}
use Rattle.larger.proofs.Adding.{Asked, lent-vertices, left-few, depth_is, sum_with, with_found, with_given_up, Below, out-few, parts-below, room_added, room_whole, with_whole, with_some, below_none}
use Rattle.larger.proofs.Searching.{still-few, at_end, at_out, one_in, at_hopeless, Tries, parts_with, room_with, at_found, at_next}
use Rattle.larger.proofs.+search.Goals as goal
use Rattle.larger.proofs.+search.Goals.{search-After-from-v, search-then-work-n-eq0+else-search_with+else-hopeless, search-else-work-n-eq0, search_with-After-degree-d, search_with-After-drop_out-out, search_below-else-not-hopeless-via-then-not-hopeless+else-search, search_below-else-not-hopeless-via-else-not-hopeless}

-- ---- the search, candidate by candidate

pub search-overflow_sub-still : goal.search-overflow_sub-still
search-overflow_sub-still t c = one_in c.loop-j.invariant c.loop-j-test.true c.if-work-n-eq0.true

-- where the candidate is read it is to be added
tries : (t : ℕ) (c : search-After-from-v t) → Tries c.loop-j.invariant c.from-v.result
tries t c = record { inside = c.loop-j-test.true; is_in = c.if-work-n-eq0.true; reads = c.from-v.ensures }

pub search-search_with-requires : goal.search-search_with-requires
search-search_with-requires t c =
    let it = tries t (goal.at.search-search_with-requires t c).After-from-v in
    (omega (arith, c.loop-j.invariant.from, it.inside), (parts_with _ it, room_with _ it))

pub search-returns-then-search_with : goal.search-returns-then-search_with
search-returns-then-search_with t c =
    at_found _ (tries t (goal.at.search-returns-then-search_with t c).After-from-v) c.search_with.ensures c.if-search_with.true

pub search-hopeless-requires : goal.search-hopeless-requires
search-hopeless-requires t c =
    let at = c.loop-j.invariant in (
      omega (arith, at.small, at.room.room, at.from, still-few at),
      omega (arith, at.small, at.room.room, at.room.sum),
      at.room.low_small,
    )

pub search-returns-then-hopeless : goal.search-returns-then-hopeless
search-returns-then-hopeless t c =
    at_hopeless _ (tries t (goal.at.search-returns-then-hopeless t c).After-from-v) c.search_with.ensures c.if-search_with.false (sym c.hopeless.ensures ∙ c.if-hopeless.true)

pub search-loop-j-preserved : goal.search-loop-j-preserved
search-loop-j-preserved t c =
    elim c.if-work-n-eq0.branch [
      | search-then-work-n-eq0+else-search_with+else-hopeless w ↦ rw (w.work-is, w.still-is) (at_next c.loop-j.invariant (record { inside = c.loop-j-test.true; is_in = w.if-work-n-eq0.true; reads = w.from-v.ensures }) w.search_with.ensures w.if-search_with.false (sym w.hopeless.ensures ∙ w.if-hopeless.false))
      | search-else-work-n-eq0 w ↦ rw (w.work-is, w.still-is) (at_out c.loop-j.invariant c.loop-j-test.true w.if-work-n-eq0.false)
    ]

pub search-returns : goal.search-returns
search-returns t c = at_end c.loop-j.invariant c.loop-j-test.false

-- ---- with a candidate added

-- what it begins with
asked : (t : ℕ) (c : search_with-After-degree-d t) → let a = c.args in Asked (graph_in a.lent.now.table) a.work.now a.q a.y a.low a.v a.i a.m a.left
asked t c = record { small = c.args.lent.now.table.fits.small; parts = c.requires.parts; room = c.requires.state }

pub search_with-returns-then-isolates : goal.search_with-returns-then-isolates
search_with-returns-then-isolates t c =
    with_found (asked t (goal.at.search_with-returns-then-isolates t c).After-degree-d) c.degree-d.ensures c.with_member-z.ensures (sym c.if-isolates.true ∙ c.isolates.ensures)

pub search_with-hopeless-requires : goal.search_with-hopeless-requires
search_with-hopeless-requires t c =
    let a = asked t (goal.at.search_with-hopeless-requires t c).After-degree-d in
    let depth = depth_is a c.degree-d.ensures c.with_member-z.ensures in
    let sum = sum_with a c.degree-d.ensures c.with_member-z.ensures in (
      omega (arith, a.small, a.room.more, depth, left-few a.room.state),
      omega (arith, a.small, a.room.more, depth, sum),
      a.room.state.low_small,
    )

pub search_with-returns-then-hopeless : goal.search_with-returns-then-hopeless
search_with-returns-then-hopeless t c =
    with_given_up (asked t (goal.at.search_with-returns-then-hopeless t c).After-degree-d) c.degree-d.ensures c.with_member-z.ensures
    (sym c.isolates.ensures ∙ c.if-isolates.false) (sym c.hopeless.ensures ∙ c.if-hopeless.true)

pub search_with-drop_out-out-requires-clause-vertices : goal.search_with-drop_out-out-requires-clause-vertices
search_with-drop_out-out-requires-clause-vertices t c =
    lent-vertices (asked t (goal.at.search_with-drop_out-out-requires-clause-vertices t c).After-degree-d) c.split_at_mut-front.ensures.front

-- where those not joined to the candidate have dropped out it is added
below : (t : ℕ) (c : search_with-After-drop_out-out t)
    → Below (asked t (goal.at.search_with-After-drop_out-out t c).After-degree-d) c.degree-d.ensures c.with_member-z.ensures (sym c.isolates.ensures ∙ c.if-isolates.false)
    (c.split_at_mut-front.result.0.now ++ put_mid c.args.i (c.args.m - c.args.i) c.split_at_mut-front.result.1.now c.drop_out-out.new.marks) c.drop_out-out.result
below t c =
    record {
      hope = sym c.hopeless.ensures ∙ c.if-hopeless.false;
      drops =
          marks_dropped _ _ _ _ c.requires.state.state.order c.requires.state.state.few c.requires.parts c.split_at_mut-front.ensures.front c.split_at_mut-front.ensures.back
          c.drop_out-out.new.marks c.drop_out-out.auto.marks _ _ (marks_lent _ _ _ _ c.split_at_mut-front.ensures.back) c.drop_out-out.ensures;
    }

pub search_with-search-requires : goal.search_with-search-requires
search_with-search-requires t c =
    let added = below t (goal.at.search_with-search-requires t c).After-drop_out-out in
    (omega arith, (parts-below _ _ _ _ added, room_whole _ _ _ _ added c.if-out-eq0.true))

pub search_with-returns-then-out-eq0 : goal.search_with-returns-then-out-eq0
search_with-returns-then-out-eq0 t c =
    with_whole _ _ _ _ (below t (goal.at.search_with-returns-then-out-eq0 t c).After-drop_out-out) c.if-out-eq0.true c.search.ensures

pub search_with-overflow_sub-left : goal.search_with-overflow_sub-left
search_with-overflow_sub-left t c = out-few _ _ _ _ (below t (goal.at.search_with-overflow_sub-left t c).After-drop_out-out)

pub search_with-search_below-requires : goal.search_with-search_below-requires
search_with-search_below-requires t c =
    let added = below t (goal.at.search_with-search_below-requires t c).After-drop_out-out in
    (omega arith, (parts-below _ _ _ _ added, room_added _ _ _ _ added))

pub search_with-returns : goal.search_with-returns
search_with-returns t c = with_some _ _ _ _ (below t (goal.at.search_with-returns t c).After-drop_out-out) c.search_below.ensures

-- ---- the return

pub search_below-hopeless-requires : goal.search_below-hopeless-requires
search_below-hopeless-requires t c =
    let s = c.requires.state.state in
    let small = c.args.lent.now.table.fits.small in (
      omega (arith, small, s.room, left-few s),
      omega (arith, small, s.room, s.sum),
      s.low_small,
    )

pub search_below-returns : goal.search_below-returns
search_below-returns t c =
    elim c.else-not-hopeless.branch [
      | search_below-else-not-hopeless-via-then-not-hopeless+else-search w ↦ below_none c.requires.state c.requires.parts (w.work-is ∙ w.search.ensures.restored.on_no w.if-search.false) _ c.bring_back.auto.marks c.bring_back.ensures (inr (sym w.search.ensures.answer ∙ w.if-search.false))
      | search_below-else-not-hopeless-via-else-not-hopeless w ↦ below_none c.requires.state c.requires.parts w.work-is _ c.bring_back.auto.marks c.bring_back.ensures (inl (sym c.hopeless.ensures ∙ w.if-not-hopeless.false))
    ]
