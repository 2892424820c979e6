-- `graph::swap_round` meets its contract.
-- Assumes nothing.
use Rattle.std.proofs.Common.{◌+◌, ◌≡◌, ◌∙◌, sym, subst, length}
use native.Mathlib.Omega.{arith}
use lib.ListN.{length-set}
use Rattle.graph.proofs.Transposition.{half_tested}
use Rattle.graph.proofs.SwappedRows.{SwappedBelow, swapped-none, swapped-same, swapped-more, swapped-all}
use Rattle.graph.proofs.blocks.swap_round.Goals as goal
use Rattle.graph.proofs.blocks.swap_round.Goals.{then-r-s-eq0, else-r-s-eq0}

pub bounds-block-r-then-r-s-eq0 : goal.bounds-block-r-then-r-s-eq0
bounds-block-r-then-r-s-eq0 c =
    let h = c.requires.1 in
    rw c.loop-r.invariant.0 (h.within c.loop-r.r c.loop-r-test.true ((half_tested h c.loop-r.r).0 c.if-r-s-eq0.true))

pub bounds-block-r-then-r-s-eq0-3 : goal.bounds-block-r-then-r-s-eq0-3
bounds-block-r-then-r-s-eq0-3 c =
    let h = c.requires.1 in
    rw (length-set, c.loop-r.invariant.0) (h.within c.loop-r.r c.loop-r-test.true ((half_tested h c.loop-r.r).0 c.if-r-s-eq0.true))

pub loop-r-init : goal.loop-r-init
loop-r-init c = (c.requires.0, swapped-none c.args.s c.args.block.now)

pub loop-r-preserved : goal.loop-r-preserved
loop-r-preserved c =
    let h = c.requires.1 in
    let i = c.loop-r.invariant in
    let whole : length c.if-r-s-eq0.block ≡ 64 = c.if-r-s-eq0.auto.block ∙ i.0 in (
      whole,
      elim c.if-r-s-eq0.branch as (λ _. SwappedBelow c.args.s (c.loop-r.r + 1) c.args.block.now c.if-r-s-eq0.block) [
        | then-r-s-eq0 w ↦
            subst (SwappedBelow c.args.s (c.loop-r.r + 1) c.args.block.now) (sym w.block-is)
            (swapped-more h c.loop-r-test.true ((half_tested h c.loop-r.r).0 w.if-r-s-eq0.true) c.loop-r.block i.0 w.exchanged-upper.result.0
            w.exchanged-upper.result.1 w.exchanged-upper.ensures i.1)
        | else-r-s-eq0 w ↦
            subst (SwappedBelow c.args.s (c.loop-r.r + 1) c.args.block.now) (sym w.block-is)
            (swapped-same (λ e. w.if-r-s-eq0.false ((half_tested h c.loop-r.r).1 e)) i.1)
      ],
    )

pub returns : goal.returns
returns c =
    let i = c.loop-r.invariant in
    let e : c.loop-r.r ≡ 64 = omega (arith, c.loop-r.auto.r-end, c.loop-r-test.false) in
    (i.0, swapped-all (subst (λ k. SwappedBelow c.args.s k c.args.block.now c.loop-r.block) e i.1))
