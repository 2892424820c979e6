-- `state::State::rebuild` meets its contract: the state stands for the position with the ranks from `decided` on opened.
-- Assumes nothing.
use Prim.Native.Nat.{ℕ, ◌+◌, ◌-◌, ◌<◌}
use mathlib.Core.Path.{◌≡◌, refl, sym, ap, ◌∙◌, subst}
use native.Mathlib.Omega.{arith}
use lib.ListN.{length, get_or, take}
use Rattle.std.proofs.lemmas.List.{length-take-le, get_or-take}
use Rattle.model.specs.Below.{least}
use Rattle.model.specs.Walk.{Position}
use Rattle.model.specs.Listing.{is}
use Rattle.theory.proofs.Walk.Scans.{least_le, decided-below}
use Rattle.ranks.specs.Held.{ranked_graph}
use Rattle.state.specs.State.{Stands}
use Rattle.state.specs.NextRank.{Decides}
use Rattle.state.proofs.Opened.{opened, fresh-stands, opened_decides, reopened-is, bytes_most}
use Rattle.state.proofs.State.rebuild.Goals as goal

-- the marks that are gone through, those of the first ranks
module _ (p : Position) {upto : ℕ} (e : upto ≡ least (length p) (is 0 p) - 1) where
  -- are that many
  front-length : length (take upto p) ≡ upto
  front-length = length-take-le upto p (omega (arith, e, least_le (length p) (is 0 p)))

  module _ {d : ℕ} (h : d < length (take upto p)) where
    -- each is the position's
    mark-is : get_or (take upto p) d 0 ≡ get_or p d 0
    mark-is = get_or-take upto p d 0 (omega (arith, front-length))

    -- its rank is decided
    rank-low : d < length p
    rank-low = omega (arith, front-length, e, least_le (length p) (is 0 p))

    marked : 0 < get_or (take upto p) d 0
    marked = let o = decided-below p d (omega (arith, front-length, e)) in omega (arith, mark-is)

    -- and with it decided fewer ranks are opened
    mark_decides : Decides d (get_or (take upto p) d 0) (opened d p) (opened (d + 1) p)
    mark_decides = rw mark-is (opened_decides p d rank-low)

pub slice_bounds-mark-items-end : goal.slice_bounds-mark-items-end
slice_bounds-mark-items-end c = sym (front-length c.args.position.now c.requires.4)

pub loop-mark-init : goal.loop-mark-init
loop-mark-init c =
    let q = c.requires in
    rw c.fresh-s.ensures (refl, fresh-stands _ _ _ q.0 q.1)

pub push-s-requires : goal.push-s-requires
push-s-requires c =
    let l = c.loop-mark in
    let p = c.args.position.now in
    let h = c.loop-mark-test.true in (
      ((opened l.mark-index p, l.invariant.1), omega (arith, c.requires.0, rank-low p c.requires.4 h, l.invariant.0)),
      marked p c.requires.4 h,
      omega (arith, mark-is p c.requires.4 h, bytes_most 2 p c.requires.2 l.mark-index (rank-low p c.requires.4 h)),
    )

pub loop-mark-preserved : goal.loop-mark-preserved
loop-mark-preserved c =
    let l = c.loop-mark in
    let p = c.args.position.now in
    let d = l.mark-index in
    let u = c.push-s.ensures in (
      omega (arith, u.next, l.invariant.0),
      u.stands (opened d p) (opened (d + 1) p) l.invariant.1 (rw l.invariant.0 (mark_decides p c.requires.4 c.loop-mark-test.true)),
    )

pub returns : goal.returns
returns c =
    let l = c.loop-mark in
    let p = c.args.position.now in
    let e : l.mark-index ≡ c.args.upto = omega (arith, front-length p c.requires.4) in
    subst (λ (q : Position). Stands (ranked_graph c.args.g.now) q l.work l.s) (ap (λ (k : ℕ). opened k p) (e ∙ c.requires.4) ∙ reopened-is p c.requires.3) l.invariant.1
