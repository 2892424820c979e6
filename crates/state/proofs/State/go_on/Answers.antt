-- `state::State::go_on` meets its contract: the state stands with the copied parts too, and the next rank is the last decided one.
-- Assumes nothing.
use Prim.Native.Nat.{◌<◌}
use native.Mathlib.Omega.{arith}
use lib.ListN.{get_or-eq_default}
use Rattle.model.specs.Calls.{reopened}
use Rattle.state.proofs.StandsFor.{copied_part, stands_copied}
use Rattle.state.proofs.Opened.{last_decides, open_stands, bytes_most}
use Rattle.state.proofs.State.go_on.Goals as goal

pub returns-then-d-n : goal.returns-then-d-n
returns-then-d-n c =
    let q = c.requires in
    let p = c.args.position.now in
    open_stands p (stands_copied q.0 (copied_part _ _ (omega arith) (omega arith) c.copy_from_slice.ensures.after) q.1)
    (get_or-eq_default p 0 (omega (arith, (last_decides p q.0).same_length, q.0.long)))

pub bounds-position-d : goal.bounds-position-d
bounds-position-d c =
    omega (arith, (last_decides c.args.position.now c.requires.0).same_length, c.requires.0.long, c.requires.0.bound)

pub returns-then-mark-eq-OPEN : goal.returns-then-mark-eq-OPEN
returns-then-mark-eq-OPEN c =
    open_stands c.args.position.now (stands_copied c.requires.0 (copied_part _ _ (omega arith) (omega arith) c.copy_from_slice.ensures.after) c.requires.1) (omega (arith, c.if-mark-eq-OPEN.true))

pub push-requires : goal.push-requires
push-requires c =
    let q = c.requires in
    let p = c.args.position.now in
    let d = c.args.self.decided in
    let low : d < c.args.g.now.lent.table.n = omega (arith, q.0.bound) in (
      ((reopened p, stands_copied q.0 (copied_part _ _ (omega arith) (omega arith) c.copy_from_slice.ensures.after) q.1), low),
      omega (arith, c.if-mark-eq-OPEN.false),
      bytes_most 2 p q.2 d (omega (arith, (last_decides p q.0).same_length, q.0.long)),
    )

pub returns : goal.returns
returns c =
    let p = c.args.position.now in
    c.push.ensures.stands (reopened p) p
    (stands_copied c.requires.0 (copied_part _ _ (omega arith) (omega arith) c.copy_from_slice.ensures.after) c.requires.1) (last_decides p c.requires.0)
