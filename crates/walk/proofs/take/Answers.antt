-- `walk::take` meets its contract: the lowest open rank is the one that `decided` names.
-- Assumes nothing.
use Prim.Native.Nat.{◌<◌}
use mathlib.Core.Path.{sym, subst⁻¹}
use native.Mathlib.Omega.{arith}
use lib.ListN.{length}
use Rattle.model.specs.Walk.{advance}
use Rattle.theory.proofs.Walk.Moves.{advance-is}
use Rattle.state.specs.NextRank.{Decides}
use Rattle.state.proofs.Opened.{set_decides}
use Rattle.walk.proofs.take.Goals as goal

pub returns : goal.returns
returns c =
    let p = c.args.position.now in
    let s = c.args.s in
    let St = c.requires.0 in
    let h : s.decided < length p = omega (arith, c.requires.1, St.long) in
    let e = advance-is p s.decided h St.decided (St.still_open s.decided (omega arith)) in
    record {
      position = sym e;
      stands = c.push_taken.ensures.stands p (advance p) St (subst⁻¹ (Decides s.decided 1 p) e (set_decides p s.decided h 1 St.still_open));
    }
