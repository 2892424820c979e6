-- `state::State::push` meets its contract: a mark that is 1 or 2, and not 1, is 2.
-- Assumes nothing.
use Prim.Native.Nat.{ℕ}
use mathlib.Core.Path.{◌≡◌, subst⁻¹}
use native.Mathlib.Omega.{arith}
use Rattle.state.specs.NextRank.{Pushed}
use Rattle.ranks.specs.Held.{ranked_graph}
use Rattle.state.proofs.State.push.Goals as goal

pub returns-then-mark-eq-TAKEN : goal.returns-then-mark-eq-TAKEN
returns-then-mark-eq-TAKEN c =
    let e : c.args.mark ≡ 1 = omega arith in
    subst⁻¹ (λ (x : ℕ). Pushed (ranked_graph c.args.g.now) x c.args.work.now c.args.self c.push_taken.new.work c.push_taken.result)
    e c.push_taken.ensures

pub returns : goal.returns
returns c =
    let e : c.args.mark ≡ 2 = omega arith in
    subst⁻¹ (λ (x : ℕ). Pushed (ranked_graph c.args.g.now) x c.args.work.now c.args.self c.push_left.new.work c.push_left.result)
    e c.push_left.ensures
