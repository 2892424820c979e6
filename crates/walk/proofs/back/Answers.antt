-- `walk::back` meets its contract: the state stands for the position with the highest taken rank opened, and then for that rank left.
-- Assumes nothing.
use Prim.Native.Nat.{ℕ, ◌+◌, ◌-◌, ◌*◌}
use mathlib.Core.Path.{◌≡◌, subst}
use native.Mathlib.Omega.{arith}
use lib.ListN.{take, drop, set, length-set}
use Rattle.theory.specs.Parts.{part}
use Rattle.state.proofs.StandsFor.{vertex_low}
use Rattle.state.proofs.Opened.{opened}
use Rattle.walk.specs.Walk.{Trimmed}
use Rattle.walk.proofs.RanksFilled.{ranks_filled}
use Rattle.walk.proofs.HighestTaken.{highest, highest-decided, retreat_decides, retreat_exit, last_sum, last_opened}
use Rattle.walk.proofs.back.Goals as goal
use Rattle.walk.proofs.back.Goals.{After-trim-left}

pub degree-last_degree-requires : goal.degree-last_degree-requires
degree-last_degree-requires c =
    let q = c.requires in
    omega (arith, vertex_low q.0 (c.args.s.taken - 1) (omega (arith, q.1)), c.from-last.ensures)

pub overflow_sub-rest : goal.overflow_sub-rest
overflow_sub-rest c =
    let q = c.requires in
    omega (arith, last_sum q.0 q.1 c.from-r.ensures c.from-last.ensures c.degree-last_degree.ensures.0)

pub bounds-position-r : goal.bounds-position-r
bounds-position-r c =
    omega (arith, highest-decided c.requires.0 c.requires.1 c.from-r.ensures, c.requires.0.bound, c.requires.0.long)

-- the ranks that stay, of the left neighbours of the pivot
trimmed : (c : After-trim-left) → Trimmed (part c.args.work.now (2 * c.args.g.now.lent.table.n) c.args.s.left) (c.args.s.taken - 1) c.from-r.result c.trim-left.result
trimmed c =
    let n = c.args.g.now.lent.table.n in
    let e : 2 * n + c.args.s.left - 2 * n ≡ c.args.s.left = omega arith in
    subst (λ (m : ℕ). Trimmed (take m (drop (2 * n) c.args.work.now)) (c.args.s.taken - 1) c.from-r.result c.trim-left.result) e c.trim-left.ensures

pub slice_bounds-fill-count : goal.slice_bounds-fill-count
slice_bounds-fill-count c = omega (arith, highest-decided c.requires.0 c.requires.1 c.from-r.ensures)

pub slice_bounds-fill-start : goal.slice_bounds-fill-start
slice_bounds-fill-start c = omega (arith, highest-decided c.requires.0 c.requires.1 c.from-r.ensures)

pub push_left-requires : goal.push_left-requires
push_left-requires c =
    let q = c.requires in
    let r = c.from-r in
    let rest = last_opened q.0 q.1 r.ensures c.from-last.ensures c.degree-last_degree.ensures.0 q.2 (trimmed (goal.at.push_left-requires c).After-trim-left) in
    (c.args.g.now.ordered, ((opened r.result c.args.position.now, rest), omega (arith, highest-decided q.0 q.1 r.ensures, q.0.bound)))

pub returns : goal.returns
returns c =
    let q = c.requires in
    let r = c.from-r in
    let H = highest q.0 q.1 r.ensures in
    let rest = last_opened q.0 q.1 r.ensures c.from-last.ensures c.degree-last_degree.ensures.0 q.2 (trimmed (goal.at.returns c).After-trim-left) in
    let h = highest-decided q.0 q.1 r.ensures in
    record {
      position = retreat_exit H q.0.still_open (ranks_filled (set c.args.position.now r.result 2) _ (r.result + 1) c.args.s.decided (omega (arith, h)) (simp length-set (omega (arith, h, q.0.bound, q.0.long))) (c.fill.ensures.after (λ y e. e)));
      stands = c.push_left.ensures.stands _ _ rest (retreat_decides H);
    }
