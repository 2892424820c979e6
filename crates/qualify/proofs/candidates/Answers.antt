-- `qualify::candidates` meets its contract.
-- Assumes nothing.
use Prim.Native.Nat.{ℕ, ◌+◌, ◌-◌, ◌*◌, ◌<◌}
use mathlib.Core.Path.{◌≡◌, sym, ap, ◌∙◌}
use mathlib.Core.List.{List}
use native.Mathlib.Omega.{arith}
use lib.ListN.{length, get_or, take, drop, take-append-drop}
use Rattle.std.specs.Prelude.{◌++◌}
use Rattle.theory.specs.Parts.{part}
use Rattle.theory.proofs.Basics.Parts.{filled_same}
use Rattle.graph.proofs.Vertices.{part-vertices}
use Rattle.qualify.proofs.Sifted.{sifted_none, sifted_hit, sifted_miss, rank-small, rank-read, lefts-lent, lefts-full, taken-lent, candidate_set}
use Rattle.qualify.proofs.candidates.Goals as goal
use Rattle.qualify.proofs.candidates.Goals.{After-from, then-joined_to_all, else-joined_to_all}

pub loop-rank-init : goal.loop-rank-init
loop-rank-init c = (omega arith, rw (c.split_at_mut-front.ensures.back, take-append-drop) (sifted_none c.requires))

-- the rank that is looked at
module _ (c : After-from) where
  ranks-lent : take (2 * c.args.g.now.lent.table.n + c.args.left - 2 * c.args.g.now.lent.table.n) (drop (2 * c.args.g.now.lent.table.n) c.split_at_mut-front.result.0.now)
      ≡ part c.args.work.now (2 * c.args.g.now.lent.table.n) c.args.left
  ranks-lent = rw c.split_at_mut-front.ensures.front (lefts-lent c.requires)

  -- is one of the left ones
  low : c.loop-rank.rank-index < c.args.left
  low = omega (arith, ap length ranks-lent, lefts-full c.requires, c.loop-rank-test.true)

  read : c.from.result ≡ get_or c.args.work.now (2 * c.args.g.now.lent.table.n + c.loop-rank.rank-index) 0
  read = c.from.ensures ∙ ap (λ (xs : List ℕ). get_or xs c.loop-rank.rank-index 0) ranks-lent ∙ rank-read c.requires c.loop-rank.rank-index low

pub vertex_at-v-requires : goal.vertex_at-v-requires
vertex_at-v-requires c =
    let at = (goal.at.vertex_at-v-requires c).After-from in
    rank-small c.requires c.loop-rank.invariant.1 (low at) (read at)

pub joined_to_all-requires-clause-vertices : goal.joined_to_all-requires-clause-vertices
joined_to_all-requires-clause-vertices c =
    let n = c.args.g.now.lent.table.n in
    rw (c.split_at_mut-front.ensures.front, taken-lent c.requires) (part-vertices n c.args.work.now n c.args.taken c.requires.vertices)

pub loop-rank-preserved : goal.loop-rank-preserved
loop-rank-preserved c =
    let at = (goal.at.loop-rank-preserved c).After-from in
    let a = c.requires in
    let v = c.loop-rank.invariant in
    let u = c.vertex_at-v.ensures.0 in
    let e = rw (c.split_at_mut-front.ensures.front, taken-lent a) at c.joined_to_all.ensures in
    elim c.if-joined_to_all.branch [
      | then-joined_to_all w ↦ (
        omega (arith, v.0, w.m-is),
        filled_same (ap (λ (ys : List ℕ). take (3 * c.args.g.now.lent.table.n) c.args.work.now ++ ys) w.candidates-is ∙ candidate_set a _ _ _) w.m-is
            (sifted_hit a v.1 (low at) (read at) u v.0 (sym w.if-joined_to_all.true ∙ e)),
      )
      | else-joined_to_all w ↦ (
        omega (arith, v.0, w.m-is),
        filled_same (ap (λ (ys : List ℕ). take (3 * c.args.g.now.lent.table.n) c.args.work.now ++ ys) w.candidates-is) w.m-is
            (sifted_miss a v.1 (low at) (read at) u (sym w.if-joined_to_all.false ∙ e)),
      )
    ]
