-- `emit::group::write_group` meets its contract: the size, the two entries of the outgoing edges, and right after them the vertices.
-- Assumes nothing.
use Prim.Native.Nat.{ℕ, ◌+◌, ◌/◌, ◌%◌}
use mathlib.Core.Path.{◌≡◌, refl, sym, ap, ◌∙◌}
use mathlib.Core.List.{List}
use native.Mathlib.Omega.{arith}
use native.Mathlib.Numerals.{add-one}
use lib.ListN.{length, set, get_or, length-set}
use lib.Seq.{paste, paste-zero, paste-suc}
use Rattle.std.proofs.lemmas.Slice.{put_mid-paste}
use Rattle.emit.proofs.Groups.{group_put}
use Rattle.emit.proofs.group.write_group.Goals as goal

pub loop-i-init : goal.loop-i-init
loop-i-init c = (paste-zero _ 3 c.args.vertices.now, refl)

pub loop-i-preserved : goal.loop-i-preserved
loop-i-preserved c =
    let l = c.loop-i in
    let vs = c.args.vertices.now in
    let D = set (set (set c.args.out.now 0 (length vs)) 1 (c.args.edges / 65536)) 2 (c.args.edges % 65536) in (
      ap (λ (x : List ℕ). set x (3 + l.i) (get_or vs l.i 0)) l.invariant.0
          ∙ paste-suc D 3 vs l.i 0 (simp length-set (omega arith)) (omega arith)
          ∙ ap (paste D 3 vs) (sym (add-one l.i)),
      simp length-set (simp length-set at l.invariant.1),
    )

pub returns : goal.returns
returns c =
    let vs = c.args.vertices.now in
    let k = length vs in
    let l = c.loop-i in
    let full : l.i ≡ k = omega arith in
    l.invariant.0 ∙ rw full (sym (put_mid-paste 3 k _ vs vs k refl refl refl)) ∙ group_put c.args.out.now vs c.args.edges (omega arith)
