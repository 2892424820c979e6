-- `pack::write_packed` meets its contract: the lengths decide first, then the bytes.
-- Assumes nothing.
use Prim.Native.Nat.{◌≤◌}
use native.Mathlib.Nat.{mul-le-mul}
use native.Mathlib.Omega.{arith}
use Rattle.refusal.proofs.Handed.{fault-met}
use Rattle.graph.proofs.RowBounds.{row-short}
use Rattle.pack.proofs.Replies.{packs-many, packs_other-table, packs_other-slice, packs_refused, packs-done}
use Rattle.pack.proofs.packing.write_packed.Goals as goal
use Rattle.pack.proofs.packing.write_packed.Goals.{then-bytes-n-via-then-bytes-n, then-bytes-n-via-else-bytes-n+then-packed-n}

pub returns-then-n-gt-MOST_VERTICES : goal.returns-then-n-gt-MOST_VERTICES
returns-then-n-gt-MOST_VERTICES c = packs-many _ _ _ c.if-n-gt-MOST_VERTICES.true

pub overflow_mul-n-else-bytes-n : goal.overflow_mul-n-else-bytes-n
overflow_mul-n-else-bytes-n c =
    let few = c.if-n-gt-MOST_VERTICES.false in
    let short : c.row_length.result ≤ 16 = rw c.row_length.ensures (row-short c.args.n few) in
    let most = mul-le-mul few short in
    omega arith

pub returns-then-bytes-n : goal.returns-then-bytes-n
returns-then-bytes-n c =
    elim c.then-bytes-n.branch [
      | then-bytes-n-via-then-bytes-n w ↦ packs_other-table _ _ _ c.if-n-gt-MOST_VERTICES.false w.if-bytes-n.true
      | then-bytes-n-via-else-bytes-n+then-packed-n w ↦ packs_other-slice _ _ _ c.if-n-gt-MOST_VERTICES.false w.if-bytes-n.false
          (λ z. omega (arith, rw w.row_length.ensures at w.if-packed-n.true))
    ]

pub returns-in_err-check : goal.returns-in_err-check
returns-in_err-check c =
    let r = c.in_err-check.field-0.0 in
    packs_refused _ _ _ c.if-n-gt-MOST_VERTICES.false c.if-bytes-n.false (omega (arith, rw c.row_length.ensures at c.if-packed-n.false)) r c.in_err-check.ensures (fault-met _ r c.from_residual.ensures.1)

pub returns : goal.returns
returns c =
    packs-done _ _ _ c.if-n-gt-MOST_VERTICES.false c.if-bytes-n.false (omega (arith, rw c.row_length.ensures at c.if-packed-n.false)) c.in_ok-check.ensures c.fill.ensures
