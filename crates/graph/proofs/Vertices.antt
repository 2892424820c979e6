-- The vertices in a part of the work slice, as what tests them against a table is lent them.
-- Assumes nothing.
use Rattle.std.specs.Prelude.{ℕ, ◌<◌, List}
use Rattle.std.proofs.Common.{drop, arith}
use Rattle.std.proofs.lemmas.List.{length-take}
use Rattle.theory.specs.Parts.{part, HoldsVertices}
use Rattle.theory.proofs.Basics.Parts.{part_at}
use Rattle.graph.specs.Vertices.{VerticesOf}

pub part-vertices : (n : ℕ) (w : List ℕ) (a k : ℕ) → HoldsVertices n w a k → VerticesOf n (part w a k)
part-vertices n w a k h i l =
    let q : i < k = omega (arith, length-take k (drop a w)) in
    rw (part_at w a k i q) (h i q)
