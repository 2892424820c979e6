-- The packed table of a graph that the program lists: it has room, passes, and holds the graph of the bytes.
-- Assumes nothing.
use Prim.Native.Nat.{ℕ, ◌*◌, ◌≤◌}
use mathlib.Core.Path.{◌≡◌, ap, ◌∙◌}
use mathlib.Core.List.{List}
use native.Mathlib.Nat.{mul-le-mul}
use native.Mathlib.Omega.{arith}
use Rattle.model.specs.Graph.{by_table, byte_joined, row_length, by_packed, packed_of}
use Rattle.model.specs.Calls.{refuse_table, refuse_packed}
use Rattle.theory.proofs.Graph.Packed.{row_length-is, packed-graph}
use Rattle.theory.proofs.Calls.OneGraph.{both-refused}
use Rattle.theory.proofs.Calls.Packing.{packed_same}

-- 1,024 numbers hold the rows of 256 vertices
pub packed_room : (n : ℕ) → n ≤ 256 → n * row_length n ≤ 1024
packed_room n h =
    let short : row_length n ≤ 4 = omega (arith, row_length-is n) in
    let most = mul-le-mul h short in
    omega arith

module _ (n : ℕ) (t : List ℕ) (sound : refuse_table n t ≡ 0) {p : List ℕ} (e : p ≡ packed_of (by_table n t)) where
  pub packed_sound : refuse_packed n p ≡ 0
  packed_sound = ap (refuse_packed n) e ∙ both-refused (packed_same n t sound) ∙ sound

  pub packed_holds : by_packed n p ≡ by_table n t
  packed_holds = ap (by_packed n) e ∙ packed-graph n (byte_joined n t)
