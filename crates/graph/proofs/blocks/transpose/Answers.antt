-- `graph::transpose` meets its contract: the six rounds one after another.
-- Assumes nothing.
use native.Mathlib.Omega.{arith}
use Rattle.graph.proofs.Transposition.{six_halves, six_rounds}
use Rattle.graph.proofs.blocks.transpose.Goals as goal

pub swap_round-requires : goal.swap_round-requires
swap_round-requires c = (c.requires, search six_halves)

pub swap_round-requires-2 : goal.swap_round-requires-2
swap_round-requires-2 c = (c.swap_round.ensures.0, search six_halves)

pub swap_round-requires-3 : goal.swap_round-requires-3
swap_round-requires-3 c = (c.swap_round-2.ensures.0, search six_halves)

pub swap_round-requires-4 : goal.swap_round-requires-4
swap_round-requires-4 c = (c.swap_round-3.ensures.0, search six_halves)

pub swap_round-requires-5 : goal.swap_round-requires-5
swap_round-requires-5 c = (c.swap_round-4.ensures.0, search six_halves)

pub swap_round-requires-6 : goal.swap_round-requires-6
swap_round-requires-6 c = (c.swap_round-5.ensures.0, search six_halves)

pub returns : goal.returns
returns c =
    record {
      whole = c.swap_round-6.ensures.0;
      small = λ r. let f = c.type_inv.block r in omega arith;
      cells =
          six_rounds c.swap_round.ensures.1 c.swap_round-2.ensures.1 c.swap_round-3.ensures.1 c.swap_round-4.ensures.1 c.swap_round-5.ensures.1
          c.swap_round-6.ensures.1;
    }
