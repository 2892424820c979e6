-- `number::two_numbers` meets its contract: the first space parts the two fields, and a further one spoils the second.
-- Assumes nothing.
use Prim.Native.Nat.{◌+◌, ◌<◌}
use mathlib.Core.Path.{ap, ◌∙◌}
use native.Mathlib.Omega.{arith}
use lib.ListN.{length}
use Rattle.std.proofs.Common.{rules, tests}
use Rattle.std.proofs.lemmas.List.{take_rest}
use Rattle.model.specs.Text.{number_of}
use Rattle.number.specs.Field.{Found}
use Rattle.number.proofs.Fields.{two_single, two-not-first, two-not-second, two_both}
use Rattle.number.proofs.two_numbers.Goals as goal
use Rattle.number.proofs.two_numbers.Goals.{In_ok-end}

-- the first space
parted : (c : In_ok-end) → Found c.args.part.now 32 c.in_ok-end.end × (c.in_ok-end.end < length c.args.part.now)
parted c = search (rules, tests)

pub returns-in_err-end : goal.returns-in_err-end
returns-in_err-end c =
    let none : Found c.args.part.now 32 (length c.args.part.now) = search (rules, tests) in
    rw c.from_residual.ensures (record { goes = two_single none (omega arith); small = tt })

pub returns-in_err-a : goal.returns-in_err-a
returns-in_err-a c =
    let space = parted (goal.at.returns-in_err-a c).In_ok-end in
    rw c.from_residual-in_err-a.ensures (record { goes = two-not-first space.0 space.1 c.in_err-a.ensures.value; small = tt })

pub returns-in_err-b : goal.returns-in_err-b
returns-in_err-b c =
    let space = parted (goal.at.returns-in_err-b c).In_ok-end in
    let e = c.in_err-b.ensures.value ∙ ap number_of (take_rest _ (c.in_ok-end.end + 1)) in
    rw c.from_residual-in_err-b.ensures (record { goes = two-not-second space.0 space.1 e; small = tt })

pub returns : goal.returns
returns c =
    let space = parted (goal.at.returns c).In_ok-end in
    let first = c.in_ok-a.ensures in
    let second = c.in_ok-b.ensures in
    record {
      goes = two_both space.0 space.1 first.value (second.value ∙ ap number_of (take_rest _ (c.in_ok-end.end + 1)));
      small = (first.small, second.small);
    }
