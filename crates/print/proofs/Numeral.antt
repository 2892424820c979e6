-- A numeral is what std prints of a number, and how long it is. Assumes nothing.
use Prim.Native.Nat.{ℕ, suc, ◌^◌, ◌≤◌, ◌<◌}
use mathlib.Core.Path.{◌≡◌}
use native.Mathlib.Omega.{arith}
use lib.ListN.{length}
use Rattle.std.proofs.Common.{rules}
use Rattle.std.proofs.lemmas.Fmt.{AppendsLastDigit, decimal_from_appends, length-decimal-le_succ}
use Rattle.std.specs.Fmt.{decimal}
use Rattle.model.specs.Program.{digits_within, numeral}
use Rattle.theory.proofs.Program.Numeral.{numeral-length}

-- one digit, or the last digit after those of the tenth part
appends : AppendsLastDigit digits_within
unfolding digits_within
appends = search rules

pub numeral_decimal : (k : ℕ) → k < 2 ^ 64 → numeral k ≡ decimal k
unfolding numeral
numeral_decimal k h = decimal_from_appends digits_within appends (suc k) k h (search (rules, length-decimal-le_succ))

-- five digits hold any vertex, ten any 32-bit and twenty any 64-bit number
pub five_digits : (k : ℕ) → k ≤ 65536 → length (numeral k) ≤ 5
five_digits k h = numeral-length k 5 (omega arith) (omega arith)

pub ten_digits : (k : ℕ) → k < 2 ^ 32 → length (numeral k) ≤ 10
ten_digits k h = numeral-length k 10 (omega arith) (omega arith)

pub twenty_digits : (k : ℕ) → k < 2 ^ 64 → length (numeral k) ≤ 20
twenty_digits k h = numeral-length k 20 (omega arith) (omega arith)
