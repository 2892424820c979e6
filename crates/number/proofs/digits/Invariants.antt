-- `number::digits` meets its contract: the bytes so far are digits. Assumes nothing.
use Prim.Native.Nat.{ℕ, ◌^◌, ◌≤◌, ◌<◌}
use mathlib.Core.Path.{◌≡◌}
use mathlib.Core.Bool.{true}
use mathlib.Core.List.{List}
use lib.ListN.{length, take}
use Rattle.model.specs.Text.{digits, decimal}
use Rattle.number.proofs.digits.Given as goal

-- the first i bytes are digits, of value v
pub record Counted (bytes : List ℕ) (i v : ℕ) : Type 0 where
  pub within : i ≤ length bytes
  pub small : v < 10 ^ i
  pub digit : digits (take i bytes) ≡ true
  pub value : decimal 0 (take i bytes) ≡ v

abbrev pub invariant-loop-i : goal.invariant-loop-i
invariant-loop-i l = Counted l.bytes l.i l.value
