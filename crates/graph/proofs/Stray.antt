-- Refusal 45 as the last number of each row shows it.
-- Assumes nothing.
use Prim.Native.Nat.{ℕ, ◌+◌, ◌-◌, ◌*◌, ◌/◌, ◌^◌, ◌≤◌, ◌<◌}
use mathlib.Core.Path.{◌≡◌, sym, ap, ◌∙◌}
use mathlib.Core.Bool.{not}
use mathlib.Core.Logic.{◌⊎◌, inl, inr}
use mathlib.Core.List.{List}
use native.Mathlib.Omega.{arith}
use lib.ListN.{get_or}
use lib.Dec.{ltb}
use Rattle.std.proofs.lemmas.Bool.{cases_lt}
use Rattle.std.proofs.lemmas.Nat.{pow_pos}
use Rattle.std.proofs.lemmas.Nat.Bits.{ones_shr}
use Rattle.model.specs.Below.{any}
use Rattle.model.specs.Graph.{row_length}
use Rattle.model.specs.Calls.{bits_of}
use Rattle.theory.proofs.Basics.Tests.{Test, test_agree, test_not, test_lt, test_any}
use Rattle.theory.proofs.Graph.Packed.{row_length-is}

-- more than the largest number of m bits is too much for m bits
over-most : (m x : ℕ) → ltb (2 ^ m - 1) x ≡ not (ltb x (2 ^ m))
over-most m x = test_agree (test_lt (2 ^ m - 1) x) (test_not (test_lt x (2 ^ m))) (λ h l. omega (arith, pow_pos m)) (λ f. below f)
  where
    below : (x < 2 ^ m → ⊥) → 2 ^ m - 1 < x
    below f = omega (arith, pow_pos m, f)

-- the largest number of as many bits as the last number of a row has for vertices
most-is : (n : ℕ) → 1 ≤ row_length n → 18446744073709551615 / 2 ^ (64 * row_length n - n) ≡ 2 ^ bits_of n (row_length n - 1) - 1
most-is n h =
    let e : bits_of n (row_length n - 1) ≡ 64 - (64 * row_length n - n) = omega (arith, row_length-is n) in
    ones_shr 64 (64 * row_length n - n) (omega (arith, row_length-is n)) ∙ ap (λ (m : ℕ). 2 ^ m - 1) (sym e)

-- Whether some number of the row of u has a bit that is no vertex's: every number but the last has 64 bits for 64 vertices.
pub last-stray : (n : ℕ) (t : List ℕ) → ((i : ℕ) → get_or t i 0 < 2 ^ 64) → (u : ℕ) → u < n
    → ltb (18446744073709551615 / 2 ^ (64 * row_length n - n)) (get_or t (u * row_length n + (row_length n - 1)) 0)
    ≡ any (row_length n) (λ j. not (ltb (get_or t (u * row_length n + j) 0) (2 ^ bits_of n j)))
last-stray n t fits u h =
    ap (λ (m : ℕ). ltb m (x (row_length n - 1))) (most-is n some)
    ∙ over-most (bits_of n (row_length n - 1)) (x (row_length n - 1))
    ∙ test_agree (much (row_length n - 1)) (test_any (row_length n) _ much) (λ d. (row_length n - 1, omega (arith, some), d)) (λ r. last r.0 r.1 r.2 (cases_lt r.0 (row_length n - 1)))
  where
    some : 1 ≤ row_length n
    some = omega (arith, row_length-is n)

    x : ℕ → ℕ
    x j = get_or t (u * row_length n + j) 0

    much : (j : ℕ) → Test (not (ltb (x j) (2 ^ bits_of n j))) (x j < 2 ^ bits_of n j → ⊥)
    much j = test_not (test_lt (x j) (2 ^ bits_of n j))

    last : (j : ℕ) → j < row_length n → (x j < 2 ^ bits_of n j → ⊥) → (j < row_length n - 1) ⊎ (row_length n - 1 ≤ j) → x (row_length n - 1) < 2 ^ bits_of n (row_length n - 1) → ⊥
    last j hj d (inl l) = let full : bits_of n j ≡ 64 = omega (arith, row_length-is n) in absurd (d (rw full (fits (u * row_length n + j))))
    last j hj d (inr l) = let e : j ≡ row_length n - 1 = omega arith in rw e at d
