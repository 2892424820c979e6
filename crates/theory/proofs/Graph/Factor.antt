-- The laws of the factor's bound. What is proved of isolation goes by these alone, and not by what `within` and `Under` say.
-- Assumes nothing.
use Prim.Native.Nat.{ℕ, ◌*◌, ◌≤◌, ◌<◌}
use mathlib.Core.Path.{◌≡◌}
use mathlib.Core.Bool.{Bool, true, cond}
use native.Mathlib.Nat.{lt_of_le_of_lt, lt_of_lt_of_le, mul-le-mul_left}
use native.Mathlib.Omega.{arith}
use Rattle.model.specs.Below.{count, total}
use Rattle.model.specs.Groups.{Factor, within}
use Rattle.model.specs.Meaning.{Under}
use Rattle.theory.proofs.Basics.Tests.{Test, test_lt}
use Rattle.theory.proofs.Basics.Counting.{total-least}

-- the test computes the bound
pub under_test : (c : Factor) (k x : ℕ) → Test (within c k x) (Under c k x)
unfolding within Under
under_test c k x = test_lt x (c * k)

-- what is no larger is under it too
pub under_mono : (c : Factor) (k : ℕ) {x y : ℕ} → x ≤ y → Under c k y → Under c k x
unfolding Under
under_mono c k h u = lt_of_le_of_lt h u

-- what is under it for fewer members is under it for more
pub under_wider : (c : Factor) {k j : ℕ} (x : ℕ) → k ≤ j → Under c k x → Under c j x
unfolding Under
under_wider c x h u = lt_of_lt_of_le u (mul-le-mul_left c h)

-- where no member is under it, the sum is not
pub under_sum : (c : Factor) (n : ℕ) (S : ℕ → Bool) (f : ℕ → ℕ) → ((i : ℕ) → i < n → S i ≡ true → Under c 1 (f i) → ⊥)
    → Under c (count n S) (total n (λ i. cond (S i) (f i) 0)) → ⊥
unfolding Under
under_sum c n S f h u =
    let k = total-least n c S f (λ i l e. let g = h i l e in not_under (f i) g) in
    omega arith
  where
    not_under : (x : ℕ) → (x < c * 1 → ⊥) → c ≤ x
    not_under x g = omega arith
