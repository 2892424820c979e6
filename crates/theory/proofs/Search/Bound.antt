-- The bound on the sum of a clique's degrees as members of one degree are added.
-- Assumes nothing.
use Prim.Native.Nat.{ℕ, zero, suc, ◌+◌, ◌-◌, ◌*◌, ◌≤◌, ◌<◌}
use mathlib.Core.Path.{◌≡◌, subst}
use mathlib.Core.Logic.{◌⊎◌, inl, inr}
use native.Mathlib.Nat.{le_refl, mul-le-mul}
use native.Mathlib.Omega.{arith}
use Rattle.model.specs.Groups.{Factor}
use Rattle.model.specs.Meaning.{Under}
use Rattle.theory.proofs.Basics.Tests.{lt_or_ge, suc_less}

-- ---- the sum of a clique's degrees: each of m + 1 members loses m of its degree to the others

-- the sum is less than what is lost and the bound
abbrev SumUnder : Factor → ℕ → ℕ → Type 0
SumUnder c m sum = sum < c * suc m + suc m * m

-- it is so where what is left of it is under the bound
sum-there : (c : Factor) (k m sum : ℕ) → k ≡ suc m → Under c k (sum - k * (k - 1)) → SumUnder c m sum
unfolding Under
sum-there c k m sum e = rw (e, suc_less m) (λ h. omega arith)

-- and only there, the factor not being 0
sum_back : (c : Factor) (k m sum : ℕ) → k ≡ suc m → 1 ≤ c → SumUnder c m sum → Under c k (sum - k * (k - 1))
unfolding Under
sum_back c k m sum e f h = rw (e, suc_less m) (let p = mul-le-mul f (le_refl (suc m)) in omega arith)

-- nothing is under the factor 0
under_some : (c : Factor) (k x : ℕ) → Under c k x → 1 ≤ c
unfolding Under
under_some zero k x h = absurd (omega arith)
under_some (suc c) k x h = omega arith

-- a degree that is at most what one more member allows: with d more members of that degree it stays so
sum_up : (c : Factor) (m sum low d : ℕ) → low ≤ c + 2 * suc m → SumUnder c m sum → SumUnder c (m + d) (sum + d * low)
sum_up c m sum low zero s h = omega arith
sum_up c m sum low (suc d) s h = let k = sum_up c m sum low d s h in omega arith

-- a degree that is at least what the last member allows: without d members of that degree it stays so
sum_down : (c : Factor) (m sum low d : ℕ) → c + 2 * (m + d) ≤ low → SumUnder c (m + d) (sum + d * low) → SumUnder c m sum
sum_down c m sum low zero s h = omega arith
sum_down c m sum low (suc d) s h = sum_down c m sum low d (omega arith) (omega arith)

-- With x further members of one degree, 1 to r of them, what is left is under the bound only if it is with r or with 1: what the members allow is convex in
-- their number.
pub under_ends : (c : Factor) (k sum low x r : ℕ) → 1 ≤ x → x ≤ r → Under c (k + x) (sum + x * low - (k + x) * (k + x - 1))
    → Under c (k + r) (sum + r * low - (k + r) * (k + r - 1)) ⊎ Under c (k + 1) (sum + 1 * low - (k + 1) * (k + 1 - 1))
under_ends c k sum low zero r h l u = absurd (omega arith)
under_ends c k sum low (suc x) r h l u = go (lt_or_ge (c + 2 * suc (k + x)) low)
  where
    at : SumUnder c (k + x) (sum + low + x * low)
    at = subst (SumUnder c (k + x)) (omega arith) (sum-there c (k + suc x) (k + x) (sum + suc x * low) (omega arith) u)

    some : 1 ≤ c
    some = under_some c (k + suc x) _ u

    more : (d : ℕ) → r ≡ suc x + d → low ≤ c + 2 * suc (k + x) → Under c (k + r) (sum + r * low - (k + r) * (k + r - 1))
    more d e s =
        sum_back c (k + r) (k + x + d) (sum + r * low) (omega arith) some
        (subst (SumUnder c (k + x + d)) (rw e (omega arith)) (sum_up c (k + x) (sum + low + x * low) low d s at))

    go : (c + 2 * suc (k + x) < low) ⊎ (low ≤ c + 2 * suc (k + x))
        → Under c (k + r) (sum + r * low - (k + r) * (k + r - 1)) ⊎ Under c (k + 1) (sum + 1 * low - (k + 1) * (k + 1 - 1))
    go (inr s) = inl (more (r - suc x) (omega arith) s)
    go (inl s) = inr (sum_back c (k + 1) k (sum + 1 * low) (omega arith) some one)
      where
        one : SumUnder c k (sum + 1 * low)
        one = sum_down c k (sum + 1 * low) low x (omega arith) (subst (SumUnder c (k + x)) (omega arith) at)
