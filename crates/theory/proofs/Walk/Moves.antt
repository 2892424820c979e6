-- The two moves of the walk by their ranks, what `has` and `finished` say of a position by its ranks, and that a step from a position that passes
-- refusals 21 to 23 leads to one that does.
-- Assumes nothing.
use Prim.Native.Nat.{ℕ, zero, suc, ◌+◌, ◌-◌, ◌≤◌, ◌<◌}
use mathlib.Core.Path.{◌≡◌, refl, sym, ap, ◌∙◌, subst}
use mathlib.Core.Bool.{Bool, true, false, ◌&&◌, not}
use mathlib.Core.List.{[], ◌∷◌, ◌++◌}
use mathlib.Core.Logic.{◌≢◌}
use native.Mathlib.Nat.{not-suc-le-zero}
use native.Mathlib.Omega.{arith}
use lib.ListN.{length, get_or, take, set}
use Rattle.model.specs.Walk.{Position, Rules, only, has, fresh, finished, advance, retreat, step, after}
use Rattle.model.specs.Calls.{refuse_position}
use Rattle.theory.proofs.Basics.Tests.{fails, in_length}
use Rattle.theory.proofs.Walk.Remaining.{has_test, retreat-deep, retreat_here}
use Rattle.theory.proofs.Walk.Walk.{Lawful, after-add}
use Rattle.theory.proofs.Walk.Accepted.{walk-accepted}
use Rattle.theory.proofs.Walk.Visited.{visited_iff}

-- ---- tests on a position by its ranks

-- a rank that is x, and no rank that is x
pub has-found : (x : ℕ) (p : Position) (r : ℕ) → r < length p → get_or p r 0 ≡ x → has x p ≡ true
has-found x p r h e = (has_test x p).1 (r, h, e)

pub has-none : (x : ℕ) (p : Position) → ((r : ℕ) → r < length p → get_or p r 0 ≢ x) → has x p ≡ false
has-none x p f = fails (has x p) (λ e. let t = (has_test x p).0 e in f t.0 t.1 t.2)

-- finished is neither open nor taken anywhere
pub finished-is : (p : Position) → ((r : ℕ) → get_or p r 0 ≤ 2) → finished p ≡ (not (has 0 p) && not (has 1 p))
unfolding only has
finished-is [] f = refl
finished-is (zero ∷ p) f = refl
finished-is (suc zero ∷ p) f = go (has 0 p)
  where
    go : (b : Bool) → false ≡ (not b && false)
    go true = refl
    go false = refl
finished-is (suc (suc zero) ∷ p) f = finished-is p (λ r. f (suc r))
finished-is (suc (suc (suc x)) ∷ p) f = let l = f 0 in absurd (omega arith)

-- ---- the moves

-- taking the lowest open rank
pub advance-is : (p : Position) (d : ℕ) → d < length p → ((r : ℕ) → r < d → get_or p r 0 ≢ 0) → get_or p d 0 ≡ 0 → advance p ≡ set p d 1
unfolding advance
advance-is [] d h f e = absurd (not-suc-le-zero h)
advance-is (zero ∷ p) zero h f e = refl
advance-is (zero ∷ p) (suc d) h f e = absurd (f 0 (omega arith) refl)
advance-is (suc x ∷ p) zero h f e = absurd (omega arith)
advance-is (suc x ∷ p) (suc d) h f e = ap (λ (q : Position). suc x ∷ q) (advance-is p d (omega arith) (λ r l. f (suc r) (omega arith)) e)

-- leaving the highest taken rank
pub retreat-is : (p : Position) (r : ℕ) → get_or p r 0 ≡ 1 → ((i : ℕ) → r < i → get_or p i 0 ≢ 1) → retreat p ≡ take r p ++ (2 ∷ fresh (length p - suc r))
retreat-is [] r e f = absurd (omega arith)
retreat-is (x ∷ p) zero e f =
    let one : x ≡ 1 = e in
    let k : suc (length p) - 1 ≡ length p = omega arith in
    ap (λ (y : ℕ). retreat (y ∷ p)) one
    ∙ retreat_here p (has-none 1 p (λ i h. f (suc i) (omega arith)))
    ∙ ap (λ (m : ℕ). 2 ∷ fresh m) (sym k)
retreat-is (x ∷ p) (suc r) e f =
    let k : suc (length p) - suc (suc r) ≡ length p - suc r = omega arith in
    retreat-deep x p (has-found 1 p r (in_length p r (λ z. omega arith)) e)
    ∙ ap (λ (q : Position). x ∷ q) (retreat-is p r e (λ i h. f (suc i) (omega arith)))
    ∙ ap (λ (m : ℕ). x ∷ (take r p ++ (2 ∷ fresh m))) (sym k)

-- ---- a step

-- under lawful rules a step keeps refusals 21 to 23 passed
pub step-accepted : (R : Rules) (n : ℕ) → Lawful R n → (p : Position) → length p ≡ n → refuse_position R p ≡ 0 → refuse_position R (step R p) ≡ 0
unfolding after
step-accepted R n law p l e =
    let v = (visited_iff R n law p l).0 e in
    subst (λ (q : Position). refuse_position R q ≡ 0)
    (after-add R v.0 1 (fresh n) ∙ ap (step R) v.1)
    (walk-accepted R n law (v.0 + 1))
