-- Refusals in their order: earlier tests decide where they find a fault, and leave it to the later ones where they find none.
-- Assumes nothing.
use Prim.Native.Nat.{ℕ, zero, suc}
use mathlib.Core.Path.{◌≡◌, refl, ap}
use mathlib.Core.Bool.{Bool, true, false, true≢false}
use mathlib.Core.Logic.{◌≢◌}
use native.Mathlib.Omega.{arith}
use Rattle.model.specs.Calls.{refuse, or_else}

-- ---- one test

-- a test that is passed found no fault, and so did the later ones
pub refuse_pass : (k : ℕ) (b : Bool) (later : ℕ) → refuse (suc k) b later ≡ 0 → (b ≡ false) × (later ≡ 0)
unfolding refuse
refuse_pass k true later e = absurd (omega arith)
refuse_pass k false later e = (refl, e)

-- a test that finds no fault leaves it to the later ones
pub refuse_on : (k : ℕ) (b : Bool) (later : ℕ) → b ≡ false → refuse k b later ≡ later
unfolding refuse
refuse_on k true later e = absurd (true≢false e)
refuse_on k false later e = refl

-- ---- two groups of tests, one after the other

-- the earlier ones find no fault
pub else_none : {a : ℕ} → a ≡ 0 → (later : ℕ) → or_else a later ≡ later
unfolding or_else
else_none e later = ap (λ (k : ℕ). or_else k later) e

-- they find one
pub else_found : {a : ℕ} → a ≢ 0 → (later : ℕ) → or_else a later ≡ a
unfolding or_else
else_found {a = zero} d later = absurd (d refl)
else_found {a = suc a} d later = refl

-- neither group finds one
pub else_passed : (a later : ℕ) → or_else a later ≡ 0 → (a ≡ 0) × (later ≡ 0)
unfolding or_else
else_passed zero later e = (refl, e)
else_passed (suc a) later e = absurd (omega arith)

-- of three groups it is one whether the first two or the last two are taken together
pub else_assoc : (a b c : ℕ) → or_else (or_else a b) c ≡ or_else a (or_else b c)
unfolding or_else
else_assoc zero b c = refl
else_assoc (suc a) b c = refl
