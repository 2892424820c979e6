-- The walk has a length, and one only: a weight of positions falls with each step.
-- Assumes nothing.
use Prim.Native.Nat.{ℕ, zero, suc, ◌+◌, ◌*◌, ◌≤◌, ◌<◌}
use mathlib.Core.Path.{◌≡◌, refl, sym, ap, ◌∙◌}
use mathlib.Core.Bool.{Bool, true, false, ◌&&◌, not, true≢false, false≢true}
use mathlib.Core.List.{[], ◌∷◌, map}
use native.Mathlib.Nat.{suc-mul, mul-le-mul_right, not-suc-le-zero}
use native.Mathlib.Omega.{arith}
use lib.ListN.{length, length-append, length-map}
use Rattle.model.specs.Walk.{Position, Rules, has, only, fresh, finished, advance, retreat, all_decided, step, after, lasts}
use Rattle.theory.proofs.Basics.Tests.{and_right}
use Rattle.theory.proofs.Walk.Remaining.{Valid, Fit, remaining, completions, fresh-fit, advance_remaining, retreat_remaining, retreat-length}
use Rattle.theory.proofs.Walk.Walk.{Lawful, step_down, step_up, step_valid, untaken_decided}

opens : Position → ℕ
opens [] = 0
opens (zero ∷ p) = suc (opens p)
opens (suc x ∷ p) = opens p

opens_le : (p : Position) → opens p ≤ length p
unfolding opens
opens_le [] = omega arith
opens_le (zero ∷ p) = let k = opens_le p in omega arith
opens_le (suc x ∷ p) = let k = opens_le p in omega arith

opens_advance : (p : Position) → Valid p → has 0 p ≡ true → suc (opens (advance p)) ≡ opens p
unfolding opens advance has
opens_advance [] v e = absurd (false≢true e)
opens_advance (zero ∷ p) v e = refl
opens_advance (suc zero ∷ p) v e = opens_advance p v e
opens_advance (suc (suc zero) ∷ p) v e = opens_advance p v e
opens_advance (suc (suc (suc x)) ∷ p) v e = absurd v

all-some : (n : ℕ) → 0 < length (all_decided n)
unfolding all_decided
all-some zero = omega arith
all-some (suc n) =
    let k = all-some n in
    let a = length-append (map (1 ∷◌) (all_decided n)) (map (2 ∷◌) (all_decided n)) in
    let b = length-map (all_decided n) (1 ∷◌) in
    omega arith

completions_some : (p : Position) → 0 < length (completions p)
completions_some [] = omega arith
completions_some (zero ∷ p) = all-some (suc (length p))
completions_some (suc zero ∷ p) = let k = completions_some p in let b = length-map (completions p) (1 ∷◌) in omega arith
completions_some (suc (suc x) ∷ p) = let k = completions_some p in let b = length-map (completions p) (2 ∷◌) in omega arith

all_left : (p : Position) → Valid p → has 0 p ≡ false → has 1 p ≡ false → finished p ≡ true
unfolding has only
all_left [] v e f = refl
all_left (zero ∷ p) v e f = absurd (true≢false e)
all_left (suc zero ∷ p) v e f = absurd (true≢false f)
all_left (suc (suc zero) ∷ p) v e f = all_left p v e f
all_left (suc (suc (suc x)) ∷ p) v e f = absurd v

-- falls with each step
pub weight : ℕ → Position → ℕ
weight n p = length (remaining p) * suc n + opens p

module _ (R : Rules) (n : ℕ) (law : Lawful R n) where
  falls : (p : Position) → Fit n p → finished p ≡ false → weight n (step R p) < weight n p
  unfolding weight
  falls p v e = go (not (R.dead p) && has 0 p) (has 1 p) refl refl
    where
      up : has 1 p ≡ true → length (remaining (retreat p)) * suc n + opens (retreat p) < length (remaining p) * suc n + opens p
      up t =
          let a = ap length (retreat_remaining p v.1 t) ∙ length-append (completions p) (remaining (retreat p)) in
          let b = completions_some p in
          let c : suc (length (remaining (retreat p))) ≤ length (remaining p) = omega arith in
          let d = mul-le-mul_right (suc n) c in
          let f = suc-mul (length (remaining (retreat p))) (suc n) in
          let g = opens_le (retreat p) in
          let h = retreat-length p ∙ v.0 in
          omega arith

      go : (m t : Bool) → (not (R.dead p) && has 0 p) ≡ m → has 1 p ≡ t → length (remaining (step R p)) * suc n + opens (step R p) < length (remaining p) * suc n + opens p
      go true t a b =
          let o = and_right (not (R.dead p)) (has 0 p) a in
          let k = opens_advance p v.1 o in
          rw (step_down R p a, advance_remaining p v.1 o) (omega arith)
      go false true a b = rw (step_up R p a) (up b)
      go false false a b = absurd (true≢false (sym (all_left p v.1 (untaken_decided R n law p a b) b) ∙ e))

  -- so it falls over any stretch of the walk
  pub stretch_falls : (k : ℕ) (p : Position) → Fit n p → 0 < k → ((j : ℕ) → j < k → finished (after R j p) ≡ false) → weight n (after R k p) < weight n p
  unfolding after
  stretch_falls zero p v h w = absurd (not-suc-le-zero h)
  stretch_falls (suc zero) p v h w = falls p v (w 0 (omega arith))
  stretch_falls (suc (suc k)) p v h w =
      let a = falls p v (w 0 (omega arith)) in
      let b = stretch_falls (suc k) (step R p) (step_valid R n law p v) (omega arith) (λ j g. w (suc j) (omega arith)) in
      omega arith

  ends : (fuel : ℕ) (p : Position) → Fit n p → weight n p < fuel → (k : ℕ) × (lasts R k p ≡ true)
  unfolding lasts
  ends zero p v h = absurd (not-suc-le-zero h)
  ends (suc fuel) p v h = go (finished p) refl (λ e. let f = falls p v e in ends fuel (step R p) (step_valid R n law p v) (omega arith))
    where
      go : (b : Bool) → finished p ≡ b → (finished p ≡ false → (k : ℕ) × (lasts R k (step R p) ≡ true)) → (k : ℕ) × (lasts R k p ≡ true)
      go true e ih = (zero, e)
      go false e ih = let r = ih e in (suc r.0, ap (λ (b : Bool). not b && lasts R r.0 (step R p)) e ∙ r.1)

  -- the walk from fresh ends
  pub walk_ends : (k : ℕ) × (lasts R k (fresh n) ≡ true)
  walk_ends = ends (suc (weight n (fresh n))) (fresh n) (fresh-fit n) (omega arith)

-- a walk has one length
pub length-once : (R : Rules) (k j : ℕ) (p : Position) → lasts R k p ≡ true → lasts R j p ≡ true → k ≡ j
unfolding lasts
length-once R zero zero p a b = refl
length-once R zero (suc j) p a b = absurd (false≢true (ap (λ (t : Bool). not t && lasts R j (step R p)) (sym a) ∙ b))
length-once R (suc k) zero p a b = absurd (false≢true (ap (λ (t : Bool). not t && lasts R k (step R p)) (sym b) ∙ a))
length-once R (suc k) (suc j) p a b = ap suc (length-once R k j (step R p) (and_right (not (finished p)) _ a) (and_right (not (finished p)) _ b))
