-- What a search through a position, rank by rank, finds of it: its lowest open rank, and a gap.
-- Assumes nothing.
use Prim.Native.Nat.{ℕ, zero, suc, ◌≤◌, ◌<◌, zero-le}
use mathlib.Core.Path.{◌≡◌, refl, sym, ap, ◌∙◌}
use mathlib.Core.Bool.{Bool, true, false, cond, true≢false}
use mathlib.Core.Logic.{◌≢◌, ◌⊎◌, inl, inr, ⊎_elim}
use native.Mathlib.Nat.{not-suc-le-zero, eq-or-lt_of_le}
use native.Mathlib.Omega.{arith}
use lib.ListN.{length, get_or}
use borrow.Author.Tests.{eqb-true, eq-eqb}
use Rattle.model.specs.Below.{least}
use Rattle.model.specs.Walk.{Position}
use Rattle.model.specs.Listing.{is}
use Rattle.model.specs.Calls.{gap}
use Rattle.theory.proofs.Basics.Tests.{fails, trichotomy, in_length, not-different}
use Rattle.theory.proofs.Basics.Counting.{least_first}
use Rattle.theory.proofs.Calls.DeadPosition.{gap_test}

-- ---- the least number that passes

-- it passes, or is the end
least-holds : (n : ℕ) (p : ℕ → Bool) → least n p < n → p (least n p) ≡ true
unfolding least
least-holds zero p h = absurd (not-suc-le-zero h)
least-holds (suc n) p h = go (p zero) refl (least-holds n (λ i. p (suc i))) h
  where
    rest : ℕ
    rest = suc (least n (λ i. p (suc i)))

    go : (b : Bool) → p zero ≡ b → (least n (λ i. p (suc i)) < n → p rest ≡ true) → cond b zero rest < suc n → p (cond b zero rest) ≡ true
    go true e f h = e
    go false e f h = f (omega arith)

pub least_le : (n : ℕ) (p : ℕ → Bool) → least n p ≤ n
unfolding least
least_le zero p = zero-le
least_le (suc n) p = go (p zero) (least_le n (λ i. p (suc i)))
  where
    go : (b : Bool) → least n (λ i. p (suc i)) ≤ n → cond b zero (suc (least n (λ i. p (suc i)))) ≤ suc n
    go true h = zero-le
    go false h = omega arith

-- ---- refusal 22: from the lowest open rank on, all are open or one is not

module _ (p : Position) where
  -- the lowest open rank, which is the number of decided ranks where there is no gap
  abbrev lowest : ℕ
  lowest = least (length p) (is 0 p)

  -- the ranks below it are decided
  pub decided-below : (r : ℕ) → r < lowest → get_or p r 0 ≢ 0
  decided-below r h z = true≢false (sym (eq-eqb (get_or p r 0) 0 z) ∙ least_first (length p) (is 0 p) r h)

  pub gap-found : (r : ℕ) → lowest ≤ r → r < length p → get_or p r 0 ≢ 0 → gap p ≡ true
  gap-found r a b d =
      let open-there = eqb-true (get_or p lowest 0) 0 (least-holds (length p) (is 0 p) (omega arith)) in
      (gap_test p).1 (lowest, r, ⊎_elim (λ e. absurd (d (ap (λ (k : ℕ). get_or p k 0) (sym e) ∙ open-there))) (λ l. l) (eq-or-lt_of_le a), b, open-there, d)

  pub gap-none : ((r : ℕ) → lowest ≤ r → r < length p → get_or p r 0 ≡ 0) → gap p ≡ false
  gap-none f = fails (gap p) (λ e. let g = (gap_test p).0 e in at g.0 g.1 g.2 g.3 g.4 g.5 (trichotomy g.0 lowest))
    where
      at : (i r : ℕ) → i < r → r < length p → get_or p i 0 ≡ 0 → get_or p r 0 ≢ 0 → (i < lowest) ⊎ (i ≡ lowest) ⊎ (lowest < i) → ⊥
      at i r h l z d (inl a) = decided-below i a z
      at i r h l z d (inr (inl e)) = d (f r (omega arith) l)
      at i r h l z d (inr (inr a)) = d (f r (omega arith) l)

  -- so without a gap all ranks from there on are open
  pub open_from : gap p ≡ false → (r : ℕ) → lowest ≤ r → get_or p r 0 ≡ 0
  open_from g r h = not-different (get_or p r 0) 0 (λ d. true≢false (sym (gap-found r h (in_length p r d) d) ∙ g))
