-- What the library's chains of iterators find in a position, in the words of the model.
-- Assumes nothing.
use Rattle.std.proofs.Common.{ℕ, zero, suc, ◌+◌, ◌≡◌, ◌≢◌, refl, not, [], ◌∷◌, length, drop, eqb, arith}
use native.Mathlib.Numerals.{add-one}
use borrow.Author.Tests.{eq-eqb, ne_eqb}
use Rattle.std.specs.List.{list_any}
use Rattle.model.specs.Below.{least}
use Rattle.model.specs.Walk.{Position, only}
use Rattle.model.specs.Listing.{is}
use Rattle.model.specs.Calls.{gap}

-- the lowest open rank: the first where it is open, and else one more than that of the ranks after it
pub first-none : least (length {A = ℕ} []) (is 0 []) ≡ 0
unfolding least
first-none = refl

pub first-hit : (b : ℕ) (p : Position) → b ≡ 0 → least (length (b ∷ p)) (is 0 (b ∷ p)) ≡ 0
unfolding least
first-hit b p e = rw (eq-eqb b 0 e) refl

pub first-miss : (b : ℕ) (p : Position) → b ≢ 0 → least (length (b ∷ p)) (is 0 (b ∷ p)) ≡ least (length p) (is 0 p) + 1
unfolding least
first-miss b p e = rw (ne_eqb b 0 e, add-one (least (length p) (is 0 p))) refl

-- not all are open
some_decided : (p : Position) → list_any (λ b. not (eqb b 0)) p ≡ not (only 0 p)
unfolding only
some_decided [] = refl
some_decided (zero ∷ p) = some_decided p
some_decided (suc b ∷ p) = rw (ne_eqb (suc b) 0 (λ e. omega arith), ne_eqb 0 (suc b) (λ e. omega arith)) refl

-- from the lowest open rank on some rank is decided
pub after-open : (p : Position) → list_any (λ b. not (eqb b 0)) (drop (least (length p) (is 0 p)) p) ≡ gap p
unfolding least gap
after-open [] = refl
after-open (zero ∷ p) = some_decided p
after-open (suc b ∷ p) = rw (ne_eqb (suc b) 0 (λ e. omega arith)) (after-open p)
