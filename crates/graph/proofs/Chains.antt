-- What the library's chains of iterators answer, in the words of the model.
-- Assumes nothing.
use Rattle.std.proofs.Common.{ℕ, zero, suc, ◌+◌, ◌≡◌, refl, sym, ap, ap₂, ◌∙◌, Bool, true, false, ◌||◌, List, [], ◌∷◌, length, get_or, nat_lt, arith}
use Rattle.std.specs.List.{list_any, enumerate_from, range_with_len}
use Rattle.model.specs.Below.{any}
use Rattle.theory.proofs.Basics.Tests.{any_same}
use Rattle.model.specs.Calls.{over}

-- some byte is over m
pub list_any-over : (m : ℕ) (bs : List ℕ) → list_any (λ b. nat_lt m b) bs ≡ over m bs
unfolding over
list_any-over m [] = refl
list_any-over m (b ∷ bs) = ap (λ r. nat_lt m b || r) (list_any-over m bs)

-- ---- the numbers of a range

-- some number below n + 1 is 0 or is one more than a number below n
any-front : (n : ℕ) (p : ℕ → Bool) → any (suc n) p ≡ (p 0 || any n (λ i. p (suc i)))
unfolding any
any-front zero p = refl
any-front (suc n) p = ap (λ r. p (suc n) || r) (any-front n p) ∙ or_swap (p (suc n)) (p 0) (any n (λ i. p (suc i)))
  where
    or_swap : (a b c : Bool) → (a || (b || c)) ≡ (b || (a || c))
    or_swap true true c = refl
    or_swap true false c = refl
    or_swap false b c = refl

-- some of the entries passes q with its number, which go from a on
list_any-numbers : (q : ℕ → ℕ → Bool) (a : ℕ) (xs : List ℕ)
    → list_any (λ e. q e.0 e.1) (enumerate_from a xs) ≡ any (length xs) (λ i. q (a + i) (get_or xs i 0))
unfolding any
list_any-numbers q a [] = refl
list_any-numbers q a (x ∷ xs) =
    ap₂ (λ y z. y || z) (let e : a ≡ a + 0 = omega arith in ap (λ k. q k x) e)
    (list_any-numbers q (a + 1) xs ∙ any_same (length xs) _ _ (λ i h. let e : a + 1 + i ≡ a + suc i = omega arith in ap (λ k. q k (get_or xs i 0)) e))
    ∙ sym (any-front (length xs) (λ i. q (a + i) (get_or (x ∷ xs) i 0)))

-- some entry passes q with its index
pub list_any-indexed : (q : ℕ → ℕ → Bool) (xs : List ℕ) → list_any (λ e. q e.0 e.1) (enumerate_from 0 xs) ≡ any (length xs) (λ i. q i (get_or xs i 0))
list_any-indexed q xs = list_any-numbers q 0 xs ∙ any_same (length xs) _ _ (λ i h. let e : 0 + i ≡ i = omega arith in ap (λ k. q k (get_or xs i 0)) e)

-- some of the n numbers from a on passes p
list_any-from : (p : ℕ → Bool) (a n : ℕ) → list_any p (range_with_len a n) ≡ any n (λ i. p (a + i))
unfolding any
list_any-from p a zero = refl
list_any-from p a (suc n) =
    ap₂ (λ x y. x || y) (let e : a ≡ a + 0 = omega arith in ap p e)
    (list_any-from p (a + 1) n ∙ any_same n _ _ (λ i h. let e : a + 1 + i ≡ a + suc i = omega arith in ap p e))
    ∙ sym (any-front n (λ i. p (a + i)))

-- some number below n does
pub list_any-below : (p : ℕ → Bool) (n : ℕ) → list_any p (range_with_len 0 n) ≡ any n p
list_any-below p n = list_any-from p 0 n ∙ any_same n _ _ (λ i h. let e : 0 + i ≡ i = omega arith in ap p e)
