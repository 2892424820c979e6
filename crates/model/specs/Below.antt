-- Tests, counts and sums over the numbers below n, as the other definitions use them.
-- Assumes nothing.
use Rattle.std.specs.Prelude.{ℕ, zero, suc, ◌+◌, Bool, true, false, ◌&&◌, ◌||◌, cond, List, [], ◌∷◌, ◌++◌}

-- 1 where the test passes, else 0
abbrev pub bit : Bool → ℕ
bit true = 1
bit false = 0

-- b passes wherever a does
abbrev pub implies : Bool → Bool → Bool
implies true b = b
implies false b = true

-- each number below n passes p
unfoldable pub all : ℕ → (ℕ → Bool) → Bool
all zero p = true
all (suc n) p = let rest = all n p in p n && rest

-- some number below n passes p
unfoldable pub any : ℕ → (ℕ → Bool) → Bool
any zero p = false
any (suc n) p = let rest = any n p in p n || rest

-- how many numbers below n pass p
unfoldable pub count : ℕ → (ℕ → Bool) → ℕ
count zero p = 0
count (suc n) p = bit (p n) + count n p

-- f summed over the numbers below n
unfoldable pub total : ℕ → (ℕ → ℕ) → ℕ
total zero f = 0
total (suc n) f = f n + total n f

-- the least number below n that passes p, and n where none does
unfoldable pub least : ℕ → (ℕ → Bool) → ℕ
least zero p = zero
least (suc n) p = let rest = suc (least n (λ i. p (suc i))) in cond (p zero) zero rest

-- the numbers below n that pass p, smallest first
unfoldable pub passing : ℕ → (ℕ → Bool) → List ℕ
passing zero p = []
passing (suc n) p = passing n p ++ cond (p n) (n ∷ []) []

-- f of each number below n, in their order
unfoldable pub listed : ℕ → (ℕ → ℕ) → List ℕ
listed zero f = []
listed (suc n) f = listed n f ++ (f n ∷ [])
