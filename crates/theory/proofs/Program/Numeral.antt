-- A printed number: it reads back as itself, all its bytes are digits, and it has no leading zero but 0 itself.
-- Assumes nothing.
use Prim.Native.Nat.{ℕ, zero, suc, ◌+◌, ◌*◌, ◌-◌, ◌/◌, ◌%◌, ◌^◌, ◌≤◌, ◌<◌}
use mathlib.Core.Path.{◌≡◌, refl, sym, ap, ◌∙◌}
use mathlib.Core.Bool.{Bool, true, false, ◌&&◌, ◌||◌, not, cond}
use mathlib.Core.Logic.{◌≢◌, inr}
use mathlib.Core.List.{List, [], ◌∷◌, ◌++◌}
use mathlib.Core.Option.{none, some}
use native.Mathlib.Nat.{not-suc-le-zero, pow-suc}
use native.Mathlib.Omega.{arith}
use lib.ListN.{length, get_or, length-append, get_or-append}
use lib.Dec.{leb, ltb, eqb}
use borrow.Author.Tests.{ltb-true, ltb-false, le-leb}
use Rattle.model.specs.Text.{digits, decimal, number_of}
use Rattle.model.specs.Program.{digits_within, numeral}
use Rattle.theory.proofs.Basics.Tests.{test_or, test_not, test_self, test_eq}

module _ (P : ℕ → List ℕ → Type 0) (small : (k : ℕ) → k < 10 → P k ((48 + k) ∷ []))
    (long : (k : ℕ) (l : List ℕ) → 10 ≤ k → P (k / 10) l → P k (l ++ ((48 + k % 10) ∷ []))) where
  within_law : (most k : ℕ) → k < most → P k (digits_within most k)
  unfolding digits_within
  within_law zero k h = absurd (not-suc-le-zero h)
  within_law (suc most) k h = go (ltb k 10) refl (within_law most (k / 10))
    where
      go : (b : Bool) → ltb k 10 ≡ b → (k / 10 < most → P (k / 10) (digits_within most (k / 10)))
          → P k (cond b ((48 + k) ∷ []) (digits_within most (k / 10) ++ ((48 + k % 10) ∷ [])))
      go true e ih = small k (ltb-true k 10 e)
      go false e ih = let l = ltb-false k 10 e in long k (digits_within most (k / 10)) l (ih (omega arith))

  -- what holds of the digits below 10, and passes from a number's digits to those of ten times it and a digit more, holds of all numerals
  pub numeral_law : (k : ℕ) → P k (numeral k)
  unfolding numeral
  numeral_law k = within_law (suc k) k (omega arith)

-- ---- the number of its digits

-- one more digit adds to ten times the value
pub decimal-last : (a : ℕ) (l : List ℕ) (d : ℕ) → decimal a (l ++ (d ∷ [])) ≡ decimal a l * 10 + (d - 48)
unfolding decimal
decimal-last a [] d = refl
decimal-last a (b ∷ l) d = decimal-last (a * 10 + (b - 48)) l d

decimal_digit : (d : ℕ) → decimal 0 (d ∷ []) ≡ d - 48
unfolding decimal
decimal_digit d = omega arith

-- the digits have the value k
pub numeral-value : (k : ℕ) → decimal 0 (numeral k) ≡ k
numeral-value =
    numeral_law (λ k l. decimal 0 l ≡ k)
    (λ k h. omega (arith, decimal_digit (48 + k)))
    (λ k l h e. omega (arith, decimal-last 0 l (48 + k % 10)))

-- ---- its form

digits-one : (d : ℕ) → 48 ≤ d → d ≤ 57 → digits (d ∷ []) ≡ true
unfolding digits
digits-one d h g = rw (le-leb 48 d h, le-leb d 57 g)

-- bytes and one more digit are digits exactly where the bytes are
pub digits_last : (l : List ℕ) (d : ℕ) → 48 ≤ d → d ≤ 57 → digits (l ++ (d ∷ [])) ≡ digits l
unfolding digits
digits_last [] d h g = digits-one d h g
digits_last (b ∷ l) d h g = ap (λ (t : Bool). leb 48 b && leb b 57 && t) (digits_last l d h g)

-- its bytes are digits
pub numeral-digits : (k : ℕ) → digits (numeral k) ≡ true
numeral-digits =
    numeral_law (λ k l. digits l ≡ true)
    (λ k h. digits-one (48 + k) (omega arith) (omega arith))
    (λ k l h e. digits_last l (48 + k % 10) (omega arith) (omega arith) ∙ e)

lead : (k : ℕ) → (0 < length (numeral k)) × (get_or (numeral k) 0 0 ≡ 48 → k ≡ 0)
lead =
    numeral_law (λ k l. (0 < length l) × (get_or l 0 0 ≡ 48 → k ≡ 0))
    (λ k h. (omega arith, λ e. omega arith))
    (λ k l h t.
    let a = length-append l ((48 + k % 10) ∷ []) in
    (omega arith, λ e. let z = t.1 (sym (get_or-append l ((48 + k % 10) ∷ []) 0 0 t.0) ∙ e) in omega arith))

-- there is a first one, and it is no zero, except of 0 itself
pub numeral-some : (k : ℕ) → 0 < length (numeral k)
numeral-some k = (lead k).0

-- no number but 0 begins with the digit 0
pub numeral_lead : (k : ℕ) → k ≢ 0 → get_or (numeral k) 0 0 ≢ 48
numeral_lead k d e = d ((lead k).1 e)

-- a number below the m-th power of ten has no more than m digits
pub numeral-length : (k m : ℕ) → 0 < m → k < 10 ^ m → length (numeral k) ≤ m
numeral-length = numeral_law (λ k l. (m : ℕ) → 0 < m → k < 10 ^ m → length l ≤ m) (λ k h m g b. omega arith) longer
  where
    longer : (k : ℕ) (l : List ℕ) → 10 ≤ k → ((m : ℕ) → 0 < m → k / 10 < 10 ^ m → length l ≤ m)
        → (m : ℕ) → 0 < m → k < 10 ^ m → length (l ++ ((48 + k % 10) ∷ [])) ≤ m
    longer k l h t zero g b = absurd (not-suc-le-zero g)
    longer k l h t (suc zero) g b = absurd (omega arith)
    longer k l h t (suc (suc m)) g b =
        let p = pow-suc 10 (suc m) in
        let a = t (suc m) (omega arith) (omega arith) in
        omega (arith, length-append l ((48 + k % 10) ∷ []))

unled : (k : ℕ) → (eqb (length (numeral k)) 1 || not (eqb (get_or (numeral k) 0 0) 48)) ≡ true
unfolding numeral digits_within
unled zero = refl
unled (suc k) = (test_or {a = eqb (length (numeral (suc k))) 1} test_self (test_not (test_eq (get_or (numeral (suc k)) 0 0) 48))).1 (inr (numeral_lead (suc k) (λ z. omega arith)))

-- so it is read back, where it has no more than 6 digits
pub numeral-number : (k : ℕ) → k < 1000000 → number_of (numeral k) ≡ some k
unfolding number_of
numeral-number k h = ap (λ (b : Bool). cond b (some (decimal 0 (numeral k))) none) shape ∙ ap some (numeral-value k)
  where
    shape : (leb 1 (length (numeral k)) && leb (length (numeral k)) 6 && digits (numeral k) && (eqb (length (numeral k)) 1 || not (eqb (get_or (numeral k) 0 0) 48))) ≡ true
    shape = rw (le-leb 1 _ (numeral-some k), le-leb _ 6 (numeral-length k 6 (omega arith) h), numeral-digits k) (unled k)
