-- Digits and the numbers they make. Assumes nothing.
use Prim.Native.Nat.{ℕ, zero, suc, ◌+◌, ◌*◌, ◌-◌, ◌≤◌, ◌<◌, ◌^◌}
use mathlib.Core.Path.{◌≡◌, sym, ap, ◌∙◌}
use mathlib.Core.Bool.{true, false, ◌&&◌, and-false, or-true}
use mathlib.Core.List.{List, [], ◌∷◌, ◌++◌}
use mathlib.Core.Option.{Option, none, some}
use native.Mathlib.Nat.{pow-suc, pow-le-pow_right, le_trans}
use native.Mathlib.Numerals.{add-one}
use native.Mathlib.Omega.{arith}
use lib.ListN.{length, get_or, take, drop}
use lib.Seq.{take-suc, drop-cons}
use lib.Dec.{leb, eqb}
use borrow.Author.Tests.{le-leb, lt-leb, ne_eqb}
use Rattle.model.specs.Text.{digits, decimal, number_of}
use Rattle.theory.proofs.Program.Numeral.{decimal-last, digits_last}

-- ---- a digit at a place

module _ (f : List ℕ) (i : ℕ) (lt : i < length f) where
  at_place : drop i f ≡ get_or f i 0 ∷ drop (i + 1) f
  at_place = drop-cons f i 0 lt ∙ ap (λ (k : ℕ). get_or f i 0 ∷ drop k f) (sym (add-one i))

  -- a byte below or above the digits is none
  pub digit-below : get_or f i 0 < 48 → digits (drop i f) ≡ false
  unfolding digits
  digit-below a = ap digits at_place ∙ rw (lt-leb _ _ a)

  pub digit-above : 57 < get_or f i 0 → digits (drop i f) ≡ false
  unfolding digits
  digit-above a = ap digits at_place ∙ rw (lt-leb _ _ a, and-false (leb 48 (get_or f i 0)))

-- what is no digit from a place on is none from the first place on
pub spoilt_from : (f : List ℕ) (i : ℕ) → digits (drop i f) ≡ false → digits f ≡ false
unfolding digits
spoilt_from f zero e = e
spoilt_from [] (suc i) e = e
spoilt_from (x ∷ f) (suc i) e = rw (spoilt_from f i e, and-false (leb 48 x && leb x 57))

-- ---- the digits before a place

-- one more keeps them digits, and adds to ten times their value
module _ (f : List ℕ) (i : ℕ) (lt : i < length f) where
  one_more : take (i + 1) f ≡ take i f ++ (get_or f i 0 ∷ [])
  one_more = ap (λ (k : ℕ). take k f) (add-one i) ∙ take-suc f i 0 lt

  pub digit-more : 48 ≤ get_or f i 0 → get_or f i 0 ≤ 57 → digits (take (i + 1) f) ≡ digits (take i f)
  digit-more a b = ap digits one_more ∙ digits_last (take i f) (get_or f i 0) a b

  pub value-more : decimal 0 (take (i + 1) f) ≡ decimal 0 (take i f) * 10 + (get_or f i 0 - 48)
  value-more = ap (decimal 0) one_more ∙ decimal-last 0 (take i f) (get_or f i 0)

-- ---- the size of a number

-- one more digit
pub power_more : (i v d : ℕ) → v < 10 ^ i → d ≤ 9 → v * 10 + d < 10 ^ (i + 1)
power_more i v d h k = rw (add-one i, pow-suc 10 i) (omega arith)

-- six digits at most
pub power_six : (i v : ℕ) → i ≤ 6 → v < 10 ^ i → v < 1000000
power_six i v h k = le_trans k (pow-le-pow_right {n = 10} (omega arith) h)

-- ---- a field

-- what the definition asks of a field's length and first byte
module _ (f : List ℕ) where
  pub number_empty : length f ≡ 0 → ◌≡◌ {A = Option ℕ} none (number_of f)
  unfolding number_of
  number_empty e = rw e

  pub number-long : 6 < length f → ◌≡◌ {A = Option ℕ} none (number_of f)
  unfolding number_of
  number-long h = rw (lt-leb (length f) 6 h, and-false (leb 1 (length f)))

  -- one byte of a field that is no digit
  pub number_spoilt : digits f ≡ false → ◌≡◌ {A = Option ℕ} none (number_of f)
  unfolding number_of
  number_spoilt e = rw (e, and-false (leb 1 (length f) && leb (length f) 6))

  -- a leading zero
  pub number_leading : (length f ≡ 1 → ⊥) → get_or f 0 0 ≡ 48 → ◌≡◌ {A = Option ℕ} none (number_of f)
  unfolding number_of
  number_leading h e = rw (e, ne_eqb (length f) 1 h, and-false (leb 1 (length f) && leb (length f) 6 && digits f))

  -- 0 itself
  pub number-zero : length f ≡ 1 → get_or f 0 0 ≡ 48 → some 0 ≡ number_of f
  unfolding number_of digits decimal
  number-zero = go f
    where
      go : (f : List ℕ) → length f ≡ 1 → get_or f 0 0 ≡ 48 → some 0 ≡ number_of f
      go [] h e = absurd (omega arith)
      go (x ∷ []) h e = rw e
      go (x ∷ y ∷ l) h e = absurd (omega arith)

  -- digits, of which the first is not 0
  pub number_digits : 0 < length f → length f ≤ 6 → (get_or f 0 0 ≡ 48 → ⊥) → digits f ≡ true → some (decimal 0 f) ≡ number_of f
  unfolding number_of
  number_digits h l e d = rw (le-leb 1 (length f) h, le-leb (length f) 6 l, d, ne_eqb (get_or f 0 0) 48 e, or-true (eqb (length f) 1))
