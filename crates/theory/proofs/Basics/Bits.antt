-- The bits of a number: one that is written, those that a bound leaves out, and a number that is the sum of its bits.
-- Assumes nothing.
use Prim.Native.Nat.{ℕ, zero, suc, ◌+◌, ◌-◌, ◌*◌, ◌/◌, ◌%◌, ◌^◌, ◌≤◌, ◌<◌}
use mathlib.Core.Path.{◌≡◌, refl, sym, ap, ap₂, ◌∙◌, subst}
use mathlib.Core.Bool.{Bool, true, false}
use mathlib.Core.Logic.{◌≢◌, ◌⊎◌, inl, inr, ⊎_elim}
use native.Mathlib.Nat.{pow-suc, add-mul}
use native.Mathlib.Omega.{arith}
use lib.Count.{ones, ones_in, leading_top, ones_cat, ones-le}
use lib.Dec.{eqb}
use lib.Pow.{pow_pos, pow_mono}
use Rattle.std.specs.Prelude.{count_ones, bit_and, bit_or}
use Rattle.std.specs.Int.{bit_at, bit_not}
use Rattle.std.proofs.Common.{w64}
use Rattle.std.proofs.lemmas.Bool.{cases_eq}
use Rattle.std.proofs.lemmas.Nat.{and_le_l, div_below, mod_below, shr_high, shr_split}
use Rattle.std.proofs.lemmas.Nat.Bits.{bit_at-suc, bit_at_above, bit_at_set_same, bit_at_set_other, bit_at_clear_same, bit_at_clear_other, bit_at_cat_low, bit_at_cat_high, same_from_bits, same_from_bits_below}
use Rattle.model.specs.Below.{bit, count, total}
use Rattle.model.specs.Graph.{with_bit}
use Rattle.theory.proofs.Basics.Tests.{count_same, last_or_below, lt_or_ge, trichotomy}

-- ---- the bits past a bound

-- a number is below its power of two
below_power : (n : ℕ) → n < 2 ^ n
below_power zero = omega arith
below_power (suc n) = omega (arith, below_power n, pow-suc 2 n)

-- the highest bit of a number is 1
highest_bit : (k x : ℕ) → 2 ^ k ≤ x → x < 2 ^ suc k → bit_at x k ≡ 1
highest_bit k x l h =
    let rest : x - 2 ^ k < 2 ^ k = omega (arith, pow-suc 2 k) in
    let sum : 1 * 2 ^ k + (x - 2 ^ k) ≡ x = omega arith in
    ap (λ y. y % 2) (ap (λ y. y / 2 ^ k) (sym sum) ∙ shr_high 1 k (x - 2 ^ k) rest)

-- a number that is too large for m bits has a bit at or past m: its highest
pub some_bit : (m x : ℕ) → 2 ^ m ≤ x → (k : ℕ) × (m ≤ k) × (bit_at x k ≡ 1)
some_bit m x h =
    let t = leading_top x x (omega (arith, pow_pos m)) (below_power x) in (
      t.0,
      ⊎_elim (λ l. let p = pow_mono {i = suc t.0} {j = m} l in absurd (omega (arith, t.3))) (λ g. g) (lt_or_ge t.0 m),
      highest_bit t.0 x t.2 t.3,
    )

-- so one that has no bit from m on is a number of m bits
pub small_from_bits : (m x : ℕ) → ((k : ℕ) → m ≤ k → bit_at x k ≡ 0) → x < 2 ^ m
small_from_bits m x f = ⊎_elim (λ l. l) (λ h. let b = some_bit m x h in absurd (omega (arith, f b.0 b.1, b.2))) (lt_or_ge x (2 ^ m))

-- ---- a bit that is written

-- a bit is its own rest by 2
bit_mod : (b : Bool) → bit b % 2 ≡ bit b
bit_mod true = refl
bit_mod false = refl

-- the bits of a × 2 ^ k + r above bit k, where r has k bits
bit_past : (a k r i : ℕ) → r < 2 ^ k → k < i → bit_at (a * 2 ^ k + r) i ≡ bit_at (a / 2) (i - suc k)
bit_past a k r i h l =
    let e : i - k ≡ suc (i - suc k) = omega arith in
    bit_at_cat_high a k r i h (omega arith) ∙ ap (bit_at a) e ∙ bit_at-suc a (i - suc k)

-- a digit of weight w taken away and another put in its place
replaced : (x a d e w r : ℕ) → x ≡ (a + d) * w + r → x - d * w + e * w ≡ (a + e) * w + r
replaced x a d e w r q = omega (arith, add-mul a d w, add-mul a e w)

module _ (b : Bool) (k x : ℕ) where
  -- what is above bit k, the bit as it is written, and what is below it
  with_bit-is : with_bit b k x ≡ (x / 2 ^ k / 2 * 2 + bit b) * 2 ^ k + x % 2 ^ k
  unfolding with_bit
  with_bit-is =
      let digit : x / 2 ^ k ≡ x / 2 ^ k / 2 * 2 + bit_at x k = omega arith in
      replaced x (x / 2 ^ k / 2 * 2) (bit_at x k) (bit b) (2 ^ k) (x % 2 ^ k) (sym (shr_split x k) ∙ ap (λ q. q * 2 ^ k + x % 2 ^ k) digit)

  -- which is a number of k bits
  below : x % 2 ^ k < 2 ^ k
  below = mod_below x (2 ^ k) (pow_pos k)

  -- it is as wanted,
  pub with_bit_same : bit_at (with_bit b k x) k ≡ bit b
  with_bit_same =
      let a = x / 2 ^ k / 2 * 2 + bit b in
      ap (λ y. bit_at y k) with_bit-is ∙ ap (λ y. y % 2) (shr_high a k (x % 2 ^ k) below) ∙ omega (arith, bit_mod b)

  -- and each other bit is kept
  pub with_bit-other : (i : ℕ) → i ≢ k → bit_at (with_bit b k x) i ≡ bit_at x i
  with_bit-other i d =
      let a = x / 2 ^ k / 2 * 2 + bit b in
      let same : a / 2 ≡ x / 2 ^ k / 2 = omega (arith, bit_mod b) in
      ap (λ y. bit_at y i) with_bit-is
      ∙ ⊎_elim
      (λ l. bit_at_cat_low a k (x % 2 ^ k) i l ∙ sym (bit_at_cat_low (x / 2 ^ k) k (x % 2 ^ k) i l))
      (λ g.
      let l : k < i = omega arith in
      bit_past a k (x % 2 ^ k) i below l ∙ ap (λ y. bit_at y (i - suc k)) same ∙ sym (bit_past (x / 2 ^ k) k (x % 2 ^ k) i below l))
      (lt_or_ge i k)
      ∙ ap (λ y. bit_at y i) (shr_split x k)

  -- a number of m bits stays one
  pub with_bit-small : (m : ℕ) → k < m → x < 2 ^ m → with_bit b k x < 2 ^ m
  with_bit-small m h l = small_from_bits m _ (λ i g. with_bit-other i (λ e. omega arith) ∙ bit_at_above x m i l g)

-- written back as it was, the number is the old one
pub with_bit-back : (b : Bool) (k x : ℕ) (a : Bool) → bit_at x k ≡ bit a → with_bit a k (with_bit b k x) ≡ x
with_bit-back b k x a e = same_from_bits _ x (λ i. each i (trichotomy i k))
  where
    other : (i : ℕ) → i ≢ k → bit_at (with_bit a k (with_bit b k x)) i ≡ bit_at x i
    other i d = with_bit-other a k (with_bit b k x) i d ∙ with_bit-other b k x i d

    each : (i : ℕ) → (i < k) ⊎ (i ≡ k) ⊎ (k < i) → bit_at (with_bit a k (with_bit b k x)) i ≡ bit_at x i
    each i (inl l) = other i (λ q. omega arith)
    each i (inr (inl q)) = subst (λ (j : ℕ). bit_at (with_bit a k (with_bit b k x)) j ≡ bit_at x j) (sym q) (with_bit_same a k (with_bit b k x) ∙ sym e)
    each i (inr (inr l)) = other i (λ q. omega arith)

-- ---- the ones of a number

-- a number of one bit
ones_of_digit : (q : ℕ) → q < 2 → count_ones q ≡ bit (eqb (q % 2) 1)
unfolding ones ones_in
ones_of_digit zero h = refl
ones_of_digit (suc zero) h = refl
ones_of_digit (suc (suc q)) h = absurd (omega arith)

-- a number of m bits has as many ones as bits that are 1
ones_below : (m x : ℕ) → x < 2 ^ m → count_ones x ≡ count m (λ k. eqb (bit_at x k) 1)
unfolding count
ones_below zero x h = omega (arith, ones-le 0 x h)
ones_below (suc m) x h =
    let q = x / 2 ^ m in
    let r = x % 2 ^ m in
    let low : r < 2 ^ m = mod_below x (2 ^ m) (pow_pos m) in
    let kept : count m (λ k. eqb (bit_at r k) 1) ≡ count m (λ k. eqb (bit_at x k) 1) =
    count_same m _ _ (λ k l. ap (λ y. eqb y 1) (sym (bit_at_cat_low q m r k l) ∙ ap (λ y. bit_at y k) (shr_split x m))) in
    ap count_ones (sym (shr_split x m)) ∙ ones_cat m q r low
    ∙ ap₂ (λ y z. y + z) (ones_of_digit q (div_below x (2 ^ m) 2 (pow_pos m) (omega (arith, pow-suc 2 m)))) (ones_below m r low ∙ kept)

-- the ones of a number of 64 bits
pub ones_count : (x : ℕ) → x < 2 ^ 64 → count_ones x ≡ count 64 (λ k. eqb (bit_at x k) 1)
ones_count = ones_below 64

-- ---- a number as the sum of its bits

-- a bit put on top of m bits gives a number of one more
one_more : (b : Bool) (m s : ℕ) → s < 2 ^ m → bit b * 2 ^ m + s < 2 ^ suc m
one_more true m s h = omega (arith, pow-suc 2 m)
one_more false m s h = omega (arith, pow-suc 2 m)

module _ (p : ℕ → Bool) where
  -- the sum of m bits, each with its weight, is a number of m bits,
  pub bits-small : (m : ℕ) → total m (λ k. bit (p k) * 2 ^ k) < 2 ^ m
  unfolding total
  bits-small zero = omega arith
  bits-small (suc m) = one_more (p m) m _ (bits-small m)

  -- and these are its bits
  pub bits_at : (m i : ℕ) → i < m → bit_at (total m (λ k. bit (p k) * 2 ^ k)) i ≡ bit (p i)
  unfolding total
  bits_at zero i h = absurd (omega arith)
  bits_at (suc m) i h =
      let s = total m (λ k. bit (p k) * 2 ^ k) in
      last_or_below h
      (λ e.
      subst (λ j. bit_at (bit (p m) * 2 ^ m + s) j ≡ bit (p j)) (sym e)
      (ap (λ y. y % 2) (shr_high (bit (p m)) m s (bits-small m)) ∙ bit_mod (p m)))
      (λ l. bit_at_cat_low (bit (p m)) m s i l ∙ bits_at m i l)

-- ---- a bit of a number of 64 bits, as code writes it

module _ (x k : ℕ) (h : k < 64) where
  -- with the bit put in
  pub bit_set : bit_or x (1 * 2 ^ k % 2 ^ 64) ≡ with_bit true k x
  bit_set = same_from_bits _ _ (λ i. at i (cases_eq i k))
    where
      at : (i : ℕ) → (i ≡ k) ⊎ (i ≢ k) → bit_at (bit_or x (1 * 2 ^ k % 2 ^ 64)) i ≡ bit_at (with_bit true k x) i
      at i (inl e) = rw e (bit_at_set_same w64 x k h ∙ sym (with_bit_same true k x))
      at i (inr d) = bit_at_set_other w64 x k h i d ∙ sym (with_bit-other true k x i d)

  -- with the bit taken out
  pub bit_cleared : x < 2 ^ 64 → bit_and x (bit_not w64 (1 * 2 ^ k % 2 ^ 64)) ≡ with_bit false k x
  bit_cleared l =
      same_from_bits_below 64 _ _ (omega (arith, and_le_l x (bit_not w64 (1 * 2 ^ k % 2 ^ 64)))) (with_bit-small false k x 64 h l) (λ i g. at i g (cases_eq i k))
    where
      at : (i : ℕ) → i < 64 → (i ≡ k) ⊎ (i ≢ k) → bit_at (bit_and x (bit_not w64 (1 * 2 ^ k % 2 ^ 64))) i ≡ bit_at (with_bit false k x) i
      at i g (inl e) = rw e (bit_at_clear_same w64 x k h ∙ sym (with_bit_same false k x))
      at i g (inr d) = bit_at_clear_other w64 x k h i g d ∙ sym (with_bit-other false k x i d)
