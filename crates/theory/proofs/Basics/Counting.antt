-- Counts below a bound compared: by a member taken out, by an injection, by a split; and the least number that passes a test.
-- Assumes nothing.
use Prim.Native.Nat.{ℕ, zero, suc, ◌+◌, ◌*◌, ◌≤◌, ◌<◌, zero-le}
use mathlib.Core.Path.{◌≡◌, refl, sym, ap, ◌∙◌}
use mathlib.Core.Bool.{Bool, true, false, ◌&&◌, not, cond, true≢false, and-true, and-false}
use mathlib.Core.Logic.{◌≢◌, ⊎_elim}
use native.Mathlib.Nat.{not-suc-le-zero, lt-suc_self, le-suc, le_trans, le_of_eq, ne_of_lt, mul-zero, mul-suc, suc-mul, zero-add, add-zero, add-suc}
use native.Mathlib.Numerals.{one-add}
use native.Mathlib.Omega.{arith}
use lib.Dec.{eqb}
use borrow.Author.Tests.{eq-eqb, ne_eqb}
use Rattle.model.specs.Below.{bit, count, total, least}
use Rattle.theory.proofs.Basics.Tests.{test_and, test_self, test_not, test_eq, count_same, count_none, last_or_below, lt_or_ge}

-- q without v
abbrev but : (ℕ → Bool) → ℕ → ℕ → Bool
but q v i = q i && not (eqb i v)

but_other : (q : ℕ → Bool) (v i : ℕ) → i ≢ v → but q v i ≡ q i
but_other q v i d = rw (ne_eqb i v d) (and-true (q i))

but_self : (q : ℕ → Bool) (v : ℕ) → but q v v ≡ false
but_self q v = rw (eq-eqb v v refl) (and-false (q v))

-- a count with one member taken out is one less
pub count_remove : (m : ℕ) (q : ℕ → Bool) (v : ℕ) → v < m → q v ≡ true → count m q ≡ suc (count m (λ i. q i && not (eqb i v)))
unfolding count
count_remove zero q v h e = absurd (not-suc-le-zero h)
count_remove (suc m) q v h e =
    last_or_below h
    (λ s.
    let a : bit (q m) ≡ 1 = ap bit (ap q (sym s) ∙ e) in
    let b : bit (but q v m) ≡ 0 = ap bit (ap (but q v) (sym s) ∙ but_self q v) in
    let c = count_same m (but q v) q (λ i l. but_other q v i (λ t. omega arith)) in
    omega arith)
    (λ l.
    let a = count_remove m q v l e in
    let b : bit (but q v m) ≡ bit (q m) = ap bit (but_other q v m (λ t. omega arith)) in
    omega arith)

-- two tests that agree but for v count alike but for v
pub count_but : (m : ℕ) (p q : ℕ → Bool) (v : ℕ) → v < m → ((i : ℕ) → i ≢ v → p i ≡ q i) → count m p + bit (q v) ≡ count m q + bit (p v)
unfolding count
count_but zero p q v h f = absurd (not-suc-le-zero h)
count_but (suc m) p q v h f =
    last_or_below h
    (λ s.
    let a : bit (p v) ≡ bit (p m) = ap (λ (i : ℕ). bit (p i)) s in
    let b : bit (q v) ≡ bit (q m) = ap (λ (i : ℕ). bit (q i)) s in
    let c = count_same m p q (λ i l. f i (λ t. omega arith)) in
    omega arith)
    (λ l.
    let a = count_but m p q v l f in
    let b : bit (p m) ≡ bit (q m) = ap bit (f m (λ t. omega arith)) in
    omega arith)

-- what passes p is mapped by f, one to one, into what passes q
pub count_inject : (n m : ℕ) (p q : ℕ → Bool) (f : ℕ → ℕ)
    → ((i : ℕ) → i < n → p i ≡ true → (f i < m) × (q (f i) ≡ true))
    → ((i j : ℕ) → i < n → j < n → p i ≡ true → p j ≡ true → f i ≡ f j → i ≡ j)
    → count n p ≤ count m q
unfolding count
count_inject zero m p q f into once = zero-le
count_inject (suc n) m p q f into once = go (p n) refl
    (λ w c. count_inject n m p w f c (λ i j hi hj. once i j (le_trans hi (le-suc n)) (le_trans hj (le-suc n))))
  where
    go : (b : Bool) → p n ≡ b
        → ((w : ℕ → Bool) → ((i : ℕ) → i < n → p i ≡ true → (f i < m) × (w (f i) ≡ true)) → count n p ≤ count m w)
        → bit b + count n p ≤ count m q
    go true e ih =
        let t = into n (lt-suc_self n) e in
        let r = count_remove m q (f n) t.0 t.1 in
        let k = ih (λ i. q i && not (eqb i (f n)))
        (λ i h a.
        let s = into i (le_trans h (le-suc n)) a in (
          s.0,
          (test_and {a = q (f i)} test_self (test_not (test_eq (f i) (f n)))).1
              (s.1, λ d. ne_of_lt h (once i n (le_trans h (le-suc n)) (lt-suc_self n) a e d)),
        )) in
        omega arith
    go false e ih =
        let k = ih q (λ i h a. into i (le_trans h (le-suc n)) a) in
        omega arith

-- what passes p passes q
pub count-sub : (n : ℕ) (p q : ℕ → Bool) → ((i : ℕ) → i < n → p i ≡ true → q i ≡ true) → count n p ≤ count n q
count-sub n p q f = count_inject n n p q (λ i. i) (λ i h e. (h, f i h e)) (λ i j hi hj a b s. s)

-- and something more does
pub count_less : (n : ℕ) (p q : ℕ → Bool) (v : ℕ) → ((i : ℕ) → i < n → p i ≡ true → q i ≡ true) → v < n → q v ≡ true → p v ≡ false → count n p < count n q
count_less n p q v f h e d =
    let r = count_remove n q v h e in
    let k = count-sub n p (λ i. q i && not (eqb i v))
    (λ i l a. (test_and {a = q i} test_self (test_not (test_eq i v))).1 (f i l a, λ s. true≢false (sym a ∙ ap p s ∙ d))) in
    omega arith

-- what always passes counts n
pub count-all : (n : ℕ) → count n (λ i. true) ≡ n
unfolding count
count-all zero = refl
count-all (suc n) = let k = count-all n in omega arith

-- the numbers below m, and the n after them
count-add : (m n : ℕ) (p : ℕ → Bool) → count (m + n) p ≡ count m p + count n (λ i. p (m + i))
unfolding count
count-add m zero p = rw (add-zero m) (omega arith)
count-add m (suc n) p = rw (add-suc m n) (omega (arith, count-add m n p))

-- what never passes adds nothing
pub count_past : (m n : ℕ) (p : ℕ → Bool) → m ≤ n → ((i : ℕ) → m ≤ i → i < n → p i ≡ false) → count n p ≡ count m p
unfolding count
count_past m zero p h f = let e : m ≡ 0 = omega arith in ap (λ k. count k p) (sym e)
count_past m (suc n) p h f =
    ⊎_elim
    (λ l.
    let a : bit (p n) ≡ 0 = ap bit (f n (omega arith) (omega arith)) in
    let b = count_past m n p (omega arith) (λ i g k. f i g (omega arith)) in
    omega arith)
    (λ g. let e : m ≡ suc n = omega arith in ap (λ k. count k p) (sym e))
    (lt_or_ge m (suc n))

-- a count over b blocks of w numbers, block by block
pub count_blocks : (w b : ℕ) (p : ℕ → Bool) → count (w * b) p ≡ total b (λ j. count w (λ k. p (w * j + k)))
unfolding total
count_blocks w zero p = ap (λ k. count k p) (mul-zero w) ∙ count_none p
count_blocks w (suc b) p = rw (mul-suc w b) (count-add (w * b) w p ∙ omega (arith, count_blocks w b p))

-- what passes p splits into what passes b too and what does not
pub count_split : (n : ℕ) (p b : ℕ → Bool) → count n p ≡ count n (λ i. p i && b i) + count n (λ i. p i && not (b i))
unfolding count
count_split zero p b = refl
count_split (suc n) p b = go (p n) (b n) (count_split n p b)
  where
    go : (x y : Bool) → count n p ≡ count n (λ i. p i && b i) + count n (λ i. p i && not (b i))
        → bit x + count n p ≡ (bit (x && y) + count n (λ i. p i && b i)) + (bit (x && not y) + count n (λ i. p i && not (b i)))
    go true true e = omega arith
    go true false e = omega arith
    go false y e = omega arith

-- numbers of which none is over b add up to n times b at most
pub total_most : (n b : ℕ) (f : ℕ → ℕ) → ((i : ℕ) → f i ≤ b) → total n f ≤ n * b
unfolding total
total_most zero b f h = zero-le
total_most (suc n) b f h = let a = h n in let r = total_most n b f h in omega (arith, suc-mul n b)

-- each member adds at least c
pub total-least : (n c : ℕ) (p : ℕ → Bool) (f : ℕ → ℕ) → ((i : ℕ) → i < n → p i ≡ true → c ≤ f i) → c * count n p ≤ total n (λ i. cond (p i) (f i) 0)
unfolding count total
total-least zero c p f h = le_of_eq (mul-zero c)
total-least (suc n) c p f h = go (p n) refl (total-least n c p f (λ i l. h i (le_trans l (le-suc n))))
  where
    go : (b : Bool) → p n ≡ b → c * count n p ≤ total n (λ i. cond (p i) (f i) 0) → c * (bit b + count n p) ≤ cond b (f n) 0 + total n (λ i. cond (p i) (f i) 0)
    go true e k = let a = h n (lt-suc_self n) e in le_trans (le_of_eq (ap (λ (x : ℕ). c * x) (one-add (count n p)) ∙ mul-suc c (count n p))) (omega arith)
    go false e k = le_trans (le_of_eq (ap (λ (x : ℕ). c * x) (zero-add (count n p)))) (omega arith)

-- the least number that passes: it passes and is below n where any does, and what is below it fails
pub least-passes : (n : ℕ) (p : ℕ → Bool) (i : ℕ) → i < n → p i ≡ true → (least n p < n) × (p (least n p) ≡ true)
unfolding least
least-passes zero p i h e = absurd (not-suc-le-zero h)
least-passes (suc n) p i h e = go (p zero) refl i h e (λ j l d. least-passes n (λ k. p (suc k)) j l d)
  where
    rest : ℕ
    rest = suc (least n (λ k. p (suc k)))

    go : (b : Bool) → p zero ≡ b → (i : ℕ) → i < suc n → p i ≡ true
        → ((j : ℕ) → j < n → p (suc j) ≡ true → (least n (λ k. p (suc k)) < n) × (p (suc (least n (λ k. p (suc k)))) ≡ true))
        → (cond b zero rest < suc n) × (p (cond b zero rest) ≡ true)
    go true q i h e ih = (omega arith, q)
    go false q zero h e ih = absurd (true≢false (sym e ∙ q))
    go false q (suc i) h e ih = let r = ih i (omega arith) e in (omega arith, r.1)

-- what is below the least number fails
pub least_first : (n : ℕ) (p : ℕ → Bool) (j : ℕ) → j < least n p → p j ≡ false
unfolding least
least_first zero p j h = absurd (not-suc-le-zero h)
least_first (suc n) p j h = go (p zero) refl j h (λ i l. least_first n (λ k. p (suc k)) i l)
  where
    rest : ℕ
    rest = suc (least n (λ k. p (suc k)))

    go : (b : Bool) → p zero ≡ b → (j : ℕ) → j < cond b zero rest → ((i : ℕ) → i < least n (λ k. p (suc k)) → p (suc i) ≡ false) → p j ≡ false
    go true q j h ih = absurd (not-suc-le-zero h)
    go false q zero h ih = q
    go false q (suc i) h ih = ih i (omega arith)

-- the least number that passes is k, where what is below k fails, and k passes or is the end
pub least-is : (n : ℕ) (p : ℕ → Bool) (k : ℕ) → k ≤ n → ((i : ℕ) → i < k → p i ≡ false) → (k < n → p k ≡ true) → least n p ≡ k
unfolding least
least-is zero p k h f g = omega arith
least-is (suc n) p zero h f g = ap (λ (b : Bool). cond b zero (suc (least n (λ i. p (suc i))))) (g (omega arith))
least-is (suc n) p (suc k) h f g =
    ap (λ (b : Bool). cond b zero (suc (least n (λ i. p (suc i))))) (f zero (omega arith))
    ∙ ap suc (least-is n (λ i. p (suc i)) k (omega arith) (λ i l. f (suc i) (omega arith)) (λ l. g (omega arith)))
