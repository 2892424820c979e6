-- What the tests of `specs.Below` say: `Test b P` is that the test b passes exactly where P holds.
-- Assumes nothing.
use Prim.Native.Nat.{ℕ, zero, suc, ◌+◌, ◌-◌, ◌≤◌, ◌<◌, zero-le}
use mathlib.Core.Path.{◌≡◌, refl, sym, ap, ap₂, ◌∙◌, subst}
use mathlib.Core.List.{List, [], ◌∷◌}
use mathlib.Core.Logic.{◌↔◌, ◌≢◌, ◌⊎◌, inl, inr, ⊎_elim}
use mathlib.Core.Bool.{Bool, true, false, ◌&&◌, ◌||◌, not, beq, false≢true, true≢false}
use native.Mathlib.Nat.{not-suc-le-zero, eq-or-lt_of_le, le_of_suc-le-suc, lt-suc_self, le-suc, le_trans}
use native.Mathlib.Omega.{arith}
use native.Mathlib.Numerals.{add-one}
use lib.ListN.{length, get_or}
use lib.Dec.{ltb, eqb}
use borrow.Author.Tests.{ltb-true, lt-ltb, eqb-true, eq-eqb}
use Rattle.model.specs.Below.{bit, implies, all, any, count, total}

-- the test b passes exactly where P holds
abbrev pub Test : Bool → Type 0 → Type 0
Test b P = (b ≡ true) ↔ P

-- two tests together
pub test_and : {a b : Bool} {A B : Type 0} → Test a A → Test b B → Test (a && b) (A × B)
test_and {a} {b} {A} {B} s t = (there a s, λ p. back a s p)
  where
    there : (a : Bool) → Test a A → (a && b) ≡ true → A × B
    there true s e = (s.0 refl, t.0 e)
    there false s e = absurd (false≢true e)

    back : (a : Bool) → Test a A → A × B → (a && b) ≡ true
    back true s p = t.1 p.1
    back false s p = s.1 p.0

-- one test wherever another passes
pub test_implies : {a b : Bool} {A B : Type 0} → Test a A → Test b B → Test (implies a b) (A → B)
test_implies {a} {b} {A} {B} s t = (there a s, back a s)
  where
    there : (a : Bool) → Test a A → implies a b ≡ true → A → B
    there true s e p = t.0 e
    there false s e p = absurd (false≢true (s.1 p))

    back : (a : Bool) → Test a A → (A → B) → implies a b ≡ true
    back true s f = t.1 (f (s.0 refl))
    back false s f = refl

-- a test turned round
pub test_not : {a : Bool} {A : Type 0} → Test a A → Test (not a) (A → ⊥)
test_not {a} {A} s = (there a s, back a s)
  where
    there : (a : Bool) → Test a A → not a ≡ true → A → ⊥
    there true s e p = false≢true e
    there false s e p = false≢true (s.1 p)

    back : (a : Bool) → Test a A → (A → ⊥) → not a ≡ true
    back true s f = absurd (f (s.0 refl))
    back false s f = refl

-- a test is itself a proposition, and so is its failing
pub test_self : {a : Bool} → Test a (a ≡ true)
test_self = (λ e. e, λ e. e)

-- and so is its failing
pub test_fails : {a : Bool} → Test (not a) (a ≡ false)
test_fails {a} = (there a, back a)
  where
    there : (a : Bool) → not a ≡ true → a ≡ false
    there true e = absurd (false≢true e)
    there false e = refl

    back : (a : Bool) → a ≡ false → not a ≡ true
    back true e = absurd (true≢false e)
    back false e = refl

-- a test that says A says B, where A and B say the same
pub test_map : {a : Bool} {A B : Type 0} → Test a A → (A → B) → (B → A) → Test a B
test_map t f g = (λ e. f (t.0 e), λ b. t.1 (g b))

-- two tests that pass for each other are one
pub test_agree : {a b : Bool} {A B : Type 0} → Test a A → Test b B → (A → B) → (B → A) → a ≡ b
test_agree {a} {b} s t f g = go a b (λ e. t.1 (f (s.0 e))) (λ e. s.1 (g (t.0 e)))
  where
    go : (a b : Bool) → (a ≡ true → b ≡ true) → (b ≡ true → a ≡ true) → a ≡ b
    go true b f g = sym (f refl)
    go false true f g = g refl
    go false false f g = refl

-- two tests of one thing are one
pub same_test : {a b : Bool} {A : Type 0} → Test a A → Test b A → a ≡ b
same_test s t = test_agree s t (λ x. x) (λ x. x)

-- less
pub test_lt : (a b : ℕ) → Test (ltb a b) (a < b)
test_lt a b = (ltb-true a b, lt-ltb a b)

-- equal
pub test_eq : (a b : ℕ) → Test (eqb a b) (a ≡ b)
test_eq a b = (eqb-true a b, eq-eqb a b)

-- a number below suc n is n or below n
pub last_or_below : {ℓ : Type 0} {n i : ℕ} → i < suc n → (i ≡ n → ℓ) → (i < n → ℓ) → ℓ
last_or_below h f g = ⊎_elim f g (eq-or-lt_of_le (le_of_suc-le-suc h))

-- what holds of j and of each number after it and below k holds of each from j on: the step of a loop that counts down
pub from_more : (P : ℕ → Type 0) (j k : ℕ) → P j → ((i : ℕ) → j < i → i < k → P i) → (i : ℕ) → j ≤ i → i < k → P i
from_more P j k a f i h l = ⊎_elim (λ e. subst P e a) (λ g. f i g l) (eq-or-lt_of_le h)

any-there : (n : ℕ) (p : ℕ → Bool) → any n p ≡ true → (i : ℕ) × (i < n) × (p i ≡ true)
unfolding any
any-there zero p e = absurd (false≢true e)
any-there (suc n) p e = go (p n) refl e (any-there n p)
  where
    go : (b : Bool) → p n ≡ b → (b || any n p) ≡ true → (any n p ≡ true → (i : ℕ) × (i < n) × (p i ≡ true)) → (i : ℕ) × (i < suc n) × (p i ≡ true)
    go true q e f = (n, lt-suc_self n, q)
    go false q e f = let r = f e in (r.0, le_trans r.1 (le-suc n), r.2)

-- a number that passes is found
pub any_found : (n : ℕ) (p : ℕ → Bool) (i : ℕ) → i < n → p i ≡ true → any n p ≡ true
unfolding any
any_found zero p i h e = absurd (not-suc-le-zero h)
any_found (suc n) p i h e = last_or_below h (λ q. here (p n) (ap p (sym q) ∙ e)) (λ l. deeper (p n) (any_found n p i l e))
  where
    here : (b : Bool) → b ≡ true → (b || any n p) ≡ true
    here true q = refl
    here false q = absurd (false≢true q)

    deeper : (b : Bool) → any n p ≡ true → (b || any n p) ≡ true
    deeper true q = refl
    deeper false q = q

-- some number below n
pub test_any : (n : ℕ) (p : ℕ → Bool) {P : ℕ → Type 0} → ((i : ℕ) → Test (p i) (P i)) → Test (any n p) ((i : ℕ) × (i < n) × P i)
test_any n p t = (λ e. let r = any-there n p e in (r.0, r.1, (t r.0).0 r.2), λ r. any_found n p r.0 r.1 ((t r.0).1 r.2))

all_there : (n : ℕ) (p : ℕ → Bool) → all n p ≡ true → (i : ℕ) → i < n → p i ≡ true
unfolding all
all_there zero p e i h = absurd (not-suc-le-zero h)
all_there (suc n) p e i h =
    let both = (test_and {a = p n} {b = all n p} test_self test_self).0 e in
    last_or_below h (λ q. ap p q ∙ both.0) (all_there n p both.1 i)

all_back : (n : ℕ) (p : ℕ → Bool) → ((i : ℕ) → i < n → p i ≡ true) → all n p ≡ true
unfolding all
all_back zero p f = refl
all_back (suc n) p f =
    (test_and {a = p n} {b = all n p} test_self test_self).1
    (f n (lt-suc_self n), all_back n p (λ i h. f i (le_trans h (le-suc n))))

-- each number below n
pub test_all : (n : ℕ) (p : ℕ → Bool) {P : ℕ → Type 0} → ((i : ℕ) → Test (p i) (P i)) → Test (all n p) ((i : ℕ) → i < n → P i)
test_all n p t = (λ e i h. (t i).0 (all_there n p e i h), λ f. all_back n p (λ i h. (t i).1 (f i h)))

-- a count, and a sum, goes by what stands below n
pub count_same : (n : ℕ) (p q : ℕ → Bool) → ((i : ℕ) → i < n → p i ≡ q i) → count n p ≡ count n q
unfolding count
count_same zero p q f = refl
count_same (suc n) p q f =
    ap₂ (λ (b : Bool) (k : ℕ). bit b + k) (f n (lt-suc_self n)) (count_same n p q (λ i h. f i (le_trans h (le-suc n))))

-- and so does a sum
pub total-same : (n : ℕ) (f g : ℕ → ℕ) → ((i : ℕ) → i < n → f i ≡ g i) → total n f ≡ total n g
unfolding total
total-same zero f g e = refl
total-same (suc n) f g e = ap₂ ◌+◌ (e n (lt-suc_self n)) (total-same n f g (λ i h. e i (le_trans h (le-suc n))))

-- a is below b, equal to b or above it
pub trichotomy : (a b : ℕ) → (a < b) ⊎ (a ≡ b) ⊎ (b < a)
trichotomy zero zero = inr (inl refl)
trichotomy zero (suc b) = inl (omega arith)
trichotomy (suc a) zero = inr (inr (omega arith))
trichotomy (suc a) (suc b) = up (trichotomy a b)
  where
    up : (a < b) ⊎ (a ≡ b) ⊎ (b < a) → (suc a < suc b) ⊎ (suc a ≡ suc b) ⊎ (suc b < suc a)
    up (inl h) = inl (omega arith)
    up (inr (inl q)) = inr (inl (omega arith))
    up (inr (inr h)) = inr (inr (omega arith))

-- a is below b or not
pub lt_or_ge : (a b : ℕ) → (a < b) ⊎ (b ≤ a)
lt_or_ge a b = ⊎_elim inl (⊎_elim (λ e. inr (omega arith)) (λ h. inr (omega arith))) (trichotomy a b)

-- a number is the one of two, the other, or neither
pub one_of_two : (i a b : ℕ) → (i ≡ a) ⊎ (i ≡ b) ⊎ ((i ≢ a) × (i ≢ b))
one_of_two i a b = first (trichotomy i a)
  where
    second : i ≢ a → (i < b) ⊎ (i ≡ b) ⊎ (b < i) → (i ≡ a) ⊎ (i ≡ b) ⊎ ((i ≢ a) × (i ≢ b))
    second d (inl l) = inr (inr (d, λ e. omega arith))
    second d (inr (inl e)) = inr (inl e)
    second d (inr (inr l)) = inr (inr (d, λ e. omega arith))

    first : (i < a) ⊎ (i ≡ a) ⊎ (a < i) → (i ≡ a) ⊎ (i ≡ b) ⊎ ((i ≢ a) × (i ≢ b))
    first (inl l) = second (λ e. omega arith) (trichotomy i b)
    first (inr (inl e)) = inl e
    first (inr (inr l)) = second (λ e. omega arith) (trichotomy i b)

-- numbers that are not different are equal
pub not-different : (a b : ℕ) → (a ≢ b → ⊥) → a ≡ b
not-different a b f = ⊎_elim (λ l. absurd (f (λ z. omega arith))) (⊎_elim (λ e. e) (λ l. absurd (f (λ z. omega arith)))) (trichotomy a b)

-- past its end a list has only zeros, so what stands in it is within it
pub in_length : (bs : List ℕ) (i : ℕ) → get_or bs i 0 ≢ 0 → i < length bs
in_length [] i d = absurd (d refl)
in_length (b ∷ bs) zero d = omega arith
in_length (b ∷ bs) (suc i) d = let l = in_length bs i d in omega arith

-- the laws of a count that a loop over i uses
pub count_none : (p : ℕ → Bool) → count 0 p ≡ 0
unfolding count
count_none p = refl

-- a number that passes adds 1
pub count-hit : (i : ℕ) (p : ℕ → Bool) → p i ≡ true → count (i + 1) p ≡ count i p + 1
unfolding count
count-hit i p e = rw (add-one i, e) (omega arith)

-- any other adds nothing
pub count_miss : (i : ℕ) (p : ℕ → Bool) → p i ≡ false → count (i + 1) p ≡ count i p
unfolding count
count_miss i p e = rw (add-one i, e) (omega arith)

-- a count below n is at most n
pub count_le : (n : ℕ) (p : ℕ → Bool) → count n p ≤ n
unfolding count
count_le zero p = zero-le
count_le (suc n) p = go (p n) (count_le n p)
  where
    go : (b : Bool) → count n p ≤ n → bit b + count n p ≤ suc n
    go true h = omega arith
    go false h = omega arith

-- one of two tests
pub test_or : {a b : Bool} {A B : Type 0} → Test a A → Test b B → Test (a || b) (A ⊎ B)
test_or {a} {b} {A} {B} s t = (there a s, back a s)
  where
    there : (a : Bool) → Test a A → (a || b) ≡ true → A ⊎ B
    there true s e = inl (s.0 refl)
    there false s e = inr (t.0 e)

    back : (a : Bool) → Test a A → A ⊎ B → (a || b) ≡ true
    back true s p = refl
    back false s (inl p) = absurd (false≢true (s.1 p))
    back false s (inr q) = t.1 q

-- where both of two tests pass, the second does
pub and_right : (a b : Bool) → (a && b) ≡ true → b ≡ true
and_right true b e = e
and_right false b e = absurd (false≢true e)

-- a test that does not pass fails
pub fails : (a : Bool) → (a ≡ true → ⊥) → a ≡ false
fails true f = absurd (f refl)
fails false f = refl

-- one of two tests that both fail: the second
pub or_second : (a b : Bool) → (a || b) ≡ false → b ≡ false
or_second true b e = absurd (true≢false e)
or_second false b e = e

-- where no number passes none is found, and where none is found each fails
pub any_none : (n : ℕ) (p : ℕ → Bool) → ((i : ℕ) → i < n → p i ≡ false) → any n p ≡ false
any_none n p f = fails (any n p) (λ e. let r = any-there n p e in true≢false (sym r.2 ∙ f r.0 r.1))

pub any-each : (n : ℕ) (p : ℕ → Bool) → any n p ≡ false → (i : ℕ) → i < n → p i ≡ false
any-each n p e i h = fails (p i) (λ q. true≢false (sym (any_found n p i h q) ∙ e))

-- a test passes or fails
pub passes_or_fails : (a : Bool) → (a ≡ true) ⊎ (a ≡ false)
passes_or_fails true = inl refl
passes_or_fails false = inr refl

-- what a test says holds or does not
pub holds_or_not : {b : Bool} {P : Type 0} → Test b P → P ⊎ (P → ⊥)
holds_or_not {b} t = ⊎_elim (λ e. inl (t.0 e)) (λ e. inr (λ h. true≢false (sym (t.1 h) ∙ e))) (passes_or_fails b)

-- the test whether two outcomes are one
pub beq_true : (a b : Bool) → beq a b ≡ true → a ≡ b
beq_true true true e = refl
beq_true true false e = absurd (false≢true e)
beq_true false true e = absurd (false≢true e)
beq_true false false e = refl

-- and where it fails, each is the other turned round
pub beq_false : (a b : Bool) → beq a b ≡ false → a ≡ not b
beq_false true true e = absurd (true≢false e)
beq_false true false e = refl
beq_false false true e = refl
beq_false false false e = absurd (true≢false e)

-- the number of an outcome is 1 exactly where it is true
pub bit-one : (b : Bool) → eqb (bit b) 1 ≡ b
bit-one true = refl
bit-one false = refl

-- tests over the numbers below n go by what stands there
pub any_same : (n : ℕ) (p q : ℕ → Bool) → ((i : ℕ) → i < n → p i ≡ q i) → any n p ≡ any n q
any_same n p q e =
    test_agree (test_any n p (λ i. test_self)) (test_any n q (λ i. test_self))
    (λ r. (r.0, r.1, sym (e r.0 r.1) ∙ r.2))
    (λ r. (r.0, r.1, e r.0 r.1 ∙ r.2))

-- one less than the next number
pub suc_less : (k : ℕ) → suc k - 1 ≡ k
suc_less k = omega arith
