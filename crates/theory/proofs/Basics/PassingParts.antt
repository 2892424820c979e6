-- The numbers below n that pass a test, as a list: where it ends, how it is cut, its first and its last.
-- Assumes nothing.
use Prim.Native.Nat.{ℕ, zero, suc, ◌+◌, ◌-◌, ◌≤◌, ◌<◌, zero-le}
use mathlib.Core.Path.{◌≡◌, refl, sym, ap, ap₂, ◌∙◌}
use mathlib.Core.Bool.{Bool, true, false, cond, true≢false}
use mathlib.Core.List.{List, [], ◌∷◌, ◌++◌, append-nil, append_assoc}
use mathlib.Core.Logic.{⊎_elim}
use native.Mathlib.Nat.{not-suc-le-zero, lt-suc_self, le-suc, le_trans}
use native.Mathlib.Omega.{arith}
use lib.ListN.{length, get_or, take, length-append, get_or-append}
use lib.Seq.{take_at, get_or_at, get_or-append-add}
use Rattle.model.specs.Below.{bit, count, least, passing}
use Rattle.theory.proofs.Basics.Tests.{last_or_below, trichotomy}
use Rattle.theory.proofs.Basics.Counting.{least-passes, least_first}
use Rattle.theory.proofs.Basics.Passing.{passing-hit, passing-listed, passing-has}

-- ---- growth at the end

pub passing-same : (n : ℕ) (p q : ℕ → Bool) → ((i : ℕ) → i < n → p i ≡ q i) → passing n p ≡ passing n q
unfolding passing
passing-same zero p q f = refl
passing-same (suc n) p q f =
    ap₂ (λ (l : List ℕ) (b : Bool). l ++ cond b (n ∷ []) []) (passing-same n p q (λ i h. f i (le_trans h (le-suc n)))) (f n (lt-suc_self n))

-- where nothing from d on passes, the list ends at d
pub passing-below : (n d : ℕ) (p : ℕ → Bool) → d ≤ n → ((i : ℕ) → d ≤ i → i < n → p i ≡ false) → passing n p ≡ passing d p
unfolding passing
passing-below zero d p h f = let e : d ≡ 0 = omega arith in ap (λ (k : ℕ). passing k p) (sym e)
passing-below (suc n) d p h f =
    last_or_below {n = suc n} {i = d} (omega arith)
    (λ e. ap (λ (k : ℕ). passing k p) (sym e))
    (λ l.
    ap (λ (b : Bool). passing n p ++ cond b (n ∷ []) []) (f n (omega arith) (lt-suc_self n))
    ∙ append-nil (passing n p)
    ∙ passing-below n d p (omega arith) (λ i a b. f i a (le_trans b (le-suc n))))

-- g passes what f does, and d, and nothing of either passes from there on
pub passing-next : (n d : ℕ) (f g : ℕ → Bool) → d < n → ((i : ℕ) → i < d → g i ≡ f i) → ((i : ℕ) → d ≤ i → f i ≡ false) → ((i : ℕ) → d < i → g i ≡ false)
    → passing n g ≡ passing n f ++ cond (g d) (d ∷ []) []
unfolding passing
passing-next n d f g h same none-f none-g =
    passing-below n (suc d) g h (λ i l b. none-g i l)
    ∙ ap (λ (l : List ℕ). l ++ cond (g d) (d ∷ []) []) (passing-same d g f same ∙ sym (passing-below n d f (omega arith) (λ i l b. none-f i l)))

-- ---- what stands in it

pub passing-count : (n : ℕ) (p : ℕ → Bool) → length (passing n p) ≡ count n p
unfolding passing count
passing-count zero p = refl
passing-count (suc n) p = go (p n) (passing-count n p)
  where
    go : (b : Bool) → length (passing n p) ≡ count n p → length (passing n p ++ cond b (n ∷ []) []) ≡ bit b + count n p
    go true e = let k = length-append (passing n p) (n ∷ []) in omega arith
    go false e = let k = length-append (passing n p) [] in omega arith

pub passing_at : (n : ℕ) (p : ℕ → Bool) (j : ℕ) → j < length (passing n p) → (get_or (passing n p) j 0 < n) × (p (get_or (passing n p) j 0) ≡ true)
passing_at n p j h = passing-listed p n (get_or (passing n p) j 0) (j, h, refl)

pub passing-found : (n : ℕ) (p : ℕ → Bool) (i : ℕ) → i < n → p i ≡ true → (j : ℕ) × (j < length (passing n p)) × (get_or (passing n p) j 0 ≡ i)
passing-found n p i h e = passing-has p n i h e

-- the list up to d, and then what is d or more
pub passing_split : (n d : ℕ) (p : ℕ → Bool) → d ≤ n → (r : List ℕ) × (passing n p ≡ passing d p ++ r) × ((j : ℕ) → j < length r → d ≤ get_or r j 0)
unfolding passing
passing_split zero d p h =
    let e : d ≡ 0 = omega arith in
    ([], ap (λ (k : ℕ). passing k p) (sym e) ∙ sym (append-nil (passing d p)), λ j l. absurd (not-suc-le-zero l))
passing_split (suc n) d p h =
    last_or_below {n = suc n} {i = d} (omega arith)
    (λ e. ([], ap (λ (k : ℕ). passing k p) (sym e) ∙ sym (append-nil (passing d p)), λ j l. absurd (not-suc-le-zero l)))
    (λ l. more (passing_split n d p (omega arith)) (p n) (omega arith))
  where
    more : (r : List ℕ) × (passing n p ≡ passing d p ++ r) × ((j : ℕ) → j < length r → d ≤ get_or r j 0) → (b : Bool) → d ≤ n
        → (r : List ℕ) × (passing n p ++ cond b (n ∷ []) [] ≡ passing d p ++ r) × ((j : ℕ) → j < length r → d ≤ get_or r j 0)
    more t false l = (t.0, append-nil (passing n p) ∙ t.1, t.2)
    more t true l = (
      t.0 ++ (n ∷ []),
      ap (λ (x : List ℕ). x ++ (n ∷ [])) t.1 ∙ append_assoc (passing d p) t.0 (n ∷ []),
      λ j k.
          let e = length-append t.0 (n ∷ []) in
          let one : length (n ∷ []) ≡ 1 = refl in
          last_or_below {n = length t.0} {i = j} (omega arith)
          (λ q. let a = get_or_at t.0 n [] 0 j (sym q) in omega arith)
          (λ m. let a = get_or-append t.0 (n ∷ []) 0 j m in let b = t.2 j m in omega arith),
    )

-- the first m of the list are those below d, where the others are d or more and the last of the first is below d
pub passing-cut : (n d : ℕ) (p : ℕ → Bool) (m : ℕ) → d ≤ n → m ≤ length (passing n p)
    → ((j : ℕ) → m ≤ j → j < length (passing n p) → d ≤ get_or (passing n p) j 0)
    → (0 < m → get_or (passing n p) (m - 1) 0 < d)
    → take m (passing n p) ≡ passing d p
passing-cut n d p m h most dropped kept = go (passing_split n d p h)
  where
    go : (r : List ℕ) × (passing n p ≡ passing d p ++ r) × ((j : ℕ) → j < length r → d ≤ get_or r j 0) → take m (passing n p) ≡ passing d p
    go t =
        let A = passing d p in
        let whole = ap length t.1 ∙ length-append A t.0 in
        ⊎_elim
        (λ l.
        let a = dropped m (omega arith) (omega arith) in
        let b = ap (λ (x : List ℕ). get_or x m 0) t.1 ∙ get_or-append A t.0 0 m l in
        let c = (passing_at d p m l).0 in
        absurd (omega arith))
        (⊎_elim
        (λ e. ap (take m) t.1 ∙ take_at A t.0 m (sym e))
        (λ l.
        let k = (m - 1) - length A in
        let a = kept (omega arith) in
        let i : m - 1 ≡ length A + k = omega arith in
        let b = ap₂ (λ (x : List ℕ) (j : ℕ). get_or x j 0) t.1 i ∙ get_or-append-add A t.0 k 0 in
        let c = t.2 k (omega arith) in
        absurd (omega arith)))
        (trichotomy m (length A))

-- ---- its first and its last

-- the least number that passes
pub least_of : (n : ℕ) (p : ℕ → Bool) (k : ℕ) → k < n → p k ≡ true → ((i : ℕ) → i < k → p i ≡ false) → least n p ≡ k
least_of n p k h e f =
    let l = least-passes n p k h e in
    ⊎_elim
    (λ b. absurd (true≢false (sym l.1 ∙ f (least n p) b)))
    (⊎_elim (λ q. q) (λ b. absurd (true≢false (sym e ∙ least_first n p k b))))
    (trichotomy (least n p) k)

-- the least number that passes is no less than k, where what is below k fails
pub least_above : (n : ℕ) (p : ℕ → Bool) (k : ℕ) → k ≤ n → ((i : ℕ) → i < k → p i ≡ false) → k ≤ least n p
unfolding least
least_above zero p k h f = h
least_above (suc n) p zero h f = zero-le
least_above (suc n) p (suc k) h f =
    let l = least_above n (λ i. p (suc i)) k (omega arith) (λ i b. f (suc i) (omega arith)) in
    rw (f zero (omega arith)) (omega arith)

-- the least number that passes is the first of the list
pub passing-first : (n : ℕ) (p : ℕ → Bool) → 0 < length (passing n p) → (least n p < n) × (p (least n p) ≡ true) × (get_or (passing n p) 0 0 ≡ least n p)
unfolding passing
passing-first n p h =
    let a = passing_at n p 0 h in
    let l = least-passes n p (get_or (passing n p) 0 0) a.0 a.1 in
    let low = l.0 in
    let t = passing_split n (least n p + 1) p (omega arith) in
    let e = passing-hit p (least n p) l.1 ∙ ap (λ (x : List ℕ). x ++ (least n p ∷ [])) (passing-below (least n p) 0 p (omega arith) (λ i a b. least_first n p i b)) in
    (l.0, l.1, ap (λ (x : List ℕ). get_or x 0 0) (t.1 ∙ ap (λ (x : List ℕ). x ++ t.0) e))

-- the last of the list passes, and nothing after it does
pub passing-last : (n : ℕ) (p : ℕ → Bool) (k : ℕ) → length (passing n p) ≡ k + 1
    → (get_or (passing n p) k 0 < n) × (p (get_or (passing n p) k 0) ≡ true) × ((i : ℕ) → get_or (passing n p) k 0 < i → i < n → p i ≡ false)
unfolding passing
passing-last zero p k e = let z : ◌≡◌ {A = ℕ} 0 (k + 1) = e in absurd (omega arith)
passing-last (suc n) p k e = go (p n) refl e (passing-last n p k)
  where
    L : List ℕ
    L = passing n p

    Last : List ℕ → ℕ → Type 0
    Last l m = (get_or l k 0 < m) × (p (get_or l k 0) ≡ true) × ((i : ℕ) → get_or l k 0 < i → i < m → p i ≡ false)

    go : (b : Bool) → p n ≡ b → length (L ++ cond b (n ∷ []) []) ≡ k + 1 → (length L ≡ k + 1 → Last L n) → Last (L ++ cond b (n ∷ []) []) (suc n)
    go true q e ih =
        let l = length-append L (n ∷ []) in
        let one : length (n ∷ []) ≡ 1 = refl in
        let a = get_or_at L n [] 0 k (omega arith) in
        (omega arith, ap p a ∙ q, λ i x y. absurd (omega arith))
    go false q e ih =
        let n₀ = append-nil L in
        let t = ih (ap length (sym n₀) ∙ e) in
        let a = ap (λ (x : List ℕ). get_or x k 0) n₀ in
        let low = t.0 in (
          omega arith,
          ap p a ∙ t.1,
          λ i x y. last_or_below y (λ s. ap p s ∙ q) (λ m. t.2 i (omega arith) m),
        )
