-- A position of n ranks passes refusals 21 to 23 exactly where the walk visits it, under any lawful rules.
-- Assumes nothing.
use Prim.Native.Nat.{ℕ, zero, suc, ◌+◌}
use mathlib.Core.Path.{◌≡◌, refl, sym, ap, ap₂, ◌∙◌, subst, subst⁻¹}
use mathlib.Core.Bool.{Bool, true, false, ◌&&◌, ◌||◌, not, or-true, true≢false, false≢true}
use mathlib.Core.List.{[], ◌∷◌, ◌++◌, append_assoc}
use mathlib.Core.Logic.{◌↔◌, ◌≢◌}
use native.Mathlib.Omega.{arith}
use lib.ListN.{length, get_or, length-append, length-replicate, length-set}
use lib.Dec.{eqb}
use borrow.Author.Tests.{lt-ltb, not-false}
use Rattle.model.specs.Walk.{Position, Rules, only, has, fresh, advance, retreat, step, after}
use Rattle.model.specs.Calls.{over, gap, reopened, refuse_position}
use Rattle.theory.proofs.Basics.Tests.{fails}
use Rattle.theory.proofs.Walk.Remaining.{Valid, Fit, Completes, open_no_taken, open_zero, fresh_open, fresh_valid, retreat-deep, retreat_here}
use Rattle.theory.proofs.Walk.Walk.{Lawful, step_down, step_up, decided_up, after-add}
use Rattle.theory.proofs.Basics.Refusals.{refuse_pass}
use Rattle.theory.proofs.Walk.Accepted.{open_fresh, Lived, reopened_under, walk-accepted}

-- ---- decided ranks, followed by others

-- all ranks are taken or left
abbrev Marked : Position → Type 0
Marked [] = Unit {0}
Marked (zero ∷ p) = ⊥
Marked (suc zero ∷ p) = Marked p
Marked (suc (suc zero) ∷ p) = Marked p
Marked (suc (suc (suc x)) ∷ p) = ⊥

marked_append : (p q : Position) → Marked p → Marked q → Marked (p ++ q)
marked_append [] q u v = v
marked_append (zero ∷ p) q u v = absurd u
marked_append (suc zero ∷ p) q u v = marked_append p q u v
marked_append (suc (suc zero) ∷ p) q u v = marked_append p q u v
marked_append (suc (suc (suc x)) ∷ p) q u v = absurd u

marked_valid : (pre s : Position) → Marked pre → Valid s → Valid (pre ++ s)
marked_valid [] s u v = v
marked_valid (zero ∷ pre) s u v = absurd u
marked_valid (suc zero ∷ pre) s u v = marked_valid pre s u v
marked_valid (suc (suc zero) ∷ pre) s u v = marked_valid pre s u v
marked_valid (suc (suc (suc x)) ∷ pre) s u v = absurd u

marked_open : (pre s : Position) → Marked pre → has 0 (pre ++ s) ≡ has 0 s
unfolding has
marked_open [] s u = refl
marked_open (zero ∷ pre) s u = absurd u
marked_open (suc zero ∷ pre) s u = marked_open pre s u
marked_open (suc (suc zero) ∷ pre) s u = marked_open pre s u
marked_open (suc (suc (suc x)) ∷ pre) s u = absurd u

has-append : (x : ℕ) (p q : Position) → has x (p ++ q) ≡ (has x p || has x q)
unfolding has
has-append x [] q = refl
has-append x (y ∷ p) q = go (eqb x y) (has-append x p q)
  where
    go : (b : Bool) → has x (p ++ q) ≡ (has x p || has x q) → (b || has x (p ++ q)) ≡ ((b || has x p) || has x q)
    go true e = refl
    go false e = e

taken-before : (pre s : Position) → has 1 pre ≡ true → has 1 (pre ++ s) ≡ true
taken-before pre s e = has-append 1 pre s ∙ ap (λ (b : Bool). b || has 1 s) e

taken_neither : (pre s : Position) → has 1 pre ≡ false → has 1 s ≡ false → has 1 (pre ++ s) ≡ false
taken_neither pre s e f = has-append 1 pre s ∙ ap₂ ◌||◌ e f

taken-there : (pre s : Position) → has 1 (pre ++ (1 ∷ s)) ≡ true
unfolding has
taken-there pre s = has-append 1 pre (1 ∷ s) ∙ or-true (has 1 pre)

-- taking the lowest open rank
advance-after : (pre s : Position) → Marked pre → advance (pre ++ (0 ∷ s)) ≡ pre ++ (1 ∷ s)
unfolding advance
advance-after [] s u = refl
advance-after (zero ∷ pre) s u = absurd u
advance-after (suc zero ∷ pre) s u = ap (λ (l : Position). 1 ∷ l) (advance-after pre s u)
advance-after (suc (suc zero) ∷ pre) s u = ap (λ (l : Position). 2 ∷ l) (advance-after pre s u)
advance-after (suc (suc (suc x)) ∷ pre) s u = absurd u

-- leaving the last decided rank, where it is taken
retreat-after : (pre : Position) (k : ℕ) → retreat (pre ++ (1 ∷ fresh k)) ≡ pre ++ (2 ∷ fresh k)
retreat-after [] k =
    retreat_here (fresh k) (open_no_taken (fresh k) (fresh_open k)) ∙ ap (λ (m : ℕ). 2 ∷ fresh m) (length-replicate k 0)
retreat-after (x ∷ pre) k = retreat-deep x (pre ++ (1 ∷ fresh k)) (taken-there pre (fresh k)) ∙ ap (λ (l : Position). x ∷ l) (retreat-after pre k)

-- what stands after the highest taken rank has no bearing
retreat-same : (pre s t : Position) → Marked pre → has 1 pre ≡ true → has 1 s ≡ false → has 1 t ≡ false → length s ≡ length t
    → retreat (pre ++ s) ≡ retreat (pre ++ t)
unfolding has
retreat-same [] s t u e a b l = absurd (false≢true e)
retreat-same (zero ∷ pre) s t u e a b l = absurd u
retreat-same (suc zero ∷ pre) s t u e a b l = go (has 1 pre) refl (λ f. retreat-same pre s t u f a b l)
  where
    go : (c : Bool) → has 1 pre ≡ c → (has 1 pre ≡ true → retreat (pre ++ s) ≡ retreat (pre ++ t)) → retreat (1 ∷ (pre ++ s)) ≡ retreat (1 ∷ (pre ++ t))
    go true f ih =
        retreat-deep 1 (pre ++ s) (taken-before pre s f) ∙ ap (λ (q : Position). 1 ∷ q) (ih f) ∙ sym (retreat-deep 1 (pre ++ t) (taken-before pre t f))
    go false f ih =
        retreat_here (pre ++ s) (taken_neither pre s f a)
        ∙ ap (λ (m : ℕ). 2 ∷ fresh m) (length-append pre s ∙ ap (λ (m : ℕ). length pre + m) l ∙ sym (length-append pre t))
        ∙ sym (retreat_here (pre ++ t) (taken_neither pre t f b))
retreat-same (suc (suc zero) ∷ pre) s t u e a b l =
    retreat-deep 2 (pre ++ s) (taken-before pre s e)
    ∙ ap (λ (q : Position). 2 ∷ q) (retreat-same pre s t u e a b l)
    ∙ sym (retreat-deep 2 (pre ++ t) (taken-before pre t e))
retreat-same (suc (suc (suc x)) ∷ pre) s t u e a b l = absurd u

-- ---- the walk

module _ (R : Rules) where
  -- the walk comes from p to q
  abbrev Comes : Position → Position → Type 0
  Comes p q = (k : ℕ) × (after R k p ≡ q)

  comes_step : (p : Position) → Comes p (step R p)
  unfolding after
  comes_step p = (1, refl)

  comes_on : (p q r : Position) → Comes p q → Comes q r → Comes p r
  comes_on p q r a b = (a.0 + b.0, after-add R a.0 b.0 p ∙ ap (after R b.0) a.1 ∙ b.1)

  -- a live position's open rank is taken next
  takes : (pre : Position) (k : ℕ) → Marked pre → R.dead (pre ++ fresh (suc k)) ≡ false
      → Comes (pre ++ fresh (suc k)) ((pre ++ (1 ∷ [])) ++ fresh k)
  unfolding has
  takes pre k u d =
      let p = pre ++ fresh (suc k) in
      let e = ap₂ (λ (a b : Bool). not a && b) d (marked_open pre (fresh (suc k)) u) in
      subst (Comes p) (step_down R p e ∙ advance-after pre (fresh k) u ∙ sym (append_assoc pre (1 ∷ []) (fresh k))) (comes_step p)

  -- where the position is dead or decided, a step is back
  backs : (p : Position) → (not (R.dead p) && has 0 p) ≡ false → Comes p (retreat p)
  backs p e = subst (Comes p) (step_up R p e) (comes_step p)

  -- a taken rank that is left, with all open after it
  left_after : (pre : Position) (k : ℕ) → retreat ((pre ++ (1 ∷ [])) ++ fresh k) ≡ (pre ++ (2 ∷ [])) ++ fresh k
  left_after pre k = ap retreat (append_assoc pre (1 ∷ []) (fresh k)) ∙ retreat-after pre k ∙ sym (append_assoc pre (2 ∷ []) (fresh k))

  -- From where something is taken and all decided ranks come first, the walk comes to where the highest taken rank is left: all that is
  -- below such a position is passed.
  exhausts : (k : ℕ) (pre : Position) → Marked pre → has 1 pre ≡ true → Comes (pre ++ fresh k) (retreat (pre ++ fresh k))
  unfolding has
  exhausts zero pre u t = subst (Comes (pre ++ [])) (decided_up R (pre ++ []) (marked_open pre [] u)) (comes_step (pre ++ []))
  exhausts (suc k) pre u t =
      go (R.dead (pre ++ fresh (suc k))) refl
      (exhausts k (pre ++ (1 ∷ [])) (marked_append pre (1 ∷ []) u tt) (taken-before pre (1 ∷ []) t))
      (exhausts k (pre ++ (2 ∷ [])) (marked_append pre (2 ∷ []) u tt) (taken-before pre (2 ∷ []) t))
    where
      out : retreat ((pre ++ (2 ∷ [])) ++ fresh k) ≡ retreat (pre ++ fresh (suc k))
      out =
          let none = open_no_taken (fresh k) (fresh_open k) in
          ap retreat (append_assoc pre (2 ∷ []) (fresh k)) ∙ retreat-same pre (2 ∷ fresh k) (fresh (suc k)) u t none none refl

      go : (d : Bool) → R.dead (pre ++ fresh (suc k)) ≡ d
          → Comes ((pre ++ (1 ∷ [])) ++ fresh k) (retreat ((pre ++ (1 ∷ [])) ++ fresh k))
          → Comes ((pre ++ (2 ∷ [])) ++ fresh k) (retreat ((pre ++ (2 ∷ [])) ++ fresh k))
          → Comes (pre ++ fresh (suc k)) (retreat (pre ++ fresh (suc k)))
      go true d one two = backs (pre ++ fresh (suc k)) (ap (λ (a : Bool). not a && has 0 (pre ++ fresh (suc k))) d)
      go false d one two =
          comes_on _ _ _ (takes pre k u d) (comes_on _ _ _ (subst (Comes _) (left_after pre k) one) (subst (Comes _) out two))

  -- A position whose ancestors were all live is reached: a taken rank is one step from where it was open, and a left one is where the walk
  -- comes out of the taken one.
  lived_reached : (o pre p : Position) → Marked pre → Valid p → Lived R pre p → Comes o (pre ++ fresh (length p)) → Comes o (pre ++ p)
  unfolding only
  lived_reached o pre [] u v l c = c
  lived_reached o pre (zero ∷ p) u v l c = subst⁻¹ (λ (q : Position). Comes o (pre ++ (0 ∷ q))) (open_fresh p v) c
  lived_reached o pre (suc zero ∷ p) u v l c =
      subst (Comes o) (append_assoc pre (1 ∷ []) p)
      (lived_reached o (pre ++ (1 ∷ [])) p (marked_append pre (1 ∷ []) u tt) v l.1
      (comes_on o (pre ++ fresh (suc (length p))) ((pre ++ (1 ∷ [])) ++ fresh (length p)) c (takes pre (length p) u l.0)))
  lived_reached o pre (suc (suc zero) ∷ p) u v l c =
      subst (Comes o) (append_assoc pre (2 ∷ []) p)
      (lived_reached o (pre ++ (2 ∷ [])) p (marked_append pre (2 ∷ []) u tt) v l.1
      (subst (Comes o) (left_after pre (length p))
      (comes_on o ((pre ++ (1 ∷ [])) ++ fresh (length p)) (retreat ((pre ++ (1 ∷ [])) ++ fresh (length p)))
      (comes_on o (pre ++ fresh (suc (length p))) ((pre ++ (1 ∷ [])) ++ fresh (length p)) c (takes pre (length p) u l.0))
      (exhausts (length p) (pre ++ (1 ∷ [])) (marked_append pre (1 ∷ []) u tt) (taken-there pre [])))))
  lived_reached o pre (suc (suc (suc x)) ∷ p) u v l c = absurd v

-- ---- what refusals 21 to 23 say

tests_valid : (p : Position) → over 2 p ≡ false → gap p ≡ false → Valid p
unfolding over gap
tests_valid [] a b = tt
tests_valid (zero ∷ p) a b = not-false (only 0 p) b
tests_valid (suc zero ∷ p) a b = tests_valid p a b
tests_valid (suc (suc zero) ∷ p) a b = tests_valid p a b
tests_valid (suc (suc (suc x)) ∷ p) a b =
    absurd (true≢false (ap (λ (c : Bool). c || over 2 p) (sym (lt-ltb 2 (suc (suc (suc x))) (omega arith))) ∙ a))

-- the ranks pre decided, and then others for the open ones
opened_completes : (pre q : Position) (m : ℕ) → length q ≡ m → Completes (pre ++ fresh m) (pre ++ q)
opened_completes pre q m e = record { long = long; keeps = keeps pre }
  where
    long : length (pre ++ q) ≡ length (pre ++ fresh m)
    long = length-append pre q ∙ ap (λ (k : ℕ). length pre + k) (e ∙ sym (length-replicate m 0)) ∙ sym (length-append pre (fresh m))

    keeps : (pre : Position) (r : ℕ) → get_or (pre ++ fresh m) r 0 ≢ 0 → get_or (pre ++ q) r 0 ≡ get_or (pre ++ fresh m) r 0
    keeps [] r d = absurd (d (open_zero (fresh m) r (fresh_open m)))
    keeps (x ∷ pre) zero d = refl
    keeps (x ∷ pre) (suc r) d = keeps pre r d

module _ (R : Rules) (n : ℕ) (law : Lawful R n) where
  -- an ancestor of a live position is live
  ancestor_live : (pre q : Position) (m : ℕ) → Marked pre → length pre + m ≡ n → length q ≡ m → R.dead (pre ++ q) ≡ false → R.dead (pre ++ fresh m) ≡ false
  ancestor_live pre q m u l e d =
      fails (R.dead (pre ++ fresh m))
      (λ t.
      true≢false
      (sym
      (law.dead-stays (pre ++ fresh m) (pre ++ q)
      (length-append pre (fresh m) ∙ ap (λ (k : ℕ). length pre + k) (length-replicate m 0) ∙ l, marked_valid pre (fresh m) u (fresh_valid m))
      t (opened_completes pre q m e))
      ∙ d))

  reopened-length : (p : Position) → length (reopened p) ≡ length p
  unfolding reopened
  reopened-length p = simp length-set

  module _ (x : ℕ) (pre : Position) (u : Marked pre) (w : Marked (suc x ∷ [])) where
    parent_live : (p : Position) → length pre + suc (length p) ≡ n → R.dead (pre ++ reopened (suc x ∷ p)) ≡ false → R.dead (pre ++ fresh (suc (length p))) ≡ false
    parent_live p l d = ancestor_live pre (reopened (suc x ∷ p)) (suc (length p)) u l (reopened-length (suc x ∷ p)) d

    one_on : Marked (pre ++ (suc x ∷ []))
    one_on = marked_append pre (suc x ∷ []) u w

    one-long : (p : Position) → length pre + suc (length p) ≡ n → length (pre ++ (suc x ∷ [])) + length p ≡ n
    one-long p l = let k = length-append pre (suc x ∷ []) in omega arith

    one_live : (y : ℕ) (p : Position) → R.dead (pre ++ reopened (suc x ∷ suc y ∷ p)) ≡ false → R.dead ((pre ++ (suc x ∷ [])) ++ reopened (suc y ∷ p)) ≡ false
    one_live y p d = ap R.dead (append_assoc pre (suc x ∷ []) (reopened (suc y ∷ p)) ∙ ap (λ (q : Position). pre ++ q) (sym (reopened_under x y p))) ∙ d

  -- so where the reopened position is live, every ancestor was
  parents_lived : (x : ℕ) (pre p : Position) → Marked pre → Marked (suc x ∷ []) → Valid p → length pre + suc (length p) ≡ n
      → R.dead (pre ++ reopened (suc x ∷ p)) ≡ false
      → (R.dead (pre ++ fresh (suc (length p))) ≡ false) × Lived R (pre ++ (suc x ∷ [])) p
  parents_lived x pre [] u w v l d = (parent_live x pre u w [] l d, tt)
  parents_lived x pre (zero ∷ p) u w v l d = (parent_live x pre u w (zero ∷ p) l d, tt)
  parents_lived x pre (suc zero ∷ p) u w v l d = (
    parent_live x pre u w (1 ∷ p) l d,
    parents_lived 0 (pre ++ (suc x ∷ [])) p (one_on x pre u w) tt v (one-long x pre u w (1 ∷ p) l) (one_live x pre u w 0 p d),
  )
  parents_lived x pre (suc (suc zero) ∷ p) u w v l d = (
    parent_live x pre u w (2 ∷ p) l d,
    parents_lived 1 (pre ++ (suc x ∷ [])) p (one_on x pre u w) tt v (one-long x pre u w (2 ∷ p) l) (one_live x pre u w 1 p d),
  )
  parents_lived x pre (suc (suc (suc y)) ∷ p) u w v l d = absurd v

  all_lived : (p : Position) → Fit n p → R.dead (reopened p) ≡ false → Lived R [] p
  all_lived [] v d = tt
  all_lived (zero ∷ p) v d = tt
  all_lived (suc zero ∷ p) v d = let l = v.0 in parents_lived 0 [] p tt tt v.1 (omega arith) d
  all_lived (suc (suc zero) ∷ p) v d = let l = v.0 in parents_lived 1 [] p tt tt v.1 (omega arith) d
  all_lived (suc (suc (suc x)) ∷ p) v d = absurd v.1

  -- what refusals 21 to 23 leave: a valid position, live with its last decided rank opened
  tests_pass : (p : Position) → refuse_position R p ≡ 0 → Valid p × (R.dead (reopened p) ≡ false)
  unfolding refuse_position
  tests_pass p e =
      let a = refuse_pass 20 _ _ e in
      let b = refuse_pass 21 _ _ a.1 in
      (tests_valid p a.0 b.0, (refuse_pass 22 _ _ b.1).0)

  -- and so the walk comes to it
  accepted_visited : (p : Position) → length p ≡ n → refuse_position R p ≡ 0 → Comes R (fresh n) p
  unfolding after
  accepted_visited p l e =
      let t = tests_pass p e in
      lived_reached R (fresh n) [] p tt t.0 (all_lived p (l, t.0) t.1) (0, ap fresh (sym l))

  -- The positions of n ranks that pass refusals 21 to 23 are those that the walk visits.
  pub visited_iff : (p : Position) → length p ≡ n → (refuse_position R p ≡ 0) ↔ ((k : ℕ) × (after R k (fresh n) ≡ p))
  visited_iff p l = (accepted_visited p l, λ c. subst (λ (q : Position). refuse_position R q ≡ 0) c.1 (walk-accepted R n law c.0))
