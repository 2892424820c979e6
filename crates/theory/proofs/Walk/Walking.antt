-- The walk from fresh to finished: it ends, repeats no position, visits what passes refusals 21 to 23, and meets every listed set once and in
-- order.
-- Assumes nothing.
use Prim.Native.Nat.{ℕ, zero, suc, ◌+◌, ◌-◌, ◌≤◌, ◌<◌}
use mathlib.Core.Path.{◌≡◌, refl, sym, ap, ◌∙◌, subst, subst⁻¹}
use mathlib.Core.Bool.{Bool, true, false, ◌&&◌, not, cond}
use mathlib.Core.List.{List, [], ◌∷◌, ◌++◌, append-nil, Memᴰ}
use mathlib.Core.Logic.{◌≢◌, ◌⊎◌, inl, inr}
use native.Mathlib.Nat.{zero-add, suc-add, add-zero}
use native.Mathlib.Omega.{arith}
use Rattle.model.specs.Graph.{Graph}
use Rattle.model.specs.Groups.{Settings}
use Rattle.model.specs.Walk.{Position, Rules, has, fresh, finished, advance, retreat, step, after, lasts, found, groups_of, full_sets}
use Rattle.model.specs.Listing.{dead, rules}
use Rattle.model.specs.Walking.{stretch, MetOnce, MetInOrder, TheWalk, Walks}
use Rattle.theory.proofs.Basics.Tests.{trichotomy, test_and, test_self, test_fails}
use Rattle.theory.proofs.Walk.Remaining.{Fit, fresh-fit, untaken_stays, finished_untaken, finished-decided}
use Rattle.theory.specs.Replies.{gone}
use Rattle.theory.proofs.Walk.Walk.{Lawful, gone-first, gone-left, groups-append, decided_up, after_valid, after-add, finished-done}
use Rattle.theory.proofs.Walk.Ends.{walk_ends, length-once}
use Rattle.theory.proofs.Walk.Visited.{visited_iff}
use Rattle.theory.proofs.Walk.Lawful.{lawful}

module _ (R : Rules) where
  -- ---- what a length says

  lasts-step : (k : ℕ) (p : Position) → lasts R (suc k) p ≡ true → (finished p ≡ false) × (lasts R k (step R p) ≡ true)
  unfolding lasts
  lasts-step k p e = (test_and {a = not (finished p)} test_fails test_self).0 e

  -- after some steps the rest of them is left
  lasts_after : (i m : ℕ) (p : Position) → lasts R (i + m) p ≡ true → lasts R m (after R i p) ≡ true
  unfolding after
  lasts_after zero m p e = ap (λ (k : ℕ). lasts R k p) (sym (zero-add m)) ∙ e
  lasts_after (suc i) m p e = lasts_after i m (step R p) (lasts-step (i + m) p (ap (λ (k : ℕ). lasts R k p) (sym (suc-add i m)) ∙ e)).1

  lasts-finished : (k : ℕ) (p : Position) → lasts R k p ≡ true → finished (after R k p) ≡ true
  unfolding lasts
  lasts-finished k p e = lasts_after k 0 p (ap (λ (m : ℕ). lasts R m p) (add-zero k) ∙ e)

  -- a position that came twice would have two lengths
  no_repeat : (m : ℕ) (p : Position) → lasts R m p ≡ true → (i j : ℕ) → i < j → j ≤ m → after R i p ≡ after R j p → ⊥
  no_repeat m p e i j h l s =
      let a : i + (m - i) ≡ m = omega arith in
      let b : j + (m - j) ≡ m = omega arith in
      let x = lasts_after i (m - i) p (ap (λ (k : ℕ). lasts R k p) a ∙ e) in
      let y = lasts_after j (m - j) p (ap (λ (k : ℕ). lasts R k p) b ∙ e) in
      let z = length-once R (m - i) (m - j) (after R j p) (subst (λ (q : Position). lasts R (m - i) q ≡ true) s x) y in
      omega arith

  -- ---- groups in the order of the walk

  stretch-gone : (k : ℕ) (p : Position) → groups_of R (stretch R k p) ≡ gone R k p
  unfolding stretch gone groups_of
  stretch-gone zero p = refl
  stretch-gone (suc k) p = groups-append R (p ∷ []) (stretch R k (step R p)) ∙ ap (λ (l : List Position). groups_of R (p ∷ []) ++ l) (stretch-gone k (step R p))

  -- what is met from the next position on is met a step later from this one, where this one is not among it
  later : (p : Position) (k : ℕ) (xs : List Position) → ((q : Position) → Memᴰ q xs → p ≢ q) → MetInOrder R (step R p) k xs → MetInOrder R p (suc k) xs
  unfolding after
  later p k [] f o = tt
  later p k (x ∷ xs) f o = (at, later p k xs (λ q m. f q (Memᴰ.tail m)) o.1)
    where
      at : (q : Position) → Memᴰ q xs → (i j : ℕ) → i < suc k → j < suc k → after R i p ≡ x → after R j p ≡ q → i < j
      at q m zero j a b c d = absurd (f x (Memᴰ.head refl) c)
      at q m (suc i) zero a b c d = absurd (f q (Memᴰ.tail m) d)
      at q m (suc i) (suc j) a b c d = let r = o.0 q m i j (omega arith) (omega arith) c d in omega arith

module _ (R : Rules) (n : ℕ) (law : Lawful R n) where
  gone-in_order : (k : ℕ) (p : Position) → lasts R k p ≡ true → MetInOrder R p k (gone R k p)
  unfolding gone groups_of after
  gone-in_order zero p e = tt
  gone-in_order (suc k) p e = go (found R p) (later R p k (gone R k (step R p)) new (gone-in_order k (step R p) (lasts-step R k p e).1))
    where
      -- what is met later is not p
      new : (q : Position) → Memᴰ q (gone R k (step R p)) → p ≢ q
      new q m s =
          let r = gone-left R n law k (step R p) q m in
          let h = r.1 in
          no_repeat R (suc k) p e 0 (suc r.0) (omega arith) (omega arith) (s ∙ sym r.2)

      first : (q : Position) → Memᴰ q (gone R k (step R p)) → (i j : ℕ) → i < suc k → j < suc k → after R i p ≡ p → after R j p ≡ q → i < j
      first q m zero zero a b c d = absurd (new q m d)
      first q m zero (suc j) a b c d = omega arith
      first q m (suc i) j a b c d = absurd (no_repeat R (suc k) p e 0 (suc i) (omega arith) (omega arith) (sym c))

      go : (b : Bool) → MetInOrder R p (suc k) (gone R k (step R p)) → MetInOrder R p (suc k) (cond b (p ∷ []) [] ++ gone R k (step R p))
      go true o = (first, o)
      go false o = o

  -- ---- the walk stays at its end

  step-finished : (p : Position) → Fit n p → finished p ≡ true → step R p ≡ p
  step-finished p v e = decided_up R p (finished-decided p e) ∙ untaken_stays p v.1 (finished_untaken p e)

  after-finished : (k : ℕ) (p : Position) → Fit n p → finished p ≡ true → after R k p ≡ p
  unfolding after
  after-finished zero p v e = refl
  after-finished (suc k) p v e = ap (after R k) (step-finished p v e) ∙ after-finished k p v e

  module _ (m : ℕ) (e : lasts R m (fresh n) ≡ true) where
    -- all that the walk visits it visits within its length
    visited_within : (p : Position) → (k : ℕ) × (after R k (fresh n) ≡ p) → (k : ℕ) × (k ≤ m) × (after R k (fresh n) ≡ p)
    visited_within p c = go (trichotomy c.0 m)
      where
        go : (c.0 < m) ⊎ (c.0 ≡ m) ⊎ (m < c.0) → (k : ℕ) × (k ≤ m) × (after R k (fresh n) ≡ p)
        go (inl h) = (c.0, omega arith, c.1)
        go (inr (inl h)) = (c.0, omega arith, c.1)
        go (inr (inr h)) =
            let a : m + (c.0 - m) ≡ c.0 = omega arith in
            let s = after-finished (c.0 - m) (after R m (fresh n)) (after_valid R n law m (fresh n) (fresh-fit n)) (lasts-finished R m (fresh n) e) in
            (m, omega arith, sym s ∙ sym (after-add R m (c.0 - m) (fresh n)) ∙ ap (λ (k : ℕ). after R k (fresh n)) a ∙ c.1)

    -- at its end every listed set is gone
    all-gone : gone R m (fresh n) ≡ full_sets R n
    all-gone =
        sym (append-nil (gone R m (fresh n)))
        ∙ ap (λ (l : List Position). gone R m (fresh n) ++ l)
        (sym (finished-done R n law (after R m (fresh n)) (after_valid R n law m (fresh n) (fresh-fit n)) (lasts-finished R m (fresh n) e)))
        ∙ sym (gone-first R n law m)

    met_once : (q : Position) → Memᴰ q (full_sets R n) → MetOnce R (fresh n) m q
    met_once q h =
        let r = gone-left R n law m (fresh n) q (subst⁻¹ (Memᴰ q) all-gone h) in
        record {
          when = r.0;
          within = r.1;
          there = r.2;
          once = λ k l s. same r.0 k r.1 l (r.2 ∙ sym s);
        }
      where
        same : (i k : ℕ) → i < m → k < m → after R i (fresh n) ≡ after R k (fresh n) → k ≡ i
        same i k a b s = go (trichotomy k i)
          where
            go : (k < i) ⊎ (k ≡ i) ⊎ (i < k) → k ≡ i
            go (inl h) = absurd (no_repeat R m (fresh n) e k i h (omega arith) (sym s))
            go (inr (inl h)) = h
            go (inr (inr h)) = absurd (no_repeat R m (fresh n) e i k h (omega arith) s)

  -- The walk under lawful rules.
  pub the_walk : TheWalk R n
  the_walk =
      let w = walk_ends R n law in
      record {
        long = w.0;
        ends = w.1;
        one-length = λ k e. length-once R k w.0 (fresh n) e w.1;
        no_repeat = no_repeat R w.0 (fresh n) w.1;
        visits = λ p l. (λ e. visited_within w.0 w.1 p ((visited_iff R n law p l).0 e), λ c. (visited_iff R n law p l).1 (c.0, c.2));
        meets = met_once w.0 w.1;
        in_order = subst (MetInOrder R (fresh n) w.0) (all-gone w.0 w.1) (gone-in_order w.0 (fresh n) w.1);
        groups = stretch-gone R w.0 (fresh n) ∙ all-gone w.0 w.1;
      }

-- the steps go by what is dead alone
module _ (G : Graph) (s t : Settings) (e : t.factor ≡ s.factor) where
  same_step : (p : Position) → step (rules G t) p ≡ step (rules G s) p
  unfolding step
  same_step p = ap (λ (c : ℕ). cond (not (dead G c p) && has 0 p) (advance p) (retreat p)) e

  same_after : (k : ℕ) (p : Position) → after (rules G t) k p ≡ after (rules G s) k p
  unfolding after
  same_after zero p = refl
  same_after (suc k) p = ap (after (rules G t) k) (same_step p) ∙ same_after k (step (rules G s) p)

-- The walk of every graph without loops, for all n, notions, kinds and factors together.
pub walks : Walks
walks G loopless s = record { walk = the_walk (rules G s) G.size (lawful G loopless s); same-walk = λ t e. same_after G s t e }
