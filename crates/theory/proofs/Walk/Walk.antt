-- The walk under any lawful rules passes every listed set once, in the order of sets.
-- Assumes nothing.
use Prim.Native.Nat.{ℕ, zero, suc, ◌+◌, ◌<◌}
use mathlib.Core.Path.{◌≡◌, refl, sym, ap, ap₂, ◌∙◌, subst⁻¹}
use mathlib.Core.Bool.{Bool, true, false, ◌&&◌, not, cond, and-false, false≢true, true≢false}
use mathlib.Core.List.Memᴰ
use mathlib.Core.List.{List, [], ◌∷◌, ◌++◌, append_assoc, Memᴰ}
use mathlib.Core.Logic.{⊎_elim}
use native.Mathlib.Nat.{zero-add, suc-add}
use native.Mathlib.Omega.{arith}
use Rattle.model.specs.Walk.{Position, Rules, has, fresh, finished, decided, advance, retreat, step, after, found, groups_of, records, full_sets}
use Rattle.theory.specs.Replies.{gone}
pub use Rattle.theory.proofs.Basics.Tests.{and_right}
use Rattle.theory.proofs.Basics.Tests.{fails}
use Rattle.theory.proofs.Walk.Remaining.{Fit, remaining, completions, Completes, fresh_remaining, fresh-fit, advance-fit, retreat-fit, advance_remaining, untaken_remaining, untaken_stays, finished_untaken, finished-decided, retreat_remaining, decided_completions, completions_complete, passed}

-- rules that lose nothing: a dead position has something taken, no completion of it is listed, and it stays dead when open ranks are decided;
-- and what is listed has something taken
pub record Lawful (R : Rules) (n : ℕ) : Type 0 where
  pub dead-taken : (p : Position) → R.dead p ≡ true → has 1 p ≡ true
  pub dead_final : (p q : Position) → Fit n p → R.dead p ≡ true → Completes p q → R.listed q ≡ false
  pub dead-stays : (p q : Position) → Fit n p → R.dead p ≡ true → Completes p q → R.dead q ≡ true
  pub listed-taken : (p : Position) → has 1 p ≡ false → R.listed p ≡ false

module _ (R : Rules) where
  -- a step goes down where the position is live and has an open rank
  pub step_down : (p : Position) → (not (R.dead p) && has 0 p) ≡ true → step R p ≡ advance p
  unfolding step
  step_down p e = rw (e, step)

  -- and otherwise back
  pub step_up : (p : Position) → (not (R.dead p) && has 0 p) ≡ false → step R p ≡ retreat p
  unfolding step
  step_up p e = rw (e, step)

  -- with all ranks decided a step is back
  pub decided_up : (p : Position) → has 0 p ≡ false → step R p ≡ retreat p
  decided_up p e = step_up p (ap (λ (b : Bool). not (R.dead p) && b) e ∙ and-false (not (R.dead p)))

  -- steps, and then more
  pub after-add : (k j : ℕ) (p : Position) → after R (k + j) p ≡ after R j (after R k p)
  unfolding after
  after-add zero j p = ap (λ (m : ℕ). after R m p) (zero-add j)
  after-add (suc k) j p = ap (λ (m : ℕ). after R m p) (suc-add k j) ∙ after-add k j (step R p)

  -- what a step from p passes
  chunk : Position → List Position
  chunk p = cond (not (R.dead p) && has 0 p) [] (cond (has 1 p) (completions p) [])

  chunk_down : (p : Position) → (not (R.dead p) && has 0 p) ≡ true → chunk p ≡ []
  unfolding chunk
  chunk_down p e = rw (e, chunk)

  chunk_up : (p : Position) → (not (R.dead p) && has 0 p) ≡ false → has 1 p ≡ true → chunk p ≡ completions p
  unfolding chunk
  chunk_up p e f = rw (e, f, chunk)

  chunk_none : (p : Position) → (not (R.dead p) && has 0 p) ≡ false → has 1 p ≡ false → chunk p ≡ []
  unfolding chunk
  chunk_none p e f = rw (e, f, chunk)

  -- the groups of two lists, end to end
  pub groups-append : (a b : List Position) → groups_of R (a ++ b) ≡ groups_of R a ++ groups_of R b
  unfolding groups_of
  groups-append [] b = refl
  groups-append (p ∷ a) b = go (found R p) (groups-append a b)
    where
      go : (t : Bool) → groups_of R (a ++ b) ≡ groups_of R a ++ groups_of R b
          → cond t (p ∷ groups_of R (a ++ b)) (groups_of R (a ++ b)) ≡ cond t (p ∷ groups_of R a) (groups_of R a) ++ groups_of R b
      go true e = ap {B = List Position} (λ l. p ∷ l) e
      go false e = e

  -- the records of two lists, end to end
  pub records-append : (a b : List Position) → records R (a ++ b) ≡ records R a ++ records R b
  unfolding records
  records-append [] b = refl
  records-append (p ∷ a) b = ap (λ (l : List ℕ). R.entries p ++ l) (records-append a b) ∙ sym (append_assoc (R.entries p) (records R a) (records R b))

  -- a member of the groups among ps is among ps, and a group
  pub groups_member : (ps : List Position) (q : Position) → Memᴰ q (groups_of R ps) → Memᴰ q ps × (found R q ≡ true)
  unfolding groups_of
  groups_member [] q m = absurd (Memᴰ.not-nil m)
  groups_member (p ∷ ps) q m = go (found R p) refl m (groups_member ps q)
    where
      go : (t : Bool) → found R p ≡ t → Memᴰ q (cond t (p ∷ groups_of R ps) (groups_of R ps))
          → (Memᴰ q (groups_of R ps) → Memᴰ q ps × (found R q ≡ true)) → Memᴰ q (p ∷ ps) × (found R q ≡ true)
      go true e m ih =
          ⊎_elim (λ s. (Memᴰ.head s, ap (found R) s ∙ e)) (λ n. let r = ih n in (Memᴰ.tail r.0, r.1)) (Memᴰ.cases_cons m)
      go false e m ih = let r = ih m in (Memᴰ.tail r.0, r.1)

  groups_none : (ps : List Position) → ((q : Position) → Memᴰ q ps → found R q ≡ false) → groups_of R ps ≡ []
  unfolding groups_of
  groups_none [] f = refl
  groups_none (p ∷ ps) f = rw (f p (Memᴰ.head refl), groups_of) (groups_none ps (λ q m. f q (Memᴰ.tail m)))

  open_unfound : (p : Position) → has 0 p ≡ true → found R p ≡ false
  unfolding found
  open_unfound p e = rw (e, found)

  unlisted_unfound : (p : Position) → R.listed p ≡ false → found R p ≡ false
  unfolding found
  unlisted_unfound p e = ap (λ (b : Bool). decided p && b) e ∙ and-false (decided p)

  one_unfound : (p : Position) → found R p ≡ false → groups_of R (p ∷ []) ≡ []
  unfolding groups_of
  one_unfound p e = rw (e, groups_of)

  groups-nil : groups_of R [] ≡ []
  unfolding groups_of
  groups-nil = refl

  not_and : (d o : Bool) → (not d && o) ≡ false → o ≡ true → d ≡ true
  not_and true o e f = refl
  not_and false o e f = absurd (false≢true (sym e ∙ f))

module _ (R : Rules) (n : ℕ) (law : Lawful R n) where
  -- a step from a valid position of n ranks leads to one
  pub step_valid : (p : Position) → Fit n p → Fit n (step R p)
  step_valid p v = go (not (R.dead p) && has 0 p) refl
    where
      go : (m : Bool) → (not (R.dead p) && has 0 p) ≡ m → Fit n (step R p)
      go true e = rw (step_down R p e) (advance-fit n p v)
      go false e = rw (step_up R p e) (retreat-fit n p v)

  -- nothing taken and not going down: all ranks are decided
  pub untaken_decided : (p : Position) → (not (R.dead p) && has 0 p) ≡ false → has 1 p ≡ false → has 0 p ≡ false
  untaken_decided p e f = go (has 0 p) refl
    where
      go : (o : Bool) → has 0 p ≡ o → has 0 p ≡ false
      go true g = absurd (true≢false (sym (law.dead-taken p (not_and R (R.dead p) (has 0 p) e g)) ∙ f))
      go false g = g

  step-passes : (p : Position) → Fit n p → remaining p ≡ chunk R p ++ remaining (step R p)
  step-passes p v = go (not (R.dead p) && has 0 p) (has 1 p) refl refl
    where
      go : (m t : Bool) → (not (R.dead p) && has 0 p) ≡ m → has 1 p ≡ t → remaining p ≡ chunk R p ++ remaining (step R p)
      go true t e f = rw (chunk_down R p e, step_down R p e) (sym (advance_remaining p v.1 (and_right (not (R.dead p)) (has 0 p) e)))
      go false true e f = rw (chunk_up R p e f, step_up R p e) (retreat_remaining p v.1 f)
      go false false e f = rw (chunk_none R p e f, step_up R p e) (ap remaining (sym (untaken_stays p v.1 f)))

  -- the groups that a step passes: p itself, where p is one
  chunk_groups : (p : Position) → Fit n p → groups_of R (chunk R p) ≡ groups_of R (p ∷ [])
  chunk_groups p v = go (not (R.dead p) && has 0 p) (has 1 p) (has 0 p) refl refl refl
    where
      go : (m t o : Bool) → (not (R.dead p) && has 0 p) ≡ m → has 1 p ≡ t → has 0 p ≡ o → groups_of R (chunk R p) ≡ groups_of R (p ∷ [])
      go true t o e f g = rw (chunk_down R p e) (groups-nil R ∙ sym (one_unfound R p (open_unfound R p (and_right (not (R.dead p)) (has 0 p) e))))
      go false true true e f g =
          rw (chunk_up R p e f)
          (groups_none R (completions p)
          (λ q m. unlisted_unfound R q (law.dead_final p q v (not_and R (R.dead p) (has 0 p) e g) (completions_complete p v.1 q m)))
          ∙ sym (one_unfound R p (open_unfound R p g)))
      go false true false e f g = rw (chunk_up R p e f, decided_completions p v.1 g)
      go false false o e f g = rw (chunk_none R p e f) (groups-nil R ∙ sym (one_unfound R p (unlisted_unfound R p (law.listed-taken p f))))

  -- and so do k steps
  pub after_valid : (k : ℕ) (p : Position) → Fit n p → Fit n (after R k p)
  unfolding after
  after_valid zero p v = v
  after_valid (suc k) p v = after_valid k (step R p) (step_valid p v)

  -- what remained at p is what k steps pass and what then remains
  pub gone_splits : (k : ℕ) (p : Position) → Fit n p → groups_of R (remaining p) ≡ gone R k p ++ groups_of R (remaining (after R k p))
  unfolding gone after
  gone_splits zero p v = refl
  gone_splits (suc k) p v =
      ap (groups_of R) (step-passes p v)
      ∙ groups-append R (chunk R p) (remaining (step R p))
      ∙ ap₂ ◌++◌ (chunk_groups p v) (gone_splits k (step R p) (step_valid p v))
      ∙ sym (append_assoc (groups_of R (p ∷ [])) (gone R k (step R p)) (groups_of R (remaining (after R k (step R p)))))

  -- what k steps from fresh pass is the first of the full list
  pub gone-first : (k : ℕ) → full_sets R n ≡ gone R k (fresh n) ++ groups_of R (remaining (after R k (fresh n)))
  unfolding full_sets
  gone-first k = ap (groups_of R) (sym (fresh_remaining n)) ∙ gone_splits k (fresh n) (fresh-fit n)

  -- each group that is gone was left by a step
  pub gone-left : (k : ℕ) (p q : Position) → Memᴰ q (gone R k p) → (j : ℕ) × (j < k) × (after R j p ≡ q)
  unfolding gone after
  gone-left zero p q m = absurd (Memᴰ.not-nil m)
  gone-left (suc k) p q m =
      ⊎_elim
      (λ n. (zero, omega arith, sym (Memᴰ.eq_of_singleton (groups_member R (p ∷ []) q n).0)))
      (λ n. let r = gone-left k (step R p) q n in (suc r.0, omega arith, r.2))
      (Memᴰ.append_cases (groups_of R (p ∷ [])) m)

  -- what remains later remained before
  remaining_shrinks : (k : ℕ) (p q : Position) → Fit n p → Memᴰ q (remaining (after R k p)) → Memᴰ q (remaining p)
  unfolding after
  remaining_shrinks zero p q v m = m
  remaining_shrinks (suc k) p q v m =
      rw (step-passes p v) (Memᴰ.append_right (chunk R p) (remaining_shrinks k (step R p) q (step_valid p v) m))

  -- a group's step is up, and something is taken in it
  found-decided : (p : Position) → found R p ≡ true → has 0 p ≡ false
  found-decided p e = fails (has 0 p) (λ f. true≢false (sym e ∙ open_unfound R p f))

  found-taken : (p : Position) → found R p ≡ true → has 1 p ≡ true
  found-taken p e = go (has 1 p) refl
    where
      go : (o : Bool) → has 1 p ≡ o → has 1 p ≡ true
      go true f = f
      go false f = absurd (true≢false (sym e ∙ unlisted_unfound R p (law.listed-taken p f)))

  found-step : (p : Position) → found R p ≡ true → step R p ≡ retreat p
  found-step p e = decided_up R p (found-decided p e)

  -- no group that remains was left by a step
  pub remaining_kept : (k : ℕ) (p q : Position) → Fit n p → Memᴰ q (remaining (after R k p)) → found R q ≡ true → (j : ℕ) → j < k → after R j p ≡ q → ⊥
  unfolding after
  remaining_kept zero p q v m e j h s = omega arith
  remaining_kept (suc k) p q v m e zero h s =
      let f = ap (found R) s ∙ e in
      let n = remaining_shrinks k (step R p) q (step_valid p v) m in
      passed p v.1 (found-taken p f)
      (rw (found-step p f) at (subst⁻¹ (λ (l : Position). Memᴰ l (remaining (step R p))) s n))
      (found-decided p f)
  remaining_kept (suc k) p q v m e (suc j) h s = remaining_kept k (step R p) q (step_valid p v) m e j (omega arith) s

  -- nothing is left to list at a finished position
  pub finished-done : (p : Position) → Fit n p → finished p ≡ true → groups_of R (remaining p) ≡ []
  finished-done p v e =
      ap (groups_of R) (untaken_remaining p v.1 (finished_untaken p e) ∙ decided_completions p v.1 (finished-decided p e))
      ∙ one_unfound R p (unlisted_unfound R p (law.listed-taken p (finished_untaken p e)))
