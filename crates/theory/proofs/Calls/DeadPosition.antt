-- What refusals 22 and 23 test of a position: a decided rank after an open one, and whether the position with its last decided rank opened is dead.
-- Assumes nothing.
use Prim.Native.Nat.{ℕ, zero, suc, ◌-◌, ◌<◌}
use mathlib.Core.Path.{◌≡◌, refl, sym, ap, ◌∙◌, subst, subst⁻¹}
use mathlib.Core.Bool.{Bool, true, false, ◌&&◌, not, true≢false, false≢true}
use mathlib.Core.Logic.{◌≢◌, ◌⊎◌, inl, inr, ⊎_elim}
use mathlib.Core.List.{[], ◌∷◌}
use native.Mathlib.Omega.{arith}
use native.Mathlib.Nat.{not-suc-le-zero}
use lib.ListN.{length, get_or, set, length-set}
use lib.Dec.{eqb-zero-suc}
use borrow.Author.Tests.{eqb-true, eq-eqb, ne_eqb}
use Rattle.model.specs.Below.{least}
use Rattle.model.specs.Graph.{Graph, vertex_at}
use Rattle.model.specs.Groups.{Factor}
use Rattle.model.specs.Meaning.{Under, Symmetric}
use Rattle.model.specs.Walk.{Position, only, has}
use Rattle.model.specs.Listing.{is, adjacent, pivot, apart, left_neighbours, dead}
use Rattle.model.specs.Calls.{gap, reopened}
use Rattle.model.specs.Faults.{Apart, Dead, Reopened}
use Rattle.theory.proofs.Basics.Tests.{suc_less, Test, test_map, in_length, not-different, passes_or_fails, last_or_below, trichotomy}
use Rattle.theory.proofs.Basics.Counting.{least_first, least-is}
use Rattle.theory.proofs.Graph.Ranks.{vertex_at_lem}
use Rattle.theory.proofs.Walk.Remaining.{has_test}
use Rattle.theory.proofs.Walk.Lawful.{apart_test, dead_test, pivot-taken}

-- ---- a decided rank after an open one

decided_test : (p : Position) → Test (not (only 0 p)) ((r : ℕ) × (r < length p) × (get_or p r 0 ≢ 0))
unfolding only
decided_test [] = (λ e. absurd (false≢true e), λ r. absurd (not-suc-le-zero r.1))
decided_test (zero ∷ p) = test_map (decided_test p) (λ r. let l = r.1 in (suc r.0, omega arith, r.2)) (λ r. at r.0 r.1 r.2)
  where
    at : (r : ℕ) → r < suc (length p) → get_or (zero ∷ p) r 0 ≢ 0 → (r : ℕ) × (r < length p) × (get_or p r 0 ≢ 0)
    at zero l d = absurd (d refl)
    at (suc r) l d = (r, omega arith, d)
decided_test (suc x ∷ p) = (λ e. (0, omega arith, λ z. omega arith), λ r. ap (λ (b : Bool). not (b && only 0 p)) (eqb-zero-suc x))

-- a decided rank after an open one
abbrev pub Gap : Position → Type 0
Gap p = (i : ℕ) × (r : ℕ) × (i < r) × (r < length p) × (get_or p i 0 ≡ 0) × (get_or p r 0 ≢ 0)

-- refusal 22 says what document 01 says
pub gap_test : (p : Position) → Test (gap p) (Gap p)
unfolding gap
gap_test [] = (λ e. absurd (false≢true e), λ g. absurd (not-suc-le-zero g.3))
gap_test (zero ∷ p) =
    test_map (decided_test p)
    (λ r. let l = r.1 in (0, suc r.0, omega arith, omega arith, refl, r.2))
    (λ g. at g.0 g.1 g.2 g.3 g.5)
  where
    at : (i r : ℕ) → i < r → r < suc (length p) → get_or (zero ∷ p) r 0 ≢ 0 → (r : ℕ) × (r < length p) × (get_or p r 0 ≢ 0)
    at i zero h l d = absurd (not-suc-le-zero h)
    at i (suc r) h l d = (r, omega arith, d)
gap_test (suc x ∷ p) =
    test_map (gap_test p)
    (λ g. let h = g.2 in let l = g.3 in (suc g.0, suc g.1, omega arith, omega arith, g.4, g.5))
    (λ g. at g.0 g.1 g.2 g.3 g.4 g.5)
  where
    at : (i r : ℕ) → i < r → r < suc (length p) → get_or (suc x ∷ p) i 0 ≡ 0 → get_or (suc x ∷ p) r 0 ≢ 0 → Gap p
    at zero r h l z d = absurd (omega arith)
    at (suc i) zero h l z d = absurd (not-suc-le-zero h)
    at (suc i) (suc r) h l z d = (i, r, omega arith, omega arith, z, d)

-- ---- a dead position

taken-below : (p : Position) (r : ℕ) → get_or p r 0 ≡ 1 → r < length p
taken-below p r e = in_length p r (λ z. omega arith)

-- no rank below the pivot is taken
pub below-pivot : (G : Graph) (p : Position) (r : ℕ) → r < pivot G p → get_or p r 0 ≢ 1
unfolding pivot
below-pivot G p r l e = true≢false (sym (eq-eqb (get_or p r 0) 1 e) ∙ least_first G.size (is 1 p) r l)

module _ (G : Graph) (symmetric : Symmetric G) (c : Factor) (p : Position) (long : length p ≡ G.size) where
  pivot-least : (r : ℕ) → get_or p r 0 ≡ 1 → ((i : ℕ) → i < r → get_or p i 0 ≢ 1) → pivot G p ≡ r
  unfolding pivot
  pivot-least r e f =
      let l = taken-below p r e in
      least-is G.size (is 1 p) r (omega arith) (λ i h. ne_eqb (get_or p i 0) 1 (f i h)) (λ h. eq-eqb (get_or p r 0) 1 e)

  -- two taken ranks, the lower first
  abbrev Pair : Type 0
  Pair = (r : ℕ) × (r < G.size) × ((s : ℕ) × (s < G.size) × ((((r < s) × (is 1 p r ≡ true)) × (is 1 p s ≡ true)) × (adjacent G r s ≡ false)))

  apart_iff : Test (apart G p) (Apart G p)
  unfolding adjacent
  apart_iff = test_map (apart_test G p) there back
    where
      there : Pair → Apart G p
      there t =
          let q = t.2.2 in
          let l = q.0.0.0 in
          record {
            one = t.0;
            other = t.2.0;
            one-taken = eqb-true (get_or p t.0 0) 1 q.0.0.1;
            other-taken = eqb-true (get_or p t.2.0 0) 1 q.0.1;
            different = λ z. omega arith;
            not-adjacent = q.1;
          }

      pair : (r s : ℕ) → get_or p r 0 ≡ 1 → get_or p s 0 ≡ 1 → r < s → adjacent G r s ≡ false → Pair
      pair r s er es l e =
          let a = taken-below p r er in
          let b = taken-below p s es in
          (r, omega arith, (s, omega arith, (((l, eq-eqb (get_or p r 0) 1 er), eq-eqb (get_or p s 0) 1 es), e)))

      turned : (r s : ℕ) → get_or p r 0 ≡ 1 → get_or p s 0 ≡ 1 → adjacent G r s ≡ false → adjacent G s r ≡ false
      turned r s er es e =
          let a = taken-below p r er in
          let b = taken-below p s es in
          symmetric (vertex_at G s) (vertex_at G r) (vertex_at_lem G s (omega arith)).0 (vertex_at_lem G r (omega arith)).0 ∙ e

      back : Apart G p → Pair
      back a =
          ⊎_elim (λ l. pair a.one a.other a.one-taken a.other-taken l a.not-adjacent)
          (⊎_elim (λ e. absurd (a.different e)) (λ l. pair a.other a.one a.other-taken a.one-taken l (turned a.one a.other a.one-taken a.other-taken a.not-adjacent)))
          (trichotomy a.one a.other)

  -- the test of a dead position says what document 01 says
  pub dead_iff : Test (dead G c p) (Dead G c p)
  dead_iff = test_map (dead_test G p c) there back
    where
      there : (apart G p ≡ true) ⊎ ((has 1 p ≡ true) × (Under c 1 (left_neighbours G p (pivot G p)) → ⊥)) → Dead G c p
      there (inl e) = inl (apart_iff.0 e)
      there (inr d) =
          inr
          (record {
            pivot = pivot G p;
            taken = eqb-true _ 1 (pivot-taken G p long d.0).1;
            lowest = below-pivot G p;
            at_least = λ u. d.1 u;
          })

      back : Dead G c p → (apart G p ≡ true) ⊎ ((has 1 p ≡ true) × (Under c 1 (left_neighbours G p (pivot G p)) → ⊥))
      back (inl a) = inl (apart_iff.1 a)
      back (inr d) =
          inr
          ((has_test 1 p).1 (d.pivot, taken-below p d.pivot d.taken, d.taken), λ u. d.at_least (rw (ap (left_neighbours G p) (pivot-least d.pivot d.taken d.lowest)) at u))

-- ---- the last decided rank

-- r is the last decided rank
abbrev Last : Position → ℕ → Type 0
Last p r = (get_or p r 0 ≢ 0) × ((i : ℕ) → r < i → get_or p i 0 ≡ 0)

open_at : (p : Position) → only 0 p ≡ true → (r : ℕ) → get_or p r 0 ≡ 0
open_at p e r = not-different (get_or p r 0) 0 (λ d. true≢false (sym ((decided_test p).1 (r, in_length p r d, d)) ∙ ap not e))

-- without a gap a position is open, or has a last decided rank
open_or_last : (p : Position) → (Gap p → ⊥) → (only 0 p ≡ true) ⊎ ((r : ℕ) × Last p r)
unfolding only gap
open_or_last [] g = inl refl
open_or_last (zero ∷ p) g = ⊎_elim inl (λ e. absurd (g ((gap_test (zero ∷ p)).0 (ap not e)))) (passes_or_fails (only 0 p))
open_or_last (suc x ∷ p) g =
    under (open_or_last p (λ q. let h = q.2 in let l = q.3 in g (suc q.0, suc q.1, omega arith, omega arith, q.4, q.5)))
  where
    first : only 0 p ≡ true → (i : ℕ) → 0 < i → get_or (suc x ∷ p) i 0 ≡ 0
    first e zero l = absurd (not-suc-le-zero l)
    first e (suc i) l = open_at p e i

    later : (r : ℕ) → Last p r → (i : ℕ) → suc r < i → get_or (suc x ∷ p) i 0 ≡ 0
    later r t zero l = absurd (not-suc-le-zero l)
    later r t (suc i) l = t.1 i (omega arith)

    under : (only 0 p ≡ true) ⊎ ((r : ℕ) × Last p r) → (only 0 (suc x ∷ p) ≡ true) ⊎ ((r : ℕ) × Last (suc x ∷ p) r)
    under (inl e) = inr (0, (λ z. omega arith, first e))
    under (inr t) = inr (suc t.0, (t.1.0, later t.0 t.1))

module _ (p : Position) (g : Gap p → ⊥) where
  reopened_at : (r : ℕ) → Last p r → reopened p ≡ set p r 0
  unfolding reopened
  reopened_at r l =
      let h = in_length p r l.0 in
      ap (λ (k : ℕ). set p (k - 1) 0)
      (least-is (length p) (is 0 p) (suc r) h
      (λ i b. ne_eqb (get_or p i 0) 0 (λ z. last_or_below b (λ e. l.0 (sym (ap (λ (i : ℕ). get_or p i 0) e) ∙ z)) (λ b. g (i, r, b, h, z, l.0))))
      (λ b. eq-eqb (get_or p (suc r) 0) 0 (l.1 (suc r) (omega arith))))
      ∙ ap (λ (k : ℕ). set p k 0) (suc_less r)

opened_at : (p : Position) → ((r : ℕ) → get_or p r 0 ≡ 0) → (k r : ℕ) → get_or (set p k 0) r 0 ≡ 0
opened_at [] f k r = refl
opened_at (x ∷ p) f zero zero = refl
opened_at (x ∷ p) f zero (suc r) = f (suc r)
opened_at (x ∷ p) f (suc k) zero = f zero
opened_at (x ∷ p) f (suc k) (suc r) = opened_at p (λ r. f (suc r)) k r

-- a position with nothing taken is not dead
untaken_live : (G : Graph) (c : Factor) (p : Position) → ((r : ℕ) → get_or p r 0 ≡ 0) → Dead G c p → ⊥
untaken_live G c p f (inl a) = let e = a.one-taken in let z = f a.one in omega arith
untaken_live G c p f (inr l) = let e = l.taken in let z = f l.pivot in omega arith

module _ (G : Graph) (symmetric : Symmetric G) (c : Factor) (p : Position) (long : length p ≡ G.size) (g : Gap p → ⊥) where
  reopened-dead : Test (dead G c (reopened p)) (Dead G c (reopened p))
  unfolding reopened
  reopened-dead = dead_iff G symmetric c (reopened p) (length-set p (least (length p) (is 0 p) - 1) 0 ∙ long)

  -- refusal 23 says what document 01 says
  pub reopened_test : Test (dead G c (reopened p)) (Reopened G c p)
  unfolding reopened
  reopened_test = test_map reopened-dead (there (open_or_last p g)) back
    where
      there : (only 0 p ≡ true) ⊎ ((r : ℕ) × Last p r) → Dead G c (reopened p) → Reopened G c p
      there (inl e) d = absurd (untaken_live G c (reopened p) (opened_at p (open_at p e) (least (length p) (is 0 p) - 1)) d)
      there (inr t) d =
          record { last = t.0; decided = t.1.0; then_open = t.1.1; dead = subst (Dead G c) (reopened_at p g t.0 t.1) d }

      back : Reopened G c p → Dead G c (reopened p)
      back r = subst⁻¹ (Dead G c) (reopened_at p g r.last (r.decided, r.then_open)) r.dead
