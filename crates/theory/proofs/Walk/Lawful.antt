-- The rules of isolated cliques are lawful on a graph with no loops: a dead position has no completion that qualifies.
-- Assumes nothing.
use Prim.Native.Nat.{ℕ, ◌≤◌, ◌<◌}
use mathlib.Core.Path.{◌≡◌, sym, ap, ◌∙◌}
use mathlib.Core.Bool.{true, false, true≢false}
use mathlib.Core.Logic.{◌≢◌, ◌⊎◌, inl, inr, ⊎_elim}
use native.Mathlib.Omega.{arith}
use native.Mathlib.Nat.{le_trans}
use lib.ListN.{length, get_or}
use borrow.Author.Tests.{eqb-true, eq-eqb, ne_eqb}
use Rattle.model.specs.Graph.{Graph, rank_of, vertex_at}
use Rattle.model.specs.Groups.{Factor, Settings, outside, qualifies}
use Rattle.model.specs.Meaning.{In, Under, Clique, IsolatedClique}
use Rattle.model.specs.Walk.{Position, has}
use Rattle.model.specs.Listing.{is, adjacent, pivot, apart, left_neighbours, dead, taken_set, rules}
use Rattle.theory.proofs.Basics.Tests.{Test, test_and, test_or, test_not, test_self, test_fails, test_lt, test_any, fails, trichotomy, in_length}
use Rattle.theory.proofs.Basics.Counting.{count_inject, count-sub, least-passes, least_first}
use Rattle.theory.proofs.Graph.Ranks.{vertex_at_lem, rank-degree}
use Rattle.theory.proofs.Graph.Meaning.{qualifies_iff}
use Rattle.theory.proofs.Graph.Factor.{under_test, under_mono}
use Rattle.theory.proofs.Graph.Cliques.{outside_mono, not-isolated}
use Rattle.theory.proofs.Walk.Remaining.{Fit, Completes, has_test, decided-below}
use Rattle.theory.proofs.Walk.Walk.{Lawful}

-- a taken rank stands in the position
taken-has : (p : Position) (r : ℕ) → is 1 p r ≡ true → has 1 p ≡ true
taken-has p r e =
    let s = eqb-true (get_or p r 0) 1 e in
    (has_test 1 p).1 (r, in_length p r (λ z. omega arith), s)

-- what p has decided as x, its completion has so too
kept : (p q : Position) → Completes p q → (x r : ℕ) → x ≢ 0 → is x p r ≡ true → get_or q r 0 ≡ x
kept p q c x r d e =
    let s = eqb-true (get_or p r 0) x e in
    c.keeps r (λ z. d (sym s ∙ z)) ∙ s

module _ (G : Graph) (p : Position) where
  -- what `apart` tests: two taken ranks, the lower first, that are not adjacent
  pub apart_test : Test (apart G p)
      ((r : ℕ) × (r < G.size) × ((s : ℕ) × (s < G.size) × ((((r < s) × (is 1 p r ≡ true)) × (is 1 p s ≡ true)) × (adjacent G r s ≡ false))))
  unfolding apart
  apart_test =
      test_any G.size _ (λ r. test_any G.size _ (λ s. test_and (test_and (test_and (test_lt r s) test_self) test_self) test_fails))

  -- what `dead` tests: that, or something taken and at least c neighbours of the pivot left
  pub dead_test : (c : Factor) → Test (dead G c p) ((apart G p ≡ true) ⊎ ((has 1 p ≡ true) × (Under c 1 (left_neighbours G p (pivot G p)) → ⊥)))
  unfolding dead
  dead_test c = test_or test_self (test_and test_self (test_not (under_test c 1 (left_neighbours G p (pivot G p)))))

  dead-has : (c : Factor) → dead G c p ≡ true → has 1 p ≡ true
  dead-has c e =
      ⊎_elim
      (λ a. let r = apart_test.0 a in taken-has p r.0 r.2.2.0.0.1)
      (λ t. t.0)
      ((dead_test c).0 e)

  -- the pivot is a taken rank, where something is taken
  pub pivot-taken : length p ≡ G.size → has 1 p ≡ true → (pivot G p < G.size) × (is 1 p (pivot G p) ≡ true)
  unfolding pivot
  pivot-taken long t =
      let r = (has_test 1 p).0 t in
      let b = r.1 in
      least-passes G.size (is 1 p) r.0 (omega arith) (eq-eqb (get_or p r.0 0) 1 r.2)

-- what is dead stays dead when open ranks are decided
module _ (G : Graph) (p q : Position) (fit : Fit G.size p) (cm : Completes p q) where
  kept-rank : (x r : ℕ) → x ≢ 0 → is x p r ≡ true → is x q r ≡ true
  kept-rank x r d e = eq-eqb (get_or q r 0) x (kept p q cm x r d e)

  -- two taken ranks that are not adjacent stay so
  apart-stays : apart G p ≡ true → apart G q ≡ true
  apart-stays e =
      let t = (apart_test G p).0 e in
      let f = t.2.2 in
      (apart_test G q).1
      (t.0, t.1, (t.2.0, t.2.1, (((f.0.0.0, kept-rank 1 t.0 (λ z. omega arith) f.0.0.1), kept-rank 1 t.2.0 (λ z. omega arith) f.0.1), f.1)))

  module _ (taken : has 1 p ≡ true) where
    -- the pivot stays the lowest taken rank, as all below it is decided
    pivot-stays : pivot G q ≡ pivot G p
    unfolding pivot
    pivot-stays = go (trichotomy (pivot G q) (pivot G p))
      where
        one : is 1 q (pivot G p) ≡ true
        one = kept-rank 1 (pivot G p) (λ z. omega arith) (pivot-taken G p fit.0 taken).1

        go : (pivot G q < pivot G p) ⊎ (pivot G q ≡ pivot G p) ⊎ (pivot G p < pivot G q) → pivot G q ≡ pivot G p
        go (inr (inl e)) = e
        go (inr (inr l)) = absurd (true≢false (sym one ∙ least_first G.size (is 1 q) (pivot G p) l))
        go (inl l) =
            let at = eqb-true (get_or p (pivot G p) 0) 1 (pivot-taken G p fit.0 taken).1 in
            let d = decided-below p fit.1 (pivot G q) (pivot G p) l (λ z. omega arith) in
            let own = (least-passes G.size (is 1 q) (pivot G p) (pivot-taken G p fit.0 taken).0 one).1 in
            let e = sym (cm.keeps (pivot G q) d) ∙ eqb-true (get_or q (pivot G q) 0) 1 own in
            absurd (true≢false (sym (eq-eqb (get_or p (pivot G q) 0) 1 e) ∙ least_first G.size (is 1 p) (pivot G q) l))

    -- its left neighbours only grow in number
    lost_stays : left_neighbours G p (pivot G p) ≤ left_neighbours G q (pivot G q)
    unfolding left_neighbours
    lost_stays =
        count-sub G.size _ _
        (λ r h e.
        let both = (test_and {a = is 2 p r} test_self test_self).0 e in
        (test_and {a = is 2 q r} test_self test_self).1
        (kept-rank 2 r (λ z. omega arith) both.0, ap (λ (k : ℕ). adjacent G k r) pivot-stays ∙ both.1))

  dead-kept : (c : Factor) → dead G c p ≡ true → dead G c q ≡ true
  dead-kept c e =
      (dead_test G q c).1
      (⊎_elim
      (λ a. inl (apart-stays a))
      (λ b.
      inr (
        taken-has q (pivot G p) (kept-rank 1 (pivot G p) (λ z. omega arith) (pivot-taken G p fit.0 b.0).1),
        λ u. b.1 (under_mono c 1 (lost_stays b.0) u),
      ))
      ((dead_test G p c).0 e))

module _ (G : Graph) (loopless : (u : ℕ) → u < G.size → G.joined u u ≡ false) (s : Settings) where
  module _ (p q : Position) (fit : Fit G.size p) (cm : Completes p q) where
    -- the vertex at a rank that p has taken is in q's set, and at one that p has left is not
    taken_in : (r : ℕ) → r < G.size → is 1 p r ≡ true → taken_set G q (vertex_at G r) ≡ true
    unfolding taken_set
    taken_in r h e = eq-eqb _ 1 (ap (λ (k : ℕ). get_or q k 0) (vertex_at_lem G r h).1 ∙ kept p q cm 1 r (λ z. omega arith) e)

    left_out : (r : ℕ) → r < G.size → is 2 p r ≡ true → taken_set G q (vertex_at G r) ≡ false
    unfolding taken_set
    left_out r h e =
        let k = ap (λ (k : ℕ). get_or q k 0) (vertex_at_lem G r h).1 ∙ kept p q cm 2 r (λ z. omega arith) e in
        ne_eqb (get_or q (rank_of G (vertex_at G r)) 0) 1 (λ z. omega arith)

    apart_final : apart G p ≡ true → Clique G (taken_set G q) → ⊥
    unfolding adjacent
    apart_final e C =
        let t = (apart_test G p).0 e in
        let r = t.0 in
        let w = t.2.0 in
        let hr = t.1 in
        let hw = t.2.1 in
        let f = t.2.2 in
        true≢false
        (sym
        (C.pairwise (vertex_at G r) (vertex_at G w)
        ((vertex_at_lem G r hr).0, taken_in r hr f.0.0.1)
        ((vertex_at_lem G w hw).0, taken_in w hw f.0.1)
        (λ z.
        let m = sym (vertex_at_lem G r hr).1 ∙ ap (rank_of G) z ∙ (vertex_at_lem G w hw).1 in
        let l = f.0.0.0 in
        omega arith))
        ∙ f.1)

    module _ (t : has 1 p ≡ true) where
      pivot_in : In G (taken_set G q) (vertex_at G (pivot G p))
      pivot_in = ((vertex_at_lem G (pivot G p) (pivot-taken G p fit.0 t).0).0, taken_in (pivot G p) (pivot-taken G p fit.0 t).0 (pivot-taken G p fit.0 t).1)

      -- no member has a lower rank than the pivot
      pivot-lowest : (u : ℕ) → In G (taken_set G q) u → pivot G p ≤ rank_of G u
      unfolding taken_set pivot
      pivot-lowest u h = go (trichotomy (rank_of G u) (pivot G p))
        where
          go : (rank_of G u < pivot G p) ⊎ (rank_of G u ≡ pivot G p) ⊎ (pivot G p < rank_of G u) → pivot G p ≤ rank_of G u
          go (inr (inl e)) = omega arith
          go (inr (inr l)) = omega arith
          go (inl l) =
              let one = eqb-true (get_or p (pivot G p) 0) 1 (pivot-taken G p fit.0 t).1 in
              let d = decided-below p fit.1 (rank_of G u) (pivot G p) l (λ z. omega arith) in
              let e = sym (cm.keeps (rank_of G u) d) ∙ eqb-true (get_or q (rank_of G u) 0) 1 h.1 in
              absurd (true≢false (sym (eq-eqb (get_or p (rank_of G u) 0) 1 e) ∙ least_first G.size (is 1 p) (rank_of G u) l))

      -- the neighbours of the pivot that are left are outside
      lost_outside : left_neighbours G p (pivot G p) ≤ outside G (taken_set G q) (vertex_at G (pivot G p))
      unfolding left_neighbours outside adjacent
      lost_outside =
          count_inject G.size G.size _ _ (vertex_at G)
          (λ r h e.
          let both = (test_and {a = is 2 p r} test_self test_self).0 e in
          ((vertex_at_lem G r h).0, (test_and {a = G.joined (vertex_at G (pivot G p)) (vertex_at G r)} test_self test_fails).1 (both.1, left_out r h both.0)))
          (λ i j hi hj a b z. sym (vertex_at_lem G i hi).1 ∙ ap (rank_of G) z ∙ (vertex_at_lem G j hj).1)

      lost_final : (notion : ℕ) (c : Factor) → (Under c 1 (left_neighbours G p (pivot G p)) → ⊥) → IsolatedClique G notion c (taken_set G q) → ⊥
      lost_final notion c l i =
          not-isolated G loopless (taken_set G q) i.clique notion c
          (λ u h under.
          let x = vertex_at G (pivot G p) in
          let r = (vertex_at_lem G (pivot G p) (pivot-taken G p fit.0 t).0).1 in
          let low = pivot-lowest u h in
          let d = rank-degree G x u h.0 (omega arith) in
          let m = outside_mono G loopless (taken_set G q) i.clique x u pivot_in h d in
          l (under_mono c 1 (le_trans lost_outside m) under))
          i.isolated

  -- The rules of isolated cliques are lawful
  pub lawful : Lawful (rules G s) G.size
  unfolding taken_set
  lawful =
      record {
        dead-taken = λ p e. dead-has G p s.factor e;
        dead_final = λ p q fit e cm.
            fails (qualifies G s (taken_set G q))
            (λ t.
            let i = ((qualifies_iff G s (taken_set G q)).0 t).isolated_clique_lem in
            ⊎_elim
            (λ a. apart_final p q fit cm a i.clique)
            (λ b. lost_final p q fit cm b.0 s.notion s.factor b.1 i)
            ((dead_test G p s.factor).0 e));
        dead-stays = λ p q fit e cm. dead-kept G p q fit cm s.factor e;
        listed-taken = λ p e.
            fails (qualifies G s (taken_set G p))
            (λ t. none p e ((qualifies_iff G s (taken_set G p)).0 t).isolated_clique_lem.clique);
      }
    where
      none : (p : Position) → has 1 p ≡ false → Clique G (taken_set G p) → ⊥
      none p e C = true≢false (sym (taken-has p (rank_of G C.nonempty.0) C.nonempty.1.1) ∙ e)
