-- The lowest open rank d of a position decided: what is then taken, the left neighbours of the pivot, and whether two taken ranks are apart.
-- Assumes nothing.
use Prim.Native.Nat.{ℕ, ◌≤◌, ◌<◌}
use mathlib.Core.Path.{◌≡◌, sym, ap, ap₂, ◌∙◌}
use mathlib.Core.Bool.{Bool, true, false, ◌&&◌, ◌||◌, not, cond}
use mathlib.Core.List.{List, [], ◌∷◌, ◌++◌, map, append-nil, map-append}
use mathlib.Core.Logic.{◌≢◌, ◌⊎◌, inl, inr, ⊎_elim}
use native.Mathlib.Omega.{arith}
use lib.ListN.{length, get_or}
use lib.Dec.{eqb}
use borrow.Author.Tests.{eq-eqb, ne_eqb}
use Rattle.model.specs.Below.{any, passing}
use Rattle.model.specs.Graph.{Graph, vertex_at}
use Rattle.model.specs.Walk.{Position, has}
use Rattle.model.specs.Listing.{is, adjacent, pivot, apart, taken_list}
use Rattle.theory.proofs.Basics.Tests.{Test, test_map, test_or, test_any, test_fails, same_test, last_or_below, lt_or_ge, trichotomy}
use Rattle.theory.proofs.Basics.Passing.{map_at}
use Rattle.theory.proofs.Basics.PassingParts.{passing-same, passing-below, passing-next}
use Rattle.theory.proofs.Calls.DeadPosition.{below-pivot}
use Rattle.theory.proofs.Walk.Moves.{has-found}
use Rattle.state.specs.State.{taken_ranks, left_of_pivot, left_ranks}
use Rattle.state.specs.NextRank.{Decides}
use Rattle.state.proofs.Taken.{taken_list_lem, taken_at, taken-found, taken-has, left-none, pivot-first, pivot-is, Pair, apart_pairs, pair_in}

-- p has no decided rank from d on, and q is p with d decided as x
module _ (G : Graph) {d x : ℕ} {p q : Position} (low : d < G.size) (clear : (r : ℕ) → d ≤ r → get_or p r 0 ≡ 0) (D : Decides d x p q) where
  same_mark : (y r : ℕ) → r < d → is y q r ≡ is y p r
  same_mark y r h = ap (λ (m : ℕ). eqb m y) (D.before r h)

  mark_there : (y : ℕ) → is y q d ≡ eqb x y
  mark_there y = ap (λ (m : ℕ). eqb m y) D.there

  no_mark : (y r : ℕ) → y ≢ 0 → d ≤ r → is y p r ≡ false
  no_mark y r o h = ne_eqb (get_or p r 0) y (λ e. o (sym e ∙ clear r h))

  no_mark_after : (y r : ℕ) → y ≢ 0 → d < r → is y q r ≡ false
  no_mark_after y r o h = ne_eqb (get_or q r 0) y (λ e. o (sym e ∙ D.then_open r h))

  ranks_grow : taken_ranks G q ≡ taken_ranks G p ++ cond (eqb x 1) (d ∷ []) []
  unfolding taken_ranks
  ranks_grow =
      passing-next G.size d (is 1 p) (is 1 q) low (same_mark 1) (λ r h. no_mark 1 r (λ z. omega arith) h) (λ r h. no_mark_after 1 r (λ z. omega arith) h)
      ∙ ap (λ (b : Bool). taken_ranks G p ++ cond b (d ∷ []) []) (mark_there 1)

  -- d taken: it comes last of the taken ranks, and its vertex last of their vertices
  pub ranks-taken : x ≡ 1 → taken_ranks G q ≡ taken_ranks G p ++ (d ∷ [])
  ranks-taken one = ranks_grow ∙ ap (λ (b : Bool). taken_ranks G p ++ cond b (d ∷ []) []) (eq-eqb x 1 one)

  pub vertices-taken : x ≡ 1 → taken_list G q ≡ taken_list G p ++ (vertex_at G d ∷ [])
  vertices-taken one =
      taken_list_lem G q ∙ ap (map (vertex_at G)) (ranks-taken one)
      ∙ map-append (vertex_at G) (taken_ranks G p) (d ∷ [])
      ∙ ap (λ (l : List ℕ). l ++ (vertex_at G d ∷ [])) (sym (taken_list_lem G p))

  -- d left: what is taken stays
  pub ranks-left : x ≡ 2 → taken_ranks G q ≡ taken_ranks G p
  ranks-left two = ranks_grow ∙ ap (λ (b : Bool). taken_ranks G p ++ cond b (d ∷ []) []) (ne_eqb x 1 (λ z. omega arith)) ∙ append-nil (taken_ranks G p)

  pub vertices-left : x ≡ 2 → taken_list G q ≡ taken_list G p
  vertices-left two = taken_list_lem G q ∙ ap (map (vertex_at G)) (ranks-left two) ∙ sym (taken_list_lem G p)

  taken-before : (r : ℕ) → get_or p r 0 ≡ 1 → r < d
  taken-before r e = ⊎_elim (λ l. l) (λ h. let z = clear r h in absurd (omega arith)) (lt_or_ge r d)

  -- ---- the left neighbours of the pivot

  module _ (long : length p ≡ G.size) where
    -- the pivot stays where there is one
    module _ (some : 0 < length (taken_ranks G p)) where
      pivot-before : pivot G p < d
      pivot-before = taken-before (pivot G p) (pivot-first G p some).1

      pivot-one : get_or q (pivot G p) 0 ≡ 1
      pivot-one = D.before (pivot G p) pivot-before ∙ (pivot-first G p some).1

      pivot-stays : pivot G q ≡ pivot G p
      pivot-stays =
          let b = pivot-before in
          pivot-is G q (pivot G p) (pivot-first G p some).0 pivot-one (λ i l e. below-pivot G p i l (sym (D.before i (omega arith)) ∙ e))

      has-stays : has 1 q ≡ true
      has-stays = let b = pivot-before in let e = D.same_length in has-found 1 q (pivot G p) (omega arith) pivot-one

      -- they get d where d is left and adjacent to it
      left-grows : left_ranks G q ≡ left_ranks G p ++ cond (eqb x 2 && adjacent G (pivot G p) d) (d ∷ []) []
      unfolding left_ranks
      left-grows =
          passing-next G.size d (left_of_pivot G p) (left_of_pivot G q) low
          (λ r h. rw (has-stays, taken-has G p long some, same_mark 2 r h, pivot-stays))
          (λ r h. rw (taken-has G p long some, no_mark 2 r (λ z. omega arith) h))
          (λ r h. rw (has-stays, no_mark_after 2 r (λ z. omega arith) h))
          ∙ ap (λ (b : Bool). left_ranks G p ++ cond b (d ∷ []) []) there
        where
          there : left_of_pivot G q d ≡ (eqb x 2 && adjacent G (pivot G p) d)
          there = rw (has-stays, mark_there 2, pivot-stays)

      pub left-kept : x ≡ 1 → left_ranks G q ≡ left_ranks G p
      left-kept e = left-grows ∙ ap (λ (b : Bool). left_ranks G p ++ cond (b && adjacent G (pivot G p) d) (d ∷ []) []) (ne_eqb x 2 (λ z. omega arith)) ∙ append-nil (left_ranks G p)

      pub left-more : x ≡ 2 → adjacent G (pivot G p) d ≡ true → left_ranks G q ≡ left_ranks G p ++ (d ∷ [])
      left-more e a = left-grows ∙ ap₂ (λ (b c : Bool). left_ranks G p ++ cond (b && c) (d ∷ []) []) (eq-eqb x 2 e) a

      pub left-same : x ≡ 2 → adjacent G (pivot G p) d ≡ false → left_ranks G q ≡ left_ranks G p
      left-same e a = left-grows ∙ ap₂ (λ (b c : Bool). left_ranks G p ++ cond (b && c) (d ∷ []) []) (eq-eqb x 2 e) a ∙ append-nil (left_ranks G p)

    -- where nothing was taken, all ranks below d are left
    module _ (none : length (taken_ranks G p) ≡ 0) where
      pub left-still-none : x ≡ 2 → left_ranks G q ≡ left_ranks G p
      left-still-none e = left-none G q (D.same_length ∙ long) (ap length (ranks-left e) ∙ none) ∙ sym (left-none G p long none)

      pub left-first : x ≡ 1 → ((r : ℕ) → r < d → get_or p r 0 ≡ 2) → left_ranks G q ≡ passing d (adjacent G d)
      unfolding left_ranks
      left-first e two =
          passing-below G.size d (left_of_pivot G q) (omega arith) (λ r h b. rw (has_new, ne_eqb (get_or q r 0) 2 (two_or_after r h)))
          ∙ passing-same d (left_of_pivot G q) (adjacent G d) (λ r h. rw (has_new, eq-eqb (get_or q r 0) 2 (D.before r h ∙ two r h), pivot_new))
        where
          pivot_new : pivot G q ≡ d
          pivot_new = pivot-is G q d low (D.there ∙ e) (λ i l z. let a = two i l in let b = D.before i l in omega arith)

          has_new : has 1 q ≡ true
          has_new = let a = D.same_length in has-found 1 q d (omega arith) (D.there ∙ e)

          two_or_after : (r : ℕ) → d ≤ r → get_or q r 0 ≢ 2
          two_or_after r h z = last_or_below {n = r} {i = d} (omega arith) (λ s. let a = D.there in let b = ap (λ (k : ℕ). get_or q k 0) s in omega arith) (λ l. let a = D.then_open r l in omega arith)

  -- ---- two taken ranks that are not adjacent

  pair_stays : Pair G p → Pair G q
  pair_stays t =
      pair_in t
      (D.before t.lower (taken-before t.lower t.lower_taken) ∙ t.lower_taken)
      (D.before t.higher (taken-before t.higher t.higher_taken) ∙ t.higher_taken)

  -- of q they are both of p, or the higher is d
  pair_below : (t : Pair G q) → Pair G p ⊎ (t.higher ≡ d)
  pair_below t =
      let o = t.ordered in
      let e = t.higher_taken in
      ⊎_elim
      (λ l. inl (pair_in t (sym (D.before t.lower (omega arith)) ∙ t.lower_taken) (sym (D.before t.higher l) ∙ e)))
      (⊎_elim inr (λ l. let a = D.then_open t.higher l in absurd (omega arith)))
      (trichotomy t.higher d)

  -- a taken rank of p that is not adjacent to d
  abbrev Missed : Type 0
  Missed = (r : ℕ) × (r < d) × (get_or p r 0 ≡ 1) × (adjacent G r d ≡ false)

  abbrev missed : ℕ → Bool
  missed j = not (G.joined (get_or (taken_list G p) j 0) (vertex_at G d))

  some-apart : Test (any (length (taken_ranks G p)) missed) Missed
  unfolding adjacent
  some-apart =
      test_map (test_any (length (taken_ranks G p)) missed (λ j. test_fails {a = G.joined (get_or (taken_list G p) j 0) (vertex_at G d)}))
      (λ t.
      let a = taken_at G p t.0 t.1 in
      let r = get_or (taken_ranks G p) t.0 0 in
      (r, taken-before r a.1, a.1, ap (λ (v : ℕ). G.joined v (vertex_at G d)) (sym (vertex t.0 t.1)) ∙ t.2))
      (λ t.
      let h = t.1 in
      let a = taken-found G p t.0 (omega arith) t.2 in
      (a.0, a.1, ap (λ (v : ℕ). G.joined v (vertex_at G d)) (vertex a.0 a.1 ∙ ap (vertex_at G) a.2) ∙ t.3))
    where
      vertex : (j : ℕ) → j < length (taken_ranks G p) → get_or (taken_list G p) j 0 ≡ vertex_at G (get_or (taken_ranks G p) j 0)
      vertex j h = ap (λ (l : List ℕ). get_or l j 0) (taken_list_lem G p) ∙ map_at (vertex_at G) (taken_ranks G p) j h

  -- d taken: two of p, or one of p and d
  pub apart-taken : x ≡ 1 → apart G q ≡ (apart G p || any (length (taken_ranks G p)) (λ j. not (G.joined (get_or (taken_list G p) j 0) (vertex_at G d))))
  apart-taken e = same_test (apart_pairs G q) (test_map (test_or (apart_pairs G p) some-apart) there back)
    where
      there : Pair G p ⊎ Missed → Pair G q
      there (inl t) = pair_stays t
      there (inr t) =
          record {
            lower = t.0;
            higher = d;
            ordered = t.1;
            below = low;
            lower_taken = D.before t.0 t.1 ∙ t.2;
            higher_taken = D.there ∙ e;
            not-adjacent = t.3;
          }

      back : Pair G q → Pair G p ⊎ Missed
      back t =
          let o = t.ordered in
          ⊎_elim inl
          (λ s. inr (t.lower, omega arith, sym (D.before t.lower (omega arith)) ∙ t.lower_taken, ap (adjacent G t.lower) (sym s) ∙ t.not-adjacent))
          (pair_below t)

  -- d left: two of p
  pub apart-left : x ≡ 2 → apart G q ≡ apart G p
  apart-left e = same_test (apart_pairs G q) (test_map (apart_pairs G p) pair_stays back)
    where
      back : Pair G q → Pair G p
      back t =
          ⊎_elim (λ o. o)
          (λ s. let a = D.there in let b = t.higher_taken in let c = ap (λ (k : ℕ). get_or q k 0) s in absurd (omega arith))
          (pair_below t)
