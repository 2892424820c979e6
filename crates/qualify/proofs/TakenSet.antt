-- Whether the taken set of a position with all ranks decided qualifies, from what the state of the walk keeps: the taken vertices, their degrees and the
-- left neighbours of the pivot.
-- Assumes nothing.
use Prim.Native.Nat.{ℕ, zero, suc, ◌-◌, ◌*◌, ◌≤◌, ◌<◌}
use mathlib.Core.Path.{◌≡◌, refl, sym, ap, ap₂, ◌∙◌, subst}
use mathlib.Core.Bool.{Bool, true, false, ◌&&◌, not, cond, true≢false, false≢true}
use mathlib.Core.List.{List, [], ◌∷◌, map}
use mathlib.Core.Logic.{◌≢◌, ◌⊎◌, inl, inr, ⊎_elim}
use native.Mathlib.Nat.{not-suc-le-zero}
use native.Mathlib.Numerals.{add-one}
use native.Mathlib.Omega.{arith}
use lib.ListN.{length, get_or, take, length-map}
use lib.Seq.{take-suc, take-length}
use borrow.Author.Tests.{eqb-false, eq-eqb}
use Rattle.model.specs.Graph.{Graph, degree, rank_of, vertex_at}
use Rattle.model.specs.Groups.{Settings, VertexSet}
use Rattle.model.specs.Meaning.{In, Clique, Loopless, Symmetric}
use Rattle.model.specs.Walk.{Position, has, found, due}
use Rattle.model.specs.Listing.{is, adjacent, pivot, apart, taken_set, taken_list, record_with, record_of, rules}
use Rattle.theory.specs.Search.{common, Tally, degree_sum, least_degree, largest_degree, isolated_by, joined_all, Listed, among, Members, Candidates, beaten}
use Rattle.theory.proofs.Basics.Tests.{test_and, test_self, fails, passes_or_fails, trichotomy}
use Rattle.theory.proofs.Graph.Ranks.{rank_below, rank-once, rank-degree, vertex_at_lem, vertex_of}
use Rattle.theory.proofs.Graph.Degrees.{least-bound, largest_bound, least_member, largest_member, outgoing-degrees}
use Rattle.theory.proofs.Graph.Cliques.{common_test}
use Rattle.theory.proofs.Basics.Passing.{passing-listed, passing-has, taken-members, taken_ranks_rise, map_at}
use Rattle.theory.proofs.Walk.Moves.{has-found, has-none}
use Rattle.theory.proofs.Search.Members.{tally-none, tally-next, tally-all, counted, common-list}
use Rattle.theory.proofs.Walk.Lawful.{apart_test}
use Rattle.theory.proofs.Walk.Listing.{found_qualifies}
use Rattle.theory.proofs.Search.Maximal.{qualifies-tally}
use Rattle.state.specs.State.{taken_ranks, left_ranks, degrees_of}
use Rattle.qualify.specs.Qualify.{joined_of, candidates_of}
use Rattle.state.proofs.Taken.{degrees-none, degrees-more, taken-length, taken-has, pivot-first}

-- ---- lists

-- what stands first in a list, or after it
listed_cons : (w v : ℕ) (vs : List ℕ) → (w ≡ v) ⊎ Listed w vs → Listed w (v ∷ vs)
listed_cons w v vs (inl e) = (0, omega arith, sym e)
listed_cons w v vs (inr (i, h, e)) = (suc i, omega arith, e)

cons-listed : (w v : ℕ) (vs : List ℕ) → Listed w (v ∷ vs) → (w ≡ v) ⊎ Listed w vs
cons-listed w v vs (zero, h, e) = inl (sym e)
cons-listed w v vs (suc i, h, e) = inr (i, omega arith, e)

-- and where the first is there only if it passes a test
picked : (b : Bool) (w v : ℕ) (vs : List ℕ) → Listed w (cond b (v ∷ vs) vs) → ((w ≡ v) × (b ≡ true)) ⊎ Listed w vs
picked true w v vs m = ⊎_elim (λ e. inl (e, refl)) inr (cons-listed w v vs m)
picked false w v vs m = inr m

pick : (b : Bool) (w v : ℕ) (vs : List ℕ) → ((w ≡ v) × (b ≡ true)) ⊎ Listed w vs → Listed w (cond b (v ∷ vs) vs)
pick true w v vs m = listed_cons w v vs (⊎_elim (λ t. inl t.0) inr m)
pick false w v vs (inl t) = absurd (false≢true t.1)
pick false w v vs (inr m) = m

-- those that are joined to all stand in the list, and are joined to all; and all such are there
module _ (G : Graph) (us : List ℕ) where
  joined_of-sound : (vs : List ℕ) (w : ℕ) → Listed w (joined_of G us vs) → Listed w vs × (joined_all G w us ≡ true)
  unfolding joined_of
  joined_of-sound [] w m = absurd (not-suc-le-zero m.1)
  joined_of-sound (v ∷ vs) w m =
      ⊎_elim
      (λ t. (listed_cons w v vs (inl t.0), ap (λ (x : ℕ). joined_all G x us) t.0 ∙ t.1))
      (λ r. let t = joined_of-sound vs w r in (listed_cons w v vs (inr t.0), t.1))
      (picked (joined_all G v us) w v (joined_of G us vs) m)

  joined_of-complete : (vs : List ℕ) (w : ℕ) → Listed w vs → joined_all G w us ≡ true → Listed w (joined_of G us vs)
  unfolding joined_of
  joined_of-complete [] w m e = absurd (not-suc-le-zero m.1)
  joined_of-complete (v ∷ vs) w m e =
      pick (joined_all G v us) w v (joined_of G us vs)
      (⊎_elim (λ t. inl (t, sym (ap (λ (x : ℕ). joined_all G x us) t) ∙ e)) (λ r. inr (joined_of-complete vs w r e)) (cons-listed w v vs m))

-- ---- the taken vertices

module _ (G : Graph) (p : Position) where
  abbrev S : VertexSet
  S = taken_set G p

  abbrev us : List ℕ
  us = taken_list G p

  M : Members G S us
  M = taken-members G p

  -- a vertex later in the list has no smaller degree
  degrees_rise : (i j : ℕ) → i ≤ j → j < length us → degree G (get_or us i 0) ≤ degree G (get_or us j 0)
  degrees_rise i j h l =
      rank-degree G (get_or us i 0) (get_or us j 0) (M.sound j l).0 (at (trichotomy i j))
    where
      at : (i < j) ⊎ (i ≡ j) ⊎ (j < i) → rank_of G (get_or us i 0) ≤ rank_of G (get_or us j 0)
      at (inl k) = let r = taken_ranks_rise G p i j k l in omega arith
      at (inr (inl e)) = let s = ap (λ (k : ℕ). rank_of G (get_or us k 0)) e in omega arith
      at (inr (inr k)) = absurd (omega arith)

  module _ (some : 0 < length us) where
    -- the pivot, the first, has the least degree, and the last the largest
    first-least : degree G (get_or us 0 0) ≡ least_degree G S
    first-least =
        let first = M.sound 0 some in
        let x = least_member G S (get_or us 0 0) first in
        let m = M.complete x.0 x.1 in
        let a = least-bound G S (get_or us 0 0) first in
        let b = degrees_rise 0 m.0 (omega arith) m.1 in
        let c = ap (degree G) m.2 in
        let d = x.2 in
        omega arith

    last_largest : degree G (get_or us (length us - 1) 0) ≡ largest_degree G S
    last_largest =
        let last = M.sound (length us - 1) (omega arith) in
        let x = largest_member G S (get_or us (length us - 1) 0) last in
        let m = M.complete x.0 x.1 in
        let l = m.1 in
        let a = largest_bound G S (get_or us (length us - 1) 0) last in
        let b = degrees_rise m.0 (length us - 1) (omega arith) (omega arith) in
        let c = ap (degree G) m.2 in
        let d = x.2 in
        omega arith

    -- the sum of the degrees of the first i members
    sums : (i : ℕ) → i ≤ length us → degrees_of G (take i us) ≡ degree_sum G (among (take i us))
    sums zero h = degrees-none G ∙ (tally-none G).summed
    sums (suc i) h =
        let c = (counted G S us M i (omega arith)).3 in
        let t = tally-next G S us M i (omega arith) i (degrees_of G (take i us)) _ _ (record { members = c.members; summed = sums i (omega arith); lowest = refl; highest = refl }) in
        ap (degrees_of G) (take-suc us i 0 (omega arith))
        ∙ degrees-more G (take i us) (get_or us i 0)
        ∙ t.summed
        ∙ ap (λ (k : ℕ). degree_sum G (among (take k us))) (add-one i)

    -- the numbers of the taken set
    pub taken-tally : Tally G S (length us) (degrees_of G us) (degree G (get_or us 0 0)) (degree G (get_or us (length us - 1) 0))
    taken-tally =
        let c = (counted G S us M (length us) (omega arith)).3 in
        let t = tally-all G S us M _ _ _ _ (record { members = c.members; summed = sums (length us) (omega arith); lowest = refl; highest = refl }) in
        record { members = t.members; summed = ap (degrees_of G) (sym (take-length us)) ∙ t.summed; lowest = first-least; highest = last_largest }

    -- where no two taken ranks are not adjacent, the taken set is a clique
    module _ (symmetric : Symmetric G) where
      pub taken-clique : apart G p ≡ false → Clique G S
      unfolding taken_set adjacent
      taken-clique e = record { nonempty = (get_or us 0 0, M.sound 0 some); pairwise = λ u v hu hv d. at u v hu hv d (trichotomy (rank_of G u) (rank_of G v)) }
        where
          met : (u v : ℕ) → In G S u → In G S v → rank_of G u < rank_of G v → G.joined u v ≡ true
          met u v hu hv l =
              ⊎_elim
              (λ j. sym (ap₂ G.joined (vertex_of G u hu.0) (vertex_of G v hv.0)) ∙ j)
              (λ j.
              let far = (apart_test G p).1 (rank_of G u, rank_below G u hu.0, (rank_of G v, rank_below G v hv.0, (((l, hu.1), hv.1), j))) in
              absurd (true≢false (sym far ∙ e)))
              (passes_or_fails (adjacent G (rank_of G u) (rank_of G v)))

          at : (u v : ℕ) → In G S u → In G S v → u ≢ v → (rank_of G u < rank_of G v) ⊎ (rank_of G u ≡ rank_of G v) ⊎ (rank_of G v < rank_of G u) → G.joined u v ≡ true
          at u v hu hv d (inl l) = met u v hu hv l
          at u v hu hv d (inr (inl s)) = absurd (d (rank-once G u v hu.0 hv.0 s))
          at u v hu hv d (inr (inr l)) = symmetric u v hu.0 hv.0 ∙ met v u hv hu l

  -- where two are not, it is none
  pub apart_no_clique : apart G p ≡ true → Clique G S → ⊥
  unfolding adjacent taken_set
  apart_no_clique e C =
      let t = (apart_test G p).0 e in
      let f = t.2.2 in
      let a = vertex_at_lem G t.0 t.1 in
      let b = vertex_at_lem G t.2.0 t.2.1 in
      true≢false
      (sym
      (C.pairwise (vertex_at G t.0) (vertex_at G t.2.0)
      (a.0, ap (is 1 p) a.1 ∙ f.0.0.1)
      (b.0, ap (is 1 p) b.1 ∙ f.0.1)
      (λ z. let s = sym a.1 ∙ ap (rank_of G) z ∙ b.1 in let l = f.0.0.0 in omega arith))
      ∙ f.1)

  -- a taken set that qualifies is a clique, so it has a member and no two taken ranks that are not adjacent
  module _ (s : Settings) where
    found-clique : found (rules G s) p ≡ true → Clique G S
    found-clique f = (found_qualifies G s p f).isolated_clique_lem.clique

    pub found-apart : apart G p ≡ true → found (rules G s) p ≡ false
    found-apart e = fails (found (rules G s) p) (λ f. apart_no_clique e (found-clique f))

    pub found_untaken : length us ≡ 0 → found (rules G s) p ≡ false
    found_untaken e = fails (found (rules G s) p) (λ f. let c = (found-clique f).nonempty in let m = (M.complete c.0 c.1).1 in omega arith)

    -- nothing is found while a rank is open
    pub found_open : (r : ℕ) → r < length p → get_or p r 0 ≡ 0 → found (rules G s) p ≡ false
    unfolding found
    found_open r h e = rw (has-found 0 p r h e)

  -- ---- the common neighbours of the taken set

  module _ (long : length p ≡ G.size) (bytes : (r : ℕ) → get_or p r 0 ≤ 2) (all_decided_lem : (r : ℕ) → r < G.size → get_or p r 0 ≢ 0) (some : 0 < length us) where
    some-ranks : 0 < length (taken_ranks G p)
    some-ranks = let l = taken-length G p in omega arith

    -- the pivot is the first taken rank
    pivot_in : In G S (vertex_at G (pivot G p))
    unfolding taken_set
    pivot_in =
        let f = pivot-first G p some-ranks in
        let a = vertex_at_lem G (pivot G p) f.0 in
        (a.0, ap (is 1 p) a.1 ∙ eq-eqb (get_or p (pivot G p) 0) 1 f.1)

    -- a common neighbour is joined to the pivot and not taken, so it is left
    left_of : Symmetric G → (v : ℕ) → v < G.size → common G S v ≡ true → Listed v (map (vertex_at G) (left_ranks G p))
    unfolding left_ranks adjacent taken_set
    left_of symmetric v h e =
        let c = (common_test G S v h).0 e in
        let l = rank_below G v h in
        let m = passing-has (λ r. has 1 p && is 2 p r && adjacent G (pivot G p) r) G.size (rank_of G v) l
        ((test_and {a = has 1 p && is 2 p (rank_of G v)} (test_and {a = has 1 p} test_self test_self) test_self).1 (
          (taken-has G p long some-ranks, eq-eqb (get_or p (rank_of G v) 0) 2 (left-rank c.beyond)),
          ap (G.joined (vertex_at G (pivot G p))) (vertex_of G v h) ∙ symmetric (vertex_at G (pivot G p)) v pivot_in.0 h ∙ c.joins (vertex_at G (pivot G p)) pivot_in,
        )) in (
          m.0,
          let k = length-map (left_ranks G p) (vertex_at G) in let j = m.1 in omega arith,
          map_at (vertex_at G) (left_ranks G p) m.0 m.1 ∙ ap (vertex_at G) m.2 ∙ vertex_of G v h,
        )
      where
        left-rank : is 1 p (rank_of G v) ≡ false → get_or p (rank_of G v) 0 ≡ 2
        left-rank f =
            let b = bytes (rank_of G v) in
            let d = all_decided_lem (rank_of G v) (rank_below G v h) in
            let e = eqb-false (get_or p (rank_of G v) 0) 1 f in
            omega (arith, d, e)

    left-vertex : (v : ℕ) → Listed v (map (vertex_at G) (left_ranks G p)) → v < G.size
    unfolding left_ranks
    left-vertex v m =
        let k = length-map (left_ranks G p) (vertex_at G) in
        let h = m.1 in
        let r = passing-listed (λ r. has 1 p && is 2 p r && adjacent G (pivot G p) r) G.size (get_or (left_ranks G p) m.0 0) (m.0, omega arith, refl) in
        subst (λ (x : ℕ). x < G.size) (sym (map_at (vertex_at G) (left_ranks G p) m.0 (omega arith)) ∙ m.2) (vertex_at_lem G (get_or (left_ranks G p) m.0 0) r.0).0

    -- so the left neighbours of the pivot that are joined to each taken vertex are the common neighbours
    pub taken-candidates : Loopless G → Symmetric G → Candidates G S (candidates_of G p)
    unfolding candidates_of
    taken-candidates loopless symmetric =
        record {
          sound = λ i h.
              let m = joined_of-sound G us (map (vertex_at G) (left_ranks G p)) (get_or (candidates_of G p) i 0) (i, h, refl) in
              let l = left-vertex (get_or (candidates_of G p) i 0) m.0 in
              (l, common-list G S us M loopless (get_or (candidates_of G p) i 0) l ∙ m.1);
          complete = λ v h e.
              joined_of-complete G us (map (vertex_at G) (left_ranks G p)) v (left_of symmetric v h e) (sym (common-list G S us M loopless v h) ∙ e);
        }

    -- Whether a group is found at a position with all ranks decided, something taken and no two taken ranks apart.
    pub found_by : Loopless G → Symmetric G → (s : Settings) → apart G p ≡ false
        → found (rules G s) p
        ≡ (isolated_by s.notion s.factor (length us) (degrees_of G us) (degree G (get_or us 0 0)) (degree G (get_or us (length us - 1) 0))
        && not (beaten G s.kind s.notion s.factor (length us) (degrees_of G us) (degree G (get_or us 0 0)) (degree G (get_or us (length us - 1) 0)) (candidates_of G p)))
    unfolding found
    found_by loopless symmetric s e =
        rw (has-none 0 p (λ r h. all_decided_lem r (omega arith)))
        (qualifies-tally G loopless symmetric S (taken-clique some symmetric e) (candidates_of G p) (taken-candidates loopless symmetric)
        (length us) (degrees_of G us) (degree G (get_or us 0 0)) (degree G (get_or us (length us - 1) 0)) (taken-tally some) s)

-- ---- the entries of a group

module _ (G : Graph) (s : Settings) (p : Position) where
  -- where a group is found its record is due, with the outgoing edges as its members' degrees tell them
  pub due-found : Loopless G → found (rules G s) p ≡ true
      → due (rules G s) p
      ≡ record_with (degrees_of G (taken_list G p) - length (taken_list G p) * (length (taken_list G p) - 1)) (taken_list G p)
  unfolding due record_of
  due-found loopless e =
      rw e (ap (λ (k : ℕ). record_with k (taken_list G p)) (outgoing-degrees G loopless (taken_set G p) C ∙ ap₂ (λ (d k : ℕ). d - k * (k - 1)) (sym t.summed) (sym t.members)))
    where
      C : Clique G (taken_set G p)
      C = found-clique G p s e

      some : 0 < length (taken_list G p)
      some = let m = (taken-members G p).complete C.nonempty.0 C.nonempty.1 in let l = m.1 in omega arith

      t : Tally G (taken_set G p) (length (taken_list G p)) (degrees_of G (taken_list G p)) (degree G (get_or (taken_list G p) 0 0)) (degree G (get_or (taken_list G p) (length (taken_list G p) - 1) 0))
      t = taken-tally G p some

  pub due-none : found (rules G s) p ≡ false → due (rules G s) p ≡ []
  unfolding due
  due-none e = rw e
