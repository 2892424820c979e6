-- What is taken of a position: the taken ranks and their vertices, the sum of the degrees, the pivot, its left neighbours, and two taken ranks that
-- are not adjacent.
-- Assumes nothing.
use Prim.Native.Nat.{ℕ, ◌+◌, ◌*◌, ◌≤◌, ◌<◌, zero-le}
use mathlib.Core.Path.{◌≡◌, refl, ap, ◌∙◌}
use mathlib.Core.Bool.{true, false}
use mathlib.Core.List.{List, [], ◌∷◌, ◌++◌, map}
use mathlib.Core.Logic.{◌≢◌}
use native.Mathlib.Nat.{mul-suc}
use native.Mathlib.Omega.{arith}
use lib.ListN.{length, get_or, length-map}
use borrow.Author.Tests.{eqb-true, eq-eqb, ne_eqb}
use Rattle.model.specs.Graph.{Graph, degree, vertex_at}
use Rattle.model.specs.Walk.{Position, has}
use Rattle.model.specs.Listing.{is, adjacent, pivot, apart, taken_list}
use Rattle.theory.proofs.Basics.Tests.{Test, test_map, fails}
use Rattle.theory.proofs.Basics.Passing.{passing-none}
use Rattle.theory.proofs.Basics.PassingParts.{passing-below, passing_at, passing-found, passing-first, least_of}
use Rattle.theory.proofs.Walk.Moves.{has-found, has-none}
use Rattle.theory.proofs.Walk.Lawful.{apart_test}
use Rattle.state.specs.State.{taken_ranks, left_of_pivot, left_ranks, degrees_of}

-- ---- sums of degrees

module _ (G : Graph) where
  pub degrees-none : degrees_of G [] ≡ 0
  unfolding degrees_of
  degrees-none = refl

  pub degrees-more : (l : List ℕ) (v : ℕ) → degrees_of G (l ++ (v ∷ [])) ≡ degrees_of G l + degree G v
  unfolding degrees_of
  degrees-more [] v = omega arith
  degrees-more (x ∷ l) v = let e = degrees-more l v in omega arith

  -- each is at most b
  pub degrees-bound : (b : ℕ) → ((v : ℕ) → degree G v ≤ b) → (l : List ℕ) → degrees_of G l ≤ b * length l
  unfolding degrees_of
  degrees-bound b f [] = zero-le
  degrees-bound b f (v ∷ l) = let h = f v in let k = degrees-bound b f l in omega (arith, mul-suc b (length l))

-- ---- what is taken, by the ranks of a position

module _ (G : Graph) (p : Position) where
  pub taken_list_lem : taken_list G p ≡ map (vertex_at G) (taken_ranks G p)
  unfolding taken_list taken_ranks
  taken_list_lem = refl

  pub taken-length : length (taken_list G p) ≡ length (taken_ranks G p)
  taken-length = ap length taken_list_lem ∙ length-map (taken_ranks G p) (vertex_at G)

  -- an entry of the taken ranks is a taken rank
  pub taken_at : (j : ℕ) → j < length (taken_ranks G p) → (get_or (taken_ranks G p) j 0 < G.size) × (get_or p (get_or (taken_ranks G p) j 0) 0 ≡ 1)
  unfolding taken_ranks
  taken_at j h = let t = passing_at G.size (is 1 p) j h in (t.0, eqb-true (get_or p (get_or (taken_ranks G p) j 0) 0) 1 t.1)

  pub taken-found : (r : ℕ) → r < G.size → get_or p r 0 ≡ 1 → (j : ℕ) × (j < length (taken_ranks G p)) × (get_or (taken_ranks G p) j 0 ≡ r)
  unfolding taken_ranks
  taken-found r h e = passing-found G.size (is 1 p) r h (eq-eqb (get_or p r 0) 1 e)

  -- something is taken where the taken ranks are some, and nothing where they are none
  pub taken-has : length p ≡ G.size → 0 < length (taken_ranks G p) → has 1 p ≡ true
  taken-has long h = let t = taken_at 0 h in let l = t.0 in has-found 1 p (get_or (taken_ranks G p) 0 0) (omega arith) t.1

  pub untaken_at : length (taken_ranks G p) ≡ 0 → (r : ℕ) → r < G.size → get_or p r 0 ≢ 1
  untaken_at e r h q = let t = taken-found r h q in let l = t.1 in omega arith

  pub untaken_has : length p ≡ G.size → length (taken_ranks G p) ≡ 0 → has 1 p ≡ false
  untaken_has long e = has-none 1 p (λ r h. untaken_at e r (omega arith))

  -- the first of them is the pivot
  pub pivot-first : 0 < length (taken_ranks G p) → (pivot G p < G.size) × (get_or p (pivot G p) 0 ≡ 1) × (get_or (taken_ranks G p) 0 0 ≡ pivot G p)
  unfolding taken_ranks pivot
  pivot-first h = let t = passing-first G.size (is 1 p) h in (t.0, eqb-true (get_or p (pivot G p) 0) 1 t.1, t.2)

  -- the pivot is the lowest taken rank
  pub pivot-is : (r : ℕ) → r < G.size → get_or p r 0 ≡ 1 → ((i : ℕ) → i < r → get_or p i 0 ≢ 1) → pivot G p ≡ r
  unfolding pivot
  pivot-is r h e f = least_of G.size (is 1 p) r h (eq-eqb (get_or p r 0) 1 e) (λ i l. ne_eqb (get_or p i 0) 1 (f i l))

  -- nothing taken: no left neighbours
  pub left-none : length p ≡ G.size → length (taken_ranks G p) ≡ 0 → left_ranks G p ≡ []
  unfolding left_ranks
  left-none long none =
      passing-below G.size 0 (left_of_pivot G p) zero-le (λ r a b. rw (untaken_has long none)) ∙ passing-none (left_of_pivot G p)

  -- ---- two taken ranks, the lower first, that are not adjacent

  pub record Pair : Type 0 where
    pub lower : ℕ
    pub higher : ℕ
    pub ordered : lower < higher
    pub below : higher < G.size
    pub lower_taken : get_or p lower 0 ≡ 1
    pub higher_taken : get_or p higher 0 ≡ 1
    pub not-adjacent : adjacent G lower higher ≡ false

  pub apart_pairs : Test (apart G p) Pair
  apart_pairs =
      test_map (apart_test G p)
      (λ t.
      let u = t.2.2 in
      record {
        lower = t.0;
        higher = t.2.0;
        ordered = u.0.0.0;
        below = t.2.1;
        lower_taken = eqb-true (get_or p t.0 0) 1 u.0.0.1;
        higher_taken = eqb-true (get_or p t.2.0 0) 1 u.0.1;
        not-adjacent = u.1;
      })
      (λ t.
      let a = t.ordered in
      let b = t.below in
      (t.lower, omega arith, (t.higher, b, (((a, eq-eqb (get_or p t.lower 0) 1 t.lower_taken), eq-eqb (get_or p t.higher 0) 1 t.higher_taken), t.not-adjacent))))

  pub apart_none : length (taken_ranks G p) ≡ 0 → apart G p ≡ false
  apart_none none = fails (apart G p) (λ e. let t = apart_pairs.0 e in untaken_at none t.higher t.below t.higher_taken)

-- the same two ranks of another position that has them taken too
pub pair_in : {G : Graph} {p q : Position} (t : Pair G p) → get_or q t.lower 0 ≡ 1 → get_or q t.higher 0 ≡ 1 → Pair G q
pair_in t a b =
    record {
      lower = t.lower;
      higher = t.higher;
      ordered = t.ordered;
      below = t.below;
      lower_taken = a;
      higher_taken = b;
      not-adjacent = t.not-adjacent;
    }
