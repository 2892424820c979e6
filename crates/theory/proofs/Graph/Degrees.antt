-- The isolation test of a clique from the number, the sum, the least and the largest of its members' degrees, and how these change with one
-- more member.
-- Assumes nothing.
use Prim.Native.Nat.{ℕ, zero, suc, ◌+◌, ◌-◌, ◌*◌, ◌≤◌, ◌<◌, min, max}
use mathlib.Core.Path.{◌≡◌, refl, sym, ap, ap₂, ◌∙◌, subst}
use mathlib.Core.Bool.{Bool, true, false, ◌&&◌, not, cond, false≢true, true≢false, and-true}
use mathlib.Core.Logic.{◌≢◌, ◌⊎◌, inl, inr, ⊎_elim}
use native.Mathlib.Nat.{not-suc-le-zero, lt-suc_self, le-suc, le_trans}
use native.Mathlib.Omega.{arith}
use lib.Dec.{eqb}
use borrow.Author.Tests.{eq-eqb, ne_eqb}
use Rattle.model.specs.Below.{bit, count, total}
use Rattle.model.specs.Graph.{Graph, degree}
use Rattle.model.specs.Groups.{Factor, VertexSet, within, size_of, outside, outgoing, isolated_avg, isolated, with_vertex}
use Rattle.model.specs.Meaning.{In, Clique, Loopless}
use Rattle.theory.specs.Search.{gather, degree_sum, least_degree, largest_degree, isolated_by, Tally}
pub use Rattle.theory.proofs.Basics.Tests.{test_agree}
use Rattle.theory.proofs.Basics.Tests.{last_or_below, trichotomy, lt_or_ge, count_same, count_le}
use Rattle.theory.proofs.Basics.Counting.{count_remove}
use Rattle.theory.proofs.Graph.Meaning.{isolated_test}
use Rattle.theory.proofs.Graph.Factor.{under_test, under_mono}
use Rattle.theory.proofs.Graph.Cliques.{outside-degree, same-vertex, other-vertex}

-- what is gathered goes by what stands below n
pub gather-same : (op : ℕ → ℕ → ℕ) (start n : ℕ) (S T : VertexSet) (f : ℕ → ℕ) → ((i : ℕ) → i < n → S i ≡ T i)
    → gather op start n S f ≡ gather op start n T f
unfolding gather
gather-same op start zero S T f e = refl
gather-same op start (suc n) S T f e =
    ap₂ (λ (b : Bool) (x : ℕ). cond b (op x (f n)) x) (e n (lt-suc_self n)) (gather-same op start n S T f (λ i h. e i (le_trans h (le-suc n))))

-- one more member is joined at the end, where the order of joining does not matter
pub gather-add : (op : ℕ → ℕ → ℕ) → ((x a b : ℕ) → op (op x a) b ≡ op (op x b) a)
    → (start n : ℕ) (S : VertexSet) (f : ℕ → ℕ) (v : ℕ) → v < n → S v ≡ false
    → gather op start n (with_vertex v S) f ≡ op (gather op start n S f) (f v)
unfolding gather
gather-add op swap start zero S f v h e = absurd (not-suc-le-zero h)
gather-add op swap start (suc n) S f v h e =
    last_or_below h
    (λ s. last s (S n) (ap S (sym s) ∙ e))
    (λ l. deeper (S n) (other-vertex v S n (λ s. omega arith)) (gather-add op swap start n S f v l e))
  where
    rest : ℕ
    rest = gather op start n S f

    more : ℕ
    more = gather op start n (with_vertex v S) f

    last : v ≡ n → (b : Bool) → b ≡ false → cond (with_vertex v S n) (op more (f n)) more ≡ op (cond b (op rest (f n)) rest) (f v)
    last s true d = absurd (true≢false d)
    last s false d =
        ap (λ (t : Bool). cond t (op more (f n)) more) (ap (λ (m : ℕ). with_vertex v S m) (sym s) ∙ same-vertex v S)
        ∙ ap₂ (λ (x m : ℕ). op x (f m)) (gather-same op start n (with_vertex v S) S f (λ i l. other-vertex v S i (λ t. omega arith))) (sym s)

    deeper : (b : Bool) → with_vertex v S n ≡ b → more ≡ op rest (f v)
        → cond (with_vertex v S n) (op more (f n)) more ≡ op (cond b (op rest (f n)) rest) (f v)
    deeper true d ih = ap (λ (t : Bool). cond t (op more (f n)) more) d ∙ ap (λ (x : ℕ). op x (f n)) ih ∙ swap rest (f v) (f n)
    deeper false d ih = ap (λ (t : Bool). cond t (op more (f n)) more) d ∙ ih

-- what is gathered is the start or f of some member, where op picks one of two
gather_choice : (op : ℕ → ℕ → ℕ) → ((x a : ℕ) → (op x a ≡ x) ⊎ (op x a ≡ a)) → (start n : ℕ) (S : VertexSet) (f : ℕ → ℕ)
    → (gather op start n S f ≡ start) ⊎ ((u : ℕ) × (u < n) × (S u ≡ true) × (f u ≡ gather op start n S f))
unfolding gather
gather_choice op pick start zero S f = inl refl
gather_choice op pick start (suc n) S f = go (S n) refl (gather_choice op pick start n S f)
  where
    rest : ℕ
    rest = gather op start n S f

    up : (x : ℕ) → x ≡ rest → (rest ≡ start) ⊎ ((u : ℕ) × (u < n) × (S u ≡ true) × (f u ≡ rest))
        → (x ≡ start) ⊎ ((u : ℕ) × (u < suc n) × (S u ≡ true) × (f u ≡ x))
    up x s (inl e) = inl (s ∙ e)
    up x s (inr r) = inr (r.0, le_trans r.1 (le-suc n), r.2, r.3 ∙ sym s)

    at : S n ≡ true → (op rest (f n) ≡ rest) ⊎ (op rest (f n) ≡ f n) → (rest ≡ start) ⊎ ((u : ℕ) × (u < n) × (S u ≡ true) × (f u ≡ rest))
        → (op rest (f n) ≡ start) ⊎ ((u : ℕ) × (u < suc n) × (S u ≡ true) × (f u ≡ op rest (f n)))
    at d (inl e) r = up (op rest (f n)) e r
    at d (inr e) r = inr (n, lt-suc_self n, d, sym e)

    go : (b : Bool) → S n ≡ b → (rest ≡ start) ⊎ ((u : ℕ) × (u < n) × (S u ≡ true) × (f u ≡ rest))
        → (cond b (op rest (f n)) rest ≡ start) ⊎ ((u : ℕ) × (u < suc n) × (S u ≡ true) × (f u ≡ cond b (op rest (f n)) rest))
    go true d r = at d (pick rest (f n)) r
    go false d r = up rest refl r

-- what is gathered bounds f of each member, where op bounds what it joins
gather_bounds : (R : ℕ → ℕ → Type 0) (op : ℕ → ℕ → ℕ) → ((x a : ℕ) → R (op x a) a) → ((x a b : ℕ) → R x b → R (op x a) b)
    → (start n : ℕ) (S : VertexSet) (f : ℕ → ℕ) (i : ℕ) → i < n → S i ≡ true → R (gather op start n S f) (f i)
unfolding gather
gather_bounds R op new old start zero S f i h e = absurd (not-suc-le-zero h)
gather_bounds R op new old start (suc n) S f i h e =
    last_or_below h
    (λ s. last s (S n) (ap S (sym s) ∙ e))
    (λ l. deeper (S n) (gather_bounds R op new old start n S f i l e))
  where
    rest : ℕ
    rest = gather op start n S f

    last : i ≡ n → (b : Bool) → b ≡ true → R (cond b (op rest (f n)) rest) (f i)
    last s true d = subst (λ (m : ℕ). R (op rest (f n)) (f m)) (sym s) (new rest (f n))
    last s false d = absurd (false≢true d)

    deeper : (b : Bool) → R rest (f i) → R (cond b (op rest (f n)) rest) (f i)
    deeper true r = old rest (f n) (f i) r
    deeper false r = r

-- where g is f and d for each member, the sum of g is that of f and d for each
pub gather_shift : (n d : ℕ) (S : VertexSet) (f g : ℕ → ℕ) → ((i : ℕ) → i < n → S i ≡ true → f i + d ≡ g i)
    → total n (λ i. cond (S i) (f i) 0) + count n S * d ≡ gather ◌+◌ 0 n S g
unfolding total count gather
gather_shift zero d S f g e = omega arith
gather_shift (suc n) d S f g e = go (S n) refl (gather_shift n d S f g (λ i h. e i (le_trans h (le-suc n))))
  where
    go : (b : Bool) → S n ≡ b → total n (λ i. cond (S i) (f i) 0) + count n S * d ≡ gather ◌+◌ 0 n S g
        → (cond b (f n) 0 + total n (λ i. cond (S i) (f i) 0)) + (bit b + count n S) * d ≡ cond b (gather ◌+◌ 0 n S g + g n) (gather ◌+◌ 0 n S g)
    go true s k = let a = e n (lt-suc_self n) s in omega arith
    go false s k = omega arith

-- two sets that agree on the vertices have the same degrees
module _ (G : Graph) (S T : VertexSet) (same : (v : ℕ) → v < G.size → S v ≡ T v) where
  pub size_same : size_of G S ≡ size_of G T
  unfolding size_of
  size_same = count_same G.size S T same

  pub sum_same : degree_sum G S ≡ degree_sum G T
  unfolding degree_sum
  sum_same = gather-same ◌+◌ 0 G.size S T (degree G) same

  pub least-same : least_degree G S ≡ least_degree G T
  unfolding least_degree
  least-same = gather-same min G.size G.size S T (degree G) same

  pub largest_same : largest_degree G S ≡ largest_degree G T
  unfolding largest_degree
  largest_same = gather-same max 0 G.size S T (degree G) same

-- with one more member
module _ (G : Graph) (S : VertexSet) (v : ℕ) (vertex : v < G.size) (new : S v ≡ false) where
  pub size-add : size_of G (with_vertex v S) ≡ size_of G S + 1
  unfolding size_of
  size-add =
      let r = count_remove G.size (with_vertex v S) v vertex (same-vertex v S) in
      let k = count_same G.size (λ i. with_vertex v S i && not (eqb i v)) S (λ i l. at i (trichotomy i v)) in
      omega arith
    where
      apart : (i : ℕ) → i ≢ v → (with_vertex v S i && not (eqb i v)) ≡ S i
      apart i d = rw (ne_eqb i v d) (and-true (S i))

      at : (i : ℕ) → (i < v) ⊎ (i ≡ v) ⊎ (v < i) → (with_vertex v S i && not (eqb i v)) ≡ S i
      at i (inl h) = apart i (λ s. omega arith)
      at i (inr (inl s)) = rw (eq-eqb i v s) (sym (ap S s ∙ new))
      at i (inr (inr h)) = apart i (λ s. omega arith)

  pub sum-add : degree_sum G (with_vertex v S) ≡ degree_sum G S + degree G v
  unfolding degree_sum
  sum-add = gather-add ◌+◌ (λ x a b. omega arith) 0 G.size S (degree G) v vertex new

  pub least-add : least_degree G (with_vertex v S) ≡ min (least_degree G S) (degree G v)
  unfolding least_degree
  least-add = gather-add min (λ x a b. omega arith) G.size G.size S (degree G) v vertex new

  pub largest_add : largest_degree G (with_vertex v S) ≡ max (largest_degree G S) (degree G v)
  unfolding largest_degree
  largest_add = gather-add max (λ x a b. omega arith) 0 G.size S (degree G) v vertex new

-- the smaller and the larger of two is one of them
min_picks : (x a : ℕ) → (min x a ≡ x) ⊎ (min x a ≡ a)
min_picks x a = ⊎_elim (λ h. inl (omega arith)) (λ h. inr (omega arith)) (lt_or_ge x a)

max_picks : (x a : ℕ) → (max x a ≡ x) ⊎ (max x a ≡ a)
max_picks x a = ⊎_elim (λ h. inr (omega arith)) (λ h. inl (omega arith)) (lt_or_ge x a)

-- a degree is at most the number of vertices
pub degree_le : (G : Graph) (u : ℕ) → degree G u ≤ G.size
unfolding degree
degree_le G u = count_le G.size (G.joined u)

-- and that of a vertex with a neighbour is at least 1
pub degree-some : (G : Graph) (u v : ℕ) → v < G.size → G.joined u v ≡ true → 1 ≤ degree G u
unfolding degree
degree-some G u v h e = let r = count_remove G.size (G.joined u) v h e in omega arith

-- the least and the largest bound each member's degree, and are some member's
module _ (G : Graph) (S : VertexSet) where
  pub least-bound : (u : ℕ) → In G S u → least_degree G S ≤ degree G u
  unfolding least_degree
  least-bound u h = gather_bounds (λ x y. x ≤ y) min (λ x a. omega arith) (λ x a b r. omega arith) G.size G.size S (degree G) u h.0 h.1

  pub largest_bound : (u : ℕ) → In G S u → degree G u ≤ largest_degree G S
  unfolding largest_degree
  largest_bound u h = gather_bounds (λ x y. y ≤ x) max (λ x a. omega arith) (λ x a b r. omega arith) 0 G.size S (degree G) u h.0 h.1

  pub least_member : (u : ℕ) → In G S u → (x : ℕ) × In G S x × (degree G x ≡ least_degree G S)
  unfolding least_degree
  least_member u h = go (gather_choice min min_picks G.size G.size S (degree G))
    where
      go : (least_degree G S ≡ G.size) ⊎ ((x : ℕ) × (x < G.size) × (S x ≡ true) × (degree G x ≡ least_degree G S)) → (x : ℕ) × In G S x × (degree G x ≡ least_degree G S)
      go (inl e) = let a = least-bound u h in let b = degree_le G u in (u, h, omega arith)
      go (inr r) = (r.0, (r.1, r.2), r.3)

  pub largest_member : (u : ℕ) → In G S u → (x : ℕ) × In G S x × (degree G x ≡ largest_degree G S)
  unfolding largest_degree
  largest_member u h = go (gather_choice max max_picks 0 G.size S (degree G))
    where
      go : (largest_degree G S ≡ 0) ⊎ ((x : ℕ) × (x < G.size) × (S x ≡ true) × (degree G x ≡ largest_degree G S)) → (x : ℕ) × In G S x × (degree G x ≡ largest_degree G S)
      go (inl e) = let a = largest_bound u h in (u, h, omega arith)
      go (inr r) = (r.0, (r.1, r.2), r.3)

-- the isolation test of a clique of k members
module _ (G : Graph) (loopless : Loopless G) (S : VertexSet) (C : Clique G S) where
  -- the outside counts sum to the degrees' sum less k × (k - 1)
  shifted : outgoing G S + size_of G S * (size_of G S - 1) ≡ degree_sum G S
  unfolding outgoing degree_sum size_of
  shifted = gather_shift G.size (count G.size S - 1) S (outside G S) (degree G) (λ i h e. outside-degree G loopless S C i (h, e))

  -- so that sum by the degrees
  pub outgoing-degrees : outgoing G S ≡ degree_sum G S - size_of G S * (size_of G S - 1)
  outgoing-degrees = let a = shifted in omega arith

  -- avg, by the sum of the degrees
  pub avg_degrees : (c : Factor) → isolated_avg G c S ≡ within c (size_of G S) (degree_sum G S - size_of G S * (size_of G S - 1))
  unfolding isolated_avg
  avg_degrees c = ap (λ (x : ℕ). within c (size_of G S) x) outgoing-degrees

  -- from the number, the sum, the least and the largest of the members' degrees
  pub isolated_by_lem : (notion : ℕ) (c : Factor)
      → isolated G notion c S ≡ isolated_by notion c (size_of G S) (degree_sum G S) (least_degree G S) (largest_degree G S)
  unfolding isolated isolated_by
  isolated_by_lem zero c =
      test_agree (isolated_test G zero c S) (under_test c 1 (least_degree G S - (size_of G S - 1)))
      (λ r.
      let a = outside-degree G loopless S C r.0 r.1 in
      let b = least-bound G S r.0 r.1 in
      under_mono c 1 (omega arith) r.2)
      (λ under.
      let x = least_member G S C.nonempty.0 C.nonempty.1 in
      let a = outside-degree G loopless S C x.0 x.1 in
      (x.0, x.1, under_mono c 1 (omega arith) under))
  isolated_by_lem (suc zero) c = avg_degrees c
  isolated_by_lem (suc (suc m)) c =
      test_agree (isolated_test G (suc (suc m)) c S) (under_test c 1 (largest_degree G S - (size_of G S - 1)))
      (λ f.
      let x = largest_member G S C.nonempty.0 C.nonempty.1 in
      let a = outside-degree G loopless S C x.0 x.1 in
      let e = x.2 in
      under_mono c 1 (omega arith) (f x.0 x.1))
      (λ under u h.
      let a = outside-degree G loopless S C u h in
      let b = largest_bound G S u h in
      under_mono c 1 (omega arith) under)

-- numbers that code keeps beside the set
pub isolated-tally : (G : Graph) → Loopless G
    → (S : VertexSet) → Clique G S → (notion : ℕ) (c : Factor) (k sum least largest : ℕ) → Tally G S k sum least largest
    → isolated G notion c S ≡ isolated_by notion c k sum least largest
isolated-tally G loopless S C notion c k sum least largest t = rw (t.members, t.summed, t.lowest, t.highest) (isolated_by_lem G loopless S C notion c)

-- one more member
pub tally-add : (G : Graph) (S : VertexSet) (v : ℕ) → v < G.size → S v ≡ false
    → (k sum least largest : ℕ) → Tally G S k sum least largest
    → Tally G (with_vertex v S) (k + 1) (sum + degree G v) (min least (degree G v)) (max largest (degree G v))
tally-add G S v h new k sum least largest t =
    record {
      members = rw t.members (sym (size-add G S v h new));
      summed = rw t.summed (sym (sum-add G S v h new));
      lowest = rw t.lowest (sym (least-add G S v h new));
      highest = rw t.highest (sym (largest_add G S v h new));
    }
