-- A hopeless branch of the search finds nothing, by any bounds on the number and the degrees of a larger isolated clique's further members; and the bound on
-- their number by the candidates still in.
-- Assumes nothing.
use Prim.Native.Nat.{ℕ, zero, suc, ◌+◌, ◌-◌, ◌*◌, ◌≤◌, ◌<◌, max}
use mathlib.Core.Path.{◌≡◌, refl, sym, ap, ◌∙◌, subst}
use mathlib.Core.Bool.{Bool, true, false, cond, false≢true, true≢false}
use mathlib.Core.List.{List}
use mathlib.Core.Logic.{◌⊎◌, inl, inr, ⊎_elim}
use native.Mathlib.Nat.{eq-or-lt_of_le, lt-suc_self, le-suc, le_trans, mul-le-mul_left}
use native.Mathlib.Omega.{arith}
use lib.ListN.{length, get_or}
use Rattle.model.specs.Below.{bit, count}
use Rattle.model.specs.Graph.{Graph, degree}
use Rattle.model.specs.Groups.{Factor, VertexSet, size_of, with_vertex}
use Rattle.model.specs.Meaning.{In, Clique, Larger, Loopless, Symmetric, Under}
use Rattle.theory.specs.Search.{gather, degree_sum, least_degree, largest_degree, Tally, isolated_by, find_larger, Listed}
use Rattle.theory.specs.Bound.{further_degree, isolated_grown, hopeless}
use Rattle.theory.specs.Marks.{Marks, still_in, count_in}
use Rattle.theory.proofs.Basics.Tests.{test_or, test_and, test_not, test_self, test_eq, trichotomy, lt_or_ge, fails, passes_or_fails}
use Rattle.theory.proofs.Basics.Counting.{count-sub, count_less}
use Rattle.theory.proofs.Graph.Meaning.{isolated_test}
use Rattle.theory.proofs.Graph.Factor.{under_test, under_mono, under_wider}
use Rattle.theory.proofs.Search.Bound.{under_ends}
use Rattle.theory.proofs.Graph.Cliques.{with_test, other-vertex, outside-degree}
use Rattle.theory.proofs.Graph.Degrees.{size_same, size-add, largest_bound, largest_member, isolated_by_lem}
use Rattle.theory.proofs.Search.Candidates.{Ready}
use Rattle.theory.proofs.Search.Search.{Beyond, Finds, finds}

-- a set with one more vertex has at most one more member
size_with : (G : Graph) (T : VertexSet) (v : ℕ) → size_of G (with_vertex v T) ≤ size_of G T + 1
size_with G T v = go (trichotomy v G.size) (passes_or_fails (T v))
  where
    past : (G.size ≤ v) → size_of G (with_vertex v T) ≤ size_of G T + 1
    past h = let e = size_same G (with_vertex v T) T (λ w l. other-vertex v T w (λ s. omega arith)) in omega arith

    inside : v < G.size → (T v ≡ true) ⊎ (T v ≡ false) → size_of G (with_vertex v T) ≤ size_of G T + 1
    inside h (inl m) = let e = size_same G (with_vertex v T) T (λ w l. at w (T w) refl) in omega arith
      where
        at : (w : ℕ) (b : Bool) → T w ≡ b → with_vertex v T w ≡ b
        at w true s = (with_test v T w).1 (inr s)
        at w false s = other-vertex v T w (λ d. true≢false (sym m ∙ ap T (sym d) ∙ s)) ∙ s
    inside h (inr m) = let e = size-add G T v h m in omega arith

    go : (v < G.size) ⊎ (v ≡ G.size) ⊎ (G.size < v) → (T v ≡ true) ⊎ (T v ≡ false) → size_of G (with_vertex v T) ≤ size_of G T + 1
    go (inl h) m = inside h m
    go (inr (inl e)) m = past (omega arith)
    go (inr (inr h)) m = past (omega arith)

-- w is one of the r candidates from place j on, and still in
abbrev pub CandidateIn : (ℕ → ℕ) → Marks → ℕ → ℕ → ℕ → Type 0
CandidateIn candidate marks j r w = (e : ℕ) × (j ≤ e) × (e < j + r) × (candidate e ≡ w) × (still_in marks e ≡ true)

-- a set whose members are in T or are candidates still in has no more members than both
pub counted-size : (G : Graph) (L : VertexSet) (candidate : ℕ → ℕ) (marks : Marks) (j r : ℕ) (T : VertexSet)
    → ((w : ℕ) → In G L w → (T w ≡ true) ⊎ CandidateIn candidate marks j r w) → size_of G L ≤ size_of G T + count_in marks j r
unfolding size_of count_in
counted-size G L candidate marks j zero T f =
    let k = count-sub G.size L T (λ w h e. ⊎_elim (λ s. s) (λ m. let a = m.1 in let b = m.2 in absurd (omega arith)) (f w (h, e))) in
    omega arith
counted-size G L candidate marks j (suc r) T f = go (still_in marks j) refl (counted-size G L candidate marks (suc j) r)
  where
    after : (U : VertexSet) (w : ℕ) → (still_in marks j ≡ true → candidate j ≡ w → U w ≡ true) → CandidateIn candidate marks j (suc r) w
        → (U w ≡ true) ⊎ CandidateIn candidate marks (suc j) r w
    after U w first (e, a, b, s, t) =
        ⊎_elim (λ z. inl (first (ap (still_in marks) z ∙ t) (ap candidate z ∙ s))) (λ l. inr (e, l, omega arith, s, t)) (eq-or-lt_of_le a)

    go : (b : Bool) → still_in marks j ≡ b
        → ((U : VertexSet) → ((w : ℕ) → In G L w → (U w ≡ true) ⊎ CandidateIn candidate marks (suc j) r w) → size_of G L ≤ size_of G U + count_in marks (suc j) r)
        → size_of G L ≤ size_of G T + (bit b + count_in marks (suc j) r)
    go true q ih =
        let more = with_vertex (candidate j) T in
        let member = with_test (candidate j) T in
        let k = ih more (λ w h. ⊎_elim (λ s. inl ((member w).1 (inr s))) (after more w (λ t s. (member w).1 (inl (sym s)))) (f w h)) in
        let m = size_with G T (candidate j) in
        omega arith
    go false q ih =
        let k = ih T (λ w h. ⊎_elim inl (after T w (λ t s. absurd (true≢false (sym t ∙ q)))) (f w h)) in
        omega arith

-- where each further member adds low or more, the sum over more members is larger by low for each
gather-further : (n low : ℕ) (T L : VertexSet) (f : ℕ → ℕ) → ((i : ℕ) → i < n → T i ≡ true → L i ≡ true)
    → ((i : ℕ) → i < n → L i ≡ true → T i ≡ false → low ≤ f i)
    → gather ◌+◌ 0 n T f + count n L * low ≤ gather ◌+◌ 0 n L f + count n T * low
unfolding gather count
gather-further zero low T L f h g = omega arith
gather-further (suc n) low T L f h g =
    go (T n) (L n) (h n (lt-suc_self n)) (g n (lt-suc_self n))
    (gather-further n low T L f (λ i l. h i (le_trans l (le-suc n))) (λ i l. g i (le_trans l (le-suc n))))
  where
    go : (a b : Bool) → (a ≡ true → b ≡ true) → (b ≡ true → a ≡ false → low ≤ f n)
        → gather ◌+◌ 0 n T f + count n L * low ≤ gather ◌+◌ 0 n L f + count n T * low
        → cond a (gather ◌+◌ 0 n T f + f n) (gather ◌+◌ 0 n T f) + (bit b + count n L) * low
        ≤ cond b (gather ◌+◌ 0 n L f + f n) (gather ◌+◌ 0 n L f) + (bit a + count n T) * low
    go true true e d k = omega arith
    go true false e d k = absurd (false≢true (e refl))
    go false true e d k = let m = d refl refl in omega arith
    go false false e d k = omega arith

-- a set L that is larger than T
module _ (G : Graph) (T L : VertexSet) (l : Larger G L T) where
  -- it has more members
  size-further : size_of G T < size_of G L
  unfolding size_of
  size-further =
      let w = l.further in
      count_less G.size T L w.0 (λ i h e. (l.contains i (h, e)).1) w.1.0 w.1.1 w.2

  -- by members of degree low or more
  module _ (low : ℕ) (each : (w : ℕ) → In G L w → T w ≡ false → low ≤ degree G w) where
    -- with x of them, its degrees sum to at least x × low more
    sum-further : (x : ℕ) → size_of G L ≡ size_of G T + x → degree_sum G T + x * low ≤ degree_sum G L
    unfolding degree_sum size_of
    sum-further x e =
        let a = gather-further G.size low T L (degree G) (λ i h t. (l.contains i (h, t)).1) (λ i h t. each i (h, t)) in
        let b = ap (λ (n : ℕ). n * low) e in
        omega arith

    -- and the largest of its degrees is at least low and at least that of T
    largest_further : (u : ℕ) → In G T u → max (largest_degree G T) low ≤ largest_degree G L
    largest_further u h =
        let w = l.further in
        let x = largest_member G T u h in
        let a = largest_bound G L w.0 w.1 in
        let b = largest_bound G L x.0 (l.contains x.0 x.1) in
        let d = each w.0 w.1 w.2 in
        let e = x.2 in
        omega arith

-- ---- hopeless numbers, under avg and max

-- of the largest degree no more is left outside by more members
outside_less : (p q low largest : ℕ) → q ≤ p → max largest (max low p) - p ≤ max largest (max low q) - q
outside_less p q low largest h = omega arith

-- what is isolated is isolated by a smaller sum and a smaller largest degree too
isolated_less : (m : ℕ) (c : Factor) (k sum least largest sum' least' largest' : ℕ) → sum' ≤ sum → largest' ≤ largest
    → isolated_by (suc m) c k sum least largest ≡ true → isolated_by (suc m) c k sum' least' largest' ≡ true
unfolding isolated_by
isolated_less m c k sum least largest sum' least' largest' h l = go m
  where
    go : (n : ℕ) → isolated_by (suc n) c k sum least largest ≡ true → isolated_by (suc n) c k sum' least' largest' ≡ true
    go zero e = (under_test c k _).1 (under_mono c k (omega arith) ((under_test c k (sum - k * (k - 1))).0 e))
    go (suc n) e = (under_test c 1 _).1 (under_mono c 1 (omega arith) ((under_test c 1 (largest - (k - 1))).0 e))

-- with x further members, 1 to r of them
module _ (c : Factor) (low r k sum least largest x : ℕ) (some : 1 ≤ x) (most : x ≤ r) where
  -- where each is joined to as many others as low, r of them leave least outside
  narrow : low ≤ k + r - 1 → sum + r * further_degree low k r - (k + r) * (k + r - 1) ≤ sum + x * further_degree low k x - (k + x) * (k + x - 1)
  narrow h =
      let fewer : k + x - 1 ≤ k + r - 1 = omega arith in
      let least-here : k + x - 1 ≤ further_degree low k x = omega arith in
      let a = mul-le-mul_left k fewer in
      let b = mul-le-mul_left x least-here in
      let e = ap (λ (d : ℕ). r * d) (wide r (omega arith)) in
      omega arith
    where
      wide : (y : ℕ) → y ≡ r → further_degree low k y ≡ k + y - 1
      wide y q = omega arith

  -- what is isolated under avg is so with r or with 1
  grown_avg : isolated_grown 1 c low x k sum least largest ≡ true
      → (isolated_grown 1 c low r k sum least largest ≡ true) ⊎ (isolated_grown 1 c low 1 k sum least largest ≡ true)
  unfolding isolated_by
  grown_avg e = go (lt_or_ge (k + r - 1) low)
    where
      under : Under c (k + x) (sum + x * further_degree low k x - (k + x) * (k + x - 1))
      under = (under_test c (k + x) (sum + x * further_degree low k x - (k + x) * (k + x - 1))).0 e

      wide : k + r - 1 < low → (y : ℕ) → y ≤ r → further_degree low k y ≡ low
      wide h y l = omega arith

      go : (k + r - 1 < low) ⊎ (low ≤ k + r - 1) → (isolated_grown 1 c low r k sum least largest ≡ true) ⊎ (isolated_grown 1 c low 1 k sum least largest ≡ true)
      go (inl h) =
          rw (wide h r (omega arith), wide h 1 (omega arith))
          (⊎_elim (λ u. inl ((under_test c (k + r) _).1 u)) (λ u. inr ((under_test c (k + 1) _).1 u)) (under_ends c k sum low x r some most (rw (wide h x most) at under)))
      go (inr h) = inl ((under_test c (k + r) _).1 (under_wider c _ (omega arith) (under_mono c (k + x) (narrow h) under)))

  -- and under max it is so with r
  grown_max : (n : ℕ) → isolated_grown (suc (suc n)) c low x k sum least largest ≡ true → isolated_grown (suc (suc n)) c low r k sum least largest ≡ true
  unfolding isolated_by
  grown_max n e =
      (under_test c 1 _).1
      (under_mono c 1 (outside_less (k + r - 1) (k + x - 1) low largest (omega arith)) ((under_test c 1 (max largest (further_degree low k x) - (k + x - 1))).0 e))

  -- so what is hopeless is not isolated
  none_grown : (notion : ℕ) → hopeless notion c low r k sum least largest ≡ true → isolated_grown notion c low x k sum least largest ≡ true → ⊥
  unfolding hopeless
  none_grown zero e i = false≢true e
  none_grown (suc zero) e i =
      ⊎_elim (λ z. omega arith) (λ n. ⊎_elim n.0 n.1 (grown_avg i))
      ((test_or (test_eq r 0) (test_and (test_not test_self) (test_not test_self))).0 e)
  none_grown (suc (suc m)) e i = ⊎_elim (λ z. omega arith) (λ n. n (grown_max m i)) ((test_or (test_eq r 0) (test_not test_self)).0 e)

-- what is hopeless with r candidates is so with fewer
pub hopeless_fewer : (notion : ℕ) (c : Factor) (low r k sum least largest p : ℕ) → p ≤ r
    → hopeless notion c low r k sum least largest ≡ true → hopeless notion c low p k sum least largest ≡ true
unfolding hopeless
hopeless_fewer zero c low r k sum least largest p h e = e
hopeless_fewer (suc zero) c low r k sum least largest zero h e = refl
hopeless_fewer (suc zero) c low r k sum least largest (suc p) h e =
    (test_or (test_eq (suc p) 0) (test_and (test_not test_self) (test_not test_self))).1
    (inr (none_grown c low r k sum least largest (suc p) (omega arith) h 1 e, none_grown c low r k sum least largest 1 (omega arith) (omega arith) 1 e))
hopeless_fewer (suc (suc m)) c low r k sum least largest zero h e = refl
hopeless_fewer (suc (suc m)) c low r k sum least largest (suc p) h e =
    (test_or (test_eq (suc p) 0) (test_not test_self)).1 (inr (none_grown c low r k sum least largest (suc p) (omega arith) h (suc (suc m)) e))

module _ (G : Graph) (loopless : Loopless G) where
  -- a branch with a larger isolated clique of at most k + r members, those outside T of degree low or more, is not hopeless by low and r
  no_beyond : (notion : ℕ) (c : Factor) (low : ℕ) (T : VertexSet) (k sum least largest r : ℕ) (vs : List ℕ) → Clique G T → Tally G T k sum least largest
      → hopeless notion c low r k sum least largest ≡ true → (b : Beyond G notion c T vs) → size_of G b.set ≤ k + r
      → ((w : ℕ) → In G b.set w → T w ≡ false → low ≤ degree G w) → ⊥
  unfolding hopeless
  no_beyond zero c low T k sum least largest r vs C t e b fits each = false≢true e
  no_beyond (suc m) c low T k sum least largest r vs C t e b fits each =
      none_grown c low r k sum least largest x (let g = grows in omega arith) (omega arith) (suc m) e
      (isolated_less m c (k + x) (degree_sum G L) (least_degree G L) (largest_degree G L) (sum + x * low_here) least (max largest low_here)
      (rw t.summed (sum-further G T L b.exceeds low_here each_here x (let g = grows in omega arith)))
      (rw t.highest (largest_further G T L b.exceeds low_here each_here C.nonempty.0 C.nonempty.1))
      (subst (λ (n : ℕ). isolated_by (suc m) c n (degree_sum G L) (least_degree G L) (largest_degree G L) ≡ true) (let g = grows in omega arith) whole))
    where
      L : VertexSet
      L = b.set

      x : ℕ
      x = size_of G L - k

      grows : k < size_of G L
      grows = rw t.members (size-further G T L b.exceeds)

      low_here : ℕ
      low_here = further_degree low k x

      each_here : (w : ℕ) → In G L w → T w ≡ false → low_here ≤ degree G w
      each_here w h n =
          let a = each w h n in
          let d = outside-degree G loopless L b.passes.clique w h in
          let g = grows in
          omega arith

      whole : isolated_by (suc m) c (size_of G L) (degree_sum G L) (least_degree G L) (largest_degree G L) ≡ true
      whole = sym (isolated_by_lem G loopless L b.passes.clique (suc m) c) ∙ (isolated_test G (suc m) c L).1 b.passes.isolated

module _ (G : Graph) (loopless : Loopless G) (symmetric : Symmetric G) (notion : ℕ) (c : Factor) (low : ℕ) where
  -- so where none has more members and no candidate's degree is below low, a branch that is hopeless by low and r finds nothing
  pub cut-sound : (T : VertexSet) (added : List ℕ) (k sum least largest r : ℕ) (vs : List ℕ) → Ready G T added k sum least largest vs
      → ((b : Beyond G notion c T vs) → size_of G b.set ≤ k + r) → ((i : ℕ) → i < length vs → low ≤ degree G (get_or vs i 0))
      → hopeless notion c low r k sum least largest ≡ true → find_larger G notion c added k sum least largest vs ≡ false
  unfolding Finds
  cut-sound T added k sum least largest r vs ready fits each e =
      fails (find_larger G notion c added k sum least largest vs)
      (λ f.
      let b = (finds G loopless symmetric notion c vs T added k sum least largest ready).0 f in
      no_beyond G loopless notion c low T k sum least largest r vs ready.clique ready.tally e b (fits b)
      (λ w h n. bound w n (b.listed w h)))
    where
      bound : (w : ℕ) → T w ≡ false → (T w ≡ true) ⊎ Listed w vs → low ≤ degree G w
      bound w n (inl s) = absurd (true≢false (sym s ∙ n))
      bound w n (inr (i, h, s)) = subst (λ (v : ℕ). low ≤ degree G v) s (each i h)
