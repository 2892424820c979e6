-- A clique on a graph with no loops: a member's outside count is its degree less the other members, the pivot's is the least, and the
-- common neighbours of an isolated clique are under the factor.
-- Assumes nothing.
use Prim.Native.Nat.{ℕ, zero, suc, ◌+◌, ◌-◌, ◌≤◌, ◌<◌}
use mathlib.Core.Path.{◌≡◌, refl, sym, ap, ◌∙◌}
use mathlib.Core.Bool.{Bool, true, false, ◌&&◌, not, and-true, and-false, true≢false}
use mathlib.Core.Logic.{◌≢◌, ◌⊎◌, inl, inr}
use native.Mathlib.Omega.{arith}
use lib.Dec.{eqb}
use borrow.Author.Tests.{eq-eqb, ne_eqb}
use Rattle.model.specs.Below.{implies, all, count}
use Rattle.model.specs.Graph.{Graph, degree, rank_of}
use Rattle.model.specs.Groups.{Factor, VertexSet, size_of, outside, outgoing, with_vertex}
use Rattle.model.specs.Meaning.{In, Under, Clique, Isolated, Larger, Loopless, Symmetric}
use Rattle.theory.specs.Search.{JoinsAll, common, Common}
use Rattle.theory.proofs.Basics.Tests.{Test, test_and, test_or, test_implies, test_self, test_fails, test_eq, test_all, trichotomy, fails, count_same}
use Rattle.theory.proofs.Basics.Counting.{count_remove, count_split}
use Rattle.theory.proofs.Graph.Ranks.{rank-degree}
use Rattle.theory.proofs.Graph.Factor.{under_sum}

-- in a clique each member has the others as neighbours
module _ (G : Graph) (loopless : Loopless G) (S : VertexSet) (C : Clique G S) where
  inner : (u : ℕ) → In G S u → suc (count G.size (λ v. G.joined u v && S v)) ≡ size_of G S
  unfolding size_of
  inner u h =
      ap suc (count_same G.size _ _ (λ v l. at v l (trichotomy v u)))
      ∙ sym (count_remove G.size S u h.0 h.1)
    where
      other : (v : ℕ) → v < G.size → v ≢ u → (b : Bool) → S v ≡ b → (G.joined u v && b) ≡ b
      other v l d true e = ap (λ (t : Bool). t && true) (C.pairwise u v h (l, e) (λ z. d (sym z)))
      other v l d false e = and-false (G.joined u v)

      apart_from : (v : ℕ) → v < G.size → v ≢ u → (G.joined u v && S v) ≡ (S v && not (eqb v u))
      apart_from v l d = other v l d (S v) refl ∙ rw (ne_eqb v u d) (sym (and-true (S v)))

      at : (v : ℕ) → v < G.size → (v < u) ⊎ (v ≡ u) ⊎ (u < v) → (G.joined u v && S v) ≡ (S v && not (eqb v u))
      at v l (inl k) = apart_from v l (λ z. omega arith)
      at v l (inr (inr k)) = apart_from v l (λ z. omega arith)
      at v l (inr (inl z)) =
          rw (eq-eqb v u z)
          (ap (λ (t : Bool). t && S v) (ap (G.joined u) z ∙ loopless u h.0) ∙ sym (and-false (S v)))

  -- so a member of no larger degree has no larger outside count
  pub outside_mono : (x u : ℕ) → In G S x → In G S u → degree G x ≤ degree G u → outside G S x ≤ outside G S u
  unfolding degree outside
  outside_mono x u hx hu d =
      let a = inner x hx in
      let b = inner u hu in
      let k = count_split G.size (G.joined x) S in
      let l = count_split G.size (G.joined u) S in
      omega arith

  -- where no member's outside count is under the factor, the set is isolated in no notion
  pub not-isolated : (notion : ℕ) (c : Factor) → ((u : ℕ) → In G S u → Under c 1 (outside G S u) → ⊥) → Isolated G notion c S → ⊥
  unfolding outgoing size_of
  not-isolated zero c f i = f i.0 i.1 i.2
  not-isolated (suc zero) c f i = under_sum c G.size S (outside G S) (λ u h e. f u (h, e)) i
  not-isolated (suc (suc m)) c f i = f C.nonempty.0 C.nonempty.1 (i C.nonempty.0 C.nonempty.1)

  -- so in a clique of k members an outside count is the degree less k - 1
  pub outside-degree : (u : ℕ) → In G S u → outside G S u + (size_of G S - 1) ≡ degree G u
  unfolding degree outside
  outside-degree u h =
      let a = inner u h in
      let k = count_split G.size (G.joined u) S in
      omega arith

  -- that is the degree less k - 1
  pub outside-is : (u : ℕ) → In G S u → outside G S u ≡ degree G u - (size_of G S - 1)
  outside-is u h = let a = outside-degree u h in omega arith

  -- the pivot, the member of lowest rank, has the least outside count
  pub pivot-least : (x : ℕ) → In G S x → ((u : ℕ) → In G S u → rank_of G x ≤ rank_of G u)
      → (u : ℕ) → In G S u → outside G S x ≤ outside G S u
  pivot-least x hx low u hu = outside_mono x u hx hu (rank-degree G x u hu.0 (low u hu))

-- S and v: what is in it
pub with_test : (v : ℕ) (S : VertexSet) (w : ℕ) → Test (with_vertex v S w) ((w ≡ v) ⊎ (S w ≡ true))
with_test v S w = test_or (test_eq w v) test_self

-- S and v has v
pub same-vertex : (v : ℕ) (S : VertexSet) → with_vertex v S v ≡ true
same-vertex v S = rw (eq-eqb v v refl)

-- and of any other number it says what S says
pub other-vertex : (v : ℕ) (S : VertexSet) (i : ℕ) → i ≢ v → with_vertex v S i ≡ S i
other-vertex v S i d = rw (ne_eqb i v d)

-- a vertex that is joined to each member is not in the set, and a clique with it is a larger clique
module _ (G : Graph) (S : VertexSet) (v : ℕ) (vertex : v < G.size) (joins : JoinsAll G S v) where
  -- it is not in the set
  pub joins_new : Loopless G → S v ≡ false
  joins_new loopless = fails (S v) (λ e. true≢false (sym (joins v (vertex, e)) ∙ loopless v vertex))

  -- the set with it is larger
  pub joins-larger : Loopless G → Larger G (with_vertex v S) S
  joins-larger loopless =
      record {
        contains = λ u h. (h.0, (with_test v S u).1 (inr h.1));
        further = (v, (vertex, same-vertex v S), joins_new loopless);
      }

  -- and a clique
  pub joins-clique : Symmetric G → Clique G S → Clique G (with_vertex v S)
  joins-clique symmetric C =
      record {
        nonempty = (v, (vertex, same-vertex v S));
        pairwise = λ u w hu hw d. at u w hu.0 hw.0 d ((with_test v S u).0 hu.1) ((with_test v S w).0 hw.1);
      }
    where
      at : (u w : ℕ) → u < G.size → w < G.size → u ≢ w → (u ≡ v) ⊎ (S u ≡ true) → (w ≡ v) ⊎ (S w ≡ true) → G.joined u w ≡ true
      at u w hu hw d (inl a) (inl b) = absurd (d (a ∙ sym b))
      at u w hu hw d (inl a) (inr b) = ap (λ (x : ℕ). G.joined x w) a ∙ joins w (hw, b)
      at u w hu hw d (inr a) (inl b) = symmetric u w hu hw ∙ ap (λ (x : ℕ). G.joined x u) b ∙ joins u (hu, a)
      at u w hu hw d (inr a) (inr b) = C.pairwise u w (hu, a) (hw, b) d

module _ (G : Graph) (S : VertexSet) where
  -- the test of a vertex for a common neighbour says that it is one
  pub common_test : (v : ℕ) → v < G.size → Test (common G S v) (Common G S v)
  unfolding common
  common_test v l = (
    λ e. let r = t.0 e in record { vertex = l; beyond = r.0; joins = λ u h. r.1 u h.0 h.1 },
    λ r. t.1 (r.beyond, λ u hu i. r.joins u (hu, i)),
  )
    where
      t : Test (not (S v) && all G.size (λ u. implies (S u) (G.joined v u))) ((S v ≡ false) × ((u : ℕ) → u < G.size → S u ≡ true → G.joined v u ≡ true))
      t = test_and test_fails (test_all _ _ (λ u. test_implies test_self test_self))

  -- a member of a larger clique is joined to each member, and so it is a common neighbour
  module _ (L : VertexSet) (D : Clique G L) (contains : (u : ℕ) → In G S u → In G L u) (w : ℕ) (h : In G L w) (new : S w ≡ false) where
    -- it is joined to each
    pub further-joins : JoinsAll G S w
    further-joins u hu = D.pairwise w u h (contains u hu) (λ e. true≢false (sym hu.1 ∙ ap S (sym e) ∙ new))

    -- and so it is a common neighbour
    pub further-common : common G S w ≡ true
    further-common = (common_test w h.0).1 (record { vertex = h.0; beyond = new; joins = further-joins })
