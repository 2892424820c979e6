-- `qualifies` passes exactly the sets that `Qualifies` states.
-- Assumes nothing.
use Prim.Native.Nat.{ℕ, zero, suc, ◌<◌, zero-le}
use mathlib.Core.Path.{◌≡◌, refl, sym, ap, ap₂, ◌∙◌, fun_ext}
use mathlib.Core.Logic.{◌↔◌, ◌⊎◌, inl, inr}
use mathlib.Core.Bool.{Bool, true, false, ◌&&◌, ◌||◌, not, cond}
use native.Mathlib.Omega.{arith}
use lib.Dec.{ltb, eqb}
use borrow.Author.Tests.{lt-ltb, le-ltb, eq-eqb, ne_eqb}
use Rattle.model.specs.Below.{implies, all, any}
use Rattle.model.specs.Graph.{Graph}
use Rattle.model.specs.Groups.{Factor, Settings, VertexSet, within, size_of, clique, outside, isolated_min, outgoing, isolated_avg, isolated_max, isolated, larger, with_vertex, some_set, isolated_clique, some_larger, rival, qualifies}
use Rattle.model.specs.Meaning.{In, Under, Clique, Isolated, IsolatedClique, Larger, Rival, Qualifies}
use Rattle.theory.proofs.Graph.Factor.{under_test}
use Rattle.theory.proofs.Basics.Tests.{Test, test_and, test_implies, test_not, test_self, test_fails, test_eq, test_any, test_all, trichotomy, count_same, total-same}

module _ (G : Graph) where
  pairs : (S : VertexSet) →
      Test (all G.size (λ u. all G.size (λ v. implies (S u && S v && not (eqb u v)) (G.joined u v))))
      ((u : ℕ) → u < G.size → (v : ℕ) → v < G.size → ((S u ≡ true) × (S v ≡ true)) × (u ≡ v → ⊥) → G.joined u v ≡ true)
  pairs S =
      test_all _ _ (λ u. test_all _ _ (λ v. test_implies (test_and (test_and test_self test_self) (test_not (test_eq u v))) test_self))

  -- `clique` passes exactly the cliques
  pub clique_test : (S : VertexSet) → Test (clique G S) (Clique G S)
  unfolding clique
  clique_test S = (
    λ e.
        let r = both.0 e in
        record {
          nonempty = (r.0.0, (r.0.1, r.0.2));
          pairwise = λ u v hu hv d. r.1 u hu.0 v hv.0 ((hu.1, hv.1), d);
        },
    λ c. both.1 ((c.nonempty.0, c.nonempty.1.0, c.nonempty.1.1), λ u hu v hv t. c.pairwise u v (hu, t.0.0) (hv, t.0.1) t.1),
  )
    where
      both : Test (clique G S) (((v : ℕ) × (v < G.size) × (S v ≡ true)) × ((u : ℕ) → u < G.size → (v : ℕ) → v < G.size → ((S u ≡ true) × (S v ≡ true)) × (u ≡ v → ⊥) → G.joined u v ≡ true))
      both = test_and (test_any G.size S (λ i. test_self)) (pairs S)

  -- `isolated` passes exactly what is isolated in its notion
  pub isolated_test : (notion : ℕ) (c : Factor) (S : VertexSet) → Test (isolated G notion c S) (Isolated G notion c S)
  unfolding isolated isolated_min isolated_avg isolated_max
  isolated_test zero c S = (λ e. let r = t.0 e in (r.0, (r.1, r.2.0), r.2.1), λ r. t.1 (r.0, r.1.0, (r.1.1, r.2)))
    where
      t : Test (any G.size (λ u. S u && within c 1 (outside G S u))) ((u : ℕ) × (u < G.size) × ((S u ≡ true) × Under c 1 (outside G S u)))
      t = test_any _ _ (λ u. test_and test_self (under_test c 1 (outside G S u)))
  isolated_test (suc zero) c S = under_test c (size_of G S) (outgoing G S)
  isolated_test (suc (suc m)) c S = (λ e u h. t.0 e u h.0 h.1, λ f. t.1 (λ u h i. f u (h, i)))
    where
      t : Test (all G.size (λ u. implies (S u) (within c 1 (outside G S u)))) ((u : ℕ) → u < G.size → S u ≡ true → Under c 1 (outside G S u))
      t = test_all _ _ (λ u. test_implies test_self (under_test c 1 (outside G S u)))

  -- `isolated_clique` passes exactly the isolated cliques
  pub isolated_clique_test : (notion : ℕ) (c : Factor) (S : VertexSet) → Test (isolated_clique G notion c S) (IsolatedClique G notion c S)
  unfolding isolated_clique
  isolated_clique_test notion c S = (λ e. let r = t.0 e in record { clique = r.0; isolated = r.1 }, λ r. t.1 (r.clique, r.isolated))
    where
      t : Test (clique G S && isolated G notion c S) (Clique G S × Isolated G notion c S)
      t = test_and (clique_test S) (isolated_test notion c S)

  -- `rival` passes exactly the rivals
  pub rival_test : (kind notion : ℕ) (c : Factor) (L : VertexSet) → Test (rival G kind notion c L) (Rival G kind notion c L)
  unfolding rival
  rival_test zero notion c L = isolated_clique_test notion c L
  rival_test (suc k) notion c L = clique_test L

  -- `larger` passes exactly the larger sets
  pub larger_test : (L S : VertexSet) → Test (larger G L S) (Larger G L S)
  unfolding larger
  larger_test L S = (
    λ e. let r = t.0 e in record { contains = λ v h. (h.0, r.0 v h.0 h.1); further = (r.1.0, (r.1.1, r.1.2.0), r.1.2.1) },
    λ l. t.1 (λ v h i. (l.contains v (h, i)).1, (l.further.0, l.further.1.0, (l.further.1.1, l.further.2))),
  )
    where
      t : Test (all G.size (λ v. implies (S v) (L v)) && any G.size (λ v. L v && not (S v)))
          (((v : ℕ) → v < G.size → S v ≡ true → L v ≡ true) × ((v : ℕ) × (v < G.size) × ((L v ≡ true) × (S v ≡ false))))
      t = test_and (test_all _ _ (λ v. test_implies test_self test_self)) (test_any _ _ (λ v. test_and test_self test_fails))

-- L below n, and nothing else
cut : ℕ → VertexSet → VertexSet
cut n L v = ltb v n && L v

module _ (n : ℕ) (L : VertexSet) where
  -- a test of three numbers: v is n, below n or above n
  cut_with : L n ≡ true → (v : ℕ) → cut (suc n) L v ≡ with_vertex n (cut n L) v
  unfolding cut
  cut_with e v = at (trichotomy v n)
    where
      at : (v < n) ⊎ (v ≡ n) ⊎ (n < v) → (ltb v (suc n) && L v) ≡ (eqb v n || (ltb v n && L v))
      at (inl h) = rw (lt-ltb v (suc n) (omega arith), ne_eqb v n (omega arith), lt-ltb v n h)
      at (inr (inl q)) = rw (lt-ltb v (suc n) (omega arith), eq-eqb v n q) (ap L q ∙ e)
      at (inr (inr h)) = rw (le-ltb v (suc n) h, ne_eqb v n (omega arith), le-ltb v n (omega arith))

  cut_without : L n ≡ false → (v : ℕ) → cut (suc n) L v ≡ cut n L v
  unfolding cut
  cut_without e v = at (trichotomy v n)
    where
      at : (v < n) ⊎ (v ≡ n) ⊎ (n < v) → (ltb v (suc n) && L v) ≡ (ltb v n && L v)
      at (inl h) = rw (lt-ltb v (suc n) (omega arith), lt-ltb v n h)
      at (inr (inl q)) = rw (lt-ltb v (suc n) (omega arith), le-ltb v n (omega arith)) (ap L q ∙ e)
      at (inr (inr h)) = rw (le-ltb v (suc n) h, le-ltb v n (omega arith))

cut-none : (L : VertexSet) (v : ℕ) → cut zero L v ≡ false
unfolding cut
cut-none L v = rw (le-ltb v zero zero-le)

some_set-there : (n : ℕ) (P : VertexSet → Bool) → some_set n P ≡ true → (L : VertexSet) × (P L ≡ true)
unfolding some_set
some_set-there zero P e = (λ v. false, e)
some_set-there (suc n) P e = go (some_set n (λ S. P (with_vertex n S))) refl e
    (some_set-there n (λ S. P (with_vertex n S))) (some_set-there n P)
  where
    go : (b : Bool) → some_set n (λ S. P (with_vertex n S)) ≡ b → (b || some_set n P) ≡ true
        → (some_set n (λ S. P (with_vertex n S)) ≡ true → (L : VertexSet) × (P (with_vertex n L) ≡ true))
        → (some_set n P ≡ true → (L : VertexSet) × (P L ≡ true))
        → (L : VertexSet) × (P L ≡ true)
    go true q e f g = let r = f q in (with_vertex n r.0, r.1)
    go false q e f g = g e

or_left : {a : Bool} (b : Bool) → a ≡ true → (a || b) ≡ true
or_left b e = ap (λ (a : Bool). a || b) e

or_second : (a : Bool) {b : Bool} → b ≡ true → (a || b) ≡ true
or_second true e = refl
or_second false e = e

some_set-back : (n : ℕ) (P : VertexSet → Bool) (L : VertexSet) → P (cut n L) ≡ true → some_set n P ≡ true
unfolding some_set
some_set-back zero P L e = ap P (sym (fun_ext (cut-none L))) ∙ e
some_set-back (suc n) P L e = go (L n) refl (some_set-back n (λ S. P (with_vertex n S)) L) (some_set-back n P L)
  where
    go : (b : Bool) → L n ≡ b
        → (P (with_vertex n (cut n L)) ≡ true → some_set n (λ S. P (with_vertex n S)) ≡ true)
        → (P (cut n L) ≡ true → some_set n P ≡ true)
        → (some_set n (λ S. P (with_vertex n S)) || some_set n P) ≡ true
    go true q f g = or_left (some_set n P) (f (ap P (sym (fun_ext (cut_with n L q))) ∙ e))
    go false q f g = or_second (some_set n (λ S. P (with_vertex n S))) (g (ap P (sym (fun_ext (cut_without n L q))) ∙ e))

-- two sets that agree on the vertices are the same to every notion
module _ (G : Graph) (L M : VertexSet) (same : (v : ℕ) → v < G.size → M v ≡ L v) where
  -- they have the same members
  pub in_same : (v : ℕ) → In G L v → In G M v
  in_same v h = (h.0, same v h.0 ∙ h.1)

  -- in both directions
  pub in_back : (v : ℕ) → In G M v → In G L v
  in_back v h = (h.0, sym (same v h.0) ∙ h.1)

  outside-same : (u : ℕ) → outside G M u ≡ outside G L u
  unfolding outside
  outside-same u = count_same G.size _ _ (λ v h. ap (λ (b : Bool). G.joined u v && not b) (same v h))

  size_of-same : size_of G M ≡ size_of G L
  unfolding size_of
  size_of-same = count_same G.size M L same

  outgoing-same : outgoing G M ≡ outgoing G L
  unfolding outgoing
  outgoing-same = total-same G.size _ _ (λ u h. ap₂ (λ (b : Bool) (x : ℕ). cond b x 0) (same u h) (outside-same u))

  -- so one is a clique where the other is
  pub clique-same : Clique G L → Clique G M
  clique-same c =
      record {
        nonempty = (c.nonempty.0, in_same c.nonempty.0 c.nonempty.1);
        pairwise = λ u v hu hv. c.pairwise u v (in_back u hu) (in_back v hv);
      }

  -- and isolated where the other is
  pub isolated-same : (notion : ℕ) (c : Factor) → Isolated G notion c L → Isolated G notion c M
  isolated-same zero c r = (r.0, in_same r.0 r.1, rw (outside-same r.0) r.2)
  isolated-same (suc zero) c r = rw (outgoing-same, size_of-same) r
  isolated-same (suc (suc m)) c f = λ u h. rw (outside-same u) (f u (in_back u h))

  rival-same : (kind notion : ℕ) (c : Factor) → Rival G kind notion c L → Rival G kind notion c M
  rival-same zero notion c r = record { clique = clique-same r.clique; isolated = isolated-same notion c r.isolated }
  rival-same (suc k) notion c r = clique-same r

  larger-same : (S : VertexSet) → Larger G L S → Larger G M S
  larger-same S l =
      record {
        contains = λ v h. in_same v (l.contains v h);
        further = (l.further.0, in_same l.further.0 l.further.1, l.further.2);
      }

cut-same : (n : ℕ) (L : VertexSet) (v : ℕ) → v < n → cut n L v ≡ L v
unfolding cut
cut-same n L v h = rw (lt-ltb v n h)

module _ (G : Graph) (s : Settings) (S : VertexSet) where
  -- some larger set is a rival
  unfoldable pub rivals : Type 0
  rivals = (L : VertexSet) × Larger G L S × Rival G s.kind s.notion s.factor L

  -- `some_larger` finds one exactly where there is one
  pub rivals_test : Test (some_larger G S (rival G s.kind s.notion s.factor)) rivals
  unfolding some_larger rivals
  rivals_test = (
    λ e.
        let r = some_set-there G.size P e in
        let t = (test_at r.0).0 r.1 in
        (r.0, t.0, t.1),
    λ r.
        let c = cut G.size r.0 in
        let same = cut-same G.size r.0 in
        some_set-back G.size P r.0
        ((test_at c).1 (larger-same G r.0 c same S r.1, rival-same G r.0 c same s.kind s.notion s.factor r.2)),
  )
    where
      P : VertexSet → Bool
      P L = larger G L S && rival G s.kind s.notion s.factor L

      test_at : (L : VertexSet) → Test (larger G L S && rival G s.kind s.notion s.factor L) (Larger G L S × Rival G s.kind s.notion s.factor L)
      test_at L = test_and (larger_test G L S) (rival_test G s.kind s.notion s.factor L)

  -- the test passes exactly where the set qualifies
  pub qualifies_iff : (qualifies G s S ≡ true) ↔ Qualifies G s S
  unfolding qualifies rivals
  qualifies_iff = (
    λ e. let r = t.0 e in record { isolated_clique_lem = r.0; maximal = λ L l h. r.1 (L, l, h) },
    λ q. t.1 (q.isolated_clique_lem, λ r. q.maximal r.0 r.1 r.2),
  )
    where
      t : Test (isolated_clique G s.notion s.factor S && not (some_larger G S (rival G s.kind s.notion s.factor))) (IsolatedClique G s.notion s.factor S × (rivals → ⊥))
      t = test_and (isolated_clique_test G s.notion s.factor S) (test_not rivals_test)
