-- The members of a set as a list, with their numbers and their common neighbours, as loops over the list or over all vertices keep them.
-- Assumes nothing.
use Prim.Native.Nat.{ℕ, zero, suc, ◌+◌, ◌≤◌, ◌<◌, min, max}
use mathlib.Core.Path.{◌≡◌, refl, sym, ap, ◌∙◌, subst}
use mathlib.Core.Bool.{true, false}
use mathlib.Core.List.{List, [], ◌∷◌, ◌++◌}
use mathlib.Core.Logic.{inl, inr, ⊎_elim}
use native.Mathlib.Numerals.{add-one}
use native.Mathlib.Omega.{arith}
use lib.ListN.{length, get_or, take}
use lib.Seq.{take-suc, take-length, length-take-le, get_or-take}
use Rattle.model.specs.Below.{count}
use Rattle.model.specs.Graph.{Graph, degree}
use Rattle.model.specs.Groups.{VertexSet, size_of, with_vertex}
use Rattle.model.specs.Meaning.{In, Loopless}
use Rattle.theory.specs.Search.{common, gather, degree_sum, least_degree, largest_degree, Tally, joined_all, Listed, among, Members}
use Rattle.theory.proofs.Basics.Tests.{Test, test_agree, test_eq, test_any, test_self, fails}
use Rattle.theory.proofs.Graph.Cliques.{with_test, common_test, joins_new}
use Rattle.theory.proofs.Graph.Degrees.{size_same, sum_same, least-same, largest_same, tally-add}
use Rattle.theory.proofs.Basics.Passing.{push_listed, listed_push}
use Rattle.theory.proofs.Search.Candidates.{joined_test}

-- two sets that agree on the vertices have one tally
pub tally-same : (G : Graph) (S T : VertexSet) → ((v : ℕ) → v < G.size → S v ≡ T v) → (k sum least largest : ℕ) → Tally G S k sum least largest → Tally G T k sum least largest
tally-same G S T same k sum least largest t =
    record {
      members = t.members ∙ size_same G S T same;
      summed = t.summed ∙ sum_same G S T same;
      lowest = t.lowest ∙ least-same G S T same;
      highest = t.highest ∙ largest_same G S T same;
    }

-- `among` says that the vertex stands in the list
pub among_test : (us : List ℕ) (v : ℕ) → Test (among us v) (Listed v us)
unfolding among
among_test us v = test_any (length us) _ (λ i. test_eq (get_or us i 0) v)

-- over no member what is gathered is the start
gather_empty : (op : ℕ → ℕ → ℕ) (start n : ℕ) (f : ℕ → ℕ) → gather op start n (λ i. false) f ≡ start
unfolding gather
gather_empty op start zero f = refl
gather_empty op start (suc n) f = gather_empty op start n f

count_empty : (n : ℕ) → 0 ≡ count n (λ i. false)
unfolding count
count_empty zero = refl
count_empty (suc n) = let k = count_empty n in omega arith

-- the tally of a list: with no member, and with one more at its end
module _ (G : Graph) where
  -- the tally of no members
  pub tally-none : Tally G (among []) 0 0 G.size 0
  unfolding size_of degree_sum least_degree largest_degree
  tally-none = tally-same G (λ v. false) (among []) (λ v h. sym (fails (among [] v) (λ e. none ((among_test [] v).0 e)))) 0 0 G.size 0 start
    where
      none : {v : ℕ} → Listed v [] → ⊥
      none m = let h = m.1 in omega arith

      start : Tally G (λ v. false) 0 0 G.size 0
      start =
          record {
            members = count_empty G.size;
            summed = sym (gather_empty ◌+◌ 0 G.size (degree G));
            lowest = sym (gather_empty min G.size G.size (degree G));
            highest = sym (gather_empty max 0 G.size (degree G));
          }

  -- the tally with one member more
  pub tally_push : (us : List ℕ) (v : ℕ) → v < G.size → among us v ≡ false → (k sum least largest : ℕ) → Tally G (among us) k sum least largest
      → Tally G (among (us ++ (v ∷ []))) (k + 1) (sum + degree G v) (min least (degree G v)) (max largest (degree G v))
  tally_push us v h new k sum least largest t =
      tally-same G (with_vertex v (among us)) (among (us ++ (v ∷ [])))
      (λ w l.
      test_agree (with_test v (among us) w) (among_test (us ++ (v ∷ [])) w)
      (λ m. push_listed us v w (⊎_elim (λ e. inl e) (λ e. inr ((among_test us w).0 e)) m))
      (λ m. ⊎_elim (λ e. inl e) (λ r. inr ((among_test us w).1 r)) (listed_push us v w m)))
      _ _ _ _ (tally-add G (among us) v h new k sum least largest t)

-- the tally of a set by a loop over a list of its members
module _ (G : Graph) (S : VertexSet) (us : List ℕ) (M : Members G S us) where
  -- the tally of the first i + 1 members from that of the first i
  pub tally-next : (i : ℕ) → i < length us → (k sum least largest : ℕ) → Tally G (among (take i us)) k sum least largest
      → Tally G (among (take (i + 1) us)) (k + 1) (sum + degree G (get_or us i 0)) (min least (degree G (get_or us i 0))) (max largest (degree G (get_or us i 0)))
  tally-next i h k sum least largest t =
      subst
      (λ (l : List ℕ). Tally G (among l) (k + 1) (sum + degree G (get_or us i 0)) (min least (degree G (get_or us i 0))) (max largest (degree G (get_or us i 0))))
      (sym (ap (λ (m : ℕ). take m us) (add-one i) ∙ take-suc us i 0 h))
      (tally_push G (take i us) (get_or us i 0) (M.sound i h).0 (fails (among (take i us) (get_or us i 0)) (λ e. again ((among_test (take i us) (get_or us i 0)).0 e))) k sum least largest t)
    where
      again : Listed (get_or us i 0) (take i us) → ⊥
      again (j, l, e) =
          let n = length-take-le i us (omega arith) in
          let s = M.once j i (omega arith) h (sym (get_or-take i us j 0 (omega arith)) ∙ e) in
          omega arith

  -- the tally of all in the list is that of the set
  pub tally-all : (k sum least largest : ℕ) → Tally G (among (take (length us) us)) k sum least largest → Tally G S k sum least largest
  tally-all k sum least largest t = tally-same G (among (take (length us) us)) S same k sum least largest t
    where
      same : (v : ℕ) → v < G.size → among (take (length us) us) v ≡ S v
      same v h =
          ap (λ (l : List ℕ). among l v) (take-length us)
          ∙ test_agree (among_test us v) test_self (λ m. ap S (sym m.2) ∙ (M.sound m.0 m.1).1) (λ e. M.complete v (h, e))

  -- some numbers are the tally of the first i members, of which there are i
  abbrev pub Counted : ℕ → Type 0
  Counted i = (sum : ℕ) × (least : ℕ) × (largest : ℕ) × Tally G (among (take i us)) i sum least largest

  pub counted : (i : ℕ) → i ≤ length us → Counted i
  counted zero h = (0, G.size, 0, tally-none G)
  counted (suc i) h = let t = counted i (omega arith) in subst Counted (add-one i) (_, _, _, tally-next i (omega arith) i t.0 t.1 t.2 t.3)

  -- so the list is as long as the set is large
  pub members-long : length us ≡ size_of G S
  members-long = let t = counted (length us) (omega arith) in (tally-all (length us) t.0 t.1 t.2 t.3).members

  -- a common neighbour is a vertex that is joined to each in the list
  pub common-list : Loopless G → (v : ℕ) → v < G.size → common G S v ≡ joined_all G v us
  common-list loopless v h =
      test_agree (common_test G S v h) (joined_test G v us)
      (λ r j l. r.joins (get_or us j 0) (M.sound j l))
      (λ f.
      let joins : (u : ℕ) → In G S u → G.joined v u ≡ true = λ u hu. let m = M.complete u hu in ap (G.joined v) (sym m.2) ∙ f m.0 m.1 in
      record { vertex = h; beyond = joins_new G S v h joins loopless; joins = joins })
