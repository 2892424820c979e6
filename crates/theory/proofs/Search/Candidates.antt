-- The candidates while vertices are added to a clique: each is joined to the set exactly where it is joined to those added.
-- Assumes nothing.
use Prim.Native.Nat.{ℕ, zero, suc, ◌+◌, ◌<◌, min, max}
use mathlib.Core.Path.{◌≡◌, refl, sym, ap, ◌∙◌}
use mathlib.Core.Bool.{Bool, true, false, ◌&&◌, and-true, true≢false}
use mathlib.Core.List.{List, [], ◌∷◌, ◌++◌}
use mathlib.Core.Logic.{inr, ⊎_elim}
use native.Mathlib.Omega.{arith}
use lib.ListN.{length, get_or}
use Rattle.model.specs.Graph.{Graph, degree}
use Rattle.model.specs.Groups.{VertexSet, with_vertex}
use Rattle.model.specs.Meaning.{Clique, Loopless, Symmetric}
use Rattle.theory.specs.Search.{JoinsAll, Tally, joined_all, Candidates}
use Rattle.theory.proofs.Basics.Tests.{Test, test_and, test_self, fails}
use Rattle.theory.proofs.Graph.Cliques.{with_test, same-vertex, joins_new, joins-clique, common_test}
use Rattle.theory.proofs.Graph.Degrees.{tally-add}

-- what is joined to a list and to one more
pub joined_all_push : (G : Graph) (w : ℕ) (us : List ℕ) (v : ℕ) → joined_all G w (us ++ (v ∷ [])) ≡ (joined_all G w us && G.joined w v)
unfolding joined_all
joined_all_push G w [] v = and-true (G.joined w v)
joined_all_push G w (u ∷ us) v = go (G.joined w u) (joined_all_push G w us v)
  where
    go : (b : Bool) → joined_all G w (us ++ (v ∷ [])) ≡ (joined_all G w us && G.joined w v) → (b && joined_all G w (us ++ (v ∷ []))) ≡ (b && joined_all G w us && G.joined w v)
    go true e = e
    go false e = refl

-- `joined_all` says that the vertex is joined to each in the list
pub joined_test : (G : Graph) (v : ℕ) (us : List ℕ) → Test (joined_all G v us) ((j : ℕ) → j < length us → G.joined v (get_or us j 0) ≡ true)
unfolding joined_all
joined_test G v [] = (λ e j h. absurd (omega arith), λ f. refl)
joined_test G v (u ∷ us) = more (joined_test G v us)
  where
    more : Test (joined_all G v us) ((j : ℕ) → j < length us → G.joined v (get_or us j 0) ≡ true)
        → Test (G.joined v u && joined_all G v us) ((j : ℕ) → j < suc (length us) → G.joined v (get_or (u ∷ us) j 0) ≡ true)
    more ih = (λ e j h. there (both.0 e) j h, λ f. both.1 (f 0 (omega arith), λ j h. f (suc j) (omega arith)))
      where
        both : Test (G.joined v u && joined_all G v us) ((G.joined v u ≡ true) × ((j : ℕ) → j < length us → G.joined v (get_or us j 0) ≡ true))
        both = test_and test_self ih

        there : (G.joined v u ≡ true) × ((j : ℕ) → j < length us → G.joined v (get_or us j 0) ≡ true) → (j : ℕ) → j < suc (length us) → G.joined v (get_or (u ∷ us) j 0) ≡ true
        there r zero h = r.0
        there r (suc j) h = r.1 j (omega arith)

-- one place that is not joined
pub joined-apart : (G : Graph) (v : ℕ) (us : List ℕ) (j : ℕ) → j < length us → G.joined v (get_or us j 0) ≡ false → joined_all G v us ≡ false
joined-apart G v us j h e = fails (joined_all G v us) (λ t. true≢false (sym ((joined_test G v us).0 t j h) ∙ e))

-- a state of the search: a clique T with its numbers, made of a set and those added, and candidates that are vertices and are joined to T exactly
-- where they are joined to those added
pub record Ready (G : Graph) (T : VertexSet) (added : List ℕ) (k sum least largest : ℕ) (vs : List ℕ) : Type 0 where
  pub clique : Clique G T
  pub tally : Tally G T k sum least largest
  pub vertex : (i : ℕ) → i < length vs → get_or vs i 0 < G.size
  pub tested : (i : ℕ) → i < length vs → Test (joined_all G (get_or vs i 0) added) (JoinsAll G T (get_or vs i 0))

-- it holds at the start, with nothing added
pub ready_start : (G : Graph) (S : VertexSet) (k sum least largest : ℕ) (vs : List ℕ)
    → Clique G S → Tally G S k sum least largest → Candidates G S vs → Ready G S [] k sum least largest vs
unfolding joined_all
ready_start G S k sum least largest vs C t A =
    record {
      clique = C;
      tally = t;
      vertex = λ i h. (A.sound i h).0;
      tested = λ i h. (λ e. ((common_test G S (get_or vs i 0) (A.sound i h).0).0 (A.sound i h).1).joins, λ j. refl);
    }

module _ (G : Graph) (T : VertexSet) (added : List ℕ) (k sum least largest : ℕ) (v : ℕ) (vs : List ℕ) (r : Ready G T added k sum least largest (v ∷ vs)) where
  -- with the first candidate passed over
  pub ready_pass : Ready G T added k sum least largest vs
  ready_pass =
      record {
        clique = r.clique;
        tally = r.tally;
        vertex = λ i h. r.vertex (suc i) (omega arith);
        tested = λ i h. r.tested (suc i) (omega arith);
      }

  -- what the first candidate is joined to
  pub first-vertex : v < G.size
  first-vertex = r.vertex zero (omega arith)

  -- joined to those added is joined to every member
  pub first_tested : Test (joined_all G v added) (JoinsAll G T v)
  first_tested = r.tested zero (omega arith)

  -- with the first candidate added, where it is joined to those added so far
  pub ready_add : Loopless G → Symmetric G → joined_all G v added ≡ true
      → Ready G (with_vertex v T) (added ++ (v ∷ [])) (k + 1) (sum + degree G v) (min least (degree G v)) (max largest (degree G v)) vs
  ready_add loopless symmetric e =
      let j = first_tested.0 e in
      record {
        clique = joins-clique G T v first-vertex j symmetric r.clique;
        tally = tally-add G T v first-vertex (joins_new G T v first-vertex j loopless) k sum least largest r.tally;
        vertex = λ i h. r.vertex (suc i) (omega arith);
        tested = λ i h. tested_more (get_or vs i 0) (r.tested (suc i) (omega arith));
      }
    where
      tested_more : (w : ℕ) → Test (joined_all G w added) (JoinsAll G T w) → Test (joined_all G w (added ++ (v ∷ []))) (JoinsAll G (with_vertex v T) w)
      tested_more w t = (λ e. there (both.0 (sym (joined_all_push G w added v) ∙ e)), λ g. joined_all_push G w added v ∙ both.1 (back g))
        where
          both : Test (joined_all G w added && G.joined w v) (JoinsAll G T w × (G.joined w v ≡ true))
          both = test_and t test_self

          there : JoinsAll G T w × (G.joined w v ≡ true) → JoinsAll G (with_vertex v T) w
          there p u hu = ⊎_elim (λ e. ap (λ (x : ℕ). G.joined w x) e ∙ p.1) (λ e. p.0 u (hu.0, e)) ((with_test v T u).0 hu.1)

          back : JoinsAll G (with_vertex v T) w → JoinsAll G T w × (G.joined w v ≡ true)
          back g = (λ u hu. g u (hu.0, (with_test v T u).1 (inr hu.1)), g v (first-vertex, same-vertex v T))
