-- Refusals 4 and 5 of a graph, whatever table says by numbers which of its vertices are joined: they answer with the first fault of that table, and
-- without a fault the graph is one of document 01's.
-- Assumes nothing.
use Prim.Native.Nat.{ℕ, zero, suc, ◌≤◌, ◌<◌}
use mathlib.Core.Path.{◌≡◌, refl, sym, ap, ◌∙◌}
use mathlib.Core.Bool.{Bool, true, false, not, beq, true≢false, false≢true}
use mathlib.Core.Logic.{◌≢◌}
use mathlib.Core.List.{List, [], ◌∷◌}
use native.Mathlib.Omega.{arith}
use lib.Dec.{eqb}
use Rattle.model.specs.Graph.{Graph}
use Rattle.model.specs.Meaning.{Simple}
use Rattle.model.specs.Calls.{looped, one_way, refuse_graph}
use Rattle.model.specs.Fault.{Fault, numbered, FirstFault, NoFault}
use Rattle.theory.proofs.Basics.Tests.{Test, test_map, test_agree, test_eq, test_any, not-different, fails}
use Rattle.theory.proofs.Calls.Fault.{refuse-first, none_found}

-- two outcomes are different
differ_test : (a b : Bool) → Test (not (beq a b)) (a ≢ b)
differ_test true true = (λ e. absurd (false≢true e), λ d. absurd (d refl))
differ_test true false = (λ e. true≢false, λ d. refl)
differ_test false true = (λ e. false≢true, λ d. refl)
differ_test false false = (λ e. absurd (false≢true e), λ d. absurd (d refl))

-- numbers of 0 and 1 are equal where they are 1 alike
pub same_bit : (a b : ℕ) → a ≤ 1 → b ≤ 1 → eqb a 1 ≡ eqb b 1 → a ≡ b
same_bit zero zero h g e = refl
same_bit zero (suc zero) h g e = absurd (false≢true e)
same_bit (suc zero) zero h g e = absurd (true≢false e)
same_bit (suc zero) (suc zero) h g e = refl
same_bit zero (suc (suc b)) h g e = absurd (omega arith)
same_bit (suc zero) (suc (suc b)) h g e = absurd (omega arith)
same_bit (suc (suc a)) b h g e = absurd (omega arith)

-- 4 and 5 of a table on n vertices, by the number that it has for each pair: a 1 on the diagonal; not symmetric
abbrev pub graph_faults : ℕ → (ℕ → ℕ → ℕ) → List Fault
graph_faults n entry =
    numbered 4 ((u : ℕ) × (u < n) × (entry u u ≡ 1))
    ∷ numbered 5 ((u : ℕ) × (v : ℕ) × (u < n) × (v < n) × (entry u v ≢ entry v u))
    ∷ []

-- the graph joins two vertices where the table has 1 for them
module _ (G : Graph) (entry : ℕ → ℕ → ℕ) (joins : (u v : ℕ) → Test (G.joined u v) (((u < G.size) × (v < G.size)) × (entry u v ≡ 1))) where
  -- so it says of two vertices whether they are joined
  joins_at : (u v : ℕ) → u < G.size → v < G.size → G.joined u v ≡ eqb (entry u v) 1
  joins_at u v hu hv = test_agree (joins u v) (test_eq (entry u v) 1) (λ r. r.1) (λ e. ((hu, hv), e))

  -- 4: a vertex that is joined to itself
  diagonal_test : Test (looped G) ((u : ℕ) × (u < G.size) × (entry u u ≡ 1))
  unfolding looped
  diagonal_test =
      test_map (test_any G.size (λ u. G.joined u u) (λ u. joins u u))
      (λ r. (r.0, r.1, r.2.1))
      (λ r. (r.0, r.1, ((r.1, r.1), r.2)))

  -- a pair whose numbers mirror each other is joined both ways or not at all
  mirrored : (u v : ℕ) → u < G.size → v < G.size → entry u v ≡ entry v u → G.joined u v ≡ G.joined v u
  mirrored u v hu hv e = joins_at u v hu hv ∙ ap (λ (x : ℕ). eqb x 1) e ∙ sym (joins_at v u hv hu)

  -- without a fault, and with no more vertices than are allowed, it is a graph of document 01
  pub graph-simple : G.size ≤ 1024 → NoFault (graph_faults G.size entry) → Simple G
  graph-simple h none =
      record {
        bounded = h;
        loopless = λ u hu. fails (G.joined u u) (λ j. none.0 (u, hu, ((joins u u).0 j).1));
        symmetric = λ u v hu hv. mirrored u v hu hv (not-different _ _ (λ d. none.1.0 (u, v, hu, hv, d)));
      }

  -- the table has only 0 and 1
  module _ (small : (u v : ℕ) → entry u v ≤ 1) where
    -- 5: a pair that is joined one way
    mirror_test : Test (one_way G) ((u : ℕ) × (v : ℕ) × (u < G.size) × (v < G.size) × (entry u v ≢ entry v u))
    unfolding one_way
    mirror_test =
        test_map
        (test_any G.size _ (λ u. test_any G.size _ (λ v. differ_test (G.joined u v) (G.joined v u))))
        (λ r. (r.0, r.2.0, r.1, r.2.1, λ e. r.2.2 (mirrored r.0 r.2.0 r.1 r.2.1 e)))
        (λ r. (r.0, r.2, (r.1, r.3, λ e. r.4 (entries_same r.0 r.1 r.2 r.3 e))))
      where
        entries_same : (u v : ℕ) → u < G.size → v < G.size → G.joined u v ≡ G.joined v u → entry u v ≡ entry v u
        entries_same u v hu hv e = same_bit _ _ (small u v) (small v u) (sym (joins_at u v hu hv) ∙ e ∙ joins_at v u hv hu)

    -- then the number that the graph is refused with is that of the first of these faults
    pub graph-first : FirstFault (graph_faults G.size entry) (refuse_graph G)
    unfolding refuse_graph
    graph-first = refuse-first 4 _ _ _ diagonal_test (λ h4. refuse-first 5 _ _ _ mirror_test (λ h5. none_found))
