-- Which test tells that an isolated clique is maximal of its kind: the search, or a common neighbour.
-- Assumes nothing.
use Prim.Native.Nat.{ℕ, zero, suc, ◌<◌}
use mathlib.Core.Path.{◌≡◌, sym, ap, ◌∙◌}
use mathlib.Core.Bool.{Bool, true, false, ◌&&◌, not, true≢false}
use mathlib.Core.Logic.{◌⊎◌, inl, inr}
use mathlib.Core.List.{List}
use native.Mathlib.Omega.{arith}
use lib.ListN.{length, get_or}
use lib.Dec.{ltb}
use Rattle.model.specs.Below.{any}
use Rattle.model.specs.Graph.{Graph}
use Rattle.model.specs.Groups.{Factor, Settings, VertexSet, isolated, with_vertex, some_larger, rival, qualifies}
use Rattle.model.specs.Meaning.{Clique, Isolated, Loopless, Symmetric}
use Rattle.theory.specs.Search.{common, Tally, isolated_by, Candidates, searched, beaten}
use Rattle.theory.proofs.Basics.Tests.{Test, test_agree, test_self, test_lt, test_any, fails, passes_or_fails}
use Rattle.theory.proofs.Graph.Meaning.{isolated_test, isolated_clique_test, rivals, rivals_test, qualifies_iff}
use Rattle.theory.proofs.Graph.Cliques.{joins-larger, joins-clique, common_test, further-common}
use Rattle.theory.proofs.Graph.Degrees.{isolated-tally}
use Rattle.theory.proofs.Walk.Listing.{min-larger}
use Rattle.theory.proofs.Search.Search.{search_larger}

module _ (G : Graph) (loopless : Loopless G) (symmetric : Symmetric G) (S : VertexSet) (C : Clique G S) where
  some-common : Test (any G.size (common G S)) ((v : ℕ) × (v < G.size) × (common G S v ≡ true))
  some-common = test_any G.size (common G S) (λ v. test_self)

  -- kind 1: a larger clique is there exactly where a common neighbour is
  pub no_common : (k notion : ℕ) (c : Factor) → some_larger G S (rival G (suc k) notion c) ≡ any G.size (common G S)
  unfolding rivals
  no_common k notion c =
      test_agree (rivals_test G (record { notion = notion; kind = suc k; factor = c }) S) some-common
      (λ r.
      let w = r.1.further in
      (w.0, w.1.0, further-common G S r.0 r.2 r.1.contains w.0 w.1 w.2))
      (λ r.
      let j = ((common_test G S r.0 r.1).0 r.2).joins in (
        with_vertex r.0 S,
        joins-larger G S r.0 r.1 j loopless,
        joins-clique G S r.0 r.1 j symmetric C,
      ))

  -- kind 0 under min: a clique that contains an isolated one is isolated, so the same decides
  pub no_common-min : (c : Factor) → Isolated G zero c S → some_larger G S (rival G zero zero c) ≡ any G.size (common G S)
  unfolding rivals
  no_common-min c i =
      test_agree (rivals_test G (record { notion = zero; kind = zero; factor = c }) S) some-common
      (λ r.
      let w = r.1.further in
      (w.0, w.1.0, further-common G S r.0 r.2.clique r.1.contains w.0 w.1 w.2))
      (λ r.
      let j = ((common_test G S r.0 r.1).0 r.2).joins in
      let l = joins-larger G S r.0 r.1 j loopless in (
        with_vertex r.0 S,
        l,
        record {
          clique = joins-clique G S r.0 r.1 j symmetric C;
          isolated = min-larger G c S (with_vertex r.0 S) i l;
        },
      ))

  module _ (vs : List ℕ) (A : Candidates G S vs) where
    -- there is a common neighbour exactly where there is a candidate
    pub any_candidate : ltb 0 (length vs) ≡ any G.size (common G S)
    any_candidate =
        test_agree (test_lt 0 (length vs)) some-common
        (λ h. let r = A.sound 0 h in (get_or vs 0 0, r.0, r.1))
        (λ r. let m = A.complete r.0 r.1 r.2 in let h = m.1 in omega arith)

    module _ (k sum least largest : ℕ) (t : Tally G S k sum least largest) where
      -- an isolated clique is not maximal exactly where the test by kind and notion says so
      pub larger_by : (kind notion : ℕ) (c : Factor) → Isolated G notion c S
          → some_larger G S (rival G kind notion c) ≡ beaten G kind notion c k sum least largest vs
      unfolding rival searched beaten
      larger_by zero zero c i = no_common-min c i ∙ sym any_candidate
      larger_by zero (suc m) c i = sym (search_larger G loopless symmetric (suc m) c S C vs A k sum least largest t)
      larger_by (suc k) notion c i = no_common k notion c ∙ sym any_candidate

      -- so an isolated clique qualifies exactly where that test fails
      pub qualifies_by : (s : Settings) → Isolated G s.notion s.factor S
          → qualifies G s S ≡ not (beaten G s.kind s.notion s.factor k sum least largest vs)
      unfolding qualifies
      qualifies_by s i =
          rw ((isolated_clique_test G s.notion s.factor S).1 (record { clique = C; isolated = i }), larger_by s.kind s.notion s.factor i)

      -- and a clique qualifies exactly where its numbers say that it is isolated, and that test fails
      pub qualifies-tally : (s : Settings)
          → qualifies G s S ≡ (isolated_by s.notion s.factor k sum least largest && not (beaten G s.kind s.notion s.factor k sum least largest vs))
      qualifies-tally s = go (passes_or_fails (isolated G s.notion s.factor S))
        where
          same : isolated G s.notion s.factor S ≡ isolated_by s.notion s.factor k sum least largest
          same = isolated-tally G loopless S C s.notion s.factor k sum least largest t

          rest : Bool
          rest = not (beaten G s.kind s.notion s.factor k sum least largest vs)

          go : (isolated G s.notion s.factor S ≡ true) ⊎ (isolated G s.notion s.factor S ≡ false)
              → qualifies G s S ≡ (isolated_by s.notion s.factor k sum least largest && rest)
          go (inl e) = qualifies_by s ((isolated_test G s.notion s.factor S).0 e) ∙ ap (λ (b : Bool). b && rest) (sym e ∙ same)
          go (inr e) =
              fails (qualifies G s S)
              (λ q. true≢false (sym ((isolated_test G s.notion s.factor S).1 ((qualifies_iff G s S).0 q).isolated_clique_lem.isolated) ∙ e))
              ∙ ap (λ (b : Bool). b && rest) (sym e ∙ same)
