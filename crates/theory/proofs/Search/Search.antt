-- The search over common neighbours finds a larger isolated clique exactly where there is one, so that a set's kind is tested by it.
-- Assumes nothing.
use Prim.Native.Nat.{ℕ, zero, suc, ◌+◌, ◌<◌, min, max}
use mathlib.Core.Path.{◌≡◌, refl, sym, ap, ◌∙◌}
use mathlib.Core.Bool.{Bool, true, false, ◌&&◌, ◌||◌, false≢true, true≢false}
use mathlib.Core.List.{List, [], ◌∷◌, ◌++◌}
use mathlib.Core.Logic.{◌⊎◌, inl, inr, ⊎_elim}
use native.Mathlib.Omega.{arith}
use Rattle.model.specs.Graph.{Graph, degree}
use Rattle.model.specs.Groups.{Factor, VertexSet, isolated, larger, with_vertex, isolated_clique, some_larger, rival}
use Rattle.model.specs.Meaning.{In, Clique, Isolated, IsolatedClique, Larger, Loopless, Symmetric}
use Rattle.theory.specs.Search.{JoinsAll, Tally, isolated_by, joined_all, find_larger, Listed, Candidates}
use Rattle.theory.proofs.Basics.Tests.{Test, test_agree, test_and, test_or, test_self, passes_or_fails}
use Rattle.theory.proofs.Graph.Meaning.{isolated_test, larger_test, isolated-same, rivals, rivals_test}
use Rattle.theory.proofs.Graph.Cliques.{with_test, same-vertex, joins_new, joins-larger, further-joins, further-common}
use Rattle.theory.proofs.Graph.Degrees.{isolated-tally}
use Rattle.theory.proofs.Search.Candidates.{Ready, ready_start, ready_pass, first-vertex, first_tested, ready_add}

-- a larger isolated clique than T, whose further members stand in the list
pub record Beyond (G : Graph) (notion : ℕ) (c : Factor) (T : VertexSet) (vs : List ℕ) : Type 0 where
  pub set : VertexSet
  pub exceeds : Larger G set T
  pub listed : (w : ℕ) → In G set w → (T w ≡ true) ⊎ Listed w vs
  pub passes : IsolatedClique G notion c set

-- what the search says of the candidates vs
unfoldable pub Finds : Graph → ℕ → Factor → List ℕ → Type 0
Finds G notion c vs = (T : VertexSet) (added : List ℕ) (k sum least largest : ℕ) → Ready G T added k sum least largest vs
    → Test (find_larger G notion c added k sum least largest vs) (Beyond G notion c T vs)

finds_none : (G : Graph) (notion : ℕ) (c : Factor) → Finds G notion c []
unfolding Finds find_larger
finds_none G notion c T added k sum least largest r = (
  λ e. absurd (false≢true e),
  λ b. absurd (none b (b.listed b.exceeds.further.0 b.exceeds.further.1)),
)
  where
    none : (b : Beyond G notion c T []) → (T b.exceeds.further.0 ≡ true) ⊎ Listed b.exceeds.further.0 [] → ⊥
    none b (inl e) = true≢false (sym e ∙ b.exceeds.further.2)
    none b (inr m) = let h = m.1 in omega arith

module _ (G : Graph) (loopless : Loopless G) (symmetric : Symmetric G) (notion : ℕ) (c : Factor) where
  -- one candidate: where it is added, where it is passed over
  module _ (v : ℕ) (vs : List ℕ) (ih : Finds G notion c vs) (T : VertexSet) (added : List ℕ) (k sum least largest : ℕ)
      (ready : Ready G T added k sum least largest (v ∷ vs)) where
    more : VertexSet
    more = with_vertex v T

    vertex : v < G.size
    vertex = first-vertex G T added k sum least largest v vs ready

    joins : Test (joined_all G v added) (JoinsAll G T v)
    joins = first_tested G T added k sum least largest v vs ready

    here : Bool
    here = isolated_by notion c (k + 1) (sum + degree G v) (min least (degree G v)) (max largest (degree G v))

    deeper : Bool
    deeper = find_larger G notion c (added ++ (v ∷ [])) (k + 1) (sum + degree G v) (min least (degree G v)) (max largest (degree G v)) vs

    ready_more : JoinsAll G T v → Ready G more (added ++ (v ∷ [])) (k + 1) (sum + degree G v) (min least (degree G v)) (max largest (degree G v)) vs
    unfolding more
    ready_more j = ready_add G T added k sum least largest v vs ready loopless symmetric (joins.1 j)

    here_test : JoinsAll G T v → Test here (Isolated G notion c more)
    unfolding here
    here_test j = (
      λ e. (isolated_test G notion c more).0 (same ∙ e),
      λ i. sym same ∙ (isolated_test G notion c more).1 i,
    )
      where
        same : isolated G notion c more ≡ here
        same = isolated-tally G loopless more (ready_more j).clique notion c _ _ _ _ (ready_more j).tally

    deeper_test : JoinsAll G T v → Test deeper (Beyond G notion c more vs)
    unfolding Finds deeper
    deeper_test j = ih more (added ++ (v ∷ [])) _ _ _ _ (ready_more j)

    rest_test : Test (find_larger G notion c added k sum least largest vs) (Beyond G notion c T vs)
    unfolding Finds
    rest_test = ih T added k sum least largest (ready_pass G T added k sum least largest v vs ready)

    in_list : (w : ℕ) → Listed w (v ∷ vs) → (v ≡ w) ⊎ Listed w vs
    in_list w (zero, h, e) = inl e
    in_list w (suc i, h, e) = inr (i, omega arith, e)

    in_tail : (w : ℕ) → Listed w vs → Listed w (v ∷ vs)
    in_tail w (i, h, e) = (suc i, omega arith, e)

    head_listed : (w : ℕ) → w ≡ v → Listed w (v ∷ vs)
    head_listed w e = (zero, omega arith, sym e)

    -- each way in which the search succeeds gives a larger set
    by_here : JoinsAll G T v → Isolated G notion c more → Beyond G notion c T (v ∷ vs)
    unfolding more
    by_here j i =
        record {
          set = more;
          exceeds = joins-larger G T v vertex j loopless;
          listed = λ w h. ⊎_elim (λ e. inr (head_listed w e)) (λ e. inl e) ((with_test v T w).0 h.1);
          passes = record { clique = (ready_more j).clique; isolated = i };
        }

    by_deeper : JoinsAll G T v → Beyond G notion c more vs → Beyond G notion c T (v ∷ vs)
    unfolding more
    by_deeper j b =
        record {
          set = b.set;
          exceeds = record {
            contains = λ u h. b.exceeds.contains u (h.0, (with_test v T u).1 (inr h.1));
            further = (v, b.exceeds.contains v (vertex, same-vertex v T), joins_new G T v vertex j loopless);
          };
          listed = λ w h.
              ⊎_elim
              (λ e. ⊎_elim (λ s. inr (head_listed w s)) (λ s. inl s) ((with_test v T w).0 e))
              (λ r. inr (in_tail w r))
              (b.listed w h);
          passes = b.passes;
        }

    by_rest : Beyond G notion c T vs → Beyond G notion c T (v ∷ vs)
    by_rest b =
        record {
          set = b.set;
          exceeds = b.exceeds;
          listed = λ w h. ⊎_elim (λ e. inl e) (λ r. inr (in_tail w r)) (b.listed w h);
          passes = b.passes;
        }

    -- a larger set that v brings nothing to, one that is the set with v, and one that is larger still
    without : (b : Beyond G notion c T (v ∷ vs)) → ((w : ℕ) → In G b.set w → v ≡ w → T w ≡ true) → Beyond G notion c T vs
    without b g =
        record {
          set = b.set;
          exceeds = b.exceeds;
          listed = λ w h. ⊎_elim (λ e. inl e) (λ r. ⊎_elim (λ s. inl (g w h s)) (λ m. inr m) (in_list w r)) (b.listed w h);
          passes = b.passes;
        }

    contains-more : (b : Beyond G notion c T (v ∷ vs)) → b.set v ≡ true → (w : ℕ) → In G more w → In G b.set w
    unfolding more
    contains-more b e w h =
        ⊎_elim (λ s. (h.0, ap b.set s ∙ e)) (λ m. b.exceeds.contains w (h.0, m)) ((with_test v T w).0 h.1)

    still-larger : (b : Beyond G notion c T (v ∷ vs)) → Larger G b.set more → Beyond G notion c more vs
    unfolding more
    still-larger b l =
        record {
          set = b.set;
          exceeds = l;
          listed = λ w h.
              ⊎_elim
              (λ e. inl ((with_test v T w).1 (inr e)))
              (λ r. ⊎_elim (λ s. inl ((with_test v T w).1 (inl (sym s)))) (λ m. inr m) (in_list w r))
              (b.listed w h);
          passes = b.passes;
        }

    no_larger : (b : Beyond G notion c T (v ∷ vs)) → b.set v ≡ true → (Larger G b.set more → ⊥) → (w : ℕ) → w < G.size → more w ≡ b.set w
    no_larger b e n w l = go (more w) refl (b.set w) refl
      where
        go : (x : Bool) → more w ≡ x → (y : Bool) → b.set w ≡ y → x ≡ y
        go true p true q = refl
        go true p false q = sym (contains-more b e w (l, p)).1 ∙ q
        go false p true q = absurd (n (record { contains = contains-more b e; further = (w, (l, q), p) }))
        go false p false q = refl

    -- what the search says of v and the candidates after it
    finds_there : ((joined_all G v added ≡ true) × ((here ≡ true) ⊎ (deeper ≡ true))) ⊎ (find_larger G notion c added k sum least largest vs ≡ true) → Beyond G notion c T (v ∷ vs)
    finds_there (inl (j, inl e)) = by_here (joins.0 j) ((here_test (joins.0 j)).0 e)
    finds_there (inl (j, inr e)) = by_deeper (joins.0 j) ((deeper_test (joins.0 j)).0 e)
    finds_there (inr e) = by_rest (rest_test.0 e)

    finds_back : Beyond G notion c T (v ∷ vs) → ((joined_all G v added ≡ true) × ((here ≡ true) ⊎ (deeper ≡ true))) ⊎ (find_larger G notion c added k sum least largest vs ≡ true)
    finds_back b = go (passes_or_fails (b.set v)) (passes_or_fails (T v))
      where
        add : b.set v ≡ true → JoinsAll G T v → (larger G b.set more ≡ true) ⊎ (larger G b.set more ≡ false) → (here ≡ true) ⊎ (deeper ≡ true)
        add e j (inl p) = inr ((deeper_test j).1 (still-larger b ((larger_test G b.set more).0 p)))
        add e j (inr p) =
            inl
            ((here_test j).1
            (isolated-same G b.set more
            (no_larger b e (λ l. true≢false (sym ((larger_test G b.set more).1 l) ∙ p)))
            notion c b.passes.isolated))

        go : (b.set v ≡ true) ⊎ (b.set v ≡ false) → (T v ≡ true) ⊎ (T v ≡ false)
            → ((joined_all G v added ≡ true) × ((here ≡ true) ⊎ (deeper ≡ true))) ⊎ (find_larger G notion c added k sum least largest vs ≡ true)
        go (inr e) m = inr (rest_test.1 (without b (λ w h s. absurd (true≢false (sym h.1 ∙ ap b.set (sym s) ∙ e)))))
        go (inl e) (inl m) = inr (rest_test.1 (without b (λ w h s. ap T (sym s) ∙ m)))
        go (inl e) (inr m) =
            let j = further-joins G T b.set b.passes.clique b.exceeds.contains v (vertex, e) m in
            inl (joins.1 j, add e j (passes_or_fails (larger G b.set more)))

    finds_step : Test (find_larger G notion c added k sum least largest (v ∷ vs)) (Beyond G notion c T (v ∷ vs))
    unfolding find_larger here deeper
    finds_step = (λ e. finds_there (ways.0 e), λ b. ways.1 (finds_back b))
      where
        ways : Test ((joined_all G v added && (here || deeper)) || find_larger G notion c added k sum least largest vs)
            (((joined_all G v added ≡ true) × ((here ≡ true) ⊎ (deeper ≡ true))) ⊎ (find_larger G notion c added k sum least largest vs ≡ true))
        ways = test_or (test_and test_self (test_or test_self test_self)) test_self

  -- the search finds a larger isolated clique within the candidates exactly where there is one
  pub finds : (vs : List ℕ) → Finds G notion c vs
  unfolding Finds
  finds [] = finds_none G notion c
  finds (v ∷ vs) = finds_step v vs (finds vs)

  module _ (S : VertexSet) (C : Clique G S) (vs : List ℕ) (A : Candidates G S vs) where
    -- the search with nothing added finds a larger isolated clique exactly where there is one
    pub search_larger : (k sum least largest : ℕ) → Tally G S k sum least largest
        → find_larger G notion c [] k sum least largest vs ≡ some_larger G S (isolated_clique G notion c)
    unfolding Finds rivals rival
    search_larger k sum least largest t =
        test_agree (finds vs S [] k sum least largest (ready_start G S k sum least largest vs C t A))
        (rivals_test G (record { notion = notion; kind = 0; factor = c }) S)
        (λ b. (b.set, b.exceeds, b.passes))
        (λ r. record { set = r.0; exceeds = r.1; listed = λ w h. place r.0 r.1 r.2 w h (passes_or_fails (S w)); passes = r.2 })
      where
        place : (L : VertexSet) → Larger G L S → IsolatedClique G notion c L → (w : ℕ) → In G L w → (S w ≡ true) ⊎ (S w ≡ false) → (S w ≡ true) ⊎ Listed w vs
        place L l i w h (inl e) = inl e
        place L l i w h (inr e) = inr (A.complete w h.0 (further-common G S L i.clique l.contains w h e))
