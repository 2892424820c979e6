-- The full list has exactly the sets that qualify, in the order of sets; under min both kinds have the same list.
-- Assumes nothing.
use Prim.Native.Nat.{ℕ, zero, suc, ◌<◌}
use mathlib.Core.Path.{◌≡◌, refl, sym, ap, ◌∙◌, subst⁻¹}
use mathlib.Core.Bool.{Bool, true, false, ◌&&◌, ◌||◌, not, cond, true≢false}
use mathlib.Core.List.Memᴰ
use mathlib.Core.List.{List, [], ◌∷◌, ◌++◌, map, Memᴰ}
use mathlib.Core.Logic.{◌⊎◌, inl, inr, ⊎_elim}
use native.Mathlib.Omega.{arith}
use native.Mathlib.Nat.{not-suc-le-zero}
use lib.ListN.{get_or}
use lib.Dec.{eqb}
use Rattle.model.specs.Graph.{Graph, rank_of, vertex_at}
use Rattle.model.specs.Groups.{Factor, Settings, VertexSet, qualifies, outside}
use Rattle.model.specs.Meaning.{Isolated, Larger, Qualifies, Earlier, Ordered, Lists}
use Rattle.model.specs.Walk.{Position, Rules, has, decided, all_decided, found, groups_of, full_sets, full_list}
use Rattle.model.specs.Listing.{is, taken_set, rules}
use Rattle.theory.proofs.Basics.Tests.{test_and, test_agree, test_self, test_fails, fails}
use Rattle.theory.proofs.Graph.Factor.{under_mono}
use Rattle.theory.proofs.Basics.Counting.{count-sub}
use Rattle.theory.proofs.Graph.Ranks.{rank_below, vertex_of}
use Rattle.theory.proofs.Graph.Meaning.{qualifies_iff, in_same, clique-same, isolated-same}
use Rattle.theory.proofs.Walk.Remaining.{mem_map}
use Rattle.theory.proofs.Walk.Walk.{groups_member}

-- ---- order

earlier_under : (x : ℕ) (p q : Position) → Earlier p q → Earlier (x ∷ p) (x ∷ q)
earlier_under x p q e = record { rank = suc e.rank; same-below = at; holds = e.holds; lacks = e.lacks }
  where
    at : (i : ℕ) → i < suc e.rank → get_or (x ∷ p) i 0 ≡ get_or (x ∷ q) i 0
    at zero h = refl
    at (suc i) h = e.same-below i (omega arith)

ordered_under : (x : ℕ) (ps : List Position) → Ordered ps → Ordered (map (x ∷◌) ps)
ordered_under x [] o = tt
ordered_under x (p ∷ ps) o =
    (λ q m. let r = mem_map (x ∷◌) ps m in subst⁻¹ (Earlier (x ∷ p)) r.1 (earlier_under x p r.0 (o.0 r.0 r.2)), ordered_under x ps o.1)

ordered-append : (a b : List Position) → Ordered a → Ordered b → ((p q : Position) → Memᴰ p a → Memᴰ q b → Earlier p q) → Ordered (a ++ b)
ordered-append [] b oa ob f = ob
ordered-append (p ∷ a) b oa ob f =
    (λ q m. ⊎_elim (oa.0 q) (f p q (Memᴰ.head refl)) (Memᴰ.append_cases a m), ordered-append a b oa.1 ob (λ x y m. f x y (Memᴰ.tail m)))

ordered-all : (n : ℕ) → Ordered (all_decided n)
unfolding all_decided
ordered-all zero = (λ q m. absurd (Memᴰ.not-nil m), tt)
ordered-all (suc n) =
    ordered-append (map (1 ∷◌) (all_decided n)) (map (2 ∷◌) (all_decided n)) (ordered_under 1 (all_decided n) (ordered-all n)) (ordered_under 2 (all_decided n) (ordered-all n))
    (λ p q m k.
    let r = mem_map (1 ∷◌) (all_decided n) m in
    let t = mem_map (2 ∷◌) (all_decided n) k in
    record {
      rank = 0;
      same-below = λ i h. absurd (not-suc-le-zero h);
      holds = ap (λ (l : Position). get_or l 0 0) r.1;
      lacks = ap (λ (l : Position). get_or l 0 0) t.1;
    })

module _ (R : Rules) where
  in_groups : (ps : List Position) (q : Position) → Memᴰ q ps → found R q ≡ true → Memᴰ q (groups_of R ps)
  unfolding groups_of
  in_groups [] q m e = absurd (Memᴰ.not-nil m)
  in_groups (p ∷ ps) q m e = go (found R p) refl (λ d. in_groups ps q d e) (Memᴰ.cases_cons m)
    where
      go : (t : Bool) → found R p ≡ t → (Memᴰ q ps → Memᴰ q (groups_of R ps)) → (q ≡ p) ⊎ Memᴰ q ps
          → Memᴰ q (cond t (p ∷ groups_of R ps) (groups_of R ps))
      go true f ih (inl s) = Memᴰ.head s
      go true f ih (inr d) = Memᴰ.tail (ih d)
      go false f ih (inl s) = absurd (true≢false (sym e ∙ ap (found R) s ∙ f))
      go false f ih (inr d) = ih d

  ordered-groups : (ps : List Position) → Ordered ps → Ordered (groups_of R ps)
  unfolding groups_of
  ordered-groups [] o = tt
  ordered-groups (p ∷ ps) o = go (found R p) (ordered-groups ps o.1)
    where
      go : (t : Bool) → Ordered (groups_of R ps) → Ordered (cond t (p ∷ groups_of R ps) (groups_of R ps))
      go true r = (λ q m. o.0 q (groups_member R ps q m).0, r)
      go false r = r

-- ---- a set as a position

mark : Bool → ℕ
mark true = 1
mark false = 2

marks : ℕ → (ℕ → Bool) → Position
marks zero f = []
marks (suc n) f = mark (f zero) ∷ marks n (λ i. f (suc i))

marks_member : (n : ℕ) (f : ℕ → Bool) → Memᴰ (marks n f) (all_decided n)
unfolding marks all_decided mark
marks_member zero f = Memᴰ.head refl
marks_member (suc n) f = go (f zero) (marks_member n (λ i. f (suc i)))
  where
    go : (b : Bool) → Memᴰ (marks n (λ i. f (suc i))) (all_decided n)
        → Memᴰ (mark b ∷ marks n (λ i. f (suc i))) (map (1 ∷◌) (all_decided n) ++ map (2 ∷◌) (all_decided n))
    go true m = Memᴰ.append_left (map (2 ∷◌) (all_decided n)) (Memᴰ.map (1 ∷◌) m)
    go false m = Memᴰ.append_right (map (1 ∷◌) (all_decided n)) (Memᴰ.map (2 ∷◌) m)

marks-decided : (n : ℕ) (f : ℕ → Bool) → has 0 (marks n f) ≡ false
unfolding marks mark has
marks-decided zero f = refl
marks-decided (suc n) f = go (f zero) (marks-decided n (λ i. f (suc i)))
  where
    go : (b : Bool) → has 0 (marks n (λ i. f (suc i))) ≡ false → (eqb 0 (mark b) || has 0 (marks n (λ i. f (suc i)))) ≡ false
    go true e = e
    go false e = e

marks_at_lem : (n : ℕ) (f : ℕ → Bool) (r : ℕ) → r < n → is 1 (marks n f) r ≡ f r
unfolding marks mark
marks_at_lem zero f r h = absurd (not-suc-le-zero h)
marks_at_lem (suc n) f zero h = go (f zero)
  where
    go : (b : Bool) → eqb (mark b) 1 ≡ b
    go true = refl
    go false = refl
marks_at_lem (suc n) f (suc r) h = marks_at_lem n (λ i. f (suc i)) r (omega arith)

module _ (G : Graph) (s : Settings) where
  -- the set of a group that is found qualifies
  pub found_qualifies : (p : Position) → found (rules G s) p ≡ true → Qualifies G s (taken_set G p)
  unfolding found
  found_qualifies p e = (qualifies_iff G s (taken_set G p)).0 ((test_and {a = decided p} test_self test_self).0 e).1

  -- sets that agree on the vertices qualify together
  qualifies-same : (S M : VertexSet) → ((v : ℕ) → v < G.size → M v ≡ S v) → Qualifies G s S → Qualifies G s M
  qualifies-same S M same q =
      record {
        isolated_clique_lem =
            record {
              clique = clique-same G S M same q.isolated_clique_lem.clique;
              isolated = isolated-same G S M same s.notion s.factor q.isolated_clique_lem.isolated;
            };
        maximal = λ L l r.
            q.maximal L
            (record {
              contains = λ v h. l.contains v (in_same G S M same v h);
              further = (l.further.0, l.further.1, sym (same l.further.0 l.further.1.0) ∙ l.further.2);
            })
            r;
      }

  -- The full list has every set that qualifies, once, in the order of sets
  pub lists : Lists G s (full_sets (rules G s) G.size)
  unfolding full_sets found taken_set
  lists =
      record {
        sound = λ p m. found_qualifies p (groups_member (rules G s) (all_decided G.size) p m).1;
        complete = λ S q. (place S, in_groups (rules G s) (all_decided G.size) (place S) (marks_member G.size _) (is_found S q), agrees S);
        ordered = ordered-groups (rules G s) (all_decided G.size) (ordered-all G.size);
      }
    where
      place : VertexSet → Position
      place S = marks G.size (λ r. S (vertex_at G r))

      agrees : (S : VertexSet) (v : ℕ) → v < G.size → taken_set G (place S) v ≡ S v
      agrees S v h = marks_at_lem G.size (λ r. S (vertex_at G r)) (rank_of G v) (rank_below G v h) ∙ ap S (vertex_of G v h)

      is_found : (S : VertexSet) → Qualifies G s S → (not (has 0 (place S)) && qualifies G s (taken_set G (place S))) ≡ true
      is_found S q =
          (test_and {a = not (has 0 (place S))} test_fails test_self).1
          (marks-decided G.size (λ r. S (vertex_at G r)), (qualifies_iff G s (taken_set G (place S))).1 (qualifies-same S (taken_set G (place S)) (agrees S) q))

-- ---- min: both kinds have one list

module _ (G : Graph) (c : Factor) where
  abbrev of_kind : ℕ → Settings
  of_kind k = record { notion = 0; kind = k; factor = c }

  -- a larger clique of a set that is isolated in notion min is isolated too
  pub min-larger : (S L : VertexSet) → Isolated G 0 c S → Larger G L S → Isolated G 0 c L
  unfolding outside
  min-larger S L i l =
      let u = i.0 in
      let k = count-sub G.size (λ v. G.joined u v && not (L v)) (λ v. G.joined u v && not (S v))
      (λ v h e.
      let b = (test_and {a = G.joined u v} test_self (test_fails {a = L v})).0 e in
      (test_and {a = G.joined u v} test_self (test_fails {a = S v})).1 (b.0, out v h b.1)) in
      (u, l.contains u i.1, under_mono c 1 k i.2)
    where
      out : (v : ℕ) → v < G.size → L v ≡ false → S v ≡ false
      out v h e = fails (S v) (λ f. true≢false (sym (l.contains v (h, f)).1 ∙ e))

  min_kinds : (S : VertexSet) → qualifies G (of_kind 0) S ≡ qualifies G (of_kind 1) S
  min_kinds S =
      test_agree (test_self {a = qualifies G (of_kind 0) S}) (test_self {a = qualifies G (of_kind 1) S})
      (λ e.
      let q = (qualifies_iff G (of_kind 0) S).0 e in
      (qualifies_iff G (of_kind 1) S).1
      (record {
        isolated_clique_lem = q.isolated_clique_lem;
        maximal = λ L l k. q.maximal L l (record { clique = k; isolated = min-larger S L q.isolated_clique_lem.isolated l });
      }))
      (λ e.
      let q = (qualifies_iff G (of_kind 1) S).0 e in
      (qualifies_iff G (of_kind 0) S).1 (record { isolated_clique_lem = q.isolated_clique_lem; maximal = λ L l k. q.maximal L l k.clique }))

  min-rules : rules G (of_kind 0) ≡ rules G (of_kind 1)
  min-rules = λ i. record { dead = (rules G (of_kind 0)).dead; listed = λ p. min_kinds (taken_set G p) i; entries = (rules G (of_kind 0)).entries }

  -- Under min both kinds give the same list
  pub min-same-list : full_list (rules G (of_kind 0)) G.size ≡ full_list (rules G (of_kind 1)) G.size
  min-same-list = ap (λ (R : Rules). full_list R G.size) min-rules
