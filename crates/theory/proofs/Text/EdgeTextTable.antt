-- The table of a text: there is one for given lines, and an e line extends it by its pair.
-- Assumes nothing.
use Prim.Native.Nat.{ℕ, suc, ◌+◌, ◌*◌, ◌<◌}
use mathlib.Core.Path.{◌≡◌, refl, sym, ap, ap₂, ◌∙◌, subst, subst₂}
use mathlib.Core.Logic.{◌⊎◌, inl, inr, ⊎_elim}
use mathlib.Core.Bool.{Bool, true, false}
use mathlib.Core.List.Memᴰ
use mathlib.Core.List.{List, [], ◌∷◌, ◌++◌, Memᴰ}
use native.Mathlib.Nat.{suc_inj}
use native.Mathlib.Omega.{arith}
use lib.ListN.{length, get_or, set, replicate, length-set, length-replicate, get_or-replicate}
use lib.Seq.{get_or-set_same, get_or-set_other}
use lib.Dec.{eqb}
use borrow.Author.Tests.{eqb-true, eqb-false, eq-eqb}
use Rattle.model.specs.Graph.{with_pair}
use Rattle.model.specs.EdgeText.{Line, comment, problem, edge, HasPair, Table}
use Rattle.theory.proofs.Basics.Tests.{Test}
use Rattle.theory.proofs.Graph.Table.{cell_one, cell_within, one_table}
use Rattle.theory.proofs.Graph.Pairs.{pair_length, pair_others}
use Rattle.theory.proofs.Text.EdgeTextDrawn.{comment-not-edge, edge-not-problem, edge-first, edge-second}

-- ---- which pairs the lines join

edge-is : (u v : ℕ) (x : Line) → (edge u v ≡ x) ⊎ (edge u v ≡ x → ⊥)
edge-is u v comment = inr (comment-not-edge u v)
edge-is u v (problem n m) = inr (edge-not-problem u v n m)
edge-is u v (edge a b) = go (eqb u a) (eqb v b) refl refl
  where
    go : (p q : Bool) → eqb u a ≡ p → eqb v b ≡ q → (edge u v ≡ edge a b) ⊎ (edge u v ≡ edge a b → ⊥)
    go true true hp hq = inl (ap₂ edge (eqb-true u a hp) (eqb-true v b hq))
    go false q hp hq = inr (λ e. eqb-false u a hp (edge-first u v a b e))
    go true false hp hq = inr (λ e. eqb-false v b hq (edge-second u v a b e))

edge_in : (u v : ℕ) (xs : List Line) → Memᴰ (edge u v) xs ⊎ (Memᴰ (edge u v) xs → ⊥)
edge_in u v [] = inr (λ m. Memᴰ.not-nil m)
edge_in u v (x ∷ xs) = go (edge-is u v x) (edge_in u v xs)
  where
    go : (edge u v ≡ x) ⊎ (edge u v ≡ x → ⊥) → Memᴰ (edge u v) xs ⊎ (Memᴰ (edge u v) xs → ⊥)
        → Memᴰ (edge u v) (x ∷ xs) ⊎ (Memᴰ (edge u v) (x ∷ xs) → ⊥)
    go (inl e) r = inl (Memᴰ.head e)
    go (inr f) (inl m) = inl (Memᴰ.tail m)
    go (inr f) (inr g) = inr (λ m. ⊎_elim f g (Memᴰ.cases_cons m))

-- the lines join a pair or not
pub joins_or_not : (xs : List Line) (u v : ℕ) → HasPair xs u v ⊎ (HasPair xs u v → ⊥)
joins_or_not xs u v = go (edge_in u v xs) (edge_in v u xs)
  where
    go : Memᴰ (edge u v) xs ⊎ (Memᴰ (edge u v) xs → ⊥) → Memᴰ (edge v u) xs ⊎ (Memᴰ (edge v u) xs → ⊥)
        → HasPair xs u v ⊎ (HasPair xs u v → ⊥)
    go (inl m) r = inl (inl m)
    go (inr f) (inl m) = inl (inr m)
    go (inr f) (inr g) = inr (λ j. ⊎_elim f g j)

-- a pair is joined in both directions
pub joins_swap : (xs : List Line) (u v : ℕ) → HasPair xs u v → HasPair xs v u
joins_swap xs u v (inl m) = inr m
joins_swap xs u v (inr m) = inl m

-- what stood in the lines still does
pub joins-more : (xs ys : List Line) (u v : ℕ) → HasPair xs u v → HasPair (xs ++ ys) u v
joins-more xs ys u v (inl m) = inl (Memᴰ.append_left ys m)
joins-more xs ys u v (inr m) = inr (Memᴰ.append_left ys m)

-- one more line joins its own pair, in both directions, and no other
pub joins-last : (xs : List Line) (x : Line) (u v : ℕ) → HasPair (xs ++ (x ∷ [])) u v → HasPair xs u v ⊎ (edge u v ≡ x) ⊎ (edge v u ≡ x)
joins-last xs x u v (inl m) = ⊎_elim (λ a. inl (inl a)) (λ a. inr (inl (Memᴰ.eq_of_singleton a))) (Memᴰ.append_cases xs m)
joins-last xs x u v (inr m) = ⊎_elim (λ a. inl (inr a)) (λ a. inr (inr (Memᴰ.eq_of_singleton a))) (Memᴰ.append_cases xs m)

-- one more line of a pair that stood before joins no other
joins_again : (xs : List Line) (u v : ℕ) → HasPair xs u v → (c d : ℕ) → HasPair (xs ++ (edge u v ∷ [])) c d → HasPair xs c d
joins_again xs u v h c d j = go (joins-last xs (edge u v) c d j)
  where
    go : HasPair xs c d ⊎ (edge c d ≡ edge u v) ⊎ (edge d c ≡ edge u v) → HasPair xs c d
    go (inl k) = k
    go (inr (inl e)) = subst₂ (HasPair xs) (sym (edge-first c d u v e)) (sym (edge-second c d u v e)) h
    go (inr (inr e)) = joins_swap xs d c (subst₂ (HasPair xs) (sym (edge-first d c u v e)) (sym (edge-second d c u v e)) h)

-- ---- the table of the lines

module _ (n : ℕ) where
  -- without an edge it is all 0
  pub table_none : (xs : List Line) → ((u v : ℕ) → HasPair xs u v → ⊥) → Table n xs (replicate (n * n) 0)
  table_none xs h =
      record {
        size = length-replicate {A = ℕ} (n * n) 0;
        joined = λ u v hu hv j. absurd (h (suc u) (suc v) j);
        apart = λ u v hu hv f. get_or-replicate {A = ℕ} (n * n) (u * n + v) 0 0 (cell_within n u v hu hv);
      }

  -- a line that is no e line leaves it
  pub table_keeps : (xs : List Line) (x : Line) (t : List ℕ) → ((u v : ℕ) → edge u v ≡ x → ⊥) → Table n xs t → Table n (xs ++ (x ∷ [])) t
  table_keeps xs x t h a =
      record {
        size = a.size;
        joined = λ u v hu hv j. a.joined u v hu hv (back (suc u) (suc v) (joins-last xs x (suc u) (suc v) j));
        apart = λ u v hu hv f. a.apart u v hu hv (λ j. f (joins-more xs (x ∷ []) (suc u) (suc v) j));
      }
    where
      back : (u v : ℕ) → HasPair xs u v ⊎ (edge u v ≡ x) ⊎ (edge v u ≡ x) → HasPair xs u v
      back u v (inl j) = j
      back u v (inr (inl e)) = absurd (h u v e)
      back u v (inr (inr e)) = absurd (h v u e)

  module _ (xs : List Line) (t : List ℕ) (a : Table n xs t) where
    -- an e line extends it by its pair
    pub table-joins : (u v : ℕ) → u < n → v < n → Table n (xs ++ (edge (suc u) (suc v) ∷ [])) (with_pair 1 n u v t)
    unfolding with_pair
    table-joins u v hu hv =
        record {
          size = pair_length 1 n u v t ∙ a.size;
          joined = λ c d hc hd j. here c d hc hd (joins-last xs (edge (suc u) (suc v)) (suc c) (suc d) j);
          apart = λ c d hc hd f.
              pair_others 1 n u v t (c * n + d)
              (λ e. let q = cell_one n c d u v hd hv e in f (inl (Memᴰ.append_right xs (Memᴰ.head (ap₂ edge (ap suc q.0) (ap suc q.1))))))
              (λ e. let q = cell_one n c d v u hd hu e in f (inr (Memᴰ.append_right xs (Memᴰ.head (ap₂ edge (ap suc q.1) (ap suc q.0))))))
              ∙ a.apart c d hc hd (λ j. f (joins-more xs (edge (suc u) (suc v) ∷ []) (suc c) (suc d) j));
        }
      where
        -- a byte that is 1 stays 1, and the byte that is set is 1
        stays : (s : List ℕ) (i j : ℕ) → i < length s → (get_or s i 0 ≡ 1) ⊎ (i ≡ j) → get_or (set s j 1) i 0 ≡ 1
        stays s i j h o = go (eqb i j) refl o
          where
            go : (b : Bool) → eqb i j ≡ b → (get_or s i 0 ≡ 1) ⊎ (i ≡ j) → get_or (set s j 1) i 0 ≡ 1
            go true e o = subst (λ (k : ℕ). get_or (set s k 1) i 0 ≡ 1) (eqb-true i j e) (get_or-set_same s i 1 0 h)
            go false e (inl q) = get_or-set_other s j i 1 0 (eqb-false i j e) ∙ q
            go false e (inr q) = absurd (eqb-false i j e q)

        both : (c d : ℕ) → c < n → d < n → (get_or t (c * n + d) 0 ≡ 1) ⊎ (c * n + d ≡ u * n + v) ⊎ (c * n + d ≡ v * n + u)
            → get_or (set (set t (u * n + v) 1) (v * n + u) 1) (c * n + d) 0 ≡ 1
        both c d hc hd o = stays (set t (u * n + v) 1) (c * n + d) (v * n + u) (subst (λ (k : ℕ). c * n + d < k) (sym (length-set t (u * n + v) 1 ∙ a.size)) within) (first o)
          where
            within : c * n + d < n * n
            within = cell_within n c d hc hd

            first : (get_or t (c * n + d) 0 ≡ 1) ⊎ (c * n + d ≡ u * n + v) ⊎ (c * n + d ≡ v * n + u) → (get_or (set t (u * n + v) 1) (c * n + d) 0 ≡ 1) ⊎ (c * n + d ≡ v * n + u)
            first (inl q) = inl (stays t (c * n + d) (u * n + v) (subst (λ (k : ℕ). c * n + d < k) (sym a.size) within) (inl q))
            first (inr (inl q)) = inl (stays t (c * n + d) (u * n + v) (subst (λ (k : ℕ). c * n + d < k) (sym a.size) within) (inr q))
            first (inr (inr q)) = inr q

        at : (c d x y : ℕ) → edge (suc c) (suc d) ≡ edge (suc x) (suc y) → c * n + d ≡ x * n + y
        at c d x y e =
            ap₂ (λ (p q : ℕ). p * n + q) (suc_inj (edge-first (suc c) (suc d) (suc x) (suc y) e)) (suc_inj (edge-second (suc c) (suc d) (suc x) (suc y) e))

        here : (c d : ℕ) → c < n → d < n
            → HasPair xs (suc c) (suc d) ⊎ (edge (suc c) (suc d) ≡ edge (suc u) (suc v)) ⊎ (edge (suc d) (suc c) ≡ edge (suc u) (suc v))
            → get_or (set (set t (u * n + v) 1) (v * n + u) 1) (c * n + d) 0 ≡ 1
        here c d hc hd (inl j) = both c d hc hd (inl (a.joined c d hc hd j))
        here c d hc hd (inr (inl e)) = both c d hc hd (inr (inl (at c d u v e)))
        here c d hc hd (inr (inr e)) =
            both c d hc hd
            (inr (inr (ap₂ (λ (p q : ℕ). p * n + q) (suc_inj (edge-second (suc d) (suc c) (suc u) (suc v) e)) (suc_inj (edge-first (suc d) (suc c) (suc u) (suc v) e)))))

    -- the byte of a pair is 1 exactly where the lines join it
    pub byte_test : (u v : ℕ) → u < n → v < n → Test (eqb (get_or t (u * n + v) 0) 1) (HasPair xs (suc u) (suc v))
    byte_test u v hu hv = (there (joins_or_not xs (suc u) (suc v)), λ j. eq-eqb (get_or t (u * n + v) 0) 1 (a.joined u v hu hv j))
      where
        there : HasPair xs (suc u) (suc v) ⊎ (HasPair xs (suc u) (suc v) → ⊥) → eqb (get_or t (u * n + v) 0) 1 ≡ true → HasPair xs (suc u) (suc v)
        there (inl j) e = j
        there (inr f) e =
            let p = eqb-true (get_or t (u * n + v) 0) 1 e in
            let q = a.apart u v hu hv f in
            absurd (omega arith)

    -- the lines have one table
    pub table-one : (s : List ℕ) → Table n xs s → t ≡ s
    table-one s b = one_table n n t s a.size b.size (λ u v hu hv. go u v hu hv (joins_or_not xs (suc u) (suc v)))
      where
        go : (u v : ℕ) → u < n → v < n → HasPair xs (suc u) (suc v) ⊎ (HasPair xs (suc u) (suc v) → ⊥) → get_or t (u * n + v) 0 ≡ get_or s (u * n + v) 0
        go u v hu hv (inl j) = a.joined u v hu hv j ∙ sym (b.joined u v hu hv j)
        go u v hu hv (inr f) = a.apart u v hu hv f ∙ sym (b.apart u v hu hv f)

  -- a pair that stood before leaves it as it is
  pub joined_again : (xs : List Line) (t : List ℕ) → Table n xs t → (u v : ℕ) → u < n → v < n → HasPair xs (suc u) (suc v) → with_pair 1 n u v t ≡ t
  joined_again xs t a u v hu hv h =
      table-one (xs ++ (edge (suc u) (suc v) ∷ [])) (with_pair 1 n u v t) (table-joins xs t a u v hu hv) t
      (record {
        size = a.size;
        joined = λ c d hc hd j. a.joined c d hc hd (joins_again xs (suc u) (suc v) h (suc c) (suc d) j);
        apart = λ c d hc hd f. a.apart c d hc hd (λ j. f (joins-more xs (edge (suc u) (suc v) ∷ []) (suc c) (suc d) j));
      })
