-- A pair of vertices that is joined or parted: the table with both its bytes written, the graph that is another but for the pair, and its degrees.
-- Assumes nothing.
use Prim.Native.Nat.{ℕ, zero, suc, ◌+◌, ◌*◌, ◌≤◌, ◌<◌}
use mathlib.Core.Path.{◌≡◌, refl, sym, ap, ap₂, ◌∙◌, subst}
use mathlib.Core.Bool.{Bool, true, false, not}
use mathlib.Core.Logic.{◌≢◌, ◌⊎◌, inl, inr, ⊎_elim}
use mathlib.Core.List.{List, [], ◌∷◌}
use native.Mathlib.Omega.{arith}
use lib.ListN.{length, get_or, set, length-set}
use lib.Seq.{get_or-set_same, get_or-set_other}
use lib.Dec.{eqb}
use Rattle.model.specs.Below.{bit, count}
use Rattle.model.specs.Graph.{Graph, by_table, with_pair, degree, degree_list}
use Rattle.model.specs.Meaning.{Simple}
use Rattle.model.specs.Edits.{moved, recount, ButFor}
use Rattle.theory.proofs.Basics.Tests.{test_and, test_eq, test_agree, count_same, one_of_two, holds_or_not, bit-one}
use Rattle.theory.proofs.Basics.Counting.{count_but}
use Rattle.theory.proofs.Graph.Table.{joined_at, joined_test, cell_one, cell_within}
use Rattle.theory.proofs.Graph.DegreeList.{degree_list-length, degree_list_at, degree_list-only}

-- ---- the table with x in both bytes of a pair

module _ (x n u v : ℕ) (t : List ℕ) where
  -- it is as long
  pub pair_length : length (with_pair x n u v t) ≡ length t
  unfolding with_pair
  pair_length = length-set (set t (u * n + v) x) (v * n + u) x ∙ length-set t (u * n + v) x

  -- every other byte is kept
  pub pair_others : (i : ℕ) → i ≢ u * n + v → i ≢ v * n + u → get_or (with_pair x n u v t) i 0 ≡ get_or t i 0
  unfolding with_pair
  pair_others i d e = get_or-set_other (set t (u * n + v) x) (v * n + u) i x 0 e ∙ get_or-set_other t (u * n + v) i x 0 d

-- u and v are two different vertices, and t is n × n bytes
pub record PairIn (n u v : ℕ) (t : List ℕ) : Type 0 where
  pub from-below : u < n
  pub to_below : v < n
  pub differ : u ≢ v
  pub whole : length t ≡ n * n

module _ {n u v : ℕ} {t : List ℕ} (p : PairIn n u v t) where
  module _ (x : ℕ) where
    -- the two bytes
    pub pair_there : get_or (with_pair x n u v t) (u * n + v) 0 ≡ x
    unfolding with_pair
    pair_there =
        get_or-set_other (set t (u * n + v) x) (v * n + u) (u * n + v) x 0 (λ e. p.differ (cell_one n u v v u p.to_below p.from-below e).0)
        ∙ get_or-set_same t (u * n + v) x 0 (omega (arith, p.whole, cell_within n u v p.from-below p.to_below))

    pub pair_back : get_or (with_pair x n u v t) (v * n + u) 0 ≡ x
    unfolding with_pair
    pair_back = get_or-set_same (set t (u * n + v) x) (v * n + u) x 0 (simp length-set (omega (arith, p.whole, cell_within n v u p.to_below p.from-below)))

    -- every byte is x or what it was
    pub pair_either : (i : ℕ) → (get_or (with_pair x n u v t) i 0 ≡ x) ⊎ (get_or (with_pair x n u v t) i 0 ≡ get_or t i 0)
    pair_either i = go (one_of_two i (u * n + v) (v * n + u))
      where
        go : (i ≡ u * n + v) ⊎ (i ≡ v * n + u) ⊎ ((i ≢ u * n + v) × (i ≢ v * n + u))
            → (get_or (with_pair x n u v t) i 0 ≡ x) ⊎ (get_or (with_pair x n u v t) i 0 ≡ get_or t i 0)
        go (inl e) = inl (ap (λ (k : ℕ). get_or (with_pair x n u v t) k 0) e ∙ pair_there)
        go (inr (inl e)) = inl (ap (λ (k : ℕ). get_or (with_pair x n u v t) k 0) e ∙ pair_back)
        go (inr (inr d)) = inr (pair_others x n u v t i d.0 d.1)

  -- the graph that it holds is the old one but for the pair
  pub pair_graph : (b : Bool) → ButFor b u v (by_table n t) (by_table n (with_pair (bit b) n u v t))
  pair_graph b =
      record {
        same_size = refl;
        there = joined_at n s u p.from-below v p.to_below ∙ ap (λ (k : ℕ). eqb k 1) (pair_there (bit b)) ∙ bit-one b;
        and_back = joined_at n s v p.to_below u p.from-below ∙ ap (λ (k : ℕ). eqb k 1) (pair_back (bit b)) ∙ bit-one b;
        elsewhere = λ x y d e.
            test_agree (joined_test n s x y) (joined_test n t x y)
            (λ r. (r.0, sym (kept x y r.0.1 d e) ∙ r.1))
            (λ r. (r.0, kept x y r.0.1 d e ∙ r.1));
      }
    where
      s : List ℕ
      s = with_pair (bit b) n u v t

      kept : (x y : ℕ) → y < n → ((x ≡ u) × (y ≡ v) → ⊥) → ((x ≡ v) × (y ≡ u) → ⊥) → get_or s (x * n + y) 0 ≡ get_or t (x * n + y) 0
      kept x y hy d e = pair_others (bit b) n u v t (x * n + y) (λ q. d (cell_one n x y u v hy p.to_below q)) (λ q. e (cell_one n x y v u hy p.from-below q))

-- ---- a graph that is another but for a pair, whatever table holds it

-- the pair has no direction
pub but_turned : {b : Bool} {u v : ℕ} {G H : Graph} → ButFor b u v G H → ButFor b v u G H
but_turned e = record { same_size = e.same_size; there = e.and_back; and_back = e.there; elsewhere = λ x y p q. e.elsewhere x y q p }

-- the pair of x and y is that of u and v, or is not
same_pair : (x y u v : ℕ) → ((x ≡ u) × (y ≡ v)) ⊎ ((x ≡ u) × (y ≡ v) → ⊥)
same_pair x y u v = holds_or_not (test_and (test_eq x u) (test_eq y v))

-- a graph of document 01 stays one
pub but_simple : {b : Bool} {u v : ℕ} {G H : Graph} → ButFor b u v G H → u ≢ v → Simple G → Simple H
but_simple {b} {u} {v} {G} {H} edit differ old =
    record {
      bounded = subst (λ (k : ℕ). k ≤ 1024) (sym edit.same_size) old.bounded;
      loopless = λ w h. edit.elsewhere w w (λ r. differ (sym r.0 ∙ r.1)) (λ r. differ (sym r.1 ∙ r.0)) ∙ old.loopless w (within h);
      symmetric = λ x y hx hy. go x y (within hx) (within hy) (same_pair x y u v) (same_pair x y v u);
    }
  where
    within : {w : ℕ} → w < H.size → w < G.size
    within {w} h = subst (λ (k : ℕ). w < k) edit.same_size h

    -- whichever of its two directions it is, the pair is joined where b says so
    alike : (x y a c : ℕ) → (x ≡ a) × (y ≡ c) → H.joined a c ≡ b → H.joined c a ≡ b → H.joined x y ≡ H.joined y x
    alike x y a c r e f = ap₂ H.joined r.0 r.1 ∙ e ∙ sym (ap₂ H.joined r.1 r.0 ∙ f)

    go : (x y : ℕ) → x < G.size → y < G.size → ((x ≡ u) × (y ≡ v)) ⊎ ((x ≡ u) × (y ≡ v) → ⊥) → ((x ≡ v) × (y ≡ u)) ⊎ ((x ≡ v) × (y ≡ u) → ⊥)
        → H.joined x y ≡ H.joined y x
    go x y hx hy (inl r) q = alike x y u v r edit.there edit.and_back
    go x y hx hy (inr d) (inl r) = alike x y v u r edit.and_back edit.there
    go x y hx hy (inr d) (inr e) =
        edit.elsewhere x y d e ∙ old.symmetric x y hx hy ∙ sym (edit.elsewhere y x (λ r. e (r.1, r.0)) (λ r. d (r.1, r.0)))

-- and there is one such graph
pub but_once : {b : Bool} {u v : ℕ} {G H K : Graph} → ButFor b u v G H → ButFor b u v G K → H ≡ K
but_once {b} {u} {v} {G} {H} {K} e f = λ i. record { size = (e.same_size ∙ sym f.same_size) i; joined = λ x y. at x y i }
  where
    at : (x y : ℕ) → H.joined x y ≡ K.joined x y
    at x y =
        ⊎_elim
        (λ r. ap₂ H.joined r.0 r.1 ∙ e.there ∙ sym (ap₂ K.joined r.0 r.1 ∙ f.there))
        (λ p.
        ⊎_elim
        (λ r. ap₂ H.joined r.0 r.1 ∙ e.and_back ∙ sym (ap₂ K.joined r.0 r.1 ∙ f.and_back))
        (λ q. e.elsewhere x y p q ∙ sym (f.elsewhere x y p q))
        (same_pair x y v u))
        (same_pair x y u v)

module _ {b : Bool} {u v : ℕ} {G H : Graph} (edit : ButFor b u v G H) where
  degree-size : (w : ℕ) → degree H w ≡ count G.size (H.joined w)
  unfolding degree
  degree-size w = ap (λ (n : ℕ). count n (H.joined w)) edit.same_size

  -- every other degree stays
  pub degree-other : (w : ℕ) → w ≢ u → w ≢ v → degree H w ≡ degree G w
  unfolding degree
  degree-other w d e = degree-size w ∙ count_same G.size (H.joined w) (G.joined w) (λ x l. edit.elsewhere w x (λ r. d r.0) (λ r. e r.0))

  -- the degree of an end is one more where the pair is then joined and was not, and one less where it is then parted and was joined
  pub degree-moved : v < G.size → u ≢ v → G.joined u v ≡ not b → degree H u ≡ moved b (degree G u)
  unfolding degree moved
  degree-moved h d was = degree-size u ∙ go b counted edit.there was
    where
      counted : count G.size (H.joined u) + bit (G.joined u v) ≡ count G.size (G.joined u) + bit (H.joined u v)
      counted = count_but G.size (H.joined u) (G.joined u) v h (λ x e. edit.elsewhere u x (λ r. e r.1) (λ r. d r.0))

      go : (b : Bool) → count G.size (H.joined u) + bit (G.joined u v) ≡ count G.size (G.joined u) + bit (H.joined u v)
          → H.joined u v ≡ b → G.joined u v ≡ not b → count G.size (H.joined u) ≡ moved b (count G.size (G.joined u))
      go true c s w = let p : bit (G.joined u v) ≡ 0 = ap bit w in let q : bit (H.joined u v) ≡ 1 = ap bit s in omega arith
      go false c s w = let p : bit (G.joined u v) ≡ 1 = ap bit w in let q : bit (H.joined u v) ≡ 0 = ap bit s in omega arith

-- ---- the list in which the degrees of both ends follow

module _ (b : Bool) (u : ℕ) (d : List ℕ) where
  pub recount-length : length (recount b u d) ≡ length d
  unfolding recount
  recount-length = length-set d u (moved b (get_or d u 0))

  pub recount_at : u < length d → get_or (recount b u d) u 0 ≡ moved b (get_or d u 0)
  unfolding recount
  recount_at h = get_or-set_same d u (moved b (get_or d u 0)) 0 h

  pub recount-other : (w : ℕ) → w ≢ u → get_or (recount b u d) w 0 ≡ get_or d w 0
  unfolding recount
  recount-other w e = get_or-set_other d u w (moved b (get_or d u 0)) 0 e

-- the two can follow in either order
pub recount_turned : (b : Bool) (u v : ℕ) (d : List ℕ) → recount b u (recount b v d) ≡ recount b v (recount b u d)
unfolding recount
recount_turned b u v [] = refl
recount_turned b zero zero (x ∷ d) = refl
recount_turned b zero (suc v) (x ∷ d) = refl
recount_turned b (suc u) zero (x ∷ d) = refl
recount_turned b (suc u) (suc v) (x ∷ d) = ap (λ (l : List ℕ). x ∷ l) (recount_turned b u v d)

-- the list in which both have followed is that of the new graph's degrees
pub degrees_follow : {b : Bool} {u v : ℕ} {G H : Graph} → ButFor b u v G H → u < G.size → v < G.size → u ≢ v → G.joined u v ≡ not b → G.joined v u ≡ not b
    → recount b u (recount b v (degree_list G)) ≡ degree_list H
degrees_follow {b} {u} {v} {G} {H} edit hu hv differ there back =
    degree_list-only H new (recount-length b u mid ∙ recount-length b v old ∙ degree_list-length G ∙ sym edit.same_size)
    (λ w h. at w (one_of_two w u v) (subst (λ (k : ℕ). w < k) edit.same_size h))
  where
    old : List ℕ
    old = degree_list G

    mid : List ℕ
    mid = recount b v old

    new : List ℕ
    new = recount b u mid

    within : {w : ℕ} → w < G.size → w < length old
    within {w} h = subst (λ (k : ℕ). w < k) (sym (degree_list-length G)) h

    at : (w : ℕ) → (w ≡ u) ⊎ (w ≡ v) ⊎ ((w ≢ u) × (w ≢ v)) → w < G.size → get_or new w 0 ≡ degree H w
    at w (inl e) h =
        ap (λ (k : ℕ). get_or new k 0) e
        ∙ recount_at b u mid (subst (λ (k : ℕ). u < k) (sym (recount-length b v old)) (within hu))
        ∙ ap (moved b) (recount-other b v old u differ ∙ degree_list_at G u hu)
        ∙ sym (ap (degree H) e ∙ degree-moved edit hv differ there)
    at w (inr (inl e)) h =
        ap (λ (k : ℕ). get_or new k 0) e
        ∙ recount-other b u mid v (λ q. differ (sym q))
        ∙ recount_at b v old (within hv)
        ∙ ap (moved b) (degree_list_at G v hv)
        ∙ sym (ap (degree H) e ∙ degree-moved (but_turned edit) hu (λ q. differ (sym q)) back)
    at w (inr (inr d)) h =
        recount-other b u mid w d.0 ∙ recount-other b v old w d.1 ∙ degree_list_at G w h ∙ sym (degree-other edit w d.0 d.1)
