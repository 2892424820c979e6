-- The numbers below n that pass a test, as a list: the candidates of a set, and the taken vertices in rank order.
-- Assumes nothing.
use Prim.Native.Nat.{ℕ, zero, suc, ◌+◌, ◌≤◌, ◌<◌}
use mathlib.Core.Path.{◌≡◌, refl, sym, ap, ◌∙◌, subst}
use mathlib.Core.Bool.{Bool, true, false, true≢false}
use mathlib.Core.List.{List, [], ◌∷◌, ◌++◌, map, append-nil}
use mathlib.Core.Logic.{◌⊎◌, inl, inr, ⊎_elim}
use native.Mathlib.Nat.{not-suc-le-zero, le-suc, le_trans}
use native.Mathlib.Numerals.{add-one}
use native.Mathlib.Omega.{arith}
use lib.ListN.{length, get_or, length-append, length-map, get_or-append}
use lib.Seq.{get_or-append_seam, get_or_at}
use Rattle.model.specs.Below.{passing}
use Rattle.model.specs.Graph.{Graph, rank_of, vertex_at}
use Rattle.model.specs.Groups.{VertexSet}
use Rattle.model.specs.Meaning.{In}
use Rattle.model.specs.Walk.{Position}
use Rattle.model.specs.Listing.{is, taken_set, taken_list}
use Rattle.theory.specs.Search.{common, Listed, Members, Candidates}
use Rattle.theory.proofs.Basics.Tests.{last_or_below, trichotomy}
use Rattle.theory.proofs.Graph.Ranks.{rank_below, vertex_at_lem, vertex_of}

-- what stands in a list with one more at its end
pub push_listed : (us : List ℕ) (v w : ℕ) → (w ≡ v) ⊎ Listed w us → Listed w (us ++ (v ∷ []))
push_listed us v w (inl e) = (length us, let l = length-append us (v ∷ []) in omega arith, get_or-append_seam us v [] 0 ∙ sym e)
push_listed us v w (inr (i, h, e)) = (i, let l = length-append us (v ∷ []) in omega arith, get_or-append us (v ∷ []) 0 i h ∙ e)

-- what stands in the longer list is the last or stood before
pub listed_push : (us : List ℕ) (v w : ℕ) → Listed w (us ++ (v ∷ [])) → (w ≡ v) ⊎ Listed w us
listed_push us v w (i, h, e) = go (trichotomy i (length us))
  where
    go : (i < length us) ⊎ (i ≡ length us) ⊎ (length us < i) → (w ≡ v) ⊎ Listed w us
    go (inl l) = inr (i, l, sym (get_or-append us (v ∷ []) 0 i l) ∙ e)
    go (inr (inl s)) = inl (sym e ∙ ap (λ (j : ℕ). get_or (us ++ (v ∷ [])) j 0) s ∙ get_or-append_seam us v [] 0)
    go (inr (inr l)) = let k = length-append us (v ∷ []) in absurd (omega arith)

-- the numbers below n that pass a test, as a list
module _ (p : ℕ → Bool) where
  -- below 0 there is none
  pub passing-none : passing 0 p ≡ []
  unfolding passing
  passing-none = refl

  -- n passes, so it is the last
  pub passing-hit : (n : ℕ) → p n ≡ true → passing (n + 1) p ≡ passing n p ++ (n ∷ [])
  unfolding passing
  passing-hit n e = rw (add-one n, e)

  -- n fails, so it is not in the list
  pub passing_miss : (n : ℕ) → p n ≡ false → passing (n + 1) p ≡ passing n p
  unfolding passing
  passing_miss n e = rw (add-one n, e) (append-nil (passing n p))

  -- those below n, where a loop that stops at n has gone up to v
  pub passing_end : (n v : ℕ) → v ≤ n → n ≤ v → passing n p ≡ passing v p
  passing_end n v h l = let e : n ≡ v = omega arith in ap (λ (u : ℕ). passing u p) e

  -- what is in the list is below n and passes
  pub passing-listed : (n v : ℕ) → Listed v (passing n p) → (v < n) × (p v ≡ true)
  passing-listed zero v m = absurd (none (subst (λ (l : List ℕ). Listed v l) passing-none m))
    where
      none : Listed v [] → ⊥
      none m = let h = m.1 in omega arith
  passing-listed (suc n) v m = go (p n) refl (passing-listed n v)
    where
      go : (b : Bool) → p n ≡ b → (Listed v (passing n p) → (v < n) × (p v ≡ true)) → (v < suc n) × (p v ≡ true)
      go true e ih =
          ⊎_elim
          (λ s. (omega arith, ap p s ∙ e))
          (λ r. let k = ih r in (le_trans k.0 (le-suc n), k.1))
          (listed_push (passing n p) n v (subst (λ (l : List ℕ). Listed v l) (ap (λ (j : ℕ). passing j p) (sym (add-one n)) ∙ passing-hit n e) m))
      go false e ih =
          let k = ih (subst (λ (l : List ℕ). Listed v l) (ap (λ (j : ℕ). passing j p) (sym (add-one n)) ∙ passing_miss n e) m) in
          (le_trans k.0 (le-suc n), k.1)

  -- what is below n and passes is in the list
  pub passing-has : (n v : ℕ) → v < n → p v ≡ true → Listed v (passing n p)
  passing-has zero v h e = absurd (not-suc-le-zero h)
  passing-has (suc n) v h e = go (p n) refl (passing-has n v)
    where
      go : (b : Bool) → p n ≡ b → (v < n → p v ≡ true → Listed v (passing n p)) → Listed v (passing (suc n) p)
      go true s ih =
          subst (λ (l : List ℕ). Listed v l) (sym (passing-hit n s) ∙ ap (λ (j : ℕ). passing j p) (add-one n))
          (push_listed (passing n p) n v (last_or_below h (λ d. inl d) (λ l. inr (ih l e))))
      go false s ih =
          subst (λ (l : List ℕ). Listed v l) (sym (passing_miss n s) ∙ ap (λ (j : ℕ). passing j p) (add-one n))
          (last_or_below h (λ d. absurd (true≢false (sym e ∙ ap p d ∙ s))) (λ l. ih l e))

  -- smallest first
  pub passing_rises : (n i j : ℕ) → i < j → j < length (passing n p) → get_or (passing n p) i 0 < get_or (passing n p) j 0
  passing_rises zero i j h l = absurd (none (subst (λ (u : List ℕ). j < length u) passing-none l))
    where
      none : j < 0 → ⊥
      none h = omega arith
  passing_rises (suc n) i j h l = go (p n) refl (passing_rises n i j h)
    where
      go : (b : Bool) → p n ≡ b → (j < length (passing n p) → get_or (passing n p) i 0 < get_or (passing n p) j 0) → get_or (passing (suc n) p) i 0 < get_or (passing (suc n) p) j 0
      go true e ih =
          subst (λ (u : List ℕ). get_or u i 0 < get_or u j 0) (sym (passing-hit n e) ∙ ap (λ (k : ℕ). passing k p) (add-one n))
          (at (trichotomy j (length (passing n p))))
        where
          short : j < length (passing n p) + 1
          short = subst (λ (k : ℕ). j < k) (ap (λ (k : ℕ). length (passing k p)) (sym (add-one n)) ∙ ap length (passing-hit n e) ∙ length-append (passing n p) (n ∷ [])) l

          at : (j < length (passing n p)) ⊎ (j ≡ length (passing n p)) ⊎ (length (passing n p) < j)
              → get_or (passing n p ++ (n ∷ [])) i 0 < get_or (passing n p ++ (n ∷ [])) j 0
          at (inl k) = rw (get_or-append (passing n p) (n ∷ []) 0 j k, get_or-append (passing n p) (n ∷ []) 0 i (omega arith)) (ih k)
          at (inr (inl k)) =
              let a = passing-listed n (get_or (passing n p) i 0) (i, omega arith, refl) in
              rw (get_or-append (passing n p) (n ∷ []) 0 i (omega arith), get_or_at (passing n p) n [] 0 j (sym k)) a.0
          at (inr (inr k)) = let s = short in absurd (omega arith)
      go false e ih =
          let s : passing n p ≡ passing (suc n) p = sym (passing_miss n e) ∙ ap (λ (k : ℕ). passing k p) (add-one n) in
          subst (λ (u : List ℕ). get_or u i 0 < get_or u j 0) s (ih (subst (λ (u : List ℕ). j < length u) (sym s) l))

  -- so each stands there once
  pub passing-once : (n i j : ℕ) → i < length (passing n p) → j < length (passing n p) → get_or (passing n p) i 0 ≡ get_or (passing n p) j 0 → i ≡ j
  passing-once n i j hi hj e = go (trichotomy i j)
    where
      go : (i < j) ⊎ (i ≡ j) ⊎ (j < i) → i ≡ j
      go (inl h) = let r = passing_rises n i j h hj in absurd (omega arith)
      go (inr (inl s)) = s
      go (inr (inr h)) = let r = passing_rises n j i h hi in absurd (omega arith)

-- so the vertices that pass the test are the candidates
pub passing-candidates : (G : Graph) (S : VertexSet) → Candidates G S (passing G.size (common G S))
passing-candidates G S =
    record {
      sound = λ i h. passing-listed (common G S) G.size (get_or (passing G.size (common G S)) i 0) (i, h, refl);
      complete = λ v h e. passing-has (common G S) G.size v h e;
    }

-- f of each of a list, read at a place in it
pub map_at : (f : ℕ → ℕ) (us : List ℕ) (i : ℕ) → i < length us → get_or (map f us) i 0 ≡ f (get_or us i 0)
map_at f [] i h = absurd (not-suc-le-zero h)
map_at f (u ∷ us) zero h = refl
map_at f (u ∷ us) (suc i) h = map_at f us i (omega arith)

-- a list of no entries is the empty one
pub no_entries : (us : List ℕ) → length us ≡ 0 → us ≡ []
no_entries [] e = refl
no_entries (u ∷ us) e = absurd (omega arith)

module _ (G : Graph) (p : Position) where
  abbrev ranks : List ℕ
  ranks = passing G.size (is 1 p)

  taken-length : length (taken_list G p) ≡ length ranks
  unfolding taken_list
  taken-length = length-map ranks (vertex_at G)

  taken_at : (i : ℕ) → i < length ranks → get_or (taken_list G p) i 0 ≡ vertex_at G (get_or ranks i 0)
  unfolding taken_list
  taken_at i h = map_at (vertex_at G) ranks i h

  taken-rank : (i : ℕ) → i < length ranks → (get_or ranks i 0 < G.size) × (is 1 p (get_or ranks i 0) ≡ true)
  taken-rank i h = passing-listed (is 1 p) G.size (get_or ranks i 0) (i, h, refl)

  -- a member has the rank that it is taken at
  rank_taken : (i : ℕ) → i < length ranks → rank_of G (get_or (taken_list G p) i 0) ≡ get_or ranks i 0
  rank_taken i h = ap (rank_of G) (taken_at i h) ∙ (vertex_at_lem G (get_or ranks i 0) (taken-rank i h).0).1

  taken_in : (r : ℕ) → r < G.size → is 1 p r ≡ true → In G (taken_set G p) (vertex_at G r)
  unfolding taken_set
  taken_in r h e = ((vertex_at_lem G r h).0, ap (is 1 p) (vertex_at_lem G r h).1 ∙ e)

  taken-listed : (v : ℕ) → In G (taken_set G p) v → Listed v (taken_list G p)
  unfolding taken_set
  taken-listed v h =
      let m = passing-has (is 1 p) G.size (rank_of G v) (rank_below G v h.0) h.1 in
      let l = taken-length in
      (m.0, omega arith, taken_at m.0 m.1 ∙ ap (vertex_at G) m.2 ∙ vertex_of G v h.0)

  taken-once : (i j : ℕ) → i < length ranks → j < length ranks → get_or (taken_list G p) i 0 ≡ get_or (taken_list G p) j 0 → i ≡ j
  taken-once i j hi hj e =
      passing-once (is 1 p) G.size i j hi hj
      (sym (vertex_at_lem G (get_or ranks i 0) (taken-rank i hi).0).1
      ∙ ap (rank_of G) (sym (taken_at i hi) ∙ e ∙ taken_at j hj)
      ∙ (vertex_at_lem G (get_or ranks j 0) (taken-rank j hj).0).1)

  -- the vertices whose ranks are taken, in rank order, are the members of the taken set
  pub taken-members : Members G (taken_set G p) (taken_list G p)
  taken-members =
      let l = taken-length in
      record {
        sound = λ i h.
            let r = taken-rank i (omega arith) in
            subst (λ (v : ℕ). In G (taken_set G p) v) (sym (taken_at i (omega arith))) (taken_in (get_or ranks i 0) r.0 r.1);
        complete = taken-listed;
        once = λ i j hi hj. taken-once i j (omega arith) (omega arith);
      }

  -- and their ranks rise
  pub taken_ranks_rise : (i j : ℕ) → i < j → j < length (taken_list G p) → rank_of G (get_or (taken_list G p) i 0) < rank_of G (get_or (taken_list G p) j 0)
  taken_ranks_rise i j h l =
      let m = taken-length in
      let e = rank_taken i (omega arith) in
      let f = rank_taken j (omega arith) in
      let r = passing_rises (is 1 p) G.size i j h (omega arith) in
      omega arith
