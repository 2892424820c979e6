-- The search over marks says what the search over the list says: its marks tell which candidates are joined to those added, and a branch that is hopeless by
-- the number of candidates still in finds nothing.
-- Assumes nothing.
use Prim.Native.Nat.{ℕ, zero, suc, ◌+◌, ◌-◌, ◌≤◌, ◌<◌, min, max}
use mathlib.Core.Path.{◌≡◌, refl, sym, ap, ap₂, ◌∙◌, subst}
use mathlib.Core.Bool.{Bool, true, false, ◌&&◌, ◌||◌, not, cond, false≢true, true≢false}
use mathlib.Core.List.{List, [], ◌∷◌, ◌++◌}
use mathlib.Core.Logic.{◌≢◌, ◌⊎◌, inl, inr}
use native.Mathlib.Omega.{arith}
use lib.ListN.{length, get_or}
use lib.Dec.{eqb}
use borrow.Author.Tests.{eq-eqb, ne_eqb}
use Rattle.model.specs.Graph.{Graph, degree}
use Rattle.model.specs.Groups.{Factor, VertexSet, size_of, with_vertex}
use Rattle.model.specs.Meaning.{In, Clique, Loopless, Symmetric}
use Rattle.theory.specs.Search.{JoinsAll, Tally, isolated_by, joined_all, find_larger, Listed, Candidates}
use Rattle.theory.specs.Bound.{hopeless}
use Rattle.theory.specs.Marks.{Marks, all_in, still_in, drop_out, dropped, count_in, find_marked}
use Rattle.theory.proofs.Basics.Tests.{passes_or_fails}
use Rattle.theory.proofs.Graph.Cliques.{further-joins}
use Rattle.theory.proofs.Search.Candidates.{joined_all_push, Ready, ready_start, ready_pass, first-vertex, ready_add}
use Rattle.theory.proofs.Search.Search.{Beyond}
use Rattle.theory.proofs.Search.Marks.{count-all}
use Rattle.theory.proofs.Search.Cut.{CandidateIn, counted-size, cut-sound}

-- the r candidates from place j on as a list
unfoldable pub list_from : (ℕ → ℕ) → ℕ → ℕ → List ℕ
list_from candidate j zero = []
list_from candidate j (suc r) = candidate j ∷ list_from candidate (suc j) r

-- it has r entries
from-length : (candidate : ℕ → ℕ) (j r : ℕ) → length (list_from candidate j r) ≡ r
unfolding list_from
from-length candidate j zero = refl
from-length candidate j (suc r) = ap suc (from-length candidate (suc j) r)

-- entry i is the candidate at place j + i
from_at : (candidate : ℕ → ℕ) (j r i : ℕ) → i < r → get_or (list_from candidate j r) i 0 ≡ candidate (j + i)
unfolding list_from
from_at candidate j zero i h = absurd (omega arith)
from_at candidate j (suc r) zero h = ap candidate (omega arith)
from_at candidate j (suc r) (suc i) h = from_at candidate (suc j) r i (omega arith) ∙ ap candidate (omega arith)

-- a list is that of its entries
from_list : (candidate : ℕ → ℕ) (j : ℕ) (vs : List ℕ) → ((i : ℕ) → i < length vs → candidate (j + i) ≡ get_or vs i 0) → list_from candidate j (length vs) ≡ vs
unfolding list_from
from_list candidate j [] f = refl
from_list candidate j (v ∷ vs) f =
    ap₂ {C = List ℕ} (λ (u : ℕ) (us : List ℕ). u ∷ us) (ap candidate (omega arith) ∙ f zero (omega arith))
    (from_list candidate (suc j) vs (λ i h. ap candidate (omega arith) ∙ f (suc i) (omega arith)))

-- the marks tell, of the r candidates from place j on, which are joined to those added: they are those still in
abbrev pub Tells : Graph → (ℕ → ℕ) → List ℕ → Marks → ℕ → ℕ → Type 0
Tells G candidate added marks j r = (e : ℕ) → j ≤ e → e < j + r → still_in marks e ≡ joined_all G (candidate e) added

module _ (G : Graph) (candidate : ℕ → ℕ) (marks : Marks) where
  -- they do with nothing added and every candidate still in
  tells_start : (j r : ℕ) → ((e : ℕ) → j ≤ e → e < j + r → marks e ≡ 0) → Tells G candidate [] marks j r
  unfolding still_in joined_all
  tells_start j r f e a b = eq-eqb (marks e) 0 (f e a b)

  module _ (added : List ℕ) (j r : ℕ) where
    -- they do with the first candidate passed over
    tells_pass : Tells G candidate added marks j (suc r) → Tells G candidate added marks (suc j) r
    tells_pass t e a b = t e (omega arith) (omega arith)

    -- and once v is added at a depth that is not 0
    tells_add : Symmetric G → (v d : ℕ) → v < G.size → d ≢ 0 → ((e : ℕ) → j ≤ e → e < j + r → candidate e < G.size)
        → Tells G candidate added marks j r → Tells G candidate (added ++ (v ∷ [])) (drop_out G candidate v d marks) j r
    unfolding still_in drop_out dropped
    tells_add symmetric v d h n f t e a b =
        stays (marks e) (eqb (marks e) 0) refl (G.joined v (candidate e))
        ∙ ap₂ (λ (x y : Bool). x && y) (t e a b) (symmetric v (candidate e) h (f e a b))
        ∙ sym (joined_all_push G (candidate e) added v)
      where
        stays : (mark : ℕ) (x : Bool) → eqb mark 0 ≡ x → (joined : Bool) → eqb (cond (x && not joined) d mark) 0 ≡ (x && joined)
        stays mark true q true = q
        stays mark true q false = ne_eqb d 0 n
        stays mark false q joined = q

-- one candidate: s, it is still in; a, it is joined to those added; kept and after, the branch with it and the branch past it are hopeless
one_candidate : (s a kept after here : Bool) {deeper found rest passed : Bool} → s ≡ a → rest ≡ passed → (a ≡ true → deeper ≡ found)
    → (a ≡ true → kept ≡ true → found ≡ false) → (after ≡ true → passed ≡ false)
    → cond s ((here || (not kept && deeper)) || (not after && rest)) rest ≡ ((a && (here || found)) || passed)
one_candidate true false kept after here same r d l g = absurd (true≢false same)
one_candidate false true kept after here same r d l g = absurd (false≢true same)
one_candidate false false kept after here same r d l g = r
one_candidate true true kept after true same r d l g = refl
one_candidate true true true true false same r d l g = ap₂ (λ (x y : Bool). x || y) (sym (l refl refl)) (sym (g refl))
one_candidate true true true false false same r d l g = ap₂ (λ (x y : Bool). x || y) (sym (l refl refl)) r
one_candidate true true false true false same r d l g = ap₂ (λ (x y : Bool). x || y) (d refl) (sym (g refl))
one_candidate true true false false false same r d l g = ap₂ (λ (x y : Bool). x || y) (d refl) r

module _ (G : Graph) (loopless : Loopless G) (symmetric : Symmetric G) (notion : ℕ) (c : Factor) (low : ℕ) (candidate : ℕ → ℕ) where
  -- of the r candidates from place j on, none has a degree below low
  abbrev LowFrom : ℕ → ℕ → Type 0
  LowFrom j r = (e : ℕ) → j ≤ e → e < j + r → low ≤ degree G (candidate e)

  -- a state of the search with the candidates as a list
  module _ (T : VertexSet) (added : List ℕ) (k sum least largest j r : ℕ) (ready : Ready G T added k sum least largest (list_from candidate j r)) where
    -- the candidates are vertices
    from-vertex : (e : ℕ) → j ≤ e → e < j + r → candidate e < G.size
    from-vertex e a b =
        let l = from-length candidate j r in
        subst (λ (v : ℕ). v < G.size) (from_at candidate j r (e - j) (omega arith) ∙ ap candidate (omega arith)) (ready.vertex (e - j) (omega arith))

    module _ (marks : Marks) (stays : (e : ℕ) → j ≤ e → e < j + r → joined_all G (candidate e) added ≡ true → still_in marks e ≡ true) where
      -- where every candidate that is joined to those added is still in, a larger clique has at most as many further members
      still-size : (b : Beyond G notion c T (list_from candidate j r)) → size_of G b.set ≤ k + count_in marks j r
      still-size b =
          let s = counted-size G b.set candidate marks j r T (λ w h. place w h (passes_or_fails (T w)) (b.listed w h)) in
          let m = ready.tally.members in
          omega arith
        where
          place : (w : ℕ) → In G b.set w → (T w ≡ true) ⊎ (T w ≡ false) → (T w ≡ true) ⊎ Listed w (list_from candidate j r)
              → (T w ≡ true) ⊎ CandidateIn candidate marks j r w
          place w h (inl e) m = inl e
          place w h (inr n) (inl e) = inl e
          place w h (inr n) (inr (i, l, s)) =
              let q = from-length candidate j r in
              let at = from_at candidate j r i (omega arith) in
              let joins = further-joins G T b.set b.passes.clique b.exceeds.contains w h n in
              let all = (ready.tested i l).1 (subst (JoinsAll G T) (sym s) joins) in
              inr (j + i, omega arith, omega arith, sym at ∙ s, stays (j + i) (omega arith) (omega arith) (ap (λ (v : ℕ). joined_all G v added) (sym at) ∙ all))

      -- so a branch that is hopeless by their number, and by a degree that no candidate is below, finds nothing
      cut_marked : LowFrom j r → hopeless notion c low (count_in marks j r) k sum least largest ≡ true
          → find_larger G notion c added k sum least largest (list_from candidate j r) ≡ false
      cut_marked lows =
          cut-sound G loopless symmetric notion c low T added k sum least largest (count_in marks j r) (list_from candidate j r) ready still-size
          (λ i h.
          let q = from-length candidate j r in
          subst (λ (v : ℕ). low ≤ degree G v) (sym (from_at candidate j r i (omega arith))) (lows (j + i) (omega arith) (omega arith)))

  -- of the same, none but perhaps the first has
  abbrev LowAfter : ℕ → ℕ → Type 0
  LowAfter j r = (e : ℕ) → j < e → e < j + r → low ≤ degree G (candidate e)

  -- where the marks tell which candidates are joined to those added, and no degree of a candidate after the first is below low, both searches say the same
  pub marked_same : (r : ℕ) (T : VertexSet) (added : List ℕ) (k sum least largest j : ℕ) (marks : Marks) → Ready G T added k sum least largest (list_from candidate j r)
      → Tells G candidate added marks j r → LowAfter j r
      → find_marked G notion c low candidate marks k sum least largest j r ≡ find_larger G notion c added k sum least largest (list_from candidate j r)
  unfolding list_from find_marked find_larger
  marked_same zero T added k sum least largest j marks ready tells lows = refl
  marked_same (suc r) T added k sum least largest j marks ready tells lows =
      one_candidate (still_in marks j) (joined_all G v added)
      (hopeless notion c low (count_in added_marks (suc j) r) (k + 1) (sum + degree G v) (min least (degree G v)) (max largest (degree G v)))
      (hopeless notion c low (count_in marks (suc j) r) k sum least largest)
      (isolated_by notion c (k + 1) (sum + degree G v) (min least (degree G v)) (max largest (degree G v)))
      (tells j (omega arith) (omega arith))
      (marked_same r T added k sum least largest (suc j) marks passed told (λ e a b. lows_after e (omega arith) b))
      (λ e. marked_same r (with_vertex v T) (added ++ (v ∷ [])) _ _ _ _ (suc j) added_marks (more e) told_added (λ i a b. lows_after i (omega arith) b))
      (λ e. cut_marked (with_vertex v T) (added ++ (v ∷ [])) _ _ _ _ (suc j) r (more e) added_marks (λ i a b q. told_added i a b ∙ q) lows_after)
      (cut_marked T added k sum least largest (suc j) r passed marks (λ i a b q. told i a b ∙ q) lows_after)
    where
      v : ℕ
      v = candidate j

      vs : List ℕ
      vs = list_from candidate (suc j) r

      vertex : v < G.size
      vertex = first-vertex G T added k sum least largest v vs ready

      passed : Ready G T added k sum least largest vs
      passed = ready_pass G T added k sum least largest v vs ready

      told : Tells G candidate added marks (suc j) r
      told = tells_pass G candidate marks added j r tells

      lows_after : LowFrom (suc j) r
      lows_after e a b = lows e (omega arith) (omega arith)

      more : joined_all G v added ≡ true
          → Ready G (with_vertex v T) (added ++ (v ∷ [])) (k + 1) (sum + degree G v) (min least (degree G v)) (max largest (degree G v)) vs
      more = ready_add G T added k sum least largest v vs ready loopless symmetric

      -- the marks with v added, which tell who is joined to it too
      added_marks : Marks
      added_marks = drop_out G candidate v (k + 1) marks

      told_added : Tells G candidate (added ++ (v ∷ [])) added_marks (suc j) r
      told_added = tells_add G candidate marks added (suc j) r symmetric v (k + 1) vertex (λ z. omega arith) (from-vertex T added k sum least largest (suc j) r passed) told

module _ (G : Graph) (loopless : Loopless G) (symmetric : Symmetric G) (notion : ℕ) (c : Factor) (S : VertexSet) (clique : Clique G S) (vs : List ℕ) (A : Candidates G S vs)
    (k sum least largest : ℕ) (t : Tally G S k sum least largest) (candidate : ℕ → ℕ) (entry : (e : ℕ) → e < length vs → candidate e ≡ get_or vs e 0) where
  same-list : list_from candidate 0 (length vs) ≡ vs
  same-list = from_list candidate 0 vs (λ i h. ap candidate (omega arith) ∙ entry i h)

  ready : Ready G S [] k sum least largest (list_from candidate 0 (length vs))
  ready = subst (Ready G S [] k sum least largest) (sym same-list) (ready_start G S k sum least largest vs clique t A)

  -- from the common neighbours of a clique, each still in and no degree of those after the first below low, both searches say the same
  pub search_marked : (low : ℕ) → ((e : ℕ) → 0 < e → e < length vs → low ≤ degree G (candidate e))
      → find_marked G notion c low candidate all_in k sum least largest 0 (length vs) ≡ find_larger G notion c [] k sum least largest vs
  search_marked low lows =
      marked_same G loopless symmetric notion c low candidate (length vs) S [] k sum least largest 0 all_in ready
      (tells_start G candidate all_in 0 (length vs) (λ e a b. refl)) (λ e a b. lows e a (omega arith))
      ∙ ap (find_larger G notion c [] k sum least largest) same-list

  -- and where it is hopeless with all of them, of whatever degree, nothing is found
  pub search_hopeless : hopeless notion c 0 (length vs) k sum least largest ≡ true → find_larger G notion c [] k sum least largest vs ≡ false
  unfolding still_in
  search_hopeless e =
      ap (find_larger G notion c [] k sum least largest) (sym same-list)
      ∙ cut_marked G loopless symmetric notion c 0 candidate S [] k sum least largest 0 (length vs) ready all_in (λ i a b q. still_in_all i) (λ i a b. omega arith)
      (ap (λ (r : ℕ). hopeless notion c 0 r k sum least largest) (count-all all_in 0 (length vs) (λ i h l. refl)) ∙ e)
    where
      still_in_all : (i : ℕ) → still_in all_in i ≡ true
      still_in_all i = refl
