-- The highest taken rank of a position opened or left: what is then taken, and how the state stands for it.
-- Assumes nothing.
use Prim.Native.Nat.{ℕ, suc, ◌+◌, ◌-◌, ◌*◌, ◌≤◌, ◌<◌}
use mathlib.Core.Path.{◌≡◌, sym, ap, ap₂, ◌∙◌}
use mathlib.Core.Bool.{Bool, true, false, cond, true≢false}
use mathlib.Core.List.{List, [], ◌∷◌, ◌++◌, map, map-append}
use mathlib.Core.Logic.{◌≢◌, ◌⊎◌, inl, inr, ⊎_elim}
use native.Mathlib.Omega.{arith}
use lib.ListN.{length, get_or, take, set, length-append, length-set, get_or-append}
use lib.Seq.{length-take-le, get_or-take, get_or-append-add, get_or_at, get_or-set_same, get_or-set_other, ext_get_or}
use lib.Dec.{eqb}
use borrow.Author.Tests.{eqb-true, eq-eqb, ne_eqb}
use Rattle.model.specs.Below.{least, passing}
use Rattle.model.specs.Graph.{Graph, degree, vertex_at}
use Rattle.model.specs.Walk.{Position, has, fresh, retreat}
use Rattle.model.specs.Listing.{is, pivot, apart, taken_list}
use Rattle.model.specs.Calls.{reopened}
use Rattle.theory.proofs.Basics.Tests.{fails, count_le, lt_or_ge, trichotomy}
use Rattle.theory.proofs.Basics.Parts.{part_length, part_at, part-take, part_pop}
use Rattle.theory.proofs.Basics.PassingParts.{passing-same, passing-below, passing-next, passing-count, passing-last, passing-cut, least_above}
use Rattle.theory.proofs.Calls.DeadPosition.{below-pivot}
use Rattle.theory.proofs.Walk.Moves.{retreat-is}
use Rattle.theory.proofs.Walk.Remaining.{open_zero, fresh_open, retreat-length}
use Rattle.theory.specs.Parts.{part}
use Rattle.state.specs.State.{taken_ranks, left_of_pivot, left_ranks, degrees_of, Stands}
use Rattle.state.specs.NextRank.{Decides, RanksOpened}
use Rattle.walk.specs.Walk.{Trimmed}
use Rattle.state.specs.declared.State.{State}
use Rattle.state.proofs.Taken.{Pair, apart_pairs, pair_in, degrees-more, taken_list_lem, taken-length, taken-has, left-none, pivot-first, pivot-is}
use Rattle.state.proofs.StandsFor.{taken-count, left-count, rank-entry, left-entry, rank_low, vertex_of_rank, left-few}
use Rattle.state.proofs.Opened.{opened, opened_length, opened_below, opened_above}

-- r is a taken rank of the position p of the graph G, and no taken rank is higher
pub record Highest (G : Graph) (p : Position) (r : ℕ) : Type 0 where
  pub long : length p ≡ G.size
  pub low : r < G.size
  pub one : get_or p r 0 ≡ 1
  pub top : (i : ℕ) → r < i → get_or p i 0 ≢ 1

-- ---- the position with it opened

module _ {G : Graph} {p : Position} {r : ℕ} (H : Highest G p r) where
  within : r ≤ length p
  within = let a = H.long in let b = H.low in omega arith

  abbrev rest : Position
  rest = opened r p

  same : (y i : ℕ) → i < r → is y p i ≡ is y rest i
  same y i l = ap (λ (m : ℕ). eqb m y) (sym (opened_below r p within i l))

  none : (y i : ℕ) → y ≢ 0 → r ≤ i → is y rest i ≡ false
  none y i o l = ne_eqb (get_or rest i 0) y (λ e. o (sym e ∙ opened_above r p within i l))

  ranks_popped : taken_ranks G p ≡ taken_ranks G rest ++ (r ∷ [])
  unfolding taken_ranks
  ranks_popped =
      passing-next G.size r (is 1 rest) (is 1 p) H.low (same 1) (λ i l. none 1 i (λ z. omega arith) l) (λ i l. ne_eqb (get_or p i 0) 1 (H.top i l))
      ∙ ap (λ (b : Bool). taken_ranks G rest ++ cond b (r ∷ []) []) (eq-eqb (get_or p r 0) 1 H.one)

  vertices_popped : taken_list G p ≡ taken_list G rest ++ (vertex_at G r ∷ [])
  vertices_popped =
      taken_list_lem G p ∙ ap (map (vertex_at G)) ranks_popped
      ∙ map-append (vertex_at G) (taken_ranks G rest) (r ∷ [])
      ∙ ap (λ (l : List ℕ). l ++ (vertex_at G r ∷ [])) (sym (taken_list_lem G rest))

  count_popped : length (taken_ranks G p) ≡ length (taken_ranks G rest) + 1
  count_popped = ap length ranks_popped ∙ length-append (taken_ranks G rest) (r ∷ [])

  long_opened : length rest ≡ G.size
  long_opened = opened_length r p within ∙ H.long

  -- at most r ranks below r are taken
  few-taken : length (taken_ranks G rest) ≤ r
  unfolding taken_ranks
  few-taken =
      let h = H.low in
      let a = passing-below G.size r (is 1 rest) (omega arith) (λ i l b. none 1 i (λ z. omega arith) l) in
      let b = ap length a ∙ passing-count r (is 1 rest) in
      let c = count_le r (is 1 rest) in
      omega arith

  taken_lower : (i : ℕ) → get_or rest i 0 ≡ 1 → i < r
  taken_lower i e = ⊎_elim (λ l. l) (λ l. let z = opened_above r p within i l in absurd (omega arith)) (lt_or_ge i r)

  -- the pivot stays where something else is taken
  module _ (some : 0 < length (taken_ranks G rest)) where
    pivot-kept : pivot G p ≡ pivot G rest
    pivot-kept =
        let t = pivot-first G rest some in
        let l = taken_lower (pivot G rest) t.1 in
        pivot-is G p (pivot G rest) t.0 (sym (opened_below r p within (pivot G rest) l) ∙ t.1)
        (λ i b e. below-pivot G rest i b (opened_below r p within i (omega arith) ∙ e))

    has_p : has 1 p ≡ true
    has_p = let a = count_popped in taken-has G p H.long (omega arith)

    -- the left neighbours below r are those of the opened position
    left_popped : left_ranks G rest ≡ passing r (left_of_pivot G p)
    unfolding left_ranks
    left_popped =
        let h = H.low in
        passing-below G.size r (left_of_pivot G rest) (omega arith) (λ i l b. rw (taken-has G rest long_opened some, none 2 i (λ z. omega arith) l))
        ∙ passing-same r (left_of_pivot G rest) (left_of_pivot G p) (λ i l. rw (taken-has G rest long_opened some, has_p, same 2 i l, pivot-kept))

  -- the taken ranks but the last decided one are pairwise adjacent, and so are those below r
  apart_popped : (d : ℕ) → r < d → d ≤ G.size → ((i : ℕ) → i < d → get_or p i 0 ≢ 0) → apart G (reopened p) ≡ false → apart G rest ≡ false
  unfolding reopened
  apart_popped d l m f e = fails (apart G rest) (λ a. true≢false (sym ((apart_pairs G (reopened p)).1 (up ((apart_pairs G rest).0 a))) ∙ e))
    where
      first : d ≤ least (length p) (is 0 p)
      first = let h = H.long in least_above (length p) (is 0 p) d (omega arith) (λ i b. ne_eqb (get_or p i 0) 0 (f i b))

      kept : (i : ℕ) → get_or rest i 0 ≡ 1 → get_or (reopened p) i 0 ≡ 1
      kept i a =
          let b = taken_lower i a in
          let g = first in
          get_or-set_other p (least (length p) (is 0 p) - 1) i 0 0 (λ z. omega arith) ∙ sym (opened_below r p within i b) ∙ a

      up : Pair G rest → Pair G (reopened p)
      up t = pair_in t (kept t.lower t.lower_taken) (kept t.higher t.higher_taken)

  -- leaving it instead
  pub retreat_decides : Decides r 2 (opened r p) (retreat p)
  retreat_decides =
      record {
        same_length = retreat-length p ∙ sym (opened_length r p within);
        before = λ i l.
            ap (λ (x : Position). get_or x i 0) moved
            ∙ get_or-append (take r p) (2 ∷ fresh (length p - suc r)) 0 i (omega (arith, length-take-le r p within))
            ∙ get_or-take r p i 0 l
            ∙ sym (opened_below r p within i l);
        there = ap (λ (x : Position). get_or x r 0) moved ∙ get_or_at (take r p) 2 (fresh (length p - suc r)) 0 r (length-take-le r p within);
        then_open = after;
      }
    where
      moved : retreat p ≡ take r p ++ (2 ∷ fresh (length p - suc r))
      moved = retreat-is p r H.one H.top

      after : (i : ℕ) → r < i → get_or (retreat p) i 0 ≡ 0
      after i l =
          let k = i - suc r in
          let b = length-take-le r p within in
          let e : i ≡ length (take r p) + suc k = omega arith in
          ap₂ (λ (x : Position) (j : ℕ). get_or x j 0) moved e
          ∙ get_or-append-add (take r p) (2 ∷ fresh (length p - suc r)) (suc k) 0
          ∙ open_zero (fresh (length p - suc r)) k (fresh_open (length p - suc r))

  -- what the stores into the position come to
  pub retreat_exit : {d : ℕ} → ((i : ℕ) → d ≤ i → get_or p i 0 ≡ 0) → {x : Position} → RanksOpened (r + 1) d (set p r 2) x → x ≡ retreat p
  retreat_exit {d} clear {x} C = ext_get_or 0 x (retreat p) (C.same_length ∙ length-set p r 2 ∙ sym (retreat-length p)) (λ i h. at i (trichotomy i r))
    where
      at : (i : ℕ) → (i < r) ⊎ (i ≡ r) ⊎ (r < i) → get_or x i 0 ≡ get_or (retreat p) i 0
      at i (inl l) =
          C.below i (omega arith) ∙ get_or-set_other p r i 2 0 (λ z. omega arith) ∙ sym (retreat_decides.before i l ∙ opened_below r p within i l)
      at i (inr (inl e)) =
          let a = H.long in
          let b = H.low in
          ap (λ (j : ℕ). get_or x j 0) e ∙ C.below r (omega arith) ∙ get_or-set_same p r 2 0 (omega arith) ∙ sym (ap (λ (j : ℕ). get_or (retreat p) j 0) e ∙ retreat_decides.there)
      at i (inr (inr l)) = opens (lt_or_ge i d) ∙ sym (retreat_decides.then_open i l)
        where
          opens : (i < d) ⊎ (d ≤ i) → get_or x i 0 ≡ 0
          opens (inl b) = C.cleared i (omega arith) b
          opens (inr b) = C.above i b ∙ get_or-set_other p r i 2 0 (λ z. omega arith) ∙ clear i b

-- ---- the state for it

-- r is the last entry of part 0
module _ {G : Graph} {p : Position} {w : List ℕ} {s : State} (St : Stands G p w s) (some : 0 < s.taken) {r : ℕ} (r-is : r ≡ get_or w (s.taken - 1) 0) where
  at_end : r ≡ get_or (taken_ranks G p) (s.taken - 1) 0
  at_end = r-is ∙ rank-entry St (s.taken - 1) (omega arith)

  -- it is the highest taken rank
  pub highest : Highest G p r
  unfolding taken_ranks
  highest =
      let t = passing-last G.size (is 1 p) (s.taken - 1) (taken-count G p w s St ∙ omega arith) in
      let e = at_end in
      let low = t.0 in
      record {
        long = St.long;
        low = omega arith;
        one = ap (λ (i : ℕ). get_or p i 0) e ∙ eqb-true (get_or p (get_or (taken_ranks G p) (s.taken - 1) 0) 0) 1 t.1;
        top = λ i l q.
            ⊎_elim
            (λ b. true≢false (sym (eq-eqb (get_or p i 0) 1 q) ∙ t.2 i (omega arith) b))
            (λ b. let c = St.bound in let z = St.still_open i (omega arith) in omega arith)
            (lt_or_ge i G.size);
      }

  pub highest-decided : r < s.decided
  highest-decided = let a = rank_low St (s.taken - 1) (omega arith) in omega arith

  popped_length : length (taken_ranks G (opened r p)) ≡ s.taken - 1
  popped_length = let a = count_popped highest in let c = taken-count G p w s St in omega arith

  -- part 1 ends with its vertex
  top_vertex : get_or w (G.size + (s.taken - 1)) 0 ≡ vertex_at G r
  top_vertex = vertex_of_rank St (s.taken - 1) (omega arith) ∙ ap (vertex_at G) (sym at_end)

  popped_left : {m : ℕ} → Trimmed (part w (2 * G.size) s.left) (s.taken - 1) r m → (part w (2 * G.size) m ≡ left_ranks G (opened r p)) × (m ≤ r)
  unfolding left_ranks
  popped_left {m} T = ⊎_elim others only (lt_or_ge 0 (s.taken - 1))
    where
      others : 0 < s.taken - 1 → (part w (2 * G.size) m ≡ left_ranks G (opened r p)) × (m ≤ r)
      others h =
          let low = highest.low in
          let f = left_popped highest (let e = popped_length in omega arith) in
          let c = left-count G p w s St in
          let long = part_length w (2 * G.size) s.left (let x = left-few St in let z = St.room in omega arith) in
          let fewer = T.fewer in
          let cut = passing-cut G.size r (left_of_pivot G p) m (omega arith) (omega arith)
          (λ j a b. let e = left-entry G p w s St j (omega arith) in let d = T.dropped h j a (omega arith) in let x = part_at w (2 * G.size) s.left j (omega arith) in omega arith)
          (λ a. let e = left-entry G p w s St (m - 1) (omega arith) in let d = T.last-kept a in let x = part_at w (2 * G.size) s.left (m - 1) (omega arith) in omega arith) in
          let whole = sym (part-take w (2 * G.size) s.left m (omega arith)) ∙ ap (take m) St.left ∙ cut in
          let n = ap length whole ∙ passing-count r (left_of_pivot G p) in
          let b = part_length w (2 * G.size) m (let x = left-few St in let z = St.room in omega arith) in
          (whole ∙ sym f, omega (arith, count_le r (left_of_pivot G p)))

      only : s.taken - 1 ≤ 0 → (part w (2 * G.size) m ≡ left_ranks G (opened r p)) × (m ≤ r)
      only h =
          let z = T.none (omega arith) in
          (ap (λ (j : ℕ). part w (2 * G.size) j) z ∙ sym (left-none G (opened r p) (long_opened highest) (popped_length ∙ omega arith)), omega arith)

  -- its vertex v and the degree e of it, as they are read
  module _ {v e : ℕ} (v_is : v ≡ get_or w (G.size + (s.taken - 1)) 0) (e-is : e ≡ degree G v) where
    -- the sum is that of the others and e
    pub last_sum : s.sum ≡ degrees_of G (taken_list G (opened r p)) + e
    last_sum =
        St.sum ∙ ap (degrees_of G) (vertices_popped highest) ∙ degrees-more G (taken_list G (opened r p)) (vertex_at G r)
        ∙ ap (λ (d : ℕ). degrees_of G (taken_list G (opened r p)) + d) (sym (e-is ∙ ap (degree G) (v_is ∙ top_vertex)))

    -- the state with rank r and all after it opened
    pub last_opened : apart G (reopened p) ≡ false → {m : ℕ} → Trimmed (part w (2 * G.size) s.left) (s.taken - 1) r m
        → Stands G (opened r p) w (record { decided = r; taken = s.taken - 1; left = m; sum = s.sum - e; apart = false })
    last_opened calm {m} T =
        let n = popped_length in
        let h = within highest in
        let low = highest.low in
        let few = few-taken highest in
        let d = highest-decided in
        let left = popped_left T in
        let count : s.taken - 1 + 1 ≡ s.taken = omega arith in
        record {
          long = long_opened highest;
          room = St.room;
          bound = omega arith;
          taken-bound = omega arith;
          left-bound = left.1;
          bytes = λ i.
              ⊎_elim
              (λ l. let e = opened_below r p h i l in let b = St.bytes i in omega arith)
              (λ l. let e = opened_above r p h i l in omega arith)
              (lt_or_ge i r);
          decided = λ i l e. St.decided i (omega arith) (sym (opened_below r p h i l) ∙ e);
          still_open = opened_above r p h;
          ranks = part_pop w 0 (s.taken - 1) r (taken_ranks G (opened r p)) n (ap (λ (j : ℕ). part w 0 j) count ∙ St.ranks ∙ ranks_popped highest);
          vertices =
              part_pop w G.size (s.taken - 1) (vertex_at G r) (taken_list G (opened r p)) (taken-length G (opened r p) ∙ n)
              (ap (λ (j : ℕ). part w G.size j) count ∙ St.vertices ∙ vertices_popped highest);
          left = left.0;
          sum = let a = last_sum in omega arith;
          apart = sym (apart_popped highest s.decided d St.bound St.decided calm);
        }
