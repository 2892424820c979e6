-- What a state and a work slice that stand for a position say of it: the entries of the three parts, what is taken and open, finished and dead.
-- Assumes nothing.
use Prim.Native.Nat.{ℕ, ◌+◌, ◌*◌, ◌≤◌, ◌<◌}
use mathlib.Core.Path.{◌≡◌, refl, sym, ap, ap₂, ◌∙◌}
use mathlib.Core.Bool.{Bool, true, false, ◌&&◌, not, or-false}
use mathlib.Core.List.{List, ◌++◌}
use mathlib.Core.Logic.{⊎_elim}
use native.Mathlib.Nat.{add-zero}
use native.Mathlib.Omega.{arith}
use lib.ListN.{length, get_or, take, drop, length-append, length-drop}
use lib.Seq.{take-append_seam}
use Rattle.std.proofs.lemmas.List.{length-take-le}
use lib.Dec.{eqb}
use borrow.Author.Tests.{eq-eqb, ne_eqb}
use Rattle.model.specs.Graph.{Graph, vertex_at}
use Rattle.model.specs.Groups.{Settings, within}
use Rattle.model.specs.Walk.{Position, has, finished}
use Rattle.model.specs.Listing.{is, adjacent, pivot, apart, left_neighbours, dead, taken_list, rules}
use Rattle.theory.proofs.Basics.Tests.{lt_or_ge, count_same}
use Rattle.theory.proofs.Basics.Parts.{part_length, part_at, part_same, part-front}
use Rattle.theory.specs.Parts.{part, StateKept}
use Rattle.theory.proofs.Basics.Passing.{map_at}
use Rattle.theory.proofs.Basics.PassingParts.{passing-count}
use Rattle.theory.proofs.Graph.Ranks.{vertex_at_lem}
use Rattle.theory.proofs.Walk.Moves.{has-found, has-none, finished-is}
use Rattle.theory.proofs.Graph.Degrees.{degree_le}
use Rattle.state.specs.State.{taken_ranks, left_of_pivot, left_ranks, Stands, Copied}
use Rattle.state.specs.declared.State.{State}
use Rattle.state.proofs.Taken.{taken_list_lem, taken-length, taken_at, taken-has, untaken_has, pivot-first, apart_none, degrees-bound}

-- what the first k entries are copied onto has them, and keeps its length
pub copied_part : {k : ℕ} (from before : List ℕ) {front : List ℕ} → k ≤ length from → k ≤ length before → front ≡ take k from → Copied k from before (front ++ drop k before)
copied_part {k} from before {front} h l e =
    let long : length (take k from) ≡ k = length-take-le k from h in
    rw e
    (record {
      front = ap (λ (m : ℕ). take m (take k from ++ drop k before)) (sym long) ∙ take-append_seam (take k from) (drop k before);
      length-kept = simp (length-append, length-drop) (omega (arith, long));
    })

-- ---- how many entries the parts have, and which

module _ (G : Graph) (p : Position) (w : List ℕ) (s : State) (St : Stands G p w s) where
  pub taken-count : length (taken_ranks G p) ≡ s.taken
  taken-count = ap length (sym St.ranks) ∙ part_length w 0 s.taken (omega arith)

  pub left-count : length (left_ranks G p) ≡ s.left
  left-count = ap length (sym St.left) ∙ part_length w (2 * G.size) s.left (omega arith)

  pub vertex-entry : (j : ℕ) → j < s.taken → get_or w (G.size + j) 0 ≡ get_or (taken_list G p) j 0
  vertex-entry j h = sym (part_at w G.size s.taken j h) ∙ ap (λ (l : List ℕ). get_or l j 0) St.vertices

  pub left-entry : (j : ℕ) → j < s.left → get_or w (2 * G.size + j) 0 ≡ get_or (left_ranks G p) j 0
  left-entry j h = sym (part_at w (2 * G.size) s.left j h) ∙ ap (λ (l : List ℕ). get_or l j 0) St.left

module _ {G : Graph} {p : Position} {w : List ℕ} {s : State} (St : Stands G p w s) where
  pub rank-entry : (j : ℕ) → j < s.taken → get_or w j 0 ≡ get_or (taken_ranks G p) j 0
  rank-entry j h =
      let z : 0 + j ≡ j = omega arith in
      ap (λ (i : ℕ). get_or w i 0) (sym z) ∙ sym (part_at w 0 s.taken j h) ∙ ap (λ (l : List ℕ). get_or l j 0) St.ranks

  -- part 1 holds the vertices at the ranks of part 0
  pub vertex_of_rank : (j : ℕ) → j < s.taken → get_or w (G.size + j) 0 ≡ vertex_at G (get_or (taken_ranks G p) j 0)
  vertex_of_rank j h =
      let k = taken-count G p w s St in
      vertex-entry G p w s St j h ∙ ap (λ (l : List ℕ). get_or l j 0) (taken_list_lem G p) ∙ map_at (vertex_at G) (taken_ranks G p) j (omega arith)

  -- its entries are vertices, and so is the first
  pub vertex_low : (j : ℕ) → j < s.taken → get_or w (G.size + j) 0 < G.size
  vertex_low j h =
      let k = taken-count G p w s St in
      let a = taken_at G p j (omega arith) in
      let b = (vertex_at_lem G (get_or (taken_ranks G p) j 0) a.0).0 in
      let e = vertex_of_rank j h in
      omega arith

  pub first_low : 0 < s.taken → get_or w G.size 0 < G.size
  first_low h =
      let a = vertex_low 0 h in
      let b = ap (λ (k : ℕ). get_or w k 0) (add-zero G.size) in
      omega arith

  pub rank_low : (j : ℕ) → j < s.taken → get_or w j 0 < s.decided
  rank_low j h =
      let k = taken-count G p w s St in
      let b = (taken_at G p j (omega arith)).1 in
      let e = rank-entry j h in
      ⊎_elim (λ l. l) (λ l. let z = St.still_open (get_or (taken_ranks G p) j 0) (omega arith) in absurd (omega arith)) (lt_or_ge (get_or w j 0) s.decided)

  -- no more neighbours of the pivot are left than there are ranks
  pub left-few : s.left ≤ G.size
  left-few = let a = St.left-bound in let b = St.bound in omega arith

  -- the pivot's vertex comes first in part 1
  pub pivot-entry : 0 < s.taken → get_or w G.size 0 ≡ vertex_at G (pivot G p)
  pivot-entry h =
      let k = taken-count G p w s St in
      let z : G.size + 0 ≡ G.size = omega arith in
      ap (λ (i : ℕ). get_or w i 0) (sym z) ∙ vertex_of_rank 0 h ∙ ap (vertex_at G) (pivot-first G p (omega arith)).2

  -- it stands with each work slice that has the same in its three parts
  stands_same : {u : List ℕ} → 8 * G.size ≤ length u → part u 0 s.taken ≡ part w 0 s.taken → part u G.size s.taken ≡ part w G.size s.taken
      → part u (2 * G.size) s.left ≡ part w (2 * G.size) s.left → Stands G p u s
  stands_same room ranks vertices left =
      record {
        long = St.long;
        room = room;
        bound = St.bound;
        taken-bound = St.taken-bound;
        left-bound = St.left-bound;
        bytes = St.bytes;
        decided = St.decided;
        still_open = St.still_open;
        ranks = ranks ∙ St.ranks;
        vertices = vertices ∙ St.vertices;
        left = left ∙ St.left;
        sum = St.sum;
        apart = St.apart;
      }

  -- and so with one that has the state's entries as they were
  pub stands-kept : {u : List ℕ} → StateKept G.size s.taken w u → Stands G p u s
  stands-kept {u} kept =
      let long = kept.length-kept in
      let room = St.room in
      let taken = St.taken-bound in
      let left = St.left-bound in
      let bound = St.bound in
      stands_same (omega arith)
      (part_same u w 0 s.taken long (λ i l. kept.taken_ranks_lem i (omega arith)))
      (part_same u w G.size s.taken long kept.members)
      (part_same u w (2 * G.size) s.left long (λ i l. kept.left_ranks_lem i (omega arith)))

  -- and with one into which the parts were copied
  pub stands_copied : {b u : List ℕ} → Copied (3 * G.size) w b u → 8 * G.size ≤ length b → Stands G p u s
  stands_copied {b} {u} c h =
      let long = c.length-kept in
      let taken = St.taken-bound in
      let left = St.left-bound in
      let bound = St.bound in
      let same = part-front (3 * G.size) u w c.front (omega arith) (let r = St.room in omega arith) in
      stands_same (omega arith) (same 0 s.taken (omega arith)) (same G.size s.taken (omega arith)) (same (2 * G.size) s.left (omega arith))

  -- ---- what is taken, and what is open

  pub none-taken : s.taken ≡ 0 → length (taken_ranks G p) ≡ 0
  none-taken e = taken-count G p w s St ∙ e

  pub some-taken : 0 < s.taken → 0 < length (taken_ranks G p)
  some-taken h = let k = taken-count G p w s St in omega arith

  pub no_open : G.size ≤ s.decided → has 0 p ≡ false
  no_open h = let l = St.long in has-none 0 p (λ r b. St.decided r (omega arith))

  pub some_open : s.decided < G.size → has 0 p ≡ true
  some_open h = let l = St.long in has-found 0 p s.decided (omega arith) (St.still_open s.decided (omega arith))

  has-none-taken : s.taken ≡ 0 → has 1 p ≡ false
  has-none-taken e = untaken_has G p St.long (none-taken e)

  has-taken : 0 < s.taken → has 1 p ≡ true
  has-taken h = taken-has G p St.long (some-taken h)

  -- ---- finished and dead

  finished_by : {a b : Bool} → has 0 p ≡ a → has 1 p ≡ b → finished p ≡ (not a && not b)
  finished_by e f = finished-is p St.bytes ∙ ap₂ (λ (x y : Bool). not x && not y) e f

  pub finished_open : s.decided < G.size → finished p ≡ false
  finished_open h = finished_by (some_open h) refl

  pub finished-decided : G.size ≤ s.decided → finished p ≡ eqb s.taken 0
  finished-decided h =
      ⊎_elim
      (λ l. finished_by (no_open h) (has-taken l) ∙ sym (ne_eqb s.taken 0 (λ z. omega arith)))
      (λ l. finished_by (no_open h) (has-none-taken (omega arith)) ∙ sym (eq-eqb s.taken 0 (omega arith)))
      (lt_or_ge 0 s.taken)

  -- the left neighbours of the pivot are counted
  left_is : 0 < s.taken → left_neighbours G p (pivot G p) ≡ s.left
  unfolding left_neighbours left_ranks
  left_is h =
      count_same G.size (λ r. is 2 p r && adjacent G (pivot G p) r) (left_of_pivot G p) (λ r l. rw (has-taken h))
      ∙ sym (passing-count G.size (left_of_pivot G p))
      ∙ left-count G p w s St

  -- Document 01, "The walk": two taken ranks are not adjacent
  pub dead-apart : (q : Settings) → s.apart ≡ true → (rules G q).dead p ≡ true
  unfolding dead
  dead-apart q e = rw (sym St.apart ∙ e)

  -- nothing is taken
  pub untaken_live : (q : Settings) → s.taken ≡ 0 → (rules G q).dead p ≡ false
  unfolding dead
  untaken_live q e = rw (has-none-taken e) (or-false (apart G p) ∙ apart_none G p (none-taken e))

  -- Document 01, "The walk": at least c neighbours of the pivot are left
  pub dead_by_left : (q : Settings) → 0 < s.taken → s.apart ≡ false → (rules G q).dead p ≡ not (within q.factor 1 s.left)
  unfolding dead
  dead_by_left q h e = rw (sym St.apart ∙ e, has-taken h, left_is h)

-- ---- in a graph of document 01's size

-- the sum of the degrees of the taken vertices is small
pub sum-small : {G : Graph} → G.size ≤ 1024 → {p : Position} {w : List ℕ} {s : State} → Stands G p w s → s.sum ≤ 1048576
sum-small {G} g {p} {w} {s} St =
    let a = degrees-bound G 1024 (λ v. omega (arith, degree_le G v)) (taken_list G p) in
    let b = taken-length G p ∙ taken-count G p w s St in
    let c = St.sum in
    let d = St.taken-bound in
    let e = St.bound in
    omega arith
