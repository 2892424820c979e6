-- The search for a larger isolated clique with a candidate added: those that are not joined to it drop out, and a return brings them back.
-- Assumes nothing.
use Prim.Native.Nat.{ℕ, ◌+◌, ◌-◌, ◌*◌, ◌≤◌, ◌<◌}
use mathlib.Core.Path.{◌≡◌, refl, sym, ap, ap₂, ◌∙◌, subst}
use mathlib.Core.Bool.{Bool, true, false, ◌&&◌, not, true≢false}
use mathlib.Core.List.{List}
use mathlib.Core.Logic.{◌⊎◌, inl, inr}
use native.Mathlib.Omega.{arith}
use lib.ListN.{length, get_or, take}
use lib.Seq.{ext_get_or, get_or-take, length-take-le}
use Rattle.graph.specs.Vertices.{VerticesOf}
use Rattle.graph.proofs.Vertices.{part-vertices}
use Rattle.theory.specs.Parts.{part}
use Rattle.model.specs.Graph.{Graph, degree}
use Rattle.theory.specs.Marks.{dropped, drop_out, BringsBack, count_in}
use Rattle.theory.proofs.Basics.Tests.{lt_or_ge}
use Rattle.theory.proofs.Basics.Parts.{kept-none, kept_wider, kept_then}
use Rattle.larger.proofs.Marking.{DroppedIn, lent_marks, with_marks, marks_returned}
use Rattle.theory.proofs.Search.Cut.{hopeless_fewer}
use Rattle.theory.proofs.Search.Marks.{drop_at, dropped_most, return_undoes, count_most, count_same, drop_fewer, none_dropped}
use Rattle.theory.proofs.Search.Steps.{marked_agree, with_here, with_hopeless, with_apart}
use Rattle.isolation.specs.declared.criterion.Criterion.{Criterion}
use Rattle.isolation.specs.declared.Tally.{Tally}
use Rattle.isolation.specs.Numbers.{with_member, isolated_of, hopeless_of}
use Rattle.larger.specs.Numbers.{find_of, with_of}
use Rattle.larger.specs.Places.{candidates_in, marks_in, marks_of, KeptButMarks}
use Rattle.larger.specs.Search.{Room, RoomWith, RoomBelow, Restored, Returned, Searched, SearchedWith, SearchedBelow}

-- what is left behind where the answer is yes, and where it is no and the slice is as it was
pub restored-yes : {n m : ℕ} {w w₁ : List ℕ} → KeptButMarks n 0 m w w₁ → Restored n m w w₁ true
restored-yes k = record { kept = k; on_no = λ e. absurd (true≢false e) }

pub restored_no : {n m : ℕ} {w w₁ : List ℕ} → w₁ ≡ w → Restored n m w w₁ false
restored_no {n} {m} {w} e = record { kept = subst (KeptButMarks n 0 m w) (sym e) (kept-none _ _ w); on_no = λ f. e }

-- there are no more candidates still in than there are left
pub left-few : {n : ℕ} {w : List ℕ} {q : Criterion} {y : Tally} {low i m left : ℕ} → Room n w q y low i m left → left ≤ m - i
left-few {n} {w} {i = i} {m = m} room = let k = count_most (marks_in n w) i (m - i) in let e = room.still in omega arith

-- the candidate v is to be added, in a graph of few vertices, with a slice that is long enough
pub record Asked (G : Graph) (w : List ℕ) (q : Criterion) (y : Tally) (low v i m left : ℕ) : Type 0 where
  pub small : G.size ≤ 1024
  pub parts : 5 * G.size ≤ length w
  pub room : RoomWith G.size w q y low v i m left

-- the candidate v is added
module _ {G : Graph} {w : List ℕ} {q : Criterion} {y : Tally} {low v i m left : ℕ} (asked : Asked G w q y low v i m left) where
  abbrev n : ℕ
  n = G.size

  abbrev room : RoomWith n w q y low v i m left
  room = asked.room

  abbrev state : Room n w q y low i m left
  state = room.state

  -- the candidates that are lent are vertices
  pub lent-vertices : {front : List ℕ} → front ≡ take (4 * n) w → VerticesOf n (part front (3 * n + i) (3 * n + m - (3 * n + i)))
  lent-vertices {front} q =
      let f = state.few in
      let o = state.order in
      let l = ap length q ∙ length-take-le (4 * n) w (let p = asked.parts in omega arith) in
      part-vertices n front (3 * n + i) (3 * n + m - (3 * n + i)) (λ e h.
      let same = ap (λ (u : List ℕ). get_or u (3 * n + i + e) 0) q ∙ get_or-take (4 * n) w (3 * n + i + e) 0 (omega arith) in
      let place : 3 * n + i + e ≡ 3 * n + (i + e) = omega arith in
      let vertex = state.candidates (i + e) (omega arith) in
      rw (same, place) vertex)

  -- v has degree d, and z has the numbers with it
  module _ {d : ℕ} {z : Tally} (reads : (d ≡ degree G v) × (d ≤ G.size)) (more : z ≡ with_member y d) where
    with_degree_lem : z ≡ with_member y (degree G v)
    with_degree_lem = more ∙ ap (with_member y) reads.0

    pub depth_is : z.members ≡ y.members + 1
    depth_is = ap (λ (x : Tally). x.members) more

    -- the sum of degrees stays small
    pub sum_with : z.sum ≤ 1024 * z.members
    sum_with =
        let a = ap (λ (x : Tally). x.sum) more in
        let p = depth_is in
        let b = state.sum in
        let e = reads.1 in
        omega arith

    -- found, where the set with v is isolated
    pub with_found : true ≡ isolated_of q z → SearchedWith G w w q y low v i m true
    with_found e =
        record {
          answer = sym (with_here _ _ _ _ _ _ _ _ _ _ _ _ _ (ap (isolated_of q) (sym with_degree_lem) ∙ sym e));
          restored = restored-yes (kept-none _ _ w);
        }

    module _ (apart : isolated_of q z ≡ false) where
      not_here : isolated_of q (with_member y (degree G v)) ≡ false
      not_here = ap (isolated_of q) (sym with_degree_lem) ∙ apart

      -- how many are in once v is added
      abbrev kept : ℕ
      kept = count_in (drop_out G (candidates_in n w) v (y.members + 1) (marks_in n w)) i (m - i)

      -- given up, where no larger set is isolated: the fewer that are in once v is added do not help
      pub with_given_up : hopeless_of q z left low ≡ true → SearchedWith G w w q y low v i m false
      with_given_up e = record { answer = sym (with_hopeless _ _ _ _ _ _ _ _ _ _ _ _ _ not_here leaves); restored = restored_no refl }
        where
          fewer : kept ≤ left
          fewer = let k = drop_fewer G (candidates_in n w) v (y.members + 1) (λ q. omega arith) (marks_in n w) i (m - i) in let s = state.still in omega arith

          leaves : hopeless_of q (with_member y (degree G v)) kept low ≡ true
          leaves =
              hopeless_fewer _ _ _ left _ _ _ _ kept fewer
              (ap (λ (x : Tally). hopeless_of q x left low) (sym with_degree_lem) ∙ e)

      -- v is added: the set with it is not isolated and a larger one may be; those not joined to it, `out` of them, have dropped out
      pub record Below (w₁ : List ℕ) (out : ℕ) : Type 0 where
        pub hope : hopeless_of q z left low ≡ false
        pub drops : DroppedIn G w (marks_in n w) w₁ v z.members i m out

      module _ {w₁ : List ℕ} {out : ℕ} (below : Below w₁ out) where
        abbrev drops : DroppedIn G w (marks_in n w) w₁ v z.members i m out
        drops = below.drops

        same-candidates : (e : ℕ) → e < n → candidates_in n w₁ e ≡ candidates_in n w e
        same-candidates e h = drops.kept.below (3 * n + e) (omega arith)

        -- no more have dropped out than were in
        pub out-few : out ≤ left
        out-few = let d = drops.out in let s = state.still in omega arith

        -- the state below v
        pub parts-below : 5 * n ≤ length w₁
        parts-below = let l = drops.kept.length-kept in omega arith

        -- whether the candidate at place e is joined to v
        abbrev joins_at : ℕ → Bool
        joins_at e = G.joined v (candidates_in n w e)

        marks-below : (e : ℕ) → i ≤ e → e < m → marks_in n w₁ e ≡ dropped z.members (joins_at e) (marks_in n w e)
        marks-below e h l = drops.marks e h l ∙ drop_at G (candidates_in n w) v z.members (marks_in n w) e

        below_depth : (e : ℕ) → e < m → marks_in n w e < z.members
        below_depth e h = let f = state.depths e h in let p = depth_is in omega arith

        depths-below : (e : ℕ) → e < m → (e < i) ⊎ (i ≤ e) → marks_in n w₁ e ≤ z.members
        depths-below e h (inl l) =
            let k = drops.kept.below (4 * n + e) (omega arith) in
            let f = below_depth e h in
            omega arith
        depths-below e h (inr l) =
            let k = marks-below e l h in
            let f = dropped_most z.members (joins_at e) (marks_in n w e) (let g = below_depth e h in omega arith) in
            omega arith

        room-below : Room n w₁ q z low i m (left - out)
        room-below =
            let few = state.few in
            record {
              order = state.order;
              room = let p = depth_is in let f = room.more in omega arith;
              few = few;
              sum = sum_with;
              low_small = state.low_small;
              candidates = λ e h. let k = same-candidates e (omega arith) in let l = state.candidates e h in omega arith;
              depths = λ e h. depths-below e h (lt_or_ge e i);
              still = let d = drops.out in let s = state.still in omega arith;
            }

        pub room_added : RoomBelow n w₁ q z low i m (left - out)
        room_added =
            record {
              state = room-below;
              none = λ e l q.
                  let o = state.order in
                  let k = drops.kept.below (4 * n + e) (omega arith) in
                  let f = below_depth e (omega arith) in
                  omega arith;
            }

        -- as many are in as the search over marks counts, and it finds the same
        kept-is : kept ≡ left - out
        kept-is =
            count_same _ (marks_in n w₁) i (m - i)
            (λ e h l. ap (λ (k : ℕ). drop_out G (candidates_in n w) v k (marks_in n w) e) (sym depth_is) ∙ sym (drops.marks e h (let o = state.order in omega arith)))
            ∙ sym room-below.still

        found-below : find_of G q low (candidates_in n w₁) (marks_in n w₁) z i (m - i)
            ≡ find_of G q low (candidates_in n w) (drop_out G (candidates_in n w) v (y.members + 1) (marks_in n w)) (with_member y (degree G v)) i (m - i)
        found-below =
            marked_agree _ _ _ _ (candidates_in n w₁) (candidates_in n w) (marks_in n w₁) (drop_out G (candidates_in n w) v (y.members + 1) (marks_in n w)) _ _ _ _ i (m - i)
            (λ e h l. same-candidates e (let f = state.few in let o = state.order in omega arith))
            (λ e h l. drops.marks e h (let o = state.order in omega arith) ∙ ap (λ (k : ℕ). drop_out G (candidates_in n w) v k (marks_in n w) e) depth_is)
            ∙ ap (λ (x : Tally). find_of G q low (candidates_in n w) (drop_out G (candidates_in n w) v (y.members + 1) (marks_in n w)) x i (m - i)) with_degree_lem

        -- what is found with v
        answer-with : (not (hopeless_of q z (left - out) low) && find_of G q low (candidates_in n w₁) (marks_in n w₁) z i (m - i))
            ≡ with_of G q low (candidates_in n w) (marks_in n w) y v i (m - i)
        answer-with =
            ap₂ (λ (a b : Bool). not a && b)
            (ap₂ (λ (x : Tally) (l : ℕ). hopeless_of q x l low) with_degree_lem (sym kept-is)) found-below
            ∙ sym (with_apart _ _ _ _ _ _ _ _ _ _ _ _ _ not_here)

        -- what is written below v is written from v on
        kept_both : {w₂ : List ℕ} → KeptButMarks n 0 m w₁ w₂ → KeptButMarks n 0 m w w₂
        kept_both k = kept_then (kept_wider drops.kept _ _ (omega arith) (omega arith)) k

        entry-same : {w₂ : List ℕ} → KeptButMarks n i m w₁ w₂ → ((e : ℕ) → i ≤ e → e < m → marks_in n w₂ e ≡ marks_in n w e)
            → (e : ℕ) → (e < 4 * n + i) ⊎ (4 * n + i ≤ e) → (e < 4 * n + m) ⊎ (4 * n + m ≤ e) → get_or w₂ e 0 ≡ get_or w e 0
        entry-same k f e (inl h) l = k.below e h ∙ drops.kept.below e h
        entry-same k f e (inr h) (inr l) = k.above e l ∙ drops.kept.above e l
        entry-same {w₂} k f e (inr h) (inl l) =
            let q : 4 * n + (e - 4 * n) ≡ e = omega arith in
            subst (λ (k : ℕ). get_or w₂ k 0 ≡ get_or w k 0) q (f (e - 4 * n) (omega arith) (omega arith))

        -- so the slice is as it was where the marks are
        slice-same : {w₂ : List ℕ} → KeptButMarks n i m w₁ w₂ → ((e : ℕ) → i ≤ e → e < m → marks_in n w₂ e ≡ marks_in n w e) → w₂ ≡ w
        slice-same {w₂} k f =
            ext_get_or 0 w₂ w (k.length-kept ∙ drops.kept.length-kept) (λ e h. entry-same k f e (lt_or_ge e (4 * n + i)) (lt_or_ge e (4 * n + m)))

        -- where none has dropped out the slice is as it was, and what is found is found by the same search
        module _ (whole : out ≡ 0) where
          pub room_whole : Room n w₁ q z low i m left
          room_whole = subst (Room n w₁ q z low i m) (let d = drops.out in let s = state.still in omega arith) room-below

          unchanged : w₁ ≡ w
          unchanged =
              slice-same (kept-none _ _ w₁)
              (λ e h l.
              drops.marks e h l
              ∙ none_dropped G (candidates_in n w) v z.members (λ q. let p = depth_is in omega arith) (marks_in n w) i (m - i) as-many e h (let o = state.order in omega arith))
            where
              as-many : count_in (drop_out G (candidates_in n w) v z.members (marks_in n w)) i (m - i) ≡ count_in (marks_in n w) i (m - i)
              as-many =
                  count_same _ (marks_in n w₁) i (m - i) (λ e h l. sym (drops.marks e h (let o = state.order in omega arith)))
                  ∙ (let d = drops.out in omega arith)

          hopeful : {x : Bool} → x ≡ (not (hopeless_of q z (left - out) low) && x)
          hopeful {x} = ap (λ (b : Bool). not b && x) (sym (ap (λ (l : ℕ). hopeless_of q z l low) (let w = whole in omega arith) ∙ below.hope))

          pub with_whole : {w₂ : List ℕ} {r : Bool} → Searched G w₁ w₂ q z low i m r → SearchedWith G w w₂ q y low v i m r
          with_whole {w₂} {r} deep =
              record {
                answer = deep.answer ∙ hopeful ∙ answer-with;
                restored = record { kept = kept_both deep.restored.kept; on_no = λ e. deep.restored.on_no e ∙ unchanged };
              }

        -- else the search below v has returned where it found nothing, and so undone the drop
        pub with_some : {w₂ : List ℕ} {r : Bool} → SearchedBelow G w₁ w₂ q z low i m (left - out) r → SearchedWith G w w₂ q y low v i m r
        with_some {w₂} {r} deep =
            record {
              answer = deep.answer ∙ answer-with;
              restored = record { kept = kept_both deep.kept; on_no = λ e. undone (deep.on_no e) };
            }
          where
            undone : Returned n w₁ w₂ z.members i m → w₂ ≡ w
            undone back =
                slice-same back.kept
                (λ e h l.
                let below = marks-below e h l in
                return_undoes z.members (joins_at e) (marks_in n w e) (below_depth e l) (λ q. back.brings_back.back e l (below ∙ q))
                (λ q. back.brings_back.others e l (λ k. q (sym below ∙ k)) ∙ below))

-- ---- the return

-- with the last of the members added, whose depth is theirs
module _ {G : Graph} {w : List ℕ} {q : Criterion} {z : Tally} {low i m left : ℕ} (room : RoomBelow G.size w q z low i m left) where
  -- where nothing is found the search returns from the depth
  pub below_none : 5 * G.size ≤ length w → {w₁ : List ℕ} → w₁ ≡ w → (xs : List ℕ) → length xs ≡ length (lent_marks G.size w₁ i m)
      → BringsBack z.members (length (lent_marks G.size w₁ i m)) (marks_of (lent_marks G.size w₁ i m)) (marks_of xs)
      → (hopeless_of q z left low ≡ true) ⊎ (find_of G q low (candidates_in G.size w) (marks_in G.size w) z i (m - i) ≡ false)
      → SearchedBelow G w (with_marks G.size w₁ i m xs) q z low i m left false
  below_none parts {w₁} same xs long back none = record { answer = sym (nothing none); kept = kept_wider returned.kept _ _ (omega arith) (omega arith); on_no = λ e. returned }
    where
      nothing : {h f : Bool} → (h ≡ true) ⊎ (f ≡ false) → (not h && f) ≡ false
      nothing {f = f} (inl e) = ap (λ (b : Bool). not b && f) e
      nothing {h} (inr e) = ap (λ (b : Bool). not h && b) e ∙ go h
        where
          go : (b : Bool) → (not b && false) ≡ false
          go true = refl
          go false = refl

      returned : Returned G.size w (with_marks G.size w₁ i m xs) z.members i m
      returned =
          subst (λ (u : List ℕ). Returned G.size u (with_marks G.size w₁ i m xs) z.members i m) same
          (marks_returned G.size w₁ i m room.state.order room.state.few (rw same parts) xs long (λ e h d. room.none e h (ap (λ (u : List ℕ). marks_in G.size u e) (sym same) ∙ d)) back)
