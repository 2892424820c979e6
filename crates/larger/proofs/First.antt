-- The search from the first candidate on, while all are in: it is tried before any mark is written, and with it the marks are written for the first time.
-- Assumes nothing.
use Prim.Native.Nat.{ℕ, zero, suc, ◌+◌, ◌-◌, ◌*◌, ◌≤◌, ◌<◌, zero-le}
use mathlib.Core.Path.{◌≡◌, refl, sym, ap, ap₂, ◌∙◌}
use mathlib.Core.Bool.{Bool, true, false, true≢false, ◌&&◌, not, cond}
use mathlib.Core.List.{List}
use mathlib.Core.Logic.{◌≢◌, ◌⊎◌, inl, inr}
use native.Mathlib.Omega.{arith}
use lib.ListN.{length, get_or, set, take}
use lib.Seq.{get_or-set_same, get_or-take, length-take-le}
use Rattle.model.specs.Below.{bit, count}
use Rattle.model.specs.Graph.{Graph, degree}
use Rattle.model.specs.Groups.{VertexSet, size_of}
use Rattle.theory.specs.Parts.{part}
use Rattle.theory.specs.Marks.{dropped, drop_out, all_in, still_in, count_in}
use Rattle.theory.specs.Search.{gather, degree_sum, find_larger}
use Rattle.theory.proofs.Basics.Parts.{part_length, part_at, kept-none, kept_set, kept_then, kept_wider}
use Rattle.theory.proofs.Basics.Tests.{lt_or_ge}
use Rattle.theory.proofs.Graph.Degrees.{degree_le}
use Rattle.theory.proofs.Search.Marks.{still_in_test, drop_at, dropped-joined, dropped-apart, dropped_most, count_same, count-all}
use Rattle.theory.proofs.Search.Marked.{search_marked, search_hopeless}
use Rattle.theory.proofs.Search.Steps.{marked_agree, marked_found, marked_hopeless, marked_next, with_here, with_apart}
use Rattle.graph.specs.Vertices.{VerticesOf}
use Rattle.graph.proofs.Vertices.{part-vertices}
use Rattle.isolation.specs.declared.criterion.Criterion.{Criterion}
use Rattle.isolation.specs.declared.Tally.{Tally}
use Rattle.isolation.specs.Numbers.{with_member, isolated_of, hopeless_of}
use Rattle.larger.specs.Numbers.{find_of, with_of, larger_of}
use Rattle.larger.specs.Places.{candidates_in, marks_in, KeptButMarks}
use Rattle.larger.specs.Search.{Lowest, Room, RoomBelow, Returned, Searched, SearchedBelow, Posed, Found}
use Rattle.larger.proofs.Marking.{DroppedIn}

-- numbers of at most 1,024, summed over the members
gather-small : (n : ℕ) (S : VertexSet) (f : ℕ → ℕ) → ((i : ℕ) → f i ≤ 1024) → gather ◌+◌ 0 n S f ≤ 1024 * count n S
unfolding gather count
gather-small zero S f h = zero-le
gather-small (suc n) S f h = go (S n) (gather-small n S f h)
  where
    go : (b : Bool) → gather ◌+◌ 0 n S f ≤ 1024 * count n S → cond b (gather ◌+◌ 0 n S f + f n) (gather ◌+◌ 0 n S f) ≤ 1024 * (bit b + count n S)
    go true k = let l = h n in omega arith
    go false k = omega arith

sum-small : (G : Graph) (S : VertexSet) → G.size ≤ 1024 → degree_sum G S ≤ 1024 * size_of G S
unfolding degree_sum size_of
sum-small G S h = gather-small G.size S (degree G) (λ i. let l = degree_le G i in omega arith)

-- the question is posed, in a graph of few vertices
module _ {G : Graph} {w : List ℕ} {q : Criterion} {y : Tally} {m : ℕ} (small : G.size ≤ 1024) (parts : 5 * G.size ≤ length w) (posed : Posed G w q y m) where
  abbrev n : ℕ
  n = G.size

  abbrev candidates : List ℕ
  candidates = part w (3 * n) m

  -- the candidates by place
  abbrev candidate : ℕ → ℕ
  candidate = candidates_in n w

  few : m ≤ n
  few = let f = posed.room in omega arith

  all-candidates : length candidates ≡ m
  all-candidates = let f = few in part_length w (3 * n) m (omega arith)

  entry : (e : ℕ) → e < length candidates → candidate e ≡ get_or candidates e 0
  entry e h = sym (part_at w (3 * n) m e (let l = all-candidates in omega arith))

  vertex_at : (e : ℕ) → e < m → candidate e < n
  vertex_at e h =
      let l = all-candidates in
      let a = (posed.candidates.sound e (omega arith)).0 in
      let p = part_at w (3 * n) m e h in
      omega arith

  pub sum_few : y.sum ≤ 1024 * y.members
  sum_few = let k = sum-small G posed.set small in let t = posed.tally.summed in let s = posed.tally.members in omega arith

  -- what is found where nothing larger is isolated with all of them
  pub first_hopeless : hopeless_of q y m 0 ≡ true → Found G w w q y m false
  first_hopeless e =
      record {
        answer =
            sym (search_hopeless G posed.loopless posed.symmetric _ _ posed.set posed.clique candidates posed.candidates _ _ _ _ posed.tally candidate entry
            (ap (λ (r : ℕ). hopeless_of q y r 0) all-candidates ∙ e));
        kept = kept-none _ _ w;
        on_no = λ f. inl refl;
      }

  -- where there is no candidate
  pub first_none : m ≡ 0 → Found G w w q y m false
  unfolding find_larger
  first_none e = record { answer = rw e refl; kept = kept-none _ _ w; on_no = λ f. inl refl }

  module _ (there : m ≢ 0) where
    -- there is a first one
    pub some : 1 ≤ m
    some = omega (arith, there)

    -- and it is in
    first_in : still_in all_in 0 ≡ true
    first_in = (still_in_test all_in 0).1 refl

    -- what the search over marks finds from place j on is what is asked for, where no degree of a candidate after the first is below low
    abbrev from : ℕ → ℕ → Bool
    from low j = find_of G q low candidate all_in y j (m - j)

    found-is : (low : ℕ) → ((e : ℕ) → 0 < e → e < m → low ≤ degree G (candidate e)) → larger_of G q y candidates ≡ from low 0
    found-is low lows =
        sym (search_marked G posed.loopless posed.symmetric _ _ posed.set posed.clique candidates posed.candidates _ _ _ _ posed.tally candidate entry low
        (λ e a b. lows e a (let l = all-candidates in omega arith)))
        ∙ ap (find_of G q low candidate all_in y 0) (all-candidates ∙ omega arith)

    -- the first is read as v
    module _ {v : ℕ} (reads : v ≡ get_or w (3 * n) 0) where
      v-is : v ≡ candidate 0
      v-is = reads ∙ ap (λ (k : ℕ). get_or w k 0) (omega arith)

      pub first-vertex : v < n
      first-vertex = let k = v-is in let l = vertex_at 0 some in omega arith

    -- it has degree d, and z has the numbers with it
    module _ {v d : ℕ} {z : Tally} (reads : v ≡ get_or w (3 * n) 0) (degree_is : (d ≡ degree G v) × (d ≤ n)) (more : z ≡ with_member y d) where
      with_degree_lem : z ≡ with_member y (degree G v)
      with_degree_lem = more ∙ ap (with_member y) degree_is.0

      pub first-depth : z.members ≡ y.members + 1
      first-depth = ap (λ (x : Tally). x.members) more

      first-sum : z.sum ≤ 1024 * z.members
      first-sum =
          let a = ap (λ (x : Tally). x.sum) more in
          let p = first-depth in
          let b = sum_few in
          let e = degree_is.1 in
          omega arith

      -- found, where the set with it is isolated
      pub first_found : true ≡ isolated_of q z → Found G w w q y m true
      first_found e =
          record {
            answer =
                sym (found-is 0 (λ i a b. omega arith)
                ∙ marked_found _ _ _ _ _ _ _ _ _ _ 0 m (let s = some in omega arith) first_in
                (ap (λ (u : ℕ). with_of G q 0 candidate all_in y u 1 (m - 1)) (sym (v-is reads))
                ∙ with_here _ _ _ _ _ _ _ _ _ _ _ _ _ (ap (isolated_of q) (sym with_degree_lem) ∙ sym e)));
            kept = kept-none _ _ w;
            on_no = λ f. absurd (true≢false f);
          }

      -- those after it
      pub others-vertices : VerticesOf n (part w (3 * n + 1) (3 * n + m - (3 * n + 1)))
      others-vertices =
          part-vertices n w (3 * n + 1) (3 * n + m - (3 * n + 1)) (λ e h.
          let place : 3 * n + 1 + e ≡ 3 * n + (1 + e) = omega arith in
          let l = vertex_at (1 + e) (omega arith) in
          rw place l)

      -- the set with it is not isolated; none of those after it has a degree below low, and the first one's mark is 0
      module _ (apart : isolated_of q z ≡ false) {low : ℕ} (lowest : Lowest G (part w (3 * n + 1) (3 * n + m - (3 * n + 1))) low) where
        lows : (e : ℕ) → 0 < e → e < m → low ≤ degree G (candidate e)
        lows e a b =
            let s = some in
            let l = part_length w (3 * n + 1) (3 * n + m - (3 * n + 1)) (let f = few in omega arith) in
            let k = lowest.least (e - 1) (omega arith) in
            let p = part_at w (3 * n + 1) (3 * n + m - (3 * n + 1)) (e - 1) (omega arith) in
            let place : 3 * n + 1 + (e - 1) ≡ 3 * n + e = omega arith in
            let q = ap (degree G) (p ∙ ap (λ (k : ℕ). get_or w k 0) place) in
            omega arith

        -- the slice then
        abbrev cleared : List ℕ
        cleared = set w (4 * n) 0

        kept-cleared : KeptButMarks n 0 m w cleared
        kept-cleared = let s = some in kept_set _ _ w w (kept-none _ _ w) (4 * n) 0 (omega arith) (omega arith)

        pub parts-cleared : 5 * n ≤ length cleared
        parts-cleared = let l = kept-cleared.length-kept in omega arith

        pub cleared-vertices : {front : List ℕ} → front ≡ take (4 * n) cleared → VerticesOf n (part front (3 * n + 1) (3 * n + m - (3 * n + 1)))
        cleared-vertices {front} q =
            let f = few in
            let s = some in
            let l = ap length q ∙ length-take-le (4 * n) cleared (let p = parts-cleared in omega arith) in
            part-vertices n front (3 * n + 1) (3 * n + m - (3 * n + 1)) (λ e h.
            let same = ap (λ (u : List ℕ). get_or u (3 * n + 1 + e) 0) q ∙ get_or-take (4 * n) cleared (3 * n + 1 + e) 0 (omega arith) ∙ kept-cleared.below (3 * n + 1 + e) (omega arith) in
            let place : 3 * n + 1 + e ≡ 3 * n + (1 + e) = omega arith in
            let l = vertex_at (1 + e) (omega arith) in
            rw (same, place) l)

        -- those not joined to it, `out` of them, have dropped out
        module _ {w₁ : List ℕ} {out : ℕ} (drops : DroppedIn G cleared all_in w₁ v z.members 1 m out) where
          kept-marked : KeptButMarks n 0 m w w₁
          kept-marked = kept_then kept-cleared (kept_wider drops.kept _ _ (omega arith) (omega arith))

          same_candidate : (e : ℕ) → e < n → candidates_in n w₁ e ≡ candidate e
          same_candidate e h = kept-marked.below (3 * n + e) (omega arith)

          cleared-candidate : (e : ℕ) → e < n → candidates_in n cleared e ≡ candidate e
          cleared-candidate e h = kept-cleared.below (3 * n + e) (omega arith)

          -- the marks, the first one's too
          marks-after : (e : ℕ) → 1 ≤ e → e < m → marks_in n w₁ e ≡ drop_out G candidate v z.members all_in e
          marks-after e h l =
              drops.marks e h l
              ∙ drop_at G (candidates_in n cleared) v z.members all_in e
              ∙ ap (λ (u : ℕ). dropped z.members (G.joined v u) 0) (cleared-candidate e (let f = few in omega arith))
              ∙ sym (drop_at G candidate v z.members all_in e)

          mark_first_is : marks_in n w₁ 0 ≡ 0
          mark_first_is =
              let s = some in
              let f = few in
              drops.kept.below (4 * n + 0) (omega arith)
              ∙ ap (λ (k : ℕ). get_or cleared k 0) (omega arith)
              ∙ get_or-set_same w (4 * n) 0 0 (omega arith)

          -- how many are in
          many-in : count_in all_in 1 (m - 1) ≡ m - 1
          many-in = count-all all_in 1 (m - 1) (λ e h l. refl)

          pub first-out : out ≤ m - 1
          first-out = let d = drops.out in let k = many-in in omega arith

          depth-most : (e : ℕ) → e < m → (e < 1) ⊎ (1 ≤ e) → marks_in n w₁ e ≤ z.members
          depth-most e h (inl l) = let p : e ≡ 0 = omega arith in rw p (let k = mark_first_is in omega arith)
          depth-most e h (inr l) =
              let k = marks-after e l h ∙ drop_at G candidate v z.members all_in e in
              let f = dropped_most z.members (G.joined v (candidate e)) 0 (omega arith) in
              omega arith

          pub room_first : RoomBelow n w₁ q z low 1 m (m - 1 - out)
          room_first =
              record {
                state = record {
                  order = some;
                  room = let p = first-depth in let r = posed.room in let s = some in omega arith;
                  few = few;
                  sum = first-sum;
                  low_small = lowest.small;
                  candidates = λ e h. let k = same_candidate e (let f = few in omega arith) in let l = vertex_at e h in omega arith;
                  depths = λ e h. depth-most e h (lt_or_ge e 1);
                  still = let d = drops.out in let k = many-in in omega arith;
                };
                none = λ e l q.
                    let p : e ≡ 0 = omega arith in
                    let k = mark_first_is in
                    let r = ap (marks_in n w₁) p in
                    let d = first-depth in
                    omega arith;
              }

          -- what is found with it
          abbrev below_first : Bool
          below_first = not (hopeless_of q z (m - 1 - out) low) && find_of G q low (candidates_in n w₁) (marks_in n w₁) z 1 (m - 1)

          with_first : below_first ≡ with_of G q low candidate all_in y (candidate 0) 1 (m - 1)
          with_first =
              ap₂ (λ (a b : Bool). not a && b)
              (ap₂ (λ (x : Tally) (l : ℕ). hopeless_of q x l low) with_degree_lem kept-is)
              (marked_agree _ _ _ _ (candidates_in n w₁) candidate (marks_in n w₁) (drop_out G candidate v (y.members + 1) all_in) _ _ _ _ 1 (m - 1)
              (λ e h l. same_candidate e (let f = few in let s = some in omega arith))
              (λ e h l. marks-after e h (let s = some in omega arith) ∙ ap (λ (k : ℕ). drop_out G candidate v k all_in e) first-depth)
              ∙ ap (λ (x : Tally). find_of G q low candidate (drop_out G candidate v (y.members + 1) all_in) x 1 (m - 1)) with_degree_lem)
              ∙ sym (with_apart _ _ _ _ _ _ _ _ _ _ _ _ _ (ap (isolated_of q) (sym with_degree_lem) ∙ apart))
              ∙ ap (λ (u : ℕ). with_of G q low candidate all_in y u 1 (m - 1)) (v-is reads)
            where
              kept-is : m - 1 - out ≡ count_in (drop_out G candidate v (y.members + 1) all_in) 1 (m - 1)
              kept-is =
                  (let d = drops.out in let k = many-in in omega arith)
                  ∙ count_same (marks_in n w₁) (drop_out G candidate v (y.members + 1) all_in) 1 (m - 1)
                  (λ e h l. marks-after e h (let s = some in omega arith) ∙ ap (λ (k : ℕ). drop_out G candidate v k all_in e) first-depth)

          module _ {w₂ : List ℕ} {r : Bool} (below : SearchedBelow G w₁ w₂ q z low 1 m (m - 1 - out) r) where
            kept-below : KeptButMarks n 0 m w w₂
            kept-below = kept_then kept-marked below.kept

            with_is : {b : Bool} → r ≡ b → with_of G q low candidate all_in y (candidate 0) 1 (m - 1) ≡ b
            with_is e = sym with_first ∙ sym below.answer ∙ e

            -- found with it
            pub below_found : r ≡ true → Found G w w₂ q y m true
            below_found e =
                record { answer = sym (found-is low lows ∙ marked_found _ _ _ _ _ _ _ _ _ _ 0 m (let s = some in omega arith) first_in (with_is e)); kept = kept-below; on_no = λ f. absurd (true≢false f) }

            module _ (nothing : r ≡ false) where
              passed-is : hopeless_of q y (count_in all_in 1 (m - 1)) low ≡ hopeless_of q y (m - 1) low
              passed-is = ap (λ (l : ℕ). hopeless_of q y l low) many-in

              -- the others are all in again, and so is the first
              all-again : (e : ℕ) → e < m → marks_in n w₂ e ≡ 0
              all-again e h = go (lt_or_ge e 1)
                where
                  back : Returned n w₁ w₂ z.members 1 m
                  back = below.on_no nothing

                  mark : (joined : Bool) → marks_in n w₁ e ≡ dropped z.members joined 0 → marks_in n w₂ e ≡ 0
                  mark true k = back.brings_back.others e h (λ d. let p = first-depth in let j = dropped-joined z.members 0 in omega arith) ∙ k ∙ dropped-joined z.members 0
                  mark false k = back.brings_back.back e h (k ∙ dropped-apart z.members)

                  go : (e < 1) ⊎ (1 ≤ e) → marks_in n w₂ e ≡ 0
                  go (inl l) =
                      let p : e ≡ 0 = omega arith in
                      ap (marks_in n w₂) p ∙ back.kept.below (4 * n + 0) (omega arith) ∙ mark_first_is
                  go (inr l) = mark (G.joined v (candidate e)) (marks-after e l h ∙ drop_at G candidate v z.members all_in e)

              -- left, where nothing larger is isolated
              pub below_hopeless : hopeless_of q y (m - 1) low ≡ true → Found G w w₂ q y m false
              below_hopeless e =
                  record {
                    answer = sym (found-is low lows ∙ marked_hopeless _ _ _ _ _ _ _ _ _ _ 0 m (let s = some in omega arith) first_in (with_is nothing) (passed-is ∙ e));
                    kept = kept-below;
                    on_no = λ f. inr all-again;
                  }

              -- else the others are searched
              pub room_others : Room n w₂ q y low 1 m (m - 1)
              room_others =
                  record {
                    order = some;
                    room = let r = posed.room in omega arith;
                    few = few;
                    sum = sum_few;
                    low_small = lowest.small;
                    candidates = λ e h. let k = kept-below.below (3 * n + e) (let f = few in omega arith) in let l = vertex_at e h in omega arith;
                    depths = λ e h. let k = all-again e h in omega arith;
                    still = sym (count-all (marks_in n w₂) 1 (m - 1) (λ e h l. all-again e (let s = some in omega arith)));
                  }

              pub others_found : hopeless_of q y (m - 1) low ≡ false → {w₃ : List ℕ} {b : Bool} → Searched G w₂ w₃ q y low 1 m b → Found G w w₃ q y m b
              others_found hope {w₃} {b} found =
                  record {
                    answer =
                        found.answer
                        ∙ marked_agree _ _ _ _ (candidates_in n w₂) candidate (marks_in n w₂) all_in _ _ _ _ 1 (m - 1)
                        (λ e h l. kept-below.below (3 * n + e) (let f = few in let s = some in omega arith))
                        (λ e h l. all-again e (let s = some in omega arith))
                        ∙ sym (marked_next _ _ _ _ _ _ _ _ _ _ 0 m (let s = some in omega arith) first_in (with_is nothing) (passed-is ∙ hope))
                        ∙ sym (found-is low lows);
                    kept = kept_then kept-below found.restored.kept;
                    on_no = λ f. inr (λ e h. ap (λ (u : List ℕ). marks_in n u e) (found.restored.on_no f) ∙ all-again e h);
                  }
