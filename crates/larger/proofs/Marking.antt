-- The marks of the candidates, lent alone and written: a member is added, a return; and the loops that write them.
-- Assumes nothing.
use Prim.Native.Nat.{ℕ, ◌+◌, ◌-◌, ◌*◌, ◌≤◌, ◌<◌}
use mathlib.Core.Path.{◌≡◌, refl, sym, ap, ap₂, ◌∙◌, subst}
use mathlib.Core.Bool.{Bool, false}
use mathlib.Core.List.{List, ◌++◌}
use mathlib.Core.Logic.{◌⊎◌, inl, inr}
use native.Mathlib.Omega.{arith}
use lib.Dec.{eqb}
use lib.ListN.{length, get_or, set, take, drop, length-drop}
use borrow.Rule.Slice.PartMut.{put_mid}
use Rattle.theory.specs.Parts.{part}
use lib.Seq.{get_or-set_same, get_or-set_other, get_or-take, get_or-drop, take-add, drop-drop}
use Rattle.std.proofs.lemmas.List.{append_assoc}
use Rattle.theory.proofs.Basics.Parts.{part_length, part_at}
use Rattle.larger.proofs.Parts.{put_at, put_kept}
use Rattle.theory.proofs.Basics.Tests.{trichotomy, lt_or_ge}
use Rattle.model.specs.Below.{bit}
use Rattle.theory.specs.Marks.{Marks, StillIn, DroppedAt, still_in, dropped, drop_out, returned, BringsBack, count_in}
use Rattle.theory.proofs.Basics.Tests.{fails}
use Rattle.theory.proofs.Search.Marks.{still_in_test, drop_at, dropped-apart, returned-back, returned-other, count_same, count_shift, count-last, count_most}
use Rattle.larger.specs.Search.{Returned}
use Rattle.larger.specs.Places.{candidates_in, marks_in, marks_of, KeptButMarks, Dropped}
use Rattle.model.specs.Graph.{Graph}

-- of candidates i to m - 1, which had these marks before, each that was still in and is not joined to v has dropped out at the depth; r of them have, and nothing
-- else is written
pub record DroppedIn (G : Graph) (before : List ℕ) (marks_before : Marks) (after : List ℕ) (v depth i m r : ℕ) : Type 0 where
  pub marks : (e : ℕ) → i ≤ e → e < m → marks_in G.size after e ≡ drop_out G (candidates_in G.size before) v depth marks_before e
  pub out : r + count_in (marks_in G.size after) i (m - i) ≡ count_in marks_before i (m - i)
  pub kept : KeptButMarks G.size i m before after

-- ---- what is lent is written

-- the marks of candidates i to m - 1, lent alone
abbrev pub lent_marks : ℕ → List ℕ → ℕ → ℕ → List ℕ
lent_marks n w i m = part w (4 * n + i) (4 * n + m - (4 * n + i))

-- the slice where they are those of the slice xs
abbrev pub with_marks : ℕ → List ℕ → ℕ → ℕ → List ℕ → List ℕ
with_marks n w i m xs = put_mid (4 * n + i) (4 * n + m - (4 * n + i)) w xs

module _ (n : ℕ) (w : List ℕ) (i m : ℕ) (order : i ≤ m) (few : m ≤ n) (parts : 5 * n ≤ length w) (xs : List ℕ) (long : length xs ≡ length (lent_marks n w i m)) where
  lent_length : length (lent_marks n w i m) ≡ 4 * n + m - (4 * n + i)
  lent_length = part_length w (4 * n + i) (4 * n + m - (4 * n + i)) (omega arith)

  -- nothing but them is written
  lent_kept : KeptButMarks n i m w (with_marks n w i m xs)
  lent_kept = put_kept (4 * n + i) (4 * n + m) w xs (omega arith) (omega arith) (long ∙ lent_length)

  -- the mark of the candidate at place e, before and after
  module _ (e : ℕ) (from : i ≤ e) (to : e < m) where
    place : 4 * n + i + (e - i) ≡ 4 * n + e
    place = omega arith

    lent_inside : e - i < length (lent_marks n w i m)
    lent_inside = let l = lent_length in omega arith

    lent_before : marks_in n w e ≡ marks_of (lent_marks n w i m) (e - i)
    lent_before = sym (part_at w (4 * n + i) (4 * n + m - (4 * n + i)) (e - i) (omega arith) ∙ ap (λ (p : ℕ). get_or w p 0) place)

    lent_after : marks_in n (with_marks n w i m xs) e ≡ marks_of xs (e - i)
    lent_after =
        ap (λ (p : ℕ). get_or (with_marks n w i m xs) p 0) (sym place)
        ∙ put_at (4 * n + i) (4 * n + m) w xs (omega arith) (omega arith) (long ∙ lent_length) (e - i) (omega arith)

  -- where no candidate before them dropped out at the depth, a return that brings back those of them that it must is one of all the m candidates
  pub marks_returned : {depth : ℕ} → ((e : ℕ) → e < i → DroppedAt depth (marks_in n w) e → ⊥)
      → BringsBack depth (length (lent_marks n w i m)) (marks_of (lent_marks n w i m)) (marks_of xs) → Returned n w (with_marks n w i m xs) depth i m
  marks_returned {depth} none back =
      record {
        brings_back = record { back = λ e h q. in_again e h q (lt_or_ge e i); others = λ e h q. stays e h q (lt_or_ge e i) };
        kept = lent_kept;
      }
    where
      in_again : (e : ℕ) → e < m → DroppedAt depth (marks_in n w) e → (e < i) ⊎ (i ≤ e) → StillIn (marks_in n (with_marks n w i m xs)) e
      in_again e h q (inl l) = absurd (none e l q)
      in_again e h q (inr l) = lent_after e l h ∙ back.back (e - i) (lent_inside e l h) (sym (lent_before e l h) ∙ q)

      stays : (e : ℕ) → e < m → (DroppedAt depth (marks_in n w) e → ⊥) → (e < i) ⊎ (i ≤ e) → marks_in n (with_marks n w i m xs) e ≡ marks_in n w e
      stays e h q (inl l) = lent_kept.below (4 * n + e) (omega arith)
      stays e h q (inr l) =
          lent_after e l h
          ∙ back.others (e - i) (lent_inside e l h) (λ k. q (lent_before e l h ∙ k))
          ∙ sym (lent_before e l h)

-- k entries from place i on of those past the first a are written: they are k entries of the whole slice from a + i on
put_behind : (a i k : ℕ) (w xs : List ℕ) → take a w ++ put_mid i k (drop a w) xs ≡ put_mid (a + i) k w xs
put_behind a i k w xs =
    sym (append_assoc (take a w) (take i (drop a w)) (xs ++ drop k (drop i (drop a w))))
    ∙ ap₂ (λ (f r : List ℕ). f ++ (xs ++ drop k r)) (sym (take-add a i w)) (drop-drop i a w)

-- a member is added: candidates i to m - 1 and their marks are lent as parts of the slice, which is split before the marks
pub marks_dropped : (G : Graph) (w : List ℕ) (i m : ℕ) → i ≤ m → m ≤ G.size → 5 * G.size ≤ length w → {front back : List ℕ} → front ≡ take (4 * G.size) w → back ≡ drop (4 * G.size) w
    → (xs : List ℕ) → length xs ≡ length (part back i (m - i)) → {v depth r : ℕ} (lent whole : Marks) → ((e : ℕ) → i ≤ e → e < m → lent (e - i) ≡ whole e)
    → Dropped G (part front (3 * G.size + i) (3 * G.size + m - (3 * G.size + i))) lent xs v depth r
    → DroppedIn G w whole (front ++ put_mid i (m - i) back xs) v depth i m r
marks_dropped G w i m order few parts {front} {back} is_front is_back xs long {v} {depth} {r} lent whole before d =
    subst (λ (u : List ℕ). DroppedIn G w whole u v depth i m r) (sym all)
    record {
      marks = λ e h l.
          after e h l
          ∙ d.marks (e - i) (omega (arith, many, long))
          ∙ drop_at G (marks_of cs) v depth lent (e - i)
          ∙ ap₂ (λ (u x : ℕ). dropped depth (G.joined v u) x) (candidate e h l) (before e h l)
          ∙ sym (drop_at G (candidates_in n w) v depth whole e);
      out =
          ap (λ (x : ℕ). r + x) (count_shift (marks_in n (with_marks n w i m xs)) (marks_of xs) i 0 (m - i)
          (λ e h. after (i + e) (omega arith) (omega arith) ∙ ap (marks_of xs) (omega arith)))
          ∙ ap (λ (k : ℕ). r + count_in (marks_of xs) 0 k) (sym (long ∙ many))
          ∙ d.out
          ∙ ap (count_in lent 0) (long ∙ many)
          ∙ count_shift lent whole 0 i (m - i) (λ e h. ap lent (omega arith) ∙ before (i + e) (omega arith) (omega arith));
      kept = lent_kept n w i m order few parts xs short;
    }
  where
    n : ℕ
    n = G.size

    cs : List ℕ
    cs = part front (3 * n + i) (3 * n + m - (3 * n + i))

    ms : List ℕ
    ms = part back i (m - i)

    all : front ++ put_mid i (m - i) back xs ≡ with_marks n w i m xs
    all =
        ap₂ (λ (f b : List ℕ). f ++ put_mid i (m - i) b xs) is_front is_back
        ∙ put_behind (4 * n) i (m - i) w xs
        ∙ ap (λ (k : ℕ). put_mid (4 * n + i) k w xs) (omega arith)

    many : length ms ≡ m - i
    many = part_length back i (m - i) (let l = ap length is_back ∙ length-drop (4 * n) w in omega arith)

    short : length xs ≡ length (lent_marks n w i m)
    short = long ∙ many ∙ sym (part_length w (4 * n + i) (4 * n + m - (4 * n + i)) (omega arith) ∙ omega arith)

    after : (e : ℕ) → i ≤ e → e < m → marks_in n (with_marks n w i m xs) e ≡ marks_of xs (e - i)
    after = lent_after n w i m order few parts xs short

    candidate : (e : ℕ) → i ≤ e → e < m → get_or cs (e - i) 0 ≡ candidates_in n w e
    candidate e h l =
        part_at front (3 * n + i) (3 * n + m - (3 * n + i)) (e - i) (omega arith)
        ∙ ap (λ (u : List ℕ). get_or u (3 * n + i + (e - i)) 0) is_front
        ∙ get_or-take (4 * n) w (3 * n + i + (e - i)) 0 (omega arith)
        ∙ ap (λ (k : ℕ). get_or w k 0) (omega arith)

-- the marks of candidates i to m - 1, as they are lent where the slice is split before them, are those in the slice
pub marks_lent : (n : ℕ) (w : List ℕ) (i m : ℕ) {back : List ℕ} → back ≡ drop (4 * n) w → (e : ℕ) → i ≤ e → e < m → marks_of (part back i (m - i)) (e - i) ≡ marks_in n w e
marks_lent n w i m {back} is_back e h l =
    part_at back i (m - i) (e - i) (omega arith)
    ∙ ap (λ (u : List ℕ). get_or u (i + (e - i)) 0) is_back
    ∙ get_or-drop (4 * n) w (i + (e - i)) 0
    ∙ ap (λ (k : ℕ). get_or w k 0) (omega arith)

-- ---- a loop that writes marks

-- the first j marks are those that f gives, and the others are as they were
pub record Marking (before : List ℕ) (f : ℕ → ℕ) (after : List ℕ) (j : ℕ) : Type 0 where
  pub written : (e : ℕ) → e < j → marks_of after e ≡ f e
  pub ahead : (e : ℕ) → j ≤ e → marks_of after e ≡ marks_of before e

-- it holds before the first place, and with one more mark written
pub marking_start : {before : List ℕ} {f : ℕ → ℕ} → Marking before f before 0
marking_start = record { written = λ e h. absurd (omega arith); ahead = λ e h. refl }

pub marking_more : {before after : List ℕ} {f : ℕ → ℕ} {j : ℕ} → Marking before f after j → j < length after → {x : ℕ} → x ≡ f j → Marking before f (set after j x) (j + 1)
marking_more {before} {after} {f} {j} m fits {x} q =
    record {
      written = λ e h. at e h (trichotomy e j);
      ahead = λ e h. get_or-set_other after j e x 0 (λ k. omega arith) ∙ m.ahead e (omega arith);
    }
  where
    at : (e : ℕ) → e < j + 1 → (e < j) ⊎ (e ≡ j) ⊎ (j < e) → marks_of (set after j x) e ≡ f e
    at e h (inl l) = get_or-set_other after j e x 0 (λ k. omega arith) ∙ m.written e l
    at e h (inr (inl k)) = rw k (get_or-set_same after j x 0 fits ∙ q)
    at e h (inr (inr l)) = absurd (omega arith)

-- ---- a member is added

-- a mark counts where the candidate is in
bit_in : (marks : Marks) (j : ℕ) → marks j ≡ 0 → bit (still_in marks j) ≡ 1
bit_in marks j e = ap bit ((still_in_test marks j).1 e)

bit_out : (marks : Marks) (j : ℕ) → (marks j ≡ 0 → ⊥) → bit (still_in marks j) ≡ 0
bit_out marks j n = ap bit (fails (still_in marks j) (λ e. n ((still_in_test marks j).0 e)))

bit-same : (marks other : Marks) (j : ℕ) → marks j ≡ other j → bit (still_in marks j) ≡ bit (still_in other j)
unfolding still_in
bit-same marks other j e = ap (λ (x : ℕ). bit (eqb x 0)) e

-- before place j, of the candidates, which had these marks before: `out` of them have dropped out
pub record Dropping (G : Graph) (candidates : List ℕ) (marks : Marks) (v depth : ℕ) (before after : List ℕ) (out j : ℕ) : Type 0 where
  pub marking : Marking before (drop_out G (marks_of candidates) v depth marks) after j
  pub counted : out + count_in (drop_out G (marks_of candidates) v depth marks) 0 j ≡ count_in marks 0 j

module _ (G : Graph) (candidates : List ℕ) (marks : Marks) (v depth : ℕ) where
  abbrev after-drop : Marks
  after-drop = drop_out G (marks_of candidates) v depth marks

  pub dropping_start : {before : List ℕ} → Dropping G candidates marks v depth before before 0 0
  unfolding count_in
  dropping_start = record { marking = marking_start; counted = refl }

  module _ {before after : List ℕ} {out j : ℕ} (d : Dropping G candidates marks v depth before after out j) where
    -- no more have dropped out than were passed
    pub dropping-few : out ≤ j
    dropping-few = let c = d.counted in let k = count_most marks 0 j in omega arith

    -- one more candidate: as many more have dropped out as are in no more
    dropping_more : {written : List ℕ} {more : ℕ} → Marking before after-drop written (j + 1) → more + bit (still_in after-drop j) ≡ out + bit (still_in marks j)
        → Dropping G candidates marks v depth before written more (j + 1)
    dropping_more {more = more} m e =
        record {
          marking = m;
          counted =
              let a = count-next after-drop in
              let b = count-next marks in
              let c = d.counted in
              omega arith;
        }
      where
        count-next : (ticks : Marks) → count_in ticks 0 (j + 1) ≡ count_in ticks 0 j + bit (still_in ticks j)
        count-next ticks =
            ap (count_in ticks 0) (omega arith)
            ∙ count-last ticks 0 j
            ∙ ap (λ (k : ℕ). count_in ticks 0 j + bit (still_in ticks k)) (omega arith)

    module _ {u : ℕ} (reads : u ≡ get_or candidates j 0) {joined : Bool} (e : joined ≡ G.joined v u) where
      mark-after : after-drop j ≡ dropped depth joined (marks j)
      mark-after = drop_at G (marks_of candidates) v depth marks j ∙ ap (λ (b : Bool). dropped depth b (marks j)) (sym (e ∙ ap (G.joined v) reads))

      -- it was in, is not joined to v and drops out: its mark is written
      pub dropping_out : 1 ≤ depth → joined ≡ false → marks j ≡ 0 → j < length after → Dropping G candidates marks v depth before (set after j depth) (out + 1) (j + 1)
      dropping_out some apart is_in fits =
          dropping_more (marking_more d.marking fits (sym gone))
          (let a = bit_out after-drop j (λ q. omega (arith, gone, q)) in let b = bit_in marks j is_in in omega arith)
        where
          gone : after-drop j ≡ depth
          gone = mark-after ∙ ap₂ (λ (b : Bool) (x : ℕ). dropped depth b x) apart is_in ∙ dropped-apart depth

      -- else its mark is as it was
      module _ (stays : dropped depth joined (marks j) ≡ marks j) where
        same-mark : after-drop j ≡ marks j
        same-mark = mark-after ∙ stays

        same-bit : out + bit (still_in after-drop j) ≡ out + bit (still_in marks j)
        same-bit = ap (λ (x : ℕ). out + x) (bit-same after-drop marks j same-mark)

        pub dropping-written : {x : ℕ} → x ≡ marks j → j < length after → Dropping G candidates marks v depth before (set after j x) out (j + 1)
        dropping-written q fits = dropping_more (marking_more d.marking fits (q ∙ sym same-mark)) same-bit

    -- past the last place
    pub dropping_end : j ≡ length after → Dropped G candidates marks after v depth out
    dropping_end q =
        record {
          marks = λ e h. d.marking.written e (omega arith);
          out =
              ap (λ (x : ℕ). out + x) (count_same (marks_of after) after-drop 0 (length after) (λ e h l. d.marking.written e (omega arith)))
              ∙ ap (λ (k : ℕ). out + count_in after-drop 0 k) (sym q)
              ∙ d.counted
              ∙ ap (count_in marks 0) q;
        }

-- ---- a return

-- the marks after a return from the depth
abbrev pub after-return : ℕ → List ℕ → Marks
after-return depth marks e = returned depth (marks_of marks e)

-- a candidate that dropped out there is brought back, and every other mark is kept
module _ {before after : List ℕ} {depth j : ℕ} (m : Marking before (after-return depth before) after j) where
  pub returning_back : j < length after → marks_of after j ≡ depth → Marking before (after-return depth before) (set after j 0) (j + 1)
  returning_back fits q = marking_more m fits (sym (returned-back depth (marks_of before j) (sym (m.ahead j (omega arith)) ∙ q)))

  pub returning-kept : j < length after → (marks_of after j ≡ depth → ⊥) → Marking before (after-return depth before) (set after j (marks_of after j)) (j + 1)
  returning-kept fits q = marking_more m fits (at ∙ sym (returned-other depth (marks_of before j) (λ e. q (at ∙ e))))
    where
      at : marks_of after j ≡ marks_of before j
      at = m.ahead j (omega arith)
