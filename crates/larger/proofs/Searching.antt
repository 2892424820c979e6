-- The search for a larger isolated clique over marks, one candidate at a time.
-- Assumes nothing.
use Prim.Native.Nat.{ℕ, ◌+◌, ◌-◌, ◌*◌, ◌≤◌, ◌<◌}
use lib.ListN.{length}
use mathlib.Core.Path.{◌≡◌, sym, ap, ◌∙◌, subst}
use mathlib.Core.Bool.{Bool, true, false}
use mathlib.Core.List.{List}
use mathlib.Core.Logic.{◌≢◌}
use native.Mathlib.Omega.{arith}
use Rattle.model.specs.Graph.{Graph}
use Rattle.theory.specs.Marks.{still_in, count_in}
use Rattle.theory.proofs.Basics.Tests.{fails}
use Rattle.theory.proofs.Search.Marks.{still_in_test, count_in_lem, count-out, count_most}
use Rattle.theory.proofs.Search.Steps.{marked_end, marked_out, marked_hopeless, marked_found, marked_next}
use Rattle.isolation.specs.declared.criterion.Criterion.{Criterion}
use Rattle.isolation.specs.declared.Tally.{Tally}
use Rattle.isolation.specs.Numbers.{hopeless_of}
use Rattle.larger.specs.Numbers.{find_of}
use Rattle.larger.specs.Places.{candidates_in, marks_in}
use Rattle.larger.specs.Search.{Room, RoomWith, Searched, SearchedWith}
use Rattle.larger.proofs.Adding.{restored-yes, restored_no}

-- before candidate j, with `still` of the candidates left still in: what the search says from i on it says from j on, and the slice is as it was
pub record At (G : Graph) (w₀ : List ℕ) (q : Criterion) (y : Tally) (low i m left : ℕ) (w : List ℕ) (still j : ℕ) : Type 0 where
  pub small : G.size ≤ 1024
  pub parts : 5 * G.size ≤ length w₀
  pub room : Room G.size w₀ q y low i m left
  pub from : i ≤ j
  pub upto : j ≤ m
  pub same-slice : w ≡ w₀
  pub count : still ≡ count_in (marks_in G.size w₀) j (m - j)
  pub same : find_of G q low (candidates_in G.size w₀) (marks_in G.size w₀) y i (m - i) ≡ find_of G q low (candidates_in G.size w₀) (marks_in G.size w₀) y j (m - j)

module _ {G : Graph} {w₀ : List ℕ} {q : Criterion} {y : Tally} {low i m left : ℕ} {w : List ℕ} {still j : ℕ} (at : At G w₀ q y low i m left w still j) where
  abbrev n : ℕ
  n = G.size

  abbrev room : Room n w₀ q y low i m left
  room = at.room

  -- what the search says from place e on
  abbrev says : ℕ → Bool
  says e = find_of G q low (candidates_in n w₀) (marks_in n w₀) y e (m - e)

  -- there are no more still in than there are left
  pub still-few : still ≤ m - j
  still-few = let k = count_most (marks_in n w₀) j (m - j) in let c = at.count in omega arith

  -- nothing is found from j on
  none : says j ≡ false → Searched G w₀ w q y low i m false
  none e = record { answer = sym (at.same ∙ e); restored = restored_no at.same-slice }

  -- with no candidate left
  pub at_end : m ≤ j → Searched G w₀ w q y low i m false
  at_end h = none (marked_end _ _ _ _ _ _ _ _ _ _ j m h)

  module _ (inside : j < m) where
    mark_is : marks_in n w j ≡ marks_in n w₀ j
    mark_is = ap (λ (u : List ℕ). marks_in n u j) at.same-slice

    -- passed over, where it has dropped out
    pub at_out : marks_in n w j ≢ 0 → At G w₀ q y low i m left w still (j + 1)
    at_out out =
        record {
          small = at.small;
          parts = at.parts;
          room = room;
          from = let l = at.from in omega arith;
          upto = omega arith;
          same-slice = at.same-slice;
          count = at.count ∙ count-out (marks_in n w₀) j m inside dropped-out;
          same = at.same ∙ marked_out _ _ _ _ _ _ _ _ _ _ j m inside dropped-out;
        }
      where
        dropped-out : still_in (marks_in n w₀) j ≡ false
        dropped-out = fails _ (λ e. out (mark_is ∙ (still_in_test (marks_in n w₀) j).0 e))

    module _ (is_in : marks_in n w j ≡ 0) where
      still_in_lem : still_in (marks_in n w₀) j ≡ true
      still_in_lem = (still_in_test (marks_in n w₀) j).1 (sym mark_is ∙ is_in)

      count-after : still ≡ 1 + count_in (marks_in n w₀) (j + 1) (m - (j + 1))
      count-after = at.count ∙ count_in_lem (marks_in n w₀) j m inside still_in_lem

      -- so there is one
      pub one_in : 1 ≤ still
      one_in = let c = count-after in omega arith

  -- candidate j, read as v, is to be added: it is there and still in
  pub record Tries (v : ℕ) : Type 0 where
    pub inside : j < m
    pub is_in : marks_in n w j ≡ 0
    pub reads : v ≡ candidates_in n w j

  module _ {v : ℕ} (tries : Tries v) where
    abbrev inside : j < m
    inside = tries.inside

    is_candidate : v ≡ candidates_in n w₀ j
    is_candidate = tries.reads ∙ ap (λ (u : List ℕ). candidates_in n u j) at.same-slice

    after_is : still - 1 ≡ count_in (marks_in n w₀) (j + 1) (m - (j + 1))
    after_is = let c = count-after inside tries.is_in in omega arith

    pub parts_with : 5 * n ≤ length w
    parts_with = rw at.same-slice at.parts

    pub room_with : RoomWith n w q y low v (j + 1) m (still - 1)
    room_with =
        subst (λ (u : List ℕ). RoomWith n u q y low v (j + 1) m (still - 1)) (sym at.same-slice)
        record {
          state = record {
            order = omega arith;
            room = let l = at.from in let f = room.room in omega arith;
            few = room.few;
            sum = room.sum;
            low_small = room.low_small;
            candidates = room.candidates;
            depths = room.depths;
            still = after_is;
          };
          more = let l = at.from in let f = room.room in omega arith;
          vertex = let k = is_candidate in let l = room.candidates j inside in omega arith;
        }

    module _ {w₁ : List ℕ} {r : Bool} (tried : SearchedWith G w w₁ q y low v (j + 1) m r) where
      tried_here : SearchedWith G w₀ w₁ q y low (candidates_in n w₀ j) (j + 1) m r
      tried_here =
          subst (λ (u : List ℕ). SearchedWith G u w₁ q y low (candidates_in n w₀ j) (j + 1) m r) at.same-slice
          (subst (λ (u : ℕ). SearchedWith G w w₁ q y low u (j + 1) m r) is_candidate tried)

      leaves_is : hopeless_of q y (count_in (marks_in n w₀) (j + 1) (m - (j + 1))) low ≡ hopeless_of q y (still - 1) low
      leaves_is = ap (λ (l : ℕ). hopeless_of q y l low) (sym after_is)

      -- found with it
      pub at_found : r ≡ true → Searched G w₀ w₁ q y low i m true
      at_found e =
          record {
            answer = sym (at.same ∙ marked_found _ _ _ _ _ _ _ _ _ _ j m inside (still_in_lem inside tries.is_in) (sym tried_here.answer ∙ e));
            restored = restored-yes tried_here.restored.kept;
          }

      module _ (nothing : r ≡ false) where
        -- left, where nothing larger is isolated
        pub at_hopeless : hopeless_of q y (still - 1) low ≡ true → Searched G w₀ w₁ q y low i m false
        at_hopeless e =
            record {
              answer = sym (at.same ∙ marked_hopeless _ _ _ _ _ _ _ _ _ _ j m inside (still_in_lem inside tries.is_in) (sym tried_here.answer ∙ nothing) (leaves_is ∙ e));
              restored = restored_no (tried_here.restored.on_no nothing);
            }

        -- else passed over
        pub at_next : hopeless_of q y (still - 1) low ≡ false → At G w₀ q y low i m left w₁ (still - 1) (j + 1)
        at_next e =
            record {
              small = at.small;
              parts = at.parts;
              room = room;
              from = let l = at.from in omega arith;
              upto = omega arith;
              same-slice = tried_here.restored.on_no nothing;
              count = after_is;
              same = at.same ∙ marked_next _ _ _ _ _ _ _ _ _ _ j m inside (still_in_lem inside tries.is_in) (sym tried_here.answer ∙ nothing) (leaves_is ∙ e);
            }
