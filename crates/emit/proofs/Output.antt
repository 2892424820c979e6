-- What the page puts out at a position, way by way: no group, one that does not fit, one that is written.
-- Assumes nothing.
use Prim.Native.Nat.{ℕ, suc, ◌+◌, ◌-◌, ◌*◌, ◌≤◌, ◌<◌}
use mathlib.Core.Path.{◌≡◌, refl, sym, ap, ap₂, ◌∙◌, subst}
use mathlib.Core.Bool.{Bool, true, false}
use mathlib.Core.List.{List, ◌++◌, append-nil}
use native.Mathlib.Nat.{add-zero}
use native.Mathlib.Omega.{arith}
use lib.ListN.{length, take, drop, take-append-drop}
use Rattle.model.specs.Graph.{Graph}
use Rattle.model.specs.Walk.{Position, Rules, found, due}
use Rattle.model.specs.Listing.{taken_list, record_with, rules, record_length}
use Rattle.isolation.specs.declared.criterion.Criterion.{Criterion}
use Rattle.isolation.specs.Numbers.{settings_in}
use Rattle.state.specs.declared.State.{State}
use Rattle.theory.specs.Parts.{part}
use Rattle.state.specs.State.{Stands}
use Rattle.qualify.specs.Qualify.{Asks, SaysQualifies}
use Rattle.std.proofs.Common.{Ok, Err, Some, None}
use Rattle.emit.specs.Emit.{Emitted}
use Rattle.qualify.proofs.TakenSet.{due-found, due-none}
use Rattle.qualify.proofs.Verdicts.{length_taken}

module _ {G : Graph} {w w₁ : List ℕ} {q : Criterion} {s : State} {b : Bool} (a : Asks G w q s) (j : SaysQualifies G w w₁ q s b) (out : List ℕ) (used : ℕ) where
  abbrev R : Rules
  R = rules G (settings_in q)

  -- no group is found
  pub emitted_none : b ≡ false → used ≤ length out → Emitted G w w₁ q s used out out (Ok None)
  emitted_none e h =
      record {
        at = λ p st.
            let f = sym (j.answer p st) ∙ e in
            let none = due-none G (settings_in q) p f in
            let nothing : length (due R p) ≡ 0 = ap length none in
            record {
              full = tt;
              put =
                  record {
                    fits = omega arith;
                    answer = rw f refl;
                    written =
                        subst (λ (es : List ℕ). out ≡ take used out ++ es ++ drop (used + length es) out) (sym none)
                        (sym (rw (append-nil (take used out), add-zero used) (take-append-drop used out)));
                  };
            };
        stands = j.stands;
      }

  module _ (e : b ≡ true) where
    found_here : (p : Position) → Stands G p w s → found R p ≡ true
    found_here p st = sym (j.answer p st) ∙ e

    -- its record, with the outgoing edges as the state tells them
    due_here : (p : Position) (st : Stands G p w s) → due R p ≡ record_with (s.sum - s.taken * (s.taken - 1)) (taken_list G p)
    due_here p st =
        due-found G (settings_in q) p a.simple.loopless (found_here p st)
        ∙ ap₂ (λ (d k : ℕ). record_with (d - k * (k - 1)) (taken_list G p)) (sym st.sum) (length_taken a p st)

    due-long : (p : Position) (st : Stands G p w s) → length (due R p) ≡ record_length s.taken
    unfolding record_with
    due-long p st =
        let l = length_taken a p st in
        let d : length (due R p) ≡ suc (suc (suc (length (taken_list G p)))) = ap length (due_here p st) in
        omega arith

    -- the group does not fit
    pub emitted_full : used ≤ length out → length out - used < record_length s.taken → (k : ℕ) → k ≡ record_length s.taken
        → Emitted G w w₁ q s used out out (Err (record { wanted = k }))
    emitted_full h l k m =
        record {
          at = λ p st.
              let d = due-long p st in
              record { full = record { exceeds = omega arith; wanted = omega arith; kept = refl }; put = tt };
          stands = j.stands;
        }

    -- it fits, and is written: with the vertices vs, which are the taken ones, and so many outgoing edges
    pub emitted_put : used + record_length s.taken ≤ length out → (k : ℕ) → k ≡ record_length s.taken
        → (vs : List ℕ) → vs ≡ part w₁ G.size s.taken → (edges : ℕ) → edges ≡ s.sum - s.taken * (s.taken - 1)
        → (next : List ℕ) → next ≡ take used out ++ record_with edges vs ++ drop (used + record_length (length vs)) out
        → Emitted G w w₁ q s used out next (Ok (Some (used + k)))
    emitted_put l k m vs u edges e next f =
        record {
          at = λ p st.
              let d = due-long p st in
              record {
                full = tt;
                put = record { fits = omega arith; answer = rw (found_here p st, d, m) refl; written = f ∙ same p st };
              };
          stands = j.stands;
        }
      where
        same : (p : Position) (st : Stands G p w s)
            → take used out ++ record_with edges vs ++ drop (used + record_length (length vs)) out ≡ take used out ++ due R p ++ drop (used + length (due R p)) out
        same p st =
            let taken : vs ≡ taken_list G p = u ∙ (j.stands p st).vertices in
            let long : record_length (length vs) ≡ length (due R p)
            = ap (λ (us : List ℕ). record_length (length us)) taken ∙ ap record_length (length_taken a p st) ∙ sym (due-long p st) in
            ap₂ (λ (es : List ℕ) (i : ℕ). take used out ++ es ++ drop (used + i) out) (ap₂ record_with e taken ∙ sym (due_here p st)) long
