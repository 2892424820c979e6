-- The call that lists the degrees, whatever form the graph is lent in: the number that it is refused with, and the list that it leaves.
-- Assumes nothing.
use Prim.Native.Nat.{ℕ, zero, suc}
use mathlib.Core.Path.{◌≡◌, refl, sym, ap, ◌∙◌}
use mathlib.Core.Bool.{not}
use mathlib.Core.Logic.{◌↔◌, ◌≢◌}
use mathlib.Core.List.{List, [], ◌∷◌}
use native.Mathlib.Omega.{arith}
use lib.ListN.{length}
use lib.Dec.{eqb}
use borrow.Author.Tests.{eqb-true, eq-eqb, not-false}
use Rattle.model.specs.Graph.{LentGraph, degree_list}
use Rattle.model.specs.Calls.{with_degrees}
use Rattle.model.specs.Fault.{Fault, FirstFault, NoFault}
use Rattle.model.specs.Faults.{numbers_of, packed_faults, Lends}
use Rattle.model.specs.Edits.{refuse_list, DegreesReply, degrees_reply, degrees_to, list_faults}
use Rattle.theory.proofs.Basics.Tests.{test_not, test_eq}
use Rattle.theory.proofs.Basics.Refusals.{refuse_pass, refuse_on, else_none, else_passed}
use Rattle.theory.proofs.Calls.Fault.{refuse-first, none_found, first-none, first_else, numbers_both}
use Rattle.theory.proofs.Calls.DegreeFaults.{with_degrees_iff}

module _ (L : LentGraph) (d : List ℕ) where
  -- the number in the answer is the refusal number
  pub list-number : (degrees_to L d).refused ≡ refuse_list L d
  unfolding degrees_to degrees_reply
  list-number = go (refuse_list L d)
    where
      go : (k : ℕ) → (degrees_reply k L.graph d).refused ≡ k
      go zero = refl
      go (suc k) = refl

  -- a refused call leaves the list as it was
  pub list_left : {k : ℕ} → k ≢ 0 → refuse_list L d ≡ k → degrees_to L d ≡ record { refused = k; degrees = d }
  unfolding degrees_to degrees_reply
  list_left {k = zero} h e = absurd (h refl)
  list_left {k = suc k} h e = ap (λ (j : ℕ). degrees_reply j L.graph d) e

  -- an accepted one leaves the degrees of the graph
  pub list_done : refuse_list L d ≡ 0 → degrees_to L d ≡ record { refused = 0; degrees = degree_list L.graph }
  unfolding degrees_to degrees_reply
  list_done e = ap (λ (j : ℕ). degrees_reply j L.graph d) e

  -- it is accepted exactly where what holds the graph has no fault and the list is n long
  pub list-passes_iff : (refuse_list L d ≡ 0) ↔ ((L.fault ≡ 0) × (length d ≡ L.graph.size))
  unfolding refuse_list
  list-passes_iff = (
    λ e. let a = else_passed L.fault _ e in
        (a.0, eqb-true (length d) L.graph.size (not-false (eqb (length d) L.graph.size) (refuse_pass 41 _ _ a.1).0)),
    λ h. else_none h.0 _ ∙ refuse_on 42 _ _ (ap not (eq-eqb (length d) L.graph.size h.1)),
  )

  -- the list that it makes passes 42
  pub list_chains : (degrees_to L d).refused ≡ 0 → (with_degrees L (degrees_to L d).degrees).fault ≡ 0
  list_chains e =
      let q = sym list-number ∙ e in
      (with_degrees_iff L (degrees_to L d).degrees).1 ((list-passes_iff.0 q).0, ap (λ (r : DegreesReply). r.degrees) (list_done q))

module _ {faults : List Fault} {L : LentGraph} (form : Lends faults L) (d : List ℕ) where
  -- it is refused with the first fault
  pub list-first : FirstFault (list_faults faults L.graph.size d) (refuse_list L d)
  unfolding refuse_list
  list-first =
      first_else faults _ _ _ form.numbers form.first (λ sound.
      refuse-first 42 _ _ _ (test_not (test_eq (length d) L.graph.size)) (λ h42. none_found))

  -- and accepted exactly where no fault holds
  pub list-accepted_iff : (refuse_list L d ≡ 0) ↔ NoFault (list_faults faults L.graph.size d)
  list-accepted_iff = first-none (list_faults faults L.graph.size d) (refuse_list L d) (numbers_both faults _ form.numbers (omega arith)) list-first

-- 42 comes after 5 here too
pub list-order : (n : ℕ) (t d : List ℕ) → numbers_of (list_faults (packed_faults n t) n d) ≡ (1 ∷ 2 ∷ 45 ∷ 4 ∷ 5 ∷ 42 ∷ [])
list-order n t d = refl
