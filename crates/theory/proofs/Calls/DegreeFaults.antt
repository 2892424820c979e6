-- A graph that is lent with a list of its degrees: refusal 42 comes right after those of what holds the graph, and passes exactly the graph's own list.
-- Assumes nothing.
use Prim.Native.Nat.{ℕ, ◌<◌}
use mathlib.Core.Path.{◌≡◌, sym, ap, ◌∙◌}
use mathlib.Core.Bool.{not}
use mathlib.Core.Logic.{◌↔◌, ◌≢◌, ◌⊎◌, inl, inr}
use mathlib.Core.List.{List, ◌++◌}
use native.Mathlib.Omega.{arith}
use lib.ListN.{length, get_or}
use lib.Dec.{eqb}
use Rattle.model.specs.Graph.{Graph, LentGraph, by_packed, degree, degree_list}
use Rattle.model.specs.Calls.{packed_table, refuse_degrees, with_degrees}
use Rattle.model.specs.Fault.{Fault, FirstFault, NoFault}
use Rattle.model.specs.Faults.{degrees_faults, Lends}
use Rattle.theory.proofs.Basics.Tests.{test_not, test_or, test_eq, test_any, not-different}
use Rattle.theory.proofs.Basics.Refusals.{else_none, else_passed}
use Rattle.theory.proofs.Graph.DegreeList.{degree_list-length, degree_list_at, degree_list-only}
use Rattle.theory.proofs.Calls.Fault.{refuse-first, none_found, first-none, first_else, numbers_both}
use Rattle.theory.proofs.Calls.PackedFaults.{packed-once}

module _ (G : Graph) (d : List ℕ) where
  -- the number of a list is that of its fault
  degrees-first : FirstFault (degrees_faults G d) (refuse_degrees G d)
  unfolding refuse_degrees
  degrees-first =
      refuse-first 42 _ _ _
      (test_or (test_not (test_eq (length d) G.size))
      (test_any G.size (λ v. not (eqb (get_or d v 0) (degree G v))) (λ v. test_not (test_eq (get_or d v 0) (degree G v)))))
      (λ h. none_found)

  -- a list passes exactly where it has no fault
  pub degrees-accepted_iff : (refuse_degrees G d ≡ 0) ↔ NoFault (degrees_faults G d)
  degrees-accepted_iff = first-none (degrees_faults G d) (refuse_degrees G d) (omega arith) degrees-first

  -- and that is the list of the graph's degrees
  pub degrees-accepted : (refuse_degrees G d ≡ 0) ↔ (d ≡ degree_list G)
  degrees-accepted = (there, back)
    where
      there : refuse_degrees G d ≡ 0 → d ≡ degree_list G
      there e =
          let none = (degrees-accepted_iff.0 e).0 in
          degree_list-only G d (not-different _ _ (λ x. none (inl x))) (λ v h. not-different _ _ (λ x. none (inr (v, h, x))))

      at : d ≡ degree_list G → (length d ≢ G.size) ⊎ ((v : ℕ) × (v < G.size) × (get_or d v 0 ≢ degree G v)) → ⊥
      at e (inl x) = x (ap length e ∙ degree_list-length G)
      at e (inr x) = x.2 (ap (λ (l : List ℕ). get_or l x.0 0) e ∙ degree_list_at G x.0 x.1)

      back : d ≡ degree_list G → refuse_degrees G d ≡ 0
      back e = degrees-accepted_iff.1 (at e, tt)

-- The laws of a form in which a graph is lent hold of it with a degree list beside it.
pub with_degrees_lem : {faults : List Fault} {L : LentGraph} → Lends faults L → (d : List ℕ) → Lends (faults ++ degrees_faults L.graph d) (with_degrees L d)
with_degrees_lem {faults} {L} form d =
    record {
      numbers = numbers_both faults _ form.numbers (omega arith);
      first = first_else faults _ _ _ form.numbers form.first (λ none. degrees-first L.graph d);
      simple = λ e. form.simple (else_passed L.fault _ e).0;
    }

-- It has no fault exactly where what holds the graph has none and the list is that of the graph's degrees.
pub with_degrees_iff : (L : LentGraph) (d : List ℕ) → ((with_degrees L d).fault ≡ 0) ↔ ((L.fault ≡ 0) × (d ≡ degree_list L.graph))
with_degrees_iff L d = (
  λ e. let a = else_passed L.fault _ e in (a.0, (degrees-accepted L.graph d).0 a.1),
  λ h. else_none h.0 _ ∙ (degrees-accepted L.graph d).1 h.1,
)

-- A graph has one packed table and one list that pass 1, 2, 45, 4, 5 and 42.
pub lent-once : (n : ℕ) (t d s e : List ℕ) → (with_degrees (packed_table n t) d).fault ≡ 0 → (with_degrees (packed_table n s) e).fault ≡ 0
    → by_packed n t ≡ by_packed n s → (t ≡ s) × (d ≡ e)
lent-once n t d s e p q same =
    let a = (with_degrees_iff (packed_table n t) d).0 p in
    let b = (with_degrees_iff (packed_table n s) e).0 q in
    (packed-once n t s a.0 b.0 same, a.1 ∙ ap degree_list same ∙ sym b.1)
