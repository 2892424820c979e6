-- Document 02, C-12: what a reader believes of the edits and of the list of degrees holds of every call that keeps its contract.
-- Assumes nothing.
use Prim.Native.Nat.{ℕ, zero, suc, ◌≤◌}
use mathlib.Core.Path.{◌≡◌, refl, sym, ap, ap₂, ◌∙◌, subst, subst₂, subst⁻¹}
use mathlib.Core.Bool.{Bool, true, false, not}
use mathlib.Core.Logic.{◌≢◌, inl, inr}
use mathlib.Core.List.{List, [], ◌∷◌}
use native.Mathlib.Omega.{arith}
use lib.Dec.{eqb}
use Rattle.model.specs.Below.{bit}
use Rattle.model.specs.Fault.{FirstFault}
use Rattle.model.specs.Edits.{refuse_edit, EditReply, edit_call, Edited, refuse_list}
use Rattle.theory.proofs.Basics.Tests.{bit-one}
use Rattle.theory.proofs.Calls.PackedFaults.{packed_table_lem}
use Rattle.theory.proofs.Calls.DegreeFaults.{with_degrees_lem, lent-once}
use Rattle.theory.proofs.Calls.Edits.{edit_number, edit_left, edit_first, edited, edit_chains, edit_undone, edit_turned}
use Rattle.theory.proofs.Calls.DegreesCall.{list-number, list_left, list_done, list-first, list_chains}
use Rattle.graph.specs.Table.{lent_table, lent}
use Rattle.edits.specs.declared.EditAnswer.{EditAnswer}
use Rattle.edits.specs.Edits.{EditReplies}
use Rattle.demand.specs.Edits.{told, EditDemand, MadeEdit, Replied, Handed, SamePair, UndoDemand, table_after, degrees_after, ChainDemand, RestoredDemand, ListedDemand}

-- ---- an edit

bit-small : (b : Bool) → bit b ≤ 1
bit-small true = omega arith
bit-small false = omega arith

module _ {b : Bool} {n : ℕ} {t d : List ℕ} {u v : ℕ} {a : EditAnswer} {t₁ d₁ : List ℕ} (h : EditReplies b n t d u v a t₁ d₁) where
  -- what it told is the reply
  told_is : told a t₁ d₁ ≡ edit_call b n t d u v
  told_is i =
      record {
        refused = h.refusal i;
        unchanged = (ap (λ (k : ℕ). eqb k 1) h.unchanged ∙ bit-one (edit_call b n t d u v).unchanged) i;
        table = h.table i;
        degrees = h.degrees i;
      }

  -- its number is the edit's
  number_is : a.refusal ≡ refuse_edit (lent n t d) u v
  number_is = h.refusal ∙ edit_number (lent n t d) u v b t d _

  told-refused : a.refusal ≢ 0 → (a.unchanged ≡ 0) × (t₁ ≡ t) × (d₁ ≡ d)
  told-refused x =
      let e = edit_left (lent n t d) u v b t d _ x (sym number_is) in (
        h.unchanged ∙ ap (λ (r : EditReply). bit r.unchanged) e,
        h.table ∙ ap (λ (r : EditReply). r.table) e,
        h.degrees ∙ ap (λ (r : EditReply). r.degrees) e,
      )

  told-passes : a.refusal ≡ 0 → (lent n t₁ d₁).fault ≡ 0
  told-passes z = ap₂ (λ (x y : List ℕ). (lent n x y).fault) h.table h.degrees ∙ edit_chains b n t d u v (sym h.refusal ∙ z)

-- Each call of an edit does what a reader believes of it.
pub edit_demand : EditDemand
edit_demand b n t d u v a t₁ d₁ h =
    record {
      first = subst⁻¹ (FirstFault _) (number_is h) (edit_first (with_degrees_lem (packed_table_lem n t) d) u v);
      refused = told-refused h;
      accepted = λ z. subst⁻¹ (Edited b n u v t d) (told_is h) (edited b n t d u v (sym h.refusal ∙ z));
      zero_or_one = let e = h.unchanged in let s = bit-small (edit_call b n t d u v).unchanged in omega arith;
      passes_again = told-passes h;
    }

-- ---- an edit after another

module _ {b : Bool} {n : ℕ} {t d : List ℕ} {u v : ℕ} {a : EditAnswer} {t₁ d₁ : List ℕ} (h : EditReplies b n t d u v a t₁ d₁) where
  -- the same edit with the pair turned round
  turned : EditReplies b n t d v u a t₁ d₁
  turned =
      let e = edit_turned b n t d u v in
      record {
        refusal = h.refusal ∙ ap (λ (r : EditReply). r.refused) e;
        unchanged = h.unchanged ∙ ap (λ (r : EditReply). bit r.unchanged) e;
        table = h.table ∙ ap (λ (r : EditReply). r.table) e;
        degrees = h.degrees ∙ ap (λ (r : EditReply). r.degrees) e;
      }

  -- it is an edit of the pair in either order
  either_order : (x y : ℕ) → SamePair x y u v → EditReplies b n t d x y a t₁ d₁
  either_order x y (inl p) = subst₂ (λ (i j : ℕ). EditReplies b n t d i j a t₁ d₁) p.0 p.1 h
  either_order x y (inr p) = subst₂ (λ (i j : ℕ). EditReplies b n t d i j a t₁ d₁) p.1 p.0 turned

  -- where it changed something, the other edit of what it left gives back table and list
  given_back : a.refusal ≡ 0 → a.unchanged ≡ 0 → {a₂ : EditAnswer} {t₂ d₂ : List ℕ} → EditReplies (not b) n t₁ d₁ u v a₂ t₂ d₂
      → (a₂.refusal ≡ 0) × (a₂.unchanged ≡ 0) × (t₂ ≡ t) × (d₂ ≡ d)
  given_back z s k =
      let changed = sym (bit-one (edit_call b n t d u v).unchanged) ∙ ap (λ (x : ℕ). eqb x 1) (sym h.unchanged ∙ s) in
      let e = ap₂ (λ (x y : List ℕ). edit_call (not b) n x y u v) h.table h.degrees ∙ edit_undone b n t d u v (sym h.refusal ∙ z) changed in (
        k.refusal ∙ ap (λ (r : EditReply). r.refused) e,
        k.unchanged ∙ ap (λ (r : EditReply). bit r.unchanged) e,
        k.table ∙ ap (λ (r : EditReply). r.table) e,
        k.degrees ∙ ap (λ (r : EditReply). r.degrees) e,
      )

-- an edit as one of the size, table and list that it was handed
as_handed : {n : ℕ} {t d : List ℕ} (e : MadeEdit) → Replied e → Handed n t d e
    → EditReplies e.joins n t d e.from e.to e.answer e.table_left_lem e.degrees-left
as_handed {n} {t} {d} e h g =
    subst (λ (k : ℕ). EditReplies e.joins k t d e.from e.to e.answer e.table_left_lem e.degrees-left) g.0
    (subst₂ (λ (x y : List ℕ). EditReplies e.joins e.size x y e.from e.to e.answer e.table_left_lem e.degrees-left) g.1 g.2 h)

-- A joined pair parted again, or a parted one joined again, in either order of its ends, gives back table and list.
pub undo_demand : UndoDemand
undo_demand e f h k z s other handed pair =
    given_back h z s
    (subst
    (λ (b : Bool). EditReplies b e.size e.table_left_lem e.degrees-left e.from e.to f.answer f.table_left_lem f.degrees-left)
    other (either_order (as_handed f k handed) e.from e.to pair))

-- ---- any list of edits

-- Table and list that pass 1, 2, 45, 4, 5 and 42 pass them after any list of edits.
pub edits_chain_demand : ChainDemand
edits_chain_demand [] h n t d e g = e
edits_chain_demand (m ∷ ms) h n t d e g = edits_chain_demand ms h.1 n m.table_left_lem m.degrees-left (one m.answer.refusal refl) g.1
  where
    k : EditReplies m.joins n t d m.from m.to m.answer m.table_left_lem m.degrees-left
    k = as_handed m h.0 g.0

    one : (r : ℕ) → m.answer.refusal ≡ r → (lent n m.table_left_lem m.degrees-left).fault ≡ 0
    one zero q = told-passes k q
    one (suc r) q =
        let left = told-refused k (λ z. omega arith) in
        ap₂ (λ (x y : List ℕ). (lent n x y).fault) left.1 left.2 ∙ e

-- Once the graph is the same again, so are they.
pub restored_demand : RestoredDemand
restored_demand es h n t d e g same = lent-once n (table_after t es) (degrees_after d es) t d (edits_chain_demand es h n t d e g) e same

-- ---- the list of degrees

-- Each call of `edits::list_degrees` does what a reader believes of it.
pub listed_demand : ListedDemand
listed_demand n t d k d₁ h =
    record {
      first = subst⁻¹ (FirstFault _) number (list-first (packed_table_lem n t) d);
      refused = λ x. h.degrees ∙ ap (λ r. r.degrees) (list_left (lent_table n t) d x (sym number));
      accepted = λ z.
          let e = list_done (lent_table n t) d (sym number ∙ z) in (
            h.degrees ∙ ap (λ r. r.degrees) e,
            ap (λ (x : List ℕ). (lent n t x).fault) h.degrees ∙ list_chains (lent_table n t) d (sym h.refusal ∙ z),
          );
    }
  where
    number : k ≡ refuse_list (lent_table n t) d
    number = h.refusal ∙ list-number (lent_table n t) d
