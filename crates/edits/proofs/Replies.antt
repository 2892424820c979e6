-- The replies of the edits and of the call that lists the degrees, return by return.
-- Assumes nothing.
use Prim.Native.Nat.{ℕ}
use mathlib.Core.Path.{◌≡◌, sym, ap, ◌∙◌}
use mathlib.Core.Bool.{Bool, true, false, not, beq}
use mathlib.Core.List.{List}
use mathlib.Core.Logic.{◌≢◌}
use Rattle.std.specs.Prelude.{Result}
use Rattle.std.specs.Result.{IsErrAnd}
use Rattle.std.proofs.lemmas.Result.{err_from_is_err_and}
use native.Mathlib.Omega.{arith}
use lib.ListN.{length}
use borrow.Author.Tests.{ne_eqb}
use Rattle.model.specs.Below.{bit}
use Rattle.model.specs.Graph.{with_bits, degree_list}
use Rattle.model.specs.Calls.{refuse}
use Rattle.model.specs.Edits.{refuse_edit, recount, EditReply, edit_call, refuse_list, DegreesReply, degrees_call}
use Rattle.theory.proofs.Basics.Refusals.{else_none, else_found}
use Rattle.theory.proofs.Calls.Edits.{edit_left, edit_same, edit_done}
use Rattle.theory.proofs.Calls.DegreesCall.{list_left, list_done, list-passes_iff}
use Rattle.graph.specs.Table.{lent_table, lent, graph_of}
use Rattle.refusal.specs.declared.Refusal.{Refusal}
use Rattle.refusal.specs.Numbers.{number}
use Rattle.refusal.proofs.Handed.{number-some}
use Rattle.edits.specs.Edits.{answer_of, EditReplies, ListReplies}

-- ---- an edit

module _ {b : Bool} {n : ℕ} {t d : List ℕ} {u v : ℕ} where
  replies_as : {r : EditReply} → edit_call b n t d u v ≡ r → EditReplies b n t d u v (record { refusal = r.refused; unchanged = bit r.unchanged }) r.table r.degrees
  replies_as e =
      record {
        refusal = ap (λ (x : EditReply). x.refused) (sym e);
        unchanged = ap (λ (x : EditReply). bit x.unchanged) (sym e);
        table = ap (λ (x : EditReply). x.table) (sym e);
        degrees = ap (λ (x : EditReply). x.degrees) (sym e);
      }

  -- refused: its number, and nothing is written
  pub replies-refused : (q : Result Bool Refusal) (r : Refusal) → IsErrAnd q (λ x. x ≡ r) → number r ≡ refuse_edit (lent n t d) u v
      → EditReplies b n t d u v (answer_of q) t d
  replies-refused q r h e =
      let p = err_from_is_err_and q h in
      rw (p.1, p.2) (replies_as (edit_left (lent n t d) u v b t d (with_bits b n u v t) (number-some r) (sym e)))

  module _ (passes : refuse_edit (lent n t d) u v ≡ 0) where
    -- the pair is so already, and nothing is written
    pub replies-same : beq ((graph_of n t).joined u v) b ≡ true → EditReplies b n t d u v (record { refusal = 0; unchanged = 1 }) t d
    replies-same s = replies_as (edit_same (lent n t d) u v b t d (with_bits b n u v t) passes s)

    -- both bits of the pair are written, and its two degrees follow
    pub replies-done : beq ((graph_of n t).joined u v) b ≡ false → {t₁ d₁ d₂ : List ℕ}
        → t₁ ≡ with_bits b n u v t → d₁ ≡ recount b v d → d₂ ≡ recount b u d₁ → EditReplies b n t d u v (record { refusal = 0; unchanged = 0 }) t₁ d₂
    replies-done s p q r =
        let a = replies_as (edit_done (lent n t d) u v b t d (with_bits b n u v t) passes s) in
        record { refusal = a.refusal; unchanged = a.unchanged; table = p ∙ a.table; degrees = r ∙ ap (recount b u) q ∙ a.degrees }

-- ---- the list of degrees

module _ {n : ℕ} {t d : List ℕ} where
  lists_as : {r : DegreesReply} → degrees_call n t d ≡ r → ListReplies n t d r.refused r.degrees
  lists_as e = record { refusal = ap (λ (x : DegreesReply). x.refused) (sym e); degrees = ap (λ (x : DegreesReply). x.degrees) (sym e) }

  -- the table has a fault
  pub lists_refused : (r : Refusal) → number r ≡ (lent_table n t).fault → {k : ℕ} → k ≡ number r → ListReplies n t d k d
  unfolding refuse_list
  lists_refused r e h = rw h (lists_as (list_left (lent_table n t) d (number-some r) (else_found (λ q. number-some r (e ∙ q)) _ ∙ sym e)))

  -- it has none
  module _ (fine : 0 ≡ (lent_table n t).fault) where
    -- the list is not n long
    pub lists_other-length : length d ≢ n → ListReplies n t d 42 d
    unfolding refuse_list refuse
    lists_other-length z =
        lists_as (list_left (lent_table n t) d (λ q. omega arith)
        (else_none (sym fine) _ ∙ ap (λ (x : Bool). refuse 42 (not x) 0) (ne_eqb (length d) n z)))

    -- the list is that of the degrees
    pub lists_done : length d ≡ n → {d₁ : List ℕ} → d₁ ≡ degree_list (graph_of n t) → ListReplies n t d 0 d₁
    lists_done long e =
        let a = lists_as (list_done (lent_table n t) d ((list-passes_iff (lent_table n t) d).1 (sym fine, long))) in
        record { refusal = a.refusal; degrees = e ∙ a.degrees }
