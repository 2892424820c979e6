-- Two lent graphs with one graph and one fault number, whatever holds each: the calls answer them alike. A byte table and a packed table of one graph are
-- two such.
-- Assumes nothing.
use Prim.Native.Nat.{ℕ, zero, suc, ◌*◌}
use mathlib.Core.Path.{◌≡◌, refl, sym, ap, ◌∙◌, subst}
use mathlib.Core.Bool.{Bool, true, false, not, beq}
use mathlib.Core.List.{List}
use lib.ListN.{length}
use lib.Dec.{ltb}
use borrow.Author.Tests.{eq-eqb}
use Rattle.model.specs.Graph.{LentGraph, row_length}
use Rattle.model.specs.Groups.{Settings}
use Rattle.model.specs.Walk.{Position}
use Rattle.model.specs.Calls.{refuse, refuse_graph, refuse_bytes, refuse_table, byte_table, refuse_packed, packed_table, reply_to, answer_to}
use Rattle.model.specs.Edits.{refuse_edit, EditReply, edit_reply, edit_to, degrees_to}
use Rattle.model.specs.BothTables.{SameGraph}
use Rattle.theory.proofs.Basics.Refusals.{refuse_on}

-- ---- two lent graphs

same-lent : {L M : LentGraph} → L.fault ≡ M.fault → L.graph ≡ M.graph → L ≡ M
same-lent faults graphs i = record { fault = faults i; graph = graphs i }

-- what two edits, one on each, say alike, and P of the tables that they leave
pub record EditsAlike (P : List ℕ → List ℕ → Type 0) (r s : EditReply) : Type 0 where
  pub numbers : r.refused ≡ s.refused
  pub unchanged-same : r.unchanged ≡ s.unchanged
  pub degrees-same : r.degrees ≡ s.degrees
  pub tables : P r.table s.table

-- P holds of the tables that are lent, and of those with the pair written
edits_replied : (P : List ℕ → List ℕ → Type 0) (k : ℕ) (so : Bool) (t t₁ s s₁ d d₁ : List ℕ) → P t s → (k ≡ 0 → P t₁ s₁)
    → EditsAlike P (edit_reply k so t d t₁ d₁) (edit_reply k so s d s₁ d₁)
unfolding edit_reply
edits_replied P zero true t t₁ s s₁ d d₁ old new = record { numbers = refl; unchanged-same = refl; degrees-same = refl; tables = old }
edits_replied P zero false t t₁ s s₁ d d₁ old new = record { numbers = refl; unchanged-same = refl; degrees-same = refl; tables = new refl }
edits_replied P (suc k) so t t₁ s s₁ d d₁ old new = record { numbers = refl; unchanged-same = refl; degrees-same = refl; tables = old }

module _ {L M : LentGraph} (same : L ≡ M) where
  -- the page call
  pub same-page : (s : Settings) (budget : ℕ) (out : List ℕ) (work : ℕ) (p : Position)
      → reply_to (record { lent = L; settings = s; budget = budget; output = out; work = work }) p
      ≡ reply_to (record { lent = M; settings = s; budget = budget; output = out; work = work }) p
  same-page s budget out work p = ap (λ (X : LentGraph). reply_to (record { lent = X; settings = s; budget = budget; output = out; work = work }) p) same

  -- the set query
  pub same-query : (s : Settings) (bs : List ℕ) (work : ℕ) → answer_to L s bs work ≡ answer_to M s bs work
  same-query s bs work = ap (λ (X : LentGraph). answer_to X s bs work) same

  -- the list of degrees
  pub same-list : (d : List ℕ) → degrees_to L d ≡ degrees_to M d
  same-list d = ap (λ (X : LentGraph). degrees_to X d) same

  -- an edit, whatever its two tables are
  pub same-edit : (P : List ℕ → List ℕ → Type 0) (b : Bool) (u v : ℕ) (t t₁ s s₁ d : List ℕ) → P t s → (refuse_edit L u v ≡ 0 → P t₁ s₁)
      → EditsAlike P (edit_to L b u v t d t₁) (edit_to M b u v s d s₁)
  unfolding edit_to
  same-edit P b u v t t₁ s s₁ d old new =
      subst (λ (X : LentGraph). EditsAlike P (edit_to L b u v t d t₁) (edit_to X b u v s d s₁)) same
      (edits_replied P (refuse_edit L u v) (beq (L.graph.joined u v) b) t t₁ s s₁ d _ old new)

-- ---- a byte table and a packed table of one graph

module _ {n : ℕ} {t p : List ℕ} (both : SameGraph n t p) where
  -- 1 is one test, 2, 3 and 45 find nothing, and 4 and 5 go by the graph
  pub both-refused : refuse_packed n p ≡ refuse_table n t
  unfolding refuse_packed refuse_table refuse_bytes
  both-refused =
      ap (refuse 1 (ltb 1024 n))
      (refuse_on 2 _ _ (ap not (eq-eqb (length p) (n * row_length n) both.numbers))
      ∙ refuse_on 45 _ _ both.none-stray
      ∙ ap refuse_graph both.one_graph
      ∙ sym (refuse_on 2 _ _ (ap not (eq-eqb (length t) (n * n) both.bytes)) ∙ refuse_on 3 _ _ both.zero_or_one))

  -- so they are lent alike
  pub both-lent : packed_table n p ≡ byte_table n t
  both-lent = same-lent both-refused both.one_graph
