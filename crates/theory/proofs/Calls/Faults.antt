-- A call is refused with the number of the first fault that holds, and accepted exactly where none holds, whatever form its graph is lent in.
-- Assumes nothing.
use Prim.Native.Nat.{ℕ, zero, suc, ◌*◌, ◌<◌}
use mathlib.Core.Path.{◌≡◌, refl, sym, ap, ◌∙◌, subst}
use mathlib.Core.Bool.{Bool, true, false}
use mathlib.Core.Logic.{◌↔◌, ◌≢◌}
use mathlib.Core.List.{List, [], ◌∷◌, ◌++◌}
use native.Mathlib.Omega.{arith}
use lib.ListN.{length, get_or}
use borrow.Author.Tests.{eqb-true}
use Rattle.model.specs.Graph.{LentGraph, by_packed}
use Rattle.model.specs.Groups.{Settings, qualifies}
use Rattle.model.specs.Meaning.{Clique, Qualifies, Symmetric}
use Rattle.model.specs.Walk.{Position, Page, page}
use Rattle.model.specs.Listing.{rules}
use Rattle.model.specs.Calls.{Call, or_else, refuse_settings, refuse_lengths, refuse_input, refuse_position, refuse_page, reply_of, reply_to, by_bytes, refuse_query, query_reply, answer_to}
use Rattle.model.specs.Fault.{Fault, FirstFault, NoFault}
use Rattle.model.specs.Faults.{numbers_of, packed_faults, degrees_faults, settings_faults, length_faults, position_faults, Lends, page_faults, query_faults, turned_back, said_no}
use Rattle.theory.proofs.Basics.Tests.{test_not, test_lt, test_or, test_eq, not-different, fails}
use Rattle.theory.proofs.Basics.Refusals.{else_assoc}
pub use Rattle.theory.proofs.Calls.Fault.{first-once}
use Rattle.theory.proofs.Calls.Fault.{refuse-first, none_found, over_test, first-none, first_else, numbers_both}
use Rattle.theory.proofs.Graph.Meaning.{qualifies_iff}
use Rattle.theory.proofs.Calls.DeadPosition.{gap_test, reopened_test}

-- a refusal number leaves nothing of what a page or a query would say
reply_refused : (k : ℕ) (r : Page) (p : Position) (out : List ℕ) → k ≢ 0 → reply_of k r p out ≡ turned_back k p out
unfolding reply_of
reply_refused zero r p out d = absurd (d refl)
reply_refused (suc k) r p out d = refl

query_no : (k : ℕ) (q : Bool) → k ≢ 0 → query_reply k q ≡ said_no k
unfolding query_reply
query_no zero q d = absurd (d refl)
query_no (suc k) q d = refl

-- refusals 6 to 8
pub settings-first : (s : Settings) → FirstFault (settings_faults s) (refuse_settings s)
unfolding refuse_settings
settings-first s =
    refuse-first 6 _ _ _ (test_lt 2 s.notion) (λ h6.
    refuse-first 7 _ _ _ (test_lt 1 s.kind) (λ h7.
    refuse-first 8 _ _ _ (test_or (test_eq s.factor 0) (test_lt 1024 s.factor)) (λ h8. none_found)))

-- settings pass exactly where they have no fault
pub settings-accepted_iff : (s : Settings) → (refuse_settings s ≡ 0) ↔ NoFault (settings_faults s)
settings-accepted_iff s = first-none (settings_faults s) (refuse_settings s) (omega arith) (settings-first s)

-- refusals 9 and 10
lengths_first : (n bytes work : ℕ) → FirstFault (length_faults n bytes work) (refuse_lengths n bytes work)
unfolding refuse_lengths
lengths_first n bytes work =
    refuse-first 9 _ _ _ (test_not (test_eq bytes n)) (λ h9. refuse-first 10 _ _ _ (test_lt work (8 * n)) (λ h10. none_found))

-- p is the position of a page call, and the set of a set query
module _ {faults : List Fault} {L : LentGraph} (form : Lends faults L) (s : Settings) (p : List ℕ) (work : ℕ) where
  -- the faults of what is lent, 6 to 10, and what is known where none of them holds
  input_first : (fs : List Fault) (later : ℕ) → (Symmetric L.graph → length p ≡ L.graph.size → FirstFault fs later)
      → FirstFault (faults ++ (settings_faults s ++ length_faults L.graph.size (length p) work ++ fs)) (or_else (refuse_input L s (length p) work) later)
  unfolding refuse_input
  input_first fs later f =
      subst (FirstFault _)
      (sym (else_assoc L.fault _ later ∙ ap (or_else L.fault) (else_assoc (refuse_settings s) (refuse_lengths L.graph.size (length p) work) later)))
      (first_else faults _ _ _ form.numbers form.first (λ sound.
      first_else (settings_faults s) _ _ _ (omega arith) (settings-first s) (λ proper.
      first_else (length_faults L.graph.size (length p) work) _ _ _ (omega arith) (lengths_first L.graph.size (length p) work) (λ lengths.
      f (form.simple ((first-none faults L.fault form.numbers form.first).1 sound)).symmetric (not-different (length p) L.graph.size lengths.0)))))

  -- the page call is refused with the first fault
  pub page-first : FirstFault (page_faults faults L.graph s p work) (refuse_page L s p work)
  unfolding refuse_page refuse_position
  page-first =
      input_first (position_faults L.graph s.factor p) _ (λ symmetric long.
      refuse-first 21 _ _ _ (over_test 2 p) (λ h21.
      refuse-first 22 _ _ _ (gap_test p) (λ h22.
      refuse-first 23 _ _ _ (reopened_test L.graph symmetric s.factor p long h22) (λ h23. none_found))))

  -- and so is the set query
  pub query-first : FirstFault (query_faults faults L.graph s p work) (refuse_query L s p work)
  unfolding refuse_query
  query-first = input_first _ _ (λ symmetric long. refuse-first 11 _ _ _ (over_test 1 p) (λ h11. none_found))

  -- a call is accepted exactly where no fault holds
  pub page-accepted_iff : (refuse_page L s p work ≡ 0) ↔ NoFault (page_faults faults L.graph s p work)
  page-accepted_iff =
      first-none (page_faults faults L.graph s p work) (refuse_page L s p work) (numbers_both faults _ form.numbers (omega arith)) page-first

  -- and so for the set query
  pub query-accepted_iff : (refuse_query L s p work ≡ 0) ↔ NoFault (query_faults faults L.graph s p work)
  query-accepted_iff =
      first-none (query_faults faults L.graph s p work) (refuse_query L s p work) (numbers_both faults _ form.numbers (omega arith)) query-first

  -- a refused set query says no
  pub query-refused : (k : ℕ) → k ≢ 0 → FirstFault (query_faults faults L.graph s p work) k → answer_to L s p work ≡ said_no k
  unfolding answer_to
  query-refused k d f =
      let q = qualifies L.graph s (by_bytes p) in
      ap (λ (j : ℕ). query_reply j q) (first-once (query_faults faults L.graph s p work) (refuse_query L s p work) k query-first f) ∙ query_no k q d

  -- an accepted one says yes exactly where the set qualifies
  pub query-yes_iff : NoFault (query_faults faults L.graph s p work) → ((answer_to L s p work).yes ≡ true) ↔ Qualifies L.graph s (by_bytes p)
  unfolding answer_to query_reply
  query-yes_iff f =
      let says = ap (λ (k : ℕ). (query_reply k (qualifies L.graph s (by_bytes p))).yes) (query-accepted_iff.1 f) in
      (λ e. (qualifies_iff L.graph s (by_bytes p)).0 (sym says ∙ e), λ q. says ∙ (qualifies_iff L.graph s (by_bytes p)).1 q)

-- of a page call, by what it brings
module _ {faults : List Fault} (c : Call) (form : Lends faults c.lent) (p : Position) where
  -- a refused page call answers with the fault's number and zeros, and leaves the position and the output as they were
  pub page-refused : (k : ℕ) → k ≢ 0 → FirstFault (page_faults faults c.lent.graph c.settings p c.work) k → reply_to c p ≡ turned_back k p c.output
  unfolding reply_to
  page-refused k d f =
      let r = page (rules c.lent.graph c.settings) c.budget (length c.output) p in
      ap (λ (j : ℕ). reply_of j r p c.output)
      (first-once (page_faults faults c.lent.graph c.settings p c.work) (refuse_page c.lent c.settings p c.work) k
      (page-first form c.settings p c.work) f)
      ∙ reply_refused k r p c.output d

  -- an accepted one does what a page does
  pub page-accepted : NoFault (page_faults faults c.lent.graph c.settings p c.work)
      → reply_to c p ≡ reply_of 0 (page (rules c.lent.graph c.settings) c.budget (length c.output) p) p c.output
  unfolding reply_to
  page-accepted f =
      ap (λ (k : ℕ). reply_of k (page (rules c.lent.graph c.settings) c.budget (length c.output) p) p c.output)
      ((page-accepted_iff form c.settings p c.work).1 f)

module _ (n : ℕ) (t d : List ℕ) (s : Settings) (p : List ℕ) (work : ℕ) where
  -- document 01 checks the lowest number first; document 02, C-15, has 45 in the place of 3, and C-12 has 42 right after 5
  pub page-order :
      numbers_of (page_faults (packed_faults n t ++ degrees_faults (by_packed n t) d) (by_packed n t) s p work)
      ≡ (1 ∷ 2 ∷ 45 ∷ 4 ∷ 5 ∷ 42 ∷ 6 ∷ 7 ∷ 8 ∷ 9 ∷ 10 ∷ 21 ∷ 22 ∷ 23 ∷ [])
  page-order = refl

  -- and so for the set query
  pub query-order :
      numbers_of (query_faults (packed_faults n t ++ degrees_faults (by_packed n t) d) (by_packed n t) s p work)
      ≡ (1 ∷ 2 ∷ 45 ∷ 4 ∷ 5 ∷ 42 ∷ 6 ∷ 7 ∷ 8 ∷ 9 ∷ 10 ∷ 11 ∷ [])
  query-order = refl

-- the empty set is a no
pub query_empty : (L : LentGraph) (s : Settings) (bs : List ℕ) (work : ℕ) → ((v : ℕ) → v < L.graph.size → get_or bs v 0 ≢ 1) → (answer_to L s bs work).yes ≡ false
unfolding answer_to query_reply
query_empty L s bs work f = go (refuse_query L s bs work)
  where
    empty : Clique L.graph (by_bytes bs) → ⊥
    empty c = f c.nonempty.0 c.nonempty.1.0 (eqb-true (get_or bs c.nonempty.0 0) 1 c.nonempty.1.1)

    go : (k : ℕ) → (query_reply k (qualifies L.graph s (by_bytes bs))).yes ≡ false
    go zero = fails (qualifies L.graph s (by_bytes bs)) (λ e. empty ((qualifies_iff L.graph s (by_bytes bs)).0 e).isolated_clique_lem.clique)
    go (suc k) = refl
