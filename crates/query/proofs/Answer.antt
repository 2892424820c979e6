-- The set query's answer as two numbers.
-- Assumes nothing.
use Prim.Native.Nat.{ℕ, zero, suc}
use mathlib.Core.Path.{◌≡◌, refl, sym, ap, ◌∙◌}
use mathlib.Core.Bool.{Bool, false}
use mathlib.Core.List.{List}
use mathlib.Core.Logic.{◌≢◌}
use lib.ListN.{length}
use Rattle.model.specs.Below.{bit}
use Rattle.model.specs.Graph.{LentGraph}
use Rattle.model.specs.Groups.{settings}
use Rattle.model.specs.Calls.{refuse_query, query_reply, answer_to}
use Rattle.std.specs.Prelude.{Result, Ok}
use Rattle.std.specs.Result.{IsErrAnd}
use Rattle.std.proofs.lemmas.Result.{err_from_is_err_and}
use Rattle.refusal.specs.declared.Refusal.{Refusal}
use Rattle.refusal.specs.Numbers.{number}
use Rattle.refusal.proofs.Handed.{number-some}
use Rattle.query.specs.Query.{Decided, answer_of, Answers}

-- the parts of a reply by the refusal number
pub reply_refused : (k : ℕ) (q : Bool) → (query_reply k q).refused ≡ k
unfolding query_reply
reply_refused zero q = refl
reply_refused (suc k) q = refl

reply_no : (k : ℕ) (q : Bool) → k ≢ 0 → (query_reply k q).yes ≡ false
unfolding query_reply
reply_no zero q d = absurd (d refl)
reply_no (suc k) q d = refl

reply_yes : (k : ℕ) (q : Bool) → k ≡ 0 → (query_reply k q).yes ≡ q
unfolding query_reply
reply_yes k q e = rw e

module _ {L : LentGraph} {bs w : List ℕ} {notion kind c : ℕ} where
  -- refused: its number, no, and the work slice as it was
  pub answer-refused : (q : Result Bool Refusal) (r : Refusal) → IsErrAnd q (λ e. e ≡ r) → number r ≡ refuse_query L (settings notion kind c) bs (length w)
      → Answers L bs w w notion kind c (answer_of q)
  unfolding answer_to
  answer-refused q r h e = let p = err_from_is_err_and q h in rw (p.1, p.2) with_number
    where
      with_number : Answers L bs w w notion kind c (record { refusal = number r; yes = 0 })
      with_number =
          record {
            refused = e ∙ sym (reply_refused _ _);
            yes = ap bit (sym (reply_no (refuse_query L (settings notion kind c) bs (length w)) _ (λ z. number-some r (e ∙ z))));
            length-kept = refl;
            unchanged = λ z. refl;
          }

  -- accepted: what the set's test says
  pub answer-decided : {w₁ : List ℕ} {b : Bool} → 0 ≡ refuse_query L (settings notion kind c) bs (length w) → Decided L.graph bs w w₁ (settings notion kind c) b
      → Answers L bs w w₁ notion kind c (answer_of (Ok b))
  unfolding answer_to
  answer-decided e d =
      record {
        refused = e ∙ sym (reply_refused _ _);
        yes = ap bit (d.answer ∙ sym (reply_yes (refuse_query L (settings notion kind c) bs (length w)) _ (sym e)));
        length-kept = d.length-kept;
        unchanged = λ q. absurd (q refl);
      }
