-- The ways of a page call: refused, or accepted.
-- Assumes nothing.
use Prim.Native.Nat.{ℕ, zero, suc}
use mathlib.Core.Path.{◌≡◌, refl, subst⁻¹}
use mathlib.Core.List.{List}
use mathlib.Core.Logic.{◌≢◌}
use lib.ListN.{length}
use Rattle.model.specs.Graph.{LentGraph}
use Rattle.model.specs.Groups.{Settings}
use Rattle.model.specs.Walk.{Position, page}
use Rattle.model.specs.Listing.{rules}
use Rattle.model.specs.Calls.{refuse_input, refuse_position, refuse_page, reply_of, reply_to}
use Rattle.theory.proofs.Basics.Refusals.{else_none, else_found}
use Rattle.rounds.specs.declared.PageAnswer.{PageAnswer}
use Rattle.rounds.specs.Answer.{PageReplies, refused}
use Rattle.page.specs.Call.{PageCalled}

module _ (L : LentGraph) (s : Settings) (p : Position) (work : ℕ) where
  -- the refusal of a call with a work slice of so many entries is that of its input
  pub page-by_input : refuse_input L s (length p) work ≢ 0 → refuse_page L s p work ≡ refuse_input L s (length p) work
  unfolding refuse_page
  page-by_input d = else_found d _

  -- and where that has none, that of its position
  pub page-by_position : refuse_input L s (length p) work ≡ 0 → refuse_page L s p work ≡ refuse_position (rules L.graph s) p
  unfolding refuse_page
  page-by_position e = else_none e _

module _ (L : LentGraph) (s : Settings) (budget : ℕ) (p : Position) (out w : List ℕ) where
  -- refused: the number is the call's, and all is left as it was
  pub called_refused : {r : ℕ} → r ≡ refuse_page L s p (length w) → r ≢ 0 → {a : PageAnswer} → a ≡ refused r → PageCalled L s budget p out w a p out w
  unfolding reply_to reply_of
  called_refused {r} e d {a} f =
      subst⁻¹ (λ (x : PageAnswer). PageCalled L s budget p out w x p out w) f
      (record { replies = go (refuse_page L s p (length w)) e; work-length = refl; work-kept = λ _. refl })
    where
      go : (k : ℕ) → r ≡ k → PageReplies (refused r) p out (reply_of k (page (rules L.graph s) budget (length out) p) p out)
      go zero q = absurd (d q)
      go (suc k) q = record { refusal = q; stop = refl; groups = refl; steps = refl; used = refl; wanted = refl; position = refl; output = refl }

  -- accepted: the reply is what the page did
  pub called_accepted : refuse_page L s p (length w) ≡ 0 → {a : PageAnswer} {p₁ : Position} {out₁ w₁ : List ℕ}
      → PageReplies a p₁ out₁ (reply_of 0 (page (rules L.graph s) budget (length out) p) p out) → length w₁ ≡ length w → PageCalled L s budget p out w a p₁ out₁ w₁
  unfolding reply_to reply_of
  called_accepted e r l = record { replies = rw e r; work-length = l; work-kept = λ d. absurd (d r.refusal) }
