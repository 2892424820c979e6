-- The refusals of a set query in their order, and what an accepted one has.
-- Assumes nothing.
use Rattle.std.specs.Prelude.{ℕ, ◌≡◌, ◌≢◌, Bool, List, length}
use Rattle.std.proofs.Common.{refl, sym, ◌∙◌}
use Rattle.model.specs.Graph.{LentGraph}
use Rattle.model.specs.Groups.{Settings}
use Rattle.model.specs.Calls.{refuse, over, refuse_input, refuse_query}
use Rattle.theory.proofs.Basics.Refusals.{else_none, else_found, else_passed}
use Rattle.graph.specs.Table.{lent}
use Rattle.graph.specs.declared.lent.Lent.{Lent}
use Rattle.input.proofs.Refusals.{InputHeld, input_held}

module _ (L : LentGraph) (s : Settings) (bs : List ℕ) (work : ℕ) where
  -- refused with one of 1, 2, 45, 4, 5, 42 and 6 to 10
  pub query_input : {r : ℕ} → r ≡ refuse_input L s (length bs) work → r ≢ 0 → r ≡ refuse_query L s bs work
  unfolding refuse_query
  query_input e d = e ∙ sym (else_found (λ z. d (e ∙ z)) _)

  -- by the set's bytes where none of these holds
  pub query-bytes : 0 ≡ refuse_input L s (length bs) work → {d : Bool} → over 1 bs ≡ d → refuse 11 d 0 ≡ refuse_query L s bs work
  unfolding refuse_query
  query-bytes e o = sym (else_none (sym e) _ ∙ rw o)

-- a set query that is accepted has a graph that is simple, a set of n bytes and a work slice that is long enough
pub query-accepted : (l : Lent) (s : Settings) (bs : List ℕ) (work : ℕ) → refuse_query (lent l.table.n l.table.numbers.now l.degrees.now) s bs work ≡ 0
    → InputHeld l (length bs) work
unfolding refuse_query
query-accepted l s bs work h =
    input_held s l (record { table = record { vertices = refl; numbers = refl }; degrees = refl })
    (else_passed (refuse_input (lent l.table.n l.table.numbers.now l.degrees.now) s (length bs) work) _ h).0
