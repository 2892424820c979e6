-- `page::page_refusal` meets its contract: refused by its input or by its position, or accepted.
-- Assumes nothing.
use Prim.Native.Nat.{ℕ}
use mathlib.Core.Path.{◌≡◌, refl, sym, ap₂, ◌∙◌}
use native.Mathlib.Omega.{arith}
use lib.ListN.{length}
use Rattle.model.specs.Graph.{Graph}
use Rattle.model.specs.Groups.{Settings}
use Rattle.model.specs.Listing.{rules}
use Rattle.model.specs.Calls.{refuse_input, refuse_position, refuse_page}
use Rattle.refusal.proofs.Handed.{fault-met, number-some}
use Rattle.graph.specs.Table.{lent, graph_of}
use Rattle.isolation.specs.Numbers.{settings_of, settings_in}
use Rattle.ranks.specs.Held.{ranked_graph}
use Rattle.input.proofs.Refusals.{InputHeld, input_held}
use Rattle.page.proofs.Ways.{page-by_input, page-by_position}
use Rattle.page.proofs.page_refusal.Goals as goal
use Rattle.page.proofs.page_refusal.Goals.{After-new-ranked}

pub returns-in_err-lent-clause-refused : goal.returns-in_err-lent-clause-refused
returns-in_err-lent-clause-refused c =
    let r = c.in_err-lent.field-0.0 in
    let e = c.in_err-lent.ensures.refused in
    fault-met _ r c.from_residual.ensures.1 ∙ e ∙ sym (page-by_input _ _ _ _ (λ z. number-some r (e ∙ z)))

-- what the call has that passes the refusals of its input
module _ (c : After-new-ranked) where
  accepted : refuse_input (lent c.args.n c.args.table.now c.args.degrees.now) (settings_of c.args.s) (length c.args.position.now) c.args.work ≡ 0
  accepted = sym c.in_ok-lent.ensures.refused

  held : InputHeld c.new-ranked.result.lent (length c.args.position.now) c.args.work
  held = rw c.new-ranked.ensures (input_held _ c.in_ok-lent.lent c.in_ok-lent.ensures.held.graph accepted)

  -- its graph is the one that is lent
  graph-is : ranked_graph c.new-ranked.result ≡ graph_of c.args.n c.args.table.now
  graph-is = let h = c.in_ok-lent.ensures.held.graph.table in rw (c.new-ranked.ensures, h.vertices, h.numbers) refl

  -- and its criterion stands for its settings, so its refusal is that of its position
  by_position : {r : ℕ} → r ≡ refuse_position (rules (ranked_graph c.new-ranked.result) (settings_in c.in_ok-lent.q)) c.args.position.now
      → r ≡ refuse_page (lent c.args.n c.args.table.now c.args.degrees.now) (settings_of c.args.s) c.args.position.now c.args.work
  by_position e =
      e
      ∙ ap₂ (λ (G : Graph) (s : Settings). refuse_position (rules G s) c.args.position.now) graph-is c.in_ok-lent.ensures.held.settings
      ∙ sym (page-by_position _ _ _ _ accepted)

pub open-requires : goal.open-requires
open-requires c =
    let h = held (goal.at.open-requires c).After-new-ranked in
    let small = c.new-ranked.result.lent.table.fits.small in
    (h.long, omega arith)

pub returns-in_err-opened-clause-refused : goal.returns-in_err-opened-clause-refused
returns-in_err-opened-clause-refused c =
    let r = c.in_err-opened.field-0.0 in
    fault-met _ r c.from_residual-in_err-opened.ensures.1
    ∙ by_position (goal.at.returns-in_err-opened-clause-refused c).After-new-ranked c.in_err-opened.ensures.refused

pub returns-clause-refused : goal.returns-clause-refused
returns-clause-refused c = by_position (goal.at.returns-clause-refused c).After-new-ranked c.in_ok-opened.ensures.refused

pub returns-clause-accepted : goal.returns-clause-accepted
returns-clause-accepted c =
    let h = held (goal.at.returns-clause-accepted c).After-new-ranked in
    let e = c.in_ok-opened.ensures in
    record {
      graph = rw c.new-ranked.ensures c.in_ok-lent.ensures.held.graph;
      settings = c.in_ok-lent.ensures.held.settings;
      accepted = record { simple = h.simple; enough = h.enough; passes = sym e.refused; stands = e.stands };
    }
