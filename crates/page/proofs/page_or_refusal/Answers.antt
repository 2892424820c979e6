-- `page::page_or_refusal` meets its contract: refused, or accepted with the reply of the page.
-- Assumes nothing.
use mathlib.Core.Path.{◌≡◌, refl, sym, ap, ap₂, ◌∙◌, subst}
use lib.ListN.{length}
use Rattle.std.proofs.Common.{Result}
use Rattle.std.specs.Result.{IsErrAnd}
use Rattle.std.proofs.lemmas.Result.{err_from_is_err_and}
use Rattle.model.specs.Graph.{Graph}
use Rattle.model.specs.Groups.{Settings}
use Rattle.model.specs.Listing.{rules}
use Rattle.model.specs.Walk.{page}
use Rattle.model.specs.Calls.{PageReply, reply_of}
use Rattle.refusal.specs.declared.Refusal.{Refusal}
use Rattle.refusal.specs.Numbers.{number}
use Rattle.refusal.proofs.Handed.{number-some}
use Rattle.graph.specs.Table.{graph_of}
use Rattle.ranks.specs.Held.{ranked_graph}
use Rattle.rounds.specs.declared.Page.{Page}
use Rattle.rounds.specs.Answer.{accepted, refused, answer_of, PageReplies}
use Rattle.page.proofs.Ways.{called_refused, called_accepted}
use Rattle.page.proofs.page_or_refusal.Goals as goal

-- the exit of a `?` answers with the refusal that it met
answer_met : (q : Result Page Refusal) (r : Refusal) → IsErrAnd q (λ e. e ≡ r) → answer_of q ≡ refused (number r)
answer_met q r e =
    let p = err_from_is_err_and q e in
    ap answer_of p.1 ∙ ap (λ (x : Refusal). refused (number x)) p.2

pub returns-in_err-ranked : goal.returns-in_err-ranked
returns-in_err-ranked c =
    let r = c.in_err-ranked.field-0.0 in
    called_refused _ _ _ _ _ _ c.in_err-ranked.ensures.refused (number-some r) (answer_met _ r c.from_residual.ensures.1)

pub walk_on-requires : goal.walk_on-requires
walk_on-requires c = c.in_ok-ranked.ensures.accepted.accepted

pub returns : goal.returns
returns c =
    let a = c.in_ok-ranked.ensures.accepted in
    let graph-is : ranked_graph c.in_ok-ranked.ranked ≡ graph_of c.args.n c.args.table.now = rw (a.graph.table.vertices, a.graph.table.numbers) refl in
    let reply : Graph → Settings → PageReply = λ G s.
    reply_of 0 (page (rules G s) c.args.budget (length c.args.output.now) c.args.position.now) c.args.position.now c.args.output.now in
    called_accepted _ _ _ _ _ _ (sym c.in_ok-ranked.ensures.refused)
    (subst (PageReplies (accepted c.walk_on.result) c.walk_on.new.position c.walk_on.new.output) (ap₂ reply graph-is a.settings) c.walk_on.ensures)
    c.walk_on.auto.work
