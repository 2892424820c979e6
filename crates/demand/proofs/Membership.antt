-- Demand 2 holds of every accepted set query, of every finished list of page calls and of every text.
-- Assumes nothing.
use mathlib.Core.Path.{◌≡◌, refl, sym, ap, ◌∙◌}
use mathlib.Core.Bool.{Bool, true, false}
use native.Mathlib.Omega.{arith}
use lib.ListN.{length}
use Rattle.model.specs.Below.{bit}
use Rattle.model.specs.Walk.{full_sets, full_list}
use Rattle.model.specs.Listing.{rules}
use Rattle.model.specs.Calls.{by_bytes, refuse_query, answer_to}
use Rattle.model.specs.Groups.{settings, qualifies}
use Rattle.model.specs.Text.{TextReply}
use Rattle.theory.proofs.Calls.PackedFaults.{packed_table_lem}
use Rattle.theory.proofs.Calls.DegreeFaults.{with_degrees_lem}
use Rattle.theory.proofs.Calls.Faults.{query-accepted_iff, query-yes_iff}
use Rattle.theory.proofs.Walk.Listing.{lists}
use Rattle.theory.proofs.Text.EdgeText.{accepted_iff, accepted_reply}
use Rattle.theory.proofs.Text.EdgeTextGraph.{read_graph-accepted}
use Rattle.graph.specs.Table.{lent, graph_of}
use Rattle.query.proofs.Answer.{reply_refused}
use Rattle.demand.specs.Membership.{QueryDemand, ListDemand, ReaderDemand}
use Rattle.demand.proofs.Demand.{demand}

-- the number of a yes
bit_true : (b : Bool) → bit b ≡ 1 → b ≡ true
bit_true true e = refl
bit_true false e = absurd (omega arith)

-- An accepted set query says yes exactly where the set qualifies.
pub query_demand : QueryDemand
unfolding answer_to
query_demand n t degrees set work left notion kind c a h e =
    let s = settings notion kind c in
    let accepted = sym (reply_refused (refuse_query (lent n t degrees) s set (length work)) (qualifies (graph_of n t) s (by_bytes set))) ∙ sym h.refused ∙ e in
    let form = with_degrees_lem (packed_table_lem n t) degrees in
    let says = query-yes_iff form s set (length work) ((query-accepted_iff form s set (length work)).0 accepted) in
    (λ y. says.0 (bit_true _ (sym h.yes ∙ y)), λ q. h.yes ∙ ap bit (says.1 q))

-- The finished list has exactly the sets that qualify.
pub list_demand : ListDemand
unfolding full_list
list_demand G s simple cs h f = (full_sets (rules G s) G.size, ((demand G s simple cs h).done.whole f).0, lists G s)

-- A text is read exactly where it is an edge text, and gives its graph.
pub reader_demand : ReaderDemand
reader_demand text before after a h =
    record {
      read_iff = (
        λ e. (accepted_iff text before).0 (sym h.refusal ∙ e),
        λ g. h.refusal ∙ (accepted_iff text before).1 g,
      );
      graph = λ n m t g.
          let r = accepted_reply text before n m t g in
          record {
            accepted = h.refusal ∙ ap (λ (x : TextReply). x.refused) r;
            vertices = h.vertices ∙ ap (λ (x : TextReply). x.vertices) r;
            edges = h.edges ∙ ap (λ (x : TextReply). x.stated) r;
            line = h.line ∙ ap (λ (x : TextReply). x.line) r;
            table = h.table ∙ ap (λ (x : TextReply). x.slice) r;
            never_refused = read_graph-accepted (length before) text n m t g;
          };
    }
