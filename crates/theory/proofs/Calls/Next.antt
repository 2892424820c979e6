-- A page call is never refused for the position that the page calls before it left.
-- Assumes nothing.
use Prim.Native.Nat.{ℕ, ◌+◌, ◌*◌, ◌≤◌}
use mathlib.Core.Path.{◌≡◌, sym, ap, ◌∙◌}
use mathlib.Core.List.{List}
use lib.ListN.{length}
use Rattle.model.specs.Graph.{Graph}
use Rattle.model.specs.Meaning.{Simple}
use Rattle.model.specs.Walk.{Position, Rules, fresh, after, page}
use Rattle.model.specs.Listing.{rules}
use Rattle.model.specs.Calls.{Call, PageReply, refuse_settings, refuse_position, refuse_page, reply_to}
use Rattle.model.specs.Demand.{replies, left_at, all_steps, Agree, Demand3}
use Rattle.theory.proofs.Walk.Lawful.{lawful}
use Rattle.theory.proofs.Walk.Remaining.{fresh-fit}
use Rattle.theory.proofs.Walk.Walk.{after_valid, after-add}
use Rattle.theory.proofs.Calls.Acceptance.{page-passes_iff}
use Rattle.theory.proofs.Walk.Accepted.{walk-accepted}
use Rattle.theory.proofs.Walk.Visited.{visited_iff}
use Rattle.theory.proofs.Calls.Pages.{page_does, replied, call_refused, call_accepted, demand3}

-- what a call brings that may be accepted: a graph lent without a fault, proper settings, and a work slice of 8 × n entries or more
pub record Acceptable (c : Call) : Type 0 where
  pub no_fault : c.lent.fault ≡ 0
  pub simple : Simple c.lent.graph
  pub proper : refuse_settings c.settings ≡ 0
  pub enough : 8 * c.lent.graph.size ≤ c.work

-- it is accepted on a position of the walk
pub walk_call_accepted : (c : Call) → Acceptable c → (k : ℕ) (p : Position) → after (rules c.lent.graph c.settings) k (fresh c.lent.graph.size) ≡ p
    → (reply_to c p).refused ≡ 0
walk_call_accepted c f k p e =
    let G = c.lent.graph in
    let R = rules G c.settings in
    let law = lawful G f.simple.loopless c.settings in
    call_refused c p ∙ ap (λ (q : Position). refuse_page c.lent c.settings q c.work) (sym e)
    ∙ (page-passes_iff c.lent c.settings (after R k (fresh G.size)) c.work).1
    (record {
      input =
          record {
            no_fault = f.no_fault;
            proper = f.proper;
            long = (after_valid R G.size law k (fresh G.size) (fresh-fit G.size)).0;
            enough = f.enough;
          };
      stands = walk-accepted R G.size law k;
    })

-- the position that a call leaves is where its steps lead
call_leads : (c : Call) (p : Position) → after (rules c.lent.graph c.settings) (reply_to c p).steps p ≡ (reply_to c p).position
unfolding reply_to
call_leads c p =
    let R = rules c.lent.graph c.settings in
    (replied R (refuse_page c.lent c.settings p c.work) (page R c.budget (length c.output) p) p c.output
    (λ z. page_does R c.budget (length c.output) p)).0.to

-- After an accepted page call, an acceptable call that brings the same graph and settings is accepted on the position that it left, whatever its
-- budget and output.
pub next-accepted : (c d : Call) → Acceptable d → c.lent.graph ≡ d.lent.graph → c.settings ≡ d.settings → (p : Position) → (reply_to c p).refused ≡ 0
    → (reply_to d (reply_to c p).position).refused ≡ 0
next-accepted c d f g s p e =
    let G = d.lent.graph in
    let R = rules G d.settings in
    let same : rules c.lent.graph c.settings ≡ R = λ i. rules (g i) (s i) in
    let h = call_accepted c p e in
    let long : length p ≡ G.size = h.input.long ∙ ap (λ (X : Graph). X.size) g in
    let v = (visited_iff R G.size (lawful G f.simple.loopless d.settings) p long).0 (ap (λ (X : Rules). refuse_position X p) (sym same) ∙ h.stands) in
    walk_call_accepted d f (v.0 + (reply_to c p).steps) (reply_to c p).position
    (after-add R v.0 (reply_to c p).steps (fresh G.size)
    ∙ ap (after R (reply_to c p).steps) v.1
    ∙ ap (λ (X : Rules). after X (reply_to c p).steps p) (sym same)
    ∙ call_leads c p)

-- So is a call after replies of which demand 3 holds.
pub demand_accepted : (c : Call) → Acceptable c → (rs : List PageReply) → Demand3 (rules c.lent.graph c.settings) c.lent.graph.size rs
    → (reply_to c (left_at rs (fresh c.lent.graph.size))).refused ≡ 0
demand_accepted c f rs d = walk_call_accepted c f (all_steps rs) (left_at rs (fresh c.lent.graph.size)) (sym d.reached)

-- After any list of page calls as in demand 3, an acceptable call that brings the graph and the settings is accepted.
pub list-accepted : (c : Call) → Acceptable c → (cs : List Call) → Agree c.lent.graph c.settings cs (fresh c.lent.graph.size)
    → (reply_to c (left_at (replies cs (fresh c.lent.graph.size)) (fresh c.lent.graph.size))).refused ≡ 0
list-accepted c f cs g =
    demand_accepted c f (replies cs (fresh c.lent.graph.size)) (demand3 c.lent.graph c.settings f.simple cs g).done
