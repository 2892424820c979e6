-- Demand 3 holds of every list of calls of `page::page`.
-- Assumes nothing.
use Prim.Native.Nat.{ℕ, zero, suc}
use mathlib.Core.Path.{◌≡◌, refl, sym, ap, ◌∙◌, subst}
use mathlib.Core.Logic.{◌≢◌}
use mathlib.Core.List.{List, [], ◌∷◌, map}
use native.Mathlib.Omega.{arith}
use lib.ListN.{length, length-replicate}
use Rattle.model.specs.Graph.{Graph}
use Rattle.model.specs.Groups.{Settings, settings, VertexSet}
use Rattle.model.specs.Meaning.{Qualifies}
use Rattle.model.specs.Walk.{Position, Page, fresh}
use Rattle.model.specs.Listing.{rules}
use Rattle.model.specs.Calls.{Call, PageReply, refuse_page, reply_of, reply_to}
use Rattle.model.specs.Demand as model
use Rattle.model.specs.Demand.{joined_output, SomeFinished, Demand3}
use Rattle.theory.proofs.Calls.Bounds.{page_bounds}
use Rattle.theory.proofs.Calls.Pages.{call_accepted, call_progress, demand3}
use Rattle.graph.specs.Table.{lent, graph_of}
use Rattle.graph.proofs.Faults.{lent-simple}
use Rattle.rounds.specs.Answer.{PageReplies}
use Rattle.demand.specs.Demand.{MadeCall, Promised, reported, Calls, EachCall, Every, PageDemanded, TableCalls, TableDemanded}

-- ---- a call of `page::page` and its reply in document 01

-- what the call brought beside the position
abbrev pub brought : MadeCall → Call
brought c =
    record {
      lent = lent c.size c.table c.degrees;
      settings = settings c.notion c.kind c.factor;
      budget = c.budget;
      output = c.output;
      work = length c.work;
    }

-- a call that keeps its promise reports the reply
pub reported-is : (c : MadeCall) → Promised c → reported c ≡ reply_to (brought c) c.position
reported-is c r i =
    record {
      refused = r.replies.refusal i;
      stop = r.replies.stop i;
      groups = r.replies.groups i;
      used = r.replies.used i;
      steps = r.replies.steps i;
      wanted = r.replies.wanted i;
      position = r.replies.position i;
      output = r.replies.output i;
    }

module _ (G : Graph) (s : Settings) where
  -- what the calls of a list reported are the replies of document 01's page calls, one after the other
  replies_are : (p : Position) (cs : List MadeCall) → Calls G s p cs → map reported cs ≡ model.replies (map brought cs) p
  unfolding model.replies
  replies_are p [] h = refl
  replies_are p (c ∷ cs) h =
      let e : reported c ≡ reply_to (brought c) p = reported-is c h.0.promised ∙ ap (reply_to (brought c)) h.0.handed in
      let f : c.position-left ≡ (reply_to (brought c) p).position = ap (λ (r : PageReply). r.position) e in
      λ i. e i ∷ (replies_are c.position-left cs h.1 ∙ ap (model.replies (map brought cs)) f) i

  agree_are : (p : Position) (cs : List MadeCall) → Calls G s p cs → model.Agree G s (map brought cs) p
  agree_are p [] h = tt
  agree_are p (c ∷ cs) h =
      let e : reported c ≡ reply_to (brought c) p = reported-is c h.0.promised ∙ ap (reply_to (brought c)) h.0.handed in
      let f : c.position-left ≡ (reply_to (brought c) p).position = ap (λ (r : PageReply). r.position) e in (
        λ z. h.0.agrees (ap (λ (r : PageReply). r.refused) e ∙ z),
        subst (λ (q : Position). model.Agree G s (map brought cs) q) f (agree_are c.position-left cs h.1),
      )

-- ---- each call by itself

-- a refused reply did nothing, and left position and output as they were
refused-still : (k : ℕ) (r : Page) (p : Position) (out : List ℕ) → (reply_of k r p out).refused ≢ 0
    → ((reply_of k r p out).used ≡ 0) × ((reply_of k r p out).groups ≡ 0) × ((reply_of k r p out).steps ≡ 0) × ((reply_of k r p out).position ≡ p) × ((reply_of k r p out).output ≡ out)
unfolding reply_of
refused-still zero r p out d = absurd (d refl)
refused-still (suc k) r p out d = (refl, refl, refl, refl, refl)

-- whatever a call brings that keeps its promise
pub each_call : (c : MadeCall) → Promised c → EachCall c
unfolding reply_to
each_call c h =
    record {
      within-budget = let b = (page_bounds (brought c) c.position).steps-within in let e = r.steps in omega arith;
      makes_step = λ z f b l.
          let m = call_progress (brought c) c.position (sym r.refusal ∙ z) f b l in
          let e = r.steps in
          omega arith;
      refused_idle = λ d.
          let i = refused-still (refuse_page (lent c.size c.table c.degrees) (brought c).settings c.position (length c.work)) _ c.position c.output (λ z. d (r.refusal ∙ z)) in
          (r.used ∙ i.0, r.groups ∙ i.1, r.steps ∙ i.2, r.position ∙ i.3, r.output ∙ i.4, h.work-kept d);
    }
  where
    r : PageReplies c.answer c.position-left c.output-left (reply_to (brought c) c.position)
    r = h.replies

every_call : (G : Graph) (s : Settings) (p : Position) (cs : List MadeCall) → Calls G s p cs → Every cs
every_call G s p [] h = tt
every_call G s p (c ∷ cs) h = (each_call c h.0.promised, every_call G s c.position-left cs h.1)

-- ---- the whole list

-- Demand 3, of any list of calls that keep the promise of `page::page`.
pub demand : PageDemanded
demand G s simple cs h =
    let d = demand3 G s simple (map brought cs) (agree_are G s (fresh G.size) cs h) in
    let e = sym (replies_are G s (fresh G.size) cs h) in
    record {
      done = subst (Demand3 (rules G s) G.size) e d.done;
      none-qualifies =
          subst (λ (rs : List PageReply). SomeFinished rs → joined_output rs ≡ [] → (S : VertexSet) → Qualifies G s S → ⊥) e d.none-qualifies;
      each = every_call G s (fresh G.size) cs h;
    }

-- ---- calls that bring one table

-- calls that bring one table bring its graph, since an accepted call has the n of the position that it is handed
table_calls : (n : ℕ) (t : List ℕ) (s : Settings) (p : Position) (cs : List MadeCall) → length p ≡ n → TableCalls t s p cs → Calls (graph_of n t) s p cs
table_calls n t s p [] l h = tt
table_calls n t s p (c ∷ cs) l h = (
  record {
    promised = h.0;
    handed = h.1;
    agrees = λ z.
        let m = sym (call_accepted (brought c) c.position (sym h.0.replies.refusal ∙ z)).input.long ∙ ap length h.1 ∙ l in
        let e = h.2 z in
        (λ i. graph_of (m i) (e.0 i), e.1);
  },
  table_calls n t s c.position-left cs (ap length h.0.replies.position ∙ (page_bounds (brought c) c.position).position-length ∙ ap length h.1 ∙ l) h.3,
)

-- Demand 3, of any list of calls that bring one table without fault.
pub table_demand : TableDemanded
table_demand n t s valid cs h = demand (graph_of n t) s (lent-simple n t valid) cs (table_calls n t s (fresh n) cs (length-replicate {A = ℕ} n 0) h)
