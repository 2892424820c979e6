-- Page by page: the replies so far, one more, and why this ends. Assumes nothing.
use Prim.Native.Nat.{ℕ, ◌+◌, ◌*◌, ◌≤◌, ◌<◌}
use mathlib.Core.Path.{◌≡◌, refl, sym, ap, ap₂, ◌∙◌, subst}
use mathlib.Core.Bool.{false}
use mathlib.Core.Logic.{◌≢◌, inl, inr}
use mathlib.Core.List.{List, [], ◌∷◌, ◌++◌, append_assoc}
use native.Mathlib.Omega.{arith}
use lib.ListN.{length}
use Rattle.model.specs.Graph.{Graph, by_table}
use Rattle.model.specs.Groups.{Settings}
use Rattle.model.specs.Meaning.{Simple}
use Rattle.model.specs.Walk.{Position, Rules, fresh, finished, page, full_sets, stopped_finished}
use Rattle.model.specs.Listing.{rules, record_length}
use Rattle.model.specs.Calls.{refuse_page, PageReply, reply_to}
use Rattle.model.specs.Demand.{left_at, all_steps, all_groups, SomeFinished, Demand3, PageBounds}
use Rattle.model.specs.Program.{group_lines, held, end_line, Verdict, listing, program_verdict, PrintsAt, Prints}
use Rattle.theory.specs.Replies.{Replied, Chain}
use Rattle.theory.specs.Printed.{printed_pages, Begins}
use Rattle.theory.proofs.Basics.Tests.{fails}
use Rattle.theory.proofs.Walk.Remaining.{Fit, fresh-fit}
use Rattle.theory.proofs.Walk.Lawful.{lawful}
use Rattle.theory.proofs.Walk.Walk.{Lawful, after_valid}
use Rattle.theory.proofs.Walk.Ends.{weight, stretch_falls}
use Rattle.theory.proofs.Calls.Pages.{replied, page_does, went_finished, chain_demand, call_progress}
use Rattle.theory.proofs.Calls.Next.{demand_accepted}
use Rattle.theory.proofs.Program.Printed.{held-add}
use Rattle.theory.proofs.Program.Program.{all_groups_lem, pages_begin, pages-listed, pages-length, pages_print}
use Rattle.graph.specs.Held.{graph_in}
use Rattle.graph.specs.declared.lent.Lent.{Lent}
use Rattle.graph.proofs.Faults.{lent-simple, lent_table_lem}
use Rattle.std.specs.Prelude.{Result, Ok, Err}
use Rattle.rounds.specs.declared.PageAnswer.{PageAnswer}
use Rattle.rounds.specs.Answer.{PageReplies}
use Rattle.listing.specs.declared.totals.Totals.{Totals}
use Rattle.listing.specs.List.{lent_of, turn_call, turn_reply, ListBegins, Paged, Ran}

-- ---- one page

-- the used entries are within the output
pub used-fits : {budget : ℕ} {p : Position} {out : List ℕ} {r : PageReply} {a : PageAnswer} {left after : List ℕ}
    → PageBounds budget p out r → PageReplies a left after r → a.used ≤ length after
used-fits b e =
    let u = b.used-within in
    let l = b.output-length in
    omega (arith, e.used, ap length e.output)

-- ---- one reply more

module _ (R : Rules) (r : PageReply) where
  chain_more : (rs : List PageReply) (p : Position) → Chain R p rs → Replied R (left_at rs p) r → Chain R p (rs ++ (r ∷ []))
  unfolding left_at
  chain_more [] p c h = (h, tt)
  chain_more (q ∷ rs) p c h = (c.0, chain_more rs q.position c.1 h)

left-more : (rs : List PageReply) (r : PageReply) (p : Position) → left_at (rs ++ (r ∷ [])) p ≡ r.position
unfolding left_at
left-more [] r p = refl
left-more (q ∷ rs) r p = left-more rs r q.position

groups-more : (rs : List PageReply) (r : PageReply) → all_groups (rs ++ (r ∷ [])) ≡ all_groups rs + r.groups
unfolding all_groups
groups-more [] r = omega arith
groups-more (q ∷ rs) r = let h = groups-more rs r in omega arith

steps-more : (rs : List PageReply) (r : PageReply) → all_steps (rs ++ (r ∷ [])) ≡ all_steps rs + r.steps
unfolding all_steps
steps-more [] r = omega arith
steps-more (q ∷ rs) r = let h = steps-more rs r in omega arith

ended-more : (rs : List PageReply) (r : PageReply) → r.refused ≡ 0 → r.stop ≡ stopped_finished → SomeFinished (rs ++ (r ∷ []))
ended-more [] r a b = inl (a, b)
ended-more (q ∷ rs) r a b = inr (ended-more rs r a b)

-- a held total of the replies so far, and one more
held_more : (a b : ℕ) {g c : ℕ} → g ≡ held a → c ≡ a + b → held (g + b) ≡ held c
held_more a b e f = ap (λ (x : ℕ). held (x + b)) e ∙ held-add a b ∙ ap (λ (x : ℕ). held x) (sym f)

-- ---- the pages of one graph

-- before the first page
pub paged_none : (G : Graph) (s : Settings) {p : Position} → p ≡ fresh G.size → Paged G s p (record { groups = 0; steps = 0 })
unfolding left_at all_groups all_steps
paged_none G s e = record { replies = []; chain = tt; left = sym e; totals = record { groups = refl; steps = refl } }

-- what the pages so far come to where the list is cut there
paged_cut : {G : Graph} {s : Settings} → Simple G → {p : Position} {l : Totals} → Paged G s p l → Ran G s (Err l)
paged_cut {G} {s} simple paged =
    let rs = paged.replies in
    record { replies = rs; chain = paged.chain; totals = paged.totals; begins = pages_begin G s simple rs paged.chain; whole-list = tt }

-- and where one of them has said Finished
paged_whole : {G : Graph} {s : Settings} → Simple G → {p : Position} {l : Totals} (paged : Paged G s p l) → SomeFinished paged.replies → Ran G s (Ok l)
paged_whole {G} {s} simple paged f =
    let rs = paged.replies in
    let c = paged.chain in
    record {
      replies = rs;
      chain = c;
      totals = paged.totals;
      begins = pages_begin G s simple rs c;
      whole-list =
          record {
            ended = f;
            pages = pages-listed G s simple rs c f;
            full-groups = paged.totals.groups ∙ ap (λ (a : ℕ). held a) (all_groups_lem G s simple rs c f);
            full-steps = (all_steps rs, pages-length G s simple rs c f, paged.totals.steps);
          };
    }

module _ {g : Lent} {s : Settings} {p₀ out₀ work₀ bytes₀ : List ℕ} (begins : ListBegins g s p₀ out₀ work₀ bytes₀) {p : Position} {l : Totals}
    (paged : Paged (graph_in g.table) s p l) (out : List ℕ) (work : ℕ) (room : 8 * g.table.n ≤ work) where
  abbrev n : ℕ
  n = g.table.n

  -- the graph is one of document 01
  sound : Simple (graph_in g.table)
  sound = lent-simple n g.table.numbers.now (lent_table_lem n g.table.numbers.now g.degrees.now begins.no_fault)

  abbrev R : Rules
  R = rules (graph_in g.table) s

  abbrev reply : PageReply
  reply = turn_reply g s p out work

  law : Lawful R n
  law = lawful (graph_in g.table) sound.loopless s

  demand : Demand3 R n paged.replies
  demand = chain_demand R n law paged.replies paged.chain

  -- the next page is accepted
  accepted : reply.refused ≡ 0
  accepted =
      subst (λ (q : Position). (turn_reply g s q out work).refused ≡ 0) paged.left
      (demand_accepted (turn_call g s out work) (record { no_fault = begins.no_fault; simple = sound; proper = begins.settings; enough = room }) paged.replies demand)

  answered : Replied R p reply
  unfolding reply_to
  answered = replied R (refuse_page (lent_of g) s p work) (page R 4294967295 (length out) p) p out (λ z. page_does R 4294967295 (length out) p)

  module _ {m : Totals} (gs : m.groups ≡ held (l.groups + reply.groups)) (ks : m.steps ≡ held (l.steps + reply.steps)) where
    paged_more : Paged (graph_in g.table) s reply.position m
    paged_more =
        record {
          replies = paged.replies ++ (reply ∷ []);
          chain = chain_more R reply paged.replies (fresh n) paged.chain (subst (λ (q : Position). Replied R q reply) (sym paged.left) answered);
          left = left-more paged.replies reply (fresh n);
          totals = record {
            groups = gs ∙ held_more (all_groups paged.replies) reply.groups paged.totals.groups (groups-more paged.replies reply);
            steps = ks ∙ held_more (all_steps paged.replies) reply.steps paged.totals.steps (steps-more paged.replies reply);
          };
        }

    -- where it says Finished, the pages so far have ended the walk
    paged_ended : reply.stop ≡ stopped_finished → SomeFinished paged_more.replies
    unfolding paged_more
    paged_ended e = ended-more paged.replies reply accepted e

  -- where it does not say Finished, the walk was not finished, and so it makes a step
  paged_falls : reply.stop ≢ stopped_finished → record_length n ≤ length out → weight n reply.position < weight n p
  paged_falls go_on wide =
      subst (λ (q : Position). weight n q < weight n p) answered.0.to
      (stretch_falls R n law reply.steps p fit (call_progress (turn_call g s out work) p accepted unfinished (omega arith) wide) answered.0.walking)
    where
      unfinished : finished p ≡ false
      unfinished = fails (finished p) (λ f. go_on ((answered.1 accepted).1 (went_finished R p _ _ _ _ answered.0 f)))

      fit : Fit n p
      fit =
          subst (λ (q : Position). Fit n q) (sym demand.reached ∙ paged.left)
          (after_valid R n law (all_steps paged.replies) (fresh n) (fresh-fit n))

-- ---- the same by what a turn leaves

module _ {g : Lent} {s : Settings} {p₀ out₀ work₀ bytes₀ : List ℕ} (begins : ListBegins g s p₀ out₀ work₀ bytes₀) {p : Position} {l : Totals}
    (paged : Paged (graph_in g.table) s p l) (out : List ℕ) {work : ℕ} (same : work ≡ length work₀) {left out' : List ℕ}
    {page : PageAnswer} (replies : PageReplies page left out' (turn_reply g s p out work)) where
  roomy : 8 * g.table.n ≤ work
  roomy = rw same begins.room

  module _ {m : Totals} (gs : m.groups ≡ held (l.groups + page.groups)) (ks : m.steps ≡ held (l.steps + page.steps)) where
    more : Paged (graph_in g.table) s (turn_reply g s p out work).position m
    more = paged_more begins paged out work roomy (rw replies.groups at gs) (rw replies.steps at ks)

    pub turned_paged : Paged (graph_in g.table) s left m
    turned_paged = rw replies.position more

    pub turned_cut : Ran (graph_in g.table) s (Err m)
    turned_cut = paged_cut (sound begins paged out work roomy) more

    pub turned_whole : page.stop ≡ stopped_finished → Ran (graph_in g.table) s (Ok m)
    unfolding more
    turned_whole e = paged_whole (sound begins paged out work roomy) more (paged_ended begins paged out work roomy _ _ (sym replies.stop ∙ e))

  pub turned_falls : length out ≡ length out₀ → page.stop ≢ stopped_finished → weight g.table.n left < weight g.table.n p
  turned_falls same_out e =
      rw replies.position
      (paged_falls begins paged out work roomy (λ z. e (replies.stop ∙ z)) (rw same_out begins.output))

lines_begin : (s : Settings) (n : ℕ) (t : List ℕ) (xs out : List ℕ) → Begins xs (group_lines (by_table n t) (full_sets (rules (by_table n t) s) n))
    → PrintsAt (listing s n t) out → Begins xs out
unfolding PrintsAt
lines_begin s n t xs out b p = (
  b.0 ++ end_line (held (length (full_sets (rules (by_table n t) s) n))) (held p.0),
  p.2
      ∙ ap (λ (l : List ℕ). l ++ end_line (held (length (full_sets (rules (by_table n t) s) n))) (held p.0)) b.1
      ∙ append_assoc xs b.0 (end_line (held (length (full_sets (rules (by_table n t) s) n))) (held p.0)),
)

-- What the listing hands to the writes is the beginning of what the program prints.
pub ran_begins : (words : List (List ℕ)) (text : List ℕ) (s : Settings) (n : ℕ) (t : List ℕ) → program_verdict words text ≡ listing s n t
    → {r : Result Totals Totals} (ran : Ran (by_table n t) s r) (out : List ℕ) → Prints words text out → Begins (printed_pages ran.replies) out
ran_begins words text s n t e ran out p =
    lines_begin s n t (printed_pages ran.replies) out ran.begins (subst (λ (x : Verdict). PrintsAt x out) e p)

-- Where the list is whole, it and its end line are what the program prints.
pub ran_prints : (words : List (List ℕ)) (text : List ℕ) (s : Settings) (n : ℕ) (t : List ℕ) → program_verdict words text ≡ listing s n t
    → {l : Totals} (ran : Ran (by_table n t) s (Ok l)) → Prints words text (printed_pages ran.replies ++ end_line l.groups l.steps)
ran_prints words text s n t e {l} ran =
    subst (λ (x : List ℕ). Prints words text (printed_pages ran.replies ++ x)) (ap₂ end_line (sym ran.totals.groups) (sym ran.totals.steps))
    (pages_print words text s n t e ran.replies ran.chain ran.whole-list.ended)
