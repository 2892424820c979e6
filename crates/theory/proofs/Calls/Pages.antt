-- A page, and a list of page calls, does a stretch of the walk; and so demand 3, for a graph whose rules are lawful.
-- Assumes nothing.
use Prim.Native.Nat.{ℕ, zero, suc, ◌+◌, ◌-◌, ◌≤◌, ◌<◌, zero-le}
use mathlib.Core.Path.{◌≡◌, refl, sym, ap, ap₂, ◌∙◌, subst, subst⁻¹}
use mathlib.Core.Bool.{Bool, true, false, cond, true≢false}
use mathlib.Core.List.Memᴰ
use mathlib.Core.List.{List, [], ◌∷◌, ◌++◌, append_assoc, append-nil, Memᴰ}
use mathlib.Core.Logic.{◌↔◌, ◌≢◌, ◌⊎◌, inl, inr, ⊎_elim}
use native.Mathlib.Nat.{zero-add, suc-add, le_trans}
use borrow.Author.Tests.{le-ltb}
use native.Mathlib.Omega.{arith}
use lib.ListN.{length, take, drop, length-append}
use lib.Seq.{take_at}
use lib.Dec.{ltb}
use Rattle.model.specs.Below.{bit}
use Rattle.model.specs.Graph.{Graph}
use Rattle.model.specs.Groups.{Settings, VertexSet, size_of}
use Rattle.model.specs.Meaning.{Qualifies, Lists}
use Rattle.model.specs.Walk.{Position, Rules, Page, halt, onward, fresh, finished, step, after, lasts, found, due, groups_of, records, full_sets, full_list, page, stopped_finished, stopped_full, stopped_spent}
use Rattle.model.specs.Listing.{taken_set, rules, record_with, record_of, record_length}
use Rattle.model.specs.Calls.{Call, PageReply, refuse_page, reply_of, reply_to}
use Rattle.model.specs.Demand.{replies, left_at, joined_output, all_steps, all_groups, Agree, Prefix, SaidFinished, SomeFinished, Demand3, Each, MakesStep, Idle, RefusedIdle, Demanded}
use Rattle.model.specs.Records.{Recorded, RecordsMade}
use Rattle.theory.specs.Replies.{gone, Went, Replied, Chain}
use Rattle.theory.proofs.Basics.Tests.{lt_or_ge, count_le}
use Rattle.theory.proofs.Basics.Passing.{no_entries}
use Rattle.theory.proofs.Calls.Acceptance.{PageAccepted, page-passes_iff}
use Rattle.theory.proofs.Calls.Bounds.{page_bounds}
use Rattle.theory.proofs.Walk.Listing.{lists}
use Rattle.theory.proofs.Walk.Records.{record_long, records_say}
use Rattle.theory.proofs.Walk.Lawful.{lawful}
use Rattle.theory.proofs.Walk.Remaining.{remaining, fresh-fit}
use Rattle.theory.proofs.Walk.Walk.{Lawful, gone-first, gone-left, remaining_kept, groups_member, records-append, finished-done, after_valid, after-add}

module _ (R : Rules) where
  went_stay : (p : Position) → Went R p 0 p [] 0
  unfolding after gone records
  went_stay p = record { to = refl; wrote = refl; number = refl; walking = λ j h. absurd (omega arith) }

  due-records : (p : Position) → due R p ≡ records R (groups_of R (p ∷ []))
  unfolding due records groups_of
  due-records p = go (found R p)
    where
      go : (b : Bool) → cond b (R.entries p) [] ≡ records R (cond b (p ∷ []) [])
      go true = sym (append-nil (R.entries p))
      go false = refl

  bit-number : (p : Position) → bit (found R p) ≡ length (groups_of R (p ∷ []))
  unfolding groups_of
  bit-number p = go (found R p)
    where
      go : (b : Bool) → bit b ≡ length {A = Position} (cond b (p ∷ []) [])
      go true = refl
      go false = refl

  went_step : (p : Position) (k : ℕ) (q : Position) (es : List ℕ) (g : ℕ) → finished p ≡ false → Went R (step R p) k q es g → Went R p (suc k) q (due R p ++ es) (bit (found R p) + g)
  unfolding after gone
  went_step p k q es g e w =
      record {
        to = w.to;
        wrote = ap₂ ◌++◌ (due-records p) w.wrote ∙ sym (records-append R (groups_of R (p ∷ [])) (gone R k (step R p)));
        number = ap₂ ◌+◌ (bit-number p) w.number ∙ sym (length-append (groups_of R (p ∷ [])) (gone R k (step R p)));
        walking = walk;
      }
    where
      walk : (j : ℕ) → j < suc k → finished (after R j p) ≡ false
      walk zero h = e
      walk (suc j) h = w.walking j (omega arith)

  -- a page does a stretch of the walk, and says Finished exactly where it ends finished
  abbrev pub Does : Position → Page → Type 0
  Does p r = Went R p r.steps r.reached r.written r.groups × ((r.stop ≡ stopped_finished) ↔ (finished r.reached ≡ true))

  halt-finished : (p : Position) → finished p ≡ true → Does p (halt stopped_finished 0 p)
  halt-finished p e = (went_stay p, (λ _. e, λ _. refl))

  halt_else : (stop wanted : ℕ) (p : Position) → (stop ≡ stopped_finished → ⊥) → finished p ≡ false → Does p (halt stop wanted p)
  halt_else stop wanted p d e = (went_stay p, (λ s. absurd (d s), λ f. absurd (true≢false (sym f ∙ e))))

  -- a page does a stretch of the walk
  pub page_does : (budget room : ℕ) (p : Position) → Does p (page R budget room p)
  unfolding page
  page_does zero room p = go (finished p) refl
    where
      go : (a : Bool) → finished p ≡ a → Does p (cond a (halt stopped_finished 0 p) (halt stopped_spent 0 p))
      go true e = halt-finished p e
      go false e = halt_else 2 0 p (λ s. omega arith) e
  page_does (suc budget) room p = go (finished p) (ltb room (length (due R p))) refl (page_does budget (room - length (due R p)) (step R p))
    where
      rest : Page
      rest = page R budget (room - length (due R p)) (step R p)

      go : (a c : Bool) → finished p ≡ a → Does (step R p) rest
          → Does p (cond a (halt stopped_finished 0 p) (cond c (halt stopped_full (length (due R p)) p) (onward (bit (found R p)) (due R p) rest)))
      go true c e d = halt-finished p e
      go false true e d = halt_else 3 (length (due R p)) p (λ s. omega arith) e
      go false false e d = (went_step p rest.steps rest.reached rest.written rest.groups e d.0, d.1)

  gone-add : (k j : ℕ) (p : Position) → gone R (k + j) p ≡ gone R k p ++ gone R j (after R k p)
  unfolding gone after
  gone-add zero j p = ap (λ (m : ℕ). gone R m p) (zero-add j)
  gone-add (suc k) j p =
      ap (λ (m : ℕ). gone R m p) (suc-add k j)
      ∙ ap (λ (l : List Position). groups_of R (p ∷ []) ++ l) (gone-add k j (step R p))
      ∙ sym (append_assoc (groups_of R (p ∷ [])) (gone R k (step R p)) (gone R j (after R k (step R p))))

  -- two stretches, one after the other
  went_on : (p : Position) (k : ℕ) (q : Position) (es : List ℕ) (g : ℕ) (l : ℕ) (r : Position) (fs : List ℕ) (h : ℕ)
      → Went R p k q es g → Went R q l r fs h → Went R p (k + l) r (es ++ fs) (g + h)
  went_on p k q es g l r fs h w x =
      record {
        to = after-add R k l p ∙ ap (after R l) w.to ∙ x.to;
        wrote =
            ap₂ ◌++◌ w.wrote (x.wrote ∙ ap (λ (m : Position). records R (gone R l m)) (sym w.to))
            ∙ sym (records-append R (gone R k p) (gone R l (after R k p)))
            ∙ ap (records R) (sym (gone-add k l p));
        number =
            ap₂ ◌+◌ w.number (x.number ∙ ap (λ (m : Position). length (gone R l m)) (sym w.to))
            ∙ sym (length-append (gone R k p) (gone R l (after R k p)))
            ∙ ap length (sym (gone-add k l p));
        walking = λ j b. at j b (lt_or_ge j k);
      }
    where
      at : (j : ℕ) → j < k + l → (j < k) ⊎ (k ≤ j) → finished (after R j p) ≡ false
      at j b (inl a) = w.walking j a
      at j b (inr a) =
          let i : k + (j - k) ≡ j = omega arith in
          ap (λ (m : ℕ). finished (after R m p)) (sym i)
          ∙ ap finished (after-add R k (j - k) p ∙ ap (after R (j - k)) w.to)
          ∙ x.walking (j - k) (omega arith)

  -- finished after k steps, and not before
  went_lasts : (k : ℕ) (p : Position) → ((j : ℕ) → j < k → finished (after R j p) ≡ false) → finished (after R k p) ≡ true → lasts R k p ≡ true
  unfolding lasts after
  went_lasts zero p f e = e
  went_lasts (suc k) p f e = rw (f zero (omega arith), lasts) (went_lasts k (step R p) (λ j h. f (suc j) (omega arith)) e)

  -- no step is made from a finished position
  pub went_finished : (p : Position) (k : ℕ) (q : Position) (es : List ℕ) (g : ℕ) → Went R p k q es g → finished p ≡ true → finished q ≡ true
  unfolding after
  went_finished p zero q es g w e = ap finished (sym w.to) ∙ e
  went_finished p (suc k) q es g w e = absurd (true≢false (sym e ∙ w.walking zero (omega arith)))

-- a stretch from fresh, under lawful rules
module _ (R : Rules) (n : ℕ) (law : Lawful R n) (k : ℕ) (q : Position) (es : List ℕ) (g : ℕ) (w : Went R (fresh n) k q es g) where
  -- what it wrote is the first of the full list
  pub went_prefix : Prefix R n k es g
  went_prefix =
      record {
        front = gone R k (fresh n);
        rest = groups_of R (remaining (after R k (fresh n)));
        first = gone-first R n law k;
        entries = w.wrote;
        number = w.number;
        moved_on = λ x m. let r = gone-left R n law k (fresh n) x m in record { made = r.0; within = r.1; there = r.2 };
        not_yet = λ x m o.
            let r = groups_member R (remaining (after R k (fresh n))) x m in
            remaining_kept R n law k (fresh n) x (fresh-fit n) r.0 r.1 o.made o.within o.there;
      }

  -- and where the walk is finished, all of it
  pub went_whole : finished q ≡ true → (es ≡ full_list R n) × (lasts R k (fresh n) ≡ true)
  unfolding full_list
  went_whole f =
      let e : finished (after R k (fresh n)) ≡ true = ap finished w.to ∙ f in
      let none = finished-done R n law (after R k (fresh n)) (after_valid R n law k (fresh n) (fresh-fit n)) e in (
        w.wrote
            ∙ ap (records R) (sym (append-nil (gone R k (fresh n))) ∙ ap (λ (l : List Position). gone R k (fresh n) ++ l) (sym none) ∙ sym (gone-first R n law k)),
        went_lasts R k (fresh n) w.walking e,
      )

-- ---- lists of replies, whatever calls they answer

-- a reply by the refusal number: refused, or accepted with what a page did
pub replied : (R : Rules) (k : ℕ) (r : Page) (p : Position) (out : List ℕ) → (k ≡ 0 → Does R p r) → Replied R p (reply_of k r p out)
unfolding reply_of
replied R zero r p out d = (
  subst⁻¹ (λ (es : List ℕ). Went R p r.steps r.reached es r.groups)
      (take_at r.written (drop (length r.written) out) (length r.written) refl) (d refl).0,
  λ _. (d refl).1,
)
replied R (suc k) r p out d = (went_stay R p, λ z. absurd (omega arith))

-- a reply holds its refusal number
pub refused-same : (k : ℕ) (r : Page) (p : Position) (out : List ℕ) → (reply_of k r p out).refused ≡ k
unfolding reply_of
refused-same zero r p out = refl
refused-same (suc k) r p out = refl

module _ (R : Rules) where
  chain_went : (rs : List PageReply) (p : Position) → Chain R p rs → Went R p (all_steps rs) (left_at rs p) (joined_output rs) (all_groups rs)
  unfolding all_steps left_at joined_output all_groups
  chain_went [] p c = went_stay R p
  chain_went (r ∷ rs) p c =
      went_on R p r.steps r.position (take r.used r.output) r.groups
      (all_steps rs) (left_at rs r.position) (joined_output rs) (all_groups rs) c.0.0 (chain_went rs r.position c.1)

  chain-said : (rs : List PageReply) (p : Position) → Chain R p rs → SaidFinished rs
  chain-said [] p c = tt
  chain-said (r ∷ rs) p c = (c.0.1, chain-said rs r.position c.1)

  -- once Finished is said the position stays finished
  chain-finished : (rs : List PageReply) (p : Position) → Chain R p rs → SomeFinished rs → finished (left_at rs p) ≡ true
  unfolding left_at
  chain-finished [] p c f = absurd f
  chain-finished (r ∷ rs) p c f =
      ⊎_elim
      (λ g.
      went_finished R r.position (all_steps rs) (left_at rs r.position) (joined_output rs) (all_groups rs)
      (chain_went rs r.position c.1) ((c.0.1 g.0).0 g.1))
      (chain-finished rs r.position c.1)
      f

  -- demand 3 of any such replies, under lawful rules
  pub chain_demand : (n : ℕ) → Lawful R n → (rs : List PageReply) → Chain R (fresh n) rs → Demand3 R n rs
  chain_demand n law rs c =
      let w = chain_went rs (fresh n) c in
      record {
        reached = sym w.to;
        listed = went_prefix R n law (all_steps rs) (left_at rs (fresh n)) (joined_output rs) (all_groups rs) w;
        said = chain-said rs (fresh n) c;
        whole = λ f.
            went_whole R n law (all_steps rs) (left_at rs (fresh n)) (joined_output rs) (all_groups rs) w (chain-finished rs (fresh n) c f);
      }

-- ---- no output means that no set qualifies

records-none : (G : Graph) (s : Settings) (ps : List Position) → records (rules G s) ps ≡ [] → ps ≡ []
unfolding records record_with record_of
records-none G s [] e = refl
records-none G s (p ∷ ps) e = let z = ap length e in absurd (omega arith)

-- Once Finished is said, no output means that no set qualifies.
pub none_left : (G : Graph) (s : Settings) (rs : List PageReply) → Demand3 (rules G s) G.size rs → SomeFinished rs → joined_output rs ≡ []
    → (S : VertexSet) → Qualifies G s S → ⊥
unfolding full_list
none_left G s rs d f e S q =
    let m = (lists G s).complete S q in
    Memᴰ.not-nil
    (subst (Memᴰ m.0) (records-none G s (full_sets (rules G s) G.size) (sym (d.whole f).0 ∙ e)) m.1)

-- ---- document 02, C-14: what the records of the joined output say

module _ (G : Graph) (s : Settings) (rs : List PageReply) (d : Demand3 (rules G s) G.size rs) where
  -- once Finished is said nothing of the full list is missing
  pub none-missing : SomeFinished rs → d.listed.rest ≡ []
  unfolding full_list
  none-missing f =
      let a = ap length (sym d.listed.entries ∙ (d.whole f).0 ∙ ap (records (rules G s)) d.listed.first ∙ records-append (rules G s) d.listed.front d.listed.rest) in
      let b = length-append (records (rules G s) d.listed.front) (records (rules G s) d.listed.rest) in
      records-none G s d.listed.rest (no_entries (records (rules G s) d.listed.rest) (omega arith))

  -- The records are of the first sets that qualify, in order, and each says what its set is.
  pub records_made : G.size ≤ 1024 → RecordsMade G s rs
  records_made small =
      record {
        sets = d.listed.front;
        rest = d.listed.rest;
        lists = subst (Lists G s) d.listed.first (lists G s);
        recorded = subst⁻¹ (Recorded G d.listed.front) d.listed.entries (records_say G small s d.listed.front);
        number = d.listed.number;
        whole = none-missing;
      }

-- ---- the page calls of document 01

-- a page call's refusal number
pub call_refused : (c : Call) (p : Position) → (reply_to c p).refused ≡ refuse_page c.lent c.settings p c.work
unfolding reply_to
call_refused c p = refused-same (refuse_page c.lent c.settings p c.work) _ p c.output

-- an accepted page call's refusals all pass
pub call_accepted : (c : Call) (p : Position) → (reply_to c p).refused ≡ 0 → PageAccepted c.lent c.settings p c.work
call_accepted c p e = (page-passes_iff c.lent c.settings p c.work).0 (sym (call_refused c p) ∙ e)

-- a page call keeps the number of ranks
call_long : (n : ℕ) (c : Call) (p : Position) → length p ≡ n → length (reply_to c p).position ≡ n
call_long n c p l = (page_bounds c p).position-length ∙ l

-- a refused reply did nothing
reply_idle : (k : ℕ) (r : Page) (p : Position) (out : List ℕ) → (reply_of k r p out).refused ≢ 0 → Idle p (reply_of k r p out)
unfolding reply_of
reply_idle zero r p out d = absurd (d refl)
reply_idle (suc k) r p out d = record { no_output = refl; no_groups = refl; no_steps = refl; stays = refl }

call_idle : (c : Call) (p : Position) → RefusedIdle c p
unfolding reply_to
call_idle c p = reply_idle (refuse_page c.lent c.settings p c.work) _ p c.output

-- ---- progress: with a budget of 1 or more and room for the largest record, a page from an unfinished position makes a step

record_length_lem : (G : Graph) (p : Position) → length (record_of G p) ≤ record_length G.size
unfolding size_of
record_length_lem G p = let l = record_long G p in let c = count_le G.size (taken_set G p) in omega arith

-- with a budget and room for the largest group, a page on an unfinished walk makes a step
pub progress : (G : Graph) (s : Settings) (budget room : ℕ) (p : Position) → record_length G.size ≤ room → finished p ≡ false
    → 1 ≤ (page (rules G s) (suc budget) room p).steps
unfolding page due
progress G s budget room p h e =
    rw (e, le-ltb room (length (due (rules G s) p)) (le_trans (short (found (rules G s) p)) h), page) (omega arith)
  where
    short : (b : Bool) → length (cond b (record_of G p) []) ≤ record_length G.size
    short true = record_length_lem G p
    short false = zero-le

reply_steps : (k : ℕ) (r : Page) (p : Position) (out : List ℕ) → k ≡ 0 → (reply_of k r p out).steps ≡ r.steps
unfolding reply_of
reply_steps zero r p out e = refl
reply_steps (suc k) r p out e = absurd (omega arith)

-- An accepted page call on an unfinished position, with a budget of 1 or more and room for the largest record, makes at least one step.
pub call_progress : (c : Call) (p : Position) → MakesStep c.lent.graph.size c p
unfolding reply_to
call_progress c p e f b l = go c.budget b
  where
    G : Graph
    G = c.lent.graph

    go : (budget : ℕ) → 1 ≤ budget
        → 1 ≤ (reply_of (refuse_page c.lent c.settings p c.work) (page (rules G c.settings) budget (length c.output) p) p c.output).steps
    go zero b = absurd (omega arith)
    go (suc budget) b =
        subst⁻¹ (λ (k : ℕ). 1 ≤ k) (reply_steps (refuse_page c.lent c.settings p c.work) _ p c.output (sym (call_refused c p) ∙ e))
        (progress G c.settings budget (length c.output) p l f)

module _ (G : Graph) (s : Settings) where
  call_steps : (c : Call) (p : Position) → length p ≡ G.size → MakesStep G.size c p
  call_steps c p l e f b h =
      let z = (call_accepted c p e).input.long in
      call_progress c p e f b (omega arith)

  -- the reply to a call, whatever it brings, is one on this graph where it is accepted
  call_replied : (c : Call) (p : Position) → ((reply_to c p).refused ≡ 0 → (c.lent.graph ≡ G) × (c.settings ≡ s)) → Replied (rules G s) p (reply_to c p)
  unfolding reply_to
  call_replied c p agree =
      replied (rules G s) (refuse_page c.lent c.settings p c.work) own p c.output
      (λ z.
      let e = agree (call_refused c p ∙ z) in
      subst (λ (X : Rules). Does X p own) (λ i. rules (e.0 i) (e.1 i))
      (page_does (rules c.lent.graph c.settings) c.budget (length c.output) p))
    where
      own : Page
      own = page (rules c.lent.graph c.settings) c.budget (length c.output) p

  -- each call of a list is handed the graph's number of ranks
  each : (P : Call → Position → Type 0) → ((c : Call) (p : Position) → length p ≡ G.size → P c p) → (cs : List Call) (p : Position) → length p ≡ G.size → Each P cs p
  each P f [] p l = tt
  each P f (c ∷ cs) p l = (f c p l, each P f cs (reply_to c p).position (call_long G.size c p l))

  -- the replies to page calls are such a list
  calls_chain : (cs : List Call) (p : Position) → Agree G s cs p → Chain (rules G s) p (replies cs p)
  unfolding replies
  calls_chain [] p a = tt
  calls_chain (c ∷ cs) p a = (call_replied c p a.0, calls_chain cs (reply_to c p).position a.1)

  -- Demand 3: whatever the list of page calls, on a graph and any settings, in whatever form each call is lent the graph.
  pub demand3 : Demanded G s
  demand3 simple cs a =
      let start = fresh G.size in
      let long = (fresh-fit G.size).0 in
      let done = chain_demand (rules G s) G.size (lawful G simple.loopless s) (replies cs start) (calls_chain cs start a) in
      record {
        done = done;
        none-qualifies = none_left G s (replies cs start) done;
        makes_step = each (MakesStep G.size) call_steps cs start long;
        refused_idle = each RefusedIdle (λ c p l. call_idle c p) cs start long;
      }
