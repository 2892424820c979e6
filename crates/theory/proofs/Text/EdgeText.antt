-- The text reader gives exactly the reply that document 01 asks for: `read_text` accepts the texts of graphs, with their N, M and table, and
-- refuses any other text with its first fault.
-- Assumes nothing.
use Prim.Native.Nat.{ℕ, suc, ◌*◌}
use mathlib.Core.Path.{◌≡◌, refl, sym, ap, ap₂, ◌∙◌, subst, subst₂}
use mathlib.Core.Logic.{◌↔◌, ◌≢◌, inl, inr, ⊎_elim}
use mathlib.Core.List.{List, [], ◌∷◌, ◌++◌, append_assoc, append-nil}
use native.Mathlib.Omega.{arith}
use lib.ListN.{length, drop, replicate, length-append}
use Rattle.model.specs.Text.{lines_of, Reading, TextReply, refused_at, read_from, read_text}
use Rattle.model.specs.Fault.{FirstFault, NoFault}
use Rattle.model.specs.EdgeText.{Lines, Line, edges, Table, EdgeText, line_faults, end_faults, faults_at, Faultless, FirstFaultyLine, Cleared, Accepts, Refuses, Outcome}
use Rattle.theory.proofs.Calls.Fault.{first-once, none_first}
use Rattle.theory.proofs.Text.EdgeTextLines.{lines_are, lines_hold}
use Rattle.theory.proofs.Text.EdgeTextDrawn.{comments-none, comments_unpassed, problem-first, problem-second, drawn_in, drawn-one}
use Rattle.theory.proofs.Text.EdgeTextTable.{table-one}
use Rattle.theory.proofs.Text.EdgeTextStep.{start, Going, State, has-problem, one-problem}
use Rattle.theory.proofs.Text.EdgeTextRun.{faultless-spelled, faultless-more, drawn-faultless, LineReads, line_reads, accepted_with, EndReads, end_reads, run}

-- two replies with the same parts are one
same_reply : (a b : TextReply) → a.refused ≡ b.refused → a.vertices ≡ b.vertices → a.stated ≡ b.stated → a.line ≡ b.line → a.slice ≡ b.slice → a ≡ b
same_reply a b e f g h s = λ i. record { refused = e i; vertices = f i; stated = g i; line = h i; slice = s i }

module _ (text slice : List ℕ) where
  -- before the first line
  started : State (length slice) [] start
  started = inl (refl, comments-none)

  -- ---- what a refusal leaves in the slice

  zeros : ℕ → List ℕ
  zeros n = replicate (n * n) 0 ++ drop (n * n) slice

  clears : (xs : List Line) (r : Reading) → State (length slice) xs r → Cleared xs slice (zeros r.vertices)
  unfolding zeros
  clears xs r (inl (e, h)) =
      record {
        unchanged = λ f. ap (λ (s : Reading). zeros s.vertices) e;
        zeroed = λ n p. absurd (comments_unpassed xs h n p);
      }
  clears xs r (inr g) =
      record {
        unchanged = λ f. absurd (f r.vertices (has-problem (length slice) xs r g));
        zeroed = λ n p. ap zeros (sym (one-problem (length slice) xs r g n p));
      }

  cleared-is : (xs : List Line) (r : Reading) (out : List ℕ) → State (length slice) xs r → Cleared xs slice out → out ≡ zeros r.vertices
  unfolding zeros
  cleared-is xs r out (inl (e, h)) c = c.unchanged (comments_unpassed xs h) ∙ ap (λ (s : Reading). zeros s.vertices) (sym e)
  cleared-is xs r out (inr g) c = c.zeroed r.vertices (has-problem (length slice) xs r g)

  -- ---- the reply is one that is asked for

  module _ (front : List (List ℕ)) (xs : List Line) (f : Faultless (length slice) [] front xs) (r : Reading) where
    refuses : (rest : List (List ℕ)) (k : ℕ) → Lines text (front ++ rest) → State (length slice) xs r → k ≢ 0
        → FirstFault (faults_at (length slice) xs rest) k → Refuses text slice (refused_at k (suc (length front)) r slice)
    unfolding refused_at zeros
    refuses rest k c st faulty first =
        record {
          said = xs;
          first = record { front = front; rest = rest; cut = c; faultless = f; fault = first; faulty = faulty; line = refl };
          no_vertices = refl;
          no_edges = refl;
          left = clears xs r st;
        }

    accepts : Lines text (front ++ []) → Going (length slice) xs r → r.stated ≡ edges xs → Accepts text slice (accepted_with slice r)
    accepts c g e =
        record {
          table = r.table;
          graph = record {
            lines = front;
            said = xs;
            cut = subst (Lines text) (append-nil front) c;
            spelled = faultless-spelled (length slice) [] front xs f;
            drawn = g.drawn;
            stated = e;
            table = g.table;
          };
          number = refl;
          line = refl;
          left = refl;
        }

  reads_on : (rest front : List (List ℕ)) (xs : List Line) (r : Reading) → Lines text (front ++ rest) → Faultless (length slice) [] front xs
      → State (length slice) xs r → Outcome text slice (read_from (suc (length front)) r rest slice)
  reads_on [] front xs r c f st = go (end_reads slice (suc (length front)) r xs st)
    where
      go : EndReads slice (suc (length front)) r xs → Outcome text slice (read_from (suc (length front)) r [] slice)
      go (inl (k, faulty, first, e)) = subst (Outcome text slice) (sym e) (inr (refuses front xs f r [] k c st faulty first))
      go (inr (none, g, q, e)) = subst (Outcome text slice) (sym e) (inl (accepts front xs f r c g q))
  reads_on (l ∷ rest) front xs r c f st =
      go (line_reads slice r xs l st) (λ x s. reads_on rest (front ++ (l ∷ [])) (xs ++ (x ∷ [])) s)
    where
      long : suc (length (front ++ (l ∷ []))) ≡ suc (suc (length front))
      long = let e = length-append front (l ∷ []) in omega arith

      go : LineReads slice r xs l
          → ((x : Line) (s : Reading) → Lines text (front ++ (l ∷ []) ++ rest) → Faultless (length slice) [] (front ++ (l ∷ [])) (xs ++ (x ∷ []))
          → State (length slice) (xs ++ (x ∷ [])) s → Outcome text slice (read_from (suc (length (front ++ (l ∷ [])))) s rest slice))
          → Outcome text slice (read_from (suc (length front)) r (l ∷ rest) slice)
      go (inl (k, faulty, first, e)) ih =
          subst (Outcome text slice) (sym (e (suc (length front)) rest)) (inr (refuses front xs f r (l ∷ rest) k c st faulty first))
      go (inr (x, s, spelled, none, t, e)) ih =
          subst (Outcome text slice) (ap (λ (k : ℕ). read_from k s rest slice) long ∙ sym (e (suc (length front)) rest))
          (ih x s (subst (Lines text) (sym (append_assoc front (l ∷ []) rest)) c) (faultless-more (length slice) [] front xs l x f spelled none) t)

  -- the reader's reply is one that document 01 asks for
  pub outcome : Outcome text slice (read_text text slice)
  unfolding read_text
  outcome = reads_on (lines_of text) [] [] start (lines_hold text) tt started

  -- ---- and there is no other

  -- the reader over lines without fault, up to `rest`
  reads_past : (front rest : List (List ℕ)) (xs : List Line) → Lines text (front ++ rest) → (f : Faultless (length slice) [] front xs)
      → read_text text slice ≡ read_from (suc (length front)) (run slice start [] front xs started f).after rest slice
  unfolding read_text
  reads_past front rest xs c f =
      let ran = run slice start [] front xs started f in
      ap (λ (ls : List (List ℕ)). read_from 1 start ls slice) (lines_are text (front ++ rest) c)
      ∙ ran.reads 1 rest
      ∙ ap (λ (k : ℕ). read_from k ran.after rest slice) (omega arith)

  -- it stops at the first fault
  stops : (rest : List (List ℕ)) (xs : List Line) (r : Reading) (at k : ℕ) → State (length slice) xs r → k ≢ 0
      → FirstFault (faults_at (length slice) xs rest) k → read_from at r rest slice ≡ refused_at k at r slice
  stops [] xs r at k st faulty first = go (end_reads slice at r xs st)
    where
      go : EndReads slice at r xs → read_from at r [] slice ≡ refused_at k at r slice
      go (inl (j, d, other, e)) = e ∙ ap (λ (i : ℕ). refused_at i at r slice) (first-once (end_faults xs) j k other first)
      go (inr (none, g, q, e)) = absurd (faulty (none_first (end_faults xs) k none first))
  stops (l ∷ ls) xs r at k st faulty first = go (line_reads slice r xs l st)
    where
      go : LineReads slice r xs l → read_from at r (l ∷ ls) slice ≡ refused_at k at r slice
      go (inl (j, d, other, e)) = e at ls ∙ ap (λ (i : ℕ). refused_at i at r slice) (first-once (line_faults (length slice) xs l) j k other first)
      go (inr (x, s, spelled, none, t, e)) = absurd (faulty (none_first (line_faults (length slice) xs l) k none first))

  -- a text with a first fault is refused with its number, at its line
  pub first-fault_reply : (k i : ℕ) (xs : List Line) → FirstFaultyLine (length slice) text k i xs
      → (r : Reading) × State (length slice) xs r × (read_text text slice ≡ refused_at k i r slice)
  first-fault_reply k i xs f =
      let ran = run slice start [] f.front xs started f.faultless in (
        ran.after,
        ran.state,
        reads_past f.front f.rest xs f.cut f.faultless
            ∙ stops f.rest xs ran.after (suc (length f.front)) k ran.state f.faulty f.fault
            ∙ ap (λ (j : ℕ). refused_at k j ran.after slice) (sym f.line),
      )

  -- the end of a graph's text
  ends_accepting : (n m : ℕ) (t : List ℕ) (g : EdgeText (length slice) text n m t) (at : ℕ) (r : Reading) → State (length slice) g.said r
      → read_from at r [] slice ≡ record { refused = 0; vertices = n; stated = m; line = 0; slice = t ++ drop (n * n) slice }
  ends_accepting n m t g at r st = go (end_reads slice at r g.said st)
    where
      none : NoFault (end_faults g.said)
      none = (
        λ h. h n (m, drawn_in (length slice) n m g.said g.drawn),
        (λ h. h.3 (problem-second h.0 h.1 n m (drawn-one (length slice) n m g.said g.drawn h.0 h.1 h.2) ∙ g.stated), tt),
      )

      go : EndReads slice at r g.said → read_from at r [] slice ≡ record { refused = 0; vertices = n; stated = m; line = 0; slice = t ++ drop (n * n) slice }
      go (inl (k, faulty, first, e)) = absurd (faulty (none_first (end_faults g.said) k none first))
      go (inr (h, going, q, e)) =
          let both = drawn-one (length slice) n m g.said g.drawn r.vertices r.stated (drawn_in (length slice) r.vertices r.stated g.said going.drawn) in
          let size : r.vertices ≡ n = problem-first r.vertices r.stated n m both in
          let table : r.table ≡ t = table-one r.vertices g.said r.table going.table t (subst (λ (k : ℕ). Table k g.said t) (sym size) g.table) in
          e
          ∙ same_reply (accepted_with slice r) (record { refused = 0; vertices = n; stated = m; line = 0; slice = t ++ drop (n * n) slice }) refl size
          (problem-second r.vertices r.stated n m both) refl (ap₂ (λ (bytes : List ℕ) (k : ℕ). bytes ++ drop (k * k) slice) table size)

  -- the text of a graph is accepted, with the graph's N, M and table
  pub accepted_reply : (n m : ℕ) (t : List ℕ) → EdgeText (length slice) text n m t
      → read_text text slice ≡ record { refused = 0; vertices = n; stated = m; line = 0; slice = t ++ drop (n * n) slice }
  accepted_reply n m t g =
      let f = drawn-faultless (length slice) n m [] g.lines g.said g.drawn g.spelled in
      let ran = run slice start [] g.lines g.said started f in
      reads_past g.lines [] g.said (subst (Lines text) (sym (append-nil g.lines)) g.cut) f
      ∙ ends_accepting n m t g (suc (length g.lines)) ran.after ran.state

  -- The reply is the only one that document 01 asks for
  pub outcome_only : (reply : TextReply) → Outcome text slice reply → reply ≡ read_text text slice
  unfolding refused_at zeros
  outcome_only reply (inl a) =
      same_reply reply
      (record { refused = 0; vertices = reply.vertices; stated = reply.stated; line = 0; slice = a.table ++ drop (reply.vertices * reply.vertices) slice })
      a.number refl refl a.line a.left
      ∙ sym (accepted_reply reply.vertices reply.stated a.table a.graph)
  outcome_only reply (inr a) =
      let r = first-fault_reply reply.refused reply.line a.said a.first in
      same_reply reply (refused_at reply.refused reply.line r.0 slice) refl a.no_vertices a.no_edges refl
      (cleared-is a.said r.0 reply.slice r.1 a.left)
      ∙ sym r.2

-- ---- what the reader does, as document 01 says it

-- `read_text` gives the reply that document 01 asks for, and no other
pub read_iff : (text slice : List ℕ) (reply : TextReply) → (reply ≡ read_text text slice) ↔ Outcome text slice reply
read_iff text slice reply = (λ e. subst (Outcome text slice) (sym e) (outcome text slice), outcome_only text slice reply)

-- a text is accepted exactly where it is the text of a graph whose table the slice can hold
pub accepted_iff : (text slice : List ℕ)
    → ((read_text text slice).refused ≡ 0) ↔ ((n : ℕ) × (m : ℕ) × (t : List ℕ) × EdgeText (length slice) text n m t)
accepted_iff text slice = (there (outcome text slice), λ g. ap (λ (r : TextReply). r.refused) (accepted_reply text slice g.0 g.1 g.2 g.3))
  where
    there : Outcome text slice (read_text text slice) → (read_text text slice).refused ≡ 0
        → (n : ℕ) × (m : ℕ) × (t : List ℕ) × EdgeText (length slice) text n m t
    there (inl a) e = ((read_text text slice).vertices, (read_text text slice).stated, a.table, a.graph)
    there (inr a) e = absurd (a.first.faulty e)

-- a text is refused with k at line i exactly where k is the number of its first fault and i is the fault's line
pub refused_iff : (text slice : List ℕ) (k i : ℕ)
    → ((((read_text text slice).refused ≡ k) × ((read_text text slice).line ≡ i)) × (k ≢ 0)) ↔ ((said : List Line) × FirstFaultyLine (length slice) text k i said)
unfolding refused_at
refused_iff text slice k i = (λ h. there (outcome text slice) h.0.0 h.0.1 h.1, λ h. back h.0 h.1)
  where
    there : Outcome text slice (read_text text slice) → (read_text text slice).refused ≡ k → (read_text text slice).line ≡ i → k ≢ 0
        → (said : List Line) × FirstFaultyLine (length slice) text k i said
    there (inl a) e f h = absurd (h (sym e ∙ a.number))
    there (inr a) e f h = (a.said, subst₂ (λ (j l : ℕ). FirstFaultyLine (length slice) text j l a.said) e f a.first)

    back : (said : List Line) → FirstFaultyLine (length slice) text k i said → (((read_text text slice).refused ≡ k) × ((read_text text slice).line ≡ i)) × (k ≢ 0)
    back said f =
        let r = first-fault_reply text slice k i said f in (
          (ap (λ (a : TextReply). a.refused) r.2, ap (λ (a : TextReply). a.line) r.2),
          f.faulty,
        )

-- where it is refused, N and M are 0, and the slice is unchanged if no p line passed, else cleared
pub refused-first : (text slice : List ℕ) → (read_text text slice).refused ≢ 0 → Refuses text slice (read_text text slice)
refused-first text slice h = ⊎_elim (λ a. absurd (h a.number)) (λ a. a) (outcome text slice)
