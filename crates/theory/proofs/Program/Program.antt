-- What the program prints: one output for all words and texts, the same page by page, and the example of document 01.
-- Assumes nothing.
use Prim.Native.Nat.{ℕ, zero, suc, ◌*◌, ◌≤◌, ◌<◌}
use mathlib.Core.Path.{◌≡◌, refl, sym, ap, ap₂, ◌∙◌, subst, subst⁻¹}
use mathlib.Core.Bool.{Bool, true, false, cond}
use mathlib.Core.Logic.{◌≢◌}
use mathlib.Core.Option.{Option, none, some}
use mathlib.Core.List.{List, [], ◌∷◌, ◌++◌}
use native.Mathlib.Omega.{arith}
use lib.ListN.{length, take, replicate, length-append}
use lib.Dec.{ltb}
use borrow.Author.Tests.{lt-ltb, le-ltb}
use Rattle.model.specs.Compute.{compute}
use Rattle.model.specs.Graph.{Graph, by_table}
use Rattle.model.specs.Groups.{Settings}
use Rattle.model.specs.Meaning.{Simple}
use Rattle.model.specs.Walk.{fresh, lasts, full_sets}
use Rattle.model.specs.Listing.{rules}
use Rattle.model.specs.Calls.{refuse_table, refuse_settings, PageReply}
use Rattle.model.specs.Demand.{all_steps, all_groups, SomeFinished, Demand3}
use Rattle.model.specs.Fault.{FirstFault}
use Rattle.model.specs.Faults.{settings_faults}
use Rattle.model.specs.Text.{number_of, TextReply}
use Rattle.model.specs.Program.{Words, wrong, chosen, Verdict, refusal, listing, bounded, three, settings_of_words, group_lines, held, end_line, refused_line, reading, by_reading, by_words, program_verdict, PrintsAt, Prints}
use Rattle.theory.specs.Replies.{Chain}
use Rattle.theory.specs.Printed.{printed, printed_pages, Begins}
use Rattle.theory.proofs.Walk.Ends.{walk_ends, length-once}
use Rattle.theory.proofs.Calls.TableFaults.{table-simple}
use Rattle.theory.proofs.Calls.Pages.{chain_demand, none-missing}
use Rattle.theory.proofs.Walk.Lawful.{lawful}
use Rattle.theory.proofs.Program.Printed.{list-printed, lines-append, pages-printed, records-printed}
use Rattle.theory.proofs.Calls.Fault.{never_first}
use Rattle.theory.proofs.Calls.Faults.{settings-first}
use Rattle.theory.proofs.Text.EdgeTextGraph.{read_table-accepted}
use Rattle.theory.proofs.Text.EdgeTextRepeats.{never_38}

-- ---- refusals

-- a refusal has a number, which is not 38
abbrev Told : ℕ → Type 0
Told k = (0 < k) × (k ≢ 38)

-- the settings that words give pass, and a refusal is told so
abbrev WordsPassed : Words → Type 0
WordsPassed (wrong k) = Told k
WordsPassed (chosen s) = refuse_settings s ≡ 0

bounded-passed : (k : ℕ) (s : Settings) → refuse_settings s ≡ k → WordsPassed (bounded k s)
unfolding bounded
bounded-passed zero s e = e
bounded-passed (suc k) s e =
    (omega arith, λ z. never_first (settings_faults s) 38 (λ q. omega arith) refl (subst (FirstFault (settings_faults s)) (e ∙ z) (settings-first s)))

three-passed : (a b c : Option ℕ) → WordsPassed (three a b c)
unfolding three
three-passed none b c = (omega arith, omega arith)
three-passed (some x) none c = (omega arith, omega arith)
three-passed (some x) (some y) none = (omega arith, omega arith)
three-passed (some x) (some y) (some z) = bounded-passed _ _ refl

words_passed : (words : List (List ℕ)) → WordsPassed (settings_of_words words)
unfolding settings_of_words
words_passed [] = (omega arith, omega arith)
words_passed (a ∷ []) = (omega arith, omega arith)
words_passed (a ∷ b ∷ []) = (omega arith, omega arith)
words_passed (a ∷ b ∷ c ∷ []) = three-passed (number_of a) (number_of b) (number_of c)
words_passed (a ∷ b ∷ c ∷ d ∷ ds) = (omega arith, omega arith)

-- what is listed has settings and a table without fault, and a refusal is told so
abbrev pub Answerable : Verdict → Type 0
Answerable (refusal k line) = Told k
Answerable (listing s n t) = (refuse_settings s ≡ 0) × (refuse_table n t ≡ 0)

reading_listable : (k : ℕ) (s : Settings) (r : TextReply) → refuse_settings s ≡ 0 → k ≢ 38
    → (k ≡ 0 → refuse_table r.vertices (take (r.vertices * r.vertices) r.slice) ≡ 0) → Answerable (by_reading k s r)
unfolding by_reading
reading_listable zero s r h d f = (h, f refl)
reading_listable (suc k) s r h d f = (omega arith, d)

words_listable : (w : Words) (text : List ℕ) → WordsPassed w → Answerable (by_words w text)
unfolding by_words reading
words_listable (wrong k) text h = h
words_listable (chosen s) text h =
    go (ltb 65536 (length text))
    (reading_listable (reading text).refused s (reading text) h (never_38 text (replicate 65536 0)) (read_table-accepted text (replicate 65536 0)))
  where
    go : (b : Bool) → Answerable (by_reading (reading text).refused s (reading text))
        → Answerable (cond b (refusal 41 0) (by_reading (reading text).refused s (reading text)))
    go true l = (omega arith, omega arith)
    go false l = l

-- so for any words and text
pub verdict_listable : (words : List (List ℕ)) (text : List ℕ) → Answerable (program_verdict words text)
unfolding program_verdict
verdict_listable words text = words_listable (settings_of_words words) text (words_passed words)

-- the program never refuses with 38 (document 02, C-11)
pub program_never_38 : (words : List (List ℕ)) (text : List ℕ) (line : ℕ) → program_verdict words text ≡ refusal 38 line → ⊥
program_never_38 words text line e = (subst Answerable e (verdict_listable words text)).1 refl

-- a refusal prints only its line
pub refusal_prints : (words : List (List ℕ)) (text : List ℕ) (k line : ℕ) → program_verdict words text ≡ refusal k line → Prints words text (refused_line k line)
unfolding PrintsAt
refusal_prints words text k line e = subst⁻¹ (λ (x : Verdict). PrintsAt x (refused_line k line)) e refl

-- words come first: their refusal is all that is printed, whatever the text
pub words_refused : (words : List (List ℕ)) (text : List ℕ) (k : ℕ) → settings_of_words words ≡ wrong k → Prints words text (refused_line k 0)
unfolding program_verdict by_words
words_refused words text k e = refusal_prints words text k 0 (ap (λ (w : Words). by_words w text) e)

-- a wrong count of words is refusal 32
pub not_three : (words : List (List ℕ)) → length words ≢ 3 → settings_of_words words ≡ wrong 32
unfolding settings_of_words
not_three [] d = refl
not_three (a ∷ []) d = refl
not_three (a ∷ b ∷ []) d = refl
not_three (a ∷ b ∷ c ∷ []) d = absurd (d refl)
not_three (a ∷ b ∷ c ∷ e ∷ es) d = refl

-- so it prints `refused 32 0`
pub wrong-count : (words : List (List ℕ)) (text : List ℕ) → length words ≢ 3 → Prints words text (refused_line 32 0)
wrong-count words text d = words_refused words text 32 (not_three words d)

-- then 41, a text of more than 65,536 bytes
pub by_length : (s : Settings) (text : List ℕ) → ltb 65536 (length text) ≡ true → by_words (chosen s) text ≡ refusal 41 0
unfolding by_words
by_length s text e = rw (e, by_words)

pub long-refused : (words : List (List ℕ)) (text : List ℕ) (s : Settings) → settings_of_words words ≡ chosen s → 65536 < length text
    → Prints words text (refused_line 41 0)
unfolding program_verdict
long-refused words text s e h =
    refusal_prints words text 41 0 (ap (λ (w : Words). by_words w text) e ∙ by_length s text (lt-ltb 65536 (length text) h))

-- then the text, by the reader's refusal number
pub by_text : (s : Settings) (text : List ℕ) → ltb 65536 (length text) ≡ false → by_words (chosen s) text ≡ by_reading (reading text).refused s (reading text)
unfolding by_words
by_text s text e = rw (e, by_words)

pub by_refusal : (k : ℕ) (s : Settings) (r : TextReply) → k ≢ 0 → by_reading k s r ≡ refusal k r.line
unfolding by_reading
by_refusal zero s r d = absurd (d refl)
by_refusal (suc k) s r d = refl

pub by_graph : (k : ℕ) (s : Settings) (r : TextReply) → k ≡ 0 → by_reading k s r ≡ listing s r.vertices (take (r.vertices * r.vertices) r.slice)
unfolding by_reading
by_graph zero s r e = refl
by_graph (suc k) s r e = absurd (omega arith)

pub text-refused : (words : List (List ℕ)) (text : List ℕ) (s : Settings) → settings_of_words words ≡ chosen s → length text ≤ 65536
    → (reading text).refused ≢ 0 → Prints words text (refused_line (reading text).refused (reading text).line)
unfolding program_verdict
text-refused words text s e h d =
    refusal_prints words text (reading text).refused (reading text).line
    (ap (λ (w : Words). by_words w text) e ∙ by_text s text (le-ltb 65536 (length text) h) ∙ by_refusal (reading text).refused s (reading text) d)

-- ---- one output

at_once : (x : Verdict) (a b : List ℕ) → PrintsAt x a → PrintsAt x b → a ≡ b
unfolding PrintsAt
at_once (refusal k line) a b p q = p ∙ sym q
at_once (listing s n t) a b p q =
    let R = rules (by_table n t) s in
    p.2
    ∙ ap (λ (k : ℕ). group_lines (by_table n t) (full_sets R n) ++ end_line (held (length (full_sets R n))) (held k)) (length-once R p.0 q.0 (fresh n) p.1 q.1)
    ∙ sym q.2

-- the words and the text determine what is printed
pub prints_once : (words : List (List ℕ)) (text a b : List ℕ) → Prints words text a → Prints words text b → a ≡ b
prints_once words text = at_once (program_verdict words text)

at_some : (x : Verdict) → Answerable x → (out : List ℕ) × PrintsAt x out
unfolding PrintsAt
at_some (refusal k line) l = (refused_line k line, refl)
at_some (listing s n t) l = let w = walk_ends (rules (by_table n t) s) n (lawful (by_table n t) (table-simple n t l.1).loopless s) in (_, (w.0, w.1, refl))

-- something is printed whatever the words and the text
pub prints_some : (words : List (List ℕ)) (text : List ℕ) → (out : List ℕ) × Prints words text out
prints_some words text = at_some (program_verdict words text) (verdict_listable words text)

-- ---- page by page

module _ (G : Graph) (s : Settings) (simple : Simple G) (rs : List PageReply) (chain : Chain (rules G s) (fresh G.size) rs) where
  demand : Demand3 (rules G s) G.size rs
  demand = chain_demand (rules G s) G.size (lawful G simple.loopless s) rs chain

  -- replies from fresh on print page by page the first lines of the list
  pub pages_begin : Begins (printed_pages rs) (group_lines G (full_sets (rules G s) G.size))
  pages_begin =
      let d = demand.listed in (
        group_lines G d.rest,
        ap (group_lines G) d.first
            ∙ lines-append G s d.front d.rest
            ∙ ap (λ (l : List ℕ). l ++ group_lines G d.rest) (sym (pages-printed G s rs (fresh G.size) chain ∙ ap printed d.entries ∙ records-printed G s d.front)),
      )

  module _ (ended : SomeFinished rs) where
    -- replies that end the walk have reported every group
    pub all_groups_lem : all_groups rs ≡ length (full_sets (rules G s) G.size)
    all_groups_lem =
        let d = demand.listed in
        let z = ap length (none-missing G s rs demand ended) in
        let c = ap length d.first ∙ length-append d.front d.rest in
        let g = d.number in
        omega arith

    -- and print page by page a line for each group of the full list
    pub pages-listed : printed_pages rs ≡ group_lines G (full_sets (rules G s) G.size)
    pages-listed = pages-printed G s rs (fresh G.size) chain ∙ ap printed (demand.whole ended).0 ∙ list-printed G s G.size

    -- and the steps that they have reported are the walk's length
    pub pages-length : lasts (rules G s) (all_steps rs) (fresh G.size) ≡ true
    pages-length = (demand.whole ended).1

at_pages : (s : Settings) (n : ℕ) (t : List ℕ) → Simple (by_table n t) → (rs : List PageReply) → Chain (rules (by_table n t) s) (fresh n) rs → SomeFinished rs
    → PrintsAt (listing s n t) (printed_pages rs ++ end_line (held (all_groups rs)) (held (all_steps rs)))
unfolding PrintsAt
at_pages s n t simple rs chain ended = (
  all_steps rs,
  pages-length (by_table n t) s simple rs chain ended,
  ap₂ {C = List ℕ} (λ l r. l ++ r)
      (pages-listed (by_table n t) s simple rs chain ended)
      (ap (λ (g : ℕ). end_line (held g) (held (all_steps rs))) (all_groups_lem (by_table n t) s simple rs chain ended)),
)

-- replies to page calls from fresh on, of which one has said Finished, print page by page what the program prints
pub pages_print : (words : List (List ℕ)) (text : List ℕ) (s : Settings) (n : ℕ) (t : List ℕ) → program_verdict words text ≡ listing s n t
    → (rs : List PageReply) → Chain (rules (by_table n t) s) (fresh n) rs → SomeFinished rs
    → Prints words text (printed_pages rs ++ end_line (held (all_groups rs)) (held (all_steps rs)))
pages_print words text s n t e rs chain ended =
    subst⁻¹ (λ (x : Verdict). PrintsAt x (printed_pages rs ++ end_line (held (all_groups rs)) (held (all_steps rs)))) e
    (at_pages s n t (table-simple n t (subst Answerable e (verdict_listable words text)).1) rs chain ended)

-- ---- the example of document 01

-- `2 0 2`
abbrev pub example_words : List (List ℕ)
example_words = (50 ∷ []) ∷ (48 ∷ []) ∷ (50 ∷ []) ∷ []

-- `p edge 4 3`, `e 1 2`, `e 1 3`, `e 1 4`
abbrev pub example_text : List ℕ
example_text =
    112 ∷ 32 ∷ 101 ∷ 100 ∷ 103 ∷ 101 ∷ 32 ∷ 52 ∷ 32 ∷ 51 ∷ 10 ∷
    101 ∷ 32 ∷ 49 ∷ 32 ∷ 50 ∷ 10 ∷
    101 ∷ 32 ∷ 49 ∷ 32 ∷ 51 ∷ 10 ∷
    101 ∷ 32 ∷ 49 ∷ 32 ∷ 52 ∷ 10 ∷ []

-- `2`, `3`, `4`, `end 3 20`
abbrev pub example_output : List ℕ
example_output =
    50 ∷ 10 ∷
    51 ∷ 10 ∷
    52 ∷ 10 ∷
    101 ∷ 110 ∷ 100 ∷ 32 ∷ 51 ∷ 32 ∷ 50 ∷ 48 ∷ 10 ∷ []

-- The example of document 01 prints what document 01 says
pub example_prints : Prints example_words example_text example_output
unfolding compute PrintsAt
example_prints = (20, refl, refl)

-- `refused 32 0`, without words and for `2 0`
abbrev pub count_output : List ℕ
count_output = 114 ∷ 101 ∷ 102 ∷ 117 ∷ 115 ∷ 101 ∷ 100 ∷ 32 ∷ 51 ∷ 50 ∷ 32 ∷ 48 ∷ 10 ∷ []

-- and these words print it, whatever the text
pub count_prints : (text : List ℕ) → Prints [] text count_output × Prints ((50 ∷ []) ∷ (48 ∷ []) ∷ []) text count_output
unfolding compute PrintsAt
count_prints text = (refl, refl)
