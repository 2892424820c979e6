-- What the program prints, by what its functions promise: whatever its words and its text, it is what document 01 says, or a beginning of the list without a
-- last line. What the library's functions do is taken from their word: that they hand over the words and the text, and write what they are handed. That every
-- page is handed to a write, one after the other, that the last line comes after them, and that the list is cut exactly where a write has failed, is in the
-- few lines of `listing::list_all` and `cli::program::answer`, and is tested.
-- Assumes nothing.
use Prim.Native.Nat.{ℕ}
use mathlib.Core.Path.{◌≡◌, refl, sym, ap, ◌∙◌}
use mathlib.Core.Bool.{Bool, true, false}
use mathlib.Core.List.{List, ◌++◌}
use native.Mathlib.Omega.{arith}
use lib.ListN.{length, take, length-take}
use lib.Dec.{ltb}
use lib.Seq.{take_all}
use borrow.Author.Tests.{ltb-true, ltb-false, lt-ltb}
use Rattle.std.specs.Prelude.{Result, Ok, Err}
use Rattle.model.specs.Groups as groups
use Rattle.model.specs.Program.{Words, wrong, chosen, settings_of_words, by_words, program_verdict, Prints}
use Rattle.theory.proofs.Program.Program.{refusal_prints}
use Rattle.isolation.specs.Numbers.{settings_of}
use Rattle.listing.specs.declared.totals.Totals.{Totals}
use Rattle.listing.proofs.PageByPage.{ran_begins, ran_prints}
use Rattle.refusal.specs.Numbers.{number}
use Rattle.dimacs.specs.declared.Refused.{Refused}
use Rattle.request.specs.declared.listing.Listing.{Listing}
use Rattle.request.specs.Verdict.{verdict_of}
use Rattle.request.specs.declared.words.Arguments.{Arguments}
use Rattle.request.specs.Words.{Handed, passes}
use Rattle.ending.specs.declared.Unlisted.{Unlisted}
use Rattle.ending.specs.declared.Unlisted.TheVariants.{TurnedBack, Cut}
use Rattle.ending.specs.declared.Outcome.{Outcome}
use Rattle.ending.specs.declared.Outcome.TheVariants.{Ended}
use Rattle.ending.specs.Ending.{last_line, outcome_of}
use Rattle.cli.specs.Printing.{ListedBy, Responds, ReadOf, pages_of, Uncut, PrintsAsSaid}

-- ---- what is read of the text decides as the text does

-- of a text no more than 65,537 bytes are looked at
cut-same : (s : groups.Settings) (text : List ℕ) → by_words (chosen s) (take 65537 text) ≡ by_words (chosen s) text
unfolding by_words
cut-same s text = go (ltb 65536 (length text)) refl
  where
    go : (b : Bool) → ltb 65536 (length text) ≡ b → by_words (chosen s) (take 65537 text) ≡ by_words (chosen s) text
    go true e =
        let l = length-take 65537 text in
        rw (lt-ltb 65536 (length (take 65537 text)) (omega (arith, ltb-true 65536 (length text) e)), e, by_words)
    go false e = ap (by_words (chosen s)) (take_all 65537 text (omega (arith, ltb-false 65536 (length text) e)))

-- where the words are refused the text is not looked at
words_same : (w : Words) (text read : List ℕ) → (passes w ≡ true → read ≡ take 65537 text) → by_words w read ≡ by_words w text
unfolding by_words
words_same (wrong k) text read h = refl
words_same (chosen s) text read h = ap (by_words (chosen s)) (h refl) ∙ cut-same s text

pub read_same : (words : List (List ℕ)) (text read : List ℕ) → ReadOf words text read → program_verdict words read ≡ program_verdict words text
unfolding program_verdict
read_same words text read h = words_same (settings_of_words words) text read h

-- ---- what is printed

-- an end is told only where nothing was cut
ended-uncut : (l : Result Totals Unlisted) (w : Bool) → outcome_of l w ≡ Ended → Uncut l
ended-uncut (Ok l) w e = tt
ended-uncut (Err (TurnedBack k line)) w e = tt
ended-uncut (Err Cut) w e = cc

said_listed : (words : List (List ℕ)) (text : List ℕ) (q : Listing) (t : List ℕ) → verdict_of (Ok q) t ≡ program_verdict words text
    → (l : Result Totals Unlisted) (listed : ListedBy (Ok q) t l) → PrintsAsSaid words text (Ok q) t l listed
said_listed words text q t e l (Ok totals, same, ran) =
    record {
      verdict = e;
      uncut = λ u. rw same (ran_prints words text (settings_of q.settings) q.vertices _ (sym e) ran);
      cut = λ u. absurd (u (rw same tt));
    }
said_listed words text q t e l (Err totals, same, ran) =
    record {
      verdict = e;
      uncut = λ u. absurd (rw same at u);
      cut = λ u. (ap last_line same, ran_begins words text (settings_of q.settings) q.vertices _ (sym e) ran);
    }

said : (words : List (List ℕ)) (text : List ℕ) (v : Result Listing Refused) (t : List ℕ) → verdict_of v t ≡ program_verdict words text
    → (l : Result Totals Unlisted) (listed : ListedBy v t l) → PrintsAsSaid words text v t l listed
said words text (Err r) t e l listed =
    record { verdict = e; uncut = λ u. rw listed (refusal_prints words text (number r.refusal) r.line (sym e)); cut = λ u. absurd (u (rw listed tt)) }
said words text (Ok q) t e l listed = said_listed words text q t e l listed

module _ (words : List (List ℕ)) (text : List ℕ) (w : Arguments) (read table : List ℕ) (handed : Handed words w) (given : ReadOf words text read) (o : Outcome)
    (r : Responds w read table o) where
  abbrev list : Result Totals Unlisted
  list = r.answered.list

  -- The program prints what document 01 says, over the contract of `cli::program::respond`: what its writes are handed, page by page and last, is required of
  -- `listing::write_page` and `cli::program::write_last`.
  pub program_prints : PrintsAsSaid words text r.verdict table list r.answered.listed
  program_prints =
      said words text r.verdict table (r.decided.verdict words handed ∙ read_same words text read given) list r.answered.listed

  -- It tells an end only of a list that is whole, and then it has printed all that document 01 says.
  pub ended_prints : o ≡ Ended → Prints words text (pages_of r.verdict table list r.answered.listed ++ last_line list)
  ended_prints e = program_prints.uncut (ended-uncut list r.answered.written (sym r.answered.told ∙ e))
