-- What the program's verdict promises. Assumes nothing.
use Rattle.std.specs.Prelude.{ℕ, ◌*◌, ◌≤◌, ◌≡◌, List, length, take, Result, Ok, Err}
use Rattle.model.specs.Groups.{Settings}
use Rattle.model.specs.Calls.{refuse_table}
use Rattle.model.specs.Program as program
use Rattle.refusal.specs.Numbers.{number}
use Rattle.isolation.specs.Numbers.{settings_of}
use Rattle.dimacs.specs.declared.Refused.{Refused}
use Rattle.request.specs.declared.listing.Listing.{Listing}
use Rattle.request.specs.declared.words.Arguments.{Arguments}
use Rattle.request.specs.Words.{Handed}

-- the refusal, or the settings with the graph of the first n × n bytes of the table
abbrev pub verdict_of : Result Listing Refused → List ℕ → program.Verdict
verdict_of (Err e) t = program.refusal (number e.refusal) e.line
verdict_of (Ok l) t = program.listing (settings_of l.settings) l.vertices (take (l.vertices * l.vertices) t)

-- a graph that is to be listed lies in the table, and has no fault there
abbrev pub Fine : Result Listing Refused → List ℕ → Type 0
Fine (Err e) t = Unit {0}
Fine (Ok l) t =
    let n = l.vertices in
    (n * n ≤ length t) × (refuse_table n (take (n * n) t) ≡ 0)

-- a text, with settings that pass, is judged as the definition says
pub record Judged (s : Settings) (text table : List ℕ) (r : Result Listing Refused) : Type 0 where
  pub verdict : verdict_of r table ≡ program.by_words (program.chosen s) text
  pub fine : Fine r table

-- The verdict is document 01's, `program_verdict`, whatever the words that are handed over, and whatever the text.
pub record Decides (w : Arguments) (text table : List ℕ) (r : Result Listing Refused) : Type 0 where
  pub verdict : (words : List (List ℕ)) → Handed words w → verdict_of r table ≡ program.program_verdict words text
  pub fine : Fine r table
