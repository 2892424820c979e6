-- How the program ends: its last line and its outcome. Assumes nothing.
use Rattle.std.specs.Prelude.{ℕ, Bool, cond, List, [], ◌∷◌, Result, Ok, Err}
use Rattle.model.specs.Program.{end_line, refused_line}
use Rattle.listing.specs.declared.totals.Totals.{Totals}
use Rattle.ending.specs.declared.Unlisted.{Unlisted}
use Rattle.ending.specs.declared.Unlisted.TheVariants as unlisted
use Rattle.ending.specs.declared.Outcome.{Outcome}
use Rattle.ending.specs.declared.Outcome.TheVariants.{Ended, TurnedBack, Cut, Unread}

-- Document 01: "A refusal prints only `refused NUMBER LINE`", else `end GROUPS STEPS` comes last. A list that was cut has no last line, so an `end` line
-- means a whole list.
abbrev pub last_line : Result Totals Unlisted → List ℕ
last_line (Ok l) = end_line l.groups l.steps
last_line (Err (unlisted.TurnedBack k line)) = refused_line k line
last_line (Err unlisted.Cut) = []

-- what the program tells of itself, by its list, and whether its last line was written
abbrev pub outcome_of : Result Totals Unlisted → Bool → Outcome
outcome_of (Ok l) w = cond w Ended Cut
outcome_of (Err (unlisted.TurnedBack k line)) w = cond w (TurnedBack k line) Cut
outcome_of (Err unlisted.Cut) w = Cut

-- the line that tells an outcome: `end`, `refused NUMBER LINE`, `cut` or `unread`
abbrev pub outcome_line : Outcome → List ℕ
outcome_line Ended = 101 ∷ 110 ∷ 100 ∷ 10 ∷ []
outcome_line (TurnedBack k line) = refused_line k line
outcome_line Cut = 99 ∷ 117 ∷ 116 ∷ 10 ∷ []
outcome_line Unread = 117 ∷ 110 ∷ 114 ∷ 101 ∷ 97 ∷ 100 ∷ 10 ∷ []
