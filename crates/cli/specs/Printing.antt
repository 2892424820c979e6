-- What the program prints, as far as its functions promise it: what is printed of its pages, in their order, and its last line. Assumes nothing.
use Rattle.std.specs.Prelude.{ℕ, ◌*◌, ◌≡◌, Bool, true, List, [], ◌++◌, take, Result, Ok, Err}
use Rattle.model.specs.Graph.{by_table}
use Rattle.model.specs.Program.{settings_of_words, program_verdict, Prints}
use Rattle.theory.specs.Printed.{printed_pages, Begins}
use Rattle.isolation.specs.Numbers.{settings_of}
use Rattle.refusal.specs.Numbers.{number}
use Rattle.listing.specs.List.{Ran}
use Rattle.listing.specs.declared.totals.Totals.{Totals}
use Rattle.dimacs.specs.declared.Refused.{Refused}
use Rattle.request.specs.declared.listing.Listing.{Listing}
use Rattle.request.specs.declared.words.Arguments.{Arguments}
use Rattle.request.specs.Verdict.{verdict_of, Decides}
use Rattle.request.specs.Words.{passes}
use Rattle.ending.specs.declared.Outcome.{Outcome}
use Rattle.ending.specs.declared.Unlisted.{Unlisted}
use Rattle.ending.specs.declared.Unlisted.TheVariants.{TurnedBack, Cut}
use Rattle.ending.specs.Ending.{last_line, outcome_of}

-- the totals of a whole list; a list that was cut is told without totals
abbrev pub unlisted_if_cut : Result Totals Totals → Result Totals Unlisted
unlisted_if_cut (Ok l) = Ok l
unlisted_if_cut (Err l) = Err Cut

-- what is listed for a verdict: the pages of its graph; of a refusal nothing is listed
abbrev pub ListedBy : Result Listing Refused → List ℕ → Result Totals Unlisted → Type 0
ListedBy (Err r) t l = l ≡ Err (TurnedBack (number r.refusal) r.line)
ListedBy (Ok q) t l = (r : Result Totals Totals) × (l ≡ unlisted_if_cut r) × Ran (by_table q.vertices (take (q.vertices * q.vertices) t)) (settings_of q.settings) r

-- a verdict is answered: what it asks for is listed, and the outcome goes by this list and by whether its last line was written, which may be either
pub record Answers (v : Result Listing Refused) (t : List ℕ) (o : Outcome) : Type 0 where
  pub list : Result Totals Unlisted
  pub listed : ListedBy v t list
  pub written : Bool
  pub told : o ≡ outcome_of list written

-- words and a text are responded to: the verdict on them is answered
pub record Responds (w : Arguments) (text t : List ℕ) (o : Outcome) : Type 0 where
  pub verdict : Result Listing Refused
  pub decided : Decides w text t verdict
  pub answered : Answers verdict t o

-- what is read of a text: its first 65,537 bytes, where the words pass; else nothing is read, and it may be anything
abbrev pub ReadOf : List (List ℕ) → List ℕ → List ℕ → Type 0
ReadOf words text read = passes (settings_of_words words) ≡ true → read ≡ take 65537 text

-- what is printed of the pages that a verdict asks for, page by page
abbrev pub pages_of : (v : Result Listing Refused) (t : List ℕ) (l : Result Totals Unlisted) → ListedBy v t l → List ℕ
pages_of (Err r) t l h = []
pages_of (Ok q) t l h = printed_pages h.2.replies

-- nothing was cut: it is a refusal, or its list is whole
abbrev pub Uncut : Result Totals Unlisted → Type 0
Uncut (Ok l) = Unit {0}
Uncut (Err (TurnedBack k line)) = Unit {0}
Uncut (Err Cut) = ⊥

-- The verdict is document 01's. Where nothing was cut, what is printed of the pages and then the last line are what document 01 says. Where the list was cut,
-- there is no last line, and what is printed of the pages is the beginning of what document 01 says.
pub record PrintsAsSaid (words : List (List ℕ)) (text : List ℕ) (v : Result Listing Refused) (t : List ℕ) (l : Result Totals Unlisted) (listed : ListedBy v t l) : Type 0 where
  pub verdict : verdict_of v t ≡ program_verdict words text
  pub uncut : Uncut l → Prints words text (pages_of v t l listed ++ last_line l)
  pub cut : (Uncut l → ⊥) → (last_line l ≡ []) × ((out : List ℕ) → Prints words text out → Begins (pages_of v t l listed) out)
