-- Where a page's loop stands between two rounds: what it has done so far, and what a page from here would add, make the whole page.
-- Assumes nothing.
use Rattle.std.specs.Prelude.{ℕ, ◌+◌, ◌-◌, ◌≤◌, ◌≡◌, List, ◌++◌, length, drop}
use Rattle.model.specs.Walk.{Position, Rules, Page, page}

-- so many steps made, groups written and entries put out, and then what the page `rest` did
abbrev pub sofar : ℕ → ℕ → List ℕ → Page → Page
sofar steps groups written rest =
    record {
      stop = rest.stop;
      groups = groups + rest.groups;
      steps = steps + rest.steps;
      wanted = rest.wanted;
      reached = rest.reached;
      written = written ++ rest.written;
    }

-- A page's loop that began at the position `first` with the output `lent` has made so many steps, written so many groups and used so many entries, and
-- is at the position p with the output as it now is.
pub record Turn (R : Rules) (budget : ℕ) (first : Position) (lent : List ℕ) (steps groups used : ℕ) (p : Position) (output : List ℕ) : Type 0 where
  pub written : List ℕ
  pub whole : page R budget (length lent) first ≡ sofar steps groups written (page R (budget - steps) (length lent - used) p)
  pub used-is : used ≡ length written
  pub output-is : output ≡ written ++ drop used lent
  pub used-fits : used ≤ length lent
  pub steps-fit : steps ≤ budget
  pub groups-fit : groups ≤ steps
