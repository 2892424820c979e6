-- What is put out at a position, and what is then answered.
-- Assumes nothing.
use Rattle.std.specs.Prelude.{ℕ, ◌+◌, ◌≤◌, ◌<◌, ◌≡◌, cond, List, ◌++◌, length, take, drop, Option, Some, None, Result, IfOk, IfErr}
use Rattle.model.specs.Graph.{Graph}
use Rattle.model.specs.Walk.{Position, Rules, found, due}
use Rattle.model.specs.Listing.{rules}
use Rattle.isolation.specs.declared.criterion.Criterion.{Criterion}
use Rattle.isolation.specs.Numbers.{settings_in}
use Rattle.state.specs.declared.State.{State}
use Rattle.state.specs.State.{Stands}
use Rattle.emit.specs.declared.Full.{Full}

-- Document 01, "A page", point 4, at the position p with so many entries of the output used: what is due fits, and goes right after the used entries;
-- where a group is found the answer is how many are used then
pub record Written (R : Rules) (p : Position) (used : ℕ) (before after : List ℕ) (r : Option ℕ) : Type 0 where
  pub fits : used + length (due R p) ≤ length before
  pub answer : r ≡ cond (found R p) (Some (used + length (due R p))) None
  pub written : after ≡ take used before ++ due R p ++ drop (used + length (due R p)) before

-- and point 3: what is due does not fit, its entries are wanted, and nothing is written
pub record Lacking (R : Rules) (p : Position) (used : ℕ) (before after : List ℕ) (r : Full) : Type 0 where
  pub exceeds : length before < used + length (due R p)
  pub wanted : r.wanted ≡ length (due R p)
  pub kept : after ≡ before

-- one of the two, as the answer says
pub record PutAt (R : Rules) (p : Position) (used : ℕ) (before after : List ℕ) (r : Result (Option ℕ) Full) : Type 0 where
  pub full : IfErr r (Lacking R p used before after)
  pub put : IfOk r (Written R p used before after)

-- that at each position for which the state stands, and that the state still stands for it
pub record Emitted (G : Graph) (w w₁ : List ℕ) (q : Criterion) (s : State) (used : ℕ) (before after : List ℕ) (r : Result (Option ℕ) Full) : Type 0 where
  pub at : (p : Position) → Stands G p w s → PutAt (rules G (settings_in q)) p used before after r
  pub stands : (p : Position) → Stands G p w s → Stands G p w₁ s
