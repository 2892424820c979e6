-- The rounds of a page, one equation for each way that a round goes.
-- Assumes nothing.
use Prim.Native.Nat.{ℕ, zero, suc, ◌-◌, ◌≤◌, ◌<◌}
use mathlib.Core.Path.{◌≡◌}
use mathlib.Core.Bool.{true, false}
use lib.ListN.{length}
use borrow.Author.Tests.{lt-ltb, le-ltb}
use Rattle.model.specs.Below.{bit}
use Rattle.model.specs.Walk.{Position, Rules, halt, onward, finished, step, found, due, page, stopped_finished, stopped_full, stopped_spent}

module _ (R : Rules) (p : Position) where
  -- Document 01, "A page", point 1: the position is finished
  pub page-finished : (budget room : ℕ) → finished p ≡ true → page R budget room p ≡ halt stopped_finished 0 p
  unfolding page
  page-finished zero room e = rw (e, page)
  page-finished (suc budget) room e = rw (e, page)

  module _ (walking : finished p ≡ false) where
    -- point 2: the steps made equal the budget
    pub page_spent : (room : ℕ) → page R 0 room p ≡ halt stopped_spent 0 p
    unfolding page
    page_spent room = rw (walking, page)

    -- point 3: the group doesn't fit
    pub page-full : (budget room : ℕ) → room < length (due R p) → page R (suc budget) room p ≡ halt stopped_full (length (due R p)) p
    unfolding page
    page-full budget room h = rw (walking, lt-ltb room (length (due R p)) h, page)

    -- points 4 and 5: a group, if there is one, and one step
    pub page-onward : (budget room : ℕ) → length (due R p) ≤ room
        → page R (suc budget) room p ≡ onward (bit (found R p)) (due R p) (page R budget (room - length (due R p)) (step R p))
    unfolding page
    page-onward budget room h = rw (walking, le-ltb room (length (due R p)) h, page)
