-- What every page call keeps: steps within the budget, used entries within the output, the rest of the output and both lengths.
-- Assumes nothing.
use Prim.Native.Nat.{ℕ, zero, suc, ◌-◌, ◌≤◌, zero-le}
use mathlib.Core.Path.{◌≡◌, refl, ◌∙◌}
use mathlib.Core.Bool.{Bool, true, false, ◌&&◌, not, cond}
use mathlib.Core.List.{List}
use native.Mathlib.Omega.{arith}
use lib.ListN.{length, drop, length-append, length-drop}
use lib.Seq.{drop_at}
use lib.Dec.{ltb}
use borrow.Author.Tests.{ltb-false}
use Rattle.model.specs.Below.{bit}
use Rattle.model.specs.Walk.{Position, Rules, Page, halt, onward, has, finished, advance, retreat, step, found, due, page, stopped_finished, stopped_full, stopped_spent}
use Rattle.model.specs.Listing.{rules}
use Rattle.model.specs.Calls.{Call, refuse_page, reply_of, reply_to}
use Rattle.model.specs.Demand.{PageBounds}
use Rattle.theory.proofs.Walk.Remaining.{advance-length, retreat-length}

module _ (R : Rules) where
  -- a step keeps the number of ranks
  pub step-length : (p : Position) → length (step R p) ≡ length p
  unfolding step
  step-length p = go (not (R.dead p) && has 0 p)
    where
      go : (b : Bool) → length (cond b (advance p) (retreat p)) ≡ length p
      go true = advance-length p
      go false = retreat-length p

  -- what a page keeps within its budget and room
  abbrev Bounded : ℕ → ℕ → Position → Page → Type 0
  Bounded budget room p r = (r.steps ≤ budget) × (length r.written ≤ room) × (length r.reached ≡ length p)

  page-kept : (budget room : ℕ) (p : Position) → Bounded budget room p (page R budget room p)
  unfolding page
  page-kept zero room p = go (finished p)
    where
      go : (a : Bool) → Bounded zero room p (cond a (halt stopped_finished 0 p) (halt stopped_spent 0 p))
      go true = (zero-le, zero-le, refl)
      go false = (zero-le, zero-le, refl)
  page-kept (suc budget) room p = go (finished p) (ltb room (length (due R p))) refl (page-kept budget (room - length (due R p)) (step R p))
    where
      rest : Page
      rest = page R budget (room - length (due R p)) (step R p)

      go : (a c : Bool) → ltb room (length (due R p)) ≡ c → Bounded budget (room - length (due R p)) (step R p) rest
          → Bounded (suc budget) room p (cond a (halt stopped_finished 0 p) (cond c (halt stopped_full (length (due R p)) p) (onward (bit (found R p)) (due R p) rest)))
      go true c e k = (zero-le, zero-le, refl)
      go false true e k = (zero-le, zero-le, refl)
      go false false e k =
          let h = ltb-false room (length (due R p)) e in
          let l = length-append (due R p) rest.written in
          let a = k.0 in
          let b = k.1 in
          (omega arith, omega arith, k.2 ∙ step-length p)

reply_bounds : (k : ℕ) (r : Page) (budget : ℕ) (p : Position) (out : List ℕ) → r.steps ≤ budget → length r.written ≤ length out → length r.reached ≡ length p
    → PageBounds budget p out (reply_of k r p out)
unfolding reply_of
reply_bounds zero r budget p out a b c =
    record {
      steps-within = a;
      used-within = b;
      output-rest = drop_at r.written (drop (length r.written) out) (length r.written) refl;
      output-length =
          let l = length-append r.written (drop (length r.written) out) in
          let m = length-drop (length r.written) out in
          omega arith;
      position-length = c;
    }
reply_bounds (suc k) r budget p out a b c =
    record { steps-within = zero-le; used-within = zero-le; output-rest = refl; output-length = refl; position-length = refl }

-- Every page call keeps within its budget and its output, and keeps the rest of the output and both lengths.
pub page_bounds : (c : Call) (p : Position) → PageBounds c.budget p c.output (reply_to c p)
unfolding reply_to
page_bounds c p =
    let R = rules c.lent.graph c.settings in
    let k = page-kept R c.budget (length c.output) p in
    reply_bounds (refuse_page c.lent c.settings p c.work) (page R c.budget (length c.output) p) c.budget p c.output k.0 k.1 k.2
