-- A page that stops Full has reached a group whose record is larger than the unused output, and wants as many entries as it has.
-- Assumes nothing.
use Prim.Native.Nat.{ℕ, zero, suc, ◌+◌, ◌-◌, ◌≤◌, ◌<◌}
use mathlib.Core.Path.{◌≡◌, refl, ◌∙◌}
use mathlib.Core.Bool.{Bool, true, false, cond}
use mathlib.Core.Logic.{◌≢◌}
use mathlib.Core.List.{List, []}
use native.Mathlib.Omega.{arith}
use lib.ListN.{length, drop, length-append, length-drop}
use lib.Dec.{ltb}
use borrow.Author.Tests.{ltb-true, ltb-false}
use Rattle.model.specs.Below.{bit}
use Rattle.model.specs.Graph.{Graph}
use Rattle.model.specs.Groups.{Settings}
use Rattle.model.specs.Walk.{Position, Rules, Page, halt, onward, finished, decided, step, found, due, page, stopped_finished, stopped_spent, stopped_full}
use Rattle.model.specs.Listing.{rules}
use Rattle.model.specs.Calls.{Call, refuse_page, reply_of, reply_to}
use Rattle.model.specs.Records.{Wants}
use Rattle.theory.proofs.Basics.Tests.{test_and, test_self}
use Rattle.theory.proofs.Walk.Listing.{found_qualifies}
use Rattle.theory.proofs.Walk.Records.{record_long}

module _ (R : Rules) where
  -- where a page that stops Full is and what it wants, and that any other wants nothing
  pub record Stopped (room : ℕ) (r : Page) : Type 0 where
    pub full : r.stop ≡ stopped_full → (found R r.reached ≡ true) × (r.wanted ≡ length (R.entries r.reached)) × (room < length r.written + r.wanted)
    pub else : r.stop ≢ stopped_full → r.wanted ≡ 0

  -- it stopped for another reason
  for_another : (room stop : ℕ) (p : Position) → stop ≢ stopped_full → Stopped room (halt stop 0 p)
  for_another room stop p d = record { full = λ e. absurd (d e); else = λ z. refl }

  -- what is due does not fit, so that a group is found
  no_room : (room : ℕ) (p : Position) → room < length (due R p) → Stopped room (halt stopped_full (length (due R p)) p)
  unfolding due
  no_room room p = go (found R p) refl
    where
      go : (b : Bool) → found R p ≡ b → room < length (cond b (R.entries p) []) → Stopped room (halt stopped_full (length (cond b (R.entries p) [])) p)
      go true e h = record { full = λ z. (e, refl, omega arith); else = λ d. absurd (d refl) }
      go false e h = absurd (omega arith)

  -- a step was made, with what is due at p before it
  after_step : (room g : ℕ) (es : List ℕ) (r : Page) → length es ≤ room → Stopped (room - length es) r → Stopped room (onward g es r)
  after_step room g es r h st =
      record {
        full = λ e.
            let f = st.full e in
            let l = length-append es r.written in
            let b = f.2 in
            (f.0, f.1, omega arith);
        else = st.else;
      }

  -- so every page stops
  pub page-stopped : (budget room : ℕ) (p : Position) → Stopped room (page R budget room p)
  unfolding page
  page-stopped zero room p = go (finished p)
    where
      go : (a : Bool) → Stopped room (cond a (halt stopped_finished 0 p) (halt stopped_spent 0 p))
      go true = for_another room stopped_finished p (λ e. omega arith)
      go false = for_another room stopped_spent p (λ e. omega arith)
  page-stopped (suc budget) room p = go (finished p) (ltb room (length (due R p))) refl (page-stopped budget (room - length (due R p)) (step R p))
    where
      rest : Page
      rest = page R budget (room - length (due R p)) (step R p)

      go : (a c : Bool) → ltb room (length (due R p)) ≡ c → Stopped (room - length (due R p)) rest
          → Stopped room (cond a (halt stopped_finished 0 p) (cond c (halt stopped_full (length (due R p)) p) (onward (bit (found R p)) (due R p) rest)))
      go true c e st = for_another room stopped_finished p (λ e. omega arith)
      go false true e st = no_room room p (ltb-true room (length (due R p)) e)
      go false false e st = after_step room (bit (found R p)) (due R p) rest (ltb-false room (length (due R p)) e) st

-- where a group is found all ranks are decided
found_decided : (R : Rules) (p : Position) → found R p ≡ true → decided p ≡ true
unfolding found
found_decided R p e = ((test_and {a = decided p} test_self test_self).0 e).0

-- so it is with the reply, which has the page's numbers where it is accepted and 0 in all of them where it is refused
reply_wants : (G : Graph) (s : Settings) (k : ℕ) (r : Page) (p : Position) (out : List ℕ) → Stopped (rules G s) (length out) r → Wants G s (reply_of k r p out)
unfolding reply_of
reply_wants G s zero r p out st =
    record {
      full = λ e.
          let f = st.full e in
          let l = length-append r.written (drop (length r.written) out) in
          let d = length-drop (length r.written) out in
          let b = f.2 in
          let w = f.1 ∙ record_long G r.reached in
          (found_decided (rules G s) r.reached f.0, found_qualifies G s r.reached f.0, w, omega arith);
      else = st.else;
    }
reply_wants G s (suc k) r p out st = record { full = λ e. absurd (omega arith); else = λ d. refl }

-- Whatever a page call brings, its reply wants size + 3 entries at Full and else none.
pub call_wants : (c : Call) (p : Position) → Wants c.lent.graph c.settings (reply_to c p)
unfolding reply_to
call_wants c p =
    reply_wants c.lent.graph c.settings (refuse_page c.lent c.settings p c.work) _ p c.output
    (page-stopped (rules c.lent.graph c.settings) c.budget (length c.output) p)
