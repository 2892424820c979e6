-- One step: which of the two moves it is by the state, and that its position passes refusals 21 to 23 again.
-- Assumes nothing.
use Prim.Native.Nat.{ℕ, ◌≤◌, ◌<◌}
use mathlib.Core.Path.{◌≡◌, refl, sym, ap, ap₂, ◌∙◌, subst⁻¹}
use mathlib.Core.Bool.{Bool, true, false, ◌&&◌, ◌||◌, not, and-false, true≢false}
use mathlib.Core.List.{List}
use mathlib.Core.Logic.{◌≢◌}
use native.Mathlib.Omega.{arith}
use borrow.Author.Tests.{eq-eqb}
use Rattle.model.specs.Graph.{Graph}
use Rattle.model.specs.Groups.{Settings}
use Rattle.model.specs.Walk.{Position, has, finished, advance, retreat, step}
use Rattle.model.specs.Listing.{apart, dead, rules}
use Rattle.model.specs.Calls.{reopened, refuse_position}
use Rattle.theory.proofs.Walk.Walk.{step_down, step_up}
use Rattle.theory.proofs.Basics.Refusals.{refuse_pass}
use Rattle.theory.proofs.Walk.Lawful.{lawful}
use Rattle.theory.proofs.Walk.Moves.{step-accepted}
use Rattle.state.specs.State.{Stands}
use Rattle.walk.specs.Walk.{Walking, Moved, Stepped}
use Rattle.state.specs.declared.State.{State}
use Rattle.state.proofs.StandsFor.{some_open, no_open, finished-decided, untaken_live}

module _ {G : Graph} {q : Settings} {p : Position} {w : List ℕ} {s : State} (W : Walking G q p w s) where
  -- the taken ranks but the last decided one are pairwise adjacent
  pub passes_calm : apart G (reopened p) ≡ false
  unfolding refuse_position dead
  passes_calm = first (apart G (reopened p)) _ (refuse_pass 22 _ _ (refuse_pass 21 _ _ (refuse_pass 20 _ _ W.passes).1).1).0
    where
      first : (a b : Bool) → (a || b) ≡ false → a ≡ false
      first true b e = e
      first false b e = refl

  -- something is taken where the position is dead, or decided and not finished
  pub dead-taken : (rules G q).dead p ≡ true → 0 < s.taken
  dead-taken e = let some : s.taken ≢ 0 = λ z. true≢false (sym e ∙ untaken_live W.stands q z) in omega arith

  pub decided-taken : finished p ≡ false → G.size ≤ s.decided → 0 < s.taken
  decided-taken e h =
      let some : s.taken ≢ 0 = λ z. true≢false (sym (eq-eqb s.taken 0 z) ∙ sym (finished-decided W.stands h) ∙ e) in
      omega arith

  to_step : {y x : Position} {w₂ : List ℕ} {s₂ : State} → step (rules G q) p ≡ y → Moved G y x w₂ s₂ → Stepped G q p x w₂ s₂
  to_step {y} {x} {w₂} {s₂} e M =
      record {
        position = M.position ∙ sym e;
        stands = subst⁻¹ (λ (z : Position). Stands G z w₂ s₂) e M.stands;
        passes = step-accepted (rules G q) G.size (lawful G W.simple.loopless q) p W.stands.long W.passes;
      }

  -- a live position with an open rank
  pub stepped_down : {x : Position} {w₂ : List ℕ} {s₂ : State} → (rules G q).dead p ≡ false → s.decided < G.size → Moved G (advance p) x w₂ s₂ → Stepped G q p x w₂ s₂
  stepped_down live h =
      to_step (step_down (rules G q) p (ap₂ (λ (a b : Bool). not a && b) live (some_open W.stands h)))

  -- a dead position, or one with all ranks decided
  pub stepped_dead : {x : Position} {w₂ : List ℕ} {s₂ : State} → (rules G q).dead p ≡ true → Moved G (retreat p) x w₂ s₂ → Stepped G q p x w₂ s₂
  stepped_dead e = to_step (step_up (rules G q) p (ap (λ (a : Bool). not a && has 0 p) e))

  pub stepped_decided : {x : Position} {w₂ : List ℕ} {s₂ : State} → G.size ≤ s.decided → Moved G (retreat p) x w₂ s₂ → Stepped G q p x w₂ s₂
  stepped_decided h =
      to_step
      (step_up (rules G q) p
      (ap (λ (b : Bool). not ((rules G q).dead p) && b) (no_open W.stands h) ∙ and-false (not ((rules G q).dead p))))
