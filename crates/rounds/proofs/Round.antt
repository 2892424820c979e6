-- The rounds of the walk for isolated cliques: what its functions keep between two rounds, and what each of them gives to a round.
-- Assumes nothing.
use Prim.Native.Nat.{ℕ}
use mathlib.Core.Path.{◌≡◌, refl, sym, subst⁻¹}
use mathlib.Core.Bool.{Bool}
use mathlib.Core.List.{List}
use Rattle.model.specs.Graph.{Graph}
use Rattle.model.specs.Walk.{Position, finished}
use Rattle.model.specs.Groups.{Settings}
use Rattle.state.specs.declared.State.{State}
use Rattle.state.specs.State.{Stands, SaysFinished}
use Rattle.walk.specs.Walk.{Passes, Walking, Stepped}

module _ {G : Graph} {q : Settings} {s : State} {p : Position} {w : List ℕ} (h : Walking G q p w s) where
  -- what the test for the walk's end says
  pub says : {b : Bool} → SaysFinished G.size s b → finished p ≡ b
  says f = sym (f G p w refl h.stands)

  -- and what a step gives
  pub goes_on : {p₂ : Position} {w₂ : List ℕ} {s₂ : State} → Stepped G q p p₂ w₂ s₂ → Walking G q p₂ w₂ s₂
  goes_on {p₂} {w₂} {s₂} m =
      record {
        simple = h.simple;
        stands = subst⁻¹ (λ (x : Position). Stands G x w₂ s₂) m.position m.stands;
        passes = subst⁻¹ (λ (x : Position). Passes G q x) m.position m.passes;
      }
