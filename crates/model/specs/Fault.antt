-- A fault and its number, and the first of the faults in a list, as document 01 has them in "Turned back by the input" and "Turned back by the
-- state". `Rattle.theory.proofs.Calls.Fault` has the laws.
-- Assumes nothing.
use Rattle.std.specs.Prelude.{ℕ, ◌≡◌, ◌≢◌, ◌⊎◌, List, [], ◌∷◌}

-- a fault: its number, and what it says
pub record Fault : Type 1 where
  pub number : ℕ
  pub holds : Type 0

-- the fault of number k that says P
abbrev pub numbered : ℕ → Type 0 → Fault
numbered k P = record { number = k; holds = P }

-- every fault of the list has a number other than 0, since 0 is acceptance
abbrev pub NonZero : List Fault → Type 0
NonZero [] = Unit {0}
NonZero (f ∷ fs) = (f.number ≢ 0) × NonZero fs

-- "checked in this order": k is the number of the first fault that holds, and 0 where none does
unfoldable pub FirstFault : List Fault → ℕ → Type 0
FirstFault [] k = k ≡ 0
FirstFault (f ∷ fs) k = (f.holds × (k ≡ f.number)) ⊎ ((f.holds → ⊥) × FirstFault fs k)

-- no fault holds
abbrev pub NoFault : List Fault → Type 0
NoFault [] = Unit {0}
NoFault (f ∷ fs) = (f.holds → ⊥) × NoFault fs
