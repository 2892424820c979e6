-- Document 01, "The walk": what the walk does on its way from fresh to finished. `Rattle.theory.proofs.Walk.Walking` proves it of every graph
-- without loops, all settings together.
-- Assumes nothing.
use Rattle.std.specs.Prelude.{ℕ, zero, suc, ◌≤◌, ◌<◌, ◌≡◌, true, ◌↔◌, length}
use mathlib.Core.List.{List, [], ◌∷◌, Memᴰ}
use Rattle.model.specs.Graph.{Graph}
use Rattle.model.specs.Groups.{Settings}
use Rattle.model.specs.Meaning.{Loopless}
use Rattle.model.specs.Walk.{Position, Rules, fresh, step, after, lasts, groups_of, full_sets}
use Rattle.model.specs.Listing.{rules}
use Rattle.model.specs.Calls.{refuse_position}

-- the positions from which k steps are made, in their order, the first of them from p
unfoldable pub stretch : Rules → ℕ → Position → List Position
stretch R zero p = []
stretch R (suc k) p = p ∷ stretch R k (step R p)

-- of the first `long` steps from p exactly one is made from q
pub record MetOnce (R : Rules) (p : Position) (long : ℕ) (q : Position) : Type 0 where
  pub when : ℕ
  pub within : when < long
  pub there : after R when p ≡ q
  pub once : (k : ℕ) → k < long → after R k p ≡ q → k ≡ when

-- in the first `long` steps from p each of these is met before all after it
abbrev pub MetInOrder : Rules → Position → ℕ → List Position → Type 0
MetInOrder R p long [] = Unit {0}
MetInOrder R p long (x ∷ xs) =
    ((q : Position) → Memᴰ q xs → (i j : ℕ) → i < long → j < long → after R i p ≡ x → after R j p ≡ q → i < j) × MetInOrder R p long xs

-- the walk over n ranks
pub record TheWalk (R : Rules) (n : ℕ) : Type 0 where
  -- "The walk's length is its steps from fresh to finished." It ends, and has one length.
  pub long : ℕ
  pub ends : lasts R long (fresh n) ≡ true
  pub one-length : (k : ℕ) → lasts R k (fresh n) ≡ true → k ≡ long
  -- it repeats no position
  pub no_repeat : (i j : ℕ) → i < j → j ≤ long → after R i (fresh n) ≡ after R j (fresh n) → ⊥
  -- what it visits is what passes refusals 21 to 23
  pub visits : (p : Position) → length p ≡ n → (refuse_position R p ≡ 0) ↔ ((k : ℕ) × (k ≤ long) × (after R k (fresh n) ≡ p))
  -- it makes a step from every listed set, from each once, in the full list's order, and from no other group
  pub meets : (q : Position) → Memᴰ q (full_sets R n) → MetOnce R (fresh n) long q
  pub in_order : MetInOrder R (fresh n) long (full_sets R n)
  pub groups : groups_of R (stretch R long (fresh n)) ≡ full_sets R n

-- the walk of a graph. "Dead doesn't depend on notion or kind", and so neither does the walk.
pub record GraphWalk (G : Graph) (s : Settings) : Type 0 where
  pub walk : TheWalk (rules G s) G.size
  pub same-walk : (t : Settings) → t.factor ≡ s.factor → (k : ℕ) (p : Position) → after (rules G t) k p ≡ after (rules G s) k p

-- every graph without loops, and all settings
abbrev pub Walks : Type 0
Walks = (G : Graph) → Loopless G → (s : Settings) → GraphWalk G s
