-- The refusals of an edit in their order, and what passes them.
-- Assumes nothing.
use Prim.Native.Nat.{ℕ, ◌*◌, ◌≤◌, ◌<◌}
use mathlib.Core.Path.{◌≡◌, sym, ap, ◌∙◌, subst}
use mathlib.Core.Bool.{Bool, not}
use mathlib.Core.List.{List}
use mathlib.Core.Logic.{◌≢◌, ◌⊎◌}
use native.Mathlib.Omega.{arith}
use lib.ListN.{length}
use lib.Dec.{eqb}
use borrow.Author.Tests.{eq-eqb}
use Rattle.model.specs.Graph.{LentGraph, row_length}
use Rattle.model.specs.Calls.{refuse}
use Rattle.model.specs.Edits.{refuse_pair, refuse_edit, recount}
use Rattle.theory.proofs.Basics.Tests.{test_and, test_lt}
use Rattle.theory.proofs.Basics.Refusals.{refuse_on, else_none, else_found}
use Rattle.theory.proofs.Graph.Degrees.{degree_le, degree-some}
use Rattle.theory.proofs.Graph.Pairs.{recount-length, recount-other}
use Rattle.theory.proofs.Calls.Edits.{outside_test, edit_passes_iff}
use Rattle.graph.specs.Table.{lent, graph_of}
use Rattle.graph.proofs.Faults.{LentPassed, lent-passed}
use Rattle.edits.specs.Edits.{CanMove}

-- ---- test by test

module _ (L : LentGraph) (u v : ℕ) where
  -- what is lent has a fault
  pub by_lent : {r : ℕ} → r ≡ L.fault → r ≢ 0 → r ≡ refuse_edit L u v
  unfolding refuse_edit
  by_lent e d = e ∙ sym (else_found (λ z. d (e ∙ z)) _)

  -- it has none
  module _ (fine : 0 ≡ L.fault) where
    by_pair : refuse_edit L u v ≡ refuse_pair L.graph.size u v
    unfolding refuse_edit
    by_pair = else_none (sym fine) _

    -- u or v is not below n
    pub by_range : (L.graph.size ≤ u) ⊎ (L.graph.size ≤ v) → 43 ≡ refuse_edit L u v
    unfolding refuse_pair refuse
    by_range o = sym (by_pair ∙ ap (λ (x : Bool). refuse 43 x (refuse 44 (eqb u v) 0)) ((outside_test L.graph.size u v).1 o))

    -- both are, and they are equal
    pub by_ends : u < L.graph.size → v < L.graph.size → u ≡ v → 44 ≡ refuse_edit L u v
    unfolding refuse_pair refuse
    by_ends hu hv e =
        sym (by_pair ∙ refuse_on 43 _ _ (ap not ((test_and (test_lt u L.graph.size) (test_lt v L.graph.size)).1 (hu, hv)))
        ∙ ap (λ (x : Bool). refuse 44 x 0) (eq-eqb u v e))

    -- no fault
    pub by_none : u < L.graph.size → v < L.graph.size → u ≢ v → 0 ≡ refuse_edit L u v
    by_none hu hv d = sym ((edit_passes_iff L u v).1 (record { no_fault = sym fine; from-below = hu; to_below = hv; differ = d }))

-- ---- what passes them

-- what an accepted edit has
pub record CanEdit (n : ℕ) (t d : List ℕ) (u v : ℕ) : Type 0 where
  pub passes : refuse_edit (lent n t d) u v ≡ 0
  pub passed : LentPassed n t d
  pub from-below : u < n
  pub to_below : v < n
  pub differ : u ≢ v

module _ {n : ℕ} {t d : List ℕ} {u v : ℕ} where
  -- an edit that passes has it
  pub can_edit : refuse_edit (lent n t d) u v ≡ 0 → CanEdit n t d u v
  can_edit e =
      let p = (edit_passes_iff (lent n t d) u v).0 e in
      record { passes = e; passed = lent-passed n t d p.no_fault; from-below = p.from-below; to_below = p.to_below; differ = p.differ }

  -- so that both its bits are in the table
  pub can_write : CanEdit n t d u v → (n ≤ 1024) × (length t ≡ n * row_length n) × (u < n) × (v < n)
  can_write c = (c.passed.fits.small, c.passed.fits.whole, c.from-below, c.to_below)

  module _ (c : CanEdit n t d u v) (b : Bool) (was : (graph_of n t).joined u v ≡ not b) where
    -- the degree of an end of a pair that is not so yet
    end : (w x : ℕ) → w < n → x < n → (graph_of n t).joined w x ≡ not b → CanMove b w d
    end w x hw hx e =
        let at = c.passed.degrees w hw in
        let few = degree_le (graph_of n t) w in
        record {
          listed = omega (arith, c.passed.degrees-fit.whole);
          small = omega (arith, c.passed.fits.small);
          some = λ f. let one = degree-some (graph_of n t) w x hx (e ∙ ap not f) in omega arith;
        }

    -- v's can be moved
    pub can_move_to : CanMove b v d
    can_move_to = end v u c.to_below c.from-below (c.passed.simple.symmetric v u c.to_below c.from-below ∙ was)

    -- and u's after it
    pub can_move_from : {d₁ : List ℕ} → d₁ ≡ recount b v d → CanMove b u d₁
    can_move_from e =
        let m = end u v c.from-below c.to_below was in
        let same = recount-other b v d u c.differ in
        subst (λ (l : List ℕ). CanMove b u l) (sym e)
        (record {
          listed = omega (arith, m.listed, recount-length b v d);
          small = omega (arith, m.small);
          some = λ f. omega (arith, m.some f);
        })
