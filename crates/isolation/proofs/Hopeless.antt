-- The bound on a set's numbers by the notion, from what each step of the code gives.
-- Assumes nothing.
use Prim.Native.Nat.{ℕ}
use mathlib.Core.Path.{◌≡◌, refl, sym, ap, ◌∙◌}
use mathlib.Core.Bool.{Bool, true, false, not}
use mathlib.Core.Logic.{◌≢◌}
use borrow.Author.Tests.{ne_eqb}
use Rattle.theory.specs.Bound.{hopeless}
use Rattle.isolation.specs.declared.criterion.Criterion.{Criterion}
use Rattle.isolation.specs.declared.Notion.{Notion}
use Rattle.isolation.specs.declared.Notion.TheVariants.{Min, Avg, Max}
use Rattle.isolation.specs.declared.Tally.{Tally}
use Rattle.isolation.specs.Numbers.{notion_number, isolated_of, grown_of, hopeless_of}

-- whether nothing larger is isolated
module _ (q : Criterion) (t : Tally) (r low : ℕ) where
  -- under min it is never said
  pub hopeless-min : q.notion ≡ Min → false ≡ hopeless_of q t r low
  unfolding hopeless
  hopeless-min e = rw e refl

  -- with no candidate left there is nothing larger
  pub hopeless-none : q.notion ≢ Min → r ≡ 0 → true ≡ hopeless_of q t r low
  unfolding hopeless
  hopeless-none above e = rw e (go q.notion above)
    where
      go : (notion : Notion) → notion ≢ Min → true ≡ hopeless (notion_number notion) q.factor low 0 t.members t.sum t.least t.largest
      go Min above = absurd (above refl)
      go Avg above = refl
      go Max above = refl

  -- else the test with r further members
  module _ (some : r ≢ 0) {g : Tally} {all : Bool} (grows : g ≡ grown_of t r low) (tested : all ≡ isolated_of q g) where
    with_all : isolated_of q (grown_of t r low) ≡ all
    with_all = sym (tested ∙ ap (isolated_of q) grows)

    -- under max it decides
    pub hopeless-max : q.notion ≡ Max → not all ≡ hopeless_of q t r low
    unfolding hopeless
    hopeless-max e = rw (e, ne_eqb r 0 some, rw e at with_all) refl

    module _ (avg : q.notion ≡ Avg) where
      -- under avg there is hope where it passes
      pub hopeless-all : all ≡ true → false ≡ hopeless_of q t r low
      unfolding hopeless
      hopeless-all e = rw (avg, ne_eqb r 0 some, rw avg at (with_all ∙ e)) refl

      -- and where it fails, the test with 1 decides
      pub hopeless-one : all ≡ false → {h : Tally} {one : Bool} → h ≡ grown_of t 1 low → one ≡ isolated_of q h → not one ≡ hopeless_of q t r low
      unfolding hopeless
      hopeless-one e f o = rw (avg, ne_eqb r 0 some, rw avg at (with_all ∙ e), rw avg at (sym (o ∙ ap (isolated_of q) f))) refl
