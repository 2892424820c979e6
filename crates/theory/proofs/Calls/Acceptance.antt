-- What the acceptance of a call says: what holds its graph, its settings and its lengths pass, and a page call's position, each by itself.
-- Assumes nothing.
use Prim.Native.Nat.{ℕ, ◌*◌, ◌≤◌}
use mathlib.Core.Path.{◌≡◌, ap, ◌∙◌}
use mathlib.Core.Bool.{not}
use mathlib.Core.Logic.{◌↔◌}
use lib.ListN.{length}
use lib.Dec.{ltb, eqb}
use borrow.Author.Tests.{eqb-true, eq-eqb, ltb-false, le-ltb, not-false}
use Rattle.model.specs.Graph.{LentGraph}
use Rattle.model.specs.Groups.{Settings}
use Rattle.model.specs.Walk.{Position}
use Rattle.model.specs.Listing.{rules}
use Rattle.model.specs.Calls.{refuse_settings, refuse_lengths, refuse_input, refuse_position, refuse_page}
use Rattle.theory.proofs.Basics.Refusals.{refuse_pass, refuse_on, else_none, else_passed}

-- the refusals of what is lent, and 6 to 10, all pass
pub record InputAccepted (L : LentGraph) (s : Settings) (bytes work : ℕ) : Type 0 where
  pub no_fault : L.fault ≡ 0
  pub proper : refuse_settings s ≡ 0
  pub long : bytes ≡ L.graph.size
  pub enough : 8 * L.graph.size ≤ work

-- all refusals of a page call pass
pub record PageAccepted (L : LentGraph) (s : Settings) (p : Position) (work : ℕ) : Type 0 where
  pub input : InputAccepted L s (length p) work
  pub stands : refuse_position (rules L.graph s) p ≡ 0

module _ (L : LentGraph) (s : Settings) where
  -- What a call brings is accepted exactly where all of these pass.
  pub input_accepted_iff : (bytes work : ℕ) → (refuse_input L s bytes work ≡ 0) ↔ InputAccepted L s bytes work
  unfolding refuse_input refuse_lengths
  input_accepted_iff bytes work = (there, back)
    where
      n : ℕ
      n = L.graph.size

      there : refuse_input L s bytes work ≡ 0 → InputAccepted L s bytes work
      there e =
          let a = else_passed L.fault _ e in
          let b = else_passed (refuse_settings s) _ a.1 in
          let c = refuse_pass 8 _ _ b.1 in
          let d = refuse_pass 9 _ _ c.1 in
          record {
            no_fault = a.0;
            proper = b.0;
            long = eqb-true bytes n (not-false (eqb bytes n) c.0);
            enough = ltb-false work (8 * n) d.0;
          }

      back : InputAccepted L s bytes work → refuse_input L s bytes work ≡ 0
      back h =
          else_none h.no_fault _ ∙ else_none h.proper _ ∙ refuse_on 9 _ _ (ap not (eq-eqb bytes n h.long))
          ∙ refuse_on 10 (ltb work (8 * n)) 0 (le-ltb work (8 * n) h.enough)

  -- A page call is accepted exactly where its position passes too.
  pub page-passes_iff : (p : Position) (work : ℕ) → (refuse_page L s p work ≡ 0) ↔ PageAccepted L s p work
  unfolding refuse_page
  page-passes_iff p work = (
    λ e. let a = else_passed (refuse_input L s (length p) work) _ e in record { input = (input_accepted_iff (length p) work).0 a.0; stands = a.1 },
    λ h. else_none ((input_accepted_iff (length p) work).1 h.input) _ ∙ h.stands,
  )
