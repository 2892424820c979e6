-- C-11 holds of every call of `dimacs::read_text`.
-- Assumes nothing.
use Prim.Native.Nat.{ℕ, ◌*◌, ◌≤◌}
use mathlib.Core.Path.{refl, sym, ◌∙◌, subst}
use native.Mathlib.Omega.{arith}
use lib.ListN.{length}
use Rattle.theory.proofs.Text.EdgeTextRepeats.{never_told, miscounted_iff, repeats_graph}
use Rattle.demand.specs.Repeats.{Never38Demand, ComparesLinesDemand, RepeatsDemand}
use Rattle.demand.proofs.Membership.{reader_demand}

-- No call answers 38.
pub never_38_demand : Never38Demand
never_38_demand text before after a h e = never_told _ (λ z. omega arith) (λ room xs l. refl) (λ xs. refl) text before (sym h.refusal ∙ e)

-- A call answers 39 exactly where M differs from the number of e lines and nothing else is at fault.
pub compares_lines_demand : ComparesLinesDemand
compares_lines_demand text before after a h i = (
  λ e. (miscounted_iff text before i).0 (sym h.refusal ∙ e.0, sym h.line ∙ e.1),
  λ m. let r = (miscounted_iff text before i).1 m in (h.refusal ∙ r.0, h.line ∙ r.1),
)

-- Texts that differ only in repeated e lines give the same table.
pub repeats_demand : RepeatsDemand
repeats_demand text before after a h other other-before other_After b g d e room =
    let first = reader_demand text before after a h in
    let r = first.read_iff.0 e in
    let read = first.graph r.0 r.1 r.2 r.3 in
    let fits : r.0 * r.0 ≤ length other-before = subst (λ (n : ℕ). n * n ≤ length other-before) read.vertices room in
    let s = repeats_graph (length before) (length other-before) text other d r.0 r.1 r.2 r.3 fits in
    (r.0, r.1, s.0, r.2, read, (reader_demand other other-before other_After b g).graph r.0 s.0 r.2 s.1)
