-- `print::Printer::put_entry` meets its contract. Assumes nothing.
use mathlib.Core.Path.{◌≡◌, refl, ap}
use mathlib.Core.Bool.{cond}
use mathlib.Core.List.{[], ◌∷◌}
use native.Mathlib.Omega.{arith}
use lib.ListN.{length}
use lib.Dec.{eqb}
use borrow.Author.Tests.{eq-eqb, ne_eqb}
use Rattle.print.proofs.Puts.{puts_as}
use Rattle.print.proofs.Printed.{number_fits, byte_fits, put_edges, put_empty, put-size, put-vertex}
use Rattle.print.proofs.Printer.put_entry.Goals as goal
use Rattle.print.proofs.Printer.put_entry.Goals.{Joined-to_come-eq1, then-entry-eq0, else-entry-eq0, then-to_come-eq1, else-to_come-eq1}

pub returns-then-to_come-gt0 : goal.returns-then-to_come-gt0
returns-then-to_come-gt0 c = put_edges c.args.entry c.if-to_come-gt0.true (omega arith)

pub returns-then-to_come-eq0 : goal.returns-then-to_come-eq0
returns-then-to_come-eq0 c =
    let told : c.args.to_come.edge_entries ≡ 0 = omega (arith, c.if-to_come-gt0.false) in
    elim c.if-entry-eq0.branch [
      | then-entry-eq0 w ↦ rw (c.from.ensures, w.self-is) (put_empty told c.if-to_come-eq0.true w.if-entry-eq0.true w.put.ensures)
      | else-entry-eq0 w ↦ rw (c.from.ensures, w.self-is) (put-size told c.if-to_come-eq0.true w.if-entry-eq0.false (omega arith))
    ]

pub put_number-requires : goal.put_number-requires
put_number-requires c = number_fits _ _ _ (omega arith) (omega arith)

-- the byte that comes after a vertex
parting : (c : Joined-to_come-eq1) → c.if-to_come-eq1.put.now ≡ cond (eqb c.args.to_come.vertices 1) 10 32 ∷ []
parting c =
    elim c.if-to_come-eq1.branch [
      | then-to_come-eq1 w ↦ rw (eq-eqb c.args.to_come.vertices 1 w.if-to_come-eq1.true) (ap (λ b. b.now) w.put-is)
      | else-to_come-eq1 w ↦ rw (ne_eqb c.args.to_come.vertices 1 w.if-to_come-eq1.false) (ap (λ b. b.now) w.put-is)
    ]

pub put-requires-2 : goal.put-requires-2
put-requires-2 c = rw (ap length (parting c)) (byte_fits _ (omega arith) (omega arith) c.put_number.ensures)

pub returns : goal.returns
returns c =
    put-vertex (omega (arith, c.if-to_come-gt0.false)) c.if-to_come-eq0.false (omega arith) (rw c.from-2.ensures at c.put_number.ensures)
    (puts_as (parting (goal.at.returns c).Joined-to_come-eq1) c.put-2.ensures) refl
