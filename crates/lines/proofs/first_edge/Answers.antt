-- `lines::first_edge` meets its contract: a letter, two numbers and the bytes that end them. Assumes nothing.
use Prim.Native.Nat.{ℕ, ◌+◌, ◌-◌}
use mathlib.Core.Path.{subst}
use mathlib.Core.List.{List}
use native.Mathlib.Omega.{arith}
use lib.ListN.{length, take, drop}
use Rattle.std.proofs.lemmas.List.{take_rest}
use Rattle.number.specs.Field.{NumberEnds}
use Rattle.lines.proofs.Lines.{two_bytes}
use Rattle.lines.proofs.FirstLines.{edge-first}
use Rattle.lines.proofs.first_edge.Goals as goal

pub returns : goal.returns
returns c =
    let text = c.args.text.now in
    let fields = take (length text - 2) (drop 2 text) in
    edge-first {t = text} {fields = fields} {u = c.in_ok-u.u} {v = c.in_ok-v.v} (two_bytes text 101 32 (omega arith) (omega arith) (omega arith)) c.in_ok-u.ensures
    (subst (λ (l : List ℕ). NumberEnds l 10 c.in_ok-v.v) (take_rest fields (c.in_ok-u.u.count + 1)) c.in_ok-v.ensures)
