-- `emit::emit` meets its contract, way by way.
-- Assumes nothing.
use native.Mathlib.Omega.{arith}
use Rattle.std.proofs.lemmas.List.{length-take}
use Rattle.state.proofs.Vertices.{vertices-lent}
use Rattle.state.proofs.StandsFor.{sum-small}
use Rattle.qualify.proofs.Verdicts.{taken-few}
use Rattle.emit.proofs.Output.{emitted_none, emitted_full, emitted_put}
use Rattle.emit.proofs.emit.Goals as goal

pub returns-then-not-qualifies : goal.returns-then-not-qualifies
returns-then-not-qualifies c =
    let p = c.requires in
    emitted_none p.0 c.qualifies.ensures _ _ (c.if-not-qualifies.true) p.1

pub record_length-entries-requires : goal.record_length-entries-requires
record_length-entries-requires c =
    let k = taken-few c.requires.0 in
    let m = c.args.g.now.lent.table.fits.small in
    omega arith

pub returns-then-output-used : goal.returns-then-output-used
returns-then-output-used c =
    let p = c.requires in
    emitted_full p.0 c.qualifies.ensures _ _ (c.if-not-qualifies.false) p.1 (omega (arith, c.if-output-used.true, c.record_length-entries.ensures)) _
    c.record_length-entries.ensures

pub put_group-requires : goal.put_group-requires
put_group-requires c =
    let k = taken-few c.requires.0 in
    let m = c.args.g.now.lent.table.fits.small in
    let b = sum-small m c.requires.0.stands.1 in
    simp length-take
    (record { room = omega (arith, c.if-output-used.false, c.record_length-entries.ensures); vertices = omega arith; edges = omega (arith, c.outgoing.ensures) })

pub returns : goal.returns
returns c =
    emitted_put c.requires.0 c.qualifies.ensures _ _ (c.if-not-qualifies.false)
    (omega (arith, c.if-output-used.false, c.record_length-entries.ensures)) _ c.record_length-entries.ensures
    _ (vertices-lent c.qualifies.new.work c.args.g.now.lent.table.n c.args.s.taken) _ c.outgoing.ensures _ c.put_group.ensures
