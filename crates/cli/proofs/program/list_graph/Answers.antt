-- `cli::program::list_graph` meets its contract: it packs the table, and lends what the listing asks for. Assumes nothing.
use mathlib.Core.Path.{refl, ap, subst}
use native.Mathlib.Omega.{arith}
use Rattle.std.specs.Prelude.{ℕ, ◌*◌, ◌≤◌}
use Rattle.std.proofs.lemmas.List.{length-take, take-replicate}
use Rattle.model.specs.Graph.{Graph}
use Rattle.theory.proofs.Calls.TableFaults.{table-whole, table-simple}
use Rattle.graph.proofs.Faults.{table_fits, lent-listed, lists-passed}
use Rattle.isolation.specs.Numbers.{settings_of}
use Rattle.listing.specs.List.{Ran}
use Rattle.cli.proofs.Packed.{packed_room, packed_sound, packed_holds}
use Rattle.cli.proofs.program.list_graph.Given.{Over}
use Rattle.cli.proofs.program.list_graph.Goals as goal
use Rattle.cli.proofs.program.list_graph.Goals.{After-row_length-width}

-- the array of 1,024 numbers has room for the packed table
room : (g : Over) (c : After-row_length-width g) → c.args.listing.vertices * c.row_length-width.result ≤ 1024
room g c = rw c.row_length-width.ensures (packed_room c.args.listing.vertices c.args.listing.few)

pub overflow_mul-length : goal.overflow_mul-length
overflow_mul-length g c = let r = room g c in omega arith

pub slice_bounds-packed-end : goal.slice_bounds-packed-end
slice_bounds-packed-end g c = room g c

pub slice_bounds-packed-end-2 : goal.slice_bounds-packed-end-2
slice_bounds-packed-end-2 g c = let r = room g (goal.at.slice_bounds-packed-end-2 g c).After-row_length-width in simp length-take (omega arith)

pub invariant_of-fill : goal.invariant_of-fill
invariant_of-fill g c = record { fits = record { small = (table-simple _ _ c.requires).bounded; whole = table-whole _ _ c.requires } }

pub fill-requires : goal.fill-requires
fill-requires g c =
    let r = room g (goal.at.fill-requires g c).After-row_length-width in
    let e = ap (λ (k : ℕ). c.args.listing.vertices * k) c.row_length-width.ensures in
    simp length-take (omega arith)

pub invariant_of-table : goal.invariant_of-table
invariant_of-table g c = record { fits = table_fits _ _ (packed_sound _ _ c.requires c.fill.ensures); wide = c.row_length-width.ensures }

pub invariant_of-lent : goal.invariant_of-lent
invariant_of-lent g c =
    let sound = packed_sound _ _ c.requires c.fill.ensures in
    record { listed = lists-passed _ (record { vertices = refl; numbers = refl }) _ (lent-listed _ _ _ sound c.fill_degrees.ensures) }

pub list_all-requires : goal.list_all-requires
list_all-requires g c =
    let few = c.args.listing.few in
    record {
      no_fault = lent-listed _ _ _ (packed_sound _ _ c.requires c.fill.ensures) c.fill_degrees.ensures;
      settings = c.args.listing.proper;
      start = take-replicate c.args.listing.vertices 256 0 (omega arith);
      output = omega arith;
      room = omega arith;
      buffer = omega arith;
    }

pub returns : goal.returns
returns g c = subst (λ (G : Graph). Ran G (settings_of c.args.listing.settings) c.list_all.result) (packed_holds _ _ c.requires c.fill.ensures) c.list_all.ensures
