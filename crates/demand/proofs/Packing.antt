-- C-15 holds of every call of `pack::pack`, and of every call that takes a table.
-- Assumes nothing.
use mathlib.Core.Path.{◌≡◌, sym, ap, ◌∙◌, subst⁻¹}
use Rattle.model.specs.Below.{bit}
use Rattle.model.specs.Groups.{settings}
use Rattle.model.specs.Calls.{QueryReply}
use Rattle.model.specs.Edits.{DegreesReply}
use Rattle.model.specs.Fault.{FirstFault}
use Rattle.model.specs.Packing.{PackReply, Packs, pack_call, refuse_pack}
use Rattle.model.specs.BothTables.{SameGraph}
use Rattle.theory.proofs.Calls.Packing.{packed_same, pack-number, pack_left, pack_done, pack-first, pack-passes_iff, packs}
use Rattle.theory.proofs.Calls.BothTables.{both_tables}
use Rattle.demand.specs.Packing.{PackDemand, AlikeDemand}
use Rattle.demand.proofs.Demand.{reported-is}

-- Each call of `pack::pack` does what a reader believes of it.
pub pack_demand : PackDemand
pack_demand n t p k p₁ h =
    record {
      first = subst⁻¹ (FirstFault _) number (pack-first n t p);
      refused = λ x. h.packed ∙ ap (λ (r : PackReply). r.packed) (pack_left n t p x (sym number));
      accepted = λ z. subst⁻¹ (Packs n t) told (packs n t p (sym number ∙ z));
      same = λ z.
          let e = sym number ∙ z in
          subst⁻¹ (SameGraph n t) (h.packed ∙ ap (λ (r : PackReply). r.packed) (pack_done n t p e)) (packed_same n t ((pack-passes_iff n t p).0 e).0);
    }
  where
    number : k ≡ refuse_pack n t p
    number = h.refusal ∙ pack-number n t p

    told : record { refused = k; packed = p₁ } ≡ pack_call n t p
    told i = record { refused = h.refusal i; packed = h.packed i }

-- Every call answers on a packed table as on the byte table of the same graph.
pub alike_demand : AlikeDemand
alike_demand =
    record {
      pages = λ c h t both. reported-is c h ∙ (both_tables c.size t c.table both).pages c.degrees (settings c.notion c.kind c.factor) c.budget c.position c.output _;
      queries = λ n t p d bs work left notion kind c a both h.
          let e = (both_tables n t p both).queries d (settings notion kind c) bs _ in
          record { refusal = h.refused ∙ ap (λ (r : QueryReply). r.refused) e; yes = h.yes ∙ ap (λ (r : QueryReply). bit r.yes) e };
      edits = λ e h t both.
          let a = both_tables e.size t e.table both in
          record {
            refusal = h.refusal ∙ a.edit-numbers e.joins e.degrees e.from e.to;
            unchanged = h.unchanged ∙ ap bit (a.edit_unchanged e.joins e.degrees e.from e.to);
            degrees = h.degrees ∙ a.edit_degrees e.joins e.degrees e.from e.to;
            tables = subst⁻¹ (SameGraph e.size _) h.table (a.edit_tables e.joins e.degrees e.from e.to);
          };
      lists = λ n t p d k d₁ both h.
          let e = (both_tables n t p both).lists d in
          record { refusal = h.refusal ∙ ap (λ (r : DegreesReply). r.refused) e; degrees = h.degrees ∙ ap (λ (r : DegreesReply). r.degrees) e };
    }
