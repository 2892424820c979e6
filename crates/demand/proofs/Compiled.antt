-- Demands 2 and 3, C-11, C-12, C-14 and C-15 hold of the compiled functions `page::page`, `query::set_query`, `dimacs::read_text`, `edits::join`, `edits::part`,
-- `edits::list_degrees` and `pack::pack`, and of the calls of crate `ffi`, whose contracts those that C and Rust link, in `ffi_c`, repeat. Nothing of a contract is restated: `promised` is the contract that the checker proved.
-- Assumes nothing.
use mathlib.Core.Bool.{true, false}
use mathlib.Core.Logic.{inl, inr}
use mathlib.Core.List.{List, [], ◌∷◌, map}
use borrow.Fn.Kinds.{Out}
use Rattle.model.specs.Graph.{Graph}
use Rattle.model.specs.Groups.{Settings}
use Rattle.model.specs.Walk.{Position, fresh}
use Rattle.page.proofs.page.Reads as page
use Rattle.page.proofs.page.Kinds as page-kinds
use Rattle.query.proofs.set_query.Reads as query
use Rattle.query.proofs.set_query.Kinds as query-kinds
use Rattle.dimacs.proofs.read_text.Reads as reader
use Rattle.dimacs.proofs.read_text.Kinds as reader-kinds
use Rattle.edits.proofs.join.Reads as join
use Rattle.edits.proofs.join.Kinds as edit-kinds
use Rattle.edits.proofs.part.Reads as part
use Rattle.edits.proofs.list_degrees.Reads as list
use Rattle.edits.proofs.list_degrees.Kinds as list-kinds
use Rattle.pack.proofs.packing.pack.Reads as pack
use Rattle.pack.proofs.packing.pack.Kinds as pack-kinds
use Rattle.ffi.proofs.isolated_page.Reads as exported-page
use Rattle.ffi.proofs.isolated_set_query.Reads as exported-query
use Rattle.ffi.proofs.isolated_read_text.Reads as exported-reader
use Rattle.ffi.proofs.isolated_join.Reads as exported-join
use Rattle.ffi.proofs.isolated_part.Reads as exported-part
use Rattle.ffi.proofs.isolated_degrees.Reads as exported-list
use Rattle.ffi.proofs.isolated_pack.Reads as exported-pack
use Rattle.demand.specs.Demand.{Promised, Calls}
use Rattle.demand.specs.Compiled.{Compiled, AsksNothing, CompiledPage, call_of, Chained, PageHolds, ListHolds, RecordsHold, WantsHolds, QueryHolds, ReaderHolds, Never38Holds, ComparesLinesHolds, RepeatsHold, made, EditHolds, CompiledEdit, edit_of, UndoHolds, ChainHolds, RestoredHolds, ListedHolds, PackHolds, PagesAlikeHold, QueriesAlikeHold, EditsAlikeHold, ListsAlikeHold}
use Rattle.demand.specs.Edits.{Replied, AllReplied}
use Rattle.demand.proofs.Demand.{demand}
use Rattle.demand.proofs.Membership.{query_demand, list_demand, reader_demand}
use Rattle.demand.proofs.Repeats.{never_38_demand, compares_lines_demand, repeats_demand}
use Rattle.demand.proofs.Records.{records_demand, wants_demand}
use Rattle.demand.proofs.Packing.{pack_demand, alike_demand}
use Rattle.demand.proofs.Edits.{edit_demand, undo_demand, edits_chain_demand, restored_demand, listed_demand}

-- ---- none of these functions asks for anything

pub page_asks_nothing : AsksNothing 5 page-kinds.ps page.Pre
page_asks_nothing κs a = tt

pub query_asks_nothing : AsksNothing 4 query-kinds.ps query.Pre
query_asks_nothing κs a = tt

pub reader_asks_nothing : AsksNothing 2 reader-kinds.ps reader.Pre
reader_asks_nothing κs a = tt

pub exported_page_asks_nothing : AsksNothing 5 page-kinds.ps exported-page.Pre
exported_page_asks_nothing κs a = tt

pub exported_query_asks_nothing : AsksNothing 4 query-kinds.ps exported-query.Pre
exported_query_asks_nothing κs a = tt

pub exported_reader_asks_nothing : AsksNothing 2 reader-kinds.ps exported-reader.Pre
exported_reader_asks_nothing κs a = tt

pub join_asks_nothing : AsksNothing 2 edit-kinds.ps join.Pre
join_asks_nothing κs a = tt

pub part_asks_nothing : AsksNothing 2 edit-kinds.ps part.Pre
part_asks_nothing κs a = tt

pub list_asks_nothing : AsksNothing 2 list-kinds.ps list.Pre
list_asks_nothing κs a = tt

pub exported_join_asks_nothing : AsksNothing 2 edit-kinds.ps exported-join.Pre
exported_join_asks_nothing κs a = tt

pub exported_part_asks_nothing : AsksNothing 2 edit-kinds.ps exported-part.Pre
exported_part_asks_nothing κs a = tt

pub exported_list_asks_nothing : AsksNothing 2 list-kinds.ps exported-list.Pre
exported_list_asks_nothing κs a = tt

pub pack_asks_nothing : AsksNothing 2 pack-kinds.ps pack.Pre
pack_asks_nothing κs a = tt

pub exported_pack_asks_nothing : AsksNothing 2 pack-kinds.ps exported-pack.Pre
exported_pack_asks_nothing κs a = tt

-- ---- the page call

-- a contract that is what `Promised` asks of a call
module _ {Post : Out 5 page-kinds.ps page-kinds.r} (promised : (k : CompiledPage Post) → Promised (call_of k)) where
  chained_calls : (G : Graph) (s : Settings) (p : Position) (ks : List (CompiledPage Post)) → Chained G s p ks → Calls G s p (map call_of ks)
  chained_calls G s p [] h = tt
  chained_calls G s p (k ∷ ks) h = (record { promised = promised k; handed = h.0; agrees = h.1 }, chained_calls G s (call_of k).position-left ks h.2)

-- Demand 3 of `page::page`.
pub compiled_demand : PageHolds page.Post
compiled_demand G s simple ks h = demand G s simple (map call_of ks) (chained_calls (λ k. k.promised) G s (fresh G.size) ks h)

-- Demand 3 of `isolated_page`.
pub exported_demand : PageHolds exported-page.Post
exported_demand G s simple ks h = demand G s simple (map call_of ks) (chained_calls (λ k. k.promised) G s (fresh G.size) ks h)

-- Demand 2 of the finished list of `page::page`.
pub compiled_list_demand : ListHolds page.Post
compiled_list_demand G s simple ks h = list_demand G s simple (map call_of ks) (chained_calls (λ k. k.promised) G s (fresh G.size) ks h)

-- Demand 2 of the finished list of `isolated_page`.
pub exported_list_demand : ListHolds exported-page.Post
exported_list_demand G s simple ks h = list_demand G s simple (map call_of ks) (chained_calls (λ k. k.promised) G s (fresh G.size) ks h)

-- C-14 of `page::page`.
pub compiled_records_demand : RecordsHold page.Post
compiled_records_demand G s simple ks h = records_demand G s simple (map call_of ks) (chained_calls (λ k. k.promised) G s (fresh G.size) ks h)

pub compiled_wants_demand : WantsHolds page.Post
compiled_wants_demand k = wants_demand (call_of k) k.promised

-- C-14 of `isolated_page`.
pub exported_records_demand : RecordsHold exported-page.Post
exported_records_demand G s simple ks h = records_demand G s simple (map call_of ks) (chained_calls (λ k. k.promised) G s (fresh G.size) ks h)

pub exported_wants_demand : WantsHolds exported-page.Post
exported_wants_demand k = wants_demand (call_of k) k.promised

-- ---- the set query

-- Demand 2 of `query::set_query`.
pub compiled_query_demand : QueryHolds query.Post
compiled_query_demand k = query_demand _ _ _ _ _ _ _ _ _ _ k.promised

-- Demand 2 of `isolated_set_query`.
pub exported_query_demand : QueryHolds exported-query.Post
exported_query_demand k = query_demand _ _ _ _ _ _ _ _ _ _ k.promised

-- ---- the text reader

-- Demand 2 of `dimacs::read_text`.
pub compiled_reader_demand : ReaderHolds reader.Post
compiled_reader_demand k = reader_demand _ _ _ _ k.promised

-- Demand 2 of `isolated_read_text`.
pub exported_reader_demand : ReaderHolds exported-reader.Post
exported_reader_demand k = reader_demand _ _ _ _ k.promised

-- C-11 of `dimacs::read_text`.
pub compiled_never_38 : Never38Holds reader.Post
compiled_never_38 k = never_38_demand _ _ _ _ k.promised

pub compiled_compares_lines : ComparesLinesHolds reader.Post
compiled_compares_lines k = compares_lines_demand _ _ _ _ k.promised

pub compiled_repeats : RepeatsHold reader.Post
compiled_repeats k l = repeats_demand _ _ _ _ k.promised _ _ _ _ l.promised

-- C-11 of `isolated_read_text`.
pub exported_never_38 : Never38Holds exported-reader.Post
exported_never_38 k = never_38_demand _ _ _ _ k.promised

pub exported_compares_lines : ComparesLinesHolds exported-reader.Post
exported_compares_lines k = compares_lines_demand _ _ _ _ k.promised

pub exported_repeats : RepeatsHold exported-reader.Post
exported_repeats k l = repeats_demand _ _ _ _ k.promised _ _ _ _ l.promised

-- ---- the edits and the list of degrees

-- two contracts that are those of an edit that joins and of one that parts
module _ (Join Part : Out 2 edit-kinds.ps edit-kinds.r)
    (joins : (k : Compiled 2 edit-kinds.ps edit-kinds.r Join) → Replied (made true k))
    (parts : (k : Compiled 2 edit-kinds.ps edit-kinds.r Part) → Replied (made false k)) where
  -- each call of one of the two keeps it,
  replied : (k : CompiledEdit Join Part) → Replied (edit_of Join Part k)
  replied (inl k) = joins k
  replied (inr k) = parts k

  -- and so does each of a list of them,
  all_replied : (ks : List (CompiledEdit Join Part)) → AllReplied (map (edit_of Join Part) ks)
  all_replied [] = tt
  all_replied (k ∷ ks) = (replied k, all_replied ks)

  -- so that what is shown over the contracts holds of them
  undo_holds : UndoHolds Join Part
  undo_holds k l = undo_demand _ _ (replied k) (replied l)

  chain-holds : ChainHolds Join Part
  chain-holds ks = edits_chain_demand (map (edit_of Join Part) ks) (all_replied ks)

  restored-holds : RestoredHolds Join Part
  restored-holds ks = restored_demand (map (edit_of Join Part) ks) (all_replied ks)

-- C-12 of `edits::join`, `edits::part` and `edits::list_degrees`.
pub compiled_join_demand : EditHolds true join.Post
compiled_join_demand k = edit_demand _ _ _ _ _ _ _ _ _ k.promised

pub compiled_part_demand : EditHolds false part.Post
compiled_part_demand k = edit_demand _ _ _ _ _ _ _ _ _ k.promised

pub compiled_undo_demand : UndoHolds join.Post part.Post
compiled_undo_demand = undo_holds join.Post part.Post (λ k. k.promised) (λ k. k.promised)

pub compiled_chain_demand : ChainHolds join.Post part.Post
compiled_chain_demand = chain-holds join.Post part.Post (λ k. k.promised) (λ k. k.promised)

pub compiled_restored_demand : RestoredHolds join.Post part.Post
compiled_restored_demand = restored-holds join.Post part.Post (λ k. k.promised) (λ k. k.promised)

pub compiled_degrees_demand : ListedHolds list.Post
compiled_degrees_demand k = listed_demand _ _ _ _ _ k.promised

-- C-12 of `isolated_join`, `isolated_part` and `isolated_degrees`.
pub exported_join_demand : EditHolds true exported-join.Post
exported_join_demand k = edit_demand _ _ _ _ _ _ _ _ _ k.promised

pub exported_part_demand : EditHolds false exported-part.Post
exported_part_demand k = edit_demand _ _ _ _ _ _ _ _ _ k.promised

pub exported_undo_demand : UndoHolds exported-join.Post exported-part.Post
exported_undo_demand = undo_holds exported-join.Post exported-part.Post (λ k. k.promised) (λ k. k.promised)

pub exported_chain_demand : ChainHolds exported-join.Post exported-part.Post
exported_chain_demand = chain-holds exported-join.Post exported-part.Post (λ k. k.promised) (λ k. k.promised)

pub exported_restored_demand : RestoredHolds exported-join.Post exported-part.Post
exported_restored_demand = restored-holds exported-join.Post exported-part.Post (λ k. k.promised) (λ k. k.promised)

pub exported_degrees_demand : ListedHolds exported-list.Post
exported_degrees_demand k = listed_demand _ _ _ _ _ k.promised

-- ---- packed tables

-- C-15 of `pack::pack`, `page::page`, `query::set_query`, `edits::join`, `edits::part` and `edits::list_degrees`.
pub compiled_pack_demand : PackHolds pack.Post
compiled_pack_demand k = pack_demand _ _ _ _ _ k.promised

pub compiled_pages_alike : PagesAlikeHold page.Post
compiled_pages_alike k = alike_demand.pages (call_of k) k.promised

pub compiled_queries_alike : QueriesAlikeHold query.Post
compiled_queries_alike k t both = alike_demand.queries _ _ _ _ _ _ _ _ _ _ _ both k.promised

pub compiled_join_alike : EditsAlikeHold true join.Post
compiled_join_alike k = alike_demand.edits (made true k) k.promised

pub compiled_part_alike : EditsAlikeHold false part.Post
compiled_part_alike k = alike_demand.edits (made false k) k.promised

pub compiled_lists_alike : ListsAlikeHold list.Post
compiled_lists_alike k t both = alike_demand.lists _ _ _ _ _ _ both k.promised

-- C-15 of `isolated_pack`, `isolated_page`, `isolated_set_query`, `isolated_join`, `isolated_part` and `isolated_degrees`.
pub exported_pack_demand : PackHolds exported-pack.Post
exported_pack_demand k = pack_demand _ _ _ _ _ k.promised

pub exported_pages_alike : PagesAlikeHold exported-page.Post
exported_pages_alike k = alike_demand.pages (call_of k) k.promised

pub exported_queries_alike : QueriesAlikeHold exported-query.Post
exported_queries_alike k t both = alike_demand.queries _ _ _ _ _ _ _ _ _ _ _ both k.promised

pub exported_join_alike : EditsAlikeHold true exported-join.Post
exported_join_alike k = alike_demand.edits (made true k) k.promised

pub exported_part_alike : EditsAlikeHold false exported-part.Post
exported_part_alike k = alike_demand.edits (made false k) k.promised

pub exported_lists_alike : ListsAlikeHold exported-list.Post
exported_lists_alike k t both = alike_demand.lists _ _ _ _ _ _ both k.promised
