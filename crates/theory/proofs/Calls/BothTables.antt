-- A byte table and a packed table of one graph: every call answers both alike, and an edit leaves two tables of one graph again.
-- Assumes nothing.
use Prim.Native.Nat.{ℕ, ◌≤◌, ◌<◌}
use mathlib.Core.Path.{◌≡◌, sym, ap, ◌∙◌, subst⁻¹}
use mathlib.Core.Bool.{Bool, true, false, true≢false}
use mathlib.Core.Logic.{◌≢◌, ◌⊎◌, inl, inr}
use mathlib.Core.List.{List}
use native.Mathlib.Omega.{arith}
use lib.ListN.{get_or}
use Rattle.model.specs.Below.{bit}
use Rattle.model.specs.Graph.{Graph, LentGraph, by_table, with_pair, with_bits, packed_of}
use Rattle.model.specs.Calls.{over, byte_table, packed_table, with_degrees}
use Rattle.model.specs.Edits.{ButFor, edit_call}
use Rattle.model.specs.Packing.{refuse_pack, PackReply, pack_call}
use Rattle.model.specs.BothTables.{byte_edit_call, SameGraph, AnswersAlike, BothTables}
use Rattle.theory.proofs.Basics.Tests.{in_length, fails}
use Rattle.theory.proofs.Graph.Packed.{clean_iff}
use Rattle.theory.proofs.Graph.Pairs.{PairIn, pair_length, pair_either, pair_graph, but_once}
use Rattle.theory.proofs.Graph.PackedPairs.{BitsIn, bits-length, bits_clean, bits_graph}
use Rattle.theory.proofs.Calls.Fault.{over_test}
use Rattle.theory.proofs.Calls.Edits.{edit_passes_iff}
use Rattle.theory.proofs.Calls.OneGraph.{EditsAlike, same-page, same-query, same-list, same-edit, both-refused, both-lent}
use Rattle.theory.proofs.Calls.Packing.{pack_done, pack-passes_iff, packed_same}

-- ---- the tables that an edit writes

-- a byte table with a pair written has no byte over 1 where it had none
written-zero_or_one : {n u v : ℕ} {t : List ℕ} → PairIn n u v t → (b : Bool) → over 1 t ≡ false → over 1 (with_pair (bit b) n u v t) ≡ false
written-zero_or_one {n} {u} {v} {t} p b none =
    fails (over 1 s) (λ e. let r = (over_test 1 s).0 e in large r.0 r.2 (pair_either p (bit b) r.0))
  where
    s : List ℕ
    s = with_pair (bit b) n u v t

    bit-small : (a : Bool) → bit a ≤ 1
    bit-small true = omega arith
    bit-small false = omega arith

    large : (i : ℕ) → 1 < get_or s i 0 → (get_or s i 0 ≡ bit b) ⊎ (get_or s i 0 ≡ get_or t i 0) → ⊥
    large i h (inl e) = let l = bit-small b in omega arith
    large i h (inr e) = true≢false (sym ((over_test 1 t).1 (i, in_length t i (λ z. omega arith), omega arith)) ∙ none)

module _ {n : ℕ} {t p : List ℕ} (both : SameGraph n t p) where
  -- With one pair written in both, they are tables of one graph again: each of its graph but for that pair.
  both-written : (b : Bool) (u v : ℕ) → u < n → v < n → u ≢ v → SameGraph n (with_pair (bit b) n u v t) (with_bits b n u v p)
  both-written b u v hu hv d =
      record {
        bytes = pair_length (bit b) n u v t ∙ both.bytes;
        zero_or_one = written-zero_or_one pair b both.zero_or_one;
        numbers = bits-length b n u v p ∙ both.numbers;
        none-stray = (clean_iff n (with_bits b n u v p)).1 (bits_clean bits b ((clean_iff n p).0 both.none-stray));
        one_graph =
            but_once (bits_graph bits b)
            (subst⁻¹ (λ (G : Graph). ButFor b u v G (by_table n (with_pair (bit b) n u v t))) both.one_graph (pair_graph pair b));
      }
    where
      pair : PairIn n u v t
      pair = record { from-below = hu; to_below = hv; differ = d; whole = both.bytes }

      bits : BitsIn n u v p
      bits = record { from-below = hu; to_below = hv; differ = d; whole = both.numbers }

  -- ---- the calls

  -- what a call is lent is the same with the same list of degrees beside it
  lent : (d : List ℕ) → with_degrees (packed_table n p) d ≡ with_degrees (byte_table n t) d
  lent d = ap (λ (X : LentGraph). with_degrees X d) (both-lent both)

  -- an edit of either says the same, and leaves such tables again
  edits-alike : (b : Bool) (d : List ℕ) (u v : ℕ) → EditsAlike (λ q s. SameGraph n s q) (edit_call b n p d u v) (byte_edit_call b n t d u v)
  edits-alike b d u v =
      same-edit (lent d) (λ q s. SameGraph n s q) b u v p (with_bits b n u v p) t (with_pair (bit b) n u v t) d both (λ e.
      let ok = (edit_passes_iff (with_degrees (packed_table n p) d) u v).0 e in
      both-written b u v ok.from-below ok.to_below ok.differ)

-- "All answers are those for the byte table of the same graph, shown once over both tables."
pub both_tables : BothTables
both_tables n t p both =
    record {
      faults = both-refused both;
      pages = λ d s budget q out work. same-page (lent both d) s budget out work q;
      queries = λ d s bs work. same-query (lent both d) s bs work;
      lists = λ d. same-list (both-lent both) d;
      edit-numbers = λ b d u v. (edits-alike both b d u v).numbers;
      edit_unchanged = λ b d u v. (edits-alike both b d u v).unchanged-same;
      edit_degrees = λ b d u v. (edits-alike both b d u v).degrees-same;
      edit_tables = λ b d u v. (edits-alike both b d u v).tables;
    }

-- So every call on what an accepted pack call leaves answers as it would have on the bytes.
pub pack_then_call : (n : ℕ) (t p : List ℕ) → refuse_pack n t p ≡ 0 → AnswersAlike n t (pack_call n t p).packed
pack_then_call n t p e =
    subst⁻¹ (λ (r : PackReply). AnswersAlike n t r.packed) (pack_done n t p e)
    (both_tables n t (packed_of (by_table n t)) (packed_same n t ((pack-passes_iff n t p).0 e).0))
