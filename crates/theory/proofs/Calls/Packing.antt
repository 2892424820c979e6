-- The call that packs a byte table: the number that it is refused with, and that an accepted one leaves the packed table of the same graph.
-- Assumes nothing.
use Prim.Native.Nat.{ℕ, zero, suc, ◌*◌}
use mathlib.Core.Path.{◌≡◌, refl, sym, ap, ◌∙◌, subst⁻¹}
use mathlib.Core.Logic.{◌↔◌, ◌≢◌, inl, inr, ⊎_elim}
use mathlib.Core.List.{List, [], ◌∷◌}
use native.Mathlib.Omega.{arith}
use lib.ListN.{length}
use Rattle.model.specs.Graph.{by_table, byte_joined, row_length, packed_of}
use Rattle.model.specs.Calls.{refuse_table, refuse_packed}
use Rattle.model.specs.Fault.{FirstFault, NoFault}
use Rattle.model.specs.Faults.{numbers_of}
use Rattle.model.specs.Packing.{refuse_pack, pack_reply, pack_call, pack_faults, Packs}
use Rattle.model.specs.BothTables.{SameGraph}
use Rattle.theory.proofs.Basics.Tests.{test_not, test_or, test_lt, test_eq, not-different}
use Rattle.theory.proofs.Graph.Packed.{clean_iff, packed-length, packed-clean, packed-graph}
use Rattle.theory.proofs.Calls.Fault.{refuse-first, first-none}
use Rattle.theory.proofs.Calls.TableFaults.{bytes-first, table-accepted_iff, table-whole, table-zero_or_one}
use Rattle.theory.proofs.Calls.PackedFaults.{packed-once}
use Rattle.theory.proofs.Calls.OneGraph.{both-refused}

-- ---- the packed table of a byte table's graph

-- both hold that graph
pub packed_same : (n : ℕ) (t : List ℕ) → refuse_table n t ≡ 0 → SameGraph n t (packed_of (by_table n t))
packed_same n t e =
    record {
      bytes = table-whole n t e;
      zero_or_one = table-zero_or_one n t e;
      numbers = packed-length (by_table n t);
      none-stray = (clean_iff n (packed_of (by_table n t))).1 (packed-clean n (byte_joined n t));
      one_graph = packed-graph n (byte_joined n t);
    }

-- ---- the call

module _ (n : ℕ) (t p : List ℕ) where
  -- the number in the answer is the refusal number
  pub pack-number : (pack_call n t p).refused ≡ refuse_pack n t p
  unfolding pack_reply
  pack-number = go (refuse_pack n t p)
    where
      go : (k : ℕ) → (pack_reply k (by_table n t) p).refused ≡ k
      go zero = refl
      go (suc k) = refl

  -- a refused call leaves the packed slice as it was
  pub pack_left : {k : ℕ} → k ≢ 0 → refuse_pack n t p ≡ k → pack_call n t p ≡ record { refused = k; packed = p }
  unfolding pack_reply
  pack_left {k = zero} h e = absurd (h refl)
  pack_left {k = suc k} h e = ap (λ (j : ℕ). pack_reply j (by_table n t) p) e

  -- an accepted one leaves the packed table of the graph
  pub pack_done : refuse_pack n t p ≡ 0 → pack_call n t p ≡ record { refused = 0; packed = packed_of (by_table n t) }
  unfolding pack_reply
  pack_done e = ap (λ (j : ℕ). pack_reply j (by_table n t) p) e

  -- it is refused with the first fault
  pub pack-first : FirstFault (pack_faults n t p) (refuse_pack n t p)
  unfolding refuse_pack
  pack-first =
      refuse-first 1 _ _ _ (test_lt 1024 n) (λ h1.
      refuse-first 2 _ _ _ (test_or (test_not (test_eq (length t) (n * n))) (test_not (test_eq (length p) (n * row_length n)))) (λ h2. bytes-first n t))

  -- and accepted exactly where no fault holds,
  pub pack-accepted_iff : (refuse_pack n t p ≡ 0) ↔ NoFault (pack_faults n t p)
  pack-accepted_iff = first-none (pack_faults n t p) (refuse_pack n t p) (omega arith) pack-first

  -- which is where the byte table has no fault and the packed slice has its length
  pub pack-passes_iff : (refuse_pack n t p ≡ 0) ↔ ((refuse_table n t ≡ 0) × (length p ≡ n * row_length n))
  pack-passes_iff = (
    λ e. let none = pack-accepted_iff.0 e in
        ((table-accepted_iff n t).1 (none.0, (λ d. none.1.0 (inl d), none.1.1)), not-different (length p) (n * row_length n) (λ d. none.1.0 (inr d))),
    λ h. let none = (table-accepted_iff n t).0 h.0 in pack-accepted_iff.1 (none.0, (⊎_elim none.1.0 (λ d. d h.1), none.1.1)),
  )

  -- What an accepted call leaves is a packed table of the same graph, and the only one that passes.
  pub packs : refuse_pack n t p ≡ 0 → Packs n t (pack_call n t p)
  packs e =
      subst⁻¹ (Packs n t) (pack_done e)
      (record { graph = same.one_graph; passes = passes; only = λ q h g. packed-once n q r h passes (g ∙ sym same.one_graph) })
    where
      r : List ℕ
      r = packed_of (by_table n t)

      sound : refuse_table n t ≡ 0
      sound = (pack-passes_iff.0 e).0

      same : SameGraph n t r
      same = packed_same n t sound

      passes : refuse_packed n r ≡ 0
      passes = both-refused same ∙ sound

-- "under 1 to 5 for the bytes"
pub pack-order : (n : ℕ) (t p : List ℕ) → numbers_of (pack_faults n t p) ≡ (1 ∷ 2 ∷ 3 ∷ 4 ∷ 5 ∷ [])
pack-order n t p = refl
