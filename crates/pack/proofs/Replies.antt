-- The replies of the call that packs a byte table, return by return.
-- Assumes nothing.
use Prim.Native.Nat.{ℕ, ◌*◌, ◌≤◌, ◌<◌}
use mathlib.Core.Path.{◌≡◌, refl, sym, ap, ◌∙◌}
use mathlib.Core.Bool.{Bool, not, ◌||◌}
use mathlib.Core.List.{List}
use mathlib.Core.Logic.{◌≢◌}
use native.Mathlib.Omega.{arith}
use lib.ListN.{length}
use lib.Dec.{ltb, eqb}
use borrow.Author.Tests.{lt-ltb, le-ltb, eq-eqb, ne_eqb}
use Rattle.model.specs.Graph.{by_table, row_length, packed_of}
use Rattle.model.specs.Calls.{refuse, refuse_bytes}
use Rattle.model.specs.Packing.{refuse_pack, PackReply, pack_call}
use Rattle.theory.proofs.Calls.Packing.{pack_left, pack_done}
use Rattle.refusal.specs.declared.Refusal.{Refusal}
use Rattle.refusal.specs.Numbers.{number}
use Rattle.refusal.proofs.Handed.{number-some}
use Rattle.pack.specs.Packing.{PackReplies}

module _ (n : ℕ) (t p : List ℕ) where
  -- what the call leaves, field by field
  packs_as : {r : PackReply} → pack_call n t p ≡ r → PackReplies n t p r.refused r.packed
  packs_as e = record { refusal = ap (λ (x : PackReply). x.refused) (sym e); packed = ap (λ (x : PackReply). x.packed) (sym e) }

  -- the refusal number by the outcome of each test of n and the lengths
  pack_by : {a b c : Bool} → ltb 1024 n ≡ a → not (eqb (length t) (n * n)) ≡ b → not (eqb (length p) (n * row_length n)) ≡ c
      → refuse 1 a (refuse 2 (b || c) (refuse_bytes n t)) ≡ refuse_pack n t p
  unfolding refuse_pack
  pack_by x y z = rw (x, y, z)

  -- a refused call writes nothing
  packs_nothing : {k : ℕ} → k ≢ 0 → k ≡ refuse_pack n t p → PackReplies n t p k p
  packs_nothing d e = packs_as (pack_left n t p d (sym e))

  -- 1: too many vertices
  pub packs-many : 1024 < n → PackReplies n t p 1 p
  unfolding refuse
  packs-many h = packs_nothing (λ q. omega arith) (pack_by (lt-ltb 1024 n h) refl refl)

  module _ (few : n ≤ 1024) where
    -- 2: the byte table is not n × n long
    pub packs_other-table : length t ≢ n * n → PackReplies n t p 2 p
    unfolding refuse
    packs_other-table d = packs_nothing (λ q. omega arith) (pack_by (le-ltb 1024 n few) (ap not (ne_eqb (length t) (n * n) d)) refl)

    module _ (whole : length t ≡ n * n) where
      -- 2: the packed slice is not n × ceil(n / 64) long
      pub packs_other-slice : length p ≢ n * row_length n → PackReplies n t p 2 p
      unfolding refuse
      packs_other-slice d =
          packs_nothing (λ q. omega arith)
          (pack_by (le-ltb 1024 n few) (ap not (eq-eqb (length t) (n * n) whole)) (ap not (ne_eqb (length p) (n * row_length n) d)))

      module _ (long : length p ≡ n * row_length n) where
        -- past these tests the bytes decide
        by_bytes : refuse_bytes n t ≡ refuse_pack n t p
        unfolding refuse
        by_bytes =
            pack_by (le-ltb 1024 n few) (ap not (eq-eqb (length t) (n * n) whole)) (ap not (eq-eqb (length p) (n * row_length n) long))

        -- 3 to 5: they have a fault
        pub packs_refused : (r : Refusal) → number r ≡ refuse_bytes n t → {k : ℕ} → k ≡ number r → PackReplies n t p k p
        packs_refused r e h = rw h (packs_nothing (number-some r) (e ∙ by_bytes))

        -- they have none: what is left is the packed table of their graph
        pub packs-done : 0 ≡ refuse_bytes n t → {q : List ℕ} → q ≡ packed_of (by_table n t) → PackReplies n t p 0 q
        packs-done e h = let a = packs_as (pack_done n t p (sym (e ∙ by_bytes))) in record { refusal = a.refusal; packed = h ∙ a.packed }
