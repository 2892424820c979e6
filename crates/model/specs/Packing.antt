-- Document 02, C-15: the call that packs a byte table, as a function of its arguments, and what a reader believes of it.
-- Assumes nothing.
use Rattle.std.specs.Prelude.{ℕ, zero, suc, ◌*◌, ◌<◌, ◌≡◌, ◌||◌, not, ◌≢◌, ◌⊎◌, List, ◌∷◌, length, ltb, eqb}
use Rattle.model.specs.Graph.{Graph, by_table, row_length, by_packed, packed_of}
use Rattle.model.specs.Calls.{refuse, refuse_bytes, refuse_packed}
use Rattle.model.specs.Fault.{Fault, numbered}
use Rattle.model.specs.Faults.{byte_faults}

-- "one new call packs them, under 1 to 5 for the bytes, with 2 also for a packed slice not n × ceil(n / 64) long"
unfoldable pub refuse_pack : ℕ → List ℕ → List ℕ → ℕ
refuse_pack n t p =
    refuse 1 (ltb 1024 n) (refuse 2 (not (eqb (length t) (n * n)) || not (eqb (length p) (n * row_length n))) (refuse_bytes n t))

-- its answer, and the packed slice as it leaves it
pub record PackReply : Type 0 where
  pub refused : ℕ
  pub packed : List ℕ

-- by the refusal number: accepted, the packed table of the graph; refused, the slice as it was
unfoldable pub pack_reply : ℕ → Graph → List ℕ → PackReply
pack_reply zero G p = record { refused = 0; packed = packed_of G }
pack_reply (suc k) G p = record { refused = suc k; packed = p }

-- the call, by the graph's size, the byte table and the packed slice as it is handed it
abbrev pub pack_call : ℕ → List ℕ → List ℕ → PackReply
pack_call n t p = pack_reply (refuse_pack n t p) (by_table n t) p

-- ---- what a reader believes of it

-- its faults
abbrev pub pack_faults : ℕ → List ℕ → List ℕ → List Fault
pack_faults n t p = numbered 1 (1024 < n) ∷ numbered 2 ((length t ≢ n * n) ⊎ (length p ≢ n * row_length n)) ∷ byte_faults n t

-- an accepted call on a byte table t: what it leaves is a packed table of the same graph, which passes 1, 2, 45, 4 and 5, and no other packed table of
-- this graph does
pub record Packs (n : ℕ) (t : List ℕ) (r : PackReply) : Type 0 where
  pub graph : by_packed n r.packed ≡ by_table n t
  pub passes : refuse_packed n r.packed ≡ 0
  pub only : (q : List ℕ) → refuse_packed n q ≡ 0 → by_packed n q ≡ by_table n t → q ≡ r.packed
