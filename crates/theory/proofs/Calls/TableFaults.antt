-- A table of bytes as a form in which a graph is lent: refusals 1 to 5 answer with the first of its faults, and without a fault its graph is one of
-- document 01's and has no other table without a fault.
-- Assumes nothing.
use Prim.Native.Nat.{ℕ, ◌+◌, ◌*◌, ◌≤◌, ◌<◌}
use mathlib.Core.Path.{◌≡◌}
use mathlib.Core.Bool.{false}
use mathlib.Core.Logic.{◌↔◌, ◌≢◌}
use mathlib.Core.List.{List}
use native.Mathlib.Omega.{arith}
use lib.ListN.{length, get_or}
use Rattle.model.specs.Graph.{by_table}
use Rattle.model.specs.Meaning.{Simple}
use Rattle.model.specs.Calls.{over, refuse_bytes, refuse_table, byte_table}
use Rattle.model.specs.Fault.{FirstFault, NoFault}
use Rattle.model.specs.Faults.{byte_faults, table_faults, Lends}
use Rattle.theory.proofs.Basics.Tests.{Test, test_map, test_not, test_lt, test_eq, in_length, not-different, fails}
use Rattle.theory.proofs.Calls.Fault.{refuse-first, over_test, first-none}
use Rattle.theory.proofs.Calls.GraphFaults.{graph-first, graph-simple}
use Rattle.theory.proofs.Graph.Table.{joined_test}

-- no byte is over m
none_over : (m : ℕ) (bs : List ℕ) → ((i : ℕ) × (i < length bs) × (m < get_or bs i 0) → ⊥) → (i : ℕ) → get_or bs i 0 ≤ m
none_over m bs f i =
    let g : m < get_or bs i 0 → ⊥ = λ h. f (i, in_length bs i (λ z. omega arith), h) in
    omega arith

-- a byte other than 0 and 1
table-byte_test : (t : List ℕ) → Test (over 1 t) ((i : ℕ) × (i < length t) × (get_or t i 0 ≢ 0) × (get_or t i 0 ≢ 1))
table-byte_test t =
    test_map (over_test 1 t)
    (λ r. let h = r.2 in (r.0, r.1, λ z. omega arith, λ z. omega arith))
    (λ r. let f = r.2 in let g = r.3 in (r.0, r.1, omega arith))

-- without a byte other than 0 and 1, each is at most 1
bytes_small : (t : List ℕ) → ((i : ℕ) × (i < length t) × (get_or t i 0 ≢ 0) × (get_or t i 0 ≢ 1) → ⊥) → (i : ℕ) → get_or t i 0 ≤ 1
bytes_small t f = none_over 1 t (λ r. let h = r.2 in f (r.0, r.1, λ z. omega arith, λ z. omega arith))

-- the byte of each pair
abbrev cell : ℕ → List ℕ → ℕ → ℕ → ℕ
cell n t u v = get_or t (u * n + v) 0

module _ (n : ℕ) (t : List ℕ) where
  -- the number of its bytes is that of the first of their faults,
  pub bytes-first : FirstFault (byte_faults n t) (refuse_bytes n t)
  unfolding refuse_bytes
  bytes-first =
      refuse-first 3 _ _ _ (table-byte_test t) (λ h3.
      graph-first (by_table n t) (cell n t) (joined_test n t) (λ u v. bytes_small t h3 (u * n + v)))

  -- and so is that of the table
  table-first : FirstFault (table_faults n t) (refuse_table n t)
  unfolding refuse_table
  table-first =
      refuse-first 1 _ _ _ (test_lt 1024 n) (λ h1.
      refuse-first 2 _ _ _ (test_not (test_eq (length t) (n * n))) (λ h2. bytes-first))

-- a table passes exactly where no fault of its holds
pub table-accepted_iff : (n : ℕ) (t : List ℕ) → (refuse_table n t ≡ 0) ↔ NoFault (table_faults n t)
table-accepted_iff n t = first-none (table_faults n t) (refuse_table n t) (omega arith) (table-first n t)

-- a table without a fault has n × n bytes
pub table-whole : (n : ℕ) (t : List ℕ) → refuse_table n t ≡ 0 → length t ≡ n * n
table-whole n t e = not-different (length t) (n * n) ((table-accepted_iff n t).0 e).1.0

-- each of them 0 or 1
pub table-zero_or_one : (n : ℕ) (t : List ℕ) → refuse_table n t ≡ 0 → over 1 t ≡ false
table-zero_or_one n t e = fails (over 1 t) (λ q. ((table-accepted_iff n t).0 e).1.1.0 ((table-byte_test t).0 q))

-- a table without a fault holds a graph of document 01
pub table-simple : (n : ℕ) (t : List ℕ) → refuse_table n t ≡ 0 → Simple (by_table n t)
table-simple n t e =
    let none = (table-accepted_iff n t).0 e in
    let few = none.0 in
    graph-simple (by_table n t) (cell n t) (joined_test n t) (omega arith) none.1.1.1

-- The laws of a table of bytes as a form in which a graph is lent.
pub byte_table_lem : (n : ℕ) (t : List ℕ) → Lends (table_faults n t) (byte_table n t)
byte_table_lem n t = record { numbers = omega arith; first = table-first n t; simple = table-simple n t }
