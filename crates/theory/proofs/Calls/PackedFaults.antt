-- A packed table as a form in which a graph is lent: refusals 1, 2, 45, 4 and 5 answer with the first of its faults, and without a fault its graph is one
-- of document 01's and has no other packed table without a fault.
-- Assumes nothing.
use Prim.Native.Nat.{ℕ, ◌+◌, ◌*◌, ◌≤◌, ◌<◌}
use mathlib.Core.Path.{◌≡◌, sym, ap, ◌∙◌}
use mathlib.Core.Logic.{◌↔◌, ◌⊎◌, inl, inr}
use mathlib.Core.Bool.{true≢false}
use mathlib.Core.List.{List}
use native.Mathlib.Omega.{arith}
use lib.ListN.{length, get_or}
use Rattle.std.specs.Int.{bit_at}
use Rattle.std.proofs.lemmas.Nat.Bits.{same_from_bits_below}
use Rattle.model.specs.Graph.{Graph, row_length, pair_bit, by_packed}
use Rattle.model.specs.Meaning.{Simple}
use Rattle.model.specs.Calls.{stray, refuse_packed, packed_table}
use Rattle.model.specs.Fault.{FirstFault, NoFault}
use Rattle.model.specs.Faults.{packed_faults, Lends}
use Rattle.theory.proofs.Basics.Tests.{test_not, test_lt, test_eq, lt_or_ge, not-different, fails}
use Rattle.theory.proofs.Calls.Fault.{refuse-first, first-none, none_of}
use Rattle.theory.proofs.Calls.GraphFaults.{same_bit, graph-first, graph-simple}
use Rattle.theory.proofs.Graph.Packed.{one_packed, pair_bit_at, pair_bit-small, packed-joined_test, packed-joined_at, Clean, clean_iff, stray_test, clean-small, clean-bit}

-- the number of a packed table is that of its first fault
packed-first : (n : ℕ) (t : List ℕ) → FirstFault (packed_faults n t) (refuse_packed n t)
unfolding refuse_packed
packed-first n t =
    refuse-first 1 _ _ _ (test_lt 1024 n) (λ h1.
    refuse-first 2 _ _ _ (test_not (test_eq (length t) (n * row_length n))) (λ h2.
    refuse-first 45 _ _ _ (stray_test n t) (λ h45. graph-first (by_packed n t) (pair_bit n t) (packed-joined_test n t) (pair_bit-small n t))))

-- a packed table passes exactly where no fault of its holds
pub packed-accepted_iff : (n : ℕ) (t : List ℕ) → (refuse_packed n t ≡ 0) ↔ NoFault (packed_faults n t)
packed-accepted_iff n t = first-none (packed_faults n t) (refuse_packed n t) (omega arith) (packed-first n t)

-- what one without a fault has
pub record PackedPassed (n : ℕ) (t : List ℕ) : Type 0 where
  pub whole : length t ≡ n * row_length n
  pub clean : Clean n t
  pub simple : Simple (by_packed n t)

pub packed_passed : (n : ℕ) (t : List ℕ) → refuse_packed n t ≡ 0 → PackedPassed n t
packed_passed n t e =
    let none = (packed-accepted_iff n t).0 e in
    let few = none.0 in
    record {
      whole = not-different (length t) (n * row_length n) none.1.0;
      clean = (clean_iff n t).0 (fails (stray n t) (λ q. none.1.1.0 ((stray_test n t).0 q)));
      simple = graph-simple (by_packed n t) (pair_bit n t) (packed-joined_test n t) (omega arith) none.1.1.1;
    }

-- and what has these has no fault
pub packed_passes : (n : ℕ) (t : List ℕ) → PackedPassed n t → refuse_packed n t ≡ 0
packed_passes n t p =
    (packed-accepted_iff n t).1
    (none_of (packed_faults n t)
    (λ h. let few = p.simple.bounded in omega arith)
    (λ d. d p.whole)
    (λ r. apart r.6 (clean-bit p.clean r.3 r.4 r.2 r.5))
    (λ r. true≢false (sym ((packed-joined_test n t r.0 r.0).1 ((r.1, r.1), r.2)) ∙ p.simple.loopless r.0 r.1))
    (λ r. r.4 (same_bit _ _ (pair_bit-small n t r.0 r.1) (pair_bit-small n t r.1 r.0)
    (sym (packed-joined_at n t r.0 r.2 r.1 r.3) ∙ p.simple.symmetric r.0 r.1 r.2 r.3 ∙ packed-joined_at n t r.1 r.3 r.0 r.2))))
  where
    apart : {x : ℕ} → x ≡ 1 → x ≡ 0 → ⊥
    apart e f = omega arith

-- a graph has one packed table without a fault: each of its numbers has the bits of its vertices, and no others
pub packed-once : (n : ℕ) (t s : List ℕ) → refuse_packed n t ≡ 0 → refuse_packed n s ≡ 0 → by_packed n t ≡ by_packed n s → t ≡ s
packed-once n t s p q e =
    one_packed n t s a.whole b.whole (λ u j hu hj.
    same_from_bits_below 64 _ _ (clean-small a.clean hu hj) (clean-small b.clean hu hj) (λ k hk. at u j k hu hj hk (lt_or_ge (64 * j + k) n)))
  where
    a : PackedPassed n t
    a = packed_passed n t p

    b : PackedPassed n s
    b = packed_passed n s q

    bits_same : (u v : ℕ) → u < n → v < n → pair_bit n t u v ≡ pair_bit n s u v
    bits_same u v hu hv =
        same_bit _ _ (pair_bit-small n t u v) (pair_bit-small n s u v)
        (sym (packed-joined_at n t u hu v hv) ∙ ap (λ (G : Graph). G.joined u v) e ∙ packed-joined_at n s u hu v hv)

    at : (u j k : ℕ) → u < n → j < row_length n → k < 64 → (64 * j + k < n) ⊎ (n ≤ 64 * j + k)
        → bit_at (get_or t (u * row_length n + j) 0) k ≡ bit_at (get_or s (u * row_length n + j) 0) k
    at u j k hu hj hk (inl h) = sym (pair_bit_at n t u j k hk) ∙ bits_same u (64 * j + k) hu h ∙ pair_bit_at n s u j k hk
    at u j k hu hj hk (inr h) = clean-bit a.clean hu hj k (inl h) ∙ sym (clean-bit b.clean hu hj k (inl h))

-- The laws of a packed table as a form in which a graph is lent.
pub packed_table_lem : (n : ℕ) (t : List ℕ) → Lends (packed_faults n t) (packed_table n t)
packed_table_lem n t = record { numbers = omega arith; first = packed-first n t; simple = λ e. (packed_passed n t e).simple }
