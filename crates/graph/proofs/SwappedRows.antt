-- A round of the transposition, row by row: the pairs of rows that were passed have exchanged their halves, and the others are as they were.
-- Assumes nothing.
use Prim.Native.Nat.{ℕ, ◌+◌, ◌/◌, ◌%◌, ◌≤◌, ◌<◌}
use mathlib.Core.Path.{◌≡◌, refl, sym, ap, ◌∙◌, subst}
use mathlib.Core.Logic.{◌≢◌}
use mathlib.Core.List.{List}
use native.Mathlib.Omega.{arith}
use lib.ListN.{length, get_or, set, length-set}
use lib.Seq.{get_or-set_same, get_or-set_other}
use Rattle.theory.proofs.Basics.Tests.{last_or_below}
use Rattle.graph.specs.Blocks.{Halves, Exchanged, Swapped}
use Rattle.graph.proofs.Transposition.{second_half}

-- of the pairs of rows those with the upper row below k
pub record SwappedBelow (s k : ℕ) (old now : List ℕ) : Type 0 where
  pub passed : (i : ℕ) → i < k → i / s % 2 ≡ 0 → Exchanged s (get_or old i 0) (get_or old (i + s) 0) (get_or now i 0) (get_or now (i + s) 0)
  pub left : (i : ℕ) → k ≤ i → i / s % 2 ≡ 0 → (get_or now i 0 ≡ get_or old i 0) × (get_or now (i + s) 0 ≡ get_or old (i + s) 0)

-- the same of rows that are equal to these
exchanged_same : {s a b x y c d z w : ℕ} → a ≡ c → b ≡ d → x ≡ z → y ≡ w → Exchanged s a b x y → Exchanged s c d z w
exchanged_same p q e f h = rw (sym p, sym q, sym e, sym f) h

-- none at first,
pub swapped-none : (s : ℕ) (old : List ℕ) → SwappedBelow s 0 old old
swapped-none s old = record { passed = λ i l e. absurd (omega arith); left = λ i l e. (refl, refl) }

-- a row in a second half is passed with the one above it,
pub swapped-same : {s r : ℕ} {old now : List ℕ} → r / s % 2 ≢ 0 → SwappedBelow s r old now → SwappedBelow s (r + 1) old now
swapped-same {s} {r} d w =
    record {
      passed = λ i l e. w.passed i (differs i l (λ q. d (ap (λ x. x / s % 2) (sym q) ∙ e))) e;
      left = λ i l e. w.left i (omega arith) e;
    }
  where
    differs : (i : ℕ) → i < r + 1 → i ≢ r → i < r
    differs i l q = omega arith

module _ {s mask : ℕ} (h : Halves s mask) {r : ℕ} (hr : r < 64) (er : r / s % 2 ≡ 0) (now : List ℕ) (whole : length now ≡ 64) (x y : ℕ) where
  -- the block with two rows written
  abbrev next : List ℕ
  next = set (set now r x) (r + s) y

  -- the upper is as written,
  next_upper : get_or next r 0 ≡ x
  next_upper =
      let some = h.some in
      get_or-set_other (set now r x) (r + s) r y 0 (λ e. omega arith) ∙ get_or-set_same now r x 0 (omega arith)

  -- and so is the lower,
  next_lower : get_or next (r + s) 0 ≡ y
  next_lower =
      let l = h.within r hr er in
      get_or-set_same (set now r x) (r + s) y 0 (omega (arith, length-set now r x))

  -- and each other row is kept
  next-other : (i : ℕ) → i ≢ r → i ≢ r + s → get_or next i 0 ≡ get_or now i 0
  next-other i d e = get_or-set_other (set now r x) (r + s) i y 0 e ∙ get_or-set_other now r i x 0 d

  -- no row in a first half is one in a second
  apart : (i k : ℕ) → i / s % 2 ≡ 0 → k / s % 2 ≡ 0 → i ≢ k + s
  apart i k ei ek e = omega (arith, ei, second_half h k ek, ap (λ x. x / s % 2) e)

  -- so each other pair of rows is kept
  pair-other : (i : ℕ) → i / s % 2 ≡ 0 → i ≢ r → (get_or next i 0 ≡ get_or now i 0) × (get_or next (i + s) 0 ≡ get_or now (i + s) 0)
  pair-other i e d =
      (next-other i d (apart i r e er), next-other (i + s) (λ q. apart r i er e (sym q)) (λ q. d (omega arith)))

  -- and one in a first half with the one below it
  pub swapped-more : {old : List ℕ} → Exchanged s (get_or now r 0) (get_or now (r + s) 0) x y → SwappedBelow s r old now
      → SwappedBelow s (r + 1) old (set (set now r x) (r + s) y)
  swapped-more {old} z w =
      record {
        passed = λ i l e. at i e (omega arith);
        left = λ i l e. let o = pair-other i e (λ q. omega arith) in let k = w.left i (omega arith) e in (o.0 ∙ k.0, o.1 ∙ k.1);
      }
    where
      at : (i : ℕ) → i / s % 2 ≡ 0 → i ≤ r → Exchanged s (get_or old i 0) (get_or old (i + s) 0) (get_or next i 0) (get_or next (i + s) 0)
      at i e l =
          last_or_below {n = r} {i = i} (omega arith)
          (λ q.
          subst (λ k. Exchanged s (get_or old k 0) (get_or old (k + s) 0) (get_or next k 0) (get_or next (k + s) 0)) (sym q)
          (exchanged_same (w.left r (omega arith) er).0 (w.left r (omega arith) er).1 (sym next_upper) (sym next_lower) z))
          (λ k. let o = pair-other i e (λ q. omega arith) in exchanged_same refl refl (sym o.0) (sym o.1) (w.passed i k e))

-- all in the end
pub swapped-all : {s : ℕ} {old now : List ℕ} → SwappedBelow s 64 old now → Swapped s old now
swapped-all w = record { rows = w.passed }
