-- A pair of vertices that is joined or parted in a packed table: the table with both its bits written, and the graph that it holds.
-- Assumes nothing.
use Prim.Native.Nat.{ℕ, ◌+◌, ◌*◌, ◌/◌, ◌%◌, ◌^◌, ◌<◌}
use mathlib.Core.Path.{◌≡◌, refl, sym, ap, ◌∙◌}
use mathlib.Core.Bool.{Bool}
use mathlib.Core.Logic.{◌≢◌, ◌⊎◌, inl, inr}
use mathlib.Core.List.{List}
use native.Mathlib.Omega.{arith}
use lib.ListN.{length, get_or, set, length-set}
use lib.Seq.{get_or-set_same, get_or-set_other, set_comm, ext_get_or}
use lib.Dec.{eqb}
use Rattle.std.specs.Int.{bit_at}
use Rattle.model.specs.Below.{bit}
use Rattle.model.specs.Graph.{row_length, pair_bit, by_packed, with_bit, with_row_bit, with_bits}
use Rattle.model.specs.Calls.{bits_of}
use Rattle.model.specs.Edits.{ButFor}
use Rattle.theory.proofs.Basics.Tests.{test_agree, one_of_two, bit-one}
use Rattle.theory.proofs.Basics.Bits.{with_bit_same, with_bit-other, with_bit-small, with_bit-back}
use Rattle.theory.proofs.Graph.Table.{cell_one}
use Rattle.theory.proofs.Graph.Packed.{row-number, pair_within, packed-joined_test, packed-joined_at, Clean}

-- where the number stands that has v in the row of u
abbrev place : ℕ → ℕ → ℕ → ℕ
place n u v = u * row_length n + v / 64

-- it has v in the row of u only, and with it the 63 others
place_one : (n a b u v : ℕ) → b < n → v < n → place n a b ≡ place n u v → (a ≡ u) × (b / 64 ≡ v / 64)
place_one n a b u v hb hv = cell_one (row_length n) a (b / 64) u (v / 64) (row-number n b hb) (row-number n v hv)

-- a vertex is known by its number in a row and its bit in that number
same_vertex : (x v : ℕ) → x / 64 ≡ v / 64 → x % 64 ≡ v % 64 → x ≡ v
same_vertex x v e f = omega arith

-- the two places of a pair differ
places_differ : (n u v : ℕ) → u ≢ v → u < n → v < n → place n u v ≢ place n v u
places_differ n u v d hu hv e = d (place_one n u v v u hv hu e).0

-- ---- the table with one bit written

module _ (b : Bool) (n u v : ℕ) (t : List ℕ) where
  -- it is as long,
  pub row_bit-length : length (with_row_bit b n u v t) ≡ length t
  unfolding with_row_bit
  row_bit-length = length-set t (place n u v) (with_bit b (v % 64) (get_or t (place n u v) 0))

  -- its number has the bit written,
  row_bit_same : place n u v < length t → get_or (with_row_bit b n u v t) (place n u v) 0 ≡ with_bit b (v % 64) (get_or t (place n u v) 0)
  unfolding with_row_bit
  row_bit_same h = get_or-set_same t (place n u v) (with_bit b (v % 64) (get_or t (place n u v) 0)) 0 h

  -- and every other number is kept
  row_bit-other : (i : ℕ) → i ≢ place n u v → get_or (with_row_bit b n u v t) i 0 ≡ get_or t i 0
  unfolding with_row_bit
  row_bit-other i d = get_or-set_other t (place n u v) i (with_bit b (v % 64) (get_or t (place n u v) 0)) 0 d

-- ---- the table with both bits of a pair written

module _ (b : Bool) (n u v : ℕ) (t : List ℕ) where
  -- it is as long
  pub bits-length : length (with_bits b n u v t) ≡ length t
  unfolding with_bits
  bits-length = row_bit-length b n v u (with_row_bit b n u v t) ∙ row_bit-length b n u v t

  -- every other number is kept
  number-other : (i : ℕ) → i ≢ place n u v → i ≢ place n v u → get_or (with_bits b n u v t) i 0 ≡ get_or t i 0
  unfolding with_bits
  number-other i d e = row_bit-other b n v u (with_row_bit b n u v t) i e ∙ row_bit-other b n u v t i d

  -- and the pair has no direction, where it is one
  pub bits_turned : u ≢ v → u < n → v < n → with_bits b n u v t ≡ with_bits b n v u t
  unfolding with_bits with_row_bit
  bits_turned d hu hv =
      ap (λ (x : ℕ). set (set t i (with_bit b (v % 64) (get_or t i 0))) j (with_bit b (u % 64) x))
      (get_or-set_other t i j (with_bit b (v % 64) (get_or t i 0)) 0 (λ e. apart (sym e)))
      ∙ set_comm t i j (with_bit b (v % 64) (get_or t i 0)) (with_bit b (u % 64) (get_or t j 0)) apart
      ∙ ap (λ (x : ℕ). set (set t j (with_bit b (u % 64) (get_or t j 0))) i (with_bit b (v % 64) x))
      (sym (get_or-set_other t j i (with_bit b (u % 64) (get_or t j 0)) 0 apart))
    where
      i : ℕ
      i = place n u v

      j : ℕ
      j = place n v u

      apart : i ≢ j
      apart = places_differ n u v d hu hv

-- u and v are two different vertices, and t is the rows of a graph on n vertices
pub record BitsIn (n u v : ℕ) (t : List ℕ) : Type 0 where
  pub from-below : u < n
  pub to_below : v < n
  pub differ : u ≢ v
  pub whole : length t ≡ n * row_length n

-- so it is in the table that is written
pub bits_in : {n u v : ℕ} {t : List ℕ} → BitsIn n u v t → (b : Bool) → BitsIn n u v (with_bits b n u v t)
bits_in {n} {u} {v} {t} p b =
    record { from-below = p.from-below; to_below = p.to_below; differ = p.differ; whole = bits-length b n u v t ∙ p.whole }

module _ {n u v : ℕ} {t : List ℕ} (p : BitsIn n u v t) (b : Bool) where
  apart : place n u v ≢ place n v u
  apart = places_differ n u v p.differ p.from-below p.to_below

  -- the two numbers
  number_there : get_or (with_bits b n u v t) (place n u v) 0 ≡ with_bit b (v % 64) (get_or t (place n u v) 0)
  unfolding with_bits
  number_there =
      row_bit-other b n v u (with_row_bit b n u v t) (place n u v) apart
      ∙ row_bit_same b n u v t (omega (arith, p.whole, pair_within n u v p.from-below p.to_below))

  number_back : get_or (with_bits b n u v t) (place n v u) 0 ≡ with_bit b (u % 64) (get_or t (place n v u) 0)
  unfolding with_bits
  number_back =
      row_bit_same b n v u (with_row_bit b n u v t)
      (omega (arith, row_bit-length b n u v t, p.whole, pair_within n v u p.to_below p.from-below))
      ∙ ap (with_bit b (u % 64)) (row_bit-other b n u v t (place n v u) (λ e. apart (sym e)))

  -- the two bits
  pub bits_there : pair_bit n (with_bits b n u v t) u v ≡ bit b
  unfolding pair_bit
  bits_there = ap (λ (x : ℕ). bit_at x (v % 64)) number_there ∙ with_bit_same b (v % 64) (get_or t (place n u v) 0)

  pub bits_back : pair_bit n (with_bits b n u v t) v u ≡ bit b
  unfolding pair_bit
  bits_back = ap (λ (x : ℕ). bit_at x (u % 64)) number_back ∙ with_bit_same b (u % 64) (get_or t (place n v u) 0)

  -- "an edit touches no bit but the pair's two"
  pub bits_others : (i k : ℕ) → ((i ≡ u * row_length n + v / 64) × (k ≡ v % 64) → ⊥) → ((i ≡ v * row_length n + u / 64) × (k ≡ u % 64) → ⊥)
      → bit_at (get_or (with_bits b n u v t) i 0) k ≡ bit_at (get_or t i 0) k
  bits_others i k d e = go (one_of_two i (place n u v) (place n v u))
    where
      s : List ℕ
      s = with_bits b n u v t

      -- a number in which bit m is written, and k is another
      kept : {j m : ℕ} → i ≡ j → get_or s j 0 ≡ with_bit b m (get_or t j 0) → k ≢ m → bit_at (get_or s i 0) k ≡ bit_at (get_or t i 0) k
      kept {j} {m} q w f =
          ap (λ (x : ℕ). bit_at (get_or s x 0) k) q
          ∙ ap (λ (x : ℕ). bit_at x k) w
          ∙ with_bit-other b m (get_or t j 0) k f
          ∙ ap (λ (x : ℕ). bit_at (get_or t x 0) k) (sym q)

      go : (i ≡ place n u v) ⊎ (i ≡ place n v u) ⊎ ((i ≢ place n u v) × (i ≢ place n v u)) → bit_at (get_or s i 0) k ≡ bit_at (get_or t i 0) k
      go (inl q) = kept q number_there (λ f. d (q, f))
      go (inr (inl q)) = kept q number_back (λ f. e (q, f))
      go (inr (inr f)) = ap (λ (x : ℕ). bit_at x k) (number-other b n u v t i f.0 f.1)

  -- so every other pair keeps its bit
  bits_kept : (x y : ℕ) → y < n → ((x ≡ u) × (y ≡ v) → ⊥) → ((x ≡ v) × (y ≡ u) → ⊥) → pair_bit n (with_bits b n u v t) x y ≡ pair_bit n t x y
  unfolding pair_bit
  bits_kept x y hy d e = bits_others (place n x y) (y % 64) (λ q. d (pair u v p.to_below q)) (λ q. e (pair v u p.from-below q))
    where
      pair : (a c : ℕ) → c < n → (place n x y ≡ place n a c) × (y % 64 ≡ c % 64) → (x ≡ a) × (y ≡ c)
      pair a c hc q = let one = place_one n x y a c hy hc q.0 in (one.0, same_vertex y c one.1 q.1)

  -- no bit is astray where none was
  pub bits_clean : Clean n t → Clean n (with_bits b n u v t)
  bits_clean c = record { below = λ x j hx hj. go x j hx hj (one_of_two (x * row_length n + j) (place n u v) (place n v u)) }
    where
      s : List ℕ
      s = with_bits b n u v t

      -- bit y mod 64 is one of those that number y div 64 has for vertices
      has : (y : ℕ) → y < n → y % 64 < bits_of n (y / 64)
      has y h = omega arith

      -- the number that has y in a row is so, where bit y mod 64 is written in it
      written : (x j : ℕ) (a y : ℕ) → a < n → y < n → j < row_length n → x * row_length n + j ≡ place n a y
          → get_or s (place n a y) 0 ≡ with_bit b (y % 64) (get_or t (place n a y) 0) → get_or s (x * row_length n + j) 0 < 2 ^ bits_of n j
      written x j a y ha hy hj q w =
          let one = cell_one (row_length n) x j a (y / 64) hj (row-number n y hy) q in
          rw (q, w, one.1) (with_bit-small b (y % 64) (get_or t (place n a y) 0) (bits_of n (y / 64)) (has y hy) (c.below a (y / 64) ha (row-number n y hy)))

      go : (x j : ℕ) → x < n → j < row_length n
          → (x * row_length n + j ≡ place n u v) ⊎ (x * row_length n + j ≡ place n v u)
          ⊎ ((x * row_length n + j ≢ place n u v) × (x * row_length n + j ≢ place n v u))
          → get_or s (x * row_length n + j) 0 < 2 ^ bits_of n j
      go x j hx hj (inl q) = written x j u v p.from-below p.to_below hj q number_there
      go x j hx hj (inr (inl q)) = written x j v u p.to_below p.from-below hj q number_back
      go x j hx hj (inr (inr f)) = rw (number-other b n u v t (x * row_length n + j) f.0 f.1) (c.below x j hx hj)

  -- the graph that it holds is the old one but for the pair
  pub bits_graph : ButFor b u v (by_packed n t) (by_packed n (with_bits b n u v t))
  bits_graph =
      record {
        same_size = refl;
        there = packed-joined_at n (with_bits b n u v t) u p.from-below v p.to_below ∙ ap (λ (k : ℕ). eqb k 1) bits_there ∙ bit-one b;
        and_back = packed-joined_at n (with_bits b n u v t) v p.to_below u p.from-below ∙ ap (λ (k : ℕ). eqb k 1) bits_back ∙ bit-one b;
        elsewhere = λ x y d e.
            test_agree (packed-joined_test n (with_bits b n u v t) x y) (packed-joined_test n t x y)
            (λ r. (r.0, sym (bits_kept x y r.0.1 d e) ∙ r.1))
            (λ r. (r.0, bits_kept x y r.0.1 d e ∙ r.1));
      }

-- written back as both bits were, the table is the old one, number for number
pub bits_restored : {n u v : ℕ} {t : List ℕ} → BitsIn n u v t → (a b : Bool) → pair_bit n t u v ≡ bit a → pair_bit n t v u ≡ bit a
    → with_bits a n u v (with_bits b n u v t) ≡ t
unfolding pair_bit
bits_restored {n} {u} {v} {t} p a b there back =
    ext_get_or 0 r t (bits-length a n u v s ∙ bits-length b n u v t) (λ i h. at i (one_of_two i (place n u v) (place n v u)))
  where
    s : List ℕ
    s = with_bits b n u v t

    r : List ℕ
    r = with_bits a n u v s

    q : BitsIn n u v s
    q = bits_in p b

    -- a number in which bit m is written twice
    same : {i j : ℕ} (m : ℕ) → i ≡ j → get_or s j 0 ≡ with_bit b m (get_or t j 0) → get_or r j 0 ≡ with_bit a m (get_or s j 0) → bit_at (get_or t j 0) m ≡ bit a
        → get_or r i 0 ≡ get_or t i 0
    same {i} {j} m e f g h =
        ap (λ (k : ℕ). get_or r k 0) e
        ∙ g
        ∙ ap (with_bit a m) f
        ∙ with_bit-back b m (get_or t j 0) a h
        ∙ ap (λ (k : ℕ). get_or t k 0) (sym e)

    at : (i : ℕ) → (i ≡ place n u v) ⊎ (i ≡ place n v u) ⊎ ((i ≢ place n u v) × (i ≢ place n v u)) → get_or r i 0 ≡ get_or t i 0
    at i (inl e) = same (v % 64) e (number_there p b) (number_there q a) there
    at i (inr (inl e)) = same (u % 64) e (number_back p b) (number_back q a) back
    at i (inr (inr d)) = number-other a n u v s i d.0 d.1 ∙ number-other b n u v t i d.0 d.1
