-- The numbers of a packed table as code makes them: bit by bit, and one after another.
-- Assumes nothing.
use Prim.Native.Nat.{ℕ, zero, suc, ◌+◌, ◌*◌, ◌/◌, ◌%◌, ◌^◌, ◌<◌}
use mathlib.Core.Path.{◌≡◌, refl, sym, ap, ap₂, ◌∙◌}
use mathlib.Core.Bool.{Bool, true, false}
use mathlib.Core.List.{List}
use mathlib.Core.Logic.{⊎_elim}
use native.Mathlib.Nat.{mul-zero}
use native.Mathlib.Omega.{arith}
use native.Mathlib.Numerals.{add-one}
use lib.ListN.{length, get_or, set}
use lib.Seq.{get_or-set_same, get_or-set_other}
use Rattle.std.specs.Prelude.{bit_or}
use Rattle.std.proofs.lemmas.Bool.{cases_eq}
use Rattle.std.proofs.lemmas.Nat.{div-add-mod', div_below, mod_below, or_comm, or_shifted, shl_whole}
use Rattle.model.specs.Below.{bit, total}
use Rattle.model.specs.Graph.{Graph, row_length, packed_number, packed_of}
use Rattle.theory.proofs.Basics.Bits.{bits-small}
use Rattle.theory.proofs.Graph.Packed.{packed_at}

-- ---- a number, bit by bit

-- a bit is a number of one bit
bit_small : (b : Bool) → bit b < 2
bit_small true = omega arith
bit_small false = omega arith

module _ (p : ℕ → Bool) where
  -- the sum of the first m bits, each with its weight
  abbrev sum : ℕ → ℕ
  sum m = total m (λ k. bit (p k) * 2 ^ k)

  -- one bit more is a bit on top of them
  sum_more : (m : ℕ) → bit (p m) * 2 ^ m + sum m ≡ sum (m + 1)
  unfolding total
  sum_more m = rw (add-one m) refl

  -- as code puts it there
  pub bits_more : (m : ℕ) → m < 64 → {x b : ℕ} → x ≡ sum m → b ≡ bit (p m) → bit_or x (b * 2 ^ m % 2 ^ 64) ≡ sum (m + 1)
  bits_more m h e f =
      ap₂ (λ (y c : ℕ). bit_or y (c * 2 ^ m % 2 ^ 64)) e f
      ∙ ap (bit_or (sum m)) (shl_whole (bit (p m)) 1 m 64 (bit_small (p m)) (omega arith))
      ∙ or_comm (sum m) (bit (p m) * 2 ^ m) ∙ or_shifted (bit (p m)) m (sum m) (bits-small p m) ∙ sum_more m

-- ---- the table, number by number

-- a row of a table that has a place has one
some_place : (m w i : ℕ) → i < m * w → 0 < w
some_place m zero i h = absurd (omega (arith, mul-zero m))
some_place m (suc w) i h = omega arith

module _ (G : Graph) (i : ℕ) (h : i < G.size * row_length G.size) where
  -- place i of the table stands in one of its rows,
  row_below : i / row_length G.size < G.size
  row_below = div_below i (row_length G.size) G.size (some_place G.size (row_length G.size) i h) h

  -- at one of the row's places,
  place_below : i % row_length G.size < row_length G.size
  place_below = mod_below i (row_length G.size) (some_place G.size (row_length G.size) i h)

  -- and has that number of the row
  pub packed_place : get_or (packed_of G) i 0 ≡ packed_number G (i / row_length G.size) (i % row_length G.size)
  packed_place =
      let w = row_length G.size in
      ap (λ k. get_or (packed_of G) k 0) (sym (div-add-mod' i w)) ∙ packed_at G (i / w) (i % w) row_below place_below

-- a list that is the other one before place i, with what the other one has there, is the other one before the next place
pub same_more : (l q : List ℕ) (i x : ℕ) → i < length l → x ≡ get_or q i 0 → ((k : ℕ) → k < i → get_or l k 0 ≡ get_or q k 0)
    → (k : ℕ) → k < i + 1 → get_or (set l i x) k 0 ≡ get_or q k 0
same_more l q i x h e f k g =
    ⊎_elim (λ s. rw s (get_or-set_same l i x 0 h ∙ e)) (λ d. get_or-set_other l i k x 0 d ∙ f k (omega arith)) (cases_eq k i)
