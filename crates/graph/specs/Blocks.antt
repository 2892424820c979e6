-- Blocks of 64 × 64 bits: what a round of a transposition does, the transposed block, and the pairs of a block that are joined in one direction alone.
-- Assumes nothing.
use Rattle.std.specs.Prelude.{ℕ, ◌+◌, ◌-◌, ◌*◌, ◌/◌, ◌%◌, ◌^◌, ◌≤◌, ◌<◌, ◌≡◌, Bool, not, List, length, get_or, bit_and}
use Rattle.std.specs.Bool.{beq}
use Rattle.std.specs.Int.{bit_at}
use Rattle.model.specs.Below.{any}
use Rattle.model.specs.Graph.{Graph}

-- bit c of row r
abbrev pub cell : List ℕ → ℕ → ℕ → ℕ
cell b r c = bit_at (get_or b r 0) c

-- Rows and columns go by turns in halves of s: a place r is in the upper half of a pair where r / s is even, and in the lower where it is odd. The mask has a
-- bit for each place of an upper half.
pub record Halves (s mask : ℕ) : Type 0 where
  pub some : 1 ≤ s
  pub few : s ≤ 32
  -- s is a power of two: `r & s` is s in a lower half, and 0 in an upper
  pub tested : (r : ℕ) → bit_and r s ≡ r / s % 2 * s
  -- the lower half of a pair is in the block too
  pub within : (r : ℕ) → r < 64 → r / s % 2 ≡ 0 → r + s < 64
  pub masked : (c : ℕ) → c < 64 → bit_at mask c ≡ 1 - c / s % 2

-- Of two rows a and b the second half of the one and the first half of the other have changed places, in each pair of halves: x and y are the rows then.
pub record Exchanged (s a b x y : ℕ) : Type 0 where
  pub upper_kept : (c : ℕ) → c < 64 → c / s % 2 ≡ 0 → bit_at x c ≡ bit_at a c
  pub upper_taken : (c : ℕ) → c < 64 → c / s % 2 ≡ 0 → bit_at x (c + s) ≡ bit_at b c
  pub lower_taken : (c : ℕ) → c < 64 → c / s % 2 ≡ 0 → bit_at y c ≡ bit_at a (c + s)
  pub lower_kept : (c : ℕ) → c < 64 → c / s % 2 ≡ 0 → bit_at y (c + s) ≡ bit_at b (c + s)

-- all rows of a block have done so, each with the one that is s below it
pub record Swapped (s : ℕ) (old new : List ℕ) : Type 0 where
  pub rows : (r : ℕ) → r < 64 → r / s % 2 ≡ 0 → Exchanged s (get_or old r 0) (get_or old (r + s) 0) (get_or new r 0) (get_or new (r + s) 0)

-- rows and columns have changed places, in 64 numbers of 64 bits
pub record Transposed (old new : List ℕ) : Type 0 where
  pub whole : length new ≡ 64
  -- so that its numbers are compared bit by bit
  pub small : (r : ℕ) → get_or new r 0 < 2 ^ 64
  pub cells : (r c : ℕ) → r < 64 → c < 64 → cell new r c ≡ cell old c r

-- some vertex from 64 × i on and some vertex from 64 × j on, 64 each, are joined in one direction alone
abbrev pub block_one_way : Graph → ℕ → ℕ → Bool
block_one_way G i j = any 64 (λ r. any 64 (λ c. not (beq (G.joined (64 * i + c) (64 * j + r)) (G.joined (64 * j + r) (64 * i + c)))))
