-- The packed table as a graph: a row's numbers, the bit of a pair, the degree as the ones in a row, and the packed table of a graph.
-- Assumes nothing.
use Prim.Native.Nat.{ℕ, zero, suc, ◌+◌, ◌*◌, ◌/◌, ◌%◌, ◌^◌, ◌≤◌, ◌<◌}
use mathlib.Core.Path.{◌≡◌, refl, sym, ap, ap₂, ◌∙◌}
use mathlib.Core.Bool.{Bool, false, not, true≢false}
use mathlib.Core.Logic.{◌↔◌, inl, inr, ⊎_elim}
use mathlib.Core.List.{List, [], ◌∷◌, ◌++◌}
use native.Mathlib.Nat.{suc-mul, zero-mul, mul-le-mul_right, le_trans}
use native.Mathlib.Omega.{arith}
use lib.ListN.{length, get_or, take, drop, length-append, length-drop, get_or-append}
use lib.Dec.{ltb, eqb}
use lib.Pow.{pow_mono}
use lib.Seq.{get_or-append-add, get_or-drop, take-suc}
use Rattle.std.specs.Prelude.{count_ones}
use Rattle.std.specs.Int.{bit_at}
use Rattle.std.proofs.lemmas.Nat.Bits.{bit_at-lt, bit_at-zero, bit_at_above, same_from_bits_below}
use Rattle.model.specs.Below.{bit, total, listed}
use Rattle.model.specs.Graph.{Graph, on_vertices, among_vertices, row_length, pair_bit, packed_joined, by_packed, packed_number, packed_rows, packed_of, degree}
use Rattle.model.specs.Calls.{bits_of, stray}
use Rattle.model.specs.Faults.{NoVertex}
use Rattle.theory.specs.Ones.{ones_of}
use Rattle.theory.proofs.Basics.Bits.{some_bit, small_from_bits, ones_count, bits-small, bits_at}
use Rattle.theory.proofs.Basics.Counting.{count_past, count_blocks}
use Rattle.theory.proofs.Basics.Tests.{Test, test_and, test_lt, test_eq, test_not, test_any, test_map, count_same, total-same, fails, last_or_below, lt_or_ge, bit-one}
use Rattle.theory.proofs.Graph.DegreeList.{length-listed, listed_at}
use Rattle.theory.proofs.Graph.Table.{joined_among, apart_past, same_graph, place_within, one_table}

-- ---- how long a row is

pub row_length-is : (n : ℕ) → row_length n ≡ (n + 63) / 64
unfolding row_length
row_length-is n = refl

-- the number that has vertex v is one of the row's
pub row-number : (n v : ℕ) → v < n → v / 64 < row_length n
row-number n v h = omega (arith, row_length-is n)

-- a number of a row is one of the table's
pub number_within : (n u j : ℕ) → u < n → j < row_length n → u * row_length n + j < n * row_length n
number_within n = place_within n (row_length n)

-- so the number that has the bit of a pair is one of the table's
pub pair_within : (n u v : ℕ) → u < n → v < n → u * row_length n + v / 64 < n * row_length n
pair_within n u v hu hv = number_within n u (v / 64) hu (row-number n v hv)

-- two tables with the same numbers in each row are one
pub one_packed : (n : ℕ) (t s : List ℕ) → length t ≡ n * row_length n → length s ≡ n * row_length n
    → ((u j : ℕ) → u < n → j < row_length n → get_or t (u * row_length n + j) 0 ≡ get_or s (u * row_length n + j) 0) → t ≡ s
one_packed n = one_table n (row_length n)

-- ---- the bit of a pair

-- bit k of number j is that of vertex 64 × j + k
pub pair_bit_at : (n : ℕ) (t : List ℕ) (u j k : ℕ) → k < 64 → pair_bit n t u (64 * j + k) ≡ bit_at (get_or t (u * row_length n + j) 0) k
unfolding pair_bit
pair_bit_at n t u j k h =
    let q : (64 * j + k) / 64 ≡ j = omega arith in
    let r : (64 * j + k) % 64 ≡ k = omega arith in
    ap₂ (λ i l. bit_at (get_or t (u * row_length n + i) 0) l) q r

-- so vertex v has bit v % 64 of number v / 64
pair_bit-is : (n : ℕ) (t : List ℕ) (u v : ℕ) → pair_bit n t u v ≡ bit_at (get_or t (u * row_length n + v / 64) 0) (v % 64)
unfolding pair_bit
pair_bit-is n t u v = refl

-- it is 0 or 1
pub pair_bit-small : (n : ℕ) (t : List ℕ) (u v : ℕ) → pair_bit n t u v ≤ 1
pair_bit-small n t u v = omega (arith, pair_bit-is n t u v, bit_at-lt (get_or t (u * row_length n + v / 64) 0) (v % 64))

-- whether two are joined, for any u and v: they are vertices, and the bit of their pair is 1
pub packed-joined_test : (n : ℕ) (t : List ℕ) (u v : ℕ) → Test ((by_packed n t).joined u v) (((u < n) × (v < n)) × (pair_bit n t u v ≡ 1))
unfolding packed_joined among_vertices
packed-joined_test n t u v = test_and (test_and (test_lt u n) (test_lt v n)) (test_eq (pair_bit n t u v) 1)

-- two vertices are joined where the bit of their pair is 1
pub packed-joined_at : (n : ℕ) (t : List ℕ) (u : ℕ) → u < n → (v : ℕ) → v < n → (by_packed n t).joined u v ≡ eqb (pair_bit n t u v) 1
unfolding packed_joined
packed-joined_at n t u hu v hv = joined_among n (packed_joined n t) u v hu hv

-- ---- rows without a stray bit

-- each number of a row has no more bits than it has vertices
pub record Clean (n : ℕ) (t : List ℕ) : Type 0 where
  pub below : (u j : ℕ) → u < n → j < row_length n → get_or t (u * row_length n + j) 0 < 2 ^ bits_of n j

-- the bits from there on are those of no vertex
past_bits : (n j k : ℕ) → (bits_of n j ≤ k) ↔ NoVertex n j k
past_bits n j k = (λ h. ⊎_elim (λ l. inl (omega arith)) inr (lt_or_ge k 64), ⊎_elim (λ h. omega arith) (λ h. omega arith))

module _ {n : ℕ} {t : List ℕ} (clean : Clean n t) {u j : ℕ} (hu : u < n) (hj : j < row_length n) where
  -- then each is a number of 64 bits,
  pub clean-small : get_or t (u * row_length n + j) 0 < 2 ^ 64
  clean-small = le_trans (clean.below u j hu hj) (pow_mono {i = bits_of n j} {j = 64} (omega arith))

  -- and a bit that is no vertex's is 0
  pub clean-bit : (k : ℕ) → NoVertex n j k → bit_at (get_or t (u * row_length n + j) 0) k ≡ 0
  clean-bit k h = bit_at_above _ (bits_of n j) k (clean.below u j hu hj) ((past_bits n j k).1 h)

-- a number has more bits than these exactly where a bit that is no vertex's is 1,
long_test : (n j x : ℕ) → Test (not (ltb x (2 ^ bits_of n j))) ((k : ℕ) × NoVertex n j k × (bit_at x k ≡ 1))
long_test n j x =
    test_map (test_not (test_lt x (2 ^ bits_of n j)))
    (λ f.
    let b = some_bit (bits_of n j) x (⊎_elim (λ l. absurd (f l)) (λ g. g) (lt_or_ge x (2 ^ bits_of n j))) in
    (b.0, (past_bits n j b.0).0 b.1, b.2))
    (λ r l. omega (arith, bit_at_above x (bits_of n j) r.0 l ((past_bits n j r.0).1 r.1), r.2))

-- so a stray bit is found exactly where a bit is no vertex's,
pub stray_test : (n : ℕ) (t : List ℕ)
    → Test (stray n t) ((u : ℕ) × (j : ℕ) × (k : ℕ) × (u < n) × (j < row_length n) × NoVertex n j k × (bit_at (get_or t (u * row_length n + j) 0) k ≡ 1))
unfolding stray
stray_test n t =
    test_map (test_any n _ (λ u. test_any (row_length n) _ (λ j. long_test n j (get_or t (u * row_length n + j) 0))))
    (λ r. (r.0, r.2.0, r.2.2.0, r.1, r.2.1, r.2.2.1, r.2.2.2))
    (λ r. (r.0, r.3, (r.1, r.4, (r.2, r.5, r.6))))

-- and none where each row is clean
pub clean_iff : (n : ℕ) (t : List ℕ) → (stray n t ≡ false) ↔ Clean n t
clean_iff n t = (
  λ e. record {
    below = λ u j hu hj.
        ⊎_elim (λ l. l)
        (λ g.
        let b = some_bit (bits_of n j) _ g in
        absurd (true≢false (sym ((stray_test n t).1 (u, j, b.0, hu, hj, (past_bits n j b.0).0 b.1, b.2)) ∙ e)))
        (lt_or_ge (get_or t (u * row_length n + j) 0) (2 ^ bits_of n j));
  },
  λ c. fails (stray n t) (λ e. let r = (stray_test n t).0 e in omega (arith, clean-bit c r.3 r.4 r.2 r.5, r.6)),
)

-- ---- the ones in a row

-- a number at the end of a row adds its ones
ones_of-append : (xs : List ℕ) (x : ℕ) → ones_of (xs ++ (x ∷ [])) ≡ ones_of xs + count_ones x
unfolding ones_of
ones_of-append [] x = omega arith
ones_of-append (y ∷ xs) x = omega (arith, ones_of-append xs x)

-- one number more of a row
pub ones_of-more : (l : List ℕ) (m : ℕ) → m < length l → ones_of (take (suc m) l) ≡ ones_of (take m l) + count_ones (get_or l m 0)
ones_of-more l m h = ap ones_of (take-suc l m 0 h) ∙ ones_of-append (take m l) (get_or l m 0)

-- the ones of the first m numbers are their ones added up
ones_of-take : (l : List ℕ) (m : ℕ) → m ≤ length l → ones_of (take m l) ≡ total m (λ j. count_ones (get_or l j 0))
unfolding total ones_of
ones_of-take l zero h = refl
ones_of-take l (suc m) h =
    omega (arith, ones_of-more l m (omega arith), ones_of-take l m (omega arith))

module _ (n : ℕ) (t : List ℕ) (clean : Clean n t) (u : ℕ) (hu : u < n) where
  -- a bit past the last vertex is not joined
  joined_past : (v : ℕ) → n ≤ v → v < 64 * row_length n → eqb (pair_bit n t u v) 1 ≡ false
  joined_past v h l =
      let b : pair_bit n t u v ≡ 0 = pair_bit-is n t u v ∙ clean-bit clean hu (omega arith) (v % 64) (inl (omega arith)) in
      ap (λ x. eqb x 1) b

  -- the degree, number by number
  degree-blocks : degree (by_packed n t) u ≡ total (row_length n) (λ j. count_ones (get_or t (u * row_length n + j) 0))
  unfolding degree
  degree-blocks =
      let w = row_length n in
      count_same n _ _ (packed-joined_at n t u hu)
      ∙ sym (count_past n (64 * w) (λ v. eqb (pair_bit n t u v) 1) (omega (arith, row_length-is n)) joined_past)
      ∙ count_blocks 64 w (λ v. eqb (pair_bit n t u v) 1)
      ∙ total-same w _ _ (λ j hj.
      count_same 64 _ _ (λ k hk. ap (λ x. eqb x 1) (pair_bit_at n t u j k hk)) ∙ sym (ones_count _ (clean-small clean hu hj)))

-- "The ones in a row give its degree"
pub degree_ones : (n : ℕ) (t : List ℕ) → Clean n t → length t ≡ n * row_length n → (u : ℕ) → u < n
    → degree (by_packed n t) u ≡ ones_of (take (row_length n) (drop (u * row_length n) t))
degree_ones n t clean whole u hu =
    let w = row_length n in
    degree-blocks n t clean u hu
    ∙ total-same w _ _ (λ j hj. ap count_ones (sym (get_or-drop (u * w) t j 0)))
    ∙ sym (ones_of-take (drop (u * w) t) w (rw length-drop (omega (arith, whole, suc-mul u w, mul-le-mul_right w hu))))

-- ---- the packed table of a graph

-- the number of the test whether a bit is 1
one_bit : (x : ℕ) → x < 2 → bit (eqb x 1) ≡ x
one_bit zero h = refl
one_bit (suc zero) h = refl
one_bit (suc (suc x)) h = absurd (omega arith)

module _ (G : Graph) where
  -- the rows below m are m rows of the graph's row length
  rows-length : (m : ℕ) → length (packed_rows G m) ≡ m * row_length G.size
  unfolding packed_rows
  rows-length zero = sym (zero-mul (row_length G.size))
  rows-length (suc m) =
      let w = row_length G.size in
      length-append (packed_rows G m) (listed w (packed_number G m)) ∙ omega (arith, rows-length m, length-listed (packed_number G m) w, suc-mul m w)

  -- and these are their numbers
  rows_at : (m u j : ℕ) → u < m → j < row_length G.size → get_or (packed_rows G m) (u * row_length G.size + j) 0 ≡ packed_number G u j
  unfolding packed_rows
  rows_at zero u j hu hj = absurd (omega arith)
  rows_at (suc m) u j hu hj =
      let w = row_length G.size in
      let row : (v : ℕ) → List ℕ = λ v. listed w (packed_number G v) in
      last_or_below hu
      (λ e.
      ap (λ i. get_or (packed_rows G m ++ row m) (i + j) 0) (ap (λ v. v * w) e ∙ sym (rows-length m))
      ∙ get_or-append-add (packed_rows G m) (row m) j 0 ∙ listed_at (packed_number G m) w j hj ∙ ap (λ v. packed_number G v j) (sym e))
      (λ l. get_or-append (packed_rows G m) (row m) 0 (u * w + j) (rw (rows-length m) (place_within m w u j l hj)) ∙ rows_at m u j l hj)

  -- so the table has that many numbers,
  pub packed-length : length (packed_of G) ≡ G.size * row_length G.size
  packed-length = rows-length G.size

  -- which are those of its rows
  pub packed_at : (u j : ℕ) → u < G.size → j < row_length G.size → get_or (packed_of G) (u * row_length G.size + j) 0 ≡ packed_number G u j
  packed_at = rows_at G.size

  module _ (u j : ℕ) where
    -- each is a number of 64 bits,
    pub number-small : packed_number G u j < 2 ^ 64
    unfolding packed_number
    number-small = bits-small (λ k. G.joined u (64 * j + k)) 64

    -- whose bit k says whether u is joined to 64 × j + k
    pub number_bit : (k : ℕ) → k < 64 → bit_at (packed_number G u j) k ≡ bit (G.joined u (64 * j + k))
    unfolding packed_number
    number_bit = bits_at (λ k. G.joined u (64 * j + k)) 64

  -- so the bit of a pair says whether the two are joined
  packed_bit : (u v : ℕ) → u < G.size → v < G.size → pair_bit G.size (packed_of G) u v ≡ bit (G.joined u v)
  packed_bit u v hu hv =
      let v-is : 64 * (v / 64) + v % 64 ≡ v = omega arith in
      pair_bit-is G.size (packed_of G) u v ∙ ap (λ x. bit_at x (v % 64)) (packed_at u (v / 64) hu (row-number G.size v hv))
      ∙ number_bit u (v / 64) (v % 64) (omega arith)
      ∙ ap (λ i. bit (G.joined u i)) v-is

module _ (n : ℕ) (t : List ℕ) (u j : ℕ) where
  -- A number of a row without a stray bit is that of the graph which the table holds,
  pub number_held : Clean n t → u < n → j < row_length n → get_or t (u * row_length n + j) 0 ≡ packed_number (by_packed n t) u j
  number_held clean hu hj =
      same_from_bits_below 64 _ _ (clean-small clean hu hj) (number-small (by_packed n t) u j)
      (λ k h. ⊎_elim (λ l. of_vertex k h l) (λ g. past k h g) (lt_or_ge (64 * j + k) n) ∙ sym (number_bit (by_packed n t) u j k h))
    where
      of_vertex : (k : ℕ) → k < 64 → 64 * j + k < n → bit_at (get_or t (u * row_length n + j) 0) k ≡ bit ((by_packed n t).joined u (64 * j + k))
      of_vertex k h l =
          sym (one_bit (bit_at (get_or t (u * row_length n + j) 0) k) (bit_at-lt (get_or t (u * row_length n + j) 0) k))
          ∙ ap (λ x. bit (eqb x 1)) (sym (pair_bit_at n t u j k h))
          ∙ ap bit (sym (packed-joined_at n t u hu (64 * j + k) l))

      past : (k : ℕ) → k < 64 → n ≤ 64 * j + k → bit_at (get_or t (u * row_length n + j) 0) k ≡ bit ((by_packed n t).joined u (64 * j + k))
      past k h g = clean-bit clean hu hj k (inl g) ∙ ap bit (sym (apart_past n (packed_joined n t) u (64 * j + k) g))

  -- and 0 is that of what is no vertex
  pub number_none : n ≤ u → 0 ≡ packed_number (by_packed n t) u j
  number_none g =
      same_from_bits_below 64 0 _ (omega arith) (number-small (by_packed n t) u j)
      (λ k h.
      bit_at-zero k
      ∙ ap bit (sym (fails ((by_packed n t).joined u (64 * j + k)) (λ e. let v = ((packed-joined_test n t u (64 * j + k)).0 e).0.0 in omega arith)))
      ∙ sym (number_bit (by_packed n t) u j k h))

module _ (n : ℕ) (f : ℕ → ℕ → Bool) where
  -- of a graph in which what is not a vertex is joined to nothing it has no stray bit,
  pub packed-clean : Clean n (packed_of (on_vertices n f))
  packed-clean = record {
    below = λ u j hu hj. rw (packed_at G u j hu hj) (small_from_bits (bits_of n j) (packed_number G u j) (λ k h. unset u j k ((past_bits n j k).0 h)));
  }
    where
      G : Graph
      G = on_vertices n f

      unset : (u j k : ℕ) → NoVertex n j k → bit_at (packed_number G u j) k ≡ 0
      unset u j k v =
          ⊎_elim
          (λ l. number_bit G u j k l ∙ ap bit (apart_past n f u (64 * j + k) (⊎_elim (λ h. h) (λ h. absurd (omega arith)) v)))
          (bit_at_above (packed_number G u j) 64 k (number-small G u j)) (lt_or_ge k 64)

  -- and holds that graph
  pub packed-graph : by_packed n (packed_of (on_vertices n f)) ≡ on_vertices n f
  unfolding packed_joined
  packed-graph =
      let G : Graph = on_vertices n f in
      same_graph n (packed_joined n (packed_of G)) f
      (λ u v hu hv. ap (λ x. eqb x 1) (packed_bit G u v hu hv) ∙ bit-one (G.joined u v) ∙ joined_among n f u v hu hv)
