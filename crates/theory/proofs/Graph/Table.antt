-- The byte table as a graph. Assumes nothing.
use Prim.Native.Nat.{ℕ, zero, suc, ◌+◌, ◌*◌, ◌/◌, ◌%◌, ◌≤◌, ◌<◌}
use mathlib.Core.Path.{◌≡◌, sym, ap, ◌∙◌, subst}
use mathlib.Core.Bool.{Bool, true, false, ◌&&◌, and-false}
use mathlib.Core.List.{List}
use native.Mathlib.Nat.{mul_comm, mul-zero, suc-mul, mul-le-mul_right, le_trans}
use native.Mathlib.Omega.{arith}
use lib.ListN.{length, get_or}
use lib.Seq.{ext_get_or}
use lib.Dec.{ltb, eqb}
use borrow.Author.Tests.{lt-ltb, le-ltb, ltb-true}
use mathlib.Core.Logic.{◌⊎◌, inl, inr}
use Rattle.std.proofs.lemmas.Nat.{div-add-mod', div_below, mod_below, mul-add-lt, same_from_place}
use Rattle.model.specs.Graph.{on_vertices, by_table, among_vertices, byte_joined}
use Rattle.theory.proofs.Basics.Tests.{Test, test_and, test_lt, test_eq, passes_or_fails}

-- two vertices are joined where f says so,
pub joined_among : (n : ℕ) (f : ℕ → ℕ → Bool) (u v : ℕ) → u < n → v < n → among_vertices n f u v ≡ f u v
unfolding among_vertices
joined_among n f u v hu hv = rw (lt-ltb u n hu, lt-ltb v n hv)

-- and a number past them is joined to nothing
pub apart_past : (n : ℕ) (f : ℕ → ℕ → Bool) (u v : ℕ) → n ≤ v → among_vertices n f u v ≡ false
unfolding among_vertices
apart_past n f u v h = rw (le-ltb v n h) (ap (λ (b : Bool). b && f u v) (and-false (ltb u n)))

-- two tables that agree on the vertices, whatever their layouts, are one graph: every definition then has one value for both
pub same_graph : (n : ℕ) (f g : ℕ → ℕ → Bool) → ((u v : ℕ) → u < n → v < n → f u v ≡ g u v) → on_vertices n f ≡ on_vertices n g
unfolding among_vertices
same_graph n f g e = λ i. record { size = n; joined = λ u v. at u v (passes_or_fails (ltb u n)) (passes_or_fails (ltb v n)) i }
  where
    at : (u v : ℕ) → (ltb u n ≡ true) ⊎ (ltb u n ≡ false) → (ltb v n ≡ true) ⊎ (ltb v n ≡ false) → (ltb u n && ltb v n && f u v) ≡ (ltb u n && ltb v n && g u v)
    at u v (inl a) (inl b) = rw (a, b) (e u v (ltb-true u n a) (ltb-true v n b))
    at u v (inl a) (inr b) = rw (a, b)
    at u v (inr a) b = rw a

-- a row ends within the table
pub row_end : (n u : ℕ) → u < n → u * n + n ≤ n * n
row_end n u h = le_trans (omega (arith, suc-mul u n)) (mul-le-mul_right n h)

-- a byte stands for one pair only
pub cell_one : (n a b u v : ℕ) → b < n → v < n → a * n + b ≡ u * n + v → (a ≡ u) × (b ≡ v)
cell_one n a b u v = same_from_place a b u v n

-- a place of a row stands within a table of m rows of w,
pub place_within : (m w u v : ℕ) → u < m → v < w → u * w + v < m * w
place_within m w u v hu hv = omega (arith, mul-add-lt u w v m hu hv, mul_comm m w)

-- as the byte of two vertices does in the byte table
pub cell_within : (n u v : ℕ) → u < n → v < n → u * n + v < n * n
cell_within n = place_within n n

-- a place of a table of m rows of w is one of a row, so what holds of each place in each row holds of each place of the table,
pub each_cell : (m w : ℕ) (P : ℕ → Type 0) → ((u v : ℕ) → u < m → v < w → P (u * w + v)) → (i : ℕ) → i < m * w → P i
each_cell m zero P f i h = absurd (omega (arith, mul-zero m))
each_cell m (suc w) P f i h =
    let some : 0 < suc w = omega arith in
    subst P (div-add-mod' i (suc w)) (f (i / suc w) (i % suc w) (div_below i (suc w) m some h) (mod_below i (suc w) some))

-- and two tables with the same in each place are one
pub one_table : (m w : ℕ) (t s : List ℕ) → length t ≡ m * w → length s ≡ m * w
    → ((u v : ℕ) → u < m → v < w → get_or t (u * w + v) 0 ≡ get_or s (u * w + v) 0) → t ≡ s
one_table m w t s p q f =
    ext_get_or 0 t s (p ∙ sym q) (λ i h. each_cell m w (λ k. get_or t k 0 ≡ get_or s k 0) f i (subst (λ (k : ℕ). i < k) p h))

-- whether two are joined, for any u and v: they are vertices, and the byte of their pair is 1
pub joined_test : (n : ℕ) (t : List ℕ) (u v : ℕ) → Test ((by_table n t).joined u v) (((u < n) × (v < n)) × (get_or t (u * n + v) 0 ≡ 1))
unfolding byte_joined among_vertices
joined_test n t u v = test_and (test_and (test_lt u n) (test_lt v n)) (test_eq (get_or t (u * n + v) 0) 1)

module _ (n : ℕ) (t : List ℕ) (u : ℕ) (hu : u < n) where
  -- two vertices are joined where the byte of their pair is 1
  pub joined_at : (v : ℕ) → v < n → (by_table n t).joined u v ≡ eqb (get_or t (u * n + v) 0) 1
  unfolding byte_joined
  joined_at v hv = joined_among n (byte_joined n t) u v hu hv
