-- The list of a graph's degrees: an entry for each vertex, which is its degree, and no other list is so.
-- Assumes nothing.
use Prim.Native.Nat.{ℕ, zero, suc, ◌<◌}
use mathlib.Core.Path.{◌≡◌, refl, sym, ◌∙◌}
use mathlib.Core.List.{List, [], ◌∷◌, ◌++◌}
use native.Mathlib.Omega.{arith}
use lib.ListN.{length, get_or, length-append, get_or-append}
use lib.Seq.{ext_get_or, get_or_at}
use borrow.Author.Count.{below_more}
use Rattle.model.specs.Below.{listed}
use Rattle.model.specs.Graph.{Graph, degree, degree_list}

-- ---- f of each number below n

module _ (f : ℕ → ℕ) where
  pub length-listed : (n : ℕ) → length (listed n f) ≡ n
  unfolding listed
  length-listed zero = refl
  length-listed (suc n) = length-append (listed n f) (f n ∷ []) ∙ omega (arith, length-listed n)

  pub listed_at : (n i : ℕ) → i < n → get_or (listed n f) i 0 ≡ f i
  unfolding listed
  listed_at zero i h = absurd (omega arith)
  listed_at (suc n) i h =
      below_more (λ k. get_or (listed n f ++ (f n ∷ [])) k 0 ≡ f k) n
      (λ k l. get_or-append (listed n f) (f n ∷ []) 0 k (rw (length-listed n) l) ∙ listed_at n k l)
      (get_or_at (listed n f) (f n) [] 0 n (length-listed n)) i (omega arith)

  -- a list that is so is this one
  pub listed-only : (n : ℕ) (d : List ℕ) → length d ≡ n → ((i : ℕ) → i < n → get_or d i 0 ≡ f i) → d ≡ listed n f
  listed-only n d long at =
      ext_get_or 0 d (listed n f) (long ∙ sym (length-listed n)) (λ i h. let l : i < n = omega arith in at i l ∙ sym (listed_at n i l))

-- ---- the degrees

module _ (G : Graph) where
  -- it has an entry for each vertex,
  pub degree_list-length : length (degree_list G) ≡ G.size
  degree_list-length = length-listed (degree G) G.size

  -- which is its degree,
  pub degree_list_at : (v : ℕ) → v < G.size → get_or (degree_list G) v 0 ≡ degree G v
  degree_list_at = listed_at (degree G) G.size

  -- and a list that is so is this one
  pub degree_list-only : (d : List ℕ) → length d ≡ G.size → ((v : ℕ) → v < G.size → get_or d v 0 ≡ degree G v) → d ≡ degree_list G
  degree_list-only = listed-only (degree G) G.size
