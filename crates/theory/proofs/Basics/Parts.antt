-- What stands in a part of a lent slice, a entries in and k long, also after a store, and what is kept of the slice.
-- Assumes nothing.
use Prim.Native.Nat.{ℕ, ◌+◌, ◌-◌, ◌*◌, ◌≤◌, ◌<◌, min}
use mathlib.Core.Path.{◌≡◌, refl, sym, ap, ◌∙◌, subst}
use mathlib.Core.List.{List, [], ◌∷◌, ◌++◌}
use native.Mathlib.Numerals.{add-one}
use native.Mathlib.Omega.{arith}
use lib.ListN.{length, get_or, take, drop, set, length-take, length-drop, length-set}
use lib.Seq.{drop-set-add, drop-set-lt, take-set-le, take-suc-set, get_or-take, get_or-drop, get_or-set_other, ext_get_or, take-take, take_at, take-add, drop_at, length-take-le}
use Rattle.theory.specs.Parts.{part, SamePart, StateKept, Kept, Filled, CandidatesIn}

pub part_length : (w : List ℕ) (a k : ℕ) → a + k ≤ length w → length (part w a k) ≡ k
part_length w a k h = simp (length-take, length-drop) (omega arith)

pub part_at : (w : List ℕ) (a k j : ℕ) → j < k → get_or (part w a k) j 0 ≡ get_or w (a + j) 0
part_at w a k j h = get_or-take k (drop a w) j 0 h ∙ get_or-drop a w j 0

-- two slices that agree on the entries of a part have one part there
pub part_same : (w w₀ : List ℕ) (a k : ℕ) → length w ≡ length w₀ → SamePart a k w₀ w → part w a k ≡ part w₀ a k
part_same w w₀ a k e f = ext_get_or 0 (part w a k) (part w₀ a k) (size w ∙ ap (λ (l : ℕ). min k (l - a)) e ∙ sym (size w₀)) at
  where
    size : (u : List ℕ) → length (part u a k) ≡ min k (length u - a)
    size u = length-take k (drop a u) ∙ ap (min k) (length-drop a u)

    at : (i : ℕ) → i < length (part w a k) → get_or (part w a k) i 0 ≡ get_or (part w₀ a k) i 0
    at i h =
        let l : i < k = let s = size w in omega arith in
        part_at w a k i l ∙ f i l ∙ sym (part_at w₀ a k i l)

-- two slices whose first entries agree have one part there, whatever their lengths
pub part-front : (k : ℕ) (u w : List ℕ) → take k u ≡ take k w → k ≤ length u → k ≤ length w → (a m : ℕ) → a + m ≤ k → part u a m ≡ part w a m
part-front k u w e hu hw a m h =
    cut u (omega arith) ∙ ap (drop a) (sym (take-take (a + m) k u h) ∙ ap (take (a + m)) e ∙ take-take (a + m) k w h) ∙ sym (cut w (omega arith))
  where
    cut : (v : List ℕ) → a ≤ length v → part v a m ≡ drop a (take (a + m) v)
    cut v l = sym (ap (drop a) (take-add a m v) ∙ drop_at (take a v) (part v a m) a (length-take-le a v l))

-- a store right after the part makes it longer by one
pub part_push : (w : List ℕ) (a k v : ℕ) → a + k < length w → part (set w (a + k) v) a (k + 1) ≡ part w a k ++ (v ∷ [])
part_push w a k v h = rw (add-one, drop-set-add, take-suc-set (drop a w) k v (simp length-drop (omega arith)))

-- a store before the part leaves it
pub part-before : (w : List ℕ) (a k i v : ℕ) → i < a → part (set w i v) a k ≡ part w a k
part-before w a k i v h = ap (take k) (drop-set-lt a w i v h)

-- and so does one after it
pub part-after : (w : List ℕ) (a k i v : ℕ) → a + k ≤ i → part (set w i v) a k ≡ part w a k
part-after w a k i v h =
    let j = i - a in
    let e : a + j ≡ i = omega arith in
    ap (λ (m : ℕ). take k (drop a (set w m v))) (sym e)
    ∙ ap (take k) (drop-set-add a w j v)
    ∙ take-set-le k (drop a w) j v (omega arith)

-- the first m of a part
pub part-take : (w : List ℕ) (a k m : ℕ) → m ≤ k → take m (part w a k) ≡ part w a m
part-take w a k m h = take-take m k (drop a w) h

-- a part without its last entry
pub part_pop : (w : List ℕ) (a k v : ℕ) (l : List ℕ) → length l ≡ k → part w a (k + 1) ≡ l ++ (v ∷ []) → part w a k ≡ l
part_pop w a k v l n e = sym (part-take w a (k + 1) k (omega arith)) ∙ ap (take k) e ∙ take_at l (v ∷ []) k n

-- what is kept where nothing was written, and where one entry was
pub kept-none : (a b : ℕ) (w : List ℕ) → Kept a b w w
kept-none a b w = record { below = λ e h. refl; above = λ e h. refl; length-kept = refl }

pub kept_set : (a b : ℕ) (w₀ w : List ℕ) → Kept a b w₀ w → (i x : ℕ) → a ≤ i → i < b → Kept a b w₀ (set w i x)
kept_set a b w₀ w k i x h l =
    record {
      below = λ e g. get_or-set_other w i e x 0 (λ q. omega arith) ∙ k.below e g;
      above = λ e g. get_or-set_other w i e x 0 (λ q. omega arith) ∙ k.above e g;
      length-kept = simp length-set k.length-kept;
    }

-- within wider bounds, and where two functions wrote one after the other
pub kept_wider : {a b : ℕ} {w₀ w : List ℕ} → Kept a b w₀ w → (c d : ℕ) → c ≤ a → b ≤ d → Kept c d w₀ w
kept_wider k c d h l = record { below = λ e g. k.below e (omega arith); above = λ e g. k.above e (omega arith); length-kept = k.length-kept }

pub kept_then : {a b : ℕ} {w₀ w w₁ : List ℕ} → Kept a b w₀ w → Kept a b w w₁ → Kept a b w₀ w₁
kept_then f g =
    record {
      below = λ e h. g.below e h ∙ f.below e h;
      above = λ e h. g.above e h ∙ f.above e h;
      length-kept = g.length-kept ∙ f.length-kept;
    }

-- a part below what was written
pub part-below : (a b : ℕ) (w₀ w : List ℕ) → Kept a b w₀ w → (from k : ℕ) → from + k ≤ a → part w from k ≡ part w₀ from k
part-below a b w₀ w kept from k h = part_same w w₀ from k kept.length-kept (λ i l. kept.below (from + i) (omega arith))

-- ---- the state's entries are as they were

-- where two functions wrote one after the other
pub state_then : {n k l : ℕ} {w₀ w w₁ : List ℕ} → StateKept n k w₀ w → StateKept n l w w₁ → k ≤ l → StateKept n k w₀ w₁
state_then a b g =
    record {
      taken_ranks_lem = λ i h. b.taken_ranks_lem i h ∙ a.taken_ranks_lem i h;
      members = λ i h. b.members i (omega arith) ∙ a.members i h;
      left_ranks_lem = λ i h. b.left_ranks_lem i h ∙ a.left_ranks_lem i h;
      length-kept = b.length-kept ∙ a.length-kept;
    }

-- where nothing before part 3 was written the state's entries are as they were
pub kept-state : {n k a b : ℕ} {w₀ w : List ℕ} → Kept a b w₀ w → 3 * n ≤ a → k ≤ n → StateKept n k w₀ w
kept-state {n} kept g h =
    record {
      taken_ranks_lem = λ i l. kept.below (0 + i) (omega arith);
      members = λ i l. kept.below (n + i) (omega arith);
      left_ranks_lem = λ i l. kept.below (2 * n + i) (omega arith);
      length-kept = kept.length-kept;
    }

-- the k members, as a list
pub same-members : {n k : ℕ} {w₀ w : List ℕ} → StateKept n k w₀ w → part w n (n + k - n) ≡ part w₀ n k
same-members {n} {k} {w₀} {w} kept = ap (part w n) short ∙ part_same w w₀ n k kept.length-kept kept.members
  where
    short : n + k - n ≡ k
    short = omega arith

-- ---- a list written by a loop, entry by entry

-- the same for the slice and the number that code calls by other names
pub filled_same : {a b : ℕ} {l w₀ w w₁ : List ℕ} {k k₁ : ℕ} → w₁ ≡ w → k₁ ≡ k → Filled a b l w₀ w k → Filled a b l w₀ w₁ k₁
filled_same {a} {b} {l} {w₀} {w} {w₁} {k} {k₁} e f s =
    subst (λ (u : List ℕ). Filled a b l w₀ u k₁) (sym e) (subst (λ (j : ℕ). Filled a b l w₀ w j) (sym f) s)

module _ (a b : ℕ) (w₀ : List ℕ) where
  pub filled_none : (l : List ℕ) → l ≡ [] → Filled a b l w₀ w₀ 0
  filled_none l e = record { listed = sym e; kept = kept-none a b w₀ }

  module _ {l w : List ℕ} {k : ℕ} (s : Filled a b l w₀ w k) where
    -- one more entry is written right after those that stand
    pub filled_push : (x : ℕ) (m : List ℕ) → m ≡ l ++ (x ∷ []) → a + k < b → b ≤ length w₀ → Filled a b m w₀ (set w (a + k) x) (k + 1)
    filled_push x m e h f =
        let n = s.kept.length-kept in
        record {
          listed = part_push w a k x (omega arith) ∙ ap (λ (us : List ℕ). us ++ (x ∷ [])) s.listed ∙ sym e;
          kept = kept_set a b w₀ w s.kept (a + k) x (omega arith) h;
        }

    -- one is passed over
    pub filled_pass : (m : List ℕ) → m ≡ l → Filled a b m w₀ w k
    filled_pass m e = record { listed = s.listed ∙ sym e; kept = s.kept }

-- a list that was written in part 3 is one of candidates
pub filled_candidates : {n k m : ℕ} {l w₀ w : List ℕ} → Filled (3 * n) (3 * n + n) l w₀ w m → k ≤ n → m ≤ n → CandidatesIn n k l w₀ w m
filled_candidates s h f = record { listed = s.listed; few = f; kept = kept-state s.kept (omega arith) h }
