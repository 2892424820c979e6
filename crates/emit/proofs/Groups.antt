-- What a group's entries make of a slice, and of the whole slice whose unused part was lent to the group writer.
-- Assumes nothing.
use Prim.Native.Nat.{ℕ, suc, ◌+◌, ◌-◌, ◌/◌, ◌%◌, ◌<◌, ◌≤◌}
use mathlib.Core.Path.{◌≡◌, ap, sym, ◌∙◌}
use mathlib.Core.List.{List, [], ◌∷◌, ◌++◌, append-nil, append_assoc}
use native.Mathlib.Omega.{arith}
use lib.ListN.{length, take, drop, set, length-drop}
use lib.Seq.{drop-length, take_all, drop-drop}
use borrow.Rule.Slice.PartMut.{put_mid, Post-is}
use Rattle.model.specs.Listing.{record_with, record_length}

-- the size, the two parts of the outgoing edges and then the vertices vs, written over the start of d
pub group_put : (d vs : List ℕ) (edges : ℕ) → 2 < length d
    → put_mid 3 (length vs) (set (set (set d 0 (length vs)) 1 (edges / 65536)) 2 (edges % 65536)) vs ≡ record_with edges vs ++ drop (record_length (length vs)) d
unfolding record_with
group_put [] vs edges h = absurd (omega arith)
group_put (x ∷ []) vs edges h = absurd (omega arith)
group_put (x ∷ y ∷ []) vs edges h = absurd (omega arith)
group_put (x ∷ y ∷ z ∷ d) vs edges h =
    let e : suc (suc (suc (length vs))) ≡ length vs + 3 = omega arith in
    ap (λ (m : ℕ). (length vs ∷ edges / 65536 ∷ edges % 65536 ∷ vs) ++ drop m (x ∷ y ∷ z ∷ d)) e

-- the part from a to the end, lent and back as ys: the whole is its first a entries and then ys
tail_put : (xs ys : List ℕ) (a : ℕ) → a ≤ length xs → put_mid a (length xs - a) xs ys ≡ take a xs ++ ys
tail_put xs ys a h =
    ap (λ (z : List ℕ). take a xs ++ (ys ++ z)) (Post-is a (length xs) xs h ∙ drop-length xs)
    ∙ ap (λ (z : List ℕ). take a xs ++ z) (append-nil ys)

-- ys is g and then what the part had after its first m entries: so the whole is what it was, with g at a
pub tail_at : (xs g ys : List ℕ) (a m : ℕ) → a ≤ length xs → ys ≡ g ++ drop m (take (length xs - a) (drop a xs))
    → put_mid a (length xs - a) xs ys ≡ take a xs ++ g ++ drop (a + m) xs
tail_at xs g ys a m h e =
    tail_put xs ys a h
    ∙ ap (λ (z : List ℕ). take a xs ++ z)
    (e
    ∙ ap (λ (z : List ℕ). g ++ drop m z) (take_all (length xs - a) (drop a xs) (simp length-drop (omega arith)))
    ∙ ap (λ (z : List ℕ). g ++ z) (drop-drop m a xs))
    ∙ sym (append_assoc (take a xs) g (drop (a + m) xs))
