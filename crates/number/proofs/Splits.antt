-- How a text splits into lines and a line into fields at the place that `find` gives. Assumes nothing.
use Prim.Native.Nat.{ℕ, suc, ◌+◌, ◌≤◌, ◌<◌, zero-le, suc-le-suc}
use mathlib.Core.Path.{◌≡◌, sym, ap, ap₂, subst, ◌∙◌}
use mathlib.Core.List.Memᴰ
use mathlib.Core.List.{List, [], ◌∷◌, ◌++◌, Memᴰ}
use mathlib.Core.Logic.{⊎_elim}
use native.Mathlib.Nat.{not-suc-le-zero, eq-or-lt_of_le}
use native.Mathlib.Numerals.{add-one}
use native.Mathlib.Omega.{arith}
use lib.ListN.{length, get_or, take, drop, length-take, drop_of_length-le}
use lib.Seq.{split_at, get_or-take, take_all}
use Rattle.model.specs.Text.{lines_of, fields_of}
use Rattle.theory.proofs.Text.EdgeTextCuts.{line_first, line-last, field_first}
use Rattle.number.specs.Field.{Found}

-- a byte that stands at no place is not among the bytes
pub nowhere : (b : ℕ) (l : List ℕ) → ((k : ℕ) → k < length l → get_or l k 0 ≡ b → ⊥) → Memᴰ b l → ⊥
nowhere b [] h m = Memᴰ.not-nil m
nowhere b (x ∷ l) h m =
    ⊎_elim (λ e. h 0 (suc-le-suc zero-le) (sym e)) (nowhere b l (λ k lt e. h (suc k) (suc-le-suc lt) e)) (Memᴰ.cases_cons m)

module _ {s : List ℕ} {b r : ℕ} (f : Found s b r) where
  -- what stands before the place that was found has no such byte
  part_free : Memᴰ b (take r s) → ⊥
  part_free = nowhere b (take r s) (λ k lt e.
      let short : k < r = omega (arith, simp length-take at lt, f.within) in
      f.passed k short (sym (get_or-take r s k 0 short) ∙ e))

-- the part up to a byte, the byte, and the rest
pub part-hit : (s : List ℕ) (b r : ℕ) → r < length s → get_or s r 0 ≡ b → s ≡ take r s ++ b ∷ drop (r + 1) s
part-hit s b r lt e = split_at s r 0 lt ∙ ap₂ {C = List ℕ} (λ (x k : ℕ). take r s ++ x ∷ drop k s) e (sym (add-one r))

-- the lines of a text that is not empty and has no byte 10
lines-whole : (l : List ℕ) → 0 < length l → (Memᴰ 10 l → ⊥) → lines_of l ≡ l ∷ []
lines-whole [] h f = absurd (not-suc-le-zero h)
lines-whole (x ∷ l) h f = line-last x l f

-- the lines of a text: the first, up to byte 10 or the end, and those after it
pub lines_at : {s : List ℕ} {r : ℕ} → Found s 10 r → 0 < length s → lines_of s ≡ take r s ∷ lines_of (drop (r + 1) s)
unfolding lines_of
lines_at {s} {r} f lt = ⊎_elim last hit (eq-or-lt_of_le f.within)
  where
    hit : r < length s → lines_of s ≡ take r s ∷ lines_of (drop (r + 1) s)
    hit h = ap lines_of (part-hit s 10 r h (f.hit h)) ∙ line_first (take r s) (drop (r + 1) s) (part_free f)

    -- the text is one line without a byte 10
    last : r ≡ length s → lines_of s ≡ take r s ∷ lines_of (drop (r + 1) s)
    last h =
        let past : length s ≤ r + 1 = omega arith in
        let none : drop (r + 1) s ≡ [] = drop_of_length-le s past in
        let whole : take r s ≡ s = take_all r s (omega arith) in
        rw (none, whole) (lines-whole s lt (subst (λ (l : List ℕ). Memᴰ 10 l → ⊥) whole (part_free f)))

-- the fields: the one up to the first space, and those after it
pub fields_at : {s : List ℕ} {r : ℕ} → Found s 32 r → r < length s → fields_of s ≡ take r s ∷ fields_of (drop (r + 1) s)
fields_at {s} {r} f lt = ap fields_of (part-hit s 32 r lt (f.hit lt)) ∙ field_first (take r s) (drop (r + 1) s) (part_free f)
