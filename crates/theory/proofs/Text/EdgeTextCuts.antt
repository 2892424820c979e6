-- Bytes cut at each byte of one value: a text into its lines, and a line into its fields.
-- Assumes nothing.
use Prim.Native.Nat.{ℕ}
use mathlib.Core.Path.{◌≡◌, refl, sym, ap, ◌∙◌}
use mathlib.Core.Logic.{◌≢◌}
use mathlib.Core.Bool.{Bool, cond}
use mathlib.Core.List.{List, [], ◌∷◌, ◌++◌, Memᴰ}
use lib.Dec.{eqb}
use borrow.Author.Tests.{eq-eqb, ne_eqb}
use Rattle.model.specs.Text.{onto, lines_of, fields_of}

module _ (cut : List ℕ → List (List ℕ)) (x : ℕ) (one : (b : ℕ) → onto b (cut []) ≡ (b ∷ []) ∷ [])
    (goes : (b : ℕ) (bs : List ℕ) → cut (b ∷ bs) ≡ cond (eqb b x) ([] ∷ cut bs) (onto b (cut bs))) where
  onto-part : (b : ℕ) (bs : List ℕ) → b ≢ x → cut (b ∷ bs) ≡ onto b (cut bs)
  onto-part b bs h = goes b bs ∙ ap (λ (t : Bool). cond t ([] ∷ cut bs) (onto b (cut bs))) (ne_eqb b x h)

  first_part : (l bs : List ℕ) → (Memᴰ x l → ⊥) → cut (l ++ (x ∷ bs)) ≡ l ∷ cut bs
  first_part [] bs h = goes x bs ∙ ap (λ (t : Bool). cond t ([] ∷ cut bs) (onto x (cut bs))) (eq-eqb x x refl)
  first_part (b ∷ l) bs h =
      onto-part b (l ++ (x ∷ bs)) (λ e. h (Memᴰ.head (sym e))) ∙ ap (onto b) (first_part l bs (λ m. h (Memᴰ.tail m)))

  last-part : (b : ℕ) (l : List ℕ) → (Memᴰ x (b ∷ l) → ⊥) → cut (b ∷ l) ≡ (b ∷ l) ∷ []
  last-part b [] h = onto-part b [] (λ e. h (Memᴰ.head (sym e))) ∙ one b
  last-part b (c ∷ l) h =
      onto-part b (c ∷ l) (λ e. h (Memᴰ.head (sym e))) ∙ ap (onto b) (last-part c l (λ m. h (Memᴰ.tail m)))

-- a line that ends in byte 10, and the lines after it
pub line_first : (l bs : List ℕ) → (Memᴰ 10 l → ⊥) → lines_of (l ++ (10 ∷ bs)) ≡ l ∷ lines_of bs
unfolding lines_of
line_first = first_part lines_of 10 (λ b. refl) (λ b bs. refl)

-- a last line that lacks it
pub line-last : (b : ℕ) (l : List ℕ) → (Memᴰ 10 (b ∷ l) → ⊥) → lines_of (b ∷ l) ≡ (b ∷ l) ∷ []
unfolding lines_of
line-last = last-part lines_of 10 (λ b. refl) (λ b bs. refl)

-- a byte other than a space goes before what the first field already holds
pub onto_field : (b : ℕ) (bs : List ℕ) → b ≢ 32 → fields_of (b ∷ bs) ≡ onto b (fields_of bs)
unfolding fields_of
onto_field = onto-part fields_of 32 (λ b. refl) (λ b bs. refl)

-- a field before a space, and the fields after it
pub field_first : (f bs : List ℕ) → (Memᴰ 32 f → ⊥) → fields_of (f ++ (32 ∷ bs)) ≡ f ∷ fields_of bs
unfolding fields_of
field_first = first_part fields_of 32 (λ b. refl) (λ b bs. refl)

-- with no space a line is one field
pub field_last : (f : List ℕ) → (Memᴰ 32 f → ⊥) → fields_of f ≡ f ∷ []
unfolding fields_of
field_last [] h = refl
field_last (b ∷ f) h = last-part fields_of 32 (λ b. refl) (λ b bs. refl) b f h
