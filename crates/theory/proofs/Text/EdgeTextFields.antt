-- The fields of a line and the number of a field: `fields_of` and `number_of` find exactly what `Numbered` and `Number` state.
-- Assumes nothing.
use Prim.Native.Nat.{ℕ, suc, ◌+◌, ◌-◌, ◌*◌, ◌^◌, ◌≤◌}
use mathlib.Core.Path.{◌≡◌, refl, sym, ap, ap₂, ◌∙◌, subst}
use mathlib.Core.Logic.{◌≢◌, ◌⊎◌, inl, inr}
use mathlib.Core.Bool.{Bool, true, false, ◌&&◌, ◌||◌, not, cond, false≢true}
use mathlib.Core.List.Memᴰ
use mathlib.Core.List.{List, [], ◌∷◌, ◌++◌, Memᴰ}
use mathlib.Core.Option.{Option, none, some}
use native.Mathlib.Nat.{zero-add, add_assoc, zero-mul, add-mul, mul_assoc, mul_comm, pow-suc}
use native.Mathlib.Omega.{arith}
use lib.ListN.{length, get_or}
use lib.Dec.{leb, eqb}
use borrow.Author.Tests.{leb-true, le-leb, eqb-true, eqb-false}
use Rattle.model.specs.Text.{onto, fields_of, digits, decimal, number_of, same}
use Rattle.model.specs.EdgeText.{value, Number, Numbered}
use Rattle.theory.proofs.Basics.Tests.{Test, test_and, test_or, test_not, test_eq, test_self}
use Rattle.theory.proofs.Text.EdgeTextCuts.{onto_field, field_first, field_last}

-- ---- numbers

test_le : (a b : ℕ) → Test (leb a b) (a ≤ b)
test_le a b = (leb-true a b, le-leb a b)

abbrev Digits : List ℕ → Type 0
Digits f = (b : ℕ) → Memᴰ b f → (48 ≤ b) × (b ≤ 57)

digits_test : (f : List ℕ) → Test (digits f) (Digits f)
unfolding digits
digits_test [] = (λ e b m. absurd (Memᴰ.not-nil m), λ h. refl)
digits_test (b ∷ f) = go (test_and (test_and (test_le 48 b) (test_le b 57)) (digits_test f))
  where
    there : ((48 ≤ b) × (b ≤ 57)) × Digits f → (c : ℕ) → (c ≡ b) ⊎ Memᴰ c f → (48 ≤ c) × (c ≤ 57)
    there h c (inl e) = subst (λ (x : ℕ). (48 ≤ x) × (x ≤ 57)) (sym e) h.0
    there h c (inr m) = h.1 c m

    go : Test (leb 48 b && leb b 57 && digits f) (((48 ≤ b) × (b ≤ 57)) × Digits f) → Test (digits (b ∷ f)) (Digits (b ∷ f))
    go t = (λ e c m. there (t.0 e) c (Memᴰ.cases_cons m), λ h. t.1 (h b (Memᴰ.head refl), λ c m. h c (Memᴰ.tail m)))

shape : List ℕ → Bool
shape f = leb 1 (length f) && leb (length f) 6 && digits f && (eqb (length f) 1 || not (eqb (get_or f 0 0) 48))

abbrev Shape : List ℕ → Type 0
Shape f = (((1 ≤ length f) × (length f ≤ 6)) × Digits f) × ((length f ≡ 1) ⊎ (get_or f 0 0 ≢ 48))

shape_test : (f : List ℕ) → Test (shape f) (Shape f)
unfolding shape
shape_test f =
    test_and (test_and (test_and (test_le 1 (length f)) (test_le (length f) 6)) (digits_test f))
    (test_or (test_eq (length f) 1) (test_not (test_eq (get_or f 0 0) 48)))

-- reading digit by digit gives the decimal value
decimal-from : (a : ℕ) (f : List ℕ) → decimal a f ≡ a * 10 ^ length f + value f
unfolding decimal
decimal-from a [] = omega arith
decimal-from a (b ∷ f) =
    let power = 10 ^ length f in
    let d = b - 48 in
    decimal-from (a * 10 + d) f
    ∙ ap (λ (k : ℕ). k + value f) (add-mul (a * 10) d power)
    ∙ ap (λ (k : ℕ). k + d * power + value f) (mul_assoc a 10 power ∙ ap (λ (k : ℕ). a * k) (mul_comm 10 power ∙ sym (pow-suc 10 (length f))))
    ∙ add_assoc (a * 10 ^ suc (length f)) (d * power) (value f)

decimal-value : (f : List ℕ) → decimal 0 f ≡ value f
decimal-value f = decimal-from 0 f ∙ ap (λ (k : ℕ). k + value f) (zero-mul (10 ^ length f)) ∙ zero-add (value f)

-- a number's field gives its value
pub number_is : (f : List ℕ) (k : ℕ) → Number f k → number_of f ≡ some k
unfolding number_of shape
number_is f k h =
    ap (λ (t : Bool). cond t (some (decimal 0 f)) none) ((shape_test f).1 (((h.not_empty, h.at_most), h.digits), h.unpadded))
    ∙ ap {B = Option ℕ} some (decimal-value f ∙ sym h.decimal)

-- a field is a number, or it gives none
pub number_view : (f : List ℕ) → Number f (value f) ⊎ (number_of f ≡ none)
unfolding number_of shape
number_view f = go (shape f) refl
  where
    go : (t : Bool) → shape f ≡ t → Number f (value f) ⊎ (number_of f ≡ none)
    go true e =
        let s = (shape_test f).0 e in
        inl (record { not_empty = s.0.0.0; at_most = s.0.0.1; digits = s.0.1; unpadded = s.1; decimal = refl })
    go false e = inr (ap (λ (t : Bool). cond t (some (decimal 0 f)) none) e)

unspaced-number : (f : List ℕ) (k : ℕ) → Number f k → Memᴰ 32 f → ⊥
unspaced-number f k h m = let r = h.digits 32 m in omega arith

-- ---- fields

-- two numbers parted by a space
two_fields : (a b : List ℕ) (x y : ℕ) → Number a x → Number b y → fields_of (a ++ (32 ∷ b)) ≡ a ∷ b ∷ []
two_fields a b x y ha hb =
    field_first a b (unspaced-number a x ha) ∙ ap (λ (r : List (List ℕ)). a ∷ r) (field_last b (unspaced-number b y hb))

-- the fields of `e U V`
pub edge_fields : (l : List ℕ) (u v : ℕ) (s : Numbered (101 ∷ []) l u v) → fields_of l ≡ (101 ∷ []) ∷ s.first ∷ s.second ∷ []
unfolding fields_of
edge_fields l u v s =
    ap fields_of s.bytes
    ∙ ap (λ (r : List (List ℕ)). (101 ∷ []) ∷ r) (two_fields s.first s.second u v s.first-number s.second-number)

-- the fields of `p edge N M`
pub problem_fields : (l : List ℕ) (n m : ℕ) (s : Numbered (112 ∷ 32 ∷ 101 ∷ 100 ∷ 103 ∷ 101 ∷ []) l n m)
    → fields_of l ≡ (112 ∷ []) ∷ (101 ∷ 100 ∷ 103 ∷ 101 ∷ []) ∷ s.first ∷ s.second ∷ []
unfolding fields_of
problem_fields l n m s =
    ap fields_of s.bytes
    ∙ ap (λ (r : List (List ℕ)). (112 ∷ []) ∷ (101 ∷ 100 ∷ 103 ∷ 101 ∷ []) ∷ r) (two_fields s.first s.second n m s.first-number s.second-number)

-- the bytes of fields parted by one space
abbrev pub parted : List ℕ → List (List ℕ) → List ℕ
parted f [] = f
parted f (g ∷ fs) = f ++ (32 ∷ parted g fs)

-- a line has at least one field, and is its fields parted by one space
pub record Fields (l : List ℕ) : Type 0 where
  pub field : List ℕ
  pub more : List (List ℕ)
  pub are : fields_of l ≡ field ∷ more
  pub bytes : l ≡ parted field more

-- each line is its fields parted by spaces
pub fields_view : (l : List ℕ) → Fields l
unfolding fields_of
fields_view [] = record { field = []; more = []; are = refl; bytes = refl }
fields_view (b ∷ bs) = go (eqb b 32) refl (fields_view bs)
  where
    onto-parted : (f : List ℕ) (fs : List (List ℕ)) → b ∷ parted f fs ≡ parted (b ∷ f) fs
    onto-parted f [] = refl
    onto-parted f (g ∷ fs) = refl

    go : (t : Bool) → eqb b 32 ≡ t → Fields bs → Fields (b ∷ bs)
    go true e r =
        record {
          field = [];
          more = r.field ∷ r.more;
          are = ap (λ (t : Bool). cond t ([] ∷ fields_of bs) (onto b (fields_of bs))) e ∙ ap (λ (rest : List (List ℕ)). [] ∷ rest) r.are;
          bytes = ap₂ {C = List ℕ} (λ (x : ℕ) (xs : List ℕ). x ∷ xs) (eqb-true b 32 e) r.bytes;
        }
    go false e r =
        record {
          field = b ∷ r.field;
          more = r.more;
          are = onto_field b bs (eqb-false b 32 e) ∙ ap (onto b) r.are;
          bytes = ap (λ (xs : List ℕ). b ∷ xs) r.bytes ∙ onto-parted r.field r.more;
        }

-- a word that passes the comparison is the word
pub same_word : (xs ys : List ℕ) → same xs ys ≡ true → xs ≡ ys
unfolding same
same_word [] [] e = refl
same_word [] (y ∷ ys) e = absurd (false≢true e)
same_word (x ∷ xs) [] e = absurd (false≢true e)
same_word (x ∷ xs) (y ∷ ys) e =
    let r = (test_and {a = eqb x y} {b = same xs ys} (test_eq x y) test_self).0 e in
    ap₂ {C = List ℕ} (λ (z : ℕ) (zs : List ℕ). z ∷ zs) r.0 (same_word xs ys r.1)
