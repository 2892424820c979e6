-- Two fields of a line and the numbers they are. Assumes nothing.
use Prim.Native.Nat.{ℕ, ◌+◌, ◌≤◌, ◌<◌}
use mathlib.Core.Path.{◌≡◌, refl, sym, ap, ap₂, ◌∙◌}
use mathlib.Core.Bool.{Bool, true, false, ◌&&◌, and-false}
use mathlib.Core.List.{List, [], ◌∷◌}
use mathlib.Core.Option.{Option, none, some}
use native.Mathlib.Omega.{arith}
use lib.ListN.{length, take, drop}
use lib.Dec.{leb, eqb}
use borrow.Author.Tests.{eqb-true}
use Rattle.model.specs.Text.{Step, bad, fields_of, digits, number_of, two}
use Rattle.theory.proofs.Text.EdgeTextCuts.{field_last}
use Rattle.theory.proofs.Text.EdgeTextFields.{Fields, fields_view}
use Rattle.number.specs.Field.{Found, two_of}
use Rattle.number.proofs.Splits.{nowhere, fields_at}
use Rattle.number.proofs.Numbers.{number_spoilt}

-- a line is one field, or it has a second one and is not all digits
data Shape (l : List ℕ) : Type 0 where
  whole : fields_of l ≡ l ∷ [] → Shape l
  parted : (f g : List ℕ) (fs : List (List ℕ)) → fields_of l ≡ f ∷ g ∷ fs → digits l ≡ false → Shape l

shape : (l : List ℕ) → Shape l
unfolding fields_of digits
shape [] = whole refl
shape (x ∷ l) = go (eqb x 32) refl (fields_view l) (shape l)
  where
    go : (b : Bool) → eqb x 32 ≡ b → Fields l → Shape l → Shape (x ∷ l)
    go true e r s = parted [] r.field r.more (rw (e, r.are)) (rw (eqb-true x 32 e))
    go false e r (whole w) = whole (rw (e, w))
    go false e r (parted f g fs w d) = parted (x ∷ f) g fs (rw (e, w)) (rw (d, and-false (leb 48 x && leb x 57)))

two_none : (a : Option ℕ) (k : ℕ → ℕ → Step) → two a none k ≡ bad 32
unfolding two
two_none none k = refl
two_none (some a) k = refl

-- a field and then one more, or 32
two_fields : (a l : List ℕ) (k : ℕ → ℕ → Step) → two_of (a ∷ fields_of l) k ≡ two (number_of a) (number_of l) k
unfolding two_of
two_fields a l k = go (shape l)
  where
    go : Shape l → two_of (a ∷ fields_of l) k ≡ two (number_of a) (number_of l) k
    go (whole w) = rw w
    go (parted f g fs w d) = rw w (sym (ap (λ (o : Option ℕ). two (number_of a) o k) (sym (number_spoilt l d)) ∙ two_none (number_of a) k))

module _ {s : List ℕ} {r : ℕ} (f : Found s 32 r) where
  -- with no space there is only one field
  pub two_single : length s ≤ r → (k : ℕ → ℕ → Step) → bad 32 ≡ two_of (fields_of s) k
  unfolding two_of
  two_single h k = rw (field_last s (nowhere 32 s (λ i l e. f.passed i (omega arith) e)))

  module _ (h : r < length s) where
    -- a field up to the first space, and the rest
    two_at : (k : ℕ → ℕ → Step) → two_of (fields_of s) k ≡ two (number_of (take r s)) (number_of (drop (r + 1) s)) k
    two_at k = ap (λ (fs : List (List ℕ)). two_of fs k) (fields_at f h) ∙ two_fields (take r s) (drop (r + 1) s) k

    -- one of the two is no number
    pub two-not-first : none ≡ number_of (take r s) → (k : ℕ → ℕ → Step) → bad 32 ≡ two_of (fields_of s) k
    unfolding two
    two-not-first e k = sym (two_at k ∙ ap (λ (o : Option ℕ). two o (number_of (drop (r + 1) s)) k) (sym e))

    pub two-not-second : none ≡ number_of (drop (r + 1) s) → (k : ℕ → ℕ → Step) → bad 32 ≡ two_of (fields_of s) k
    two-not-second e k = sym (two_at k ∙ ap (λ (o : Option ℕ). two (number_of (take r s)) o k) (sym e) ∙ two_none (number_of (take r s)) k)

    -- both are
    pub two_both : {a b : ℕ} → some a ≡ number_of (take r s) → some b ≡ number_of (drop (r + 1) s) → (k : ℕ → ℕ → Step) → k a b ≡ two_of (fields_of s) k
    unfolding two
    two_both e g k = sym (two_at k ∙ ap₂ {C = Step} (λ o p. two o p k) (sym e) (sym g))
