-- The lines of a text, as `lines_of` cuts them, are its lines as `Lines` states them, and a text has no others.
-- Assumes nothing.
use Prim.Native.Nat.{ℕ}
use mathlib.Core.Path.{◌≡◌, refl, sym, ap, ◌∙◌, subst}
use mathlib.Core.Logic.{◌≢◌, ◌⊎◌, inl, inr, ⊎_elim}
use mathlib.Core.Bool.{Bool, true, false, cond}
use mathlib.Core.List.Memᴰ
use mathlib.Core.List.{List, [], ◌∷◌, ◌++◌, append_assoc, append-nil, Memᴰ}
use lib.Dec.{eqb}
use borrow.Author.Tests.{eqb-true, eqb-false}
use Rattle.model.specs.Text.{onto, lines_of}
use Rattle.model.specs.EdgeText.{ended, LastOpen, Lines}
use Rattle.theory.proofs.Text.EdgeTextCuts.{line_first, line-last}

-- a list of at least one element is not empty
pub cons-not-nil {ℓ} : {A : Type ℓ} (x : A) (xs : List A) → x ∷ xs ≢ []
cons-not-nil {A = A} x xs e = subst family e tt
  where
    family : List A → Type 0
    family [] = ⊥
    family (y ∷ ys) = Unit {0}

-- ---- there are no others

lines-ended : (ls : List (List ℕ)) (bs : List ℕ) → ((l : List ℕ) → Memᴰ l ls → Memᴰ 10 l → ⊥) → lines_of (ended ls ++ bs) ≡ ls ++ lines_of bs
lines-ended [] bs h = refl
lines-ended (l ∷ ls) bs h =
    ap lines_of (append_assoc l (10 ∷ ended ls) bs)
    ∙ line_first l (ended ls ++ bs) (h l (Memᴰ.head refl))
    ∙ ap (λ (r : List (List ℕ)). l ∷ r) (lines-ended ls bs (λ k m. h k (Memᴰ.tail m)))

-- the lines of a text are those that `lines_of` cuts
pub lines_are : (text : List ℕ) (ls : List (List ℕ)) → Lines text ls → lines_of text ≡ ls
unfolding lines_of
lines_are text ls c = go c.bytes
  where
    open_end : (front : List (List ℕ)) (last : List ℕ) → last ≢ [] → ((l : List ℕ) → Memᴰ l (front ++ (last ∷ [])) → Memᴰ 10 l → ⊥)
        → lines_of (ended front ++ last) ≡ front ++ (last ∷ [])
    open_end front [] e h = absurd (e refl)
    open_end front (b ∷ l) e h =
        lines-ended front (b ∷ l) (λ k m. h k (Memᴰ.append_left ((b ∷ l) ∷ []) m))
        ∙ ap (λ (r : List (List ℕ)). front ++ r) (line-last b l (h (b ∷ l) (Memᴰ.append_right front (Memᴰ.head refl))))

    go : (text ≡ ended ls) ⊎ LastOpen text ls → lines_of text ≡ ls
    go (inl e) = ap lines_of (e ∙ sym (append-nil (ended ls))) ∙ lines-ended ls [] c.unbroken ∙ append-nil ls
    go (inr o) =
        ap lines_of o.bytes
        ∙ open_end o.front o.last o.not_empty (λ l m. c.unbroken l (subst (Memᴰ l) (sym o.lines) m))
        ∙ sym o.lines

-- ---- they are its lines

ended-before : (bs : List ℕ) (ls : List (List ℕ)) → Lines bs ls → Lines (10 ∷ bs) ([] ∷ ls)
ended-before bs ls c = record { unbroken = whole; bytes = go c.bytes }
  where
    whole : (l : List ℕ) → Memᴰ l ([] ∷ ls) → Memᴰ 10 l → ⊥
    whole l m = ⊎_elim (λ e t. Memᴰ.not-nil (subst (Memᴰ 10) e t)) (c.unbroken l) (Memᴰ.cases_cons m)

    go : (bs ≡ ended ls) ⊎ LastOpen bs ls → (10 ∷ bs ≡ 10 ∷ ended ls) ⊎ LastOpen (10 ∷ bs) ([] ∷ ls)
    go (inl e) = inl (ap (λ (r : List ℕ). 10 ∷ r) e)
    go (inr o) =
        inr
        (record {
          front = [] ∷ o.front;
          last = o.last;
          not_empty = o.not_empty;
          lines = ap (λ (r : List (List ℕ)). [] ∷ r) o.lines;
          bytes = ap (λ (r : List ℕ). 10 ∷ r) o.bytes;
        })

byte-before : (b : ℕ) (bs : List ℕ) (ls : List (List ℕ)) → b ≢ 10 → Lines bs ls → Lines (b ∷ bs) (onto b ls)
byte-before b bs [] h c = record { unbroken = whole; bytes = inr (go c.bytes) }
  where
    whole : (l : List ℕ) → Memᴰ l ((b ∷ []) ∷ []) → Memᴰ 10 l → ⊥
    whole l m t = ⊎_elim (λ e. ⊎_elim (λ q. h (sym q)) Memᴰ.not-nil (Memᴰ.cases_cons (subst (Memᴰ 10) e t))) Memᴰ.not-nil (Memᴰ.cases_cons m)

    one : bs ≡ [] → LastOpen (b ∷ bs) ((b ∷ []) ∷ [])
    one e = record { front = []; last = b ∷ []; not_empty = cons-not-nil b []; lines = refl; bytes = ap (λ (r : List ℕ). b ∷ r) e }

    none : (front : List (List ℕ)) (last : List ℕ) → [] ≡ front ++ (last ∷ []) → ⊥
    none [] last e = cons-not-nil last [] (sym e)
    none (f ∷ front) last e = cons-not-nil f (front ++ (last ∷ [])) (sym e)

    go : (bs ≡ []) ⊎ LastOpen bs [] → LastOpen (b ∷ bs) ((b ∷ []) ∷ [])
    go (inl e) = one e
    go (inr o) = absurd (none o.front o.last o.lines)
byte-before b bs (l ∷ ls) h c = record { unbroken = whole; bytes = go c.bytes }
  where
    whole : (k : List ℕ) → Memᴰ k ((b ∷ l) ∷ ls) → Memᴰ 10 k → ⊥
    whole k m t =
        ⊎_elim
        (λ e. ⊎_elim (λ q. h (sym q)) (c.unbroken l (Memᴰ.head refl)) (Memᴰ.cases_cons (subst (Memᴰ 10) e t)))
        (λ d. c.unbroken k (Memᴰ.tail d) t)
        (Memᴰ.cases_cons m)

    head_is : (front : List (List ℕ)) (last : List ℕ) → last ≢ [] → l ∷ ls ≡ front ++ (last ∷ []) → bs ≡ ended front ++ last → LastOpen (b ∷ bs) ((b ∷ l) ∷ ls)
    head_is [] last n e q =
        record {
          front = [];
          last = b ∷ last;
          not_empty = cons-not-nil b last;
          lines = ap (onto b) e;
          bytes = ap (λ (r : List ℕ). b ∷ r) q;
        }
    head_is (f ∷ front) last n e q =
        record {
          front = (b ∷ f) ∷ front;
          last = last;
          not_empty = n;
          lines = ap (onto b) e;
          bytes = ap (λ (r : List ℕ). b ∷ r) q;
        }

    go : (bs ≡ l ++ (10 ∷ ended ls)) ⊎ LastOpen bs (l ∷ ls) → (b ∷ bs ≡ b ∷ (l ++ (10 ∷ ended ls))) ⊎ LastOpen (b ∷ bs) ((b ∷ l) ∷ ls)
    go (inl e) = inl (ap (λ (r : List ℕ). b ∷ r) e)
    go (inr o) = inr (head_is o.front o.last o.not_empty o.lines o.bytes)

-- what `lines_of` cuts are the lines of the text
pub lines_hold : (text : List ℕ) → Lines text (lines_of text)
unfolding lines_of
lines_hold [] = record { unbroken = λ l m. absurd (Memᴰ.not-nil m); bytes = inl refl }
lines_hold (b ∷ bs) = go (eqb b 10) refl (lines_hold bs)
  where
    go : (t : Bool) → eqb b 10 ≡ t → Lines bs (lines_of bs) → Lines (b ∷ bs) (cond t ([] ∷ lines_of bs) (onto b (lines_of bs)))
    go true e c = subst (λ (x : ℕ). Lines (x ∷ bs) ([] ∷ lines_of bs)) (sym (eqb-true b 10 e)) (ended-before bs (lines_of bs) c)
    go false e c = byte-before b bs (lines_of bs) (eqb-false b 10 e) c
