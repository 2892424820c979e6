-- The first line of a text, and an e line in form. Assumes nothing.
use Prim.Native.Nat.{ℕ, ◌+◌, ◌<◌}
use mathlib.Core.Path.{◌≡◌, sym, ap, ap₂, subst, ◌∙◌}
use mathlib.Core.Bool.{not}
use mathlib.Core.List.Memᴰ
use mathlib.Core.List.{List, [], ◌∷◌, ◌++◌, append_assoc, Memᴰ}
use mathlib.Core.Logic.{◌⊎◌, inl, inr, ⊎_elim}
use mathlib.Core.Option.{none, some, some-injective, some-ne-none}
use native.Mathlib.Omega.{arith}
use lib.ListN.{length, take, drop, length-append}
use lib.Seq.{length-take-le, take_at, drop_at}
use Rattle.model.specs.Text.{Reading, fault, e_fields, e_line, fields_of, line_step, unspaced, number_of, lines_of}
use Rattle.model.specs.EdgeText.{Number, value, Spells, edge}
use Rattle.theory.proofs.Text.EdgeTextCuts.{line_first}
use Rattle.theory.proofs.Text.EdgeTextFields.{number_is, number_view}
use Rattle.theory.proofs.Text.EdgeTextSpelling.{edge-step}
use Rattle.number.specs.Field.{Found, NumberEnds}
use Rattle.number.specs.declared.Lead.{Lead}
use Rattle.number.proofs.Splits.{part-hit, lines_at}
use Rattle.lines.specs.Line.{FirstLine, EdgeFirst}

-- a line that was searched for its end
pub found_first : {t : List ℕ} {r : ℕ} → Found t 10 r → 0 < length t → FirstLine t r
found_first f h = record { within = f.within; lines = lines_at f h }

-- an e line in form: 33 no p line before it, else its numbers
pub edge-spelled : (room : ℕ) (r : Reading) {l : List ℕ} {u v : ℕ} → Spells l (edge u v) → fault 33 (not r.passed) (e_line r u v) ≡ line_step room r l
unfolding line_step fault unspaced
edge-spelled room r {l} {u} {v} s =
    ap (fault 33 (not r.passed)) (sym (edge-step r l u v s))
    ∙ ap (λ (k : List ℕ). fault 33 (not r.passed) (e_fields r (fields_of k))) s.bytes
    ∙ ap (line_step room r) (sym s.bytes)

-- a field that is read as a number is one
number_of_lem : {f : List ℕ} {k : ℕ} → some k ≡ number_of f → Number f k
number_of_lem {f} {k} e = go (number_view f)
  where
    go : Number f (value f) ⊎ (number_of f ≡ none) → Number f k
    go (inl n) = subst (Number f) (some-injective (value f) k (sym (e ∙ number_is f (value f) n))) n
    go (inr q) = absurd (some-ne-none k (e ∙ q))

-- the letter and a space, a number and a space, a number and byte 10
module _ {t fields : List ℕ} {u v : Lead} (h : t ≡ 101 ∷ 32 ∷ fields) (first : NumberEnds fields 32 u) (second : NumberEnds (drop (u.count + 1) fields) 10 v) where
  -- the two fields, the line and what stands after it
  abbrev one : List ℕ
  one = take u.count fields

  abbrev other : List ℕ
  other = take v.count (drop (u.count + 1) fields)

  abbrev here : List ℕ
  here = 101 ∷ 32 ∷ one ++ (32 ∷ other)

  abbrev rest : List ℕ
  rest = drop (v.count + 1) (drop (u.count + 1) fields)

  abbrev size : ℕ
  size = u.count + v.count + 3

  whole : t ≡ here ++ (10 ∷ rest)
  whole =
      h
      ∙ ap (λ (l : List ℕ). 101 ∷ 32 ∷ l)
      (part-hit fields 32 u.count first.within first.byte
      ∙ ap (λ (l : List ℕ). one ++ (32 ∷ l)) (part-hit (drop (u.count + 1) fields) 10 v.count second.within second.byte)
      ∙ sym (append_assoc one (32 ∷ other) (10 ∷ rest)))

  long : length here ≡ size
  long =
      omega (
        arith,
        length-append one (32 ∷ other),
        length-take-le u.count fields (omega (arith, first.within)),
        length-take-le v.count (drop (u.count + 1) fields) (omega (arith, second.within)),
      )

  line : take size t ≡ here
  line = ap (take size) whole ∙ take_at here (10 ∷ rest) size long

  -- byte 10 comes next
  after : drop (size + 1) t ≡ rest
  after = ap (drop (size + 1)) (whole ∙ sym (append_assoc here (10 ∷ []) rest)) ∙ drop_at (here ++ (10 ∷ [])) rest (size + 1) (length-append here (10 ∷ []) ∙ ap (λ (k : ℕ). k + 1) long)

  -- digits are no byte 10
  free : Memᴰ 10 here → ⊥
  free m = ⊎_elim (λ e. omega arith) (λ n. ⊎_elim (λ e. omega arith) fields_free (Memᴰ.cases_cons n)) (Memᴰ.cases_cons m)
    where
      fields_free : Memᴰ 10 (one ++ (32 ∷ other)) → ⊥
      fields_free n =
          ⊎_elim (λ k. omega (arith, (number_of_lem first.number).digits 10 k))
          (λ k. ⊎_elim (λ e. omega arith) (λ i. omega (arith, (number_of_lem second.number).digits 10 i)) (Memᴰ.cases_cons k))
          (Memᴰ.append_cases one n)

  pub edge-first : EdgeFirst t (record { u = u.value; v = v.value; length = size })
  edge-first = record {
    first = record {
      within = omega (arith, ap length whole, length-append here (10 ∷ rest), long);
      lines = ap lines_of whole ∙ line_first here rest free ∙ ap₂ {C = List (List ℕ)} (λ (p q : List ℕ). p ∷ lines_of q) (sym line) (sym after);
    };
    spelled = record { first = one; second = other; bytes = line; first-number = number_of_lem first.number; second-number = number_of_lem second.number };
  }
