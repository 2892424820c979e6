-- What a line spells is what one step of the reader finds in it: by the line's letter, and then by its fields.
-- Assumes nothing.
use Prim.Native.Nat.{ℕ}
use mathlib.Core.Path.{◌≡◌, refl, sym, ap, ap₂, ◌∙◌, subst}
use mathlib.Core.Logic.{◌≢◌, ◌⊎◌, inl, inr, ⊎_elim}
use mathlib.Core.Bool.{Bool, true, false, ◌&&◌, not}
use mathlib.Core.List.{List, [], ◌∷◌}
use mathlib.Core.Option.{Option, none}
use native.Mathlib.Omega.{arith}
use lib.ListN.{length, get_or}
use lib.Dec.{eqb, eqb-suc-zero}
use borrow.Author.Tests.{eqb-true, eqb-false}
use Rattle.model.specs.Text.{fields_of, number_of, Reading, Step, bad, next, fault, p_line, e_line, two, same, p_fields, e_fields, unspaced, line_step}
use Rattle.model.specs.EdgeText.{value, Number, Letter, Headed, Line, comment, problem, edge, Spells}
use Rattle.theory.proofs.Text.EdgeTextLines.{cons-not-nil}
use Rattle.theory.proofs.Text.EdgeTextFields.{number_is, number_view, edge_fields, problem_fields, parted, Fields, fields_view, same_word}

-- ---- a line says one thing

-- the first letter of a line that says this
abbrev pub letter_of : Line → ℕ
letter_of comment = 99
letter_of (problem n m) = 112
letter_of (edge u v) = 101

-- the letter that a line starts with
pub letter_first : (b : ℕ) (l : List ℕ) → Letter b l → get_or l 0 0 ≡ b
letter_first b l s = ap (λ (k : List ℕ). get_or k 0 0) s.1

-- a line starts with the letter of what it spells
pub spells_letter : (l : List ℕ) (x : Line) → Spells l x → get_or l 0 0 ≡ letter_of x
spells_letter l comment (inl e) = ap (λ (k : List ℕ). get_or k 0 0) e
spells_letter l comment (inr s) = letter_first 99 l s
spells_letter l (problem n m) s = ap (λ (k : List ℕ). get_or k 0 0) s.bytes
spells_letter l (edge u v) s = ap (λ (k : List ℕ). get_or k 0 0) s.bytes

same-value : (a b : List ℕ) (x y : ℕ) → Number a x → Number b y → a ≡ b → x ≡ y
same-value a b x y ha hb e = ha.decimal ∙ ap value e ∙ sym hb.decimal

-- a line spells one thing only
pub says-one : (l : List ℕ) (x y : Line) → Spells l x → Spells l y → x ≡ y
says-one l comment comment s t = refl
says-one l comment (problem n m) s t = let p = spells_letter l comment s in let q = spells_letter l (problem n m) t in absurd (omega arith)
says-one l comment (edge u v) s t = let p = spells_letter l comment s in let q = spells_letter l (edge u v) t in absurd (omega arith)
says-one l (problem n m) comment s t = let p = spells_letter l (problem n m) s in let q = spells_letter l comment t in absurd (omega arith)
says-one l (problem n m) (problem a b) s t =
    let e = sym (problem_fields l n m s) ∙ problem_fields l a b t in
    ap₂ problem
    (same-value s.first t.first n a s.first-number t.first-number (ap (λ (fs : List (List ℕ)). get_or fs 2 []) e))
    (same-value s.second t.second m b s.second-number t.second-number (ap (λ (fs : List (List ℕ)). get_or fs 3 []) e))
says-one l (problem n m) (edge u v) s t = let p = spells_letter l (problem n m) s in let q = spells_letter l (edge u v) t in absurd (omega arith)
says-one l (edge u v) comment s t = let p = spells_letter l (edge u v) s in let q = spells_letter l comment t in absurd (omega arith)
says-one l (edge u v) (problem n m) s t = let p = spells_letter l (edge u v) s in let q = spells_letter l (problem n m) t in absurd (omega arith)
says-one l (edge u v) (edge a b) s t =
    let e = sym (edge_fields l u v s) ∙ edge_fields l a b t in
    ap₂ edge
    (same-value s.first t.first u a s.first-number t.first-number (ap (λ (fs : List (List ℕ)). get_or fs 1 []) e))
    (same-value s.second t.second v b s.second-number t.second-number (ap (λ (fs : List (List ℕ)). get_or fs 2 []) e))

-- ---- a line by its letter

-- what a line is by its first two bytes, and what the reader then does with it
pub data Kind (l : List ℕ) : Type 0 where
  of_none : (Headed l → ⊥) → ((room : ℕ) (r : Reading) → line_step room r l ≡ bad 31) → Kind l
  of_comment : Spells l comment → ((room : ℕ) (r : Reading) → line_step room r l ≡ next r) → Kind l
  of_problem : Letter 112 l → ((room : ℕ) (r : Reading) → line_step room r l ≡ fault 34 r.passed (p_fields room (fields_of l))) → Kind l
  of_edge : Letter 101 l → ((room : ℕ) (r : Reading) → line_step room r l ≡ fault 33 (not r.passed) (e_fields r (fields_of l))) → Kind l

headed_first : (b : ℕ) (l : List ℕ) → b ≢ 99 → b ≢ 112 → b ≢ 101 → Headed (b ∷ l) → ⊥
headed_first b l c p e (inl h) = c (ap (λ (k : List ℕ). get_or k 0 0) h)
headed_first b l c p e (inr (inl s)) = c (letter_first 99 (b ∷ l) s)
headed_first b l c p e (inr (inr (inl s))) = p (letter_first 112 (b ∷ l) s)
headed_first b l c p e (inr (inr (inr s))) = e (letter_first 101 (b ∷ l) s)

letter_second : (b : ℕ) (l : List ℕ) → Letter b l → get_or l 1 0 ≡ 32
letter_second b l s = ap (λ (k : List ℕ). get_or k 1 0) s.1

headed_second : (l : List ℕ) → Headed l → (l ≡ 99 ∷ []) ⊎ (get_or l 1 0 ≡ 32)
headed_second l (inl h) = inl h
headed_second l (inr (inl s)) = inr (letter_second 99 l s)
headed_second l (inr (inr (inl s))) = inr (letter_second 112 l s)
headed_second l (inr (inr (inr s))) = inr (letter_second 101 l s)

-- a letter alone, other than c
alone_unheaded : (b : ℕ) → b ≢ 99 → Headed (b ∷ []) → ⊥
alone_unheaded b h s =
    ⊎_elim (λ e. h (ap (λ (k : List ℕ). get_or k 0 0) e)) (λ (e : 0 ≡ 32). omega arith) (headed_second (b ∷ []) s)

-- a letter without a space after it
tight_unheaded : (b c : ℕ) (l : List ℕ) → c ≢ 32 → Headed (b ∷ c ∷ l) → ⊥
tight_unheaded b c l h s =
    ⊎_elim (λ e. let q = ap (λ (k : List ℕ). length k) e in omega arith) (λ (e : c ≡ 32). h e) (headed_second (b ∷ c ∷ l) s)

comment-kind : (l : List ℕ) → Kind (99 ∷ l)
unfolding line_step fault unspaced
comment-kind [] = of_comment (inl refl) (λ room r. refl)
comment-kind (c ∷ l) = go (eqb c 32) refl
  where
    at : (t : Bool) → eqb c 32 ≡ t → (room : ℕ) (r : Reading) → line_step room r (99 ∷ c ∷ l) ≡ fault 31 (not t) (next r)
    at t e room r = ap₂ (λ (a b : Bool). fault 31 (not a && not b) (next r)) (eqb-suc-zero (length l)) e

    go : (t : Bool) → eqb c 32 ≡ t → Kind (99 ∷ c ∷ l)
    go true e = of_comment (inr (l, ap (λ (x : ℕ). 99 ∷ x ∷ l) (eqb-true c 32 e))) (at true e)
    go false e = of_none (tight_unheaded 99 c l (eqb-false c 32 e)) (at false e)

-- a letter other than c, by the byte after it
letter_kind : (b : ℕ) → b ≢ 99 → (later : ℕ → Reading → List ℕ → Step)
    → ((l : List ℕ) (room : ℕ) (r : Reading) → line_step room r (b ∷ l) ≡ fault 31 (unspaced l) (later room r l))
    → ((l : List ℕ) → Letter b (b ∷ l) → ((room : ℕ) (r : Reading) → line_step room r (b ∷ l) ≡ later room r l) → Kind (b ∷ l)) → (l : List ℕ) → Kind (b ∷ l)
unfolding fault unspaced
letter_kind b h later by of [] = of_none (alone_unheaded b h) (by [])
letter_kind b h later by of (c ∷ l) = go (eqb c 32) refl
  where
    at : (t : Bool) → eqb c 32 ≡ t → (room : ℕ) (r : Reading) → line_step room r (b ∷ c ∷ l) ≡ fault 31 (not t) (later room r (c ∷ l))
    at t e room r = by (c ∷ l) room r ∙ ap (λ (x : Bool). fault 31 (not x) (later room r (c ∷ l))) e

    go : (t : Bool) → eqb c 32 ≡ t → Kind (b ∷ c ∷ l)
    go true e = of (c ∷ l) (l, ap (λ (x : ℕ). b ∷ x ∷ l) (eqb-true c 32 e)) (at true e)
    go false e = of_none (tight_unheaded b c l (eqb-false c 32 e)) (at false e)

problem-kind : (l : List ℕ) → Kind (112 ∷ l)
unfolding line_step
problem-kind =
    letter_kind 112 (omega arith) (λ room r l. fault 34 r.passed (p_fields room (fields_of (112 ∷ l)))) (λ l room r. refl) (λ l. of_problem)

edge-kind : (l : List ℕ) → Kind (101 ∷ l)
unfolding line_step
edge-kind =
    letter_kind 101 (omega arith) (λ room r l. fault 33 (not r.passed) (e_fields r (fields_of (101 ∷ l)))) (λ l room r. refl) (λ l. of_edge)

-- each line is of one kind
pub kind : (l : List ℕ) → Kind l
unfolding line_step
kind [] = of_none (λ s. ⊎_elim (λ (e : [] ≡ 99 ∷ []). cons-not-nil 99 [] (sym e)) (λ (e : 0 ≡ 32). omega arith) (headed_second [] s)) (λ room r. refl)
kind (b ∷ l) = go (eqb b 99) (eqb b 112) (eqb b 101) refl refl refl
  where
    as_letter : (x : ℕ) → eqb b x ≡ true → Kind (x ∷ l) → Kind (b ∷ l)
    as_letter x e k = subst (λ (y : ℕ). Kind (y ∷ l)) (sym (eqb-true b x e)) k

    go : (c p e : Bool) → eqb b 99 ≡ c → eqb b 112 ≡ p → eqb b 101 ≡ e → Kind (b ∷ l)
    go true p e hc hp he = as_letter 99 hc (comment-kind l)
    go false true e hc hp he = as_letter 112 hp (problem-kind l)
    go false false true hc hp he = as_letter 101 he (edge-kind l)
    go false false false hc hp he =
        of_none (headed_first b l (eqb-false b 99 hc) (eqb-false b 112 hp) (eqb-false b 101 he)) (λ room r. rw (hc, hp, he))

-- ---- an e line and a p line by their fields

-- the reader's number of a fault, 0 where there is none
abbrev number_in : Step → ℕ
number_in (bad k) = k
number_in (next s) = 0

-- two tests whose numbers are not 32
neither_32 : (j k : ℕ) → j ≢ 32 → k ≢ 32 → (a b : Bool) (s : Reading) → number_in (fault j a (fault k b (next s))) ≢ 32
unfolding fault
neither_32 j k hj hk true b s = hj
neither_32 j k hj hk false true s = hk
neither_32 j k hj hk false false s = omega arith

edge_faults : (r : Reading) (u v : ℕ) → number_in (e_line r u v) ≢ 32
unfolding e_line
edge_faults r u v = neither_32 36 37 (omega arith) (omega arith) _ _ _

problem_faults : (room n m : ℕ) → number_in (p_line room n m) ≢ 32
unfolding p_line
problem_faults room n m = neither_32 35 40 (omega arith) (omega arith) _ _ _

-- the reader goes on with the U and V that an e line spells
pub edge-step : (r : Reading) (l : List ℕ) (u v : ℕ) → Spells l (edge u v) → e_fields r (fields_of l) ≡ e_line r u v
unfolding e_fields two
edge-step r l u v s =
    ap (e_fields r) (edge_fields l u v s)
    ∙ ap₂ (λ (a b : Option ℕ). two a b (e_line r)) (number_is s.first u s.first-number) (number_is s.second v s.second-number)

-- and with the N and M that a p line spells
pub problem-step : (room : ℕ) (l : List ℕ) (n m : ℕ) → Spells l (problem n m) → p_fields room (fields_of l) ≡ p_line room n m
unfolding p_fields two fault same
problem-step room l n m s =
    ap (p_fields room) (problem_fields l n m s)
    ∙ ap₂ (λ (a b : Option ℕ). two a b (p_line room)) (number_is s.first n s.first-number) (number_is s.second m s.second-number)

-- two numbers, or 32
two_view : (a b : List ℕ) (k : ℕ → ℕ → Step) → (Number a (value a) × Number b (value b)) ⊎ (two (number_of a) (number_of b) k ≡ bad 32)
unfolding two
two_view a b k = go (number_view a) (number_view b)
  where
    go : Number a (value a) ⊎ (number_of a ≡ none) → Number b (value b) ⊎ (number_of b ≡ none)
        → (Number a (value a) × Number b (value b)) ⊎ (two (number_of a) (number_of b) k ≡ bad 32)
    go (inr e) q = inr (ap (λ (x : Option ℕ). two x (number_of b) k) e)
    go (inl p) (inr e) = inr (ap₂ (λ (x y : Option ℕ). two x y k) (number_is a (value a) p) e)
    go (inl p) (inl q) = inl (p, q)

-- an e line spells U and V, or is at fault with 32 and spells nothing
abbrev pub EdgeSpelled : Reading → List ℕ → Type 0
EdgeSpelled r l = ((u : ℕ) × (v : ℕ) × Spells l (edge u v)) ⊎ ((e_fields r (fields_of l) ≡ bad 32) × ((x : Line) → Spells l x → ⊥))

-- what an e line spells, or fault 32
pub edge_view : (r : Reading) (l : List ℕ) → Letter 101 l → EdgeSpelled r l
unfolding e_fields fields_of
edge_view r l (rest, e) = go (fields_view rest)
  where
    nothing : e_fields r (fields_of l) ≡ bad 32 → (x : Line) → Spells l x → ⊥
    nothing q comment s = let a = spells_letter l comment s in let b = letter_first 101 l (rest, e) in omega arith
    nothing q (problem n m) s = let a = spells_letter l (problem n m) s in let b = letter_first 101 l (rest, e) in omega arith
    nothing q (edge u v) s = edge_faults r u v (ap number_in (sym (edge-step r l u v s) ∙ q))

    fail : e_fields r (fields_of l) ≡ bad 32 → EdgeSpelled r l
    fail q = inr (q, nothing q)

    more : (a : List ℕ) (fs : List (List ℕ)) → fields_of l ≡ (101 ∷ []) ∷ a ∷ fs → rest ≡ parted a fs → EdgeSpelled r l
    more a [] q p = fail (ap (e_fields r) q)
    more a (b ∷ []) q p =
        ⊎_elim
        (λ n.
        inl
        (value a, value b, record { first = a; second = b; bytes = e ∙ ap (λ (k : List ℕ). 101 ∷ 32 ∷ k) p; first-number = n.0; second-number = n.1 }))
        (λ n. fail (ap (e_fields r) q ∙ n))
        (two_view a b (e_line r))
    more a (b ∷ c ∷ fs) q p = fail (ap (e_fields r) q)

    go : Fields rest → EdgeSpelled r l
    go f = more f.field f.more (ap fields_of e ∙ ap (λ (fs : List (List ℕ)). (101 ∷ []) ∷ fs) f.are) f.bytes

-- a p line spells N and M, or is at fault with 32 and spells nothing
abbrev pub ProblemSpelled : ℕ → List ℕ → Type 0
ProblemSpelled room l = ((n : ℕ) × (m : ℕ) × Spells l (problem n m)) ⊎ ((p_fields room (fields_of l) ≡ bad 32) × ((x : Line) → Spells l x → ⊥))

-- what a p line spells, or fault 32
pub problem_view : (room : ℕ) (l : List ℕ) → Letter 112 l → ProblemSpelled room l
unfolding p_fields fields_of fault
problem_view room l (rest, e) = go (fields_view rest)
  where
    nothing : p_fields room (fields_of l) ≡ bad 32 → (x : Line) → Spells l x → ⊥
    nothing q comment s = let a = spells_letter l comment s in let b = letter_first 112 l (rest, e) in omega arith
    nothing q (problem n m) s = problem_faults room n m (ap number_in (sym (problem-step room l n m s) ∙ q))
    nothing q (edge u v) s = let a = spells_letter l (edge u v) s in let b = letter_first 112 l (rest, e) in omega arith

    fail : p_fields room (fields_of l) ≡ bad 32 → ProblemSpelled room l
    fail q = inr (q, nothing q)

    word : (w a b : List ℕ) (t : Bool) → same w (101 ∷ 100 ∷ 103 ∷ 101 ∷ []) ≡ t → fields_of l ≡ (112 ∷ []) ∷ w ∷ a ∷ b ∷ [] → rest ≡ parted w (a ∷ b ∷ []) → ProblemSpelled room l
    word w a b false t q p = fail (ap (p_fields room) q ∙ ap (λ (z : Bool). fault 32 (not z) (two (number_of a) (number_of b) (p_line room))) t)
    word w a b true t q p =
        ⊎_elim
        (λ n.
        inl (
          value a,
          value b,
          record {
            first = a;
            second = b;
            bytes = e ∙ ap (λ (k : List ℕ). 112 ∷ 32 ∷ k) (p ∙ ap (λ (k : List ℕ). parted k (a ∷ b ∷ [])) (same_word w (101 ∷ 100 ∷ 103 ∷ 101 ∷ []) t));
            first-number = n.0;
            second-number = n.1;
          },
        ))
        (λ n. fail (ap (p_fields room) q ∙ ap (λ (z : Bool). fault 32 (not z) (two (number_of a) (number_of b) (p_line room))) t ∙ n))
        (two_view a b (p_line room))

    more : (w : List ℕ) (fs : List (List ℕ)) → fields_of l ≡ (112 ∷ []) ∷ w ∷ fs → rest ≡ parted w fs → ProblemSpelled room l
    more w [] q p = fail (ap (p_fields room) q)
    more w (a ∷ []) q p = fail (ap (p_fields room) q)
    more w (a ∷ b ∷ []) q p = word w a b (same w (101 ∷ 100 ∷ 103 ∷ 101 ∷ [])) refl q p
    more w (a ∷ b ∷ c ∷ fs) q p = fail (ap (p_fields room) q)

    go : Fields rest → ProblemSpelled room l
    go f = more f.field f.more (ap fields_of e ∙ ap (λ (fs : List (List ℕ)). (112 ∷ []) ∷ fs) f.are) f.bytes
