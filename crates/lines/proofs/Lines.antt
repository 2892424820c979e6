-- What the definition of a line's step comes to at each first letter. Assumes nothing.
use Prim.Native.Nat.{ℕ, ◌*◌, ◌-◌, ◌≤◌}
use mathlib.Core.Path.{◌≡◌, refl, sym, ap, ◌∙◌}
use mathlib.Core.Bool.{Bool, true, false, not, cond, and-false}
use mathlib.Core.Logic.{◌⊎◌, inl, inr}
use mathlib.Core.List.{List, [], ◌∷◌, ◌++◌}
use native.Mathlib.Omega.{arith}
use lib.ListN.{length, get_or, take, drop, replicate, take-append-drop}
use lib.Dec.{ltb, eqb}
use borrow.Author.Tests.{ne_eqb, eqb-true}
use Rattle.std.proofs.lemmas.List.{take_rest}
use Rattle.model.specs.Text.{Reading, Step, bad, next, fault, line_step, unspaced, fields_of, p_fields, e_fields, p_line, e_line, same}
use Rattle.number.specs.Field.{two_of}
use Rattle.std.specs.Prelude.{◌≢◌}
use Rattle.lines.specs.Line.{StartsWith}
use Rattle.theory.proofs.Text.EdgeTextFields.{parted, Fields, fields_view, same_word}
use Rattle.theory.proofs.Text.EdgeTextStep.{out_by, joined_by}

-- ---- a fault's test

-- where the test says so, the step is at fault; else it is what the later tests say
pub at_fault : {k : ℕ} {b : Bool} (later : Step) {x : Step} → fault k b later ≡ x → b ≡ true → bad k ≡ x
unfolding fault
at_fault {k} later e t = ap (λ (c : Bool). fault k c later) (sym t) ∙ e

pub past_fault : (k : ℕ) {b : Bool} {later x : Step} → fault k b later ≡ x → b ≡ false → later ≡ x
unfolding fault
past_fault k {later = later} e t = ap (λ (c : Bool). fault k c later) (sym t) ∙ e

-- an e line's tests: 36 and 37
pub edge_tests : (r : Reading) (u v : ℕ) → fault 36 (out_by r.vertices u v) (fault 37 (eqb u v) (next (joined_by r u v))) ≡ e_line r u v
unfolding e_line
edge_tests r u v = refl

-- a p line's tests: 35 and 40
pub problem_tests : (room n m : ℕ) →
    fault 35 (ltb 1024 n) (fault 40 (ltb room (n * n)) (next (record { passed = true; vertices = n; stated = m; edges = 0; table = replicate (n * n) 0 })))
    ≡ p_line room n m
unfolding p_line
problem_tests room n m = refl

-- ---- the first two bytes

-- a line that starts with them
pub two_bytes : (line : List ℕ) (a b : ℕ) → 2 ≤ length line → get_or line 0 0 ≡ a → get_or line 1 0 ≡ b → line ≡ a ∷ b ∷ take (length line - 2) (drop 2 line)
two_bytes [] a b h e f = absurd (omega arith)
two_bytes (x ∷ []) a b h e f = absurd (omega arith)
two_bytes (x ∷ y ∷ l) a b h e f = rw (e, f, take_rest (x ∷ y ∷ l) 2)

-- what both branches are
either : (b : Bool) {s x y : Step} → s ≡ x → s ≡ y → s ≡ cond b x y
either true e f = e
either false e f = f

module _ (room : ℕ) (r : Reading) where
  -- comments: `c` alone, and `c` with a space
  pub comment_alone : (line : List ℕ) → length line ≡ 1 → get_or line 0 0 ≡ 99 → next r ≡ line_step room r line
  unfolding line_step fault unspaced
  comment_alone [] h e = absurd (omega arith)
  comment_alone (x ∷ []) h e = rw e
  comment_alone (x ∷ y ∷ l) h e = absurd (omega arith)

  pub comment_spaced : (line : List ℕ) → 2 ≤ length line → get_or line 0 0 ≡ 99 → get_or line 1 0 ≡ 32 → next r ≡ line_step room r line
  unfolding line_step fault unspaced
  comment_spaced [] h e f = absurd (omega arith)
  comment_spaced (x ∷ []) h e f = absurd (omega arith)
  comment_spaced (x ∷ y ∷ l) h e f = rw (e, f, and-false (not (eqb (length (y ∷ l)) 0)))

  pub line-problem : {line : List ℕ} → StartsWith (112 ∷ 32 ∷ []) line → fault 34 r.passed (p_fields room (fields_of line)) ≡ line_step room r line
  unfolding line_step fault unspaced
  line-problem h = rw h.1 refl

  pub line-edge : (l : List ℕ) → fault 33 (not r.passed) (e_fields r (fields_of (101 ∷ 32 ∷ l))) ≡ line_step room r (101 ∷ 32 ∷ l)
  unfolding line_step fault unspaced
  line-edge l = refl

  -- any other line
  pub line_other : (line : List ℕ)
      → (length line ≡ 1 → get_or line 0 0 ≡ 99 → ⊥)
      → (2 ≤ length line → get_or line 1 0 ≡ 32 → (get_or line 0 0 ≡ 99) ⊎ (get_or line 0 0 ≡ 112) ⊎ (get_or line 0 0 ≡ 101) → ⊥)
      → bad 31 ≡ line_step room r line
  unfolding line_step fault unspaced
  line_other [] alone spaced = refl
  line_other (x ∷ []) alone spaced = rw (ne_eqb x 99 (alone refl)) (either (eqb x 112) refl (either (eqb x 101) refl refl))
  line_other (x ∷ y ∷ l) alone spaced = go (eqb y 32) refl
    where
      go : (b : Bool) → eqb y 32 ≡ b → bad 31 ≡ line_step room r (x ∷ y ∷ l)
      go true e =
          let f = spaced (omega arith) (eqb-true y 32 e) in
          rw (ne_eqb x 99 (λ q. f (inl q)), ne_eqb x 112 (λ q. f (inr (inl q))), ne_eqb x 101 (λ q. f (inr (inr q))))
      go false e = rw (e, ne_eqb (length (y ∷ l)) 0 (λ q. omega arith)) (either (eqb x 99) refl (either (eqb x 112) refl (either (eqb x 101) refl refl)))

-- ---- an e line's fields

edge-two : (r : Reading) (f : List ℕ) (fs : List (List ℕ)) → e_fields r (f ∷ fs) ≡ two_of fs (e_line r)
unfolding e_fields two_of
edge-two r f [] = refl
edge-two r f (a ∷ []) = refl
edge-two r f (a ∷ b ∷ []) = refl
edge-two r f (a ∷ b ∷ g ∷ fs) = refl

-- U and V stand after the letter and its space
pub edge_fields : (r : Reading) (l : List ℕ) → two_of (fields_of l) (e_line r) ≡ e_fields r (fields_of (101 ∷ 32 ∷ l))
unfolding fields_of
edge_fields r l = sym (edge-two r (101 ∷ []) (fields_of l))

-- ---- a p line's fields

-- the four bytes `edge`
abbrev edge_word : List ℕ
edge_word = 101 ∷ 100 ∷ 103 ∷ 101 ∷ []

-- the six bytes `p edge`
abbrev pub p_edge : List ℕ
p_edge = 112 ∷ 32 ∷ 101 ∷ 100 ∷ 103 ∷ 101 ∷ []

fault_either : (b : Bool) → bad 32 ≡ fault 32 (not b) (bad 32)
unfolding fault
fault_either true = refl
fault_either false = refl

problem-two : (room : ℕ) (f w : List ℕ) (fs : List (List ℕ)) → p_fields room (f ∷ w ∷ fs) ≡ fault 32 (not (same w edge_word)) (two_of fs (p_line room))
unfolding p_fields two_of
problem-two room f w [] = fault_either (same w edge_word)
problem-two room f w (a ∷ []) = fault_either (same w edge_word)
problem-two room f w (a ∷ b ∷ []) = refl
problem-two room f w (a ∷ b ∷ g ∷ fs) = fault_either (same w edge_word)

-- a line whose second field is `edge`
edge-first : (fs : List (List ℕ)) → take 4 (parted edge_word fs) ≡ edge_word
edge-first [] = refl
edge-first (f ∷ fs) = refl

-- a longer word than `edge`
longer : (room x : ℕ) (l : List ℕ) → x ≢ 32 → p_fields room (fields_of (p_edge ++ x ∷ l)) ≡ bad 32
unfolding fields_of same fault
longer room x l ne =
    ap (λ (fs : List (List ℕ)). p_fields room ((112 ∷ []) ∷ fs)) word
    ∙ problem-two room (112 ∷ []) (101 ∷ 100 ∷ 103 ∷ 101 ∷ x ∷ r.field) r.more
  where
    r : Fields l
    r = fields_view l

    word : fields_of (101 ∷ 100 ∷ 103 ∷ 101 ∷ x ∷ l) ≡ (101 ∷ 100 ∷ 103 ∷ 101 ∷ x ∷ r.field) ∷ r.more
    word = rw (ne_eqb x 32 ne, r.are)

-- a line that starts otherwise
pub problem-other : (room : ℕ) {line : List ℕ} → StartsWith (112 ∷ 32 ∷ []) line → ((rest : List ℕ) → line ≢ p_edge ++ rest) → bad 32 ≡ p_fields room (fields_of line)
unfolding fields_of fault
problem-other room {line} h other =
    sym
    (ap (λ (l : List ℕ). p_fields room (fields_of l)) h.1
    ∙ ap (λ (fs : List (List ℕ)). p_fields room ((112 ∷ []) ∷ fs)) r.are
    ∙ problem-two room (112 ∷ []) r.field r.more
    ∙ go (same r.field edge_word) refl)
  where
    r : Fields h.0
    r = fields_view h.0

    starts : r.field ≡ edge_word → take 6 line ≡ p_edge
    starts w =
        ap (λ (l : List ℕ). take 6 l) h.1
        ∙ ap (λ (l : List ℕ). 112 ∷ 32 ∷ take 4 l) (r.bytes ∙ ap (λ (v : List ℕ). parted v r.more) w)
        ∙ ap (λ (l : List ℕ). 112 ∷ 32 ∷ l) (edge-first r.more)

    go : (b : Bool) → same r.field edge_word ≡ b → fault 32 (not b) (two_of r.more (p_line room)) ≡ bad 32
    go true q =
        let e = starts (same_word r.field edge_word q) in
        absurd (other (drop 6 line) (sym (take-append-drop 6 line) ∙ ap (λ (l : List ℕ). l ++ drop 6 line) e))
    go false q = refl

module _ (room : ℕ) {line rest : List ℕ} (h : line ≡ p_edge ++ rest) where
  -- no space after the six bytes
  pub problem-unspaced : ((l : List ℕ) → rest ≢ 32 ∷ l) → bad 32 ≡ p_fields room (fields_of line)
  unfolding fields_of p_fields
  problem-unspaced other = sym (ap (λ (l : List ℕ). p_fields room (fields_of l)) h ∙ go rest other)
    where
      go : (l : List ℕ) → ((k : List ℕ) → l ≢ 32 ∷ k) → p_fields room (fields_of (p_edge ++ l)) ≡ bad 32
      go [] ne = refl
      go (x ∷ l) ne = longer room x l (λ e. ne l (ap (λ (k : ℕ). k ∷ l) e))

  -- a space, and then two numbers
  pub problem_fields : {l : List ℕ} → rest ≡ 32 ∷ l → two_of (fields_of l) (p_line room) ≡ p_fields room (fields_of line)
  unfolding fields_of same fault
  problem_fields {l} e =
      sym
      (ap (λ (k : List ℕ). p_fields room (fields_of k)) (h ∙ ap (λ (k : List ℕ). p_edge ++ k) e)
      ∙ problem-two room (112 ∷ []) edge_word (fields_of l))
