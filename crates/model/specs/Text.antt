-- Document 01, "One set, one text, one program": the text reader as a function of the text and the table's contents.
-- Assumes nothing.
use Rattle.std.specs.Prelude.{ℕ, suc, ◌+◌, ◌*◌, ◌-◌, Bool, true, false, ◌&&◌, ◌||◌, not, cond, List, [], ◌∷◌, ◌++◌, length, get_or, drop, replicate, leb, ltb, eqb}
use Rattle.std.proofs.Math.Option.{Option, none, some}
use Rattle.model.specs.Graph.{with_pair}

-- ---- lines, fields and numbers

-- b before the first of the parts
abbrev pub onto : ℕ → List (List ℕ) → List (List ℕ)
onto b [] = (b ∷ []) ∷ []
onto b (l ∷ ls) = (b ∷ l) ∷ ls

-- "Lines end in byte 10; the last may lack it."
unfoldable pub lines_of : List ℕ → List (List ℕ)
lines_of [] = []
lines_of (b ∷ bs) =
    let rest = lines_of bs in
    cond (eqb b 10) ([] ∷ rest) (onto b rest)

-- "Fields are parted by one space."
unfoldable pub fields_of : List ℕ → List (List ℕ)
fields_of [] = [] ∷ []
fields_of (b ∷ bs) =
    let rest = fields_of bs in
    cond (eqb b 32) ([] ∷ rest) (onto b rest)

-- every byte is a digit, 48 to 57
unfoldable pub digits : List ℕ → Bool
digits [] = true
digits (b ∷ bs) = let rest = digits bs in leb 48 b && leb b 57 && rest

-- the decimal value of the digits after those that gave a
unfoldable pub decimal : ℕ → List ℕ → ℕ
decimal a [] = a
decimal a (b ∷ bs) = decimal (a * 10 + (b - 48)) bs

-- "A number is 1 to 6 digits, decimal, without leading zero except 0 itself."
unfoldable pub number_of : List ℕ → Option ℕ
number_of f =
    let shape = leb 1 (length f) && leb (length f) 6 && digits f && (eqb (length f) 1 || not (eqb (get_or f 0 0) 48)) in
    cond shape (some (decimal 0 f)) none

-- ---- a line

-- what the lines so far say: whether a p line passed, its N and M, the count of e lines, and the table so far
pub record Reading : Type 0 where
  pub passed : Bool
  pub vertices : ℕ
  pub stated : ℕ
  pub edges : ℕ
  pub table : List ℕ

-- a line is at fault, with its number, or the reading goes on
pub data Step : Type 0 where
  bad : ℕ → Step
  next : Reading → Step

-- fault k where the test says so, else what the later tests say
unfoldable pub fault : ℕ → Bool → Step → Step
fault k true later = bad k
fault k false later = later

-- a passed p line: 35 N over 1,024; 40 table under N × N
unfoldable pub p_line : ℕ → ℕ → ℕ → Step
p_line room n m =
    fault 35 (ltb 1024 n)
    (fault 40 (ltb room (n * n))
    (next (record { passed = true; vertices = n; stated = m; edges = 0; table = replicate (n * n) 0 })))

-- an e line in form: 36 U or V out of range; 37 U = V. It is counted, and its pair is joined, also where the pair stood before
-- (document 02, C-11: "A repeated pair now counts once in the table. M is still the count of e lines.")
unfoldable pub e_line : Reading → ℕ → ℕ → Step
e_line r u v =
    let n = r.vertices in
    fault 36 (eqb u 0 || ltb n u || eqb v 0 || ltb n v)
    (fault 37 (eqb u v)
    (next
    (record {
      passed = true;
      vertices = n;
      stated = r.stated;
      edges = suc r.edges;
      table = with_pair 1 n (u - 1) (v - 1) r.table;
    })))

-- two numbers, or 32
unfoldable pub two : Option ℕ → Option ℕ → (ℕ → ℕ → Step) → Step
two none b k = bad 32
two (some a) none k = bad 32
two (some a) (some b) k = k a b

-- two byte strings are the same
unfoldable pub same : List ℕ → List ℕ → Bool
same [] [] = true
same [] (y ∷ ys) = false
same (x ∷ xs) [] = false
same (x ∷ xs) (y ∷ ys) = let rest = same xs ys in eqb x y && rest

-- by its fields: the word `edge` after `p`, N and M, or 32
unfoldable pub p_fields : ℕ → List (List ℕ) → Step
p_fields room [] = bad 32
p_fields room (p ∷ []) = bad 32
p_fields room (p ∷ w ∷ []) = bad 32
p_fields room (p ∷ w ∷ a ∷ []) = bad 32
p_fields room (p ∷ w ∷ a ∷ b ∷ []) = fault 32 (not (same w (101 ∷ 100 ∷ 103 ∷ 101 ∷ []))) (two (number_of a) (number_of b) (p_line room))
p_fields room (p ∷ w ∷ a ∷ b ∷ f ∷ fs) = bad 32

-- by its fields: U and V after `e`, or 32
unfoldable pub e_fields : Reading → List (List ℕ) → Step
e_fields r [] = bad 32
e_fields r (e ∷ []) = bad 32
e_fields r (e ∷ a ∷ []) = bad 32
e_fields r (e ∷ a ∷ b ∷ []) = two (number_of a) (number_of b) (e_line r)
e_fields r (e ∷ a ∷ b ∷ f ∷ fs) = bad 32

-- no space after the first letter
unfoldable pub unspaced : List ℕ → Bool
unspaced [] = true
unspaced (b ∷ bs) = not (eqb b 32)

-- a line: 31 empty, or first letter not c (99), p (112) or e (101), or no space after it (`c` alone passes); 33 e line before any p line;
-- 34 second p line; 32 another fault of form
unfoldable pub line_step : ℕ → Reading → List ℕ → Step
line_step room r [] = bad 31
line_step room r (b ∷ rest) =
    let comment = fault 31 (not (eqb (length rest) 0) && unspaced rest) (next r) in
    let problem = fault 31 (unspaced rest) (fault 34 r.passed (p_fields room (fields_of (b ∷ rest)))) in
    let edge = fault 31 (unspaced rest) (fault 33 (not r.passed) (e_fields r (fields_of (b ∷ rest)))) in
    cond (eqb b 99) comment (cond (eqb b 112) problem (cond (eqb b 101) edge (bad 31)))

-- ---- a text

-- the reader's answer, and the table slice as it leaves it
pub record TextReply : Type 0 where
  pub refused : ℕ
  pub vertices : ℕ
  pub stated : ℕ
  pub line : ℕ
  pub slice : List ℕ

-- refused at a line: the slice is unchanged if no p line passed, else its first N × N bytes are 0
unfoldable pub refused_at : ℕ → ℕ → Reading → List ℕ → TextReply
refused_at k at r slice =
    record {
      refused = k;
      vertices = 0;
      stated = 0;
      line = at;
      slice = replicate (r.vertices * r.vertices) 0 ++ drop (r.vertices * r.vertices) slice;
    }

-- from the line of this number on. At the end: 33 no p line, 39 M differs
unfoldable pub read_from : ℕ → Reading → List (List ℕ) → List ℕ → TextReply
read_from at r [] slice =
    let accepted : TextReply = record {
      refused = 0;
      vertices = r.vertices;
      stated = r.stated;
      line = 0;
      slice = r.table ++ drop (r.vertices * r.vertices) slice;
    } in
    cond (not r.passed) (refused_at 33 at r slice) (cond (not (eqb r.edges r.stated)) (refused_at 39 at r slice) accepted)
read_from at r (l ∷ ls) slice = elim (line_step (length slice) r l) [ bad k ↦ refused_at k at r slice | next s ↦ read_from (suc at) s ls slice ]

-- the text reader
unfoldable pub read_text : List ℕ → List ℕ → TextReply
read_text text slice =
    read_from 1 (record { passed = false; vertices = 0; stated = 0; edges = 0; table = [] }) (lines_of text) slice
