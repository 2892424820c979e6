-- Document 01, "One set, one text, one program" and the text's part of "Turned back by the input", as propositions: which bytes are a text of a
-- graph, which graph that is, and which fault of any other text comes first. Nothing here says how a text is read.
-- `Rattle.theory.proofs.Text.EdgeText` shows that `read_text` gives exactly this reply.
-- Assumes nothing.
use Rattle.std.specs.Prelude.{ℕ, suc, ◌+◌, ◌-◌, ◌*◌, ◌^◌, ◌≤◌, ◌<◌, ◌≡◌, ◌≢◌, ◌⊎◌, length, get_or, drop, replicate}
use mathlib.Core.List.{List, [], ◌∷◌, ◌++◌, Memᴰ}
use Rattle.model.specs.Fault.{Fault, numbered, FirstFault, NoFault}
use Rattle.model.specs.Text.{TextReply}

-- ---- a text and its lines

-- lines, each followed by byte 10
abbrev pub ended : List (List ℕ) → List ℕ
ended [] = []
ended (l ∷ ls) = l ++ (10 ∷ ended ls)

-- the same but for the last byte 10, after a line that is not empty
pub record LastOpen (text : List ℕ) (ls : List (List ℕ)) : Type 0 where
  pub front : List (List ℕ)
  pub last : List ℕ
  pub not_empty : last ≢ []
  pub lines : ls ≡ front ++ (last ∷ [])
  pub bytes : text ≡ ended front ++ last

-- "Lines end in byte 10; the last may lack it." So a last byte 10 begins no further line, and the empty text has no line
pub record Lines (text : List ℕ) (ls : List (List ℕ)) : Type 0 where
  pub unbroken : (l : List ℕ) → Memᴰ l ls → Memᴰ 10 l → ⊥
  pub bytes : (text ≡ ended ls) ⊎ LastOpen text ls

-- the decimal value of digits (48 to 57): each counts 10 to the power of how many come after it
abbrev pub value : List ℕ → ℕ
value [] = 0
value (b ∷ f) = (b - 48) * 10 ^ length f + value f

-- "A number is 1 to 6 digits, decimal, without leading zero except 0 itself."
pub record Number (f : List ℕ) (k : ℕ) : Type 0 where
  pub not_empty : 1 ≤ length f
  pub at_most : length f ≤ 6
  pub digits : (b : ℕ) → Memᴰ b f → (48 ≤ b) × (b ≤ 57)
  pub unpadded : (length f ≡ 1) ⊎ (get_or f 0 0 ≢ 48)
  pub decimal : k ≡ value f

-- "Fields are parted by one space": a line of these bytes, a space, a number, a space and a number
pub record Numbered (start l : List ℕ) (x y : ℕ) : Type 0 where
  pub first : List ℕ
  pub second : List ℕ
  pub bytes : l ≡ start ++ (32 ∷ first ++ (32 ∷ second))
  pub first-number : Number first x
  pub second-number : Number second y

-- a line that starts with this letter and a space
abbrev pub Letter : ℕ → List ℕ → Type 0
Letter b l = (rest : List ℕ) × (l ≡ b ∷ 32 ∷ rest)

-- `c` alone, or the first letter is c (99), p (112) or e (101) and a space follows it
abbrev pub Headed : List ℕ → Type 0
Headed l = (l ≡ 99 ∷ []) ⊎ Letter 99 l ⊎ Letter 112 l ⊎ Letter 101 l

-- what a line can say: nothing; N and M; U and V
pub data Line : Type 0 where
  comment : Line
  problem : ℕ → ℕ → Line
  edge : ℕ → ℕ → Line

-- "A line is `c` alone, `c` with a space and any bytes, `e U V`, or starts with the six bytes `p edge` and goes on as a space, N, a space, M."
abbrev pub Spells : List ℕ → Line → Type 0
Spells l comment = (l ≡ 99 ∷ []) ⊎ Letter 99 l
Spells l (problem n m) = Numbered (112 ∷ 32 ∷ 101 ∷ 100 ∷ 103 ∷ 101 ∷ []) l n m
Spells l (edge u v) = Numbered (101 ∷ []) l u v

-- line for line
abbrev pub SpellAll : List (List ℕ) → List Line → Type 0
SpellAll [] [] = Unit {0}
SpellAll [] (x ∷ xs) = ⊥
SpellAll (l ∷ ls) [] = ⊥
SpellAll (l ∷ ls) (x ∷ xs) = Spells l x × SpellAll ls xs

-- ---- an accepted text

-- the count of e lines, not of pairs: one that is given again counts again
abbrev pub edges : List Line → ℕ
edges [] = 0
edges (comment ∷ xs) = edges xs
edges (problem n m ∷ xs) = edges xs
edges (edge u v ∷ xs) = suc (edges xs)

-- some e line has this pair, in either direction
abbrev pub HasPair : List Line → ℕ → ℕ → Type 0
HasPair xs u v = Memᴰ (edge u v) xs ⊎ Memᴰ (edge v u) xs

-- no line states N and M
abbrev pub NoProblem : List Line → Type 0
NoProblem xs = (n m : ℕ) → Memᴰ (problem n m) xs → ⊥

-- "U and V are from 1 to N", and differ
pub record Ends (n u v : ℕ) : Type 0 where
  pub u_from : 1 ≤ u
  pub u_to : u ≤ n
  pub v_from : 1 ≤ v
  pub v_to : v ≤ n
  pub differ : u ≢ v

-- "One p line stands before all e lines". N is at most 1,024, and a table of N × N bytes has room. A pair may be given more than once, in either
-- direction (document 02, C-11)
pub record Drawn (room n m : ℕ) (xs : List Line) : Type 0 where
  pub comments : List Line
  pub after : List Line
  pub lines : xs ≡ comments ++ (problem n m ∷ after)
  pub only-comments : (x : Line) → Memᴰ x comments → x ≡ comment
  pub no_second : NoProblem after
  pub small : n ≤ 1024
  pub fits : n * n ≤ room
  pub ends : (u v : ℕ) → Memᴰ (edge u v) xs → Ends n u v

-- byte u × N + v is 1 where vertices u and v, which the text calls u + 1 and v + 1, are joined, that is where some e line has their pair, else 0
pub record Table (n : ℕ) (xs : List Line) (t : List ℕ) : Type 0 where
  pub size : length t ≡ n * n
  pub joined : (u v : ℕ) → u < n → v < n → HasPair xs (suc u) (suc v) → get_or t (u * n + v) 0 ≡ 1
  pub apart : (u v : ℕ) → u < n → v < n → (HasPair xs (suc u) (suc v) → ⊥) → get_or t (u * n + v) 0 ≡ 0

-- the text of a graph of n vertices with table t, which a slice of `room` bytes can hold, in m e lines: "M is the count of e lines"
pub record EdgeText (room : ℕ) (text : List ℕ) (n m : ℕ) (t : List ℕ) : Type 0 where
  pub lines : List (List ℕ)
  pub said : List Line
  pub cut : Lines text lines
  pub spelled : SpellAll lines said
  pub drawn : Drawn room n m said
  pub stated : m ≡ edges said
  pub table : Table n said t

-- ---- a refused text

-- the lines so far hold a p line with this N
abbrev pub Passed : List Line → ℕ → Type 0
Passed xs n = (m : ℕ) × Memᴰ (problem n m) xs

-- U or V is not from 1 to N
abbrev pub OutOfRange : ℕ → ℕ → ℕ → Type 0
OutOfRange n u v = (u < 1) ⊎ (n < u) ⊎ (v < 1) ⊎ (n < v)

-- The faults of the line l after lines that say xs, in document 01's order: 31 line empty, or first letter not c, p or e, or no space after it
-- (`c` alone passes); 33 e line before any p line; 34 second p line; 32 another fault of form; 35 N over 1,024; 40 table under N × N; 36 U or V
-- out of range; 37 U = V. By its letter a line is an e line or a p line, whatever follows.
abbrev pub line_faults : ℕ → List Line → List ℕ → List Fault
line_faults room xs l =
    numbered 31 (Headed l → ⊥)
    ∷ numbered 33 (Letter 101 l × ((n : ℕ) → Passed xs n → ⊥))
    ∷ numbered 34 (Letter 112 l × ((n : ℕ) × Passed xs n))
    ∷ numbered 32 ((x : Line) → Spells l x → ⊥)
    ∷ numbered 35 ((n : ℕ) × (m : ℕ) × Spells l (problem n m) × (1024 < n))
    ∷ numbered 40 ((n : ℕ) × (m : ℕ) × Spells l (problem n m) × (room < n * n))
    ∷ numbered 36 ((n : ℕ) × (u : ℕ) × (v : ℕ) × Spells l (edge u v) × Passed xs n × OutOfRange n u v)
    ∷ numbered 37 ((u : ℕ) × (v : ℕ) × Spells l (edge u v) × (u ≡ v))
    ∷ []

-- "At the end: 33 no p line, 39 M differs", from the count of e lines, repeated ones among them (document 02, C-11)
abbrev pub end_faults : List Line → List Fault
end_faults xs =
    numbered 33 ((n : ℕ) → Passed xs n → ⊥)
    ∷ numbered 39 ((n : ℕ) × (m : ℕ) × Memᴰ (problem n m) xs × (m ≢ edges xs))
    ∷ []

-- the faults of the next line, or at the end
abbrev pub faults_at : ℕ → List Line → List (List ℕ) → List Fault
faults_at room xs [] = end_faults xs
faults_at room xs (l ∷ ls) = line_faults room xs l

-- the lines ls, after lines that say xs, have no fault and say ys
abbrev pub Faultless : ℕ → List Line → List (List ℕ) → List Line → Type 0
Faultless room xs [] [] = Unit {0}
Faultless room xs [] (y ∷ ys) = ⊥
Faultless room xs (l ∷ ls) [] = ⊥
Faultless room xs (l ∷ ls) (y ∷ ys) = Spells l y × NoFault (line_faults room xs l) × Faultless room (xs ++ (y ∷ [])) ls ys

-- the first fault: its number k, its line i, counted from 1 (at the end the line count plus 1), and what the lines before it say
pub record FirstFaultyLine (room : ℕ) (text : List ℕ) (k i : ℕ) (said : List Line) : Type 0 where
  pub front : List (List ℕ)
  pub rest : List (List ℕ)
  pub cut : Lines text (front ++ rest)
  pub faultless : Faultless room [] front said
  pub fault : FirstFault (faults_at room said rest) k
  pub faulty : k ≢ 0
  pub line : i ≡ suc (length front)

-- 39 by itself: every line is without fault, a p line is among them, and its M differs from the number of e lines (document 02, C-11: "39 compares
-- lines, not edges"); i is the line count plus 1
pub record Miscounted (room : ℕ) (text : List ℕ) (i : ℕ) : Type 0 where
  pub lines : List (List ℕ)
  pub said : List Line
  pub cut : Lines text lines
  pub faultless : Faultless room [] lines said
  pub vertices : ℕ
  pub stated : ℕ
  pub passed : Memᴰ (problem vertices stated) said
  pub differs : stated ≢ edges said
  pub line : i ≡ suc (length lines)

-- "The table is unchanged if no p line passed, else its first N × N bytes, with that line's N, are 0."
pub record Cleared (said : List Line) (before after : List ℕ) : Type 0 where
  pub unchanged : ((n : ℕ) → Passed said n → ⊥) → after ≡ before
  pub zeroed : (n : ℕ) → Passed said n → after ≡ replicate (n * n) 0 ++ drop (n * n) before

-- ---- the reply

-- "Accepted: number 0, N, M, line 0; the first N × N bytes hold the table, the rest is untouched."
pub record Accepts (text slice : List ℕ) (reply : TextReply) : Type 0 where
  pub table : List ℕ
  pub graph : EdgeText (length slice) text reply.vertices reply.stated table
  pub number : reply.refused ≡ 0
  pub line : reply.line ≡ 0
  pub left : reply.slice ≡ table ++ drop (reply.vertices * reply.vertices) slice

-- "N and M are then 0."
pub record Refuses (text slice : List ℕ) (reply : TextReply) : Type 0 where
  pub said : List Line
  pub first : FirstFaultyLine (length slice) text reply.refused reply.line said
  pub no_vertices : reply.vertices ≡ 0
  pub no_edges : reply.stated ≡ 0
  pub left : Cleared said slice reply.slice

-- the reply that document 01 asks for
abbrev pub Outcome : List ℕ → List ℕ → TextReply → Type 0
Outcome text slice reply = Accepts text slice reply ⊎ Refuses text slice reply
