-- Document 01, "Turned back by the input" and "Turned back by the state", as propositions about a call's arguments.
-- `Rattle.theory.proofs.Calls.Faults` shows that the page call and the set query answer with the first of these faults.
-- Assumes nothing.
use Rattle.std.specs.Prelude.{ℕ, ◌+◌, ◌*◌, ◌<◌, ◌≤◌, ◌≡◌, false, ◌≢◌, ◌⊎◌, List, [], ◌∷◌, ◌++◌, length, get_or, set}
use Rattle.std.specs.Int.{bit_at}
pub use Rattle.model.specs.Fault.{Fault}
unfoldable pub use Rattle.model.specs.Fault.{numbered, NonZero, FirstFault, NoFault}
use Rattle.model.specs.Graph.{Graph, LentGraph, row_length, pair_bit, degree}
use Rattle.model.specs.Groups.{Factor, Settings}
use Rattle.model.specs.Meaning.{Under, Simple}
use Rattle.model.specs.Walk.{Position}
use Rattle.model.specs.Listing.{adjacent, left_neighbours}
use Rattle.model.specs.Calls.{PageReply, QueryReply}

-- the numbers of faults in the order in which they are tested
abbrev pub numbers_of : List Fault → List ℕ
numbers_of [] = []
numbers_of (f ∷ fs) = f.number ∷ numbers_of fs

-- ---- the table, the degree list, the settings and the lengths

-- 3 a table byte other than 0 or 1; 4 a 1 on the diagonal; 5 not symmetric
abbrev pub byte_faults : ℕ → List ℕ → List Fault
byte_faults n t =
    numbered 3 ((i : ℕ) × (i < length t) × (get_or t i 0 ≢ 0) × (get_or t i 0 ≢ 1))
    ∷ numbered 4 ((u : ℕ) × (u < n) × (get_or t (u * n + u) 0 ≡ 1))
    ∷ numbered 5 ((u : ℕ) × (v : ℕ) × (u < n) × (v < n) × (get_or t (u * n + v) 0 ≢ get_or t (v * n + u) 0))
    ∷ []

-- 1 n over 1,024; 2 table length not n × n; then 3 to 5
abbrev pub table_faults : ℕ → List ℕ → List Fault
table_faults n t = numbered 1 (1024 < n) ∷ numbered 2 (length t ≢ n * n) ∷ byte_faults n t

-- bit k of number j in a row of n bits is no vertex's: it is at or past n in the row, or past the 64 bits of a number
abbrev pub NoVertex : ℕ → ℕ → ℕ → Type 0
NoVertex n j k = (n ≤ 64 * j + k) ⊎ (64 ≤ k)

-- Document 02, C-15, a packed table: 1 n over 1,024; 2 table length not n × ceil(n / 64); 45 (in the place of 3) a bit at or past n in a row; 4 a 1 on
-- the diagonal; 5 not symmetric
abbrev pub packed_faults : ℕ → List ℕ → List Fault
packed_faults n t =
    numbered 1 (1024 < n)
    ∷ numbered 2 (length t ≢ n * row_length n)
    ∷ numbered 45
    ((u : ℕ) × (j : ℕ) × (k : ℕ) × (u < n) × (j < row_length n) × NoVertex n j k × (bit_at (get_or t (u * row_length n + j) 0) k ≡ 1))
    ∷ numbered 4 ((u : ℕ) × (u < n) × (pair_bit n t u u ≡ 1))
    ∷ numbered 5 ((u : ℕ) × (v : ℕ) × (u < n) × (v < n) × (pair_bit n t u v ≢ pair_bit n t v u))
    ∷ []

-- Document 02, C-12: 42 a degree not its row's ones, or the list not n long
abbrev pub degrees_faults : Graph → List ℕ → List Fault
degrees_faults G d = numbered 42 ((length d ≢ G.size) ⊎ ((v : ℕ) × (v < G.size) × (get_or d v 0 ≢ degree G v))) ∷ []

-- 6 notion over 2; 7 kind over 1; 8 c is 0 or over 1,024
abbrev pub settings_faults : Settings → List Fault
settings_faults s =
    numbered 6 (2 < s.notion)
    ∷ numbered 7 (1 < s.kind)
    ∷ numbered 8 ((s.factor ≡ 0) ⊎ (1024 < s.factor))
    ∷ []

-- 9 position or set length not n; 10 work slice under 8 × n
abbrev pub length_faults : ℕ → ℕ → ℕ → List Fault
length_faults n bytes work = numbered 9 (bytes ≢ n) ∷ numbered 10 (work < 8 * n) ∷ []

-- ---- the position

-- two different taken ranks are not adjacent
pub record Apart (G : Graph) (p : Position) : Type 0 where
  pub one : ℕ
  pub other : ℕ
  pub one-taken : get_or p one 0 ≡ 1
  pub other-taken : get_or p other 0 ≡ 1
  pub different : one ≢ other
  pub not-adjacent : adjacent G one other ≡ false

-- something is taken, and at least c neighbours of the pivot, the lowest taken rank, are left
pub record Lost (G : Graph) (c : Factor) (p : Position) : Type 0 where
  pub pivot : ℕ
  pub taken : get_or p pivot 0 ≡ 1
  pub lowest : (r : ℕ) → r < pivot → get_or p r 0 ≢ 1
  pub at_least : Under c 1 (left_neighbours G p pivot) → ⊥

-- document 01, "The walk": a dead position
abbrev pub Dead : Graph → Factor → Position → Type 0
Dead G c p = Apart G p ⊎ Lost G c p

-- the position with its last decided rank opened is dead; fresh, which has no decided rank, passes
pub record Reopened (G : Graph) (c : Factor) (p : Position) : Type 0 where
  pub last : ℕ
  pub decided : get_or p last 0 ≢ 0
  pub then_open : (r : ℕ) → last < r → get_or p r 0 ≡ 0
  pub dead : Dead G c (set p last 0)

-- 21 a position byte over 2; 22 a decided rank after an open one; 23 the position with its last decided rank opened is dead (fresh passes)
abbrev pub position_faults : Graph → Factor → Position → List Fault
position_faults G c p =
    numbered 21 ((r : ℕ) × (r < length p) × (2 < get_or p r 0))
    ∷ numbered 22 ((i : ℕ) × (r : ℕ) × (i < r) × (r < length p) × (get_or p i 0 ≡ 0) × (get_or p r 0 ≢ 0))
    ∷ numbered 23 (Reopened G c p)
    ∷ []

-- ---- the calls, on a graph that is lent with these faults

-- what every form in which a graph is lent has to show: its fault number is that of the first of its faults, and without a fault its graph is one
-- of document 01's
pub record Lends (faults : List Fault) (L : LentGraph) : Type 0 where
  pub numbers : NonZero faults
  pub first : FirstFault faults L.fault
  pub simple : L.fault ≡ 0 → Simple L.graph

-- the page call: the faults of what is lent, 1, 2, 45, 4, 5 and 42 for a packed table and a degree list; 6 to 10, then 21 to 23
abbrev pub page_faults : List Fault → Graph → Settings → Position → ℕ → List Fault
page_faults faults G s p work = faults ++ (settings_faults s ++ length_faults G.size (length p) work ++ position_faults G s.factor p)

-- the set query: the same up to 10, then 11 a set byte over 1
abbrev pub query_faults : List Fault → Graph → Settings → List ℕ → ℕ → List Fault
query_faults faults G s bs work =
    faults ++ (settings_faults s ++ length_faults G.size (length bs) work ++ (numbered 11 ((i : ℕ) × (i < length bs) × (1 < get_or bs i 0)) ∷ []))

-- a refused page call: all other numbers in the answer are 0, and lent memory is unchanged
abbrev pub turned_back : ℕ → Position → List ℕ → PageReply
turned_back k p out = record { refused = k; stop = 0; groups = 0; used = 0; steps = 0; wanted = 0; position = p; output = out }

-- a refused set query: no
abbrev pub said_no : ℕ → QueryReply
said_no k = record { refused = k; yes = false }
