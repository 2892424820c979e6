-- Document 01, "Graphs worked through": K1 to K10 as one statement, and beside it what they leave open and is pinned by value too. Both are
-- proved in `Rattle.model.proofs.ByValue`.
-- Assumes nothing.
use Rattle.std.specs.Prelude.{ℕ, ◌+◌, ◌^◌, ◌≤◌, ◌≡◌, true, false, List, [], ◌∷◌, ◌++◌, length, replicate}
use Rattle.model.specs.Below.{passing}
use Rattle.model.specs.Graph.{Graph, LentGraph, by_table, row_length, by_packed}
use Rattle.model.specs.Groups.{Settings, settings, isolated_clique}
use Rattle.model.specs.Walk.{Position, fresh, lasts, full_list}
use Rattle.model.specs.Listing.{record_with, rules}
use Rattle.model.specs.Records.{RecordSays}
use Rattle.model.specs.Text.{read_text}
use Rattle.model.specs.Calls.{refuse_packed, packed_table, with_degrees, refuse_settings, refuse_page, PageReply, page_call, by_bytes, QueryReply, query}
use Rattle.model.specs.Edits.{edit_call, degrees_call}
use Rattle.model.specs.Packing.{pack_call}

-- the full list has these entries, and the walk this length
abbrev pub Gives : Graph → Settings → List ℕ → ℕ → Type 0
Gives G s es k = (full_list (rules G s) G.size ≡ es) × (lasts (rules G s) k (fresh G.size) ≡ true)

-- K2's graph
abbrev pub one : Graph
one = by_table 1 (0 ∷ [])

-- K3's graph
abbrev pub unjoined : Graph
unjoined = by_table 2 (0 ∷ 0 ∷ 0 ∷ 0 ∷ [])

-- K4's graph
abbrev pub triangle : Graph
triangle = by_table 3 (0 ∷ 1 ∷ 1 ∷ 1 ∷ 0 ∷ 1 ∷ 1 ∷ 1 ∷ 0 ∷ [])

-- the claw: 0 joined to 1, 2, 3
abbrev pub claw_table : List ℕ
claw_table =
    0 ∷ 1 ∷ 1 ∷ 1 ∷
    1 ∷ 0 ∷ 0 ∷ 0 ∷
    1 ∷ 0 ∷ 0 ∷ 0 ∷
    1 ∷ 0 ∷ 0 ∷ 0 ∷ []

-- its graph
abbrev pub claw : Graph
claw = by_table 4 claw_table

-- its degrees
abbrev pub claw_degrees : List ℕ
claw_degrees = 3 ∷ 1 ∷ 1 ∷ 1 ∷ []

-- Document 02, C-15, its packed table: a row is one number, in which vertex v has weight 2 to the power v
abbrev pub claw_packed : List ℕ
claw_packed = 14 ∷ 1 ∷ 1 ∷ 1 ∷ []

-- the packed table and the degrees, as they are lent to a call
abbrev pub claw_lent : LentGraph
claw_lent = with_degrees (packed_table 4 claw_packed) claw_degrees

-- the first two rows of a packed table of 70 vertices, in two numbers each
abbrev pub two_rows : Graph
two_rows = by_packed 70 ((2 ^ 3 + 2 ^ 40) ∷ 4 ∷ 9 ∷ 32 ∷ [])

-- the answer of a page that wrote nothing
abbrev pub wrote_nothing : ℕ → ℕ → ℕ → Position → List ℕ → PageReply
wrote_nothing stop steps wanted p out =
    record { refused = 0; stop = stop; groups = 0; used = 0; steps = steps; wanted = wanted; position = p; output = out }

-- K1 to K10, where document 02, C-14, puts two entries into each record of K2 to K9: "every notion and kind" and "every c" are variables, and so is
-- K9's output, of one entry in document 01 and here of any length under the 4 that the group wants
pub record Worked : Type 0 where
  pub K1 : (notion kind c : ℕ) → Gives (by_table 0 []) (settings notion kind c) [] 0
  pub K2 : (notion kind : ℕ) → notion ≤ 2 → kind ≤ 1 → Gives one (settings notion kind 1) (1 ∷ 0 ∷ 0 ∷ 0 ∷ []) 2
  pub K3 : (kind : ℕ) → kind ≤ 1 → Gives unjoined (settings 2 kind 1) (1 ∷ 0 ∷ 0 ∷ 0 ∷ 1 ∷ 0 ∷ 0 ∷ 1 ∷ []) 6
  pub K4 : (notion kind : ℕ) → notion ≤ 2 → kind ≤ 1 → Gives triangle (settings notion kind 1) (3 ∷ 0 ∷ 0 ∷ 0 ∷ 1 ∷ 2 ∷ []) 10
  pub K5 : Gives claw (settings 2 0 2) (1 ∷ 0 ∷ 1 ∷ 1 ∷ 1 ∷ 0 ∷ 1 ∷ 2 ∷ 1 ∷ 0 ∷ 1 ∷ 3 ∷ []) 20
  pub K6 : Gives claw (settings 2 1 2) [] 20
  pub K7 : Gives claw (settings 1 0 2) (2 ∷ 0 ∷ 2 ∷ 1 ∷ 0 ∷ 2 ∷ 0 ∷ 2 ∷ 2 ∷ 0 ∷ 2 ∷ 0 ∷ 2 ∷ 3 ∷ 0 ∷ []) 20
  pub K8-min : (kind : ℕ) → kind ≤ 1 → Gives claw (settings 0 kind 1) (2 ∷ 0 ∷ 2 ∷ 1 ∷ 0 ∷ 2 ∷ 0 ∷ 2 ∷ 2 ∷ 0 ∷ 2 ∷ 0 ∷ 2 ∷ 3 ∷ 0 ∷ []) 20
  pub K8-avg : (kind : ℕ) → kind ≤ 1 → Gives claw (settings 1 kind 1) [] 20
  pub K9-full : (out : List ℕ) (work : ℕ) → length out ≤ 3 → 32 ≤ work →
      page_call 4 claw_packed claw_degrees (settings 2 0 2) 8 (fresh 4) out work ≡ wrote_nothing 3 7 4 (1 ∷ 2 ∷ 2 ∷ 2 ∷ []) out
  pub K9-spent : (out : List ℕ) (work : ℕ) → length out ≤ 3 → 32 ≤ work →
      page_call 4 claw_packed claw_degrees (settings 2 0 2) 7 (fresh 4) out work ≡ wrote_nothing 2 7 0 (1 ∷ 2 ∷ 2 ∷ 2 ∷ []) out
  pub K10 : (notion kind c work : ℕ) → notion ≤ 2 → kind ≤ 1 → 1 ≤ c → c ≤ 1024 → 32 ≤ work →
      (refuse_page claw_lent (settings notion kind c) (1 ∷ 1 ∷ 0 ∷ 0 ∷ []) work ≡ 0)
      × (refuse_page claw_lent (settings notion kind c) (1 ∷ 1 ∷ 1 ∷ 0 ∷ []) work ≡ 23)
      × (refuse_page claw_lent (settings notion kind c) (0 ∷ 1 ∷ 0 ∷ 0 ∷ []) work ≡ 22)

-- K11's graph: triangle 0, 1, 2 with leaves 3, 4 on 1 and 5, 6 on 2
abbrev pub two_stems : Graph
two_stems =
    by_table 7
    (0 ∷ 1 ∷ 1 ∷ 0 ∷ 0 ∷ 0 ∷ 0 ∷
    1 ∷ 0 ∷ 1 ∷ 1 ∷ 1 ∷ 0 ∷ 0 ∷
    1 ∷ 1 ∷ 0 ∷ 0 ∷ 0 ∷ 1 ∷ 1 ∷
    0 ∷ 1 ∷ 0 ∷ 0 ∷ 0 ∷ 0 ∷ 0 ∷
    0 ∷ 1 ∷ 0 ∷ 0 ∷ 0 ∷ 0 ∷ 0 ∷
    0 ∷ 0 ∷ 1 ∷ 0 ∷ 0 ∷ 0 ∷ 0 ∷
    0 ∷ 0 ∷ 1 ∷ 0 ∷ 0 ∷ 0 ∷ 0 ∷ [])

-- Document 01, "One set, one text, one program", the claw's lines `p edge 4 3`, `e 1 2`, `e 1 3`, `e 1 4`, of which the last lacks its byte 10
abbrev pub claw_text : List ℕ
claw_text =
    112 ∷ 32 ∷ 101 ∷ 100 ∷ 103 ∷ 101 ∷ 32 ∷ 52 ∷ 32 ∷ 51 ∷ 10 ∷
    101 ∷ 32 ∷ 49 ∷ 32 ∷ 50 ∷ 10 ∷
    101 ∷ 32 ∷ 49 ∷ 32 ∷ 51 ∷ 10 ∷
    101 ∷ 32 ∷ 49 ∷ 32 ∷ 52 ∷ []

-- Document 02, C-11: a text that begins with the line `p edge 3 M`, M below 10
abbrev pub on_three : ℕ → List ℕ → List ℕ
on_three m rest = 112 ∷ 32 ∷ 101 ∷ 100 ∷ 103 ∷ 101 ∷ 32 ∷ 51 ∷ 32 ∷ (48 + m) ∷ 10 ∷ rest

-- the line `e U V`, U and V below 10, before other lines
abbrev pub e_text : ℕ → ℕ → List ℕ → List ℕ
e_text u v rest = 101 ∷ 32 ∷ (48 + u) ∷ 32 ∷ (48 + v) ∷ 10 ∷ rest

-- three vertices, of which the first two are joined
abbrev pub one_edge : List ℕ
one_edge =
    0 ∷ 1 ∷ 0 ∷
    1 ∷ 0 ∷ 0 ∷
    0 ∷ 0 ∷ 0 ∷ []

-- a page call on the claw, max, kind 0, c 2, with a work slice of exactly 8 × 4 entries
abbrev pub on_claw : ℕ → Position → List ℕ → PageReply
on_claw budget p out = page_call 4 claw_packed claw_degrees (settings 2 0 2) budget p out 32

-- a set query on it
abbrev pub ask_claw : List ℕ → QueryReply
ask_claw set = query 4 claw_packed claw_degrees (settings 2 0 2) set 32

-- What K1 to K10 leave open, with any contents x of lent memory.
pub record Pinned (x : ℕ) : Type 0 where
  -- Document 02, C-14: "A group takes size + 3 entries, at Full and in the wanted count too": with an output of length 4 K9's group fits exactly
  pub room :
      on_claw 8 (fresh 4) (x ∷ x ∷ x ∷ x ∷ [])
      ≡ record { refused = 0; stop = 2; groups = 1; used = 4; steps = 8; wanted = 0; position = 2 ∷ 0 ∷ 0 ∷ 0 ∷ []; output = 1 ∷ 0 ∷ 1 ∷ 1 ∷ [] }
  -- the whole of K5 in one page: each group goes right after the entries already used, and the entry past them keeps its contents
  pub whole :
      on_claw 4294967295 (fresh 4) (replicate 13 x)
      ≡ record {
        refused = 0;
        stop = 1;
        groups = 3;
        used = 12;
        steps = 20;
        wanted = 0;
        position = 2 ∷ 2 ∷ 2 ∷ 2 ∷ [];
        output = 1 ∷ 0 ∷ 1 ∷ 1 ∷ 1 ∷ 0 ∷ 1 ∷ 2 ∷ 1 ∷ 0 ∷ 1 ∷ 3 ∷ x ∷ [];
      }
  -- "Budget 0: Spent from fresh, Finished when finished"
  pub budget-fresh : on_claw 0 (fresh 4) [] ≡ wrote_nothing 2 0 0 (fresh 4) []
  pub budget-finished : on_claw 0 (2 ∷ 2 ∷ 2 ∷ 2 ∷ []) [] ≡ wrote_nothing 1 0 0 (2 ∷ 2 ∷ 2 ∷ 2 ∷ []) []
  -- a refused page call has 0 in all other numbers and leaves position and output as they were
  pub refused :
      on_claw 8 (1 ∷ 1 ∷ 1 ∷ 0 ∷ []) (x ∷ [])
      ≡ record { refused = 23; stop = 0; groups = 0; used = 0; steps = 0; wanted = 0; position = 1 ∷ 1 ∷ 1 ∷ 0 ∷ []; output = x ∷ [] }
  -- "lowest number first": a notion over 2, a work slice under 8 × n and a dead position at once, and without the first of these
  pub lowest :
      (refuse_page claw_lent (settings 3 0 2) (1 ∷ 1 ∷ 1 ∷ 0 ∷ []) 31 ≡ 6)
      × (refuse_page claw_lent (settings 2 0 2) (1 ∷ 1 ∷ 1 ∷ 0 ∷ []) 31 ≡ 10)
  -- "c 1,024 passes, 1,025 is 8"
  pub factor : (refuse_settings (settings 2 0 1024) ≡ 0) × (refuse_settings (settings 2 0 1025) ≡ 8)
  -- K11, max, kind 0, c 3: {0} is not maximal, since the triangle is isolated, though {0, 1} isn't isolated
  pub K11 : full_list (rules two_stems (settings 2 0 3)) 7 ≡ (1 ∷ 0 ∷ 1 ∷ 3 ∷ 1 ∷ 0 ∷ 1 ∷ 4 ∷ 1 ∷ 0 ∷ 1 ∷ 5 ∷ 1 ∷ 0 ∷ 1 ∷ 6 ∷ 3 ∷ 0 ∷ 4 ∷ 0 ∷ 1 ∷ 2 ∷ [])
  pub K11-pair : isolated_clique two_stems 2 3 (by_bytes (1 ∷ 1 ∷ [])) ≡ false
  -- Document 02, C-14: "outgoing edges div 65,536, the rest", on both sides of 65,536, and where neither part is 0
  pub halves :
      (record_with 65535 (x ∷ []) ≡ 1 ∷ 0 ∷ 65535 ∷ x ∷ [])
      × (record_with 65536 (x ∷ []) ≡ 1 ∷ 1 ∷ 0 ∷ x ∷ [])
      × (record_with 261632 (x ∷ []) ≡ 1 ∷ 3 ∷ 65024 ∷ x ∷ [])
  -- the record of a leaf says what it should of that leaf, and with the halves exchanged, the centre in its place or another vertex it does not
  pub says_leaf : RecordSays claw (by_bytes (0 ∷ 1 ∷ 0 ∷ 0 ∷ [])) (1 ∷ 0 ∷ 1 ∷ 1 ∷ [])
  pub says-no-other :
      (RecordSays claw (by_bytes (0 ∷ 1 ∷ 0 ∷ 0 ∷ [])) (1 ∷ 1 ∷ 0 ∷ 1 ∷ []) → ⊥)
      × (RecordSays claw (by_bytes (0 ∷ 1 ∷ 0 ∷ 0 ∷ [])) (1 ∷ 0 ∷ 3 ∷ 0 ∷ []) → ⊥)
      × (RecordSays claw (by_bytes (0 ∷ 1 ∷ 0 ∷ 0 ∷ [])) (1 ∷ 0 ∷ 1 ∷ 2 ∷ []) → ⊥)
  -- a set query says yes to a leaf of the claw, and no to its centre and to the empty set
  pub asked_leaf : ask_claw (0 ∷ 1 ∷ 0 ∷ 0 ∷ []) ≡ record { refused = 0; yes = true }
  pub asked_centre : ask_claw (1 ∷ 0 ∷ 0 ∷ 0 ∷ []) ≡ record { refused = 0; yes = false }
  pub asked_empty : ask_claw (0 ∷ 0 ∷ 0 ∷ 0 ∷ []) ≡ record { refused = 0; yes = false }
  -- the claw's text is read into the first 16 bytes and the 17th is untouched, with a final byte 10 or without
  pub text : read_text claw_text (replicate 16 x ++ x ∷ []) ≡ record { refused = 0; vertices = 4; stated = 3; line = 0; slice = claw_table ++ x ∷ [] }
  pub text-ended :
      read_text (claw_text ++ 10 ∷ []) (replicate 16 x ++ x ∷ []) ≡ record { refused = 0; vertices = 4; stated = 3; line = 0; slice = claw_table ++ x ∷ [] }
  -- a second p line is 34 however malformed, and the table's first 16 bytes are then 0
  pub text-refused :
      read_text (claw_text ++ 10 ∷ 112 ∷ 32 ∷ []) (replicate 16 x ++ x ∷ [])
      ≡ record { refused = 34; vertices = 0; stated = 0; line = 5; slice = replicate 16 0 ++ x ∷ [] }
  -- Document 02, C-11: "A repeated pair now counts once in the table", in either direction, and "M is still the count of e lines"
  pub both_directions :
      read_text (on_three 2 (e_text 1 2 (e_text 2 1 []))) (replicate 9 x) ≡ record { refused = 0; vertices = 3; stated = 2; line = 0; slice = one_edge }
  pub three_times :
      read_text (on_three 3 (e_text 1 2 (e_text 2 1 (e_text 1 2 [])))) (replicate 9 x) ≡ record { refused = 0; vertices = 3; stated = 3; line = 0; slice = one_edge }
  -- "39 compares lines, not edges": `p edge 3 1`, `e 1 2`, `e 2 1`
  pub edges-stated :
      read_text (on_three 1 (e_text 1 2 (e_text 2 1 []))) (replicate 9 x)
      ≡ record { refused = 39; vertices = 0; stated = 0; line = 4; slice = replicate 9 0 }
  -- and a vertex with itself stays 37
  pub loop :
      read_text (on_three 1 (e_text 1 1 [])) (replicate 9 x) ≡ record { refused = 37; vertices = 0; stated = 0; line = 2; slice = replicate 9 0 }
  -- Document 02, C-12: 42 comes right after 5, before 6, where a degree is one off, and where the list is one entry too short or too long
  pub degrees-refused :
      (refuse_page (with_degrees (packed_table 4 claw_packed) (3 ∷ 1 ∷ 1 ∷ 2 ∷ [])) (settings 3 0 2) (fresh 4) 32 ≡ 42)
      × (refuse_page (with_degrees (packed_table 4 claw_packed) (3 ∷ 1 ∷ 1 ∷ [])) (settings 3 0 2) (fresh 4) 32 ≡ 42)
      × (refuse_page (with_degrees (packed_table 4 claw_packed) (3 ∷ 1 ∷ 1 ∷ 1 ∷ 0 ∷ [])) (settings 3 0 2) (fresh 4) 32 ≡ 42)
  -- "the pair is then joined, or parted, its two degrees follow": leaves 1 and 2 of the claw are joined, and leaf 3 is parted from the centre
  pub joined :
      edit_call true 4 claw_packed claw_degrees 1 2
      ≡ record {
        refused = 0;
        unchanged = false;
        table = 14 ∷ 5 ∷ 3 ∷ 1 ∷ [];
        degrees = 3 ∷ 2 ∷ 2 ∷ 1 ∷ [];
      }
  pub parted :
      edit_call false 4 claw_packed claw_degrees 3 0
      ≡ record {
        refused = 0;
        unchanged = false;
        table = 6 ∷ 1 ∷ 1 ∷ 0 ∷ [];
        degrees = 2 ∷ 1 ∷ 1 ∷ 0 ∷ [];
      }
  -- "Joining a joined pair, or parting a parted one, changes nothing, and only then the answer says so"
  pub joined_already : edit_call true 4 claw_packed claw_degrees 0 3 ≡ record { refused = 0; unchanged = true; table = claw_packed; degrees = claw_degrees }
  pub parted_already : edit_call false 4 claw_packed claw_degrees 1 3 ≡ record { refused = 0; unchanged = true; table = claw_packed; degrees = claw_degrees }
  -- "43 (edit, after 42) a vertex not below n; 44 (edit, after 43) both ends equal"
  pub edit_refused :
      (edit_call true 4 claw_packed (3 ∷ 1 ∷ 1 ∷ 2 ∷ []) 4 4 ≡ record { refused = 42; unchanged = false; table = claw_packed; degrees = 3 ∷ 1 ∷ 1 ∷ 2 ∷ [] })
      × (edit_call true 4 claw_packed claw_degrees 4 4 ≡ record { refused = 43; unchanged = false; table = claw_packed; degrees = claw_degrees })
      × (edit_call false 4 claw_packed claw_degrees 2 2 ≡ record { refused = 44; unchanged = false; table = claw_packed; degrees = claw_degrees })
  -- the degrees of the claw are listed whatever the list held, and a list that is not n long is 42
  pub listed : degrees_call 4 claw_packed (x ∷ x ∷ x ∷ x ∷ []) ≡ record { refused = 0; degrees = claw_degrees }
  pub listed-refused : degrees_call 4 claw_packed (x ∷ x ∷ x ∷ x ∷ x ∷ []) ≡ record { refused = 42; degrees = x ∷ x ∷ x ∷ x ∷ x ∷ [] }
  -- Document 02, C-15: "ceil(n / 64) numbers"
  pub row_lengths : (row_length 0 ≡ 0) × (row_length 64 ≡ 1) × (row_length 65 ≡ 2)
  -- "vertex v at bit v mod 64 (weight 2 to that power) of number v div 64": of 70 vertices, whose rows have two numbers, 0 is joined to 3, 40 and 66, and 1
  -- to 0, 3 and 69
  pub packed_row :
      (passing 70 (two_rows.joined 0) ≡ (3 ∷ 40 ∷ 66 ∷ []))
      × (passing 70 (two_rows.joined 1) ≡ (0 ∷ 3 ∷ 69 ∷ []))
  -- a bit at or past n is 45, right after 2 and before 4, in rows of one number and of two
  pub stray_bits :
      (refuse_packed 4 (14 ∷ 1 ∷ 1 ∷ []) ≡ 2)
      × (refuse_packed 4 (15 ∷ 1 ∷ 1 ∷ 17 ∷ []) ≡ 45)
      × (refuse_packed 4 (15 ∷ 1 ∷ 1 ∷ 1 ∷ []) ≡ 4)
      × (refuse_packed 4 (14 ∷ 1 ∷ 1 ∷ 0 ∷ []) ≡ 5)
      × (refuse_packed 65 (replicate 129 0 ++ 3 ∷ []) ≡ 45)
      × (refuse_packed 65 (replicate 129 0 ++ 1 ∷ []) ≡ 4)
  -- the claw is packed whatever the slice held, and a slice that is not n × ceil(n / 64) long is 2 and is left so
  pub packed : pack_call 4 claw_table (x ∷ x ∷ x ∷ x ∷ []) ≡ record { refused = 0; packed = claw_packed }
  pub packed-refused : pack_call 4 claw_table (x ∷ x ∷ x ∷ x ∷ x ∷ []) ≡ record { refused = 2; packed = x ∷ x ∷ x ∷ x ∷ x ∷ [] }
