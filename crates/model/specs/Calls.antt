-- Document 01's calls as functions of their arguments: the refusal number, the answer and what the lent memory then holds.
-- Assumes nothing.
use Rattle.std.specs.Prelude.{ℕ, zero, suc, ◌+◌, ◌*◌, ◌-◌, ◌^◌, min, Bool, true, false, ◌||◌, not, List, [], ◌∷◌, ◌++◌, length, get_or, drop, set, ltb, eqb}
use Rattle.std.specs.Bool.{beq}
use Rattle.model.specs.Below.{any, least}
use Rattle.model.specs.Graph.{Graph, LentGraph, by_table, row_length, by_packed, degree}
use Rattle.model.specs.Groups.{Settings, VertexSet, qualifies}
use Rattle.model.specs.Walk.{Position, Rules, Page, only, page}
use Rattle.model.specs.Listing.{is, rules}

-- refusal k where the test finds a fault, and otherwise what the later tests find; 0 is acceptance
unfoldable pub refuse : ℕ → Bool → ℕ → ℕ
refuse k true later = k
refuse k false later = later

-- some byte of the list is over m
unfoldable pub over : ℕ → List ℕ → Bool
over m [] = false
over m (b ∷ bs) = let rest = over m bs in ltb m b || rest

-- some vertex is joined to itself
unfoldable pub looped : Graph → Bool
looped G = any G.size (λ u. G.joined u u)

-- some u is joined to a v that is not joined to u
unfoldable pub one_way : Graph → Bool
one_way G = any G.size (λ u. any G.size (λ v. not (beq (G.joined u v) (G.joined v u))))

-- "checked in this order": what the earlier tests find, and where they find no fault what the later ones find
unfoldable pub or_else : ℕ → ℕ → ℕ
or_else zero later = later
or_else (suc k) later = suc k

-- Document 01, "Turned back by the input": 4 a 1 on the diagonal; 5 not symmetric
unfoldable pub refuse_graph : Graph → ℕ
refuse_graph G = refuse 4 (looped G) (refuse 5 (one_way G) 0)

-- Document 01, "Turned back by the input": 3 a table byte other than 0 or 1; then 4 and 5
unfoldable pub refuse_bytes : ℕ → List ℕ → ℕ
refuse_bytes n t = refuse 3 (over 1 t) (refuse_graph (by_table n t))

-- Document 01, "Turned back by the input": 1 n over 1,024; 2 table length not n × n; then 3 to 5
unfoldable pub refuse_table : ℕ → List ℕ → ℕ
refuse_table n t = refuse 1 (ltb 1024 n) (refuse 2 (not (eqb (length t) (n * n))) (refuse_bytes n t))

-- a graph as it is lent in a table of n × n bytes
abbrev pub byte_table : ℕ → List ℕ → LentGraph
byte_table n t = record { fault = refuse_table n t; graph = by_table n t }

-- how many bits number j of a row of n bits has for vertices: 64, and the last number those that are left
abbrev pub bits_of : ℕ → ℕ → ℕ
bits_of n j = min 64 (n - 64 * j)

-- Document 02, C-15, "a bit at or past n in a row": some number of a row has a bit that is no vertex's
unfoldable pub stray : ℕ → List ℕ → Bool
stray n t = any n (λ u. any (row_length n) (λ j. not (ltb (get_or t (u * row_length n + j) 0) (2 ^ bits_of n j))))

-- Document 02, C-15: "On packed tables refusals 2, 4 and 5 read that form and 3 can't occur. Turned away: 45 (in the place of 3) a bit at or past n in a row."
unfoldable pub refuse_packed : ℕ → List ℕ → ℕ
refuse_packed n t =
    refuse 1 (ltb 1024 n) (refuse 2 (not (eqb (length t) (n * row_length n))) (refuse 45 (stray n t) (refuse_graph (by_packed n t))))

-- Document 02, C-15: a graph as it is lent in a packed table
abbrev pub packed_table : ℕ → List ℕ → LentGraph
packed_table n t = record { fault = refuse_packed n t; graph = by_packed n t }

-- Document 02, C-12: "42 (right after 5) a degree not its row's ones, or the list not n long"
unfoldable pub refuse_degrees : Graph → List ℕ → ℕ
refuse_degrees G d = refuse 42 (not (eqb (length d) G.size) || any G.size (λ v. not (eqb (get_or d v 0) (degree G v)))) 0

-- Document 02, C-12: a graph that is lent with the list of its degrees beside it
abbrev pub with_degrees : LentGraph → List ℕ → LentGraph
with_degrees L d = record { fault = or_else L.fault (refuse_degrees L.graph d); graph = L.graph }

-- Document 01, "Turned back by the input": 6 notion over 2; 7 kind over 1; 8 c is 0 or over 1,024
unfoldable pub refuse_settings : Settings → ℕ
refuse_settings s =
    refuse 6 (ltb 2 s.notion)
    (refuse 7 (ltb 1 s.kind)
    (refuse 8 (eqb s.factor 0 || ltb 1024 s.factor) 0))

-- Document 01, "Turned back by the input": 9 position or set length not n; 10 work slice under 8 × n. `bytes` is the length of the position or
-- set, and `work` that of the work slice
unfoldable pub refuse_lengths : ℕ → ℕ → ℕ → ℕ
refuse_lengths n bytes work = refuse 9 (not (eqb bytes n)) (refuse 10 (ltb work (8 * n)) 0)

-- Document 01, "Turned back by the input", of page and set query alike: the faults of what holds the graph, of the settings and of the lengths
unfoldable pub refuse_input : LentGraph → Settings → ℕ → ℕ → ℕ
refuse_input L s bytes work = or_else L.fault (or_else (refuse_settings s) (refuse_lengths L.graph.size bytes work))

-- a decided rank after an open one
unfoldable pub gap : Position → Bool
gap [] = false
gap (zero ∷ p) = not (only 0 p)
gap (suc x ∷ p) = gap p

-- the position with its last decided rank opened; fresh stays
unfoldable pub reopened : Position → Position
reopened p = set p (least (length p) (is 0 p) - 1) 0

-- Document 01, "Turned back by the state": 21 a position byte over 2; 22 a decided rank after an open one; 23 the position with its last
-- decided rank opened is dead (fresh passes)
unfoldable pub refuse_position : Rules → Position → ℕ
refuse_position R p = refuse 21 (over 2 p) (refuse 22 (gap p) (refuse 23 (R.dead (reopened p)) 0))

-- the refusal number of a page call: "after the above" the position's
unfoldable pub refuse_page : LentGraph → Settings → Position → ℕ → ℕ
refuse_page L s p work = or_else (refuse_input L s (length p) work) (refuse_position (rules L.graph s) p)

-- what a page call brings beside the position; `work` is the length of the work slice
pub record Call : Type 0 where
  pub lent : LentGraph
  pub settings : Settings
  pub budget : ℕ
  pub output : List ℕ
  pub work : ℕ

-- Document 01, "A page": a page call's answer, and the position and the output slice as it leaves them
pub record PageReply : Type 0 where
  pub refused : ℕ
  pub stop : ℕ
  pub groups : ℕ
  pub used : ℕ
  pub steps : ℕ
  pub wanted : ℕ
  pub position : Position
  pub output : List ℕ

-- by the refusal number. Accepted: the written entries come first in the output, and the rest of it keeps its contents. Refused: all other
-- numbers are 0, and lent memory is unchanged
unfoldable pub reply_of : ℕ → Page → Position → List ℕ → PageReply
reply_of zero r p out =
    record {
      refused = 0;
      stop = r.stop;
      groups = r.groups;
      used = length r.written;
      steps = r.steps;
      wanted = r.wanted;
      position = r.reached;
      output = r.written ++ drop (length r.written) out;
    }
reply_of (suc k) r p out =
    record { refused = suc k; stop = 0; groups = 0; used = 0; steps = 0; wanted = 0; position = p; output = out }

-- the reply to a page call that is handed the position p
unfoldable pub reply_to : Call → Position → PageReply
reply_to c p =
    reply_of (refuse_page c.lent c.settings p c.work) (page (rules c.lent.graph c.settings) c.budget (length c.output) p)
    p c.output

-- Document 02, C-15, the page call on a packed table, by the graph's size, table and degree list, the settings, the budget, the position, the output slice and the
-- work slice's length
abbrev pub page_call : ℕ → List ℕ → List ℕ → Settings → ℕ → Position → List ℕ → ℕ → PageReply
page_call n t d s budget p out work =
    reply_to (record { lent = with_degrees (packed_table n t) d; settings = s; budget = budget; output = out; work = work }) p

-- Document 01, "One set, one text, one program": the set is n bytes, 1 for a member
abbrev pub by_bytes : List ℕ → VertexSet
by_bytes bs = is 1 bs

-- the refusal number of a set query; 11 (set query only) a set byte over 1
unfoldable pub refuse_query : LentGraph → Settings → List ℕ → ℕ → ℕ
refuse_query L s bs work = or_else (refuse_input L s (length bs) work) (refuse 11 (over 1 bs) 0)

-- a set query's answer; it leaves table, degree list and set as they are, and the work slice too where it is refused
pub record QueryReply : Type 0 where
  pub refused : ℕ
  pub yes : Bool

-- by the refusal number: accepted, what the test says; refused, no
unfoldable pub query_reply : ℕ → Bool → QueryReply
query_reply zero q = record { refused = 0; yes = q }
query_reply (suc k) q = record { refused = suc k; yes = false }

-- the set query on what is lent, by the settings, the set's bytes and the work slice's length
unfoldable pub answer_to : LentGraph → Settings → List ℕ → ℕ → QueryReply
answer_to L s bs work = query_reply (refuse_query L s bs work) (qualifies L.graph s (by_bytes bs))

-- Document 02, C-15, the set query on a packed table, by the graph's size, table and degree list, the settings, the set's bytes and the work slice's length
abbrev pub query : ℕ → List ℕ → List ℕ → Settings → List ℕ → ℕ → QueryReply
query n t d s bs work = answer_to (with_degrees (packed_table n t) d) s bs work
