-- Document 01, "One set, one text, one program": what the program prints, as a function of its words and of the text it reads.
-- Assumes nothing.
use Rattle.std.specs.Prelude.{ℕ, zero, suc, ◌+◌, ◌*◌, ◌/◌, ◌%◌, min, ◌≡◌, true, cond, List, [], ◌∷◌, ◌++◌, length, take, replicate, ltb}
use Rattle.std.proofs.Math.Option.{Option, none, some}
use Rattle.model.specs.Graph.{Graph, by_table}
use Rattle.model.specs.Groups.{Settings, settings}
use Rattle.model.specs.Walk.{Position, fresh, lasts, full_sets}
use Rattle.model.specs.Listing.{taken_list, rules}
use Rattle.model.specs.Calls.{refuse_settings}
use Rattle.model.specs.Text.{number_of, TextReply, read_text}

-- ---- words

-- what the words say: a refusal, by its number, or the settings
pub data Words : Type 0 where
  wrong : ℕ → Words
  chosen : Settings → Words

-- by the refusal number of the settings: 6, 7, 8, or 0 where they pass
unfoldable pub bounded : ℕ → Settings → Words
bounded zero s = chosen s
bounded (suc k) s = wrong (suc k)

-- three numbers; the form of all three comes before any bound
unfoldable pub three : Option ℕ → Option ℕ → Option ℕ → Words
three none b c = wrong 32
three (some a) none c = wrong 32
three (some a) (some b) none = wrong 32
three (some a) (some b) (some c) =
    let s = settings a b c in
    bounded (refuse_settings s) s

-- notion, kind and c: 32 their count and the form of a number, then 6, 7, 8
unfoldable pub settings_of_words : List (List ℕ) → Words
settings_of_words [] = wrong 32
settings_of_words (a ∷ []) = wrong 32
settings_of_words (a ∷ b ∷ []) = wrong 32
settings_of_words (a ∷ b ∷ c ∷ []) = three (number_of a) (number_of b) (number_of c)
settings_of_words (a ∷ b ∷ c ∷ d ∷ ds) = wrong 32

-- ---- printed bytes

-- the decimal digits of k, within so many digits
unfoldable pub digits_within : ℕ → ℕ → List ℕ
digits_within zero k = []
digits_within (suc most) k =
    let long = digits_within most (k / 10) ++ ((48 + k % 10) ∷ []) in
    cond (ltb k 10) ((48 + k) ∷ []) long

-- the decimal digits of k, which has no more than k + 1 of them
unfoldable pub numeral : ℕ → List ℕ
numeral k = digits_within (suc k) k

-- a group's line: vertices plus 1, parted by one space, and byte 10
unfoldable pub group_line : List ℕ → List ℕ
group_line [] = 10 ∷ []
group_line (v ∷ []) = numeral (suc v) ++ (10 ∷ [])
group_line (v ∷ w ∷ vs) = numeral (suc v) ++ (32 ∷ group_line (w ∷ vs))

-- the lines of groups, one by one
unfoldable pub group_lines : Graph → List Position → List ℕ
group_lines G [] = []
group_lines G (p ∷ ps) = group_line (taken_list G p) ++ group_lines G ps

-- a total, which stays at 4,294,967,295 once it would pass it
abbrev pub held : ℕ → ℕ
held total = min total 4294967295

-- `end GROUPS STEPS`
unfoldable pub end_line : ℕ → ℕ → List ℕ
end_line groups steps = (101 ∷ 110 ∷ 100 ∷ 32 ∷ []) ++ numeral groups ++ (32 ∷ numeral steps) ++ (10 ∷ [])

-- `refused NUMBER LINE`
unfoldable pub refused_line : ℕ → ℕ → List ℕ
refused_line number line =
    (114 ∷ 101 ∷ 102 ∷ 117 ∷ 115 ∷ 101 ∷ 100 ∷ 32 ∷ []) ++ numeral number ++ (32 ∷ numeral line) ++ (10 ∷ [])

-- ---- the program

-- refused with a number and a line, or what is to be listed: the settings, and the size and table of the graph
pub data Verdict : Type 0 where
  refusal : ℕ → ℕ → Verdict
  listing : Settings → ℕ → List ℕ → Verdict

-- the text as it is read into a table of 65,536 bytes
unfoldable pub reading : List ℕ → TextReply
reading text = read_text text (replicate 65536 0)

-- by the reader's refusal number: the graph of the first N × N bytes, or its refusal and line
unfoldable pub by_reading : ℕ → Settings → TextReply → Verdict
by_reading zero s r = listing s r.vertices (take (r.vertices * r.vertices) r.slice)
by_reading (suc k) s r = refusal (suc k) r.line

-- words first, then 41 text too long, then the text; the line is 0 outside the text
unfoldable pub by_words : Words → List ℕ → Verdict
by_words (wrong k) text = refusal k 0
by_words (chosen s) text =
    let read = by_reading (reading text).refused s (reading text) in
    cond (ltb 65536 (length text)) (refusal 41 0) read

-- what the program does with these words and this text
unfoldable pub program_verdict : List (List ℕ) → List ℕ → Verdict
program_verdict words text = by_words (settings_of_words words) text

-- a refusal prints only its line; else each group of the full list is a line, and the last line has the number of groups and the walk's length
unfoldable pub PrintsAt : Verdict → List ℕ → Type 0
PrintsAt (refusal k line) out = out ≡ refused_line k line
PrintsAt (listing s n t) out =
    let R = rules (by_table n t) s in
    (steps : ℕ) × (lasts R steps (fresh n) ≡ true) × (out ≡ group_lines (by_table n t) (full_sets R n) ++ end_line (held (length (full_sets R n))) (held steps))

-- the program, given these words and this text on standard input, prints these bytes
abbrev pub Prints : List (List ℕ) → List ℕ → List ℕ → Type 0
Prints words text out = PrintsAt (program_verdict words text) out
