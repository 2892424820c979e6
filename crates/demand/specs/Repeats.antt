-- Document 02, C-11, of the calls of `dimacs::read_text`: 38 no longer occurs, 39 compares lines, and a repeated pair counts once in the table.
-- Assumes nothing.
use Rattle.std.specs.Prelude.{ℕ, ◌*◌, ◌≤◌, ◌≡◌, ◌↔◌, ◌≢◌, List, length}
use Rattle.model.specs.EdgeText.{Miscounted}
use Rattle.model.specs.Repeats.{DifferInRepeats}
use Rattle.dimacs.specs.declared.TextAnswer.{TextAnswer}
use Rattle.dimacs.specs.Reply.{ReadsAs}
use Rattle.demand.specs.Membership.{Read}

-- "refusal 38 no longer occurs"
abbrev pub Never38 : TextAnswer → Type 0
Never38 a = a.refusal ≢ 38

-- whatever the text and the table
abbrev pub Never38Demand : Type 0
Never38Demand = (text before after : List ℕ) (a : TextAnswer) → ReadsAs text before after a → Never38 a

-- "39 compares lines, not edges": it is answered, with line i, exactly where every line is faultless, a p line is among them, M differs from the number
-- of e lines, and i is the line count plus 1
abbrev pub ComparesLines : List ℕ → List ℕ → TextAnswer → Type 0
ComparesLines text before a = (i : ℕ) → ((a.refusal ≡ 39) × (a.line ≡ i)) ↔ Miscounted (length before) text i

-- that of every call of `dimacs::read_text`
abbrev pub ComparesLinesDemand : Type 0
ComparesLinesDemand = (text before after : List ℕ) (a : TextAnswer) → ReadsAs text before after a → ComparesLines text before a

-- two calls read their texts, and one table stands in both slices
abbrev pub SameTable : List ℕ → List ℕ → TextAnswer → List ℕ → List ℕ → TextAnswer → Type 0
SameTable before after a other-before other_After b =
    (n : ℕ) × (m : ℕ) × (k : ℕ) × (t : List ℕ) × Read n m t before after a × Read n k t other-before other_After b

-- "A repeated pair now counts once in the table": of two texts that differ only in repeated e lines, each with its own right M, where one is read and
-- the other's slice can hold its table too, both are read and give the same table
abbrev pub RepeatsDemand : Type 0
RepeatsDemand =
    (text before after : List ℕ) (a : TextAnswer) → ReadsAs text before after a
    → (other other-before other_After : List ℕ) (b : TextAnswer) → ReadsAs other other-before other_After b
    → DifferInRepeats text other → a.refusal ≡ 0 → a.vertices * a.vertices ≤ length other-before
    → SameTable before after a other-before other_After b
