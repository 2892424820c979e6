-- Bytes that a printer puts into its buffer. Assumes nothing.
use Rattle.std.specs.Prelude.{ℕ, ◌+◌, ◌≤◌, ◌≡◌, List, [], ◌∷◌, ◌++◌, length, take, drop}
use Rattle.model.specs.Program.{numeral}
use Rattle.theory.specs.Printed.{printed_from}
use Rattle.print.specs.declared.Printer.{Printer}
use Rattle.print.specs.declared.ToCome.{ToCome}

-- there is room for so many more bytes
abbrev pub Room : Printer → ℕ → Type 0
Room p k = p.at + k ≤ length p.bytes.now

-- The buffer holds `out` from the place on where the next byte went before, and the next byte goes after it. All other bytes are as before, and the buffer is
-- the same.
pub record Puts (before : Printer) (out : List ℕ) (after : Printer) : Type 0 where
  pub same_reference : after.bytes.ghost_name ≡ before.bytes.ghost_name
  pub place : after.at ≡ before.at + length out
  pub within : after.at ≤ length before.bytes.now
  pub bytes : after.bytes.now ≡ take before.at before.bytes.now ++ (out ++ drop after.at before.bytes.now)

-- what is printed of output entries where so much of the record at hand is to come
abbrev pub printed_after : ToCome → List ℕ → List ℕ
printed_after t es = printed_from t.edge_entries t.vertices es

-- what is printed of an entry, with so much to come, is put, and what is printed of the entries after it follows
pub record EntryPut (before : Printer) (to_come : ToCome) (entry : ℕ) (after : Printer) (to_come₁ : ToCome) : Type 0 where
  pub out : List ℕ
  pub puts : Puts before out after
  pub goes : (es : List ℕ) → printed_after to_come (entry ∷ es) ≡ out ++ printed_after to_come₁ es
  pub short : length out ≤ 6

-- a word, two numbers parted by one space, and byte 10
abbrev pub line : List ℕ → ℕ → ℕ → List ℕ
line word a b = word ++ numeral a ++ (32 ∷ numeral b) ++ (10 ∷ [])
