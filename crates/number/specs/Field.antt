-- What the readers of fields and numbers promise. Assumes nothing.
use Rattle.std.specs.Prelude.{ℕ, ◌≤◌, ◌<◌, ◌≡◌, true, false, List, [], ◌∷◌, length, get_or, take, Option, Some, None, IfSome}
use Rattle.std.proofs.Math.Option as math
use Rattle.model.specs.Text.{Step, bad, digits, decimal, number_of, fields_of, two}
use Rattle.number.specs.declared.Lead.{Lead}

-- r is the first place of byte b in s, or the end of s
pub record Found (s : List ℕ) (b r : ℕ) : Type 0 where
  pub within : r ≤ length s
  pub passed : (k : ℕ) → k < r → get_or s k 0 ≡ b → ⊥
  pub hit : r < length s → get_or s r 0 ≡ b

-- ---- what some bytes start with

-- a digit
pub record FirstDigit (s : List ℕ) : Type 0 where
  pub some : 0 < length s
  pub from : 48 ≤ get_or s 0 0
  pub to : get_or s 0 0 ≤ 57

-- 1 to 6 digits and their value; where they are fewer than 6 and bytes are left, not all bytes are digits
pub record DigitsLead (s : List ℕ) (r : Lead) : Type 0 where
  pub some : 0 < r.count
  pub six : r.count ≤ 6
  pub within : r.count ≤ length s
  pub digit : digits (take r.count s) ≡ true
  pub value : decimal 0 (take r.count s) ≡ r.value
  pub small : r.value < 1000000
  pub last : r.count < 6 → r.count < length s → digits s ≡ false

-- a number; all bytes together are one only where none is left
pub record NumberStarts (s : List ℕ) (r : Lead) : Type 0 where
  pub within : r.count ≤ length s
  pub number : math.some r.value ≡ number_of (take r.count s)
  pub small : r.value < 1000000
  pub whole : r.count < length s → math.none ≡ number_of s

-- a number or none, where all bytes together are none either
abbrev pub NumberLeads : List ℕ → Option Lead → Type 0
NumberLeads s (Some r) = NumberStarts s r
NumberLeads s None = math.none ≡ number_of s

-- a number and then byte b
pub record NumberEnds (s : List ℕ) (b : ℕ) (r : Lead) : Type 0 where
  pub within : r.count < length s
  pub byte : get_or s r.count 0 ≡ b
  pub number : math.some r.value ≡ number_of (take r.count s)

-- ---- fields

-- the number that a field was read as
abbrev pub value_of : Option ℕ → math.Option ℕ
value_of (Some m) = math.some m
value_of None = math.none

-- a field is read as the definition says, and a number has six digits at most
pub record NumberRead (wanted : math.Option ℕ) (r : Option ℕ) : Type 0 where
  pub value : value_of r ≡ wanted
  pub small : IfSome r (λ m. m < 1000000)

-- exactly two fields, each a number, or 32
unfoldable pub two_of : List (List ℕ) → (ℕ → ℕ → Step) → Step
two_of [] k = bad 32
two_of (a ∷ []) k = bad 32
two_of (a ∷ b ∷ []) k = two (number_of a) (number_of b) k
two_of (a ∷ b ∷ f ∷ fs) k = bad 32

-- what follows from two fields as they were read: 32 where they are no two numbers
abbrev pub on_pair : Option (ℕ × ℕ) → (ℕ → ℕ → Step) → Step
on_pair (Some p) k = k p.0 p.1
on_pair None k = bad 32

-- a part of a line is read as two numbers, as the definition says, each of six digits at most
pub record PairRead (part : List ℕ) (r : Option (ℕ × ℕ)) : Type 0 where
  pub goes : (k : ℕ → ℕ → Step) → on_pair r k ≡ two_of (fields_of part) k
  pub small : IfSome r (λ p. (p.0 < 1000000) × (p.1 < 1000000))
