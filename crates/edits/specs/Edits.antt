-- What the two edits and the call that lists the degrees promise: their answers, and what they leave in lent memory, are those of `edit_call` and
-- `degrees_call`.
-- Assumes nothing.
use Rattle.std.specs.Prelude.{ℕ, ◌≤◌, ◌<◌, ◌≡◌, Bool, false, List, length, get_or, Result, Ok, Err}
use Rattle.model.specs.Below.{bit}
use Rattle.model.specs.Edits.{edit_call, degrees_call}
use Rattle.refusal.specs.declared.Refusal.{Refusal}
use Rattle.refusal.specs.Numbers.{number}
use Rattle.edits.specs.declared.EditAnswer.{EditAnswer}

-- the answer of an edit that is accepted, and tells whether the pair was so already, or refused
abbrev pub answer_of : Result Bool Refusal → EditAnswer
answer_of (Ok so) = record { refusal = 0; unchanged = bit so }
answer_of (Err r) = record { refusal = number r; unchanged = 0 }

-- the whole contract of an edit, which joins where b says so: table and list before and after, and the answer
pub record EditReplies (b : Bool) (n : ℕ) (t d : List ℕ) (u v : ℕ) (r : EditAnswer) (t₁ d₁ : List ℕ) : Type 0 where
  pub refusal : r.refusal ≡ (edit_call b n t d u v).refused
  pub unchanged : r.unchanged ≡ bit (edit_call b n t d u v).unchanged
  pub table : t₁ ≡ (edit_call b n t d u v).table
  pub degrees : d₁ ≡ (edit_call b n t d u v).degrees

-- the whole contract of the call that lists the degrees: the list before and after, and the refusal number
pub record ListReplies (n : ℕ) (t d : List ℕ) (r : ℕ) (d₁ : List ℕ) : Type 0 where
  pub refusal : r ≡ (degrees_call n t d).refused
  pub degrees : d₁ ≡ (degrees_call n t d).degrees

-- the degree of w can be one more, and one less where the pair is to be parted
pub record CanMove (b : Bool) (w : ℕ) (d : List ℕ) : Type 0 where
  pub listed : w < length d
  pub small : get_or d w 0 ≤ 1024
  pub some : b ≡ false → 1 ≤ get_or d w 0
