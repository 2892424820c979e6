-- `number::leading` meets its contract, by the first byte. Assumes nothing.
use Prim.Native.Nat.{ℕ, ◌<◌}
use mathlib.Core.Path.{◌≡◌, sym, ap, ◌∙◌}
use mathlib.Core.List.{List}
use mathlib.Core.Logic.{⊎_elim}
use mathlib.Core.Option.{Option, some}
use native.Mathlib.Nat.{eq-or-lt_of_le}
use native.Mathlib.Omega.{arith}
use lib.ListN.{length, get_or, take}
use lib.Seq.{length-take-le, get_or-take}
use Rattle.number.specs.declared.Lead.{Lead}
use Rattle.number.specs.Field.{DigitsLead, NumberStarts}
use Rattle.number.proofs.Numbers.{number_empty, number-long, number_spoilt, number_leading, number-zero, number_digits, digit-below, digit-above}
use Rattle.number.proofs.leading.Goals as goal

-- 0 itself
zero-starts : (s : List ℕ) → 0 < length s → get_or s 0 0 ≡ 48 → NumberStarts s (record { value = 0; count = 1 })
zero-starts s h e = record {
  within = h;
  number = number-zero (take 1 s) (length-take-le 1 s h) (get_or-take 1 s 0 0 (omega arith) ∙ e);
  small = omega arith;
  whole = λ q. number_leading s (λ l. omega arith) e;
}

-- digits, of which the first is not 0
digits-start : (s : List ℕ) (r : Lead) → DigitsLead s r → (get_or s 0 0 ≡ 48 → ⊥) → NumberStarts s r
digits-start s r d h =
    let size = length-take-le r.count s d.within in
    record {
      within = d.within;
      number =
          ap {B = Option ℕ} some (sym d.value)
          ∙ number_digits (take r.count s) (omega (arith, d.some)) (omega (arith, d.six)) (λ e. h (sym (get_or-take r.count s 0 0 d.some) ∙ e)) d.digit;
      small = d.small;
      whole = λ q. ⊎_elim (λ e. number-long s (omega arith)) (λ l. number_spoilt s (d.last l q)) (eq-or-lt_of_le d.six);
    }

pub returns-in-48 : goal.returns-in-48
returns-in-48 c = zero-starts _ (omega arith) (omega arith)

pub returns-in-49-to-57 : goal.returns-in-49-to-57
returns-in-49-to-57 c = digits-start _ _ c.digits.ensures (λ e. absurd (omega arith))

pub returns-in_default : goal.returns-in_default
returns-in_default c = number_empty _ (omega arith)

pub returns-in_default-2 : goal.returns-in_default-2
returns-in_default-2 c = number_spoilt _ (digit-below _ 0 (omega arith) (omega arith))

pub returns-in_default-3 : goal.returns-in_default-3
returns-in_default-3 c = number_spoilt _ (digit-above _ 0 (omega arith) (omega arith))
