-- `number::digits` meets its contract: the bytes so far are digits. Assumes nothing.
use Prim.Native.Nat.{ℕ, zero, suc, ◌*◌, ◌+◌, ◌≤◌, ◌<◌}
use mathlib.Core.Path.{◌≡◌, refl, sym, ap₂, ◌∙◌}
use mathlib.Core.Bool.{true, false}
use mathlib.Core.List.{List}
use native.Mathlib.Omega.{arith}
use lib.ListN.{length, get_or}
use lib.Dec.{ltb}
use borrow.Author.Tests.{ltb-true, ltb-false}
use Rattle.std.proofs.lemmas.List.{get_or_default}
use Rattle.model.specs.Text.{digits, decimal}
use Rattle.number.specs.Field.{FirstDigit, DigitsLead}
use Rattle.number.proofs.Numbers.{digit-below, digit-above, spoilt_from, digit-more, value-more, power_more, power_six}
use Rattle.number.proofs.digits.Goals as goal
use Rattle.number.proofs.digits.Invariants.{Counted}

-- no further one is counted
stopped : (bytes : List ℕ) (i v : ℕ) → Counted bytes i v → 0 < i → i ≤ 6 → (i < 6 → i < length bytes → digits bytes ≡ false)
    → DigitsLead bytes (record { value = v; count = i })
stopped bytes i v h some six last =
    record { some = some; six = six; within = h.within; digit = h.digit; value = h.value; small = power_six i v six h.small; last = last }

-- a byte that is no digit is not the first
not_first : {bytes : List ℕ} → FirstDigit bytes → (i : ℕ) → (get_or bytes i 0 < 48 → 0 < i) × (57 < get_or bytes i 0 → 0 < i)
not_first h zero = (λ k. absurd (omega (arith, h.from)), λ k. absurd (omega (arith, h.to)))
not_first h (suc i) = (λ k. omega arith, λ k. omega arith)

-- the byte that was read stands at i
read_byte : (bytes : List ℕ) (i : ℕ) {x : ℕ} → true ≡ ltb i (length bytes) → x ≡ get_or bytes i x → x ≡ get_or bytes i 0
read_byte bytes i {x} there e = e ∙ get_or_default bytes i x 0 (ltb-true i (length bytes) (sym there))

pub loop-i-init : goal.loop-i-init
unfolding digits decimal
loop-i-init c = record { within = omega arith; small = omega arith; digit = refl; value = refl }

pub returns-in_default : goal.returns-in_default
returns-in_default c =
    let i = c.loop-i.i in
    let none = ltb-false i (length c.args.bytes.now) (sym c.in_default.ensures.lookup.0) in
    stopped _ _ _ c.loop-i.invariant (omega (arith, c.requires.some)) (omega arith) (λ h k. absurd (omega arith))

pub returns-in_default-byte : goal.returns-in_default-byte
returns-in_default-byte c =
    let f = c.args.bytes.now in
    let i = c.loop-i.i in
    let same : c.in-Some.field-0.now ≡ get_or f i 0 = read_byte f i c.in-Some.ensures.lookup.0 c.in-Some.ensures.lookup.1 in
    let low : get_or f i 0 < 48 = omega arith in
    stopped _ _ _ c.loop-i.invariant ((not_first c.requires i).0 low) (omega arith) (λ h k. spoilt_from _ i (digit-below _ i k low))

pub returns-in_default-byte-2 : goal.returns-in_default-byte-2
returns-in_default-byte-2 c =
    let f = c.args.bytes.now in
    let i = c.loop-i.i in
    let same : c.in-Some.field-0.now ≡ get_or f i 0 = read_byte f i c.in-Some.ensures.lookup.0 c.in-Some.ensures.lookup.1 in
    let high : 57 < get_or f i 0 = omega arith in
    stopped _ _ _ c.loop-i.invariant ((not_first c.requires i).1 high) (omega arith) (λ h k. spoilt_from _ i (digit-above _ i k high))

pub loop-i-preserved : goal.loop-i-preserved
loop-i-preserved c =
    let f = c.args.bytes.now in
    let i = c.loop-i.i in
    let l = c.loop-i.invariant in
    let h : i < length f = ltb-true i (length f) (sym c.in-Some.ensures.lookup.0) in
    let same : c.in-Some.field-0.now ≡ get_or f i 0 = read_byte f i c.in-Some.ensures.lookup.0 c.in-Some.ensures.lookup.1 in
    record {
      within = omega arith;
      small = power_more i c.loop-i.value c.from.result l.small (omega arith);
      digit = digit-more f i h (omega arith) (omega arith) ∙ l.digit;
      value = value-more f i h ∙ ap₂ (λ (v x : ℕ). v * 10 + x) l.value (rw same at (sym c.from.ensures));
    }

pub returns : goal.returns
returns c =
    let e : c.loop-i.i ≡ 6 = omega arith in
    stopped _ _ _ (rw e at c.loop-i.invariant) (omega arith) (omega arith) (λ h k. absurd (omega arith))
