-- The transposition of a block of 64 × 64 bits by six rounds, each of which exchanges halves of the rows and columns.
-- Assumes nothing.
use Prim.Native.Nat.{ℕ, ◌+◌, ◌-◌, ◌*◌, ◌/◌, ◌%◌, ◌^◌, ◌≤◌, ◌<◌}
use mathlib.Core.Path.{◌≡◌, refl, sym, ap, ap₂, ◌∙◌, subst}
use mathlib.Core.Bool.{Bool, true, ◌&&◌}
use mathlib.Core.Logic.{◌↔◌, ◌⊎◌, inl, inr, ⊎_elim}
use mathlib.Core.List.{List}
use native.Mathlib.Nat.{add-mul-div_right, div-eq_of_lt}
use native.Mathlib.Omega.{arith}
use lib.Dec.{eqb, ltb}
use lib.Pow.{pow_pos}
use Rattle.std.specs.Prelude.{bit_and, bit_xor}
use Rattle.std.specs.Int.{bit_at}
use Rattle.std.proofs.lemmas.Nat.{shr-shr, shr_split}
use Rattle.std.proofs.lemmas.Nat.Bits.{bit_at-zero, bit_at_and, bit_at_xor, bit_at-lt, bit_at_cat_low, bit_at_cat_high, and_pow}
use Rattle.model.specs.Below.{all, implies}
use Rattle.theory.proofs.Basics.Tests.{Test, test_and, test_all, test_eq, test_lt, test_implies, lt_or_ge}
use Rattle.graph.specs.Blocks.{cell, Halves, Exchanged, Swapped}

-- ---- bits of a number that is shifted

-- a number of 64 bits keeps the bits below 64
bit_at-kept : (m i : ℕ) → i < 64 → bit_at (m % 2 ^ 64) i ≡ bit_at m i
bit_at-kept m i h = sym (bit_at_cat_low (m / 2 ^ 64) 64 (m % 2 ^ 64) i h) ∙ ap (λ y. bit_at y i) (shr_split m 64)

-- shifted down by s, bit c is what bit c + s was,
bit_at_down : (m s c : ℕ) → bit_at (m / 2 ^ s) c ≡ bit_at m (c + s)
bit_at_down m s c = let e : s + c ≡ c + s = omega arith in ap (λ y. y % 2) (shr-shr m s c) ∙ ap (bit_at m) e

-- shifted up by s, bit c + s is what bit c was,
bit_at_up : (m s c : ℕ) → c + s < 64 → bit_at (m * 2 ^ s % 2 ^ 64) (c + s) ≡ bit_at m c
bit_at_up m s c h =
    let e : m * 2 ^ s ≡ m * 2 ^ s + 0 = omega arith in
    let f : c + s - s ≡ c = omega arith in
    bit_at-kept (m * 2 ^ s) (c + s) h ∙ ap (λ y. bit_at y (c + s)) e ∙ bit_at_cat_high m s 0 (c + s) (pow_pos s) (omega arith) ∙ ap (bit_at m) f

-- and the s lowest bits are 0
bit_at_up_low : (m s c : ℕ) → c < s → c < 64 → bit_at (m * 2 ^ s % 2 ^ 64) c ≡ 0
bit_at_up_low m s c l h =
    let e : m * 2 ^ s ≡ m * 2 ^ s + 0 = omega arith in
    bit_at-kept (m * 2 ^ s) c h ∙ ap (λ y. bit_at y c) e ∙ bit_at_cat_low m s 0 c l ∙ bit_at-zero c

-- ---- halves of s

-- s further on is the next half
next_half : (s c : ℕ) → 1 ≤ s → (c + s) / s ≡ c / s + 1
next_half s c h = let e : c + s ≡ c + 1 * s = omega arith in ap (λ x. x / s) e ∙ add-mul-div_right c 1 h

-- which is a second one after a first
pub second_half : {s mask : ℕ} → Halves s mask → (c : ℕ) → c / s % 2 ≡ 0 → (c + s) / s % 2 ≡ 1
second_half {s} h c e = omega (arith, next_half s c h.some)

-- what is in a second half is s past what is in a first
first_half : (s r : ℕ) → 1 ≤ s → r / s % 2 ≡ 1 → (u : ℕ) × (u / s % 2 ≡ 0) × (r ≡ u + s)
first_half s r h e = (r - s, omega (arith, e, next, ap (λ x. x / s) back), back)
  where
    far : s ≤ r
    far = ⊎_elim (λ l. absurd (omega (arith, e, div-eq_of_lt l))) (λ g. g) (lt_or_ge r s)

    back : r ≡ r - s + s
    back = omega (arith, far)

    next : (r - s + s) / s ≡ (r - s) / s + 1
    next = next_half s (r - s) h

-- code tests a bit of the place for it
pub half_tested : {s mask : ℕ} → Halves s mask → (r : ℕ) → (bit_and r s ≡ 0) ↔ (r / s % 2 ≡ 0)
half_tested {s} h r = (there (lt_or_ge (r / s % 2) 1), λ e. h.tested r ∙ ap (λ x. x * s) e ∙ omega arith)
  where
    there : (r / s % 2 < 1) ⊎ (1 ≤ r / s % 2) → bit_and r s ≡ 0 → r / s % 2 ≡ 0
    there (inl l) z = omega arith
    there (inr g) z =
        let e : r / s % 2 ≡ 1 = omega arith in
        absurd (omega (arith, z, h.tested r, ap (λ x. x * s) e, h.some))

-- ---- two rows exchange halves

module _ {s mask : ℕ} (h : Halves s mask) (a b : ℕ) where
  -- the bits by which the two halves differ, in the places of the first
  abbrev differing : ℕ
  differing = bit_and (bit_xor (a / 2 ^ s) b) mask

  -- in a first half one of them is 1 where the two halves differ,
  differing_first : (c : ℕ) → c < 64 → c / s % 2 ≡ 0 → bit_at differing c ≡ (bit_at a (c + s) + bit_at b c) % 2
  differing_first c l e =
      omega (arith, bit_at_and (bit_xor (a / 2 ^ s) b) mask c, bit_at_xor (a / 2 ^ s) b c, bit_at_down a s c, h.masked c l)

  -- and in a second half none is
  differing_second : (c : ℕ) → c < 64 → c / s % 2 ≡ 1 → bit_at differing c ≡ 0
  differing_second c l e = omega (arith, bit_at_and (bit_xor (a / 2 ^ s) b) mask c, h.masked c l)

  -- shifted up they have none in a first half,
  raised_first : (c : ℕ) → c < 64 → c / s % 2 ≡ 0 → bit_at (differing * 2 ^ s % 2 ^ 64) c ≡ 0
  raised_first c l e = ⊎_elim (λ k. bit_at_up_low differing s c k l) past (lt_or_ge c s)
    where
      past : s ≤ c → bit_at (differing * 2 ^ s % 2 ^ 64) c ≡ 0
      past g =
          let back : c ≡ c - s + s = omega arith in
          let odd : (c - s) / s % 2 ≡ 1 = omega (arith, e, next_half s (c - s) h.some, ap (λ x. x / s) back) in
          ap (bit_at (differing * 2 ^ s % 2 ^ 64)) back ∙ bit_at_up differing s (c - s) (omega arith) ∙ differing_second (c - s) (omega arith) odd

  -- and in a second half those by which the two halves differ
  raised_second : (c : ℕ) → c < 64 → c / s % 2 ≡ 0 → bit_at (differing * 2 ^ s % 2 ^ 64) (c + s) ≡ (bit_at a (c + s) + bit_at b c) % 2
  raised_second c l e = bit_at_up differing s c (h.within c l e) ∙ differing_first c l e

  -- so the exclusive or with them exchanges the halves
  pub exchanged_halves : Exchanged s a b (bit_xor a (differing * 2 ^ s % 2 ^ 64)) (bit_xor b differing)
  exchanged_halves = record {
    upper_kept = λ c l e. omega (arith, bit_at_xor a (differing * 2 ^ s % 2 ^ 64) c, raised_first c l e, bit_at-lt a c);
    upper_taken = λ c l e.
        omega (arith, bit_at_xor a (differing * 2 ^ s % 2 ^ 64) (c + s), raised_second c l e, bit_at-lt a (c + s), bit_at-lt b c);
    lower_taken = λ c l e. omega (arith, bit_at_xor b differing c, differing_first c l e, bit_at-lt a (c + s), bit_at-lt b c);
    lower_kept = λ c l e. omega (arith, bit_at_xor b differing (c + s), differing_second (c + s) (h.within c l e) (second_half h c e), bit_at-lt b (c + s));
  }

-- ---- a round

-- r with its half of s as that of c
abbrev moved : ℕ → ℕ → ℕ → ℕ
moved s r c = r - r / s % 2 * s + c / s % 2 * s

-- the place that a round with s takes the bit of a place from: row and column exchange their halves
abbrev turned : ℕ → ℕ × ℕ → ℕ × ℕ
turned s p = (moved s p.0 p.1, moved s p.1 p.0)

-- a place of the block
abbrev Place : ℕ × ℕ → Type 0
Place p = (p.0 < 64) × (p.1 < 64)

-- where the halves are known
moved_by : (s r c x y : ℕ) → r / s % 2 ≡ x → c / s % 2 ≡ y → moved s r c ≡ r - x * s + y * s
moved_by s r c x y e f = ap₂ (λ i k. r - i * s + k * s) e f

-- what a round has done at a place
record Round (s : ℕ) (old new : List ℕ) (r c : ℕ) : Type 0 where
  pub within : Place (turned s (r, c))
  pub bit_from : cell new r c ≡ cell old (moved s r c) (moved s c r)

-- where the halves of the row and the column are known, and the place that the bit comes from
round_by : {s : ℕ} {old new : List ℕ} {r c : ℕ} (x y i k : ℕ) → r / s % 2 ≡ x → c / s % 2 ≡ y → r - x * s + y * s ≡ i → c - y * s + x * s ≡ k
    → i < 64 → k < 64 → cell new r c ≡ cell old i k → Round s old new r c
round_by {s} {old} {new} {r} {c} x y i k ex ey ei ek hi hk e =
    let row : moved s r c ≡ i = moved_by s r c x y ex ey ∙ ei in
    let column : moved s c r ≡ k = moved_by s c r y x ey ex ∙ ek in
    record { within = rw (row, column) (hi, hk); bit_from = rw (row, column) e }

module _ {s mask : ℕ} (h : Halves s mask) {old new : List ℕ} (w : Swapped s old new) where
  module _ (u v : ℕ) (hu : u < 64) (hv : v < 64) (eu : u / s % 2 ≡ 0) (ev : v / s % 2 ≡ 0) where
    -- both in a first half,
    round_first : Round s old new u v
    round_first = round_by 0 0 u v eu ev (omega arith) (omega arith) hu hv ((w.rows u hu eu).upper_kept v hv ev)

    -- the column in a second half,
    round_right : Round s old new u (v + s)
    round_right =
        round_by 0 1 (u + s) v eu (second_half h v ev) (omega arith) (omega arith) (h.within u hu eu) hv
        ((w.rows u hu eu).upper_taken v hv ev)

    -- the row in a second half,
    round_lower : Round s old new (u + s) v
    round_lower =
        round_by 1 0 u (v + s) (second_half h u eu) ev (omega arith) (omega arith) hu (h.within v hv ev)
        ((w.rows u hu eu).lower_taken v hv ev)

    -- and both in a second half
    round_second : Round s old new (u + s) (v + s)
    round_second =
        round_by 1 1 (u + s) (v + s) (second_half h u eu) (second_half h v ev) (omega arith) (omega arith) (h.within u hu eu)
        (h.within v hv ev) ((w.rows u hu eu).lower_kept v hv ev)

  -- so a round takes each bit from the place of which row and column have exchanged their halves
  round_at : (r c : ℕ) → r < 64 → c < 64 → Round s old new r c
  round_at r c hr hc = go (half r) (half c)
    where
      half : (r : ℕ) → (r / s % 2 ≡ 0) ⊎ (r / s % 2 ≡ 1)
      half r = ⊎_elim (λ l. inl (omega arith)) (λ g. inr (omega arith)) (lt_or_ge (r / s % 2) 1)

      go : (r / s % 2 ≡ 0) ⊎ (r / s % 2 ≡ 1) → (c / s % 2 ≡ 0) ⊎ (c / s % 2 ≡ 1) → Round s old new r c
      go (inl e) (inl f) = round_first r c hr hc e f
      go (inl e) (inr f) =
          let k = first_half s c h.some f in
          subst (Round s old new r) (sym k.2) (round_right r k.0 hr (omega (arith, k.2)) e k.1)
      go (inr e) (inl f) =
          let i = first_half s r h.some e in
          subst (λ x. Round s old new x c) (sym i.2) (round_lower i.0 c (omega (arith, i.2)) hc i.1 f)
      go (inr e) (inr f) =
          let i = first_half s r h.some e in
          let k = first_half s c h.some f in
          subst (λ x. Round s old new x c) (sym i.2)
          (subst (Round s old new (i.0 + s)) (sym k.2) (round_second i.0 k.0 (omega (arith, i.2)) (omega (arith, k.2)) i.1 k.1))

-- ---- all six rounds

-- the place that the bit of a place comes from in all six rounds, the last of which has halves of 1
abbrev six : ℕ → ℕ → ℕ × ℕ
six r c = turned 32 (turned 16 (turned 8 (turned 4 (turned 2 (turned 1 (r, c))))))

-- is the one with row and column exchanged, as a trial of all shows
six_tried : all 64 (λ r. all 64 (λ c. eqb (six r c).0 c && eqb (six r c).1 r)) ≡ true
unfolding all
six_tried = refl

-- for each row and column
six_place : (r c : ℕ) → r < 64 → c < 64 → ((six r c).0 ≡ c) × ((six r c).1 ≡ r)
six_place r c hr hc =
    (test_all 64 _ (λ r. test_all 64 _ (λ c. test_and (test_eq (six r c).0 c) (test_eq (six r c).1 r)))).0 six_tried r hr c hc

-- a mask tried at each column, and the pairs at each row
abbrev tried : ℕ → ℕ → Bool
tried s mask = all 64 (λ c. eqb (bit_at mask c) (1 - c / s % 2) && implies (eqb (c / s % 2) 0) (ltb (c + s) 64))

-- what the trial says
tried_test : (s mask : ℕ) → Test (tried s mask) ((c : ℕ) → c < 64 → (bit_at mask c ≡ 1 - c / s % 2) × (c / s % 2 ≡ 0 → c + s < 64))
tried_test s mask = test_all 64 _ (λ c. test_and (test_eq (bit_at mask c) (1 - c / s % 2)) (test_implies (test_eq (c / s % 2) 0) (test_lt (c + s) 64)))

-- so halves and a mask that pass it are such
halves_by : (s mask : ℕ) → 1 ≤ s → s ≤ 32 → ((r : ℕ) → bit_and r s ≡ r / s % 2 * s) → tried s mask ≡ true → Halves s mask
halves_by s mask some few tested e =
    let t = (tried_test s mask).0 e in
    record { some = some; few = few; tested = tested; within = λ r l. (t r l).1; masked = λ c l. (t c l).0 }

-- and the six do
pub halves_32 : Halves 32 4294967295
unfolding all
halves_32 = halves_by 32 4294967295 (omega arith) (omega arith) (λ r. and_pow r 5) refl

pub halves_16 : Halves 16 281470681808895
unfolding all
halves_16 = halves_by 16 281470681808895 (omega arith) (omega arith) (λ r. and_pow r 4) refl

pub halves_8 : Halves 8 71777214294589695
unfolding all
halves_8 = halves_by 8 71777214294589695 (omega arith) (omega arith) (λ r. and_pow r 3) refl

pub halves_4 : Halves 4 1085102592571150095
unfolding all
halves_4 = halves_by 4 1085102592571150095 (omega arith) (omega arith) (λ r. and_pow r 2) refl

pub halves_2 : Halves 2 3689348814741910323
unfolding all
halves_2 = halves_by 2 3689348814741910323 (omega arith) (omega arith) (λ r. and_pow r 1) refl

pub halves_1 : Halves 1 6148914691236517205
unfolding all
halves_1 = halves_by 1 6148914691236517205 (omega arith) (omega arith) (λ r. and_pow r 0) refl

pub ruleset six_halves = (halves_32, halves_16, halves_8, halves_4, halves_2, halves_1)

-- so six rounds one after another transpose a block
pub six_rounds : {a b c d e f g : List ℕ} → Swapped 32 a b → Swapped 16 b c → Swapped 8 c d → Swapped 4 d e → Swapped 2 e f → Swapped 1 f g
    → (r c : ℕ) → r < 64 → c < 64 → cell g r c ≡ cell a c r
six_rounds {a} s32 s16 s8 s4 s2 s1 r c hr hc =
    let p1 = round_at halves_1 s1 r c hr hc in
    let p2 = at halves_2 s2 (turned 1 (r, c)) p1.within in
    let p4 = at halves_4 s4 (turned 2 (turned 1 (r, c))) p2.within in
    let p8 = at halves_8 s8 (turned 4 (turned 2 (turned 1 (r, c)))) p4.within in
    let p16 = at halves_16 s16 (turned 8 (turned 4 (turned 2 (turned 1 (r, c))))) p8.within in
    let p32 = at halves_32 s32 (turned 16 (turned 8 (turned 4 (turned 2 (turned 1 (r, c)))))) p16.within in
    let place = six_place r c hr hc in
    p1.bit_from ∙ p2.bit_from ∙ p4.bit_from ∙ p8.bit_from ∙ p16.bit_from ∙ p32.bit_from ∙ ap₂ (cell a) place.0 place.1
  where
    at : {s mask : ℕ} → Halves s mask → {old new : List ℕ} → Swapped s old new → (p : ℕ × ℕ) → Place p → Round s old new p.0 p.1
    at h w p l = round_at h w p.0 p.1 l.0 l.1
