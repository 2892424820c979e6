-- A list of faults: the number of the first that holds is determined, and it is 0 exactly where no fault holds.
-- Assumes nothing.
use Prim.Native.Nat.{ℕ, zero, suc, ◌<◌}
use mathlib.Core.Path.{◌≡◌, refl, sym, ap, ◌∙◌, subst⁻¹}
use mathlib.Core.Bool.{Bool, true, false, ◌||◌, false≢true}
use mathlib.Core.Logic.{◌↔◌, ◌≢◌, ◌⊎◌, inl, inr}
use mathlib.Core.List.{List, [], ◌∷◌, ◌++◌}
use native.Mathlib.Omega.{arith}
use native.Mathlib.Nat.{not-suc-le-zero}
use lib.ListN.{length, get_or}
use lib.Dec.{eqb}
use borrow.Author.Tests.{eq-eqb}
use Rattle.model.specs.Fault.{Fault, numbered, NonZero, FirstFault, NoFault}
use Rattle.model.specs.Calls.{refuse, or_else, over}
use Rattle.theory.proofs.Basics.Tests.{Test, test_map, test_or, test_lt, or_second}
use Rattle.theory.proofs.Basics.Refusals.{else_none, else_found}

-- the number is determined by what the faults say
pub first-once : (fs : List Fault) (j k : ℕ) → FirstFault fs j → FirstFault fs k → j ≡ k
unfolding FirstFault
first-once [] j k a b = a ∙ sym b
first-once (f ∷ fs) j k (inl a) (inl b) = a.1 ∙ sym b.1
first-once (f ∷ fs) j k (inl a) (inr b) = absurd (b.0 a.0)
first-once (f ∷ fs) j k (inr a) (inl b) = absurd (a.0 b.0)
first-once (f ∷ fs) j k (inr a) (inr b) = first-once fs j k a.1 b.1

-- where no fault holds it is 0
pub none_first : (fs : List Fault) (k : ℕ) → NoFault fs → FirstFault fs k → k ≡ 0
unfolding FirstFault
none_first [] k n a = a
none_first (f ∷ fs) k n (inl a) = absurd (n.0 a.0)
none_first (f ∷ fs) k n (inr a) = none_first fs k n.1 a.1

-- and it is 0 only there, since every fault has a number
pub first-none : (fs : List Fault) (k : ℕ) → NonZero fs → FirstFault fs k → (k ≡ 0) ↔ NoFault fs
unfolding FirstFault
first-none fs k r a = (λ z. there fs k r a z, λ n. none_first fs k n a)
  where
    there : (fs : List Fault) (k : ℕ) → NonZero fs → FirstFault fs k → k ≡ 0 → NoFault fs
    there [] k r a z = tt
    there (f ∷ fs) k r (inl a) z = absurd (r.0 (sym a.1 ∙ z))
    there (f ∷ fs) k r (inr a) z = (a.0, there fs k r.1 a.1 z)

-- whether some fault of the list has this number
abbrev pub has_number : ℕ → List Fault → Bool
has_number k [] = false
has_number k (f ∷ fs) = eqb k f.number || has_number k fs

-- a number other than 0 that no fault has is never the first
pub never_first : (fs : List Fault) (k : ℕ) → k ≢ 0 → has_number k fs ≡ false → FirstFault fs k → ⊥
unfolding FirstFault
never_first [] k h e a = h a
never_first (f ∷ fs) k h e (inl a) = false≢true (sym e ∙ ap (λ (b : Bool). b || has_number k fs) (eq-eqb k f.number a.1))
never_first (f ∷ fs) k h e (inr a) = never_first fs k h (or_second (eqb k f.number) (has_number k fs) e) a.1

-- two lists of faults, one after the other: the later ones count where none of the earlier holds
pub first_else : (fs gs : List Fault) (j k : ℕ) → NonZero fs → FirstFault fs j → (NoFault fs → FirstFault gs k) → FirstFault (fs ++ gs) (or_else j k)
unfolding FirstFault
first_else [] gs j k r a f = subst⁻¹ (FirstFault gs) (else_none a k) (f tt)
first_else (g ∷ fs) gs j k r (inl a) f = inl (a.0, else_found (λ z. r.0 (sym a.1 ∙ z)) k ∙ a.1)
first_else (g ∷ fs) gs j k r (inr a) f = inr (a.0, first_else fs gs j k r.1 a.1 (λ n. f (a.0, n)))

-- the numbers of both
pub numbers_both : (fs gs : List Fault) → NonZero fs → NonZero gs → NonZero (fs ++ gs)
numbers_both [] gs a b = b
numbers_both (f ∷ fs) gs a b = (a.0, numbers_both fs gs a.1 b)

-- no fault holds, shown by one refutation after another
abbrev Refuted : List Fault → Type 0 → Type 0
Refuted [] R = R
Refuted (f ∷ fs) R = (f.holds → ⊥) → Refuted fs R

refuted : (fs : List Fault) (R : Type 0) → (NoFault fs → R) → Refuted fs R
refuted [] R k = k tt
refuted (f ∷ fs) R k = λ h. refuted fs R (λ r. k (h, r))

-- a refutation of each fault, one after another, shows that none holds
pub none_of : (fs : List Fault) → Refuted fs (NoFault fs)
none_of fs = refuted fs (NoFault fs) (λ r. r)

-- ---- tests

-- a refusal by a test, and then what the later tests find where its fault does not hold
pub refuse-first : (k : ℕ) (b : Bool) {P : Type 0} (fs : List Fault) (later : ℕ) → Test b P → ((P → ⊥) → FirstFault fs later)
    → FirstFault (numbered k P ∷ fs) (refuse k b later)
unfolding refuse FirstFault
refuse-first k true fs later t f = inl (t.0 refl, refl)
refuse-first k false fs later t f = inr (λ h. false≢true (t.1 h), f (λ h. false≢true (t.1 h)))

-- where all tests are passed no fault is found
pub none_found : FirstFault [] 0
unfolding FirstFault
none_found = refl

-- some byte is over m: 3, 11 and 21
pub over_test : (m : ℕ) (bs : List ℕ) → Test (over m bs) ((i : ℕ) × (i < length bs) × (m < get_or bs i 0))
unfolding over
over_test m [] = (λ e. absurd (false≢true e), λ r. absurd (not-suc-le-zero r.1))
over_test m (b ∷ bs) = test_map (test_or (test_lt m b) (over_test m bs)) there back
  where
    there : (m < b) ⊎ ((i : ℕ) × (i < length bs) × (m < get_or bs i 0)) → (i : ℕ) × (i < suc (length bs)) × (m < get_or (b ∷ bs) i 0)
    there (inl h) = (0, omega arith, h)
    there (inr r) = let l = r.1 in (suc r.0, omega arith, r.2)

    at : (i : ℕ) → i < suc (length bs) → m < get_or (b ∷ bs) i 0 → (m < b) ⊎ ((i : ℕ) × (i < length bs) × (m < get_or bs i 0))
    at zero l h = inl h
    at (suc i) l h = inr (i, omega arith, h)

    back : (i : ℕ) × (i < suc (length bs)) × (m < get_or (b ∷ bs) i 0) → (m < b) ⊎ ((i : ℕ) × (i < length bs) × (m < get_or bs i 0))
    back r = at r.0 r.1 r.2
