-- What a walk has still to pass from a position: decided positions, in the order of sets. This is over positions alone, and no rules.
-- Assumes nothing.
use Prim.Native.Nat.{ℕ, zero, suc, ◌<◌}
use mathlib.Core.Path.{◌≡◌, refl, sym, ap, ap₂, ◌∙◌, subst⁻¹}
use mathlib.Core.Bool.{Bool, true, false, ◌&&◌, ◌||◌, cond, false≢true, true≢false}
use mathlib.Core.List.Memᴰ
use mathlib.Core.List.{List, [], ◌∷◌, ◌++◌, map, map-append, append_assoc, Memᴰ}
use mathlib.Core.Logic.{◌≢◌, ◌⊎◌, inl, inr, ⊎_elim}
use native.Mathlib.Nat.{not-suc-le-zero}
use native.Mathlib.Omega.{arith}
use lib.ListN.{length, get_or, drop, length-replicate}
use lib.Dec.{eqb, eqb-zero-suc}
use borrow.Author.Tests.{ne_eqb}
use Rattle.model.specs.Walk.{Position, only, has, fresh, finished, advance, retreat, all_decided}
use Rattle.theory.proofs.Basics.Tests.{Test, test_and, test_or, test_map, test_self, test_eq}

-- a position's ranks are 0, 1 or 2, and the open ones come last
abbrev pub Valid : Position → Type 0
Valid [] = Unit {0}
Valid (zero ∷ p) = only 0 p ≡ true
Valid (suc zero ∷ p) = Valid p
Valid (suc (suc zero) ∷ p) = Valid p
Valid (suc (suc (suc x)) ∷ p) = ⊥

-- a valid position of n ranks
abbrev pub Fit : ℕ → Position → Type 0
Fit n p = (length p ≡ n) × Valid p

-- the decided positions that p and its steps have still to pass
abbrev pub remaining : Position → List Position
remaining [] = [] ∷ []
remaining (zero ∷ p) = all_decided (suc (length p))
remaining (suc zero ∷ p) = map (1 ∷◌) (remaining p) ++ map (2 ∷◌) (all_decided (length p))
remaining (suc (suc x) ∷ p) = map (2 ∷◌) (remaining p)

-- the decided positions that keep what p has decided
abbrev pub completions : Position → List Position
completions [] = [] ∷ []
completions (zero ∷ p) = all_decided (suc (length p))
completions (suc zero ∷ p) = map (1 ∷◌) (completions p)
completions (suc (suc x) ∷ p) = map (2 ∷◌) (completions p)

-- ---- what stands in a position

-- x stands in a position exactly where some rank is x
pub has_test : (x : ℕ) (p : Position) → Test (has x p) ((r : ℕ) × (r < length p) × (get_or p r 0 ≡ x))
unfolding has
has_test x [] = (λ e. absurd (false≢true e), λ r. absurd (not-suc-le-zero r.1))
has_test x (y ∷ p) = test_map (test_or (test_eq x y) (has_test x p)) there (λ r. at r.0 r.1 r.2)
  where
    there : (x ≡ y) ⊎ ((r : ℕ) × (r < length p) × (get_or p r 0 ≡ x)) → (r : ℕ) × (r < suc (length p)) × (get_or (y ∷ p) r 0 ≡ x)
    there (inl e) = (0, omega arith, sym e)
    there (inr r) = let l = r.1 in (suc r.0, omega arith, r.2)

    at : (r : ℕ) → r < suc (length p) → get_or (y ∷ p) r 0 ≡ x → (x ≡ y) ⊎ ((r : ℕ) × (r < length p) × (get_or p r 0 ≡ x))
    at zero l e = inl (sym e)
    at (suc r) l e = inr (r, omega arith, e)

-- ---- open positions

-- a decided rank is not open
pub not_open : (x : ℕ) (b : Bool) → (eqb 0 (suc x) && b) ≡ true → ⊥
not_open x b e = false≢true (ap (λ (t : Bool). t && b) (sym (eqb-zero-suc x)) ∙ e)

-- a position that is all x has no rank that is another
only-lacks : (x y : ℕ) (p : Position) → x ≢ y → only x p ≡ true → has y p ≡ false
unfolding only has
only-lacks x y [] d e = refl
only-lacks x y (z ∷ p) d e =
    let both = (test_and {b = only x p} (test_eq x z) test_self).0 e in
    ap₂ (λ (a b : Bool). a || b) (ne_eqb y z (λ q. d (both.0 ∙ sym q))) (only-lacks x y p d both.1)

-- an open position has nothing taken
pub open_no_taken : (p : Position) → only 0 p ≡ true → has 1 p ≡ false
open_no_taken p = only-lacks 0 1 p (λ z. omega arith)

-- an open position is valid
pub open_valid : (p : Position) → only 0 p ≡ true → Valid p
unfolding only
open_valid [] e = tt
open_valid (zero ∷ p) e = e
open_valid (suc x ∷ p) e = absurd (not_open x (only 0 p) e)

-- fresh is open
pub fresh_open : (m : ℕ) → only 0 (fresh m) ≡ true
unfolding only
fresh_open zero = refl
fresh_open (suc m) = fresh_open m

-- fresh is valid
pub fresh_valid : (m : ℕ) → Valid (fresh m)
fresh_valid m = open_valid (fresh m) (fresh_open m)

open_remaining : (p : Position) → only 0 p ≡ true → remaining p ≡ all_decided (length p)
unfolding only all_decided
open_remaining [] e = refl
open_remaining (zero ∷ p) e = refl
open_remaining (suc x ∷ p) e = absurd (not_open x (only 0 p) e)

-- from fresh all decided positions remain
pub fresh_remaining : (m : ℕ) → remaining (fresh m) ≡ all_decided m
fresh_remaining m = open_remaining (fresh m) (fresh_open m) ∙ ap all_decided (length-replicate m 0)

-- ---- the two moves

-- in a step back a rank stays where something is taken after it
pub retreat-deep : (x : ℕ) (p : Position) → has 1 p ≡ true → retreat (x ∷ p) ≡ x ∷ retreat p
unfolding retreat
retreat-deep x p e = rw (e, retreat)

-- the highest taken rank becomes left and the ranks after it open
pub retreat_here : (p : Position) → has 1 p ≡ false → retreat (1 ∷ p) ≡ 2 ∷ fresh (length p)
unfolding retreat
retreat_here p e = rw (e, retreat)

-- both moves keep the number of ranks
pub advance-length : (p : Position) → length (advance p) ≡ length p
unfolding advance
advance-length [] = refl
advance-length (zero ∷ p) = refl
advance-length (suc x ∷ p) = ap suc (advance-length p)

pub retreat-length : (p : Position) → length (retreat p) ≡ length p
unfolding retreat
retreat-length [] = refl
retreat-length (x ∷ p) = go (has 1 p) (eqb x 1) (retreat-length p)
  where
    go : (b c : Bool) → length (retreat p) ≡ length p → length (cond b (x ∷ retreat p) (cond c (2 ∷ fresh (length p)) (x ∷ p))) ≡ suc (length p)
    go true c e = ap suc e
    go false true e = ap suc (length-replicate (length p) 0)
    go false false e = refl

-- a step down keeps a position valid
pub advance_valid : (p : Position) → Valid p → Valid (advance p)
unfolding advance
advance_valid [] v = tt
advance_valid (zero ∷ p) v = open_valid p v
advance_valid (suc zero ∷ p) v = advance_valid p v
advance_valid (suc (suc zero) ∷ p) v = advance_valid p v
advance_valid (suc (suc (suc x)) ∷ p) v = v

-- with nothing taken a step back changes nothing
pub retreat-stays : (x : ℕ) (p : Position) → has 1 p ≡ false → eqb x 1 ≡ false → retreat (x ∷ p) ≡ x ∷ p
unfolding retreat
retreat-stays x p e f = rw (e, f, retreat)

-- and so does a step back
pub retreat_valid : (p : Position) → Valid p → Valid (retreat p)
unfolding retreat
retreat_valid [] v = tt
retreat_valid (zero ∷ p) v = rw (retreat-stays 0 p (open_no_taken p v) refl) v
retreat_valid (suc zero ∷ p) v = go (has 1 p) refl (retreat_valid p v)
  where
    go : (b : Bool) → has 1 p ≡ b → Valid (retreat p) → Valid (retreat (1 ∷ p))
    go true e w = rw (retreat-deep 1 p e) w
    go false e w = rw (retreat_here p e) (fresh_valid (length p))
retreat_valid (suc (suc zero) ∷ p) v = go (has 1 p) refl (retreat_valid p v)
  where
    go : (b : Bool) → has 1 p ≡ b → Valid (retreat p) → Valid (retreat (2 ∷ p))
    go true e w = rw (retreat-deep 2 p e) w
    go false e w = rw (retreat-stays 2 p e refl) v
retreat_valid (suc (suc (suc x)) ∷ p) v = absurd v

-- a position with nothing taken stays in a step back
pub untaken_stays : (p : Position) → Valid p → has 1 p ≡ false → retreat p ≡ p
unfolding has retreat
untaken_stays [] v e = refl
untaken_stays (zero ∷ p) v e = retreat-stays 0 p e refl
untaken_stays (suc zero ∷ p) v e = absurd (true≢false e)
untaken_stays (suc (suc zero) ∷ p) v e = retreat-stays 2 p e refl
untaken_stays (suc (suc (suc x)) ∷ p) v e = absurd v

-- taking the lowest open rank leaves what remains
pub advance_remaining : (p : Position) → Valid p → has 0 p ≡ true → remaining (advance p) ≡ remaining p
unfolding advance has all_decided
advance_remaining [] v e = refl
advance_remaining (zero ∷ p) v e = ap (λ (l : List Position). map (1 ∷◌) l ++ map (2 ∷◌) (all_decided (length p))) (open_remaining p v)
advance_remaining (suc zero ∷ p) v e = ap₂ (λ (l : List Position) (k : ℕ). map (1 ∷◌) l ++ map (2 ∷◌) (all_decided k)) (advance_remaining p v e) (advance-length p)
advance_remaining (suc (suc zero) ∷ p) v e = ap (map (2 ∷◌)) (advance_remaining p v e)
advance_remaining (suc (suc (suc x)) ∷ p) v e = absurd v

-- where nothing is taken, only completions remain
pub untaken_remaining : (p : Position) → Valid p → has 1 p ≡ false → remaining p ≡ completions p
unfolding has
untaken_remaining [] v e = refl
untaken_remaining (zero ∷ p) v e = refl
untaken_remaining (suc zero ∷ p) v e = absurd (true≢false e)
untaken_remaining (suc (suc zero) ∷ p) v e = ap (map (2 ∷◌)) (untaken_remaining p v e)
untaken_remaining (suc (suc (suc x)) ∷ p) v e = absurd v

-- leaving the highest taken rank passes the completions
pub retreat_remaining : (p : Position) → Valid p → has 1 p ≡ true → remaining p ≡ completions p ++ remaining (retreat p)
unfolding has
retreat_remaining [] v e = absurd (false≢true e)
retreat_remaining (zero ∷ p) v e = absurd (true≢false (sym e ∙ open_no_taken p v))
retreat_remaining (suc zero ∷ p) v e = go (has 1 p) refl (retreat_remaining p v)
  where
    go : (b : Bool) → has 1 p ≡ b → (has 1 p ≡ true → remaining p ≡ completions p ++ remaining (retreat p))
        → remaining (1 ∷ p) ≡ completions (1 ∷ p) ++ remaining (retreat (1 ∷ p))
    go true e ih =
        rw (retreat-deep 1 p e)
        (ap (λ (l : List Position). map (1 ∷◌) l ++ map (2 ∷◌) (all_decided (length p))) (ih e)
        ∙ ap (λ (l : List Position). l ++ map (2 ∷◌) (all_decided (length p))) (map-append (1 ∷◌) (completions p) (remaining (retreat p)))
        ∙ append_assoc (map (1 ∷◌) (completions p)) (map (1 ∷◌) (remaining (retreat p))) (map (2 ∷◌) (all_decided (length p)))
        ∙ ap (λ (k : ℕ). map (1 ∷◌) (completions p) ++ (map (1 ∷◌) (remaining (retreat p)) ++ map (2 ∷◌) (all_decided k))) (sym (retreat-length p)))
    go false e ih =
        rw (retreat_here p e)
        (ap₂ (λ (l r : List Position). map (1 ∷◌) l ++ map (2 ∷◌) r) (untaken_remaining p v e) (sym (fresh_remaining (length p))))
retreat_remaining (suc (suc zero) ∷ p) v e =
    rw (retreat-deep 2 p e)
    (ap (map (2 ∷◌)) (retreat_remaining p v e) ∙ map-append (2 ∷◌) (completions p) (remaining (retreat p)))
retreat_remaining (suc (suc (suc x)) ∷ p) v e = absurd v

-- a decided position is its one completion
pub decided_completions : (p : Position) → Valid p → has 0 p ≡ false → completions p ≡ p ∷ []
unfolding has
decided_completions [] v e = refl
decided_completions (zero ∷ p) v e = absurd (true≢false e)
decided_completions (suc zero ∷ p) v e = ap (map (1 ∷◌)) (decided_completions p v e)
decided_completions (suc (suc zero) ∷ p) v e = ap (map (2 ∷◌)) (decided_completions p v e)
decided_completions (suc (suc (suc x)) ∷ p) v e = absurd v

-- ---- members

-- a member of a mapped list is the image of a member
pub mem_map {ℓ κ} : {A : Type ℓ} {B : Type κ} (f : A → B) (l : List A) {b : B} → Memᴰ b (map f l) → (a : A) × (b ≡ f a) × Memᴰ a l
mem_map f l m = let r = Memᴰ.of_map f l m in (r.0, sym r.2, r.1)

-- q has p's length and keeps what p has decided
pub record Completes (p q : Position) : Type 0 where
  pub long : length q ≡ length p
  pub keeps : (r : ℕ) → get_or p r 0 ≢ 0 → get_or q r 0 ≡ get_or p r 0

-- a member of a list whose members have length n, with x before it
half_length : (n x : ℕ) (l : List Position) (q : Position) → ((a : Position) → Memᴰ a l → length a ≡ n) → Memᴰ q (map (x ∷◌) l) → length q ≡ suc n
half_length n x l q f m = let r = mem_map (x ∷◌) l m in ap length r.1 ∙ ap suc (f r.0 r.2)

all_decided-length : (n : ℕ) (q : Position) → Memᴰ q (all_decided n) → length q ≡ n
unfolding all_decided
all_decided-length zero q m = ap length (Memᴰ.eq_of_singleton m)
all_decided-length (suc n) q m =
    ⊎_elim (half_length n 1 (all_decided n) q (λ a d. all_decided-length n a d)) (half_length n 2 (all_decided n) q (λ a d. all_decided-length n a d))
    (Memᴰ.append_cases (map (1 ∷◌) (all_decided n)) m)

-- each rank of an open position is 0
pub open_zero : (p : Position) (r : ℕ) → only 0 p ≡ true → get_or p r 0 ≡ 0
unfolding only
open_zero [] r e = refl
open_zero (zero ∷ p) zero e = refl
open_zero (zero ∷ p) (suc r) e = open_zero p r e
open_zero (suc x ∷ p) r e = absurd (not_open x (only 0 p) e)

completes_under : (x : ℕ) (p q : Position) → ((a : Position) → Memᴰ a (completions p) → Completes p a) → Memᴰ q (map (x ∷◌) (completions p)) → Completes (x ∷ p) q
completes_under x p q f m =
    let r = mem_map (x ∷◌) (completions p) m in
    let c = f r.0 r.2 in
    record { long = ap length r.1 ∙ ap suc c.long; keeps = at r.0 r.1 c }
  where
    at : (a : Position) → q ≡ x ∷ a → Completes p a → (i : ℕ) → get_or (x ∷ p) i 0 ≢ 0 → get_or q i 0 ≡ get_or (x ∷ p) i 0
    at a e c zero h = ap (λ (l : Position). get_or l 0 0) e
    at a e c (suc i) h = ap (λ (l : Position). get_or l (suc i) 0) e ∙ c.keeps i h

-- the completions of p complete it
pub completions_complete : (p : Position) → Valid p → (q : Position) → Memᴰ q (completions p) → Completes p q
completions_complete [] v q m = record { long = ap length (Memᴰ.eq_of_singleton m); keeps = λ r h. absurd (h refl) }
completions_complete (zero ∷ p) v q m =
    record { long = all_decided-length (suc (length p)) q m; keeps = λ r h. absurd (h (none r)) }
  where
    none : (r : ℕ) → get_or (zero ∷ p) r 0 ≡ 0
    none zero = refl
    none (suc r) = open_zero p r v
completions_complete (suc zero ∷ p) v q m = completes_under 1 p q (λ a d. completions_complete p v a d) m
completions_complete (suc (suc zero) ∷ p) v q m = completes_under 2 p q (λ a d. completions_complete p v a d) m
completions_complete (suc (suc (suc x)) ∷ p) v q m = absurd v

-- ---- a decided position with something taken is passed for good

heads_differ : (p a : Position) → 1 ∷ p ≡ 2 ∷ a → ⊥
heads_differ p a e = let z : ◌≡◌ {A = ℕ} 1 2 = ap (λ (l : Position). get_or l 0 0) e in omega arith

tails_same : (x : ℕ) (p a : Position) → x ∷ p ≡ x ∷ a → p ≡ a
tails_same x p a e = ap (drop 1) e

-- a decided position with something taken does not remain after its step back
pub passed : (p : Position) → Valid p → has 1 p ≡ true → Memᴰ p (remaining (retreat p)) → has 0 p ≡ false → ⊥
unfolding has
passed [] v e m d = false≢true e
passed (zero ∷ p) v e m d = true≢false d
passed (suc zero ∷ p) v e m d = go (has 1 p) refl (λ f n. passed p v f n d)
  where
    go : (b : Bool) → has 1 p ≡ b → (has 1 p ≡ true → Memᴰ p (remaining (retreat p)) → ⊥) → ⊥
    go true f ih =
        ⊎_elim
        (λ n. let r = mem_map (1 ∷◌) (remaining (retreat p)) n in ih f (subst⁻¹ (λ (l : Position). Memᴰ l (remaining (retreat p))) (tails_same 1 p r.0 r.1) r.2))
        (λ n. let r = mem_map (2 ∷◌) (all_decided (length (retreat p))) n in heads_differ p r.0 r.1)
        (Memᴰ.append_cases (map (1 ∷◌) (remaining (retreat p))) (rw (retreat-deep 1 p f) at m))
    go false f ih =
        let r = mem_map (2 ∷◌) (remaining (fresh (length p))) (rw (retreat_here p f) at m) in
        heads_differ p r.0 r.1
passed (suc (suc zero) ∷ p) v e m d =
    let r = mem_map (2 ∷◌) (remaining (retreat p)) (rw (retreat-deep 2 p e) at m) in
    passed p v e (subst⁻¹ (λ (l : Position). Memᴰ l (remaining (retreat p))) (tails_same 2 p r.0 r.1) r.2) d
passed (suc (suc (suc x)) ∷ p) v e m d = v

-- nothing open and nothing taken is finished, and the other way round
pub finished_untaken : (p : Position) → finished p ≡ true → has 1 p ≡ false
finished_untaken p = only-lacks 2 1 p (λ z. omega arith)

-- a finished position is decided
pub finished-decided : (p : Position) → finished p ≡ true → has 0 p ≡ false
finished-decided p = only-lacks 2 0 p (λ z. omega arith)

-- ---- valid positions of n ranks

-- fresh is a valid position of n ranks
pub fresh-fit : (n : ℕ) → Fit n (fresh n)
fresh-fit n = (length-replicate n 0, fresh_valid n)

-- and both moves lead to one
pub advance-fit : (n : ℕ) (p : Position) → Fit n p → Fit n (advance p)
advance-fit n p v = (advance-length p ∙ v.0, advance_valid p v.1)

pub retreat-fit : (n : ℕ) (p : Position) → Fit n p → Fit n (retreat p)
retreat-fit n p v = (retreat-length p ∙ v.0, retreat_valid p v.1)

-- below a decided rank every rank is decided
pub decided-below : (p : Position) → Valid p → (i r : ℕ) → i < r → get_or p r 0 ≢ 0 → get_or p i 0 ≢ 0
decided-below [] v i r h d e = d refl
decided-below (zero ∷ p) v i zero h d e = d refl
decided-below (zero ∷ p) v i (suc r) h d e = d (open_zero p r v)
decided-below (suc zero ∷ p) v zero r h d e = omega arith
decided-below (suc zero ∷ p) v (suc i) zero h d e = omega arith
decided-below (suc zero ∷ p) v (suc i) (suc r) h d e = decided-below p v i r (omega arith) d e
decided-below (suc (suc zero) ∷ p) v zero r h d e = omega arith
decided-below (suc (suc zero) ∷ p) v (suc i) zero h d e = omega arith
decided-below (suc (suc zero) ∷ p) v (suc i) (suc r) h d e = decided-below p v i r (omega arith) d e
decided-below (suc (suc (suc x)) ∷ p) v i r h d e = v
