-- Every position of the walk passes the checks 21 to 23, so that a page is never refused for a position that pages left.
-- Assumes nothing.
use Prim.Native.Nat.{ℕ, zero, suc, ◌-◌}
use mathlib.Core.Path.{◌≡◌, refl, sym, ap, ap₂, ◌∙◌}
use mathlib.Core.Bool.{Bool, true, false, ◌&&◌, not, cond, true≢false}
use mathlib.Core.List.{[], ◌∷◌, ◌++◌, append_assoc}
use lib.ListN.{length, set, length-replicate}
use lib.Dec.{eqb-suc-zero}
use Rattle.model.specs.Below.{least}
use Rattle.model.specs.Walk.{Position, Rules, only, has, fresh, advance, retreat, step, after}
use Rattle.model.specs.Listing.{is}
use Rattle.model.specs.Calls.{refuse, over, gap, reopened, refuse_position}
use Rattle.theory.proofs.Basics.Tests.{fails, suc_less}
use Rattle.theory.proofs.Walk.Remaining.{Valid, Fit, not_open, open_valid, open_no_taken, fresh_open, fresh-fit, advance-length, retreat-length, retreat-deep, retreat_here, retreat-stays}
use Rattle.theory.proofs.Walk.Walk.{Lawful, step_down, step_up, step_valid, after_valid}

-- a position with all ranks open is fresh
pub open_fresh : (p : Position) → only 0 p ≡ true → p ≡ fresh (length p)
unfolding only
open_fresh [] e = refl
open_fresh (zero ∷ p) e = ap (λ (l : Position). 0 ∷ l) (open_fresh p e)
open_fresh (suc x ∷ p) e = absurd (not_open x (only 0 p) e)

module _ (R : Rules) where
  -- before each decided rank of p, which stands after the ranks pre, the position was not dead
  abbrev pub Lived : Position → Position → Type 0
  Lived pre [] = Unit {0}
  Lived pre (zero ∷ p) = Unit {0}
  Lived pre (suc zero ∷ p) = (R.dead (pre ++ fresh (suc (length p))) ≡ false) × Lived (pre ++ (1 ∷ [])) p
  Lived pre (suc (suc x) ∷ p) = (R.dead (pre ++ fresh (suc (length p))) ≡ false) × Lived (pre ++ (2 ∷ [])) p

  open_lived : (pre p : Position) → only 0 p ≡ true → Lived pre p
  unfolding only
  open_lived pre [] e = tt
  open_lived pre (zero ∷ p) e = tt
  open_lived pre (suc x ∷ p) e = absurd (not_open x (only 0 p) e)

  same_parent : (pre p q : Position) → length q ≡ length p → R.dead (pre ++ fresh (suc (length p))) ≡ false → R.dead (pre ++ fresh (suc (length q))) ≡ false
  same_parent pre p q e d = ap (λ (k : ℕ). R.dead (pre ++ fresh (suc k))) e ∙ d

  advance_lived : (pre p : Position) → Valid p → Lived pre p → R.dead (pre ++ p) ≡ false → Lived pre (advance p)
  unfolding advance
  advance_lived pre [] v l d = tt
  advance_lived pre (zero ∷ p) v l d = (ap (λ (q : Position). R.dead (pre ++ (0 ∷ q))) (sym (open_fresh p v)) ∙ d, open_lived (pre ++ (1 ∷ [])) p v)
  advance_lived pre (suc zero ∷ p) v l d =
      (same_parent pre p (advance p) (advance-length p) l.0, advance_lived (pre ++ (1 ∷ [])) p v l.1 (ap R.dead (append_assoc pre (1 ∷ []) p) ∙ d))
  advance_lived pre (suc (suc zero) ∷ p) v l d =
      (same_parent pre p (advance p) (advance-length p) l.0, advance_lived (pre ++ (2 ∷ [])) p v l.1 (ap R.dead (append_assoc pre (2 ∷ []) p) ∙ d))
  advance_lived pre (suc (suc (suc x)) ∷ p) v l d = absurd v

  retreat_lived : (pre p : Position) → Valid p → Lived pre p → Lived pre (retreat p)
  unfolding retreat
  retreat_lived pre [] v l = tt
  retreat_lived pre (zero ∷ p) v l = rw (retreat-stays 0 p (open_no_taken p v) refl) tt
  retreat_lived pre (suc zero ∷ p) v l = go (has 1 p) refl (retreat_lived (pre ++ (1 ∷ [])) p v l.1)
    where
      go : (b : Bool) → has 1 p ≡ b → Lived (pre ++ (1 ∷ [])) (retreat p) → Lived pre (retreat (1 ∷ p))
      go true e ih = rw (retreat-deep 1 p e) (same_parent pre p (retreat p) (retreat-length p) l.0, ih)
      go false e ih =
          rw (retreat_here p e)
          (same_parent pre p (fresh (length p)) (length-replicate (length p) 0) l.0, open_lived (pre ++ (2 ∷ [])) (fresh (length p)) (fresh_open (length p)))
  retreat_lived pre (suc (suc zero) ∷ p) v l = go (has 1 p) refl (retreat_lived (pre ++ (2 ∷ [])) p v l.1)
    where
      go : (b : Bool) → has 1 p ≡ b → Lived (pre ++ (2 ∷ [])) (retreat p) → Lived pre (retreat (2 ∷ p))
      go true e ih = rw (retreat-deep 2 p e) (same_parent pre p (retreat p) (retreat-length p) l.0, ih)
      go false e ih = rw (retreat-stays 2 p e refl) l
  retreat_lived pre (suc (suc (suc x)) ∷ p) v l = absurd v

-- the lowest open rank under a decided one
least_under : (x : ℕ) (p : Position) → least (suc (length p)) (is 0 (suc x ∷ p)) ≡ suc (least (length p) (is 0 p))
unfolding least
least_under x p = ap (λ (b : Bool). cond b zero (suc (least (length p) (is 0 p)))) (eqb-suc-zero x)

least_open : (p : Position) → only 0 p ≡ true → least (length p) (is 0 p) ≡ 0
unfolding least only
least_open [] e = refl
least_open (zero ∷ p) e = refl
least_open (suc x ∷ p) e = absurd (not_open x (only 0 p) e)

-- the position with its last decided rank opened
reopened-last : (x : ℕ) (p : Position) → only 0 p ≡ true → reopened (suc x ∷ p) ≡ 0 ∷ p
unfolding reopened
reopened-last x p e =
    ap (λ (k : ℕ). set (suc x ∷ p) (k - 1) 0) (least_under x p ∙ ap suc (least_open p e))

-- under two decided ranks the last decided rank stands in the rest
pub reopened_under : (x y : ℕ) (p : Position) → reopened (suc x ∷ suc y ∷ p) ≡ suc x ∷ reopened (suc y ∷ p)
unfolding reopened
reopened_under x y p =
    let l = least (length p) (is 0 p) in
    ap (λ (k : ℕ). set (suc x ∷ suc y ∷ p) (k - 1) 0) (least_under x (suc y ∷ p) ∙ ap suc (least_under y p))
    ∙ ap (λ (k : ℕ). set (suc x ∷ suc y ∷ p) k 0) (suc_less (suc l))
    ∙ ap (λ (k : ℕ). suc x ∷ set (suc y ∷ p) k 0) (sym (suc_less l) ∙ ap (λ (k : ℕ). k - 1) (sym (least_under y p)))

module _ (R : Rules) where
  -- so the reopened position was not dead
  reopened_lived : (x : ℕ) (pre p : Position) → Valid p → R.dead (pre ++ fresh (suc (length p))) ≡ false → Lived R (pre ++ (suc x ∷ [])) p
      → R.dead (pre ++ reopened (suc x ∷ p)) ≡ false
  unfolding only
  reopened_lived x pre [] v d l = rw (reopened-last x [] refl) d
  reopened_lived x pre (zero ∷ p) v d l =
      rw (reopened-last x (zero ∷ p) v) (ap (λ (q : Position). R.dead (pre ++ (0 ∷ 0 ∷ q))) (open_fresh p v) ∙ d)
  reopened_lived x pre (suc zero ∷ p) v d l =
      rw (reopened_under x 0 p)
      (ap R.dead (sym (append_assoc pre (suc x ∷ []) (reopened (1 ∷ p)))) ∙ reopened_lived 0 (pre ++ (suc x ∷ [])) p v l.0 l.1)
  reopened_lived x pre (suc (suc zero) ∷ p) v d l =
      rw (reopened_under x 1 p)
      (ap R.dead (sym (append_assoc pre (suc x ∷ []) (reopened (2 ∷ p)))) ∙ reopened_lived 1 (pre ++ (suc x ∷ [])) p v l.0 l.1)
  reopened_lived x pre (suc (suc (suc y)) ∷ p) v d l = absurd v

  valid_bytes : (p : Position) → Valid p → over 2 p ≡ false
  unfolding over only
  valid_bytes [] v = refl
  valid_bytes (zero ∷ p) v = valid_bytes p (open_valid p v)
  valid_bytes (suc zero ∷ p) v = valid_bytes p v
  valid_bytes (suc (suc zero) ∷ p) v = valid_bytes p v
  valid_bytes (suc (suc (suc x)) ∷ p) v = absurd v

  valid_gapless : (p : Position) → Valid p → gap p ≡ false
  unfolding gap
  valid_gapless [] v = refl
  valid_gapless (zero ∷ p) v = ap not v
  valid_gapless (suc zero ∷ p) v = valid_gapless p v
  valid_gapless (suc (suc zero) ∷ p) v = valid_gapless p v
  valid_gapless (suc (suc (suc x)) ∷ p) v = absurd v

module _ (R : Rules) (n : ℕ) (law : Lawful R n) where
  fresh_live : (m : ℕ) → R.dead (fresh m) ≡ false
  fresh_live m = fails (R.dead (fresh m)) (λ e. true≢false (sym (law.dead-taken (fresh m) e) ∙ open_no_taken (fresh m) (fresh_open m)))

  reopened_live : (p : Position) → Valid p → Lived R [] p → R.dead (reopened p) ≡ false
  unfolding reopened least
  reopened_live [] v l = fresh_live 0
  reopened_live (zero ∷ p) v l = ap (λ (q : Position). R.dead (0 ∷ q)) (open_fresh p v) ∙ fresh_live (suc (length p))
  reopened_live (suc zero ∷ p) v l = reopened_lived R 0 [] p v l.0 l.1
  reopened_live (suc (suc zero) ∷ p) v l = reopened_lived R 1 [] p v l.0 l.1
  reopened_live (suc (suc (suc x)) ∷ p) v l = absurd v

  step_lived : (p : Position) → Fit n p → Lived R [] p → Lived R [] (step R p)
  step_lived p v l = go (R.dead p) (has 0 p) refl refl
    where
      go : (d o : Bool) → R.dead p ≡ d → has 0 p ≡ o → Lived R [] (step R p)
      go false true e f = rw (step_down R p (ap₂ (λ (a b : Bool). not a && b) e f)) (advance_lived R [] p v.1 l e)
      go false false e f = rw (step_up R p (ap₂ (λ (a b : Bool). not a && b) e f)) (retreat_lived R [] p v.1 l)
      go true o e f = rw (step_up R p (ap (λ (a : Bool). not a && has 0 p) e)) (retreat_lived R [] p v.1 l)

  after_lived : (k : ℕ) (p : Position) → Fit n p → Lived R [] p → Lived R [] (after R k p)
  unfolding after
  after_lived zero p v l = l
  after_lived (suc k) p v l = after_lived k (step R p) (step_valid R n law p v) (step_lived p v l)

  -- the walk's positions are accepted
  pub walk-accepted : (k : ℕ) → refuse_position R (after R k (fresh n)) ≡ 0
  unfolding refuse_position refuse
  walk-accepted k =
      let q = after R k (fresh n) in
      let v = after_valid R n law k (fresh n) (fresh-fit n) in
      rw (valid_bytes R q v.1, valid_gapless R q v.1, reopened_live q v.1 (after_lived k (fresh n) (fresh-fit n) (open_lived R [] (fresh n) (fresh_open n))))
