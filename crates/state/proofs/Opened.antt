-- The position with a rank and all after it opened: how a position is built up again from there, and how ranks are opened one after the other.
-- Assumes nothing.
use Prim.Native.Nat.{ℕ, ◌+◌, ◌-◌, ◌*◌, ◌≤◌, ◌<◌, zero-le}
use mathlib.Core.Path.{◌≡◌, refl, sym, ap, ◌∙◌, subst}
use mathlib.Core.Bool.{false, true≢false}
use mathlib.Core.List.{List, [], ◌++◌}
use mathlib.Core.Logic.{◌≢◌, ◌⊎◌, inl, inr, ⊎_elim}
use native.Mathlib.Omega.{arith}
use lib.ListN.{length, get_or, take, set, length-append, length-set, length-replicate, get_or-append}
use lib.Seq.{length-take-le, get_or-take, get_or-append-add, get_or-set_same, get_or-set_other, set-get_or, ext_get_or}
use Rattle.model.specs.Below.{least}
use Rattle.model.specs.Graph.{Graph}
use Rattle.model.specs.Walk.{Position, fresh}
use Rattle.model.specs.Listing.{is, taken_list}
use Rattle.model.specs.Calls.{over, gap, reopened}
use Rattle.theory.proofs.Basics.Tests.{lt_or_ge, trichotomy}
use Rattle.theory.proofs.Basics.Passing.{no_entries}
use Rattle.theory.proofs.Walk.Scans.{least_le, decided-below, open_from}
use Rattle.theory.proofs.Walk.Remaining.{open_zero, fresh_open}
use Rattle.theory.proofs.Calls.Fault.{over_test}
use Rattle.state.specs.State.{taken_ranks, degrees_of, Stands}
use Rattle.state.specs.NextRank.{Decides}
use Rattle.state.specs.declared.State.{State}
use Rattle.state.proofs.Taken.{apart_none, degrees-none, taken-length, taken_at, left-none}

-- the position with rank d and all after it opened
unfoldable pub opened : ℕ → Position → Position
opened d p = take d p ++ fresh (length p - d)

module _ (d : ℕ) (p : Position) (h : d ≤ length p) where
  pub opened_length : length (opened d p) ≡ length p
  unfolding opened
  opened_length =
      let a = length-append (take d p) (fresh (length p - d)) in
      let b = length-take-le d p h in
      let c = length-replicate {A = ℕ} (length p - d) 0 in
      omega arith

  pub opened_below : (r : ℕ) → r < d → get_or (opened d p) r 0 ≡ get_or p r 0
  unfolding opened
  opened_below r l =
      let b = length-take-le d p h in
      get_or-append (take d p) (fresh (length p - d)) 0 r (omega arith) ∙ get_or-take d p r 0 l

  pub opened_above : (r : ℕ) → d ≤ r → get_or (opened d p) r 0 ≡ 0
  unfolding opened
  opened_above r l =
      let b = length-take-le d p h in
      let k = r - d in
      let e : r ≡ length (take d p) + k = omega arith in
      ap (λ (i : ℕ). get_or (opened d p) i 0) e
      ∙ get_or-append-add (take d p) (fresh (length p - d)) k 0
      ∙ open_zero (fresh (length p - d)) k (fresh_open (length p - d))

-- ---- a position built up again

-- nothing is decided yet
pub fresh-stands : (G : Graph) (p : Position) (w : List ℕ) → length p ≡ G.size → 8 * G.size ≤ length w
    → Stands G (opened 0 p) w (record { decided = 0; taken = 0; left = 0; sum = 0; apart = false })
fresh-stands G p w long room =
    record {
      long = all;
      room = room;
      bound = zero-le;
      taken-bound = zero-le;
      left-bound = zero-le;
      bytes = λ r. let e = opened_above 0 p zero-le r zero-le in omega arith;
      decided = λ r h. absurd (omega arith);
      still_open = λ r h. opened_above 0 p zero-le r zero-le;
      ranks = sym (no_entries (taken_ranks G (opened 0 p)) none);
      vertices = sym empty;
      left = sym (left-none G (opened 0 p) all none);
      sum = sym (ap (degrees_of G) empty ∙ degrees-none G);
      apart = sym (apart_none G (opened 0 p) none);
    }
  where
    all : length (opened 0 p) ≡ G.size
    all = opened_length 0 p zero-le ∙ long

    none : length (taken_ranks G (opened 0 p)) ≡ 0
    none =
        ⊎_elim
        (λ l. let a = (taken_at G (opened 0 p) 0 l).1 in let e = opened_above 0 p zero-le (get_or (taken_ranks G (opened 0 p)) 0 0) zero-le in absurd (omega arith))
        (λ l. omega arith)
        (lt_or_ge 0 (length (taken_ranks G (opened 0 p))))

    empty : taken_list G (opened 0 p) ≡ []
    empty = no_entries (taken_list G (opened 0 p)) (taken-length G (opened 0 p) ∙ none)

module _ (p : Position) (d : ℕ) (h : d < length p) where
  -- the next rank is decided as p has it
  pub opened_decides : Decides d (get_or p d 0) (opened d p) (opened (d + 1) p)
  opened_decides =
      record {
        same_length = opened_length (d + 1) p (omega arith) ∙ sym (opened_length d p (omega arith));
        before = λ r l. opened_below (d + 1) p (omega arith) r (omega arith) ∙ sym (opened_below d p (omega arith) r l);
        there = opened_below (d + 1) p (omega arith) d (omega arith);
        then_open = λ r l. opened_above (d + 1) p (omega arith) r (omega arith);
      }

  -- the lowest open rank is decided by one store
  pub set_decides : (x : ℕ) → ((r : ℕ) → d ≤ r → get_or p r 0 ≡ 0) → Decides d x p (set p d x)
  set_decides x clear =
      record {
        same_length = length-set p d x;
        before = λ r l. get_or-set_other p d r x 0 (λ z. omega arith);
        there = get_or-set_same p d x 0 h;
        then_open = λ r l. get_or-set_other p d r x 0 (λ z. omega arith) ∙ clear r (omega arith);
      }

-- the last decided rank is opened by one store
reopened-set : (p : Position) → reopened p ≡ set p (least (length p) (is 0 p) - 1) 0
unfolding reopened
reopened-set p = refl

-- without a gap, this from the last decided rank on is the position with that rank opened
pub reopened-is : (p : Position) → gap p ≡ false → opened (least (length p) (is 0 p) - 1) p ≡ reopened p
reopened-is p g =
    ext_get_or 0 (opened k p) (set p k 0) (opened_length k p h ∙ sym (length-set p k 0)) (λ r l. at r (omega (arith, opened_length k p h)) (trichotomy r k))
    ∙ sym (reopened-set p)
  where
    k : ℕ
    k = least (length p) (is 0 p) - 1

    h : k ≤ length p
    h = omega (arith, least_le (length p) (is 0 p))

    at : (r : ℕ) → r < length p → (r < k) ⊎ (r ≡ k) ⊎ (k < r) → get_or (opened k p) r 0 ≡ get_or (set p k 0) r 0
    at r b (inl l) = opened_below k p h r l ∙ sym (get_or-set_other p k r 0 0 (λ z. omega arith))
    at r b (inr (inl e)) = opened_above k p h r (omega arith) ∙ sym (ap (λ (i : ℕ). get_or (set p k 0) i 0) e ∙ get_or-set_same p k 0 0 (omega arith))
    at r b (inr (inr l)) = opened_above k p h r (omega arith) ∙ sym (get_or-set_other p k r 0 0 (λ z. omega arith) ∙ open_from p g r (omega arith))

-- ---- the position built up from there, by the state that stands for it with its last decided rank opened

module _ {G : Graph} (p : Position) {w : List ℕ} {s : State} (St : Stands G (reopened p) w s) where
  -- that rank comes next
  next_last : reopened p ≡ set p s.decided 0
  next_last = reopened-set p ∙ ap (λ (k : ℕ). set p k 0) (sym (go (trichotomy s.decided last)))
    where
      last : ℕ
      last = least (length p) (is 0 p) - 1

      mark : (r : ℕ) → get_or (reopened p) r 0 ≡ get_or (set p last 0) r 0
      mark r = ap (λ (x : Position). get_or x r 0) (reopened-set p)

      go : (s.decided < last) ⊎ (s.decided ≡ last) ⊎ (last < s.decided) → s.decided ≡ last
      go (inl l) =
          let z = sym (get_or-set_other p last s.decided 0 0 (λ e. omega arith)) ∙ sym (mark s.decided) ∙ St.still_open s.decided (omega arith) in
          absurd (decided-below p s.decided (omega arith) z)
      go (inr (inl e)) = e
      go (inr (inr l)) =
          absurd (St.decided last l (mark last ∙ get_or-set_same p last 0 0 (omega (arith, St.bound, St.long, ap length (reopened-set p), length-set p last 0))))

  same_mark : (r : ℕ) → r ≢ s.decided → get_or p r 0 ≡ get_or (reopened p) r 0
  same_mark r o = sym (ap (λ (x : Position). get_or x r 0) next_last ∙ get_or-set_other p s.decided r 0 0 o)

  -- it is decided as p has it, or p is open from there on
  pub last_decides : Decides s.decided (get_or p s.decided 0) (reopened p) p
  last_decides =
      record {
        same_length = sym (ap length next_last ∙ length-set p s.decided 0);
        before = λ r l. same_mark r (λ z. omega arith);
        there = refl;
        then_open = λ r l. same_mark r (λ z. omega arith) ∙ St.still_open r (omega arith);
      }

  pub open_stands : get_or p s.decided 0 ≡ 0 → Stands G p w s
  open_stands z = subst (λ (q : Position). Stands G q w s) (next_last ∙ ap (set p s.decided) (sym z) ∙ set-get_or p s.decided 0) St

-- no byte is over the bound
pub bytes_most : (m : ℕ) (p : Position) → over m p ≡ false → (r : ℕ) → r < length p → get_or p r 0 ≤ m
bytes_most m p e r h = ⊎_elim (λ l. absurd (true≢false (sym ((over_test m p).1 (r, h, l)) ∙ e))) (λ l. l) (lt_or_ge m (get_or p r 0))
