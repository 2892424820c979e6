-- The faults of a line: which of them a line of each letter can have.
-- Assumes nothing.
use Prim.Native.Nat.{ℕ, ◌*◌, ◌≤◌, ◌<◌}
use mathlib.Core.Path.{◌≡◌, sym, ap, ◌∙◌, subst, subst₂}
use mathlib.Core.Logic.{◌≢◌, inl, inr}
use mathlib.Core.List.{List, Memᴰ}
use native.Mathlib.Omega.{arith}
use lib.ListN.{get_or, drop}
use Rattle.model.specs.Fault.{FirstFault, NoFault}
use Rattle.model.specs.EdgeText.{Letter, Headed, Line, comment, problem, edge, Spells, HasPair, Ends, Passed, OutOfRange, line_faults}
use Rattle.theory.proofs.Calls.Fault.{none_of}
use Rattle.theory.proofs.Text.EdgeTextSpelling.{letter_first, spells_letter, says-one}
use Rattle.theory.proofs.Text.EdgeTextDrawn.{problem-first, edge-first, edge-second}

-- ---- U and V in range

-- U and V as an e line has them are in range
pub in_range : (n u v : ℕ) → Ends n u v → OutOfRange n u v → ⊥
in_range n u v h (inl q) = let g = h.u_from in omega arith
in_range n u v h (inr (inl q)) = let g = h.u_to in omega arith
in_range n u v h (inr (inr (inl q))) = let g = h.v_from in omega arith
in_range n u v h (inr (inr (inr q))) = let g = h.v_to in omega arith

-- and where they are in range and differ, an e line has them so
pub not-out_of_range : (n u v : ℕ) → (OutOfRange n u v → ⊥) → u ≢ v → Ends n u v
not-out_of_range n u v within differ =
    let u_from : u < 1 → ⊥ = λ q. within (inl q) in
    let u_to : n < u → ⊥ = λ q. within (inr (inl q)) in
    let v_from : v < 1 → ⊥ = λ q. within (inr (inr (inl q))) in
    let v_to : n < v → ⊥ = λ q. within (inr (inr (inr q))) in
    record { u_from = omega arith; u_to = omega arith; v_from = omega arith; v_to = omega arith; differ = differ }

-- a pair the other way round is in range too
pub turned : {n u v : ℕ} → Ends n u v → Ends n v u
turned h = record { u_from = h.v_from; u_to = h.v_to; v_from = h.u_from; v_to = h.u_to; differ = λ e. h.differ (sym e) }

-- so where every e line's pair is in range, that holds in either direction
pub pair_ends : (n : ℕ) (xs : List Line) → ((u v : ℕ) → Memᴰ (edge u v) xs → Ends n u v) → (u v : ℕ) → HasPair xs u v → Ends n u v
pair_ends n xs ends u v (inl m) = ends u v m
pair_ends n xs ends u v (inr m) = turned (ends v u m)

module _ (room : ℕ) (xs : List Line) (l : List ℕ) where
  -- ---- which faults a line's letter leaves

  no_letter : (a b : ℕ) → get_or l 0 0 ≡ a → a ≢ b → Letter b l → ⊥
  no_letter a b e h s = h (sym e ∙ letter_first b l s)

  no_problem : (a n m : ℕ) → get_or l 0 0 ≡ a → a ≢ 112 → Spells l (problem n m) → ⊥
  no_problem a n m e h s = h (sym e ∙ spells_letter l (problem n m) s)

  no_edge : (a u v : ℕ) → get_or l 0 0 ≡ a → a ≢ 101 → Spells l (edge u v) → ⊥
  no_edge a u v e h s = h (sym e ∙ spells_letter l (edge u v) s)

  -- a comment has none
  pub comment-faultless : Spells l comment → NoFault (line_faults room xs l)
  comment-faultless s =
      none_of (line_faults room xs l)
      (λ f. f (headed s))
      (λ h. no_letter 99 101 c (omega arith) h.0)
      (λ h. no_letter 99 112 c (omega arith) h.0)
      (λ f. f comment s)
      (λ h. no_problem 99 h.0 h.1 c (omega arith) h.2)
      (λ h. no_problem 99 h.0 h.1 c (omega arith) h.2)
      (λ h. no_edge 99 h.1 h.2 c (omega arith) h.3)
      (λ h. no_edge 99 h.0 h.1 c (omega arith) h.2)
    where
      c : get_or l 0 0 ≡ 99
      c = spells_letter l comment s

      headed : Spells l comment → Headed l
      headed (inl e) = inl e
      headed (inr e) = inr (inl e)

  -- a line that spells N and M spells no other N
  module _ (n m : ℕ) (s : Spells l (problem n m)) where
    same_n : (a b : ℕ) → Spells l (problem a b) → a ≡ n
    same_n a b t = problem-first a b n m (says-one l (problem a b) (problem n m) t s)

    -- so where its N is at most 1,024 fault 35 does not hold
    pub few-vertices : n ≤ 1024 → (a b : ℕ) → Spells l (problem a b) → 1024 < a → ⊥
    few-vertices small a b t h = let e = same_n a b t in omega arith

    few_bytes : n * n ≤ room → (a b : ℕ) → Spells l (problem a b) → room < a * a → ⊥
    few_bytes fits a b t h = let e = ap (λ (x : ℕ). x * x) (same_n a b t) in omega arith

  -- a p line that is the first has neither 31, 33 nor 34
  module _ (p : Letter 112 l) (unpassed : (n : ℕ) → Passed xs n → ⊥) where
    -- its first fault is the first from 32 on
    pub problem-first_at : (k : ℕ) → FirstFault (drop 3 (line_faults room xs l)) k → FirstFault (line_faults room xs l) k
    unfolding FirstFault
    problem-first_at k d =
        inr (
          λ f. f (inr (inr (inl p))),
          inr (λ h. no_letter 112 101 (letter_first 112 l p) (omega arith) h.0, inr (λ h. unpassed h.1.0 h.1.1, d)),
        )

    -- and of the others, where it spells N and M, only 35 and 40
    pub problem-faultless : (n m : ℕ) → Spells l (problem n m) → n ≤ 1024 → n * n ≤ room → NoFault (line_faults room xs l)
    problem-faultless n m s small fits =
        none_of (line_faults room xs l)
        (λ f. f (inr (inr (inl p))))
        (λ h. no_letter 112 101 c (omega arith) h.0)
        (λ h. unpassed h.1.0 h.1.1)
        (λ f. f (problem n m) s)
        (λ h. few-vertices n m s small h.0 h.1 h.2 h.3)
        (λ h. few_bytes n m s fits h.0 h.1 h.2 h.3)
        (λ h. no_edge 112 h.1 h.2 c (omega arith) h.3)
        (λ h. no_edge 112 h.0 h.1 c (omega arith) h.2)
      where
        c : get_or l 0 0 ≡ 112
        c = letter_first 112 l p

  -- an e line after the p line has neither 31, 33 nor 34
  module _ (e : Letter 101 l) where
    -- its first fault is the first from 32 on
    pub edge-first_at : (n : ℕ) → Passed xs n → (k : ℕ) → FirstFault (drop 3 (line_faults room xs l)) k → FirstFault (line_faults room xs l) k
    unfolding FirstFault
    edge-first_at n has k d =
        inr (λ f. f (inr (inr (inr e))), inr (λ h. h.1 n has, inr (λ h. no_letter 101 112 (letter_first 101 l e) (omega arith) h.0, d)))

    -- and of the others, where it spells U and V, only 36 and 37
    module _ (u v : ℕ) (s : Spells l (edge u v)) where
      -- its first fault is the first from 36 on
      pub edge_pair_at : (n : ℕ) → Passed xs n → (k : ℕ) → FirstFault (drop 6 (line_faults room xs l)) k → FirstFault (line_faults room xs l) k
      unfolding FirstFault
      edge_pair_at n has k d =
          edge-first_at n has k
          (inr (
            λ f. f (edge u v) s,
            inr
                (λ h. no_problem 101 h.0 h.1 c (omega arith) h.2, inr (λ h. no_problem 101 h.0 h.1 c (omega arith) h.2, d)),
          ))
        where
          c : get_or l 0 0 ≡ 101
          c = letter_first 101 l e

      -- it spells no other pair
      same_pair : (P : ℕ → ℕ → Type 0) (a b : ℕ) → Spells l (edge a b) → P a b → P u v
      same_pair P a b t h =
          let q = says-one l (edge a b) (edge u v) t s in
          subst₂ P (edge-first a b u v q) (edge-second a b u v q) h

      -- a pair that is in range of the p line's N has no fault 36
      pub not-out : (n : ℕ) → ((a : ℕ) → Passed xs a → a ≡ n) → (OutOfRange n u v → ⊥) → (a b c : ℕ) → Spells l (edge b c) → Passed xs a → OutOfRange a b c → ⊥
      not-out n one h a b c t p o = h (subst (λ (k : ℕ). OutOfRange k u v) (one a p) (same_pair (OutOfRange a) b c t o))

      -- a pair of two vertices has none
      pub edge-faultless : (n : ℕ) → Passed xs n → ((a : ℕ) → Passed xs a → a ≡ n) → Ends n u v → NoFault (line_faults room xs l)
      edge-faultless n has one h =
          none_of (line_faults room xs l)
          (λ f. f (inr (inr (inr e))))
          (λ g. g.1 n has)
          (λ g. no_letter 101 112 c (omega arith) g.0)
          (λ f. f (edge u v) s)
          (λ g. no_problem 101 g.0 g.1 c (omega arith) g.2)
          (λ g. no_problem 101 g.0 g.1 c (omega arith) g.2)
          (λ g. not-out n one (in_range n u v h) g.0 g.1 g.2 g.3 g.4 g.5)
          (λ g. h.differ (same_pair (λ (a b : ℕ). a ≡ b) g.0 g.1 g.2 g.3))
        where
          c : get_or l 0 0 ≡ 101
          c = letter_first 101 l e
