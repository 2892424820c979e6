-- Two texts byte by byte that differ only in a repeated e line: one edge in one direction, and in both.
-- Assumes nothing.
use Prim.Native.Nat.{ℕ, ◌+◌, ◌<◌}
use mathlib.Core.Path.{◌≡◌, refl, sym, ◌∙◌}
use mathlib.Core.Logic.{inl, inr, ⊎_elim}
use mathlib.Core.List.Memᴰ
use mathlib.Core.List.{List, [], ◌∷◌, Memᴰ}
use native.Mathlib.Omega.{arith}
use Rattle.model.specs.Text.{lines_of}
use Rattle.model.specs.EdgeText.{Number, Line, problem, edge, Spells, edges, NoProblem}
use Rattle.model.specs.Repeats.{none, kept, repeated, DifferInRepeats}
use Rattle.model.specs.Worked.{on_three, e_text}
use Rattle.theory.proofs.Text.EdgeTextLines.{lines_hold}
use Rattle.theory.proofs.Text.EdgeTextDrawn.{edge-not-problem, problem-second}

-- a digit is a number
digit : (d : ℕ) → d < 10 → Number ((48 + d) ∷ []) d
digit d h =
    record {
      not_empty = omega arith;
      at_most = omega arith;
      digits = λ b m. let e = Memᴰ.eq_of_singleton m in (omega arith, omega arith);
      unpadded = inl refl;
      decimal = omega arith;
    }

-- the lines `p edge 3 M` and `e U V`
three-spelled : (m : ℕ) → m < 10 → Spells (112 ∷ 32 ∷ 101 ∷ 100 ∷ 103 ∷ 101 ∷ 32 ∷ 51 ∷ 32 ∷ (48 + m) ∷ []) (problem 3 m)
three-spelled m h = record { first = 51 ∷ []; second = (48 + m) ∷ []; bytes = refl; first-number = digit 3 (omega arith); second-number = digit m h }

edge-spelled : (u v : ℕ) → u < 10 → v < 10 → Spells (101 ∷ 32 ∷ (48 + u) ∷ 32 ∷ (48 + v) ∷ []) (edge u v)
edge-spelled u v h g =
    record { first = (48 + u) ∷ []; second = (48 + v) ∷ []; bytes = refl; first-number = digit u h; second-number = digit v g }

-- the only M
one-stated : (n m : ℕ) (xs : List Line) → NoProblem xs → m ≡ edges xs → (a b : ℕ) → Memᴰ (problem a b) (problem n m ∷ xs) → b ≡ edges xs
one-stated n m xs f e a b i = ⊎_elim (λ q. problem-second a b n m q ∙ e) (λ q. absurd (f a b q)) (Memᴰ.cases_cons i)

no_problem : (u v : ℕ) (xs : List Line) → NoProblem xs → NoProblem (edge u v ∷ xs)
no_problem u v xs f n m i = ⊎_elim (λ q. edge-not-problem u v n m (sym q)) (f n m) (Memᴰ.cases_cons i)

nothing : NoProblem []
nothing n m i = Memᴰ.not-nil i

-- the text of one edge in one direction, and in both
pub both_directions : DifferInRepeats (on_three 1 (e_text 1 2 [])) (on_three 2 (e_text 1 2 (e_text 2 1 [])))
unfolding lines_of
both_directions =
    record {
      said = problem 3 1 ∷ edge 1 2 ∷ [];
      other-said = problem 3 2 ∷ edge 1 2 ∷ edge 2 1 ∷ [];
      text-counted = record {
        lines = lines_of (on_three 1 (e_text 1 2 []));
        cut = lines_hold (on_three 1 (e_text 1 2 []));
        spelled = (three-spelled 1 (omega arith), (edge-spelled 1 2 (omega arith) (omega arith), tt));
        stated = one-stated 3 1 (edge 1 2 ∷ []) (no_problem 1 2 [] nothing) refl;
      };
      other-counted = record {
        lines = lines_of (on_three 2 (e_text 1 2 (e_text 2 1 [])));
        cut = lines_hold (on_three 2 (e_text 1 2 (e_text 2 1 [])));
        spelled = (three-spelled 2 (omega arith), (edge-spelled 1 2 (omega arith) (omega arith), (edge-spelled 2 1 (omega arith) (omega arith), tt)));
        stated = one-stated 3 2 (edge 1 2 ∷ edge 2 1 ∷ []) (no_problem 1 2 (edge 2 1 ∷ []) (no_problem 2 1 [] nothing)) refl;
      };
      only = record {
        shared = problem 3 1 ∷ edge 1 2 ∷ [];
        first = kept refl (kept refl none);
        second = kept refl (kept refl (repeated (inr (Memᴰ.tail (Memᴰ.head refl))) nothing none));
      };
    }
