-- The taken vertices, which stand in part 1 of the work slice, as a part that is lent.
-- Assumes nothing.
use Rattle.std.proofs.Common.{ℕ, ◌+◌, ◌-◌, ◌≤◌, ◌≡◌, ◌∙◌, ap, not, List, length, get_or, take, drop, arith}
use Rattle.model.specs.Below.{any}
use Rattle.model.specs.Graph.{Graph}
use Rattle.theory.specs.Parts.{part}
use Rattle.theory.proofs.Basics.Parts.{part_length, part_at}
use Rattle.theory.proofs.Basics.Tests.{any_same}

module _ (w : List ℕ) (n k : ℕ) where
  -- it is the first k entries of the part
  pub vertices-lent : take (n + k - n) (drop n w) ≡ part w n k
  vertices-lent = let e : n + k - n ≡ k = omega arith in ap (λ (m : ℕ). take m (drop n w)) e

  -- some vertex in it is not joined to v where that is so in the whole slice
  pub part-misses : n + k ≤ length w → (G : Graph) (v : ℕ)
      → any (length (part w n k)) (λ j. not (G.joined (get_or (part w n k) j 0) v)) ≡ any k (λ j. not (G.joined (get_or w (n + j) 0) v))
  part-misses room G v =
      ap (λ (m : ℕ). any m (λ j. not (G.joined (get_or (part w n k) j 0) v))) (part_length w n k room)
      ∙ any_same k _ _ (λ j h. ap (λ (u : ℕ). not (G.joined u v)) (part_at w n k j h))
