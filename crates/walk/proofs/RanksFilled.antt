-- The ranks from a to below e filled with a mark.
-- Assumes nothing.
use Rattle.std.proofs.Common.{ℕ, ◌+◌, ◌-◌, ◌≤◌, ◌≡◌, ◌∙◌, sym, ap, List, ◌++◌, length, get_or, take, drop, replicate, arith}
use lib.ListN.{get_or-append, length-drop, length-replicate, get_or-replicate}
use lib.Seq.{get_or-take, get_or-drop, get_or-append-add, length-take-le}
use borrow.Rule.Slice.PartMut.{put_mid, mid_of, post_of, same_len_mid}
use Rattle.model.specs.Walk.{Position}
use Rattle.state.specs.NextRank.{RanksOpened}

module _ (p front : Position) (a e : ℕ) (h : a ≤ e) (l : e ≤ length p) (fill : front ≡ replicate (length (mid_of a (e - a) p)) 0) where
  mid_long : length (mid_of a (e - a) p) ≡ e - a
  mid_long = length-take-le (e - a) (drop a p) (let d = length-drop a p in omega arith)

  filled : front ≡ replicate (e - a) 0
  filled = fill ∙ ap (λ (m : ℕ). replicate m 0) mid_long

  long : length front ≡ e - a
  long = ap length filled ∙ length-replicate (e - a) 0

  head : length (take a p) ≡ a
  head = length-take-le a p (omega arith)

  abbrev rest : List ℕ
  rest = post_of a (e - a) p

  -- rank a + k of the result, and what it is there
  past : (k : ℕ) → get_or (put_mid a (e - a) p front) (a + k) 0 ≡ get_or (front ++ rest) k 0
  past k = ap (λ (m : ℕ). get_or (put_mid a (e - a) p front) (m + k) 0) (sym head) ∙ get_or-append-add (take a p) (front ++ rest) k 0

  -- they are open, and the others are as they were
  pub ranks_filled : RanksOpened a e p (put_mid a (e - a) p front)
  ranks_filled =
      record {
        same_length = same_len_mid a (e - a) p front (long ∙ sym (mid_long));
        cleared = λ r x y.
            let k : r ≡ a + (r - a) = omega arith in
            ap (λ (i : ℕ). get_or (put_mid a (e - a) p front) i 0) k ∙ past (r - a)
            ∙ get_or-append front rest 0 (r - a) (omega (arith, long))
            ∙ ap (λ (q : Position). get_or q (r - a) 0) filled ∙ get_or-replicate (e - a) (r - a) 0 0 (omega arith);
        below = λ r x. get_or-append (take a p) (front ++ rest) 0 r (omega (arith, head)) ∙ get_or-take a p r 0 x;
        above = λ r x.
            let k : r ≡ a + (r - a) = omega arith in
            let j : r - a ≡ length front + (r - e) = omega (arith, long) in
            let z : a + (e - a + (r - e)) ≡ r = omega arith in
            ap (λ (i : ℕ). get_or (put_mid a (e - a) p front) i 0) k ∙ past (r - a)
            ∙ ap (λ (i : ℕ). get_or (front ++ rest) i 0) j ∙ get_or-append-add front rest (r - e) 0
            ∙ get_or-drop (e - a) (drop a p) (r - e) 0 ∙ get_or-drop a p (e - a + (r - e)) 0 ∙ ap (λ (i : ℕ). get_or p i 0) z;
      }
