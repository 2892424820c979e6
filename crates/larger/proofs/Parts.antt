-- What is left of a lent slice where some of its entries are written.
-- Assumes nothing.
use Prim.Native.Nat.{ℕ, ◌+◌, ◌-◌, ◌≤◌, ◌<◌}
use mathlib.Core.Path.{◌≡◌, sym, ap, ◌∙◌}
use mathlib.Core.List.{List}
use native.Mathlib.Omega.{arith}
use lib.ListN.{length, get_or, drop}
use lib.Seq.{get_or-take, get_or-drop}
use borrow.Rule.Slice.PartMut.{put_mid, same_len_mid}
use Rattle.std.proofs.lemmas.Slice.{take-put_mid_below, drop-put_mid, between-put_mid}
use Rattle.theory.specs.Parts.{Kept}
use Rattle.theory.proofs.Basics.Parts.{part_length, part_at}

-- the entries a to b - 1 of the slice w are written, and are those of xs then
module _ (a b : ℕ) (w xs : List ℕ) (order : a ≤ b) (inside : b ≤ length w) (long : length xs ≡ b - a) where
  abbrev after : List ℕ
  after = put_mid a (b - a) w xs

  pub put_at : (e : ℕ) → e < b - a → get_or after (a + e) 0 ≡ get_or xs e 0
  put_at e h = sym (part_at after a (b - a) e h) ∙ ap (λ (l : List ℕ). get_or l e 0) (between-put_mid a (b - a) w xs b (omega arith) long)

  -- every other entry is as it was
  pub put_kept : Kept a b w after
  put_kept =
      record {
        below = λ e h.
            sym (get_or-take a after e 0 h)
            ∙ ap (λ (l : List ℕ). get_or l e 0) (take-put_mid_below a (b - a) w xs a (omega arith) (omega arith))
            ∙ get_or-take a w e 0 h;
        above = λ e h.
            sym (past after e h)
            ∙ ap (λ (l : List ℕ). get_or l (e - b) 0) (drop-put_mid a (b - a) w xs b (omega arith) (omega arith) long)
            ∙ past w e h;
        length-kept = same_len_mid a (b - a) w xs (long ∙ sym (part_length w a (b - a) (omega arith)));
      }
    where
      past : (l : List ℕ) (e : ℕ) → b ≤ e → get_or (drop b l) (e - b) 0 ≡ get_or l e 0
      past l e h = get_or-drop b l (e - b) 0 ∙ ap (λ (i : ℕ). get_or l i 0) (omega arith)
