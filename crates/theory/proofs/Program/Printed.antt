-- What is printed of a list of records is a line for each group, and what is printed page by page is what is printed of the joined output.
-- Assumes nothing.
use Prim.Native.Nat.{ℕ, suc, ◌+◌}
use mathlib.Core.Path.{◌≡◌, refl, sym, ap, ◌∙◌, subst⁻¹}
use mathlib.Core.List.{List, [], ◌∷◌, ◌++◌, append_assoc, append-nil}
use native.Mathlib.Omega.{arith}
use lib.ListN.{length, take}
use Rattle.model.specs.Graph.{Graph}
use Rattle.model.specs.Groups.{Settings, outgoing}
use Rattle.model.specs.Walk.{Position, records, full_sets, full_list}
use Rattle.model.specs.Listing.{taken_set, taken_list, record_with, record_of, rules}
use Rattle.model.specs.Calls.{PageReply}
use Rattle.model.specs.Demand.{joined_output}
use Rattle.model.specs.Program.{numeral, group_line, group_lines, held}
use Rattle.theory.specs.Replies.{gone, Chain}
use Rattle.theory.specs.Printed.{printed_from, printed, printed_pages}

vertices-printed : (v : ℕ) (vs rest : List ℕ) → printed_from 0 (suc (length vs)) (v ∷ (vs ++ rest)) ≡ group_line (v ∷ vs) ++ printed_from 0 0 rest
unfolding printed_from group_line
vertices-printed v [] rest = sym (append_assoc (numeral (suc v)) (10 ∷ []) (printed_from 0 0 rest))
vertices-printed v (w ∷ vs) rest =
    ap (λ (l : List ℕ). numeral (suc v) ++ (32 ∷ l)) (vertices-printed w vs rest)
    ∙ sym (append_assoc (numeral (suc v)) (32 ∷ group_line (w ∷ vs)) (printed_from 0 0 rest))

-- a record is printed as its group's line, whatever its outgoing edges
pub record_printed : (edges : ℕ) (vs rest : List ℕ) → printed (record_with edges vs ++ rest) ≡ group_line vs ++ printed rest
unfolding printed printed_from record_with group_line
record_printed edges [] rest = refl
record_printed edges (v ∷ vs) rest = vertices-printed v vs rest

module _ (G : Graph) (s : Settings) where
  records_then : (ps : List Position) (es : List ℕ) → printed (records (rules G s) ps ++ es) ≡ group_lines G ps ++ printed es
  unfolding records group_lines record_of
  records_then [] es = refl
  records_then (p ∷ ps) es =
      ap printed (append_assoc (record_of G p) (records (rules G s) ps) es)
      ∙ record_printed (outgoing G (taken_set G p)) (taken_list G p) (records (rules G s) ps ++ es)
      ∙ ap (λ (l : List ℕ). group_line (taken_list G p) ++ l) (records_then ps es)
      ∙ sym (append_assoc (group_line (taken_list G p)) (group_lines G ps) (printed es))

  -- records are printed as the lines of their groups, one by one
  pub records-printed : (ps : List Position) → printed (records (rules G s) ps) ≡ group_lines G ps
  unfolding printed printed_from
  records-printed ps =
      ap printed (sym (append-nil (records (rules G s) ps))) ∙ records_then ps [] ∙ append-nil (group_lines G ps)

  -- the lines of groups one after the other
  pub lines-append : (ps qs : List Position) → group_lines G (ps ++ qs) ≡ group_lines G ps ++ group_lines G qs
  unfolding group_lines
  lines-append [] qs = refl
  lines-append (p ∷ ps) qs =
      ap (λ (l : List ℕ). group_line (taken_list G p) ++ l) (lines-append ps qs)
      ∙ sym (append_assoc (group_line (taken_list G p)) (group_lines G ps) (group_lines G qs))

  -- so the full list is printed as a line for each of its groups
  pub list-printed : (n : ℕ) → printed (full_list (rules G s) n) ≡ group_lines G (full_sets (rules G s) n)
  unfolding full_list
  list-printed n = records-printed (full_sets (rules G s) n)

  -- what follows whole records is printed after them
  pub printed-append : (ps : List Position) (es : List ℕ) → printed (records (rules G s) ps ++ es) ≡ printed (records (rules G s) ps) ++ printed es
  printed-append ps es = records_then ps es ∙ ap (λ (l : List ℕ). l ++ printed es) (sym (records-printed ps))

  -- page by page the same is printed as of the joined output
  pub pages-printed : (rs : List PageReply) (p : Position) → Chain (rules G s) p rs → printed_pages rs ≡ printed (joined_output rs)
  unfolding printed_pages joined_output printed printed_from
  pages-printed [] p c = refl
  pages-printed (r ∷ rs) p c =
      ap (λ (l : List ℕ). printed (take r.used r.output) ++ l) (pages-printed rs r.position c.1)
      ∙ subst⁻¹ (λ (es : List ℕ). printed es ++ printed (joined_output rs) ≡ printed (es ++ joined_output rs)) c.0.0.wrote
      (sym (printed-append (gone (rules G s) r.steps p) (joined_output rs)))

-- a total that is held on the way is the total held at the end
pub held-add : (a b : ℕ) → held (held a + b) ≡ held (a + b)
held-add a b = omega arith
