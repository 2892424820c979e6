-- The reader over many lines: it passes lines without fault, stops at the first fault, and at the end accepts what has none.
-- Assumes nothing.
use Prim.Native.Nat.{ℕ, suc, ◌+◌, ◌*◌}
use mathlib.Core.Path.{◌≡◌, refl, sym, ap, ap₂, ◌∙◌, subst}
use mathlib.Core.Logic.{◌≢◌, ◌⊎◌, inl, inr}
use mathlib.Core.Bool.{Bool, true, false, not, cond}
use mathlib.Core.List.Memᴰ
use mathlib.Core.List.{List, [], ◌∷◌, ◌++◌, append_assoc, append-nil}
use native.Mathlib.Omega.{arith}
use lib.ListN.{length, drop}
use lib.Dec.{eqb}
use borrow.Author.Tests.{eqb-true, eqb-false}
use Rattle.model.specs.Text.{Reading, Step, bad, next, line_step, TextReply, refused_at, read_from}
use Rattle.model.specs.Fault.{FirstFault, NoFault}
use Rattle.model.specs.EdgeText.{Line, comment, problem, edge, Spells, SpellAll, edges, Drawn, Passed, line_faults, end_faults, Faultless}
use Rattle.theory.proofs.Calls.Fault.{none_first}
use Rattle.theory.proofs.Text.EdgeTextSpelling.{says-one}
use Rattle.theory.proofs.Text.EdgeTextDrawn.{comments_unpassed, problem-first, problem-second, drawn_in, drawn-one, before-problem, before-edge}
use Rattle.theory.proofs.Text.EdgeTextFaults.{comment-faultless, problem-faultless, edge-faultless}
use Rattle.theory.proofs.Text.EdgeTextStep.{Going, State, Finds, step_finds, has-problem}

-- ---- lines without fault

-- lines without fault spell what they say
pub faultless-spelled : (room : ℕ) (before : List Line) (ls : List (List ℕ)) (xs : List Line) → Faultless room before ls xs → SpellAll ls xs
faultless-spelled room before [] [] f = tt
faultless-spelled room before [] (x ∷ xs) f = absurd f
faultless-spelled room before (l ∷ ls) [] f = absurd f
faultless-spelled room before (l ∷ ls) (x ∷ xs) f = (f.0, faultless-spelled room (before ++ (x ∷ [])) ls xs f.2)

-- one more
pub faultless-more : (room : ℕ) (before : List Line) (ls : List (List ℕ)) (xs : List Line) (l : List ℕ) (x : Line)
    → Faultless room before ls xs → Spells l x → NoFault (line_faults room (before ++ xs) l) → Faultless room before (ls ++ (l ∷ [])) (xs ++ (x ∷ []))
faultless-more room before [] [] l x f s none = (s, subst (λ (ys : List Line). NoFault (line_faults room ys l)) (append-nil before) none, tt)
faultless-more room before [] (y ∷ xs) l x f s none = absurd f
faultless-more room before (k ∷ ls) [] l x f s none = absurd f
faultless-more room before (k ∷ ls) (y ∷ xs) l x f s none = (
  f.0,
  f.1,
  faultless-more room (before ++ (y ∷ [])) ls xs l x f.2 s
      (subst (λ (ys : List Line). NoFault (line_faults room ys l)) (sym (append_assoc before (y ∷ []) xs)) none),
)

-- the lines of a graph are without fault
module _ (room n m : ℕ) where
  line-faultless : (before xs : List Line) (l : List ℕ) (x : Line) → Drawn room n m (before ++ (x ∷ xs)) → Spells l x → NoFault (line_faults room before l)
  line-faultless before xs l comment d s = comment-faultless room before l s
  line-faultless before xs l (problem a b) d s =
      let whole = before ++ (problem a b ∷ xs) in
      let a-is : a ≡ n = problem-first a b n m (drawn-one room n m whole d a b (Memᴰ.append_right before (Memᴰ.head refl))) in
      let a-a-is : a * a ≡ n * n = ap (λ (k : ℕ). k * k) a-is in
      let small = d.small in
      let fits = d.fits in
      problem-faultless room before l (101 ∷ 100 ∷ 103 ∷ 101 ∷ 32 ∷ s.first ++ (32 ∷ s.second), s.bytes)
      (comments_unpassed before (before-problem room n m whole d before xs a b refl)) a b s (omega arith) (omega arith)
  line-faultless before xs l (edge u v) d s =
      let whole = before ++ (edge u v ∷ xs) in
      edge-faultless room before l (s.first ++ (32 ∷ s.second), s.bytes) u v s n (m, before-edge room n m whole d before xs u v refl)
      (λ a p. problem-first a p.0 n m (drawn-one room n m whole d a p.0 (Memᴰ.append_left (edge u v ∷ xs) p.1)))
      (d.ends u v (Memᴰ.append_right before (Memᴰ.head refl)))

  -- the lines of a graph, one after another, are without fault
  pub drawn-faultless : (before : List Line) (ls : List (List ℕ)) (xs : List Line) → Drawn room n m (before ++ xs) → SpellAll ls xs → Faultless room before ls xs
  drawn-faultless before [] [] d s = tt
  drawn-faultless before [] (x ∷ xs) d s = absurd s
  drawn-faultless before (l ∷ ls) [] d s = absurd s
  drawn-faultless before (l ∷ ls) (x ∷ xs) d s = (
    s.0,
    line-faultless before xs l x d s.0,
    drawn-faultless (before ++ (x ∷ [])) ls xs (subst (Drawn room n m) (sym (append_assoc before (x ∷ []) xs)) d) s.1,
  )

-- ---- the reader at a line, and at the end

module _ (slice : List ℕ) where
  -- it stops at the line with the line's first fault, or goes on with what the line says
  abbrev pub LineReads : Reading → List Line → List ℕ → Type 0
  LineReads r xs l =
      ((k : ℕ) × (k ≢ 0) × FirstFault (line_faults (length slice) xs l) k × ((at : ℕ) (ls : List (List ℕ)) → read_from at r (l ∷ ls) slice ≡ refused_at k at r slice))
      ⊎ ((x : Line) × (s : Reading) × Spells l x × NoFault (line_faults (length slice) xs l) × State (length slice) (xs ++ (x ∷ [])) s
      × ((at : ℕ) (ls : List (List ℕ)) → read_from at r (l ∷ ls) slice ≡ read_from (suc at) s ls slice))

  -- what the reader does at a line
  pub line_reads : (r : Reading) (xs : List Line) (l : List ℕ) → State (length slice) xs r → LineReads r xs l
  unfolding read_from
  line_reads r xs l st = go (line_step (length slice) r l) refl (step_finds (length slice) xs l r st)
    where
      go : (a : Step) → line_step (length slice) r l ≡ a → Finds (length slice) xs l a → LineReads r xs l
      go (bad k) e f = inl (k, f.0, f.1, λ at ls. rw (e, read_from))
      go (next s) e f = inr (f.0, s, f.1, f.2, f.3, λ at ls. rw (e, read_from))

  -- the accepting reply
  abbrev pub accepted_with : Reading → TextReply
  accepted_with r =
      record {
        refused = 0;
        vertices = r.vertices;
        stated = r.stated;
        line = 0;
        slice = r.table ++ drop (r.vertices * r.vertices) slice;
      }

  -- it refuses with the first fault at the end, or accepts
  abbrev pub EndReads : ℕ → Reading → List Line → Type 0
  EndReads at r xs =
      ((k : ℕ) × (k ≢ 0) × FirstFault (end_faults xs) k × (read_from at r [] slice ≡ refused_at k at r slice))
      ⊎ (NoFault (end_faults xs) × Going (length slice) xs r × (r.stated ≡ edges xs) × (read_from at r [] slice ≡ accepted_with r))

  -- what it does at the end
  pub end_reads : (at : ℕ) (r : Reading) (xs : List Line) → State (length slice) xs r → EndReads at r xs
  unfolding read_from FirstFault
  end_reads at r xs (inl (e, h)) =
      inl (33, λ z. omega arith, inl (comments_unpassed xs h, refl), subst (λ (s : Reading). read_from at s [] slice ≡ refused_at 33 at s slice) (sym e) refl)
  end_reads at r xs (inr g) = go (eqb r.edges r.stated) refl
    where
      has : Passed xs r.vertices
      has = has-problem (length slice) xs r g

      at_end : (b : Bool) → eqb r.edges r.stated ≡ b → read_from at r [] slice ≡ cond (not b) (refused_at 39 at r slice) (accepted_with r)
      at_end b e =
          ap₂ (λ (p q : Bool). cond (not p) (refused_at 33 at r slice) (cond (not q) (refused_at 39 at r slice) (accepted_with r))) g.passed e

      go : (b : Bool) → eqb r.edges r.stated ≡ b → EndReads at r xs
      go true e =
          let counted : r.stated ≡ edges xs = sym (eqb-true r.edges r.stated e) ∙ g.count in
          inr (
            (
              λ f. f r.vertices has,
              (
                λ f. f.3 (problem-second f.0 f.1 r.vertices r.stated (drawn-one (length slice) r.vertices r.stated xs g.drawn f.0 f.1 f.2) ∙ counted),
                tt,
              ),
            ),
            g,
            counted,
            at_end true e,
          )
      go false e =
          inl (
            39,
            λ z. omega arith,
            inr (
              λ f. f r.vertices has,
              inl ((r.vertices, r.stated, drawn_in (length slice) r.vertices r.stated xs g.drawn, λ q. eqb-false r.edges r.stated e (g.count ∙ sym q)), refl),
            ),
            at_end false e,
          )

  -- ---- over lines without fault

  -- the reading after the lines ls, when all lines so far say ys
  pub record RanOver (r : Reading) (ls : List (List ℕ)) (ys : List Line) : Type 0 where
    pub after : Reading
    pub state : State (length slice) ys after
    pub reads : (at : ℕ) (rest : List (List ℕ)) → read_from at r (ls ++ rest) slice ≡ read_from (at + length ls) after rest slice

  -- the reader passes all lines without fault
  pub run : (r : Reading) (xs : List Line) (ls : List (List ℕ)) (ys : List Line) → State (length slice) xs r → Faultless (length slice) xs ls ys
      → RanOver r ls (xs ++ ys)
  run r xs [] [] st f =
      record {
        after = r;
        state = subst (λ (zs : List Line). State (length slice) zs r) (sym (append-nil xs)) st;
        reads = λ at rest. ap (λ (k : ℕ). read_from k r rest slice) (omega arith);
      }
  run r xs [] (y ∷ ys) st f = absurd f
  run r xs (l ∷ ls) [] st f = absurd f
  run r xs (l ∷ ls) (y ∷ ys) st f = go (line_reads r xs l st) (λ s t. run s (xs ++ (y ∷ [])) ls ys t f.2)
    where
      go : LineReads r xs l → ((s : Reading) → State (length slice) (xs ++ (y ∷ [])) s → RanOver s ls (xs ++ (y ∷ []) ++ ys)) → RanOver r (l ∷ ls) (xs ++ (y ∷ ys))
      go (inl (k, faulty, first, e)) ih = absurd (faulty (none_first (line_faults (length slice) xs l) k f.1 first))
      go (inr (x, s, spelled, none, t, e)) ih =
          let ran = ih s (subst (λ (z : Line). State (length slice) (xs ++ (z ∷ [])) s) (says-one l x y spelled f.0) t) in
          record {
            after = ran.after;
            state = subst (λ (zs : List Line). State (length slice) zs ran.after) (append_assoc xs (y ∷ []) ys) ran.state;
            reads = λ at rest. e at (ls ++ rest) ∙ ran.reads (suc at) rest ∙ ap (λ (k : ℕ). read_from k ran.after rest slice) (omega arith);
          }
