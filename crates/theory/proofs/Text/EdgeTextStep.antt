-- One step of the reader, on one line: it finds the line's first fault, or it goes on with what the line says.
-- Assumes nothing.
use Prim.Native.Nat.{ℕ, suc, ◌-◌, ◌*◌, ◌<◌}
use mathlib.Core.Path.{◌≡◌, refl, sym, ap, ◌∙◌, subst, subst₂}
use mathlib.Core.Logic.{◌≢◌, ◌⊎◌, inl, inr, ⊎_elim}
use mathlib.Core.Bool.{Bool, true, false, ◌||◌, not, false≢true}
use mathlib.Core.List.{List, [], ◌∷◌, ◌++◌}
use native.Mathlib.Omega.{arith}
use lib.ListN.{replicate}
use lib.Dec.{ltb, eqb}
use borrow.Author.Tests.{ltb-true, ltb-false, eqb-true, eqb-false}
use Rattle.model.specs.Graph.{with_pair}
use Rattle.model.specs.Text.{fields_of, Reading, Step, bad, next, fault, p_line, e_line, p_fields, e_fields, line_step}
use Rattle.model.specs.Fault.{FirstFault, NoFault}
use Rattle.model.specs.EdgeText.{Letter, Line, comment, problem, edge, Spells, edges, Ends, Drawn, Table, Passed, OutOfRange, line_faults}
use Rattle.theory.proofs.Basics.Tests.{Test, test_or, test_lt, test_eq}
use Rattle.theory.proofs.Text.EdgeTextSpelling.{letter_first, Kind, of_none, of_comment, of_problem, of_edge, kind, edge-step, edge_view, problem-step, problem_view}
use Rattle.theory.proofs.Text.EdgeTextFaults.{comment-faultless, few-vertices, problem-first_at, problem-faultless, edge-first_at, edge_pair_at, not-out_of_range, not-out, edge-faultless}
use Rattle.theory.proofs.Text.EdgeTextDrawn.{comment-not-problem, comment-not-edge, edge-not-problem, problem-first, edge-first, edge-second, edges-append, Comments, comments-more, comments_unpassed, comments_joinless, begun, begun_edges, drawn_in, drawn-one, drawn-more}
use Rattle.theory.proofs.Text.EdgeTextTable.{table_none, table_keeps, table-joins}

-- ---- the reader's state after lines

-- what it holds before the first line
abbrev pub start : Reading
start = record { passed = false; vertices = 0; stated = 0; edges = 0; table = [] }

-- what it holds from the p line on
pub record Going (room : ℕ) (xs : List Line) (r : Reading) : Type 0 where
  pub passed : r.passed ≡ true
  pub drawn : Drawn room r.vertices r.stated xs
  pub count : r.edges ≡ edges xs
  pub table : Table r.vertices xs r.table

-- the p line that it holds is among the lines, and there is no other
pub has-problem : (room : ℕ) (xs : List Line) (r : Reading) → Going room xs r → Passed xs r.vertices
has-problem room xs r g = (r.stated, drawn_in room r.vertices r.stated xs g.drawn)

pub one-problem : (room : ℕ) (xs : List Line) (r : Reading) → Going room xs r → (n : ℕ) → Passed xs n → n ≡ r.vertices
one-problem room xs r g n p = problem-first n p.0 r.vertices r.stated (drawn-one room r.vertices r.stated xs g.drawn n p.0 p.1)

-- what it holds after lines that say xs: before the p line, or from it on
abbrev pub State : ℕ → List Line → Reading → Type 0
State room xs r = ((r ≡ start) × Comments xs) ⊎ Going room xs r

-- the reading that an e line leaves
abbrev pub joined_by : Reading → ℕ → ℕ → Reading
joined_by r u v =
    record {
      passed = true;
      vertices = r.vertices;
      stated = r.stated;
      edges = suc r.edges;
      table = with_pair 1 r.vertices (u - 1) (v - 1) r.table;
    }

-- what a step finds in the line l after lines that say xs
abbrev pub Finds : ℕ → List Line → List ℕ → Step → Type 0
Finds room xs l (bad k) = (k ≢ 0) × FirstFault (line_faults room xs l) k
Finds room xs l (next s) = (x : Line) × Spells l x × NoFault (line_faults room xs l) × State room (xs ++ (x ∷ [])) s

-- ---- the reader's tests of U and V

-- 36: U or V is out of range
abbrev pub out_by : ℕ → ℕ → ℕ → Bool
out_by n u v = eqb u 0 || ltb n u || eqb v 0 || ltb n v

-- says whether U or V is out of range
pub out_test : (n u v : ℕ) → Test (out_by n u v) (OutOfRange n u v)
out_test n u v = (λ e. there (tests.0 e), λ o. tests.1 (back o))
  where
    tests : Test (out_by n u v) ((((u ≡ 0) ⊎ (n < u)) ⊎ (v ≡ 0)) ⊎ (n < v))
    tests = test_or (test_or (test_or (test_eq u 0) (test_lt n u)) (test_eq v 0)) (test_lt n v)

    there : (((u ≡ 0) ⊎ (n < u)) ⊎ (v ≡ 0)) ⊎ (n < v) → OutOfRange n u v
    there (inl (inl (inl q))) = inl (omega arith)
    there (inl (inl (inr q))) = inr (inl q)
    there (inl (inr q)) = inr (inr (inl (omega arith)))
    there (inr q) = inr (inr (inr q))

    back : OutOfRange n u v → (((u ≡ 0) ⊎ (n < u)) ⊎ (v ≡ 0)) ⊎ (n < v)
    back (inl q) = inl (inl (inl (omega arith)))
    back (inr (inl q)) = inl (inl (inr q))
    back (inr (inr (inl q))) = inl (inr (omega arith))
    back (inr (inr (inr q))) = inr q

-- ---- the step

module _ (room : ℕ) (xs : List Line) (l : List ℕ) where
  -- the tests of a p line
  problem_finds : Letter 112 l → Comments xs → (n m : ℕ) → Spells l (problem n m) → Finds room xs l (p_line room n m)
  unfolding p_line fault FirstFault
  problem_finds p h n m s = go (ltb 1024 n) (ltb room (n * n)) refl refl
    where
      unpassed : (a : ℕ) → Passed xs a → ⊥
      unpassed = comments_unpassed xs h

      go : (a b : Bool) → ltb 1024 n ≡ a → ltb room (n * n) ≡ b
          → Finds room xs l (fault 35 a (fault 40 b (next (record { passed = true; vertices = n; stated = m; edges = 0; table = replicate (n * n) 0 }))))
      go true b ea eb =
          (λ z. omega arith, problem-first_at room xs l p unpassed 35 (inr (λ f. f (problem n m) s, inl ((n, m, s, ltb-true 1024 n ea), refl))))
      go false true ea eb = (
        λ z. omega arith,
        problem-first_at room xs l p unpassed 40
            (inr (
              λ f. f (problem n m) s,
              inr
                  (λ g. few-vertices room xs l n m s (ltb-false 1024 n ea) g.0 g.1 g.2 g.3, inl ((n, m, s, ltb-true room (n * n) eb), refl)),
            )),
      )
      go false false ea eb =
          let small = ltb-false 1024 n ea in
          let fits = ltb-false room (n * n) eb in (
            problem n m,
            s,
            problem-faultless room xs l p unpassed n m s small fits,
            inr
                (record {
                  passed = refl;
                  drawn = begun room n m xs h small fits;
                  count = begun_edges xs n m h;
                  table = table_none n (xs ++ (problem n m ∷ [])) (comments_joinless xs h n m);
                }),
          )

  -- the tests of an e line
  module _ (r : Reading) (g : Going room xs r) where
    module _ (e : Letter 101 l) (u v : ℕ) (s : Spells l (edge u v)) where
      in_test : out_by r.vertices u v ≡ false → OutOfRange r.vertices u v → ⊥
      in_test h o = false≢true (sym h ∙ (out_test r.vertices u v).1 o)

      -- the bytes of U - 1 and V - 1, for U and V in range
      module _ (h : Ends r.vertices u v) where
        u_is : suc (u - 1) ≡ u
        u_is = let q = h.u_from in omega arith

        v_is : suc (v - 1) ≡ v
        v_is = let q = h.v_from in omega arith

        u_below : u - 1 < r.vertices
        u_below = let p = h.u_from in let q = h.u_to in omega arith

        v_below : v - 1 < r.vertices
        v_below = let p = h.v_from in let q = h.v_to in omega arith

        joined_going : Going room (xs ++ (edge u v ∷ [])) (joined_by r u v)
        joined_going =
            record {
              passed = refl;
              drawn = drawn-more room r.vertices r.stated xs g.drawn (edge u v)
                  (λ a b q. edge-not-problem u v a b (sym q))
                  (λ a b q. subst₂ (Ends r.vertices) (sym (edge-first a b u v q)) (sym (edge-second a b u v q)) h);
              count = let q = edges-append xs (edge u v ∷ []) in let c = g.count in omega arith;
              table = subst₂ (λ (a b : ℕ). Table r.vertices (xs ++ (edge a b ∷ [])) (with_pair 1 r.vertices (u - 1) (v - 1) r.table)) u_is v_is
                  (table-joins r.vertices xs r.table g.table (u - 1) (v - 1) u_below v_below);
            }

      edge_finds : Finds room xs l (e_line r u v)
      unfolding e_line fault FirstFault
      edge_finds = go (out_by r.vertices u v) (eqb u v) refl refl
        where
          go : (a b : Bool) → out_by r.vertices u v ≡ a → eqb u v ≡ b → Finds room xs l (fault 36 a (fault 37 b (next (joined_by r u v))))
          go true b ea eb =
              (λ z. omega arith, edge_pair_at room xs l e u v s r.vertices (has-problem room xs r g) 36 (inl ((r.vertices, u, v, s, has-problem room xs r g, (out_test r.vertices u v).0 ea), refl)))
          go false true ea eb = (
            λ z. omega arith,
            edge_pair_at room xs l e u v s r.vertices (has-problem room xs r g) 37
                (inr (
                  λ f. not-out room xs l e u v s r.vertices (one-problem room xs r g) (in_test ea) f.0 f.1 f.2 f.3 f.4 f.5,
                  inl ((u, v, s, eqb-true u v eb), refl),
                )),
          )
          go false false ea eb =
              let h = not-out_of_range r.vertices u v (in_test ea) (eqb-false u v eb) in
              (edge u v, s, edge-faultless room xs l e u v s r.vertices (has-problem room xs r g) (one-problem room xs r g) h, inr (joined_going h))

  -- a comment changes nothing
  after-comment : (r : Reading) → State room xs r → State room (xs ++ (comment ∷ [])) r
  after-comment r (inl (e, h)) = inl (e, comments-more xs h)
  after-comment r (inr g) =
      inr
      (record {
        passed = g.passed;
        drawn = drawn-more room r.vertices r.stated xs g.drawn comment comment-not-problem
            (λ u v e. absurd (comment-not-edge u v e));
        count = let q = edges-append xs (comment ∷ []) in let c = g.count in omega arith;
        table = table_keeps r.vertices xs comment r.table comment-not-edge g.table;
      })

  -- the step finds the first fault, or what the line says
  pub step_finds : (r : Reading) → State room xs r → Finds room xs l (line_step room r l)
  unfolding fault FirstFault
  step_finds r st = go (kind l) st
    where
      as_step : (a : Step) → line_step room r l ≡ a → Finds room xs l a → Finds room xs l (line_step room r l)
      as_step a e f = subst (Finds room xs l) (sym e) f

      go : Kind l → State room xs r → Finds room xs l (line_step room r l)
      go (of_none f e) st = as_step (bad 31) (e room r) (λ z. omega arith, inl (f, refl))
      go (of_comment s e) st = as_step (next r) (e room r) (comment, s, comment-faultless room xs l s, after-comment r st)
      go (of_problem p e) (inl (q, h)) =
          let first : line_step room r l ≡ p_fields room (fields_of l) = e room r ∙ ap (λ (x : Reading). fault 34 x.passed (p_fields room (fields_of l))) q in
          ⊎_elim
          (λ t. as_step (p_line room t.0 t.1) (first ∙ problem-step room l t.0 t.1 t.2) (problem_finds p h t.0 t.1 t.2))
          (λ t. as_step (bad 32) (first ∙ t.0) (λ z. omega arith, problem-first_at room xs l p (comments_unpassed xs h) 32 (inl (t.1, refl))))
          (problem_view room l p)
      go (of_problem p e) (inr g) =
          as_step (bad 34) (e room r ∙ ap (λ (b : Bool). fault 34 b (p_fields room (fields_of l))) g.passed) (
            λ z. omega arith,
            inr (
              λ f. f (inr (inr (inl p))),
              inr
                  (λ f. let a = letter_first 112 l p in let b = letter_first 101 l f.0 in omega arith, inl ((p, (r.vertices, has-problem room xs r g)), refl)),
            ),
          )
      go (of_edge p e) (inl (q, h)) =
          as_step (bad 33) (e room r ∙ ap (λ (x : Reading). fault 33 (not x.passed) (e_fields r (fields_of l))) q)
          (λ z. omega arith, inr (λ f. f (inr (inr (inr p))), inl ((p, comments_unpassed xs h), refl)))
      go (of_edge p e) (inr g) =
          let later : line_step room r l ≡ e_fields r (fields_of l) = e room r ∙ ap (λ (b : Bool). fault 33 (not b) (e_fields r (fields_of l))) g.passed in
          ⊎_elim
          (λ t. as_step (e_line r t.0 t.1) (later ∙ edge-step r l t.0 t.1 t.2) (edge_finds r g p t.0 t.1 t.2))
          (λ t. as_step (bad 32) (later ∙ t.0) (λ z. omega arith, edge-first_at room xs l p r.vertices (has-problem room xs r g) 32 (inl (t.1, refl))))
          (edge_view r l p)
