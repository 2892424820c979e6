-- The lines of a graph one after another: comments, the p line, and then lines that each add a pair or nothing.
-- Assumes nothing.
use Prim.Native.Nat.{ℕ, ◌+◌, ◌*◌, ◌≤◌}
use mathlib.Core.Path.{◌≡◌, refl, sym, ap, ◌∙◌, subst}
use mathlib.Core.Logic.{inl, inr, ⊎_elim}
use mathlib.Core.List.Memᴰ
use mathlib.Core.List.{List, [], ◌∷◌, ◌++◌, append_assoc, Memᴰ}
use native.Mathlib.Omega.{arith}
use lib.ListN.{get_or, drop}
use Rattle.model.specs.EdgeText.{Line, comment, problem, edge, edges, HasPair, Ends, Drawn, Passed}
use Rattle.theory.proofs.Text.EdgeTextSpelling.{letter_of}

-- ---- three kinds of line

-- lines of different kinds are different
pub comment-not-problem : (n m : ℕ) → problem n m ≡ comment → ⊥
comment-not-problem n m e = let q = ap letter_of e in omega arith

pub comment-not-edge : (u v : ℕ) → edge u v ≡ comment → ⊥
comment-not-edge u v e = let q = ap letter_of e in omega arith

pub edge-not-problem : (u v n m : ℕ) → edge u v ≡ problem n m → ⊥
edge-not-problem u v n m e = let q = ap letter_of e in omega arith

abbrev numbers_of_lem : Line → ℕ × ℕ
numbers_of_lem comment = (0, 0)
numbers_of_lem (problem n m) = (n, m)
numbers_of_lem (edge u v) = (u, v)

-- and equal lines have equal numbers
pub problem-first : (n m a b : ℕ) → problem n m ≡ problem a b → n ≡ a
problem-first n m a b e = ap (λ (x : Line). (numbers_of_lem x).0) e

pub problem-second : (n m a b : ℕ) → problem n m ≡ problem a b → m ≡ b
problem-second n m a b e = ap (λ (x : Line). (numbers_of_lem x).1) e

pub edge-first : (u v a b : ℕ) → edge u v ≡ edge a b → u ≡ a
edge-first u v a b e = ap (λ (x : Line). (numbers_of_lem x).0) e

pub edge-second : (u v a b : ℕ) → edge u v ≡ edge a b → v ≡ b
edge-second u v a b e = ap (λ (x : Line). (numbers_of_lem x).1) e

-- e lines add up
pub edges-append : (xs ys : List Line) → edges (xs ++ ys) ≡ edges xs + edges ys
edges-append [] ys = omega arith
edges-append (comment ∷ xs) ys = edges-append xs ys
edges-append (problem n m ∷ xs) ys = edges-append xs ys
edges-append (edge u v ∷ xs) ys = let ih = edges-append xs ys in omega arith

-- ---- places in a list

head_same : (x y : Line) (xs ys : List Line) → x ∷ xs ≡ y ∷ ys → x ≡ y
head_same x y xs ys e = ap (λ (l : List Line). get_or l 0 comment) e

tail_same : (x y : Line) (xs ys : List Line) → x ∷ xs ≡ y ∷ ys → xs ≡ ys
tail_same x y xs ys e = ap (λ (l : List Line). drop 1 l) e

-- ---- lines before the p line

-- all lines are comments
abbrev pub Comments : List Line → Type 0
Comments xs = (x : Line) → Memᴰ x xs → x ≡ comment

-- no lines are comments
pub comments-none : Comments []
comments-none x m = absurd (Memᴰ.not-nil m)

-- comments and one more are comments
pub comments-more : (xs : List Line) → Comments xs → Comments (xs ++ (comment ∷ []))
comments-more xs h x m = ⊎_elim (h x) Memᴰ.eq_of_singleton (Memᴰ.append_cases xs m)

-- with comments only, no p line passed
pub comments_unpassed : (xs : List Line) → Comments xs → (n : ℕ) → Passed xs n → ⊥
comments_unpassed xs h n p = comment-not-problem n p.0 (h (problem n p.0) p.1)

comments_edgeless : (xs : List Line) → Comments xs → (n m u v : ℕ) → Memᴰ (edge u v) (xs ++ (problem n m ∷ [])) → ⊥
comments_edgeless xs h n m u v d =
    ⊎_elim (λ a. comment-not-edge u v (h (edge u v) a)) (λ a. edge-not-problem u v n m (Memᴰ.eq_of_singleton a)) (Memᴰ.append_cases xs d)

-- comments and a p line join no pair
pub comments_joinless : (xs : List Line) → Comments xs → (n m u v : ℕ) → HasPair (xs ++ (problem n m ∷ [])) u v → ⊥
comments_joinless xs h n m u v (inl d) = comments_edgeless xs h n m u v d
comments_joinless xs h n m u v (inr d) = comments_edgeless xs h n m v u d

comments-edges : (xs : List Line) → Comments xs → edges xs ≡ 0
comments-edges [] h = refl
comments-edges (comment ∷ xs) h = comments-edges xs (λ x m. h x (Memᴰ.tail m))
comments-edges (problem n m ∷ xs) h = absurd (comment-not-problem n m (h (problem n m) (Memᴰ.head refl)))
comments-edges (edge u v ∷ xs) h = absurd (comment-not-edge u v (h (edge u v) (Memᴰ.head refl)))

-- and hold no e line
pub begun_edges : (xs : List Line) (n m : ℕ) → Comments xs → 0 ≡ edges (xs ++ (problem n m ∷ []))
begun_edges xs n m h = sym (edges-append xs (problem n m ∷ []) ∙ ap (λ (k : ℕ). k + 0) (comments-edges xs h))

-- the p line
pub begun : (room n m : ℕ) (xs : List Line) → Comments xs → n ≤ 1024 → n * n ≤ room → Drawn room n m (xs ++ (problem n m ∷ []))
begun room n m xs h small fits =
    record {
      comments = xs;
      after = [];
      lines = refl;
      only-comments = h;
      no_second = λ a b d. Memᴰ.not-nil d;
      small = small;
      fits = fits;
      ends = λ u v d. absurd (comments_edgeless xs h n m u v d);
    }

-- ---- lines after it

module _ (room n m : ℕ) (xs : List Line) (d : Drawn room n m xs) where
  -- the p line is among the lines
  pub drawn_in : Memᴰ (problem n m) xs
  drawn_in = subst (Memᴰ (problem n m)) (sym d.lines) (Memᴰ.append_right d.comments (Memᴰ.head refl))

  -- it is the only p line
  pub drawn-one : (a b : ℕ) → Memᴰ (problem a b) xs → problem a b ≡ problem n m
  drawn-one a b i =
      ⊎_elim
      (λ c. absurd (comment-not-problem a b (d.only-comments (problem a b) c)))
      (λ c. ⊎_elim (λ e. e) (λ r. absurd (d.no_second a b r)) (Memᴰ.cases_cons c))
      (Memᴰ.append_cases d.comments (subst (Memᴰ (problem a b)) d.lines i))

  -- one more line, which is no p line
  pub drawn-more : (x : Line) → ((a b : ℕ) → problem a b ≡ x → ⊥) → ((u v : ℕ) → edge u v ≡ x → Ends n u v) → Drawn room n m (xs ++ (x ∷ []))
  drawn-more x no_problem in_range =
      record {
        comments = d.comments;
        after = d.after ++ (x ∷ []);
        lines = ap (λ (l : List Line). l ++ (x ∷ [])) d.lines ∙ append_assoc d.comments (problem n m ∷ d.after) (x ∷ []);
        only-comments = d.only-comments;
        no_second = λ a b i. ⊎_elim (d.no_second a b) (λ c. no_problem a b (Memᴰ.eq_of_singleton c)) (Memᴰ.append_cases d.after i);
        small = d.small;
        fits = d.fits;
        ends = λ u v i. ⊎_elim (d.ends u v) (λ c. in_range u v (Memᴰ.eq_of_singleton c)) (Memᴰ.append_cases xs i);
      }

  -- before the p line stand comments only
  pub before-problem : (before rest : List Line) (a b : ℕ) → xs ≡ before ++ (problem a b ∷ rest) → Comments before
  before-problem before rest a b e = go before d.comments (sym e ∙ d.lines) d.only-comments
    where
      go : (before comments : List Line) → before ++ (problem a b ∷ rest) ≡ comments ++ (problem n m ∷ d.after) → Comments comments → Comments before
      go [] comments q h = comments-none
      go (y ∷ before) [] q h =
          absurd
          (d.no_second a b
          (subst (Memᴰ (problem a b)) (tail_same y (problem n m) (before ++ (problem a b ∷ rest)) d.after q)
          (Memᴰ.append_right before (Memᴰ.head refl))))
      go (y ∷ before) (c ∷ comments) q h =
          let under = go before comments (tail_same y c (before ++ (problem a b ∷ rest)) (comments ++ (problem n m ∷ d.after)) q) (λ x i. h x (Memᴰ.tail i)) in
          λ x i.
          ⊎_elim
          (λ p. p ∙ head_same y c (before ++ (problem a b ∷ rest)) (comments ++ (problem n m ∷ d.after)) q ∙ h c (Memᴰ.head refl))
          (under x)
          (Memᴰ.cases_cons i)

  -- before an e line stands the p line
  pub before-edge : (before rest : List Line) (u v : ℕ) → xs ≡ before ++ (edge u v ∷ rest) → Memᴰ (problem n m) before
  before-edge before rest u v e = go before d.comments (sym e ∙ d.lines) d.only-comments
    where
      go : (before comments : List Line) → before ++ (edge u v ∷ rest) ≡ comments ++ (problem n m ∷ d.after) → Comments comments
          → Memᴰ (problem n m) before
      go [] [] q h = absurd (edge-not-problem u v n m (head_same (edge u v) (problem n m) rest d.after q))
      go [] (c ∷ comments) q h =
          absurd
          (comment-not-edge u v (head_same (edge u v) c rest (comments ++ (problem n m ∷ d.after)) q ∙ h c (Memᴰ.head refl)))
      go (y ∷ before) [] q h = Memᴰ.head (sym (head_same y (problem n m) (before ++ (edge u v ∷ rest)) d.after q))
      go (y ∷ before) (c ∷ comments) q h =
          Memᴰ.tail
          (go before comments (tail_same y c (before ++ (edge u v ∷ rest)) (comments ++ (problem n m ∷ d.after)) q) (λ x i. h x (Memᴰ.tail i)))
