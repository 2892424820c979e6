-- Texts that differ only in repeated e lines are texts of one graph; and what the reader answers where M is not the count of e lines.
-- Assumes nothing.
use Prim.Native.Nat.{ℕ, suc, ◌*◌, ◌-◌, ◌≤◌}
use mathlib.Core.Path.{◌≡◌, refl, sym, ap, ap₂, ◌∙◌, subst, subst₂}
use mathlib.Core.Logic.{◌↔◌, ◌≢◌, inl, inr, ⊎_elim}
use mathlib.Core.Bool.{Bool, true, false}
use mathlib.Core.List.Memᴰ
use mathlib.Core.List.{List, [], ◌∷◌, ◌++◌, append-nil, Memᴰ}
use native.Mathlib.Omega.{arith}
use lib.ListN.{length}
use borrow.Author.Tests.{ne_eqb}
use Rattle.model.specs.Text.{Reading, next, fault, e_line, read_text}
use Rattle.model.specs.Fault.{FirstFault}
use Rattle.model.specs.EdgeText.{Lines, Line, comment, problem, edge, SpellAll, edges, HasPair, NoProblem, Ends, Drawn, Table, EdgeText, Passed, line_faults, end_faults, faults_at, FirstFaultyLine, Miscounted}
use Rattle.model.specs.Repeats.{but_m, PutIn, none, kept, noted, repeated, OnlyRepeats, DifferInRepeats}
use Rattle.theory.proofs.Basics.Tests.{fails}
use Rattle.theory.proofs.Calls.Fault.{has_number, never_first}
use Rattle.theory.proofs.Text.EdgeTextLines.{lines_are}
use Rattle.theory.proofs.Text.EdgeTextSpelling.{says-one}
use Rattle.theory.proofs.Text.EdgeTextDrawn.{comment-not-problem, comment-not-edge, edge-not-problem, problem-first, edge-first, edge-second, Comments, comments-none, drawn_in}
use Rattle.theory.proofs.Text.EdgeTextFaults.{in_range, pair_ends}
use Rattle.theory.proofs.Text.EdgeTextTable.{joins_swap, joined_again}
use Rattle.theory.proofs.Text.EdgeTextStep.{Going, joined_by, out_test}
use Rattle.theory.proofs.Text.EdgeText.{refused_iff}

-- ---- an e line whose pair stood before

-- it counts, and changes nothing else
pub repeated_counts : (room : ℕ) (xs : List Line) (r : Reading) → Going room xs r → (u v : ℕ) → HasPair xs u v
    → e_line r u v ≡ next (record { passed = true; vertices = r.vertices; stated = r.stated; edges = suc r.edges; table = r.table })
unfolding e_line fault
repeated_counts room xs r g u v h =
    ap₂ (λ (a b : Bool). fault 36 a (fault 37 b (next (joined_by r u v)))) (fails _ (λ q. in_range n u v e ((out_test n u v).0 q))) (ne_eqb u v e.differ)
    ∙ ap (λ (t : List ℕ). next (record { passed = true; vertices = n; stated = r.stated; edges = suc r.edges; table = t }))
    (joined_again n xs r.table g.table (u - 1) (v - 1) (omega (arith, e.u_from, e.u_to)) (omega (arith, e.v_from, e.v_to))
    (subst₂ (HasPair xs) (omega (arith, e.u_from)) (omega (arith, e.v_from)) h))
  where
    n : ℕ
    n = r.vertices

    e : Ends n u v
    e = pair_ends n xs g.drawn.ends u v h

-- ---- a line but for M

-- an e line is told by what it says but for M
edge_of : (x y : Line) (u v : ℕ) → edge u v ≡ x → but_m x ≡ but_m y → edge u v ≡ y
edge_of x y u v e same = go y (ap but_m e ∙ same)
  where
    go : (y : Line) → edge u v ≡ but_m y → edge u v ≡ y
    go comment q = q
    go (problem n m) q = absurd (edge-not-problem u v n 0 q)
    go (edge a b) q = q

-- and so is a p line, with the M that it states
problem_of : (x y : Line) (n m : ℕ) → problem n m ≡ x → but_m x ≡ but_m y → (k : ℕ) × (problem n k ≡ y)
problem_of x y n m e same = go y (ap but_m e ∙ same)
  where
    go : (y : Line) → problem n 0 ≡ but_m y → (k : ℕ) × (problem n k ≡ y)
    go comment q = absurd (comment-not-problem n 0 q)
    go (problem a b) q = (b, ap (λ (c : ℕ). problem c b) (problem-first n 0 a 0 q))
    go (edge u v) q = absurd (edge-not-problem u v n 0 (sym q))

-- ---- lines, and the same lines with repeated e lines put in

module _ (all : List Line) where
  -- every e line is kept
  edge_kept : {xs ys : List Line} → PutIn all xs ys → (u v : ℕ) → Memᴰ (edge u v) xs → Memᴰ (edge u v) ys
  edge_kept none u v m = m
  edge_kept (kept {x} {y} e p) u v m =
      ⊎_elim (λ q. Memᴰ.head (edge_of x y u v q e)) (λ q. Memᴰ.tail (edge_kept p u v q)) (Memᴰ.cases_cons m)
  edge_kept (noted p) u v m = Memᴰ.tail (edge_kept p u v m)
  edge_kept (repeated h f p) u v m = Memᴰ.tail (edge_kept p u v m)

  -- and what was put in brings no new pair
  edge_stood : {xs ys : List Line} → PutIn all xs ys → ((u v : ℕ) → Memᴰ (edge u v) xs → Memᴰ (edge u v) all) → (u v : ℕ)
      → Memᴰ (edge u v) ys → HasPair all u v
  edge_stood none sub a b m = absurd (Memᴰ.not-nil m)
  edge_stood (kept {x} {y} e p) sub a b m =
      ⊎_elim
      (λ q. inl (sub a b (Memᴰ.head (edge_of y x a b q (sym e)))))
      (edge_stood p (λ c d i. sub c d (Memᴰ.tail i)) a b)
      (Memᴰ.cases_cons m)
  edge_stood (noted p) sub a b m = ⊎_elim (λ q. absurd (comment-not-edge a b q)) (edge_stood p sub a b) (Memᴰ.cases_cons m)
  edge_stood (repeated {u} {v} h f p) sub a b m =
      ⊎_elim
      (λ q. subst₂ (HasPair all) (sym (edge-first a b u v q)) (sym (edge-second a b u v q)) h)
      (edge_stood p sub a b)
      (Memᴰ.cases_cons m)

  -- the p lines are the same, but for M
  passed-kept : {xs ys : List Line} → PutIn all xs ys → (n : ℕ) → Passed xs n → Passed ys n
  passed-kept none n h = h
  passed-kept (kept {x} {y} e p) n h =
      ⊎_elim
      (λ q. let r = problem_of x y n h.0 q e in (r.0, Memᴰ.head r.1))
      (λ q. let r = passed-kept p n (h.0, q) in (r.0, Memᴰ.tail r.1))
      (Memᴰ.cases_cons h.1)
  passed-kept (noted p) n h = let r = passed-kept p n h in (r.0, Memᴰ.tail r.1)
  passed-kept (repeated g f p) n h = let r = passed-kept p n h in (r.0, Memᴰ.tail r.1)

  passed_stood : {xs ys : List Line} → PutIn all xs ys → (n : ℕ) → Passed ys n → Passed xs n
  passed_stood none n h = h
  passed_stood (kept {x} {y} e p) n h =
      ⊎_elim
      (λ q. let r = problem_of y x n h.0 q (sym e) in (r.0, Memᴰ.head r.1))
      (λ q. let r = passed_stood p n (h.0, q) in (r.0, Memᴰ.tail r.1))
      (Memᴰ.cases_cons h.1)
  passed_stood (noted p) n h = ⊎_elim (λ q. absurd (comment-not-problem n h.0 q)) (λ q. passed_stood p n (h.0, q)) (Memᴰ.cases_cons h.1)
  passed_stood (repeated {u} {v} g f p) n h =
      ⊎_elim (λ q. absurd (edge-not-problem u v n h.0 (sym q))) (λ q. passed_stood p n (h.0, q)) (Memᴰ.cases_cons h.1)

-- ---- comments, the p line, and no other p line after it

-- the lines begin so
abbrev Begins : List Line → Type 0
Begins [] = ⊥
Begins (comment ∷ xs) = Begins xs
Begins (problem n m ∷ xs) = NoProblem xs
Begins (edge u v ∷ xs) = ⊥

-- they hold a p line
begins-problem : (xs : List Line) → Begins xs → NoProblem xs → ⊥
begins-problem [] b f = b
begins-problem (comment ∷ xs) b f = begins-problem xs b (λ n m i. f n m (Memᴰ.tail i))
begins-problem (problem n m ∷ xs) b f = f n m (Memᴰ.head refl)
begins-problem (edge u v ∷ xs) b f = b

-- a graph's lines begin so
drawn-begins : (room n m : ℕ) (xs : List Line) → Drawn room n m xs → Begins xs
drawn-begins room n m xs d = subst Begins (sym d.lines) (go d.comments d.only-comments)
  where
    go : (before : List Line) → Comments before → Begins (before ++ (problem n m ∷ d.after))
    go [] h = d.no_second
    go (comment ∷ before) h = go before (λ x i. h x (Memᴰ.tail i))
    go (problem a b ∷ before) h = absurd (comment-not-problem a b (h (problem a b) (Memᴰ.head refl)))
    go (edge u v ∷ before) h = absurd (comment-not-edge u v (h (edge u v) (Memᴰ.head refl)))

-- and lines that begin so, with pairs in range, are a graph's
begins-drawn : (room n m : ℕ) (xs : List Line) → Begins xs → Memᴰ (problem n m) xs → n ≤ 1024 → n * n ≤ room
    → ((u v : ℕ) → Memᴰ (edge u v) xs → Ends n u v) → Drawn room n m xs
begins-drawn room n m [] b i small fits ends = absurd b
begins-drawn room n m (comment ∷ xs) b i small fits ends =
    ⊎_elim
    (λ e. absurd (comment-not-problem n m e))
    (λ q. longer (begins-drawn room n m xs b q small fits (λ u v j. ends u v (Memᴰ.tail j))))
    (Memᴰ.cases_cons i)
  where
    longer : Drawn room n m xs → Drawn room n m (comment ∷ xs)
    longer d =
        record {
          comments = comment ∷ d.comments;
          after = d.after;
          lines = ap (λ (l : List Line). comment ∷ l) d.lines;
          only-comments = λ x j. ⊎_elim (λ e. e) (d.only-comments x) (Memᴰ.cases_cons j);
          no_second = d.no_second;
          small = small;
          fits = fits;
          ends = ends;
        }
begins-drawn room n m (problem a c ∷ xs) b i small fits ends =
    record {
      comments = [];
      after = xs;
      lines = ap (λ (x : Line). x ∷ xs) (sym (⊎_elim (λ e. e) (λ q. absurd (b n m q)) (Memᴰ.cases_cons i)));
      only-comments = comments-none;
      no_second = b;
      small = small;
      fits = fits;
      ends = ends;
    }
begins-drawn room n m (edge u v ∷ xs) b i small fits ends = absurd b

-- what is put in leaves that as it is
begins-same : (x y : Line) (xs ys : List Line) → but_m x ≡ but_m y → (Begins xs → Begins ys) → (NoProblem xs → NoProblem ys) → Begins (x ∷ xs) → Begins (y ∷ ys)
begins-same comment comment xs ys e f g b = f b
begins-same comment (problem n m) xs ys e f g b = absurd (comment-not-problem n 0 (sym e))
begins-same comment (edge u v) xs ys e f g b = absurd (comment-not-edge u v (sym e))
begins-same (problem n m) comment xs ys e f g b = absurd (comment-not-problem n 0 e)
begins-same (problem n m) (problem a c) xs ys e f g b = g b
begins-same (problem n m) (edge u v) xs ys e f g b = absurd (edge-not-problem u v n 0 (sym e))
begins-same (edge u v) y xs ys e f g b = absurd b

module _ (all : List Line) where
  begins-kept : {xs ys : List Line} → PutIn all xs ys → Begins xs → Begins ys
  begins-kept none b = b
  begins-kept (kept {x} {y} {xs} {ys} e p) b =
      begins-same x y xs ys e (begins-kept p) (λ f n m i. let r = passed_stood all p n (m, i) in f n r.0 r.1) b
  begins-kept (noted p) b = begins-kept p b
  begins-kept (repeated {u} {v} {xs} h f p) b = begins-problem xs b f

  begins_stood : {xs ys : List Line} → PutIn all xs ys → Begins ys → Begins xs
  begins_stood none b = b
  begins_stood (kept {x} {y} {xs} {ys} e p) b =
      begins-same y x ys xs (sym e) (begins_stood p) (λ f n m i. let r = passed-kept all p n (m, i) in f n r.0 r.1) b
  begins_stood (noted p) b = begins_stood p b
  begins_stood (repeated h f p) b = absurd b

-- ---- texts that differ only in repeated e lines

-- either may come first
only_swap : (xs ys : List Line) → OnlyRepeats xs ys → OnlyRepeats ys xs
only_swap xs ys r = record { shared = r.shared; first = r.second; second = r.first }

module _ (xs ys : List Line) (r : OnlyRepeats xs ys) where
  -- the second has the pairs of the first
  only_pairs : (u v : ℕ) → HasPair xs u v → HasPair ys u v
  only_pairs u v h = there (stood h)
    where
      stood : HasPair xs u v → HasPair r.shared u v
      stood (inl m) = edge_stood r.shared r.first (λ a b i. i) u v m
      stood (inr m) = joins_swap r.shared v u (edge_stood r.shared r.first (λ a b i. i) v u m)

      there : HasPair r.shared u v → HasPair ys u v
      there (inl m) = inl (edge_kept r.shared r.second u v m)
      there (inr m) = inr (edge_kept r.shared r.second v u m)

  -- it has its N
  only-passed : (n : ℕ) → Passed xs n → Passed ys n
  only-passed n h = passed-kept r.shared r.second n (passed_stood r.shared r.first n h)

  -- and begins as the first does
  only-begins : Begins xs → Begins ys
  only-begins b = begins-kept r.shared r.second (begins_stood r.shared r.first b)

-- lines spell one list of lines only
spelled-one : (ls : List (List ℕ)) (xs ys : List Line) → SpellAll ls xs → SpellAll ls ys → xs ≡ ys
spelled-one [] [] [] s t = refl
spelled-one [] [] (y ∷ ys) s t = absurd t
spelled-one [] (x ∷ xs) ys s t = absurd s
spelled-one (l ∷ ls) [] ys s t = absurd s
spelled-one (l ∷ ls) (x ∷ xs) [] s t = absurd t
spelled-one (l ∷ ls) (x ∷ xs) (y ∷ ys) s t =
    ap₂ {C = List Line} (λ (z : Line) (zs : List Line). z ∷ zs) (says-one l x y s.0 t.0) (spelled-one ls xs ys s.1 t.1)

-- where one is the text of a graph, the other is a text of the same graph, with any slice that can hold its table
pub repeats_graph : (room other-room : ℕ) (text other : List ℕ) → DifferInRepeats text other → (n m : ℕ) (t : List ℕ) → EdgeText room text n m t
    → n * n ≤ other-room → (k : ℕ) × EdgeText other-room other n k t
repeats_graph room other-room text other d n m t g fits = (
  passed.0,
  record {
    lines = d.other-counted.lines;
    said = d.other-said;
    cut = d.other-counted.cut;
    spelled = d.other-counted.spelled;
    drawn = begins-drawn other-room n passed.0 d.other-said (only-begins d.said d.other-said d.only (drawn-begins room n m d.said drawn))
        passed.1 drawn.small fits (λ u v i. pair_ends n d.said drawn.ends u v (back u v (inl i)));
    stated = d.other-counted.stated n passed.0 passed.1;
    table = record {
      size = table.size;
      joined = λ u v hu hv j. table.joined u v hu hv (back (suc u) (suc v) j);
      apart = λ u v hu hv f. table.apart u v hu hv (λ j. f (only_pairs d.said d.other-said d.only (suc u) (suc v) j));
    };
  },
)
  where
    said-is : g.said ≡ d.said
    said-is =
        spelled-one g.lines g.said d.said g.spelled
        (subst (λ (ls : List (List ℕ)). SpellAll ls d.said) (sym (lines_are text d.text-counted.lines d.text-counted.cut) ∙ lines_are text g.lines g.cut) d.text-counted.spelled)

    drawn : Drawn room n m d.said
    drawn = subst (Drawn room n m) said-is g.drawn

    table : Table n d.said t
    table = subst (λ (xs : List Line). Table n xs t) said-is g.table

    passed : Passed d.other-said n
    passed = only-passed d.said d.other-said d.only n (m, drawn_in room n m d.said drawn)

    back : (u v : ℕ) → HasPair d.other-said u v → HasPair d.said u v
    back = only_pairs d.other-said d.said (only_swap d.said d.other-said d.only)

-- ---- 38 and 39

-- 39 is answered exactly where every line is without fault, a p line is among them, and its M differs from the number of e lines
pub miscounted_iff : (text slice : List ℕ) (i : ℕ)
    → (((read_text text slice).refused ≡ 39) × ((read_text text slice).line ≡ i)) ↔ Miscounted (length slice) text i
unfolding FirstFault
miscounted_iff text slice i = (
  λ h. there ((refused_iff text slice 39 i).0 (h, λ z. omega arith)),
  λ h. ((refused_iff text slice 39 i).1 (h.said, back h)).0,
)
  where
    at_end : (said : List Line) (rest : List (List ℕ)) → FirstFault (faults_at (length slice) said rest) 39
        → (rest ≡ []) × ((n : ℕ) × (m : ℕ) × Memᴰ (problem n m) said × (m ≢ edges said))
    at_end said [] (inl f) = absurd (omega arith)
    at_end said [] (inr (a, inl f)) = (refl, f.0)
    at_end said [] (inr (a, inr (b, e))) = absurd (omega arith)
    at_end said (l ∷ ls) f = absurd (never_first (line_faults (length slice) said l) 39 (λ z. omega arith) refl f)

    there : (said : List Line) × FirstFaultyLine (length slice) text 39 i said → Miscounted (length slice) text i
    there (said, f) =
        let r = at_end said f.rest f.fault in
        record {
          lines = f.front;
          said = said;
          cut = subst (Lines text) (ap (λ (ls : List (List ℕ)). f.front ++ ls) r.0 ∙ append-nil f.front) f.cut;
          faultless = f.faultless;
          vertices = r.1.0;
          stated = r.1.1;
          passed = r.1.2;
          differs = r.1.3;
          line = f.line;
        }

    back : (h : Miscounted (length slice) text i) → FirstFaultyLine (length slice) text 39 i h.said
    back h =
        record {
          front = h.lines;
          rest = [];
          cut = subst (Lines text) (sym (append-nil h.lines)) h.cut;
          faultless = h.faultless;
          fault = inr (λ f. f h.vertices (h.stated, h.passed), inl ((h.vertices, h.stated, h.passed, h.differs), refl));
          faulty = λ z. omega arith;
          line = h.line;
        }

-- a number other than 0 that no fault has is answered to no text
pub never_told : (k : ℕ) → k ≢ 0 → ((room : ℕ) (xs : List Line) (l : List ℕ) → has_number k (line_faults room xs l) ≡ false)
    → ((xs : List Line) → has_number k (end_faults xs) ≡ false) → (text slice : List ℕ) → (read_text text slice).refused ≢ k
never_told k some in_lines at_end text slice e = go ((refused_iff text slice k (read_text text slice).line).0 ((e, refl), some))
  where
    go : (said : List Line) × FirstFaultyLine (length slice) text k (read_text text slice).line said → ⊥
    go (said, f) = nowhere f.rest f.fault
      where
        nowhere : (rest : List (List ℕ)) → FirstFault (faults_at (length slice) said rest) k → ⊥
        nowhere [] = never_first (end_faults said) k some (at_end said)
        nowhere (l ∷ ls) = never_first (line_faults (length slice) said l) k some (in_lines (length slice) said l)

-- so 38 is answered to none
pub never_38 : (text slice : List ℕ) → (read_text text slice).refused ≢ 38
never_38 = never_told 38 (λ z. omega arith) (λ room xs l. refl) (λ xs. refl)
