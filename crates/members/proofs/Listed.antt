-- The members of a set in a part of the work slice: whether they are pairwise joined, and their numbers.
-- Assumes nothing.
use Prim.Native.Nat.{ℕ, ◌+◌, ◌≤◌, ◌<◌}
use mathlib.Core.Path.{◌≡◌, sym, ap, ◌∙◌, subst}
use mathlib.Core.Bool.{Bool, true, false, true≢false}
use mathlib.Core.List.{List, []}
use mathlib.Core.Logic.{◌⊎◌, inl, inr}
use native.Mathlib.Omega.{arith}
use lib.ListN.{length, get_or, take}
use lib.Seq.{length-take-le, get_or-take}
use Rattle.model.specs.Below.{all}
use Rattle.model.specs.Graph.{Graph, degree}
use Rattle.model.specs.Groups.{VertexSet}
use Rattle.model.specs.Meaning.{Clique, Symmetric}
use Rattle.theory.specs.Search.{joined_all, among, Members}
use Rattle.theory.proofs.Basics.Tests.{Test, test_all, test_self, trichotomy, fails}
use Rattle.theory.proofs.Search.Candidates.{joined_test}
use Rattle.theory.proofs.Search.Members.{tally-none, tally-next, tally-all}
use Rattle.graph.specs.Degrees.{HoldsDegrees, ReadsDegree}
use Rattle.isolation.specs.declared.Tally.{Tally}
use Rattle.isolation.specs.Numbers.{with_member, TallyOf}
use Rattle.members.specs.Members.{pairwise, Tallies}

-- ---- pairwise joined

-- the member at place i is joined to all before it
abbrev pub joins-before : Graph → List ℕ → ℕ → Bool
joins-before G us i = joined_all G (get_or us i 0) (take i us)

-- each is, or one is not
module _ (G : Graph) (us : List ℕ) where
  pub pairs_all : ((i : ℕ) → i < length us → joins-before G us i ≡ true) → pairwise G us ≡ true
  unfolding pairwise
  pairs_all h = (test_all (length us) (joins-before G us) (λ j. test_self)).1 h

  pub pairs_apart : (i : ℕ) → i < length us → joins-before G us i ≡ false → pairwise G us ≡ false
  unfolding pairwise
  pairs_apart i h f = fails (pairwise G us) (λ e. true≢false (sym ((test_all (length us) (joins-before G us) (λ j. test_self)).0 e i h) ∙ f))

-- a set with members is a clique exactly where they are pairwise joined
pub clique_test : (G : Graph) → Symmetric G → (S : VertexSet) (us : List ℕ) → Members G S us → 0 < length us → Test (pairwise G us) (Clique G S)
unfolding pairwise
clique_test G symmetric S us M some = (there, back)
  where
    pairs : Test (all (length us) (joins-before G us)) ((i : ℕ) → i < length us → (j : ℕ) → j < length (take i us) → G.joined (get_or us i 0) (get_or (take i us) j 0) ≡ true)
    pairs = test_all (length us) (joins-before G us) (λ i. joined_test G (get_or us i 0) (take i us))

    lower : all (length us) (joins-before G us) ≡ true → (i j : ℕ) → i < length us → j < i → G.joined (get_or us i 0) (get_or us j 0) ≡ true
    lower e i j h l =
        ap (G.joined (get_or us i 0)) (sym (get_or-take i us j 0 l))
        ∙ pairs.0 e i h j (let s = length-take-le i us (omega arith) in omega arith)

    joined : all (length us) (joins-before G us) ≡ true → (i j : ℕ) → i < length us → j < length us → (i < j) ⊎ (i ≡ j) ⊎ (j < i) → (i ≡ j → ⊥)
        → G.joined (get_or us i 0) (get_or us j 0) ≡ true
    joined e i j h l (inl a) d = symmetric (get_or us i 0) (get_or us j 0) (M.sound i h).0 (M.sound j l).0 ∙ lower e j i l a
    joined e i j h l (inr (inl a)) d = absurd (d a)
    joined e i j h l (inr (inr a)) d = lower e i j h a

    there : all (length us) (joins-before G us) ≡ true → Clique G S
    there e =
        record {
          nonempty = (get_or us 0 0, M.sound 0 some);
          pairwise = λ u v hu hv d.
              let a = M.complete u hu in
              let b = M.complete v hv in
              ap (λ (x : ℕ). G.joined x v) (sym a.2)
              ∙ ap (G.joined (get_or us a.0 0)) (sym b.2)
              ∙ joined e a.0 b.0 a.1 b.1 (trichotomy a.0 b.0) (λ q. d (sym a.2 ∙ ap (λ (x : ℕ). get_or us x 0) q ∙ b.2));
        }

    back : Clique G S → all (length us) (joins-before G us) ≡ true
    back C =
        pairs.1
        (λ i h j l.
        let s = length-take-le i us (omega arith) in
        let g : j < i = omega arith in
        ap (G.joined (get_or us i 0)) (get_or-take i us j 0 g)
        ∙ C.pairwise (get_or us i 0) (get_or us j 0) (M.sound i h) (M.sound j (omega arith)) (λ q. let z = M.once i j h (omega arith) q in omega arith))

-- ---- the numbers

-- y holds the numbers of the first i members
abbrev pub TalliesFirst : ℕ → List ℕ → List ℕ → ℕ → Tally → Type 0
TalliesFirst n degrees us i y = (G : Graph) → G.size ≡ n → HoldsDegrees n G degrees → (S : VertexSet) → Members G S us → TallyOf G (among (take i us)) y

module _ (n : ℕ) (degrees us : List ℕ) where
  pub tallies_none : TalliesFirst n degrees us 0 (record { members = 0; sum = 0; least = n; largest = 0 })
  tallies_none G size d S M = subst (λ (m : ℕ). TallyOf G (among []) (record { members = 0; sum = 0; least = m; largest = 0 })) size (tally-none G)

  -- with the member v at place i, of degree d
  pub tallies_more : (i : ℕ) → i < length us → {y z : Tally} → TalliesFirst n degrees us i y → {v d : ℕ} → v ≡ get_or us i 0 → ReadsDegree n degrees v d
      → z ≡ with_member y d → TalliesFirst n degrees us (i + 1) z
  tallies_more i h {y} {z} f r q e G size d S M =
      subst (λ (x : Tally). TallyOf G (among (take (i + 1) us)) x)
      (sym (e ∙ ap (with_member y) ((q.degree G size d).0 ∙ ap (degree G) r)))
      (tally-next G S us M i h y.members y.sum y.least y.largest (f G size d S M))

  pub tallies_all : (i : ℕ) → i ≤ length us → length us ≤ i → {y : Tally} → TalliesFirst n degrees us i y → Tallies n degrees us y
  tallies_all i h l {y} f G size d S M =
      tally-all G S us M y.members y.sum y.least y.largest
      (subst (λ (m : ℕ). TallyOf G (among (take m us)) y) whole (f G size d S M))
    where
      whole : i ≡ length us
      whole = omega arith
