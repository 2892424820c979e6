-- The test of an isolated clique for being maximal of its kind, as code branches on kind and notion.
-- Assumes nothing.
use Prim.Native.Nat.{ℕ, zero, suc, ◌+◌, ◌*◌, ◌≤◌}
use mathlib.Core.Path.{◌≡◌, refl, sym, ap, ◌∙◌}
use mathlib.Core.Bool.{Bool, true, false}
use mathlib.Core.List.{List, [], ◌∷◌, ◌++◌}
use mathlib.Core.Logic.{◌≢◌}
use native.Mathlib.Omega.{arith}
use lib.ListN.{length}
use lib.Dec.{ltb}
use denote.Enum.Bare.{sameb}
use Rattle.std.specs.Prelude.{min, max}
use Rattle.model.specs.Graph.{Graph, degree}
use Rattle.model.specs.Groups.{Factor}
use Rattle.theory.specs.Parts.{part}
use Rattle.theory.specs.Search.{find_larger, searched, beaten}
use Rattle.theory.proofs.Basics.Parts.{part_length, kept-none}
use Rattle.isolation.specs.declared.Settings.{Settings}
use Rattle.isolation.specs.declared.criterion.Criterion.{Criterion}
use Rattle.isolation.specs.declared.Kind.{Kind}
use Rattle.isolation.specs.declared.Notion.{Notion}
use Rattle.isolation.specs.declared.Tally.{Tally}
use Rattle.isolation.specs.declared.Kind.TheVariants.{MaximalIsolated, IsolatedMaximal}
use Rattle.isolation.specs.declared.Notion.TheVariants.{Min, Avg, Max}
use Rattle.isolation.specs.contracts.Kind as kinds
use Rattle.isolation.specs.contracts.Notion as notions
use Rattle.isolation.specs.Numbers.{kind_of, notion_of, kind_number, notion_number, CriterionOf, beaten_of}
use Rattle.isolation.proofs.Notions.{isolated-read}
use Rattle.larger.specs.Search.{Posed, Found, Tested}

module _ (G : Graph) (q : Criterion) (y : Tally) (vs : List ℕ) where
  -- a common neighbour decides, where no search is wanted
  by_neighbour : searched (kind_number q.kind) (notion_number q.notion) ≡ false → beaten_of G q y vs ≡ ltb 0 (length vs)
  unfolding beaten
  by_neighbour e = rw e refl

  -- of the kind isolated maximal
  pub beaten-kind : q.kind ≡ IsolatedMaximal → beaten_of G q y vs ≡ ltb 0 (length vs)
  unfolding searched
  beaten-kind e = by_neighbour (rw e refl)

  -- under min, of either kind
  pub beaten-min : q.notion ≡ Min → beaten_of G q y vs ≡ ltb 0 (length vs)
  unfolding searched
  beaten-min e = by_neighbour (rw e (go q.kind))
    where
      go : (kind : Kind) → searched (kind_number kind) 0 ≡ false
      go MaximalIsolated = refl
      go IsolatedMaximal = refl

  -- a larger isolated clique is searched for
  pub beaten_search : q.kind ≡ MaximalIsolated → q.notion ≢ Min
      → beaten_of G q y vs ≡ find_larger G (notion_number q.notion) q.factor [] y.members y.sum y.least y.largest vs
  unfolding beaten searched
  beaten_search e d = rw (e, go q.notion d) refl
    where
      go : (notion : Notion) → notion ≢ Min → searched 0 (notion_number notion) ≡ true
      go Min d = absurd (d refl)
      go Avg d = refl
      go Max d = refl

-- ---- every number, as it is read

-- the search by the notion that a number is read as is that by the number
find-read : (G : Graph) (m : ℕ) (c : Factor) (added : List ℕ) (k sum least largest : ℕ) (vs : List ℕ)
    → find_larger G (notion_number (notion_of m)) c added k sum least largest vs ≡ find_larger G m c added k sum least largest vs
unfolding find_larger
find-read G m c added k sum least largest [] = refl
find-read G m c added k sum least largest (v ∷ vs) =
    let d = degree G v in
    rw (isolated-read m c (k + 1) (sum + d) (min least d) (max largest d), find-read G m c (added ++ (v ∷ [])) (k + 1) (sum + d) (min least d) (max largest d) vs, find-read G m c added k sum least largest vs) refl

-- whether a search is wanted too
searched-read : (kind notion : ℕ) → searched (kind_number (kind_of kind)) (notion_number (notion_of notion)) ≡ searched kind notion
unfolding searched
searched-read zero zero = refl
searched-read zero (suc zero) = refl
searched-read zero (suc (suc m)) = refl
searched-read (suc k) notion = refl

-- so the criterion that settings of any numbers are read as finds maximal what they do
pub beaten-any : (G : Graph) (s : Settings) (q : Criterion) → CriterionOf s q → (y : Tally) (vs : List ℕ)
    → beaten_of G q y vs ≡ beaten G s.kind s.notion s.factor y.members y.sum y.least y.largest vs
unfolding beaten
beaten-any G s q read y vs =
    rw (read.kind, read.notion, read.factor, searched-read s.kind s.notion, find-read G s.notion s.factor [] y.members y.sum y.least y.largest vs) refl

-- ---- the tests of the code

-- the kind is isolated maximal, or it is not
pub kind-test : (kind : Kind) {b : Bool} → b ≡ sameb kinds.the_type kind IsolatedMaximal
    → (b ≡ true → kind ≡ IsolatedMaximal) × (b ≡ false → kind ≡ MaximalIsolated)
kind-test MaximalIsolated e = (λ t. cc, λ f. refl)
kind-test IsolatedMaximal e = (λ t. refl, λ f. cc)

-- the notion is min, or it is not
pub notion-test : (notion : Notion) {b : Bool} → b ≡ sameb notions.the_type notion Min → (b ≡ true → notion ≡ Min) × (b ≡ false → notion ≢ Min)
notion-test Min e = (λ t. refl, λ f. cc)
notion-test Avg e = (λ t. cc, λ f h. cc)
notion-test Max e = (λ t. cc, λ f h. cc)

module _ {G : Graph} {w : List ℕ} {q : Criterion} {y : Tally} {m : ℕ} (parts : 5 * G.size ≤ length w) (posed : Posed G w q y m) where
  abbrev n : ℕ
  n = G.size

  all-candidates : length (part w (3 * n) m) ≡ m
  all-candidates = let f = posed.room in part_length w (3 * n) m (omega arith)

  -- the search decides
  pub by_search : q.kind ≡ MaximalIsolated → q.notion ≢ Min → {w₁ : List ℕ} {r : Bool} → Found G w w₁ q y m r → Tested G w w₁ q y m r
  by_search kind notion found = record { answer = found.answer ∙ sym (beaten_search G q y (part w (3 * n) m) kind notion); kept = found.kept }

  -- a common neighbour decides
  by_length : (r : Bool) → ltb 0 m ≡ r → beaten_of G q y (part w (3 * n) m) ≡ ltb 0 (length (part w (3 * n) m)) → Tested G w w q y m r
  by_length r e f = record { answer = sym e ∙ ap (ltb 0) (sym all-candidates) ∙ sym f; kept = kept-none _ _ w }

  pub by_kind : q.kind ≡ IsolatedMaximal → {r : Bool} → ltb 0 m ≡ r → Tested G w w q y m r
  by_kind d e = by_length _ e (beaten-kind G q y (part w (3 * n) m) d)

  pub by_min : q.notion ≡ Min → {r : Bool} → ltb 0 m ≡ r → Tested G w w q y m r
  by_min d e = by_length _ e (beaten-min G q y (part w (3 * n) m) d)
