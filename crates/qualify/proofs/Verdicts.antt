-- Whether the taken set qualifies, test by test: what each test of `qualifies` says of every position for which the state stands.
-- Assumes nothing.
use Prim.Native.Nat.{ℕ, zero, suc, ◌+◌, ◌-◌, ◌*◌, ◌≤◌, ◌<◌}
use mathlib.Core.Path.{◌≡◌, refl, sym, ap, ap₂, ◌∙◌, subst}
use mathlib.Core.Bool.{Bool, true, false, ◌&&◌, not, true≢false}
use mathlib.Core.List.{List, map}
use mathlib.Core.Logic.{◌≢◌}
use native.Mathlib.Omega.{arith}
use lib.ListN.{length, get_or}
use borrow.Author.Tests.{eqb-true}
use Rattle.model.specs.Below.{bit, count}
use Rattle.model.specs.Graph.{Graph, degree, vertex_at}
use Rattle.model.specs.Walk.{Position, has, found}
use Rattle.model.specs.Listing.{is, adjacent, pivot, taken_set, taken_list, rules}
use Rattle.model.specs.Meaning.{Loopless, Symmetric}
use Rattle.theory.specs.Search.{Candidates}
use Rattle.theory.proofs.Basics.Tests.{test_and, test_self, fails}
use Rattle.theory.proofs.Basics.Passing.{passing-listed}
use Rattle.theory.proofs.Basics.PassingParts.{passing-count}
use Rattle.isolation.specs.declared.criterion.Criterion.{Criterion}
use Rattle.isolation.specs.declared.Tally.{Tally}
use Rattle.isolation.specs.Numbers.{settings_in, isolated_of, beaten_of, TallyOf}
use Rattle.theory.specs.Parts.{part, StateKept}
use Rattle.larger.specs.Search.{Posed, Tested}
use Rattle.theory.proofs.Basics.Parts.{part_length, kept-state, state_then}
use Rattle.graph.proofs.Vertices.{part-vertices}
use Rattle.state.specs.declared.State.{State}
use Rattle.state.specs.State.{taken_ranks, left_ranks, Stands}
use Rattle.qualify.specs.Qualify.{joined_of, candidates_of, Sifts, Sifted, tally_of, read_tally, TallyFits, Asks, SaysQualifies}
use Rattle.state.proofs.Taken.{taken-length}
use Rattle.state.proofs.Vertices.{vertices-lent}
use Rattle.state.proofs.StandsFor.{taken-count, left-count, left-entry, vertex_low, left-few, stands-kept}
use Rattle.qualify.proofs.TakenSet.{taken-tally, taken-clique, taken-candidates, found-apart, found_untaken, found_open, found_by}

-- two tests of which no number passes both pass no more than n numbers below n
count-apart : (n : ℕ) (p q : ℕ → Bool) → ((i : ℕ) → p i ≡ true → q i ≡ false) → count n p + count n q ≤ n
unfolding count
count-apart zero p q f = omega arith
count-apart (suc n) p q f = go (p n) (q n) (f n) (count-apart n p q f)
  where
    go : (a b : Bool) → (a ≡ true → b ≡ false) → count n p + count n q ≤ n → (bit a + count n p) + (bit b + count n q) ≤ suc n
    go true true d h = absurd (true≢false (d refl))
    go true false d h = omega arith
    go false true d h = omega arith
    go false false d h = omega arith

-- the taken ranks and the left neighbours of the pivot are no more than all ranks
ranks-fit : (G : Graph) (p : Position) → length (taken_ranks G p) + length (left_ranks G p) ≤ G.size
unfolding taken_ranks left_ranks
ranks-fit G p =
    let a = passing-count G.size (is 1 p) in
    let b = passing-count G.size (λ r. has 1 p && is 2 p r && adjacent G (pivot G p) r) in
    let k = count-apart G.size (is 1 p) (λ r. has 1 p && is 2 p r && adjacent G (pivot G p) r)
    (λ r e.
    fails _
    (λ f.
    let two = eqb-true (get_or p r 0) 2 ((test_and {a = has 1 p} test_self test_self).0 ((test_and {a = has 1 p && is 2 p r} test_self test_self).0 f).0).1 in
    let one = eqb-true (get_or p r 0) 1 e in
    omega arith)) in
    omega arith

-- numbers are equal where their four parts are
pub same-tally : (x y : Tally) → x.members ≡ y.members → x.sum ≡ y.sum → x.least ≡ y.least → x.largest ≡ y.largest → x ≡ y
same-tally x y a b c d i = record { members = a i; sum = b i; least = c i; largest = d i }

module _ {G : Graph} {w : List ℕ} {q : Criterion} {s : State} (a : Asks G w q s) where
  abbrev p₀ : Position
  p₀ = a.stands.0

  h₀ : Stands G p₀ w s
  h₀ = a.stands.1

  loopless : Loopless G
  loopless = a.simple.loopless

  symmetric : Symmetric G
  symmetric = a.simple.symmetric

  pub taken-few : s.taken ≤ G.size
  taken-few = let b = h₀.bound in let c = h₀.taken-bound in omega arith

  -- ---- what the tests say

  still : ((p : Position) → Stands G p w s → false ≡ found (rules G (settings_in q)) p) → SaysQualifies G w w q s false
  still f = record { answer = f; stands = λ p h. h; length-kept = refl }

  pub judged_open : s.decided < G.size → SaysQualifies G w w q s false
  judged_open l =
      still (λ p h. let e = h.long in sym (found_open G p (settings_in q) s.decided (omega arith) (h.still_open s.decided (omega arith))))

  pub length_taken : (p : Position) → Stands G p w s → length (taken_list G p) ≡ s.taken
  length_taken p h = taken-length G p ∙ taken-count G p w s h

  pub judged_untaken : s.taken ≡ 0 → SaysQualifies G w w q s false
  judged_untaken e = still (λ p h. sym (found_untaken G p (settings_in q) (length_taken p h ∙ e)))

  pub judged_apart : s.apart ≡ true → SaysQualifies G w w q s false
  judged_apart e = still (λ p h. sym (found-apart G p (settings_in q) (sym h.apart ∙ e)))

  module _ (all : G.size ≤ s.decided) (taken : s.taken ≢ 0) (met : s.apart ≡ false) where
    some : 0 < s.taken
    some = omega (arith, taken)

    -- the taken vertices, as they are lent
    abbrev members : List ℕ
    members = part w G.size (G.size + s.taken - G.size)

    pub tally-fits : TallyFits G.size members s
    tally-fits =
        record {
          whole = let l = taken-few in omega (arith, h₀.room, part_length w G.size (G.size + s.taken - G.size) (omega (arith, h₀.room)));
          some = some;
          vertices = part-vertices G.size w G.size _ (λ i l. vertex_low h₀ i (omega arith));
        }

    -- what is read is the taken set's numbers
    tally-is : (p : Position) → Stands G p w s → read_tally G members s ≡ tally_of G p
    tally-is p h =
        let l = sym (length_taken p h) in
        let e = vertices-lent w G.size s.taken ∙ h.vertices in
        same-tally _ _
        l
        h.sum
        (ap (λ (vs : List ℕ). degree G (get_or vs 0 0)) e)
        (ap₂ (λ (vs : List ℕ) (k : ℕ). degree G (get_or vs (k - 1) 0)) e l)

    some-listed : (p : Position) → Stands G p w s → 0 < length (taken_list G p)
    some-listed p h = let l = length_taken p h in omega arith

    all_decided_lem : (p : Position) → Stands G p w s → (r : ℕ) → r < G.size → (get_or p r 0 ≡ 0 → ⊥)
    all_decided_lem p h r l = h.decided r (omega arith)

    found-is : (p : Position) → Stands G p w s
        → found (rules G (settings_in q)) p ≡ (isolated_of q (tally_of G p) && not (beaten_of G q (tally_of G p) (candidates_of G p)))
    found-is p h =
        found_by G p h.long h.bytes (all_decided_lem p h) (some-listed p h) loopless symmetric (settings_in q) (sym h.apart ∙ met)

    module _ {y : Tally} (e : y ≡ read_tally G members s) where
      isolated-is : (p : Position) → Stands G p w s → isolated_of q (tally_of G p) ≡ isolated_of q y
      isolated-is p h = ap (isolated_of q) (sym (e ∙ tally-is p h))

      -- the taken set is not isolated
      pub judged_exposed : isolated_of q y ≡ false → SaysQualifies G w w q s false
      judged_exposed f =
          still (λ p h. sym (found-is p h ∙ ap (λ (b : Bool). b && not (beaten_of G q (tally_of G p) (candidates_of G p))) (isolated-is p h ∙ f)))

      -- ---- the common neighbours

      pub sifts : Sifts G w s.taken s.left
      unfolding left_ranks
      sifts =
          record {
            room = h₀.room;
            few-taken = taken-few;
            few-left = left-few h₀;
            vertices = vertex_low h₀;
            left_ranks_lem = λ i l.
                let e = left-entry G p₀ w s h₀ i l in
                let c = left-count G p₀ w s h₀ in
                let r = left_below p₀ i (omega arith) in
                omega arith;
          }
        where
          left_below : (p : Position) (i : ℕ) → i < length (left_ranks G p) → get_or (left_ranks G p) i 0 < G.size
          left_below p i l = (passing-listed (λ r. has 1 p && is 2 p r && adjacent G (pivot G p) r) G.size (get_or (left_ranks G p) i 0) (i, l, refl)).0

      module _ {w₁ : List ℕ} {m : ℕ} (f : Sifted G w w₁ s.taken s.left m) where
        candidates_are : (p : Position) → Stands G p w s → part w₁ (3 * G.size) m ≡ candidates_of G p
        unfolding candidates_of
        candidates_are p h = f.found.listed ∙ ap₂ (λ (us vs : List ℕ). joined_of G us (map (vertex_at G) vs)) h.vertices h.left

        pub parts : 5 * G.size ≤ length w₁
        parts = let r = h₀.room in let k = f.found.kept.length-kept in omega arith

        pub posed : Posed G w₁ q y m
        posed =
            record {
              set = taken_set G p₀;
              room = room-left;
              loopless = loopless;
              symmetric = symmetric;
              clique = taken-clique G p₀ (some-listed p₀ h₀) symmetric (sym h₀.apart ∙ met);
              tally = subst (λ (x : Tally). TallyOf G (taken_set G p₀) x) (sym (e ∙ tally-is p₀ h₀)) (taken-tally G p₀ (some-listed p₀ h₀));
              candidates =
                  subst (λ (vs : List ℕ). Candidates G (taken_set G p₀) vs) (sym (candidates_are p₀ h₀))
                  (taken-candidates G p₀ h₀.long h₀.bytes (all_decided_lem p₀ h₀) (some-listed p₀ h₀) loopless symmetric);
            }
          where
            room-left : y.members + m ≤ G.size
            room-left =
                let k = ap (λ (x : Tally). x.members) e in
                let c = taken-count G p₀ w s h₀ in
                let d = left-count G p₀ w s h₀ in
                let r = ranks-fit G p₀ in
                let g = f.fewer in
                omega arith

        -- an isolated taken set: it qualifies where it is not beaten
        pub judged_by : isolated_of q y ≡ true → {w₂ : List ℕ} {b : Bool} → Tested G w₁ w₂ q y m b → SaysQualifies G w w₂ q s (not b)
        judged_by i {w₂} {b} x =
            record {
              answer = λ p h.
                  ap not (x.answer ∙ ap₂ (λ (z : Tally) (vs : List ℕ). beaten_of G q z vs) (e ∙ tally-is p h) (candidates_are p h))
                  ∙ sym (found-is p h ∙ ap (λ (d : Bool). d && not (beaten_of G q (tally_of G p) (candidates_of G p))) (isolated-is p h ∙ i));
              stands = λ p h. stands-kept h kept;
              length-kept = kept.length-kept;
            }
          where
            kept : StateKept G.size s.taken w w₂
            kept = state_then f.found.kept (kept-state x.kept (omega arith) taken-few) (omega arith)
