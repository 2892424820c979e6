-- A record says what document 02, C-14, has it say, and so do the records of a list.
-- Assumes nothing.
use Prim.Native.Nat.{ℕ, zero, suc, ◌+◌, ◌-◌, ◌*◌, ◌/◌, ◌%◌, ◌≤◌, ◌<◌, zero-le}
use mathlib.Core.Path.{◌≡◌, refl, sym, ap, ◌∙◌, subst⁻¹}
use mathlib.Core.Bool.{Bool, true, false, cond}
use mathlib.Core.Logic.{◌↔◌, ⊎_elim}
use mathlib.Core.List.{List, [], ◌∷◌}
use native.Mathlib.Nat.{le_trans, mul-le-mul, add-zero, zero-add}
use native.Mathlib.Omega.{arith}
use lib.Dec.{eqb}
use lib.ListN.{length, get_or}
use borrow.Author.Tests.{eq-eqb, eqb-true}
use Rattle.std.proofs.lemmas.List.{ext_get_or}
use Rattle.model.specs.Below.{least}
use Rattle.model.specs.Graph.{Graph, rank_of}
use Rattle.model.specs.Groups.{Settings, VertexSet, size_of, outside, outgoing}
use Rattle.model.specs.Walk.{Position, records}
use Rattle.model.specs.Listing.{taken_set, taken_list, record_with, record_of, record_length, rules}
use Rattle.model.specs.Records.{MakeUp, RecordSays, Recorded}
use Rattle.theory.proofs.Basics.Tests.{count_le, trichotomy}
use Rattle.theory.proofs.Basics.Counting.{total_most, least-passes}
use Rattle.theory.proofs.Basics.Passing.{taken-members, taken_ranks_rise}
use Rattle.theory.proofs.Search.Members.{members-long}

-- ---- the two entries

-- a count is parted by div and mod exactly where the two parts make it up
pub parted_iff : (edges high low : ℕ) → MakeUp edges high low ↔ ((high ≡ edges / 65536) × (low ≡ edges % 65536))
parted_iff edges high low = (λ m. let a = m.0 in let b = m.1 in (omega arith, omega arith), λ e. let a = e.0 in let b = e.1 in (omega arith, omega arith))

-- each of at most n members has at most n neighbours outside
outgoing_most : (G : Graph) (S : VertexSet) → outgoing G S ≤ G.size * G.size
unfolding outgoing outside
outgoing_most G S = total_most G.size G.size _ (λ u. at (S u) u)
  where
    at : (b : Bool) (u : ℕ) → cond b (outside G S u) 0 ≤ G.size
    at true u = count_le G.size _
    at false u = zero-le

-- ---- a record

-- it has three entries more than its set has members
pub record_long : (G : Graph) (p : Position) → length (record_of G p) ≡ record_length (size_of G (taken_set G p))
unfolding record_with record_of
record_long G p = let e = members-long G (taken_set G p) (taken_list G p) (taken-members G p) in omega arith

-- numbers that rise from place to place do so by one at least
climbs : (f : ℕ → ℕ) (m : ℕ) → ((i : ℕ) → suc i < m → f i < f (suc i)) → (i d : ℕ) → i + d < m → f i + d ≤ f (i + d)
climbs f m up i zero h = let e : f i ≡ f (i + 0) = ap f (sym (add-zero i)) in omega arith
climbs f m up i (suc d) h =
    let e : suc (i + d) ≡ i + suc d = omega arith in
    let r = climbs f m up i d (omega arith) in
    let n = up (i + d) (omega arith) in
    let s = ap f e in
    omega arith

-- so m of them below m stand each at the place of its own number
in_place : (f : ℕ → ℕ) (m : ℕ) → ((i : ℕ) → suc i < m → f i < f (suc i)) → ((i : ℕ) → i < m → f i < m) → (i : ℕ) → i < m → f i ≡ i
in_place f m up below i h =
    let low = climbs f m up 0 i (omega arith) in
    let z : f (0 + i) ≡ f i = ap f (zero-add i) in
    let high = climbs f m up i (m - 1 - i) (omega arith) in
    let top = below (i + (m - 1 - i)) (omega arith) in
    omega arith

-- what says of a set what its record says has the record's entries
module _ (G : Graph) (p : Position) (es : List ℕ) (r : RecordSays G (taken_set G p) es) where
  abbrev us : List ℕ
  us = taken_list G p

  -- where its vertex i stands in the record
  place : ℕ → ℕ
  place i = least (length us) (λ j. eqb (get_or us j 0) (get_or r.vertices i 0))

  long : length r.vertices ≡ length us
  long = r.members ∙ sym (members-long G (taken_set G p) us (taken-members G p))

  placed : (i : ℕ) → i < length us → (place i < length us) × (get_or us (place i) 0 ≡ get_or r.vertices i 0)
  unfolding place
  placed i h =
      let m = (taken-members G p).complete (get_or r.vertices i 0) (r.sound i (omega (arith, long))) in
      let t = least-passes (length us) (λ j. eqb (get_or us j 0) (get_or r.vertices i 0)) m.0 m.1 (eq-eqb _ _ m.2) in
      (t.0, eqb-true _ _ t.1)

  places_rise : (i : ℕ) → suc i < length us → place i < place (suc i)
  places_rise i h =
      let a = placed i (omega arith) in
      let b = placed (suc i) h in
      let c = ap (rank_of G) a.1 in
      let d = ap (rank_of G) b.1 in
      let e = r.in_rank_order i (suc i) (omega arith) (omega (arith, long)) in
      ⊎_elim (λ l. l)
      (λ o. absurd (⊎_elim
      (λ s. let z = ap (λ (k : ℕ). rank_of G (get_or us k 0)) s in omega arith)
      (λ g. let u = taken_ranks_rise G p (place (suc i)) (place i) g a.0 in omega arith) o))
      (trichotomy (place i) (place (suc i)))

  -- so it has the record's vertices, each at its place,
  same-vertices : r.vertices ≡ us
  same-vertices =
      ext_get_or 0 r.vertices us long
      (λ i h.
      let l : i < length us = omega (arith, long) in
      sym (placed i l).1 ∙ ap (λ (k : ℕ). get_or us k 0) (in_place place (length us) places_rise (λ j k. (placed j k).0) i l))

  -- and is the record
  only_record : es ≡ record_of G p
  unfolding record_with record_of
  only_record =
      let m = (parted_iff (outgoing G (taken_set G p)) r.high r.low).0 r.edges in
      let k : size_of G (taken_set G p) ≡ length us = sym r.members ∙ long in
      r.entries ∙ (λ i. k i ∷ m.0 i ∷ m.1 i ∷ same-vertices i)

module _ (G : Graph) (small : G.size ≤ 1024) where
  -- so in a graph of document 01 they are at most 1,048,576
  few : (S : VertexSet) → outgoing G S ≤ 1024 * 1024
  few S = le_trans (outgoing_most G S) (mul-le-mul small small)

  -- it says of its set what it should,
  pub record_says : (p : Position) → RecordSays G (taken_set G p) (record_of G p)
  unfolding record_with record_of
  record_says p =
      let M = taken-members G p in
      let f = few (taken_set G p) in
      let long = members-long G (taken_set G p) (taken_list G p) M in
      record {
        high = outgoing G (taken_set G p) / 65536;
        low = outgoing G (taken_set G p) % 65536;
        vertices = taken_list G p;
        entries = ap (λ (k : ℕ). k ∷ outgoing G (taken_set G p) / 65536 ∷ outgoing G (taken_set G p) % 65536 ∷ taken_list G p) long;
        edges = (parted_iff (outgoing G (taken_set G p)) _ _).1 (refl, refl);
        fits = omega arith;
        members = long;
        sound = M.sound;
        complete = M.complete;
        in_rank_order = taken_ranks_rise G p;
      }

  -- and no other list of entries does
  pub says_iff : (p : Position) (es : List ℕ) → RecordSays G (taken_set G p) es ↔ (es ≡ record_of G p)
  says_iff p es = (only_record G p es, λ e. subst⁻¹ (RecordSays G (taken_set G p)) e (record_says p))

  -- ---- a list of records

  -- the records of a list say so one by one
  pub records_say : (s : Settings) (ps : List Position) → Recorded G ps (records (rules G s) ps)
  unfolding records
  records_say s [] = refl
  records_say s (p ∷ ps) = (record_of G p, records (rules G s) ps, refl, record_says p, records_say s ps)
