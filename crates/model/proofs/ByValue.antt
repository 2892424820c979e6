-- Document 01, "Graphs worked through": K1 to K10 and what is pinned beside them, by computation.
-- Assumes nothing.
use Prim.Native.Nat.{ℕ, zero, suc, ◌+◌, ◌*◌, ◌≤◌, ◌<◌}
use mathlib.Core.Path.{◌≡◌, refl, sym, ap, ap₂, ◌∙◌}
use mathlib.Core.Bool.{false≢true}
use mathlib.Core.List.{List, [], ◌∷◌}
use native.Mathlib.Omega.{arith}
use lib.ListN.{length, get_or}
use borrow.Author.Tests.{le-ltb, lt-ltb, ne_eqb}
use Rattle.model.specs.Graph.{by_table}
use Rattle.model.specs.Compute.{compute}
use Rattle.model.specs.Walk.{Position, Page, fresh, page}
use Rattle.model.specs.Listing.{rules}
use Rattle.model.specs.Calls.{reply_of, refuse, refuse_settings, refuse_page, page_call, by_bytes}
use Rattle.model.specs.Groups.{VertexSet, settings}
use Rattle.model.specs.Meaning.{In}
use Rattle.model.specs.Records.{RecordSays}
use Rattle.model.specs.Worked.{Gives, one, unjoined, triangle, claw_packed, claw, claw_degrees, claw_lent, wrote_nothing, Worked, Pinned}

-- ---- the record of a leaf of the claw

-- the leaf 1
abbrev leaf : VertexSet
leaf = by_bytes (0 ∷ 1 ∷ 0 ∷ 0 ∷ [])

-- it alone is in the set
leaf_only : (v : ℕ) → In claw leaf v → v ≡ 1
unfolding compute
leaf_only zero h = absurd (false≢true h.1)
leaf_only (suc zero) h = refl
leaf_only (suc (suc zero)) h = absurd (false≢true h.1)
leaf_only (suc (suc (suc zero))) h = absurd (false≢true h.1)
leaf_only (suc (suc (suc (suc v)))) h = let l = h.0 in absurd (omega arith)

says-leaf : RecordSays claw leaf (1 ∷ 0 ∷ 1 ∷ 1 ∷ [])
unfolding compute
says-leaf =
    record {
      high = 0;
      low = 1;
      vertices = 1 ∷ [];
      entries = refl;
      edges = (refl, omega arith);
      fits = omega arith;
      members = refl;
      sound = member;
      complete = λ v h. (0, omega arith, sym (leaf_only v h));
      in_rank_order = λ i j h l. absurd (omega arith);
    }
  where
    member : (i : ℕ) → i < 1 → In claw leaf (get_or (1 ∷ []) i 0)
    member zero h = (omega arith, refl)
    member (suc i) h = absurd (omega arith)

-- the entries of a record of it
module _ {es : List ℕ} (r : RecordSays claw leaf es) where
  edges_told : get_or es 1 0 * 65536 + get_or es 2 0 ≡ 1
  unfolding compute
  edges_told = let e = r.edges.0 in let h = ap (λ (l : List ℕ). get_or l 1 0) r.entries in let l = ap (λ (l : List ℕ). get_or l 2 0) r.entries in omega arith

  vertex_told : get_or es 3 0 ≡ 1
  unfolding compute
  vertex_told = ap (λ (l : List ℕ). get_or l 3 0) r.entries ∙ leaf_only (get_or r.vertices 0 0) (r.sound 0 (let m = r.members in omega arith))

says_exchanged : RecordSays claw leaf (1 ∷ 1 ∷ 0 ∷ 1 ∷ []) → ⊥
says_exchanged r = let e = edges_told r in omega arith

says_centre : RecordSays claw leaf (1 ∷ 0 ∷ 3 ∷ 0 ∷ []) → ⊥
says_centre r = let e = edges_told r in omega arith

says-another : RecordSays claw leaf (1 ∷ 0 ∷ 1 ∷ 2 ∷ []) → ⊥
says-another r = let e = vertex_told r in omega arith

-- what K1 to K10 leave open
pub pinned : (x : ℕ) → Pinned x
unfolding compute
pinned x =
    record {
      room = refl;
      whole = refl;
      budget-fresh = refl;
      budget-finished = refl;
      refused = refl;
      lowest = (refl, refl);
      factor = (refl, refl);
      K11 = refl;
      K11-pair = refl;
      halves = (refl, refl, refl);
      says_leaf = says-leaf;
      says-no-other = (says_exchanged, says_centre, says-another);
      asked_leaf = refl;
      asked_centre = refl;
      asked_empty = refl;
      text = refl;
      text-ended = refl;
      text-refused = refl;
      both_directions = refl;
      three_times = refl;
      edges-stated = refl;
      loop = refl;
      degrees-refused = (refl, refl, refl);
      joined = refl;
      parted = refl;
      joined_already = refl;
      parted_already = refl;
      edit_refused = (refl, refl, refl);
      listed = refl;
      listed-refused = refl;
      row_lengths = (refl, refl, refl);
      packed_row = (refl, refl);
      stray_bits = (refl, refl, refl, refl, refl, refl);
      packed = refl;
      packed-refused = refl;
    }

-- what holds of both kinds, and of the three notions
each-kind : (P : ℕ → Type 0) → P 0 → P 1 → (k : ℕ) → k ≤ 1 → P k
each-kind P p₀ p₁ zero h = p₀
each-kind P p₀ p₁ (suc zero) h = p₁
each-kind P p₀ p₁ (suc (suc k)) h = absurd (omega arith)

each-notion : (P : ℕ → Type 0) → P 0 → P 1 → P 2 → (m : ℕ) → m ≤ 2 → P m
each-notion P p₀ p₁ p₂ zero h = p₀
each-notion P p₀ p₁ p₂ (suc zero) h = p₁
each-notion P p₀ p₁ p₂ (suc (suc zero)) h = p₂
each-notion P p₀ p₁ p₂ (suc (suc (suc k))) h = absurd (omega arith)

k1 : (notion kind c : ℕ) → Gives (by_table 0 []) (settings notion kind c) [] 0
unfolding compute
k1 notion kind c = (refl, refl)

k2 : (notion kind : ℕ) → notion ≤ 2 → kind ≤ 1 → Gives one (settings notion kind 1) (1 ∷ 0 ∷ 0 ∷ 0 ∷ []) 2
unfolding compute
k2 notion kind h g =
    each-notion (λ m. Gives one (settings m kind 1) (1 ∷ 0 ∷ 0 ∷ 0 ∷ []) 2)
    (each-kind (λ k. Gives one (settings 0 k 1) (1 ∷ 0 ∷ 0 ∷ 0 ∷ []) 2) (refl, refl) (refl, refl) kind g)
    (each-kind (λ k. Gives one (settings 1 k 1) (1 ∷ 0 ∷ 0 ∷ 0 ∷ []) 2) (refl, refl) (refl, refl) kind g)
    (each-kind (λ k. Gives one (settings 2 k 1) (1 ∷ 0 ∷ 0 ∷ 0 ∷ []) 2) (refl, refl) (refl, refl) kind g)
    notion h

k3 : (kind : ℕ) → kind ≤ 1 → Gives unjoined (settings 2 kind 1) (1 ∷ 0 ∷ 0 ∷ 0 ∷ 1 ∷ 0 ∷ 0 ∷ 1 ∷ []) 6
unfolding compute
k3 = each-kind (λ k. Gives unjoined (settings 2 k 1) (1 ∷ 0 ∷ 0 ∷ 0 ∷ 1 ∷ 0 ∷ 0 ∷ 1 ∷ []) 6) (refl, refl) (refl, refl)

k4 : (notion kind : ℕ) → notion ≤ 2 → kind ≤ 1 → Gives triangle (settings notion kind 1) (3 ∷ 0 ∷ 0 ∷ 0 ∷ 1 ∷ 2 ∷ []) 10
unfolding compute
k4 notion kind h g =
    each-notion (λ m. Gives triangle (settings m kind 1) (3 ∷ 0 ∷ 0 ∷ 0 ∷ 1 ∷ 2 ∷ []) 10)
    (each-kind (λ k. Gives triangle (settings 0 k 1) (3 ∷ 0 ∷ 0 ∷ 0 ∷ 1 ∷ 2 ∷ []) 10) (refl, refl) (refl, refl) kind g)
    (each-kind (λ k. Gives triangle (settings 1 k 1) (3 ∷ 0 ∷ 0 ∷ 0 ∷ 1 ∷ 2 ∷ []) 10) (refl, refl) (refl, refl) kind g)
    (each-kind (λ k. Gives triangle (settings 2 k 1) (3 ∷ 0 ∷ 0 ∷ 0 ∷ 1 ∷ 2 ∷ []) 10) (refl, refl) (refl, refl) kind g)
    notion h

k5 : Gives claw (settings 2 0 2) (1 ∷ 0 ∷ 1 ∷ 1 ∷ 1 ∷ 0 ∷ 1 ∷ 2 ∷ 1 ∷ 0 ∷ 1 ∷ 3 ∷ []) 20
unfolding compute
k5 = (refl, refl)

k6 : Gives claw (settings 2 1 2) [] 20
unfolding compute
k6 = (refl, refl)

k7 : Gives claw (settings 1 0 2) (2 ∷ 0 ∷ 2 ∷ 1 ∷ 0 ∷ 2 ∷ 0 ∷ 2 ∷ 2 ∷ 0 ∷ 2 ∷ 0 ∷ 2 ∷ 3 ∷ 0 ∷ []) 20
unfolding compute
k7 = (refl, refl)

k8_min : (kind : ℕ) → kind ≤ 1 → Gives claw (settings 0 kind 1) (2 ∷ 0 ∷ 2 ∷ 1 ∷ 0 ∷ 2 ∷ 0 ∷ 2 ∷ 2 ∷ 0 ∷ 2 ∷ 0 ∷ 2 ∷ 3 ∷ 0 ∷ []) 20
unfolding compute
k8_min = each-kind (λ k. Gives claw (settings 0 k 1) (2 ∷ 0 ∷ 2 ∷ 1 ∷ 0 ∷ 2 ∷ 0 ∷ 2 ∷ 2 ∷ 0 ∷ 2 ∷ 0 ∷ 2 ∷ 3 ∷ 0 ∷ []) 20) (refl, refl) (refl, refl)

k8_avg : (kind : ℕ) → kind ≤ 1 → Gives claw (settings 1 kind 1) [] 20
unfolding compute
k8_avg = each-kind (λ k. Gives claw (settings 1 k 1) [] 20) (refl, refl) (refl, refl)

-- ---- K9

-- its calls are accepted
k9_accepted : (work : ℕ) → 32 ≤ work → refuse_page claw_lent (settings 2 0 2) (fresh 4) work ≡ 0
unfolding compute
k9_accepted work h = rw (le-ltb work 32 h)

-- a page from fresh on the claw, with so much budget and so many unused entries
abbrev claw_page : ℕ → ℕ → Page
claw_page budget room = page (rules claw (settings 2 0 2)) budget room (fresh 4)

-- a page that made so many steps, reached p and wrote nothing
abbrev walked : ℕ → ℕ → ℕ → Position → Page
walked stop steps wanted p = record { stop = stop; groups = 0; steps = steps; wanted = wanted; reached = p; written = [] }

-- where the entries are too few the page stops Full, and with one step less Spent
k9_stops : (room : ℕ) → room ≤ 3
    → (claw_page 8 room ≡ walked 3 7 4 (1 ∷ 2 ∷ 2 ∷ 2 ∷ [])) × (claw_page 7 room ≡ walked 2 7 0 (1 ∷ 2 ∷ 2 ∷ 2 ∷ []))
unfolding compute
k9_stops zero h = (refl, refl)
k9_stops (suc zero) h = (refl, refl)
k9_stops (suc (suc zero)) h = (refl, refl)
k9_stops (suc (suc (suc zero))) h = (refl, refl)
k9_stops (suc (suc (suc (suc room)))) h = absurd (omega arith)

-- The reply is computed under `ap₂`, at the number 0: rewriting the whole reply takes ten times as long
k9_full : (out : List ℕ) (work : ℕ) → length out ≤ 3 → 32 ≤ work → page_call 4 claw_packed claw_degrees (settings 2 0 2) 8 (fresh 4) out work ≡ wrote_nothing 3 7 4 (1 ∷ 2 ∷ 2 ∷ 2 ∷ []) out
unfolding compute
k9_full out work h w = ap₂ (λ (k : ℕ) (r : Page). reply_of k r (fresh 4) out) (k9_accepted work w) (k9_stops (length out) h).0

k9_spent : (out : List ℕ) (work : ℕ) → length out ≤ 3 → 32 ≤ work → page_call 4 claw_packed claw_degrees (settings 2 0 2) 7 (fresh 4) out work ≡ wrote_nothing 2 7 0 (1 ∷ 2 ∷ 2 ∷ 2 ∷ []) out
unfolding compute
k9_spent out work h w = ap₂ (λ (k : ℕ) (r : Page). reply_of k r (fresh 4) out) (k9_accepted work w) (k9_stops (length out) h).1

-- ---- K10

settings_pass : (notion kind c : ℕ) → notion ≤ 2 → kind ≤ 1 → 1 ≤ c → c ≤ 1024 → refuse_settings (settings notion kind c) ≡ 0
unfolding refuse refuse_settings
settings_pass notion kind c h g l u =
    rw (le-ltb 2 notion h, le-ltb 1 kind g, ne_eqb c 0 (omega arith), le-ltb 1024 c u)

module _ (notion kind c work : ℕ) (h : notion ≤ 2) (g : kind ≤ 1) (l : 1 ≤ c) (u : c ≤ 1024) (w : 32 ≤ work) where
  k10_passes : refuse_page claw_lent (settings notion kind c) (1 ∷ 1 ∷ 0 ∷ 0 ∷ []) work ≡ 0
  unfolding compute
  k10_passes = rw (settings_pass notion kind c h g l u, le-ltb work 32 w, lt-ltb 0 (c * 1) (omega arith))

  k10_dead : refuse_page claw_lent (settings notion kind c) (1 ∷ 1 ∷ 1 ∷ 0 ∷ []) work ≡ 23
  unfolding compute
  k10_dead = rw (settings_pass notion kind c h g l u, le-ltb work 32 w)

  k10_gap : refuse_page claw_lent (settings notion kind c) (0 ∷ 1 ∷ 0 ∷ 0 ∷ []) work ≡ 22
  unfolding compute
  k10_gap = rw (settings_pass notion kind c h g l u, le-ltb work 32 w)

pub worked : Worked
worked =
    record {
      K1 = k1;
      K2 = k2;
      K3 = k3;
      K4 = k4;
      K5 = k5;
      K6 = k6;
      K7 = k7;
      K8-min = k8_min;
      K8-avg = k8_avg;
      K9-full = k9_full;
      K9-spent = k9_spent;
      K10 = λ notion kind c work h g l u w.
          (k10_passes notion kind c work h g l u w, k10_dead notion kind c work h g l u w, k10_gap notion kind c work h g l u w);
    }
