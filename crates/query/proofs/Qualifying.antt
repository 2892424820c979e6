-- Whether a set qualifies, from what each step of the set query gives.
-- Assumes nothing.
use Prim.Native.Nat.{ℕ, ◌+◌, ◌-◌, ◌*◌, ◌≤◌, ◌<◌}
use Rattle.std.specs.Prelude.{EachIndex, slice_index}
use mathlib.Core.Path.{◌≡◌, refl, sym, ap, ◌∙◌, subst}
use mathlib.Core.Bool.{Bool, true, false, ◌&&◌, not, true≢false}
use mathlib.Core.List.{List}
use mathlib.Core.Logic.{◌≢◌}
use native.Mathlib.Omega.{arith}
use lib.ListN.{length, get_or}
use Rattle.model.specs.Below.{passing}
use Rattle.model.specs.Graph.{Graph}
use Rattle.model.specs.Groups.{VertexSet, size_of, qualifies}
use Rattle.model.specs.Meaning.{Clique, Loopless, Symmetric}
use Rattle.model.specs.Listing.{is}
use Rattle.theory.specs.Search.{common, joined_all, Members, Candidates}
use Rattle.model.specs.Calls.{by_bytes}
use Rattle.theory.proofs.Basics.Tests.{Test, fails}
use Rattle.theory.proofs.Basics.Counting.{count-sub, count-all, count_split}
use Rattle.theory.proofs.Graph.Meaning.{qualifies_iff}
use Rattle.theory.proofs.Graph.Cliques.{common_test}
use Rattle.theory.proofs.Basics.Passing.{passing-listed, passing-has, passing-once, passing-candidates}
use Rattle.theory.proofs.Basics.PassingParts.{passing-same, passing-count}
use Rattle.theory.proofs.Search.Members.{common-list}
use Rattle.theory.proofs.Search.Maximal.{qualifies-tally}
use Rattle.isolation.specs.declared.criterion.Criterion.{Criterion}
use Rattle.isolation.specs.declared.Tally.{Tally}
use Rattle.isolation.specs.Numbers.{settings_in, isolated_of, beaten_of, TallyOf}
use Rattle.input.proofs.Refusals.{InputHeld}
use Rattle.theory.specs.Parts.{part, members_at, candidates_at, CandidatesIn}
use Rattle.larger.specs.Search.{Posed, Tested}
use Rattle.members.specs.Members.{MembersFit, HoldsMembers, MembersIn, pairwise, Tallies}
use Rattle.query.specs.Query.{QueryReady, Decided}
use Rattle.theory.proofs.Basics.Parts.{part_length, part_at}
use Rattle.graph.specs.Held.{graph_in}
use Rattle.graph.specs.declared.lent.Lent.{Lent}
use Rattle.graph.proofs.Vertices.{part-vertices}
use Rattle.members.proofs.Listed.{clique_test}
use Rattle.query.proofs.Refusals.{query-accepted}

-- the vertices that pass a set's test are its members
passing-members : (G : Graph) (S : VertexSet) → Members G S (passing G.size S)
passing-members G S =
    record {
      sound = λ i h. passing-listed S G.size (get_or (passing G.size S) i 0) (i, h, refl);
      complete = λ v h. passing-has S G.size v h.0 h.1;
      once = passing-once S G.size;
    }

-- a set and its common neighbours are no more than the vertices
both_fit : (G : Graph) (S : VertexSet) → size_of G S + length (passing G.size (common G S)) ≤ G.size
unfolding size_of
both_fit G S =
    let a = passing-count G.size (common G S) in
    let b = count-sub G.size (common G S) (λ v. true && not (S v)) (λ v h e. ap not ((common_test G S v h).0 e).beyond) in
    let k = count_split G.size (λ v. true) S in
    let m = count-all G.size in
    omega arith

-- ---- one set query that is accepted

module _ {L : Lent} {bs w₀ : List ℕ} {q : Criterion} (ready : QueryReady L bs w₀ q) where
  abbrev n : ℕ
  n = L.table.n

  abbrev graph : Graph
  graph = graph_in L.table

  abbrev members : VertexSet
  members = by_bytes bs

  pub accepted : InputHeld L (length bs) (length w₀)
  accepted = query-accepted L (settings_in q) bs (length w₀) ready.accepted

  loopless : Loopless graph
  loopless = accepted.simple.loopless

  symmetric : Symmetric graph
  symmetric = accepted.simple.symmetric

  pub work-fits : MembersFit (length bs) w₀
  work-fits = rw accepted.long (record { small = L.table.fits.small; parts = let r = accepted.enough in omega arith })

  -- after the members were written
  module _ {w₁ : List ℕ} {k : ℕ} (written : MembersIn (length bs) (passing (length bs) (is 1 bs)) w₀ w₁ k) where
    wrote : MembersIn n (passing n (is 1 bs)) w₀ w₁ k
    wrote = rw accepted.long at written

    pub long : 8 * n ≤ length w₁
    long = let r = accepted.enough in omega arith

    long-members : length (part w₁ (members_at n) k) ≡ k
    long-members = let l = long in let f = wrote.few in part_length w₁ n k (omega arith)

    has-members : Members graph members (part w₁ (members_at n) k)
    has-members =
        subst (λ (us : List ℕ). Members graph members us) (sym wrote.listed) (passing-members graph members)

    -- what the steps that read them require
    pub holds-members : HoldsMembers n w₁ k
    holds-members =
        record {
          few = wrote.few;
          parts = let l = long in omega arith;
          vertices = λ i h.
              let l = long-members in
              let a = (has-members.sound i (omega arith)).0 in
              let p = part_at w₁ n k i h in
              omega arith;
        }

    -- the part of the slice in which they stand
    pub same-part : part w₁ n (n + k - n) ≡ part w₁ (members_at n) k
    same-part = ap (part w₁ n) short
      where
        short : n + k - n ≡ k
        short = omega arith

    pub members-vertices : EachIndex (part w₁ n (n + k - n)) (λ i. slice_index (part w₁ n (n + k - n)) i < n)
    members-vertices = rw same-part (part-vertices n w₁ n k holds-members.vertices)

    pub members-few : length (part w₁ n (n + k - n)) ≤ n
    members-few = let f = wrote.few in rw (same-part, long-members) f

    decided : {r : Bool} → r ≡ qualifies graph (settings_in q) members → Decided graph bs w₀ w₁ (settings_in q) r
    decided e = record { answer = e; length-kept = wrote.length-kept }

    -- a set that is no clique does not qualify
    not-clique : (Clique graph members → ⊥) → Decided graph bs w₀ w₁ (settings_in q) false
    not-clique f = decided (sym (fails (qualifies graph (settings_in q) members) (λ yes. f ((qualifies_iff graph (settings_in q) members).0 yes).isolated_clique_lem.clique)))

    -- no member
    pub decide_empty : k ≡ 0 → Decided graph bs w₀ w₁ (settings_in q) false
    decide_empty e = not-clique (λ c. let m = (has-members.complete _ c.nonempty.1).1 in let l = long-members in omega arith)

    -- pairwise joined, where there are members
    cliques : k ≢ 0 → Test (pairwise graph (part w₁ (members_at n) k)) (Clique graph members)
    cliques some = clique_test graph symmetric members (part w₁ (members_at n) k) has-members (let l = long-members in omega arith)

    -- two members that are not joined
    pub decide_apart : k ≢ 0 → pairwise graph (part w₁ (members_at n) k) ≡ false → Decided graph bs w₀ w₁ (settings_in q) false
    decide_apart some e = not-clique (λ c. true≢false (sym ((cliques some).1 c) ∙ e))

    -- there are members, they are pairwise joined, and y has their numbers
    pub record Counted (y : Tally) : Type 0 where
      pub some : k ≢ 0
      pub joined : pairwise graph (part w₁ (members_at n) k) ≡ true
      pub tallies : Tallies n L.degrees.now (part w₁ (members_at n) k) y

    module _ {y : Tally} (counted : Counted y) where
      clique : Clique graph members
      clique = (cliques counted.some).0 counted.joined

      tally : TallyOf graph members y
      tally = counted.tallies graph refl L.listed.degrees members has-members

      -- what the isolation test requires
      pub small-numbers : y.members ≤ 1024
      small-numbers =
          let a = tally.members in
          let b = both_fit graph members in
          let d = L.table.fits.small in
          omega arith

      by_tally : (vs : List ℕ) → Candidates graph members vs → qualifies graph (settings_in q) members ≡ (isolated_of q y && not (beaten_of graph q y vs))
      by_tally vs A =
          qualifies-tally graph loopless symmetric members clique vs A y.members y.sum y.least y.largest tally (settings_in q)

      -- not isolated
      pub decide_open : isolated_of q y ≡ false → Decided graph bs w₀ w₁ (settings_in q) false
      decide_open e =
          decided
          (sym (by_tally (passing graph.size (common graph members)) (passing-candidates graph members)
          ∙ ap (λ (b : Bool). b && not (beaten_of graph q y (passing graph.size (common graph members)))) e))

      module _ {w₂ : List ℕ} {m : ℕ}
          (found : CandidatesIn n k (passing n (λ v. joined_all graph v (part w₁ (members_at n) k))) w₁ w₂ m) where
        candidates_are : part w₂ (candidates_at n) m ≡ passing graph.size (common graph members)
        candidates_are =
            found.listed
            ∙ passing-same n (λ v. joined_all graph v (part w₁ (members_at n) k)) (common graph members)
            (λ v h. sym (common-list graph members (part w₁ (members_at n) k) has-members loopless v h))

        has-candidates : Candidates graph members (part w₂ (candidates_at n) m)
        has-candidates = subst (λ (vs : List ℕ). Candidates graph members vs) (sym candidates_are) (passing-candidates graph members)

        -- what `beaten` requires
        pub beaten_asks : (5 * n ≤ length w₂) × Posed graph w₂ q y m
        beaten_asks =
            let l = long in (
              omega arith,
              record {
                set = members;
                room =
                    let a = tally.members in
                    let b = both_fit graph members in
                    let c = ap length candidates_are in
                    let p = part_length w₂ (3 * n) m (omega arith) in
                    omega arith;
                loopless = loopless;
                symmetric = symmetric;
                clique = clique;
                tally = tally;
                candidates = has-candidates;
              },
            )

        -- an isolated clique qualifies where it is not beaten
        pub decide_beaten : isolated_of q y ≡ true → {w₃ : List ℕ} {r : Bool} → Tested graph w₂ w₃ q y m r → Decided graph bs w₀ w₃ (settings_in q) (not r)
        decide_beaten isolated tested =
            record {
              answer =
                  ap not tested.answer
                  ∙ ap (λ (b : Bool). b && not (beaten_of graph q y (part w₂ (candidates_at n) m))) (sym isolated)
                  ∙ sym (by_tally (part w₂ (candidates_at n) m) has-candidates);
              length-kept = tested.kept.length-kept ∙ found.kept.length-kept ∙ wrote.length-kept;
            }
