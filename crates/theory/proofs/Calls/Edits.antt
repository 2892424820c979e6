-- The calls that join or part a pair: the number that they are refused with, what an accepted edit leaves, that edits can follow one another, that an
-- edit can be undone, and that the pair has no direction.
-- Assumes nothing.
use Prim.Native.Nat.{ℕ, zero, suc, ◌≤◌, ◌<◌}
use mathlib.Core.Path.{◌≡◌, refl, sym, ap, ap₂, ◌∙◌, subst⁻¹}
use mathlib.Core.Bool.{Bool, true, false, ◌&&◌, not, beq, not-not, true≢false, false≢true}
use mathlib.Core.Logic.{◌↔◌, ◌≢◌, ◌⊎◌, inl, inr, ⊎_elim}
use mathlib.Core.List.{List, [], ◌∷◌, ◌++◌}
use native.Mathlib.Omega.{arith}
use lib.Dec.{ltb, eqb}
use borrow.Author.Tests.{eqb-true, eqb-false, ne_eqb, not-false}
use Rattle.model.specs.Below.{bit}
use Rattle.model.specs.Graph.{Graph, LentGraph, pair_bit, by_packed, with_bits, degree_list}
use Rattle.model.specs.Calls.{refuse, or_else, refuse_packed, packed_table, with_degrees}
use Rattle.model.specs.Fault.{Fault, FirstFault, NoFault}
use Rattle.model.specs.Faults.{numbers_of, packed_faults, degrees_faults, Lends}
use Rattle.model.specs.Edits.{refuse_pair, refuse_edit, recount, EditReply, edit_reply, edit_to, edit_call, edit_faults, Edited}
use Rattle.theory.proofs.Basics.Tests.{Test, test_map, test_agree, test_and, test_not, test_lt, test_eq, lt_or_ge, not-different, passes_or_fails, beq_true, beq_false}
use Rattle.theory.proofs.Basics.Refusals.{refuse_pass, refuse_on, else_none, else_passed}
use Rattle.theory.proofs.Graph.Pairs.{but_simple, recount-length, recount-other, recount_turned, degrees_follow}
use Rattle.theory.proofs.Graph.Packed.{pair_bit-small, packed-joined_at}
use Rattle.theory.proofs.Graph.PackedPairs.{BitsIn, bits_in, bits-length, bits_turned, bits_others, bits_clean, bits_graph, bits_restored}
use Rattle.theory.proofs.Calls.Fault.{refuse-first, none_found, first-none, first-once, first_else, numbers_both}
use Rattle.theory.proofs.Calls.PackedFaults.{packed_passed, packed_passes}
use Rattle.theory.proofs.Calls.DegreeFaults.{with_degrees_iff}

-- ---- an edit's reply by its refusal number, whatever form its graph is lent in

module _ (L : LentGraph) (u v : ℕ) (b : Bool) (t d t₁ : List ℕ) where
  -- the number in the answer is the refusal number
  pub edit_number : (edit_to L b u v t d t₁).refused ≡ refuse_edit L u v
  unfolding edit_to edit_reply
  edit_number = go (refuse_edit L u v) (beq (L.graph.joined u v) b)
    where
      go : (k : ℕ) (so : Bool) → (edit_reply k so t d t₁ (recount b u (recount b v d))).refused ≡ k
      go zero true = refl
      go zero false = refl
      go (suc k) so = refl

  by_number : {k : ℕ} {so : Bool} → refuse_edit L u v ≡ k → beq (L.graph.joined u v) b ≡ so
      → edit_to L b u v t d t₁ ≡ edit_reply k so t d t₁ (recount b u (recount b v d))
  unfolding edit_to
  by_number e s = ap₂ (λ (k : ℕ) (x : Bool). edit_reply k x t d t₁ (recount b u (recount b v d))) e s

  -- a refused edit leaves table and list as they were
  pub edit_left : {k : ℕ} → k ≢ 0 → refuse_edit L u v ≡ k → edit_to L b u v t d t₁ ≡ record { refused = k; unchanged = false; table = t; degrees = d }
  unfolding edit_reply
  edit_left {k = zero} h e = absurd (h refl)
  edit_left {k = suc k} h e = by_number e refl

  -- an accepted one changes nothing where the pair is so already
  pub edit_same : refuse_edit L u v ≡ 0 → beq (L.graph.joined u v) b ≡ true
      → edit_to L b u v t d t₁ ≡ record { refused = 0; unchanged = true; table = t; degrees = d }
  unfolding edit_reply
  edit_same e s = by_number e s

  -- and where it is not, leaves the table with the pair so, and the list in which its two degrees follow
  pub edit_done : refuse_edit L u v ≡ 0 → beq (L.graph.joined u v) b ≡ false
      → edit_to L b u v t d t₁ ≡ record { refused = 0; unchanged = false; table = t₁; degrees = recount b u (recount b v d) }
  unfolding edit_reply
  edit_done e s = by_number e s

-- ---- its refusals

-- a vertex is not below n
pub outside_test : (n u v : ℕ) → Test (not (ltb u n && ltb v n)) ((n ≤ u) ⊎ (n ≤ v))
outside_test n u v =
    test_map (test_not (test_and (test_lt u n) (test_lt v n)))
    (λ f. ⊎_elim (λ hu. ⊎_elim (λ hv. absurd (f (hu, hv))) inr (lt_or_ge v n)) inl (lt_or_ge u n))
    (λ o h. let hu = h.0 in let hv = h.1 in ⊎_elim (λ l. omega arith) (λ l. omega arith) o)

module _ {faults : List Fault} {L : LentGraph} (form : Lends faults L) (u v : ℕ) where
  -- it is refused with the first fault
  pub edit_first : FirstFault (edit_faults faults L.graph.size u v) (refuse_edit L u v)
  unfolding refuse_edit refuse_pair
  edit_first =
      first_else faults _ _ _ form.numbers form.first (λ sound.
      refuse-first 43 _ _ _ (outside_test L.graph.size u v) (λ h43. refuse-first 44 _ _ _ (test_eq u v) (λ h44. none_found)))

  -- and accepted exactly where no fault holds
  pub edit_accepted_iff : (refuse_edit L u v ≡ 0) ↔ NoFault (edit_faults faults L.graph.size u v)
  edit_accepted_iff = first-none (edit_faults faults L.graph.size u v) (refuse_edit L u v) (numbers_both faults _ form.numbers (omega arith)) edit_first

  -- refused, it answers with the fault's number, and leaves table and list as they were
  pub edit_refused : (k : ℕ) → k ≢ 0 → FirstFault (edit_faults faults L.graph.size u v) k → (b : Bool) (t d t₁ : List ℕ)
      → edit_to L b u v t d t₁ ≡ record { refused = k; unchanged = false; table = t; degrees = d }
  edit_refused k h f b t d t₁ =
      edit_left L u v b t d t₁ h (first-once (edit_faults faults L.graph.size u v) (refuse_edit L u v) k edit_first f)

-- "42 (right after 5) .. 43 (edit, after 42) .. 44 (edit, after 43)"
pub edit_order : (n : ℕ) (t d : List ℕ) (u v : ℕ)
    → numbers_of (edit_faults (packed_faults n t ++ degrees_faults (by_packed n t) d) n u v) ≡ (1 ∷ 2 ∷ 45 ∷ 4 ∷ 5 ∷ 42 ∷ 43 ∷ 44 ∷ [])
edit_order n t d u v = refl

-- what is accepted: what is lent has no fault, and u and v are two different vertices
pub record EditPassed (L : LentGraph) (u v : ℕ) : Type 0 where
  pub no_fault : L.fault ≡ 0
  pub from-below : u < L.graph.size
  pub to_below : v < L.graph.size
  pub differ : u ≢ v

pub edit_passes_iff : (L : LentGraph) (u v : ℕ) → (refuse_edit L u v ≡ 0) ↔ EditPassed L u v
unfolding refuse_edit refuse_pair
edit_passes_iff L u v = (there, back)
  where
    n : ℕ
    n = L.graph.size

    there : refuse_edit L u v ≡ 0 → EditPassed L u v
    there e =
        let a = else_passed L.fault _ e in
        let c = refuse_pass 42 _ _ a.1 in
        let d = refuse_pass 43 _ _ c.1 in
        let both = (test_and (test_lt u n) (test_lt v n)).0 (not-false (ltb u n && ltb v n) c.0) in
        record { no_fault = a.0; from-below = both.0; to_below = both.1; differ = eqb-false u v d.0 }

    back : EditPassed L u v → refuse_edit L u v ≡ 0
    back p =
        else_none p.no_fault _
        ∙ refuse_on 43 _ _ (ap not ((test_and (test_lt u n) (test_lt v n)).1 (p.from-below, p.to_below)))
        ∙ refuse_on 44 (eqb u v) 0 (ne_eqb u v p.differ)

-- ---- an accepted edit of a packed table

-- a pair is not both so and the other way
not_both : (b : Bool) → b ≡ not b → ⊥
not_both true e = true≢false e
not_both false e = false≢true e

beq_not : (b : Bool) → beq b (not b) ≡ false
beq_not true = refl
beq_not false = refl

-- a bit is 1 where it is to be, and else 0
bit_is : (b : Bool) {x : ℕ} → x ≤ 1 → eqb x 1 ≡ b → x ≡ bit b
bit_is true {x} h e = eqb-true x 1 e
bit_is false {x} h e = let d = eqb-false x 1 e in not-different x 0 (λ z. d (omega arith))

-- what it is of: a table without a fault, the list of its degrees, and a pair in it
record Accepted (n : ℕ) (t d : List ℕ) (u v : ℕ) : Type 0 where
  table-passes : refuse_packed n t ≡ 0
  own : d ≡ degree_list (by_packed n t)
  pair : BitsIn n u v t

module _ (n : ℕ) (t d : List ℕ) (u v : ℕ) where
  accepted_iff : (refuse_edit (with_degrees (packed_table n t) d) u v ≡ 0) ↔ Accepted n t d u v
  accepted_iff = (there, back)
    where
      there : refuse_edit (with_degrees (packed_table n t) d) u v ≡ 0 → Accepted n t d u v
      there e =
          let p = (edit_passes_iff (with_degrees (packed_table n t) d) u v).0 e in
          let l = (with_degrees_iff (packed_table n t) d).0 p.no_fault in
          record {
            table-passes = l.0;
            own = l.1;
            pair =
                record { from-below = p.from-below; to_below = p.to_below; differ = p.differ; whole = (packed_passed n t l.0).whole };
          }

      back : Accepted n t d u v → refuse_edit (with_degrees (packed_table n t) d) u v ≡ 0
      back a =
          (edit_passes_iff (with_degrees (packed_table n t) d) u v).1
          (record {
            no_fault = (with_degrees_iff (packed_table n t) d).1 (a.table-passes, a.own);
            from-below = a.pair.from-below;
            to_below = a.pair.to_below;
            differ = a.pair.differ;
          })

  module _ (a : Accepted n t d u v) where
    -- the pair is joined in both directions or in none
    both_ways : (by_packed n t).joined v u ≡ (by_packed n t).joined u v
    both_ways = (packed_passed n t a.table-passes).simple.symmetric v u a.pair.to_below a.pair.from-below

    module _ (b : Bool) where
      -- both bits of the pair say whether it is joined
      held : (by_packed n t).joined u v ≡ b → (pair_bit n t u v ≡ bit b) × (pair_bit n t v u ≡ bit b)
      held e = (
        bit_is b (pair_bit-small n t u v) (sym (packed-joined_at n t u a.pair.from-below v a.pair.to_below) ∙ e),
        bit_is b (pair_bit-small n t v u) (sym (packed-joined_at n t v a.pair.to_below u a.pair.from-below) ∙ both_ways ∙ e),
      )

      -- the table with the pair written has no fault either
      written-passes : refuse_packed n (with_bits b n u v t) ≡ 0
      written-passes =
          let old = packed_passed n t a.table-passes in
          packed_passes n (with_bits b n u v t)
          (record {
            whole = (bits_in a.pair b).whole;
            clean = bits_clean a.pair b old.clean;
            simple = but_simple (bits_graph a.pair b) a.pair.differ old.simple;
          })

      -- and the list in which its two degrees follow is that of its graph's degrees, where the pair was not so
      written_own : (by_packed n t).joined u v ≡ not b → recount b u (recount b v d) ≡ degree_list (by_packed n (with_bits b n u v t))
      written_own e =
          ap (λ (l : List ℕ). recount b u (recount b v l)) a.own
          ∙ degrees_follow (bits_graph a.pair b) a.pair.from-below a.pair.to_below a.pair.differ e (both_ways ∙ e)

      -- so that the pair can be edited again
      written-accepted : (by_packed n t).joined u v ≡ not b → Accepted n (with_bits b n u v t) (recount b u (recount b v d)) u v
      written-accepted e = record { table-passes = written-passes; own = written_own e; pair = bits_in a.pair b }

      edited_same : (by_packed n t).joined u v ≡ b → Edited b n u v t d (record { refused = 0; unchanged = true; table = t; degrees = d })
      edited_same e =
          record {
            graph = record { same_size = refl; there = e; and_back = both_ways ∙ e; elsewhere = λ x y p q. refl };
            follows = a.own;
            table-length = refl;
            table-others = λ i k x y. refl;
            degrees-length = refl;
            degrees-others = λ w x y. refl;
            unchanged_iff = (λ x. refl, λ x. refl);
            unchanged-all = λ x. (refl, refl);
          }

      edited_done : (by_packed n t).joined u v ≡ not b
          → Edited b n u v t d (record { refused = 0; unchanged = false; table = with_bits b n u v t; degrees = recount b u (recount b v d) })
      edited_done e =
          let g = bits_graph a.pair b in
          record {
            graph = g;
            follows = written_own e;
            table-length = bits-length b n u v t;
            table-others = bits_others a.pair b;
            degrees-length = recount-length b u (recount b v d) ∙ recount-length b v d;
            degrees-others = λ w x y. recount-other b u (recount b v d) w x ∙ recount-other b v d w y;
            unchanged_iff = (λ x. absurd (false≢true x), λ x. absurd (not_both b (sym g.there ∙ ap (λ (G : Graph). G.joined u v) x ∙ e)));
            unchanged-all = λ x. absurd (false≢true x);
          }

module _ (b : Bool) (n : ℕ) (t d : List ℕ) (u v : ℕ) where
  of_call : (edit_call b n t d u v).refused ≡ 0 → refuse_edit (with_degrees (packed_table n t) d) u v ≡ 0
  of_call e = sym (edit_number (with_degrees (packed_table n t) d) u v b t d (with_bits b n u v t)) ∙ e

  -- what holds of the two replies of an accepted edit holds of its reply
  by_reply : (P : EditReply → Type 0) → (edit_call b n t d u v).refused ≡ 0
      → (Accepted n t d u v → (by_packed n t).joined u v ≡ b → P (record { refused = 0; unchanged = true; table = t; degrees = d }))
      → (Accepted n t d u v → (by_packed n t).joined u v ≡ not b
      → P (record { refused = 0; unchanged = false; table = with_bits b n u v t; degrees = recount b u (recount b v d) }))
      → P (edit_call b n t d u v)
  by_reply P e f g = go (passes_or_fails (beq ((by_packed n t).joined u v) b))
    where
      L : LentGraph
      L = with_degrees (packed_table n t) d

      a : Accepted n t d u v
      a = (accepted_iff n t d u v).0 (of_call e)

      go : (beq ((by_packed n t).joined u v) b ≡ true) ⊎ (beq ((by_packed n t).joined u v) b ≡ false) → P (edit_call b n t d u v)
      go (inl s) = subst⁻¹ P (edit_same L u v b t d (with_bits b n u v t) (of_call e) s) (f a (beq_true _ b s))
      go (inr s) = subst⁻¹ P (edit_done L u v b t d (with_bits b n u v t) (of_call e) s) (g a (beq_false _ b s))

  -- the new graph is the old one but for the pair, the new list is that of its degrees, and no other entry is touched
  pub edited : (edit_call b n t d u v).refused ≡ 0 → Edited b n u v t d (edit_call b n t d u v)
  edited e = by_reply (λ r. Edited b n u v t d r) e (λ a s. edited_same n t d u v a b s) (λ a s. edited_done n t d u v a b s)

  -- the same table and list then pass 1, 2, 45, 4, 5 and 42 again
  pub edit_chains : (edit_call b n t d u v).refused ≡ 0
      → (with_degrees (packed_table n (edit_call b n t d u v).table) (edit_call b n t d u v).degrees).fault ≡ 0
  edit_chains e =
      by_reply (λ r. (with_degrees (packed_table n r.table) r.degrees).fault ≡ 0) e
      (λ a s. (with_degrees_iff (packed_table n t) d).1 (a.table-passes, a.own))
      (λ a s. (with_degrees_iff (packed_table n (with_bits b n u v t)) _).1 (written-passes n t d u v a b, written_own n t d u v a b s))

  -- a joined pair that is parted again, or the other way round, gives back table and list, number for number
  pub edit_undone : (edit_call b n t d u v).refused ≡ 0 → (edit_call b n t d u v).unchanged ≡ false
      → edit_call (not b) n (edit_call b n t d u v).table (edit_call b n t d u v).degrees u v ≡ record { refused = 0; unchanged = false; table = t; degrees = d }
  edit_undone e =
      by_reply
      (λ r. r.unchanged ≡ false → edit_call (not b) n r.table r.degrees u v ≡ record { refused = 0; unchanged = false; table = t; degrees = d })
      e (λ a s x. absurd (true≢false x)) (λ a s x. undone a s)
    where
      undone : Accepted n t d u v → (by_packed n t).joined u v ≡ not b
          → edit_call (not b) n (with_bits b n u v t) (recount b u (recount b v d)) u v ≡ record { refused = 0; unchanged = false; table = t; degrees = d }
      undone a s =
          edit_done (with_degrees (packed_table n t₁) d₁) u v (not b) t₁ d₁ (with_bits (not b) n u v t₁) ((accepted_iff n t₁ d₁ u v).1 again)
          (ap (λ (x : Bool). beq x (not b)) (bits_graph a.pair b).there ∙ beq_not b)
          ∙ ap₂ (λ (x y : List ℕ). record { refused = 0; unchanged = false; table = x; degrees = y }) table degrees
        where
          t₁ : List ℕ
          t₁ = with_bits b n u v t

          d₁ : List ℕ
          d₁ = recount b u (recount b v d)

          again : Accepted n t₁ d₁ u v
          again = written-accepted n t d u v a b s

          table : with_bits (not b) n u v t₁ ≡ t
          table = let h = held n t d u v a (not b) s in bits_restored a.pair (not b) b h.0 h.1

          degrees : recount (not b) u (recount (not b) v d₁) ≡ d
          degrees =
              written_own n t₁ d₁ u v again (not b) ((bits_graph a.pair b).there ∙ sym (not-not b))
              ∙ ap (λ (x : List ℕ). degree_list (by_packed n x)) table ∙ sym a.own

-- ---- the pair has no direction

-- with its ends in either order it is refused with one number,
refuse_turned : (L : LentGraph) (u v : ℕ) → refuse_edit L u v ≡ refuse_edit L v u
unfolding refuse_edit refuse_pair
refuse_turned L u v =
    ap₂ (λ (x y : Bool). or_else L.fault (refuse 43 (not x) (refuse 44 y 0)))
    (test_agree (test_and (test_lt u n) (test_lt v n)) (test_and (test_lt v n) (test_lt u n)) (λ r. (r.1, r.0)) (λ r. (r.1, r.0)))
    (test_agree (test_eq u v) (test_eq v u) sym sym)
  where
    n : ℕ
    n = L.graph.size

-- and an edit is the same in both directions, a refused one too
pub edit_turned : (b : Bool) (n : ℕ) (t d : List ℕ) (u v : ℕ) → edit_call b n t d u v ≡ edit_call b n t d v u
edit_turned b n t d u v = go (refuse_edit L u v) refl
  where
    L : LentGraph
    L = with_degrees (packed_table n t) d

    back : {k : ℕ} → refuse_edit L u v ≡ k → refuse_edit L v u ≡ k
    back q = sym (refuse_turned L u v) ∙ q

    go : (k : ℕ) → refuse_edit L u v ≡ k → edit_call b n t d u v ≡ edit_call b n t d v u
    go zero q =
        let a = (accepted_iff n t d u v).0 q in
        by_number L u v b t d _ q refl
        ∙ ap₂ (λ (x y : List ℕ). edit_reply 0 (beq ((by_packed n t).joined u v) b) t d x y)
        (bits_turned b n u v t a.pair.differ a.pair.from-below a.pair.to_below) (recount_turned b u v d)
        ∙ sym (by_number L v u b t d _ (back q) (ap (λ (x : Bool). beq x b) (both_ways n t d u v a)))
    go (suc k) q = edit_left L u v b t d _ (λ z. omega arith) q ∙ sym (edit_left L v u b t d _ (λ z. omega arith) (back q))
