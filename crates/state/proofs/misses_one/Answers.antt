-- `state::misses_one` meets its contract: the vertices that were passed are joined to v.
-- Assumes nothing.
use Rattle.std.proofs.Common.{ℕ, ◌-◌, ◌<◌, ◌≡◌, ◌∙◌, sym, ap, not, Bool, List, length, reverse, get_or, arith}
use Rattle.std.proofs.lemmas.Grind.{get_or_default_zero}
use Rattle.std.proofs.lemmas.Iterator.Adapters.{YieldsList-from_rev_slice}
use Rattle.std.proofs.lemmas.Iterator.Consumers.{YieldsList-turn, YieldsList-end}
use Rattle.std.proofs.lemmas.List.{length-reverse, get_or-reverse, length_push}
use Rattle.model.specs.Graph.{Graph}
use Rattle.theory.proofs.Basics.Tests.{from_more, any_found, any_none}
use Rattle.graph.specs.Held.{graph_in}
use Rattle.state.proofs.misses_one.Goals as goal

-- the entry that the loop reads after k others
from_last : (xs : List ℕ) (k : ℕ) {u : ℕ} → (k < length (reverse xs)) × (u ≡ get_or (reverse xs) k u) → (k < length xs) × (u ≡ get_or xs (length xs - 1 - k) 0)
from_last xs k {u} t =
    let h : k < length xs = omega (arith, t.0, length-reverse xs) in
    (h, t.1 ∙ get_or-reverse xs k u h ∙ get_or_default_zero xs (length xs - 1 - k) u (omega arith))

-- the test of the vertex x that was read as u
read : (G : Graph) (v : ℕ) {u w x : ℕ} {a b : Bool} → w ≡ x → u ≡ w → a ≡ G.joined u v → not a ≡ b → not (G.joined x v) ≡ b
read G v d e f g = ap (λ (u : ℕ). not (G.joined u v)) (sym d ∙ sym e) ∙ ap not (sym f) ∙ g

pub returns-then-not-joined : goal.returns-then-not-joined
returns-then-not-joined c =
    let xs = c.args.vertices.now in
    let t = from_last xs _ (YieldsList-turn (YieldsList-from_rev_slice xs c.loop-u.invariant.0) c.loop-u.yielded _ c.loop-u.yielded_by _ _ c.in-Some.u c.in-Some.is c.next.ensures.steps) in
    sym (any_found _ _ (length xs - 1 - length c.loop-u.yielded) (omega (arith, t.0)) (read (graph_in c.args.table.now) c.args.v t.1 c.from.ensures c.joined.ensures (ap not c.if-not-joined.true)))

pub loop-u-preserved : goal.loop-u-preserved
loop-u-preserved c =
    let xs = c.args.vertices.now in
    let t = from_last xs _ (YieldsList-turn (YieldsList-from_rev_slice xs c.loop-u.invariant.0) c.loop-u.yielded _ c.loop-u.yielded_by _ _ c.in-Some.u c.in-Some.is c.next.ensures.steps) in
    let now = read (graph_in c.args.table.now) c.args.v t.1 c.from.ensures c.joined.ensures (ap not c.if-not-joined.false) in
    (c.loop-u.invariant.0, λ j h. from_more _ (length xs - 1 - length c.loop-u.yielded) (length xs) now (λ i l. c.loop-u.invariant.1 i (omega (arith, l))) j (omega (arith, t.0, h, length_push c.loop-u.yielded c.in-Some.u)))

pub returns : goal.returns
returns c =
    let xs = c.args.vertices.now in
    let t = YieldsList-end (YieldsList-from_rev_slice xs c.loop-u.invariant.0) c.loop-u.yielded _ c.loop-u.yielded_by _ _ c.in-None.is c.next.ensures.steps in
    sym (any_none _ _ (λ j h. c.loop-u.invariant.1 j (omega (arith, t.1, length-reverse xs)) h))
