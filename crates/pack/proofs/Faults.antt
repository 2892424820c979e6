-- The refusals of the bytes of a table, as a search over them finds them.
-- Assumes nothing.
use Prim.Native.Nat.{ℕ, ◌<◌}
use mathlib.Core.Path.{◌≡◌, refl, sym, ap, ◌∙◌}
use mathlib.Core.Bool.{Bool, true, false, not, beq, true≢false}
use mathlib.Core.List.{List}
use mathlib.Core.Logic.{◌⊎◌, inl, inr}
use native.Mathlib.Omega.{arith}
use Rattle.model.specs.Below.{any}
use Rattle.model.specs.Graph.{Graph, by_table}
use Rattle.model.specs.Calls.{refuse, over, looped, one_way, refuse_graph, refuse_bytes}
use Rattle.theory.proofs.Basics.Tests.{test_self, test_any, test_agree, trichotomy}
use Rattle.pack.specs.Bytes.{differ}

-- the refusal number by the outcome of each test
pub bytes_by : (n : ℕ) (t : List ℕ) {a b c : Bool} → over 1 t ≡ a → looped (by_table n t) ≡ b → one_way (by_table n t) ≡ c
    → refuse 3 a (refuse 4 b (refuse 5 c 0)) ≡ refuse_bytes n t
unfolding refuse_bytes refuse_graph
bytes_by n t p q r = rw (p, q, r)

-- ---- 5: of two different vertices one is below the other

-- whether two outcomes are different does not go by their order,
differ-turned : (a b : Bool) → not (beq a b) ≡ not (beq b a)
differ-turned true true = refl
differ-turned true false = refl
differ-turned false true = refl
differ-turned false false = refl

-- and none is different from itself
differ_self : (a : Bool) → not (beq a a) ≡ false
differ_self true = refl
differ_self false = refl

-- so it is enough to look at each pair of a vertex and one below it
pub one_way-below : (G : Graph) → any G.size (λ u. any u (differ G u)) ≡ one_way G
unfolding one_way
one_way-below G =
    test_agree (test_any G.size _ (λ u. test_any u (differ G u) (λ v. test_self))) (test_any G.size _ (λ u. test_any G.size (differ G u) (λ v. test_self)))
    (λ r. let l = r.1 in let k = r.2.1 in (r.0, r.1, (r.2.0, omega arith, r.2.2)))
    (λ r. ordered r.0 r.1 r.2.0 r.2.1 r.2.2 (trichotomy r.2.0 r.0))
  where
    ordered : (u : ℕ) → u < G.size → (v : ℕ) → v < G.size → differ G u v ≡ true → (v < u) ⊎ (v ≡ u) ⊎ (u < v)
        → (a : ℕ) × (a < G.size) × ((b : ℕ) × (b < a) × (differ G a b ≡ true))
    ordered u hu v hv e (inl l) = (u, hu, (v, l, e))
    ordered u hu v hv e (inr (inl s)) = absurd (true≢false (sym e ∙ ap (differ G u) s ∙ differ_self (G.joined u u)))
    ordered u hu v hv e (inr (inr l)) = (v, hv, (u, l, differ-turned (G.joined v u) (G.joined u v) ∙ e))
