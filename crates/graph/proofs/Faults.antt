-- The refusals of a table and a degree list as a search over them finds them, and what accepted ones have.
-- Assumes nothing.
use Prim.Native.Nat.{ℕ, ◌*◌}
use mathlib.Core.Path.{◌≡◌, sym, ap, ◌∙◌}
use mathlib.Core.Bool.{Bool, not, ◌||◌}
use mathlib.Core.List.{List}
use mathlib.Core.Logic.{◌≢◌}
use lib.ListN.{length, get_or}
use lib.Dec.{ltb, eqb}
use Rattle.model.specs.Below.{any}
use Rattle.model.specs.Graph.{row_length, by_packed, degree, degree_list}
use Rattle.model.specs.Meaning.{Simple}
use Rattle.model.specs.Calls.{refuse, looped, one_way, refuse_graph, stray, refuse_packed, refuse_degrees}
use Rattle.theory.proofs.Basics.Refusals.{else_none, else_found, else_passed}
use Rattle.theory.proofs.Graph.DegreeList.{degree_list-length, degree_list_at}
use Rattle.theory.proofs.Graph.Packed.{clean_iff}
use Rattle.theory.proofs.Calls.PackedFaults.{packed_passed}
use Rattle.theory.proofs.Calls.DegreeFaults.{degrees-accepted}
use Rattle.graph.specs.Table.{TableFits, lent_table, lent, graph_of}
use Rattle.graph.specs.Degrees.{DegreesFit, HoldsDegrees}
use Rattle.graph.specs.declared.table.Table.{Table}
use Rattle.graph.specs.Held.{graph_in, Lists}
use Rattle.graph.specs.Given.{TableOf}

-- the refusal number by the outcome of each test
pub refusal_by : (n : ℕ) (t : List ℕ) {a b c d e : Bool} → ltb 1024 n ≡ a → not (eqb (length t) (n * row_length n)) ≡ b → stray n t ≡ c
    → looped (by_packed n t) ≡ d → one_way (by_packed n t) ≡ e → refuse 1 a (refuse 2 b (refuse 45 c (refuse 4 d (refuse 5 e 0)))) ≡ refuse_packed n t
unfolding refuse_packed refuse_graph
refusal_by n t p q r s o = rw (p, q, r, s, o)

-- ---- a table without a fault

module _ (n : ℕ) (t : List ℕ) where
  -- it has the length that code relies on
  pub table_fits : (lent_table n t).fault ≡ 0 → TableFits n t
  table_fits e =
      let p = packed_passed n t e in
      record { small = p.simple.bounded; whole = p.whole; none-stray = (clean_iff n t).1 p.clean }

  -- and its graph is one of document 01
  pub lent-simple : (lent_table n t).fault ≡ 0 → Simple (graph_of n t)
  lent-simple e = (packed_passed n t e).simple

-- ---- a table and a degree list

module _ (n : ℕ) (t d : List ℕ) where
  -- the table has a fault
  pub by_table_lem : {r : ℕ} → r ≡ (lent_table n t).fault → r ≢ 0 → r ≡ (lent n t d).fault
  by_table_lem e x = e ∙ sym (else_found (λ z. x (e ∙ z)) _)

  -- it has none, and the outcome of the tests of the list decides
  pub by_list : {r : ℕ} {a b : Bool} → r ≡ (lent_table n t).fault → r ≡ 0 → not (eqb (length d) n) ≡ a
      → any n (λ v. not (eqb (get_or d v 0) (degree (graph_of n t) v))) ≡ b → refuse 42 (a || b) 0 ≡ (lent n t d).fault
  unfolding refuse_degrees
  by_list e z p q = rw (p, q) (sym (else_none (sym e ∙ z) _))

  -- a table whose graph's degrees the list holds has no fault with it where it has none by itself,
  pub lent-listed : (lent_table n t).fault ≡ 0 → d ≡ degree_list (graph_of n t) → (lent n t d).fault ≡ 0
  lent-listed e l = else_none e _ ∙ (degrees-accepted (graph_of n t) d).1 l

  -- and only there
  pub lent_table_lem : (lent n t d).fault ≡ 0 → (lent_table n t).fault ≡ 0
  lent_table_lem e = (else_passed (lent_table n t).fault _ e).0

-- what a table and a list without a fault have
pub record LentPassed (n : ℕ) (t d : List ℕ) : Type 0 where
  pub fits : TableFits n t
  pub simple : Simple (graph_of n t)
  pub degrees-fit : DegreesFit n d
  pub degrees : HoldsDegrees n (graph_of n t) d

pub lent-passed : (n : ℕ) (t d : List ℕ) → (lent n t d).fault ≡ 0 → LentPassed n t d
lent-passed n t d e =
    let a = else_passed (lent_table n t).fault _ e in
    let f = table_fits n t a.0 in
    let l = (degrees-accepted (graph_of n t) d).0 a.1 in
    record {
      fits = f;
      simple = lent-simple n t a.0;
      degrees-fit = record { small = f.small; whole = ap length l ∙ degree_list-length (graph_of n t) };
      degrees = λ v h. ap (λ (x : List ℕ). get_or x v 0) l ∙ degree_list_at (graph_of n t) v h;
    }

-- ---- the same of the table that a call makes of its arguments

module _ {n : ℕ} {numbers : List ℕ} (t : Table) (h : TableOf n numbers t) (d : List ℕ) where
  -- whether some entry of the list is not the degree of its vertex
  pub wrong_degree-of : any t.n (λ v. not (eqb (get_or d v 0) (degree (graph_in t) v))) ≡ any n (λ v. not (eqb (get_or d v 0) (degree (graph_of n numbers) v)))
  wrong_degree-of = rw (h.vertices, h.numbers)

  -- where none is, the list has the degrees of the table's graph
  pub lists-passed : (lent n numbers d).fault ≡ 0 → Lists t d
  lists-passed e =
      let p = lent-passed n numbers d e in
      record { whole = p.degrees-fit.whole ∙ sym h.vertices; degrees = rw (h.vertices, h.numbers) p.degrees }
