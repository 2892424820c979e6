-- The refusals 1, 2, 45, 4, 5, 42 and 6 to 10 in their order, and what passes them.
-- Assumes nothing.
use Rattle.std.specs.Prelude.{ℕ, ◌*◌, ◌≤◌, ◌<◌, ◌≡◌, ◌≢◌, List}
use Rattle.std.proofs.Common.{sym, ◌∙◌}
use Rattle.std.proofs.lemmas.Bool.{lt-ltb, le-ltb, eq-eqb, ne_eqb}
use Rattle.model.specs.Graph.{LentGraph}
use Rattle.model.specs.Groups.{Settings}
use Rattle.model.specs.Meaning.{Simple}
use Rattle.model.specs.Calls.{refuse, refuse_settings, refuse_lengths, refuse_input}
use Rattle.theory.proofs.Basics.Refusals.{else_none, else_found}
use Rattle.theory.proofs.Calls.Acceptance.{input_accepted_iff}
use Rattle.graph.specs.Table.{lent}
use Rattle.graph.specs.Held.{graph_in}
use Rattle.graph.specs.Given.{LentAs}
use Rattle.graph.specs.declared.lent.Lent.{Lent}
use Rattle.graph.proofs.Faults.{LentPassed, lent-passed}
use Rattle.isolation.specs.declared.Settings as code
use Rattle.isolation.specs.Numbers.{settings_of, FactorFits}
use Rattle.isolation.proofs.Refusals.{factor-fits}

module _ (L : LentGraph) (s : Settings) (bytes work : ℕ) where
  -- ---- test by test

  -- what is lent has a fault
  pub by_graph : {r : ℕ} → r ≡ L.fault → r ≢ 0 → r ≡ refuse_input L s bytes work
  unfolding refuse_input
  by_graph e d = e ∙ sym (else_found (λ z. d (e ∙ z)) _)

  -- it has none
  module _ (fine : 0 ≡ L.fault) where
    -- the settings have a fault
    pub by_settings : {r : ℕ} → r ≡ refuse_settings s → r ≢ 0 → r ≡ refuse_input L s bytes work
    unfolding refuse_input
    by_settings e d = e ∙ sym (else_none (sym fine) _ ∙ else_found (λ z. d (e ∙ z)) _)

    -- nor have they
    module _ (in_range : 0 ≡ refuse_settings s) where
      by_lengths : refuse_input L s bytes work ≡ refuse_lengths L.graph.size bytes work
      unfolding refuse_input
      by_lengths = else_none (sym fine) _ ∙ else_none (sym in_range) _

      -- a position or set of another length
      pub by_bytes_lem : bytes ≢ L.graph.size → 9 ≡ refuse_input L s bytes work
      unfolding refuse_lengths refuse
      by_bytes_lem d = sym (by_lengths ∙ rw (ne_eqb bytes L.graph.size d))

      -- a work slice that is too short
      pub by_work : bytes ≡ L.graph.size → work < 8 * L.graph.size → 10 ≡ refuse_input L s bytes work
      unfolding refuse_lengths refuse
      by_work e l = sym (by_lengths ∙ rw (eq-eqb bytes L.graph.size e, lt-ltb work (8 * L.graph.size) l))

      -- no fault
      pub by_none : bytes ≡ L.graph.size → 8 * L.graph.size ≤ work → 0 ≡ refuse_input L s bytes work
      unfolding refuse_lengths refuse
      by_none e l = sym (by_lengths ∙ rw (eq-eqb bytes L.graph.size e, le-ltb work (8 * L.graph.size) l))

-- ---- what passes them

-- what a call has that passes 1, 2, 45, 4, 5, 42 and 6 to 10
pub record InputPassed (n : ℕ) (t d : List ℕ) (q : code.Settings) (bytes work : ℕ) : Type 0 where
  pub graph : LentPassed n t d
  pub factor : FactorFits q
  pub long : bytes ≡ n
  pub enough : 8 * n ≤ work

-- the same of the graph that the call made of its table and list; the factor's bound is a fact of its criterion
pub record InputHeld (l : Lent) (bytes work : ℕ) : Type 0 where
  pub simple : Simple (graph_in l.table)
  pub long : bytes ≡ l.table.n
  pub enough : 8 * l.table.n ≤ work

-- a call that passes them has it
pub input_passed : (n : ℕ) (t d : List ℕ) (q : code.Settings) (bytes work : ℕ) → refuse_input (lent n t d) (settings_of q) bytes work ≡ 0 → InputPassed n t d q bytes work
input_passed n t d q bytes work e =
    let a = (input_accepted_iff (lent n t d) (settings_of q) bytes work).0 e in
    record {
      graph = lent-passed n t d a.no_fault;
      factor = factor-fits q a.proper;
      long = a.long;
      enough = a.enough;
    }

-- and the graph that it made has it too
pub input_held : {n : ℕ} {t d : List ℕ} (s : Settings) {bytes work : ℕ} (l : Lent) → LentAs n t d l → refuse_input (lent n t d) s bytes work ≡ 0
    → InputHeld l bytes work
input_held {n} {t} {d} s {bytes} {work} l h e =
    let a = (input_accepted_iff (lent n t d) s bytes work).0 e in
    record {
      simple = rw (h.table.vertices, h.table.numbers) (lent-passed n t d a.no_fault).simple;
      long = rw (h.table.vertices) a.long;
      enough = rw (h.table.vertices) a.enough;
    }
