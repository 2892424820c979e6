-- The promise `LineRead` of a line's readers, case by case. Assumes nothing.
use Prim.Native.Nat.{ℕ, ◌+◌, ◌*◌, ◌-◌, ◌≤◌}
use mathlib.Core.Path.{◌≡◌, refl, sym, ap, ◌∙◌}
use mathlib.Core.Bool.{true, false, not, true≢false}
use Rattle.std.specs.Prelude.{Result, Ok, Err}
use mathlib.Core.List.{List, [], ◌∷◌, ◌++◌}
use native.Mathlib.Numerals.{add-one}
use native.Mathlib.Omega.{arith}
use lib.ListN.{length, drop, set, replicate, length-append, length-replicate, length-drop, length-set}
use lib.Seq.{take-set-lt, drop-set-lt, take_at, drop_at}
use borrow.Author.Tests.{le-ltb}
use Rattle.model.specs.Graph.{with_pair}
use Rattle.model.specs.Text.{Reading, Step, bad, next, p_line, e_line, line_step}
use Rattle.model.specs.EdgeText.{Ends, OutOfRange}
use Rattle.theory.proofs.Text.EdgeTextFaults.{turned}
use Rattle.theory.proofs.Text.EdgeTextStep.{joined_by, out_test}
use Rattle.refusal.specs.declared.Refusal.{Refusal}
use Rattle.refusal.specs.declared.Refusal.TheVariants.{SecondProblemLine, NoProblemLine, EdgeRange}
use Rattle.refusal.specs.Numbers.{number}
use Rattle.lines.specs.Said.{passed_of, vertices_of}
use Rattle.lines.specs.Line.{StartsWith, reading_of, room_of, edge_step, LineRead}
use Rattle.lines.specs.declared.reader.Reader.{Reader}
use Rattle.lines.specs.declared.said.Said.{Said}
use Rattle.lines.specs.declared.said.Progress.{Progress}
use Rattle.lines.specs.declared.said.Progress.TheVariants.{Before, Passed}
use Rattle.lines.proofs.Cells.{cell}
use Rattle.lines.proofs.Lines.{at_fault, past_fault, edge_tests, problem_tests, line-problem}

-- the same promise of an equal step
pub stepped_as : {x y : Step} {q q' : Reader} {r : Result (Unit {0}) Refusal} → LineRead x q q' r → x ≡ y → LineRead y q q' r
stepped_as p e = record { step = p.step ∙ e; kept = p.kept }

-- a line at fault changes nothing
pub faulty : {r : Refusal} {wanted : Step} {q : Reader} → bad (number r) ≡ wanted → LineRead wanted q q (Err r)
faulty e = record { step = e; kept = record { said = refl; table = refl } }

-- nor does a comment
pub unchanged : {wanted : Step} {q : Reader} → next (reading_of q) ≡ wanted → LineRead wanted q q (Ok tt)
unchanged e = record { step = e; kept = record { size = refl; rest = refl; grows = omega arith; counted = omega arith } }

-- a second p line is at fault
pub second_p_line : {q : Reader} {line : List ℕ} → StartsWith (112 ∷ 32 ∷ []) line → passed_of q.said ≡ true →
    LineRead (line_step (room_of q) (reading_of q) line) q q (Err SecondProblemLine)
second_p_line h e = faulty (at_fault _ (line-problem _ _ h) e)

-- an e line before any p line is at fault
pub before_p_line : {q : Reader} (u v : ℕ) → passed_of q.said ≡ false → LineRead (edge_step (reading_of q) u v) q q (Err NoProblemLine)
before_p_line u v e = faulty (at_fault _ refl (ap not e))

-- past 33, the numbers' tests are what is left
pub past_33 : (r : Reading) (u v : ℕ) → true ≡ r.passed → e_line r u v ≡ edge_step r u v
past_33 r u v e = past_fault 33 refl (rw (sym e))

-- an e line with U or V out of range is at fault
pub out_of_range : {q : Reader} {s : Said} {u v : ℕ} → q.said ≡ Passed s → OutOfRange s.vertices u v →
    LineRead (edge_step (reading_of q) u v) q q (Err EdgeRange)
out_of_range e out = faulty (rw e (at_fault _ (edge_tests _ _ _ ∙ past_33 _ _ _ refl) ((out_test _ _ _).1 out)))

-- ---- an e line in form, of two vertices

-- both cells are set, within the table
pub joined : {q q' : Reader} {s s' : Said} {u v : ℕ} → q.said ≡ Passed s → Ends s.vertices u v
    → next (joined_by (reading_of q) u v) ≡ edge_step (reading_of q) u v
    → q'.said ≡ Passed s' → s'.vertices ≡ s.vertices → s'.stated ≡ s.stated → s'.edges ≡ s.edges + 1
    → q'.table.now ≡ set (set q.table.now ((u - 1) * s.vertices + (v - 1)) 1) ((v - 1) * s.vertices + (u - 1)) 1
    → LineRead (edge_step (reading_of q) u v) q q' (Ok tt)
unfolding with_pair
joined {q} {q'} {s} {s'} {u} {v} is h e is' vertices stated edges cells =
    let t = q.table.now in
    let area = s.vertices * s.vertices in
    let a = (u - 1) * s.vertices + (v - 1) in
    let b = (v - 1) * s.vertices + (u - 1) in
    let wa = cell h in
    let wb = cell (turned h) in
    record {
      step = rw (is, is', vertices, stated, edges, cells, add-one s.edges, take-set-lt area (set t a 1) b 1 wb, take-set-lt area t a 1 wa) (rw is at e);
      kept =
          record {
            size = ap length cells ∙ length-set _ _ _ ∙ length-set _ _ _;
            rest = rw (is', vertices, cells) (drop-set-lt area (set t a 1) b 1 wb ∙ drop-set-lt area t a 1 wa);
            grows = rw (is, is') (omega arith);
            counted = rw (is, is') (omega arith);
          };
    }

-- ---- a p line in form

-- nothing is claimed before it
unclaimed : (s : Progress) → passed_of s ≡ false → vertices_of s ≡ 0
unclaimed (Passed s) e = absurd (true≢false e)
unclaimed (Before c) e = refl

-- the slice's first N × N bytes are 0
pub cleared : {n m : ℕ} {q q' : Reader} {s : Said} → passed_of q.said ≡ false → n ≤ 1024 → n * n ≤ room_of q
    → q'.said ≡ Passed s → s.vertices ≡ n → s.stated ≡ m → s.edges ≡ 0 → q'.table.now ≡ replicate (n * n) 0 ++ drop (n * n) q.table.now
    → LineRead (p_line (room_of q) n m) q q' (Ok tt)
cleared {n} {m} {q} {q'} {s} is h g is' vertices stated edges cells =
    let t = q.table.now in
    let zeros = length-replicate {A = ℕ} (n * n) 0 in
    record {
      step =
          rw (is', vertices, stated, edges, cells, take_at (replicate (n * n) 0) (drop (n * n) t) (n * n) zeros)
          (past_fault _ (past_fault _ (problem_tests (length t) n m) (le-ltb 1024 n h)) (le-ltb (length t) (n * n) g));
      kept =
          record {
            size = ap length cells ∙ simp (length-append, zeros, length-drop) (omega arith);
            rest = rw (is', vertices, cells, drop_at (replicate (n * n) 0) (drop (n * n) t) (n * n) zeros);
            grows = rw (unclaimed q.said is) (omega arith);
            counted = rw (is', edges) (omega arith);
          };
    }
