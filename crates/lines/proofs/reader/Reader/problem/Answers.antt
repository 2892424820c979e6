-- `lines::Reader::problem` meets its contract: the tests 35 and 40 in their order, and then the table is cleared.
-- Assumes nothing.
use mathlib.Core.Path.{refl}
use borrow.Author.Tests.{lt-ltb, le-ltb}
use Rattle.std.proofs.Common.{rules}
use Rattle.lines.proofs.Lines.{at_fault, past_fault, problem_tests}
use Rattle.lines.proofs.Steps.{faulty, cleared}
use Rattle.lines.proofs.reader.Reader.problem.Goals as goal

pub returns-then-n-gt-MOST_VERTICES-clause-line_read : goal.returns-then-n-gt-MOST_VERTICES-clause-line_read
returns-then-n-gt-MOST_VERTICES-clause-line_read c = faulty (at_fault _ (problem_tests _ _ _) (lt-ltb _ _ c.if-n-gt-MOST_VERTICES.true))

pub returns-then-self-area-clause-line_read : goal.returns-then-self-area-clause-line_read
returns-then-self-area-clause-line_read c = faulty (at_fault _ (past_fault _ (problem_tests _ _ _) (le-ltb _ _ c.if-n-gt-MOST_VERTICES.false)) (lt-ltb _ _ c.if-self-area.true))

pub returns-clause-line_read : goal.returns-clause-line_read
returns-clause-line_read c = cleared c.requires.nothing_passed c.if-n-gt-MOST_VERTICES.false c.if-self-area.false refl refl refl refl (search rules)
