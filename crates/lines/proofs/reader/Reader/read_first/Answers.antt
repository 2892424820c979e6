-- `lines::Reader::read_first` meets its contract: an e line in form by its numbers, and each other line by itself. Assumes nothing.
use Rattle.lines.proofs.Steps.{stepped_as}
use Rattle.lines.proofs.FirstLines.{found_first, edge-spelled}
use Rattle.lines.proofs.reader.Reader.read_first.Goals as goal

pub returns-in-Some-clause-line_read : goal.returns-in-Some-clause-line_read
returns-in-Some-clause-line_read c = stepped_as c.edge-outcome.ensures.line_read (edge-spelled _ _ c.in-Some.ensures.spelled)

pub returns-clause-first_line : goal.returns-clause-first_line
returns-clause-first_line c = found_first c.find-length.ensures c.requires.some_text
