-- `request::words::Arguments::wants_text` meets its contract. Assumes nothing.
use Rattle.request.proofs.ReadWords.{wanted-said}
use Rattle.request.proofs.words.Arguments.wants_text.Goals as goal

pub returns : goal.returns
returns c = rw c.is_ok.ensures.value (wanted-said _ c.settings.ensures)
