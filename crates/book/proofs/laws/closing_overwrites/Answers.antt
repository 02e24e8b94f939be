use Rattle.book.proofs.Growing.{closing}
use Rattle.book.proofs.laws.closing_overwrites.Goals as goal

pub returns : goal.returns
returns c = closing
