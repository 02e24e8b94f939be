use Rattle.book.proofs.Joining.{first-salt}
use Rattle.book.proofs.laws.salts_come_first.Goals as goal

pub returns : goal.returns
returns c = first-salt
