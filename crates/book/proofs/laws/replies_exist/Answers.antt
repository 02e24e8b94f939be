use Rattle.book.proofs.Answering.{has-reply}
use Rattle.book.proofs.laws.replies_exist.Goals as goal

pub returns : goal.returns
returns c = has-reply
