use Rattle.commit.proofs.Openings.{equal_texts_open_alike}
use Rattle.commit.proofs.laws.equal_texts_open_alike.Goals as goal

pub returns : goal.returns
returns c = equal_texts_open_alike
