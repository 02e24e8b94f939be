use Rattle.journal.proofs.Reopening.{reopened}
use Rattle.journal.proofs.laws.journals_open_to_their_runs.Goals as goal

pub returns : goal.returns
returns g c provider beginning salts later keeper keeper_after after commands replies bytes front more =
    reopened provider g.W.Write.contents beginning salts later keeper keeper_after after commands replies bytes front more
