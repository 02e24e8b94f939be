use Rattle.journal.proofs.Reopening.{goes_on}
use Rattle.journal.proofs.laws.journals_go_on.Goals as goal

pub returns : goal.returns
returns g c provider signing_key vuf_key later keeper keeper_after book after commands replies held bytes front more =
    goes_on provider g.W.Write.contents signing_key vuf_key later keeper keeper_after book after commands replies held bytes front more
