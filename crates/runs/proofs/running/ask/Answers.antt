use Rattle.runs.specs.AskOptions.{ask_values}
use Rattle.runs.proofs.Ended.{unwritten}
use Rattle.runs.proofs.Faulty.{hex_or, hex_so, not_hex, unread_so}
use Rattle.runs.proofs.running.ask.Goals as goal

pub returns-in-Ok-clause-bad_hex : goal.returns-in-Ok-clause-bad_hex
returns-in-Ok-clause-bad_hex g c =
    hex_so c.ask_under.result (ask_values c.args.order) (g.R.Read.remaining c.args.reader.now) (c.in-Ok.keys.signing_key, c.in-Ok.keys.token) c.in-Ok.ensures c.ask_under.ensures.faults

pub returns-in-Ok-clause-silent : goal.returns-in-Ok-clause-silent
returns-in-Ok-clause-silent g c = λ bad. absurd (not_hex c.ask_under.result (ask_values c.args.order) (g.R.Read.remaining c.args.reader.now) c.ask_under.ensures.faults bad)

pub returns-in-Ok-clause-unread : goal.returns-in-Ok-clause-unread
returns-in-Ok-clause-unread g c = unread_so (not_hex c.ask_under.result (ask_values c.args.order) (g.R.Read.remaining c.args.reader.now) c.ask_under.ensures.faults) c.ask_under.ensures.unread

pub returns-in-Ok-clause-faults : goal.returns-in-Ok-clause-faults
returns-in-Ok-clause-faults g c = hex_or c.ask_under.result (ask_values c.args.order) (g.R.Read.remaining c.args.reader.now) c.ask_under.ensures.faults

pub returns-in-Ok-clause-fails : goal.returns-in-Ok-clause-fails
returns-in-Ok-clause-fails g c = c.ask_under.ensures.fails c.in-Ok.ensures

pub returns-in-Err-clause-fails : goal.returns-in-Err-clause-fails
returns-in-Err-clause-fails g c = unwritten _ (ask_values c.args.order) (g.R.Read.remaining c.args.reader.now) _ (g.W.Write.contents c.args.writer.now)
