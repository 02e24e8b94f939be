use Rattle.std.proofs.Common.{◌<◌, length, rules}
use Rattle.play.proofs.Trimmed.{onto_nothing, taken}
use Rattle.play.proofs.lines.next_line.Goals as goal

pub returns-in-Ok-clause-ok : goal.returns-in-Ok-clause-ok
returns-in-Ok-clause-ok g c =
    let some : 0 < length c.read_until.new.buf.items = search rules in
    let input = g.R.Read.remaining c.args.reader.now in
    let left = g.R.Read.remaining c.read_until.new.self in
    taken input left c.read_until.new.buf.items c.trim.new.line.items (onto_nothing input c.read_until.new.buf.items c.clear.new.self.items c.clear.ensures.items c.in-Ok.ensures.bytes) c.in-Ok.ensures.rest some c.trim.ensures
