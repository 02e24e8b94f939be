use Rattle.std.proofs.Common.{◌≢◌, codes, rules}
use Rattle.memory.proofs.SaidLines.{no_item}
use Rattle.memory.proofs.reading.read_behind.Goals as goal

pub returns : goal.returns
returns c =
    let promise : c.args.word.now ≢ codes "promise" = search rules in
    let change : c.args.word.now ≢ codes "change" = search rules in
    let watched : c.args.word.now ≢ codes "watched" = search rules in
    let alarm : c.args.word.now ≢ codes "alarm" = search rules in
    let final : c.args.word.now ≢ codes "final" = search rules in
    no_item c.args.word.now c.args.behind.now c.requires promise change watched alarm final
