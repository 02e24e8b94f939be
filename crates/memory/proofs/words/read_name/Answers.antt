use Rattle.std.proofs.Common.{rules}
use Rattle.memory.specs.Words.{IsHexOf}
use Rattle.memory.proofs.OneWord.{name_found}
use Rattle.memory.proofs.words.read_name.Goals as goal

pub returns-in-Some : goal.returns-in-Some
returns-in-Some c = let hex : IsHexOf c.args.word.now c.deref.result.now = search rules in name_found c.args.word.now c.deref.result.now hex c.name_of.result c.name_of.ensures
