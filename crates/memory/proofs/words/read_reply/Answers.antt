use Rattle.std.proofs.Common.{ℕ, List, rules}
use Rattle.memory.specs.Words.{IsHexOf}
use Rattle.memory.proofs.OneWord.{no_reply, reply_found}
use Rattle.memory.proofs.words.read_reply.Goals as goal

pub returns-in-Some : goal.returns-in-Some
returns-in-Some c = let hex : IsHexOf c.args.word.now c.in-Some.bytes.items = search rules in reply_found c.args.word.now c.in-Some.bytes.items hex c.reply_of.result c.reply_of.ensures

pub returns-in-None : goal.returns-in-None
returns-in-None c = let none : (bytes : List ℕ) → ¬ IsHexOf c.args.word.now bytes = search rules in no_reply c.args.word.now none
