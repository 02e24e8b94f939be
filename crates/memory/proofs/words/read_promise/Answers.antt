use Rattle.std.proofs.Common.{ℕ, List, rules}
use Rattle.memory.specs.Words.{IsHexOf}
use Rattle.memory.proofs.OneWord.{no_promise, promise_found}
use Rattle.memory.proofs.words.read_promise.Goals as goal

pub returns-in-Some : goal.returns-in-Some
returns-in-Some c = let hex : IsHexOf c.args.word.now c.deref.result.now = search rules in promise_found c.args.word.now c.deref.result.now hex c.promise_of.result c.promise_of.ensures

pub returns-in-None : goal.returns-in-None
returns-in-None c = let none : (bytes : List ℕ) → ¬ IsHexOf c.args.word.now bytes = search rules in no_promise c.args.word.now none
