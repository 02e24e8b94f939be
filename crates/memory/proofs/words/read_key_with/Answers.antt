use Rattle.std.proofs.Common.{ℕ, List, rules}
use Rattle.memory.specs.Words.{IsHexOf}
use Rattle.memory.proofs.FoundTexts.{key_with_found, no_first_key, no_policy}
use Rattle.memory.proofs.words.read_key_with.Goals as goal

pub returns-in_default : goal.returns-in_default
returns-in_default c = no_policy c.args.word.now c.args.behind.now c.requires c.in_default.ensures.word

pub returns-in-Some-2 : goal.returns-in-Some-2
returns-in-Some-2 c =
    let hex : IsHexOf c.args.word.now c.deref.result.now = search rules in
    key_with_found c.args.word.now c.deref.result.now c.requires hex c.args.behind.now c.in-Some.policy c.in-Some.ensures.word c.key_of.result c.key_of.ensures

pub returns-in-None : goal.returns-in-None
returns-in-None c =
    let none : (bytes : List ℕ) → ¬ IsHexOf c.args.word.now bytes = search rules in
    no_first_key c.args.word.now c.args.behind.now c.requires none
