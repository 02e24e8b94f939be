use Rattle.std.proofs.Common.{◌≢◌, ℕ, List, codes, rules}
use Rattle.memory.specs.Words.{IsHexOf}
use Rattle.memory.proofs.FoundTexts.{key_found, no_key}
use Rattle.memory.proofs.words.read_key.Goals as goal

pub returns-in-Some : goal.returns-in-Some
returns-in-Some c =
    let other : c.args.word.now ≢ codes "absent" = search rules in
    let hex : IsHexOf c.args.word.now c.deref.result.now = search rules in
    key_found c.args.word.now c.deref.result.now c.requires hex other c.key_of.result c.key_of.ensures

pub returns-in-None : goal.returns-in-None
returns-in-None c =
    let other : c.args.word.now ≢ codes "absent" = search rules in
    let none : (bytes : List ℕ) → ¬ IsHexOf c.args.word.now bytes = search rules in
    no_key c.args.word.now c.requires other none
