use Rattle.std.proofs.Common.{◌≢◌, codes, rules}
use Rattle.encoding.proofs.Policies.{no_name}
use Rattle.encoding.proofs.policy.Policy.of_word.Goals as goal

pub returns-clause-word : goal.returns-clause-word
returns-clause-word c =
    let one : c.args.word.now ≢ codes "open" = search rules in
    let other : c.args.word.now ≢ codes "final" = search rules in
    no_name c.args.word.now one other
