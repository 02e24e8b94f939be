use Rattle.prefixtree.proofs.Growing.{nothing-parted, nothing-single, nothing-vacant}
use Rattle.std.proofs.Common.{◌-◌}
use Rattle.prefixtree.proofs.place.of_nothing.Goals as goal

pub returns-in-empty : goal.returns-in-empty
returns-in-empty c = λ of nonce prefix le under. nothing-vacant (256 - c.args.level) c.args.changes.now c.in-empty.len_below

pub returns-in_ok-new-in-len1 : goal.returns-in_ok-new-in-len1
returns-in_ok-new-in-len1 c = λ of nonce prefix le under.
    nothing-single prefix c.args.level c.args.changes.now c.change-item.result _ c.in-len1.len_at_least c.in-len1.len_below c.change-item.is c.in_ok-new-in-len1.ensures.ok under

pub returns-in_default : goal.returns-in_default
returns-in_default c = λ of nonce prefix le under. nothing-parted of nonce prefix c.args.level c.args.changes.now under le c.in_default.len_at_least
