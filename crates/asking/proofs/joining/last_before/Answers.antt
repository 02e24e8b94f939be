use Rattle.std.proofs.Common.{List, None, option_map, subst}
use Rattle.rootchain.specs.declared.signed_promise.SignedPromise.{SignedPromise}
use Rattle.asking.specs.Joining.{noted_for, IsLatest}
use Rattle.asking.proofs.Joined.{latest_behind}
use Rattle.asking.proofs.joining.last_before.Goals as goal

pub returns : goal.returns
returns c =
    let last = option_map (λ signed. signed.now) c.last_of-last.result in
    let found = option_map (λ signed. signed.now) c.last_of.result in
    let behind = subst (λ (noted : List SignedPromise). IsLatest c.args.marks.now c.args.name.now c.args.epoch last noted found) c.changes_for-noted.ensures c.last_of.ensures in
    latest_behind c.args.marks.now c.args.name.now c.args.epoch None last found c.args.earlier.now (noted_for c.args.marks.now c.args.name.now c.args.changes.now) c.last_of-last.ensures behind
