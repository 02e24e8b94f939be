use Rattle.std.proofs.Common.{◌≡◌}
use Rattle.proofs.specs.Accepts.{stated}
use Rattle.proofs.proofs.Passing.{ok-exact, passed-accepted, refused-exact}
use Rattle.proofs.proofs.checking.check.Goals as goal

pub returns-in_err-index-clause-exact : goal.returns-in_err-index-clause-exact
returns-in_err-index-clause-exact g c = λ bytes spelled statement.
    refused-exact g.H.NodeHash.digest_of g.V.VufCheck.accepted c.args.body.now c.args.name.now c.args.view.now c.from_residual.result (λ accepted. stated accepted.reply.end ≡ statement)
    c.from_residual.ensures.0 c.in_err-index.field-0.0 c.in_err-index.ensures.first bytes spelled statement

pub new-requires-clause-accepted : goal.new-requires-clause-accepted
new-requires-clause-accepted g c =
    rw (c.copied.ensures, c.copied-2.ensures) (passed-accepted g.H.NodeHash.digest_of g.V.VufCheck.accepted c.args.body.now c.args.name.now c.args.view.now c.in_ok-index.ensures.ok)

pub returns-clause-exact : goal.returns-clause-exact
returns-clause-exact g c = λ bytes spelled statement.
    rw (c.new.ensures, c.copied-2.ensures) (ok-exact g.H.NodeHash.digest_of g.V.VufCheck.accepted c.args.body.now c.args.name.now bytes c.args.view.now spelled c.in_ok-index.ensures.ok statement)
