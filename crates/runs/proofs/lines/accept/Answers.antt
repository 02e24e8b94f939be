use Rattle.std.proofs.Common.{Global, Vec, ap}
use Rattle.rootchain.specs.declared.signed_promise.SignedPromise.{SignedPromise}
use Rattle.runs.proofs.Earlier.{keeps_same, ok_so}
use Rattle.runs.proofs.lines.accept.Goals as goal

pub returns-in-Final-clause-kept : goal.returns-in-Final-clause-kept
returns-in-Final-clause-kept g c =
    ok_so c.accept_final.result (keeps_same c.args.asker.now.client c.accept_final.new.asker.client c.args.asker.now.earlier.items c.accept_final.new.asker.earlier.items
    c.accept_final.ensures.client (ap (λ (all : Vec SignedPromise Global). all.items) c.accept_final.ensures.earlier))
