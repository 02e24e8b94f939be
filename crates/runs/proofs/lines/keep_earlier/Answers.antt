use Rattle.std.proofs.Common.{◌≡◌, ◌++◌, ◌∷◌, [], Global, Vec, ap, subst}
use Rattle.rootchain.specs.declared.signed_promise.SignedPromise.{SignedPromise}
use Rattle.runs.proofs.Earlier.{keeps_change, keeps_more, pushed_on}
use Rattle.runs.proofs.lines.keep_earlier.Goals as goal

pub returns-then-not-promised-clause-kept : goal.returns-then-not-promised-clause-kept
returns-then-not-promised-clause-kept g c =
    keeps_more c.args.asker.now.client c.keep_again.new.asker.client c.args.promised.now.signed c.args.asker.now.earlier.items c.keep_again.new.asker.earlier.items
    c.in_ok-keep_again.ensures.kept (ap (λ (all : Vec SignedPromise Global). all.items) c.keep_again.ensures.earlier)

pub returns-clause-kept : goal.returns-clause-kept
returns-clause-kept g c =
    let signed = c.args.promised.now.signed in
    let pushed : c.push.new.self.items ≡ c.keep_again.new.asker.earlier.items ++ signed ∷ [] =
    subst (λ (s : SignedPromise). c.push.new.self.items ≡ c.keep_again.new.asker.earlier.items ++ s ∷ []) c.copied.ensures c.in_ok-push.ensures.items in
    keeps_change c.args.asker.now.client c.keep_again.new.asker.client signed c.args.asker.now.earlier.items c.push.new.self.items
    c.in_ok-keep_again.ensures.kept (pushed_on c.args.asker.now.earlier c.keep_again.new.asker.earlier c.push.new.self signed c.keep_again.ensures.earlier pushed)
