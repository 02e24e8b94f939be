use Rattle.std.proofs.Common.{rules}
use Rattle.memory.specs.Words.{IsPromiseWord}
use Rattle.rootchain.specs.declared.signed_promise.SignedPromise.{SignedPromise}
use Rattle.memory.proofs.SaidLines.{no_promised}
use Rattle.memory.proofs.reading.promised_item.Goals as goal

pub returns-in-None : goal.returns-in-None
returns-in-None c =
    let none : (signed : SignedPromise) → ¬ IsPromiseWord c.args.behind.now signed = search rules in
    no_promised c.args.is_own c.args.behind.now none
