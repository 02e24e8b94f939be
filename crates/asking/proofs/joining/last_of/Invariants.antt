use Rattle.std.proofs.Common.{Option, drop, option_map}
use Rattle.rootchain.specs.declared.signed_promise.SignedPromise.{SignedPromise}
use Rattle.asking.specs.Joining.{IsLatest}
use Rattle.asking.proofs.joining.last_of.Given as goal

-- the last of those from this one on is the last of all
abbrev pub invariant-loop-signed : goal.invariant-loop-signed
invariant-loop-signed l = (found : Option SignedPromise) → IsLatest l.marks l.name l.epoch (option_map (λ signed. signed.now) l.last) (drop l.signed-index l.promises) found → IsLatest l.marks l.name l.epoch (option_map (λ signed. signed.now) l.before) l.promises found
