use Rattle.std.proofs.Common.{Result, Err, inl}
use Rattle.wire.specs.Responses as responds
use Rattle.client.specs.Promising.{KeepsPromise}
use Rattle.client.specs.declared.client_refusal.Refusal.{Refusal}
use Rattle.asking.specs.Checking.{promise_told, IsTellable}
use Rattle.asking.proofs.Heard.{keeps_same}
use Rattle.asking.proofs.Telling.{tells_known}
use Rattle.asking.proofs.checking.keep.Goals as goal

pub returns-in-Err-clause-tells : goal.returns-in-Err-clause-tells
returns-in-Err-clause-tells g c =
    tells_known c.tell_client.result
    (λ (answer : Result (Unit {0}) Refusal). KeepsPromise g.H.NodeHash.digest_of g.S.Verifier.verified c.args.client.now c.args.promise.now answer c.keep_promise.new.self)
    (λ (answer : Result (Unit {0}) Refusal). IsTellable answer) (λ (answer : Result (Unit {0}) Refusal). promise_told (responds.Promise c.args.signed) answer) (Err c.in-Err.why) c.args.said.now c.tell_client.new.said c.in-Err.ensures.keeps c.tell_client.ensures.known c.tell_client.ensures.told

pub returns-in-Err-clause-client : goal.returns-in-Err-clause-client
returns-in-Err-clause-client g c =
    inl (keeps_same g.H.NodeHash.digest_of g.S.Verifier.verified c.args.client.now c.keep_promise.new.self c.args.promise.now c.in-Err.why c.in-Err.ensures.keeps)
