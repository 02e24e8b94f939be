use Rattle.std.proofs.Common.{ℕ, List, Result, Err, inl, subst}
use Rattle.client.specs.Looking.{Looks}
use Rattle.client.specs.declared.client_refusal.Refusal.{Refusal}
use Rattle.proofs.specs.declared.statement.Statement.{Statement}
use Rattle.asking.specs.Checking.{look_told, IsTellable}
use Rattle.asking.proofs.Heard.{looks_same}
use Rattle.asking.proofs.Telling.{tells_known}
use Rattle.asking.proofs.checking.look.Goals as goal

pub returns-in-Err-clause-tells : goal.returns-in-Err-clause-tells
returns-in-Err-clause-tells g c =
    tells_known c.tell_client.result
    (λ (answer : Result Statement Refusal). Looks g.H.NodeHash.digest_of g.V.VufCheck.accepted c.args.client.now c.args.name.now c.args.epoch c.args.reply.now answer c.look.new.self)
    (λ (answer : Result Statement Refusal). IsTellable answer) (λ (answer : Result Statement Refusal). look_told c.args.epoch answer) (Err c.in-Err.why) c.args.said.now c.tell_client.new.said
    (subst (λ (name : List ℕ). Looks g.H.NodeHash.digest_of g.V.VufCheck.accepted c.args.client.now name c.args.epoch c.args.reply.now (Err c.in-Err.why) c.look.new.self) c.in-Ok.ensures.value c.in-Err.ensures.looks)
    c.tell_client.ensures.known c.tell_client.ensures.told

pub returns-in-Err-clause-client : goal.returns-in-Err-clause-client
returns-in-Err-clause-client g c =
    let looks = subst (λ (name : List ℕ). Looks g.H.NodeHash.digest_of g.V.VufCheck.accepted c.args.client.now name c.args.epoch c.args.reply.now (Err c.in-Err.why) c.look.new.self) c.in-Ok.ensures.value c.in-Err.ensures.looks in
    inl (looks_same g.H.NodeHash.digest_of g.V.VufCheck.accepted c.args.client.now c.look.new.self c.args.name.now c.args.epoch c.args.reply.now c.in-Err.why looks)
