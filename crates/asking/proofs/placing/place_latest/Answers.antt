use Rattle.std.proofs.Common.{◌∙◌, Result, Ok, Err, ap, subst}
use Rattle.rootchain.specs.declared.chain.placing.Place.{Place}
use Rattle.rootchain.specs.declared.chain.placing.Place.TheVariants.{Evidence}
use Rattle.rootchain.specs.declared.root_refusal.Refusal.{Refusal}
use Rattle.asking.specs.Checking.{place_told, Places}
use Rattle.asking.proofs.Telling.{tells_answer}
use Rattle.asking.proofs.placing.place_latest.Goals as goal

pub returns-in-Ok-Evidence : goal.returns-in-Ok-Evidence
returns-in-Ok-Evidence g c =
    tells_answer c.refuse_root.result (λ (answer : Result Place Refusal). Places g.H.NodeHash.digest_of g.S.Verifier.verified c.args.client.now.chain c.args.root answer)
    (λ (answer : Result Place Refusal). place_told c.args.held c.args.root answer) (Ok (Evidence c.in-Ok-Evidence.roots)) c.args.said.now c.refuse_root.new.said
    (subst (λ (answer : Result Place Refusal). Places g.H.NodeHash.digest_of g.S.Verifier.verified c.args.client.now.chain c.args.root answer) (c.in-Ok-Evidence.is ∙ ap Ok c.in-Ok-Evidence.field-0-is) c.place.ensures)
    c.refuse_root.ensures

pub returns-in-Err : goal.returns-in-Err
returns-in-Err g c =
    tells_answer c.refuse_chain-in-Err.result (λ (answer : Result Place Refusal). Places g.H.NodeHash.digest_of g.S.Verifier.verified c.args.client.now.chain c.args.root answer)
    (λ (answer : Result Place Refusal). place_told c.args.held c.args.root answer) (Err c.in-Err.why) c.args.said.now c.refuse_chain-in-Err.new.said
    (subst (λ (answer : Result Place Refusal). Places g.H.NodeHash.digest_of g.S.Verifier.verified c.args.client.now.chain c.args.root answer) c.in-Err.is c.place.ensures)
    c.refuse_chain-in-Err.ensures
