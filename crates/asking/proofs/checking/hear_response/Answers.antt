use Rattle.std.proofs.Common.{rules, inl, refl, subst}
use Rattle.commands.specs.Operations.{Lookup}
use Rattle.wire.specs.Requests.{Query}
use Rattle.wire.specs.Responses as response
use Rattle.wire.specs.Responses.{response_seen, Refused}
use Rattle.wire.specs.declared.response.Response.{Response}
use Rattle.play.specs.Hearing.{response_text}
use Rattle.play.specs.Scripts.{ask_seen}
use Rattle.play.specs.declared.ask.Ask.{Ask}
use Rattle.asking.specs.Answering.{IsAnswerAt}
use Rattle.asking.specs.Checking.{HearsResponse}
use Rattle.asking.specs.Refused.{other_reply}
use Rattle.asking.specs.Reports.{refused}
use Rattle.asking.proofs.Heard.{hears_look, hears_promise}
use Rattle.asking.proofs.Telling.{tells_so}
use Rattle.asking.proofs.checking.hear_response.Goals as goal

pub returns-in-Refused-clause-hears : goal.returns-in-Refused-clause-hears
returns-in-Refused-clause-hears g c =
    rw c.in-Refused.is
    (tells_so c.tell_refused.result
    (λ told. HearsResponse g.H.NodeHash.digest_of g.V.VufCheck.accepted g.S.Verifier.verified c.args.held c.args.client.now c.args.body.now (ask_seen c.args.ask.now) (Refused c.in-Refused.code) told c.args.client.now)
    (refused (response_text (Refused c.in-Refused.code))) c.args.said.now c.args.said.now c.tell_refused.new.said refl (refl, refl) c.tell_refused.ensures)

pub returns-then-not-is_answer-clause-hears : goal.returns-then-not-is_answer-clause-hears
returns-then-not-is_answer-clause-hears g c =
    let not : ¬ IsAnswerAt c.args.held (ask_seen c.args.ask.now) (response_seen c.args.response) = search rules in
    let other : ¬ IsAnswerAt c.args.held (ask_seen c.args.ask.now) (response.Promise c.in-Promise.signed) = subst (λ (r : Response). ¬ IsAnswerAt c.args.held (ask_seen c.args.ask.now) (response_seen r)) c.in-Promise.is not in
    rw c.in-Promise.is
    (tells_so c.refuse_other.result
    (λ told. HearsResponse g.H.NodeHash.digest_of g.V.VufCheck.accepted g.S.Verifier.verified c.args.held c.args.client.now c.args.body.now (ask_seen c.args.ask.now) (response.Promise c.in-Promise.signed) told c.args.client.now)
    other_reply c.args.said.now c.args.said.now c.refuse_other.new.self refl (inl (other, refl, refl)) c.refuse_other.ensures)

pub returns-then-not-is_answer-2-clause-hears : goal.returns-then-not-is_answer-2-clause-hears
returns-then-not-is_answer-2-clause-hears g c =
    let not : ¬ IsAnswerAt c.args.held (ask_seen c.args.ask.now) (response_seen c.args.response) = search rules in
    let other : ¬ IsAnswerAt c.args.held (ask_seen c.args.ask.now) (response.Root c.in-Root.root) = subst (λ (r : Response). ¬ IsAnswerAt c.args.held (ask_seen c.args.ask.now) (response_seen r)) c.in-Root.is not in
    rw c.in-Root.is
    (tells_so c.refuse_other-then-not-is_answer-2.result
    (λ told. HearsResponse g.H.NodeHash.digest_of g.V.VufCheck.accepted g.S.Verifier.verified c.args.held c.args.client.now c.args.body.now (ask_seen c.args.ask.now) (response.Root c.in-Root.root) told c.args.client.now)
    other_reply c.args.said.now c.args.said.now c.refuse_other-then-not-is_answer-2.new.self refl (inl (other, refl, refl)) c.refuse_other-then-not-is_answer-2.ensures)

pub returns-then-not-is_answer-3-clause-hears : goal.returns-then-not-is_answer-3-clause-hears
returns-then-not-is_answer-3-clause-hears g c =
    let not : ¬ IsAnswerAt c.args.held (ask_seen c.args.ask.now) (response_seen c.args.response) = search rules in
    let other : ¬ IsAnswerAt c.args.held (ask_seen c.args.ask.now) (response.Proof c.in-Proof.found) = subst (λ (r : Response). ¬ IsAnswerAt c.args.held (ask_seen c.args.ask.now) (response_seen r)) c.in-Proof.is not in
    rw c.in-Proof.is
    (tells_so c.refuse_other-then-not-is_answer-3.result
    (λ told. HearsResponse g.H.NodeHash.digest_of g.V.VufCheck.accepted g.S.Verifier.verified c.args.held c.args.client.now c.args.body.now (ask_seen c.args.ask.now) (response.Proof c.in-Proof.found) told c.args.client.now)
    other_reply c.args.said.now c.args.said.now c.refuse_other-then-not-is_answer-3.new.self refl (inl (other, refl, refl)) c.refuse_other-then-not-is_answer-3.ensures)

pub returns-then-not-is_answer-4-clause-hears : goal.returns-then-not-is_answer-4-clause-hears
returns-then-not-is_answer-4-clause-hears g c =
    let not : ¬ IsAnswerAt c.args.held (ask_seen c.args.ask.now) (response_seen c.args.response) = search rules in
    let other : ¬ IsAnswerAt c.args.held (ask_seen c.args.ask.now) (response.Roots c.in-Roots.roots) = subst (λ (r : Response). ¬ IsAnswerAt c.args.held (ask_seen c.args.ask.now) (response_seen r)) c.in-Roots.is not in
    rw c.in-Roots.is
    (tells_so c.refuse_other-then-not-is_answer-4.result
    (λ told. HearsResponse g.H.NodeHash.digest_of g.V.VufCheck.accepted g.S.Verifier.verified c.args.held c.args.client.now c.args.body.now (ask_seen c.args.ask.now) (response.Roots c.in-Roots.roots) told c.args.client.now)
    other_reply c.args.said.now c.args.said.now c.refuse_other-then-not-is_answer-4.new.self refl (inl (other, refl, refl)) c.refuse_other-then-not-is_answer-4.ensures)

pub returns-else-not-is_answer-clause-client : goal.returns-else-not-is_answer-clause-client
returns-else-not-is_answer-clause-client g c =
    let is : IsAnswerAt c.args.held (ask_seen c.args.ask.now) (response_seen c.args.response) = search rules in
    let answers = subst (λ (r : Response). IsAnswerAt c.args.held (ask_seen c.args.ask.now) (response_seen r)) c.in-Promise.is is in
    rw c.in-Promise.is
    (hears_promise g.H.NodeHash.digest_of g.V.VufCheck.accepted g.S.Verifier.verified c.args.held c.args.client.now c.keep.new.client c.args.body.now (ask_seen c.args.ask.now) c.in-Promise.signed answers c.keep.ensures.client)

pub returns-in-Lookup-clause-client : goal.returns-in-Lookup-clause-client
returns-in-Lookup-clause-client g c =
    let is : IsAnswerAt c.args.held (ask_seen c.args.ask.now) (response_seen c.args.response) = search rules in
    let of_this = subst (λ (a : Ask). IsAnswerAt c.args.held (ask_seen a) (response_seen c.args.response)) c.in-Lookup.is is in
    let answers = subst (λ (r : Response). IsAnswerAt c.args.held (Query (Lookup c.in-Lookup.name.items c.in-Lookup.epoch)) (response_seen r)) c.in-Proof.is of_this in
    rw c.in-Lookup.is
    (rw c.in-Proof.is
    (hears_look g.H.NodeHash.digest_of g.V.VufCheck.accepted g.S.Verifier.verified c.args.held c.args.client.now c.look.new.client c.args.body.now c.in-Lookup.name.items c.deref.result.now c.in-Lookup.epoch
    c.body.result.now.epoch c.in-Proof.found answers c.deref.ensures.value (search rules) c.look.ensures.client))
