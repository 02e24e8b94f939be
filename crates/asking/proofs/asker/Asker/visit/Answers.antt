use Rattle.std.proofs.Common.{◌≡◌, ◌∙◌, ◌+◌, suc, Bool, List, Some, if◌then◌else◌, ap, arith, length, refl, rules, subst, sym}
use Rattle.std.proofs.lemmas.Option.{slice_get_read}
use Rattle.std.specs.Prelude.{slice_get}
use Rattle.rootchain.specs.declared.signed_promise.SignedPromise.{SignedPromise}
use Rattle.asking.specs.Exchanges.{ExchangesFrames}
use Rattle.asking.specs.Scenes.{scene}
use Rattle.asking.specs.Visiting.{AwaitsMonitor}
use Rattle.asking.proofs.Tested.{visits_tested, visits_waiting}
use Rattle.asking.proofs.asker.Asker.visit.Goals as goal

pub returns-then-waits_for_monitor-clause-visits : goal.returns-then-waits_for_monitor-clause-visits
returns-then-waits_for_monitor-clause-visits g c =
    let at : slice_get c.args.self.now.client.promises c.args.place ≡ Some c.in-Some.signed.now =
    subst (λ (all : List SignedPromise). slice_get all c.args.place ≡ Some c.in-Some.signed.now) c.promises.ensures.value
    (slice_get_read c.promises.result.now (length c.promises.result.now) c.args.place c.in-Some.signed.now refl c.in-Some.ensures.lookup.3.0 c.in-Some.ensures.lookup.1) in
    let waits : AwaitsMonitor c.args.self.now.marks.items c.args.self.now.monitors.items c.copied-name.result = search rules in
    let next : c.args.place + 1 ≡ suc c.args.place = omega arith in
    let here = scene c.args.self.now c.args.said.now c.args.stream.now in
    visits_waiting g.H.NodeHash.digest_of g.V.VufCheck.accepted (ExchangesFrames g.T.Write.contents g.T.Read.remaining) c.args.self.now.marks.items here here c.args.place (c.args.place + 1) c.in-Some.signed.now
    c.copied-name.result at c.copied-name.ensures waits next

pub returns-then-branch-clause-visits : goal.returns-then-branch-clause-visits
returns-then-branch-clause-visits g c =
    let at : slice_get c.args.self.now.client.promises c.args.place ≡ Some c.in-Some.signed.now =
    subst (λ (all : List SignedPromise). slice_get all c.args.place ≡ Some c.in-Some.signed.now) c.promises.ensures.value
    (slice_get_read c.promises.result.now (length c.promises.result.now) c.args.place c.in-Some.signed.now refl c.in-Some.ensures.lookup.3.0 c.in-Some.ensures.lookup.1) in
    let not : ¬ AwaitsMonitor c.args.self.now.marks.items c.args.self.now.monitors.items c.copied-name.result = search rules in
    visits_tested g.H.NodeHash.digest_of g.V.VufCheck.accepted (ExchangesFrames g.T.Write.contents g.T.Read.remaining) c.args.self.now.marks.items
    (scene c.args.self.now c.args.said.now c.args.stream.now) (scene c.test.new.self c.test.new.said c.test.new.stream) c.args.place c.args.place c.in-Some.signed.now c.copied-name.result
    c.in_ok-test.field-0 at c.copied-name.ensures not c.in_ok-test.ensures.tests (sym (ap (λ (kept : Bool). if kept then c.args.place else suc c.args.place) c.if-branch.true))

pub returns-clause-visits : goal.returns-clause-visits
returns-clause-visits g c =
    let at : slice_get c.args.self.now.client.promises c.args.place ≡ Some c.in-Some.signed.now =
    subst (λ (all : List SignedPromise). slice_get all c.args.place ≡ Some c.in-Some.signed.now) c.promises.ensures.value
    (slice_get_read c.promises.result.now (length c.promises.result.now) c.args.place c.in-Some.signed.now refl c.in-Some.ensures.lookup.3.0 c.in-Some.ensures.lookup.1) in
    let not : ¬ AwaitsMonitor c.args.self.now.marks.items c.args.self.now.monitors.items c.copied-name.result = search rules in
    let next : c.args.place + 1 ≡ suc c.args.place = omega arith in
    visits_tested g.H.NodeHash.digest_of g.V.VufCheck.accepted (ExchangesFrames g.T.Write.contents g.T.Read.remaining) c.args.self.now.marks.items
    (scene c.args.self.now c.args.said.now c.args.stream.now) (scene c.test.new.self c.test.new.said c.test.new.stream) c.args.place (c.args.place + 1) c.in-Some.signed.now c.copied-name.result
    c.in_ok-test.field-0 at c.copied-name.ensures not c.in_ok-test.ensures.tests (next ∙ sym (ap (λ (kept : Bool). if kept then c.args.place else suc c.args.place) c.if-branch.false))
