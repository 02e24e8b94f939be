use Rattle.std.proofs.Common.{◌≡◌, ◌∙◌, ℕ, Global, List, Some, Vec, ap, length, refl, subst, sym}
use Rattle.std.specs.Prelude.{slice_get}
use Rattle.std.specs.Vec.{with_items}
use Rattle.std.proofs.lemmas.List.{with_items_is}
use Rattle.std.proofs.lemmas.Option.{slice_get_read}
use Rattle.client.specs.Clients.{Client}
use Rattle.monitor.specs.Monitors.{Monitor}
use Rattle.asking.specs.Exchanges.{ExchangesFrames}
use Rattle.asking.specs.FinalBindings.{Finals, NotesReply}
use Rattle.asking.specs.Watching.{IsAcceptedAt, TestsShown, WatchesAt}
use Rattle.asking.proofs.Handed.{report_silent, told_three}
use Rattle.asking.proofs.Stepped.{accepted_at, steps_none, steps_some}
use Rattle.asking.proofs.asker.Asker.step.Goals as goal

pub returns-in_default-2-clause-steps : goal.returns-in_default-2-clause-steps
returns-in_default-2-clause-steps g c =
    let at : slice_get c.args.self.now.monitors.items c.args.place ≡ Some c.in-Some.monitor.now =
    subst (λ (all : List Monitor). slice_get all c.args.place ≡ Some c.in-Some.monitor.now) c.deref.ensures.value
    (slice_get_read c.deref.result.now (length c.deref.result.now) c.args.place c.in-Some.monitor.now refl c.in-Some.ensures.lookup.3.0 c.in-Some.ensures.lookup.1) in
    let next = rw c.in-Some-next_epoch.is at c.next_epoch.ensures in
    let gives = rw c.in_default-2.is at c.in_ok-found.ensures.gives in
    steps_none g.H.NodeHash.digest_of g.V.VufCheck.accepted (ExchangesFrames g.T.Write.contents g.T.Read.remaining) c.args.self.now c.args.said.now c.args.stream.now c.args.place
    c.in-Some.monitor.now c.copied-name.result c.in-Some-next_epoch.epoch gives.0 c.look_up.new.stream c.look_up.new.said at next (c.copied-name.ensures ∙ c.name.ensures) gives.1 gives.2

pub test_shown-requires : goal.test_shown-requires
test_shown-requires g c = λ yes.
    let at : slice_get c.args.self.now.monitors.items c.args.place ≡ Some c.in-Some.monitor.now =
    subst (λ (all : List Monitor). slice_get all c.args.place ≡ Some c.in-Some.monitor.now) c.deref.ensures.value
    (slice_get_read c.deref.result.now (length c.deref.result.now) c.args.place c.in-Some.monitor.now refl c.in-Some.ensures.lookup.3.0 c.in-Some.ensures.lookup.1) in
    let next = rw c.in-Some-next_epoch.is at c.next_epoch.ensures in
    let watches = subst (λ (all : List Monitor). WatchesAt g.H.NodeHash.digest_of g.V.VufCheck.accepted all c.args.place c.in-Some-next_epoch.epoch c.deref-2.result.now c.new-now.result c.in_ok-went.went
    c.watch_at.new.said c.watch_at.new.monitors) c.deref_mut.ensures.value c.in_ok-went.ensures.watches in
    subst (IsAcceptedAt g.H.NodeHash.digest_of g.V.VufCheck.accepted c.copied-name.result c.in-Some-next_epoch.epoch) (c.deref-2.ensures.value ∙ sym c.deref-4.ensures.value)
    (accepted_at g.H.NodeHash.digest_of g.V.VufCheck.accepted c.args.self.now.monitors.items c.args.place c.in-Some-next_epoch.epoch c.copied-name.result c.deref-2.result.now c.new-now.result c.watch_at.new.said c.in_ok-went.went
    c.watch_at.new.monitors c.in-Some.monitor.now at (c.copied-name.ensures ∙ c.name.ensures) next watches yes)

pub returns-clause-steps : goal.returns-clause-steps
returns-clause-steps g c =
    let at : slice_get c.args.self.now.monitors.items c.args.place ≡ Some c.in-Some.monitor.now =
    subst (λ (all : List Monitor). slice_get all c.args.place ≡ Some c.in-Some.monitor.now) c.deref.ensures.value
    (slice_get_read c.deref.result.now (length c.deref.result.now) c.args.place c.in-Some.monitor.now refl c.in-Some.ensures.lookup.3.0 c.in-Some.ensures.lookup.1) in
    let next = rw c.in-Some-next_epoch.is at c.next_epoch.ensures in
    let gives = rw c.in-Some-2.is at c.in_ok-found.ensures.gives in
    let old : c.deref_mut.result.now ≡ c.args.self.now.monitors.items = c.deref_mut.ensures.value in
    let long : length c.watch_at.new.monitors ≡ c.args.self.now.monitors.len =
    c.watch_at.auto.monitors ∙ ap (λ (ms : List Monitor). length ms) old ∙ sym c.args.self.now.monitors.ok.0 in
    let back = with_items_is c.args.self.now.monitors c.watch_at.new.monitors long in
    let watches = subst (λ (all : List Monitor). WatchesAt g.H.NodeHash.digest_of g.V.VufCheck.accepted all c.args.place c.in-Some-next_epoch.epoch c.deref-2.result.now c.new-now.result c.in_ok-went.went
    c.watch_at.new.said c.watch_at.new.monitors) old c.in_ok-went.ensures.watches in
    let watched = subst (λ (all : List Monitor). WatchesAt g.H.NodeHash.digest_of g.V.VufCheck.accepted c.args.self.now.monitors.items c.args.place c.in-Some-next_epoch.epoch c.deref-2.result.now c.new-now.result
    c.in_ok-went.went c.watch_at.new.said all) (sym back) watches in
    let noted = c.in_ok-note.ensures.notes in
    let same : c.deref-3.result.now ≡ c.deref-2.result.now = c.deref-3.ensures.value ∙ sym c.deref-2.ensures.value in
    let quiet = report_silent c.new-now.result c.new-now.ensures.text c.new-now.ensures.status in
    let tested = c.in_ok-test_shown.ensures.tests in
    let tests = subst (λ (client : Client). TestsShown g.H.NodeHash.digest_of g.V.VufCheck.accepted client c.copied-name.result c.in-Some-next_epoch.epoch c.deref-2.result.now tested.0 c.test_shown.new.self.client) c.in_ok-note.ensures.client
    (subst (λ (b : List ℕ). TestsShown g.H.NodeHash.digest_of g.V.VufCheck.accepted c.note.new.self.client c.copied-name.result c.in-Some-next_epoch.epoch b tested.0 c.test_shown.new.self.client) (c.deref-4.ensures.value ∙ sym c.deref-2.ensures.value) tested.1) in
    steps_some g.H.NodeHash.digest_of g.V.VufCheck.accepted (ExchangesFrames g.T.Write.contents g.T.Read.remaining) c.args.self.now c.args.said.now c.args.stream.now c.args.place
    c.in-Some.monitor.now c.copied-name.result c.in-Some-next_epoch.epoch gives.0 c.look_up.new.stream c.new-now.result c.watch_at.new.said c.look_up.new.said c.join.new.self
    c.deref-2.result.now c.in_ok-went.went (with_items c.args.self.now.monitors c.watch_at.new.monitors).items c.test_shown.new.self noted.0 tested.0 tests
    (ap (λ (all : Vec Monitor Global). all.items) (c.in_ok-test_shown.ensures.monitors ∙ c.in_ok-note.ensures.monitors))
    (subst (λ (b : List ℕ). NotesReply g.H.NodeHash.digest_of g.V.VufCheck.accepted c.args.self.now.client.chain c.copied-name.result b c.args.self.now.finals noted.0 c.test_shown.new.self.finals) same (subst (λ (f : Finals). NotesReply g.H.NodeHash.digest_of g.V.VufCheck.accepted c.args.self.now.client.chain c.copied-name.result c.deref-3.result.now c.args.self.now.finals noted.0 f) (sym c.in_ok-test_shown.ensures.finals) noted.1))
    (λ told tells. told_three c.new-now.result c.watch_at.new.said c.note.new.said c.test_shown.new.said c.look_up.new.said c.join.new.self told noted.0 tested.0 quiet tells noted.2 tested.2 c.in_ok-join.ensures.tells)
    at next (c.copied-name.ensures ∙ c.name.ensures) gives.1 (gives.2.0, c.deref-2.ensures.value ∙ gives.2.1, gives.2.2) watched
