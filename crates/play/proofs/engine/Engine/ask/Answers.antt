use Rattle.std.proofs.Common.{◌≡◌, Ok, ap, refl, rules, subst, sym, ◌∙◌}
use Rattle.wire.specs.Frames.{Frame, IsFrame, frame_bytes}
use Rattle.wire.specs.FrameViews.{frame_seen}
use Rattle.wire.specs.Laws.{IsReadAs}
use Rattle.wire.specs.Requests.{RequestContent, IsAsked, request_frame, request_seen}
use Rattle.hub.specs.Desks.{reply_frame}
use Rattle.play.specs.Parties.{HasAsked, Parties}
use Rattle.play.specs.Scripts.{RequestFits, ask_seen}
use Rattle.play.proofs.Asking.{IsServed, asked_as, bytes-due, command_of, not_memory, served}
use Rattle.play.proofs.engine.Engine.ask.Given.{Over}
use Rattle.play.proofs.engine.Engine.ask.Goals.{After-deref-2}
use Rattle.play.proofs.engine.Engine.ask.Goals as goal

pub write-requires : goal.write-requires
write-requires g c =
    let same = asked_as c.args.ask.now (request_seen c.request.result) c.token.result c.request.ensures c.token.ensures in
    subst RequestFits (sym same) c.requires.fits

pub happen-requires : goal.happen-requires
happen-requires g c = bytes-due c.self.inside.hub.sessions c.deref.result.now (rw (← c.self.view_is) at c.requires.ready).idle

-- the parties before, by their fields
abbrev before : (g : Over) (c : After-deref-2 g) → Parties g.row.R.Denot
before g c = record { hub = c.self.inside.hub; key = c.self.inside.key; client = c.self.inside.client; auditor = c.self.inside.auditor; monitors = c.self.inside.monitors.items }

-- the reply that was written
replied : (g : Over) (c : After-deref-2 g)
    → IsServed g.H.NodeHash.digest_of g.V.Vuf.value_of g.S.Signer.signature_of g.R.Rng.stream g.V.VufCheck.accepted g.S.Verifier.verified (before g c) (ask_seen c.args.ask.now) c.happen.new.output.items (record (before g c) { hub = c.happen.new.hub })
replied g c =
    let (asked, is) = command_of c.args.ask.now in
    let same = asked_as c.args.ask.now (request_seen c.request.result) c.token.result c.request.ensures c.token.ensures in
    let written : c.deref.result.now ≡ frame_bytes (request_frame (request_seen c.request.result)) = search rules in
    let whole = written ∙ ap (λ (asked : RequestContent). frame_bytes (request_frame asked)) same in
    let form = subst (λ (asked : RequestContent). IsAsked asked × IsFrame (request_frame asked)) same c.write.ensures.form in
    served g.H.NodeHash.digest_of g.V.Vuf.value_of g.S.Signer.signature_of g.R.Rng.stream g.V.VufCheck.accepted g.S.Verifier.verified
    c.messages_are_computed.ensures.one c.body_spells_one_request.ensures c.replies_are_honest.ensures (before g c) (record (before g c) { hub = c.happen.new.hub }) (ask_seen c.args.ask.now) asked c.deref.result.now c.happen.new.output.items (Ok tt)
    (rw (← c.self.view_is) at c.requires.ready) form.0 form.1 is whole c.head.ensures.well c.head-2.ensures.well refl (rw c.clear-2.ensures.items at c.in_ok-happen.ensures) refl

pub frame_of-requires : goal.frame_of-requires
frame_of-requires g c = let (said, responded, says, response, read, fine) = replied g c in (reply_frame said, read.0, c.deref-2.ensures.value ∙ says)

pub had_memory-requires : goal.had_memory-requires
had_memory-requires g c =
    let (said, responded, says, response, read, fine) = replied g (goal.at.had_memory-requires g c).After-deref-2 in
    let seen : frame_seen c.frame_of.result ≡ reply_frame said = c.frame_of.ensures (reply_frame said) read.0 (c.deref-2.ensures.value ∙ says) in
    (responded, subst (λ (frame : Frame). IsReadAs frame responded) (sym seen) read)

pub returns : goal.returns
returns g c =
    let (said, responded, says, response, read, fine) = replied g (goal.at.returns g c).After-deref-2 in
    let seen : frame_seen c.frame_of.result ≡ reply_frame said = c.frame_of.ensures (reply_frame said) read.0 (c.deref-2.ensures.value ∙ says) in
    let told = c.in_ok-had_memory.ensures responded (subst (λ (frame : Frame). IsReadAs frame responded) (sym seen) read) in
    subst (λ (p : Parties g.row.R.Denot). HasAsked g.H.NodeHash.digest_of g.V.Vuf.value_of g.S.Signer.signature_of g.R.Rng.stream g.V.VufCheck.accepted g.S.Verifier.verified p (ask_seen c.args.ask.now) c.happen.new.output.items (record (before g (goal.at.returns g c).After-deref-2) { hub = c.happen.new.hub }))
    c.self.view_is (fine (not_memory said responded response told))
