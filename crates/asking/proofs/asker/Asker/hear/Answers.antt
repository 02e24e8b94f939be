use Rattle.std.proofs.Common.{◌≡◌, ◌≢◌, Err, inl, refl, rules, subst}
use Rattle.std.specs.Prelude.{IfErr, OnOk}
use Rattle.wire.specs.Frames.{Frame}
use Rattle.wire.specs.FrameViews.{frame_seen}
use Rattle.play.specs.Scripts.{ask_seen}
use Rattle.asking.specs.Asking.{HearsReply, HearsSome}
use Rattle.asking.specs.Exchanges.{ExchangesFrames, HoldsFrame}
use Rattle.asking.specs.Scenes.{scene, HaltsAfter}
use Rattle.asking.specs.declared.ask_fault.AskFault.TheVariants.{NoReply, OutOfMemory}
use Rattle.asking.proofs.Asked.{hears_all, notes_as, same_frame}
use Rattle.asking.proofs.Halted.{halts_going, halts_hearing, halts_here}
use Rattle.asking.proofs.asker.Asker.hear.Goals as goal

pub returns-clause-hears : goal.returns-clause-hears
returns-clause-hears g c =
    let notes = notes_as (ask_seen c.args.ask.now) c.args.self.now.client.promises c.answer.new.self.client.promises c.args.self.now.changes c.args.self.now.changes c.answer.new.self.changes
    c.go_on_from.new.self.changes refl c.go_on_from.ensures.stays.4 c.in_ok-answer.ensures.notes in
    let seen : HoldsFrame c.args.reply.now.bytes.items (frame_seen c.in_ok-frame.frame) = rw c.deref.ensures.value at c.in_ok-frame.ensures.ok in
    λ frame holds. subst (λ (f : Frame). OnOk c.go_on_from.result (HearsReply g.H.NodeHash.digest_of g.V.VufCheck.accepted g.S.Verifier.verified (ExchangesFrames g.T.Write.contents g.T.Read.remaining) c.args.self.now.marks.items c.args.reply.now.held (ask_seen c.args.ask.now) f
    c.args.self.now.changes.items c.go_on_from.new.self.changes.items (scene c.args.self.now c.args.said.now c.args.stream.now) (scene c.go_on_from.new.self c.go_on_from.new.said c.go_on_from.new.stream)))
    (same_frame c.args.reply.now.bytes.items (frame_seen c.in_ok-frame.frame) frame seen holds)
    (hears_all g.H.NodeHash.digest_of g.V.VufCheck.accepted g.S.Verifier.verified (ExchangesFrames g.T.Write.contents g.T.Read.remaining) c.go_on_from.result c.args.self.now c.answer.new.self c.go_on_from.new.self c.args.said.now c.answer.new.said c.go_on_from.new.said c.args.stream.now c.go_on_from.new.stream
    (ask_seen c.args.ask.now) (frame_seen c.in_ok-frame.frame) c.args.reply.now.held c.in_ok-answer.ensures.hears.0 c.in_ok-answer.ensures.hears.1 c.in_ok-answer.ensures.hears.2 c.in_ok-answer.ensures.hears.3 c.in_ok-answer.ensures.hears.4 c.in_ok-answer.ensures.hears.5 c.in_ok-answer.ensures.hears.6
    notes c.in_ok-answer.ensures.stays.2 c.go_on_from.ensures.goes)

pub returns-clause-halts : goal.returns-clause-halts
returns-clause-halts g c =
    let notes = notes_as (ask_seen c.args.ask.now) c.args.self.now.client.promises c.answer.new.self.client.promises c.args.self.now.changes c.args.self.now.changes c.answer.new.self.changes
    c.go_on_from.new.self.changes refl c.go_on_from.ensures.stays.4 c.in_ok-answer.ensures.notes in
    let seen : HoldsFrame c.args.reply.now.bytes.items (frame_seen c.in_ok-frame.frame) = rw c.deref.ensures.value at c.in_ok-frame.ensures.ok in
    λ frame holds. subst (λ (f : Frame). IfErr c.go_on_from.result (λ fault. HaltsAfter (HearsSome g.H.NodeHash.digest_of g.V.VufCheck.accepted g.S.Verifier.verified (ExchangesFrames g.T.Write.contents g.T.Read.remaining) fault c.args.self.now.marks.items c.args.reply.now.held (ask_seen c.args.ask.now) f
    c.args.self.now.changes.items c.go_on_from.new.self.changes.items (scene c.args.self.now c.args.said.now c.args.stream.now)) fault c.go_on_from.new.self c.go_on_from.new.said))
    (same_frame c.args.reply.now.bytes.items (frame_seen c.in_ok-frame.frame) frame seen holds)
    (halts_going g.H.NodeHash.digest_of g.V.VufCheck.accepted g.S.Verifier.verified (ExchangesFrames g.T.Write.contents g.T.Read.remaining) (ask_seen c.args.ask.now) (frame_seen c.in_ok-frame.frame) c.args.reply.now.held c.args.self.now c.args.said.now c.args.stream.now c.go_on_from.result c.answer.new.self c.go_on_from.new.self
    c.answer.new.said c.go_on_from.new.said c.in_ok-answer.ensures.hears.0 c.in_ok-answer.ensures.hears.1 c.in_ok-answer.ensures.hears.2 c.in_ok-answer.ensures.hears.3 c.in_ok-answer.ensures.hears.4 c.in_ok-answer.ensures.hears.5 c.in_ok-answer.ensures.hears.6
    notes c.in_ok-answer.ensures.stays.2 c.go_on_from.ensures.halts)

pub returns-in_err-answer-clause-halts : goal.returns-in_err-answer-clause-halts
returns-in_err-answer-clause-halts g c =
    let passed : c.from_residual-in_err-answer.result ≡ Err OutOfMemory = search rules in
    let not : OutOfMemory ≢ NoReply = search rules in
    let seen : HoldsFrame c.args.reply.now.bytes.items (frame_seen c.in_ok-frame.frame) = rw c.deref.ensures.value at c.in_ok-frame.ensures.ok in
    λ frame holds. rw passed (subst (λ (f : Frame). HaltsAfter (HearsSome g.H.NodeHash.digest_of g.V.VufCheck.accepted g.S.Verifier.verified (ExchangesFrames g.T.Write.contents g.T.Read.remaining) OutOfMemory c.args.self.now.marks.items c.args.reply.now.held (ask_seen c.args.ask.now) f
    c.args.self.now.changes.items c.answer.new.self.changes.items (scene c.args.self.now c.args.said.now c.args.stream.now)) OutOfMemory c.answer.new.self c.answer.new.said)
    (same_frame c.args.reply.now.bytes.items (frame_seen c.in_ok-frame.frame) frame seen holds)
    (halts_hearing g.H.NodeHash.digest_of g.V.VufCheck.accepted g.S.Verifier.verified (ExchangesFrames g.T.Write.contents g.T.Read.remaining) (ask_seen c.args.ask.now) (frame_seen c.in_ok-frame.frame) c.args.reply.now.held c.args.self.now c.args.said.now c.args.stream.now OutOfMemory c.answer.new.self c.answer.new.said not refl
    c.answer.ensures.noted c.in_err-answer.ensures.told))

pub returns-in_err-frame-clause-halts : goal.returns-in_err-frame-clause-halts
returns-in_err-frame-clause-halts g c =
    let passed : c.from_residual.result ≡ Err c.in_err-frame.field-0.0 = search rules in
    λ frame holds. rw passed (halts_here c.args.self.now c.args.said.now c.args.stream.now
    (HearsSome g.H.NodeHash.digest_of g.V.VufCheck.accepted g.S.Verifier.verified (ExchangesFrames g.T.Write.contents g.T.Read.remaining) c.in_err-frame.field-0.0 c.args.self.now.marks.items c.args.reply.now.held (ask_seen c.args.ask.now) frame c.args.self.now.changes.items c.args.self.now.changes.items (scene c.args.self.now c.args.said.now c.args.stream.now))
    c.in_err-frame.field-0.0 (inl (refl, refl)))
