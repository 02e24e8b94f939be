use Rattle.std.proofs.Common.{◌≡◌, ◌≢◌, ◌++◌, ◌∷◌, [], ap, rules, subst, sym, ◌∙◌, List, ℕ}
use Rattle.std.proofs.lemmas.Result.{on_ok_weaker}
use Rattle.commands.specs.Operations.{Lookup}
use Rattle.wire.specs.Frames.{Frame}
use Rattle.wire.specs.Laws.{IsReadAs}
use Rattle.wire.specs.Requests.{Query}
use Rattle.wire.specs.declared.response.TheConstants.{PROOF}
use Rattle.hub.specs.Desks.{reply_frame}
use Rattle.book.specs.declared.reply.Reply.{Reply}
use Rattle.book.specs.declared.reply.Reply.TheVariants.{Found}
use Rattle.play.specs.Checked.{HasAskedKnowing, HasChecked, HasLooked}
use Rattle.play.specs.Parties.{Parties}
use Rattle.play.specs.Scripts.{ask_seen}
use Rattle.play.proofs.Answered.{asked-lookup, found-kind, has-found, no-lookup, unchecked-kind, unchecked-line, HasFound}
use Rattle.play.proofs.Looked.{unchecked_stays}
use Rattle.play.proofs.engine.Engine.tell_checked.Given.{Over}
use Rattle.play.proofs.engine.Engine.tell_checked.Goals.{After-body_of}
use Rattle.play.proofs.engine.Engine.tell_checked.Goals as goal

pub frame_of-frame-requires : goal.frame_of-frame-requires
frame_of-frame-requires g c = let a = c.requires.asked.1.asked in (reply_frame a.said, a.read.0, a.frame)

pub tell_reply-requires : goal.tell_reply-requires
tell_reply-requires g c =
    let a = c.requires.asked.1.asked in
    let frame = c.frame_of-frame.ensures (reply_frame a.said) a.read.0 a.frame in
    (a.responded, subst (λ (f : Frame). IsReadAs f a.responded) (sym frame) a.read)

pub returns-then-frame : goal.returns-then-frame
returns-then-frame g c = record {
  told = λ before knowing.
      let a = knowing.asked in
      let frame = c.frame_of-frame.ensures (reply_frame a.said) a.read.0 a.frame in
      let read = subst (λ (f : Frame). IsReadAs f a.responded) (sym frame) a.read in
      let other : c.frame_of-frame.result.kind ≢ PROOF = search rules in
      let unchecked = unchecked-kind a.said (λ e. other (ap (λ (f : Frame). f.kind) frame ∙ e)) in
      on_ok_weaker c.tell_reply.result (λ both. (
        both.0 ∙ ap (λ (l : List ℕ). c.args.text.now.items ++ l ++ 10 ∷ []) (unchecked-line g.H.NodeHash.digest_of g.V.Vuf.value_of g.S.Signer.signature_of g.R.Rng.stream g.V.VufCheck.accepted g.S.Verifier.verified before c.args.self.now (ask_seen c.args.ask.now) c.args.reply.now a both.1 unchecked),
        unchecked_stays g.H.NodeHash.digest_of g.V.VufCheck.accepted c.args.self.now (ask_seen c.args.ask.now) a.said unchecked,
      )) (c.tell_reply.ensures a.responded read);
}

pub unreachable-requires : goal.unreachable-requires
unreachable-requires g c =
    let before = c.requires.asked.0 in
    let a = c.requires.asked.1.asked in
    let frame = c.frame_of-frame.ensures (reply_frame a.said) a.read.0 a.frame in
    let is : c.frame_of-frame.result.kind ≡ PROOF = search rules in
    let (found, says) = found-kind a.said (ap (λ (f : Frame). f.kind) (sym frame) ∙ is) in
    let (name, epoch, of) = asked-lookup g.H.NodeHash.digest_of g.V.Vuf.value_of g.S.Signer.signature_of g.R.Rng.stream g.V.VufCheck.accepted g.S.Verifier.verified before c.args.self.now (ask_seen c.args.ask.now) c.args.reply.now a found says in
    no-lookup c.args.ask.now c.in_default.not-Lookup name epoch of

-- the reply is a proof, which answers a look-up
found : (g : Over) (c : After-body_of g) (before : Parties g.row.R.Denot)
    (known : HasAskedKnowing g.H.NodeHash.digest_of g.V.Vuf.value_of g.S.Signer.signature_of g.R.Rng.stream g.V.VufCheck.accepted g.S.Verifier.verified before (ask_seen c.args.ask.now) c.args.reply.now c.args.self.now)
    → (text : List ℕ) × (known.asked.said ≡ Found text) × (c.body_of.result.now ≡ text) × (ask_seen c.args.ask.now ≡ Query (Lookup c.deref.result.now c.in-Lookup.epoch))
    × HasFound g.H.NodeHash.digest_of g.V.Vuf.value_of g.S.Signer.signature_of g.R.Rng.stream g.V.VufCheck.accepted g.S.Verifier.verified before c.args.self.now (ask_seen c.args.ask.now) c.args.reply.now known.asked c.deref.result.now c.in-Lookup.epoch c.body_of.result.now
found g c before known =
    let a = known.asked in
    let frame = c.frame_of-frame.ensures (reply_frame a.said) a.read.0 a.frame in
    let is : c.frame_of-frame.result.kind ≡ PROOF = search rules in
    let (text, says) = found-kind a.said (ap (λ (f : Frame). f.kind) (sym frame) ∙ is) in
    let body : c.body_of.result.now ≡ text = c.body_of.ensures (reply_frame a.said) a.read.0 a.frame ∙ ap (λ (said : Reply). (reply_frame said).body) says in
    let of : ask_seen c.args.ask.now ≡ Query (Lookup c.deref.result.now c.in-Lookup.epoch)
    = ap ask_seen c.in-Lookup.is ∙ ap (λ (name : List ℕ). Query (Lookup name c.in-Lookup.epoch)) (sym c.deref.ensures.value) in
    let has = has-found g.H.NodeHash.digest_of g.V.Vuf.value_of g.S.Signer.signature_of g.R.Rng.stream g.V.VufCheck.accepted g.S.Verifier.verified before c.args.self.now (ask_seen c.args.ask.now) c.args.reply.now a
    c.body_of.result.now (says ∙ ap (λ (text : List ℕ). Found text) (sym body)) c.deref.result.now c.in-Lookup.epoch of known.chain in
    (text, says, body, of, has)

pub tell_look-requires : goal.tell_look-requires
tell_look-requires g c =
    let (text, says, body, of, has) = found g (goal.at.tell_look-requires g c).After-body_of c.requires.asked.0 c.requires.asked.1 in
    record { found = (has.page, has.is, c.found_at-found_at.ensures ∙ has.at_epoch) }

pub returns : goal.returns
returns g c = record {
  told = λ before known.
      let (text, says, body, of, has) = found g (goal.at.returns g c).After-body_of before known in
      let looked = λ (looks : HasLooked g.H.NodeHash.digest_of g.V.VufCheck.accepted c.args.self.now c.deref.result.now c.in-Lookup.epoch c.body_of.result.now c.tell_look.new.self).
      subst (λ (said : Reply). HasChecked g.H.NodeHash.digest_of g.V.VufCheck.accepted c.args.self.now (ask_seen c.args.ask.now) said c.tell_look.new.self) (sym says)
      (c.deref.result.now, c.in-Lookup.epoch, of, subst (λ (text : List ℕ). HasLooked g.H.NodeHash.digest_of g.V.VufCheck.accepted c.args.self.now c.deref.result.now c.in-Lookup.epoch text c.tell_look.new.self) body looks) in
      on_ok_weaker c.tell_look.result (λ both. (both.0 ∙ ap (λ (l : List ℕ). c.args.text.now.items ++ l ++ 10 ∷ []) has.told, looked both.1)) (c.tell_look.ensures has.page has.is (c.found_at-found_at.ensures ∙ has.at_epoch));
}
