use Rattle.std.proofs.Common.{◌≡◌, ◌<◌, ◌++◌, ◌∷◌, [], ◌∙◌, ap, arith}
use Rattle.book.specs.Books.{Book}
use Rattle.play.specs.Checked.{line_of_reply, HasAskedKnowing, HasChecked}
use Rattle.play.specs.Handed.{HasHanded, MayHand}
use Rattle.play.specs.Parties.{AreAt, Parties}
use Rattle.play.specs.Played.{Stand}
use Rattle.play.specs.Scripts.{ask_seen}
use Rattle.play.proofs.Looked.{Stays, checked_stays}
use Rattle.play.proofs.LineAsked.{asks_on, asks_only, behind, keys, knowing, may-hand}
use Rattle.play.proofs.engine.Engine.answer.Given.{Over}
use Rattle.play.proofs.engine.Engine.answer.Goals.{After-deref, After-deref-2, After-keep_room}
use Rattle.play.proofs.engine.Engine.answer.Goals as goal

-- what was asked, by a client that had all roots
known : (g : Over) (c : After-deref g)
    → HasAskedKnowing g.H.NodeHash.digest_of g.V.Vuf.value_of g.S.Signer.signature_of g.R.Rng.stream g.V.VufCheck.accepted g.S.Verifier.verified c.args.self.now (ask_seen c.args.ask.now) c.deref.result.now c.ask.new.self
known g c =
    knowing g.H.NodeHash.digest_of g.V.Vuf.value_of g.S.Signer.signature_of g.R.Rng.stream g.V.VufCheck.accepted g.S.Verifier.verified c.args.self.now c.ask.new.self c.requires.at.0 (ask_seen c.args.ask.now) c.in_ok-reply.reply.items c.requires.at.1 c.in_ok-reply.ensures
    c.deref.result.now c.deref.ensures.value

-- its line, and that the client checked the reply
told : (g : Over) (c : After-deref-2 g)
    → (c.tell_checked.new.text.items ≡ c.args.text.now.items ++ line_of_reply g.H.NodeHash.digest_of g.V.Vuf.value_of g.S.Signer.signature_of g.R.Rng.stream g.V.VufCheck.accepted g.S.Verifier.verified c.args.self.now (ask_seen c.args.ask.now) ++ 10 ∷ [])
    × HasChecked g.H.NodeHash.digest_of g.V.VufCheck.accepted c.ask.new.self (ask_seen c.args.ask.now) (known g (goal.at.hand_on-requires g c).After-deref).asked.said c.tell_checked.new.self
told g c = c.in_ok-tell_checked.ensures.told c.args.self.now (known g (goal.at.hand_on-requires g c).After-deref)

looked : (g : Over) (c : After-deref-2 g) → Stays c.ask.new.self c.tell_checked.new.self
looked g c = checked_stays g.H.NodeHash.digest_of g.V.VufCheck.accepted c.ask.new.self (ask_seen c.args.ask.now) (known g (goal.at.hand_on-requires g c).After-deref).asked.said c.tell_checked.new.self (told g c).1

may : (g : Over) (c : After-deref-2 g) (stand : Stand) → AreAt g.H.NodeHash.digest_of g.V.Vuf.value_of g.S.Signer.signature_of g.R.Rng.stream g.V.VufCheck.accepted g.S.Verifier.verified c.args.self.now stand
    → MayHand g.H.NodeHash.digest_of g.V.Vuf.value_of g.S.Signer.signature_of g.R.Rng.stream g.V.VufCheck.accepted g.S.Verifier.verified c.args.self.now c.ask.new.self c.tell_checked.new.self (ask_seen c.args.ask.now) c.deref-2.result.now stand.watchers
may g c stand are =
    may-hand g.H.NodeHash.digest_of g.V.Vuf.value_of g.S.Signer.signature_of g.R.Rng.stream g.V.VufCheck.accepted g.S.Verifier.verified c.args.self.now c.ask.new.self stand (ask_seen c.args.ask.now) c.in_ok-reply.reply.items are c.in_ok-reply.ensures
    c.tell_checked.new.self (looked g c) c.deref-2.result.now c.deref-2.ensures.value

-- the promise was handed out, if there was one
handed : (g : Over) (c : After-keep_room g) (stand : Stand) → MayHand g.H.NodeHash.digest_of g.V.Vuf.value_of g.S.Signer.signature_of g.R.Rng.stream g.V.VufCheck.accepted g.S.Verifier.verified c.args.self.now c.ask.new.self c.tell_checked.new.self (ask_seen c.args.ask.now) c.deref-2.result.now stand.watchers
    → HasHanded g.H.NodeHash.digest_of g.V.Vuf.value_of g.S.Signer.signature_of g.R.Rng.stream g.V.VufCheck.accepted g.S.Verifier.verified c.args.self.now c.ask.new.self c.tell_checked.new.self (ask_seen c.args.ask.now) stand.watchers c.keep_room.new.self
handed g c stand may = rw (← c.keep_room.ensures) at (c.in_ok-hand_on.ensures c.args.self.now c.ask.new.self stand.watchers may)

pub tell_checked-requires : goal.tell_checked-requires
tell_checked-requires g c = record { asked = (c.args.self.now, known g (goal.at.tell_checked-requires g c).After-deref) }

pub hand_on-requires : goal.hand_on-requires
hand_on-requires g c = record { asked = (c.args.self.now, c.ask.new.self, c.requires.at.0.watchers, may g c c.requires.at.0 c.requires.at.1) }

pub follow-requires : goal.follow-requires
follow-requires g c = record {
  behind = (
    _,
    behind g.H.NodeHash.digest_of g.V.Vuf.value_of g.S.Signer.signature_of g.R.Rng.stream g.V.VufCheck.accepted g.S.Verifier.verified c.args.self.now c.ask.new.self c.requires.at.0 (ask_seen c.args.ask.now) c.in_ok-reply.reply.items c.requires.at.1 c.in_ok-reply.ensures
        c.tell_checked.new.self (looked g (goal.at.follow-requires g c).After-deref-2) c.keep_room.new.self (handed g (goal.at.follow-requires g c).After-keep_room c.requires.at.0 (may g (goal.at.follow-requires g c).After-deref-2 c.requires.at.0 c.requires.at.1)),
  );
}

pub returns-in_ok-follow-clause-done : goal.returns-in_ok-follow-clause-done
returns-in_ok-follow-clause-done g c stand are =
    let a = goal.at.returns-in_ok-follow-clause-done g c in
    let before : c.latest-latest.result ≡ stand.book.last.epoch = c.latest-latest.ensures.epoch ∙ ap (λ (now : Book). now.last.epoch) are.hub.book in
    let above : stand.book.last.epoch < c.keep_room.new.self.hub.service.directory.last.epoch = omega (arith, c.if-latest.true, before, c.latest.ensures.epoch) in
    asks_on g.H.NodeHash.digest_of g.V.Vuf.value_of g.S.Signer.signature_of g.R.Rng.stream g.V.VufCheck.accepted g.S.Verifier.verified c.args.self.now c.ask.new.self stand (ask_seen c.args.ask.now) c.in_ok-reply.reply.items are c.in_ok-reply.ensures
    c.tell_checked.new.self (looked g a.After-deref-2) c.keep_room.new.self (handed g a.After-keep_room stand (may g a.After-deref-2 stand are)) c.args.text.now.items c.tell_checked.new.text.items (told g a.After-deref-2).0 c.follow.new.text.items c.follow.new.self above c.in_ok-follow.ensures.done

pub returns-else-latest-clause-done : goal.returns-else-latest-clause-done
returns-else-latest-clause-done g c stand are =
    let a = goal.at.returns-else-latest-clause-done g c in
    let before : c.latest-latest.result ≡ stand.book.last.epoch = c.latest-latest.ensures.epoch ∙ ap (λ (now : Book). now.last.epoch) are.hub.book in
    let not : ¬ (stand.book.last.epoch < c.keep_room.new.self.hub.service.directory.last.epoch) = λ above. omega (arith, c.if-latest.false, above, before, c.latest.ensures.epoch) in
    asks_only g.H.NodeHash.digest_of g.V.Vuf.value_of g.S.Signer.signature_of g.R.Rng.stream g.V.VufCheck.accepted g.S.Verifier.verified c.args.self.now c.ask.new.self stand (ask_seen c.args.ask.now) c.in_ok-reply.reply.items are c.in_ok-reply.ensures
    c.tell_checked.new.self (looked g a.After-deref-2) c.keep_room.new.self (handed g a.After-keep_room stand (may g a.After-deref-2 stand are)) c.args.text.now.items c.tell_checked.new.text.items (told g a.After-deref-2).0 not

pub returns-in_ok-follow-clause-keys : goal.returns-in_ok-follow-clause-keys
returns-in_ok-follow-clause-keys g c =
    let a = goal.at.returns-in_ok-follow-clause-keys g c in
    let own = keys g.H.NodeHash.digest_of g.V.Vuf.value_of g.S.Signer.signature_of g.R.Rng.stream g.V.VufCheck.accepted g.S.Verifier.verified c.args.self.now c.ask.new.self c.requires.at.0 (ask_seen c.args.ask.now) c.in_ok-reply.reply.items c.requires.at.1 c.in_ok-reply.ensures
    c.tell_checked.new.self (looked g a.After-deref-2) c.keep_room.new.self (handed g a.After-keep_room c.requires.at.0 (may g a.After-deref-2 c.requires.at.0 c.requires.at.1)) in
    let more = c.in_ok-follow.ensures.keys in (more.0 ∙ own.0, more.1 ∙ own.1)

pub returns-else-latest-clause-keys : goal.returns-else-latest-clause-keys
returns-else-latest-clause-keys g c =
    let a = goal.at.returns-else-latest-clause-keys g c in
    keys g.H.NodeHash.digest_of g.V.Vuf.value_of g.S.Signer.signature_of g.R.Rng.stream g.V.VufCheck.accepted g.S.Verifier.verified c.args.self.now c.ask.new.self c.requires.at.0 (ask_seen c.args.ask.now) c.in_ok-reply.reply.items c.requires.at.1 c.in_ok-reply.ensures
    c.tell_checked.new.self (looked g a.After-deref-2) c.keep_room.new.self (handed g a.After-keep_room c.requires.at.0 (may g a.After-deref-2 c.requires.at.0 c.requires.at.1))

pub returns-in_ok-follow-clause-checked : goal.returns-in_ok-follow-clause-checked
returns-in_ok-follow-clause-checked g c =
    let a = goal.at.returns-in_ok-follow-clause-checked g c in
    let stay : c.keep_room.new.self.client.looks ≡ c.tell_checked.new.self.client.looks
    = ap (λ (p : Parties g.row.R.Denot). p.client.looks) (handed g a.After-keep_room c.requires.at.0 (may g a.After-deref-2 c.requires.at.0 c.requires.at.1)).others in
    record { asked = c.ask.new.self; text = c.deref.result.now; was = (known g a.After-deref).asked; checked = c.tell_checked.new.self; checks = (told g a.After-deref-2).1; looks = c.in_ok-follow.ensures.looks ∙ stay }

pub returns-else-latest-clause-checked : goal.returns-else-latest-clause-checked
returns-else-latest-clause-checked g c =
    let a = goal.at.returns-else-latest-clause-checked g c in
    let stay : c.keep_room.new.self.client.looks ≡ c.tell_checked.new.self.client.looks
    = ap (λ (p : Parties g.row.R.Denot). p.client.looks) (handed g a.After-keep_room c.requires.at.0 (may g a.After-deref-2 c.requires.at.0 c.requires.at.1)).others in
    record { asked = c.ask.new.self; text = c.deref.result.now; was = (known g a.After-deref).asked; checked = c.tell_checked.new.self; checks = (told g a.After-deref-2).1; looks = stay }
