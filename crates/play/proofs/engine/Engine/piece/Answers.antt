use Rattle.std.proofs.Common.{◌≡◌, ◌<◌, ◌∙◌, ap, sym, subst, arith, List, ℕ}
use Rattle.std.specs.Int.NonZero.{non_zero_u32_get}
use Rattle.book.specs.Books.{Book}
use Rattle.play.specs.Telling.{AreFramesOf, HeardFrame}
use Rattle.play.proofs.Pieces.{hears_on, hears_only, past, piece_of_other}
use Rattle.play.proofs.engine.Engine.piece.Goals as goal
use Rattle.play.proofs.engine.Engine.piece.Goals.{then-latest+in_ok-follow, else-latest}

pub tell_output-requires : goal.tell_output-requires
tell_output-requires g c =
    let others = piece_of_other (non_zero_u32_get c.args.session) c.args.piece.now (rw c.get.ensures.value at c.get.ensures.nonzero) in
    let p = past g.H.NodeHash.digest_of g.V.Vuf.value_of g.S.Signer.signature_of g.R.Rng.stream g.V.VufCheck.accepted g.S.Verifier.verified c.args.self.now c.requires.at.0 _ _ _ others c.requires.at.1 c.in_ok-output.ensures in
    (p.heard, rw c.deref.ensures.value p.frames)

pub follow-requires : goal.follow-requires
follow-requires g c =
    let others = piece_of_other (non_zero_u32_get c.args.session) c.args.piece.now (rw c.get.ensures.value at c.get.ensures.nonzero) in
    let p = past g.H.NodeHash.digest_of g.V.Vuf.value_of g.S.Signer.signature_of g.R.Rng.stream g.V.VufCheck.accepted g.S.Verifier.verified c.args.self.now c.requires.at.0 _ _ _ others c.requires.at.1 c.in_ok-output.ensures in
    record { behind = (_, p.behind) }

pub returns-clause-done : goal.returns-clause-done
returns-clause-done g c stand are =
    let session : ℕ = non_zero_u32_get c.args.session in
    let others = piece_of_other (non_zero_u32_get c.args.session) c.args.piece.now (rw c.get.ensures.value at c.get.ensures.nonzero) in
    let p = past g.H.NodeHash.digest_of g.V.Vuf.value_of g.S.Signer.signature_of g.R.Rng.stream g.V.VufCheck.accepted g.S.Verifier.verified c.args.self.now stand _ _ _ others are c.in_ok-output.ensures in
    let tells = λ (heard : List HeardFrame) (frames : AreFramesOf c.in_ok-output.output.items heard).
    c.in_ok-tell_output.ensures heard (subst (λ (bytes : List ℕ). AreFramesOf bytes heard) (sym c.deref.ensures.value) frames) in
    let before : c.latest-latest.result ≡ stand.book.last.epoch = c.latest-latest.ensures.epoch ∙ ap (λ (now : Book). now.last.epoch) are.hub.book in
    elim c.if-latest.branch [
      | then-latest+in_ok-follow w ↦
          let above : stand.book.last.epoch < c.hand_over.new.self.hub.service.directory.last.epoch = omega (arith, w.if-latest.true, before, c.latest.ensures.epoch) in
          rw (w.self-is, w.text-is)
          (hears_on g.H.NodeHash.digest_of g.V.Vuf.value_of g.S.Signer.signature_of g.R.Rng.stream g.V.VufCheck.accepted g.S.Verifier.verified c.args.self.now stand session c.args.piece.now c.in_ok-output.output.items
          c.args.text.now.items c.tell_output.new.text.items c.hand_over.new.self p (rw c.get.ensures.value at tells) w.follow.new.text.items w.follow.new.self above w.in_ok-follow.ensures.done)
      | else-latest w ↦
          let not : ¬ (stand.book.last.epoch < c.hand_over.new.self.hub.service.directory.last.epoch) = λ above. omega (arith, w.if-latest.false, above, before, c.latest.ensures.epoch) in
          rw (w.self-is, w.text-is)
          (hears_only g.H.NodeHash.digest_of g.V.Vuf.value_of g.S.Signer.signature_of g.R.Rng.stream g.V.VufCheck.accepted g.S.Verifier.verified c.args.self.now stand session c.args.piece.now c.in_ok-output.output.items
          c.args.text.now.items c.tell_output.new.text.items c.hand_over.new.self p (rw c.get.ensures.value at tells) not)
    ]

pub returns-clause-keys : goal.returns-clause-keys
returns-clause-keys g c =
    let keys = c.in_ok-output.ensures.shown.keys in
    elim c.if-latest.branch [
      | then-latest+in_ok-follow w ↦ let more = w.in_ok-follow.ensures.keys in rw w.self-is (more.0 ∙ keys.0, more.1 ∙ keys.1)
      | else-latest w ↦ rw w.self-is keys
    ]
