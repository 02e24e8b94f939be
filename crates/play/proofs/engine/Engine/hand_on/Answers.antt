use Rattle.std.proofs.Common.{◌≡◌, ap, ap₂, sym, subst, ◌∙◌, List, ℕ}
use Rattle.wire.specs.Requests.{Put, RequestContent}
use Rattle.play.specs.Handed.{MayHand}
use Rattle.play.specs.Scripts.{ask_seen}
use Rattle.play.proofs.LineAsked.{no_put, none-handed}
use Rattle.play.proofs.engine.Engine.hand_on.Goals as goal

pub hand_out-requires : goal.hand_out-requires
hand_out-requires g c =
    let (before, asked, watchers, may) = c.requires.asked in
    let is : ask_seen c.args.ask.now ≡ Put c.in-Put.verb c.deref.result.now (c.deref-2.result.now, c.in-Put.policy)
    = ap ask_seen c.in-Put.is ∙ ap₂ (λ (name key : List ℕ). Put c.in-Put.verb name (key, c.in-Put.policy)) (sym c.deref.ensures.value) (sym c.deref-2.ensures.value) in
    record {
      asked = (
        before,
        asked,
        c.in-Put.verb,
        watchers,
        subst (λ (requested : RequestContent). MayHand g.H.NodeHash.digest_of g.V.Vuf.value_of g.S.Signer.signature_of g.R.Rng.stream g.V.VufCheck.accepted g.S.Verifier.verified before asked c.args.self.now requested c.args.reply.now watchers) is may,
      );
    }

pub returns-in_default : goal.returns-in_default
returns-in_default g c = λ before asked watchers may.
    none-handed g.H.NodeHash.digest_of g.V.Vuf.value_of g.S.Signer.signature_of g.R.Rng.stream g.V.VufCheck.accepted g.S.Verifier.verified before asked c.args.self.now (ask_seen c.args.ask.now) c.args.reply.now watchers may
    (no_put c.args.ask.now c.in_default.not-Put)
