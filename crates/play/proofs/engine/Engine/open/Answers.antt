use Rattle.std.proofs.Common.{◌≡◌, [], ◌∷◌, ℕ, List, Ok, ap, refl, subst, sym, ◌∙◌}
use Rattle.rootchain.specs.SignedRoots.{signed_root_bytes}
use Rattle.wire.specs.Streams.{Rest}
use Rattle.book.specs.declared.keeper.NoKeeper.{NoKeeper}
use Rattle.epochs.specs.DirectoryStates.{book}
use Rattle.hub.specs.Desks.{DeskState}
use Rattle.hub.specs.Events.{due, HubState, Open}
use Rattle.auditor.specs.Chains.{Chains}
use Rattle.auditor.specs.Observing.{Observes}
use Rattle.client.specs.Starting.{Starts}
use Rattle.monitor.specs.Monitors.{Monitor}
use Rattle.play.specs.Parties.{AreAt}
use Rattle.play.proofs.Begun.{begun, head-well}
use Rattle.play.proofs.engine.Engine.open.Goals as goal

pub start-requires : goal.start-requires
start-requires g c =
    let one : c.bytes.result.now ≡ signed_root_bytes c.head.result.now = c.bytes.ensures.value ∙ c.write-root.ensures.value in
    let well = head-well g.H.NodeHash.digest_of g.V.Vuf.value_of g.S.Signer.signature_of g.R.Rng.stream g.V.VufCheck.accepted g.S.Verifier.verified c.args.directory c.args.key c.head.result.now c.bytes.result.now
    c.head.ensures.head c.head.ensures.sound c.head.ensures.laws c.requires.own one in
    (c.head.result.now, well.0, well.1)

pub observe-requires : goal.observe-requires
observe-requires g c =
    let two : c.bytes-2.result.now ≡ signed_root_bytes c.head.result.now = c.bytes-2.ensures.value ∙ c.write-root.ensures.value in
    let well = head-well g.H.NodeHash.digest_of g.V.Vuf.value_of g.S.Signer.signature_of g.R.Rng.stream g.V.VufCheck.accepted g.S.Verifier.verified c.args.directory c.args.key c.head.result.now c.bytes-2.result.now
    c.head.ensures.head c.head.ensures.sound c.head.ensures.laws c.requires.own two in
    (c.head.result.now, well.0, well.1)

pub happen-requires : goal.happen-requires
happen-requires g c = ap (λ (hub : HubState (DeskState g.row.R.Denot NoKeeper)). due hub.sessions (Open 0)) c.new-hub.ensures

pub returns-clause-at : goal.returns-clause-at
returns-clause-at g c =
    let (epoch, nonce, salts, is) = c.requires.fresh in
    let (told, observed) = c.in_ok-observe.ensures in
    let one : c.bytes.result.now ≡ signed_root_bytes c.head.result.now = c.bytes.ensures.value ∙ c.write-root.ensures.value in
    let two : c.bytes-2.result.now ≡ signed_root_bytes c.head.result.now = c.bytes-2.ensures.value ∙ c.write-root.ensures.value in
    let starts = subst (λ (bytes : List ℕ). Starts g.S.Verifier.verified c.args.key bytes (Ok c.in_ok-client.client)) one c.in_ok-client.ensures in
    let observes =
    subst (λ (bytes : List ℕ). Observes g.H.NodeHash.digest_of g.S.Verifier.verified [] c.args.key bytes (Ok told) c.observe.new.auditor) two
    (subst (λ (before : Chains). Observes g.H.NodeHash.digest_of g.S.Verifier.verified before c.args.key c.bytes-2.result.now (Ok told) c.observe.new.auditor) c.new-auditor.ensures observed)
    in
    let done = begun g.H.NodeHash.digest_of g.V.Vuf.value_of g.S.Signer.signature_of g.R.Rng.stream g.V.VufCheck.accepted g.S.Verifier.verified c.args.directory _ c.args.key epoch nonce salts c.head.result.now (signed_root_bytes c.head.result.now) c.in_ok-client.client c.observe.new.auditor (Ok told)
    _ c.new-hub.result c.happen.new.hub _ _ (Ok tt) is c.requires.own c.head.ensures.head c.head.ensures.sound c.head.ensures.laws refl starts observes refl c.token.ensures c.new-hub.ensures c.in_ok-happen.ensures refl in
    subst (λ (monitors : List Monitor). AreAt g.H.NodeHash.digest_of g.V.Vuf.value_of g.S.Signer.signature_of g.R.Rng.stream g.V.VufCheck.accepted g.S.Verifier.verified
    (record { hub = c.happen.new.hub; key = c.args.key; client = c.in_ok-client.client; auditor = c.observe.new.auditor; monitors = monitors })
    (record { book = book g.R.Rng.stream c.args.directory; sessions = (0, Rest []) ∷ []; watchers = [] })) (sym c.new-2.ensures.items) done.0
