use Rattle.std.proofs.Common.{◌≡◌, ◌⊎◌, ◌-◌, ◌<◌, ◌≤◌, ◌++◌, ◌∷◌, [], Global, List, Some, Vec, ap, arith, inl, inr, length, rules, subst, sym}
use Rattle.std.specs.Prelude.{slice_get, OnOk}
use Rattle.rootchain.specs.declared.signed_promise.SignedPromise.{SignedPromise}
use Rattle.client.specs.Clients.{Client}
use Rattle.monitor.specs.Monitors.{Monitor}
use Rattle.wire.specs.FrameViews.{frame_seen}
use Rattle.play.specs.Scripts.{ask_seen}
use Rattle.asking.specs.Asking.{HandsAll, IsChange}
use Rattle.asking.specs.Checking.{HearsFrame}
use Rattle.asking.specs.FinalBindings.{Finals, NotesHeard}
use Rattle.asking.specs.Reports.{silent, Report, Tells}
use Rattle.asking.proofs.Asked.{hands_kept, heard_only, heard_untold, is_put, notes_kept, notes_none}
use Rattle.asking.proofs.asker.Asker.answer.Goals as goal
use Rattle.asking.proofs.asker.Asker.answer.Goals.{then-not-is_change-via-then-not-is_change, then-not-is_change-via-else-not-is_change+then-promises-kept}

pub returns-clause-hears : goal.returns-clause-hears
returns-clause-hears g c =
    let change : IsChange (ask_seen c.args.ask.now) = search rules in
    let put = is_put (ask_seen c.args.ask.now) change in
    let low : length c.promises-kept.result.now < length c.promises.result.now = omega (arith, c.if-promises-kept.false) in
    let over = subst (λ (all : List SignedPromise). length c.promises-kept.result.now < length all) c.promises.ensures.value low in
    let more = subst (λ (all : List SignedPromise). length all < length c.hear_noting.new.self.client.promises) c.promises-kept.ensures.value over in
    let heard = c.in_ok-hear_noting.ensures.hears in
    let same : c.hand_out.new.self.client.promises ≡ c.hear_noting.new.self.client.promises = ap (λ (client : Client). client.promises) c.hand_out.ensures.client in
    let hears = subst (λ (client : Client). HearsFrame g.H.NodeHash.digest_of g.V.VufCheck.accepted g.S.Verifier.verified c.args.held c.args.self.now.client (ask_seen c.args.ask.now) (frame_seen c.args.frame.now) heard.0 client)
    (sym c.hand_out.ensures.client) heard.2 in
    let asked = ask_seen c.args.ask.now in
    let frame = frame_seen c.args.frame.now in
    let noted = subst (λ (client : Client). NotesHeard g.H.NodeHash.digest_of g.V.VufCheck.accepted client asked frame heard.0.status c.args.self.now.finals heard.1 c.hand_out.new.self.finals) (sym c.hand_out.ensures.client)
    (subst (λ (finals : Finals). NotesHeard g.H.NodeHash.digest_of g.V.VufCheck.accepted c.hear_noting.new.self.client asked frame heard.0.status c.args.self.now.finals heard.1 finals) (sym c.hand_out.ensures.finals) heard.3) in
    let watchers : c.hear_noting.new.self.monitors.items ≡ c.args.self.now.monitors.items = ap (λ (all : Vec Monitor Global). all.items) c.in_ok-hear_noting.ensures.monitors in
    let hands = subst (λ (given : List Monitor). OnOk c.hand_out.result ((signed : SignedPromise) → slice_get c.hear_noting.new.self.client.promises (length c.hear_noting.new.self.client.promises - 1) ≡ Some signed
    → (handed : Report) × HandsAll g.H.NodeHash.digest_of g.V.VufCheck.accepted g.S.Verifier.verified signed c.args.frame.now.body.now given silent handed c.hand_out.new.self.monitors.items × Tells c.hear_noting.new.said handed c.hand_out.new.said)) watchers c.hand_out.ensures.hands in
    hands_kept g.H.NodeHash.digest_of g.V.VufCheck.accepted g.S.Verifier.verified c.hand_out.result c.args.held (ask_seen c.args.ask.now) (frame_seen c.args.frame.now) c.args.self.now.client
    c.hand_out.new.self.client c.hear_noting.new.self.client.promises c.args.self.now.monitors.items c.hand_out.new.self.monitors.items heard.0 heard.1 c.args.self.now.finals c.hand_out.new.self.finals c.args.said.now c.hear_noting.new.said c.hand_out.new.said put more same hears noted heard.4 hands

pub returns-clause-notes : goal.returns-clause-notes
returns-clause-notes g c =
    let change : IsChange (ask_seen c.args.ask.now) = search rules in
    let put = is_put (ask_seen c.args.ask.now) change in
    let low : length c.promises-kept.result.now < length c.promises.result.now = omega (arith, c.if-promises-kept.false) in
    let over = subst (λ (all : List SignedPromise). length c.promises-kept.result.now < length all) c.promises.ensures.value low in
    let more = subst (λ (all : List SignedPromise). length all < length c.hear_noting.new.self.client.promises) c.promises-kept.ensures.value over in
    let same : c.hand_out.new.self.client.promises ≡ c.hear_noting.new.self.client.promises = ap (λ (client : Client). client.promises) c.hand_out.ensures.client in
    let unchanged : c.hear_noting.new.self.changes.items ≡ c.args.self.now.changes.items = ap (λ (all : Vec SignedPromise Global). all.items) c.in_ok-hear_noting.ensures.stays.4 in
    let noted = subst (λ (all : List SignedPromise). OnOk c.hand_out.result ((signed : SignedPromise) → slice_get c.hear_noting.new.self.client.promises (length c.hear_noting.new.self.client.promises - 1) ≡ Some signed
    → c.hand_out.new.self.changes.items ≡ all ++ signed ∷ [])) unchanged c.hand_out.ensures.notes in
    notes_kept c.hand_out.result (ask_seen c.args.ask.now) c.args.self.now.client.promises c.hear_noting.new.self.client.promises c.hand_out.new.self.client.promises c.args.self.now.changes.items
    c.hand_out.new.self.changes.items put more same noted

pub returns-then-not-is_change-clause-hears : goal.returns-then-not-is_change-clause-hears
returns-then-not-is_change-clause-hears g c =
    let heard = c.in_ok-hear_noting.ensures.hears in
    let none : (¬ IsChange (ask_seen c.args.ask.now)) ⊎ (length c.hear_noting.new.self.client.promises ≤ length c.args.self.now.client.promises) = elim c.then-not-is_change.branch [
      | then-not-is_change-via-then-not-is_change w ↦ inl (search rules)
      | then-not-is_change-via-else-not-is_change+then-promises-kept w ↦ inr (search (rules, arith))
    ] in
    let watchers : c.hear_noting.new.self.monitors.items ≡ c.args.self.now.monitors.items = ap (λ (all : Vec Monitor Global). all.items) c.in_ok-hear_noting.ensures.monitors in
    rw watchers (heard_only g.H.NodeHash.digest_of g.V.VufCheck.accepted g.S.Verifier.verified c.args.held (ask_seen c.args.ask.now) (frame_seen c.args.frame.now) c.args.self.now.client c.hear_noting.new.self.client
    c.args.self.now.monitors.items heard.0 heard.1 c.args.self.now.finals c.hear_noting.new.self.finals c.args.said.now c.hear_noting.new.said none heard.2 heard.3 heard.4)

pub returns-then-not-is_change-clause-notes : goal.returns-then-not-is_change-clause-notes
returns-then-not-is_change-clause-notes g c =
    let none : (¬ IsChange (ask_seen c.args.ask.now)) ⊎ (length c.hear_noting.new.self.client.promises ≤ length c.args.self.now.client.promises) = elim c.then-not-is_change.branch [
      | then-not-is_change-via-then-not-is_change w ↦ inl (search rules)
      | then-not-is_change-via-else-not-is_change+then-promises-kept w ↦ inr (search (rules, arith))
    ] in
    let unchanged : c.hear_noting.new.self.changes.items ≡ c.args.self.now.changes.items = ap (λ (all : Vec SignedPromise Global). all.items) c.in_ok-hear_noting.ensures.stays.4 in
    notes_none (ask_seen c.args.ask.now) c.args.self.now.client.promises c.hear_noting.new.self.client.promises c.args.self.now.changes.items c.hear_noting.new.self.changes.items none unchanged

pub returns-clause-told : goal.returns-clause-told
returns-clause-told g c =
    let heard = c.in_ok-hear_noting.ensures.hears in
    let noted = subst (λ (finals : Finals). NotesHeard g.H.NodeHash.digest_of g.V.VufCheck.accepted c.hear_noting.new.self.client (ask_seen c.args.ask.now) (frame_seen c.args.frame.now) heard.0.status c.args.self.now.finals heard.1 finals) (sym c.hand_out.ensures.finals) heard.3 in
    heard_untold g.H.NodeHash.digest_of g.V.VufCheck.accepted g.S.Verifier.verified _ c.hand_out.result c.args.held (ask_seen c.args.ask.now) (frame_seen c.args.frame.now) c.args.self.now.client c.hear_noting.new.self.client
    c.hand_out.new.self.client heard.0 heard.1 c.args.self.now.finals c.hand_out.new.self.finals c.args.said.now c.hear_noting.new.said c.hand_out.new.said heard.2 noted c.hand_out.ensures.client heard.4 c.hand_out.ensures.untold
