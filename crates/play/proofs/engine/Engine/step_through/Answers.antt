use Rattle.std.proofs.Common.{rules, Bool, true, false, subst, get_or, ◌<◌, length, ap, sym, ◌∙◌, ◌≡◌, ℕ, Some, List, slice_get}
use Rattle.std.proofs.lemmas.Option.{slice_get-get_or}
use Rattle.book.specs.Shows.{roots}
use Rattle.monitor.specs.Monitors.{Monitor}
use Rattle.play.specs.Parties.{Parties, provider_of, AreAt, IsWatcher}
use Rattle.play.specs.declared.engine.Engine.TheInside.{Inside}
use Rattle.play.specs.Played.{Stand}
use Rattle.play.specs.Watchers.{Watcher}
use Rattle.play.proofs.Through.{ends-here, ends-there, goes-farther, not-yet, HasNext, now-there, place-within, zip-there}
use Rattle.play.proofs.engine.Engine.step_through.Given.{Over}
use Rattle.play.proofs.engine.Engine.step_through.Goals as goal

-- the watcher of a place
watcher-there : (g : Over) (parties : Parties g.row.R.Denot) (stand : Stand) (place : ℕ) → AreAt g.H.NodeHash.digest_of g.V.Vuf.value_of g.S.Signer.signature_of g.R.Rng.stream g.V.VufCheck.accepted g.S.Verifier.verified parties stand → place < length parties.monitors
    → (watcher : Watcher) × (slice_get stand.watchers place ≡ Some watcher)
watcher-there g parties stand place all within =
    zip-there (IsWatcher parties.key (roots (provider_of g.H.NodeHash.digest_of g.V.Vuf.value_of g.S.Signer.signature_of g.R.Rng.stream g.V.VufCheck.accepted g.S.Verifier.verified parties) stand.book) stand.book) parties.monitors stand.watchers place all.taken.monitors within

got : (g : Over) (inside : Inside g.row.H.Denot g.row.V.Denot g.row.S.Denot g.row.R.Denot) (parties : Parties g.row.R.Denot) (place : ℕ) (watching : Monitor) → record { hub = inside.hub; key = inside.key; client = inside.client; auditor = inside.auditor; monitors = inside.monitors.items } ≡ parties
    → watching ≡ get_or inside.monitors.items place watching → place < length parties.monitors → slice_get parties.monitors place ≡ Some watching
got g inside parties place watching is read within =
    let monitors : inside.monitors.items ≡ parties.monitors = ap (λ (p : Parties g.row.R.Denot). p.monitors) is in
    subst (λ (some : List Monitor). slice_get some place ≡ Some watching) monitors
    (slice_get-get_or inside.monitors.items place watching (subst (λ (some : List Monitor). place < length some) (sym monitors) within) ∙ ap (λ (m : Monitor). Some m) (sym read))

pub loop-init : goal.loop-init
loop-init g c = λ stand watcher all own. not-yet g.H.NodeHash.digest_of g.V.Vuf.value_of g.S.Signer.signature_of g.R.Rng.stream g.V.VufCheck.accepted g.S.Verifier.verified c.args.self.now c.args.text.now.items stand c.args.place watcher own all

pub index-requires : goal.index-requires
index-requires g c =
    let w = watcher-there g c.args.self.now c.requires.at.0 c.args.place c.requires.at.1 c.requires.there in
    let within = place-within g.H.NodeHash.digest_of g.V.Vuf.value_of g.S.Signer.signature_of g.R.Rng.stream g.V.VufCheck.accepted g.S.Verifier.verified c.args.self.now c.args.text.now.items c.requires.at.0 c.args.place w.0 w.1 c.loop.text.items c.loop.self (c.loop.invariant c.requires.at.0 w.0 c.requires.at.1 w.1) in
    let less : c.args.place < length c.self.inside.monitors.items = subst (λ (parties : Parties g.row.R.Denot). c.args.place < length parties.monitors) (sym c.self.view_is) within in
    search rules

pub returns-in_default : goal.returns-in_default
returns-in_default g c =
    let w = watcher-there g c.args.self.now c.requires.at.0 c.args.place c.requires.at.1 c.requires.there in
    let gone = c.loop.invariant c.requires.at.0 w.0 c.requires.at.1 w.1 in
    let within = place-within g.H.NodeHash.digest_of g.V.Vuf.value_of g.S.Signer.signature_of g.R.Rng.stream g.V.VufCheck.accepted g.S.Verifier.verified c.args.self.now c.args.text.now.items c.requires.at.0 c.args.place w.0 w.1 c.loop.text.items c.loop.self gone in
    let placed : slice_get c.loop.self.monitors c.args.place ≡ Some c.index.result.now = got g c.self.inside c.loop.self c.args.place c.index.result.now c.self.view_is c.index.ensures within in
    record {
      keys = gone.keys;
      looks = gone.looks;
      done = λ stand watcher all own. ends-here g.H.NodeHash.digest_of g.V.Vuf.value_of g.S.Signer.signature_of g.R.Rng.stream g.V.VufCheck.accepted g.S.Verifier.verified c.args.self.now c.args.text.now.items stand c.args.place watcher own c.loop.text.items c.loop.self (c.loop.invariant stand watcher all own) c.index.result.now placed (search rules);
    }

pub step-requires-clause-at : goal.step-requires-clause-at
step-requires-clause-at g c =
    let w = watcher-there g c.args.self.now c.requires.at.0 c.args.place c.requires.at.1 c.requires.there in
    let gone = c.loop.invariant c.requires.at.0 w.0 c.requires.at.1 w.1 in
    (_, gone.done.stands)

pub step-requires-clause-next : goal.step-requires-clause-next
step-requires-clause-next g c =
    let w = watcher-there g c.args.self.now c.requires.at.0 c.args.place c.requires.at.1 c.requires.there in
    let within = place-within g.H.NodeHash.digest_of g.V.Vuf.value_of g.S.Signer.signature_of g.R.Rng.stream g.V.VufCheck.accepted g.S.Verifier.verified c.args.self.now c.args.text.now.items c.requires.at.0 c.args.place w.0 w.1 c.loop.text.items c.loop.self (c.loop.invariant c.requires.at.0 w.0 c.requires.at.1 w.1) in
    (c.index.result.now, got g c.self.inside c.loop.self c.args.place c.index.result.now c.self.view_is c.index.ensures within, c.in-Some.ensures)

pub returns-then-not-branch : goal.returns-then-not-branch
returns-then-not-branch g c =
    let went : c.in_ok-step.field-0 ≡ false = search rules in
    let w = watcher-there g c.args.self.now c.requires.at.0 c.args.place c.requires.at.1 c.requires.there in
    let gone = c.loop.invariant c.requires.at.0 w.0 c.requires.at.1 w.1 in
    record {
      keys = let step = c.in_ok-step.ensures _ gone.now gone.done.stands (now-there g.H.NodeHash.digest_of g.V.Vuf.value_of g.S.Signer.signature_of g.R.Rng.stream g.V.VufCheck.accepted g.S.Verifier.verified c.args.self.now c.args.text.now.items c.requires.at.0 c.args.place w.0 w.1 c.loop.text.items c.loop.self gone) in (step.keys.0 ∙ gone.keys.0, step.keys.1 ∙ gone.keys.1);
      looks = let step = c.in_ok-step.ensures _ gone.now gone.done.stands (now-there g.H.NodeHash.digest_of g.V.Vuf.value_of g.S.Signer.signature_of g.R.Rng.stream g.V.VufCheck.accepted g.S.Verifier.verified c.args.self.now c.args.text.now.items c.requires.at.0 c.args.place w.0 w.1 c.loop.text.items c.loop.self gone) in step.looks ∙ gone.looks;
      done = λ stand watcher all own.
          let own_gone = c.loop.invariant stand watcher all own in
          let step = c.in_ok-step.ensures _ own_gone.now own_gone.done.stands (now-there g.H.NodeHash.digest_of g.V.Vuf.value_of g.S.Signer.signature_of g.R.Rng.stream g.V.VufCheck.accepted g.S.Verifier.verified c.args.self.now c.args.text.now.items stand c.args.place watcher own c.loop.text.items c.loop.self own_gone) in
          ends-there g.H.NodeHash.digest_of g.V.Vuf.value_of g.S.Signer.signature_of g.R.Rng.stream g.V.VufCheck.accepted g.S.Verifier.verified c.args.self.now c.args.text.now.items stand c.args.place watcher own c.loop.text.items c.loop.self own_gone c.step.new.text.items c.step.new.self
          (subst (λ (t : Bool). HasNext g.H.NodeHash.digest_of g.V.Vuf.value_of g.S.Signer.signature_of g.R.Rng.stream g.V.VufCheck.accepted g.S.Verifier.verified c.args.self.now c.args.text.now.items stand c.args.place watcher own c.loop.text.items c.loop.self own_gone t c.step.new.text.items c.step.new.self) went step);
    }

pub loop-preserved : goal.loop-preserved
loop-preserved g c = λ stand watcher all own.
    let went : c.in_ok-step.field-0 ≡ true = search rules in
    let gone = c.loop.invariant stand watcher all own in
    let step = c.in_ok-step.ensures _ gone.now gone.done.stands (now-there g.H.NodeHash.digest_of g.V.Vuf.value_of g.S.Signer.signature_of g.R.Rng.stream g.V.VufCheck.accepted g.S.Verifier.verified c.args.self.now c.args.text.now.items stand c.args.place watcher own c.loop.text.items c.loop.self gone) in
    goes-farther g.H.NodeHash.digest_of g.V.Vuf.value_of g.S.Signer.signature_of g.R.Rng.stream g.V.VufCheck.accepted g.S.Verifier.verified c.args.self.now c.args.text.now.items stand c.args.place watcher own c.loop.text.items c.loop.self gone c.step.new.text.items c.step.new.self
    (subst (λ (t : Bool). HasNext g.H.NodeHash.digest_of g.V.Vuf.value_of g.S.Signer.signature_of g.R.Rng.stream g.V.VufCheck.accepted g.S.Verifier.verified c.args.self.now c.args.text.now.items stand c.args.place watcher own c.loop.text.items c.loop.self gone t c.step.new.text.items c.step.new.self) went step)
