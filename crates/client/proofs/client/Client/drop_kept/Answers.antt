use Rattle.std.proofs.Common.{◌≡◌, true, false, ap, subst, sym}
use Rattle.std.proofs.lemmas.Option.{slice_get_within}
use Rattle.client.specs.Clients.{Client}
use Rattle.client.specs.Dues.{left, IsTested, ShowsKept}
use Rattle.client.specs.declared.due.Due.TheVariants.{Kept}
use Rattle.client.proofs.Growing.{dropped}
use Rattle.client.proofs.ShownKept.{kept-tests, not-kept}
use Rattle.client.proofs.client.Client.drop_kept.Given.{Over}
use Rattle.client.proofs.client.Client.drop_kept.Goals.{After-shows_kept}
use Rattle.client.proofs.client.Client.drop_kept.Goals as goal

-- the promise that was tested
found : (g : Over) (c : After-shows_kept g) → IsTested c.args.self.now.promises c.args.name.now c.in-Some.place c.in-Some.signed.now
found g c =
    let here : IsTested c.self.inside.promises c.args.name.now c.in-Some.place c.in-Some.signed.now = rw c.all.ensures at c.in-Some.ensures in
    subst (λ (client : Client). IsTested client.promises c.args.name.now c.in-Some.place c.in-Some.signed.now) c.self.view_is here

pub returns-then-not-shows_kept-clause-other : goal.returns-then-not-shows_kept-clause-other
returns-then-not-shows_kept-clause-other g c = λ never after.
    let a = (goal.at.returns-then-not-shows_kept-clause-other g c).After-shows_kept in
    not-kept g.H.NodeHash.digest_of g.V.VufCheck.accepted c.args.self.now c.args.name.now c.args.bytes.now c.requires.accepted c.in-Some.place c.in-Some.signed.now (found g a) (λ shows.
    let here = subst (λ (client : Client). ShowsKept g.H.NodeHash.digest_of client.chain c.in-Some.signed.now c.args.bytes.now) (sym c.self.view_is) shows in
    let one : c.shows_kept.result ≡ true = c.shows_kept.ensures.shows.1 here in
    let other : c.shows_kept.result ≡ false = c.if-not-shows_kept.true in
    absurd cc)
    after

pub remove-requires : goal.remove-requires
remove-requires g c =
    let here : IsTested c.self.inside.promises c.args.name.now c.in-Some.place c.in-Some.signed.now = rw c.all.ensures at c.in-Some.ensures in
    slice_get_within c.self.inside.promises c.in-Some.place c.in-Some.signed.now here.at

pub returns-clause-kept : goal.returns-clause-kept
returns-clause-kept g c = λ yes.
    let a = (goal.at.returns-clause-kept g c).After-shows_kept in
    let shows : ShowsKept g.H.NodeHash.digest_of c.self.inside.chain c.in-Some.signed.now c.args.bytes.now = c.shows_kept.ensures.shows.0 c.if-not-shows_kept.false in
    let here = subst (λ (client : Client). ShowsKept g.H.NodeHash.digest_of client.chain c.in-Some.signed.now c.args.bytes.now) c.self.view_is shows in (
      c.in-Some.place,
      (c.in-Some.signed.now, found g a, kept-tests g.H.NodeHash.digest_of g.V.VufCheck.accepted c.args.self.now c.args.name.now c.args.bytes.now c.requires.accepted c.in-Some.signed.now here),
      rw c.remove.ensures (ap (λ (client : Client). left client c.in-Some.place Kept) c.self.view_is),
    )

pub invariant_of-self : goal.invariant_of-self
invariant_of-self g c =
    rw c.remove.ensures (dropped g.H.NodeHash.digest_of g.V.VufCheck.accepted g.S.Verifier.verified (record { chain = c.self.inside.chain; looks = c.self.inside.looks; promises = c.self.inside.promises }) c.self.invariant c.in-Some.place)
