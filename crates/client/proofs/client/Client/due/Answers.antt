use Rattle.std.proofs.Common.{rules, ◌≡◌, Ok, Err, Result, refl, ap, subst}
use Rattle.rootchain.specs.Chains.{IsChain}
use Rattle.client.specs.Clients.{Client, IsSoundClient}
use Rattle.client.specs.Dues.{IsTested, Tests, left}
use Rattle.client.specs.declared.due.Due.{Due}
use Rattle.client.specs.declared.due.Due.TheVariants.{Kept, Broken, OtherIndex}
use Rattle.client.specs.declared.client_refusal.Refusal.{Refusal}
use Rattle.client.proofs.Breaking.{due-holds, refused}
use Rattle.client.proofs.Growing.{dropped}
use Rattle.client.proofs.client.Client.due.Given.{Over}
use Rattle.client.proofs.client.Client.due.Goals.{After-test}
use Rattle.client.proofs.client.Client.due.Goals as goal

-- the promise that was tested, and the test
found : (g : Over) (c : After-test g) → IsTested c.args.self.now.promises c.args.name.now c.in-Some.place c.in-Some.signed.now
found g c =
    let here : IsTested c.self.inside.promises c.args.name.now c.in-Some.place c.in-Some.signed.now = rw c.all.ensures at c.in-Some.ensures in
    subst (λ (client : Client). IsTested client.promises c.args.name.now c.in-Some.place c.in-Some.signed.now) c.self.view_is here

tests : (g : Over) (c : After-test g) (result : Result Due Refusal) → c.test.result ≡ result → Tests g.H.NodeHash.digest_of g.V.VufCheck.accepted c.args.self.now.chain c.args.name.now c.args.bytes.now c.in-Some.signed.now result
tests g c result is =
    let told = subst (Tests g.H.NodeHash.digest_of g.V.VufCheck.accepted c.self.inside.chain c.args.name.now c.args.bytes.now c.in-Some.signed.now) is c.test.ensures.tests in
    subst (λ (client : Client). Tests g.H.NodeHash.digest_of g.V.VufCheck.accepted client.chain c.args.name.now c.args.bytes.now c.in-Some.signed.now result) c.self.view_is told

pub returns-in-Err-clause-due : goal.returns-in-Err-clause-due
returns-in-Err-clause-due g c =
    let tests = subst (λ (client : Client). Tests g.H.NodeHash.digest_of g.V.VufCheck.accepted client.chain c.args.name.now c.args.bytes.now c.in-Some.signed.now (Err c.in-Err.why)) c.self.view_is c.in-Err.ensures.tests in
    refused g.H.NodeHash.digest_of g.V.VufCheck.accepted c.args.self.now c.args.name.now c.args.bytes.now c.in-Some.place c.in-Some.signed.now (found g (goal.at.returns-in-Err-clause-due g c).After-test) c.in-Err.why tests

pub returns-in-Ok-Kept-clause-due : goal.returns-in-Ok-Kept-clause-due
returns-in-Ok-Kept-clause-due g c =
    let a = (goal.at.returns-in-Ok-Kept-clause-due g c).After-test in
    let is : c.test.result ≡ Ok Kept = search rules in
    (c.in-Some.place, (c.in-Some.signed.now, found g a, tests g a (Ok Kept) is), rw c.remove.ensures (ap (λ (client : Client). left client c.in-Some.place Kept) c.self.view_is))

pub returns-in-Ok-Broken-clause-due : goal.returns-in-Ok-Broken-clause-due
returns-in-Ok-Broken-clause-due g c =
    let a = (goal.at.returns-in-Ok-Broken-clause-due g c).After-test in
    let is : c.test.result ≡ Ok (Broken c.in-Ok-Broken.broken) = search rules in
    (c.in-Some.place, (c.in-Some.signed.now, found g a, tests g a (Ok (Broken c.in-Ok-Broken.broken)) is), refl)

pub returns-in-Ok-Broken-clause-evidence : goal.returns-in-Ok-Broken-clause-evidence
returns-in-Ok-Broken-clause-evidence g c =
    let a = (goal.at.returns-in-Ok-Broken-clause-evidence g c).After-test in
    let is : c.test.result ≡ Ok (Broken c.in-Ok-Broken.broken) = search rules in
    let chain = subst (λ (client : Client). IsChain g.H.NodeHash.digest_of g.S.Verifier.verified client.chain) c.self.view_is c.test.ensures.chain in
    let sound = subst (IsSoundClient g.H.NodeHash.digest_of g.V.VufCheck.accepted g.S.Verifier.verified) c.self.view_is c.self.invariant in
    due-holds g.H.NodeHash.digest_of g.V.VufCheck.accepted g.S.Verifier.verified c.args.self.now c.args.name.now c.args.bytes.now chain sound c.in-Some.place c.in-Some.signed.now (found g a) (Broken c.in-Ok-Broken.broken) (tests g a (Ok (Broken c.in-Ok-Broken.broken)) is)

pub returns-in-Ok-OtherIndex-clause-due : goal.returns-in-Ok-OtherIndex-clause-due
returns-in-Ok-OtherIndex-clause-due g c =
    let a = (goal.at.returns-in-Ok-OtherIndex-clause-due g c).After-test in
    let is : c.test.result ≡ Ok OtherIndex = search rules in
    (c.in-Some.place, (c.in-Some.signed.now, found g a, tests g a (Ok OtherIndex) is), refl)

pub invariant_of-self : goal.invariant_of-self
invariant_of-self g c =
    rw c.remove.ensures (dropped g.H.NodeHash.digest_of g.V.VufCheck.accepted g.S.Verifier.verified (record { chain = c.self.inside.chain; looks = c.self.inside.looks; promises = c.self.inside.promises }) c.self.invariant c.in-Some.place)
