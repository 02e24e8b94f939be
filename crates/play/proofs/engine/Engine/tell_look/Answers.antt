use Rattle.std.proofs.Common.{◌≡◌, ◌≢◌, [], ◌∷◌, ◌++◌, Err, Ok, refl, subst}
use Rattle.std.specs.Prelude.{OnOk, Result, codes, decimal}
use Rattle.proofs.specs.Refusals.{reply_refusal_number}
use Rattle.proofs.specs.Views.{key_stated}
use Rattle.proofs.specs.declared.reply_refusal.Refusal.{Refusal as ProofRefusal}
use Rattle.proofs.specs.declared.statement.Statement.{Statement}
use Rattle.book.specs.Books.{Page}
use Rattle.book.specs.Shows.{Provider, index_of}
use Rattle.epochs.specs.DirectoryStates.{provider}
use Rattle.client.specs.Looking.{Looks}
use Rattle.client.specs.declared.client_refusal.Refusal.{Refusal}
use Rattle.client.specs.declared.client_refusal.Refusal.TheVariants as client
use Rattle.play.specs.Checked.{HasLooked, HasLookedUp}
use Rattle.play.specs.Lines.{found_text, statement_text}
use Rattle.play.specs.Parties.{Parties}
use Rattle.play.proofs.Looked.{LooksSo, looks_so, on_ok, told_refused, told_stated}
use Rattle.play.proofs.Refused.{looks-well}
use Rattle.play.proofs.engine.Engine.tell_look.Given.{Over}
use Rattle.play.proofs.engine.Engine.tell_look.Goals as goal
use Rattle.play.proofs.engine.Engine.tell_look.Goals.{in-Ok-look, in-Err, After-look}

stated-fine : (answer : Result Statement Refusal) (statement : Statement) → answer ≡ Ok statement → answer ≢ Err client.Memory
stated-fine answer statement is e = absurd cc

refused-fine : (answer : Result Statement Refusal) (why : Refusal) (reason : ProofRefusal) → answer ≡ Err why → why ≡ client.Proof reason → answer ≢ Err client.Memory
refused-fine answer why reason is of e = absurd cc

-- the parties before, by their fields, and their directory's provider
abbrev before : (g : Over) (c : After-look g) → Parties g.row.R.Denot
before g c = record { hub = c.self.inside.hub; key = c.self.inside.key; client = c.self.inside.client; auditor = c.self.inside.auditor; monitors = c.self.inside.monitors.items }

abbrev by : (g : Over) (c : After-look g) → Provider
by g c = provider g.H.NodeHash.digest_of g.V.Vuf.value_of g.S.Signer.signature_of (before g c).hub.service.directory

looks : (g : Over) (c : After-look g) → Looks g.H.NodeHash.digest_of g.V.VufCheck.accepted c.self.inside.client c.args.name.now c.args.epoch c.args.reply.now c.look.result c.look.new.self
looks g c = rw c.in-Ok.ensures.value at c.look.ensures.looks

so : (g : Over) (c : After-look g) (page : Page) → HasLookedUp g.H.NodeHash.digest_of g.V.Vuf.value_of g.S.Signer.signature_of g.R.Rng.stream g.V.VufCheck.accepted g.S.Verifier.verified c.args.self.now c.args.name.now c.args.epoch c.args.reply.now page
    → LooksSo (by g c) page c.args.name.now c.look.result
so g c page found =
    let f : HasLookedUp g.H.NodeHash.digest_of g.V.Vuf.value_of g.S.Signer.signature_of g.R.Rng.stream g.V.VufCheck.accepted g.S.Verifier.verified (before g c) c.args.name.now c.args.epoch c.args.reply.now page
    = rw (← c.self.view_is) at found in
    looks_so (by g c) g.V.VufCheck.accepted g.S.Verifier.verified (before g c).key _ f.sound f.laws page f.root c.args.name.now c.args.reply.now c.args.epoch (before g c).client c.look.new.self c.look.result
    (c.honest.ensures (by g c) (before g c).key _ _ _ _ f.honest) f.asked f.named f.rooted f.reply f.chain (looks g c)

pub tell_refusal-requires : goal.tell_refusal-requires
tell_refusal-requires g c =
    let (page, found, same) = c.requires.found in
    let a = (goal.at.tell_refusal-requires g c).After-look in
    looks-well (by g a) page c.args.name.now c.in-Err.why (subst (LooksSo (by g a) page c.args.name.now) c.in-Err.is (so g a page found))

pub returns : goal.returns
returns g c = λ page found same.
    let a = (goal.at.returns g c).After-look in
    let after : Parties g.row.R.Denot = record (before g a) { client = c.look.new.self } in
    let looked : c.look.result ≢ Err client.Memory → HasLooked g.H.NodeHash.digest_of g.V.VufCheck.accepted (before g a) c.args.name.now c.args.epoch c.args.reply.now after
    = λ fine. record { answer = c.look.result; looks = looks g a; memory = fine; others = refl } in
    subst (λ (p : Parties g.row.R.Denot). OnOk c.match-look.result ((c.match-look.text.items ≡ c.args.text.now.items ++ found_text (index_of (provider g.H.NodeHash.digest_of g.V.Vuf.value_of g.S.Signer.signature_of p.hub.service.directory)) page c.args.name.now ++ 10 ∷ [])
    × HasLooked g.H.NodeHash.digest_of g.V.VufCheck.accepted p c.args.name.now c.args.epoch c.args.reply.now after))
    c.self.view_is (elim c.match-look.branch [
      | in-Ok-look w ↦
          let right : LooksSo (by g a) page c.args.name.now (Ok w.in-Ok-look.statement) = subst (LooksSo (by g a) page c.args.name.now) w.in-Ok-look.is (so g a page found) in
          on_ok c.match-look.result (c.match-look.text.items ≡ c.args.text.now.items ++ statement_text c.args.found_at (key_stated w.in-Ok-look.statement) ++ 10 ∷ []) _
          (rw (w.result-is, w.text-is) w.tell_statement.ensures.ok)
          (λ wrote. (told_stated (by g a) page c.args.name.now c.args.text.now.items c.match-look.text.items c.args.found_at w.in-Ok-look.statement same right wrote, looked (stated-fine c.look.result w.in-Ok-look.statement w.in-Ok-look.is)))
      | in-Err w ↦
          let so_refused : LooksSo (by g a) page c.args.name.now (Err w.in-Err.why) = subst (LooksSo (by g a) page c.args.name.now) w.in-Err.is (so g a page found) in
          on_ok c.match-look.result
          ((refused : ProofRefusal) × (w.in-Err.why ≡ client.Proof refused) × (c.match-look.text.items ≡ c.args.text.now.items ++ codes "client refuses proof " ++ decimal (reply_refusal_number refused) ++ 10 ∷ [])) _
          (rw (w.result-is, w.text-is) w.tell_refusal.ensures)
          (λ (refused, is, wrote). (
            told_refused (by g a) page c.args.name.now c.args.text.now.items c.match-look.text.items refused (subst (λ (why : Refusal). LooksSo (by g a) page c.args.name.now (Err why)) is so_refused) wrote,
            looked (refused-fine c.look.result w.in-Err.why refused w.in-Err.is is),
          ))
    ])
