use Rattle.std.proofs.Common.{rules, arith, ◌≡◌, Option, length}
use Rattle.book.specs.declared.directory_refusal.Refusal.{Refusal}
use Rattle.epochs.specs.Directories.{parts_of, state_of}
use Rattle.epochs.specs.DirectoryStates.{provider}
use Rattle.epochs.specs.KeyChanges.{IsRefusedSo}
use Rattle.epochs.proofs.KeyChanges.{addresses_changed, book_changed, fits_kept, keeps_changed}
use Rattle.epochs.proofs.directory.Directory.rebind.Goals as goal

pub let_change_wait-requires-clause-begun : goal.let_change_wait-requires-clause-begun
let_change_wait-requires-clause-begun g c =
    let long : c.len-page.result ≡ length (parts_of c.self.inside).roots = search rules in
    omega (arith, long, c.self.invariant.0.begun)

pub let_change_wait-requires-clause-fits : goal.let_change_wait-requires-clause-fits
let_change_wait-requires-clause-fits g c =
    let by = provider g.H.NodeHash.digest_of g.V.Vuf.value_of g.S.Signer.signature_of (state_of g.V.Vuf.public_key g.S.Signer.public_key g.H.NodeHash.digests c.self.inside) in
    let long : c.len-page.result ≡ length (parts_of c.self.inside).roots = search rules in
    fits_kept by c.self.inside.names (parts_of c.self.inside) _ _ c.self.invariant.0 c.self.invariant.1 c.args.name.now c.args.key.now c.args.salt c.bytes-3.ensures.size c.len-page.result long

pub invariant_of-self : goal.invariant_of-self
invariant_of-self g c =
    let by = provider g.H.NodeHash.digest_of g.V.Vuf.value_of g.S.Signer.signature_of (state_of g.V.Vuf.public_key g.S.Signer.public_key g.H.NodeHash.digests c.self.inside) in
    let kept = g.K.Keeper.kept c.args.keeper.now c.args.what.now c.let_change_wait.new.keeper in
    let refused = λ (due : Option Refusal) (why : Refusal). IsRefusedSo g.K.Keeper.failed c.args.keeper.now c.args.what.now due why c.let_change_wait.new.keeper in
    let long : c.len-page.result ≡ length (parts_of c.self.inside).roots = search rules in (
      keeps_changed by c.self.inside.names (parts_of c.self.inside) _ _ c.self.invariant.0 c.self.invariant.1 c.args.name.now c.args.key.now c.args.salt c.bytes-3.ensures.size c.len-page.result long
          kept refused c.let_change_wait.new.names c.let_change_wait.new.waiting c.bytes.ensures.limits c.bytes-2.ensures.limits c.let_change_wait.result c.let_change_wait.ensures.made,
      addresses_changed by c.self.inside.names (parts_of c.self.inside) _ _ c.self.invariant.0 c.self.invariant.1 c.args.name.now c.args.key.now c.args.salt c.bytes-3.ensures.size c.len-page.result long
          kept refused c.let_change_wait.new.names c.let_change_wait.new.waiting c.let_change_wait.result c.let_change_wait.ensures.made,
    )

pub returns-clause-made : goal.returns-clause-made
returns-clause-made g c =
    let by = provider g.H.NodeHash.digest_of g.V.Vuf.value_of g.S.Signer.signature_of (state_of g.V.Vuf.public_key g.S.Signer.public_key g.H.NodeHash.digests c.self.inside) in
    let kept = g.K.Keeper.kept c.args.keeper.now c.args.what.now c.let_change_wait.new.keeper in
    let refused = λ (due : Option Refusal) (why : Refusal). IsRefusedSo g.K.Keeper.failed c.args.keeper.now c.args.what.now due why c.let_change_wait.new.keeper in
    let long : c.len-page.result ≡ length (parts_of c.self.inside).roots = search rules in
    rw (← c.self.view_is)
    (book_changed by c.self.inside.names (parts_of c.self.inside) _ _ c.self.invariant.0 c.self.invariant.1 c.args.name.now c.args.key.now c.args.salt c.bytes-3.ensures.size c.len-page.result long
    kept refused c.let_change_wait.new.names c.let_change_wait.new.waiting c.let_change_wait.result c.let_change_wait.ensures.made)
