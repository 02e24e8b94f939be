use Rattle.std.proofs.Common.{Some, ap, rules, sym, ◌∙◌}
use Rattle.std.specs.Option.{option_map}
use Rattle.encoding.specs.declared.bound_key.BoundKey.{BoundKey}
use Rattle.book.specs.Books.{Binding}
use Rattle.epochs.specs.declared.address.Address.{Address}
use Rattle.epochs.specs.Directories.{parts_of, state_of}
use Rattle.epochs.specs.DirectoryStates.{provider}
use Rattle.epochs.proofs.Addresses.{address-kept, none_waits, waits_there}
use Rattle.epochs.proofs.directory.Directory.waiting.Goals as goal

pub returns-in_default-clause-key : goal.returns-in_default-clause-key
returns-in_default-clause-key g c =
    rw (← c.self.view_is)
    (ap (option_map (λ (binding : Binding). binding.key)) (none_waits _ (parts_of c.self.inside) _ _ c.self.invariant.0 c.args.name.now (rw c.bytes.ensures.value at c.in_default.ensures.versions)))

pub returns-in-Some-waiting-clause-key : goal.returns-in-Some-waiting-clause-key
returns-in-Some-waiting-clause-key g c =
    rw (← c.self.view_is)
    (ap (λ (key : BoundKey). Some key) c.key.ensures
    ∙ ap (option_map (λ (binding : Binding). binding.key))
    (c.in-Some-waiting.ensures
    ∙ waits_there _ (parts_of c.self.inside) _ _ c.self.invariant.0 c.args.name.now c.len.result (search rules) c.in-Some.history.now.versions (rw c.bytes.ensures.value at c.in-Some.ensures.versions)))

pub returns-in-Some-waiting-clause-index : goal.returns-in-Some-waiting-clause-index
returns-in-Some-waiting-clause-index g c =
    let by = provider g.H.NodeHash.digest_of g.V.Vuf.value_of g.S.Signer.signature_of (state_of g.V.Vuf.public_key g.S.Signer.public_key g.H.NodeHash.digests c.self.inside) in
    rw (← c.self.view_is)
    (c.index.ensures
    ∙ ap (λ (address : Address). address.index) (address-kept by c.self.inside.names.addresses c.args.name.now c.in-Some.history.now.address c.self.invariant.1 (rw c.bytes.ensures.value at (sym c.in-Some.ensures.address))))

pub returns-in-None-clause-key : goal.returns-in-None-clause-key
returns-in-None-clause-key g c =
    rw (← c.self.view_is)
    (ap (option_map (λ (binding : Binding). binding.key))
    (c.in-None.ensures
    ∙ waits_there _ (parts_of c.self.inside) _ _ c.self.invariant.0 c.args.name.now c.len.result (search rules) c.in-Some.history.now.versions (rw c.bytes.ensures.value at c.in-Some.ensures.versions)))
