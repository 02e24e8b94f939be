use Rattle.std.proofs.Common.{ap, rules, subst, sym}
use Rattle.epochs.specs.declared.address.Address.{Address}
use Rattle.epochs.specs.Addresses.{AreAddresses, NamesContent}
use Rattle.epochs.specs.Directories.{parts_of, state_of}
use Rattle.epochs.specs.DirectoryStates.{provider}
use Rattle.epochs.proofs.Addresses.{addresses_with}
use Rattle.epochs.proofs.Binding.{book_bound, bound_free, bound_later, keeps_bound}
use Rattle.epochs.proofs.directory.Directory.bind.Goals as goal

pub let_wait-requires-clause-later : goal.let_wait-requires-clause-later
let_wait-requires-clause-later g c =
    bound_later _ (parts_of c.self.inside) _ _ c.self.invariant.0 c.args.name.now c.args.key.now (rw (← c.self.view_is) at c.requires.waits) (rw (← c.self.view_is) at c.requires.free) c.args.salt c.bytes-3.ensures.size c.len.result (search rules) _ c.in_ok-version.ensures

pub let_wait-requires-clause-free : goal.let_wait-requires-clause-free
let_wait-requires-clause-free g c =
    bound_free _ (parts_of c.self.inside) _ _ c.self.invariant.0 c.args.name.now c.args.key.now (rw (← c.self.view_is) at c.requires.waits) (rw (← c.self.view_is) at c.requires.free) c.args.salt c.bytes-3.ensures.size _ (ap (λ (address : Address). address.index) (rw (← c.self.view_is) at c.requires.addressed))

pub invariant_of-self-2 : goal.invariant_of-self-2
invariant_of-self-2 g c =
    let by = provider g.H.NodeHash.digest_of g.V.Vuf.value_of g.S.Signer.signature_of (state_of g.V.Vuf.public_key g.S.Signer.public_key g.H.NodeHash.digests c.self.inside) in (
      keeps_bound _ (parts_of c.self.inside) _ _ c.self.invariant.0 c.args.name.now c.args.key.now (rw (← c.self.view_is) at c.requires.waits) (rw (← c.self.view_is) at c.requires.free) c.args.salt c.bytes-3.ensures.size c.len.result (search rules) _ c.in_ok-version.ensures
          c.args.address.now.index c.commit-commitment.result c.let_wait.new.names.versions c.let_wait.new.waiting
          (ap (λ (address : Address). address.index) (rw (← c.self.view_is) at c.requires.addressed)) c.commit-commitment.ensures.value (ap (λ (names : NamesContent). names.versions) c.in_ok-let_wait.ensures.1) c.in_ok-let_wait.ensures.2
          c.bytes.ensures.limits c.bytes-2.ensures.limits (rw (← c.self.view_is) at c.requires.changeable),
      subst (λ (names : NamesContent). AreAddresses by names.addresses) (sym c.in_ok-let_wait.ensures.1) (addresses_with by c.self.inside.names c.args.name.now c.args.address.now c.in_ok-version.version c.self.invariant.1 (rw (← c.self.view_is) at c.requires.addressed)),
    )

pub returns-clause-made : goal.returns-clause-made
returns-clause-made g c = rw (← c.self.view_is) (
  c.in_ok-let_wait.ensures.0,
  book_bound _ (parts_of c.self.inside) _ _ c.self.invariant.0 c.args.name.now c.args.key.now (rw (← c.self.view_is) at c.requires.waits) (rw (← c.self.view_is) at c.requires.free) c.args.salt c.bytes-3.ensures.size c.len.result (search rules) _ c.in_ok-version.ensures
      c.args.address.now.index c.commit-commitment.result c.let_wait.new.names.versions c.let_wait.new.waiting
      (ap (λ (address : Address). address.index) (rw (← c.self.view_is) at c.requires.addressed)) c.commit-commitment.ensures.value (ap (λ (names : NamesContent). names.versions) c.in_ok-let_wait.ensures.1) c.in_ok-let_wait.ensures.2,
)
