use Rattle.std.proofs.Common.{◌≡◌, Option, ap, arith, refl, sym, ◌∙◌}
use Rattle.std.specs.Option.{option_map}
use Rattle.proofs.specs.Replies.{End, reply_bytes}
use Rattle.book.specs.Books.{Binding}
use Rattle.book.specs.Shows.{reply_end}
use Rattle.epochs.specs.declared.address.Address.{Address}
use Rattle.epochs.specs.Addresses.{address_of}
use Rattle.epochs.specs.Directories.{parts_of, state_of}
use Rattle.epochs.specs.Histories.{binding_at}
use Rattle.epochs.specs.DirectoryStates.{provider}
use Rattle.epochs.proofs.Addresses.{address_read, chosen_found, held_there}
use Rattle.epochs.proofs.Reading.{lookup_reads, lookup_refused, root_within}
use Rattle.epochs.proofs.directory.Directory.lookup.Goals as goal

pub index-requires-2 : goal.index-requires-2
index-requires-2 g c =
    let below = root_within _ _ _ _ c.self.invariant.0 c.in-Ok.sought.page (rw (← c.self.view_is, c.in-Ok.ensures.found.1) at c.page-page.ensures.within) in
    omega (arith, below, c.self.inside.roots.ok.0)

pub returns-clause-reads : goal.returns-clause-reads
returns-clause-reads g c =
    let by = provider g.H.NodeHash.digest_of g.V.Vuf.value_of g.S.Signer.signature_of (state_of g.V.Vuf.public_key g.S.Signer.public_key g.H.NodeHash.digests c.self.inside) in
    let sought = c.in-Ok.sought in
    let found = c.in-Ok.ensures.found in
    let end = c.path-path.result.end in
    let own : sought.address ≡ address_of by c.args.name.now = address_read by c.self.inside.names.addresses c.args.name.now sought.address c.self.invariant.1 found.2 in
    let spelled = λ (end : End). reply_bytes (record { body = c.index-2.result.now.body; value = sought.address.value; end = end; siblings = c.path-path.result.siblings.items }) in
    rw (← c.self.view_is)
    (lookup_reads _ _ _ _ c.self.invariant.0 c.args.name.now c.args.epoch sought.page c.index-2.result.now c.index.result.now sought.address.value sought.address.index
    c.path-path.result.siblings.items end (option_map (λ version. version.now.binding) sought.shown) c.make.result
    found.0 (rw (← c.self.view_is, found.1) at c.page-page.ensures.page) (rw (← c.self.view_is, found.1) at c.page-page.ensures.within)
    c.index-2.ensures c.index.ensures (ap (λ (address : Address). address.value) own) (ap (λ (address : Address). address.index) own ∙ ap g.H.NodeHash.digest_of (sym (ap (λ (address : Address). address.value) own)))
    c.path-path.ensures.path
    (found.3 ∙ chosen_found (binding_at sought.page) c.self.inside.names.versions c.args.name.now c.self.invariant.0.histories _ refl)
    (c.make.ensures.value ∙ ap spelled (c.end_of.ensures ∙ ap (λ (shown : Option Binding). reply_end sought.address.index shown end) c.opening-opening.ensures)))

pub returns-in-Err-clause-reads : goal.returns-in-Err-clause-reads
returns-in-Err-clause-reads g c =
    rw (← c.self.view_is)
    (lookup_refused _ _ _ _ c.self.invariant.0 c.args.name.now c.args.epoch c.page-page.result c.in-Err.why (rw (← c.self.view_is) at c.page-page.ensures.page) (rw (← c.self.view_is) at c.page-page.ensures.within) c.in-Err.ensures.found)

pub returns-clause-spared : goal.returns-clause-spared
returns-clause-spared g c =
    rw (← c.self.view_is)
    (λ held. ap g.H.NodeHash.digests (c.in-Ok.ensures.spared (held_there _ (parts_of c.self.inside) _ _ c.self.invariant.0 c.args.name.now held)))

pub returns-in-Err-clause-spared : goal.returns-in-Err-clause-spared
returns-in-Err-clause-spared g c =
    rw (← c.self.view_is)
    (λ held. ap g.H.NodeHash.digests (c.in-Err.ensures.spared (held_there _ (parts_of c.self.inside) _ _ c.self.invariant.0 c.args.name.now held)))
