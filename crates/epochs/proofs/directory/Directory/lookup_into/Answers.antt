use Rattle.std.proofs.Common.{◌≡◌, ℕ, ◌+◌, List, Option, length, length-append, append_assoc, ◌++◌, ap, arith, refl, sym, ◌∙◌}
use Rattle.std.specs.Option.{option_map}
use Rattle.encoding.specs.Bytes.{joined}
use Rattle.prefixtree.specs.Paths.{agreeing, end_of}
use Rattle.prefixtree.specs.declared.path.End.{End as PathEnd}
use Rattle.prefixtree.proofs.Unique.{one-level}
use Rattle.proofs.specs.Replies.{End, front_bytes, reply_bytes}
use Rattle.proofs.proofs.Fronts.{front_reply}
use Rattle.book.specs.Books.{Binding}
use Rattle.book.specs.Shows.{reply_end}
use Rattle.epochs.specs.declared.address.Address.{Address}
use Rattle.epochs.specs.Addresses.{address_of}
use Rattle.epochs.specs.Directories.{parts_of, state_of}
use Rattle.epochs.specs.Histories.{binding_at}
use Rattle.epochs.specs.DirectoryStates.{provider}
use Rattle.epochs.proofs.Addresses.{address_read, chosen_found, held_there}
use Rattle.epochs.proofs.Reading.{lookup_reads, lookup_refused, root_within}
use Rattle.epochs.proofs.directory.Directory.lookup_into.Goals as goal

pub index-requires : goal.index-requires
index-requires g c =
    let below = root_within _ _ _ _ c.self.invariant.0 c.in-Ok.sought.page (rw (← c.self.view_is, c.in-Ok.ensures.found.1) at c.page-page.ensures.within) in
    omega (arith, below, c.self.inside.roots.ok.0)

pub returns-clause-reads : goal.returns-clause-reads
returns-clause-reads g c =
    let by = provider g.H.NodeHash.digest_of g.V.Vuf.value_of g.S.Signer.signature_of (state_of g.V.Vuf.public_key g.S.Signer.public_key g.H.NodeHash.digests c.self.inside) in
    let sought = c.in-Ok.sought in
    let search = c.in-Ok.ensures.found in
    let own : sought.address ≡ address_of by c.args.name.now =
    address_read by c.self.inside.names.addresses c.args.name.now sought.address c.self.invariant.1 search.2 in
    let index : List ℕ = sought.address.index in
    let items = c.index-tree.result.now.items in
    let found : Option Binding = option_map (λ version. version.now.binding) sought.shown in
    let siblings : List (List ℕ) = c.write_siblings.ensures.path.0 in
    let end : PathEnd = c.write_siblings.ensures.path.1 in
    let path = c.write_siblings.ensures.path.2 in
    let long : length siblings ≡ c.path_end-level.result.0 = one-level index items (length siblings) c.path_end-level.result.0 path.level c.path_end-level.ensures.level in
    let same_end : c.path_end-level.result.1 ≡ end = c.path_end-level.ensures.end ∙ ap (λ (n : ℕ). end_of index (agreeing index n items)) (sym long) ∙ sym path.last in
    let given = c.end_of.ensures ∙ ap (λ (shown : Option Binding). reply_end index shown c.path_end-level.result.1) c.opening-opening.ensures in
    let front : c.write_front.new.output.items ≡ c.args.output.now.items ++ front_bytes c.index.result.now.body sought.address.value (reply_end index found c.path_end-level.result.1) c.path_end-level.result.0 =
    c.write_front.ensures.value ∙ ap (λ (end : End). c.args.output.now.items ++ front_bytes c.index.result.now.body sought.address.value end c.path_end-level.result.0) given in
    let spelled = λ (at : PathEnd). reply_bytes (record { body = c.index.result.now.body; value = sought.address.value; end = reply_end index found at; siblings = siblings }) in
    let text : List ℕ = spelled end in
    let whole : c.write_siblings.new.output.items ≡ c.args.output.now.items ++ text =
    c.write_siblings.ensures.path.3 ∙ ap (λ (front : List ℕ). front ++ joined siblings) front
    ∙ append_assoc c.args.output.now.items _ (joined siblings)
    ∙ ap (λ (reply : List ℕ). c.args.output.now.items ++ reply)
    (front_reply c.index.result.now.body sought.address.value (reply_end index found c.path_end-level.result.1) siblings c.path_end-level.result.0 long ∙ ap spelled same_end) in
    let size : length c.write_siblings.new.output.items ≡ length c.args.output.now.items + length text = ap length whole ∙ length-append c.args.output.now.items text in (
      text,
      rw (← c.self.view_is)
          (lookup_reads _ _ _ _ c.self.invariant.0 c.args.name.now c.args.epoch sought.page c.index.result.now c.index-tree.result.now sought.address.value index
          siblings end found text
          search.0 (rw (← c.self.view_is, search.1) at c.page-page.ensures.page) (rw (← c.self.view_is, search.1) at c.page-page.ensures.within)
          c.index.ensures c.index-tree.ensures (ap (λ (address : Address). address.value) own) (ap (λ (address : Address). address.index) own ∙ ap g.H.NodeHash.digest_of (sym (ap (λ (address : Address). address.value) own)))
          path
          (search.3 ∙ chosen_found (binding_at sought.page) c.self.inside.names.versions c.args.name.now c.self.invariant.0.histories _ refl)
          refl),
      omega (arith, c.write_siblings.ensures.len, c.write_front.ensures.len, size),
      whole,
    )

pub returns-in-Err-clause-reads : goal.returns-in-Err-clause-reads
returns-in-Err-clause-reads g c = (
  rw (← c.self.view_is)
      (lookup_refused _ _ _ _ c.self.invariant.0 c.args.name.now c.args.epoch c.page-page.result c.in-Err.why (rw (← c.self.view_is) at c.page-page.ensures.page) (rw (← c.self.view_is) at c.page-page.ensures.within) c.in-Err.ensures.found),
  refl,
)

pub returns-clause-spared : goal.returns-clause-spared
returns-clause-spared g c =
    rw (← c.self.view_is)
    (λ held. ap g.H.NodeHash.digests (c.in-Ok.ensures.spared (held_there _ (parts_of c.self.inside) _ _ c.self.invariant.0 c.args.name.now held)))

pub returns-in-Err-clause-spared : goal.returns-in-Err-clause-spared
returns-in-Err-clause-spared g c =
    rw (← c.self.view_is)
    (λ held. ap g.H.NodeHash.digests (c.in-Err.ensures.spared (held_there _ (parts_of c.self.inside) _ _ c.self.invariant.0 c.args.name.now held)))
