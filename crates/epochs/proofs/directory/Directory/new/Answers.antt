use Rattle.std.proofs.Common.{◌<◌, ◌∙◌, ap, arith, refl, subst, sym}
use Rattle.book.specs.Shows.{keyed_provider}
use Rattle.epochs.specs.Addresses.{AreAddresses, NamesContent}
use Rattle.epochs.proofs.Beginning.{begun_with, keeps_begun}
use Rattle.epochs.proofs.directory.Directory.new.Goals as goal

pub invariant_of-result : goal.invariant_of-result
invariant_of-result g c =
    let some : 0 < c.args.epoch = omega (arith, c.if-epoch-eq0.false) in
    let by = keyed_provider g.H.NodeHash.digest_of g.V.Vuf.value_of (g.V.Vuf.public_key c.args.vuf) g.S.Signer.signature_of (g.S.Signer.public_key c.args.signer) in (
      keeps_begun by
          c.args.epoch c.args.nonce c.next_salt-salt.result (g.R.Rng.stream c.next_salt-salt.new.salts)
          c.in_ok-tree.tree c.root.result c.new-2.result c.public.result _
          (record { tree_is = c.in_ok-tree.ensures.tree; root_is = c.root.ensures; hash_is = c.new-2.ensures; key_is = c.public.ensures })
          (record {
            names = ap (λ (names : NamesContent). names.versions) c.new-3.ensures;
            roots = begun_with _ _ c.signed_root.result _ c.new-roots.ensures.items c.in_ok-push.ensures.items c.signed_root.ensures;
            trees = begun_with _ _ c.in_ok-tree.tree _ c.new-trees.ensures.items c.in_ok-push-2.ensures.items refl;
            waiting = c.new-4.ensures;
            body_hash = c.hash_of-body_hash.ensures.value ∙ ap g.H.NodeHash.digest_of c.write-text.ensures.value;
          })
          (some, c.ranges.epoch.fits) c.write-text.ensures.sized.4 c.next_salt-salt.ensures.size,
      subst (λ (names : NamesContent). AreAddresses by names.addresses) (sym c.new-3.ensures) tt,
    )
