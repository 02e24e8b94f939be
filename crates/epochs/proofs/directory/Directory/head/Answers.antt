use Rattle.std.proofs.Common.{rules, subst}
use Rattle.encoding.specs.Bytes.{Is32Bytes}
use Rattle.book.specs.Shows.{IsRootOf}
use Rattle.epochs.specs.Directories.{parts_of}
use Rattle.epochs.specs.DirectoryStates.{book, provider}
use Rattle.epochs.proofs.Changing.{last_shown}
use Rattle.epochs.proofs.RootKeys.{root_key}
use Rattle.epochs.proofs.directory.Directory.head.Goals as goal

pub returns-clause-head : goal.returns-clause-head
returns-clause-head g c = rw (← c.self.view_is) (last_shown _ (parts_of c.self.inside) _ _ c.self.invariant.0 c.len.result (search rules) c.index-root.result.now c.index-root.ensures)

pub returns-clause-laws : goal.returns-clause-laws
returns-clause-laws g c = record {
  digest_size = g.met.H.NodeHash.digest_size;
  value_is_accepted = rw (← c.self.view_is) (g.met.V.Vuf.value_is_accepted c.self.inside.vuf);
  value_size = g.met.V.Vuf.value_size c.args.self.now.vuf_key;
  signature_verifies = rw (← c.self.view_is) (g.met.S.Signer.signature_verifies c.self.inside.signer);
  signature_size = g.met.S.Signer.signature_size c.args.self.now.signing_key;
  vuf_key_size = subst Is32Bytes (root_key (provider g.H.NodeHash.digest_of g.V.Vuf.value_of g.S.Signer.signature_of c.args.self.now) (book g.R.Rng.stream c.args.self.now) c.args.self.now.last c.index-root.result.now is) c.bytes.ensures.size;
}
  where
    is : IsRootOf (provider g.H.NodeHash.digest_of g.V.Vuf.value_of g.S.Signer.signature_of c.args.self.now) (book g.R.Rng.stream c.args.self.now) c.args.self.now.last c.index-root.result.now
    is = rw (← c.self.view_is) (last_shown _ (parts_of c.self.inside) _ _ c.self.invariant.0 c.len.result (search rules) c.index-root.result.now c.index-root.ensures)
