use Rattle.std.proofs.Common.{◌≡◌, map, take}
use Rattle.nodehash.specs.Digests.{after_digests}
use Rattle.nodehash.proofs.node_hash.NodeHash.digest_all.Given as goal

abbrev pub invariant-loop-place : goal.invariant-loop-place
invariant-loop-place g l = (take l.place l.out ≡ map g.Self.NodeHash.digest_of (take l.place l.texts)) × (g.Self.NodeHash.digests l.self ≡ after_digests l.place (g.Self.NodeHash.digests l.initial.self))
