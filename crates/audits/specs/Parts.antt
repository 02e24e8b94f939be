-- What evidence is made of when it is passed on: its kind, and the bytes of its two parts (the forms are this
-- directory's own).
use Rattle.std.specs.Prelude.{◌≡◌, ℕ, List, ◌++◌, codes}
use Rattle.encoding.specs.Forms.{counted_bytes}
use Rattle.encoding.specs.Limits.{IsName}
use Rattle.auditor.specs.declared.evidence.Evidence.{Evidence}
use Rattle.auditor.specs.declared.evidence.Evidence.TheVariants.{Root, Broken, Final}
use Rattle.proofs.specs.Replies.{Reply, SpellsReply}
use Rattle.rootchain.specs.Evidence.{BothAre}
use Rattle.rootchain.specs.declared.evidence.RootEvidence.TheVariants.{Fork, Link, Skip}
use Rattle.rootchain.specs.Promises.{signed_promise_bytes, IsSignedPromise}
use Rattle.rootchain.specs.SignedRoots.{signed_root_bytes, IsSignedRoot}

-- a kind, and the bytes of two parts
pub record EvidenceParts : Type 0 where
  pub first : List ℕ
  pub kind : List ℕ
  pub second : List ℕ

-- two signed roots; a signed promise, and a signed root followed by a reply; or a name behind its length in two bytes,
-- followed by a signed root and a reply, and the later root followed by its reply
abbrev pub evidence_parts : Evidence → EvidenceParts
evidence_parts (Root (Fork one other)) = record { first = signed_root_bytes one; kind = codes "fork"; second = signed_root_bytes other }
evidence_parts (Root (Link one other)) = record { first = signed_root_bytes one; kind = codes "link"; second = signed_root_bytes other }
evidence_parts (Root (Skip one other)) = record { first = signed_root_bytes one; kind = codes "skip"; second = signed_root_bytes other }
evidence_parts (Broken broken) = record { first = signed_promise_bytes broken.promise; kind = codes "broken-promise"; second = signed_root_bytes broken.root ++ broken.proof }
evidence_parts (Final broken) = record {
  first = counted_bytes broken.name ++ (signed_root_bytes broken.root ++ broken.proof);
  kind = codes "broken-final";
  second = signed_root_bytes broken.later_root ++ broken.later_proof;
}

-- the roots, the promise and the name are well formed, and each proof spells a reply
abbrev pub IsFormed : Evidence → Type 0
IsFormed (Root roots) = BothAre IsSignedRoot roots
IsFormed (Broken broken) = IsSignedPromise broken.promise × IsSignedRoot broken.root × ((reply : Reply) × SpellsReply broken.proof reply)
IsFormed (Final broken) =
    IsName broken.name × IsSignedRoot broken.root × ((reply : Reply) × SpellsReply broken.proof reply)
    × IsSignedRoot broken.later_root × ((reply : Reply) × SpellsReply broken.later_proof reply)

-- the well-formed evidence of this kind with these two parts
abbrev pub HasParts : EvidenceParts → Evidence → Type 0
HasParts parts evidence = (evidence_parts evidence ≡ parts) × IsFormed evidence
