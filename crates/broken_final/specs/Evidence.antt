-- What is found of a client's looks where a hash is SHA-256, and signatures and values of names are the stand-ins'.
use Rattle.std.specs.Prelude.{ℕ, List}
use Rattle.nodehash.specs.Sha256.{sha256}
use Rattle.vrfiface.specs.StandIns.{KeyedAccepts}
use Rattle.sigiface.specs.StandIn.{KeyedVerifies}
use Rattle.auditor.specs.Evidence.{IsEvidence}
use Rattle.auditor.specs.declared.evidence.Evidence.{Evidence}
use Rattle.client.specs.Clients.{Look}
use Rattle.client.specs.Finality.{looks_for, IsChangedBy, NoneStandSo}

-- evidence against the provider that has this public key
abbrev pub IsEvidenceByStandIns : List ℕ → Evidence → Type 0
IsEvidenceByStandIns = IsEvidence sha256 KeyedAccepts KeyedVerifies

-- no look for the name changes what another one states to be final
abbrev pub ShowNoChange : List ℕ → List Look → Type 0
ShowNoChange name looks = NoneStandSo (IsChangedBy sha256) (looks_for name looks)
