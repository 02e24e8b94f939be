use Rattle.std.proofs.Common.{ℕ, Result}
use Rattle.client.specs.Clients.{Client}
use Rattle.client.specs.declared.client_refusal.Refusal.{Refusal}
use Rattle.asking.specs.Joining.{Retraces}
use Rattle.asking.proofs.joining.retrace.Given as goal

-- what comes of the roots after this epoch comes of those after the first
abbrev pub invariant-loop : goal.invariant-loop
invariant-loop g l = (count : ℕ) (result : Result Client Refusal) → Retraces g.H.NodeHash.digest_of g.S.Verifier.verified l.other.chain count l.epoch l.own result
    → (whole : ℕ) × Retraces g.H.NodeHash.digest_of g.S.Verifier.verified l.other.chain whole l.first l.fn.own result
