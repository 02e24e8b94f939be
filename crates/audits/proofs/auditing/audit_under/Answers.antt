use Rattle.std.proofs.Common.{rules, ◌≡◌, [], Err}
use Rattle.std.proofs.KnownBytes.{Consumes-nil}
use Rattle.textio.specs.declared.program_fault.ProgramFault.TheVariants.{CannotRead, CannotWrite, OutOfMemory}
use Rattle.audits.proofs.Midway.{begun, ended, gone_on, no_memory, unread, unwritten}
use Rattle.audits.proofs.auditing.audit_under.Goals as goal

pub loop-init : goal.loop-init
loop-init g c = rw c.new-auditor.ensures (begun g.H.NodeHash.digest_of g.S.Verifier.verified c.args.key.now _ _)

pub returns-in_err-line : goal.returns-in_err-line
returns-in_err-line g c =
    let passed : c.from_residual.result ≡ Err CannotRead = search rules in
    rw passed (unread g.H.NodeHash.digest_of g.S.Verifier.verified c.args.key.now _ _ c.loop.auditor _ _ c.loop.invariant _ c.in_err-line.ensures.err.1)

pub returns-in_default : goal.returns-in_default
returns-in_default g c =
    ended g.H.NodeHash.digest_of g.S.Verifier.verified c.args.key.now _ _ c.loop.auditor _ _ c.loop.invariant _ (rw c.in_default.is at c.in_ok-line.ensures.ok)

pub returns-in_err-answer : goal.returns-in_err-answer
returns-in_err-answer g c =
    let passed : c.from_residual-in_err-answer.result ≡ Err OutOfMemory = search rules in
    rw passed (no_memory g.H.NodeHash.digest_of g.S.Verifier.verified c.args.key.now _ _ c.loop.auditor _ _ _ _ (rw c.in-Some.is at c.in_ok-line.ensures.ok) c.loop.auditor [] c.loop.invariant)

pub returns-in_err-write_text : goal.returns-in_err-write_text
returns-in_err-write_text g c =
    let passed : c.from_residual-in_err-write_text.result ≡ Err CannotWrite = search rules in
    rw passed (unwritten g.H.NodeHash.digest_of g.S.Verifier.verified c.args.key.now _ _ c.loop.auditor _ _ _ _ (rw c.in-Some.is at c.in_ok-line.ensures.ok) _ _ _
    (rw c.bytes.ensures.value at c.in_ok-answer.ensures) c.loop.invariant (rw c.as_bytes.ensures.value at c.in_err-write_text.ensures.err.1))

pub loop-preserved : goal.loop-preserved
loop-preserved g c =
    gone_on g.H.NodeHash.digest_of g.S.Verifier.verified c.args.key.now _ _ c.loop.auditor _ _ _ _ (rw c.in-Some.is at c.in_ok-line.ensures.ok) _ _ _
    (rw c.bytes.ensures.value at c.in_ok-answer.ensures) c.loop.invariant (rw c.as_bytes.ensures.value at c.in_ok-write_text.ensures.ok)

pub returns : goal.returns
returns g c = unread g.H.NodeHash.digest_of g.S.Verifier.verified c.args.key.now _ _ c.loop.auditor _ _ c.loop.invariant _ ([], tt, Consumes-nil _)
