use Rattle.std.proofs.Common.{◌≡◌, Err, rules}
use Rattle.book.specs.Shows.{index_of}
use Rattle.epochs.specs.DirectoryStates.{provider}
use Rattle.textio.specs.declared.program_fault.ProgramFault.TheVariants as fault
use Rattle.play.proofs.Scripted.{cannot_read, goes_at_first, goes_writing, next_none, next_played, next_stops, next_unwritten, write_ends}
use Rattle.play.proofs.playing.play_lines.Goals as goal

pub loop-number-init : goal.loop-number-init
loop-number-init g c stand are =
    goes_at_first g.H.NodeHash.digest_of g.V.Vuf.value_of g.S.Signer.signature_of g.R.Rng.stream g.V.VufCheck.accepted g.S.Verifier.verified c.args.engine.now stand
    (g.I.Read.remaining c.args.reader.now) (g.W.Write.contents c.args.writer.now) _ (search rules) are

-- nothing more is written than a beginning of what waits
pub returns-in_err-write_due : goal.returns-in_err-write_due
returns-in_err-write_due g c stand are =
    let n = c.loop-number.invariant stand are in
    let passed : c.from_residual.result ≡ Err fault.CannotWrite = search rules in
    rw passed
    (write_ends g.H.NodeHash.digest_of g.V.Vuf.value_of g.S.Signer.signature_of g.R.Rng.stream g.V.VufCheck.accepted g.S.Verifier.verified c.args.engine.now stand _ _ c.loop-number.number c.loop-number.engine
    _ _ (g.W.Write.contents c.write_due.new.writer) c.loop-number.text.items n c.in_err-write_due.ensures.err.1)

pub play_next-requires : goal.play_next-requires
play_next-requires g c = let n = c.loop-number.invariant c.requires.at.0 c.requires.at.1 in record { at = (n.stand, n.at) }

-- no line is left: what still waits is written
pub returns-in_err-write_text-in-Ok-false : goal.returns-in_err-write_text-in-Ok-false
returns-in_err-write_text-in-Ok-false g c stand are =
    let m = c.loop-number.invariant stand are in
    let n = goes_writing g.H.NodeHash.digest_of g.V.Vuf.value_of g.S.Signer.signature_of g.R.Rng.stream g.V.VufCheck.accepted g.S.Verifier.verified c.args.engine.now stand _ _ c.loop-number.number c.loop-number.engine
    _ _ (g.W.Write.contents c.write_due.new.writer) c.loop-number.text.items m c.write_due.new.text.items c.in_ok-write_due.ensures.ok in
    let none = rw c.in-Ok-false.field-0-test at (c.in-Ok-false.ensures n.stand n.at) in
    let passed : c.from_residual-in_err-write_text-in-Ok-false.result ≡ Err fault.CannotWrite = search rules in
    rw passed
    (next_unwritten g.H.NodeHash.digest_of g.V.Vuf.value_of g.S.Signer.signature_of g.R.Rng.stream g.V.VufCheck.accepted g.S.Verifier.verified c.args.engine.now stand _ _ c.loop-number.number c.loop-number.engine c.play_next.new.engine
    _ (g.I.Read.remaining c.play_next.new.reader) _ c.write_due.new.text.items c.play_next.new.text.items n (g.W.Write.contents c.write_text.new.writer) none.2 (rw (← c.deref.ensures.value) c.in_err-write_text-in-Ok-false.ensures.err.1))

pub returns-in-Ok-false : goal.returns-in-Ok-false
returns-in-Ok-false g c stand are =
    let m = c.loop-number.invariant stand are in
    let n = goes_writing g.H.NodeHash.digest_of g.V.Vuf.value_of g.S.Signer.signature_of g.R.Rng.stream g.V.VufCheck.accepted g.S.Verifier.verified c.args.engine.now stand _ _ c.loop-number.number c.loop-number.engine
    _ _ (g.W.Write.contents c.write_due.new.writer) c.loop-number.text.items m c.write_due.new.text.items c.in_ok-write_due.ensures.ok in
    next_none g.H.NodeHash.digest_of g.V.Vuf.value_of g.S.Signer.signature_of g.R.Rng.stream g.V.VufCheck.accepted g.S.Verifier.verified c.args.engine.now stand _ _ c.loop-number.number c.loop-number.engine c.play_next.new.engine
    _ (g.I.Read.remaining c.play_next.new.reader) _ c.write_due.new.text.items c.play_next.new.text.items n (g.W.Write.contents c.write_text.new.writer) (rw c.in-Ok-false.field-0-test at (c.in-Ok-false.ensures n.stand n.at)) (rw (← c.deref.ensures.value) c.in_ok-write_text-in-Ok-false.ensures.ok)

-- a line was not played: what waits is written
pub returns-in_err-write_text-in-Err : goal.returns-in_err-write_text-in-Err
returns-in_err-write_text-in-Err g c stand are =
    let m = c.loop-number.invariant stand are in
    let n = goes_writing g.H.NodeHash.digest_of g.V.Vuf.value_of g.S.Signer.signature_of g.R.Rng.stream g.V.VufCheck.accepted g.S.Verifier.verified c.args.engine.now stand _ _ c.loop-number.number c.loop-number.engine
    _ _ (g.W.Write.contents c.write_due.new.writer) c.loop-number.text.items m c.write_due.new.text.items c.in_ok-write_due.ensures.ok in
    let stops = c.in-Err.ensures n.stand n.at in
    let passed : c.from_residual-in_err-write_text-in-Err.result ≡ Err fault.CannotWrite = search rules in
    rw passed
    (next_unwritten g.H.NodeHash.digest_of g.V.Vuf.value_of g.S.Signer.signature_of g.R.Rng.stream g.V.VufCheck.accepted g.S.Verifier.verified c.args.engine.now stand _ _ c.loop-number.number c.loop-number.engine c.play_next.new.engine
    _ (g.I.Read.remaining c.play_next.new.reader) _ c.write_due.new.text.items c.play_next.new.text.items n (g.W.Write.contents c.write_text-in-Err.new.writer) stops.0 (rw (← c.deref-in-Err.ensures.value) c.in_err-write_text-in-Err.ensures.err.1))

pub returns-in-Err : goal.returns-in-Err
returns-in-Err g c stand are =
    let m = c.loop-number.invariant stand are in
    let n = goes_writing g.H.NodeHash.digest_of g.V.Vuf.value_of g.S.Signer.signature_of g.R.Rng.stream g.V.VufCheck.accepted g.S.Verifier.verified c.args.engine.now stand _ _ c.loop-number.number c.loop-number.engine
    _ _ (g.W.Write.contents c.write_due.new.writer) c.loop-number.text.items m c.write_due.new.text.items c.in_ok-write_due.ensures.ok in
    next_stops g.H.NodeHash.digest_of g.V.Vuf.value_of g.S.Signer.signature_of g.R.Rng.stream g.V.VufCheck.accepted g.S.Verifier.verified c.args.engine.now stand _ _ c.loop-number.number c.loop-number.engine c.play_next.new.engine
    _ (g.I.Read.remaining c.play_next.new.reader) _ c.write_due.new.text.items c.play_next.new.text.items n (g.W.Write.contents c.write_text-in-Err.new.writer) c.in-Err.why (c.in-Err.ensures n.stand n.at) (rw (← c.deref-in-Err.ensures.value) c.in_ok-write_text-in-Err.ensures.ok)

-- it was played, and its text waits
pub loop-number-preserved : goal.loop-number-preserved
loop-number-preserved g c stand are =
    let m = c.loop-number.invariant stand are in
    let n = goes_writing g.H.NodeHash.digest_of g.V.Vuf.value_of g.S.Signer.signature_of g.R.Rng.stream g.V.VufCheck.accepted g.S.Verifier.verified c.args.engine.now stand _ _ c.loop-number.number c.loop-number.engine
    _ _ (g.W.Write.contents c.write_due.new.writer) c.loop-number.text.items m c.write_due.new.text.items c.in_ok-write_due.ensures.ok in
    next_played g.H.NodeHash.digest_of g.V.Vuf.value_of g.S.Signer.signature_of g.R.Rng.stream g.V.VufCheck.accepted g.S.Verifier.verified c.args.engine.now stand _ _ c.loop-number.number c.loop-number.engine c.play_next.new.engine
    _ (g.I.Read.remaining c.play_next.new.reader) _ c.write_due.new.text.items c.play_next.new.text.items n (rw c.in-Ok-true.field-0-test at (c.in-Ok-true.ensures n.stand n.at))

pub returns : goal.returns
returns g c stand are =
    let n = c.loop-number.invariant stand are in
    let index = index_of (provider g.H.NodeHash.digest_of g.V.Vuf.value_of g.S.Signer.signature_of c.args.engine.now.hub.service.directory) in
    cannot_read index stand _ _ _ _ _ _ _ n.so
