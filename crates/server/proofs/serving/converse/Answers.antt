use Rattle.std.proofs.Common.{rules, ◌≡◌, ◌≤◌, [], ℕ, List, length, take, Err, subst}
use Rattle.std.specs.Io.KnownBytes.{Consumes}
use Rattle.server.specs.declared.serve_fault.ServeFault.TheVariants.{CannotRead}
use Rattle.textio.specs.declared.some_bytes.TheConstants.{PIECE_SIZE}
use Rattle.server.proofs.Conversing.{begun, ended, faulted, gone_on, unread}
use Rattle.server.proofs.serving.converse.Goals as goal

pub loop-init : goal.loop-init
loop-init g c = begun g.S.Service.answers c.args.session c.args.hub.now _ _ c.requires

pub returns-in_err-count-clause-serves : goal.returns-in_err-count-clause-serves
returns-in_err-count-clause-serves g c =
    let passed : c.from_residual.result ≡ Err CannotRead = search rules in
    rw passed (unread g.S.Service.answers c.args.hub.now.sessions c.args.session c.args.hub.now.service _ _ c.loop.hub _ _ c.loop.invariant _ c.in_err-count.ensures.err.1)

pub returns-then-count-eq0-clause-serves : goal.returns-then-count-eq0-clause-serves
returns-then-count-eq0-clause-serves g c =
    let none : take c.in_ok-count.count c.read_some.new.room ≡ [] = search rules in
    ended g.S.Service.answers c.args.hub.now.sessions c.args.session c.args.hub.now.service _ _ c.loop.hub _ _ c.loop.invariant _
    (subst (λ (t : List ℕ). Consumes (g.R.Read.remaining c.loop.reader) (g.R.Read.remaining c.read_some.new.reader) t) none c.in_ok-count.ensures.ok) (search rules)

pub returns-in_err-answer_piece-clause-keeps : goal.returns-in_err-answer_piece-clause-keeps
returns-in_err-answer_piece-clause-keeps g c =
    let few : length (take c.in_ok-count.count c.read_some.new.room) ≤ PIECE_SIZE = search rules in
    (faulted g.S.Service.answers c.args.hub.now.sessions c.args.session c.args.hub.now.service _ _ c.loop.hub _ _ _ _ c.in_ok-count.ensures.ok c.answer_piece.new.hub _ c.loop.invariant few c.in_err-answer_piece.field-0.0 c.in_err-answer_piece.ensures).1

pub returns-in_err-answer_piece-clause-serves : goal.returns-in_err-answer_piece-clause-serves
returns-in_err-answer_piece-clause-serves g c =
    let few : length (take c.in_ok-count.count c.read_some.new.room) ≤ PIECE_SIZE = search rules in
    let passed : c.from_residual-in_err-answer_piece.result ≡ Err c.in_err-answer_piece.field-0.0 = search rules in
    rw passed (faulted g.S.Service.answers c.args.hub.now.sessions c.args.session c.args.hub.now.service _ _ c.loop.hub _ _ _ _ c.in_ok-count.ensures.ok c.answer_piece.new.hub _ c.loop.invariant few c.in_err-answer_piece.field-0.0 c.in_err-answer_piece.ensures).0

pub loop-preserved : goal.loop-preserved
loop-preserved g c =
    gone_on g.S.Service.answers c.args.hub.now.sessions c.args.session c.args.hub.now.service _ _ c.loop.hub _ _ _ _ c.in_ok-count.ensures.ok c.answer_piece.new.hub _ c.loop.invariant c.in_ok-answer_piece.ensures

pub returns-clause-serves : goal.returns-clause-serves
returns-clause-serves g c =
    unread g.S.Service.answers c.args.hub.now.sessions c.args.session c.args.hub.now.service _ _ c.loop.hub _ _ c.loop.invariant _ (search rules)
