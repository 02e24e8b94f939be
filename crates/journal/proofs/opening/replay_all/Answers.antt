use Rattle.std.proofs.Common.{rules, ◌≡◌, length, length-append, ℕ, List, inl, sym, ap, subst, ◌∙◌, arith, Ok, Err, Some}
use Rattle.book.specs.Shows.{index_of}
use Rattle.book.specs.Replays.{replayed}
use Rattle.epochs.specs.DirectoryStates.{book, provider}
use Rattle.encoding.specs.declared.fault.Fault.TheVariants.{Trailing, OutOfRange}
use Rattle.journal.specs.Opened.{IsNotReplayed}
use Rattle.journal.specs.Records.{later_seen, read_later, record_bytes}
use Rattle.journal.proofs.Counted.{later_is}
use Rattle.journal.proofs.Replaying.{later_cut, later_none, leads_here, nothing_cut, replaying_on, same_index, stopped}
use Rattle.journal.proofs.opening.replay_all.Goals as goal

pub returns-in-Err-Short-clause-replays : goal.returns-in-Err-Short-clause-replays
returns-in-Err-Short-clause-replays g c = (
  leads_here _ c.loop.invariant.0,
  later_cut c.loop.cursor c.copied-ahead.ensures.bytes (ap read_later (sym c.copied-ahead.ensures.value) ∙ c.in-Err-Short.ensures ∙ ap (λ fault. Err fault) c.in-Err-Short.field-0-is),
  c.loop.invariant.0.read,
)

pub replay_later-requires : goal.replay_later-requires
replay_later-requires g c = (later_is c.loop.cursor (Ok c.in-Ok.what) c.read_later.new.cursor c.copied-ahead.ensures.bytes (ap read_later (sym c.copied-ahead.ensures.value) ∙ c.in-Ok.ensures)).1

pub later_size-taken-requires : goal.later_size-taken-requires
later_size-taken-requires g c = (later_is c.loop.cursor (Ok c.in-Ok.what) c.read_later.new.cursor c.copied-ahead.ensures.bytes (ap read_later (sym c.copied-ahead.ensures.value) ∙ c.in-Ok.ensures)).1

pub overflow_add-taken : goal.overflow_add-taken
overflow_add-taken g c =
    let read = later_is c.loop.cursor (Ok c.in-Ok.what) c.read_later.new.cursor c.copied-ahead.ensures.bytes (ap read_later (sym c.copied-ahead.ensures.value) ∙ c.in-Ok.ensures) in
    omega (arith, c.loop.invariant.0.read, c.requires, c.ranges.most.fits, c.later_size-taken.ensures, ap length read.0, length-append (record_bytes (later_seen c.in-Ok.what)) c.read_later.new.cursor)

pub loop-preserved : goal.loop-preserved
loop-preserved g c =
    let read = later_is c.loop.cursor (Ok c.in-Ok.what) c.read_later.new.cursor c.copied-ahead.ensures.bytes (ap read_later (sym c.copied-ahead.ensures.value) ∙ c.in-Ok.ensures) in
    let by = index_of (provider g.H.NodeHash.digest_of g.V.Vuf.value_of g.S.Signer.signature_of c.args.directory.now) in
    let one = subst (λ (index : List ℕ → List ℕ). replayed index (book g.R.Rng.stream c.loop.directory) (later_seen c.in-Ok.what) ≡ Some (book g.R.Rng.stream c.replay_later.new.directory))
    (same_index g.H.NodeHash.digest_of g.V.Vuf.value_of g.S.Signer.signature_of c.args.directory.now c.loop.directory c.loop.invariant.1)
    c.in_ok-replay_later.ensures.replays in
    let on = replaying_on by c.loop.invariant.0 (later_seen c.in-Ok.what) c.read_later.new.cursor (book g.R.Rng.stream c.replay_later.new.directory) read one in
    (rw c.later_size-taken.ensures on, (c.in_ok-replay_later.ensures.keys.0 ∙ c.loop.invariant.1.0, c.in_ok-replay_later.ensures.keys.1 ∙ c.loop.invariant.1.1))

pub returns-in-Err-Trailing : goal.returns-in-Err-Trailing
returns-in-Err-Trailing g c =
    record {
      replays = (
        leads_here _ c.loop.invariant.0,
        inl (later_none c.loop.cursor Trailing c.copied-ahead.ensures.bytes (λ same. absurd cc) (ap read_later (sym c.copied-ahead.ensures.value) ∙ c.in-Err-Trailing.ensures ∙ ap (λ fault. Err fault) c.in-Err-Trailing.field-0-is)),
      );
      keys = c.loop.invariant.1;
    }

pub returns-in-Err-OutOfRange : goal.returns-in-Err-OutOfRange
returns-in-Err-OutOfRange g c =
    record {
      replays = (
        leads_here _ c.loop.invariant.0,
        inl (later_none c.loop.cursor OutOfRange c.copied-ahead.ensures.bytes (λ same. absurd cc) (ap read_later (sym c.copied-ahead.ensures.value) ∙ c.in-Err-OutOfRange.ensures ∙ ap (λ fault. Err fault) c.in-Err-OutOfRange.field-0-is)),
      );
      keys = c.loop.invariant.1;
    }

pub returns-in_err-replay_later-clause-replays : goal.returns-in_err-replay_later-clause-replays
returns-in_err-replay_later-clause-replays g c =
    let passed : c.from_residual.result ≡ Err c.in_err-replay_later.field-0.0 = search rules in
    let read = later_is c.loop.cursor (Ok c.in-Ok.what) c.read_later.new.cursor c.copied-ahead.ensures.bytes (ap read_later (sym c.copied-ahead.ensures.value) ∙ c.in-Ok.ensures) in
    let by = index_of (provider g.H.NodeHash.digest_of g.V.Vuf.value_of g.S.Signer.signature_of c.args.directory.now) in
    let one = subst (λ (index : List ℕ → List ℕ). (book g.R.Rng.stream c.replay_later.new.directory ≡ book g.R.Rng.stream c.loop.directory)
    × IsNotReplayed index (book g.R.Rng.stream c.loop.directory) (later_seen c.in-Ok.what) c.in_err-replay_later.field-0.0)
    (same_index g.H.NodeHash.digest_of g.V.Vuf.value_of g.S.Signer.signature_of c.args.directory.now c.loop.directory c.loop.invariant.1)
    c.in_err-replay_later.ensures.replays in
    rw passed (stopped by c.loop.invariant.0 (later_seen c.in-Ok.what) c.read_later.new.cursor (book g.R.Rng.stream c.replay_later.new.directory) c.in_err-replay_later.field-0.0 read one)

pub returns-clause-replays : goal.returns-clause-replays
returns-clause-replays g c = (leads_here _ c.loop.invariant.0, nothing_cut c.loop.cursor (omega (arith, c.loop.invariant.0.within, c.loop-test.false)), c.loop.invariant.0.read)
