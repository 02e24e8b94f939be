use Rattle.std.proofs.Common.{rules, ◌≡◌, ◌<◌, ◌^◌, length, ℕ, List, inl, sym, ap, subst, ◌∙◌, arith, Ok, Err}
use Rattle.encoding.specs.declared.fault.Fault.TheVariants.{Trailing, OutOfRange}
use Rattle.book.specs.Books.{Book}
use Rattle.book.specs.Shows.{index_of, keyed_provider}
use Rattle.epochs.specs.DirectoryStates.{book}
use Rattle.journal.specs.Opened.{OpensUpTo}
use Rattle.journal.specs.Records.{read_start}
use Rattle.journal.proofs.Counted.{start_is}
use Rattle.journal.proofs.Replaying.{begun_index, not_begun, not_replayed, opened, start_cut, start_none, start_size}
use Rattle.journal.proofs.opening.open.Goals as goal

pub returns-in-Err-Short : goal.returns-in-Err-Short
returns-in-Err-Short g c = record { opens = start_cut c.args.bytes.now (search rules) (ap read_start (sym c.new-cursor.ensures) ∙ c.in-Err-Short.ensures ∙ ap (λ fault. Err fault) c.in-Err-Short.field-0-is) }

pub returns-in-Err-Trailing : goal.returns-in-Err-Trailing
returns-in-Err-Trailing g c =
    record { opens = inl (start_none c.args.bytes.now Trailing (search rules) (λ same. absurd cc) (ap read_start (sym c.new-cursor.ensures) ∙ c.in-Err-Trailing.ensures ∙ ap (λ fault. Err fault) c.in-Err-Trailing.field-0-is)) }

pub returns-in-Err-OutOfRange : goal.returns-in-Err-OutOfRange
returns-in-Err-OutOfRange g c =
    record { opens = inl (start_none c.args.bytes.now OutOfRange (search rules) (λ same. absurd cc) (ap read_start (sym c.new-cursor.ensures) ∙ c.in-Err-OutOfRange.ensures ∙ ap (λ fault. Err fault) c.in-Err-OutOfRange.field-0-is)) }

pub returns-in_err-directory : goal.returns-in_err-directory
returns-in_err-directory g c =
    let read = start_is c.args.bytes.now (Ok c.in-Ok.beginning) c.read_start.new.cursor (search rules) (ap read_start (sym c.new-cursor.ensures) ∙ c.in-Ok.ensures) in
    let passed : c.from_residual.result ≡ Err c.in_err-directory.field-0.0 = search rules in
    rw passed (record {
      opens = not_begun (index_of (keyed_provider g.H.NodeHash.digest_of g.V.Vuf.value_of (g.V.Vuf.public_key c.args.vuf) g.S.Signer.signature_of (g.S.Signer.public_key c.args.signer)))
          (g.S.Signer.public_key c.args.signer) (g.V.Vuf.public_key c.args.vuf) (g.R.Rng.stream c.args.salts) c.in-Ok.beginning c.read_start.new.cursor read.0 read.1
          c.in_err-directory.field-0.0 c.in_err-directory.ensures.begins;
    })

pub replay_all-requires : goal.replay_all-requires
replay_all-requires g c =
    let read = start_is c.args.bytes.now (Ok c.in-Ok.beginning) c.read_start.new.cursor (search rules) (ap read_start (sym c.new-cursor.ensures) ∙ c.in-Ok.ensures) in
    omega (arith, ap length read.0, start_size c.in-Ok.beginning c.read_start.new.cursor read.1)

pub returns-in_err-taken : goal.returns-in_err-taken
returns-in_err-taken g c =
    let read = start_is c.args.bytes.now (Ok c.in-Ok.beginning) c.read_start.new.cursor (search rules) (ap read_start (sym c.new-cursor.ensures) ∙ c.in-Ok.ensures) in
    let begun = c.in_ok-directory.ensures.begins in
    let index = begun_index g.H.NodeHash.digest_of g.V.Vuf.value_of g.S.Signer.signature_of (g.V.Vuf.public_key c.args.vuf) (g.S.Signer.public_key c.args.signer) c.in_ok-directory.directory begun.2 begun.3 in
    let by = index_of (keyed_provider g.H.NodeHash.digest_of g.V.Vuf.value_of (g.V.Vuf.public_key c.args.vuf) g.S.Signer.signature_of (g.S.Signer.public_key c.args.signer)) in
    let Stops : (List ℕ → List ℕ) → Book → Type 0 = λ index first. OpensUpTo index first c.read_start.new.cursor (Err c.in_err-taken.field-0.0) (book g.R.Rng.stream c.replay_all.new.directory) c.replay_all.new.cursor in
    let stops = subst (λ first. Stops by first) begun.1 (subst (λ i. Stops i (book g.R.Rng.stream c.in_ok-directory.directory)) index c.in_err-taken.ensures.replays) in
    let passed : c.from_residual-in_err-taken.result ≡ Err c.in_err-taken.field-0.0 = search rules in
    rw passed (record {
      opens = not_replayed by (g.S.Signer.public_key c.args.signer) (g.V.Vuf.public_key c.args.vuf) (g.R.Rng.stream c.args.salts) c.in-Ok.beginning c.read_start.new.cursor read.0 read.1 begun.0
          c.in_err-taken.field-0.0 (book g.R.Rng.stream c.replay_all.new.directory) c.replay_all.new.cursor stops;
    })

pub overflow_add-result : goal.overflow_add-result
overflow_add-result g c =
    let read = start_is c.args.bytes.now (Ok c.in-Ok.beginning) c.read_start.new.cursor (search rules) (ap read_start (sym c.new-cursor.ensures) ∙ c.in-Ok.ensures) in
    let small : length c.args.bytes.now < 2 ^ 64 = search rules in
    omega (arith, small, ap length read.0, start_size c.in-Ok.beginning c.read_start.new.cursor read.1, c.in_ok-taken.ensures.replays.2)

pub returns : goal.returns
returns g c =
    let read = start_is c.args.bytes.now (Ok c.in-Ok.beginning) c.read_start.new.cursor (search rules) (ap read_start (sym c.new-cursor.ensures) ∙ c.in-Ok.ensures) in
    let begun = c.in_ok-directory.ensures.begins in
    let index = begun_index g.H.NodeHash.digest_of g.V.Vuf.value_of g.S.Signer.signature_of (g.V.Vuf.public_key c.args.vuf) (g.S.Signer.public_key c.args.signer) c.in_ok-directory.directory begun.2 begun.3 in
    let by = index_of (keyed_provider g.H.NodeHash.digest_of g.V.Vuf.value_of (g.V.Vuf.public_key c.args.vuf) g.S.Signer.signature_of (g.S.Signer.public_key c.args.signer)) in
    let Stops : (List ℕ → List ℕ) → Book → Type 0 = λ index first. OpensUpTo index first c.read_start.new.cursor (Ok c.in_ok-taken.taken) (book g.R.Rng.stream c.replay_all.new.directory) c.replay_all.new.cursor in
    let stops = subst (λ first. Stops by first) begun.1 (subst (λ i. Stops i (book g.R.Rng.stream c.in_ok-directory.directory)) index c.in_ok-taken.ensures.replays) in
    record {
      opens = (
        opened by (g.S.Signer.public_key c.args.signer) (g.V.Vuf.public_key c.args.vuf) (g.R.Rng.stream c.args.salts) c.in-Ok.beginning c.read_start.new.cursor read.0 read.1 begun.0
            c.in_ok-taken.taken (book g.R.Rng.stream c.replay_all.new.directory) c.replay_all.new.cursor stops,
        c.in_ok-taken.ensures.keys.1 ∙ begun.3,
        c.in_ok-taken.ensures.keys.0 ∙ begun.2,
      );
    }
