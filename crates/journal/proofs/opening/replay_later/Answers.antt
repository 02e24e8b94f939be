use Rattle.std.proofs.Common.{◌≡◌, ℕ, List, MatchResult, Result, Some, subst}
use Rattle.book.specs.Books.{Book}
use Rattle.book.specs.Replays.{replayed}
use Rattle.book.specs.Shows.{index_of}
use Rattle.book.specs.declared.record.Record.{Record}
use Rattle.epochs.specs.DirectoryStates.{book, provider}
use Rattle.journal.specs.declared.open_refusal.Refusal.{Refusal}
use Rattle.journal.specs.Opened.{IsNotReplayed}
use Rattle.journal.proofs.Replaying.{same_index}
use Rattle.journal.proofs.opening.replay_later.Goals as goal

-- the record is carried out on a book, or refused
abbrev comes_of : (List ℕ → List ℕ) → Book → Record → Book → Result (Unit {0}) Refusal → Type 0
comes_of by before what after result = MatchResult result (λ _. replayed by before what ≡ Some after) (λ why. (after ≡ before) × IsNotReplayed by before what why)

pub returns-clause-replays : goal.returns-clause-replays
returns-clause-replays g c =
    let the_book = book {R = g.row.R.Denot} g.R.Rng.stream in
    let index = index_of (provider {R = g.row.R.Denot} g.H.NodeHash.digest_of g.V.Vuf.value_of g.S.Signer.signature_of c.args.directory.now) in
    let after = the_book c.replay.new.directory in
    let same = same_index g.H.NodeHash.digest_of g.V.Vuf.value_of g.S.Signer.signature_of c.args.directory.now c.prepare.new.directory c.prepare.ensures.keys in
    subst (λ (what : Record). comes_of index (the_book c.args.directory.now) what after c.replay.result) c.later_record.ensures
    (subst (λ (before : Book). comes_of index before c.later_record.result after c.replay.result) c.prepare.ensures.stays
    (subst (λ (by : List ℕ → List ℕ). comes_of by (the_book c.prepare.new.directory) c.later_record.result after c.replay.result) same c.replay.ensures.replays))
