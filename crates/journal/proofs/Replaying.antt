-- Records that are carried out one after another.
use Rattle.std.proofs.Common.{◌≡◌, ◌≢◌, inl, inr, ℕ, ◌+◌, ◌≤◌, List, [], ◌∷◌, ◌++◌, length, length-append, append_assoc, Some, None, Ok, Err, IsSome, refl, sym, ap, subst, ◌∙◌, arith, lit≤}
use Rattle.encoding.specs.Bytes.{IsBytes}
use Rattle.encoding.specs.declared.fault.Fault.{Fault}
use Rattle.encoding.specs.declared.fault.Fault.TheVariants.{Short}
use Rattle.book.specs.declared.record.Record.{Record}
use Rattle.book.specs.declared.record.Record.TheVariants.{Turned}
use Rattle.book.specs.Books.{Book}
use Rattle.rand_core.specs.Stream.{Stream}
use Rattle.book.specs.Fresh.{fresh}
use Rattle.book.specs.Replays.{replayed}
use Rattle.book.specs.Shows.{index_of, keyed_provider}
use Rattle.epochs.specs.DirectoryStates.{DirectoryState, provider, HasKeysOf}
use Rattle.journal.specs.declared.open_refusal.Refusal.{Refusal}
use Rattle.journal.specs.declared.open_refusal.Refusal.TheVariants.{BadRecord, OtherKeys, Memory}
use Rattle.journal.specs.declared.beginning.Beginning.{Beginning}
use Rattle.journal.specs.Opened.{BeginsSo, IsNotBegun, IsNotReplayed, IsOpenRefusal, OpensUpTo}
use Rattle.journal.specs.Openings.{IsCut, IsNone, OpensTo, RecordsLead}
use Rattle.journal.specs.Records.{read_later, read_start, record_bytes, records_bytes, start_bytes, IsLater, IsStart}
use Rattle.journal.proofs.Counted.{longer}
use Rattle.journal.proofs.Cuts.{is_cut, is_none}
use Rattle.journal.proofs.Ended.{later_cuts, start_cuts}
use Rattle.journal.proofs.Spelled.{later_field, start_field}

pub later_cut : (bytes : List ℕ) → IsBytes bytes → read_later bytes ≡ Err Short → IsCut record_bytes IsLater bytes
later_cut = is_cut read_later record_bytes IsLater later_field later_cuts

pub later_none : (bytes : List ℕ) (fault : Fault) → IsBytes bytes → fault ≢ Short → read_later bytes ≡ Err fault → IsNone record_bytes IsLater bytes
later_none bytes fault small = is_none read_later record_bytes IsLater later_field later_cuts bytes fault

pub start_cut : (bytes : List ℕ) → IsBytes bytes → read_start bytes ≡ Err Short → IsCut start_bytes IsStart bytes
start_cut = is_cut read_start start_bytes IsStart start_field start_cuts

pub start_none : (bytes : List ℕ) (fault : Fault) → IsBytes bytes → fault ≢ Short → read_start bytes ≡ Err fault → IsNone start_bytes IsStart bytes
start_none bytes fault small = is_none read_start start_bytes IsStart start_field start_cuts bytes fault

-- no bytes are a record that was cut short
pub nothing_cut : (bytes : List ℕ) → length bytes ≤ 0 → IsCut record_bytes IsLater bytes
nothing_cut [] few = (Turned 0 None, record_bytes (Turned 0 None), refl, (λ none. absurd cc), lit≤ tt)
nothing_cut (byte ∷ bytes) few = absurd (omega (arith, few))

-- the provider of a directory whose keys have not changed is the same
pub same_index : {R : Type 0} (digest_of : List ℕ → List ℕ) (value_of signature_of : List ℕ → List ℕ → List ℕ) (before kept : DirectoryState R) → HasKeysOf before kept
    → index_of (provider digest_of value_of signature_of kept) ≡ index_of (provider digest_of value_of signature_of before)
same_index {R} digest_of value_of signature_of before kept keys =
    ap (λ (key : List ℕ). index_of (keyed_provider digest_of value_of key signature_of kept.signing_key)) keys.0
    ∙ ap (λ (key : List ℕ). index_of (keyed_provider digest_of value_of before.vuf_key signature_of key)) keys.1

module _ (by : List ℕ → List ℕ) where
  -- no record leads from a book to itself
  pub leads_nowhere : (before : Book) (bytes : List ℕ) → RecordsLead by before bytes before bytes
  leads_nowhere before bytes = ([], refl, tt, refl)

  -- one more record leads on
  pub leads_on : (before middle after : Book) (kept : Record) (bytes left rest : List ℕ) → bytes ≡ record_bytes kept ++ left → IsLater kept → replayed by before kept ≡ Some middle
      → RecordsLead by middle left after rest → RecordsLead by before bytes after rest
  leads_on before middle after kept bytes left rest is later one (records, e, all, more) = (
    kept ∷ records,
    is ∙ ap (λ (t : List ℕ). record_bytes kept ++ t) e ∙ sym (append_assoc (record_bytes kept) (records_bytes records) rest),
    (later, all),
    rw one more,
  )

  -- what leads from here leads from the first book
  pub record Replaying (whole : List ℕ) (first : Book) (most counter taken : ℕ) (rest : List ℕ) (book : Book) : Type 0 where
    pub within : length rest + counter ≤ most
    pub read : length whole ≡ taken + length rest
    pub on : (after : Book) (left : List ℕ) → RecordsLead by book rest after left → RecordsLead by first whole after left

  module _ {whole : List ℕ} {first : Book} {most counter taken : ℕ} {rest : List ℕ} {book : Book} (so : Replaying whole first most counter taken rest book) where
    -- what has been read leads to the book
    pub leads_here : RecordsLead by first whole book rest
    leads_here = so.on book rest (leads_nowhere book rest)

    -- a record that is not carried out stops what is replayed
    pub stopped : (kept : Record) (left : List ℕ) (after : Book) (why : Refusal) → (rest ≡ record_bytes kept ++ left) × IsLater kept
        → (after ≡ book) × IsNotReplayed by book kept why → OpensUpTo by first whole (Err why) after rest
    stopped kept left after BadRecord (is, later) (same, none) = (
      subst (λ (b : Book). RecordsLead by first whole b rest) (sym same) leads_here,
      inr (kept, left, is, later, subst (λ (b : Book). replayed by b kept ≡ None) (sym same) none),
    )
    stopped kept left after OtherKeys read (same, none) = none
    stopped kept left after Memory (is, later) (same, some) = (
      subst (λ (b : Book). RecordsLead by first whole b rest) (sym same) leads_here,
      (kept, left, is, later, subst (λ (b : Book). IsSome (replayed by b kept)) (sym same) some),
    )

    pub replaying_on : (kept : Record) (left : List ℕ) (after : Book) → (rest ≡ record_bytes kept ++ left) × IsLater kept → replayed by book kept ≡ Some after
        → Replaying whole first most (counter + 1) (taken + length (record_bytes kept)) left after
    replaying_on kept left after (is, later) one = record {
      within = omega (arith, so.within, longer kept left, ap length is);
      read = omega (arith, so.read, ap length is, length-append (record_bytes kept) left);
      on = λ last end leads. so.on last end (leads_on book after last kept rest left end is later one leads);
    }

-- ---- a journal as a whole

pub start_size : (beginning : Beginning) (rest : List ℕ) → IsStart beginning → length (start_bytes beginning ++ rest) ≡ 106 + length rest
start_size beginning rest h =
    let keys = length-append beginning.signing_key (beginning.vuf_key ++ rest) in
    let last = length-append beginning.vuf_key rest in
    rw (append_assoc beginning.nonce (beginning.signing_key ++ beginning.vuf_key) rest, append_assoc beginning.signing_key beginning.vuf_key rest)
    (omega (arith, length-append beginning.nonce (beginning.signing_key ++ (beginning.vuf_key ++ rest)), keys, last, h.1.0, h.2.0, h.3.0))

-- the provider of a directory that was begun with these keys
pub begun_index : {R : Type 0} (digest_of : List ℕ → List ℕ) (value_of signature_of : List ℕ → List ℕ → List ℕ) (vuf_key key : List ℕ) (kept : DirectoryState R)
    → kept.vuf_key ≡ vuf_key → kept.signing_key ≡ key → index_of (provider digest_of value_of signature_of kept) ≡ index_of (keyed_provider digest_of value_of vuf_key signature_of key)
begun_index digest_of value_of signature_of vuf_key key kept one two =
    ap (λ (k : List ℕ). index_of (keyed_provider digest_of value_of k signature_of kept.signing_key)) one
    ∙ ap (λ (k : List ℕ). index_of (keyed_provider digest_of value_of vuf_key signature_of k)) two

module _ (by : List ℕ → List ℕ) (signing_key vuf_key : List ℕ) (salts : Stream) (beginning : Beginning) {bytes : List ℕ} (rest : List ℕ) (is : bytes ≡ start_bytes beginning ++ rest) (start : IsStart beginning) where
  -- why a start does not begin a directory is why its bytes are not opened
  pub not_begun : (why : Refusal) → IsNotBegun signing_key vuf_key beginning why → IsOpenRefusal by signing_key vuf_key salts bytes why
  not_begun BadRecord h = inr (inl (beginning, rest, is, start, h))
  not_begun OtherKeys h = (beginning, rest, is, start, h.0, h.1)
  not_begun Memory h = (fresh beginning.epoch beginning.nonce salts, rest, (beginning, rest, is, start, h.0, h.1, leads_nowhere by (fresh beginning.epoch beginning.nonce salts) rest))

  module _ (so : BeginsSo signing_key vuf_key beginning) where
    -- what stops the replay is why the bytes are not opened
    pub not_replayed : (why : Refusal) (after : Book) (left : List ℕ) → OpensUpTo by (fresh beginning.epoch beginning.nonce salts) rest (Err why) after left
        → IsOpenRefusal by signing_key vuf_key salts bytes why
    not_replayed BadRecord after left h = inr (inr (after, left, (beginning, rest, is, start, so.0, so.1, h.0), h.1))
    not_replayed OtherKeys after left h = absurd h
    not_replayed Memory after left h = not_begun Memory so

    pub opened : (taken : ℕ) (after : Book) (left : List ℕ) → OpensUpTo by (fresh beginning.epoch beginning.nonce salts) rest (Ok taken) after left
        → OpensTo by signing_key vuf_key salts bytes after (106 + taken)
    opened taken after left h = (left, (beginning, rest, is, start, so.0, so.1, h.0), h.1, omega (arith, ap length is, start_size beginning rest start, h.2))
