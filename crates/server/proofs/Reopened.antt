-- What a file turns into when its journal is opened.
use Rattle.std.proofs.Common.{◌≡◌, ℕ, ◌+◌, ◌-◌, List, Option, None, Some, length, take, refl, sym, ap, subst, ◌∙◌, inl, inr, arith}
use Rattle.std.specs.Prelude.{IfSome}
use Rattle.std.specs.Io.KnownBytes.{Keeps}
use Rattle.rand_chacha.specs.ChaCha.{ChaCha}
use Rattle.book.specs.Salts.{chacha_salts}
use Rattle.epochs.specs.DirectoryStates.{book, DirectoryState}
use Rattle.journal.specs.declared.opening.Opened.{Opened}
use Rattle.journal.specs.declared.opening.Opened.TheVariants.{Nothing, Directory}
use Rattle.journal.specs.declared.open_refusal.Refusal.{Refusal}
use Rattle.journal.specs.declared.open_refusal.Refusal.TheVariants as refusal
use Rattle.journal.specs.Counting.{Counts}
use Rattle.journal.specs.Opened.{IsOpenRefusal, Opens}
use Rattle.journal.specs.Openings.{HasOtherKeys, IsCut, OpensTo}
use Rattle.journal.specs.Records.{start_bytes, IsStart}
use Rattle.textio.specs.declared.program_fault.ProgramFault.{ProgramFault}
use Rattle.textio.specs.declared.program_fault.ProgramFault.TheVariants.{BadHex, BadItem, IndexRepeated, NotACommand, NotEvidence, BadRecord, OtherKeys, CannotRead, CannotWrite, CannotListen, OutOfMemory}
use Rattle.server.specs.Directories.{DirectoryKeys}
use Rattle.server.specs.Reopening.{at_stream, beginning_with, index_by, of_refusal, Cuts, FileBecomes, FileHolds, HasRead, HasReopened, HasStarted, IsUnopened, StartsLess, StaysAt}

pub unopened : (keys : DirectoryKeys) (known : Option (List ℕ)) (bytes counted opened : List ℕ) (count : ℕ) (why : Refusal) (fault : ProgramFault) → fault ≡ of_refusal why → FileHolds known bytes → counted ≡ bytes → Counts counted count
    → opened ≡ bytes → IsOpenRefusal (index_by keys) keys.signing_key keys.vuf_key (chacha_salts (at_stream keys.salt_key count)) opened why → IsUnopened keys known fault
unopened keys known bytes counted opened count refusal.BadRecord fault is holds same counts also bad = rw is (
  bytes,
  holds,
  (
    count,
    subst (λ (t : List ℕ). Counts t count) same counts,
    subst (λ (t : List ℕ). IsOpenRefusal (index_by keys) keys.signing_key keys.vuf_key (chacha_salts (at_stream keys.salt_key count)) t refusal.BadRecord) also bad,
  ),
)
unopened keys known bytes counted opened count refusal.OtherKeys fault is holds same counts also other =
    rw is (bytes, holds, subst (λ (t : List ℕ). HasOtherKeys keys.signing_key keys.vuf_key t) also other)
unopened keys known bytes counted opened count refusal.Memory fault is holds same counts also begun = rw is tt

pub has_read : {H V S : Type 0} (keys : DirectoryKeys) (known : Option (List ℕ)) (bytes counted opened : List ℕ) (what : Opened H V S ChaCha) (records size : ℕ) → FileHolds known bytes → length bytes ≡ size → counted ≡ bytes → Counts counted records
    → opened ≡ bytes → Opens (index_by keys) keys.signing_key keys.vuf_key (chacha_salts (at_stream keys.salt_key records)) chacha_salts opened what → HasRead keys known what records size
has_read keys known bytes counted opened what records size holds is same counts also opens = (
  bytes,
  holds,
  is,
  subst (λ (t : List ℕ). Counts t records) same counts,
  subst (λ (t : List ℕ). Opens (index_by keys) keys.signing_key keys.vuf_key (chacha_salts (at_stream keys.salt_key records)) chacha_salts t what) also opens,
)

started : (known between after : Option (List ℕ)) (bytes start : List ℕ) → FileHolds known bytes → Keeps known between → IfSome between (λ all. after ≡ Some start) → FileBecomes known bytes after start
started None between after bytes start holds keeps is = tt
started (Some xs) None after bytes start holds keeps is = absurd keeps
started (Some xs) (Some ys) after bytes start holds keeps is = (holds, is)

pub starts_anew : {H V S : Type 0} (keys : DirectoryKeys) (known between after : Option (List ℕ)) (what : Opened H V S ChaCha) (directory : DirectoryState ChaCha) (records size : ℕ) → HasRead keys known what records size → what ≡ Nothing → Keeps known between
    → HasStarted keys between directory after → HasReopened keys known directory after 0 size
starts_anew keys known between after what directory records size (bytes, holds, is, counts, opens) nothing keeps (begins, start) =
    let short : IsCut start_bytes IsStart bytes = subst (λ o. Opens (index_by keys) keys.signing_key keys.vuf_key (chacha_salts (at_stream keys.salt_key records)) chacha_salts bytes o) nothing opens in
    (bytes, start_bytes (beginning_with keys), started known between after bytes (start_bytes (beginning_with keys)) holds keeps start, inl (short, begins, refl, refl, sym is))

turned : (known between after : Option (List ℕ)) (bytes : List ℕ) (size : ℕ) → FileHolds known bytes → Keeps known between → Cuts between size after → FileBecomes known bytes after (take size bytes)
turned None between after bytes size holds keeps cuts = tt
turned (Some xs) None after bytes size holds keeps cuts = absurd keeps
turned (Some xs) (Some ys) after bytes size holds keeps cuts = (holds, cuts ∙ ap (λ (zs : List ℕ). Some (take size zs)) (keeps ∙ sym holds))

abbrev pub IsOpen : DirectoryKeys → ℕ → DirectoryState ChaCha → ℕ → List ℕ → Type 0
IsOpen keys records directory taken bytes = OpensTo (index_by keys) keys.signing_key keys.vuf_key (chacha_salts (at_stream keys.salt_key records)) bytes (book chacha_salts directory) taken
    × (directory.signing_key ≡ keys.signing_key) × (directory.vuf_key ≡ keys.vuf_key)

reopens : (keys : DirectoryKeys) (known between after : Option (List ℕ)) (bytes : List ℕ) (directory : DirectoryState ChaCha) (records taken size cut : ℕ) → FileHolds known bytes → length bytes ≡ size → Counts bytes records → Keeps known between
    → Cuts between taken after → cut ≡ size - taken → IsOpen keys records directory taken bytes → HasReopened keys known directory after records cut
reopens keys known between after bytes directory records taken size cut holds is counts keeps cuts off ((rest, reaches, short, long), key, vuf_key) =
    let left : length bytes ≡ taken + cut = omega (arith, is, long, off) in
    (bytes, take taken bytes, turned known between after bytes taken holds keeps cuts, inr (taken, counts, (rest, reaches, short, long), key, vuf_key, refl, left))

pub goes_on : {H V S : Type 0} (keys : DirectoryKeys) (known between after : Option (List ℕ)) (what : Opened H V S ChaCha) (directory : DirectoryState ChaCha) (records taken size cut : ℕ) → HasRead keys known what records size → what ≡ Directory directory taken
    → Keeps known between → Cuts between taken after → cut ≡ size - taken → HasReopened keys known directory after records cut
goes_on keys known between after what directory records taken size cut (bytes, holds, is, counts, opens) same keeps cuts off =
    reopens keys known between after bytes directory records taken size cut holds is counts keeps cuts off
    (subst (λ o. Opens (index_by keys) keys.signing_key keys.vuf_key (chacha_salts (at_stream keys.salt_key records)) chacha_salts bytes o) same opens)

-- ---- what a file holds after a fault

kept_still : (known between after : Option (List ℕ)) → Keeps known between → Keeps between after → Keeps known after
kept_still None between after first then = tt
kept_still (Some xs) None after first then = absurd first
kept_still (Some xs) (Some ys) None first then = absurd then
kept_still (Some xs) (Some ys) (Some zs) first then = then ∙ first

-- its bytes were not cut
pub uncut : (keys : DirectoryKeys) (fault : ProgramFault) (known between after : Option (List ℕ)) → fault ≡ CannotWrite → Keeps known between → Keeps between after → StaysAt keys fault known after
uncut keys fault known between after is keeps keeps' = rw is (inl (kept_still known between after keeps keeps'))

-- the bytes had nothing to take, and a new directory's start was not written
pub unstarted : {H V S : Type 0} (keys : DirectoryKeys) (fault : ProgramFault) (known between after : Option (List ℕ)) (what : Opened H V S ChaCha) (records size : ℕ) → HasRead keys known what records size → what ≡ Nothing → Keeps known between
    → StartsLess keys fault between after → StaysAt keys fault known after
unstarted keys CannotWrite None between after what records size read nothing keeps less = inl tt
unstarted keys CannotWrite (Some xs) None after what records size read nothing keeps less = absurd keeps
unstarted keys CannotWrite (Some xs) (Some ys) after what records size (bytes, holds, is, counts, opens) nothing keeps less = elim less [
  | inl still ↦ inl (kept_still (Some xs) (Some ys) after keeps still)
  | inr left ↦ (
      let short : IsCut start_bytes IsStart bytes = subst (λ o. Opens (index_by keys) keys.signing_key keys.vuf_key (chacha_salts (at_stream keys.salt_key records)) chacha_salts bytes o) nothing opens in
      inr (subst (λ (b : List ℕ). IsCut start_bytes IsStart b) holds short, left))
]
unstarted keys BadHex known between after what records size read nothing keeps less = absurd less
unstarted keys (BadItem line) known between after what records size read nothing keeps less = absurd less
unstarted keys (IndexRepeated line) known between after what records size read nothing keeps less = absurd less
unstarted keys (NotACommand line) known between after what records size read nothing keeps less = absurd less
unstarted keys NotEvidence known between after what records size read nothing keeps less = absurd less
unstarted keys BadRecord known between after what records size read nothing keeps less = absurd less
unstarted keys OtherKeys known between after what records size read nothing keeps less = absurd less
unstarted keys CannotRead known between after what records size read nothing keeps less = absurd less
unstarted keys CannotListen known between after what records size read nothing keeps less = absurd less
unstarted keys OutOfMemory known between after what records size read nothing keeps less = kept_still known between after keeps less
