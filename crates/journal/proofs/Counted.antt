-- Records at the front of bytes, one after another.
use Rattle.std.proofs.Common.{◌≡◌, ℕ, suc, ◌+◌, ◌≤◌, ◌<◌, List, [], ◌∷◌, ◌++◌, length, length-append, append_assoc, Some, None, refl, sym, ap, subst, ◌∙◌, arith}
use Rattle.encoding.specs.Bytes.{IsBytes}
use Rattle.encoding.specs.Fields.{Begins, Reads}
use Rattle.encoding.specs.Reading.{Gives}
use Rattle.encoding.specs.declared.fault.Fault.{Fault}
use Rattle.encoding.proofs.Fields.{gives-reads}
use Rattle.book.specs.declared.record.Record.{Record}
use Rattle.book.specs.declared.record.Record.TheVariants.{Start, Bound, Turned}
use Rattle.std.proofs.Common.{Result}
use Rattle.journal.specs.Counting.{HasLater}
use Rattle.journal.specs.Records.{later_seen, read_later, read_start, record_bytes, records_bytes, start_bytes, IsLater, IsStart}
use Rattle.journal.specs.declared.forms.Later.{Later}
use Rattle.journal.specs.declared.beginning.Beginning.{Beginning}
use Rattle.journal.proofs.Spelled.{later_field, start_field}

-- what the readers give is what they read
pub later_is : (bytes : List ℕ) (result : Result Later Fault) (rest : List ℕ) → IsBytes bytes → Gives later_seen result rest (read_later bytes)
    → Reads later_seen record_bytes IsLater bytes result rest
later_is bytes result rest small gives = gives-reads later_seen read_later record_bytes IsLater later_field bytes result rest small gives

pub start_is : (bytes : List ℕ) (result : Result Beginning Fault) (rest : List ℕ) → IsBytes bytes → Gives (λ beginning. beginning) result rest (read_start bytes)
    → Reads (λ beginning. beginning) start_bytes IsStart bytes result rest
start_is bytes result rest small gives = gives-reads (λ beginning. beginning) read_start start_bytes IsStart start_field bytes result rest small gives

-- a record has a byte
pub longer : (kept : Record) (rest : List ℕ) → length rest < length (record_bytes kept ++ rest)
longer (Start epoch nonce signing_key vuf_key) rest = rw (length-append (record_bytes (Start epoch nonce signing_key vuf_key)) rest) (omega arith)
longer (Bound verb salt name key) rest = rw (length-append (record_bytes (Bound verb salt name key)) rest) (omega arith)
longer (Turned epoch None) rest = rw (length-append (record_bytes (Turned epoch None)) rest) (omega arith)
longer (Turned epoch (Some nonce)) rest = rw (length-append (record_bytes (Turned epoch (Some nonce))) rest) (omega arith)

-- no record stands at the front
pub none_later : (bytes : List ℕ) → ¬ Begins record_bytes IsLater bytes → HasLater bytes 0
none_later bytes none = ([], bytes, refl, tt, refl, none)

-- no bytes are left
pub nothing_later : (bytes : List ℕ) → length bytes ≤ 0 → HasLater bytes 0
nothing_later [] few = none_later [] (λ begins. shorter begins.0 begins.1 begins.2)
  where
    shorter : (kept : Record) (rest : List ℕ) → [] ≡ record_bytes kept ++ rest → ⊥
    shorter kept rest e = omega (arith, longer kept rest, ap length e)
nothing_later (byte ∷ bytes) few = absurd (omega (arith, few))

-- one more stands before those of the rest
pub one_later : (bytes : List ℕ) (kept : Record) (rest : List ℕ) → bytes ≡ record_bytes kept ++ rest → IsLater kept → (n : ℕ) → HasLater rest n → HasLater bytes (suc n)
one_later bytes kept rest is later n (records, left, e, all, many, none) = (
  kept ∷ records,
  left,
  is ∙ ap (λ (more : List ℕ). record_bytes kept ++ more) e ∙ sym (append_assoc (record_bytes kept) (records_bytes records) left),
  (later, all),
  ap suc many,
  none,
)

-- what counts the rest counts the whole
pub record Counting (whole : List ℕ) (most counter : ℕ) (rest : List ℕ) (count : ℕ) : Type 0 where
  pub counted : count ≡ counter
  pub within : length rest + counter ≤ most
  pub ends : (n : ℕ) → HasLater rest n → HasLater whole (counter + n)

module _ {whole : List ℕ} {most counter : ℕ} {rest : List ℕ} {count : ℕ} (so : Counting whole most counter rest count) where
  -- one more is counted
  pub counting_on : (kept : Record) (left : List ℕ) → (rest ≡ record_bytes kept ++ left) × IsLater kept → Counting whole most (counter + 1) left (count + 1)
  counting_on kept left (is, later) = record {
    counted = ap (λ (n : ℕ). n + 1) so.counted;
    within = omega (arith, so.within, longer kept left, ap length is);
    ends = λ n has. subst (HasLater whole) (omega arith) (so.ends (suc n) (one_later rest kept left is later n has));
  }

  -- no more is there
  pub counted_all : ¬ Begins record_bytes IsLater rest → HasLater whole count
  counted_all none = subst (HasLater whole) (omega (arith, so.counted)) (so.ends 0 (none_later rest none))

  -- nothing is left to count
  pub counted_out : most ≤ counter → HasLater whole count
  counted_out over = subst (HasLater whole) (omega (arith, so.counted)) (so.ends 0 (nothing_later rest (omega (arith, so.within, over))))
