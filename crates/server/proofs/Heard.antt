-- What a piece does to its session, as the hub says it.
use Rattle.std.proofs.Common.{◌≡◌, ℕ, List, [], true, false, cond, Option, Some, None, Result, Ok, Err, IsErr, IsOk, IfErr, OnOk, refl, sym, ap, subst, ◌∙◌}
use Rattle.std.specs.Prelude.{is_some}
use Rattle.std.specs.Ordering.{nat_cmp}
use Rattle.std.specs.BTreeMap.{is_at}
use Rattle.std.proofs.lemmas.Map.Steps.{set_value_same}
use Rattle.wire.specs.Frames.{Frame}
use Rattle.wire.specs.Streams.{Remainder, with_more}
use Rattle.hub.specs.declared.hub_refusal.HubRefusal.{HubRefusal}
use Rattle.hub.specs.declared.hub_refusal.HubRefusal.TheVariants.{TooManySessions, SessionOpen, NoSession, Memory}
use Rattle.hub.specs.Events.{Bytes, HubState, BySession, at_session, due}
use Rattle.hub.specs.Exchanges.{Exchange, replies}
use Rattle.hub.specs.Happenings.{Happens}
use Rattle.std.specs.Io.KnownBytes.{Appends}
use Rattle.textio.specs.declared.stream_fault.StreamFault.{StreamFault}
use Rattle.textio.specs.declared.stream_fault.StreamFault.TheVariants as stream
use Rattle.textio.specs.Output.{WritesBeginning}
use Rattle.server.specs.declared.serve_fault.ServeFault.TheVariants.{OutOfMemory, OutOfMemoryAndCannotWrite}
use Rattle.server.specs.Pieces.{AnswersPiece, GoesPart}

-- a session of which no refusal is due is open
open_if : {X : Type 0} (found : Option X) → cond (is_some found) None (Some NoSession) ≡ None → (held : X) × (found ≡ Some held)
open_if None fine = absurd (let wrong : Some NoSession ≡ None = fine in cc)
open_if (Some held) fine = (held, refl)

open_of : {X : Type 0} (sessions : BySession X) (session : ℕ) (piece : List ℕ) → due sessions (Bytes session piece) ≡ None → (held : X) × (at_session sessions session ≡ Some held)
open_of sessions session piece fine = open_if (at_session sessions session) fine

module _ {S : Type 0} (answers : S → Frame → List ℕ → S → Type 0) where
  -- memory was wanting, and the first messages are answered
  abbrev pub IsBegun : HubState S → ℕ → List ℕ → HubState S → List ℕ → Type 0
  IsBegun before session piece after output = (held : Remainder) × (exchanges : List Exchange) × (left kept : Remainder)
      × GoesPart answers before session held piece exchanges after left kept × (output ≡ replies exchanges)

  heard_part : (before : HubState S) (session : ℕ) (piece output : List ℕ) (result : Result (Unit {0}) HubRefusal) (after : HubState S)
      → Happens answers before (Bytes session piece) [] result after output → due before.sessions (Bytes session piece) ≡ None → IsErr result → IsBegun before session piece after output
  heard_part before session piece output (Ok done) after happens fine bad = absurd cc
  heard_part before session piece output (Err (Memory true)) after (number, taken, exchanges, is, (held, left, here, set, exchanged, spent), wrote) fine bad =
      let same_number : session ≡ number = cc in
      let same_piece : piece ≡ taken = cc in
      rw (same_number, same_piece) (held, exchanges, left, left, (here, set, exchanged), wrote)
  heard_part before session piece output (Err (Memory false)) after (may, due, same, wrote) fine bad =
      let here = open_of before.sessions session piece fine in (
        here.0,
        [],
        with_more here.0 piece,
        here.0,
        (
          here.1,
          ap (λ (h : HubState S). h.sessions) same ∙ sym (set_value_same (is_at (nat_cmp session)) before.sessions here.0 here.1),
          (ap (λ (h : HubState S). h.service) same, refl),
        ),
        wrote,
      )
  heard_part before session piece output (Err TooManySessions) after (due, same, wrote) fine bad = absurd (let wrong : None ≡ Some TooManySessions = sym fine ∙ due in cc)
  heard_part before session piece output (Err SessionOpen) after (due, same, wrote) fine bad = absurd (let wrong : None ≡ Some SessionOpen = sym fine ∙ due in cc)
  heard_part before session piece output (Err NoSession) after (due, same, wrote) fine bad = absurd (let wrong : None ≡ Some NoSession = sym fine ∙ due in cc)

-- ---- what is written

-- a text is written, whole or not
abbrev pub Writes : Option (List ℕ) → Option (List ℕ) → List ℕ → Result (Unit {0}) StreamFault → Type 0
Writes written told text result = OnOk result (Appends written told text) × IfErr result (λ fault. (fault ≡ stream.CannotWrite) × WritesBeginning written told text)

whole : (written told : Option (List ℕ)) (text : List ℕ) (result : Result (Unit {0}) StreamFault) → Writes written told text result → IsOk result → Appends written told text
whole written told text (Ok done) (all, none) good = all
whole written told text (Err fault) (none, part) good = absurd cc

less : (written told : Option (List ℕ)) (text : List ℕ) (result : Result (Unit {0}) StreamFault) → Writes written told text result → IsErr result → WritesBeginning written told text
less written told text (Ok done) (all, none) bad = absurd cc
less written told text (Err fault) (none, (same, part)) bad = part

module _ {S : Type 0} (answers : S → Frame → List ℕ → S → Type 0) where
  pub part_written : (before : HubState S) (session : ℕ) (piece output : List ℕ) (heard : Result (Unit {0}) HubRefusal) (after : HubState S) (written told : Option (List ℕ)) (wrote : Result (Unit {0}) StreamFault)
      → Happens answers before (Bytes session piece) [] heard after output → due before.sessions (Bytes session piece) ≡ None → IsErr heard → Writes written told output wrote → IsOk wrote
      → AnswersPiece answers before session piece written (Err OutOfMemory) after told
  part_written before session piece output heard after written told wrote happens fine bad writes good =
      let h = heard_part answers before session piece output heard after happens fine bad in
      (h.0, h.1, h.2, h.3, h.4, subst (Appends written told) h.5 (whole written told output wrote writes good))

  pub part_unwritten : (before : HubState S) (session : ℕ) (piece output : List ℕ) (heard : Result (Unit {0}) HubRefusal) (after : HubState S) (written told : Option (List ℕ)) (wrote : Result (Unit {0}) StreamFault)
      → Happens answers before (Bytes session piece) [] heard after output → due before.sessions (Bytes session piece) ≡ None → IsErr heard → Writes written told output wrote → IsErr wrote
      → AnswersPiece answers before session piece written (Err OutOfMemoryAndCannotWrite) after told
  part_unwritten before session piece output heard after written told wrote happens fine bad writes failed =
      let h = heard_part answers before session piece output heard after happens fine bad in
      (h.0, h.1, h.2, h.3, h.4, subst (WritesBeginning written told) h.5 (less written told output wrote writes failed))
