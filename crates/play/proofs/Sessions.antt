-- What events of other sessions leave of session 0, and what a call with an event did.
use Rattle.std.proofs.Common.{◌≡◌, ◌≢◌, ap₂, ℕ, ◌<◌, List, [], ◌∷◌, ◌++◌, true, false, Option, Some, None, Result, Ok, Err, refl, sym, ap, subst, ◌∙◌, inl, inr, arith}
use Rattle.std.specs.Bool.{⊤}
use Rattle.std.specs.List.{flat_map, AllByRecursion}
use Rattle.std.proofs.lemmas.List.{append-nil}
use Rattle.std.proofs.lemmas.List.Concat.{flat_map-append}
use Rattle.std.specs.Option.{option_map}
use Rattle.std.specs.Ordering.{nat_cmp}
use Rattle.std.specs.BTreeMap.{is_at}
use Rattle.rand_core.specs.Stream.{Stream}
use Rattle.encoding.specs.Bytes.{IsBytes}
use Rattle.encoding.proofs.ByteLists.{IsBytes-back}
use Rattle.epochs.specs.DirectoryStates.{HasKeysOf}
use Rattle.wire.specs.Frames.{Frame, frame_bytes}
use Rattle.wire.specs.Streams.{Remainder, Message, Rest, Failed, Whole, BadFrame, with_more, AreBytes, TakesMessage}
use Rattle.wire.proofs.Frames.{frame_field}
use Rattle.wire.proofs.Streams.{more-bytes}
use Rattle.book.specs.declared.keeper.NoKeeper.{NoKeeper}
use Rattle.book.specs.Keeps.{KeepsNothing, NeverFails}
use Rattle.hub.specs.declared.hub_refusal.HubRefusal.{HubRefusal}
use Rattle.hub.specs.declared.hub_refusal.HubRefusal.TheVariants.{TooManySessions, SessionOpen, NoSession, Memory}
use Rattle.hub.specs.Desks.{DeskState, DeskAnswers}
use Rattle.hub.specs.Events.{BySession, Happening, Open, Bytes, End, HubState, at_session, due, number}
use Rattle.hub.specs.DeskRuns.{IsSoundDesk, ShowHonestRun}
use Rattle.hub.specs.Exchanges.{replies, Exchange, Exchanges}
use Rattle.hub.specs.Happenings.{Does, DoesUnlessRefused, Happens}
use Rattle.hub.specs.Runs.{Line, Streams, after_event, after_events, each, rest_of, unanswered, AllAnswered, Runs}
use Rattle.hub.proofs.Entries.{all_found, all_inserted, all_removed, all_set, lookup_each, AllAt}
use Rattle.hub.proofs.Outputting.{other_stays}
use Rattle.hub.proofs.Running.{nothing_run, run_more}
use Rattle.hub.proofs.Steps.{each_fresh, lines}
use Rattle.play.specs.Hearing.{HasFrameBytes, IsOfBytes}
use Rattle.play.specs.Messages.{held_after}
use Rattle.play.specs.Parties.{AreAt, HasHappened, HasHeard, HoldBytes, Parties}
use Rattle.play.specs.Played.{piece_events, Stand}

-- ---- session 0

-- events of sessions that are not this one
abbrev pub AreOfOthers : ℕ → List Happening → Type 0
AreOfOthers session = AllByRecursion (λ it. number it ≢ session)

event_stays : (streams : Streams) (it : Happening) (n : ℕ) → number it ≢ n → at_session (after_event streams it) n ≡ at_session streams n
event_stays streams it n other = by_refusal (due streams it) refl
  where
    by_refusal : (refused : Option HubRefusal) → due streams it ≡ refused → at_session (after_event streams it) n ≡ at_session streams n
    by_refusal None e = rw e (other_stays streams it n other)
    by_refusal (Some why) e = rw e refl

events_stay : (streams : Streams) (events : List Happening) (n : ℕ) → AreOfOthers n events → at_session (after_events streams events) n ≡ at_session streams n
events_stay streams [] n others = refl
events_stay streams (it ∷ more) n others = events_stay (after_event streams it) more n others.1 ∙ event_stays streams it n others.0

-- a session holds what it held
pub held_stays : (sessions : BySession Remainder) (events : List Happening) (n : ℕ) → AreOfOthers n events → at_session (held_after sessions events) n ≡ at_session sessions n
held_stays sessions events n others =
    let streams : Streams = each unanswered sessions in
    lookup_each rest_of (is_at (nat_cmp n)) (after_events streams events)
    ∙ ap (option_map rest_of) (events_stay streams events n others)
    ∙ sym (lookup_each rest_of (is_at (nat_cmp n)) streams)
    ∙ ap (λ (all : BySession Remainder). at_session all n) (sym (each_fresh sessions))

pub above_none : (session : ℕ) → 0 < session → session ≢ 0
above_none session above same = omega (arith, above, same)

-- ---- calls

module _ {S : Type 0} (answers : S → Frame → List ℕ → S → Type 0) where
  -- an end takes no memory: what it does is that of one event of a run
  end_passes : (before after : HubState S) (session : ℕ) (output grown : List ℕ) (result : Result (Unit {0}) HubRefusal)
      → Happens answers before (End session) output result after grown → (exchanges : List Exchange) × DoesUnlessRefused answers before (End session) exchanges after
  end_passes before after session output grown (Ok done) (fine, exchanges, does, wrote) = (exchanges, inr (fine, does))
  end_passes before after session output grown (Err (Memory false)) happens = absurd happens.0
  end_passes before after session output grown (Err (Memory true)) (other, piece, exchanges, is, answered, wrote) = absurd cc
  end_passes before after session output grown (Err TooManySessions) (why, same, wrote) = ([], inl (TooManySessions, why, refl, same))
  end_passes before after session output grown (Err SessionOpen) (why, same, wrote) = ([], inl (SessionOpen, why, refl, same))
  end_passes before after session output grown (Err NoSession) (why, same, wrote) = ([], inl (NoSession, why, refl, same))

  -- one event is a run
  pub one_runs : (before after : HubState S) (it : Happening) (exchanges : List Exchange) → DoesUnlessRefused answers before it exchanges after
      → Runs answers before (it ∷ []) (lines (number it) exchanges) after
  one_runs before after it exchanges passes = (run_more answers before [] [] before it exchanges after (nothing_run answers before) passes).0

  -- and so are two
  pub two_run : (before middle after : HubState S) (one other : Happening) (first later : List Exchange) → DoesUnlessRefused answers before one first middle → DoesUnlessRefused answers middle other later after
      → Runs answers before (one ∷ other ∷ []) (lines (number one) first ++ lines (number other) later) after
  two_run before middle after one other first later passes then_passes =
      (run_more answers before (one ∷ []) (lines (number one) first) middle other later after
      (run_more answers before [] [] before one first middle (nothing_run answers before) passes) then_passes).0

-- ---- bytes

abbrev AreHeldBytes : BySession Remainder → Type 0
AreHeldBytes = AllAt AreBytes

to_all : (sessions : BySession Remainder) → HoldBytes sessions → AreHeldBytes sessions
to_all [] are = tt
to_all (entry ∷ more) are = (are.0, to_all more are.1)

from_all : (sessions : BySession Remainder) → AreHeldBytes sessions → HoldBytes sessions
from_all [] are = tt
from_all (entry ∷ more) are = (are.0, from_all more are.1)

no_bytes : IsBytes []
no_bytes k = omega arith

takes_bytes : (held : Remainder) (message : Message) (after : Remainder) → AreBytes held → TakesMessage held message after → AreBytes after × HasFrameBytes message
takes_bytes (Rest bytes) (Whole frame) after are (left, read, same) =
    let spelled = frame_field.spelled bytes (frame, left) are read in
    (subst AreBytes (sym same) (IsBytes-back (frame_bytes frame) left (subst IsBytes spelled.0 are)), spelled.1.2)
takes_bytes (Rest bytes) BadFrame after are (read, same) = (subst AreBytes (sym same) tt, tt)
takes_bytes Failed message after are taken = absurd taken

-- the pieces of an event are bytes
abbrev pub BringsBytes : Happening → Type 0
BringsBytes (Open session) = ⊤
BringsBytes (Bytes session piece) = IsBytes piece
BringsBytes (End session) = ⊤

abbrev pub AreOfBytes : List Exchange → Type 0
AreOfBytes = AllByRecursion (λ exchange. HasFrameBytes exchange.message)

module _ {S : Type 0} (answers : S → Frame → List ℕ → S → Type 0) where
  exchanges_bytes : (s : S) (held : Remainder) (exchanges : List Exchange) (t : S) (left : Remainder) → AreBytes held → Exchanges answers s held exchanges t left → AreBytes left × AreOfBytes exchanges
  exchanges_bytes s held [] t left are (same, is) = (subst AreBytes (sym is) are, tt)
  exchanges_bytes s held (exchange ∷ more) t left are (middle, between, takes, replied, rest) =
      let one = takes_bytes held exchange.message between are takes in
      let later = exchanges_bytes middle between more t left one.0 rest in
      (later.0, (one.1, later.1))

  does_bytes : (before after : HubState S) (it : Happening) (exchanges : List Exchange) → HoldBytes before.sessions → BringsBytes it → Does answers before it exchanges after
      → HoldBytes after.sessions × AreOfBytes exchanges
  does_bytes before after (Open session) exchanges are small (none, same) = (
    subst (λ (h : HubState S). HoldBytes h.sessions) (sym same) (from_all _ (all_inserted AreBytes before.sessions session (Rest []) (to_all before.sessions are) no_bytes)),
    subst AreOfBytes (sym none) tt,
  )
  does_bytes before after (Bytes session piece) exchanges are small (held, left, here, set, exchanged, spent) =
      let all = to_all before.sessions are in
      let p = is_at (nat_cmp session) in
      let it = exchanges_bytes before.service (with_more held piece) exchanges after.service left (more-bytes held piece (all_found AreBytes p before.sessions held all here) small) exchanged in
      (subst HoldBytes (sym set) (from_all _ (all_set AreBytes p before.sessions left all it.0)), it.1)
  does_bytes before after (End session) exchanges are small (none, same) = (
    subst (λ (h : HubState S). HoldBytes h.sessions) (sym same) (from_all _ (all_removed AreBytes (is_at (nat_cmp session)) before.sessions (to_all before.sessions are))),
    subst AreOfBytes (sym none) tt,
  )

  -- the sessions still hold bytes, and the messages are frames
  pub passes_bytes : (before after : HubState S) (it : Happening) (exchanges : List Exchange) → HoldBytes before.sessions → BringsBytes it → DoesUnlessRefused answers before it exchanges after
      → HoldBytes after.sessions × AreOfBytes exchanges
  passes_bytes before after it exchanges are small (inl (why, refused, none, same)) =
      (subst (λ (h : HubState S). HoldBytes h.sessions) (sym same) are, subst AreOfBytes (sym none) tt)
  passes_bytes before after it exchanges are small (inr (fine, does)) = does_bytes before after it exchanges are small does

-- memory did not run out
abbrev pub HasMemory : Result (Unit {0}) HubRefusal → Type 0
HasMemory (Ok done) = ⊤
HasMemory (Err TooManySessions) = ⊤
HasMemory (Err SessionOpen) = ⊤
HasMemory (Err NoSession) = ⊤
HasMemory (Err (Memory taken)) = ⊥

-- ---- an end

end_leaves : {S : Type 0} (answers : S → Frame → List ℕ → S → Type 0) (before after : HubState S) (session : ℕ) (exchanges : List Exchange) → DoesUnlessRefused answers before (End session) exchanges after
    → after ≡ record before { sessions = after.sessions }
end_leaves answers before after session exchanges (inl (why, refused, none, same)) = subst (λ (h : HubState _). h ≡ record before { sessions = h.sessions }) (sym same) refl
end_leaves answers before after session exchanges (inr (fine, does)) = subst (λ (h : HubState _). h ≡ record before { sessions = h.sessions }) (sym does.1) refl

module _ {R : Type 0} (digest_of : List ℕ → List ℕ) (value_of signature_of : List ℕ → List ℕ → List ℕ) (stream : R → Stream) (accepted verified : List ℕ → List ℕ → List ℕ → Type 0) where
  abbrev At : Parties R → Stand → Type 0
  At = AreAt digest_of value_of signature_of stream accepted verified

  abbrev after_end : Stand → ℕ → Stand
  after_end stand session = record stand { sessions = held_after stand.sessions (End session ∷ []) }

  -- the sessions alone change
  sessions_end : (before : Parties R) (stand : Stand) (session : ℕ) (sessions : BySession Remainder) → session ≢ 0 → sessions ≡ held_after before.hub.sessions (End session ∷ []) → HoldBytes sessions → At before stand
      → At (record before { hub = record before.hub { sessions = sessions } }) (after_end stand session)
  sessions_end before stand session sessions other is bytes are = record {
    hub = record {
      book = are.hub.book;
      sessions = is ∙ ap (λ (all : BySession Remainder). held_after all (End session ∷ [])) are.hub.sessions;
      ready = record {
        idle = ap (λ (all : BySession Remainder). at_session all 0) is ∙ held_stays before.hub.sessions (End session ∷ []) 0 (other, tt) ∙ are.hub.ready.idle;
        bytes = bytes;
        token = are.hub.ready.token;
        key = are.hub.ready.key;
      };
    };
    taken = record { client = are.taken.client; auditor = are.taken.auditor; monitors = are.taken.monitors };
  }

  pub ended : (before : Parties R) (hub : HubState (DeskState R NoKeeper)) (session : ℕ) (output grown : List ℕ) (result : Result (Unit {0}) HubRefusal) → 0 < session
      → Happens (DeskAnswers digest_of value_of signature_of stream KeepsNothing NeverFails) before.hub (End session) output result hub grown
      → (stand : Stand) → At before stand → At (record before { hub = hub }) (after_end stand session)
  ended before hub session output grown result above happens stand are =
      let answers = DeskAnswers digest_of value_of signature_of stream KeepsNothing NeverFails in
      let (exchanges, passes) = end_passes answers before.hub hub session output grown result happens in
      let run = one_runs answers before.hub hub (End session) exchanges passes in
      subst (λ (h : HubState (DeskState R NoKeeper)). At (record before { hub = h }) (after_end stand session)) (sym (end_leaves answers before.hub hub session exchanges passes))
      (sessions_end before stand session hub.sessions (above_none session above) run.left (passes_bytes answers before.hub hub (End session) exchanges are.hub.ready.bytes tt passes).0 are)

  -- ---- a piece

  abbrev Answer : DeskState R NoKeeper → Frame → List ℕ → DeskState R NoKeeper → Type 0
  Answer = DeskAnswers digest_of value_of signature_of stream KeepsNothing NeverFails

  happens_so : (before : Parties R) (hub : HubState (DeskState R NoKeeper)) (it : Happening) (output grown : List ℕ) (result : Result (Unit {0}) HubRefusal) → HasMemory result
      → Happens Answer before.hub it output result hub grown
      → HasHappened digest_of value_of signature_of stream accepted verified before it output grown (record before { hub = hub })
  happens_so before hub it output grown (Ok done) has (fine, exchanges, does, wrote) = record { exchanges = exchanges; passes = inr (fine, does); grows = wrote; others = refl }
  happens_so before hub it output grown (Err TooManySessions) has (why, same, wrote) =
      record { exchanges = []; passes = inl (TooManySessions, why, refl, same); grows = wrote ∙ sym (append-nil output); others = refl }
  happens_so before hub it output grown (Err SessionOpen) has (why, same, wrote) =
      record { exchanges = []; passes = inl (SessionOpen, why, refl, same); grows = wrote ∙ sym (append-nil output); others = refl }
  happens_so before hub it output grown (Err NoSession) has (why, same, wrote) =
      record { exchanges = []; passes = inl (NoSession, why, refl, same); grows = wrote ∙ sym (append-nil output); others = refl }
  happens_so before hub it output grown (Err (Memory taken)) has happens = absurd has

  pub happened : (parties before : Parties R) (hub : HubState (DeskState R NoKeeper)) (it : Happening) (output grown : List ℕ) (result : Result (Unit {0}) HubRefusal) → parties ≡ before → HasMemory result
      → Happens Answer parties.hub it output result hub grown
      → HasHappened digest_of value_of signature_of stream accepted verified before it output grown (record parties { hub = hub })
  happened parties before hub it output grown result same has happens =
      subst (λ (p : Parties R). HasHappened digest_of value_of signature_of stream accepted verified p it output grown (record parties { hub = hub })) same
      (happens_so parties hub it output grown result has happens)

  -- the replies to the messages of lines
  abbrev line_replies : List Line → List ℕ
  line_replies = flat_map (λ line. line.reply)

  lines_replies : (session : ℕ) (exchanges : List Exchange) → line_replies (lines session exchanges) ≡ replies exchanges
  lines_replies session [] = refl
  lines_replies session (exchange ∷ more) = ap (λ (t : List ℕ). exchange.reply ++ t) (lines_replies session more)

  abbrev LinesOfBytes : List Line → Type 0
  LinesOfBytes = AllByRecursion IsOfBytes

  lines_of_bytes : (session : ℕ) (exchanges : List Exchange) → AreOfBytes exchanges → LinesOfBytes (lines session exchanges)
  lines_of_bytes session [] are = tt
  lines_of_bytes session (exchange ∷ more) are = (are.0, lines_of_bytes session more are.1)

  of_bytes_append : (one other : List Line) → LinesOfBytes one → LinesOfBytes other → LinesOfBytes (one ++ other)
  of_bytes_append [] other are also = also
  of_bytes_append (line ∷ more) other are also = (are.0, of_bytes_append more other are.1 also)

  -- a piece comes by two events
  pub heard : (before middle after : Parties R) (session : ℕ) (piece output first grown : List ℕ) → IsBytes piece → HoldBytes before.hub.sessions → output ≡ []
      → HasHappened digest_of value_of signature_of stream accepted verified before (Open session) output first middle
      → HasHappened digest_of value_of signature_of stream accepted verified middle (Bytes session piece) first grown after
      → IsSoundDesk digest_of value_of signature_of stream accepted verified before.hub.service → IsSoundDesk digest_of value_of signature_of stream accepted verified after.hub.service
      → ((lines : List Line) → AllAnswered Answer before.hub.service lines after.hub.service
      → ShowHonestRun digest_of value_of signature_of stream KeepsNothing NeverFails accepted verified before.hub.service lines after.hub.service)
      → HasHeard digest_of value_of signature_of stream accepted verified before (piece_events session piece) grown after
  heard before middle after session piece output first grown small bytes none one other well well_after shows =
      let opened = passes_bytes Answer before.hub middle.hub (Open session) one.exchanges bytes tt one.passes in
      let came = passes_bytes Answer middle.hub after.hub (Bytes session piece) other.exchanges opened.0 small other.passes in
      let all : List Line = lines session one.exchanges ++ lines session other.exchanges in
      let runs = two_run Answer before.hub middle.hub after.hub (Open session) (Bytes session piece) one.exchanges other.exchanges one.passes other.passes in
      record {
        lines = all;
        runs = runs;
        bodies = of_bytes_append (lines session one.exchanges) (lines session other.exchanges) (lines_of_bytes session one.exchanges opened.1) (lines_of_bytes session other.exchanges came.1);
        replies = other.grows ∙ ap (λ (t : List ℕ). t ++ replies other.exchanges) (one.grows ∙ ap (λ (t : List ℕ). t ++ replies one.exchanges) none)
            ∙ ap₂ (λ (t u : List ℕ). t ++ u) (sym (lines_replies session one.exchanges)) (sym (lines_replies session other.exchanges))
            ∙ sym (flat_map-append (λ (line : Line). line.reply) (lines session one.exchanges) (lines session other.exchanges));
        shown = shows all runs.answered;
        well = well_after;
        well_before = well;
        bytes = came.0;
        others = other.others ∙ ap (λ (p : Parties R). record p { hub = after.hub }) one.others;
      }

  -- an end leaves the keys
  pub end_keys : (before hub : HubState (DeskState R NoKeeper)) (session : ℕ) (output grown : List ℕ) (result : Result (Unit {0}) HubRefusal)
      → Happens Answer before (End session) output result hub grown → HasKeysOf before.service.directory hub.service.directory
  end_keys before hub session output grown result happens =
      let (exchanges, passes) = end_passes Answer before hub session output grown result happens in
      subst (λ (h : HubState (DeskState R NoKeeper)). HasKeysOf before.service.directory h.service.directory) (sym (end_leaves Answer before hub session exchanges passes)) (refl, refl)
