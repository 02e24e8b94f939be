-- A request of session 0, and what is read of its reply.
use Rattle.std.proofs.Common.{◌≡◌, ◌≢◌, ◌⊎◌, ℕ, ◌+◌, List, [], ◌∷◌, drop, length, map, Option, Some, None, Result, Ok, Err, inl, inr, refl, sym, ap, subst, ◌∙◌}
use Rattle.std.specs.Prelude.{if◌then◌else◌, is_some, IsOk}
use Rattle.std.specs.Ordering.{nat_cmp}
use Rattle.std.specs.BTreeMap.{is_at}
use Rattle.std.specs.Map.{set_value}
use Rattle.std.proofs.lemmas.List.{append-nil}
use Rattle.std.proofs.lemmas.Map.Steps.{set_value_same}
use Rattle.rand_core.specs.Stream.{Stream}
use Rattle.encoding.specs.Fields.{IsField}
use Rattle.commands.specs.Operations as asking
use Rattle.commands.specs.Operations.{Operation, Query, Edit}
use Rattle.wire.specs.declared.frame.FrameView.{FrameView}
use Rattle.wire.specs.declared.frame.Front.{Front}
use Rattle.wire.specs.declared.frame.Front.TheVariants as front
use Rattle.wire.specs.declared.frame.Front.TheVariants.{Short, Bad}
use Rattle.wire.specs.declared.message_refusals.ReadRefusal.TheVariants.{BadKind, BadBody}
use Rattle.wire.specs.Frames.{Frame, frame_bytes, read_frame, IsFrame}
use Rattle.wire.specs.FrameViews.{frame_seen, BeginsWith}
use Rattle.wire.specs.Laws.{FrameIsOneMessage, IsReadAs, RequestsAreOne}
use Rattle.wire.specs.Requests.{RequestContent, request_frame, Asks, IsAsked, ReadsContent}
use Rattle.wire.specs.Responses.{response_body, Refused, ResponseContent}
use Rattle.wire.specs.Streams.{Remainder, Message, Rest, Whole, with_more, TellsMessages}
use Rattle.book.specs.declared.keeper.NoKeeper.{NoKeeper}
use Rattle.book.specs.declared.directory_refusal.Refusal.TheVariants.{Memory}
use Rattle.book.specs.declared.reply.Reply.{Reply}
use Rattle.book.specs.declared.reply.Reply.TheVariants as reply
use Rattle.book.specs.Books.{Book}
use Rattle.book.specs.Salts.{GivesSalts}
use Rattle.book.specs.Honest.{IsHonestRun}
use Rattle.book.specs.Keeps.{KeepsNothing, NeverFails}
use Rattle.book.specs.Shows.{Provider}
use Rattle.book.specs.Turns.{Run, Turn}
use Rattle.epochs.specs.DirectoryStates.{HasKeysOf}
use Rattle.hub.specs.declared.hub_refusal.HubRefusal.{HubRefusal}
use Rattle.hub.specs.Desks.{command, reply_frame, DeskState, DeskAnswers, IsResponseOf}
use Rattle.hub.specs.DeskRuns.{AreResponses, IsSoundDesk, IsTurnedAway, ShowHonestRun, ShowReplies}
use Rattle.hub.specs.declared.hub_refusal.HubRefusal.TheVariants.{NoSession}
use Rattle.hub.specs.Events.{HubState, at_session, due, BySession, Bytes}
use Rattle.hub.specs.Exchanges as exchange
use Rattle.hub.specs.Exchanges.{Exchange, Exchanges, Replies}
use Rattle.hub.specs.Happenings.{Happens}
use Rattle.hub.specs.Runs.{Line, AllAnswered}
use Rattle.play.specs.declared.ask.Ask.{Ask}
use Rattle.play.specs.declared.ask.Ask.TheVariants as ask
use Rattle.play.specs.Parties.{book_of, provider_of, HasAsked, IsReady, Parties}
use Rattle.play.specs.Scripts.{token, ask_seen, with_token}

-- ---- frames

module _ (field : IsField read_frame frame_bytes IsFrame) (bytes : List ℕ) (frame : Frame) (is : IsFrame frame) (same : bytes ≡ frame_bytes frame) where
  frame_read : read_frame bytes ≡ Ok (frame, [])
  frame_read = ap read_frame (same ∙ sym (append-nil (frame_bytes frame))) ∙ field.again frame [] is

  -- the bytes of a frame begin with no less, and with that frame
  pub whole_begins : (first : Front) → BeginsWith bytes first → (first ≡ Short) ⊎ (first ≡ Bad) → ⊥
  whole_begins first begins (inl short) = let e = sym (subst (BeginsWith bytes) short begins) ∙ frame_read in absurd cc
  whole_begins first begins (inr bad) = let e = sym (subst (BeginsWith bytes) bad begins) ∙ frame_read in absurd cc

  pub frame_begins : (first : Front) (view : FrameView) → BeginsWith bytes first → first ≡ front.Whole view → frame_seen view ≡ frame
  frame_begins first view begins whole =
      let e = sym (subst (BeginsWith bytes) whole begins).0 ∙ frame_read in
      let both : (frame_seen view, drop (5 + length view.body.now) bytes) ≡ (frame, []) = cc in
      ap (λ (read : Frame × List ℕ). read.0) both

-- ---- one message

-- A session that holds nothing hears a frame: the frame is answered, and the session holds nothing.
module _ {S : Type 0} (answers : S → Frame → List ℕ → S → Type 0) where
  exchanges_tell : (service : S) (held : Remainder) (exchanges : List Exchange) (after : S) (left : Remainder) → Exchanges answers service held exchanges after left
      → TellsMessages held (map (λ exchange. exchange.message) exchanges) left
  exchanges_tell service held [] after left (same, kept) = kept
  exchanges_tell service held (exchange ∷ more) after left (middle, between, takes, replied, rest) = (between, takes, exchanges_tell middle between more after left rest)

  one_answered : (frame : Frame) (service : S) (held : Remainder) (exchanges : List Exchange) (after : S) (left : Remainder) (grown : List ℕ)
      → map (λ exchange. exchange.message) exchanges ≡ Whole frame ∷ [] → grown ≡ exchange.replies exchanges → Exchanges answers service held exchanges after left
      → answers service frame grown after
  one_answered frame service held [] after left grown one wrote exchanged = absurd cc
  one_answered frame service held (exchange ∷ other ∷ more) after left grown one wrote exchanged = absurd cc
  one_answered frame service held (exchange ∷ []) after left grown one wrote (middle, between, takes, replied, (same, kept)) =
      let is : exchange.message ≡ Whole frame = cc in
      let text : exchange.reply ≡ grown = sym (append-nil exchange.reply) ∙ sym wrote in
      let told = subst (λ (m : Message). Replies answers service m exchange.reply middle) is replied in
      subst (λ (t : List ℕ). answers service frame t after) text (subst (λ (s : S). answers service frame exchange.reply s) (sym same) told)

  pub frame_answered : FrameIsOneMessage → (before after : HubState S) (frame : Frame) (piece grown : List ℕ) (result : Result (Unit {0}) HubRefusal) → IsFrame frame
      → at_session before.sessions 0 ≡ Some (Rest []) → piece ≡ frame_bytes frame → IsOk result → Happens answers before (Bytes 0 piece) [] result after grown
      → answers before.service frame grown after.service × (after.sessions ≡ before.sessions)
  frame_answered one before after frame piece grown (Err why) is idle whole ok happens = absurd cc
  frame_answered one before after frame piece grown (Ok done) is idle whole ok (due, exchanges, (held, left, here, set, exchanged, spent), wrote) =
      let empty : held ≡ Rest [] = let same : Some held ≡ Some (Rest []) = sym here ∙ idle in cc in
      let comes : with_more held piece ≡ Rest (frame_bytes frame) = ap (λ (h : Remainder). with_more h piece) empty ∙ ap Rest whole in
      let all = subst (λ (h : Remainder). Exchanges answers before.service h exchanges after.service left) comes exchanged in
      let (told, nothing) = one frame (map (λ exchange. exchange.message) exchanges) left is (exchanges_tell before.service (Rest (frame_bytes frame)) exchanges after.service left all, spent) in (
        one_answered frame before.service (Rest (frame_bytes frame)) exchanges after.service left grown told wrote all,
        set ∙ ap (set_value (is_at (nat_cmp 0)) before.sessions) nothing ∙ set_value_same (is_at (nat_cmp 0)) before.sessions (Rest []) idle,
      )

-- the session is open
pub bytes-due : (sessions : BySession Remainder) (piece : List ℕ) → at_session sessions 0 ≡ Some (Rest []) → due sessions (Bytes 0 piece) ≡ None
bytes-due sessions piece idle = ap (λ (held : Option Remainder). if is_some held then None else Some NoSession) idle

-- a body that is not one byte long does not say that memory ran out
pub not_short : (frame : Frame) (responded : ResponseContent) → IsReadAs frame responded → length frame.body ≢ 1 → responded ≢ Refused 14
not_short frame responded read long memory = long (ap length read.1.1.0 ∙ ap (λ (r : ResponseContent). length (response_body r)) memory)

-- a reply that is read as a response, which is not that memory ran out
pub not_memory : (said : Reply) (responded : ResponseContent) → IsResponseOf said responded → responded ≢ Refused 14 → said ≢ reply.Refused Memory
not_memory said responded response fine memory = fine (subst (λ (s : Reply). IsResponseOf s responded) memory response)

-- ---- one request

-- what an `ask` asks is a command, by the token of a script
pub command_of : (ask : Ask) → (asked : Operation) × (command token (ask_seen ask) ≡ Some asked)
command_of (ask.Put verb name key policy) = (Edit (asking.Put verb name.items (key.items, policy)), refl)
command_of (ask.Promise name) = (Query (asking.Promise name.items), refl)
command_of (ask.Lookup name epoch) = (Query (asking.Lookup name.items epoch), refl)
command_of (ask.History from count) = (Query (asking.History from count), refl)
command_of ask.Head = (Query asking.Head, refl)
command_of (ask.Turn epoch nonce) = (Edit (asking.Turn epoch nonce), refl)

-- a request with the token of a script is what the script asks
pub asked_as : (it : Ask) (asked : RequestContent) (given : List ℕ) → asked ≡ with_token given (ask_seen it) → given ≡ token → asked ≡ ask_seen it
asked_as it asked given is own = is ∙ ap (λ (t : List ℕ). with_token t (ask_seen it)) own ∙ by it
  where
    by : (one : Ask) → with_token token (ask_seen one) ≡ ask_seen one
    by (ask.Put _ _ _ _) = refl
    by (ask.Promise _) = refl
    by (ask.Lookup _ _) = refl
    by (ask.History _ _) = refl
    by ask.Head = refl
    by (ask.Turn _ _) = refl

-- what a request that was read is, where the body spells this one
read_as : RequestsAreOne → (frame : Frame) (requested other : RequestContent) → Asks frame.kind frame.body requested → ReadsContent frame.kind frame.body (Ok other) → other ≡ requested
read_as one frame requested other asks read = one frame.kind frame.body other requested read asks

not_turned : RequestsAreOne → (given : List ℕ) (frame : Frame) (requested : RequestContent) (asked : Operation) (code : ℕ) → Asks frame.kind frame.body requested
    → command given requested ≡ Some asked → IsTurnedAway given (Whole frame) code → ⊥
not_turned one given frame requested asked code asks is (inl (BadKind, unread, same)) = unread (requested, asks.0)
not_turned one given frame requested asked code asks is (inl (BadBody, unread, same)) = unread.1 requested asks
not_turned one given frame requested asked code asks is (inr (other, read, none, same)) =
    let e : command given other ≡ command given requested = ap (command given) (read_as one frame requested other asks read) in
    let f : None ≡ Some asked = sym none ∙ e ∙ is in
    absurd cc

module _ {R : Type 0} (digest_of : List ℕ → List ℕ) (value_of signature_of : List ℕ → List ℕ → List ℕ) (stream : R → Stream) (accepted verified : List ℕ → List ℕ → List ℕ → Type 0) where
  -- the law of a hub whose records nobody keeps
  abbrev pub ShowsHonestRuns : Type 0
  ShowsHonestRuns = (before after : DeskState R NoKeeper) (lines : List Line)
      → IsSoundDesk digest_of value_of signature_of stream accepted verified before
      → GivesSalts (stream before.directory.salts) ⊎ IsSoundDesk digest_of value_of signature_of stream accepted verified after
      → AllAnswered (DeskAnswers digest_of value_of signature_of stream KeepsNothing NeverFails) before lines after
      → ShowHonestRun digest_of value_of signature_of stream KeepsNothing NeverFails accepted verified before lines after

  -- the text is the frame of a reply that is read as a response; all is known of it unless memory ran out
  abbrev pub IsServed : Parties R → RequestContent → List ℕ → Parties R → Type 0
  IsServed before requested text after = (said : Reply) × (responded : ResponseContent)
      × (text ≡ frame_bytes (reply_frame said)) × IsResponseOf said responded × IsReadAs (reply_frame said) responded
      × (said ≢ reply.Refused Memory → HasAsked digest_of value_of signature_of stream accepted verified before requested text after)

  -- one turn is a run of one
  one_turn : (by : Provider) (book book_after : Book) (keeper keeper_after : NoKeeper) (commands : List Operation) (replies : List Reply) (asked : Operation) (said : Reply)
      → commands ≡ asked ∷ [] → replies ≡ said ∷ [] → Run by KeepsNothing NeverFails book keeper commands replies book_after keeper_after
      → Turn by KeepsNothing NeverFails book keeper asked said book_after keeper_after
  one_turn by book book_after keeper keeper_after commands replies asked said one is run =
      let (middle, between, turn, (same, kept)) =
      subst (λ (some : List Reply). Run by KeepsNothing NeverFails book keeper (asked ∷ []) some book_after keeper_after) is
      (subst (λ (some : List Operation). Run by KeepsNothing NeverFails book keeper some replies book_after keeper_after) one run)
      in
      subst (λ (k : NoKeeper). Turn by KeepsNothing NeverFails book keeper asked said book_after k) (sym kept)
      (subst (λ (b : Book). Turn by KeepsNothing NeverFails book keeper asked said b between) (sym same) turn)

  abbrev one_line : RequestContent → List ℕ → Line
  one_line requested text = record { session = 0; message = Whole (request_frame requested); reply = text }

  module _ (one : RequestsAreOne) (before after : Parties R) (requested : RequestContent) (asked : Operation) (text : List ℕ)
      (asks : Asks (request_frame requested).kind (request_frame requested).body requested) (is : command token requested ≡ Some asked) (ready : IsReady digest_of value_of signature_of stream accepted verified before)
      (well : IsSoundDesk digest_of value_of signature_of stream accepted verified before.hub.service) (sessions : after.hub.sessions ≡ before.hub.sessions) (others : after ≡ record before { hub = after.hub }) where
    by_shown : (commands : List Operation) (replies : List Reply) (shown : ShowReplies before.hub.service.token (one_line requested text ∷ []) commands replies)
        → AreResponses before.hub.service.token (one_line requested text ∷ []) commands replies shown
        → Run (provider_of digest_of value_of signature_of stream accepted verified before) KeepsNothing NeverFails (book_of digest_of value_of signature_of stream accepted verified before) before.hub.service.keeper commands replies (book_of digest_of value_of signature_of stream accepted verified after) after.hub.service.keeper
        → IsHonestRun (provider_of digest_of value_of signature_of stream accepted verified before) accepted verified before.hub.service.directory.signing_key (book_of digest_of value_of signature_of stream accepted verified before) (book_of digest_of value_of signature_of stream accepted verified after) commands replies
        → HasKeysOf before.hub.service.directory after.hub.service.directory → after.hub.service.token ≡ before.hub.service.token
        → IsServed before requested text after
    by_shown commands replies (inl (code, turned, says, more)) read run honest keys kept =
        absurd (not_turned one before.hub.service.token (request_frame requested) requested asked code asks (ap (λ (t : List ℕ). command t requested) ready.token ∙ is) turned)
    by_shown commands replies (inr (told, said, later, rest, (other, unread, reaches), says, are, answers, (no_more, none))) ((responded, response, read), done) run honest keys kept =
        let same : Some told ≡ Some asked = sym reaches ∙ ap (command before.hub.service.token) (read_as one (request_frame requested) requested other asks unread) ∙ ap (λ (t : List ℕ). command t requested) ready.token ∙ is in
        let command_is : told ≡ asked = cc in
        let of_one : commands ≡ asked ∷ [] = are ∙ ap (λ (l : List Operation). told ∷ l) no_more ∙ ap (λ (c : Operation). c ∷ []) command_is in
        let said_once : replies ≡ said ∷ [] = answers ∙ ap (λ (l : List Reply). said ∷ l) none in (
          said,
          responded,
          says,
          response,
          read,
          λ fine. record {
            form = asks.1.1;
            asked = asked;
            is = is;
            said = said;
            responded = responded;
            frame = says;
            response = response;
            read = read;
            turn = one_turn (provider_of digest_of value_of signature_of stream accepted verified before) (book_of digest_of value_of signature_of stream accepted verified before) (book_of digest_of value_of signature_of stream accepted verified after) before.hub.service.keeper after.hub.service.keeper commands replies asked said of_one said_once run;
            memory = fine;
            honest = rw (← of_one) (rw (← said_once) (rw (← ready.key) honest));
            laws = rw (← ready.key) well.laws;
            sound = well.sound;
            sessions = sessions;
            token = kept;
            keys = keys;
            others = others;
          },
        )

  pub served : FrameIsOneMessage → RequestsAreOne → ShowsHonestRuns → (before after : Parties R) (requested : RequestContent) (asked : Operation) (piece text : List ℕ) (result : Result (Unit {0}) HubRefusal)
      → IsReady digest_of value_of signature_of stream accepted verified before → IsAsked requested → IsFrame (request_frame requested) → command token requested ≡ Some asked → piece ≡ frame_bytes (request_frame requested)
      → IsSoundDesk digest_of value_of signature_of stream accepted verified before.hub.service → IsSoundDesk digest_of value_of signature_of stream accepted verified after.hub.service
      → IsOk result → Happens (DeskAnswers digest_of value_of signature_of stream KeepsNothing NeverFails) before.hub (Bytes 0 piece) [] result after.hub text
      → after ≡ record before { hub = after.hub }
      → IsServed before requested text after
  served message one law before after requested asked piece text result ready form is_frame is whole well well_after ok happens others =
      let (answered, sessions) = frame_answered (DeskAnswers digest_of value_of signature_of stream KeepsNothing NeverFails) message before.hub after.hub (request_frame requested) piece text result is_frame ready.idle whole ok happens in
      let asks : Asks (request_frame requested).kind (request_frame requested).body requested = (refl, (refl, form)) in
      let run = law before.hub.service after.hub.service (one_line requested text ∷ []) well (inr well_after) (after.hub.service, answered, refl) in
      by_shown one before after requested asked text asks is ready well sessions others run.commands run.replies run.shown run.read run.run run.honest run.keys run.token
