-- The parties of a script, and how they stand beside what its definition says of it.
use Rattle.std.specs.Prelude.{◌≡◌, ◌≢◌, ◌↔◌, ◌⊎◌, ℕ, ◌<◌, ◌≤◌, List, [], ◌∷◌, ◌++◌, length, drop, Some, All, Contains, IsSome, ⊤}
use Rattle.std.specs.List.{flat_map, AllByRecursion, AllZip}
use Rattle.rand_core.specs.Stream.{Stream}
use Rattle.rootchain.specs.Chains.{KeyedRoots}
use Rattle.rootchain.specs.declared.signed_root.SignedRoot.{SignedRoot}
use Rattle.commands.specs.Operations.{Operation}
use Rattle.wire.specs.Frames.{frame_bytes}
use Rattle.wire.specs.Laws.{IsReadAs}
use Rattle.wire.specs.Requests.{RequestContent, IsAsked}
use Rattle.wire.specs.Responses.{ResponseContent}
use Rattle.wire.specs.Streams.{Remainder, Rest, AreBytes}
use Rattle.book.specs.declared.keeper.NoKeeper.{NoKeeper}
use Rattle.book.specs.declared.directory_refusal.Refusal.TheVariants.{Memory}
use Rattle.book.specs.declared.reply.Reply.{Reply}
use Rattle.book.specs.declared.reply.Reply.TheVariants as reply
use Rattle.book.specs.Books.{Book}
use Rattle.book.specs.Honest.{IsHonestRun}
use Rattle.book.specs.Keeps.{KeepsNothing, NeverFails}
use Rattle.encoding.specs.Maps.{at}
use Rattle.book.specs.ProviderLaws.{KeepsLaws}
use Rattle.book.specs.Shows.{Provider, index_of, roots}
use Rattle.book.specs.Sound.{IsSound}
use Rattle.book.specs.Turns.{Turn}
use Rattle.epochs.specs.DirectoryStates.{book, provider, HasKeysOf}
use Rattle.hub.specs.Desks.{command, reply_frame, DeskState, DeskAnswers, IsResponseOf}
use Rattle.hub.specs.DeskRuns.{IsSoundDesk, ShowHonestRun}
use Rattle.hub.specs.Events.{at_session, BySession, Happening, HubState}
use Rattle.hub.specs.Exchanges.{Exchange, replies}
use Rattle.hub.specs.Happenings.{DoesUnlessRefused}
use Rattle.hub.specs.Runs.{Line, Runs}
use Rattle.auditor.specs.Chains.{Chains, chain_of}
use Rattle.client.specs.Clients.{Client}
use Rattle.monitor.specs.Monitors.{Monitor}
use Rattle.play.specs.declared.engine.TheConstants.{OWN_SESSION}
use Rattle.play.specs.Hearing.{IsOfBytes}
use Rattle.play.specs.Lines.{as_lines}
use Rattle.play.specs.Played.{Stand}
use Rattle.play.specs.Scripts.{token}
use Rattle.play.specs.Watchers.{Watcher}

-- what contracts see of an engine
pub record Parties (R : Type 0) : Type 0 where
  pub hub : HubState (DeskState R NoKeeper)
  -- the public key of the provider
  pub key : List ℕ
  pub client : Client
  pub auditor : Chains
  pub monitors : List Monitor

-- ---- what sessions hold and hear

-- what each session holds is bytes
abbrev pub HoldBytes : BySession Remainder → Type 0
HoldBytes [] = ⊤
HoldBytes (entry ∷ more) = AreBytes entry.1 × HoldBytes more

-- ---- chains

-- a chain of these roots of the provider
abbrev pub chain_under : List ℕ → List SignedRoot → KeyedRoots
chain_under key taken = record { key = key; roots = taken }

-- ---- monitors

-- Each key that is expected was promised over the root of an epoch up to the last; if it is the last, the
-- name's binding waits.
abbrev pub ArePromised : Book → Watcher → Type 0
ArePromised now watcher = All (λ change. (change.0 < now.last.epoch) ⊎ ((change.0 ≡ now.last.epoch) × IsSome (at now.pending watcher.name))) watcher.watch.changes

-- The monitor is this one of the script, where these roots were taken: its chain has the last of them, and what
-- it has not watched of them is what is ahead of the watcher.
pub record IsWatcher (key : List ℕ) (taken : List SignedRoot) (now : Book) (watching : Monitor) (watcher : Watcher) : Type 0 where
  pub name : watching.name ≡ watcher.name
  pub watch : watching.watch ≡ watcher.watch
  pub skipped : ℕ
  pub chain : watching.client.chain ≡ chain_under key (drop skipped taken)
  pub some : 0 < length (drop skipped taken)
  pub behind : (root : SignedRoot) → Contains taken root → (watcher.behind < root.body.epoch) ↔ (Contains (drop skipped taken) root × (watching.watched < root.body.epoch))
  pub promised : ArePromised now watcher
  -- what was watched, and what is behind the watcher, is not above the roots that were taken
  pub until : (root : SignedRoot) × Contains taken root × (watcher.behind ≤ root.body.epoch) × (watching.watched ≤ root.body.epoch)

module _ {R : Type 0} (digest_of : List ℕ → List ℕ) (value_of signature_of : List ℕ → List ℕ → List ℕ) (stream : R → Stream) (accepted verified : List ℕ → List ℕ → List ℕ → Type 0) where
  abbrev pub provider_of : Parties R → Provider
  provider_of parties = provider digest_of value_of signature_of parties.hub.service.directory

  abbrev pub book_of : Parties R → Book
  book_of parties = book stream parties.hub.service.directory

  -- ---- how all stand

  -- the script's own session is open and holds nothing, the others hold bytes, and the operator's token is a script's
  pub record IsReady (parties : Parties R) : Type 0 where
    pub idle : at_session parties.hub.sessions OWN_SESSION ≡ Some (Rest [])
    pub bytes : HoldBytes parties.hub.sessions
    pub token : parties.hub.service.token ≡ token
    pub key : parties.hub.service.directory.signing_key ≡ parties.key

  -- the hub stands so
  pub record IsHub (parties : Parties R) (stand : Stand) : Type 0 where
    pub book : book_of parties ≡ stand.book
    pub sessions : parties.hub.sessions ≡ stand.sessions
    pub ready : IsReady parties

  -- the client and the auditor have taken these roots, and each monitor those from its first on
  pub record HaveTaken (parties : Parties R) (stand : Stand) (taken : List SignedRoot) : Type 0 where
    pub client : parties.client.chain ≡ chain_under parties.key taken
    pub auditor : chain_of parties.auditor parties.key ≡ Some (chain_under parties.key taken)
    pub monitors : AllZip (IsWatcher parties.key taken stand.book) parties.monitors stand.watchers

  -- some new pages may be there, whose roots nobody has taken
  pub record AreBehind (parties : Parties R) (stand : Stand) : Type 0 where
    pub hub : IsHub parties stand
    pub taken : List SignedRoot
    pub left : List SignedRoot
    pub all : roots (provider_of parties) stand.book ≡ taken ++ left
    pub have : HaveTaken parties stand taken

  -- between two lines, all have taken all roots
  pub record AreAt (parties : Parties R) (stand : Stand) : Type 0 where
    pub hub : IsHub parties stand
    pub taken : HaveTaken parties stand (roots (provider_of parties) stand.book)

  -- ---- what is asked

  -- The request was asked through session 0, and this text is the frame of the reply. It is one call of the
  -- directory, of which users see what those of an honest provider see.
  pub record HasAsked (before : Parties R) (requested : RequestContent) (text : List ℕ) (after : Parties R) : Type 0 where
    pub form : IsAsked requested
    pub asked : Operation
    pub is : command token requested ≡ Some asked
    pub said : Reply
    pub responded : ResponseContent
    pub frame : text ≡ frame_bytes (reply_frame said)
    pub response : IsResponseOf said responded
    pub read : IsReadAs (reply_frame said) responded
    pub turn : Turn (provider_of before) KeepsNothing NeverFails (book_of before) before.hub.service.keeper asked said (book_of after) after.hub.service.keeper
    pub memory : said ≢ reply.Refused Memory
    pub honest : IsHonestRun (provider_of before) accepted verified before.key (book_of before) (book_of after) (asked ∷ []) (said ∷ [])
    pub laws : KeepsLaws accepted verified before.key (provider_of before)
    pub sound : IsSound (index_of (provider_of before)) (book_of before)
    pub sessions : after.hub.sessions ≡ before.hub.sessions
    pub token : after.hub.service.token ≡ before.hub.service.token
    pub keys : HasKeysOf before.hub.service.directory after.hub.service.directory
    pub others : after ≡ record before { hub = after.hub }

  -- ---- what happens in other sessions

  -- an event was refused, or did what it does, and these replies are appended
  pub record HasHappened (before : Parties R) (it : Happening) (output grown : List ℕ) (after : Parties R) : Type 0 where
    pub exchanges : List Exchange
    pub passes : DoesUnlessRefused (DeskAnswers digest_of value_of signature_of stream KeepsNothing NeverFails) before.hub it exchanges after.hub
    pub grows : grown ≡ output ++ replies exchanges
    pub others : after ≡ record before { hub = after.hub }

  -- The events happened, and these are the replies to their messages, which show one run of the directory.
  -- Users see of it what those of an honest provider see.
  pub record HasHeard (before : Parties R) (events : List Happening) (output : List ℕ) (after : Parties R) : Type 0 where
    pub lines : List Line
    pub runs : Runs (DeskAnswers digest_of value_of signature_of stream KeepsNothing NeverFails) before.hub events lines after.hub
    pub bodies : AllByRecursion IsOfBytes lines
    pub replies : output ≡ flat_map (λ line. line.reply) lines
    pub shown : ShowHonestRun digest_of value_of signature_of stream KeepsNothing NeverFails accepted verified before.hub.service lines after.hub.service
    pub well : IsSoundDesk digest_of value_of signature_of stream accepted verified after.hub.service
    pub well_before : IsSoundDesk digest_of value_of signature_of stream accepted verified before.hub.service
    pub bytes : HoldBytes after.hub.sessions
    pub others : after ≡ record before { hub = after.hub }

  -- ---- what a line does

  -- the lines are appended, and the parties stand so
  pub record HaveDone (before : List ℕ) (lines : List (List ℕ)) (stand : Stand) (printed : List ℕ) (parties : Parties R) : Type 0 where
    pub text : printed ≡ before ++ as_lines lines
    pub stands : AreAt parties stand
