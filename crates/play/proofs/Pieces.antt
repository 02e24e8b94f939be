-- What a piece of another session does to a script.
use Rattle.std.proofs.Common.{◌≡◌, ◌≢◌, ℕ, ◌<◌, List, [], ◌∷◌, ◌++◌, length, map, Bool, true, false, cond, Some, refl, sym, ap, subst, subst₂, ◌∙◌, inl, inr, arith, append_assoc, append-nil}
use Rattle.std.specs.Prelude.{nat_lt}
use Rattle.std.specs.List.{AllZip}
use Rattle.std.proofs.lemmas.Bool.{lt-ltb, ltb-true}
use Rattle.std.proofs.lemmas.List.Concat.{flat_map-append}
use Rattle.rand_core.specs.Stream.{Stream}
use Rattle.rootchain.specs.declared.signed_root.SignedRoot.{SignedRoot}
use Rattle.book.specs.Books.{Book, pages}
use Rattle.book.specs.Keeps.{KeepsNothing, NeverFails}
use Rattle.book.specs.Shows.{Provider, index_of, roots}
use Rattle.book.proofs.Growing.{run-grows, HasGrown}
use Rattle.epochs.specs.DirectoryStates.{book as book_kept, provider as provider_kept}
use Rattle.epochs.proofs.Binding.{same_provider}
use Rattle.wire.specs.Streams.{Remainder, Message}
use Rattle.hub.specs.DeskRuns.{AreResponses, ShowReplies}
use Rattle.hub.specs.Events.{BySession, Happening, at_session}
use Rattle.hub.specs.Runs.{Line, asked_by}
use Rattle.auditor.specs.Chains.{chain_of}
use Rattle.monitor.specs.Monitors.{Monitor}
use Rattle.play.specs.Lines.{as_lines, of_session}
use Rattle.play.specs.Hearing.{response_text}
use Rattle.play.specs.Messages.{held_after}
use Rattle.play.specs.Messages as message
use Rattle.play.specs.Parties.{chain_under, AreAt, AreBehind, HasHeard, HaveDone, HaveTaken, IsHub, IsReady, IsWatcher, Parties}
use Rattle.play.specs.Played.{answered, hear, piece_events, Stand}
use Rattle.play.specs.Scripts.{token}
use Rattle.play.specs.Telling.{session_lines, AreFramesOf, HaveMemory, HeardFrame}
use Rattle.play.specs.Watchers.{all_through}
use Rattle.play.proofs.Grown.{grows_or_stays, roots_grow, roots_stay, run_waits, watchers_still, GrowsOrStays, StillWaits}
use Rattle.play.proofs.Sessions.{held_stays, AreOfOthers}
use Rattle.play.proofs.Turns.{lines_told, messages_of, AreTold}

asked_messages : (lines : List Line) → map (λ (one : ℕ × Message). one.1) (map asked_by lines) ≡ messages_of lines
asked_messages [] = refl
asked_messages (line ∷ more) = ap (λ (rest : List Message). line.message ∷ rest) (asked_messages more)

pub piece_of_other : (session : ℕ) (piece : List ℕ) → 0 < session → AreOfOthers 0 (piece_events session piece)
piece_of_other session piece above = let other : session ≢ 0 = λ same. omega (arith, above, same) in (other, (other, tt))

pub not_less : (m n : ℕ) → ¬ (m < n) → nat_lt m n ≡ false
not_less m n not = by (nat_lt m n) refl
  where
    by : (b : Bool) → nat_lt m n ≡ b → b ≡ false
    by true is = absurd (not (ltb-true m n is))
    by false is = refl

-- ---- the definition, by what is answered and whether pages came

module _ (index : List ℕ → List ℕ) where
  abbrev hear_by : Stand → ℕ → List Happening → List (List ℕ) × Book → Bool → List (List ℕ) × Stand
  hear_by stand session events now grows =
      let seen = cond grows (all_through index (pages now.1) stand.watchers) ([], stand.watchers) in (
        map (of_session session) now.0 ++ seen.0,
        record stand { book = now.1; sessions = held_after stand.sessions events; watchers = seen.1 },
      )

  hear_is : (stand : Stand) (session : ℕ) (piece : List ℕ) (now : List (List ℕ) × Book) (grows : Bool) → answered index stand.book (message.heard stand.sessions (piece_events session piece)) ≡ now
      → nat_lt (length (pages stand.book)) (length (pages now.1)) ≡ grows → hear index stand session piece ≡ hear_by stand session (piece_events session piece) now grows
  hear_is stand session piece now grows is more =
      ap (λ (n : List (List ℕ) × Book). hear_by stand session (piece_events session piece) n (nat_lt (length (pages stand.book)) (length (pages n.1)))) is
      ∙ ap (hear_by stand session (piece_events session piece) now) more

-- ---- texts

pub text_more : (text0 text1 text2 : List ℕ) (own more : List (List ℕ)) → text1 ≡ text0 ++ as_lines own → text2 ≡ text1 ++ as_lines more → text2 ≡ text0 ++ as_lines (own ++ more)
text_more text0 text1 text2 own more one two =
    two ∙ ap (λ (t : List ℕ). t ++ as_lines more) one ∙ append_assoc text0 (as_lines own) (as_lines more)
    ∙ ap (λ (t : List ℕ). text0 ++ t) (sym (flat_map-append (λ (line : List ℕ). line ++ 10 ∷ []) own more))

-- ---- the parties

module _ {R : Type 0} (digest_of : List ℕ → List ℕ) (value_of signature_of : List ℕ → List ℕ → List ℕ) (stream : R → Stream) (accepted verified : List ℕ → List ℕ → List ℕ → Type 0) where
  abbrev P : Parties R → Provider
  P parties = provider_kept digest_of value_of signature_of parties.hub.service.directory

  abbrev B : Parties R → Book
  B parties = book_kept stream parties.hub.service.directory

  abbrev At : Parties R → Stand → Type 0
  At = AreAt digest_of value_of signature_of stream accepted verified

  abbrev Behind : Parties R → Stand → Type 0
  Behind = AreBehind digest_of value_of signature_of stream accepted verified

  abbrev Hears : Parties R → List Happening → List ℕ → Parties R → Type 0
  Hears = HasHeard digest_of value_of signature_of stream accepted verified

  abbrev Done : List ℕ → List (List ℕ) → Stand → List ℕ → Parties R → Type 0
  Done = HaveDone digest_of value_of signature_of stream accepted verified

  abbrev stand_after : Stand → List Happening → Book → Stand
  stand_after stand events book = record stand { book = book; sessions = held_after stand.sessions events }

  -- what is told, and how the parties stand then
  pub record IsPast (before : Parties R) (stand : Stand) (events : List Happening) (output : List ℕ) (after : Parties R) : Type 0 where
    pub heard : List HeardFrame
    pub frames : AreFramesOf output heard
    pub told : HaveMemory heard → answered (index_of (P before)) stand.book (message.heard stand.sessions events) ≡ (map (λ one. response_text one.1) heard, B after)
    pub behind : Behind after (stand_after stand events (B after))
    pub stays : pages (B after) ≡ pages stand.book → At after (stand_after stand events (B after))
    pub grown : GrowsOrStays stand.book (B after)
    pub same : P after ≡ P before

  pub past : (before : Parties R) (stand : Stand) (events : List Happening) (output : List ℕ) (after : Parties R) → AreOfOthers 0 events → At before stand → Hears before events output after
      → IsPast before stand events output after
  past before stand events output after others are h = record {
    heard = t.heard;
    frames = subst (λ (bytes : List ℕ). AreFramesOf bytes t.heard) (sym h.replies) t.are;
    told = λ memory.
        ap (λ (b : Book). answered (index_of (P before)) b (message.heard stand.sessions events)) (sym are.hub.book)
        ∙ ap (λ (all : BySession Remainder). answered (index_of (P before)) (B before) (message.heard all events)) (sym are.hub.sessions)
        ∙ ap (answered (index_of (P before)) (B before)) messages ∙ t.told memory;
    behind = record { hub = hub; taken = taken; left = grows.0; all = all; have = have };
    stays = λ same_pages. record { hub = hub; taken = subst (HaveTaken digest_of value_of signature_of stream accepted verified after now) (sym (stayed same_pages)) have };
    grown = subst (λ (b : Book). GrowsOrStays b (B after)) are.hub.book (grows_or_stays (B before) (B after) growth);
    same = same;
  }
    where
      ready : IsReady digest_of value_of signature_of stream accepted verified before
      ready = are.hub.ready

      -- by the token of a script
      shown : (all : ShowReplies token h.lines h.shown.commands h.shown.replies) × AreResponses token h.lines h.shown.commands h.shown.replies all
      shown = subst (λ (t : List ℕ). (all : ShowReplies t h.lines h.shown.commands h.shown.replies) × AreResponses t h.lines h.shown.commands h.shown.replies all) ready.token (h.shown.shown, h.shown.read)

      t : AreTold (P before) h.lines (B before) (B after)
      t = lines_told (P before) h.lines h.shown.commands h.shown.replies shown.0 (B before) (B after) before.hub.service.keeper after.hub.service.keeper
          h.well_before.sound.ascend h.well.sound.pages h.bodies h.shown.run shown.1

      messages : message.heard before.hub.sessions events ≡ messages_of h.lines
      messages = ap (map (λ (one : ℕ × Message). one.1)) (sym h.runs.messages) ∙ asked_messages h.lines

      growth : HasGrown (B before) (B after)
      growth = run-grows (P before) KeepsNothing NeverFails h.shown.commands h.shown.replies (B before) (B after) before.hub.service.keeper after.hub.service.keeper h.well_before.sound.ascend h.shown.run

      now : Stand
      now = stand_after stand events (B after)

      same : P after ≡ P before
      same = same_provider digest_of value_of signature_of before.hub.service.directory after.hub.service.directory h.shown.keys

      key : after.key ≡ before.key
      key = ap (λ (p : Parties R). p.key) h.others

      hub : IsHub digest_of value_of signature_of stream accepted verified after now
      hub = record {
        book = refl;
        sessions = h.runs.left ∙ ap (λ (all : BySession Remainder). held_after all events) are.hub.sessions;
        ready = record {
          idle = ap (λ (all : BySession Remainder). at_session all 0) h.runs.left ∙ held_stays before.hub.sessions events 0 others ∙ ready.idle;
          bytes = h.bytes;
          token = h.shown.token ∙ ready.token;
          key = h.shown.keys.1 ∙ ready.key ∙ sym key;
        };
      }

      taken : List SignedRoot
      taken = roots (P before) stand.book

      grows : (left : List SignedRoot) × (roots (P before) (B after) ≡ roots (P before) (B before) ++ left)
      grows = roots_grow (P before) (B before) (B after) growth.more growth.is

      all : roots (P after) (B after) ≡ taken ++ grows.0
      all = ap (λ (p : Provider). roots p (B after)) same ∙ grows.1 ∙ ap (λ (b : Book). roots (P before) b ++ grows.0) are.hub.book

      stayed : pages (B after) ≡ pages stand.book → roots (P after) (B after) ≡ taken
      stayed same_pages = ap (λ (p : Provider). roots p (B after)) same ∙ roots_stay (P before) stand.book (B after) same_pages

      waits : StillWaits stand.book (B after)
      waits = subst (λ (b : Book). StillWaits b (B after)) are.hub.book
          (run_waits (P before) h.shown.commands h.shown.replies (B before) (B after) before.hub.service.keeper after.hub.service.keeper h.shown.run)

      have : HaveTaken digest_of value_of signature_of stream accepted verified after now taken
      have = record {
        client = ap (λ (p : Parties R). p.client.chain) h.others ∙ are.taken.client ∙ ap (λ (k : List ℕ). chain_under k taken) (sym key);
        auditor = subst (λ (k : List ℕ). chain_of after.auditor k ≡ Some (chain_under k taken)) (sym key) (ap (λ (p : Parties R). chain_of p.auditor before.key) h.others ∙ are.taken.auditor);
        monitors = subst₂ (λ (k : List ℕ) (monitors : List Monitor). AllZip (IsWatcher k taken (B after)) monitors stand.watchers) (sym key) (ap (λ (p : Parties R). p.monitors) (sym h.others))
            (watchers_still before.key taken stand.book (B after) before.monitors stand.watchers waits are.taken.monitors);
      }

  -- ---- the line

  module _ (before : Parties R) (stand : Stand) (session : ℕ) (piece output text0 text1 : List ℕ) (middle : Parties R)
      (p : IsPast before stand (piece_events session piece) output middle)
      (tells : (heard : List HeardFrame) → AreFramesOf output heard → (text1 ≡ text0 ++ as_lines (session_lines session heard)) × HaveMemory heard) where
    abbrev events : List Happening
    events = piece_events session piece

    abbrev texts : List (List ℕ)
    texts = map (λ (one : HeardFrame). response_text one.1) p.heard

    abbrev index : List ℕ → List ℕ
    index = index_of (P before)

    -- the lines and the stand of the definition
    abbrev IsDone : List ℕ → Parties R → List (List ℕ) × Stand → Type 0
    IsDone text parties now = Done text0 now.0 now.1 text parties

    -- no page came
    pub hears_only : ¬ (stand.book.last.epoch < middle.hub.service.directory.last.epoch) → Done text0 (hear index stand session piece).0 (hear index stand session piece).1 text1 middle
    hears_only not = elim p.grown [
      | inl more ↦ absurd (not more.1)
      | inr same ↦
          let (wrote, memory) = tells p.heard p.frames in
          let few : nat_lt (length (pages stand.book)) (length (pages (B middle))) ≡ false = not_less _ _ (λ less. omega (arith, less, ap length same.0)) in
          subst (IsDone text1 middle) (sym (hear_is index stand session piece (texts, B middle) false (p.told memory) few))
          (record { text = wrote ∙ ap (λ (lines : List (List ℕ)). text0 ++ as_lines lines) (sym (append-nil (session_lines session p.heard))); stands = p.stays same.0 })
    ]

    -- pages came, and the monitors went on
    pub hears_on : (text2 : List ℕ) (after : Parties R) → stand.book.last.epoch < middle.hub.service.directory.last.epoch
        → ((now : Stand) → Behind middle now → Done text1 (all_through (index_of (P middle)) (pages now.book) now.watchers).0
        (record now { watchers = (all_through (index_of (P middle)) (pages now.book) now.watchers).1 }) text2 after)
        → Done text0 (hear index stand session piece).0 (hear index stand session piece).1 text2 after
    hears_on text2 after above follows = elim p.grown [
      | inl more ↦
          let (wrote, memory) = tells p.heard p.frames in
          let many : nat_lt (length (pages stand.book)) (length (pages (B middle))) ≡ true = lt-ltb _ _ more.0 in
          let seen = λ (by : Provider). all_through (index_of by) (pages (B middle)) stand.watchers in
          let done : Done text1 (seen (P before)).0 (record (stand_after stand events (B middle)) { watchers = (seen (P before)).1 }) text2 after =
          subst (λ (by : Provider). Done text1 (seen by).0 (record (stand_after stand events (B middle)) { watchers = (seen by).1 }) text2 after) p.same
          (follows (stand_after stand events (B middle)) p.behind) in
          subst (IsDone text2 after) (sym (hear_is index stand session piece (texts, B middle) true (p.told memory) many))
          (record { text = text_more text0 text1 text2 (session_lines session p.heard) (seen (P before)).0 wrote done.text; stands = done.stands })
      | inr same ↦ absurd (omega (arith, above, same.1))
    ]
