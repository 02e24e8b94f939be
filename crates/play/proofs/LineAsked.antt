-- What a line that asks does to a script.
use Rattle.std.proofs.Common.{◌≡◌, ℕ, Global, ◌<◌, List, [], ◌∷◌, ◌++◌, length, Bool, true, false, cond, Option, Some, Ok, refl, sym, ap, subst, ◌∙◌, inl, inr, arith, append_assoc, append-nil}
use Rattle.std.specs.Prelude.{nat_lt, Vec}
use Rattle.std.specs.List.{AllZip}
use Rattle.std.proofs.lemmas.Bool.{lt-ltb}
use Rattle.rand_core.specs.Stream.{Stream}
use Rattle.rootchain.specs.declared.signed_root.SignedRoot.{SignedRoot}
use Rattle.commands.specs.declared.edit.Verb.{Verb}
use Rattle.commands.specs.Operations.{AskedKey, Operation, Edit}
use Rattle.commands.specs.Operations as asks
use Rattle.wire.specs.Requests.{RequestContent}
use Rattle.wire.specs.Requests as request
use Rattle.wire.specs.Streams.{Remainder}
use Rattle.hub.specs.Events.{at_session, BySession, HubState}
use Rattle.hub.specs.Desks.{command, DeskState}
use Rattle.auditor.specs.Chains.{chain_of}
use Rattle.monitor.specs.Monitors.{Monitor}
use Rattle.book.specs.declared.keeper.NoKeeper.{NoKeeper}
use Rattle.book.specs.Books.{Book, pages}
use Rattle.book.specs.Keeps.{KeepsNothing, NeverFails}
use Rattle.book.specs.Shows.{Provider, index_of, roots}
use Rattle.book.proofs.Growing.{run-grows, HasGrown}
use Rattle.book.proofs.Stepping.{Does}
use Rattle.epochs.specs.DirectoryStates.{book as book_kept, provider as provider_kept, HasKeysOf}
use Rattle.epochs.proofs.Binding.{same_provider}
use Rattle.play.specs.Checked.{line_of_reply, HasAskedKnowing}
use Rattle.play.specs.Handed.{HasHanded, MayHand}
use Rattle.play.specs.Lines.{as_lines, checked_text, upshot_text}
use Rattle.play.specs.Messages.{comes_of, request_asks, Upshot}
use Rattle.play.specs.Parties.{book_of, chain_under, provider_of, AreAt, AreBehind, HasAsked, HaveDone, HaveTaken, HoldBytes, IsHub, IsWatcher, Parties}
use Rattle.play.specs.Played.{after_promise, Stand}
use Rattle.play.specs.Played as played
use Rattle.play.specs.declared.ask.Ask.{Ask}
use Rattle.play.specs.declared.ask.Ask.TheVariants as made
use Rattle.play.specs.Scripts.{token, ask_seen}
use Rattle.play.specs.Watchers.{all_through, Watcher}
use Rattle.play.proofs.Answered.{come, request-comes}
use Rattle.play.proofs.Comes.{Comes}
use Rattle.play.proofs.Grown.{grows_or_stays, roots_grow, roots_stay, run_waits, watchers_still, GrowsOrStays, StillWaits}
use Rattle.play.proofs.Looked.{Stays}
use Rattle.play.proofs.Pieces.{not_less, text_more}

-- ---- the definition, by what comes of the request and whether pages came

module _ (index : List ℕ → List ℕ) where
  abbrev ask_by : Stand → RequestContent → Upshot × Book → Bool → List (List ℕ) × Stand
  ask_by stand requested now grows =
      let seen = cond grows (all_through index (pages now.1) stand.watchers) ([], stand.watchers) in (
        upshot_text (checked_text index now.1) now.0 ∷ seen.0,
        record stand { book = now.1; watchers = after_promise requested stand.book.last.epoch now.0 seen.1 },
      )

  ask_is : (stand : Stand) (requested : RequestContent) (now : Upshot × Book) (grows : Bool) → comes_of index stand.book (request_asks requested) ≡ now
      → nat_lt (length (pages stand.book)) (length (pages now.1)) ≡ grows → played.ask index stand requested ≡ ask_by stand requested now grows
  ask_is stand requested now grows is more =
      ap (λ (n : Upshot × Book). ask_by stand requested n (nat_lt (length (pages stand.book)) (length (pages n.1)))) is
      ∙ ap (ask_by stand requested now) more

-- ---- the parties

module _ {R : Type 0} (digest_of : List ℕ → List ℕ) (value_of signature_of : List ℕ → List ℕ → List ℕ) (stream : R → Stream) (accepted verified : List ℕ → List ℕ → List ℕ → Type 0) where
  abbrev P : Parties R → Provider
  P = provider_of digest_of value_of signature_of stream accepted verified

  abbrev B : Parties R → Book
  B = book_of digest_of value_of signature_of stream accepted verified

  abbrev At : Parties R → Stand → Type 0
  At = AreAt digest_of value_of signature_of stream accepted verified

  abbrev Behind : Parties R → Stand → Type 0
  Behind = AreBehind digest_of value_of signature_of stream accepted verified

  abbrev Done : List ℕ → List (List ℕ) → Stand → List ℕ → Parties R → Type 0
  Done = HaveDone digest_of value_of signature_of stream accepted verified

  module _ (before asked : Parties R) (stand : Stand) (requested : RequestContent) (text : List ℕ) (are : At before stand)
      (a : HasAsked digest_of value_of signature_of stream accepted verified before requested text asked) where
    knows : before.client.chain ≡ chain_under before.key (roots (P before) (B before))
    knows = are.taken.client ∙ ap (λ (b : Book). chain_under before.key (roots (P before) b)) (sym are.hub.book)

    -- the client had all roots
    pub knowing : (bytes : List ℕ) → bytes ≡ text → HasAskedKnowing digest_of value_of signature_of stream accepted verified before requested bytes asked
    knowing bytes is = record { asked = subst (λ (some : List ℕ). HasAsked digest_of value_of signature_of stream accepted verified before requested some asked) (sym is) a; chain = knows }

    module _ (looked : Parties R) (l : Stays asked looked) where
      -- the promise, if there is one, may be handed out
      pub may-hand : (bytes : List ℕ) → bytes ≡ text → MayHand digest_of value_of signature_of stream accepted verified before asked looked requested bytes stand.watchers
      may-hand bytes is = record {
        was = subst (λ (some : List ℕ). HasAsked digest_of value_of signature_of stream accepted verified before requested some asked) (sym is) a;
        others = l.others;
        are = subst (λ (b : Book). AllZip (IsWatcher before.key (roots (P before) b) b) before.monitors stand.watchers) (sym are.hub.book) are.taken.monitors;
      }

      module _ (after : Parties R) (h : HasHanded digest_of value_of signature_of stream accepted verified before asked looked requested stand.watchers after) where
        abbrev told : Upshot
        told = (come digest_of value_of signature_of stream accepted verified before asked requested text a).told

        -- what comes of it, in the words of the definition
        comes : comes_of (index_of (P before)) stand.book (request_asks requested) ≡ (told, B asked)
        comes =
            ap (λ (b : Book). comes_of (index_of (P before)) b (request_asks requested)) (sym are.hub.book)
            ∙ request-comes digest_of value_of signature_of stream accepted verified before asked requested text a

        abbrev watchers : List Watcher
        watchers = after_promise requested stand.book.last.epoch told stand.watchers

        abbrev now : Stand
        now = record stand { book = B asked; watchers = watchers }

        growth : HasGrown (B before) (B asked)
        growth = run-grows (P before) KeepsNothing NeverFails (a.asked ∷ []) (a.said ∷ []) (B before) (B asked) before.hub.service.keeper asked.hub.service.keeper a.sound.ascend
            (B asked, asked.hub.service.keeper, a.turn, (refl, refl))

        pub grown : GrowsOrStays stand.book (B asked)
        grown = subst (λ (b : Book). GrowsOrStays b (B asked)) are.hub.book (grows_or_stays (B before) (B asked) growth)

        hub_is : after.hub ≡ asked.hub
        hub_is = ap (λ (p : Parties R). p.hub) h.others ∙ ap (λ (p : Parties R). p.hub) l.others

        key_is : after.key ≡ before.key
        key_is = ap (λ (p : Parties R). p.key) h.others ∙ ap (λ (p : Parties R). p.key) l.others ∙ ap (λ (p : Parties R). p.key) a.others

        book_is : B after ≡ B asked
        book_is = ap (λ (hub : HubState (DeskState R NoKeeper)). book_kept stream hub.service.directory) hub_is

        pub same : P after ≡ P before
        same =
            ap (λ (hub : HubState (DeskState R NoKeeper)). provider_kept digest_of value_of signature_of hub.service.directory) hub_is
            ∙ same_provider digest_of value_of signature_of before.hub.service.directory asked.hub.service.directory a.keys

        pub keys : HasKeysOf before.hub.service.directory after.hub.service.directory
        keys = subst (λ (hub : HubState (DeskState R NoKeeper)). HasKeysOf before.hub.service.directory hub.service.directory) (sym hub_is) a.keys

        sessions_are : after.hub.sessions ≡ before.hub.sessions
        sessions_are = ap (λ (hub : HubState (DeskState R NoKeeper)). hub.sessions) hub_is ∙ a.sessions

        hub : IsHub digest_of value_of signature_of stream accepted verified after now
        hub = record {
          book = book_is;
          sessions = sessions_are ∙ are.hub.sessions;
          ready = record {
            idle = ap (λ (sessions : BySession Remainder). at_session sessions 0) sessions_are ∙ are.hub.ready.idle;
            bytes = subst HoldBytes (sym sessions_are) are.hub.ready.bytes;
            token = ap (λ (hub : HubState (DeskState R NoKeeper)). hub.service.token) hub_is ∙ a.token ∙ are.hub.ready.token;
            key = keys.1 ∙ are.hub.ready.key ∙ sym key_is;
          };
        }

        abbrev taken : List SignedRoot
        taken = roots (P before) stand.book

        grows : (left : List SignedRoot) × (roots (P before) (B asked) ≡ roots (P before) (B before) ++ left)
        grows = roots_grow (P before) (B before) (B asked) growth.more growth.is

        all : roots (P after) (B asked) ≡ taken ++ grows.0
        all = ap (λ (p : Provider). roots p (B asked)) same ∙ grows.1 ∙ ap (λ (b : Book). roots (P before) b ++ grows.0) are.hub.book

        stayed : pages (B asked) ≡ pages stand.book → roots (P after) (B asked) ≡ taken
        stayed same_pages = ap (λ (p : Provider). roots p (B asked)) same ∙ roots_stay (P before) stand.book (B asked) same_pages

        watched : AllZip (IsWatcher before.key taken (B asked)) after.monitors watchers
        watched =
            subst (λ (ws : List Watcher). AllZip (IsWatcher before.key taken (B asked)) after.monitors ws)
            (ap (λ (b : Book). after_promise requested b.last.epoch (comes_of (index_of (P before)) b (request_asks requested)).0 stand.watchers) are.hub.book
            ∙ ap (λ (n : Upshot × Book). after_promise requested stand.book.last.epoch n.0 stand.watchers) comes)
            (subst (λ (b : Book). AllZip (IsWatcher before.key (roots (P before) b) (B asked)) after.monitors
            (after_promise requested (B before).last.epoch (comes_of (index_of (P before)) (B before) (request_asks requested)).0 stand.watchers)) are.hub.book h.are)

        have : HaveTaken digest_of value_of signature_of stream accepted verified after now taken
        have = record {
          client = ap (λ (p : Parties R). p.client.chain) h.others ∙ l.chain ∙ ap (λ (p : Parties R). p.client.chain) a.others ∙ are.taken.client ∙ ap (λ (k : List ℕ). chain_under k taken) (sym key_is);
          auditor = subst (λ (k : List ℕ). chain_of after.auditor k ≡ Some (chain_under k taken)) (sym key_is)
              (ap (λ (p : Parties R). chain_of p.auditor before.key) h.others ∙ ap (λ (p : Parties R). chain_of p.auditor before.key) l.others
              ∙ ap (λ (p : Parties R). chain_of p.auditor before.key) a.others ∙ are.taken.auditor);
          monitors = subst (λ (k : List ℕ). AllZip (IsWatcher k taken (B asked)) after.monitors watchers) (sym key_is) watched;
        }

        pub behind : Behind after now
        behind = record { hub = hub; taken = taken; left = grows.0; all = all; have = have }

        stays : pages (B asked) ≡ pages stand.book → At after now
        stays same_pages = record { hub = hub; taken = subst (HaveTaken digest_of value_of signature_of stream accepted verified after now) (sym (stayed same_pages)) have }

        -- where pages came, no promise was asked for
        no_promise : length (pages stand.book) < length (pages (B asked)) → (ws : List Watcher) → after_promise requested stand.book.last.epoch told ws ≡ ws
        no_promise more = by requested a.is told (come digest_of value_of signature_of stream accepted verified before asked requested text a).comes
          where
            by : (r : RequestContent) → command token r ≡ Some a.asked → (said : Upshot) → Comes (P before) (B before) (B asked) a.asked a.said said
                → (ws : List Watcher) → after_promise r stand.book.last.epoch said ws ≡ ws
            by (request.Put verb name key) is (Ok answer) comes ws =
                let put : a.asked ≡ Edit (asks.Put verb name key) = let e : Some (Edit (asks.Put verb name key)) ≡ Some a.asked = is in cc in
                let does = subst (λ (o : Operation). Does (B before) o answer (B asked)) put comes.0 in
                let same_pages : pages (B asked) ≡ pages stand.book = ap (λ (b : Book). pages b) does.1 ∙ ap (λ (b : Book). pages b) are.hub.book in
                absurd (omega (arith, more, ap length same_pages))
            by _ is said comes ws = refl

        -- ---- the line

        abbrev index : List ℕ → List ℕ
        index = index_of (P before)

        abbrev line : List ℕ
        line = upshot_text (checked_text index (B asked)) told

        line_is : line_of_reply digest_of value_of signature_of stream accepted verified before requested ≡ line
        line_is = ap (λ (n : Upshot × Book). upshot_text (checked_text index n.1) n.0) (request-comes digest_of value_of signature_of stream accepted verified before asked requested text a)

        abbrev IsDone : List ℕ → List ℕ → Parties R → List (List ℕ) × Stand → Type 0
        IsDone text0 text1 parties to = Done text0 to.0 to.1 text1 parties

        module _ (text0 text1 : List ℕ) (tells : text1 ≡ text0 ++ line_of_reply digest_of value_of signature_of stream accepted verified before requested ++ 10 ∷ []) where
          wrote : text1 ≡ text0 ++ as_lines (line ∷ [])
          wrote =
              tells ∙ ap (λ (l : List ℕ). text0 ++ l ++ 10 ∷ []) line_is ∙ append_assoc text0 line (10 ∷ [])
              ∙ ap (λ (l : List ℕ). text0 ++ l) (sym (append-nil (line ++ 10 ∷ [])))

          -- no page came
          pub asks_only : ¬ (stand.book.last.epoch < after.hub.service.directory.last.epoch) → Done text0 (played.ask index stand requested).0 (played.ask index stand requested).1 text1 after
          asks_only not = elim grown [
            | inl more ↦ absurd (not (subst (λ (b : Book). stand.book.last.epoch < b.last.epoch) (sym book_is) more.1))
            | inr same_pages ↦
                let few : nat_lt (length (pages stand.book)) (length (pages (B asked))) ≡ false = not_less _ _ (λ less. omega (arith, less, ap length same_pages.0)) in
                subst (IsDone text0 text1 after) (sym (ask_is index stand requested (told, B asked) false comes few))
                (record { text = wrote; stands = stays same_pages.0 })
          ]

          -- pages came, and the monitors went on
          pub asks_on : (text2 : List ℕ) (fin : Parties R) → stand.book.last.epoch < after.hub.service.directory.last.epoch
              → ((next : Stand) → Behind after next → Done text1 (all_through (index_of (P after)) (pages next.book) next.watchers).0
              (record next { watchers = (all_through (index_of (P after)) (pages next.book) next.watchers).1 }) text2 fin)
              → Done text0 (played.ask index stand requested).0 (played.ask index stand requested).1 text2 fin
          asks_on text2 fin above follows = elim grown [
            | inl more ↦
                let many : nat_lt (length (pages stand.book)) (length (pages (B asked))) ≡ true = lt-ltb _ _ more.0 in
                let seen = λ (by : Provider) (ws : List Watcher). all_through (index_of by) (pages (B asked)) ws in
                let none : watchers ≡ stand.watchers = no_promise more.0 stand.watchers in
                let done : Done text1 (seen (P before) stand.watchers).0 (record stand { book = B asked; watchers = (seen (P before) stand.watchers).1 }) text2 fin =
                subst (λ (ws : List Watcher). Done text1 (seen (P before) ws).0 (record stand { book = B asked; watchers = (seen (P before) ws).1 }) text2 fin) none
                (subst (λ (by : Provider). Done text1 (seen by watchers).0 (record stand { book = B asked; watchers = (seen by watchers).1 }) text2 fin) same (follows now behind)) in
                let kept : Done text1 (seen (P before) stand.watchers).0
                (record stand { book = B asked; watchers = after_promise requested stand.book.last.epoch told (seen (P before) stand.watchers).1 }) text2 fin =
                subst (λ (ws : List Watcher). Done text1 (seen (P before) stand.watchers).0 (record stand { book = B asked; watchers = ws }) text2 fin)
                (sym (no_promise more.0 (seen (P before) stand.watchers).1)) done in
                subst (IsDone text0 text2 fin) (sym (ask_is index stand requested (told, B asked) true comes many))
                (record { text = text_more text0 text1 text2 (line ∷ []) (seen (P before) stand.watchers).0 wrote kept.text; stands = kept.stands })
            | inr same_pages ↦ absurd (omega (arith, above, ap (λ (b : Book). b.last.epoch) book_is, same_pages.1))
          ]

-- ---- where no promise is handed out

-- no key was asked for
pub no_put : (ask : Ask) → ((verb : Verb) (name key : Vec ℕ Global) (policy : Option ℕ) → ask ≡ made.Put verb name key policy → ⊥) → (verb : Verb) (name : List ℕ) (key : AskedKey) → ask_seen ask ≡ request.Put verb name key → ⊥
no_put (made.Put own held bound policy) none verb name key is = none own held bound policy refl
no_put (made.Promise held) none verb name key is = absurd cc
no_put (made.Lookup held epoch) none verb name key is = absurd cc
no_put (made.History from count) none verb name key is = absurd cc
no_put made.Head none verb name key is = absurd cc
no_put (made.Turn epoch _) none verb name key is = absurd cc

module _ {R : Type 0} (digest_of : List ℕ → List ℕ) (value_of signature_of : List ℕ → List ℕ → List ℕ) (stream : R → Stream) (accepted verified : List ℕ → List ℕ → List ℕ → Type 0)
    (before asked now : Parties R) (requested : RequestContent) (text : List ℕ) (watchers : List Watcher)
    (may : MayHand digest_of value_of signature_of stream accepted verified before asked now requested text watchers) where
  pub none-handed : ((verb : Verb) (name : List ℕ) (key : AskedKey) → requested ≡ request.Put verb name key → ⊥)
      → HasHanded digest_of value_of signature_of stream accepted verified before asked now requested watchers now
  none-handed none = record { others = refl; are = by requested none }
    where
      by_provider : Provider
      by_provider = provider_of digest_of value_of signature_of stream accepted verified before

      book : Parties R → Book
      book = book_of digest_of value_of signature_of stream accepted verified

      waits : StillWaits (book before) (book asked)
      waits = run_waits by_provider (may.was.asked ∷ []) (may.was.said ∷ []) (book before) (book asked) before.hub.service.keeper asked.hub.service.keeper
          (book asked, asked.hub.service.keeper, may.was.turn, (refl, refl))

      still : AllZip (IsWatcher before.key (roots by_provider (book before)) (book asked)) now.monitors watchers
      still =
          subst (λ (monitors : List Monitor). AllZip (IsWatcher before.key (roots by_provider (book before)) (book asked)) monitors watchers)
          (sym (ap (λ (p : Parties R). p.monitors) may.others ∙ ap (λ (p : Parties R). p.monitors) may.was.others))
          (watchers_still before.key (roots by_provider (book before)) (book before) (book asked) before.monitors watchers waits may.are)

      by : (r : RequestContent) → ((verb : Verb) (name : List ℕ) (key : AskedKey) → r ≡ request.Put verb name key → ⊥)
          → AllZip (IsWatcher before.key (roots by_provider (book before)) (book asked)) now.monitors
          (after_promise r (book before).last.epoch (comes_of (index_of by_provider) (book before) (request_asks requested)).0 watchers)
      by (request.Put verb name key) none = absurd (none verb name key refl)
      by _ none = still
