-- What sessions are told is what the definition of scripts says.
use Rattle.std.proofs.Common.{◌≡◌, ℕ, List, [], ◌∷◌, ◌++◌, map, replicate, Option, Some, None, Result, Ok, Err, AllPairs, Contains, refl, sym, ap, ap₂, subst, ◌∙◌, inl, inr, arith}
use Rattle.std.specs.Prelude.{◌==◌, if◌then◌else◌, codes, decimal}
use Rattle.std.specs.List.{AllByRecursion, AllZip, flat_map}
use Rattle.rootchain.specs.declared.body.Body.{Body}
use Rattle.rootchain.specs.declared.signed_root.SignedRoot.{SignedRoot}
use Rattle.proofs.specs.Replies.{Reply as Spelled, SpellsReply}
use Rattle.proofs.specs.declared.reply_refusal.Refusal.TheVariants.{OtherRoot}
use Rattle.proofs.proofs.Passing.{one_reply}
use Rattle.commands.specs.Operations as ask
use Rattle.commands.specs.Operations.{Operation, Query, Edit, Put, Promise, Lookup, History, Head}
use Rattle.wire.specs.Frames.{Frame}
use Rattle.wire.specs.declared.message_refusals.ReadRefusal.{ReadRefusal}
use Rattle.wire.specs.declared.message_refusals.ReadRefusal.TheVariants.{BadKind, BadBody}
use Rattle.wire.specs.Refusals.{read_refusal_number}
use Rattle.wire.specs.Requests.{RequestContent, read_request, request_body, request_frame, request_kind, Asks, IsAsked, ReadsContent}
use Rattle.wire.specs.Responses as response
use Rattle.wire.specs.Responses.{ResponseContent, response_frame}
use Rattle.wire.specs.Streams.{Message, Whole, BadFrame}
use Rattle.wire.proofs.Requests.{is_unknown, one_request, reads_more, reads_none, reads_whole}
use Rattle.book.specs.declared.record.Record.{Record}
use Rattle.book.specs.declared.directory_refusal.Refusal.{Refusal}
use Rattle.book.specs.declared.reply.Reply.{Reply}
use Rattle.book.specs.declared.reply.Reply.TheVariants as reply_of
use Rattle.book.specs.Steps.{Answer, Found, Last, Outcome, Answers, Refuses, step, kept_of}
use Rattle.book.specs.Books.{Binding, Book, Page, pages}
use Rattle.book.specs.Honest.{key_at, latest_after, IsAskedBy, IsHonestRun, IsSaidAt}
use Rattle.book.specs.Refusals.{book_refusal_number}
use Rattle.book.specs.Replies.{Refused}
use Rattle.book.specs.Shows.{Provider, index_of, sealed_behind, IsRootOf}
use Rattle.book.specs.Turns.{Declines, Run, Shows, Turn}
use Rattle.book.proofs.Growing.{run-grows}
use Rattle.book.proofs.Members.{first-there, later-there}
use Rattle.book.proofs.OneRoot.{one-root}
use Rattle.book.proofs.Running.{last-now, refused-latest}
use Rattle.book.proofs.Soundness.{IsBefore}
use Rattle.book.proofs.Stepping.{Does, due_steps, finds, refused_due, stepped}
use Rattle.book.proofs.Turning.{asked-page}
use Rattle.hub.specs.DeskRuns.{AreResponses, IsTurnedAway, Reaches, ShowReplies}
use Rattle.hub.specs.Desks.{reply_frame, IsResponseOf}
use Rattle.hub.specs.Runs.{Line, asked_by}
use Rattle.play.specs.Hearing.{response_text, HasFrameBytes, IsGranted, IsHeardAs, IsOfBytes, RunsAreHeard}
use Rattle.play.specs.Lines.{answer_text, last_epoch, upshot_text}
use Rattle.play.specs.Messages.{Upshot, asks, comes_of, upshot_of, reading_asks, request_asks}
use Rattle.play.specs.Played.{answered}
use Rattle.play.specs.Scripts.{token}
use Rattle.play.proofs.Calling.{rooted-epoch}

-- ---- what messages ask

pub reached-asks : (message : Message) (asked : Operation) → HasFrameBytes message → Reaches token message asked → asks message ≡ Ok asked
reached-asks BadFrame asked small reaches = absurd reaches
reached-asks (Whole frame) asked small (requested, read, is) = by (read_request frame.kind frame.body) refl
  where
    by : (r : Result (RequestContent × List ℕ) ReadRefusal) → read_request frame.kind frame.body ≡ r → reading_asks r ≡ Ok asked
    by (Ok (other, [])) e =
        let same : other ≡ requested = one_request frame.kind frame.body other requested (reads_whole frame.kind frame.body other small e) read in
        rw (same, is) refl
    by (Ok (other, byte ∷ more)) e = absurd ((reads_more frame.kind frame.body other (byte ∷ more) (λ f. absurd cc) e).1 requested read)
    by (Err BadKind) e = absurd (is_unknown frame.kind frame.body e (requested, read.0))
    by (Err BadBody) e = absurd ((reads_none frame.kind frame.body e).1 requested read)

pub away-asks : (message : Message) (code : ℕ) → HasFrameBytes message → IsTurnedAway token message code → asks message ≡ Err code
away-asks BadFrame code small is = ap Err (sym is)
away-asks (Whole frame) code small (inl (refusal, read, is)) = by refusal read is (read_request frame.kind frame.body) refl
  where
    by : (refusal : ReadRefusal) → ReadsContent frame.kind frame.body (Err refusal) → code ≡ read_refusal_number refusal → (r : Result (RequestContent × List ℕ) ReadRefusal) → read_request frame.kind frame.body ≡ r
        → reading_asks r ≡ Err code
    by BadKind read is (Ok (other, [])) e = absurd (read (other, (reads_whole frame.kind frame.body other small e).0))
    by BadKind read is (Ok (other, byte ∷ more)) e = absurd (read (reads_more frame.kind frame.body other (byte ∷ more) (λ f. absurd cc) e).0)
    by BadKind read is (Err BadKind) e = ap Err (sym is)
    by BadKind read is (Err BadBody) e = absurd (read (reads_none frame.kind frame.body e).0)
    by BadBody read is (Ok (other, [])) e = absurd (read.1 other (reads_whole frame.kind frame.body other small e))
    by BadBody read is (Ok (other, byte ∷ more)) e = ap Err (sym is)
    by BadBody read is (Err BadKind) e = absurd (is_unknown frame.kind frame.body e read.0)
    by BadBody read is (Err BadBody) e = ap Err (sym is)
away-asks (Whole frame) code small (inr (requested, read, none, is)) = by (read_request frame.kind frame.body) refl
  where
    by : (r : Result (RequestContent × List ℕ) ReadRefusal) → read_request frame.kind frame.body ≡ r → reading_asks r ≡ Err code
    by (Ok (other, [])) e =
        let same : other ≡ requested = one_request frame.kind frame.body other requested (reads_whole frame.kind frame.body other small e) read in
        rw (same, none, is) refl
    by (Ok (other, byte ∷ more)) e = absurd ((reads_more frame.kind frame.body other (byte ∷ more) (λ f. absurd cc) e).1 requested read)
    by (Err BadKind) e = absurd (is_unknown frame.kind frame.body e (requested, read.0))
    by (Err BadBody) e = absurd ((reads_none frame.kind frame.body e).1 requested read)

-- the frame of a request asks what the request does
pub frame-asks : (requested : RequestContent) → IsAsked requested → HasFrameBytes (Whole (request_frame requested)) → asks (Whole (request_frame requested)) ≡ request_asks requested
frame-asks requested is small = by (read_request (request_kind requested) (request_body requested)) refl
  where
    own : Asks (request_kind requested) (request_body requested) requested
    own = (refl, (refl, is))

    by : (r : Result (RequestContent × List ℕ) ReadRefusal) → read_request (request_kind requested) (request_body requested) ≡ r → reading_asks r ≡ request_asks requested
    by (Ok (other, [])) e = ap request_asks (one_request (request_kind requested) (request_body requested) other requested (reads_whole (request_kind requested) (request_body requested) other small e) own)
    by (Ok (other, byte ∷ more)) e = absurd ((reads_more (request_kind requested) (request_body requested) other (byte ∷ more) (λ f. absurd cc) e).1 requested own)
    by (Err BadKind) e = absurd (is_unknown (request_kind requested) (request_body requested) e (requested, refl))
    by (Err BadBody) e = absurd ((reads_none (request_kind requested) (request_body requested) e).1 requested own)

-- ---- runs of a hub

messages-asked : (lines : List Line) → map (λ (line : Line). line.message) lines ≡ map (λ (one : ℕ × Message). one.1) (map asked_by lines)
messages-asked [] = refl
messages-asked (line ∷ more) = ap (λ (rest : List Message). line.message ∷ rest) (messages-asked more)

pub runs-heard : {S : Type 0} (answers : S → Frame → List ℕ → S → Type 0) → RunsAreHeard answers
runs-heard answers before after events lines run = (messages-asked lines ∙ ap (map (λ (one : ℕ × Message). one.1)) run.messages, run.left)

-- ---- the last root

-- the epoch of the last page, or this one where there is none
abbrev last-behind : ℕ → List Page → ℕ
last-behind epoch [] = epoch
last-behind epoch (page ∷ more) = last-behind page.epoch more

is-last : (first : Page) (more : List Page) → last_epoch (first ∷ more) ≡ last-behind first.epoch more
is-last first [] = refl
is-last first (page ∷ more) = is-last page more

before-last : (earlier : List Page) → last_epoch earlier ≡ last-behind 0 earlier
before-last [] = refl
before-last (first ∷ more) = is-last first more

module _ (provider : Provider) where
  last-root : (epoch : ℕ) (hash : List ℕ) (earlier : List Page) (last : Page)
      → (root : SignedRoot) × Contains (sealed_behind provider epoch hash (earlier ++ last ∷ [])) (record { page = last; root = root }) × (root.body.previous_epoch ≡ last-behind epoch earlier)
  last-root epoch hash [] last = (_, first-there _ [], refl)
  last-root epoch hash (first ∷ more) last = let r = last-root first.epoch _ more last in (r.0, later-there _ _ _ r.1, r.2)

  pub previous-epoch : (book : Book) → AllPairs IsBefore (pages book) → (root : SignedRoot) → IsRootOf provider book book.last root → root.body.previous_epoch ≡ last_epoch book.earlier
  previous-epoch book up root is =
      let r = last-root 0 (replicate 32 0) book.earlier book.last in
      let same : r.0 ≡ root = one-root provider book up book.last r.0 root r.1 is in
      ap (λ (x : SignedRoot). x.body.previous_epoch) (sym same) ∙ r.2 ∙ sym (before-last book.earlier)

  roots-text : (book : Book) (shown : List Page) (roots : List SignedRoot) → AllZip (IsRootOf provider book) shown roots
      → flat_map (λ (root : SignedRoot). codes " " ++ decimal root.body.epoch) roots ≡ flat_map (λ (page : Page). codes " " ++ decimal page.epoch) shown
  roots-text book [] [] are = refl
  roots-text book [] (root ∷ roots) are = absurd are
  roots-text book (page ∷ shown) [] are = absurd are
  roots-text book (page ∷ shown) (root ∷ roots) are =
      ap₂ (λ (e : ℕ) (rest : List ℕ). (codes " " ++ decimal e) ++ rest) (rooted-epoch provider book page root are.0) (roots-text book shown roots are.1)

  -- ---- one turn

  -- the replies to look-ups that are told are of the pages that were asked for
  abbrev pub AreOfPages : ℕ → List Operation → List Reply → Type 0
  AreOfPages now commands replies = (latest : ℕ) (name : List ℕ) (epoch : ℕ) (text : List ℕ) → IsSaidAt now commands replies latest (Query (Lookup name epoch)) (reply_of.Found text)
      → (read : Spelled) → SpellsReply text read → read.body.epoch ≡ (if epoch == 0 then latest else epoch)

  -- what comes of a command, and the book after it
  abbrev Comes : Book → Operation → Upshot × Book
  Comes book asked = comes_of (index_of provider) book (Ok asked)

  comes-answer : (book after : Book) (asked : Operation) (answer : Answer) → step (index_of provider) book asked ≡ (Answers answer, after) → Comes book asked ≡ (Ok answer, after)
  comes-answer book after asked answer is = ap (λ (now : Outcome × Book). (upshot_of now.0, now.1)) is

  -- the page of an answer with a page is the last one
  last-of : (book after : Book) (asked : Operation) (answer : Answer) (page : Page) → Does book asked answer after → answer ≡ Last page → page ≡ after.last
  last-of book after (Query (Promise name)) answer page (found, same) is = let e = sym (finds book (Promise name) answer found).2 ∙ is in absurd cc
  last-of book after (Query (Lookup name epoch)) answer page (found, same) is = let e = sym (finds book (Lookup name epoch) answer found).2 ∙ is in absurd cc
  last-of book after (Query (History from count)) answer page (found, same) is = let e = sym (finds book (History from count) answer found) ∙ is in absurd cc
  last-of book after (Query Head) answer page (found, same) is =
      let e : Last book.last ≡ Last page = sym (finds book Head answer found) ∙ is in
      let own : book.last ≡ page = cc in
      sym own ∙ ap (λ (b : Book). b.last) (sym same)
  last-of book after (Edit (Put verb name key)) answer page does is = let e = sym does.0 ∙ is in absurd cc
  last-of book after (Edit (ask.Turn epoch _)) answer page does is =
      let e = sym does.0 ∙ is in
      let own : after.last ≡ page = ap (λ (b : Book). b.last) does.1 ∙ cc in
      sym own

  -- what is found is of the page that was asked for
  found-of : (book after : Book) (asked : Operation) (answer : Answer) (page : Page) (name : List ℕ) (held : Option Binding) → Does book asked answer after → answer ≡ Found page name held
      → (epoch : ℕ) × (asked ≡ Query (Lookup name epoch)) × IsAskedBy book.last.epoch epoch page
  found-of book after (Query (Promise own)) answer page name held (found, same) is = let e = sym (finds book (Promise own) answer found).2 ∙ is in absurd cc
  found-of book after (Query (Lookup own epoch)) answer page name held (found, same) is =
      let f = finds book (Lookup own epoch) answer found in
      let e = sym f.2 ∙ is in
      let one : f.0 ≡ page = cc in
      let named : own ≡ name = cc in
      (epoch, ap (λ (n : List ℕ). Query (Lookup n epoch)) named, subst (IsAskedBy book.last.epoch epoch) one (asked-page book epoch f.0 f.1))
  found-of book after (Query (History from count)) answer page name held (found, same) is = let e = sym (finds book (History from count) answer found) ∙ is in absurd cc
  found-of book after (Query Head) answer page name held (found, same) is = let e = sym (finds book Head answer found) ∙ is in absurd cc
  found-of book after (Edit (Put verb own key)) answer page name held does is = let e = sym does.0 ∙ is in absurd cc
  found-of book after (Edit (ask.Turn epoch _)) answer page name held does is = let e = sym does.0 ∙ is in absurd cc

  -- the line of a reply that shows an answer
  shows-text : (book after : Book) (asked : Operation) (answer : Answer) (said : Reply) (responded : ResponseContent) → AllPairs IsBefore (pages after) → Does book asked answer after → Shows provider after answer said
      → IsResponseOf said responded → AreOfPages book.last.epoch (asked ∷ []) (said ∷ []) → response_text responded ≡ answer_text after answer
  shows-text book after asked answer (reply_of.Promised signed) responded up does (name, binding, root, is, rooted, same) responds of_pages =
      rw (responds, is, same) (ap (λ (e : ℕ). codes "promise " ++ decimal e) (rooted-epoch provider after after.last root rooted))
  shows-text book after asked answer (reply_of.Found text) responded up does (page, name, held, root, is, rooted, shown) (read, spelled, responds) of_pages =
      let f = found-of book after asked answer page name held does is in
      let e : read.body.epoch ≡ page.epoch = of_pages book.last.epoch name f.0 text (inl (refl, f.1, refl)) read spelled ∙ sym f.2 in
      rw (responds, is) (ap (λ (n : ℕ). codes "proof " ++ decimal n) e)
  shows-text book after asked answer (reply_of.Told told_roots) responded up does (shown, is, are) responds of_pages =
      rw (responds, is) (ap (λ (rest : List ℕ). codes "roots" ++ rest) (roots-text after shown told_roots.items are))
  shows-text book after asked answer (reply_of.Last root) responded up does (page, is, rooted) responds of_pages =
      let own = last-of book after asked answer page does is in
      let at_last : IsRootOf provider after after.last root = subst (λ (p : Page). IsRootOf provider after p root) own rooted in
      rw (responds, is) (ap₂ (λ (e p : ℕ). codes "root " ++ decimal e ++ codes " after " ++ decimal p) (rooted-epoch provider after after.last root at_last) (previous-epoch after up root at_last))
  shows-text book after asked answer (reply_of.Refused why) responded up does shows responds of_pages = absurd shows

  module _ {K : Type 0} (kept failed : K → Record → K → Type 0) where
    -- what a turn tells of the step, where it was granted
    pub record IsTurned (book : Book) (asked : Operation) (said : Reply) (after : Book) (responded : ResponseContent) : Type 0 where
      pub book_after : (Comes book asked).1 ≡ after
      pub line : response_text responded ≡ upshot_text (answer_text after) (Comes book asked).0
      pub latest : latest_after book.last.epoch asked said ≡ after.last.epoch

    turned-answer : (book after : Book) (asked : Operation) (said : Reply) (responded : ResponseContent) → AllPairs IsBefore (pages after) → (answer : Answer)
        → step (index_of provider) book asked ≡ (Answers answer, after) → Shows provider after answer said
        → IsResponseOf said responded → AreOfPages book.last.epoch (asked ∷ []) (said ∷ []) → IsTurned book asked said after responded
    turned-answer book after asked said responded up answer is shows responds of_pages =
        let done = (stepped (index_of provider) book asked answer after is).does in
        let comes = comes-answer book after asked answer is in
        record {
          book_after = ap (λ (now : Upshot × Book). now.1) comes;
          line = shows-text book after asked answer said responded up done shows responds of_pages ∙ ap (λ (now : Upshot × Book). upshot_text (answer_text after) now.0) (sym comes);
          latest = sym (last-now provider book after asked answer said done shows);
        }

    -- where a command was granted, it is refused as its step is
    pub given-up : (keeper later : K) (why : Refusal) (answer : Answer) (lost : Option Record) → IsGranted (reply_of.Refused why) → Declines provider kept failed (Answers answer) lost keeper why later → ⊥
    given-up keeper later why answer None granted d = d
    given-up keeper later why answer (Some lost) granted (inl memory) = granted.0 (ap Refused memory.0)
    given-up keeper later why answer (Some lost) granted (inr unkept) = granted.1 (ap Refused unkept.0)

    turned-refusal : (book after : Book) (keeper later : K) (asked : Operation) (why : Refusal) (responded : ResponseContent) → after ≡ book
        → Declines provider kept failed (step (index_of provider) book asked).0 (kept_of book asked) keeper why later → IsGranted (reply_of.Refused why)
        → responded ≡ response.Refused (book_refusal_number why) → IsTurned book asked (reply_of.Refused why) after responded
    turned-refusal book after keeper later asked why responded stays declines granted responds = by (step (index_of provider) book asked).0 refl declines
      where
        by : (outcome : Outcome) → (step (index_of provider) book asked).0 ≡ outcome → Declines provider kept failed outcome (kept_of book asked) keeper why later
            → IsTurned book asked (reply_of.Refused why) after responded
        by (Answers answer) is d = absurd (given-up keeper later why answer (kept_of book asked) granted d)
        by (Refuses due) is d =
            let all : step (index_of provider) book asked ≡ (Refuses due, book) = due_steps (index_of provider) book asked due (refused_due (index_of provider) book asked due is) in
            let comes : Comes book asked ≡ (Err (book_refusal_number due), book) = ap (λ (now : Outcome × Book). (upshot_of now.0, now.1)) all in
            record {
              book_after = ap (λ (now : Upshot × Book). now.1) comes ∙ sym stays;
              line = rw responds (ap (λ (w : Refusal). codes "refused " ++ decimal (book_refusal_number w)) d.0) ∙ ap (λ (now : Upshot × Book). upshot_text (answer_text after) now.0) (sym comes);
              latest = refused-latest book.last.epoch asked why ∙ ap (λ (b : Book). b.last.epoch) (sym stays);
            }

    pub turned : (book after : Book) (keeper later : K) (asked : Operation) (said : Reply) (responded : ResponseContent) → AllPairs IsBefore (pages after)
        → Turn provider kept failed book keeper asked said after later → IsGranted said → IsResponseOf said responded → AreOfPages book.last.epoch (asked ∷ []) (said ∷ [])
        → IsTurned book asked said after responded
    turned book after keeper later asked (reply_of.Refused why) responded up (stays, declines) granted responds of_pages = turned-refusal book after keeper later asked why responded stays declines granted responds
    turned book after keeper later asked (reply_of.Promised signed) responded up (answer, is, keeps, shows) granted responds of_pages = turned-answer book after asked (reply_of.Promised signed) responded up answer is shows responds of_pages
    turned book after keeper later asked (reply_of.Found text) responded up (answer, is, keeps, shows) granted responds of_pages = turned-answer book after asked (reply_of.Found text) responded up answer is shows responds of_pages
    turned book after keeper later asked (reply_of.Told roots) responded up (answer, is, keeps, shows) granted responds of_pages = turned-answer book after asked (reply_of.Told roots) responded up answer is shows responds of_pages
    turned book after keeper later asked (reply_of.Last root) responded up (answer, is, keeps, shows) granted responds of_pages = turned-answer book after asked (reply_of.Last root) responded up answer is shows responds of_pages

    -- ---- all lines of a hub

    abbrev messages_of : List Line → List Message
    messages_of lines = map (λ (line : Line). line.message) lines

    -- what the definition says of messages, from a book on
    abbrev Heard : List Line → Book → Book → Type 0
    Heard lines book after = ((answered (index_of provider) book (messages_of lines)).1 ≡ after) × AllZip IsHeardAs lines (answered (index_of provider) book (messages_of lines)).0

    -- a line and those behind it, by what comes of its message
    abbrev HeardFrom : Line → List Line → Book → Upshot × Book → Type 0
    HeardFrom line more after now = ((answered (index_of provider) now.1 (messages_of more)).1 ≡ after)
        × AllZip IsHeardAs (line ∷ more) (upshot_text (answer_text now.1) now.0 ∷ (answered (index_of provider) now.1 (messages_of more)).0)

    nothing-run : (commands : List Operation) (replies : List Reply) (book after : Book) (keeper later : K) → commands ≡ [] → replies ≡ [] → Run provider kept failed book keeper commands replies after later → book ≡ after
    nothing-run [] [] book after keeper later e f run = sym run.0
    nothing-run [] (reply ∷ replies) book after keeper later e f run = absurd run
    nothing-run (asked ∷ commands) replies book after keeper later e f run = absurd cc

    pub hears : (lines : List Line) (commands : List Operation) (replies : List Reply) (shown : ShowReplies token lines commands replies) (book after : Book) (keeper later : K)
        → AllPairs IsBefore (pages book) → AllByRecursion IsOfBytes lines → Run provider kept failed book keeper commands replies after later → AreResponses token lines commands replies shown
        → AreOfPages book.last.epoch commands replies → AllByRecursion IsGranted replies → Heard lines book after
    hears [] commands replies (none, said) book after keeper later up small run read of_pages granted = (nothing-run commands replies book after keeper later none said run, tt)
    hears (line ∷ more) commands replies (inl (code, away, says, shown)) book after keeper later up small run (read, reads) of_pages granted =
        let rest = hears more commands replies shown book after keeper later up small.1 run reads of_pages granted in
        subst (HeardFrom line more after) (ap (comes_of (index_of provider) book) (sym (away-asks line.message code small.0 away)))
        (rest.0, ((response_frame (response.Refused code), response.Refused code, says, read, refl), rest.1))
    hears (line ∷ more) commands replies (inr (asked, said, later_commands, others, reaches, says, is, are, shown)) book after keeper later up small run ((responded, responds, read), reads) of_pages granted =
        let whole : Run provider kept failed book keeper (asked ∷ later_commands) (said ∷ others) after later
        = subst (λ (rs : List Reply). Run provider kept failed book keeper (asked ∷ later_commands) rs after later) are (subst (λ (cs : List Operation). Run provider kept failed book keeper cs replies after later) is run) in
        let all_granted : AllByRecursion IsGranted (said ∷ others) = subst (AllByRecursion IsGranted) are granted in
        let pages_of : AreOfPages book.last.epoch (asked ∷ later_commands) (said ∷ others)
        = subst (λ (rs : List Reply). AreOfPages book.last.epoch (asked ∷ later_commands) rs) are (subst (λ (cs : List Operation). AreOfPages book.last.epoch cs replies) is of_pages) in
        let middle = whole.0 in
        let up_after = (run-grows provider kept failed (asked ∷ []) (said ∷ []) book middle keeper whole.1 up (middle, whole.1, whole.2, (refl, refl))).ascend in
        let t = turned book middle keeper whole.1 asked said responded up_after whole.2 all_granted.0 responds (first-only pages_of) in
        let rest = hears more later_commands others shown middle after whole.1 later up_after small.1 whole.3 reads
        (λ latest name epoch text at. pages_of latest name epoch text (inr (subst (λ (now : ℕ). IsSaidAt now later_commands others latest (Query (Lookup name epoch)) (reply_of.Found text)) (sym t.latest) at))) all_granted.1 in
        let heard : HeardFrom line more after ((Comes book asked).0, middle) = (rest.0, ((reply_frame said, responded, says, read, sym t.line), rest.1)) in
        subst (HeardFrom line more after) (ap (λ (b : Book). ((Comes book asked).0, b)) (sym t.book_after) ∙ ap (comes_of (index_of provider) book) (sym (reached-asks line.message asked small.0 reaches))) heard
      where
        first-only : AreOfPages book.last.epoch (asked ∷ later_commands) (said ∷ others) → AreOfPages book.last.epoch (asked ∷ []) (said ∷ [])
        first-only of latest name epoch text (inl here) = of latest name epoch text (inl here)
        first-only of latest name epoch text (inr none) = absurd none

  -- the replies of an honest run are of the pages that were asked for
  pub of-pages : (accepted verified : List ℕ → List ℕ → List ℕ → Type 0) (key : List ℕ) (before after : Book) (commands : List Operation) (replies : List Reply)
      → IsHonestRun provider accepted verified key before after commands replies → AreOfPages before.last.epoch commands replies
  of-pages accepted verified key before after commands replies h latest name epoch text said read spelled = elim (h.found latest name epoch text said) [
    | inl a ↦
        let accepts = (a.states (key_at a.page name)).1 refl in
        let same : accepts.0 ≡ read = one_reply text accepts.0 read accepts.1 spelled in
        ap (λ (r : Spelled). r.body.epoch) (sym same) ∙ ap (λ (b : Body). b.epoch) accepts.2.of_body ∙ rooted-epoch provider after a.page a.root a.is ∙ a.asked
    | inr d ↦
        let same : d.reply ≡ read = one_reply text d.reply read d.spelled spelled in
        ap (λ (r : Spelled). r.body.epoch) (sym same) ∙ ap (λ (b : Body). b.epoch) (d.refused.before OtherRoot (omega arith)) ∙ rooted-epoch provider after d.page d.root d.is ∙ d.asked
  ]
