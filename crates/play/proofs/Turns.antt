-- What is told of one call of the directory is what comes of the step of its book.
use Rattle.std.proofs.Common.{◌≡◌, ◌≢◌, ℕ, ◌^◌, ◌<◌, List, [], ◌∷◌, ◌++◌, drop, map, subst₂, replicate, Option, Some, None, Ok, Err, All, AllPairs, refl, sym, ap, ap₂, subst, ◌∙◌, inl, inr, arith, codes, decimal, append_assoc}
use Rattle.std.specs.List.{flat_map, AllByRecursion, AllZip}
use Rattle.std.proofs.lemmas.List.Elements.{All-contains}
use Rattle.std.proofs.lemmas.List.{get_or_append_left, length-append}
use Rattle.encoding.specs.Endian.{big_bytes, big_number}
use Rattle.encoding.proofs.Beginnings.{same_number_bytes}
use Rattle.encoding.proofs.NumberBytes.{number-of_bytes}
use Rattle.rootchain.specs.Bodies.{body_bytes}
use Rattle.rootchain.specs.declared.body.Body.{Body}
use Rattle.rootchain.specs.declared.signed_promise.SignedPromise.{SignedPromise}
use Rattle.rootchain.specs.declared.signed_root.SignedRoot.{SignedRoot}
use Rattle.proofs.specs.Replies.{Reply as Spelled, SpellsReply}
use Rattle.commands.specs.Operations.{Operation, Question, Query, Edit, Put, Promise, Lookup, History, Head}
use Rattle.commands.specs.Operations as ask
use Rattle.book.specs.declared.keeper.NoKeeper.{NoKeeper}
use Rattle.book.specs.declared.record.Record.{Record}
use Rattle.book.specs.declared.directory_refusal.Refusal.{Refusal}
use Rattle.book.specs.declared.reply.Reply.{Reply}
use Rattle.book.specs.declared.reply.Reply.TheVariants as reply
use Rattle.book.specs.Steps.{Answer, Promised, Found, Last, Outcome, Answers, Refuses, step, kept_of}
use Rattle.book.specs.Books.{Binding, Book, Page, pages}
use Rattle.book.specs.Keeps.{KeepsNothing, NeverFails}
use Rattle.book.specs.Refusals.{book_refusal_number}
use Rattle.book.specs.Shows.{Provider, index_of, promise, signed, signed_promise, IsReplyOf, IsRootOf}
use Rattle.book.specs.Sound.{IsPage}
use Rattle.book.specs.Turns.{Declines, Run, Turn}
use Rattle.book.proofs.Growing.{run-grows}
use Rattle.book.proofs.Sealing.{sealed-page}
use Rattle.book.proofs.Soundness.{IsBefore}
use Rattle.book.proofs.Stepping.{Does, Finds, due_steps, finds, refused_due, stepped}
use Rattle.wire.specs.Frames.{Frame, frame_bytes}
use Rattle.wire.specs.Laws.{IsReadAs}
use Rattle.wire.specs.Responses as response
use Rattle.wire.specs.Responses.{ResponseContent, response_frame}
use Rattle.wire.specs.Streams.{Message}
use Rattle.hub.specs.DeskRuns.{AreResponses, ShowReplies}
use Rattle.hub.specs.Desks.{reply_frame, IsResponseOf}
use Rattle.hub.specs.Runs.{Line}
use Rattle.play.specs.Answering.{IsUnchecked}
use Rattle.play.specs.Lines.{answer_text, upshot_text}
use Rattle.play.specs.Messages.{asks, comes_of, upshot_of, Upshot}
use Rattle.play.specs.Hearing.{response_text, IsOfBytes}
use Rattle.play.specs.Played.{answered}
use Rattle.play.specs.Scripts.{token}
use Rattle.play.specs.Telling.{AreFramesOf, HaveMemory, HeardFrame}
use Rattle.play.proofs.Calling.{rooted-epoch}
use Rattle.play.proofs.Hearing.{away-asks, reached-asks, previous-epoch}

-- ---- the epoch of a body that is spelled

pub same_epoch : (one other : Body) (rest more : List ℕ) → one.epoch < 2 ^ 64 → other.epoch < 2 ^ 64 → body_bytes one ++ rest ≡ body_bytes other ++ more → one.epoch ≡ other.epoch
same_epoch one other rest more fits also same =
    let tail : Body → List ℕ = λ body. big_bytes 8 body.previous_epoch ++ (body.root ++ (body.previous_hash ++ (body.nonce ++ body.vuf_key))) in
    let behind : (big_bytes 8 one.epoch ++ tail one) ++ rest ≡ (big_bytes 8 other.epoch ++ tail other) ++ more = ap (drop 2) same in
    let parts : big_bytes 8 one.epoch ++ (tail one ++ rest) ≡ big_bytes 8 other.epoch ++ (tail other ++ more) =
    sym (append_assoc (big_bytes 8 one.epoch) (tail one) rest) ∙ behind ∙ append_assoc (big_bytes 8 other.epoch) (tail other) more in
    let numbers = (same_number_bytes 8 one.epoch other.epoch (tail one ++ rest) (tail other ++ more) parts).0 in
    sym (number-of_bytes 8 one.epoch (omega (arith, fits))) ∙ ap (big_number 8) numbers ∙ number-of_bytes 8 other.epoch (omega (arith, also))

module _ (provider : Provider) where
  -- ---- texts

  promised_text : (after : Book) (answer : Answer) (signed : SignedPromise) (name : List ℕ) (binding : Binding) (root : SignedRoot) → answer ≡ Promised name binding → IsRootOf provider after after.last root
      → signed ≡ signed_promise provider (promise provider root.body name binding) → answer_text after answer ≡ response_text (response.Promise signed)
  promised_text after answer signed name binding root is rooted same =
      let e : signed.promise.epoch ≡ after.last.epoch = ap (λ (s : SignedPromise). s.promise.epoch) same ∙ rooted-epoch provider after after.last root rooted in
      ap (answer_text after) is ∙ ap (λ (n : ℕ). codes "promise " ++ decimal n) (sym e)

  -- what a client reads in a reply of a page is of the page's epoch
  pub found_epoch : (after : Book) (text : List ℕ) (page : Page) (name : List ℕ) (found : Option Binding) (root : SignedRoot) (spelled : Spelled) → All IsPage (pages after)
      → IsRootOf provider after page root → IsReplyOf provider page root.body name found text → SpellsReply text spelled → spelled.body.epoch ≡ page.epoch
  found_epoch after text page name found root spelled sound rooted shows spells =
      let of_page : root.body.epoch ≡ page.epoch = rooted-epoch provider after page root rooted in
      let fits : page.epoch < 2 ^ 64 = (All-contains IsPage (pages after) page sound (sealed-page provider 0 (replicate 32 0) (pages after) (record { page = page; root = root }) rooted)).epoch.1 in
      sym (same_epoch root.body spelled.body _ _ (omega (arith, of_page, fits)) spells.1.0.1.0 (sym shows.spelled ∙ spells.0)) ∙ of_page

  found_text : (after : Book) (answer : Answer) (text : List ℕ) (page : Page) (name : List ℕ) (found : Option Binding) (root : SignedRoot) (spelled : Spelled) → answer ≡ Found page name found → All IsPage (pages after)
      → IsRootOf provider after page root → IsReplyOf provider page root.body name found text → SpellsReply text spelled → answer_text after answer ≡ response_text (response.Proof spelled)
  found_text after answer text page name found root spelled is sound rooted shows spells =
      ap (answer_text after) is ∙ ap (λ (n : ℕ). codes "proof " ++ decimal n) (sym (found_epoch after text page name found root spelled sound rooted shows spells))

  roots_same : (after : Book) (some : List Page) (roots : List SignedRoot) → AllZip (IsRootOf provider after) some roots
      → flat_map (λ (page : Page). codes " " ++ decimal page.epoch) some ≡ flat_map (λ (root : SignedRoot). codes " " ++ decimal root.body.epoch) roots
  roots_same after [] [] are = refl
  roots_same after [] (root ∷ roots) are = absurd are
  roots_same after (page ∷ some) [] are = absurd are
  roots_same after (page ∷ some) (root ∷ roots) are =
      ap₂ (λ (n : ℕ) (more : List ℕ). (codes " " ++ decimal n) ++ more) (sym (rooted-epoch provider after page root are.0)) (roots_same after some roots are.1)

  last_text : (after : Book) (answer : Answer) (page : Page) (root : SignedRoot) → answer ≡ Last page → AllPairs IsBefore (pages after) → page ≡ after.last → IsRootOf provider after page root
      → answer_text after answer ≡ response_text (response.Root root)
  last_text after answer page root is ascend last rooted =
      let of_last : IsRootOf provider after after.last root = subst (λ (p : Page). IsRootOf provider after p root) last rooted in
      ap (answer_text after) is
      ∙ ap₂ (λ (n m : ℕ). codes "root " ++ decimal n ++ codes " after " ++ decimal m) (sym (rooted-epoch provider after after.last root of_last)) (sym (previous-epoch provider after ascend root of_last))

  -- ---- the last page is what is told as the last

  finds_last : (book : Book) (question : Question) (page : Page) → Finds book question (Last page) → page ≡ book.last
  finds_last book (Promise name) page (binding, found, is) = absurd cc
  finds_last book (Lookup name epoch) page (found, there, is) = absurd cc
  finds_last book (History from count) page is = absurd cc
  finds_last book Head page is = cc

  does_last : (book after : Book) (asked : Operation) (page : Page) → Does book asked (Last page) after → page ≡ after.last
  does_last book after (Query question) page (reads, same) = finds_last book question page (finds book question (Last page) reads) ∙ ap (λ (b : Book). b.last) (sym same)
  does_last book after (Edit (Put verb name key)) page (is, same) = absurd cc
  does_last book after (Edit (ask.Turn epoch _)) page (is, same) = (let e : page ≡ _ = cc in e) ∙ ap (λ (b : Book). b.last) (sym same)

  -- ---- one call

  -- what comes of a command, and that its text is the response's
  pub record IsTold (book : Book) (asked : Operation) (after : Book) (responded : ResponseContent) : Type 0 where
    pub now : Upshot
    pub comes : comes_of (index_of provider) book (Ok asked) ≡ (now, after)
    pub text : upshot_text (answer_text after) now ≡ response_text responded

  answers : (book after : Book) (asked : Operation) (responded : ResponseContent) (answer : Answer) → step (index_of provider) book asked ≡ (Answers answer, after) → answer_text after answer ≡ response_text responded
      → IsTold book asked after responded
  answers book after asked responded answer steps text = record { now = Ok answer; comes = ap (λ (s : Outcome × Book). (upshot_of s.0, s.1)) steps; text = text }

  refuses : (book after : Book) (asked : Operation) (responded : ResponseContent) (why : Refusal) → (step (index_of provider) book asked).0 ≡ Refuses why → after ≡ book → responded ≡ response.Refused (book_refusal_number why)
      → IsTold book asked after responded
  refuses book after asked responded why refused same is =
      let steps = due_steps (index_of provider) book asked why (refused_due (index_of provider) book asked why refused) in
      record {
        now = Err (book_refusal_number why);
        comes = ap (λ (s : Outcome × Book). (upshot_of s.0, s.1)) steps ∙ ap (λ (b : Book). (upshot_of (Refuses why), b)) (sym same);
        text = ap response_text (sym is);
      }

  declined : (book : Book) (asked : Operation) (outcome : Outcome) (lost : Option Record) (keeper keeper_after : NoKeeper) (why : Refusal) → book_refusal_number why ≢ 14
      → Declines provider KeepsNothing NeverFails outcome lost keeper why keeper_after → outcome ≡ Refuses why
  declined book asked (Refuses due) lost keeper keeper_after why some (same, kept) = ap Refuses (sym same)
  declined book asked (Answers answer) None keeper keeper_after why some declines = absurd declines
  declined book asked (Answers answer) (Some lost) keeper keeper_after why some (inl (memory, kept)) = absurd (some (ap book_refusal_number memory))
  declined book asked (Answers answer) (Some lost) keeper keeper_after why some (inr (failed, never)) = absurd never

  -- a reply that no client checks
  pub unchecked_told : (book after : Book) (keeper keeper_after : NoKeeper) (asked : Operation) (said : Reply) (responded : ResponseContent) → AllPairs IsBefore (pages after) → IsUnchecked said
      → Turn provider KeepsNothing NeverFails book keeper asked said after keeper_after → IsResponseOf said responded → responded ≢ response.Refused 14 → IsTold book asked after responded
  unchecked_told book after keeper keeper_after asked (reply.Promised promised) responded ascend unchecked (answer, steps, keeps, (name, binding, root, is, rooted, same)) says some =
      answers book after asked responded answer steps (promised_text after answer promised name binding root is rooted same ∙ ap response_text (sym says))
  unchecked_told book after keeper keeper_after asked (reply.Found text) responded ascend unchecked turn says some = absurd unchecked
  unchecked_told book after keeper keeper_after asked (reply.Told list) responded ascend unchecked (answer, steps, keeps, (some_pages, is, rooted)) says some =
      answers book after asked responded answer steps
      (ap (answer_text after) is ∙ ap (λ (more : List ℕ). codes "roots" ++ more) (roots_same after some_pages list.items rooted) ∙ ap response_text (sym says))
  unchecked_told book after keeper keeper_after asked (reply.Last root) responded ascend unchecked (answer, steps, keeps, (page, is, rooted)) says some =
      let so : step (index_of provider) book asked ≡ (Answers (Last page), after) = steps ∙ ap (λ (a : Answer). (Answers a, after)) is in
      let last = does_last book after asked page (stepped (index_of provider) book asked (Last page) after so).does in
      answers book after asked responded answer steps (last_text after answer page root is ascend last rooted ∙ ap response_text (sym says))
  unchecked_told book after keeper keeper_after asked (reply.Refused why) responded ascend unchecked (same, declines) says some =
      let other : book_refusal_number why ≢ 14 = λ e. some (says ∙ ap response.Refused e) in
      refuses book after asked responded why (declined book asked (step (index_of provider) book asked).0 (kept_of book asked) keeper keeper_after why other declines) same says

  pub turn_told : (book after : Book) (keeper keeper_after : NoKeeper) (asked : Operation) (said : Reply) (responded : ResponseContent) → AllPairs IsBefore (pages after) → All IsPage (pages after)
      → Turn provider KeepsNothing NeverFails book keeper asked said after keeper_after → IsResponseOf said responded → responded ≢ response.Refused 14 → IsTold book asked after responded
  turn_told book after keeper keeper_after asked (reply.Found text) responded ascend sound (answer, steps, keeps, (page, name, found, root, is, rooted, shows)) (spelled, spells, says) some =
      answers book after asked responded answer steps (found_text after answer text page name found root spelled is sound rooted shows spells ∙ ap response_text (sym says))
  turn_told book after keeper keeper_after asked (reply.Promised promised) responded ascend sound turn says some = unchecked_told book after keeper keeper_after asked (reply.Promised promised) responded ascend tt turn says some
  turn_told book after keeper keeper_after asked (reply.Told list) responded ascend sound turn says some = unchecked_told book after keeper keeper_after asked (reply.Told list) responded ascend tt turn says some
  turn_told book after keeper keeper_after asked (reply.Last root) responded ascend sound turn says some = unchecked_told book after keeper keeper_after asked (reply.Last root) responded ascend tt turn says some
  turn_told book after keeper keeper_after asked (reply.Refused why) responded ascend sound turn says some = unchecked_told book after keeper keeper_after asked (reply.Refused why) responded ascend tt turn says some

-- ---- all lines of a hub

abbrev pub line_replies : List Line → List ℕ
line_replies = flat_map (λ line. line.reply)

abbrev pub messages_of : List Line → List Message
messages_of = map (λ line. line.message)

all_front : {X : Type 0} (P : X → Type 0) (xs ys : List X) → All P (xs ++ ys) → All P xs
all_front P xs ys all = λ k d within. subst P (get_or_append_left xs ys d k within) (all k d (omega (arith, within, length-append xs ys)))

nothing_run : (provider : Provider) (commands : List Operation) (replies : List Reply) (book after : Book) (keeper later : NoKeeper) → commands ≡ [] → replies ≡ []
    → Run provider KeepsNothing NeverFails book keeper commands replies after later → book ≡ after
nothing_run provider [] [] book after keeper later e f run = sym run.0
nothing_run provider [] (said ∷ replies) book after keeper later e f run = absurd run
nothing_run provider (asked ∷ commands) replies book after keeper later e f run = absurd cc

module _ (provider : Provider) where
  -- The replies are frames with their responses. If none says that memory ran out, the definition tells these,
  -- and leads from the book to the one after them.
  pub record AreTold (lines : List Line) (book after : Book) : Type 0 where
    pub heard : List HeardFrame
    pub are : AreFramesOf (line_replies lines) heard
    pub told : HaveMemory heard → answered (index_of provider) book (messages_of lines) ≡ (map (λ one. response_text one.1) heard, after)

  -- by what comes of the first message
  abbrev told_from : List Message → Upshot × Book → List (List ℕ) × Book
  told_from more now = let later = answered (index_of provider) now.1 more in (upshot_text (answer_text now.1) now.0 ∷ later.0, later.1)

  one_more : (line : Line) (lines : List Line) (book middle after : Book) (frame : Frame) (responded : ResponseContent) (now : Upshot) → line.reply ≡ frame_bytes frame → IsReadAs frame responded
      → (responded ≢ response.Refused 14 → (comes_of (index_of provider) book (asks line.message) ≡ (now, middle)) × (upshot_text (answer_text middle) now ≡ response_text responded))
      → AreTold lines middle after → AreTold (line ∷ lines) book after
  one_more line lines book middle after frame responded now says read comes more = record {
    heard = (frame, responded) ∷ more.heard;
    are = (ap₂ (λ (t u : List ℕ). t ++ u) says more.are.0, (read, more.are.1));
    told = λ memory.
        let (is, text) = comes memory.0 in
        ap (told_from (messages_of lines)) is
        ∙ ap (λ (later : List (List ℕ) × Book). (upshot_text (answer_text middle) now ∷ later.0, later.1)) (more.told memory.1)
        ∙ ap (λ (t : List ℕ). (t ∷ map (λ (one : HeardFrame). response_text one.1) more.heard, after)) text;
  }

  pub lines_told : (lines : List Line) (commands : List Operation) (replies : List Reply) (shown : ShowReplies token lines commands replies) (book after : Book) (keeper later : NoKeeper)
      → AllPairs IsBefore (pages book) → All IsPage (pages after) → AllByRecursion IsOfBytes lines → Run provider KeepsNothing NeverFails book keeper commands replies after later
      → AreResponses token lines commands replies shown → AreTold lines book after
  lines_told [] commands replies (none, said) book after keeper later ascend sound small run read = record {
    heard = [];
    are = (refl, tt);
    told = λ memory. ap (λ (b : Book). ([], b)) (nothing_run provider commands replies book after keeper later none said run);
  }
  lines_told (line ∷ more) commands replies (inl (code, away, says, shown)) book after keeper later ascend sound small run (read, reads) =
      one_more line more book book after (response_frame (response.Refused code)) (response.Refused code) (Err code) says read
      (λ some. (ap (comes_of (index_of provider) book) (away-asks line.message code small.0 away), refl))
      (lines_told more commands replies shown book after keeper later ascend sound small.1 run reads)
  lines_told (line ∷ more) commands replies (inr (asked, said, later_commands, others, reaches, says, is, are, shown)) book after keeper later ascend sound small run ((responded, responds, read), reads) =
      let whole : Run provider KeepsNothing NeverFails book keeper (asked ∷ later_commands) (said ∷ others) after later =
      subst₂ (λ (cs : List Operation) (rs : List Reply). Run provider KeepsNothing NeverFails book keeper cs rs after later) is are run in
      let middle : Book = whole.0 in
      let between : NoKeeper = whole.1 in
      let grown = run-grows provider KeepsNothing NeverFails (asked ∷ []) (said ∷ []) book middle keeper between ascend (middle, between, whole.2, (refl, refl)) in
      let grows = run-grows provider KeepsNothing NeverFails later_commands others middle after between later grown.ascend whole.3 in
      let sound_middle : All IsPage (pages middle) = all_front IsPage (pages middle) grows.more (subst (All IsPage) grows.is sound) in
      let t = λ (some : responded ≢ response.Refused 14). turn_told provider book middle keeper between asked said responded grown.ascend sound_middle whole.2 responds some in
      one_more line more book middle after (reply_frame said) responded (comes_of (index_of provider) book (Ok asked)).0 says read
      (λ some. let it = t some in (
        ap (comes_of (index_of provider) book) (reached-asks line.message asked small.0 reaches) ∙ ap (λ (b : Book). ((comes_of (index_of provider) book (Ok asked)).0, b)) (ap (λ (n : Upshot × Book). n.1) it.comes),
        ap (λ (n : Upshot × Book). upshot_text (answer_text middle) n.0) it.comes ∙ it.text,
      ))
      (lines_told more later_commands others shown middle after between later grown.ascend sound small.1 whole.3 reads)
