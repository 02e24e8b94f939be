-- The frames that an honest provider's desk replies with are read as responses.
use Rattle.std.proofs.Common.{◌≡◌, ◌⊎◌, ℕ, ◌<◌, ◌≤◌, List, [], ◌∷◌, length, Contains, refl, sym, ap, subst, subst₂, ◌∙◌, inl, inr, arith}
use Rattle.std.specs.Bool.{⊤}
use Rattle.std.specs.List.{AllByRecursion, AllZip}
use Rattle.std.proofs.lemmas.Slice.Zip.{AllZip-long}
use Rattle.proofs.specs.Replies.{Reply as Spelled, SpellsReply}
use Rattle.rootchain.specs.SignedRoots.{IsSignedRoot}
use Rattle.rootchain.specs.declared.signed_root.SignedRoot.{SignedRoot}
use Rattle.book.specs.declared.record.Record.{Record}
use Rattle.book.specs.declared.directory_refusal.Refusal.{Refusal}
use Rattle.book.specs.declared.directory_refusal.Refusal.TheVariants.{BadName, BadKey, BadPolicy, NameTaken, NoSuchName, FinalBinding, PendingExists, IndexTaken, NoSuchEpoch, EpochNotLater, NoPromise, Memory, BadRange, KeepFailed}
use Rattle.book.specs.declared.reply.Reply.{Reply}
use Rattle.book.specs.declared.reply.Reply.TheVariants as reply
use Rattle.book.specs.Steps.{Answer, Answers, step}
use Rattle.book.specs.Steps as answer
use Rattle.commands.specs.Operations as ask
use Rattle.commands.specs.Operations.{Operation, Question, Query, Edit, Put, Promise, Lookup, History, Head}
use Rattle.book.specs.Books.{Book, Page}
use Rattle.book.specs.Honest.{key_at, IsAnswer, IsDouble, IsHonestRun, IsSaid}
use Rattle.book.specs.Refusals.{book_refusal_number}
use Rattle.book.specs.Shows.{Provider, index_of, roots, IsRootOf}
use Rattle.book.specs.Turns.{Run, Turn}
use Rattle.book.proofs.Members.{first-there, later-there}
use Rattle.book.proofs.Running.{at-said}
use Rattle.book.proofs.Stepping.{Does, Finds, finds, stepped}
use Rattle.wire.specs.declared.message_refusals.ReadRefusal.{ReadRefusal}
use Rattle.wire.specs.declared.message_refusals.ReadRefusal.TheVariants.{BadKind, BadBody}
use Rattle.wire.specs.Frames.{Frame}
use Rattle.wire.specs.Laws.{IsReadAs}
use Rattle.wire.specs.Refusals.{read_refusal_number}
use Rattle.wire.specs.Responses as response
use Rattle.wire.specs.Responses.{ResponseContent, proof_frame, response_frame, IsResponse}
use Rattle.wire.specs.Streams.{Message, Whole, BadFrame}
use Rattle.wire.proofs.ReadBack.{responses_read}
use Rattle.hub.specs.Desks.{reply_frame, IsResponseOf}
use Rattle.hub.specs.DeskRuns.{AreResponses, IsTurnedAway, ShowReplies}
use Rattle.hub.specs.Runs.{Line}
use Rattle.hub.proofs.Desking.{few_pages}

-- ---- which command a reply answers

-- a text answers a look-up, and a list of roots is short
abbrev IsFor : Operation → Reply → Type 0
IsFor asked (reply.Promised signed) = ⊤
IsFor asked (reply.Found text) = (name : List ℕ) × (epoch : ℕ) × (asked ≡ Query (Lookup name epoch))
IsFor asked (reply.Told told) = length told.items ≤ 64
IsFor asked (reply.Last root) = ⊤
IsFor asked (reply.Refused why) = ⊤

abbrev sort : Answer → ℕ
sort (answer.Promised name binding) = 0
sort (answer.Found page name found) = 1
sort (answer.Told pages) = 2
sort (answer.Last page) = 3

module _ (provider : Provider) where
  finds_for : (book : Book) (question : Question) (said : Answer) → Finds book question said → sort said ≡ 1 → (name : List ℕ) × (epoch : ℕ) × (Query question ≡ Query (Lookup name epoch))
  finds_for book (Promise name) said finds is = absurd (let wrong : 0 ≡ 1 = sym (ap sort finds.2) ∙ is in cc)
  finds_for book (Lookup name epoch) said finds is = (name, epoch, refl)
  finds_for book (History from count) said finds is = absurd (let wrong : 2 ≡ 1 = sym (ap sort finds) ∙ is in cc)
  finds_for book Head said finds is = absurd (let wrong : 3 ≡ 1 = sym (ap sort finds) ∙ is in cc)

  found_for : (book after : Book) (asked : Operation) (said : Answer) → Does book asked said after → sort said ≡ 1 → (name : List ℕ) × (epoch : ℕ) × (asked ≡ Query (Lookup name epoch))
  found_for book after (Query question) said does is = finds_for book question said (finds book question said does.0) is
  found_for book after (Edit (Put verb name key)) said does is = absurd (let wrong : 0 ≡ 1 = sym (ap sort does.0) ∙ is in cc)
  found_for book after (Edit (ask.Turn epoch _)) said does is = absurd (let wrong : 3 ≡ 1 = sym (ap sort does.0) ∙ is in cc)

  tells_for : (book : Book) (question : Question) (pages : List Page) → step (index_of provider) book (Query question) ≡ (Answers (answer.Told pages), book) → Finds book question (answer.Told pages) → length pages ≤ 64
  tells_for book (Promise name) pages steps finds = absurd (let wrong : 2 ≡ 0 = ap sort finds.2 in cc)
  tells_for book (Lookup name epoch) pages steps finds = absurd (let wrong : 2 ≡ 1 = ap sort finds.2 in cc)
  tells_for book (History from count) pages steps finds = few_pages (index_of provider) book from count pages steps
  tells_for book Head pages steps finds = absurd (let wrong : 2 ≡ 3 = ap sort finds in cc)

  told_for : (book after : Book) (asked : Operation) (pages : List Page) → step (index_of provider) book asked ≡ (Answers (answer.Told pages), after) → Does book asked (answer.Told pages) after → length pages ≤ 64
  told_for book after (Query question) pages steps does =
      tells_for book question pages (steps ∙ ap (λ (b : Book). (Answers (answer.Told pages), b)) does.1) (finds book question (answer.Told pages) does.0)
  told_for book after (Edit (Put verb name key)) pages steps does = absurd (let wrong : 2 ≡ 0 = ap sort does.0 in cc)
  told_for book after (Edit (ask.Turn epoch _)) pages steps does = absurd (let wrong : 2 ≡ 3 = ap sort does.0 in cc)

  module _ {K : Type 0} (kept failed : K → Record → K → Type 0) where
    turn_for : (book after : Book) (before later : K) (asked : Operation) (said : Reply) → Turn provider kept failed book before asked said after later → IsFor asked said
    turn_for book after before later asked (reply.Promised signed) turn = tt
    turn_for book after before later asked (reply.Found text) (all, steps, keeps, (page, name, found, root, is, rooted, shows)) =
        found_for book after asked all (stepped (index_of provider) book asked all after steps).does (ap sort is)
    turn_for book after before later asked (reply.Told told) (all, steps, keeps, (pages, is, zip)) =
        let so : step (index_of provider) book asked ≡ (Answers (answer.Told pages), after) = steps ∙ ap (λ (a : Answer). (Answers a, after)) is in
        let few : length pages ≤ 64 = told_for book after asked pages so (stepped (index_of provider) book asked (answer.Told pages) after so).does in
        omega (arith, few, AllZip-long (IsRootOf provider after) pages told.items zip)
    turn_for book after before later asked (reply.Last root) turn = tt
    turn_for book after before later asked (reply.Refused why) turn = tt

    pub run_for : (commands : List Operation) (replies : List Reply) (book after : Book) (before later : K) → Run provider kept failed book before commands replies after later → AllZip IsFor commands replies
    run_for [] [] book after before later run = tt
    run_for [] (said ∷ replies) book after before later run = absurd run
    run_for (asked ∷ commands) [] book after before later run = absurd run
    run_for (asked ∷ commands) (said ∷ replies) book after before later (middle, between, turn, run) =
        (turn_for book middle before between asked said turn, run_for commands replies middle after between later run)

-- ---- responses

number_small : (why : Refusal) → book_refusal_number why < 256
number_small BadName = omega arith
number_small BadKey = omega arith
number_small BadPolicy = omega arith
number_small NameTaken = omega arith
number_small NoSuchName = omega arith
number_small FinalBinding = omega arith
number_small PendingExists = omega arith
number_small IndexTaken = omega arith
number_small NoSuchEpoch = omega arith
number_small EpochNotLater = omega arith
number_small NoPromise = omega arith
number_small Memory = omega arith
number_small BadRange = omega arith
number_small KeepFailed = omega arith

read_small : (refusal : ReadRefusal) → read_refusal_number refusal < 256
read_small BadKind = omega arith
read_small BadBody = omega arith

away_small : (token : List ℕ) (message : Message) (code : ℕ) → IsTurnedAway token message code → code < 256
away_small token BadFrame code is = omega (arith, is)
away_small token (Whole frame) code (inl (refusal, read, is)) = omega (arith, is, read_small refusal)
away_small token (Whole frame) code (inr (requested, read, none, is)) = omega (arith, is)

module _ (provider : Provider) (accepted verified : List ℕ → List ℕ → List ℕ → Type 0) (key : List ℕ) (before after : Book) (all : List Operation) (said : List Reply)
    (honest : IsHonestRun provider accepted verified key before after all said) where
  told_form : (root : SignedRoot) → Contains (roots provider after) root → IsSignedRoot root
  told_form root (k, within, is) = subst IsSignedRoot is (honest.forms k root within)

  told_forms : (some : List SignedRoot) → ((root : SignedRoot) → Contains some root → Contains (roots provider after) root) → AllByRecursion IsSignedRoot some
  told_forms [] there = tt
  told_forms (root ∷ more) there = (told_form root (there root (first-there root more)), told_forms more (λ other is. there other (later-there root more other is)))

  -- what a reader gets of the frame of a reply
  abbrev ReadsBack : Reply → Type 0
  ReadsBack told = (responded : ResponseContent) × IsResponseOf told responded × IsReadAs (reply_frame told) responded

  reads_back : (told : Reply) (responded : ResponseContent) → IsResponseOf told responded → IsResponse responded → reply_frame told ≡ response_frame responded → ReadsBack told
  reads_back told responded is form same = (responded, is, subst (λ (f : Frame). IsReadAs f responded) (sym same) (responses_read responded form))

  reply_read : (asked : Operation) (told : Reply) → IsSaid all said asked told → IsFor asked told → ReadsBack told
  reply_read asked (reply.Promised signed) is for = reads_back (reply.Promised signed) (response.Promise signed) refl (honest.kept asked signed is).form refl
  reply_read asked (reply.Found text) is (name, epoch, same) =
      let t = at-said before.last.epoch all said (Query (Lookup name epoch)) (reply.Found text) (subst (λ (a : Operation). IsSaid all said a (reply.Found text)) same is) in
      let (read, spells) = spelled name epoch text (honest.found t.0 name epoch text t.1) in
      reads_back (reply.Found text) (response.Proof read) (read, spells, refl) spells.1 (ap proof_frame spells.0)
    where
      spelled : (name : List ℕ) (epoch : ℕ) (text : List ℕ) {latest : ℕ}
          → IsAnswer provider accepted verified key after latest name epoch text ⊎ IsDouble provider accepted verified key after latest name epoch text → (read : Spelled) × SpellsReply text read
      spelled name epoch text (inl answer) = let states = (answer.states (key_at answer.page name)).1 refl in (states.0, states.1)
      spelled name epoch text (inr double) = (double.reply, double.spelled)
  reply_read asked (reply.Told told) is few =
      reads_back (reply.Told told) (response.Roots told.items) refl (few, told_forms told.items (λ root there. honest.told asked (reply.Told told) root is there)) refl
  reply_read asked (reply.Last root) is for = reads_back (reply.Last root) (response.Root root) refl (told_form root (honest.told asked (reply.Last root) root is refl)) refl
  reply_read asked (reply.Refused why) is for = reads_back (reply.Refused why) (response.Refused (book_refusal_number why)) refl (number_small why) refl

  pub lines_read : (token : List ℕ) (lines : List Line) (commands : List Operation) (replies : List Reply) (shown : ShowReplies token lines commands replies) → AllZip IsFor commands replies
      → ((asked : Operation) (told : Reply) → IsSaid commands replies asked told → IsSaid all said asked told) → AreResponses token lines commands replies shown
  lines_read token [] commands replies shown for are = tt
  lines_read token (line ∷ more) commands replies (inl (code, away, says, shows)) for are =
      (responses_read (response.Refused code) (away_small token line.message code away), lines_read token more commands replies shows for are)
  lines_read token (line ∷ more) commands replies (inr (asked, told, later, others, reaches, says, is, too, shows)) for are =
      let fors = subst₂ (λ (c : List Operation) (r : List Reply). AllZip IsFor c r) is too for in
      let there : (a : Operation) (t : Reply) → IsSaid (asked ∷ later) (told ∷ others) a t → IsSaid all said a t =
      λ a t one. are a t (subst₂ (λ (c : List Operation) (r : List Reply). IsSaid c r a t) (sym is) (sym too) one) in
      (reply_read asked told (there asked told (inl (refl, refl))) fors.0, lines_read token more later others shows fors.1 (λ a t one. there a t (inr one)))
