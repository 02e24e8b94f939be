-- What a run writes to its journal, and what a beginning of that opens to.
use Rattle.std.proofs.Common.{◌≡◌, ◌≤◌, ◌≢◌, ◌⊎◌, inl, inr, ℕ, suc, ◌+◌, ◌<◌, List, [], ◌∷◌, ◌++◌, length, length-append, append_assoc, take, Bool, true, false, Option, Some, None, refl, sym, ap, subst, ◌∙◌, arith, true≢false}
use Rattle.std.proofs.lemmas.List.{append-nil}
use Rattle.std.specs.Prelude.{option_map}
use Rattle.std.specs.Io.KnownBytes.{Appends}
use Rattle.rand_core.specs.Stream.{Stream}
use Rattle.commands.specs.declared.edit.Verb.TheVariants.{Register, Change}
use Rattle.commands.specs.Operations.{bound_key, AskedKey, Operation, Query, Edit, Put, Turn}
use Rattle.book.specs.declared.record.Record.{Record}
use Rattle.book.specs.declared.record.Record.TheVariants.{Start, Bound, Turned}
use Rattle.book.specs.declared.directory_refusal.Refusal.{Refusal}
use Rattle.book.specs.declared.reply.Reply.{Reply}
use Rattle.book.specs.declared.reply.Reply.TheVariants as reply
use Rattle.book.specs.Steps.{Answer, Outcome, Answers, Refuses, step, unless_refused, kept_of}
use Rattle.book.specs.Books.{Book}
use Rattle.std.specs.List.{AllByRecursion}
use Rattle.book.specs.Replays.{after_answer, replayed, replayed_all, with_salt_of, with_salts_of}
use Rattle.book.specs.Shows.{Provider, index_of}
use Rattle.book.specs.Turns.{Declines, KeepsOne, Turn as Turns}
use Rattle.book.proofs.Keys.{asked_again}
use Rattle.book.proofs.Stepping.{put_passed, stepped}
use Rattle.journal.specs.declared.beginning.Beginning.{Beginning}
use Rattle.journal.specs.Journals.{KeepsRecord, LosesRecord, JournalState}
use Rattle.journal.specs.Openings.{IsCut, OpensTo, RecordsLead}
use Rattle.journal.specs.Records.{record_bytes, records_bytes, start_bytes, IsLater, IsRecord, IsStart}
use Rattle.journal.specs.Reopened.{begun, with_stream, KeepsRun, OpensInto}
use Rattle.journal.proofs.Cuts.{longer, parted}
use Rattle.journal.proofs.Replaying.{leads_nowhere, leads_on, nothing_cut}
use Rattle.journal.proofs.Settled.{led}

-- what is known to have been appended
appended : (one two : Option (List ℕ)) (old more : List ℕ) → one ≡ Some old → Appends one two more → two ≡ Some (old ++ more)
appended None two old more e h = absurd cc
appended (Some xs) None old more e h = absurd h
appended (Some xs) (Some ys) old more e h =
    let same : xs ≡ old = cc in
    ap (λ (bytes : List ℕ). Some bytes) (h ∙ ap (λ (bytes : List ℕ). bytes ++ more) same)

-- what is kept of a command is a later record
later_record : (book : Book) (asked : Operation) (kept : Record) → kept_of book asked ≡ Some kept → IsRecord kept → IsLater kept
later_record book (Query question) kept e h = absurd cc
later_record book (Edit (Put verb name key)) (Start epoch nonce signing_key vuf_key) e h = absurd cc
later_record book (Edit (Put verb name key)) (Bound other salt called put) e h = h
later_record book (Edit (Put verb name key)) (Turned epoch _) e h = absurd cc
later_record book (Edit (Turn epoch _)) (Start first nonce signing_key vuf_key) e h = absurd cc
later_record book (Edit (Turn epoch _)) (Bound verb salt name key) e h = absurd cc
later_record book (Edit (Turn epoch _)) (Turned other _) e h = h

module _ (by : List ℕ → List ℕ) (other : Book) where
  -- a command that the book carries out is carried out once more on the book with other salts to come
  again : (book middle : Book) (asked : Operation) (answer : Answer) (kept : Record) → kept_of book asked ≡ Some kept → step by book asked ≡ (Answers answer, middle)
      → replayed by (with_salts_of other book) kept ≡ Some (with_salts_of other middle)
  again book middle (Query question) answer kept e does = absurd cc
  again book middle (Edit (Put Register name key)) answer kept e does =
      let s = stepped by book (Edit (Put Register name key)) answer middle does in
      let has = put_passed by book Register name key s.none in
      let same : Bound Register book.salt name (bound_key key) ≡ kept = cc in
      let old = with_salts_of other book in
      let salted = with_salt_of (Bound Register book.salt name (bound_key key)) old in
      let R : Option Refusal → Option Book = λ why. option_map (with_salts_of old) (after_answer (unless_refused why salted (Edit (Put Register name key)))) in
      subst (λ (k : Record). replayed by old k ≡ Some (with_salts_of other middle)) same
      (subst (λ (k : AskedKey). option_map (with_salts_of old) (after_answer (step by salted (Edit (Put Register name k)))) ≡ Some (with_salts_of other middle)) (sym (asked_again key has.policy))
      (ap R s.none ∙ ap (λ (b : Book). Some (with_salts_of other b)) (sym s.does.1)))
  again book middle (Edit (Put Change name key)) answer kept e does =
      let s = stepped by book (Edit (Put Change name key)) answer middle does in
      let has = put_passed by book Change name key s.none in
      let same : Bound Change book.salt name (bound_key key) ≡ kept = cc in
      let old = with_salts_of other book in
      let salted = with_salt_of (Bound Change book.salt name (bound_key key)) old in
      let R : Option Refusal → Option Book = λ why. option_map (with_salts_of old) (after_answer (unless_refused why salted (Edit (Put Change name key)))) in
      subst (λ (k : Record). replayed by old k ≡ Some (with_salts_of other middle)) same
      (subst (λ (k : AskedKey). option_map (with_salts_of old) (after_answer (step by salted (Edit (Put Change name k)))) ≡ Some (with_salts_of other middle)) (sym (asked_again key has.policy))
      (ap R s.none ∙ ap (λ (b : Book). Some (with_salts_of other b)) (sym s.does.1)))
  again book middle (Edit (Turn epoch nonce)) answer kept e does =
      let s = stepped by book (Edit (Turn epoch nonce)) answer middle does in
      let same : Turned epoch nonce ≡ kept = cc in
      let old = with_salts_of other book in
      let R : Option Refusal → Option Book = λ why. option_map (with_salts_of old) (after_answer (unless_refused why old (Edit (Turn epoch nonce)))) in
      subst (λ (k : Record). replayed by old k ≡ Some (with_salts_of other middle)) same
      (ap R s.none ∙ ap (λ (b : Book). Some (with_salts_of other b)) (sym s.does.1))

nothing : (rest : List ℕ) → length rest ≤ 0 → rest ≡ []
nothing [] few = refl
nothing (byte ∷ rest) few = absurd (omega (arith, few))

some_book : (one two : Book) → (let left : Option Book = Some one in left) ≡ Some two → one ≡ two
some_book one two e = cc

-- records that lead from one book to another, and records that lead on from there
leads_join : (by : List ℕ → List ℕ) (records : List Record) (before middle after : Book) (bytes more rest : List ℕ)
    → bytes ≡ records_bytes records ++ [] → AllByRecursion IsLater records → replayed_all by before records ≡ Some middle
    → RecordsLead by middle more after rest → RecordsLead by before (bytes ++ more) after rest
leads_join by [] before middle after bytes more rest is all leads on =
    subst (λ (b : Book). RecordsLead by b (bytes ++ more) after rest) (sym (some_book before middle leads)) (subst (λ (t : List ℕ). RecordsLead by middle (t ++ more) after rest) (sym is) on)
leads_join by (kept ∷ records) before middle after bytes more rest is all leads on =
    let one = led by before middle kept records leads in
    let later = leads_join by records one.0 middle after (records_bytes records ++ []) more rest refl all.1 one.2 on in
    leads_on by before one.0 after kept (bytes ++ more) ((records_bytes records ++ []) ++ more) rest
    (ap (λ (t : List ℕ). t ++ more) (is ∙ append_assoc (record_bytes kept) (records_bytes records) []) ∙ append_assoc (record_bytes kept) (records_bytes records ++ []) more)
    all.0 one.1 later

module _ (provider : Provider) {W : Type 0} (contents : W → Option (List ℕ)) where
  -- ---- what one command does to the book and the journal

  abbrev Stays : Book → JournalState W → Book → JournalState W → Type 0
  Stays book keeper middle between = (middle ≡ book) × (between ≡ keeper)

  abbrev Writes : Book → JournalState W → Operation → Book → JournalState W → Type 0
  Writes book keeper asked middle between = (kept : Record) × (answer : Answer)
      × (kept_of book asked ≡ Some kept) × KeepsRecord contents keeper kept between × (step (index_of provider) book asked ≡ (Answers answer, middle))

  abbrev Loses : Book → JournalState W → Operation → Book → JournalState W → Type 0
  Loses book keeper asked middle between = (lost : Record) × (kept_of book asked ≡ Some lost) × LosesRecord contents keeper lost between × (middle ≡ book)

  declined : (book middle : Book) (keeper between : JournalState W) (asked : Operation) (why : Refusal) (outcome : Outcome) (record_lost : Option Record) → kept_of book asked ≡ record_lost → middle ≡ book
      → Declines provider (KeepsRecord contents) (LosesRecord contents) outcome record_lost keeper why between → Stays book keeper middle between ⊎ (Writes book keeper asked middle between ⊎ Loses book keeper asked middle between)
  declined book middle keeper between asked why (Refuses due) lost e same h = inl (same, h.1)
  declined book middle keeper between asked why (Answers answer) None e same h = absurd h
  declined book middle keeper between asked why (Answers answer) (Some lost) e same (inl h) = inl (same, h.1)
  declined book middle keeper between asked why (Answers answer) (Some lost) e same (inr h) = inr (inr (lost, e, h.1, same))

  answered : (book middle : Book) (keeper between : JournalState W) (asked : Operation) (answer : Answer) (record_kept : Option Record) → kept_of book asked ≡ record_kept
      → step (index_of provider) book asked ≡ (Answers answer, middle) → KeepsOne provider (KeepsRecord contents) (LosesRecord contents) keeper record_kept between
      → Stays book keeper middle between ⊎ (Writes book keeper asked middle between ⊎ Loses book keeper asked middle between)
  answered book middle keeper between (Query question) answer None e does h = inl ((stepped (index_of provider) book (Query question) answer middle does).does.1, h)
  answered book middle keeper between (Edit (Put verb name key)) answer None e does h = absurd cc
  answered book middle keeper between (Edit (Turn epoch _)) answer None e does h = absurd cc
  answered book middle keeper between asked answer (Some kept) e does h = inr (inl (kept, answer, e, h, does))

  turned : (book middle : Book) (keeper between : JournalState W) (asked : Operation) (said : Reply) → Turns provider (KeepsRecord contents) (LosesRecord contents) book keeper asked said middle between
      → Stays book keeper middle between ⊎ (Writes book keeper asked middle between ⊎ Loses book keeper asked middle between)
  turned book middle keeper between asked (reply.Refused why) turn = declined book middle keeper between asked why (step (index_of provider) book asked).0 (kept_of book asked) refl turn.0 turn.1
  turned book middle keeper between asked (reply.Promised signed) turn = answered book middle keeper between asked turn.0 (kept_of book asked) refl turn.1 turn.2
  turned book middle keeper between asked (reply.Found text) turn = answered book middle keeper between asked turn.0 (kept_of book asked) refl turn.1 turn.2
  turned book middle keeper between asked (reply.Told told) turn = answered book middle keeper between asked turn.0 (kept_of book asked) refl turn.1 turn.2
  turned book middle keeper between asked (reply.Last root) turn = answered book middle keeper between asked turn.0 (kept_of book asked) refl turn.1 turn.2

  -- ---- after a record that was lost, nothing is written

  broken_turn : (book middle : Book) (keeper between : JournalState W) (asked : Operation) → keeper.is_broken ≡ true
      → Stays book keeper middle between ⊎ (Writes book keeper asked middle between ⊎ Loses book keeper asked middle between) → Stays book keeper middle between
  broken_turn book middle keeper between asked broken (inl h) = h
  broken_turn book middle keeper between asked broken (inr (inl (kept, answer, e, h, does))) = absurd (true≢false (sym broken ∙ h.1))
  broken_turn book middle keeper between asked broken (inr (inr (lost, e, (now, inl h), same))) = absurd (true≢false (sym broken ∙ h.1))
  broken_turn book middle keeper between asked broken (inr (inr (lost, e, (now, inr h), same))) = (same, h.1)

  broken_run : (commands : List Operation) (replies : List Reply) (book after : Book) (keeper keeper_after : JournalState W) → keeper.is_broken ≡ true
      → KeepsRun provider contents book keeper commands replies after keeper_after → Stays book keeper after keeper_after
  broken_run [] [] book after keeper keeper_after broken run = run
  broken_run [] (said ∷ replies) book after keeper keeper_after broken run = absurd run
  broken_run (asked ∷ commands) [] book after keeper keeper_after broken run = absurd run
  broken_run (asked ∷ commands) (said ∷ replies) book after keeper keeper_after broken run =
      let one = broken_turn book run.0 keeper run.1 asked broken (turned book run.0 keeper run.1 asked said run.2) in
      let more = broken_run commands replies run.0 after run.1 keeper_after (ap (λ (k : JournalState W). k.is_broken) one.1 ∙ broken) run.3 in
      (more.0 ∙ one.0, more.1 ∙ one.1)

  -- ---- what a run writes

  module _ (other : Book) where
    -- the bytes are the records of the first so many commands, and one more that was cut short
    abbrev Found : Book → JournalState W → List Operation → List Reply → Book → List ℕ → List ℕ → Type 0
    Found book keeper commands replies after front more = (n : ℕ) × (middle : Book) × (between : JournalState W) × (rest : List ℕ)
        × KeepsRun provider contents book keeper (take n commands) (take n replies) middle between
        × RecordsLead (index_of provider) (with_salts_of other book) front (with_salts_of other middle) rest
        × IsCut record_bytes IsLater rest × (more ≡ [] → middle ≡ after)

    -- so many bytes were written, and each beginning of them is such
    abbrev Tail : Book → JournalState W → List Operation → List Reply → Book → JournalState W → List ℕ → Type 0
    Tail book keeper commands replies after keeper_after old = (tail : List ℕ) × (contents keeper_after.writer ≡ Some (old ++ tail))
        × ((front more : List ℕ) → tail ≡ front ++ more → Found book keeper commands replies after front more)

    -- nothing was written: the bytes before no command
    found_none : (book : Book) (keeper : JournalState W) (commands : List Operation) (replies : List Reply) (after : Book) (front more : List ℕ)
        → after ≡ book → [] ≡ front ++ more → Found book keeper commands replies after front more
    found_none book keeper commands replies after [] more same e =
        (0, book, keeper, [], (refl, refl), leads_nowhere (index_of provider) (with_salts_of other book) [], nothing_cut [] (omega arith), λ none. sym same)
    found_none book keeper commands replies after (byte ∷ front) more same e = absurd cc

    -- the first record is cut short
    found_cut : (book : Book) (keeper : JournalState W) (commands : List Operation) (replies : List Reply) (after : Book) (kept : Record) (front more rest : List ℕ)
        → IsLater kept → record_bytes kept ≡ front ++ rest → rest ≢ [] → (more ≡ [] → after ≡ book) → Found book keeper commands replies after front more
    found_cut book keeper commands replies after kept front more rest later is some whole =
        (0, book, keeper, front, (refl, refl), leads_nowhere (index_of provider) (with_salts_of other book) front, (kept, rest, is, some, later), λ none. sym (whole none))

    -- a command that wrote nothing is one more
    found_more : (book middle : Book) (keeper between : JournalState W) (asked : Operation) (said : Reply) (commands : List Operation) (replies : List Reply) (after : Book) (front more : List ℕ)
        → middle ≡ book → Turns provider (KeepsRecord contents) (LosesRecord contents) book keeper asked said middle between
        → Found middle between commands replies after front more → Found book keeper (asked ∷ commands) (said ∷ replies) after front more
    found_more book middle keeper between asked said commands replies after front more same turn (n, last, end, rest, run, leads, cut, whole) = (
      suc n,
      last,
      end,
      rest,
      (middle, between, turn, run),
      subst (λ (b : Book). RecordsLead (index_of provider) (with_salts_of other b) front (with_salts_of other last) rest) same leads,
      cut,
      whole,
    )

    -- a command whose record stands at the front is one more
    found_on : (book middle : Book) (keeper between : JournalState W) (asked : Operation) (said : Reply) (answer : Answer) (kept : Record) (commands : List Operation) (replies : List Reply) (after : Book) (front more : List ℕ)
        → kept_of book asked ≡ Some kept → step (index_of provider) book asked ≡ (Answers answer, middle) → IsLater kept
        → Turns provider (KeepsRecord contents) (LosesRecord contents) book keeper asked said middle between
        → Found middle between commands replies after front more → Found book keeper (asked ∷ commands) (said ∷ replies) after (record_bytes kept ++ front) more
    found_on book middle keeper between asked said answer kept commands replies after front more e does later turn (n, last, end, rest, run, leads, cut, whole) = (
      suc n,
      last,
      end,
      rest,
      (middle, between, turn, run),
      leads_on (index_of provider) (with_salts_of other book) (with_salts_of other middle) (with_salts_of other last) kept (record_bytes kept ++ front) front rest refl later
          (again (index_of provider) other book middle asked answer kept e does) leads,
      cut,
      whole,
    )

    -- a beginning of a record and what follows it is a beginning of the record, or has it whole
    within : (book middle : Book) (keeper between : JournalState W) (asked : Operation) (said : Reply) (answer : Answer) (kept : Record) (commands : List Operation) (replies : List Reply) (after : Book) (tail front more : List ℕ)
        → kept_of book asked ≡ Some kept → step (index_of provider) book asked ≡ (Answers answer, middle) → IsLater kept
        → Turns provider (KeepsRecord contents) (LosesRecord contents) book keeper asked said middle between
        → ((start end : List ℕ) → tail ≡ start ++ end → Found middle between commands replies after start end)
        → record_bytes kept ++ tail ≡ front ++ more
        → ((m : List ℕ) × (record_bytes kept ≡ front ++ m) × (m ≢ [])) ⊎ ((m : List ℕ) × (front ≡ record_bytes kept ++ m) × (tail ≡ m ++ more))
        → Found book keeper (asked ∷ commands) (said ∷ replies) after front more
    within book middle keeper between asked said answer kept commands replies after tail front more e does later turn founds is (inl (m, cut, some)) =
        found_cut book keeper (asked ∷ commands) (said ∷ replies) after kept front more m later cut some
        (λ none. absurd (omega (arith, longer front m some, ap length cut, ap length is, length-append (record_bytes kept) tail, length-append front more, ap length none)))
    within book middle keeper between asked said answer kept commands replies after tail front more e does later turn founds is (inr (m, whole, left)) =
        subst (λ (f : List ℕ). Found book keeper (asked ∷ commands) (said ∷ replies) after f more) (sym whole)
        (found_on book middle keeper between asked said answer kept commands replies after m more e does later turn (founds m more left))

    -- what a command and then others write
    by_turn : (book middle after : Book) (keeper between keeper_after : JournalState W) (asked : Operation) (said : Reply) (commands : List Operation) (replies : List Reply) (old : List ℕ)
        → keeper.is_broken ≡ false → contents keeper.writer ≡ Some old
        → Turns provider (KeepsRecord contents) (LosesRecord contents) book keeper asked said middle between
        → KeepsRun provider contents middle between commands replies after keeper_after
        → ((now : List ℕ) → between.is_broken ≡ false → contents between.writer ≡ Some now → Tail middle between commands replies after keeper_after now)
        → Stays book keeper middle between ⊎ (Writes book keeper asked middle between ⊎ Loses book keeper asked middle between)
        → Tail book keeper (asked ∷ commands) (said ∷ replies) after keeper_after old
    by_turn book middle after keeper between keeper_after asked said commands replies old fine held turn run tails (inl h) =
        let t = tails old (ap (λ (k : JournalState W). k.is_broken) h.1 ∙ fine) (ap (λ (k : JournalState W). contents k.writer) h.1 ∙ held) in
        (t.0, t.1, λ front more e. found_more book middle keeper between asked said commands replies after front more h.0 turn (t.2 front more e))
    by_turn book middle after keeper between keeper_after asked said commands replies old fine held turn run tails (inr (inl (kept, answer, is, h, does))) =
        let later = later_record book asked kept is h.0 in
        let t = tails (old ++ record_bytes kept) h.2 (appended (contents keeper.writer) (contents between.writer) old (record_bytes kept) held h.3) in (
          record_bytes kept ++ t.0,
          t.1 ∙ ap (λ (bytes : List ℕ). Some bytes) (append_assoc old (record_bytes kept) t.0),
          λ front more e. within book middle keeper between asked said answer kept commands replies after t.0 front more is does later turn t.2 e (parted (record_bytes kept) t.0 front more e),
        )
    by_turn book middle after keeper between keeper_after asked said commands replies old fine held turn run tails (inr (inr (lost, is, (broken, inl (h, unbroken, (left, some, (part, cut, adds)))), same))) =
        let ends = broken_run commands replies middle after between keeper_after broken run in (
          part,
          ap (λ (k : JournalState W). contents k.writer) ends.1 ∙ appended (contents keeper.writer) (contents between.writer) old part held adds,
          λ front more e. found_cut book keeper (asked ∷ commands) (said ∷ replies) after lost front more (more ++ left) (later_record book asked lost is h)
              (cut ∙ ap (λ (bytes : List ℕ). bytes ++ left) e ∙ append_assoc front more left)
              (λ none. absurd (omega (arith, some, ap length none, length-append more left)))
              (λ _. ends.0 ∙ same),
        )
    by_turn book middle after keeper between keeper_after asked said commands replies old fine held turn run tails (inr (inr (lost, is, (broken, inr (before, stays)), same))) =
        absurd (true≢false (sym before ∙ fine))

    written : (commands : List Operation) (replies : List Reply) (book after : Book) (keeper keeper_after : JournalState W) (old : List ℕ)
        → keeper.is_broken ≡ false → contents keeper.writer ≡ Some old → KeepsRun provider contents book keeper commands replies after keeper_after → Tail book keeper commands replies after keeper_after old
    written [] [] book after keeper keeper_after old fine held run =
        ([], ap (λ (k : JournalState W). contents k.writer) run.1 ∙ held ∙ ap (λ (bytes : List ℕ). Some bytes) (sym (append-nil old)), λ front more e. found_none book keeper [] [] after front more run.0 e)
    written [] (said ∷ replies) book after keeper keeper_after old fine held run = absurd run
    written (asked ∷ commands) [] book after keeper keeper_after old fine held run = absurd run
    written (asked ∷ commands) (said ∷ replies) book after keeper keeper_after old fine held run =
        by_turn book run.0 after keeper run.1 keeper_after asked said commands replies old fine held run.2 run.3
        (λ now sound has. written commands replies run.0 after run.1 keeper_after now sound has run.3)
        (turned book run.0 keeper run.1 asked said run.2)

    -- also where the keeper was broken before
    pub held_tail : (b : Bool) (commands : List Operation) (replies : List Reply) (book after : Book) (keeper keeper_after : JournalState W) (old : List ℕ)
        → keeper.is_broken ≡ b → contents keeper.writer ≡ Some old → KeepsRun provider contents book keeper commands replies after keeper_after → Tail book keeper commands replies after keeper_after old
    held_tail false commands replies book after keeper keeper_after old fine held run = written commands replies book after keeper keeper_after old fine held run
    held_tail true commands replies book after keeper keeper_after old broken held run =
        let ends = broken_run commands replies book after keeper keeper_after broken run in (
          [],
          ap (λ (k : JournalState W). contents k.writer) ends.1 ∙ held ∙ ap (λ (bytes : List ℕ). Some bytes) (sym (append-nil old)),
          λ front more e. found_none book keeper commands replies after front more ends.0 e,
        )

  -- ---- the journal as a whole

  some_same : (one two : List ℕ) → (let left : Option (List ℕ) = Some one in left) ≡ Some two → one ≡ two
  some_same one two e = cc

  pub reopened : (beginning : Beginning) (salts later : Stream) (keeper keeper_after : JournalState W) (after : Book) (commands : List Operation) (replies : List Reply) (bytes front more : List ℕ)
      → IsStart beginning → 0 < beginning.epoch → contents keeper.writer ≡ Some (start_bytes beginning)
      → KeepsRun provider contents (begun beginning salts) keeper commands replies after keeper_after
      → contents keeper_after.writer ≡ Some bytes → bytes ≡ front ++ more
      → IsCut start_bytes IsStart front
      ⊎ ((middle : Book) × OpensInto provider contents beginning.signing_key beginning.vuf_key later (begun beginning salts) keeper commands replies front middle × (more ≡ [] → middle ≡ after))
  reopened beginning salts later keeper keeper_after after commands replies bytes front more start positive held run holds is =
      by_part (parted (start_bytes beginning) tail.0 front more (some_same _ _ (sym tail.1 ∙ holds) ∙ is))
    where
      tail : Tail (begun beginning later) (begun beginning salts) keeper commands replies after keeper_after (start_bytes beginning)
      tail = held_tail (begun beginning later) keeper.is_broken commands replies (begun beginning salts) after keeper keeper_after (start_bytes beginning) refl held run

      by_part : ((m : List ℕ) × (start_bytes beginning ≡ front ++ m) × (m ≢ [])) ⊎ ((m : List ℕ) × (front ≡ start_bytes beginning ++ m) × (tail.0 ≡ m ++ more))
          → IsCut start_bytes IsStart front
          ⊎ ((middle : Book) × OpensInto provider contents beginning.signing_key beginning.vuf_key later (begun beginning salts) keeper commands replies front middle × (more ≡ [] → middle ≡ after))
      by_part (inl (m, cut, some)) = inl (beginning, m, cut, some, start)
      by_part (inr (m, whole, left)) =
          opens (tail.2 m more left)
        where
          opens : Found (begun beginning later) (begun beginning salts) keeper commands replies after m more
              → IsCut start_bytes IsStart front
              ⊎ ((middle : Book) × OpensInto provider contents beginning.signing_key beginning.vuf_key later (begun beginning salts) keeper commands replies front middle × (more ≡ [] → middle ≡ after))
          opens (n, middle, between, rest, ran, leads, cut, all) = inr (
            middle,
            (
              n,
              length (start_bytes beginning) + length (records_bytes leads.0),
              (between, ran),
              (
                rest,
                (beginning, m, whole, start, positive, (refl, refl), leads),
                cut,
                omega (arith, ap length whole, length-append (start_bytes beginning) m, ap length leads.1, length-append (records_bytes leads.0) rest),
              ),
            ),
            all,
          )

  -- a run that goes on with what a journal held
  pub goes_on : (signing_key vuf_key : List ℕ) (later : Stream) (keeper keeper_after : JournalState W) (book after : Book) (commands : List Operation) (replies : List Reply) (held bytes front more : List ℕ)
      → contents keeper.writer ≡ Some held → OpensTo (index_of provider) signing_key vuf_key later held (with_stream later book) (length held)
      → KeepsRun provider contents book keeper commands replies after keeper_after
      → contents keeper_after.writer ≡ Some bytes → bytes ≡ front ++ more → length held ≤ length front
      → (middle : Book) × OpensInto provider contents signing_key vuf_key later book keeper commands replies front middle × (more ≡ [] → middle ≡ after)
  goes_on signing_key vuf_key later keeper keeper_after book after commands replies held bytes front more has opens run holds is long =
      by_part (parted held tail.0 front more (some_same _ _ (sym tail.1 ∙ holds) ∙ is))
    where
      tail : Tail (with_stream later book) book keeper commands replies after keeper_after held
      tail = held_tail (with_stream later book) keeper.is_broken commands replies book after keeper keeper_after held refl has run

      by_part : ((m : List ℕ) × (held ≡ front ++ m) × (m ≢ [])) ⊎ ((m : List ℕ) × (front ≡ held ++ m) × (tail.0 ≡ m ++ more))
          → (middle : Book) × OpensInto provider contents signing_key vuf_key later book keeper commands replies front middle × (more ≡ [] → middle ≡ after)
      by_part (inl (m, cut, some)) = absurd (omega (arith, ap length cut, longer front m some, long))
      by_part (inr (m, whole, left)) = joined opens (tail.2 m more left)
        where
          joined : OpensTo (index_of provider) signing_key vuf_key later held (with_stream later book) (length held) → Found (with_stream later book) book keeper commands replies after m more
              → (middle : Book) × OpensInto provider contents signing_key vuf_key later book keeper commands replies front middle × (more ≡ [] → middle ≡ after)
          joined (rest, (beginning, behind, spelled, start, positive, keys, leads), cut, length_is) (n, middle, between, left_over, ran, on, short, all) =
              let none : rest ≡ [] = nothing rest (omega (arith, length_is)) in
              let first = subst (λ (r : List ℕ). RecordsLead (index_of provider) (begun beginning later) behind (with_stream later book) r) none leads in
              let both = leads_join (index_of provider) first.0 (begun beginning later) (with_stream later book) (with_stream later middle) behind m left_over first.1 first.2 first.3 on in (
                middle,
                (
                  n,
                  length (start_bytes beginning) + length (records_bytes both.0),
                  (between, ran),
                  (
                    left_over,
                    (beginning, behind ++ m, whole ∙ ap (λ (t : List ℕ). t ++ m) spelled ∙ append_assoc (start_bytes beginning) behind m, start, positive, keys, both),
                    short,
                    omega (arith, ap length whole, ap length spelled, length-append held m, length-append (start_bytes beginning) behind, length-append behind m, ap length both.1, length-append (records_bytes both.0) left_over),
                  ),
                ),
                all,
              )
