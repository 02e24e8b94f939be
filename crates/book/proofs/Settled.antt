-- The commands settle a run, where none of its calls fails: what each reply shows is in one form only.
use Rattle.std.proofs.Common.{◌≡◌, ◌≢◌, ◌↔◌, ◌⊎◌, ℕ, List, [], ◌∷◌, map, AllPairs, Option, Some, None, refl, sym, ap, ap₂, subst, ◌∙◌, inl, inr}
use Rattle.std.specs.List.{AllZip}
use Rattle.rootchain.specs.declared.body.Body.{Body}
use Rattle.rootchain.specs.declared.signed_root.SignedRoot.{SignedRoot}
use Rattle.prefixtree.specs.declared.path.End.{End as PathEnd}
use Rattle.prefixtree.proofs.Unique.{one-path}
use Rattle.proofs.specs.Replies.{reply_bytes}
use Rattle.book.specs.declared.record.Record.{Record}
use Rattle.book.specs.declared.directory_refusal.Refusal.{Refusal}
use Rattle.book.specs.declared.directory_refusal.Refusal.TheVariants.{Memory, KeepFailed}
use Rattle.book.specs.declared.reply.Reply.{Reply}
use Rattle.book.specs.declared.reply.Reply.TheVariants as reply
use Rattle.book.specs.Steps.{Answer, Promised, Found, Told, Last, Outcome, Answers, Refuses, step, kept_of}
use Rattle.commands.specs.Operations.{Operation}
use Rattle.book.specs.Books.{Binding, Book, Page, pages}
use Rattle.book.specs.Replies as seen
use Rattle.book.specs.Replies.{ReplyContent, FailAlike, reply_content}
use Rattle.book.specs.Shows.{Provider, index_of, placement, promise, reply_end, signed_promise, IsReplyOf, IsRootOf}
use Rattle.book.specs.Turns.{Declines, Run, Shows, Turn}
use Rattle.book.proofs.Growing.{run-grows}
use Rattle.book.proofs.OneRoot.{one-root, same-roots}
use Rattle.book.proofs.Soundness.{IsBefore}

module _ (provider : Provider) where
  one-text : (page : Page) (body : Body) (name : List ℕ) (found : Option Binding) (text other : List ℕ) → IsReplyOf provider page body name found text → IsReplyOf provider page body name found other → text ≡ other
  one-text page body name found text other is also =
      let same = one-path provider.hash page.nonce (placement provider page.bindings) (index_of provider name) is.siblings also.siblings is.end also.end is.path also.path in
      is.spelled
      ∙ ap₂ (λ (siblings : List (List ℕ)) (end : PathEnd). reply_bytes (record { body = body; value = provider.value name; end = reply_end (index_of provider name) found end; siblings = siblings })) same.0 same.1
      ∙ sym also.spelled

  -- ---- one form of a reply

  -- what a reply shows, by the answer
  abbrev ShowsSo : Book → Answer → ReplyContent → Type 0
  ShowsSo book (Promised name binding) said = (root : SignedRoot) × IsRootOf provider book book.last root × (said ≡ seen.Promised (signed_promise provider (promise provider root.body name binding)))
  ShowsSo book (Found page name found) said = (root : SignedRoot) × (text : List ℕ) × IsRootOf provider book page root × IsReplyOf provider page root.body name found text × (said ≡ seen.Found text)
  ShowsSo book (Told told) said = (roots : List SignedRoot) × AllZip (IsRootOf provider book) told roots × (said ≡ seen.Told roots)
  ShowsSo book (Last page) said = (root : SignedRoot) × IsRootOf provider book page root × (said ≡ seen.Last root)

  shows-so : (book : Book) (answer : Answer) (said : Reply) → Shows provider book answer said → ShowsSo book answer (reply_content said)
  shows-so book answer (reply.Promised signed) (name, binding, root, is, rooted, so) =
      subst (λ (a : Answer). ShowsSo book a (seen.Promised signed)) (sym is) (root, rooted, ap (λ (s : _). seen.Promised s) so)
  shows-so book answer (reply.Found text) (page, name, found, root, is, rooted, so) = subst (λ (a : Answer). ShowsSo book a (seen.Found text)) (sym is) (root, text, rooted, so, refl)
  shows-so book answer (reply.Told told) (all, is, rooted) = subst (λ (a : Answer). ShowsSo book a (seen.Told told.items)) (sym is) (told.items, rooted, refl)
  shows-so book answer (reply.Last root) (page, is, rooted) = subst (λ (a : Answer). ShowsSo book a (seen.Last root)) (sym is) (root, rooted, refl)
  shows-so book answer (reply.Refused why) shows = absurd shows

  one-seen : (book : Book) → AllPairs IsBefore (pages book) → (answer : Answer) (said other : ReplyContent) → ShowsSo book answer said → ShowsSo book answer other → said ≡ other
  one-seen book ascend (Promised name binding) said other (root, is, so) (beside, also, too) =
      so ∙ ap (λ (r : SignedRoot). seen.Promised (signed_promise provider (promise provider r.body name binding))) (one-root provider book ascend book.last root beside is also) ∙ sym too
  one-seen book ascend (Found page name found) said other (root, text, is, shows, so) (beside, written, also, show, too) =
      let same = one-root provider book ascend page root beside is also in
      so ∙ ap (λ (t : List ℕ). seen.Found t) (one-text page beside.body name found text written (subst (λ (r : SignedRoot). IsReplyOf provider page r.body name found text) same shows) show) ∙ sym too
  one-seen book ascend (Told told) said other (roots, is, so) (others, also, too) = so ∙ ap (λ (r : List SignedRoot). seen.Told r) (same-roots provider book ascend told roots others is also) ∙ sym too
  one-seen book ascend (Last page) said other (root, is, so) (beside, also, too) = so ∙ ap (λ (r : SignedRoot). seen.Last r) (one-root provider book ascend page root beside is also) ∙ sym too

  -- ---- one outcome of a turn

  no-refusal : (book : Book) (answer : Answer) (said : ReplyContent) (why : Refusal) → ShowsSo book answer said → said ≡ seen.Refused why → ⊥
  no-refusal book (Promised name binding) said why shows is = let e = sym shows.2 ∙ is in absurd cc
  no-refusal book (Found page name found) said why shows is = let e = sym shows.4 ∙ is in absurd cc
  no-refusal book (Told told) said why shows is = let e = sym shows.2 ∙ is in absurd cc
  no-refusal book (Last page) said why shows is = let e = sym shows.2 ∙ is in absurd cc

  -- the step refuses, or its answer is shown, or the record was not kept
  data IsStep (book : Book) (asked : Operation) (said : ReplyContent) (after : Book) : Type 0 where
    refuses : (why : Refusal) → (step (index_of provider) book asked).0 ≡ Refuses why → said ≡ seen.Refused why → after ≡ book → IsStep book asked said after
    answers : (answer : Answer) → step (index_of provider) book asked ≡ (Answers answer, after) → ShowsSo after answer said → IsStep book asked said after
    fails : (answer : Answer) → (step (index_of provider) book asked).0 ≡ Answers answer → said ≡ seen.Refused KeepFailed → after ≡ book → IsStep book asked said after

  module _ {K : Type 0} (kept failed : K → Record → K → Type 0) where
    due-or-failed : (outcome : Outcome) (what : Option Record) (keeper after : K) (why : Refusal) → seen.Refused why ≢ seen.Refused Memory → Declines provider kept failed outcome what keeper why after
        → (outcome ≡ Refuses why) ⊎ ((answer : Answer) × (outcome ≡ Answers answer) × (why ≡ KeepFailed))
    due-or-failed (Refuses due) what keeper after why fine declines = inl (ap (λ (w : Refusal). Refuses w) (sym declines.0))
    due-or-failed (Answers answer) None keeper after why fine declines = absurd declines
    due-or-failed (Answers answer) (Some what) keeper after why fine declines = elim declines [
      | inl memory ↦ absurd (fine (ap (λ (w : Refusal). seen.Refused w) memory.0))
      | inr keep ↦ inr (answer, refl, keep.0)
    ]

    turn-steps : (book after : Book) (keeper later : K) (asked : Operation) (said : Reply) → reply_content said ≢ seen.Refused Memory → Turn provider kept failed book keeper asked said after later → IsStep book asked (reply_content said) after
    turn-steps book after keeper later asked (reply.Refused why) fine (same, declines) =
        elim (due-or-failed (step (index_of provider) book asked).0 (kept_of book asked) keeper later why fine declines) [
          | inl due ↦ refuses why due refl same
          | inr (answer, is, failed_so) ↦ fails answer is (ap (λ (w : Refusal). seen.Refused w) failed_so) same
        ]
    turn-steps book after keeper later asked (reply.Promised signed) fine (answer, is, keeps, shows) = answers answer is (shows-so after answer (reply.Promised signed) shows)
    turn-steps book after keeper later asked (reply.Found text) fine (answer, is, keeps, shows) = answers answer is (shows-so after answer (reply.Found text) shows)
    turn-steps book after keeper later asked (reply.Told told) fine (answer, is, keeps, shows) = answers answer is (shows-so after answer (reply.Told told) shows)
    turn-steps book after keeper later asked (reply.Last root) fine (answer, is, keeps, shows) = answers answer is (shows-so after answer (reply.Last root) shows)

  one-refusal : (why due : Refusal) → Refuses why ≡ Refuses due → why ≡ due
  one-refusal why due same = cc

  one-answer : (answer other : Answer) → Answers answer ≡ Answers other → answer ≡ other
  one-answer answer other same = cc

  no-both : (why : Refusal) (answer : Answer) → Refuses why ≡ Answers answer → ⊥
  no-both why answer same = absurd cc

  first-of : (outcome : Outcome) (book after : Book) (asked : Operation) → step (index_of provider) book asked ≡ (outcome, after) → (step (index_of provider) book asked).0 ≡ outcome
  first-of outcome book after asked is = ap (λ (s : Outcome × Book). s.0) is

  one-step : (book after left : Book) (asked : Operation) (said other : ReplyContent) → AllPairs IsBefore (pages after) → (said ≡ seen.Refused KeepFailed) ↔ (other ≡ seen.Refused KeepFailed)
      → IsStep book asked said after → IsStep book asked other left → (after ≡ left) × (said ≡ other)
  one-step book after left asked said other ascend alike (refuses why is so same) (refuses due also too stays) =
      (same ∙ sym stays, so ∙ ap (λ (w : Refusal). seen.Refused w) (one-refusal why due (sym is ∙ also)) ∙ sym too)
  one-step book after left asked said other ascend alike (refuses why is so same) (answers answer also shows) = absurd (no-both why answer (sym is ∙ first-of (Answers answer) book left asked also))
  one-step book after left asked said other ascend alike (refuses why is so same) (fails answer also too stays) = absurd (no-both why answer (sym is ∙ also))
  one-step book after left asked said other ascend alike (answers answer is shows) (refuses why also too stays) = absurd (no-both why answer (sym also ∙ first-of (Answers answer) book after asked is))
  one-step book after left asked said other ascend alike (answers answer is shows) (answers beside also show) =
      let here : after ≡ left = ap (λ (s : Outcome × Book). s.1) (sym is ∙ also) in
      let same : answer ≡ beside = one-answer answer beside (ap (λ (s : Outcome × Book). s.0) (sym is ∙ also)) in (
        here,
        one-seen after ascend answer said other shows
            (subst (λ (b : Book). ShowsSo b answer other) (sym here) (subst (λ (a : Answer). ShowsSo left a other) (sym same) show)),
      )
  one-step book after left asked said other ascend alike (answers answer is shows) (fails beside also too stays) = absurd (no-refusal after answer said KeepFailed shows (alike.1 too))
  one-step book after left asked said other ascend alike (fails answer is so same) (refuses why also too stays) = absurd (no-both why answer (sym also ∙ is))
  one-step book after left asked said other ascend alike (fails answer is so same) (answers beside also show) = absurd (no-refusal left beside other KeepFailed show (alike.0 so))
  one-step book after left asked said other ascend alike (fails answer is so same) (fails beside also too stays) = (same ∙ sym stays, so ∙ sym too)

  -- ---- one run

  module _ {K L : Type 0} (kept failed : K → Record → K → Type 0) (keeps lacks : L → Record → L → Type 0) where
    pub run-settled : (commands : List Operation) (replies others : List Reply) (book after left : Book) (keeper later : K) (beside behind : L) → AllPairs IsBefore (pages book)
        → AllZip FailAlike replies others
        → Run provider kept failed book keeper commands replies after later → Run provider keeps lacks book beside commands others left behind
        → (after ≡ left) × (map reply_content replies ≡ map reply_content others)
    run-settled [] [] [] book after left keeper later beside behind ascend alike run also = (run.0 ∙ sym also.0, refl)
    run-settled [] [] (other ∷ others) book after left keeper later beside behind ascend alike run also = absurd also
    run-settled [] (said ∷ replies) others book after left keeper later beside behind ascend alike run also = absurd run
    run-settled (asked ∷ commands) [] others book after left keeper later beside behind ascend alike run also = absurd run
    run-settled (asked ∷ commands) (said ∷ replies) [] book after left keeper later beside behind ascend alike run also = absurd also
    run-settled (asked ∷ commands) (said ∷ replies) (other ∷ others) book after left keeper later beside behind ascend alike (middle, between, turn, run) (place, among, other_turn, also) =
        let grown : AllPairs IsBefore (pages middle) =
        (run-grows provider kept failed (asked ∷ []) (said ∷ []) book middle keeper between ascend (middle, between, turn, (refl, refl))).ascend in
        let one = one-step book middle place asked (reply_content said) (reply_content other) grown alike.0.2 (turn-steps kept failed book middle keeper between asked said alike.0.0 turn)
        (turn-steps keeps lacks book place beside among asked other alike.0.1 other_turn) in
        let more = run-settled commands replies others middle after left between later among behind grown alike.1 run
        (subst (λ (b : Book). Run provider keeps lacks b among commands others left behind) (sym one.0) also) in
        (more.0, ap₂ (λ (s : ReplyContent) (ss : List ReplyContent). s ∷ ss) one.1 more.1)
