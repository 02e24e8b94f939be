-- What a directory answers to a line that asks.
use Rattle.std.proofs.Common.{◌≡◌, ℕ, List, [], ◌∷◌, Option, Ok, refl, sym, ap, subst, ◌∙◌, inl, inr}
use Rattle.std.specs.Prelude.{is_none}
use Rattle.commands.specs.Operations.{Operation, Query, Lookup}
use Rattle.book.specs.declared.record.Record.{Record}
use Rattle.book.specs.declared.directory_refusal.Refusal.TheVariants.{NoSuchEpoch}
use Rattle.book.specs.declared.reply.Reply.{Reply}
use Rattle.book.specs.declared.reply.Reply.TheVariants as reply_of
use Rattle.book.specs.Steps.{Answer, Promised, Found, Told, Last, bad_name, Outcome, Answers, Refuses, step, kept_of}
use Rattle.book.specs.Books.{Binding, Book, Page, page_at}
use Rattle.encoding.specs.Maps.{at}
use Rattle.book.specs.Shows.{Provider, index_of, IsReplyOf}
use Rattle.book.specs.Turns.{Declines, Shows, Turn}
use Rattle.book.proofs.Stepping.{finds, stepped}
use Rattle.book.proofs.Turning.{is-name, passed}
use Rattle.play.specs.Answering.{AnswersAreTold, IsUnchecked, LookupsAreShown}
use Rattle.play.specs.Hearing.{IsGranted}
use Rattle.play.specs.Lines.{answer_text, checked_text, upshot_text}
use Rattle.play.specs.Messages.{Upshot, comes_of, upshot_of}
use Rattle.play.proofs.Hearing.{given-up, turned, AreOfPages}

module _ (provider : Provider) {K : Type 0} (kept failed : K → Record → K → Type 0) where
  -- a reply that no client checks is of no page that was asked for
  of-none : (now : ℕ) (asked : Operation) (said : Reply) → IsUnchecked said → AreOfPages provider now (asked ∷ []) (said ∷ [])
  of-none now asked said unchecked latest name epoch text (inl here) = absurd (subst IsUnchecked here.2 unchecked)
  of-none now asked said unchecked latest name epoch text (inr none) = absurd none

  -- an answer that such a reply shows has one text
  pub same-text : (index : List ℕ → List ℕ) (book after : Book) (answer : Answer) (said : Reply) → IsUnchecked said → Shows provider after answer said → answer_text after answer ≡ checked_text index after answer
  same-text index book after (Promised name binding) said unchecked shows = refl
  same-text index book after (Told pages) said unchecked shows = refl
  same-text index book after (Last page) said unchecked shows = refl
  same-text index book after (Found page name held) (reply_of.Promised signed) unchecked shows = let e = shows.3 in absurd cc
  same-text index book after (Found page name held) (reply_of.Found text) unchecked shows = absurd unchecked
  same-text index book after (Found page name held) (reply_of.Told told) unchecked shows = let e = shows.1 in absurd cc
  same-text index book after (Found page name held) (reply_of.Last root) unchecked shows = let e = shows.1 in absurd cc
  same-text index book after (Found page name held) (reply_of.Refused why) unchecked shows = absurd shows

  -- what comes of the command has one text too
  OneText : Book → Book → Operation → Type 0
  OneText book after asked = upshot_text (answer_text after) (comes_of (index_of provider) book (Ok asked)).0 ≡ upshot_text (checked_text (index_of provider) after) (comes_of (index_of provider) book (Ok asked)).0

  answered-once : (book after : Book) (asked : Operation) (said : Reply) → IsUnchecked said → (answer : Answer) → step (index_of provider) book asked ≡ (Answers answer, after) → Shows provider after answer said → OneText book after asked
  unfolding OneText
  answered-once book after asked said unchecked answer is shows =
      let comes : (comes_of (index_of provider) book (Ok asked)).0 ≡ Ok answer = ap (λ (now : Outcome × Book). upshot_of now.0) is in
      subst (λ (n : Upshot). upshot_text (answer_text after) n ≡ upshot_text (checked_text (index_of provider) after) n) (sym comes)
      (same-text (index_of provider) book after answer said unchecked shows)

  one-text : (book after : Book) (keeper later : K) (asked : Operation) (said : Reply) → IsUnchecked said → IsGranted said → Turn provider kept failed book keeper asked said after later → OneText book after asked
  unfolding OneText
  one-text book after keeper later asked (reply_of.Refused why) unchecked granted (stays, declines) = by (step (index_of provider) book asked).0 declines
    where
      by : (outcome : Outcome) → Declines provider kept failed outcome (kept_of book asked) keeper why later
          → upshot_text (answer_text after) (upshot_of outcome) ≡ upshot_text (checked_text (index_of provider) after) (upshot_of outcome)
      by (Refuses due) d = refl
      by (Answers answer) d = absurd (given-up provider kept failed keeper later why answer (kept_of book asked) granted d)
  one-text book after keeper later asked (reply_of.Found text) unchecked granted turn = absurd unchecked
  one-text book after keeper later asked (reply_of.Promised signed) unchecked granted (answer, is, keeps, shows) = answered-once book after asked (reply_of.Promised signed) unchecked answer is shows
  one-text book after keeper later asked (reply_of.Told told) unchecked granted (answer, is, keeps, shows) = answered-once book after asked (reply_of.Told told) unchecked answer is shows
  one-text book after keeper later asked (reply_of.Last root) unchecked granted (answer, is, keeps, shows) = answered-once book after asked (reply_of.Last root) unchecked answer is shows

  pub answers-told : AnswersAreTold provider kept failed
  unfolding OneText
  answers-told book after keeper later asked said responded sound turn granted unchecked responds =
      let t = turned provider kept failed book after keeper later asked said responded sound.ascend turn granted responds (of-none book.last.epoch asked said unchecked) in
      (t.book_after, t.line ∙ one-text book after keeper later asked said unchecked granted turn)

  pub lookups-shown : LookupsAreShown provider kept failed
  lookups-shown book after keeper later name epoch text sound small (answer, is, keeps, (page, other, held, root, same, rooted, shown)) =
      let d = stepped (index_of provider) book (Query (Lookup name epoch)) answer after is in
      let f = finds book (Lookup name epoch) answer d.does.0 in
      let e : Found f.0 name (at f.0.bindings name) ≡ Found page other held = sym f.2 ∙ same in
      let own : f.0 ≡ page = cc in
      let named : name ≡ other = cc in
      let has : at f.0.bindings name ≡ held = cc in
      let found : at page.bindings name ≡ held = subst (λ (p : Page). at p.bindings name ≡ held) own has in
      let its : IsReplyOf provider page root.body name (at page.bindings name) text
      = subst (λ (n : List ℕ). IsReplyOf provider page root.body n (at page.bindings name) text) (sym named)
      (subst (λ (h : Option Binding). IsReplyOf provider page root.body other h text) (sym found) shown) in
      let comes : comes_of (index_of provider) book (Ok (Query (Lookup name epoch))) ≡ (Ok (Found page name (at page.bindings name)), after)
      = ap (λ (now : Outcome × Book). (upshot_of now.0, now.1)) is
      ∙ ap (λ (a : Answer). (Ok a, after)) (f.2 ∙ ap (λ (p : Page). Found p name (at p.bindings name)) own) in
      (page, root, record { sound = sound; rooted = rooted; named = is-name name (passed (bad_name name) ((is_none (page_at book epoch), NoSuchEpoch) ∷ []) d.none).0 small; shown = its }, comes)
