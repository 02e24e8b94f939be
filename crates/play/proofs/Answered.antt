-- The line of the reply to what a line asks.
use Rattle.std.proofs.Common.{◌≡◌, ◌≢◌, ℕ, Global, List, [], ◌∷◌, Option, Some, None, Ok, Err, AllPairs, Bool, true, false, cond, refl, sym, ap, subst, ◌∙◌, arith}
use Rattle.std.specs.Prelude.{Vec, ◌==◌, if◌then◌else◌}
use Rattle.std.specs.Str.{bytes_eq}
use Rattle.rand_core.specs.Stream.{Stream}
use Rattle.encoding.specs.Bytes.{IsBytes}
use Rattle.rootchain.specs.declared.signed_root.SignedRoot.{SignedRoot}
use Rattle.commands.specs.Operations.{Operation, Question, Query, Edit, Put, Promise, Lookup, History, Head}
use Rattle.commands.specs.Operations as ask
use Rattle.wire.specs.Requests.{RequestContent, IsAsked}
use Rattle.wire.specs.Requests as request
use Rattle.wire.specs.Responses as response
use Rattle.wire.specs.declared.response.TheConstants.{PROOF}
use Rattle.hub.specs.Desks.{command, or_not_operator, reply_frame}
use Rattle.book.specs.declared.reply.Reply.{Reply}
use Rattle.book.specs.declared.reply.Reply.TheVariants as reply
use Rattle.book.specs.Steps.{Answer, Promised, Found, Told, Last, Outcome}
use Rattle.book.specs.Books.{Binding, Book, Page, page_at, pages}
use Rattle.book.specs.ProviderLaws.{KeepsLaws}
use Rattle.book.specs.Honest.{IsHonestRun}
use Rattle.book.specs.Keeps.{KeepsNothing, NeverFails}
use Rattle.encoding.specs.Maps.{at}
use Rattle.book.specs.Shows.{Provider, index_of, roots, IsReplyOf, IsRootOf}
use Rattle.book.specs.Sound.{IsSound}
use Rattle.book.specs.Turns.{Turn}
use Rattle.book.proofs.Growing.{run-grows}
use Rattle.book.proofs.Soundness.{IsBefore}
use Rattle.book.proofs.Stepping.{finds, stepped, Does, Finds}
use Rattle.book.proofs.Turning.{asked-page}
use Rattle.epochs.proofs.Binding.{same_provider}
use Rattle.play.specs.Answering.{IsUnchecked}
use Rattle.play.specs.Checked.{line_of_reply, HasLookedUp}
use Rattle.play.specs.Checking.{IsShownIn}
use Rattle.play.specs.Hearing.{response_text}
use Rattle.play.specs.Lines.{answer_text, checked_text, found_text, upshot_text}
use Rattle.play.specs.Messages.{comes_of, upshot_of, request_asks, Upshot}
use Rattle.play.specs.Parties.{book_of, chain_under, provider_of, HasAsked, Parties}
use Rattle.play.specs.declared.ask.Ask.{Ask}
use Rattle.play.specs.declared.ask.Ask.TheVariants as made
use Rattle.play.specs.Scripts.{token, ask_seen}
use Rattle.play.proofs.Answering.{lookups-shown, same-text}
use Rattle.play.proofs.Comes.{turn_comes, Comes, HasCome}
use Rattle.play.proofs.Turns.{unchecked_told}

-- ---- a proof answers a look-up

-- the answer is what a page has
abbrev IsOfPage : Answer → Type 0
IsOfPage answer = (page : Page) × (name : List ℕ) × (found : Option Binding) × (answer ≡ Found page name found)

not-promised : {own : List ℕ} {binding : Binding} {page : Page} {name : List ℕ} {found : Option Binding} → Promised own binding ≡ Found page name found → ⊥
not-promised e = absurd cc

not-told : {some : List Page} {page : Page} {name : List ℕ} {found : Option Binding} → Told some ≡ Found page name found → ⊥
not-told e = absurd cc

not-last : {last page : Page} {name : List ℕ} {found : Option Binding} → Last last ≡ Found page name found → ⊥
not-last e = absurd cc

by-lookup : (book after : Book) (asked : Operation) (answer : Answer) → Does book asked answer after → IsOfPage answer → (name : List ℕ) × (epoch : ℕ) × (asked ≡ Query (Lookup name epoch))
by-lookup book after (Query question) answer does (page, name, found, is) = by question (finds book question answer does.0)
  where
    by : (question : Question) → Finds book question answer → (n : List ℕ) × (epoch : ℕ) × (Query question ≡ Query (Lookup n epoch))
    by (Lookup own epoch) finds_so = (own, epoch, refl)
    by (Promise own) (binding, there, other) = absurd (not-promised (sym other ∙ is))
    by (History from count) other = absurd (not-told (sym other ∙ is))
    by Head other = absurd (not-last (sym other ∙ is))
by-lookup book after (Edit (Put verb own key)) answer does (page, name, found, is) = absurd (not-promised (sym does.0 ∙ is))
by-lookup book after (Edit (ask.Turn epoch _)) answer does (page, name, found, is) = absurd (not-last (sym does.0 ∙ is))

-- a request of a look-up
request-of : (requested : RequestContent) (name : List ℕ) (epoch : ℕ) → command token requested ≡ Some (Query (Lookup name epoch)) → requested ≡ request.Query (Lookup name epoch)
request-of (request.Query question) name epoch is =
    let e : Some (Query question) ≡ Some (Query (Lookup name epoch)) = is in
    let same : question ≡ Lookup name epoch = cc in
    ap (λ (q : Question). request.Query q) same
request-of (request.Put verb own key) name epoch is = let e : Some (Edit (Put verb own key)) ≡ Some (Query (Lookup name epoch)) = is in absurd cc
request-of (request.Turn given at_epoch nonce) name epoch is = by (bytes_eq given token) is
  where
    by : (t : Bool) → cond t (Some (Edit (ask.Turn at_epoch nonce))) None ≡ Some (Query (Lookup name epoch)) → request.Turn given at_epoch nonce ≡ request.Query (Lookup name epoch)
    by true is_so = let e : Some (Edit (ask.Turn at_epoch nonce)) ≡ Some (Query (Lookup name epoch)) = is_so in absurd cc
    by false is_so = let e : None ≡ Some (Query (Lookup name epoch)) = is_so in absurd cc

-- no look-up was asked for
pub no-lookup : (one : Ask) → ((name : Vec ℕ Global) (epoch : ℕ) → one ≡ made.Lookup name epoch → ⊥) → (name : List ℕ) (epoch : ℕ) → ask_seen one ≡ request.Query (Lookup name epoch) → ⊥
no-lookup (made.Lookup held at_epoch) none name epoch is = none held at_epoch refl
no-lookup (made.Put verb held bound policy) none name epoch is = absurd cc
no-lookup (made.Promise held) none name epoch is = absurd cc
no-lookup (made.History from count) none name epoch is = absurd cc
no-lookup made.Head none name epoch is = absurd cc
no-lookup (made.Turn at_epoch _) none name epoch is = absurd cc

-- ---- what was said, by the kind of its frame

-- a frame of another kind is no reply to a look-up
pub unchecked-kind : (said : Reply) → (reply_frame said).kind ≢ PROOF → IsUnchecked said
unchecked-kind (reply.Promised signed) other = tt
unchecked-kind (reply.Found text) other = absurd (other refl)
unchecked-kind (reply.Told told) other = tt
unchecked-kind (reply.Last root) other = tt
unchecked-kind (reply.Refused why) other = tt

-- and one of its kind is
pub found-kind : (said : Reply) → (reply_frame said).kind ≡ PROOF → (found : List ℕ) × (said ≡ reply.Found found)
found-kind (reply.Found text) is = (text, refl)
found-kind (reply.Promised signed) is = let e : 129 ≡ 130 = is in absurd (omega (arith, e))
found-kind (reply.Told told) is = let e : 131 ≡ 130 = is in absurd (omega (arith, e))
found-kind (reply.Last root) is = let e : 132 ≡ 130 = is in absurd (omega (arith, e))
found-kind (reply.Refused why) is = let e : 255 ≡ 130 = is in absurd (omega (arith, e))

-- ---- the reply to one request

module _ {R : Type 0} (digest_of : List ℕ → List ℕ) (value_of signature_of : List ℕ → List ℕ → List ℕ) (stream : R → Stream) (accepted verified : List ℕ → List ℕ → List ℕ → Type 0)
    (before after : Parties R) (requested : RequestContent) (text : List ℕ) (a : HasAsked digest_of value_of signature_of stream accepted verified before requested text after) where
  abbrev P : Parties R → Provider
  P = provider_of digest_of value_of signature_of stream accepted verified

  abbrev B : Parties R → Book
  B = book_of digest_of value_of signature_of stream accepted verified

  abbrev index : List ℕ → List ℕ
  index = index_of (P before)

  abbrev line : List ℕ
  line = line_of_reply digest_of value_of signature_of stream accepted verified before requested

  request-is : request_asks requested ≡ Ok a.asked
  request-is = ap or_not_operator a.is

  pub grown : AllPairs IsBefore (pages (B after))
  grown =
      (run-grows (P before) KeepsNothing NeverFails (a.asked ∷ []) (a.said ∷ []) (B before) (B after) before.hub.service.keeper after.hub.service.keeper a.sound.ascend
      (B after, after.hub.service.keeper, a.turn, (refl, refl))).ascend

  pub come : HasCome (P before) (B before) (B after) a.asked a.said
  come = turn_comes (P before) (B before) (B after) a.asked a.said before.hub.service.keeper after.hub.service.keeper a.turn a.memory

  -- what comes of it
  pub request-comes : comes_of index (B before) (request_asks requested) ≡ (come.told, B after)
  request-comes = ap (comes_of index (B before)) request-is ∙ come.is

  abbrev line_by : Upshot × Book → List ℕ
  line_by now = upshot_text (checked_text index now.1) now.0

  -- the line of a reply that no client checks
  pub unchecked-line : a.responded ≢ response.Refused 14 → IsUnchecked a.said → response_text a.responded ≡ line
  unchecked-line some unchecked =
      let t = unchecked_told (P before) (B before) (B after) before.hub.service.keeper after.hub.service.keeper a.asked a.said a.responded grown unchecked a.turn a.response some in
      let now_is : t.now ≡ come.told = ap (λ (n : Upshot × Book). n.0) (sym t.comes ∙ come.is) in
      sym t.text ∙ ap (upshot_text (answer_text (B after))) now_is ∙ by come.told come.comes ∙ sym (ap line_by request-comes)
    where
      by : (told : Upshot) → Comes (P before) (B before) (B after) a.asked a.said told → upshot_text (answer_text (B after)) told ≡ upshot_text (checked_text index (B after)) told
      by (Ok answer) comes = same-text (P before) KeepsNothing NeverFails index (B before) (B after) answer a.said unchecked comes.1
      by (Err code) comes = refl

  -- ---- look-ups

  -- what a look-up found, for the client
  pub record HasFound (name : List ℕ) (epoch : ℕ) (found : List ℕ) : Type 0 where
    pub page : Page
    pub is : HasLookedUp digest_of value_of signature_of stream accepted verified after name epoch found page
    pub told : found_text (index_of (P after)) page name ≡ line
    pub at_epoch : (if epoch == 0 then (B after).last.epoch else epoch) ≡ page.epoch

  module _ (found : List ℕ) (says : a.said ≡ reply.Found found) where
    turn-found : (asked : Operation) → a.asked ≡ asked → Turn (P before) KeepsNothing NeverFails (B before) before.hub.service.keeper asked (reply.Found found) (B after) after.hub.service.keeper
    turn-found asked is =
        subst (λ (said : Reply). Turn (P before) KeepsNothing NeverFails (B before) before.hub.service.keeper asked said (B after) after.hub.service.keeper) says
        (subst (λ (o : Operation). Turn (P before) KeepsNothing NeverFails (B before) before.hub.service.keeper o a.said (B after) after.hub.service.keeper) is a.turn)

    -- a look-up was asked for
    pub asked-lookup : (name : List ℕ) × (epoch : ℕ) × (requested ≡ request.Query (Lookup name epoch))
    asked-lookup =
        let (answer, steps, keeps, (page, other, held, root, same, rooted, shown)) = turn-found a.asked refl in
        let (name, epoch, is) = by-lookup (B before) (B after) a.asked answer (stepped index (B before) a.asked answer (B after) steps).does (page, other, held, same) in
        (name, epoch, request-of requested name epoch (a.is ∙ ap (λ (o : Operation). Some o) is))

    module _ (name : List ℕ) (epoch : ℕ) (of : requested ≡ request.Query (Lookup name epoch)) where
      abbrev asked : Operation
      asked = Query (Lookup name epoch)

      asked-is : a.asked ≡ asked
      asked-is = let e : Some asked ≡ Some a.asked = sym (ap (command token) of) ∙ a.is in cc

      turn : Turn (P before) KeepsNothing NeverFails (B before) before.hub.service.keeper asked (reply.Found found) (B after) after.hub.service.keeper
      turn = turn-found asked asked-is

      does : Does (B before) asked turn.0 (B after)
      does = (stepped index (B before) asked turn.0 (B after) turn.1).does

      stays : B after ≡ B before
      stays = does.1

      finds_page : Finds (B before) (Lookup name epoch) turn.0
      finds_page = finds (B before) (Lookup name epoch) turn.0 does.0

      sound : IsSound index (B after)
      sound = subst (IsSound index) (sym stays) a.sound

      small : IsBytes name
      small = (subst IsAsked of a.form).1.2

      shown : (page : Page) × (root : SignedRoot) × IsShownIn (P before) (B after) page root name found
          × (comes_of index (B before) (Ok asked) ≡ (Ok (Found page name (at page.bindings name)), B after))
      shown = lookups-shown (P before) KeepsNothing NeverFails (B before) (B after) before.hub.service.keeper after.hub.service.keeper name epoch found sound small turn

      abbrev page : Page
      page = shown.0

      abbrev root : SignedRoot
      root = shown.1

      page-is : finds_page.0 ≡ page
      page-is =
          let one : comes_of index (B before) (Ok asked) ≡ (Ok turn.0, B after) = ap (λ (now : Outcome × Book). (upshot_of now.0, now.1)) turn.1 in
          let e : ◌≡◌ {A = Upshot} (Ok turn.0) (Ok (Found page name (at page.bindings name))) = ap (λ (now : Upshot × Book). now.0) (sym one ∙ shown.3) in
          let f : Found finds_page.0 name (at finds_page.0.bindings name) ≡ turn.0 = sym finds_page.2 in
          cc

      same : P after ≡ P before
      same = same_provider digest_of value_of signature_of before.hub.service.directory after.hub.service.directory a.keys

      key-same : after.key ≡ before.key
      key-same = ap (λ (p : Parties R). p.key) a.others

      honest : IsHonestRun (P after) accepted verified after.key (B after) (B after) (asked ∷ []) (reply.Found found ∷ [])
      honest =
          subst (λ (p : Provider). IsHonestRun p accepted verified after.key (B after) (B after) (asked ∷ []) (reply.Found found ∷ [])) (sym same)
          (subst (λ (k : List ℕ). IsHonestRun (P before) accepted verified k (B after) (B after) (asked ∷ []) (reply.Found found ∷ [])) (sym key-same)
          (subst (λ (b : Book). IsHonestRun (P before) accepted verified before.key b (B after) (asked ∷ []) (reply.Found found ∷ [])) (sym stays)
          (subst (λ (s : Reply). IsHonestRun (P before) accepted verified before.key (B before) (B after) (asked ∷ []) (s ∷ [])) says
          (subst (λ (o : Operation). IsHonestRun (P before) accepted verified before.key (B before) (B after) (o ∷ []) (a.said ∷ [])) asked-is a.honest))))

      laws : KeepsLaws accepted verified after.key (P after)
      laws =
          subst (λ (p : Provider). KeepsLaws accepted verified after.key p) (sym same)
          (subst (λ (k : List ℕ). KeepsLaws accepted verified k (P before)) (sym key-same) a.laws)

      chain : before.client.chain ≡ chain_under before.key (roots (P before) (B before)) → after.client.chain ≡ chain_under after.key (roots (P after) (B after))
      chain is =
          ap (λ (p : Parties R). p.client.chain) a.others ∙ is
          ∙ ap (λ (k : List ℕ). chain_under k (roots (P before) (B before))) (sym key-same)
          ∙ ap (λ (b : Book). chain_under after.key (roots (P before) b)) (sym stays)
          ∙ ap (λ (p : Provider). chain_under after.key (roots p (B after))) (sym same)

      line-is : found_text index page name ≡ line
      line-is =
          let comes : comes_of index (B before) (request_asks requested) ≡ (Ok (Found page name (at page.bindings name)), B after)
          = ap (comes_of index (B before)) (request-is ∙ ap Ok asked-is) ∙ shown.3 in
          sym (ap line_by comes)

      page-asked : page_at (B after) epoch ≡ Some page
      page-asked = ap (λ (b : Book). page_at b epoch) stays ∙ finds_page.1 ∙ ap (λ (p : Page). Some p) page-is

      pub has-found : before.client.chain ≡ chain_under before.key (roots (P before) (B before)) → HasFound name epoch found
      has-found knows = record {
        page = page;
        is = record {
          named = shown.2.named;
          asked = page-asked;
          root = root;
          rooted = subst (λ (p : Provider). IsRootOf p (B after) page root) (sym same) shown.2.rooted;
          reply = subst (λ (p : Provider). IsReplyOf p page root.body name (at page.bindings name) found) (sym same) shown.2.shown;
          honest = honest;
          laws = laws;
          sound = subst (λ (p : Provider). IsSound (index_of p) (B after)) (sym same) sound;
          chain = chain knows;
        };
        told = ap (λ (p : Provider). found_text (index_of p) page name) same ∙ line-is;
        at_epoch = sym (asked-page (B after) epoch page page-asked);
      }
