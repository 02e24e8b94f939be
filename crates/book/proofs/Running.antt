-- What commands, one after another, do to a sound book, and what their replies show of it in the end.
use Rattle.std.proofs.Common.{◌≡◌, ℕ, List, [], ◌∷◌, map, Option, Some, None, Contains, refl, sym, ap, subst, inl, inr, ◌∙◌}
use Rattle.std.specs.Bool.{⊤}
use Rattle.std.specs.Prelude.{not, is_none, nat_le}
use Rattle.std.specs.List.{AllByRecursion, AllZip}
use Rattle.std.proofs.lemmas.List.{map-append}
use Rattle.encoding.specs.declared.bound_key.BoundKey.{BoundKey}
use Rattle.encoding.specs.Limits.{IsName, IsKeyData}
use Rattle.rootchain.specs.declared.signed_promise.SignedPromise.{SignedPromise}
use Rattle.rootchain.specs.declared.signed_root.SignedRoot.{SignedRoot}
use Rattle.book.specs.declared.record.Record.{Record}
use Rattle.book.specs.declared.reply.Reply.{Reply}
use Rattle.book.specs.declared.reply.Reply.TheVariants as reply
use Rattle.book.specs.declared.directory_refusal.Refusal.{Refusal}
use Rattle.book.specs.declared.directory_refusal.Refusal.TheVariants.{BadName, NoSuchEpoch, EpochNotLater}
use Rattle.book.specs.Steps.{Answer, has_length_within, Promised, Found, Told, refusal, page_range, with_pending, Answers, step}
use Rattle.commands.specs.Operations.{bound_key, Operation, IsCommand, Question, Query, Edit, Put, Promise, Lookup, History, Head, MayRead}
use Rattle.commands.specs.Operations as ask
use Rattle.book.specs.Books.{Binding, Book, Page, page_at, pages}
use Rattle.book.specs.Honest.{latest_after, AreConsecutive, IsAskedBy, IsPromisedBy, IsSaid, IsSaidAt}
use Rattle.encoding.specs.Maps.{at}
use Rattle.book.specs.Shows.{Provider, SignedPage, index_of, promise, roots, sealed_behind, sealed_pages, signed_promise, IsReplyOf, IsRootOf}
use Rattle.book.specs.Turns.{Shows, Turn, Run}
use Rattle.book.proofs.Entries.{at_put_same, found-entry}
use Rattle.book.proofs.Found.{IsBinding}
use Rattle.book.proofs.Members.{first-or-later, none-there}
use Rattle.book.proofs.Stepping.{Does, Finds, finds, put_passed, stepped}
use Rattle.book.proofs.Stretches.{consecutive-more, told-consecutive}
use Rattle.book.proofs.Turning.{Goes, Holds, IsSound, above-last, asked-page, goes-nowhere, goes-on, goes-page, goes-pending, holds-now, is-key, is-name, later, not-there, passed, two-passed}

pub root-epoch : (provider : Provider) (epoch : ℕ) (before : List ℕ) (pages : List Page) (each : SignedPage) → Contains (sealed_behind provider epoch before pages) each → each.root.body.epoch ≡ each.page.epoch
root-epoch provider epoch before [] each is = absurd (none-there each is)
root-epoch provider epoch before (page ∷ pages) each is = elim (first-or-later _ _ each is) [
  | inl same ↦ subst (λ (x : SignedPage). x.root.body.epoch ≡ x.page.epoch) same refl
  | inr later ↦ root-epoch provider page.epoch _ pages each later
]

-- a closing that is refused makes no page
pub refused-latest : (latest : ℕ) (asked : Operation) (why : Refusal) → latest_after latest asked (reply.Refused why) ≡ latest
refused-latest latest (Query question) why = refl
refused-latest latest (Edit (Put verb name key)) why = refl
refused-latest latest (Edit (ask.Turn epoch _)) why = refl

-- which command a reply came to, and when
pub at-said : (now : ℕ) (commands : List Operation) (replies : List Reply) (asked : Operation) (said : Reply) → IsSaid commands replies asked said → (latest : ℕ) × IsSaidAt now commands replies latest asked said
at-said now [] replies asked said is = absurd is
at-said now (command ∷ commands) [] asked said is = absurd is
at-said now (command ∷ commands) (answer ∷ replies) asked said (inl here) = (now, inl (refl, here.0, here.1))
at-said now (command ∷ commands) (answer ∷ replies) asked said (inr later) = let t = at-said (latest_after now command answer) commands replies asked said later in (t.0, inr t.1)

pub said-at : (now : ℕ) (commands : List Operation) (replies : List Reply) (latest : ℕ) (asked : Operation) (said : Reply) → IsSaidAt now commands replies latest asked said → IsSaid commands replies asked said
said-at now [] replies latest asked said is = absurd is
said-at now (command ∷ commands) [] latest asked said is = absurd is
said-at now (command ∷ commands) (answer ∷ replies) latest asked said (inl here) = inl (here.1, here.2)
said-at now (command ∷ commands) (answer ∷ replies) latest asked said (inr later) = inr (said-at (latest_after now command answer) commands replies latest asked said later)

module _ (provider : Provider) where
  -- a name and a key, which is bound to it from the next page on
  record IsPromisedIn (after : Book) (name : List ℕ) (binding : Binding) : Type 0 where
    pub holds : Holds provider after name binding.key after.last.epoch
    pub named : IsName name
    pub keyed : IsKeyData binding.key.value

  -- what a command's answer says of the book after it
  record Answered (book after : Book) (asked : Operation) (answer : Answer) : Type 0 where
    pub goes : Goes provider book after
    pub promised : (name : List ℕ) (binding : Binding) → answer ≡ Promised name binding → IsPromisedIn after name binding × IsPromisedBy asked name binding.key
    pub found : (name : List ℕ) (epoch : ℕ) → asked ≡ Query (Lookup name epoch) → (page : Page) (other : List ℕ) (binding : Option Binding) → answer ≡ Found page other binding → (other ≡ name) × IsName name × IsAskedBy book.last.epoch epoch page × (binding ≡ at page.bindings name)
    pub told : (some : List Page) → answer ≡ Told some → (from : ℕ) × (count : ℕ) × (some ≡ page_range after from count)

  promised-now : (book : Book) (name : List ℕ) (binding : Binding) → IsSound book → at book.pending name ≡ Some binding → IsPromisedIn book name binding
  promised-now book name binding sound found =
      let e = found-entry (λ entry. IsName entry.0 × IsBinding entry.1) book.pending name binding found sound.pending in
      record { holds = holds-now provider book name binding sound found; named = subst IsName e.2 e.1.0; keyed = subst IsBinding e.3 e.1.1 }

  pends : (book : Book) (asked : Operation) (name : List ℕ) (key : BoundKey) → IsPromisedBy asked name key → IsSound book → IsName name → IsKeyData key.value → at book.pending name ≡ None
      → Answered book (with_pending book name key) asked (Promised name (record { key = key; salt = book.salt }))
  pends book asked name key by sound named keyed none = record {
    goes = goes;
    promised = λ other binding same. holds other binding same;
    found = λ other epoch is page named binding same. absurd cc;
    told = λ some same. absurd cc;
  }
    where
      own : Binding
      own = record { key = key; salt = book.salt }

      goes : Goes provider book (with_pending book name key)
      goes = goes-pending provider book name key sound named keyed none

      holds : (other : List ℕ) (binding : Binding) → Promised name own ≡ Promised other binding → IsPromisedIn (with_pending book name key) other binding × IsPromisedBy asked other binding.key
      holds other binding same =
          let n : name ≡ other = cc in
          let b : own ≡ binding = cc in (
            promised-now (with_pending book name key) other binding goes.sound
                (ap (at (with_pending book name key).pending) (sym n) ∙ at_put_same name own book.pending ∙ ap (λ (x : Binding). Some x) b),
            subst (IsPromisedBy asked other) (ap (λ (x : Binding). x.key) b) (subst (λ (x : List ℕ). IsPromisedBy asked x key) n by),
          )

  queried : (book : Book) (question : Question) (answer : Answer) → IsSound book → MayRead question → refusal (index_of provider) book (Query question) ≡ None → Finds book question answer
      → Answered book book (Query question) answer
  queried book (Promise name) answer sound are none finds = record {
    goes = goes-nowhere provider book sound;
    promised = λ other binding same.
        let e : Promised name finds.0 ≡ Promised other binding = sym finds.2 ∙ same in
        let n : name ≡ other = cc in
        let b : finds.0 ≡ binding = cc in
        (promised-now book other binding sound (ap (at book.pending) (sym n) ∙ finds.1 ∙ ap (λ (x : Binding). Some x) b), sym n);
    found = λ other epoch is page named binding same. absurd cc;
    told = λ some same. let e = sym finds.2 ∙ same in absurd cc;
  }
  queried book (Lookup name epoch) answer sound are none finds = record {
    goes = goes-nowhere provider book sound;
    promised = λ other binding same. let e = sym finds.2 ∙ same in absurd cc;
    found = λ other also is page named binding same.
        let e = sym finds.2 ∙ same in
        let n : name ≡ other = cc in
        let m : name ≡ named = cc in
        let p : finds.0 ≡ page = cc in
        let at_epoch : epoch ≡ also = cc in
        let b : at (finds.0).bindings name ≡ binding = cc in (
          sym m ∙ n,
          subst IsName n (is-name name (two-passed (not (has_length_within 1 255 name)) (is_none (page_at book epoch)) BadName NoSuchEpoch [] none).0 are),
          subst (λ (x : Page). IsAskedBy book.last.epoch also x) p (subst (λ (k : ℕ). IsAskedBy book.last.epoch k finds.0) at_epoch (asked-page book epoch finds.0 finds.1)),
          sym b ∙ ap (λ (x : Page). at x.bindings name) p ∙ ap (at page.bindings) n,
        );
    told = λ some same. let e = sym finds.2 ∙ same in absurd cc;
  }
  queried book (History from count) answer sound are none finds = record {
    goes = goes-nowhere provider book sound;
    promised = λ other binding same. let e = sym finds ∙ same in absurd cc;
    found = λ other also is page named binding same. let e = sym finds ∙ same in absurd cc;
    told = λ some same. let e : Told (page_range book from count) ≡ Told some = sym finds ∙ same in let f : page_range book from count ≡ some = cc in (from, count, sym f);
  }
  queried book Head answer sound are none finds = record {
    goes = goes-nowhere provider book sound;
    promised = λ other binding same. let e = sym finds ∙ same in absurd cc;
    found = λ other also is page named binding same. let e = sym finds ∙ same in absurd cc;
    told = λ some same. let e = sym finds ∙ same in absurd cc;
  }

  answered : (book after : Book) (asked : Operation) (answer : Answer) → IsSound book → IsCommand asked → refusal (index_of provider) book asked ≡ None → Does book asked answer after → Answered book after asked answer
  answered book after (Query question) answer sound are none does =
      subst (λ (b : Book). Answered book b (Query question) answer) (sym does.1) (queried book question answer sound are none (finds book question answer does.0))
  answered book after (Edit (Put verb name key)) answer sound are none does =
      let has = put_passed (index_of provider) book verb name key none in
      subst (λ (b : Book). Answered book b (Edit (Put verb name key)) answer) (sym does.1) (subst (Answered book (with_pending book name (bound_key key)) (Edit (Put verb name key))) (sym does.0)
      (pends book (Edit (Put verb name key)) name (bound_key key) (refl, refl) sound (is-name name has.named are.0) (is-key key.0 has.keyed are.1) (not-there (at book.pending name) has.pending)))
  answered book after (Edit (ask.Turn epoch nonce)) answer sound are none does =
      let one = passed (nat_le epoch book.last.epoch, EpochNotLater) [] none in
      subst (λ (b : Book). Answered book b (Edit (ask.Turn epoch nonce)) answer) (sym does.1) (record {
        goes = goes-page provider book epoch nonce sound are.0 are.1 (above-last epoch book.last.epoch one.0);
        promised = λ other binding same. let e = sym does.0 ∙ same in absurd cc;
        found = λ other also is page named binding same. let e = sym does.0 ∙ same in absurd cc;
        told = λ some same. let e = sym does.0 ∙ same in absurd cc;
      })

  -- ---- what is seen of a reply

  pub record SeenPromise (after : Book) (asked : Operation) (promised : SignedPromise) : Type 0 where
    pub page : Page
    pub root : SignedRoot
    pub name : List ℕ
    pub binding : Binding
    pub is : IsRootOf provider after page root
    pub same : promised ≡ signed_promise provider (promise provider root.body name binding)
    pub by : IsPromisedBy asked name binding.key
    pub holds : Holds provider after name binding.key root.body.epoch
    pub named : IsName name
    pub keyed : IsKeyData binding.key.value

  pub record SeenFound (latest : ℕ) (after : Book) (name : List ℕ) (epoch : ℕ) (text : List ℕ) : Type 0 where
    pub page : Page
    pub root : SignedRoot
    pub is : IsRootOf provider after page root
    pub asked : IsAskedBy latest epoch page
    pub named : IsName name
    pub answer : IsReplyOf provider page root.body name (at page.bindings name) text

  abbrev pub Seen : ℕ → Book → Operation → Reply → Type 0
  Seen latest after asked (reply.Promised promised) = SeenPromise after asked promised
  Seen latest after asked (reply.Found text) = (name : List ℕ) (epoch : ℕ) → asked ≡ Query (Lookup name epoch) → SeenFound latest after name epoch text
  Seen latest after asked (reply.Told told) = AreConsecutive (roots provider after) told.items
  Seen latest after asked (reply.Last root) = (page : Page) × IsRootOf provider after page root
  Seen latest after asked (reply.Refused why) = ⊤

  seen : (book after : Book) (asked : Operation) (answer : Answer) (said : Reply) → Answered book after asked answer → Shows provider after answer said → Seen book.last.epoch after asked said
  seen book after asked answer (reply.Promised promised) a shows = record {
    page = after.last;
    root = shows.2;
    name = shows.0;
    binding = shows.1;
    is = shows.4;
    same = shows.5;
    by = (a.promised shows.0 shows.1 shows.3).1;
    holds = subst (Holds provider after shows.0 shows.1.key) (sym (root-epoch provider 0 _ (pages after) _ shows.4)) (a.promised shows.0 shows.1 shows.3).0.holds;
    named = (a.promised shows.0 shows.1 shows.3).0.named;
    keyed = (a.promised shows.0 shows.1 shows.3).0.keyed;
  }
  seen book after asked answer (reply.Found text) a shows = λ name epoch is.
      let f = a.found name epoch is shows.0 shows.1 shows.2 shows.4 in
      record { page = shows.0; root = shows.3; is = shows.5; asked = f.2; named = f.1; answer = subst (λ (found : Option Binding). IsReplyOf provider shows.0 (shows.3).body name found text) f.3 (subst (λ (n : List ℕ). IsReplyOf provider shows.0 (shows.3).body n shows.2 text) f.0 shows.6) }
  seen book after asked answer (reply.Told told_roots) a shows =
      let f = a.told shows.0 shows.1 in
      told-consecutive provider after a.goes.sound.climb f.0 f.1 told_roots.items (subst (λ (some : List Page). AllZip (IsRootOf provider after) some told_roots.items) f.2 shows.2)
  seen book after asked answer (reply.Last root) a shows = (shows.0, shows.2)
  seen book after asked answer (reply.Refused why) a shows = tt

  seen-later : (latest : ℕ) (book after : Book) (asked : Operation) (said : Reply) → Goes provider book after → Seen latest book asked said → Seen latest after asked said
  seen-later latest book after asked (reply.Promised promised) goes s = record {
    page = s.page;
    root = s.root;
    name = s.name;
    binding = s.binding;
    is = later provider book after goes s.page s.root s.is;
    same = s.same;
    by = s.by;
    holds = goes.holds s.name s.binding.key s.root.body.epoch s.holds;
    named = s.named;
    keyed = s.keyed;
  }
  seen-later latest book after asked (reply.Found text) goes s = λ name epoch is.
      let f = s name epoch is in
      record { page = f.page; root = f.root; is = later provider book after goes f.page f.root f.is; asked = f.asked; named = f.named; answer = f.answer }
  seen-later latest book after asked (reply.Told told_roots) goes s =
      subst (λ (all : List SignedRoot). AreConsecutive all told_roots.items)
      (sym (ap (map (λ (each : SignedPage). each.root)) goes.grows ∙ map-append (λ (each : SignedPage). each.root) (sealed_pages provider book) goes.more))
      (consecutive-more (roots provider book) told_roots.items (map (λ (each : SignedPage). each.root) goes.more) s)
  seen-later latest book after asked (reply.Last root) goes s = (s.0, later provider book after goes s.0 root s.1)
  seen-later latest book after asked (reply.Refused why) goes s = tt

  -- the last page after a command that was answered so
  pub last-now : (book after : Book) (asked : Operation) (answer : Answer) (said : Reply) → Does book asked answer after → Shows provider after answer said → after.last.epoch ≡ latest_after book.last.epoch asked said
  last-now book after (Query question) answer said does shows = ap (λ (b : Book). b.last.epoch) does.1
  last-now book after (Edit (Put verb name key)) answer said does shows = ap (λ (b : Book). b.last.epoch) does.1
  last-now book after (Edit (ask.Turn epoch _)) answer (reply.Promised promised) does shows = let e = sym does.0 ∙ shows.3 in absurd cc
  last-now book after (Edit (ask.Turn epoch _)) answer (reply.Found text) does shows = let e = sym does.0 ∙ shows.4 in absurd cc
  last-now book after (Edit (ask.Turn epoch _)) answer (reply.Told told_roots) does shows = let e = sym does.0 ∙ shows.1 in absurd cc
  last-now book after (Edit (ask.Turn epoch _)) answer (reply.Last root) does shows = ap (λ (b : Book). b.last.epoch) does.1
  last-now book after (Edit (ask.Turn epoch _)) answer (reply.Refused why) does shows = absurd shows

  module _ {K : Type 0} (kept failed : K → Record → K → Type 0) where
    pub record Turned (book after : Book) (asked : Operation) (said : Reply) : Type 0 where
      pub goes : Goes provider book after
      pub shown : Seen book.last.epoch after asked said
      pub latest : after.last.epoch ≡ latest_after book.last.epoch asked said

    turned-so : (book after : Book) (asked : Operation) (answer : Answer) (said : Reply) → IsSound book → IsCommand asked → step (index_of provider) book asked ≡ (Answers answer, after)
        → Shows provider after answer said → Turned book after asked said
    turned-so book after asked answer said sound are steps shows =
        let s = stepped (index_of provider) book asked answer after steps in
        let a = answered book after asked answer sound are s.none s.does in
        record { goes = a.goes; shown = seen book after asked answer said a shows; latest = last-now book after asked answer said s.does shows }

    turned : (book after : Book) (before later : K) (asked : Operation) (said : Reply) → IsSound book → IsCommand asked → Turn provider kept failed book before asked said after later → Turned book after asked said
    turned book after before later asked (reply.Refused why) sound are turn =
        subst (λ (b : Book). Turned book b asked (reply.Refused why)) (sym turn.0)
        (record { goes = goes-nowhere provider book sound; shown = tt; latest = sym (refused-latest book.last.epoch asked why) })
    turned book after before later asked (reply.Promised promised) sound are turn = turned-so book after asked turn.0 (reply.Promised promised) sound are turn.1 turn.3
    turned book after before later asked (reply.Found text) sound are turn = turned-so book after asked turn.0 (reply.Found text) sound are turn.1 turn.3
    turned book after before later asked (reply.Told told_roots) sound are turn = turned-so book after asked turn.0 (reply.Told told_roots) sound are turn.1 turn.3
    turned book after before later asked (reply.Last root) sound are turn = turned-so book after asked turn.0 (reply.Last root) sound are turn.1 turn.3

    pub record Ran (book after : Book) (commands : List Operation) (replies : List Reply) : Type 0 where
      pub goes : Goes provider book after
      pub shown : (latest : ℕ) (asked : Operation) (said : Reply) → IsSaidAt book.last.epoch commands replies latest asked said → Seen latest after asked said

    joined : (asked : Operation) (said : Reply) (commands : List Operation) (replies : List Reply) (book middle after : Book) → Turned book middle asked said → Ran middle after commands replies
        → Ran book after (asked ∷ commands) (said ∷ replies)
    joined asked said commands replies book middle after turn more = record { goes = goes-on provider book middle after turn.goes more.goes; shown = shown }
      where
        shown : (latest : ℕ) (command : Operation) (answer : Reply) → IsSaidAt book.last.epoch (asked ∷ commands) (said ∷ replies) latest command answer → Seen latest after command answer
        shown latest command answer (inl here) =
            subst (λ (n : ℕ). Seen n after command answer) here.0
            (subst (λ (c : Operation). Seen book.last.epoch after c answer) here.1
            (subst (Seen book.last.epoch after asked) here.2 (seen-later book.last.epoch middle after asked said more.goes turn.shown)))
        shown latest command answer (inr next) = more.shown latest command answer (subst (λ (n : ℕ). IsSaidAt n commands replies latest command answer) (sym turn.latest) next)

    pub ran : (commands : List Operation) (replies : List Reply) (book after : Book) (before later : K) → IsSound book → AllByRecursion IsCommand commands → Run provider kept failed book before commands replies after later
        → Ran book after commands replies
    ran [] [] book after before later sound are run = record { goes = subst (Goes provider book) (sym run.0) (goes-nowhere provider book sound); shown = λ latest asked said is. absurd is }
    ran [] (said ∷ replies) book after before later sound are run = absurd run
    ran (asked ∷ commands) [] book after before later sound are run = absurd run
    ran (asked ∷ commands) (said ∷ replies) book after before later sound are run =
        let turn = turned book run.0 before run.1 asked said sound are.0 run.2 in
        joined asked said commands replies book run.0 after turn (ran commands replies run.0 after run.1 later turn.goes.sound are.1 run.3)
