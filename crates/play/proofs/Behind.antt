-- All take the roots that are new, list by list.
use Rattle.std.proofs.Common.{◌≡◌, ℕ, suc, ◌+◌, ◌-◌, ◌<◌, List, [], ◌∷◌, ◌++◌, length, length-append, take, drop, get_or, slice_get, Option, Some, Result, Ok, Err, OnOk, refl, sym, ap, ap₂, subst, ◌∙◌, arith, append_assoc, append-nil, take-append-drop}
use Rattle.std.specs.List.{AllByRecursion, AllZip}
use Rattle.std.proofs.lemmas.List.{get_or-append_right}
use Rattle.rand_core.specs.Stream.{Stream}
use Rattle.rootchain.specs.Chains.{IsHead, KeyedRoots, Verifies}
use Rattle.rootchain.specs.RootLists.{SpellsRoots}
use Rattle.rootchain.specs.declared.signed_root.SignedRoot.{SignedRoot}
use Rattle.commands.specs.Operations.{Operation, Query, History}
use Rattle.wire.specs.Requests as request
use Rattle.wire.specs.Responses.{ResponseContent, Responds, Roots}
use Rattle.book.specs.declared.keeper.NoKeeper.{NoKeeper}
use Rattle.book.specs.declared.reply.Reply.{Reply}
use Rattle.book.specs.declared.reply.Reply.TheVariants as reply
use Rattle.book.specs.Steps.{page_range, Answer, Found, Last, Promised, Told, Answers, Outcome}
use Rattle.book.specs.Books.{Binding, Book, Page, pages}
use Rattle.book.specs.Keeps.{KeepsNothing, NeverFails}
use Rattle.book.specs.Shows.{Provider, index_of, keyed_provider, roots, IsRootOf}
use Rattle.book.specs.Sound.{IsSound}
use Rattle.book.specs.Turns.{Turn}
use Rattle.book.proofs.OneRoot.{same-roots}
use Rattle.book.proofs.Rooted.{all-rooted, zip-take}
use Rattle.epochs.specs.DirectoryStates.{book, DirectoryState, HasKeysOf}
use Rattle.hub.specs.Desks.{reply_frame, DeskState, IsResponseOf}
use Rattle.hub.specs.Events.{at_session, BySession, HubState}
use Rattle.wire.specs.Streams.{Remainder, Rest}
use Rattle.auditor.specs.Chains.{chain_of}
use Rattle.auditor.specs.InOrder.{ObservesAll}
use Rattle.client.specs.Clients.{Client}
use Rattle.monitor.specs.Monitors.{Monitor}
use Rattle.play.specs.Parties.{book_of, chain_under, provider_of, AreAt, AreBehind, HasAsked, HaveTaken, HoldBytes, IsWatcher, Parties}
use Rattle.play.specs.Played.{Stand}
use Rattle.play.specs.Taking.{AllTake, MonitorTakes}
use Rattle.play.specs.Wanting.{IsOffered}
use Rattle.play.proofs.Calling.{rooted-epoch}
use Rattle.play.proofs.GoingOn.{history}
use Rattle.play.proofs.Taken.{all-signed, chain-takes, may-take, monitors-may, observes-all, watchers-take}

pub keys-join : {R : Type 0} (before between after : DirectoryState R) → HasKeysOf before between → HasKeysOf between after → HasKeysOf before after
keys-join before between after one other = (other.0 ∙ one.0, other.1 ∙ one.1)

pub on-ok : {A E P Q : Type 0} (result : Result A E) → (P → Q) → OnOk result P → OnOk result Q
on-ok (Ok x) leads is = leads is
on-ok (Err why) leads is = tt

-- ---- lists

ends-in : (xs : List SignedRoot) (x : SignedRoot) → slice_get xs (length xs - 1) ≡ Some x → (init : List SignedRoot) × (xs ≡ init ++ x ∷ [])
ends-in [] x is = absurd cc
ends-in (y ∷ []) x is = let same : y ≡ x = cc in ([], ap (λ (z : SignedRoot). z ∷ []) same)
ends-in (y ∷ z ∷ xs) x is =
    let n : length (y ∷ z ∷ xs) - 1 ≡ suc (length (z ∷ xs) - 1) = omega arith in
    let more = ends-in (z ∷ xs) x (subst (λ (k : ℕ). slice_get (y ∷ z ∷ xs) k ≡ Some x) n is) in
    (y ∷ more.0, ap (λ (rest : List SignedRoot). y ∷ rest) more.1)

module _ {X Y : Type 0} (R : X → Y → Type 0) where
  -- what stands beside one element, and beside those after it
  pub record IsParted (xs : List X) (y : Y) (zs : List Y) : Type 0 where
    pub front : List X
    pub own : X
    pub more : List X
    pub is : xs ≡ front ++ own ∷ more
    pub beside : R own y
    pub behind : AllZip R more zs

  part-at : (xs : List X) (init : List Y) (y : Y) (zs : List Y) → AllZip R xs (init ++ y ∷ zs) → IsParted xs y zs
  part-at [] [] y zs zip = absurd zip
  part-at [] (i ∷ init) y zs zip = absurd zip
  part-at (x ∷ xs) [] y zs zip = record { front = []; own = x; more = xs; is = refl; beside = zip.0; behind = zip.1 }
  part-at (x ∷ xs) (i ∷ init) y zs zip =
      let p = part-at xs init y zs zip.1 in
      record { front = x ∷ p.front; own = p.own; more = p.more; is = ap (λ (rest : List X). x ∷ rest) p.is; beside = p.beside; behind = p.behind }

-- ---- what is told of a book

told-found : (some : List Page) (page : Page) (name : List ℕ) (found : Option Binding) → Told some ≡ Found page name found → ⊥
told-found some page name found same = cc

told-promised : (some : List Page) (name : List ℕ) (binding : Binding) → Told some ≡ Promised name binding → ⊥
told-promised some name binding same = cc

told-last : (some : List Page) (page : Page) → Told some ≡ Last page → ⊥
told-last some page same = cc

told-told : (some others : List Page) → Told some ≡ Told others → others ≡ some
told-told some others same = cc

-- the answer of a step, and the book after it
answers-are : (one other : Answer) (now after : Book) → ◌≡◌ {A = Outcome × Book} (Answers one, now) (Answers other, after) → (one ≡ other) × (after ≡ now)
answers-are one other now after same =
    let outcome : Answers one ≡ Answers other = ap (λ (p : Outcome × Book). p.0) same in
    let answer : one ≡ other = cc in
    (answer, sym (ap (λ (p : Outcome × Book). p.1) same))

module _ (provider : Provider) where
  abbrev Rooted : Book → Page → SignedRoot → Type 0
  Rooted book = IsRootOf provider book

  -- the answer to a history is the list of its roots
  told-list : (book after : Book) (keeper later : NoKeeper) (from : ℕ) (said : Reply) (responded : ResponseContent) → Turn provider KeepsNothing NeverFails book keeper (Query (History from 64)) said after later
      → IsResponseOf said responded → (items : List SignedRoot) × (responded ≡ Roots items) × (after ≡ book) × AllZip (Rooted book) (page_range book from 64) items
  told-list now after keeper later from (reply.Told list) responded (answer, stepped, kept, (shown, is, zip)) response =
      let e = answers-are (Told (page_range now from 64)) answer now after stepped in (
        list.items,
        response,
        e.1,
        subst (λ (b : Book). AllZip (Rooted b) (page_range now from 64) list.items) e.1
            (subst (λ (some : List Page). AllZip (Rooted after) some list.items) (told-told (page_range now from 64) shown (e.0 ∙ is)) zip),
      )
  told-list now after keeper later from (reply.Promised signed) responded (answer, stepped, kept, (name, binding, root, is, rooted, of)) response =
      absurd (told-promised (page_range now from 64) name binding ((answers-are (Told (page_range now from 64)) answer now after stepped).0 ∙ is))
  told-list now after keeper later from (reply.Found text) responded (answer, stepped, kept, (page, name, found, root, is, rooted, of)) response =
      absurd (told-found (page_range now from 64) page name found ((answers-are (Told (page_range now from 64)) answer now after stepped).0 ∙ is))
  told-list now after keeper later from (reply.Last root) responded (answer, stepped, kept, (page, is, rooted)) response =
      absurd (told-last (page_range now from 64) page ((answers-are (Told (page_range now from 64)) answer now after stepped).0 ∙ is))
  told-list now after keeper later from (reply.Refused why) responded turn response = absurd turn.1

  module _ (book : Book) (sound : IsSound (index_of provider) book) (key : List ℕ) (taken left : List SignedRoot) (all : roots provider book ≡ taken ++ left)
      (head : SignedRoot) (at_head : IsHead (chain_under key taken) head) where
    parted : IsParted (Rooted book) (pages book) head left
    parted =
        let e = ends-in taken head at_head in
        part-at (Rooted book) (pages book) e.0 head left
        (subst (AllZip (Rooted book) (pages book)) (all ∙ ap (λ (rs : List SignedRoot). rs ++ left) e.1 ∙ append_assoc e.0 (head ∷ []) left) (all-rooted provider book))

    some-taken : 0 < length taken
    some-taken = let e = ends-in taken head at_head in subst (λ (rs : List SignedRoot). 0 < length rs) (sym e.1) (omega (arith, length-append e.0 (head ∷ [])))

    own-epoch : head.body.epoch ≡ parted.own.epoch
    own-epoch = rooted-epoch provider book parted.own head parted.beside

    -- behind the head, the roots that are told are the next ones
    next-told : (from : ℕ) (items : List SignedRoot) → from ≡ head.body.epoch + 1 → AllZip (Rooted book) (page_range book from 64) items → items ≡ take 64 left
    next-told from items is zip =
        let start : from ≡ parted.own.epoch + 1 = is ∙ ap (λ (n : ℕ). n + 1) own-epoch in
        let pages_are : page_range book from 64 ≡ take 64 parted.more =
        ap (λ (n : ℕ). page_range book n 64) start ∙ history (index_of provider) book parted.front parted.more parted.own 64 sound parted.is in
        same-roots provider book sound.ascend (take 64 parted.more) items (take 64 left)
        (subst (λ (some : List Page). AllZip (Rooted book) some items) pages_are zip) (zip-take (Rooted book) 64 parted.more left parted.behind)

    -- where the head is of the last page, no root is left
    none-left : head.body.epoch ≡ book.last.epoch → left ≡ []
    none-left same = by left parted.more parted.behind parted.is
      where
        by : (rest : List SignedRoot) (more : List Page) → AllZip (Rooted book) more rest → pages book ≡ parted.front ++ parted.own ∷ more → rest ≡ []
        by [] more zip is = refl
        by (root ∷ rest) [] zip is = absurd zip
        by (root ∷ rest) (page ∷ more) zip is =
            let n = length parted.front in
            let m = length book.earlier in
            let long : m + 1 ≡ n + length (parted.own ∷ page ∷ more) =
            sym (length-append book.earlier (book.last ∷ [])) ∙ ap (λ (ps : List Page). length ps) is ∙ length-append parted.front (parted.own ∷ page ∷ more) in
            let own : get_or (pages book) n page ≡ parted.own =
            ap (λ (ps : List Page). get_or ps n page) is ∙ get_or-append_right parted.front (parted.own ∷ page ∷ more) n n page refl (omega arith)
            ∙ ap (λ (k : ℕ). get_or (parted.own ∷ page ∷ more) k page) (the_same n) in
            let last : get_or (pages book) m page ≡ book.last =
            get_or-append_right book.earlier (book.last ∷ []) m m page refl (omega arith) ∙ ap (λ (k : ℕ). get_or (book.last ∷ []) k page) (the_same m) in
            let less : (get_or (pages book) n page).epoch < (get_or (pages book) m page).epoch =
            sound.ascend n m page (omega (arith, long)) (omega (arith, length-append book.earlier (book.last ∷ []))) in
            let a = ap (λ (p : Page). p.epoch) own in
            let b = ap (λ (p : Page). p.epoch) last in
            absurd (omega (arith, less, a, b, same, own-epoch))
          where
            the_same : (k : ℕ) → k - k ≡ 0
            the_same k = omega arith

-- ---- the parties

module _ {R : Type 0} (digest_of : List ℕ → List ℕ) (value_of signature_of : List ℕ → List ℕ → List ℕ) (stream : R → Stream) (accepted verified : List ℕ → List ℕ → List ℕ → Type 0) where
  abbrev P : Parties R → Provider
  P = provider_of digest_of value_of signature_of stream accepted verified

  abbrev B : Parties R → Book
  B = book_of digest_of value_of signature_of stream accepted verified

  abbrev Behind : Parties R → Stand → Type 0
  Behind = AreBehind digest_of value_of signature_of stream accepted verified

  -- all have taken the roots once none is left
  pub at-end : (parties : Parties R) (stand : Stand) (head : SignedRoot) → IsSound (index_of (P parties)) (B parties) → IsHead parties.client.chain head
      → head.body.epoch ≡ parties.hub.service.directory.last.epoch → Behind parties stand → AreAt digest_of value_of signature_of stream accepted verified parties stand
  at-end parties stand head sound at_head same b =
      let own = b.hub.book in
      let none : b.left ≡ [] =
      none-left (P parties) stand.book (subst (IsSound (index_of (P parties))) own sound) parties.key b.taken b.left b.all head
      (subst (λ (c : KeyedRoots). IsHead c head) b.have.client at_head) (same ∙ ap (λ (now : Book). now.last.epoch) own) in
      let all : roots (P parties) stand.book ≡ b.taken = b.all ∙ ap (λ (rest : List SignedRoot). b.taken ++ rest) none ∙ append-nil b.taken in
      record { hub = b.hub; taken = subst (HaveTaken digest_of value_of signature_of stream accepted verified parties stand) (sym all) b.have }

  pub keys-kept : (before between after : Parties R) (requested : request.RequestContent) (text : List ℕ) (items : List SignedRoot)
      → HasAsked digest_of value_of signature_of stream accepted verified before requested text between → AllTake digest_of verified items between after
      → HasKeysOf before.hub.service.directory after.hub.service.directory
  keys-kept before between after requested text items a t = subst (λ (hub : HubState (DeskState R NoKeeper)). HasKeysOf before.hub.service.directory hub.service.directory) (sym t.hub) a.keys

  -- a client that takes roots looks at nothing
  pub looks-kept : (before between after : Parties R) (requested : request.RequestContent) (text : List ℕ) (items : List SignedRoot)
      → HasAsked digest_of value_of signature_of stream accepted verified before requested text between → AllTake digest_of verified items between after
      → after.client.looks ≡ before.client.looks
  looks-kept before between after requested text items a t = ap (λ (c : Client). c.looks) t.client.2 ∙ ap (λ (p : Parties R). p.client.looks) a.others

  pub same-provider : (before after : Parties R) → HasKeysOf before.hub.service.directory after.hub.service.directory → P after ≡ P before
  same-provider before after keys = ap₂ (λ (vuf_key key : List ℕ). keyed_provider digest_of value_of vuf_key signature_of key) keys.0 keys.1

  -- what a list of roots says that was asked for behind the head
  pub record IsNextList (before between : Parties R) (stand : Stand) (body : List ℕ) (b : Behind before stand) : Type 0 where
    pub items : List SignedRoot
    pub spelled : SpellsRoots body items
    pub stays : B between ≡ B before
    pub parts : b.left ≡ items ++ drop 64 b.left

  module _ (before between : Parties R) (from : ℕ) (text : List ℕ) (a : HasAsked digest_of value_of signature_of stream accepted verified before (request.Query (History from 64)) text between) where
    one-asked : a.asked ≡ Query (History from 64)
    one-asked = let is = a.is in cc

    pub a-list : (responded : ResponseContent) → responded ≡ a.responded → (items : List SignedRoot) × (responded ≡ Roots items) × (B between ≡ B before) × AllZip (Rooted (P before) (B before)) (page_range (B before) from 64) items
    a-list responded same =
        told-list (P before) (B before) (B between) before.hub.service.keeper between.hub.service.keeper from a.said responded
        (subst (λ (asked : Operation). Turn (P before) KeepsNothing NeverFails (B before) before.hub.service.keeper asked a.said (B between) between.hub.service.keeper) one-asked a.turn)
        (subst (IsResponseOf a.said) (sym same) a.response)

    pub spells-list : (items : List SignedRoot) → a.responded ≡ Roots items → SpellsRoots (reply_frame a.said).body items
    spells-list items is = (subst (Responds (reply_frame a.said).kind (reply_frame a.said).body) is a.read.1).1

    module _ (stand : Stand) (b : Behind before stand) (head : SignedRoot) (at_head : IsHead before.client.chain head) (is_next : from ≡ head.body.epoch + 1) where
      head-taken : IsHead (chain_under before.key b.taken) head
      head-taken = subst (λ (c : KeyedRoots). IsHead c head) b.have.client at_head

      sound : IsSound (index_of (P before)) stand.book
      sound = subst (IsSound (index_of (P before))) b.hub.book a.sound

      any : 0 < length b.taken
      any = some-taken (P before) stand.book sound before.key b.taken b.left b.all head head-taken

      pub next-list : IsNextList before between stand (reply_frame a.said).body b
      next-list =
          let (items, is, stays, zip) = a-list a.responded refl in
          let next : items ≡ take 64 b.left =
          next-told (P before) stand.book sound before.key b.taken b.left b.all head head-taken from items is_next
          (subst (λ (now : Book). AllZip (Rooted (P before) now) (page_range now from 64) items) b.hub.book zip) in
          record {
            items = items;
            spelled = spells-list items is;
            stays = stays;
            parts = subst (λ (rs : List SignedRoot). b.left ≡ rs ++ drop 64 b.left) (sym next) (sym (take-append-drop 64 b.left));
          }

      -- all are behind by fewer roots
      pub taken-list : (after : Parties R) → AllTake digest_of verified next-list.items between after → Behind after stand
      taken-list after t = record {
        hub = record {
          book = ap (λ (hub : HubState (DeskState R NoKeeper)). book stream hub.service.directory) t.hub ∙ next-list.stays ∙ b.hub.book;
          sessions = sessions_same ∙ b.hub.sessions;
          ready = record {
            idle = subst (λ (sessions : BySession Remainder). at_session sessions 0 ≡ Some (Rest [])) (sym sessions_same) b.hub.ready.idle;
            bytes = subst HoldBytes (sym sessions_same) b.hub.ready.bytes;
            token = ap (λ (hub : HubState (DeskState R NoKeeper)). hub.service.token) t.hub ∙ a.token ∙ b.hub.ready.token;
            key = keys_same.1 ∙ b.hub.ready.key ∙ sym key_same;
          };
        };
        taken = b.taken ++ items;
        left = rest;
        all = ap (λ (p : Provider). roots p stand.book) (same-provider before after keys_same) ∙ all ∙ sym (append_assoc b.taken items rest);
        have = record {
          client = ap (λ (c : Client). c.chain) t.client.2 ∙ grown ∙ ap (λ (k : List ℕ). chain_under k (b.taken ++ items)) (sym key_same);
          auditor = subst (λ (k : List ℕ). chain_of after.auditor k ≡ Some (chain_under k (b.taken ++ items))) (sym key_same) observed;
          monitors = subst (λ (k : List ℕ). AllZip (IsWatcher k (b.taken ++ items) stand.book) after.monitors stand.watchers) (sym key_same) watched;
        };
      }
        where
          items : List SignedRoot
          items = next-list.items

          rest : List SignedRoot
          rest = drop 64 b.left

          key_same : after.key ≡ before.key
          key_same = t.key ∙ ap (λ (p : Parties R). p.key) a.others

          sessions_same : after.hub.sessions ≡ before.hub.sessions
          sessions_same = ap (λ (hub : HubState (DeskState R NoKeeper)). hub.sessions) t.hub ∙ a.sessions

          keys_same : HasKeysOf before.hub.service.directory after.hub.service.directory
          keys_same = keys-kept before between after (request.Query (History from 64)) text items a t

          all : roots (P before) stand.book ≡ b.taken ++ (items ++ rest)
          all = b.all ∙ ap (λ (left : List SignedRoot). b.taken ++ left) next-list.parts

          all_now : roots (P before) (B between) ≡ b.taken ++ (items ++ rest)
          all_now = ap (roots (P before)) (next-list.stays ∙ b.hub.book) ∙ all

          grown : t.client.0 ≡ chain_under before.key (b.taken ++ items)
          grown = chain-takes (P before) accepted verified before.key (B before) (B between) (a.asked ∷ []) (a.said ∷ []) a.honest items [] b.taken rest between.client.chain t.client.0 any all_now
              (ap (λ (p : Parties R). p.client.chain) a.others ∙ b.have.client) t.client.1

          observed : chain_of after.auditor before.key ≡ Some (chain_under before.key (b.taken ++ items))
          observed = observes-all (P before) accepted verified before.key (B before) (B between) (a.asked ∷ []) (a.said ∷ []) a.honest items between.auditor after.auditor t.auditor.0 b.taken rest any all_now
              (ap (λ (p : Parties R). chain_of p.auditor before.key) a.others ∙ b.have.auditor)
              (subst (λ (k : List ℕ). ObservesAll digest_of verified between.auditor k items t.auditor.0 after.auditor) (ap (λ (p : Parties R). p.key) a.others) t.auditor.1)

          watched : AllZip (IsWatcher before.key (b.taken ++ items) stand.book) after.monitors stand.watchers
          watched = watchers-take (P before) accepted verified before.key (B before) (B between) (a.asked ∷ []) (a.said ∷ []) a.honest b.taken items rest any all_now stand.book before.monitors after.monitors stand.watchers
              (subst (λ (ms : List Monitor). AllZip (MonitorTakes digest_of verified items) ms after.monitors) (ap (λ (p : Parties R). p.monitors) a.others) t.monitors)
              b.have.monitors

      -- each of them may take the list
      pub offered : (bytes : List ℕ) → bytes ≡ (reply_frame a.said).body → IsOffered digest_of verified bytes between
      offered bytes is = record {
        roots = items;
        spelled = spelled;
        signed = subst (λ (k : List ℕ). AllByRecursion (Verifies verified k) items) (sym key_same)
            (all-signed (P before) accepted verified before.key (B before) (B between) (a.asked ∷ []) (a.said ∷ []) a.honest items b.taken rest any all_now);
        client = may-take (P before) accepted verified before.key (B before) (B between) (a.asked ∷ []) (a.said ∷ []) a.honest items [] b.taken rest between.client.chain any all_now
            (ap (λ (p : Parties R). p.client.chain) a.others ∙ b.have.client) bytes spelled;
        monitors = monitors-may (P before) accepted verified before.key (B before) (B between) (a.asked ∷ []) (a.said ∷ []) a.honest b.taken items rest any all_now stand.book bytes spelled between.monitors stand.watchers
            (subst (λ (ms : List Monitor). AllZip (IsWatcher before.key b.taken stand.book) ms stand.watchers) (sym (ap (λ (p : Parties R). p.monitors) a.others)) b.have.monitors);
      }
        where
          items : List SignedRoot
          items = next-list.items

          rest : List SignedRoot
          rest = drop 64 b.left

          spelled : SpellsRoots bytes items
          spelled = subst (λ (text : List ℕ). SpellsRoots text items) (sym is) next-list.spelled

          key_same : between.key ≡ before.key
          key_same = ap (λ (p : Parties R). p.key) a.others

          all_now : roots (P before) (B between) ≡ b.taken ++ (items ++ rest)
          all_now = ap (roots (P before)) (next-list.stays ∙ b.hub.book) ∙ b.all ∙ ap (λ (left : List SignedRoot). b.taken ++ left) next-list.parts
