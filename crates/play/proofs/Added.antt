-- A monitor that starts at the last root is the watcher that begins at the last page.
use Rattle.std.proofs.Common.{◌≡◌, ℕ, suc, ◌<◌, ◌≤◌, List, [], ◌∷◌, ◌++◌, length, drop, map, filter, Option, Some, Ok, Bool, cond, Contains, refl, sym, ap, ap₂, subst, inl, inr, ◌∙◌, replicate, slice_set, arith}
use Rattle.std.specs.Prelude.{slice_get}
use Rattle.std.specs.List.{AllZip}
use Rattle.std.proofs.Math.Seq.{drop-append_seam}
use Rattle.std.proofs.lemmas.Bool.{lt-ltb}
use Rattle.std.proofs.lemmas.List.{map-append}
use Rattle.std.proofs.lemmas.List.Elements.{All-contains, Contains-append_cases, Contains-append_right, filter-append}
use Rattle.rand_core.specs.Stream.{Stream}
use Rattle.encoding.proofs.Fields.{one_spelling}
use Rattle.rootchain.specs.Bodies.{body_bytes}
use Rattle.rootchain.specs.Chains.{Verifies}
use Rattle.rootchain.specs.Readable.{signed_root_field}
use Rattle.rootchain.specs.SignedRoots.{read_signed_root, signed_root_bytes, IsSignedRoot, SpellsRoot}
use Rattle.rootchain.specs.declared.signed_root.SignedRoot.{SignedRoot}
use Rattle.commands.specs.Operations.{Operation, Query, Head}
use Rattle.wire.specs.Frames.{Frame, frame_bytes, IsFrame}
use Rattle.wire.specs.Requests as request
use Rattle.encoding.specs.declared.bound_key.BoundKey.{BoundKey}
use Rattle.book.specs.declared.keeper.NoKeeper.{NoKeeper}
use Rattle.book.specs.declared.reply.Reply.{Reply}
use Rattle.book.specs.declared.reply.Reply.TheVariants as reply
use Rattle.book.specs.Steps.{Promised, Found, Told, Last}
use Rattle.book.specs.Books.{Binding, Book, Page, pages}
use Rattle.book.specs.Keeps.{KeepsNothing, NeverFails}
use Rattle.book.specs.Shows.{Provider, SignedPage, body_behind, index_of, keyed_provider, roots, sealed_behind, sealed_pages, signed, IsRootOf}
use Rattle.book.specs.Sound.{IsSound}
use Rattle.book.specs.Turns.{Turn}
use Rattle.book.proofs.Begun.{climbs}
use Rattle.book.proofs.Members.{first-or-later, first-there, mapped-from, none-there}
use Rattle.book.proofs.OneRoot.{one-root}
use Rattle.book.proofs.Sealing.{Climb, sealed-page}
use Rattle.book.proofs.Stretches.{climb-ascend}
use Rattle.epochs.specs.DirectoryStates.{HasKeysOf}
use Rattle.hub.specs.Desks.{reply_frame}
use Rattle.client.specs.Clients.{Client, started}
use Rattle.client.specs.Starting.{Starts}
use Rattle.monitor.specs.Monitors.{Monitor, new_monitor}
use Rattle.play.specs.Lines.{last_epoch}
use Rattle.play.specs.Parties.{Parties, book_of, chain_under, provider_of, AreAt, HasAsked, HaveDone, IsWatcher}
use Rattle.play.specs.Played as played
use Rattle.play.specs.Played.{Stand, watcher_of}
use Rattle.play.specs.Watchers.{Watcher, ahead, through}
use Rattle.play.proofs.Ahead.{is_ahead, none-ahead}
use Rattle.play.proofs.Calling.{in-roots, rooted-epoch}
use Rattle.play.proofs.Looked.{sealed_well}
use Rattle.play.proofs.Standing.{all-stand}
use Rattle.play.proofs.Stepped.{answers-same}

-- ---- the last page

last-below : (epoch : ℕ) (earlier : List Page) (last : Page) → Climb epoch (earlier ++ last ∷ []) → last_epoch earlier < last.epoch
last-below epoch [] last climb = omega (arith, climb.0)
last-below epoch (page ∷ []) last climb = climb.1.0
last-below epoch (page ∷ next ∷ more) last climb = last-below page.epoch (next ∷ more) last climb.1

earlier-behind : (epoch : ℕ) (earlier : List Page) (last : Page) → Climb epoch (earlier ++ last ∷ []) → (page : Page) → Contains earlier page → page.epoch ≤ last_epoch earlier
earlier-behind epoch [] last climb page there = absurd (none-there page there)
earlier-behind epoch (first ∷ []) last climb page there = elim (first-or-later first [] page there) [
  | inl same ↦ let e : first.epoch ≡ page.epoch = ap (λ (p : Page). p.epoch) same in omega (arith, e)
  | inr later ↦ absurd (none-there page later)
]
earlier-behind epoch (first ∷ next ∷ more) last climb page there = elim (first-or-later first (next ∷ more) page there) [
  | inl same ↦
      let e : first.epoch ≡ page.epoch = ap (λ (p : Page). p.epoch) same in
      let low = earlier-behind first.epoch (next ∷ more) last climb.1 next (first-there next more) in
      omega (arith, e, low, climb.1.0)
  | inr later ↦ earlier-behind first.epoch (next ∷ more) last climb.1 page later
]

-- the last page alone is ahead of a watcher that begins there
pub last-ahead : (book : Book) → Climb 0 (pages book) → (name : List ℕ) (start : Option BoundKey) → ahead (watcher_of book name start) (pages book) ≡ book.last ∷ []
last-ahead book climb name start =
    filter-append (is_ahead (last_epoch book.earlier)) book.earlier (book.last ∷ [])
    ∙ ap (λ (front : List Page). front ++ filter (is_ahead (last_epoch book.earlier)) (book.last ∷ []))
    (none-ahead (last_epoch book.earlier) book.earlier (λ page there above. let low = earlier-behind 0 book.earlier book.last climb page there in omega (arith, above, low)))
    ∙ ap (λ (t : Bool). cond t (book.last ∷ []) []) (lt-ltb (last_epoch book.earlier) (book.last).epoch (last-below 0 book.earlier book.last climb))

module _ (provider : Provider) where
  -- the roots, up to that of the last page
  pub record EndsWith (book : Book) : Type 0 where
    pub front : List SignedRoot
    pub root : SignedRoot
    pub is : roots provider book ≡ front ++ root ∷ []
    pub rooted : IsRootOf provider book book.last root

  sealed-split : (epoch : ℕ) (before : List ℕ) (earlier : List Page) (last : Page) → (front : List SignedPage) × (root : SignedRoot) × (sealed_behind provider epoch before (earlier ++ last ∷ []) ≡ front ++ record { page = last; root = root } ∷ [])
  sealed-split epoch before [] last = ([], _, refl)
  sealed-split epoch before (page ∷ earlier) last =
      let root : SignedRoot = signed provider (body_behind provider epoch before page) in
      let more = sealed-split page.epoch (provider.hash (body_bytes (body_behind provider epoch before page))) earlier last in
      let here : SignedPage = record { page = page; root = root } in
      (here ∷ more.0, more.1, ap (λ (rest : List SignedPage). here ∷ rest) more.2)

  pub ends-with : (book : Book) → EndsWith book
  ends-with book =
      let split = sealed-split 0 (replicate 32 0) book.earlier book.last in
      record {
        front = map (λ (each : SignedPage). each.root) split.0;
        root = split.1;
        is = ap (map (λ (each : SignedPage). each.root)) split.2 ∙ map-append (λ (each : SignedPage). each.root) split.0 (record { page = book.last; root = split.1 } ∷ []);
        rooted = subst (λ (some : List SignedPage). Contains some (record { page = book.last; root = split.1 })) (sym split.2)
            (Contains-append_right split.0 (record { page = book.last; root = split.1 } ∷ []) (record { page = book.last; root = split.1 }) (first-there (record { page = book.last; root = split.1 }) []));
      }

  pub begins-there : (key : List ℕ) (book : Book) → Climb 0 (pages book) → (root : SignedRoot) → IsRootOf provider book book.last root → (name : List ℕ) (start : Option BoundKey)
      → IsWatcher key (roots provider book) book (new_monitor (started key root) name start) (watcher_of book name start)
  begins-there key book climb root rooted name start = record {
    name = refl;
    watch = refl;
    skipped = length ends.front;
    chain = ap (chain_under key) (sym left);
    some = subst (λ (some : List SignedRoot). 0 < length some) (sym left) (omega arith);
    behind = λ other there. (
      (λ after. (subst (λ (some : List SignedRoot). Contains some other) (sym left) (alone other (is-last other there after)), omega (arith, after))),
      (λ now. after-all other (elim (first-or-later root [] other (subst (λ (some : List SignedRoot). Contains some other) left now.0)) [ inl same ↦ same | inr later ↦ absurd (none-there other later) ])),
    );
    promised = λ k d within. absurd (omega (arith, within));
    until = (root, in-roots provider book book.last root rooted, omega (arith, after-all root refl), omega arith);
  }
    where
      ends : EndsWith book
      ends = ends-with book

      one : (page : Page) (own other : SignedRoot) → IsRootOf provider book page own → IsRootOf provider book page other → own ≡ other
      one = one-root provider book (climb-ascend 0 (pages book) climb)

      left : drop (length ends.front) (roots provider book) ≡ root ∷ []
      left =
          ap (drop (length ends.front)) ends.is ∙ drop-append_seam ends.front (ends.root ∷ []) ∙ ap (λ (r : SignedRoot). r ∷ []) (one book.last ends.root root ends.rooted rooted)

      alone : (other : SignedRoot) → root ≡ other → Contains (root ∷ []) other
      alone other same = subst (λ (r : SignedRoot). Contains (root ∷ []) r) same (first-there root [])

      after-all : (other : SignedRoot) → root ≡ other → last_epoch book.earlier < other.body.epoch
      after-all other same =
          let e : root.body.epoch ≡ other.body.epoch = ap (λ (r : SignedRoot). r.body.epoch) same in
          let f : root.body.epoch ≡ (book.last).epoch = rooted-epoch provider book book.last root rooted in
          let below = last-below 0 book.earlier book.last climb in
          omega (arith, e, f, below)

      is-last : (other : SignedRoot) → Contains (roots provider book) other → last_epoch book.earlier < other.body.epoch → root ≡ other
      is-last other there after =
          let from = mapped-from (λ (each : SignedPage). each.root) (sealed_pages provider book) other there in
          let own : IsRootOf provider book (from.0).page other = subst (λ (r : SignedRoot). IsRootOf provider book (from.0).page r) from.2 from.1 in
          let e : other.body.epoch ≡ ((from.0).page).epoch = rooted-epoch provider book (from.0).page other own in
          elim (Contains-append_cases book.earlier (book.last ∷ []) (from.0).page (sealed-page provider 0 (replicate 32 0) (pages book) (record { page = (from.0).page; root = other }) own)) [
            | inl before ↦ let low = earlier-behind 0 book.earlier book.last climb (from.0).page before in absurd (omega (arith, after, e, low))
            | inr last ↦ elim (first-or-later book.last [] (from.0).page last) [
              | inl same ↦ one book.last root other rooted (subst (λ (p : Page). IsRootOf provider book p other) (sym same) own)
              | inr later ↦ absurd (none-there (from.0).page later)
            ]
          ]

  -- ---- what is asked

  pub record IsLastSaid (book after : Book) (said : Reply) : Type 0 where
    pub root : SignedRoot
    pub is : said ≡ reply.Last root
    pub stays : after ≡ book
    pub rooted : IsRootOf provider book book.last root

  last-said : (book after : Book) (before later : NoKeeper) (said : Reply) → Turn provider KeepsNothing NeverFails book before (Query Head) said after later → IsLastSaid book after said
  last-said book after before later (reply.Refused why) turn = absurd turn.1
  last-said book after before later (reply.Last root) turn =
      let same = answers-same turn.0 (Last book.last) after book (sym turn.1) in
      record {
        root = root;
        is = refl;
        stays = same.1;
        rooted = subst (λ (b : Book). IsRootOf provider b book.last root) same.1
            (subst (λ (p : Page). IsRootOf provider after p root) (page-same (sym turn.3.1 ∙ same.0)) turn.3.2);
      }
    where
      page-same : {one other : Page} → Last one ≡ Last other → one ≡ other
      page-same e = cc
  last-said book after before later (reply.Found text) turn = absurd (other (sym turn.3.4 ∙ (answers-same turn.0 (Last book.last) after book (sym turn.1)).0))
    where
      other : {p : Page} {n : List ℕ} {b : Option Binding} → Found p n b ≡ Last book.last → ⊥
      other e = absurd cc
  last-said book after before later (reply.Promised signed) turn = absurd (other (sym turn.3.3 ∙ (answers-same turn.0 (Last book.last) after book (sym turn.1)).0))
    where
      other : {n : List ℕ} {b : Binding} → Promised n b ≡ Last book.last → ⊥
      other e = absurd cc
  last-said book after before later (reply.Told told) turn = absurd (other (sym turn.3.1 ∙ (answers-same turn.0 (Last book.last) after book (sym turn.1)).0))
    where
      other : {some : List Page} → Told some ≡ Last book.last → ⊥
      other e = absurd cc

pub one-signed : (bytes : List ℕ) (one other : SignedRoot) → SpellsRoot bytes one → SpellsRoot bytes other → one ≡ other
one-signed bytes one other is also =
    (one_spelling read_signed_root signed_root_bytes IsSignedRoot signed_root_field one other [] [] is.1 also.1 (ap (λ (t : List ℕ). t ++ []) (sym is.0 ∙ also.0))).0

module _ {X Y : Type 0} (R : X → Y → Type 0) where
  pub zip-push : (xs : List X) (ys : List Y) (x : X) (y : Y) → AllZip R xs ys → R x y → AllZip R (xs ++ x ∷ []) (ys ++ y ∷ [])
  zip-push [] [] x y all here = (here, tt)
  zip-push [] (b ∷ ys) x y all here = absurd all
  zip-push (a ∷ xs) [] x y all here = absurd all
  zip-push (a ∷ xs) (b ∷ ys) x y all here = (all.0, zip-push xs ys x y all.1 here)

module _ {R : Type 0} (digest_of : List ℕ → List ℕ) (value_of signature_of : List ℕ → List ℕ → List ℕ) (stream : R → Stream) (accepted verified : List ℕ → List ℕ → List ℕ → Type 0)
    (before mid : Parties R) (stand : Stand) (frame : List ℕ)
    (all : AreAt digest_of value_of signature_of stream accepted verified before stand)
    (asked : HasAsked digest_of value_of signature_of stream accepted verified before (request.Query Head) frame mid) where
  abbrev of_head : Provider
  of_head = provider_of digest_of value_of signature_of stream accepted verified before

  head_asked : asked.asked ≡ Query Head
  head_asked = let e : Some (Query Head) ≡ Some asked.asked = asked.is in cc

  pub head-said : IsLastSaid of_head stand.book (book_of digest_of value_of signature_of stream accepted verified mid) asked.said
  head-said =
      last-said of_head stand.book (book_of digest_of value_of signature_of stream accepted verified mid) before.hub.service.keeper mid.hub.service.keeper asked.said
      (subst (λ (b : Book). Turn of_head KeepsNothing NeverFails b before.hub.service.keeper (Query Head) asked.said (book_of digest_of value_of signature_of stream accepted verified mid) mid.hub.service.keeper) all.hub.book
      (subst (λ (command : Operation). Turn of_head KeepsNothing NeverFails (book_of digest_of value_of signature_of stream accepted verified before) before.hub.service.keeper command asked.said (book_of digest_of value_of signature_of stream accepted verified mid) mid.hub.service.keeper) head_asked asked.turn))

  -- the reply is a root that the provider signed
  pub head-shown : (body : List ℕ) → ((whole : Frame) → IsFrame whole → frame ≡ frame_bytes whole → body ≡ whole.body) → (root : SignedRoot) × SpellsRoot body root × Verifies verified before.key root
  head-shown body is_body =
      let said = head-said in
      let sound : IsSound (index_of of_head) stand.book = subst (IsSound (index_of of_head)) all.hub.book asked.sound in
      let i = sealed_well of_head accepted verified before.key stand.book sound asked.laws stand.book.last said.root said.rooted in
      (said.root, (is_body (reply_frame asked.said) asked.read.0 asked.frame ∙ ap (λ (r : Reply). (reply_frame r).body) said.is, (i.form, i.small)), i.signature)

module _ {R : Type 0} (digest_of : List ℕ → List ℕ) (value_of signature_of : List ℕ → List ℕ → List ℕ) (stream : R → Stream) (accepted verified : List ℕ → List ℕ → List ℕ → Type 0)
    (before mid fin : Parties R) (stand : Stand) (frame body name : List ℕ) (start : Option BoundKey) (client : Client)
    (all : AreAt digest_of value_of signature_of stream accepted verified before stand)
    (asked : HasAsked digest_of value_of signature_of stream accepted verified before (request.Query Head) frame mid)
    (is_body : (whole : Frame) → IsFrame whole → frame ≡ frame_bytes whole → body ≡ whole.body)
    (starts : Starts verified before.key body (Ok client))
    (ends : fin ≡ record mid { monitors = mid.monitors ++ new_monitor client name start ∷ [] }) where
  abbrev by : Provider
  by = provider_of digest_of value_of signature_of stream accepted verified before

  abbrev now_book : Parties R → Book
  now_book = book_of digest_of value_of signature_of stream accepted verified

  climb : Climb 0 (pages stand.book)
  climb = (climbs (index_of by) stand.book (subst (IsSound (index_of by)) all.hub.book asked.sound)).climb

  last : IsLastSaid by stand.book (now_book mid) asked.said
  last = head-said digest_of value_of signature_of stream accepted verified before mid stand frame all asked

  is_started : client ≡ started before.key last.root
  is_started = starts.2 ∙ ap (started before.key) (one-signed body starts.0 last.root starts.1.0 (bytes, form))
    where
      bytes : body ≡ signed_root_bytes last.root
      bytes = is_body (reply_frame asked.said) asked.read.0 asked.frame ∙ ap (λ (r : Reply). (reply_frame r).body) last.is

      form : IsSignedRoot last.root
      form =
          All-contains IsSignedRoot (roots by (now_book mid)) last.root asked.honest.forms
          (subst (λ (b : Book). Contains (roots by b) last.root) (sym last.stays) (in-roots by stand.book stand.book.last last.root last.rooted))

  -- all stand as before, with the watcher
  pub added : AreAt digest_of value_of signature_of stream accepted verified fin (record stand { watchers = stand.watchers ++ watcher_of stand.book name start ∷ [] })
  added =
      all-stand digest_of value_of signature_of stream accepted verified before mid fin stand (request.Query Head) frame (mid.monitors ++ new_monitor client name start ∷ []) (stand.watchers ++ watcher_of stand.book name start ∷ [])
      all asked ends last.stays
      (zip-push (IsWatcher before.key (roots by stand.book) stand.book) mid.monitors stand.watchers (new_monitor client name start) (watcher_of stand.book name start)
      (subst (λ (some : List Monitor). AllZip (IsWatcher before.key (roots by stand.book) stand.book) some stand.watchers) (sym (ap (λ (m : Parties R). m.monitors) asked.others)) all.taken.monitors)
      (subst (λ (c : Client). IsWatcher before.key (roots by stand.book) stand.book (new_monitor c name start) (watcher_of stand.book name start)) (sym is_started)
      (begins-there by before.key stand.book climb last.root last.rooted name start)))

-- ---- the monitor goes on

module _ {X : Type 0} where
  set-last : (xs : List X) (x y : X) → slice_set (xs ++ x ∷ []) (length xs) y ≡ xs ++ y ∷ []
  set-last [] x y = refl
  set-last (z ∷ xs) x y = ap (λ (more : List X). z ∷ more) (set-last xs x y)

  get-last : (xs : List X) (x : X) → slice_get (xs ++ x ∷ []) (length xs) ≡ Some x
  get-last [] x = refl
  get-last (z ∷ xs) x = get-last xs x

  long-last : (xs : List X) (x : X) → length xs < length (xs ++ x ∷ [])
  long-last [] x = omega arith
  long-last (z ∷ xs) x = let more = long-last xs x in omega (arith, more)

zip-long : {X Y : Type 0} (Z : X → Y → Type 0) (xs : List X) (ys : List Y) → AllZip Z xs ys → length xs ≡ length ys
zip-long Z [] [] all = refl
zip-long Z [] (y ∷ ys) all = absurd all
zip-long Z (x ∷ xs) [] all = absurd all
zip-long Z (x ∷ xs) (y ∷ ys) all = ap (λ (n : ℕ). suc n) (zip-long Z xs ys all.1)

module _ {R : Type 0} (digest_of : List ℕ → List ℕ) (value_of signature_of : List ℕ → List ℕ → List ℕ) (stream : R → Stream) (accepted verified : List ℕ → List ℕ → List ℕ → Type 0)
    (before parties : Parties R) (stand : Stand) (name : List ℕ) (start : Option BoundKey) (place : ℕ) (last : place ≡ length before.monitors)
    (all : AreAt digest_of value_of signature_of stream accepted verified before stand)
    (more : AreAt digest_of value_of signature_of stream accepted verified parties (record stand { watchers = stand.watchers ++ watcher_of stand.book name start ∷ [] })) where
  abbrev index_at : Parties R → List ℕ → List ℕ
  index_at of = index_of (provider_of digest_of value_of signature_of stream accepted verified of)

  as-many : (of : Parties R) (some : Stand) → AreAt digest_of value_of signature_of stream accepted verified of some → length of.monitors ≡ length some.watchers
  as-many of some are = zip-long (IsWatcher of.key (roots (provider_of digest_of value_of signature_of stream accepted verified of) some.book) some.book) of.monitors some.watchers are.taken.monitors

  pub new-there : slice_get (stand.watchers ++ watcher_of stand.book name start ∷ []) place ≡ Some (watcher_of stand.book name start)
  new-there = subst (λ (n : ℕ). slice_get (stand.watchers ++ watcher_of stand.book name start ∷ []) n ≡ Some (watcher_of stand.book name start)) (sym (last ∙ as-many before stand all)) (get-last stand.watchers (watcher_of stand.book name start))

  pub new-within : place < length parties.monitors
  new-within =
      let many = as-many before stand all in
      let now = as-many parties (record stand { watchers = stand.watchers ++ watcher_of stand.book name start ∷ [] }) more in
      let long = long-last stand.watchers (watcher_of stand.book name start) in
      omega (arith, last, many, now, long)

  pub watched : IsSound (index_at before) stand.book → HasKeysOf before.hub.service.directory parties.hub.service.directory → (printed text : List ℕ) (after : Parties R)
      → (let now = through (index_at parties) (watcher_of stand.book name start) (ahead (watcher_of stand.book name start) (pages stand.book)) in
      HaveDone digest_of value_of signature_of stream accepted verified printed now.0 (record stand { watchers = slice_set (stand.watchers ++ watcher_of stand.book name start ∷ []) place now.1 }) text after)
      → (let now = played.watch (index_at before) stand name start in HaveDone digest_of value_of signature_of stream accepted verified printed now.0 now.1 text after)
  watched sound keys printed text after done =
      let index : index_at parties ≡ index_at before = ap₂ (λ (vuf_key key : List ℕ). index_of (keyed_provider digest_of value_of vuf_key signature_of key)) keys.0 keys.1 in
      let steps : through (index_at parties) (watcher_of stand.book name start) (ahead (watcher_of stand.book name start) (pages stand.book)) ≡ through (index_at before) (watcher_of stand.book name start) (stand.book.last ∷ [])
      = ap (λ (i : List ℕ → List ℕ). through i (watcher_of stand.book name start) (ahead (watcher_of stand.book name start) (pages stand.book))) index
      ∙ ap (through (index_at before) (watcher_of stand.book name start)) (last-ahead stand.book (climbs (index_at before) stand.book sound).climb name start) in
      let now = through (index_at before) (watcher_of stand.book name start) (stand.book.last ∷ []) in
      let set : slice_set (stand.watchers ++ watcher_of stand.book name start ∷ []) place now.1 ≡ stand.watchers ++ now.1 ∷ []
      = ap (λ (n : ℕ). slice_set (stand.watchers ++ watcher_of stand.book name start ∷ []) n now.1) (last ∙ as-many before stand all) ∙ set-last stand.watchers (watcher_of stand.book name start) now.1 in
      subst (λ (watchers : List Watcher). HaveDone digest_of value_of signature_of stream accepted verified printed now.0 (record stand { watchers = watchers }) text after) set
      (subst (λ (each : List (List ℕ) × Watcher). HaveDone digest_of value_of signature_of stream accepted verified printed each.0
      (record stand { watchers = slice_set (stand.watchers ++ watcher_of stand.book name start ∷ []) place each.1 }) text after) steps done)
