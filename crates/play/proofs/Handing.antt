-- A promise of a key that waits is handed to the monitors of its name, as to the watchers.
use Rattle.std.proofs.Common.{◌≡◌, ◌≢◌, ◌⊎◌, ℕ, zero, suc, ◌<◌, ◌≤◌, List, [], ◌∷◌, ◌++◌, length, drop, get_or, Option, Some, None, Ok, Err, Bool, true, if◌then◌else◌, IsSome, Contains, refl, sym, ap, ap₂, subst, inl, inr, ◌∙◌, arith}
use Rattle.std.specs.Prelude.{is_some}
use Rattle.std.specs.List.{AllByRecursion, AllZip}
use Rattle.std.specs.Str.{bytes_eq}
use Rattle.std.proofs.lemmas.Bool.{false_from_ne_true}
use Rattle.std.proofs.lemmas.List.Elements.{All-push, Contains-append_cases, Contains-append_right}
use Rattle.std.proofs.lemmas.Slice.Eq.{bytes_eq-Decides}
use Rattle.rand_core.specs.Stream.{Stream}
use Rattle.rootchain.specs.Bodies.{body_bytes}
use Rattle.rootchain.specs.Chains.{Ascend, IsChain, KeyedRoots}
use Rattle.rootchain.specs.Promises.{signed_promise_bytes, IsSignedPromise, PromiseVerifies, SpellsPromise}
use Rattle.rootchain.specs.declared.signed_promise.SignedPromise.{SignedPromise}
use Rattle.rootchain.specs.declared.signed_root.SignedRoot.{SignedRoot}
use Rattle.rootchain.proofs.Agreement.{unique}
use Rattle.rootchain.proofs.Chains.{ascend-linked}
use Rattle.proofs.specs.Watches.{Watch}
use Rattle.commands.specs.declared.edit.Verb.{Verb}
use Rattle.commands.specs.Operations.{bound_key, AskedKey, Operation, Edit}
use Rattle.commands.specs.Operations as ask
use Rattle.wire.specs.Frames.{Frame, frame_bytes, IsFrame}
use Rattle.wire.specs.Requests as request
use Rattle.hub.specs.Desks.{reply_frame}
use Rattle.encoding.specs.declared.bound_key.BoundKey.{BoundKey}
use Rattle.book.specs.declared.reply.Reply.{Reply}
use Rattle.book.specs.declared.reply.Reply.TheVariants as reply
use Rattle.book.specs.declared.directory_refusal.Refusal.{Refusal}
use Rattle.book.specs.Steps.{bad_key, bad_policy, first, Answer, Promised, Found, Told, Last, with_pending}
use Rattle.book.specs.Books.{Binding, Book, Page}
use Rattle.book.specs.Honest.{IsKept}
use Rattle.book.specs.Keeps.{KeepsNothing, NeverFails}
use Rattle.encoding.specs.Maps.{at}
use Rattle.book.specs.Shows.{Provider, index_of, roots}
use Rattle.book.specs.Turns.{Shows, Turn}
use Rattle.book.proofs.Entries.{at_put_same}
use Rattle.book.proofs.Stepping.{put_passed, stepped}
use Rattle.book.proofs.Members.{first-or-later, first-there, none-there}
use Rattle.client.specs.Clients.{HasRootOf}
use Rattle.monitor.specs.Expecting.{MayExpect}
use Rattle.monitor.specs.Monitors.{Monitor, with_change}
use Rattle.play.specs.Handed.{HasHanded, IsHanded, MayBeHanded, MayHand}
use Rattle.play.specs.Messages as message
use Rattle.play.specs.Messages.{comes_of, request_asks}
use Rattle.play.specs.Parties.{Parties, book_of, chain_under, provider_of, IsWatcher}
use Rattle.play.specs.Played.{after_promise}
use Rattle.play.specs.Watchers.{Watcher, expecting, handed}
use Rattle.play.proofs.Added.{EndsWith, ends-with}
use Rattle.play.proofs.Calling.{in-roots, rooted-epoch}
use Rattle.play.proofs.Comes.{turn_comes, Comes, HasCome}
use Rattle.play.proofs.Grown.{put_waits}
use Rattle.play.proofs.InTime.{promises-later}
use Rattle.play.proofs.Taken.{below-all}

-- a watcher after a promise, by whether it is one of the name
abbrev given : ℕ → BoundKey → Watcher → Bool → Watcher
given epoch key watcher t = if t then record watcher { watch = expecting epoch key watcher.watch } else watcher

module _ (own : List ℕ) (taken : List SignedRoot) (book : Book) (name : List ℕ) (key : BoundKey) (promised : SignedPromise) (epoch_is : promised.promise.epoch ≡ book.last.epoch) (key_is : promised.promise.key ≡ key) where
  abbrev after_put : Book
  after_put = with_pending book name key

  -- it goes on with the book
  goes-with : (watching : Monitor) (watcher : Watcher) → IsWatcher own taken book watching watcher → IsWatcher own taken after_put watching watcher
  goes-with watching watcher is = record {
    name = is.name;
    watch = is.watch;
    skipped = is.skipped;
    chain = is.chain;
    some = is.some;
    behind = is.behind;
    promised = λ k d within. elim (is.promised k d within) [ inl below ↦ inl below | inr (same, waits) ↦ inr (same, put_waits book.pending name watcher.name (record { key = key; salt = book.salt }) waits) ];
    until = is.until;
  }

  takes-promise : (watching : Monitor) (watcher : Watcher) → IsWatcher own taken book watching watcher → watcher.name ≡ name → IsWatcher own taken after_put (with_change watching promised) (given book.last.epoch key watcher true)
  takes-promise watching watcher is named =
      let on = goes-with watching watcher is in
      record {
        name = is.name;
        watch = ap₂ (λ (e : ℕ) (k : BoundKey). expecting e k watching.watch) epoch_is key_is ∙ ap (λ (w : Watch). expecting book.last.epoch key w) is.watch;
        skipped = is.skipped;
        chain = is.chain;
        some = is.some;
        behind = is.behind;
        promised = All-push (λ (change : ℕ × BoundKey). (change.0 < book.last.epoch) ⊎ ((change.0 ≡ book.last.epoch) × IsSome (at after_put.pending watcher.name))) watcher.watch.changes (book.last.epoch, key) on.promised
            (inr (refl, subst (λ (n : List ℕ). IsSome (at after_put.pending n)) (sym named) (ap is_some (at_put_same name (record { key = key; salt = book.salt }) book.pending))));
        until = is.until;
      }

  hands : (watching later : Monitor) (watcher : Watcher) → IsWatcher own taken book watching watcher → IsHanded name promised watching later → IsWatcher own taken after_put later (given book.last.epoch key watcher (bytes_eq watcher.name name))
  hands watching later watcher is (inl (named, after)) =
      let same : watcher.name ≡ name = sym is.name ∙ named in
      subst (λ (m : Monitor). IsWatcher own taken after_put m (given book.last.epoch key watcher (bytes_eq watcher.name name))) (sym after)
      (subst (λ (t : Bool). IsWatcher own taken after_put (with_change watching promised) (given book.last.epoch key watcher t)) (sym ((bytes_eq-Decides watcher.name name).1 same)) (takes-promise watching watcher is same))
  hands watching later watcher is (inr (differs, after)) =
      subst (λ (m : Monitor). IsWatcher own taken after_put m (given book.last.epoch key watcher (bytes_eq watcher.name name))) (sym after)
      (subst (λ (t : Bool). IsWatcher own taken after_put watching (given book.last.epoch key watcher t))
      (sym (false_from_ne_true (bytes_eq watcher.name name) (λ e. differs (is.name ∙ (bytes_eq-Decides watcher.name name).0 e)))) (goes-with watching watcher is))

  hands-all : (monitors later : List Monitor) (watchers : List Watcher) → AllZip (IsWatcher own taken book) monitors watchers → AllZip (IsHanded name promised) monitors later
      → AllZip (IsWatcher own taken after_put) later (handed name book.last.epoch key watchers)
  hands-all [] [] [] are handed = tt
  hands-all [] [] (w ∷ ws) are handed = absurd are
  hands-all [] (l ∷ ls) ws are handed = absurd handed
  hands-all (m ∷ ms) [] ws are handed = absurd handed
  hands-all (m ∷ ms) (l ∷ ls) [] are handed = absurd are
  hands-all (m ∷ ms) (l ∷ ls) (w ∷ ws) are handed = (hands m l w are.0 handed.0, hands-all ms ls ws are.1 handed.1)

-- the last of some is among those that are left, where any is
last-left : (n : ℕ) (front : List SignedRoot) (root : SignedRoot) → 0 < length (drop n (front ++ root ∷ [])) → Contains (drop n (front ++ root ∷ [])) root
last-left zero front root some = Contains-append_right front (root ∷ []) root (first-there root [])
last-left (suc zero) [] root some = absurd (omega (arith, some))
last-left (suc (suc n)) [] root some = absurd (omega (arith, some))
last-left (suc n) (x ∷ front) root some = last-left n front root some

-- two bytes and more are not one
two_long : (one other : ℕ) (more : List ℕ) → length (one ∷ other ∷ more) ≢ 1
two_long one other more e = absurd (omega (arith, e))

-- ---- what was said

shows-promise : (provider : Provider) (after : Book) (name : List ℕ) (binding : Binding) (answer : Answer) (said : Reply) → answer ≡ Promised name binding → Shows provider after answer said
    → (promised : SignedPromise) × (said ≡ reply.Promised promised)
shows-promise provider after name binding answer (reply.Promised promised) is shows = (promised, refl)
shows-promise provider after name binding answer (reply.Found text) is shows = absurd (other (sym shows.4 ∙ is))
  where
    other : {p : Page} {n : List ℕ} {b : Option Binding} → Found p n b ≡ Promised name binding → ⊥
    other e = absurd cc
shows-promise provider after name binding answer (reply.Told told) is shows = absurd (other (sym shows.1 ∙ is))
  where
    other : {some : List Page} → Told some ≡ Promised name binding → ⊥
    other e = absurd cc
shows-promise provider after name binding answer (reply.Last root) is shows = absurd (other (sym shows.1 ∙ is))
  where
    other : {p : Page} → Last p ≡ Promised name binding → ⊥
    other e = absurd cc
shows-promise provider after name binding answer (reply.Refused why) is shows = absurd shows

module _ {R : Type 0} (digest_of : List ℕ → List ℕ) (value_of signature_of : List ℕ → List ℕ → List ℕ) (stream : R → Stream) (accepted verified : List ℕ → List ℕ → List ℕ → Type 0)
    (before asked now : Parties R) (verb : Verb) (name : List ℕ) (key : AskedKey) (text : List ℕ) (watchers : List Watcher)
    (may : MayHand digest_of value_of signature_of stream accepted verified before asked now (request.Put verb name key) text watchers) where
  abbrev by : Provider
  by = provider_of digest_of value_of signature_of stream accepted verified before

  abbrev now_book : Parties R → Book
  now_book = book_of digest_of value_of signature_of stream accepted verified

  abbrev command : Operation
  command = Edit (ask.Put verb name key)

  is_put : may.was.asked ≡ command
  is_put = let e : Some command ≡ Some may.was.asked = may.was.is in cc

  turn : Turn by KeepsNothing NeverFails (now_book before) before.hub.service.keeper command may.was.said (now_book asked) asked.hub.service.keeper
  turn = subst (λ (c : Operation). Turn by KeepsNothing NeverFails (now_book before) before.hub.service.keeper c may.was.said (now_book asked) asked.hub.service.keeper) is_put may.was.turn

  pub come : HasCome by (now_book before) (now_book asked) command may.was.said
  come = turn_comes by (now_book before) (now_book asked) command may.was.said before.hub.service.keeper asked.hub.service.keeper turn may.was.memory

  monitors_are : now.monitors ≡ before.monitors
  monitors_are = ap (λ (p : Parties R). p.monitors) may.others ∙ ap (λ (p : Parties R). p.monitors) may.was.others

  abbrev AreWatchers : Book → List Monitor → List Watcher → Type 0
  AreWatchers book = AllZip (IsWatcher before.key (roots by (now_book before)) book)

  told_is : (comes_of (index_of by) (now_book before) (request_asks (request.Put verb name key))).0 ≡ come.told
  told_is = ap (λ (x : message.Upshot × Book). x.0) come.is

  abbrev AreAfter : List Monitor → message.Upshot → Type 0
  AreAfter monitors told = AreWatchers (now_book asked) monitors (after_promise (request.Put verb name key) (now_book before).last.epoch told watchers)

  has : (after : Parties R) → after ≡ record now { monitors = after.monitors } → AreAfter after.monitors come.told
      → HasHanded digest_of value_of signature_of stream accepted verified before asked now (request.Put verb name key) watchers after
  has after others are = record { others = others; are = subst (λ (told : message.Upshot). AreAfter after.monitors told) (sym told_is) are }

  -- where there was no promise, nothing is handed out
  pub nothing-handed : ((promised : SignedPromise) → may.was.said ≡ reply.Promised promised → ⊥) → HasHanded digest_of value_of signature_of stream accepted verified before asked now (request.Put verb name key) watchers now
  nothing-handed none = has now refl (by_told come.told come.comes)
    where
      stays : (why : Refusal) → may.was.said ≡ reply.Refused why → now_book asked ≡ now_book before
      stays why is = (subst (λ (said : Reply). Turn by KeepsNothing NeverFails (now_book before) before.hub.service.keeper command said (now_book asked) asked.hub.service.keeper) is turn).0

      by_told : (told : message.Upshot) → Comes by (now_book before) (now_book asked) command may.was.said told → AreAfter now.monitors told
      by_told (Ok answer) comes = let shown = shows-promise by (now_book asked) name _ answer may.was.said comes.0.0 comes.1 in absurd (none shown.0 shown.1)
      by_told (Err code) (why, is, numbered) =
          subst (λ (book : Book). AreWatchers book now.monitors watchers) (sym (stays why is))
          (subst (λ (monitors : List Monitor). AreWatchers (now_book before) monitors watchers) (sym monitors_are) may.are)

  -- a promise is over the root of the last page, and of the key
  pub record IsGiven (promised : SignedPromise) : Type 0 where
    pub epoch : promised.promise.epoch ≡ (now_book before).last.epoch
    pub bound : promised.promise.key ≡ bound_key key
    pub form : IsSignedPromise promised
    pub book : now_book asked ≡ with_pending (now_book before) name (bound_key key)
    pub answer : Answer
    pub told : come.told ≡ Ok answer

  kept : (promised : SignedPromise) → may.was.said ≡ reply.Promised promised → IsKept by accepted verified before.key (now_book asked) command promised
  kept promised is = may.was.honest.kept command promised (inl (is_put, is))

  pub is-given : (promised : SignedPromise) → may.was.said ≡ reply.Promised promised → IsGiven promised
  is-given promised is = by_told come.told refl come.comes
    where
      other : {why : Refusal} → reply.Promised promised ≡ reply.Refused why → ⊥
      other e = absurd cc

      by_told : (told : message.Upshot) → come.told ≡ told → Comes by (now_book before) (now_book asked) command may.was.said told → IsGiven promised
      by_told (Err code) told (why, refused, numbered) = absurd (other (sym is ∙ refused))
      by_told (Ok answer) told (does, shows) =
          let shown = subst (λ (said : Reply). Shows by (now_book asked) answer said) is shows in
          record {
            epoch = ap (λ (p : SignedPromise). p.promise.epoch) shown.5 ∙ rooted-epoch by (now_book asked) (now_book asked).last shown.2 shown.4 ∙ ap (λ (b : Book). b.last.epoch) does.1;
            bound = (kept promised is).asked.1;
            form = (kept promised is).form;
            book = does.1;
            answer = answer;
            told = told;
          }

  pub promise-handed : (promised : SignedPromise) → may.was.said ≡ reply.Promised promised → (after : Parties R) → after ≡ record now { monitors = after.monitors }
      → AllZip (IsHanded name promised) now.monitors after.monitors → HasHanded digest_of value_of signature_of stream accepted verified before asked now (request.Put verb name key) watchers after
  promise-handed promised is after others all =
      let given = is-given promised is in
      has after others
      (subst (λ (told : message.Upshot). AreAfter after.monitors told) (sym given.told)
      (subst (λ (book : Book). AreWatchers book after.monitors (handed name (now_book before).last.epoch (bound_key key) watchers)) (sym given.book)
      (hands-all before.key (roots by (now_book before)) (now_book before) name (bound_key key) promised given.epoch given.bound before.monitors after.monitors watchers may.are
      (subst (λ (monitors : List Monitor). AllZip (IsHanded name promised) monitors after.monitors) monitors_are all))))

  -- ---- how the reply is read

  -- a body of one byte is no promise
  pub no-promise : (body : List ℕ) → body ≡ (reply_frame may.was.said).body → length body ≡ 1 → (promised : SignedPromise) → may.was.said ≡ reply.Promised promised → ⊥
  no-promise body is short promised said =
      let few : length (signed_promise_bytes promised) ≡ 1 = sym (ap length (is ∙ ap (λ (s : Reply). (reply_frame s).body) said)) ∙ short in
      two_long 0x50 0x01 (drop 2 (signed_promise_bytes promised)) few

  -- and one of more is one
  pub was-promise : (body : List ℕ) → body ≡ (reply_frame may.was.said).body → length body ≢ 1 → (promised : SignedPromise) × (may.was.said ≡ reply.Promised promised)
  was-promise body is long = by_told come.told come.comes
    where
      by_told : (told : message.Upshot) → Comes by (now_book before) (now_book asked) command may.was.said told → (promised : SignedPromise) × (may.was.said ≡ reply.Promised promised)
      by_told (Ok answer) comes = shows-promise by (now_book asked) name _ answer may.was.said comes.0.0 comes.1
      by_told (Err code) (why, refused, numbered) = absurd (long (ap length is ∙ ap (λ (said : Reply). length (reply_frame said).body) refused))

  -- the body of its frame spells it
  pub spells-promise : (promised : SignedPromise) → may.was.said ≡ reply.Promised promised → (body : List ℕ) → ((whole : Frame) → IsFrame whole → text ≡ frame_bytes whole → body ≡ whole.body) → SpellsPromise body promised
  spells-promise promised is body is_body =
      (is_body (reply_frame may.was.said) may.was.read.0 may.was.frame ∙ ap (λ (said : Reply). (reply_frame said).body) is, (is-given promised is).form)

  -- of a key and a policy that are allowed
  pub key-fits : (promised : SignedPromise) → may.was.said ≡ reply.Promised promised → first (bad_key key.0 ∷ bad_policy key.1 ∷ []) ≡ None
  key-fits promised is = so (subst (λ (said : Reply). Turn by KeepsNothing NeverFails (now_book before) before.hub.service.keeper command said (now_book asked) asked.hub.service.keeper) is turn)
    where
      so : Turn by KeepsNothing NeverFails (now_book before) before.hub.service.keeper command (reply.Promised promised) (now_book asked) asked.hub.service.keeper → first (bad_key key.0 ∷ bad_policy key.1 ∷ []) ≡ None
      so (answer, steps, kept_so, shows) =
          let did = stepped (index_of by) (now_book before) command answer (now_book asked) steps in
          let passed = put_passed (index_of by) (now_book before) verb name key did.none in
          rw (passed.keyed, passed.policy) refl

  -- ---- each monitor of the name may expect it

  module _ (promised : SignedPromise) (is : may.was.said ≡ reply.Promised promised) where
    abbrev all : List SignedRoot
    all = roots by (now_book before)

    promise-given : IsGiven promised
    promise-given = is-given promised is

    is-kept : IsKept by accepted verified before.key (with_pending (now_book before) name (bound_key key)) command promised
    is-kept = subst (λ (b : Book). IsKept by accepted verified before.key b command promised) promise-given.book (kept promised is)

    up : Ascend all
    up = ascend-linked by.hash all (subst (λ (b : Book). IsChain by.hash verified (record { key = before.key; roots = roots by b })) promise-given.book may.was.honest.chain).linked

    ends : EndsWith by (now_book before)
    ends = ends-with by (now_book before)

    last-epoch : ends.root.body.epoch ≡ promised.promise.epoch
    last-epoch = rooted-epoch by (now_book before) (now_book before).last ends.root ends.rooted ∙ sym promise-given.epoch

    -- no root is later than the last
    until-last : (root : SignedRoot) → Contains all root → root.body.epoch ≤ promised.promise.epoch
    until-last root there = elim (Contains-append_cases ends.front (ends.root ∷ []) root (subst (λ (rs : List SignedRoot). Contains rs root) ends.is there)) [
      | inl early ↦
          let less = below-all ends.front (ends.root ∷ []) (subst Ascend ends.is up) root ends.root early (first-there ends.root []) in
          omega (arith, less, last-epoch)
      | inr last ↦ elim (first-or-later ends.root [] root last) [
        | inl same ↦ let e : ends.root.body.epoch ≡ root.body.epoch = ap (λ (r : SignedRoot). r.body.epoch) same in omega (arith, e, last-epoch)
        | inr later ↦ absurd (none-there root later)
      ]
    ]

    -- it is over the last
    over-last : promised.promise.body_hash ≡ by.hash (body_bytes ends.root.body)
    over-last =
        let own = in-roots by (with_pending (now_book before) name (bound_key key)) is-kept.page is-kept.root is-kept.is in
        let same : is-kept.root ≡ ends.root =
        unique (chain_under before.key all) up promised.promise.epoch is-kept.root ends.root (own, sym is-kept.epoch) (in-roots by (now_book before) (now_book before).last ends.root ends.rooted, last-epoch) in
        is-kept.body_hash ∙ ap (λ (r : SignedRoot). by.hash (body_bytes r.body)) same

    -- the change was promised before, or it is that which waits
    abbrev IsTimely : List ℕ → ℕ × BoundKey → Type 0
    IsTimely own change = (change.0 < (now_book before).last.epoch) ⊎ ((change.0 ≡ (now_book before).last.epoch) × IsSome (at (now_book before).pending own))

    -- none waits, since the promise was given
    lower : (change : ℕ × BoundKey) → IsTimely name change → change.0 < promised.promise.epoch
    lower change timely =
        let low = (promises-later (index_of by) (now_book before) verb name key promise-given.answer (change ∷ []) (told_is ∙ promise-given.told) (timely, tt)).0 in
        omega (arith, low, promise-given.epoch)

    may-expect : (watching : Monitor) (watcher : Watcher) → IsWatcher before.key all (now_book before) watching watcher → watching.name ≡ name → MayExpect watching (bound_key key) promised.promise
    may-expect watching watcher own named = record {
      named = is-kept.asked.0 ∙ sym named;
      keyed = promise-given.bound;
      later = λ k d within.
          let timely = own.promised k d (subst (λ (w : Watch). k < length w.changes) own.watch within) in
          lower (get_or watching.watch.changes k d)
          (subst (λ (w : Watch). IsTimely name (get_or w.changes k d)) (sym own.watch)
          (subst (λ (n : List ℕ). IsTimely n (get_or watcher.watch.changes k d)) (sym own.name ∙ named) timely));
      unwatched = let low = until-last own.until.0 own.until.1 in omega (arith, low, own.until.3);
    }

    one-may : (watching : Monitor) (watcher : Watcher) (body : List ℕ) → SpellsPromise body promised → IsWatcher before.key all (now_book before) watching watcher → MayBeHanded by.hash verified name (bound_key key) body watching
    unfolding PromiseVerifies HasRootOf
    one-may watching watcher body spells own named =
        let there : Contains (drop own.skipped all) ends.root =
        subst (λ (rs : List SignedRoot). Contains (drop own.skipped rs) ends.root) (sym ends.is)
        (last-left own.skipped ends.front ends.root (subst (λ (rs : List SignedRoot). 0 < length (drop own.skipped rs)) ends.is own.some)) in
        let rooted : HasRootOf by.hash (chain_under before.key (drop own.skipped all)) promised.promise = (ends.root, (there, last-epoch), over-last) in (
          promised,
          (
            ((spells, subst (λ (c : KeyedRoots). PromiseVerifies verified c.key promised) (sym own.chain) is-kept.signed), subst (λ (c : KeyedRoots). HasRootOf by.hash c promised.promise) (sym own.chain) rooted),
            may-expect watching watcher own named,
          ),
        )

    pub may-be-handed : (body : List ℕ) → SpellsPromise body promised → AllByRecursion (MayBeHanded by.hash verified name (bound_key key) body) now.monitors
    may-be-handed body spells = subst (AllByRecursion (MayBeHanded by.hash verified name (bound_key key) body)) (sym monitors_are) (each before.monitors watchers may.are)
      where
        each : (monitors : List Monitor) (beside : List Watcher) → AllZip (IsWatcher before.key all (now_book before)) monitors beside → AllByRecursion (MayBeHanded by.hash verified name (bound_key key) body) monitors
        each [] beside are = tt
        each (m ∷ ms) [] are = absurd are
        each (m ∷ ms) (w ∷ ws) are = (one-may m w body spells are.0, each ms ws are.1)
