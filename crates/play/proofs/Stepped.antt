-- A step of a monitor is that of its watcher.
use Rattle.std.proofs.Common.{◌≡◌, ℕ, zero, suc, ◌<◌, ◌≤◌, ◌==◌, nat_le, List, [], ◌∷◌, ◌++◌, length, drop, take, take-append-drop, get_or, Option, None, Some, Bool, true, false, not, if◌then◌else◌, Contains, refl, sym, ap, subst, ◌∙◌, append_assoc, codes, decimal, slice_set, arith}
use Rattle.std.specs.Prelude.{is_none, slice_get}
use Rattle.std.specs.Fmt.{digits}
use Rattle.std.specs.List.{AllZip, find}
use Rattle.std.proofs.lemmas.Bool.{and_from, eq-eqb, false_from_ne_true, le-leb, ne_eqb}
use Rattle.std.proofs.lemmas.List.{append-nil}
use Rattle.std.proofs.lemmas.List.Elements.{All-contains, Contains-append_right}
use Rattle.hex.specs.Hex.{encode_lower}
use Rattle.rand_core.specs.Stream.{Stream}
use Rattle.encoding.specs.Limits.{IsName}
use Rattle.rootchain.specs.Chains.{KeyedRoots}
use Rattle.rootchain.specs.declared.signed_root.SignedRoot.{SignedRoot}
use Rattle.proofs.specs.Accepts.{stated}
use Rattle.proofs.specs.Refusals.{reply_refusal_number}
use Rattle.proofs.specs.Views.{key_stated}
use Rattle.proofs.specs.Watches.{Watch, expected}
use Rattle.proofs.specs.declared.reply_refusal.Refusal.{Refusal as ProofRefusal}
use Rattle.proofs.specs.declared.reply_refusal.Refusal.TheVariants as proof
use Rattle.commands.specs.Operations.{Operation, Query, Lookup}
use Rattle.wire.specs.Frames.{Frame, frame_bytes, IsFrame}
use Rattle.wire.specs.Requests as request
use Rattle.encoding.specs.declared.bound_key.BoundKey.{BoundKey}
use Rattle.book.specs.declared.keeper.NoKeeper.{NoKeeper}
use Rattle.book.specs.declared.directory_refusal.Refusal.TheVariants.{BadName, NoSuchEpoch}
use Rattle.book.specs.declared.reply.Reply.{Reply}
use Rattle.book.specs.declared.reply.Reply.TheVariants as reply
use Rattle.book.specs.Steps.{Answer, Promised, Found, Told, Last, first, has_length_within, refusal, Outcome, Answers, found_in, step}
use Rattle.book.specs.Books.{Binding, Book, Page, page_at, pages}
use Rattle.book.specs.Honest.{key_at, IsHonestRun}
use Rattle.book.specs.Keeps.{KeepsNothing, NeverFails}
use Rattle.encoding.specs.Maps.{at}
use Rattle.book.specs.Shows.{Provider, SignedPage, index_of, roots, sealed_pages, IsRootOf}
use Rattle.book.specs.Sound.{IsSound}
use Rattle.book.specs.Turns.{Declines, Turn}
use Rattle.book.proofs.Begun.{climbs}
use Rattle.book.proofs.Members.{mapped-from}
use Rattle.book.proofs.Rooted.{rooted-at}
use Rattle.book.proofs.Sealing.{Climb, sealed-page}
use Rattle.book.proofs.Stepping.{none_steps}
use Rattle.epochs.specs.DirectoryStates.{book, HasKeysOf}
use Rattle.hub.specs.Desks.{reply_frame}
use Rattle.monitor.specs.Monitors.{Monitor, with_watched, IsNext}
use Rattle.monitor.specs.Stepping.{IsNextEpoch, StepTells}
use Rattle.monitor.specs.declared.step.Step.{Step}
use Rattle.monitor.specs.declared.step.Step.TheVariants.{Kept, Alarm}
use Rattle.play.specs.Lines.{as_lines, is_double, refused_proof}
use Rattle.play.specs.Parties.{Parties, book_of, provider_of, AreAt, HasAsked, IsWatcher}
use Rattle.play.specs.Played.{Stand}
use Rattle.play.specs.Steps.{HasStepped, Watches}
use Rattle.play.specs.Telling.{placed_text, step_text}
use Rattle.play.proofs.Keys.{keys-same, same-keys}
use Rattle.play.specs.Watchers.{ahead, alarm_key, same_key, verdict_text, watched_text, Watcher}
use Rattle.play.proofs.Ahead.{above-all, first-ahead}
use Rattle.play.proofs.Calling.{in-roots, rooted-epoch}
use Rattle.play.proofs.Standing.{all-stand, keys-stay}
use Rattle.play.proofs.Seen.{find-some, seen, there-found, IsSeen}

-- ---- lists

module _ {X Y : Type 0} (R : X → Y → Type 0) where
  pub zip-got : (xs : List X) (ys : List Y) (k : ℕ) (x : X) (y : Y) → AllZip R xs ys → slice_get xs k ≡ Some x → slice_get ys k ≡ Some y → R x y
  zip-got [] [] k x y all is also = absurd cc
  zip-got [] (b ∷ ys) k x y all is also = absurd all
  zip-got (a ∷ xs) [] k x y all is also = absurd all
  zip-got (a ∷ xs) (b ∷ ys) zero x y all is also =
      let e : a ≡ x = cc in
      let f : b ≡ y = cc in
      subst (R x) f (subst (λ (z : X). R z b) e all.0)
  zip-got (a ∷ xs) (b ∷ ys) (suc k) x y all is also = zip-got xs ys k x y all.1 is also

  pub zip-set : (xs : List X) (ys : List Y) (k : ℕ) (x : X) (y : Y) → AllZip R xs ys → R x y → AllZip R (slice_set xs k x) (slice_set ys k y)
  zip-set [] [] k x y all here = all
  zip-set [] (b ∷ ys) k x y all here = absurd all
  zip-set (a ∷ xs) [] k x y all here = absurd all
  zip-set (a ∷ xs) (b ∷ ys) zero x y all here = (here, all.1)
  zip-set (a ∷ xs) (b ∷ ys) (suc k) x y all here = (all.0, zip-set xs ys k x y all.1 here)

-- a line at the end of what was printed
pub one-line : (printed line : List ℕ) → printed ++ line ++ 10 ∷ [] ≡ printed ++ as_lines (line ∷ [])
one-line printed line = append_assoc printed line (10 ∷ []) ∙ ap (λ (more : List ℕ). printed ++ more) (sym (append-nil (line ++ 10 ∷ [])))

-- ---- words

abbrev place-of : Watcher → Page → List ℕ
place-of watcher page = encode_lower watcher.name ++ codes " " ++ decimal page.epoch

abbrev by-test : Watcher → Page → Bool → List ℕ
by-test watcher page t = verdict_text t (place-of watcher page) (key_at page watcher.name)

told-text : (watcher : Watcher) (page : Page) (epoch : ℕ) (told : Step) → epoch ≡ page.epoch → StepTells watcher.watch page.epoch (key_at page watcher.name) told
    → step_text watcher.name epoch told ≡ watched_text watcher page
told-text watcher page epoch Kept is tells =
    ap (λ (e : ℕ). step_text watcher.name e Kept) is
    ∙ sym (ap (by-test watcher page) (same-keys (key_at page watcher.name) (expected watcher.watch page.epoch) tells))
told-text watcher page epoch (Alarm at found) is (differs, of, states) =
    ap (λ (e : ℕ). placed_text (codes "alarm ") watcher.name e ++ codes " " ++ alarm_key (key_stated found)) of
    ∙ ap (λ (key : Option BoundKey). placed_text (codes "alarm ") watcher.name page.epoch ++ codes " " ++ alarm_key key) states
    ∙ sym (ap (by-test watcher page) (false_from_ne_true (same_key (key_at page watcher.name) (expected watcher.watch page.epoch)) (λ e. differs (keys-same (key_at page watcher.name) (expected watcher.watch page.epoch) e))))

refused-text : (why : ProofRefusal) → why ≡ proof.SameIndex → codes "client refuses proof " ++ decimal (reply_refusal_number why) ≡ refused_proof
unfolding digits
refused-text why is = ap (λ (w : ProofRefusal). codes "client refuses proof " ++ decimal (reply_refusal_number w)) is ∙ refl

-- ---- what is found

-- the page of an epoch is found
page-found : (book : Book) → Climb 0 (pages book) → (page : Page) → Contains (pages book) page → 0 < page.epoch → (some : Page) × (page_at book page.epoch ≡ Some some)
page-found book climb page there positive =
    let found = find-some (λ (each : Page). each.epoch == page.epoch) (pages book)
    (there-found (λ (each : Page). each.epoch == page.epoch) (pages book) page there (eq-eqb page.epoch page.epoch refl)) in
    (found.0, ap (λ (t : Bool). if t then Some book.last else find (λ (each : Page). each.epoch == page.epoch) (pages book)) (ne_eqb page.epoch 0 (λ e. omega (arith, e, positive))) ∙ found.1)

-- a name within its limits is looked up, where the page is there
look-steps : (index : List ℕ → List ℕ) (book : Book) (name : List ℕ) (epoch : ℕ) (page : Page) → IsName name → page_at book epoch ≡ Some page
    → step index book (Query (Lookup name epoch)) ≡ (Answers (Found page name (at page.bindings name)), book)
look-steps index book name epoch page named found =
    none_steps index book (Query (Lookup name epoch)) none
    ∙ ap (λ (found : Option Page). (found_in name found, book)) found
  where
    within : has_length_within 1 255 name ≡ true
    within = and_from (nat_le 1 (length name)) (nat_le (length name) 255) (le-leb 1 (length name) named.0) (le-leb (length name) 255 named.1)

    none : refusal index book (Query (Lookup name epoch)) ≡ None
    none =
        ap (λ (t : Bool). first ((not t, BadName) ∷ (is_none (page_at book epoch), NoSuchEpoch) ∷ [])) within
        ∙ ap (λ (found : Option Page). first ((is_none found, NoSuchEpoch) ∷ [])) found

record IsFoundText (book after : Book) (said : Reply) : Type 0 where
  pub text : List ℕ
  pub is : said ≡ reply.Found text
  pub stays : after ≡ book

abbrev pub made : Answer → Book → Outcome × Book
made answer book = (Answers answer, book)

pub answers-same : (answer other : Answer) (one two : Book) → made answer one ≡ made other two → (answer ≡ other) × (one ≡ two)
answers-same answer other one two e = (by (ap (λ (x : Outcome × Book). x.0) e), ap (λ (x : Outcome × Book). x.1) e)
  where
    by : Answers answer ≡ Answers other → answer ≡ other
    by f = cc

module _ (provider : Provider) where
  found-said : (book after : Book) (before later : NoKeeper) (name : List ℕ) (epoch : ℕ) (page : Page) (found : Option Binding) (said : Reply)
      → step (index_of provider) book (Query (Lookup name epoch)) ≡ (Answers (Found page name found), book)
      → Turn provider KeepsNothing NeverFails book before (Query (Lookup name epoch)) said after later → IsFoundText book after said
  found-said book after before later name epoch page found (reply.Refused why) is turn =
      absurd (subst (λ (o : Outcome). Declines provider KeepsNothing NeverFails o None before why later) (ap (λ (x : Outcome × Book). x.0) is) turn.1)
  found-said book after before later name epoch page found (reply.Found text) is turn =
      record { text = text; is = refl; stays = (answers-same turn.0 (Found page name found) after book (sym turn.1 ∙ is)).1 }
  found-said book after before later name epoch page found (reply.Promised signed) is turn = absurd (other (sym turn.3.3 ∙ (answers-same turn.0 (Found page name found) after book (sym turn.1 ∙ is)).0))
    where
      other : {n : List ℕ} {b : Binding} → Promised n b ≡ Found page name found → ⊥
      other e = absurd cc
  found-said book after before later name epoch page found (reply.Told told) is turn = absurd (other (sym turn.3.1 ∙ (answers-same turn.0 (Found page name found) after book (sym turn.1 ∙ is)).0))
    where
      other : {some : List Page} → Told some ≡ Found page name found → ⊥
      other e = absurd cc
  found-said book after before later name epoch page found (reply.Last root) is turn = absurd (other (sym turn.3.1 ∙ (answers-same turn.0 (Found page name found) after book (sym turn.1 ∙ is)).0))
    where
      other : {some : Page} → Last some ≡ Found page name found → ⊥
      other e = absurd cc

  -- each page has its root
  pub root-of : (book : Book) (page : Page) → Contains (pages book) page → (root : SignedRoot) → (own : SignedRoot) × IsRootOf provider book page own
  root-of book page (k, within, is) root = (get_or (roots provider book) k root, subst (λ (p : Page). IsRootOf provider book p (get_or (roots provider book) k root)) is (rooted-at provider book k page root within))

  -- the next root of a monitor is that of the first page ahead of its watcher
  module _ (key : List ℕ) (book : Book) (climb : Climb 0 (pages book)) (watching : Monitor) (watcher : Watcher) (is : IsWatcher key (roots provider book) book watching watcher) where
    in-chain : (root : SignedRoot) → Contains watching.client.chain.roots root → Contains (drop is.skipped (roots provider book)) root
    in-chain root there = subst (λ (some : List SignedRoot). Contains some root) (ap (λ (c : KeyedRoots). c.roots) is.chain) there

    from-drop : (root : SignedRoot) → Contains (drop is.skipped (roots provider book)) root → Contains (roots provider book) root
    from-drop root there =
        subst (λ (all : List SignedRoot). Contains all root) (take-append-drop is.skipped (roots provider book))
        (Contains-append_right (take is.skipped (roots provider book)) (drop is.skipped (roots provider book)) root there)

    pub in-taken : (root : SignedRoot) → IsNext watching root → Contains (roots provider book) root
    in-taken root next = from-drop root (in-chain root next.0)

    pub is-first : (page : Page) (root : SignedRoot) → IsRootOf provider book page root → IsNext watching root → ahead watcher (pages book) ≡ page ∷ ahead (record watcher { behind = page.epoch }) (pages book)
    is-first page root rooted next =
        first-ahead watcher.behind 0 (pages book) climb page (sealed-page provider 0 _ (pages book) (record { page = page; root = root }) rooted)
        (subst (λ (n : ℕ). watcher.behind < n) (rooted-epoch provider book page root rooted) ((is.behind root (in-taken root next)).1 (in-chain root next.0, next.1)))
        least
      where
        least : (other : Page) → Contains (pages book) other → watcher.behind < other.epoch → page.epoch ≤ other.epoch
        least other there after =
            let own = root-of book other there root in
            let e : (own.0).body.epoch ≡ other.epoch = rooted-epoch provider book other own.0 own.1 in
            let f : root.body.epoch ≡ page.epoch = rooted-epoch provider book page root rooted in
            let b = (is.behind own.0 (in-roots provider book other own.0 own.1)).0 (subst (λ (n : ℕ). watcher.behind < n) (sym e) after) in
            let low = All-contains (λ (x : SignedRoot). watching.watched < x.body.epoch → root.body.epoch ≤ x.body.epoch) watching.client.chain.roots own.0 next.2
            (subst (λ (some : List SignedRoot). Contains some own.0) (sym (ap (λ (c : KeyedRoots). c.roots) is.chain)) b.0) b.1 in
            omega (arith, e, f, low)

    pub goes-on : (page : Page) (root : SignedRoot) → IsRootOf provider book page root → IsNext watching root → (bytes : List ℕ)
        → IsWatcher key (roots provider book) book (with_watched watching root.body.epoch bytes) (record watcher { behind = page.epoch })
    goes-on page root rooted next bytes = record {
      name = is.name;
      watch = is.watch;
      skipped = is.skipped;
      chain = is.chain;
      some = is.some;
      behind = λ other there. (
        (λ after. (((is.behind other there).0 (omega (arith, after, over, same))).0, omega (arith, after, same))),
        (λ later. omega (arith, later.1, same)),
      );
      promised = is.promised;
      until = (root, in-taken root next, omega (arith, same), omega arith);
    }
      where
        same : root.body.epoch ≡ page.epoch
        same = rooted-epoch provider book page root rooted

        over : watcher.behind < root.body.epoch
        over = (is.behind root (in-taken root next)).1 (in-chain root next.0, next.1)

-- ---- all stand after it

module _ {R : Type 0} (digest_of : List ℕ → List ℕ) (value_of signature_of : List ℕ → List ℕ → List ℕ) (stream : R → Stream) (accepted verified : List ℕ → List ℕ → List ℕ → Type 0)
    (before mid fin : Parties R) (stand : Stand) (place : ℕ) (watcher : Watcher) (watching later : Monitor) (epoch : ℕ) (frame body : List ℕ)
    (all : AreAt digest_of value_of signature_of stream accepted verified before stand)
    (own : slice_get stand.watchers place ≡ Some watcher) (placed : slice_get before.monitors place ≡ Some watching) (next : IsNextEpoch watching (Some epoch))
    (asked : HasAsked digest_of value_of signature_of stream accepted verified before (request.Query (Lookup watching.name epoch)) frame mid)
    (named : IsName watching.name) (is_body : (whole : Frame) → IsFrame whole → frame ≡ frame_bytes whole → body ≡ whole.body)
    (ends : fin ≡ record mid { monitors = slice_set mid.monitors place later }) where
  abbrev by : Provider
  by = provider_of digest_of value_of signature_of stream accepted verified before

  abbrev now_book : Parties R → Book
  now_book = book_of digest_of value_of signature_of stream accepted verified

  sound : IsSound (index_of by) stand.book
  sound = subst (IsSound (index_of by)) all.hub.book asked.sound

  climb : Climb 0 (pages stand.book)
  climb = (climbs (index_of by) stand.book sound).climb

  is : IsWatcher before.key (roots by stand.book) stand.book watching watcher
  is = zip-got (IsWatcher before.key (roots by stand.book) stand.book) before.monitors stand.watchers place watching watcher all.taken.monitors placed own

  abbrev look : Operation
  look = Query (Lookup watching.name epoch)

  is_look : asked.asked ≡ look
  is_look = let e : Some look ≡ Some asked.asked = asked.is in cc

  turn : Turn by KeepsNothing NeverFails stand.book before.hub.service.keeper look asked.said (now_book mid) mid.hub.service.keeper
  turn =
      subst (λ (b : Book). Turn by KeepsNothing NeverFails b before.hub.service.keeper look asked.said (now_book mid) mid.hub.service.keeper) all.hub.book
      (subst (λ (command : Operation). Turn by KeepsNothing NeverFails (now_book before) before.hub.service.keeper command asked.said (now_book mid) mid.hub.service.keeper) is_look asked.turn)

  found : IsFoundText stand.book (now_book mid) asked.said
  found =
      let from = mapped-from (λ (each : SignedPage). each.root) (sealed_pages by stand.book) next.0 (in-taken by before.key stand.book climb watching watcher is next.0 next.1) in
      let page : Page = (from.0).page in
      let e : (from.0).root.body.epoch ≡ page.epoch = rooted-epoch by stand.book page (from.0).root from.1 in
      let f : (from.0).root.body.epoch ≡ (next.0).body.epoch = ap (λ (r : SignedRoot). r.body.epoch) from.2 in
      let there : Contains (pages stand.book) page = sealed-page by 0 _ (pages stand.book) from.0 from.1 in
      let some = page-found stand.book climb page there (above-all 0 (pages stand.book) climb page there) in
      let of : page.epoch ≡ epoch = sym e ∙ f ∙ next.2 in
      found-said by stand.book (now_book mid) before.hub.service.keeper mid.hub.service.keeper watching.name epoch some.0 (at (some.0).bindings watching.name) asked.said
      (look-steps (index_of by) stand.book watching.name epoch some.0 named (subst (λ (n : ℕ). page_at stand.book n ≡ Some some.0) of some.1)) turn

  positive : 0 < epoch
  positive = omega (arith, next.1.1, next.2)

  saw : (root : SignedRoot) → IsNext watching root → root.body.epoch ≡ epoch → (page : Page) × IsSeen by accepted verified before.key stand.book watching.name page root body
  saw root nearest of =
      seen by accepted verified before.key KeepsNothing NeverFails asked.laws stand.book (now_book mid) before.hub.service.keeper mid.hub.service.keeper watching.name epoch body sound
      (subst (λ (said : Reply). IsHonestRun by accepted verified before.key stand.book (now_book mid) (look ∷ []) (said ∷ [])) said
      (subst (λ (command : Operation). IsHonestRun by accepted verified before.key stand.book (now_book mid) (command ∷ []) (asked.said ∷ [])) is_look
      (subst (λ (b : Book). IsHonestRun by accepted verified before.key b (now_book mid) (asked.asked ∷ []) (asked.said ∷ [])) all.hub.book asked.honest)))
      (subst (λ (said : Reply). Turn by KeepsNothing NeverFails stand.book before.hub.service.keeper look said (now_book mid) mid.hub.service.keeper) said turn)
      named.2 found.stays root (in-taken by before.key stand.book climb watching watcher is root nearest)
      (of ∙ sym (ap (λ (t : Bool). if t then stand.book.last.epoch else epoch) (ne_eqb epoch 0 (λ e. omega (arith, e, positive)))))
    where
      said : asked.said ≡ reply.Found body
      said = found.is ∙ ap (λ (t : List ℕ). reply.Found t) (sym (is_body (reply_frame asked.said) asked.read.0 asked.frame ∙ ap (λ (r : Reply). (reply_frame r).body) found.is))

  -- each next root is of the epoch
  of-epoch : (root : SignedRoot) → IsNext watching root → root.body.epoch ≡ epoch
  of-epoch root nearest =
      let low = All-contains (λ (x : SignedRoot). watching.watched < x.body.epoch → root.body.epoch ≤ x.body.epoch) watching.client.chain.roots next.0 nearest.2 next.1.0 next.1.1 in
      let high = All-contains (λ (x : SignedRoot). watching.watched < x.body.epoch → (next.0).body.epoch ≤ x.body.epoch) watching.client.chain.roots root next.1.2 nearest.0 nearest.1 in
      omega (arith, low, high, next.2)

  -- all stand as before, but for this monitor
  stands : (now : Watcher) → IsWatcher before.key (roots by stand.book) stand.book later now
      → AreAt digest_of value_of signature_of stream accepted verified fin (record stand { watchers = slice_set stand.watchers place now })
  stands now are =
      all-stand digest_of value_of signature_of stream accepted verified before mid fin stand (request.Query (Lookup watching.name epoch)) frame (slice_set mid.monitors place later) (slice_set stand.watchers place now) all asked
      ends found.stays
      (zip-set (IsWatcher before.key (roots by stand.book) stand.book) mid.monitors stand.watchers place later now
      (subst (λ (some : List Monitor). AllZip (IsWatcher before.key (roots by stand.book) stand.book) some stand.watchers) (sym (ap (λ (m : Parties R). m.monitors) asked.others)) all.taken.monitors) are)

  keys : HasKeysOf before.hub.service.directory fin.hub.service.directory
  keys =
      keys-stay digest_of value_of signature_of stream accepted verified before mid fin stand (request.Query (Lookup watching.name epoch)) frame (slice_set mid.monitors place later) stand.watchers all asked ends

  looks-stay : fin.client.looks ≡ before.client.looks
  looks-stay = ap (λ (m : Parties R). m.client.looks) ends ∙ ap (λ (m : Parties R). m.client.looks) asked.others

  -- what was told is what the watcher says, and all stand as after it
  pub has-stepped : (printed text : List ℕ) (went : Bool) → Watches digest_of accepted watching epoch body printed went text later
      → HasStepped digest_of value_of signature_of stream accepted verified before stand place watcher printed went text fin
  has-stepped printed text true (told, (root, spelled, (nearest, accepts), tells, after), told_so) =
      let s = saw root nearest (of-epoch root nearest) in
      let states = s.1.states spelled accepts in
      let of : root.body.epoch ≡ s.0.epoch = rooted-epoch by stand.book s.0 root s.1.rooted in
      let tells_page : StepTells watcher.watch s.0.epoch (key_at s.0 watcher.name) told
      = subst (λ (w : Watch). StepTells w s.0.epoch (key_at s.0 watcher.name) told) is.watch
      (subst (λ (name : List ℕ). StepTells watching.watch s.0.epoch (key_at s.0 name) told) is.name
      (subst (λ (key : Option BoundKey). StepTells watching.watch s.0.epoch key told) states.0
      (subst (λ (e : ℕ). StepTells watching.watch e (stated spelled.end) told) of tells))) in
      let line : step_text watching.name epoch told ≡ watched_text watcher s.0
      = ap (λ (name : List ℕ). step_text name epoch told) is.name ∙ told-text watcher s.0 epoch told (sym (of-epoch root nearest) ∙ of) tells_page in
      record {
        page = s.0;
        more = ahead (record watcher { behind = s.0.epoch }) (pages stand.book);
        first = is-first by before.key stand.book climb watching watcher is s.0 root s.1.rooted nearest;
        line = watched_text watcher s.0;
        now = record watcher { behind = s.0.epoch };
        is = (subst (λ (name : List ℕ). is_double (index_of by) s.0 name ≡ false) is.name states.1, refl, refl);
        rest = refl;
        keys = keys;
        looks = looks-stay;
        done = record {
          text = told_so ∙ ap (λ (l : List ℕ). printed ++ l ++ 10 ∷ []) line ∙ one-line printed (watched_text watcher s.0);
          stands = stands (record watcher { behind = s.0.epoch })
              (subst (λ (m : Monitor). IsWatcher before.key (roots by stand.book) stand.book m (record watcher { behind = s.0.epoch })) (sym after)
              (goes-on by before.key stand.book climb watching watcher is s.0 root s.1.rooted nearest body));
        };
      }
  has-stepped printed text false (why, (root, nearest, refuses, after), told_so) =
      let s = saw root nearest (of-epoch root nearest) in
      let refused = s.1.refuses why refuses in
      record {
        page = s.0;
        more = ahead (record watcher { behind = s.0.epoch }) (pages stand.book);
        first = is-first by before.key stand.book climb watching watcher is s.0 root s.1.rooted nearest;
        line = refused_proof;
        now = watcher;
        is = (subst (λ (name : List ℕ). is_double (index_of by) s.0 name ≡ true) is.name refused.1, refl, refl);
        rest = refl;
        keys = keys;
        looks = looks-stay;
        done = record {
          text = told_so ∙ ap (λ (front : List ℕ). front ++ 10 ∷ []) (append_assoc printed (codes "client refuses proof ") (decimal (reply_refusal_number why))) ∙ ap (λ (l : List ℕ). printed ++ l ++ 10 ∷ []) (refused-text why refused.0) ∙ one-line printed refused_proof;
          stands = stands watcher (subst (λ (m : Monitor). IsWatcher before.key (roots by stand.book) stand.book m watcher) (sym after) is);
        };
      }
