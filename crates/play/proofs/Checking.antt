-- What a client and a monitor make of the reply to a look-up is what the definition of scripts says.
use Rattle.std.proofs.Common.{◌≡◌, ℕ, Bool, true, false, not, cond, List, [], ◌∷◌, ◌++◌, replicate, Option, Some, None, Result, Ok, Err, All, Contains, refl, sym, ap, subst, ◌∙◌, inl, inr, arith}
use Rattle.std.specs.Prelude.{◌&&◌, if◌then◌else◌, codes, decimal, find, is_none, is_some}
use Rattle.std.specs.Fmt.{digits}
use Rattle.std.specs.List.{AllByRecursion}
use Rattle.std.specs.Str.{bytes_eq}
use Rattle.std.proofs.lemmas.Bool.{and_parts}
use Rattle.std.proofs.lemmas.List.Elements.{All-contains, All-from_recursion, recursion_from_All}
use Rattle.std.proofs.lemmas.Slice.Eq.{bytes_eq-Decides}
use Rattle.encoding.specs.Bytes.{Is32Bytes}
use Rattle.encoding.specs.Limits.{IsName}
use Rattle.encoding.proofs.ByteLists.{IsBytes-zeros}
use Rattle.rootchain.specs.Chains.{Ascend, IsChain}
use Rattle.rootchain.specs.declared.signed_root.SignedRoot.{SignedRoot}
use Rattle.rootchain.proofs.Chains.{ascend-linked}
use Rattle.proofs.specs.Accepts.{stated}
use Rattle.proofs.specs.Comparisons.{IsAcceptedReply, Refuses}
use Rattle.proofs.specs.Refusals.{reply_refusal_number, IsFirstToFail, Passes}
use Rattle.proofs.specs.Replies.{Reply as Spelled}
use Rattle.proofs.specs.Watches.{Watch, expected}
use Rattle.proofs.specs.declared.reply_refusal.Refusal.{Refusal as ProofRefusal}
use Rattle.proofs.specs.declared.reply_refusal.Refusal.TheVariants as proof
use Rattle.proofs.specs.declared.statement.Statement.{Statement}
use Rattle.proofs.proofs.Passing.{accepts-passed, one_reply, refused-accepts}
use Rattle.encoding.specs.declared.bound_key.BoundKey.{BoundKey}
use Rattle.book.specs.Steps.{has_its_index}
use Rattle.book.specs.Books.{Binding, Book, Page, pages}
use Rattle.book.specs.ProviderLaws.{KeepsLaws}
use Rattle.book.specs.Honest.{key_at}
use Rattle.encoding.specs.Maps.{Map, at}
use Rattle.book.specs.Shows.{Provider, index_of, sealed_pages, IsReplyOf, IsRootOf}
use Rattle.book.specs.Sound.{IsSound}
use Rattle.book.proofs.Begun.{begins-apart, climbs, has-salts}
use Rattle.book.proofs.Distinct.{AreApart, HasName, entry-named, named-or-not}
use Rattle.book.proofs.Doubled.{IsDoubled, doubled}
use Rattle.book.proofs.Found.{AreSalted, found-right}
use Rattle.book.proofs.Members.{first-there, later-there}
use Rattle.book.proofs.Placed.{Alone}
use Rattle.book.proofs.Sealing.{IsSealed, all-sealed, sealed-page}
use Rattle.client.specs.Clients.{Client}
use Rattle.client.specs.Looking.{IsAnswered, IsLookRoot, Looks}
use Rattle.client.specs.declared.client_refusal.Refusal.{Refusal}
use Rattle.client.specs.declared.client_refusal.Refusal.TheVariants as client
use Rattle.monitor.specs.Monitors.{Monitor, IsNext}
use Rattle.monitor.specs.Stepping.{IsFound, StepTells, Steps}
use Rattle.monitor.specs.declared.monitor_refusal.Refusal.{Refusal as MonitorRefusal}
use Rattle.monitor.specs.declared.monitor_refusal.Refusal.TheVariants as monitor
use Rattle.monitor.specs.declared.step.Step.{Step}
use Rattle.monitor.specs.declared.step.Step.TheVariants as step_of
use Rattle.play.specs.Checking.{watcher_text, TellsLook, TellsStep}
use Rattle.play.specs.Lines.{is_double, refused_proof, statement_text}
use Rattle.play.proofs.Keys.{keys-same, same-keys}
use Rattle.play.specs.Watchers.{Watcher, same_key, verdict_text, place_text}
use Rattle.play.proofs.Calling.{accepts-stated, one-asked, one-next, rooted-epoch, same-index, spelled-read}
use Rattle.play.proofs.Lists.{all-in}

-- ---- names with one index

module _ (index_of_name : List ℕ → List ℕ) (name : List ℕ) where
  abbrev meets : List ℕ × Binding → Bool
  meets entry = not (bytes_eq entry.0 name) && bytes_eq (index_of_name entry.0) (index_of_name name)

  -- a name that has the index, where one has
  pub double-there : (bindings : Map Binding) → has_its_index index_of_name name bindings ≡ true → (entry : List ℕ × Binding) × Contains bindings entry × (index_of_name entry.0 ≡ index_of_name name)
  double-there [] is = absurd cc
  double-there (entry ∷ more) is = by (meets entry) refl is (double-there more)
    where
      by : (b : Bool) → meets entry ≡ b → is_some (cond b (Some entry) (find meets more)) ≡ true
          → (has_its_index index_of_name name more ≡ true → (other : List ℕ × Binding) × Contains more other × (index_of_name other.0 ≡ index_of_name name))
          → (other : List ℕ × Binding) × Contains (entry ∷ more) other × (index_of_name other.0 ≡ index_of_name name)
      by true e found later = (entry, first-there entry more, (bytes_eq-Decides (index_of_name entry.0) (index_of_name name)).0 (and_parts (not (bytes_eq entry.0 name)) _ e).1)
      by false e found later = let l = later found in (l.0, later-there entry more l.0 l.1, l.2)

  -- and where none has, each name that has it is this one
  pub none-double : (bindings : Map Binding) → has_its_index index_of_name name bindings ≡ false → AllByRecursion (λ (entry : List ℕ × Binding). index_of_name entry.0 ≡ index_of_name name → entry.0 ≡ name) bindings
  none-double [] is = tt
  none-double (entry ∷ more) is = by (meets entry) refl is (none-double more)
    where
      own : meets entry ≡ false → index_of_name entry.0 ≡ index_of_name name → entry.0 ≡ name
      own e same = at_name (bytes_eq entry.0 name) refl (bytes_eq (index_of_name entry.0) (index_of_name name)) ((bytes_eq-Decides (index_of_name entry.0) (index_of_name name)).1 same) e
        where
          at_name : (b : Bool) → bytes_eq entry.0 name ≡ b → (c : Bool) → c ≡ true → not b && c ≡ false → entry.0 ≡ name
          at_name true f c g h = (bytes_eq-Decides entry.0 name).0 f
          at_name false f c g h = let clash : true ≡ false = sym g ∙ h in absurd cc

      by : (b : Bool) → meets entry ≡ b → is_some (cond b (Some entry) (find meets more)) ≡ false
          → (has_its_index index_of_name name more ≡ false → AllByRecursion (λ (other : List ℕ × Binding). index_of_name other.0 ≡ index_of_name name → other.0 ≡ name) more)
          → (index_of_name entry.0 ≡ index_of_name name → entry.0 ≡ name) × AllByRecursion (λ (other : List ℕ × Binding). index_of_name other.0 ≡ index_of_name name → other.0 ≡ name) more
      by true e found later = absurd cc
      by false e found later = (own e, later found)

-- ---- a reply

module _ (provider : Provider) (accepted verified : List ℕ → List ℕ → List ℕ → Type 0) (key : List ℕ) (laws : KeepsLaws accepted verified key provider) (book : Book) (sound : IsSound (index_of provider) book)
    (page : Page) (root : SignedRoot) (rooted : IsRootOf provider book page root) (name : List ℕ) (named : IsName name) (text : List ℕ) (shown : IsReplyOf provider page root.body name (at page.bindings name) text) where
  is-sealed : IsSealed provider accepted verified key laws (record { page = page; root = root })
  is-sealed =
      let goes = climbs (index_of provider) book sound in
      All-contains (IsSealed provider accepted verified key laws) (sealed_pages provider book) _
      (All-from_recursion (IsSealed provider accepted verified key laws) (sealed_pages provider book)
      (all-sealed provider accepted verified key laws 0 (replicate 32 0) (pages book) (omega arith) (refl, IsBytes-zeros 32) (λ e. refl) goes.climb goes.pages)) rooted

  on-book : Contains (pages book) page
  on-book = sealed-page provider 0 (replicate 32 0) (pages book) (record { page = page; root = root }) rooted

  page-apart : AreApart provider (HasName page.bindings)
  page-apart = All-contains (λ (each : Page). AreApart provider (HasName each.bindings)) (pages book) page
      (All-from_recursion (λ (each : Page). AreApart provider (HasName each.bindings)) (pages book) (begins-apart provider book sound).pages) on-book

  salted : AreSalted page.bindings
  salted = recursion_from_All (λ entry. Is32Bytes entry.1.salt) page.bindings
      (All-contains (λ (each : Page). All (λ (entry : List ℕ × Binding). Is32Bytes entry.1.salt) each.bindings) (pages book) page (has-salts (index_of provider) book sound) on-book)

  own-index : (bindings : Map Binding) → AreApart provider (HasName bindings) → HasName bindings name → ((entry : List ℕ × Binding) → Contains bindings entry → index_of provider entry.0 ≡ index_of provider name → entry.0 ≡ name)
  own-index bindings apart has entry there same = apart entry.0 name (entry-named bindings entry there) has same

  alone : is_double (index_of provider) page name ≡ false → Alone provider name page.bindings
  alone single = elim (named-or-not page.bindings name) [
    | inl has ↦ all-in (λ (entry : List ℕ × Binding). index_of provider entry.0 ≡ index_of provider name → entry.0 ≡ name) page.bindings (own-index page.bindings page-apart has)
    | inr none ↦ none-double (index_of provider) name page.bindings (ap (λ (found : Option Binding). is_none found && has_its_index (index_of provider) name page.bindings) (sym none) ∙ single)
  ]

  -- what is checked of a name that is no double index: the page's statement is accepted, and nothing refuses
  pub record IsSingle : Type 0 where
    pub states : (reply : Spelled) → IsAcceptedReply provider.hash accepted root.body name text reply → stated reply.end ≡ key_at page name
    pub never : (why : ProofRefusal) → ¬ Refuses provider.hash accepted root.body name text why

  -- and of one that is: the reply is refused for the very index
  pub record IsTwin : Type 0 where
    pub never : (reply : Spelled) → ¬ IsAcceptedReply provider.hash accepted root.body name text reply
    pub refused : (why : ProofRefusal) → Refuses provider.hash accepted root.body name text why → why ≡ proof.SameIndex

  pub single : is_double (index_of provider) page name ≡ false → IsSingle
  single is =
      let s = is-sealed in
      let r = found-right provider accepted verified key laws name page root.body text s.page s.form s.root s.nonce s.vuf_key named salted (alone is) shown in
      record {
        states = λ reply accepts. (accepts-passed provider.hash accepted root.body name text reply accepts.0 (key_at page name) r.accepts).0;
        never = λ why refused. refused-accepts provider.hash accepted root.body name text why (key_at page name) refused r.accepts;
      }

  pub twin : is_double (index_of provider) page name ≡ true → IsTwin
  twin is =
      let parts = and_parts (is_none (at page.bindings name)) (has_its_index (index_of provider) name page.bindings) is in
      let entry = double-there (index_of provider) name page.bindings parts.1 in
      let s = is-sealed in
      let d = doubled provider accepted verified key laws name page root.body text entry.0 s.page s.form s.vuf_key named shown entry.1 entry.2 (lacks (at page.bindings name) parts.0) in
      record {
        never = λ reply accepts. d.refused.fails ((accepts-passed provider.hash accepted root.body name text d.reply d.spells (stated reply.end) (accepts-stated provider.hash accepted root.body name text reply accepts)).1 proof.SameIndex);
        refused = only d;
      }
    where
      lacks : (found : Option Binding) → is_none found ≡ true → found ≡ None
      lacks None e = refl
      lacks (Some binding) e = absurd cc

      only : (d : IsDoubled provider accepted verified key laws name root.body text) → (why : ProofRefusal) → Refuses provider.hash accepted root.body name text why → why ≡ proof.SameIndex
      only d why (inl reads) = absurd (spelled-read text d.reply d.spells why reads)
      only d why (inr (reply, spelled, first)) =
          let same : reply ≡ d.reply = one_reply text reply d.reply spelled d.spells in
          same-index why provider.hash accepted root.body name d.reply (subst (λ (r : Spelled). IsFirstToFail (Passes provider.hash accepted root.body name r) why) same first) d.refused

  five : (why : ProofRefusal) → why ≡ proof.SameIndex → refused_proof ≡ codes "client refuses proof " ++ decimal (reply_refusal_number why)
  unfolding digits
  five why is = ap (λ (w : ProofRefusal). codes "client refuses proof " ++ decimal (reply_refusal_number w)) (sym is)

  pub looks-told : (holder later : Client) (asked : ℕ) (result : Result Statement Refusal) → IsChain provider.hash verified holder.chain → IsLookRoot holder.chain asked root
      → Looks provider.hash accepted holder name asked text result later
      → TellsLook page.epoch result (if is_double (index_of provider) page name then refused_proof else statement_text page.epoch (key_at page name))
  unfolding IsAnswered
  looks-told holder later asked result chain is looks = by (is_double (index_of provider) page name) refl result looks
    where
      up : Ascend holder.chain.roots
      up = ascend-linked provider.hash holder.chain.roots chain.linked

      answered : (own : SignedRoot) (reply : Spelled) → IsLookRoot holder.chain asked own → IsAcceptedReply provider.hash accepted own.body name text reply → IsAcceptedReply provider.hash accepted root.body name text reply
      answered own reply is_own accepts = subst (λ (r : SignedRoot). IsAcceptedReply provider.hash accepted r.body name text reply) (one-asked holder.chain up asked own root is_own is) accepts

      refused : (own : SignedRoot) (why : ProofRefusal) → IsLookRoot holder.chain asked own → Refuses provider.hash accepted own.body name text why → Refuses provider.hash accepted root.body name text why
      refused own why is_own refuses = subst (λ (r : SignedRoot). Refuses provider.hash accepted r.body name text why) (one-asked holder.chain up asked own root is_own is) refuses

      by : (b : Bool) → is_double (index_of provider) page name ≡ b → (result : Result Statement Refusal) → Looks provider.hash accepted holder name asked text result later
          → TellsLook page.epoch result (if b then refused_proof else statement_text page.epoch (key_at page name))
      by true e (Ok statement) (own, reply, accepts, same, grown) = absurd ((twin e).never reply (answered own reply accepts.0 accepts.1))
      by false e (Ok statement) (own, reply, accepts, same, grown) = ap (statement_text page.epoch) (sym (same ∙ (single e).states reply (answered own reply accepts.0 accepts.1)))
      by true e (Err (client.Proof why)) (own, is_own, refuses, stays) = five why ((twin e).refused why (refused own why is_own refuses))
      by false e (Err (client.Proof why)) (own, is_own, refuses, stays) = absurd ((single e).never why (refused own why is_own refuses))
      by b e (Err client.Memory) looks = tt
      by b e (Err client.UnknownRoot) looks = absurd (looks.0 root is)
      by b e (Err (client.Root why)) looks = absurd looks
      by b e (Err (client.RootDiffers evidence)) looks = absurd looks
      by b e (Err client.NoPromise) looks = absurd looks

  pub steps-told : (watching later : Monitor) (watcher : Watcher) (result : Result Step MonitorRefusal) → watching.name ≡ name → watcher.name ≡ name → watching.watch ≡ watcher.watch
      → IsChain provider.hash verified watching.client.chain → IsNext watching root → Steps provider.hash accepted watching text result later
      → TellsStep watcher.name page result (watcher_text (index_of provider) watcher page)
  steps-told watching later watcher result own also same chain next steps =
      subst (λ (n : List ℕ). TellsStep n page result (if is_double (index_of provider) page n then refused_proof else verdict_text (same_key (key_at page n) (expected watcher.watch page.epoch)) (place_text n page) (key_at page n)))
      (sym also) (by (is_double (index_of provider) page name) refl result steps)
    where
      up : Ascend watching.client.chain.roots
      up = ascend-linked provider.hash watching.client.chain.roots chain.linked

      own-next : (root_next : SignedRoot) → IsNext watching root_next → root_next ≡ root
      own-next root_next is = one-next watching.client.chain up watching.watched root_next root is next

      refused : (root_next : SignedRoot) (why : ProofRefusal) → IsNext watching root_next → Refuses provider.hash accepted root_next.body watching.name text why → Refuses provider.hash accepted root.body name text why
      refused root_next why is refuses =
          subst (λ (n : List ℕ). Refuses provider.hash accepted root.body n text why) own
          (subst (λ (r : SignedRoot). Refuses provider.hash accepted r.body watching.name text why) (own-next root_next is) refuses)

      answered : (root_next : SignedRoot) (reply : Spelled) → IsFound provider.hash accepted watching text root_next reply → IsAcceptedReply provider.hash accepted root.body name text reply
      answered root_next reply found =
          subst (λ (n : List ℕ). IsAcceptedReply provider.hash accepted root.body n text reply) own
          (subst (λ (r : SignedRoot). IsAcceptedReply provider.hash accepted r.body watching.name text reply) (own-next root_next found.0) found.1)

      at-page : (root_next : SignedRoot) → IsNext watching root_next → root_next.body.epoch ≡ page.epoch
      at-page root_next is = ap (λ (r : SignedRoot). r.body.epoch) (own-next root_next is) ∙ rooted-epoch provider book page root rooted

      -- what is expected, as the monitor and as the definition have it
      wanted : (root_next : SignedRoot) → IsNext watching root_next → expected watching.watch root_next.body.epoch ≡ expected watcher.watch page.epoch
      wanted root_next is = ap (expected watching.watch) (at-page root_next is) ∙ ap (λ (w : Watch). expected w page.epoch) same

      told : (step : Step) (statement : Option BoundKey) (root_next : SignedRoot) → IsNext watching root_next → statement ≡ key_at page name → StepTells watching.watch root_next.body.epoch statement step
          → (test : Bool) → same_key (key_at page name) (expected watcher.watch page.epoch) ≡ test
          → TellsStep name page (Ok step) (verdict_text test (place_text name page) (key_at page name))
      told step_of.Kept statement root_next is states tells true e = refl
      told step_of.Kept statement root_next is states tells false e =
          let kept : key_at page name ≡ expected watcher.watch page.epoch = sym states ∙ tells ∙ wanted root_next is in
          let clash : true ≡ false = sym (same-keys (key_at page name) (expected watcher.watch page.epoch) kept) ∙ e in
          absurd cc
      told (step_of.Alarm epoch found) statement root_next is states tells true e =
          absurd (tells.0 (states ∙ keys-same (key_at page name) (expected watcher.watch page.epoch) e ∙ sym (wanted root_next is)))
      told (step_of.Alarm epoch found) statement root_next is states tells false e =
          (tells.1 ∙ at-page root_next is, ap (verdict_text false (place_text name page)) (sym (tells.2 ∙ states)))

      by : (b : Bool) → is_double (index_of provider) page name ≡ b → (result : Result Step MonitorRefusal) → Steps provider.hash accepted watching text result later
          → TellsStep name page result (if b then refused_proof else verdict_text (same_key (key_at page name) (expected watcher.watch page.epoch)) (place_text name page) (key_at page name))
      by true e (Ok step) (root_next, reply, found, tells, grown) = absurd ((twin e).never reply (answered root_next reply found))
      by false e (Ok step) (root_next, reply, found, tells, grown) =
          told step (stated reply.end) root_next found.0 ((single e).states reply (answered root_next reply found)) tells (same_key (key_at page name) (expected watcher.watch page.epoch)) refl
      by true e (Err (monitor.Client (client.Proof why))) (root_next, is_next, refuses, stays) = five why ((twin e).refused why (refused root_next why is_next refuses))
      by false e (Err (monitor.Client (client.Proof why))) (root_next, is_next, refuses, stays) = absurd ((single e).never why (refused root_next why is_next refuses))
      by b e (Err (monitor.Client client.Memory)) steps = tt
      by b e (Err (monitor.Client client.UnknownRoot)) steps = absurd (steps.0 root next)
      by b e (Err (monitor.Client (client.Root why))) steps = absurd steps
      by b e (Err (monitor.Client (client.RootDiffers evidence))) steps = absurd steps
      by b e (Err (monitor.Client client.NoPromise)) steps = absurd steps
      by b e (Err monitor.OtherPromise) steps = absurd steps
