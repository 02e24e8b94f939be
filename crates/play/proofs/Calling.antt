-- What users get from their own calls, from what they see of a run.
use Rattle.std.proofs.Common.{◌≡◌, ◌↔◌, ℕ, zero, suc, ◌<◌, ◌≤◌, List, [], ◌∷◌, ◌++◌, length, replicate, Option, Some, None, Result, Ok, Err, Contains, refl, sym, ap, subst, ◌∙◌, inl, inr, arith}
use Rattle.std.specs.List.{AllByRecursion}
use Rattle.std.specs.Prelude.{bytes_eq, option_map, Bool, true, false, cond}
use Rattle.std.proofs.lemmas.Slice.Eq.{bytes_eq-Decides}
use Rattle.std.proofs.lemmas.List.Elements.{All-contains}
use Rattle.encoding.proofs.Fields.{one_spelling}
use Rattle.rootchain.specs.Bodies.{body_bytes}
use Rattle.rootchain.specs.Chains.{Ascend, IsAt, IsChain, KeyedRoots, Names, Verifies}
use Rattle.rootchain.specs.Places.{IsNextAfter}
use Rattle.rootchain.specs.Promises.{promise_bytes, read_signed_promise, signed_promise_bytes, IsSignedPromise, PromiseVerifies, SpellsPromise}
use Rattle.rootchain.specs.Readable.{signed_promise_field}
use Rattle.rootchain.specs.declared.body.Body.{Body}
use Rattle.rootchain.specs.declared.evidence.RootEvidence.TheVariants.{Fork, Link, Skip}
use Rattle.client.specs.declared.client_refusal.RootRefusal.TheVariants as root_refusal
use Rattle.rootchain.specs.declared.signed_promise.SignedPromise.{SignedPromise}
use Rattle.rootchain.specs.declared.signed_root.SignedRoot.{SignedRoot}
use Rattle.rootchain.proofs.Agreement.{unique}
use Rattle.rootchain.proofs.Chains.{ascend-linked}
use Rattle.rootchain.proofs.Places.{one-first}
use Rattle.proofs.specs.Accepts.{stated, Accepts, States}
use Rattle.proofs.specs.BrokenFinals.{IsBrokenFinal}
use Rattle.proofs.specs.BrokenPromises.{IsBrokenPromise}
use Rattle.proofs.specs.Comparisons.{IsAcceptedReply, Refuses}
use Rattle.proofs.specs.Refusals.{IsFirstToFail, Passes, ReadsReply}
use Rattle.proofs.specs.Replies.{Reply as Spelled, SpellsReply}
use Rattle.proofs.specs.Watches.{expected}
use Rattle.proofs.specs.declared.broken_final.BrokenFinal.{BrokenFinal}
use Rattle.proofs.specs.declared.broken_promise.BrokenPromise.{BrokenPromise}
use Rattle.proofs.specs.declared.reply_refusal.Refusal.{Refusal as ProofRefusal}
use Rattle.proofs.specs.declared.reply_refusal.Refusal.TheVariants as proof
use Rattle.proofs.specs.declared.statement.Statement.{Statement}
use Rattle.proofs.proofs.Passing.{accepts-passed, nothing_left, one_reply, refused-accepts}
use Rattle.commands.specs.Operations.{Operation, Query, Lookup}
use Rattle.encoding.specs.declared.bound_key.BoundKey.{BoundKey}
use Rattle.book.specs.declared.reply.Reply.{Reply}
use Rattle.book.specs.declared.reply.Reply.TheVariants as reply_of
use Rattle.book.specs.Books.{Binding, Book, Page, pages}
use Rattle.book.specs.Honest.{key_at, AreConsecutive, IsAnswer, IsDouble, IsHonestRun, IsSaid}
use Rattle.book.specs.Shows.{Provider, SignedPage, roots, sealed_pages, IsRootOf}
use Rattle.book.proofs.Members.{mapped-there}
use Rattle.book.proofs.Running.{root-epoch, said-at}
use Rattle.book.proofs.Stretches.{consecutive-there}
use Rattle.auditor.specs.Chains.{Chains, chain_of}
use Rattle.auditor.specs.Evidence.{IsEvidence}
use Rattle.auditor.specs.InOrder.{AreFollowed, ComeInOrder, ObservesAll}
use Rattle.auditor.specs.declared.auditor.Observed.{Observed}
use Rattle.auditor.specs.declared.evidence.Evidence.{Evidence}
use Rattle.auditor.specs.declared.evidence.Evidence.TheVariants as evidence
use Rattle.auditor.proofs.InOrder.{followed}
use Rattle.client.specs.Clients.{Client, with_promise, HasRootOf, IsAcceptedLook, IsSoundClient, Look}
use Rattle.client.specs.Dues.{IsTested, Tests}
use Rattle.client.specs.Finality.{looks_for, IsChangedBy, NoneStandSo}
use Rattle.client.specs.Looking.{IsAnswered, IsLookRoot, Looks}
use Rattle.client.specs.Promising.{KeepsPromise, ReadsPromise}
use Rattle.client.specs.declared.due.Due.{Due}
use Rattle.client.specs.declared.due.Due.TheVariants as due_of
use Rattle.client.specs.declared.client_refusal.Refusal.{Refusal}
use Rattle.client.specs.declared.client_refusal.Refusal.TheVariants as client
use Rattle.client.proofs.Breaking.{all-at, due-holds, next-names}
use Rattle.client.proofs.Keeping.{head-at}
use Rattle.monitor.specs.Expecting.{Expects, MayExpect}
use Rattle.monitor.specs.Monitors.{Monitor, with_change, IsNext}
use Rattle.monitor.specs.Stepping.{IsFound, StepTells, Steps}
use Rattle.monitor.specs.declared.monitor_refusal.Refusal.{Refusal as MonitorRefusal}
use Rattle.monitor.specs.declared.monitor_refusal.Refusal.TheVariants as monitor
use Rattle.monitor.specs.declared.step.Step.{Step}
use Rattle.monitor.specs.declared.step.Step.TheVariants as step_of
use Rattle.play.specs.Calls.{CallsAreHonest, ExpectsRight, IsFollowed, IsIssued, IsShown, WasFound, WasPromised, IsDoubleIn, KeepsRight, LooksRight, MayRefuse, StepsRight}
use Rattle.play.proofs.Following.{updated}

-- ---- replies

module _ (hash : List ℕ → List ℕ) (accepted : List ℕ → List ℕ → List ℕ → Type 0) (body : Body) (name : List ℕ) where
  -- an accepted reply has the statement of its end
  pub accepts-stated : (text : List ℕ) (reply : Spelled) → IsAcceptedReply hash accepted body name text reply → Accepts hash accepted body name text (stated reply.end)
  accepts-stated text reply accepts = (reply, accepts.0, subst (λ (b : Body). States hash accepted b name reply (stated reply.end)) accepts.1 accepts.2)

-- bytes that spell a reply are refused by no reading
pub spelled-read : (bytes : List ℕ) (reply : Spelled) → SpellsReply bytes reply → (refusal : ProofRefusal) → ¬ ReadsReply bytes (Err refusal)
spelled-read bytes reply spelled proof.Malformed reads = reads.0 reply spelled
spelled-read bytes reply spelled proof.Trailing reads =
    reads.4 (nothing_left reads.1 reads.2 reads.0 reply reads.5 (subst (λ (all : List ℕ). SpellsReply all reply) reads.3 spelled))
spelled-read bytes reply spelled proof.OtherRoot reads = reads
spelled-read bytes reply spelled proof.BadVuf reads = reads
spelled-read bytes reply spelled proof.SameIndex reads = reads
spelled-read bytes reply spelled proof.OtherPrefix reads = reads
spelled-read bytes reply spelled proof.PathMismatch reads = reads

-- ---- roots

module _ (provider : Provider) where
  pub rooted-epoch : (book : Book) (page : Page) (root : SignedRoot) → IsRootOf provider book page root → root.body.epoch ≡ page.epoch
  rooted-epoch book page root is = root-epoch provider 0 (replicate 32 0) (pages book) (record { page = page; root = root }) is

  pub in-roots : (book : Book) (page : Page) (root : SignedRoot) → IsRootOf provider book page root → Contains (roots provider book) root
  in-roots book page root is = mapped-there (λ (each : SignedPage). each.root) (sealed_pages provider book) (record { page = page; root = root }) is

-- ---- what is asked of a chain

asked-at : (chain : KeyedRoots) (asked : ℕ) (root : SignedRoot) → IsLookRoot chain asked root → IsAt chain root.body.epoch root
asked-at chain zero root is = head-at chain root is
asked-at chain (suc n) root is = (is.0, refl)

pub one-asked : (chain : KeyedRoots) → Ascend chain.roots → (asked : ℕ) (one other : SignedRoot) → IsLookRoot chain asked one → IsLookRoot chain asked other → one ≡ other
one-asked chain up zero one other is also = one-first one other _ is also
one-asked chain up (suc n) one other is also = unique chain up (suc n) one other is also

pub one-next : (chain : KeyedRoots) → Ascend chain.roots → (epoch : ℕ) (one other : SignedRoot) → IsNextAfter chain epoch one → IsNextAfter chain epoch other → one ≡ other
one-next chain up epoch one other is also =
    let low = All-contains (λ (x : SignedRoot). epoch < x.body.epoch → one.body.epoch ≤ x.body.epoch) chain.roots other is.2 also.0 also.1 in
    let high = All-contains (λ (x : SignedRoot). epoch < x.body.epoch → other.body.epoch ≤ x.body.epoch) chain.roots one also.2 is.0 is.1 in
    unique chain up other.body.epoch one other (is.0, omega (arith, low, high)) (also.0, refl)

-- ---- promises

pub one-promise : (bytes : List ℕ) (one other : SignedPromise) → SpellsPromise bytes one → SpellsPromise bytes other → one ≡ other
one-promise bytes one other is also =
    (one_spelling read_signed_promise signed_promise_bytes IsSignedPromise signed_promise_field one other [] [] is.1 also.1 (ap (λ (t : List ℕ). t ++ []) (sym is.0 ∙ also.0))).0

-- ---- a double index

pub same-index : (why : ProofRefusal) → (hash : List ℕ → List ℕ) (accepted : List ℕ → List ℕ → List ℕ → Type 0) (body : Body) (name : List ℕ) (reply : Spelled)
    → IsFirstToFail (Passes hash accepted body name reply) why → IsFirstToFail (Passes hash accepted body name reply) proof.SameIndex → why ≡ proof.SameIndex
same-index proof.Malformed hash accepted body name reply is also = absurd (is.fails tt)
same-index proof.Trailing hash accepted body name reply is also = absurd (is.fails tt)
same-index proof.OtherRoot hash accepted body name reply is also = absurd (is.fails (also.before proof.OtherRoot (omega arith)))
same-index proof.BadVuf hash accepted body name reply is also = absurd (is.fails (also.before proof.BadVuf (omega arith)))
same-index proof.SameIndex hash accepted body name reply is also = refl
same-index proof.OtherPrefix hash accepted body name reply is also = absurd (also.fails (is.before proof.SameIndex (omega arith)))
same-index proof.PathMismatch hash accepted body name reply is also = absurd (also.fails (is.before proof.SameIndex (omega arith)))

module _ (provider : Provider) (accepted verified : List ℕ → List ℕ → List ℕ → Type 0) (key : List ℕ) (before after : Book) (commands : List Operation) (replies : List Reply)
    (h : IsHonestRun provider accepted verified key before after commands replies) where
  -- the text, read under the page's root, states what the page has, or is refused as it may be
  pub record IsOf (page : Page) (root : SignedRoot) (name text : List ℕ) : Type 0 where
    pub rooted : IsRootOf provider after page root
    pub states : (reply : Spelled) → IsAcceptedReply provider.hash accepted root.body name text reply → stated reply.end ≡ key_at page name
    pub refuses : (why : ProofRefusal) → Refuses provider.hash accepted root.body name text why → MayRefuse provider page name (client.Proof why)

  ascend : Ascend (roots provider after)
  ascend = ascend-linked provider.hash (roots provider after) h.chain.linked

  pub one-of : (one other : SignedRoot) → Contains (roots provider after) one → Contains (roots provider after) other → one.body.epoch ≡ other.body.epoch → one ≡ other
  one-of one other is also same = unique (record { key = key; roots = roots provider after }) ascend other.body.epoch one other (is, same) (also, refl)

  is-chain : (chain : KeyedRoots) → IsFollowed provider key after chain → IsChain provider.hash verified chain
  is-chain chain f =
      subst (λ (k : List ℕ). IsChain provider.hash verified (record { key = k; roots = chain.roots })) (sym f.keyed)
      (h.followed f.are.0 chain.roots f.are.1 f.are.2 f.some).0

  chain-ascends : (chain : KeyedRoots) → IsFollowed provider key after chain → Ascend chain.roots
  chain-ascends chain f = ascend-linked provider.hash chain.roots (is-chain chain f).linked

  in-book : (chain : KeyedRoots) → IsFollowed provider key after chain → (root : SignedRoot) → Contains chain.roots root → Contains (roots provider after) root
  in-book chain f root there = consecutive-there (roots provider after) chain.roots f.are root there

  answer-of : (name text : List ℕ) (latest epoch : ℕ) (a : IsAnswer provider accepted verified key after latest name epoch text) → IsOf a.page a.root name text
  answer-of name text latest epoch a = record {
    rooted = a.is;
    states = λ reply accepts. (a.states (stated reply.end)).0 (accepts-stated provider.hash accepted a.root.body name text reply accepts);
    refuses = λ why refused. absurd (refused-accepts provider.hash accepted a.root.body name text why (key_at a.page name) refused ((a.states (key_at a.page name)).1 refl));
  }

  never : (latest : ℕ) (name : List ℕ) (epoch : ℕ) (text : List ℕ) (d : IsDouble provider accepted verified key after latest name epoch text)
      → (body : Body) (other : List ℕ) (statement : Option BoundKey) → Accepts provider.hash accepted body other text statement → ⊥
  never latest name epoch text d body other statement accepts =
      d.refused.fails ((accepts-passed provider.hash accepted body other text d.reply d.spelled statement accepts).1 proof.SameIndex)

  double-of : (name text : List ℕ) (latest epoch : ℕ) (d : IsDouble provider accepted verified key after latest name epoch text) → IsOf d.page d.root name text
  double-of name text latest epoch d = record {
    rooted = d.is;
    states = λ reply accepts. absurd (never latest name epoch text d d.root.body name (stated reply.end) (accepts-stated provider.hash accepted d.root.body name text reply accepts));
    refuses = λ why refused. subst (λ (w : ProofRefusal). MayRefuse provider d.page name (client.Proof w)) (sym (only why refused)) (d.absent, (d.other, d.held, d.same_index));
  }
    where
      only : (why : ProofRefusal) → Refuses provider.hash accepted d.root.body name text why → why ≡ proof.SameIndex
      only why (inl reads) = absurd (spelled-read text d.reply d.spelled why reads)
      only why (inr (reply, spelled, first)) =
          let same : reply ≡ d.reply = one_reply text reply d.reply spelled d.spelled in
          same-index why provider.hash accepted d.root.body name d.reply
          (subst (λ (r : Spelled). IsFirstToFail (Passes provider.hash accepted d.root.body name r) why) same first) d.refused

  -- what was shown for the epoch of a root is of the page of that root
  pub shown : (name : List ℕ) (text : List ℕ) (root : SignedRoot) → Contains (roots provider after) root → IsShown before commands replies name root.body.epoch text
      → (page : Page) × IsOf page root name text
  shown name text root there (latest, epoch, of, said) = elim (h.found latest name epoch text said) [
    | inl a ↦
        let same : a.root ≡ root = one-of a.root root (in-roots provider after a.page a.root a.is) there (rooted-epoch provider after a.page a.root a.is ∙ a.asked ∙ sym of) in
        (a.page, subst (λ (r : SignedRoot). IsOf a.page r name text) same (answer-of name text latest epoch a))
    | inr d ↦
        let same : d.root ≡ root = one-of d.root root (in-roots provider after d.page d.root d.is) there (rooted-epoch provider after d.page d.root d.is ∙ d.asked ∙ sym of) in
        (d.page, subst (λ (r : SignedRoot). IsOf d.page r name text) same (double-of name text latest epoch d))
  ]

  -- ---- looks

  pub looked : (holder later : Client) (name : List ℕ) (text : List ℕ) (asked : ℕ) (root : SignedRoot) (result : Result Statement Refusal)
      → IsFollowed provider key after holder.chain → IsLookRoot holder.chain asked root → IsShown before commands replies name root.body.epoch text
      → Looks provider.hash accepted holder name asked text result later
      → (page : Page) × IsRootOf provider after page root × LooksRight provider page name result
  unfolding IsAnswered
  looked holder later name text asked root result f is at looks =
      let s = shown name text root (in-book holder.chain f root (asked-at holder.chain asked root is).0) at in
      (s.0, s.1.rooted, by s.0 s.1 result looks)
    where
      by : (page : Page) → IsOf page root name text → (result : Result Statement Refusal) → Looks provider.hash accepted holder name asked text result later → LooksRight provider page name result
      by page o (Ok statement) (own, reply, answered, same, grown) =
          let one : own ≡ root = one-asked holder.chain (chain-ascends holder.chain f) asked own root answered.0 is in
          same ∙ o.states reply (subst (λ (r : SignedRoot). IsAcceptedReply provider.hash accepted r.body name text reply) one answered.1)
      by page o (Err client.UnknownRoot) looks = absurd (looks.0 root is)
      by page o (Err (client.Proof why)) (own, is_own, refused, stays) =
          let one : own ≡ root = one-asked holder.chain (chain-ascends holder.chain f) asked own root is_own is in
          o.refuses why (subst (λ (r : SignedRoot). Refuses provider.hash accepted r.body name text why) one refused)
      by page o (Err client.Memory) looks = tt
      by page o (Err (client.Root why)) looks = absurd looks
      by page o (Err (client.RootDiffers evidence)) looks = absurd looks
      by page o (Err client.NoPromise) looks = absurd looks

  -- ---- steps of monitors

  pub stepped : (watching later : Monitor) (text : List ℕ) (root : SignedRoot) (result : Result Step MonitorRefusal)
      → IsFollowed provider key after watching.client.chain → IsNext watching root → IsShown before commands replies watching.name root.body.epoch text
      → Steps provider.hash accepted watching text result later
      → (page : Page) × IsRootOf provider after page root × StepsRight provider page watching result
  stepped watching later text root result f next at steps =
      let s = shown watching.name text root (in-book watching.client.chain f root next.0) at in
      (s.0, s.1.rooted, by s.0 s.1 result steps)
    where
      own-next : (own : SignedRoot) → IsNext watching own → own ≡ root
      own-next own is = one-next watching.client.chain (chain-ascends watching.client.chain f) watching.watched own root is next

      told : (page : Page) → IsOf page root watching.name text → (own : SignedRoot) (reply : Spelled) → IsFound provider.hash accepted watching text own reply
          → (step : Step) → StepTells watching.watch own.body.epoch (stated reply.end) step
          → (step ≡ step_of.Kept) ↔ (key_at page watching.name ≡ expected watching.watch page.epoch)
      told page o own reply found step tells = by step tells
        where
          one : own ≡ root
          one = own-next own found.0

          epoch : own.body.epoch ≡ page.epoch
          epoch = ap (λ (r : SignedRoot). r.body.epoch) one ∙ rooted-epoch provider after page root o.rooted

          states : stated reply.end ≡ key_at page watching.name
          states = o.states reply (subst (λ (r : SignedRoot). IsAcceptedReply provider.hash accepted r.body watching.name text reply) one found.1)

          by : (step : Step) → StepTells watching.watch own.body.epoch (stated reply.end) step → (step ≡ step_of.Kept) ↔ (key_at page watching.name ≡ expected watching.watch page.epoch)
          by step_of.Kept tells = ((λ e. sym states ∙ tells ∙ ap (expected watching.watch) epoch), (λ e. refl))
          by (step_of.Alarm at_epoch key_found) tells = ((λ e. absurd cc), (λ e. absurd (tells.0 (states ∙ e ∙ sym (ap (expected watching.watch) epoch)))))

      by : (page : Page) → IsOf page root watching.name text → (result : Result Step MonitorRefusal) → Steps provider.hash accepted watching text result later → StepsRight provider page watching result
      by page o (Ok step) (own, reply, found, tells, grown) = told page o own reply found step tells
      by page o (Err (monitor.Client client.UnknownRoot)) steps = absurd (steps.0 root next)
      by page o (Err (monitor.Client (client.Proof why))) (own, is_next, refused, stays) =
          o.refuses why (subst (λ (r : SignedRoot). Refuses provider.hash accepted r.body watching.name text why) (own-next own is_next) refused)
      by page o (Err (monitor.Client client.Memory)) steps = tt
      by page o (Err (monitor.Client (client.Root why))) steps = absurd steps
      by page o (Err (monitor.Client (client.RootDiffers evidence))) steps = absurd steps
      by page o (Err (monitor.Client client.NoPromise)) steps = absurd steps
      by page o (Err monitor.OtherPromise) steps = absurd steps

  -- ---- promises

  -- what is known of a promise that was given, where a chain has its root
  module _ (chain : KeyedRoots) (f : IsFollowed provider key after chain) (command : Operation) (given : SignedPromise) (said : IsSaid commands replies command (reply_of.Promised given))
      (root : SignedRoot) (is : IsAt chain given.promise.epoch root) where
    spelled : SpellsPromise (signed_promise_bytes given) given
    spelled = (refl, (h.kept command given said).form)

    verifies : PromiseVerifies verified chain.key given
    unfolding PromiseVerifies
    verifies = subst (λ (own_key : List ℕ). verified own_key (promise_bytes given.promise) given.signature) (sym f.keyed) (h.kept command given said).signed

    rooted-in : HasRootOf provider.hash chain given.promise
    unfolding HasRootOf
    rooted-in =
        let k = h.kept command given said in
        let own : k.root ≡ root = one-of k.root root (in-roots provider after k.page k.root k.is) (in-book chain f root is.0) (sym k.epoch ∙ sym is.1) in
        (root, is, k.body_hash ∙ ap (λ (r : SignedRoot). provider.hash (body_bytes r.body)) own)

    -- bytes that spell it spell no other
    same-promise : (signed : SignedPromise) → SpellsPromise (signed_promise_bytes given) signed → given ≡ signed
    same-promise signed it = one-promise (signed_promise_bytes given) given signed spelled it

    -- and reading them refuses nothing
    reads-it : (holder : Client) → holder.chain ≡ chain → (why : Refusal) → ¬ ReadsPromise provider.hash verified holder (signed_promise_bytes given) (Err why)
    reads-it holder own why reads = by why (subst (λ (c : KeyedRoots). ReadsPromise provider.hash verified (record holder { chain = c }) (signed_promise_bytes given) (Err why)) own reads)
      where
        by : (why : Refusal) → ReadsPromise provider.hash verified (record holder { chain = chain }) (signed_promise_bytes given) (Err why) → ⊥
        by (client.Root root_refusal.Malformed) reads = reads given spelled
        by (client.Root root_refusal.BadSignature) (signed, it, not_verified) = not_verified (subst (PromiseVerifies verified chain.key) (same-promise signed it) verifies)
        by (client.Root root_refusal.NotLater) reads = reads
        by (client.Root root_refusal.BadLink) reads = reads
        by client.UnknownRoot (signed, it, not_rooted) = not_rooted (subst (λ (p : SignedPromise). HasRootOf provider.hash chain p.promise) (same-promise signed it.0) rooted-in)
        by (client.Proof why) reads = reads
        by (client.RootDiffers evidence) reads = reads
        by client.Memory reads = reads
        by client.NoPromise reads = reads

  pub promised : (holder later : Client) (given : SignedPromise) (root : SignedRoot) (result : Result (Unit {0}) Refusal)
      → IsFollowed provider key after holder.chain → IsAt holder.chain given.promise.epoch root → WasPromised commands replies given
      → KeepsPromise provider.hash verified holder (signed_promise_bytes given) result later
      → KeepsRight holder given result later
  promised holder later given root result f is (command, said) keeps = by result keeps
    where
      never-read : (why : Refusal) → ¬ ReadsPromise provider.hash verified holder (signed_promise_bytes given) (Err why)
      never-read = reads-it holder.chain f command given said root is holder refl

      by : (result : Result (Unit {0}) Refusal) → KeepsPromise provider.hash verified holder (signed_promise_bytes given) result later → KeepsRight holder given result later
      by (Ok done) (signed, is_given, grown) = grown ∙ ap (with_promise holder) (sym (same-promise holder.chain f command given said root is signed is_given.0.0))
      by (Err client.Memory) keeps = tt
      by (Err (client.Root why)) keeps = absurd (never-read (client.Root why) keeps.0)
      by (Err client.UnknownRoot) keeps = absurd (never-read client.UnknownRoot keeps.0)
      by (Err (client.Proof why)) keeps = absurd keeps
      by (Err (client.RootDiffers evidence)) keeps = absurd keeps
      by (Err client.NoPromise) keeps = absurd keeps

  pub expected-change : (watching later : Monitor) (given : SignedPromise) (root : SignedRoot) (result : Result (Unit {0}) MonitorRefusal)
      → IsFollowed provider key after watching.client.chain → IsAt watching.client.chain given.promise.epoch root → WasPromised commands replies given
      → MayExpect watching given.promise.key given.promise
      → Expects provider.hash verified watching given.promise.key (signed_promise_bytes given) result later
      → ExpectsRight watching given result later
  expected-change watching later given root result f is (command, said) may expects = by result expects
    where
      never-read : (why : Refusal) → ¬ ReadsPromise provider.hash verified watching.client (signed_promise_bytes given) (Err why)
      never-read = reads-it watching.client.chain f command given said root is watching.client refl

      same : (signed : SignedPromise) → SpellsPromise (signed_promise_bytes given) signed → given ≡ signed
      same signed it = same-promise watching.client.chain f command given said root is signed it

      by : (result : Result (Unit {0}) MonitorRefusal) → Expects provider.hash verified watching given.promise.key (signed_promise_bytes given) result later → ExpectsRight watching given result later
      by (Ok done) (signed, is_new, grown) = grown ∙ ap (with_change watching) (sym (same signed is_new.0.0.0))
      by (Err monitor.OtherPromise) ((signed, it, may_not), stays) = absurd (may_not (subst (λ (p : SignedPromise). MayExpect watching given.promise.key p.promise) (same signed it.0.0) may))
      by (Err (monitor.Client client.Memory)) expects = tt
      by (Err (monitor.Client (client.Root why))) expects = absurd (never-read (client.Root why) expects.0)
      by (Err (monitor.Client client.UnknownRoot)) expects = absurd (never-read client.UnknownRoot expects.0)
      by (Err (monitor.Client (client.Proof why))) expects = absurd expects
      by (Err (monitor.Client (client.RootDiffers evidence))) expects = absurd expects
      by (Err (monitor.Client client.NoPromise)) expects = absurd expects

  -- the page behind a promise has its key, so that it is no double index
  not-double : (command : Operation) (given : SignedPromise) → IsSaid commands replies command (reply_of.Promised given) → (page : Page) (root : SignedRoot) → IsRootOf provider after page root
      → root.body.previous_epoch ≡ given.promise.epoch → ¬ IsDoubleIn provider page given.promise.name
  not-double command given said page root rooted behind double =
      let key_there : key_at page given.promise.name ≡ Some given.promise.key = (h.kept command given said).next page root rooted behind in
      let none : key_at page given.promise.name ≡ None = ap (option_map (λ (binding : Binding). binding.key)) double.0 in
      let clash : None ≡ Some given.promise.key = sym none ∙ key_there in
      absurd cc

  pub due : (holder : Client) (place : ℕ) (given : SignedPromise) (text : List ℕ) (root : SignedRoot) (result : Result Due Refusal)
      → IsFollowed provider key after holder.chain → IsSoundClient provider.hash accepted verified holder → IsTested holder.promises given.promise.name place given → WasPromised commands replies given
      → IsNextAfter holder.chain given.promise.epoch root → IsShown before commands replies given.promise.name root.body.epoch text
      → Tests provider.hash accepted holder.chain given.promise.name text given result
      → result ≡ Ok due_of.Kept
  unfolding HasRootOf Names
  due holder place given text root result f sound tested (command, said) next at tests = by result tests
    where
      found : IsSaid commands replies (Query (Lookup given.promise.name at.1)) (reply_of.Found text)
      found = said-at before.last.epoch commands replies at.0 (Query (Lookup given.promise.name at.1)) (reply_of.Found text) at.3

      behind : root.body.previous_epoch ≡ given.promise.epoch
      behind =
          let rooted = (all-at _ holder.promises place given sound.promises tested.at).rooted in
          (next-names provider.hash holder.chain.roots holder.chain.key rooted.0 root (is-chain holder.chain f).linked rooted.1.0
          (subst (λ (e : ℕ). IsNextAfter holder.chain e root) (sym rooted.1.1) next)).0 ∙ rooted.1.1

      never-refused : (page : Page) → IsOf page root given.promise.name text → (why : ProofRefusal) → MayRefuse provider page given.promise.name (client.Proof why) → ⊥
      never-refused page o proof.SameIndex may = not-double command given said page root o.rooted behind may
      never-refused page o proof.Malformed may = may
      never-refused page o proof.Trailing may = may
      never-refused page o proof.OtherRoot may = may
      never-refused page o proof.BadVuf may = may
      never-refused page o proof.OtherPrefix may = may
      never-refused page o proof.PathMismatch may = may

      shown-of : (page : Page) × IsOf page root given.promise.name text
      shown-of = shown given.promise.name text root (in-book holder.chain f root next.0) at

      by : (result : Result Due Refusal) → Tests provider.hash accepted holder.chain given.promise.name text given result → result ≡ Ok due_of.Kept
      by (Ok due_of.Kept) tests = refl
      by (Ok (due_of.Broken broken)) tests =
          let holds = due-holds provider.hash accepted verified holder given.promise.name text (is-chain holder.chain f) sound place given tested (due_of.Broken broken) tests in
          let is : broken ≡ record { promise = given; root = tests.0; proof = text } = tests.4.2 in
          absurd (h.unbroken command given given.promise.name at.1 text tests.0 said found
          (subst (λ (own : List ℕ). IsBrokenPromise provider.hash accepted verified own given tests.0 text) f.keyed
          (subst (λ (b : BrokenPromise). IsBrokenPromise provider.hash accepted verified holder.chain.key b.promise b.root b.proof) is holds.0)))
      by (Ok due_of.OtherIndex) (own, reply, is_next, accepts, differs) =
          elim (h.found at.0 given.promise.name at.1 text at.3) [
            | inl a ↦
                let same : a.index.0 ≡ reply = one_reply text a.index.0 reply a.index.1 accepts.0 in
                absurd (differs (ap (λ (r : Spelled). provider.hash r.value) (sym same) ∙ a.index.2 ∙ sym (h.kept command given said).index))
            | inr d ↦ absurd (never at.0 given.promise.name at.1 text d own.body given.promise.name (stated reply.end) (accepts-stated provider.hash accepted own.body given.promise.name text reply accepts))
          ]
      by (Err client.UnknownRoot) tests = absurd (tests root next)
      by (Err (client.Proof why)) (own, is_next, refused) =
          let one : own ≡ root = one-next holder.chain (chain-ascends holder.chain f) given.promise.epoch own root is_next next in
          absurd (never-refused shown-of.0 shown-of.1 why
          (shown-of.1.refuses why (subst (λ (r : SignedRoot). Refuses provider.hash accepted r.body given.promise.name text why) one refused)))
      by (Err (client.Root why)) tests = absurd tests
      by (Err (client.RootDiffers evidence)) tests = absurd tests
      by (Err client.Memory) tests = absurd tests
      by (Err client.NoPromise) tests = absurd tests

  -- ---- auditors and judges

  pub observed : (coming some : List SignedRoot) (answers : List Observed) (held left : Chains)
      → AreConsecutive (roots provider after) coming → 0 < length coming → chain_of held key ≡ None
      → ComeInOrder [] coming some → ObservesAll provider.hash verified held key some answers left
      → AreFollowed [] coming some answers
  observed coming some answers held left are many none come all =
      followed provider.hash verified key some [] coming answers held left (h.followed are.0 coming are.1 are.2 many).0 none come all

  pub judged : (shown : Evidence) → IsIssued provider after commands replies shown → ¬ IsEvidence provider.hash accepted verified key shown
  judged (evidence.Root (Fork one other)) issued is = h.linear one other issued.0 issued.1 (is.0, is.1, inl is.2)
  judged (evidence.Root (Link one other)) issued is = h.linear one other issued.0 issued.1 (is.0, is.1, inr (inl is.2))
  judged (evidence.Root (Skip one other)) issued is = h.linear one other issued.0 issued.1 (is.0, is.1, inr (inr is.2))
  judged (evidence.Broken broken) ((command, said), (name, epoch, found)) is = h.unbroken command broken.promise name epoch broken.proof broken.root said found is
  judged (evidence.Final broken) ((name, epoch, found), (later_name, later_epoch, later_found)) is = h.unchanged name later_name epoch later_epoch broken found later_found is

  -- ---- final bindings

  -- the looks for a name have it, and what is true of all looks
  of-name : (P : Look → Type 0) (name : List ℕ) (looks : List Look) → AllByRecursion P looks → AllByRecursion (λ look. P look × (bytes_eq look.name name ≡ true)) (looks_for name looks)
  of-name P name [] all = tt
  of-name P name (look ∷ looks) all = by (bytes_eq look.name name) refl (of-name P name looks all.1)
    where
      by : (t : Bool) → bytes_eq look.name name ≡ t → AllByRecursion (λ each. P each × (bytes_eq each.name name ≡ true)) (looks_for name looks)
          → AllByRecursion (λ each. P each × (bytes_eq each.name name ≡ true)) (cond t (look ∷ looks_for name looks) (looks_for name looks))
      by true test more = ((all.0, test), more)
      by false test more = more

  both-are : (P Q : Look → Type 0) (looks : List Look) → AllByRecursion P looks → AllByRecursion Q looks → AllByRecursion (λ look. P look × Q look) looks
  both-are P Q [] one other = tt
  both-are P Q (look ∷ looks) one other = ((one.0, other.0), both-are P Q looks one.1 other.1)

  -- what a look that was accepted states, for its name and under its root
  look-accepts : (chain : KeyedRoots) (look : Look) (is : IsAcceptedLook provider.hash accepted chain look) (name : List ℕ) → look.name ≡ name → (read : Spelled) → SpellsReply look.reply read
      → Accepts provider.hash accepted is.root.body name look.reply (stated read.end)
  look-accepts chain look is name named read spelled =
      subst (λ (r : Spelled). Accepts provider.hash accepted is.root.body name look.reply (stated r.end)) (one_reply look.reply is.reply read is.is.0 spelled)
      (subst (λ (n : List ℕ). Accepts provider.hash accepted is.root.body n look.reply (stated is.reply.end)) named
      (accepts-stated provider.hash accepted is.root.body look.name look.reply is.reply is.is))

  pub unchanged : (holder : Client) (name : List ℕ) → IsFollowed provider key after holder.chain → IsSoundClient provider.hash accepted verified holder
      → AllByRecursion (λ look. WasFound commands replies look.reply) (looks_for name holder.looks)
      → NoneStandSo (IsChangedBy provider.hash) (looks_for name holder.looks)
  unchanged holder name f sound found k l look later here there so =
      h.unchanged one.1.0 other.1.0 one.1.1 other.1.1 broken one.1.2 other.1.2
      (subst (λ (own : List ℕ). IsBrokenFinal provider.hash accepted verified own broken) f.keyed is-broken)
    where
      IsOwn : Look → Type 0
      IsOwn each = IsAcceptedLook provider.hash accepted holder.chain each × (bytes_eq each.name name ≡ true)

      IsFound : Look → Type 0
      IsFound each = IsOwn each × WasFound commands replies each.reply

      own : AllByRecursion IsFound (looks_for name holder.looks)
      own = both-are IsOwn (λ each. WasFound commands replies each.reply) (looks_for name holder.looks) (of-name (IsAcceptedLook provider.hash accepted holder.chain) name holder.looks sound.looks) found

      one : IsFound look
      one = all-at IsFound (looks_for name holder.looks) k look own here

      other : IsFound later
      other = all-at IsFound (looks_for name holder.looks) l later own there

      first : IsAcceptedLook provider.hash accepted holder.chain look
      first = one.0.0

      second : IsAcceptedLook provider.hash accepted holder.chain later
      second = other.0.0

      broken : BrokenFinal
      broken = record { name = name; root = first.root; proof = look.reply; later_root = second.root; later_proof = later.reply }

      is-broken : IsBrokenFinal provider.hash accepted verified holder.chain.key broken
      is-broken = record {
        signed = All-contains (Verifies verified holder.chain.key) holder.chain.roots first.root (is-chain holder.chain f).signed first.at.0;
        later_signed = All-contains (Verifies verified holder.chain.key) holder.chain.roots second.root (is-chain holder.chain f).signed second.at.0;
        later = (let e = first.at.1 in let e' = second.at.1 in let low = so.0 in omega (arith, e, e', low));
        changes = record {
          statement = stated so.2.one.end;
          passes = look-accepts holder.chain look first name ((bytes_eq-Decides look.name name).0 one.0.1) so.2.one so.2.spelled;
          final = so.2.final;
          later_statement = stated so.2.other.end;
          later_passes = look-accepts holder.chain later second name ((bytes_eq-Decides later.name name).0 other.0.1) so.2.other so.2.later_spelled;
          changed = so.2.changed;
          index = so.1.index;
          has_index = so.1.has_index;
          later_has_index = so.1.later_has_index;
        };
      }

  pub all-honest : CallsAreHonest provider accepted verified key before after commands replies
  all-honest = record {
    updated = updated provider accepted verified key before after commands replies h;
    looked = looked;
    promised = promised;
    due = due;
    expected = expected-change;
    stepped = stepped;
    unchanged = unchanged;
    observed = observed;
    judged = judged;
  }
