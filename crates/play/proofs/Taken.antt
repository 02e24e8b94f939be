-- What all have once they took the roots of a list.
use Rattle.std.proofs.Common.{◌≡◌, ◌↔◌, ℕ, zero, suc, ◌+◌, ◌-◌, ◌<◌, ◌≤◌, List, [], ◌∷◌, ◌++◌, length, length-append, take, drop, get_or, Option, Some, Result, Ok, Err, Contains, refl, sym, ap, subst, ◌∙◌, inl, inr, arith, append_assoc, append-nil, take-append-drop}
use Rattle.std.specs.List.{AllByRecursion, AllZip}
use Rattle.std.specs.Prelude.{IsOk}
use Rattle.std.proofs.lemmas.List.{get_or-append_right, get_or_append_left, get_or_default}
use Rattle.std.proofs.lemmas.List.Elements.{Contains-append_cases, Contains-append_left, Contains-append_right}
use Rattle.encoding.proofs.Fields.{one_spelling}
use Rattle.rootchain.specs.Chains.{Ascend, KeyedRoots, Verifies}
use Rattle.rootchain.specs.RootLists.{SpellsRoots}
use Rattle.rootchain.specs.Readable.{signed_root_field}
use Rattle.rootchain.specs.SignedRoots.{read_signed_root, signed_root_bytes, IsSignedRoot}
use Rattle.rootchain.specs.Taking.{with_root}
use Rattle.rootchain.specs.declared.root_refusal.Refusal.{Refusal as RootRefusal}
use Rattle.rootchain.specs.TakingLists.{Takes}
use Rattle.rootchain.specs.declared.signed_root.SignedRoot.{SignedRoot}
use Rattle.rootchain.proofs.Chains.{ascend-linked}
use Rattle.commands.specs.Operations.{Operation}
use Rattle.book.specs.declared.reply.Reply.{Reply}
use Rattle.book.specs.Books.{Book}
use Rattle.book.specs.Honest.{AreConsecutive, IsHonestRun}
use Rattle.book.specs.Shows.{Provider, roots}
use Rattle.auditor.specs.Chains.{Chains, chain_of}
use Rattle.auditor.specs.InOrder.{ObservesAll}
use Rattle.auditor.specs.Observing.{HoldsAfter, IsObserved, Observes, ObservesRoot}
use Rattle.auditor.specs.declared.auditor.Observed.{Observed}
use Rattle.auditor.specs.declared.auditor.Observed.TheVariants.{Extended}
use Rattle.auditor.proofs.Following.{extends}
use Rattle.client.specs.Clients.{Client}
use Rattle.client.specs.Updating.{Updates}
use Rattle.client.specs.declared.client_refusal.Refusal.{Refusal}
use Rattle.client.specs.declared.client_refusal.Refusal.TheVariants as client
use Rattle.monitor.specs.Monitors.{Monitor}
use Rattle.play.specs.Calls.{IsFollowed, UpdatesRight}
use Rattle.play.specs.Parties.{chain_under, IsWatcher}
use Rattle.play.specs.Taking.{AuditorTakes, ClientTakes, MonitorTakes}
use Rattle.play.specs.Wanting.{MayTake}
use Rattle.play.specs.Watchers.{Watcher}
use Rattle.play.proofs.Following.{one-list, some-more, takes-all, updated}

-- ---- a client that updates

module _ (hash : List ℕ → List ℕ) (verified : List ℕ → List ℕ → List ℕ → Type 0) where
  pub client-takes : (before after : Client) (bytes : List ℕ) (shown : List SignedRoot) → SpellsRoots bytes shown → (result : Result (Unit {0}) Refusal) → IsOk result
      → Updates hash verified before bytes result after → ClientTakes hash verified shown before after
  client-takes before after bytes shown spelled (Ok done) ok (own, chain, spells, takes, is) =
      (chain, subst (λ (rs : List SignedRoot). Takes hash verified before.chain rs chain) (one-list bytes own shown spells spelled) takes, is)
  client-takes before after bytes shown spelled (Err why) ok updates = absurd cc

  -- ---- an auditor that observes one root after another

  -- what comes of the roots that are left leads to what comes of all
  pub record IsObserving (key : List ℕ) (start : Chains) (all : List SignedRoot) (now : Chains) (left : List SignedRoot) : Type 0 where
    pub spelled : AllByRecursion IsSignedRoot left
    pub ends : (answers : List Observed) (later : Chains) → ObservesAll hash verified now key left answers later → AuditorTakes hash verified all key start later

  pub observing-begin : (key : List ℕ) (start : Chains) (all : List SignedRoot) → AllByRecursion IsSignedRoot all → IsObserving key start all start all
  observing-begin key start all spelled = record { spelled = spelled; ends = λ answers later observes. (answers, observes) }

  pub observing-step : (key : List ℕ) (start : Chains) (all : List SignedRoot) (now next : Chains) (left rest : List SignedRoot) (root : SignedRoot) (bytes : List ℕ) (result : Result Observed RootRefusal)
      → left ≡ root ∷ rest → bytes ≡ signed_root_bytes root → IsOk result → Observes hash verified now key bytes result next → IsObserving key start all now left → IsObserving key start all next rest
  observing-step key start all now next left rest root bytes (Err why) same is ok observes o = absurd cc
  observing-step key start all now next left rest root bytes (Ok told) same is ok (inr (none, refused, stays)) o = absurd cc
  observing-step key start all now next left rest root bytes (Ok told) same is ok (inl (own, spells, observed)) o =
      let are : AllByRecursion IsSignedRoot (root ∷ rest) = subst (AllByRecursion IsSignedRoot) same o.spelled in
      let one : own ≡ root = (one_spelling read_signed_root signed_root_bytes IsSignedRoot signed_root_field own root [] [] spells.1 are.0 (ap (λ (t : List ℕ). t ++ []) (sym spells.0 ∙ is))).0 in
      let observed' : ObservesRoot hash verified now key root (Ok told) next = subst (λ (r : SignedRoot). ObservesRoot hash verified now key r (Ok told) next) one observed in
      record {
        spelled = are.1;
        ends = λ answers later observes. o.ends (told ∷ answers) later (subst (λ (rs : List SignedRoot). ObservesAll hash verified now key rs (told ∷ answers) later) (sym same) (next, observed', observes));
      }

  pub observing-end : (key : List ℕ) (start : Chains) (all : List SignedRoot) (now : Chains) (left : List SignedRoot) → length left ≡ 0 → IsObserving key start all now left → AuditorTakes hash verified all key start now
  observing-end key start all now [] none o = o.ends [] now (refl, refl)
  observing-end key start all now (root ∷ rest) none o = absurd (omega (arith, none))

-- ---- lists

drop-front : (n : ℕ) (xs ys : List SignedRoot) → 0 < length (drop n xs) → drop n (xs ++ ys) ≡ drop n xs ++ ys
drop-front zero xs ys some = refl
drop-front (suc n) [] ys some = absurd (omega (arith, some))
drop-front (suc n) (x ∷ xs) ys some = drop-front n xs ys some

-- a root of the first list is below each root of the second
pub below-all : (xs ys : List SignedRoot) → Ascend (xs ++ ys) → (one other : SignedRoot) → Contains xs one → Contains ys other → one.body.epoch < other.body.epoch
below-all xs ys up one other (i, low, is) (j, high, also) =
    let first : get_or (xs ++ ys) i one ≡ one = get_or_append_left xs ys one i low ∙ is in
    let back : length xs + j - length xs ≡ j = omega arith in
    let second : get_or (xs ++ ys) (length xs + j) one ≡ other =
    get_or-append_right xs ys (length xs) (length xs + j) one refl (omega arith) ∙ ap (λ (k : ℕ). get_or ys k one) back ∙ get_or_default ys j one other high ∙ also in
    let less = up i (length xs + j) one (omega (arith, low)) (omega (arith, high, length-append xs ys)) in
    subst (λ (r : SignedRoot). one.body.epoch < r.body.epoch) second (subst (λ (r : SignedRoot). r.body.epoch < (get_or (xs ++ ys) (length xs + j) one).body.epoch) first less)

-- ---- all took roots of a book, and take the next ones

module _ (provider : Provider) (accepted verified : List ℕ → List ℕ → List ℕ → Type 0) (key : List ℕ) (before after : Book) (commands : List Operation) (replies : List Reply)
    (h : IsHonestRun provider accepted verified key before after commands replies) where
  one-chain : (one other : KeyedRoots) → Some one ≡ Some other → one ≡ other
  one-chain one other same = cc

  -- an auditor extends its chain by the next root
  observes-next : (held between : Chains) (some : List SignedRoot) (root : SignedRoot) (rest : List SignedRoot) (told : Observed) → 0 < length some → roots provider after ≡ some ++ root ∷ rest
      → chain_of held key ≡ Some (chain_under key some) → ObservesRoot provider.hash verified held key root (Ok told) between → chain_of between key ≡ Some (chain_under key (some ++ root ∷ []))
  observes-next held between some root rest told any all was observed =
      let f = h.followed [] some (root ∷ rest) all any in
      let next = f.1 root rest refl in
      let answer = subst (λ (chain : Option KeyedRoots). IsObserved provider.hash chain root told) was observed.1 in
      let extended : told ≡ Extended = (extends provider.hash verified (chain_under key some) f.0 next.0 root next.1 next.3 told).0 answer in
      let (chain, found, has) : HoldsAfter held key root Extended between = subst (λ (o : Observed). HoldsAfter held key root o between) extended observed.2 in
      let same : chain ≡ chain_under key some = one-chain chain (chain_under key some) (sym found ∙ was) in
      has.own ∙ ap (λ (c : KeyedRoots). Some (with_root c root)) same

  pub observes-all : (next : List SignedRoot) (held later : Chains) (answers : List Observed) (some rest : List SignedRoot) → 0 < length some → roots provider after ≡ some ++ (next ++ rest)
      → chain_of held key ≡ Some (chain_under key some) → ObservesAll provider.hash verified held key next answers later → chain_of later key ≡ Some (chain_under key (some ++ next))
  observes-all [] held later answers some rest any all was observed =
      ap (λ (chains : Chains). chain_of chains key) observed.1 ∙ was ∙ ap (λ (rs : List SignedRoot). Some (chain_under key rs)) (sym (append-nil some))
  observes-all (root ∷ more) held later [] some rest any all was observed = absurd observed
  observes-all (root ∷ more) held later (told ∷ answers) some rest any all was (between, observed, others) =
      let now = observes-next held between some root (more ++ rest) told any all was observed in
      let parted : roots provider after ≡ (some ++ root ∷ []) ++ (more ++ rest) = all ∙ sym (append_assoc some (root ∷ []) (more ++ rest)) in
      observes-all more between later answers (some ++ root ∷ []) rest (some-more some (root ∷ []) any) parted now others
      ∙ ap (λ (rs : List SignedRoot). Some (chain_under key rs)) (append_assoc some (root ∷ []) more)

  -- a chain of the last of them takes the next ones
  pub chain-takes : (next front some rest : List SignedRoot) (chain later : KeyedRoots) → 0 < length some → roots provider after ≡ front ++ (some ++ (next ++ rest)) → chain ≡ chain_under key some
      → Takes provider.hash verified chain next later → later ≡ chain_under key (some ++ next)
  chain-takes next front some rest chain later any all is takes =
      takes-all provider accepted verified key before after commands replies h next (chain_under key some) later
      (record { keyed = refl; some = any; are = (front, next ++ rest, all) })
      (front, rest, all ∙ ap (λ (rs : List SignedRoot). front ++ rs) (sym (append_assoc some next rest)))
      (subst (λ (c : KeyedRoots). Takes provider.hash verified c next later) is takes)

  -- the next ones are signed
  pub all-signed : (next some rest : List SignedRoot) → 0 < length some → roots provider after ≡ some ++ (next ++ rest) → AllByRecursion (Verifies verified key) next
  all-signed [] some rest any all = tt
  all-signed (root ∷ more) some rest any all =
      let n = (h.followed [] some (root ∷ more ++ rest) all any).1 root (more ++ rest) refl in
      (n.2, all-signed more (some ++ root ∷ []) rest (some-more some (root ∷ []) any) (all ∙ sym (append_assoc some (root ∷ []) (more ++ rest))))

  only-memory : (holder later : Client) (next : List SignedRoot) (why : Refusal) → UpdatesRight holder next (Err why) later → why ≡ client.Memory
  only-memory holder later next client.Memory right = refl
  only-memory holder later next (client.Root why) right = absurd right
  only-memory holder later next (client.Proof why) right = absurd right
  only-memory holder later next client.UnknownRoot right = absurd right
  only-memory holder later next (client.RootDiffers evidence) right = absurd right
  only-memory holder later next client.NoPromise right = absurd right

  -- and are not refused, but for want of memory
  pub may-take : (next front some rest : List SignedRoot) (chain : KeyedRoots) → 0 < length some → roots provider after ≡ front ++ (some ++ (next ++ rest)) → chain ≡ chain_under key some
      → (bytes : List ℕ) → SpellsRoots bytes next → MayTake provider.hash verified bytes chain
  may-take next front some rest chain any all is bytes spelled holder later result why same refused updates =
      let chain_is : chain_under key some ≡ holder.chain = sym (same ∙ is) in
      let f : IsFollowed provider key after holder.chain = subst (IsFollowed provider key after) chain_is (record { keyed = refl; some = any; are = (front, next ++ rest, all) }) in
      let are : AreConsecutive (roots provider after) (holder.chain.roots ++ next) = subst (λ (c : KeyedRoots). AreConsecutive (roots provider after) (c.roots ++ next)) chain_is
      (front, rest, all ∙ ap (λ (rs : List SignedRoot). front ++ rs) (sym (append_assoc some next rest))) in
      let right = updated provider accepted verified key before after commands replies h holder later next result f are spelled.1.0
      (subst (λ (text : List ℕ). Updates provider.hash verified holder text result later) spelled.0 updates) in
      only-memory holder later next why (subst (λ (r : Result (Unit {0}) Refusal). UpdatesRight holder next r later) refused right)

  module _ (taken next rest : List SignedRoot) (any : 0 < length taken) (all : roots provider after ≡ taken ++ (next ++ rest)) where
    up : Ascend (taken ++ next)
    up = ascend-linked provider.hash (taken ++ next) (h.followed [] (taken ++ next) rest (all ∙ sym (append_assoc taken next rest)) (some-more taken next any)).0.linked

    -- a monitor is its watcher still
    pub watcher-takes : (now : Book) (watching later : Monitor) (watcher : Watcher) → MonitorTakes provider.hash verified next watching later → IsWatcher key taken now watching watcher
        → IsWatcher key (taken ++ next) now later watcher
    watcher-takes now watching later watcher ((chain, takes, client), others) w = record {
      name = ap (λ (m : Monitor). m.name) others ∙ w.name;
      watch = ap (λ (m : Monitor). m.watch) others ∙ w.watch;
      skipped = w.skipped;
      chain = ap (λ (c : Client). c.chain) client ∙ grown ∙ ap (chain_under key) (sym longer);
      some = subst (λ (rs : List SignedRoot). 0 < length rs) (sym longer) (some-more (drop w.skipped taken) next w.some);
      behind = λ root there. subst (λ (rs : List SignedRoot). (watcher.behind < root.body.epoch) ↔ (Contains rs root × (later.watched < root.body.epoch))) (sym longer)
          (subst (λ (n : ℕ). (watcher.behind < root.body.epoch) ↔ (Contains (drop w.skipped taken ++ next) root × (n < root.body.epoch))) (sym watched)
          (elim (Contains-append_cases taken next root there) [
            | inl early ↦ of-taken root early
            | inr late ↦ (λ less. (Contains-append_right (drop w.skipped taken) next root late, (above root late).1), λ has. (above root late).0)
          ]));
      promised = w.promised;
      until = (w.until.0, Contains-append_left taken next w.until.0 w.until.1, w.until.2, subst (λ (n : ℕ). n ≤ w.until.0.body.epoch) (sym watched) w.until.3);
    }
      where
        watched : later.watched ≡ watching.watched
        watched = ap (λ (m : Monitor). m.watched) others

        longer : drop w.skipped (taken ++ next) ≡ drop w.skipped taken ++ next
        longer = drop-front w.skipped taken next w.some

        parts : taken ≡ take w.skipped taken ++ drop w.skipped taken
        parts = sym (take-append-drop w.skipped taken)

        grown : chain ≡ chain_under key (drop w.skipped taken ++ next)
        grown = chain-takes next (take w.skipped taken) (drop w.skipped taken) rest watching.client.chain chain w.some
            (all ∙ ap (λ (rs : List SignedRoot). rs ++ (next ++ rest)) parts ∙ append_assoc (take w.skipped taken) (drop w.skipped taken) (next ++ rest)) w.chain takes

        above : (root : SignedRoot) → Contains next root → (watcher.behind < root.body.epoch) × (watching.watched < root.body.epoch)
        above root late =
            let less = below-all taken next up w.until.0 root w.until.1 late in
            (omega (arith, less, w.until.2), omega (arith, less, w.until.3))

        of-taken : (root : SignedRoot) → Contains taken root → (watcher.behind < root.body.epoch) ↔ (Contains (drop w.skipped taken ++ next) root × (watching.watched < root.body.epoch))
        of-taken root early =
            let was = w.behind root early in (
              λ less. let has = was.0 less in (Contains-append_left (drop w.skipped taken) next root has.0, has.1),
              λ has. elim (Contains-append_cases (drop w.skipped taken) next root has.0) [
                | inl own ↦ was.1 (own, has.1)
                | inr late ↦ (above root late).0
              ],
            )

    pub watchers-take : (now : Book) (monitors later : List Monitor) (watchers : List Watcher) → AllZip (MonitorTakes provider.hash verified next) monitors later
        → AllZip (IsWatcher key taken now) monitors watchers → AllZip (IsWatcher key (taken ++ next) now) later watchers
    watchers-take now [] [] watchers take are = are
    watchers-take now [] (l ∷ ls) watchers take are = absurd take
    watchers-take now (m ∷ ms) [] watchers take are = absurd take
    watchers-take now (m ∷ ms) (l ∷ ls) [] take are = absurd are
    watchers-take now (m ∷ ms) (l ∷ ls) (w ∷ ws) take are = (watcher-takes now m l w take.0 are.0, watchers-take now ms ls ws take.1 are.1)

    pub monitors-may : (now : Book) (bytes : List ℕ) → SpellsRoots bytes next → (monitors : List Monitor) (watchers : List Watcher) → AllZip (IsWatcher key taken now) monitors watchers
        → AllByRecursion (λ (m : Monitor). MayTake provider.hash verified bytes m.client.chain) monitors
    monitors-may now bytes spelled [] watchers are = tt
    monitors-may now bytes spelled (m ∷ ms) [] are = absurd are
    monitors-may now bytes spelled (m ∷ ms) (w ∷ ws) are = (may-take next (take n taken) (drop n taken) rest m.client.chain are.0.some behind are.0.chain bytes spelled, monitors-may now bytes spelled ms ws are.1)
      where
        n : ℕ
        n = are.0.skipped

        behind : roots provider after ≡ take n taken ++ (drop n taken ++ (next ++ rest))
        behind = all ∙ ap (λ (rs : List SignedRoot). rs ++ (next ++ rest)) (sym (take-append-drop n taken)) ∙ append_assoc (take n taken) (drop n taken) (next ++ rest)
