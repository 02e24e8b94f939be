-- What the users of an honest provider get from their own calls, in a run (CONIKS, sections 3 and 4): clients and
-- monitors whose chains are of its roots, auditors, and judges.
use Rattle.std.specs.Prelude.{◌≡◌, ◌↔◌, ℕ, ◌==◌, ◌<◌, ◌≤◌, if◌then◌else◌, List, [], ◌++◌, length, None, Result, Ok, Err, Contains, ⊤}
use Rattle.std.specs.List.{AllByRecursion}
use Rattle.rootchain.specs.Chains.{IsAt, KeyedRoots}
use Rattle.rootchain.specs.Evidence.{BothAre}
use Rattle.rootchain.specs.Places.{IsNextAfter}
use Rattle.rootchain.specs.Promises.{signed_promise_bytes}
use Rattle.rootchain.specs.RootLists.{root_list_bytes}
use Rattle.rootchain.specs.TakingLists.{with_roots}
use Rattle.rootchain.specs.declared.signed_promise.SignedPromise.{SignedPromise}
use Rattle.rootchain.specs.declared.signed_root.SignedRoot.{SignedRoot}
use Rattle.rootchain.specs.declared.root_list.TheConstants.{MAX_ROOTS}
use Rattle.proofs.specs.Views.{key_stated}
use Rattle.proofs.specs.Watches as watch
use Rattle.proofs.specs.declared.reply_refusal.Refusal.TheVariants as proof
use Rattle.proofs.specs.declared.statement.Statement.{Statement}
use Rattle.commands.specs.Operations.{Operation, Query, Lookup}
use Rattle.book.specs.declared.reply.Reply.{Reply}
use Rattle.book.specs.declared.reply.Reply.TheVariants as reply
use Rattle.book.specs.Books.{Binding, Book, Page}
use Rattle.book.specs.Honest.{key_at, AreConsecutive, IsSaid, IsSaidAt}
use Rattle.encoding.specs.Maps.{at}
use Rattle.book.specs.Shows.{Provider, index_of, roots, IsRootOf}
use Rattle.auditor.specs.Chains.{Chains, chain_of}
use Rattle.auditor.specs.Evidence.{IsEvidence}
use Rattle.auditor.specs.InOrder.{AreFollowed, ComeInOrder, ObservesAll}
use Rattle.auditor.specs.declared.auditor.Observed.{Observed}
use Rattle.auditor.specs.declared.evidence.Evidence.{Evidence}
use Rattle.auditor.specs.declared.evidence.Evidence.TheVariants as evidence
use Rattle.client.specs.Clients.{Client, IsSoundClient, with_promise}
use Rattle.client.specs.Dues.{IsTested, Tests}
use Rattle.client.specs.Finality.{looks_for, IsChangedBy, NoneStandSo}
use Rattle.client.specs.Looking.{IsLookRoot, Looks}
use Rattle.client.specs.Promising.{KeepsPromise}
use Rattle.client.specs.Updating.{Updates}
use Rattle.client.specs.declared.due.Due.{Due}
use Rattle.client.specs.declared.due.Due.TheVariants as due
use Rattle.client.specs.declared.client_refusal.Refusal.{Refusal}
use Rattle.client.specs.declared.client_refusal.Refusal.TheVariants as client
use Rattle.monitor.specs.Expecting.{Expects, MayExpect}
use Rattle.monitor.specs.Monitors.{Monitor, with_change, IsNext}
use Rattle.monitor.specs.Stepping.{Steps}
use Rattle.monitor.specs.declared.monitor_refusal.Refusal as monitors
use Rattle.monitor.specs.declared.monitor_refusal.Refusal.TheVariants as monitor
use Rattle.monitor.specs.declared.step.Step.{Step}
use Rattle.monitor.specs.declared.step.Step.TheVariants as step

-- the page lacks the name, and another of its names has the name's index
abbrev pub IsDoubleIn : Provider → Page → List ℕ → Type 0
IsDoubleIn provider page name = (at page.bindings name ≡ None)
    × ((other : List ℕ × Binding) × Contains page.bindings other × (index_of provider other.0 ≡ index_of provider name))

-- Why a client may refuse the reply to a look-up of a name: memory ran out, or no reply shows that the page
-- lacks the name.
abbrev pub MayRefuse : Provider → Page → List ℕ → Refusal → Type 0
MayRefuse provider page name client.Memory = ⊤
MayRefuse provider page name (client.Proof proof.SameIndex) = IsDoubleIn provider page name
MayRefuse provider page name why = ⊥

-- what a look answers: what the page has
abbrev pub LooksRight : Provider → Page → List ℕ → Result Statement Refusal → Type 0
LooksRight provider page name (Ok statement) = key_stated statement ≡ key_at page name
LooksRight provider page name (Err why) = MayRefuse provider page name why

-- what a step of a monitor answers: that all is well exactly where the page has what the owner expects
abbrev pub StepsRight : Provider → Page → Monitor → Result Step monitors.Refusal → Type 0
StepsRight provider page monitor_before (Ok told) = (told ≡ step.Kept) ↔ (key_at page monitor_before.name ≡ watch.expected monitor_before.watch page.epoch)
StepsRight provider page monitor_before (Err (monitor.Client why)) = MayRefuse provider page monitor_before.name why
StepsRight provider page monitor_before (Err monitor.OtherPromise) = ⊥

-- what comes of a promise that a client is to keep: it does, unless memory ran out
abbrev pub KeepsRight : Client → SignedPromise → Result (Unit {0}) Refusal → Client → Type 0
KeepsRight before promised (Ok _) after = after ≡ with_promise before promised
KeepsRight before promised (Err client.Memory) after = ⊤
KeepsRight before promised (Err why) after = ⊥

-- what comes of a list of roots that follow those of a client: it takes all, unless memory ran out
abbrev pub UpdatesRight : Client → List SignedRoot → Result (Unit {0}) Refusal → Client → Type 0
UpdatesRight before next (Ok done) after = after ≡ record before { chain = with_roots before.chain next }
UpdatesRight before next (Err client.Memory) after = ⊤
UpdatesRight before next (Err why) after = ⊥

-- what comes of a change that a monitor is to expect: it does, unless memory ran out
abbrev pub ExpectsRight : Monitor → SignedPromise → Result (Unit {0}) monitors.Refusal → Monitor → Type 0
ExpectsRight before promised (Ok done) after = after ≡ with_change before promised
ExpectsRight before promised (Err (monitor.Client client.Memory)) after = ⊤
ExpectsRight before promised (Err why) after = ⊥

-- a chain of the provider, of roots of the book that stand one behind another
pub record IsFollowed (provider : Provider) (key : List ℕ) (after : Book) (chain : KeyedRoots) : Type 0 where
  pub keyed : chain.key ≡ key
  pub some : 0 < length chain.roots
  pub are : AreConsecutive (roots provider after) chain.roots

-- the look-up of a name was answered with this text, where it asked for the page of this epoch
abbrev pub IsShown : Book → List Operation → List Reply → List ℕ → ℕ → List ℕ → Type 0
IsShown before commands replies name of_page text = (latest : ℕ) × (epoch : ℕ) × (of_page ≡ (if epoch == 0 then latest else epoch))
    × IsSaidAt before.last.epoch commands replies latest (Query (Lookup name epoch)) (reply.Found text)

-- a command was answered with this promise
abbrev pub WasPromised : List Operation → List Reply → SignedPromise → Type 0
WasPromised commands replies promised = (command : Operation) × IsSaid commands replies command (reply.Promised promised)

-- a look-up was answered with this text
abbrev pub WasFound : List Operation → List Reply → List ℕ → Type 0
WasFound commands replies text = (name : List ℕ) × (epoch : ℕ) × IsSaid commands replies (Query (Lookup name epoch)) (reply.Found text)

-- two roots that were issued; or a promise and the reply to a look-up that were, with whatever root; or two such
-- replies, with whatever roots
abbrev pub IsIssued : Provider → Book → List Operation → List Reply → Evidence → Type 0
IsIssued provider after commands replies (evidence.Root both) = BothAre (Contains (roots provider after)) both
IsIssued provider after commands replies (evidence.Broken broken) = WasPromised commands replies broken.promise × WasFound commands replies broken.proof
IsIssued provider after commands replies (evidence.Final broken) = WasFound commands replies broken.proof × WasFound commands replies broken.later_proof

module _ (provider : Provider) (accepted verified : List ℕ → List ℕ → List ℕ → Type 0) (key : List ℕ) (before after : Book) (commands : List Operation) (replies : List Reply) where
  pub record CallsAreHonest : Type 0 where
    -- a client takes a list of the roots that follow its own
    pub updated : (holder later : Client) (next : List SignedRoot) (result : Result (Unit {0}) Refusal) → IsFollowed provider key after holder.chain
        → AreConsecutive (roots provider after) (holder.chain.roots ++ next) → length next ≤ MAX_ROOTS
        → Updates provider.hash verified holder (root_list_bytes next) result later
        → UpdatesRight holder next result later
    -- if it has the root of a page, it accepts the reply to a look-up there, with what the page has
    pub looked : (holder later : Client) (name : List ℕ) (text : List ℕ) (asked : ℕ) (root : SignedRoot) (result : Result Statement Refusal)
        → IsFollowed provider key after holder.chain → IsLookRoot holder.chain asked root → IsShown before commands replies name root.body.epoch text
        → Looks provider.hash accepted holder name asked text result later
        → (page : Page) × IsRootOf provider after page root × LooksRight provider page name result
    -- it keeps each promise over a root that it has
    pub promised : (holder later : Client) (given : SignedPromise) (root : SignedRoot) (result : Result (Unit {0}) Refusal)
        → IsFollowed provider key after holder.chain → IsAt holder.chain given.promise.epoch root → WasPromised commands replies given
        → KeepsPromise provider.hash verified holder (signed_promise_bytes given) result later
        → KeepsRight holder given result later
    -- and finds it kept, by the reply to the look-up of its name under the next root
    pub due : (holder : Client) (place : ℕ) (given : SignedPromise) (text : List ℕ) (root : SignedRoot) (result : Result Due Refusal)
        → IsFollowed provider key after holder.chain → IsSoundClient provider.hash accepted verified holder → IsTested holder.promises given.promise.name place given → WasPromised commands replies given
        → IsNextAfter holder.chain given.promise.epoch root → IsShown before commands replies given.promise.name root.body.epoch text
        → Tests provider.hash accepted holder.chain given.promise.name text given result
        → result ≡ Ok due.Kept
    -- a monitor of its name expects its key, unless it expects that of a later promise or has watched an epoch
    -- above the promise's
    pub expected : (watching later : Monitor) (given : SignedPromise) (root : SignedRoot) (result : Result (Unit {0}) monitors.Refusal)
        → IsFollowed provider key after watching.client.chain → IsAt watching.client.chain given.promise.epoch root → WasPromised commands replies given
        → MayExpect watching given.promise.key given.promise
        → Expects provider.hash verified watching given.promise.key (signed_promise_bytes given) result later
        → ExpectsRight watching given result later
    -- a step of a monitor says that all is well exactly where the page has what the owner expects
    pub stepped : (watching later : Monitor) (text : List ℕ) (root : SignedRoot) (result : Result Step monitors.Refusal)
        → IsFollowed provider key after watching.client.chain → IsNext watching root → IsShown before commands replies watching.name root.body.epoch text
        → Steps provider.hash accepted watching text result later
        → (page : Page) × IsRootOf provider after page root × StepsRight provider page watching result
    -- if its looks for a name are such replies, no final binding is changed among them
    pub unchanged : (holder : Client) (name : List ℕ) → IsFollowed provider key after holder.chain → IsSoundClient provider.hash accepted verified holder
        → AllByRecursion (λ look. WasFound commands replies look.reply) (looks_for name holder.looks)
        → NoneStandSo (IsChangedBy provider.hash) (looks_for name holder.looks)
    -- an auditor that observes the roots from whichever on, each next one or one that came before, begins a
    -- chain, extends it, and knows those that came before
    pub observed : (coming some : List SignedRoot) (answers : List Observed) (held left : Chains)
        → AreConsecutive (roots provider after) coming → 0 < length coming → chain_of held key ≡ None
        → ComeInOrder [] coming some → ObservesAll provider.hash verified held key some answers left
        → AreFollowed [] coming some answers
    -- nothing that was issued is evidence
    pub judged : (shown : Evidence) → IsIssued provider after commands replies shown → ¬ IsEvidence provider.hash accepted verified key shown
