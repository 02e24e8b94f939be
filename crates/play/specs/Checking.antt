-- How a script tells what a client or a monitor makes of the reply to a look-up.
use Rattle.std.specs.Prelude.{◌≡◌, ℕ, List, ◌++◌, if◌then◌else◌, Result, Ok, Err, codes, decimal, ⊤}
use Rattle.encoding.specs.Limits.{IsName}
use Rattle.rootchain.specs.Chains.{IsChain}
use Rattle.rootchain.specs.declared.signed_root.SignedRoot.{SignedRoot}
use Rattle.proofs.specs.Refusals.{reply_refusal_number}
use Rattle.proofs.specs.Views.{key_stated}
use Rattle.proofs.specs.declared.statement.Statement.{Statement}
use Rattle.book.specs.Steps.{Found}
use Rattle.book.specs.Books.{Book, Page}
use Rattle.encoding.specs.Maps.{at}
use Rattle.book.specs.Shows.{Provider, index_of, IsReplyOf, IsRootOf}
use Rattle.book.specs.Sound.{IsSound}
use Rattle.client.specs.Clients.{Client}
use Rattle.client.specs.Looking.{IsLookRoot, Looks}
use Rattle.client.specs.declared.client_refusal.Refusal.{Refusal}
use Rattle.client.specs.declared.client_refusal.Refusal.TheVariants.{Root, Proof, UnknownRoot, RootDiffers, Memory, NoPromise}
use Rattle.monitor.specs.Monitors.{Monitor, IsNext}
use Rattle.monitor.specs.Stepping.{Steps}
use Rattle.monitor.specs.declared.monitor_refusal.Refusal as monitors
use Rattle.monitor.specs.declared.monitor_refusal.Refusal.TheVariants as monitor
use Rattle.monitor.specs.declared.step.Step.{Step}
use Rattle.monitor.specs.declared.step.Step.TheVariants.{Kept, Alarm}
use Rattle.play.specs.Lines.{checked_text, is_double, refused_proof, statement_text}
use Rattle.play.specs.Watchers.{Watcher, alarm_key, place_text, watched_text}

-- the line of a refusal of a look or a step; want of memory has none, and no other refusal comes
abbrev pub TellsRefusal : Refusal → List ℕ → Type 0
TellsRefusal (Proof why) line = line ≡ codes "client refuses proof " ++ decimal (reply_refusal_number why)
TellsRefusal Memory line = ⊤
TellsRefusal (Root why) line = ⊥
TellsRefusal UnknownRoot line = ⊥
TellsRefusal (RootDiffers evidence) line = ⊥
TellsRefusal NoPromise line = ⊥

-- the line of a look at a page of this epoch
abbrev pub TellsLook : ℕ → Result Statement Refusal → List ℕ → Type 0
TellsLook epoch (Ok statement) line = line ≡ statement_text epoch (key_stated statement)
TellsLook epoch (Err why) line = TellsRefusal why line

-- the line of a step of a monitor of this name, at a page
abbrev pub TellsStep : List ℕ → Page → Result Step monitors.Refusal → List ℕ → Type 0
TellsStep name page (Ok Kept) line = line ≡ codes "kept " ++ place_text name page
TellsStep name page (Ok (Alarm epoch found)) line = (epoch ≡ page.epoch) × (line ≡ codes "alarm " ++ place_text name page ++ codes " " ++ alarm_key (key_stated found))
TellsStep name page (Err (monitor.Client why)) line = TellsRefusal why line
TellsStep name page (Err monitor.OtherPromise) line = ⊥

-- the line of a monitor at a page
abbrev pub watcher_text : (List ℕ → List ℕ) → Watcher → Page → List ℕ
watcher_text index_of watcher page = if is_double index_of page watcher.name then refused_proof else watched_text watcher page

-- ---- what an honest provider's users make of its replies

-- the reply of a sound book to the look-up of a name in a page
pub record IsShownIn (provider : Provider) (book : Book) (page : Page) (root : SignedRoot) (name text : List ℕ) : Type 0 where
  pub sound : IsSound (index_of provider) book
  pub rooted : IsRootOf provider book page root
  pub named : IsName name
  pub shown : IsReplyOf provider page root.body name (at page.bindings name) text

module _ (provider : Provider) (accepted verified : List ℕ → List ℕ → List ℕ → Type 0) where
  -- what a client that has the root makes of it is the line of its answer
  abbrev pub LooksAreTold : Type 0
  LooksAreTold = (book : Book) (page : Page) (root : SignedRoot) (name text : List ℕ) → IsShownIn provider book page root name text
      → (holder later : Client) (asked : ℕ) (result : Result Statement Refusal) → IsChain provider.hash verified holder.chain → IsLookRoot holder.chain asked root
      → Looks provider.hash accepted holder name asked text result later
      → TellsLook page.epoch result (checked_text (index_of provider) book (Found page name (at page.bindings name)))

  -- and what a monitor makes of it, of which this is the next root, is the line of the monitor
  abbrev pub StepsAreTold : Type 0
  StepsAreTold = (book : Book) (page : Page) (root : SignedRoot) (text : List ℕ) (watcher : Watcher) → IsShownIn provider book page root watcher.name text
      → (watching later : Monitor) (result : Result Step monitors.Refusal) → watching.name ≡ watcher.name → watching.watch ≡ watcher.watch
      → IsChain provider.hash verified watching.client.chain → IsNext watching root
      → Steps provider.hash accepted watching text result later
      → TellsStep watcher.name page result (watcher_text (index_of provider) watcher page)
