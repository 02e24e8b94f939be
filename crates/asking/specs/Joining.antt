-- How a monitor of a name is added, and begins to watch.
use Rattle.std.specs.Prelude.{◌≡◌, ◌≢◌, ◌⊎◌, ℕ, zero, suc, ◌<◌, List, [], ◌∷◌, ◌++◌, length, Any, if◌then◌else◌, Option, Some, None, Result, Ok, Err, codes, decimal}
use Rattle.std.specs.List.{list_any}
use Rattle.std.specs.Str.{bytes_eq}
use Rattle.encoding.specs.declared.bound_key.BoundKey.{BoundKey}
use Rattle.hex.specs.Hex.{encode_lower}
use Rattle.rootchain.specs.Chains.{IsHead, KeyedRoots}
use Rattle.rootchain.specs.Places.{IsNextAfter}
use Rattle.rootchain.specs.Promises.{signed_promise_bytes}
use Rattle.rootchain.specs.RootLists.{root_list_bytes}
use Rattle.rootchain.specs.SignedRoots.{signed_root_bytes}
use Rattle.rootchain.specs.declared.signed_promise.SignedPromise.{SignedPromise}
use Rattle.rootchain.specs.declared.signed_root.SignedRoot.{SignedRoot}
use Rattle.client.specs.Clients.{Client}
use Rattle.client.specs.Starting.{Starts}
use Rattle.client.specs.Updating.{Updates}
use Rattle.client.specs.declared.client_refusal.Refusal.{Refusal}
use Rattle.client.specs.declared.client_refusal.Refusal.TheVariants.{Memory}
use Rattle.memory.specs.Memories.{Memory as Remembered}
use Rattle.memory.specs.Watching.{IsAwaited}
use Rattle.monitor.specs.Monitors.{Monitor, new_monitor}
use Rattle.monitor.specs.declared.monitor_refusal.Refusal.{Refusal as MonitorRefusal}
use Rattle.wire.specs.Frames.{Frame}
use Rattle.wire.specs.Requests.{RequestContent}
use Rattle.memory.specs.declared.mark.Mark.{Mark}
use Rattle.asking.specs.Asking.{HandsTo}
use Rattle.asking.specs.Refused.{client_refuses}
use Rattle.asking.specs.Scenes.{Scene}
use Rattle.asking.specs.Recalled.{TellsAlarms}
use Rattle.asking.specs.Reports.{Report, fine, told_after}
use Rattle.asking.specs.Visiting.{TestsNamed, TestsSomeNamed}
use Rattle.asking.specs.Watching.{StepsSome, StepsThrough}
use Rattle.asking.specs.declared.joining.ToWatch.{ToWatch}
use Rattle.asking.specs.declared.joining.ToWatch.TheVariants.{FromRoot, Nothing}

-- the chain's first root after an epoch, if it has one
abbrev pub IsFirstAfter : KeyedRoots → ℕ → Option SignedRoot → Type 0
IsFirstAfter chain epoch None = (root : SignedRoot) → ¬ IsNextAfter chain epoch root
IsFirstAfter chain epoch (Some root) = IsNextAfter chain epoch root

-- the first root that is to be watched for a name: the one after its first mark, or the head where it has none
abbrev pub IsUnwatched : KeyedRoots → List ℕ → List Mark → Option SignedRoot → Type 0
IsUnwatched chain name [] first = (root : SignedRoot) × IsHead chain root × (first ≡ Some root)
IsUnwatched chain name (mark ∷ more) first =
    ((mark.name ≡ name) × IsFirstAfter chain mark.epoch first) ⊎ ((mark.name ≢ name) × IsUnwatched chain name more first)

-- the first mark of the name says that it was watched up to this epoch
abbrev pub IsMarkedUpTo : List ℕ → ℕ → List Mark → Type 0
IsMarkedUpTo name epoch [] = ⊥
IsMarkedUpTo name epoch (mark ∷ more) = ((mark.name ≡ name) × (mark.epoch ≡ epoch)) ⊎ ((mark.name ≢ name) × IsMarkedUpTo name epoch more)

-- where the watching of a name goes on: at that root, or nowhere, with the epoch up to which it was watched
abbrev pub IsLeftToWatch : KeyedRoots → List ℕ → List Mark → ToWatch → Type 0
IsLeftToWatch chain name marks (FromRoot first) = IsUnwatched chain name marks (Some first)
IsLeftToWatch chain name marks (Nothing epoch) = IsUnwatched chain name marks None × IsMarkedUpTo name epoch marks

-- what is told of a name of which all was watched, up to this epoch
abbrev pub watched_told : List ℕ → ℕ → Report
watched_told name epoch = fine (codes "watched " ++ encode_lower name ++ codes " " ++ decimal epoch)

-- the promise is one for the name, from before an epoch, which a mark awaits, and later than the last one that was
abbrev pub IsLaterPromise : List Mark → List ℕ → ℕ → Option SignedPromise → SignedPromise → Type 0
IsLaterPromise marks name epoch None signed = (signed.promise.name ≡ name) × (signed.promise.epoch < epoch) × Any (IsAwaited signed) marks
IsLaterPromise marks name epoch (Some last) signed =
    (signed.promise.name ≡ name) × (signed.promise.epoch < epoch) × Any (IsAwaited signed) marks × (last.promise.epoch < signed.promise.epoch)

-- the last of these, or else the one before them
abbrev pub IsLatest : List Mark → List ℕ → ℕ → Option SignedPromise → List SignedPromise → Option SignedPromise → Type 0
IsLatest marks name epoch last [] found = found ≡ last
IsLatest marks name epoch last (signed ∷ more) found =
    (IsLaterPromise marks name epoch last signed × IsLatest marks name epoch (Some signed) more found)
    ⊎ ((¬ IsLaterPromise marks name epoch last signed) × IsLatest marks name epoch last more found)

-- The promises for its own changes that a monitor of a name is given: those of earlier runs and, if the name has a
-- mark, those that were noted in this run behind them.
abbrev pub noted_for : List Mark → List ℕ → List SignedPromise → List SignedPromise
noted_for marks name noted = if list_any (λ (mark : Mark). bytes_eq mark.name name) marks then noted else []

abbrev pub own_for : List Mark → List ℕ → List SignedPromise → List SignedPromise → List SignedPromise
own_for marks name earlier noted = earlier ++ noted_for marks name noted

-- what is expected at first: the key of that promise, or else the one that was given
abbrev pub first_expected : Option SignedPromise → Option BoundKey → Option BoundKey
first_expected (Some signed) given = Some signed.promise.key
first_expected None given = given

module _ (hash : List ℕ → List ℕ) (verified : List ℕ → List ℕ → List ℕ → Type 0) (chain : KeyedRoots) where
  -- a client takes the chain's first root after an epoch, if there is one
  abbrev pub RetracesOne : ℕ → Client → Option ℕ → Client → Type 0
  RetracesOne epoch before None after = IsFirstAfter chain epoch None × (after ≡ before)
  RetracesOne epoch before (Some next) after = (root : SignedRoot) × IsNextAfter chain epoch root × (next ≡ root.body.epoch)
      × Updates hash verified before (root_list_bytes (root ∷ [])) {A = Unit {0}} (Ok tt) after

  -- it refuses that root
  abbrev pub RefusesOne : ℕ → Client → Refusal → Type 0
  RefusesOne epoch before why = (root : SignedRoot) × IsNextAfter chain epoch root × Updates hash verified before (root_list_bytes (root ∷ [])) {A = Unit {0}} (Err why) before

  -- so many roots are taken one after another, and then there are no more, or the next is refused
  abbrev pub Retraces : ℕ → ℕ → Client → Result Client Refusal → Type 0
  Retraces zero epoch before (Ok after) = RetracesOne epoch before None after
  Retraces zero epoch before (Err why) = RefusesOne epoch before why
  Retraces (suc count) epoch before result = (next : ℕ) × (middle : Client) × RetracesOne epoch before (Some next) middle × Retraces count next middle result

  -- a client of its own is started with a root of the chain, and takes those after it
  abbrev pub StartsFrom : List ℕ → SignedRoot → Result Client Refusal → Type 0
  StartsFrom key first (Ok own) = (start : Client) × Starts verified key (signed_root_bytes first) (Ok start) × ((count : ℕ) × Retraces count first.body.epoch start (Ok own))
  StartsFrom key first (Err why) = Starts verified key (signed_root_bytes first) (Err why)
      ⊎ ((start : Client) × Starts verified key (signed_root_bytes first) (Ok start) × ((count : ℕ) × Retraces count first.body.epoch start (Err why)))

module _ (hash : List ℕ → List ℕ) (accepted verified : List ℕ → List ℕ → List ℕ → Type 0) where
  -- a monitor is given each of these promises that is one for its name
  abbrev pub AllHand : List SignedPromise → Monitor → Monitor → Type 0
  AllHand [] before after = after ≡ before
  AllHand (signed ∷ more) before after = (why : Option MonitorRefusal) × (middle : Monitor) × HandsTo hash accepted verified signed (signed_promise_bytes signed) before why middle × AllHand more middle after

  -- A monitor that watches a name from a root of the chain on. It expects what was promised: at first the last before
  -- that root that a mark awaits, or else the given key, and those there as changes.
  pub record IsJoined (marks : List Mark) (key : List ℕ) (promised : List SignedPromise) (chain : KeyedRoots) (first : SignedRoot) (name : List ℕ) (given : Option BoundKey) (monitor : Monitor) : Type 0 where
    pub own : Client
    pub starts : StartsFrom hash verified chain key first (Ok own)
    pub last : Option SignedPromise
    pub latest : IsLatest marks name first.body.epoch None promised last
    pub hands : AllHand promised (new_monitor own name (first_expected last given)) monitor

  module _ {T : Type 0} (exchanged : T → RequestContent → Frame → T → Type 0) (marks : List Mark) (key : List ℕ) (promised : List SignedPromise) (name : List ℕ) (given : Option BoundKey) where
    -- such a monitor is added, behind the others, and watches each epoch of its chain; or a root is told as refused
    abbrev pub BeginsAt : SignedRoot → Scene T → Scene T → Type 0
    BeginsAt first before after =
        ((monitor : Monitor) × IsJoined marks key promised before.client.chain first name given monitor
        × ((count : ℕ) × StepsThrough hash accepted exchanged count (record before { monitors = before.monitors ++ monitor ∷ [] }) (length before.monitors) after))
        ⊎ ((why : Refusal) × (why ≢ Memory) × StartsFrom hash verified before.client.chain key first (Err why)
        × (after ≡ record before { told = told_after before.told (client_refuses (codes "client refuses root") why) }))

    -- a name is watched from the first root on that is to be watched, and then its promises are tested that are
    -- due; where there is no such root, nothing is asked, and it is told up to which epoch the name was watched
    abbrev pub WatchesNew : Scene T → Scene T → Type 0
    WatchesNew before after =
        (IsUnwatched before.client.chain name marks None × ((epoch : ℕ) × IsMarkedUpTo name epoch marks × (after ≡ record before { told = told_after before.told (watched_told name epoch) })))
        ⊎ ((first : SignedRoot) × IsUnwatched before.client.chain name marks (Some first)
        × ((middle : Scene T) × BeginsAt first before middle × TestsNamed hash accepted exchanged marks name middle after))

    -- nothing is told of such a monitor yet; or it is added, and watches some epochs
    abbrev pub BeginsSomeAt : SignedRoot → Scene T → Scene T → Type 0
    BeginsSomeAt first before after = (after ≡ before)
        ⊎ ((monitor : Monitor) × IsJoined marks key promised before.client.chain first name given monitor
        × StepsSome hash accepted exchanged (record before { monitors = before.monitors ++ monitor ∷ [] }) (length before.monitors) after)

    -- nothing is told of a name yet; or it is watched from such a root on, up to some point; or it is watched, and then some
    -- of its promises are tested
    abbrev pub WatchesSome : Scene T → Scene T → Type 0
    WatchesSome before after = (after ≡ before)
        ⊎ ((first : SignedRoot) × IsUnwatched before.client.chain name marks (Some first)
        × (BeginsSomeAt first before after ⊎ ((middle : Scene T) × BeginsAt first before middle × TestsSomeNamed hash accepted exchanged marks name middle after)))

  module _ {T : Type 0} (exchanged : T → RequestContent → Frame → T → Type 0) (known : Remembered) (marks : List Mark) (key : List ℕ) (promised : List SignedPromise) (name : List ℕ) (given : Option BoundKey) where
    -- the alarms that earlier runs told of a name are told again, and then it is watched
    abbrev pub BeginsWatch : Scene T → Scene T → Type 0
    BeginsWatch before after = (again : Report) × TellsAlarms name known again
        × WatchesNew exchanged marks key promised name given (record before { told = told_after before.told again }) after

    -- they are not told yet; or they are, and the name is watched up to some point
    abbrev pub BeginsSome : Scene T → Scene T → Type 0
    BeginsSome before after = (after ≡ before)
        ⊎ ((again : Report) × TellsAlarms name known again
        × WatchesSome exchanged marks key promised name given (record before { told = told_after before.told again }) after)
