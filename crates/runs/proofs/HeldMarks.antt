-- The marks that a memory learns in a run are held: all that they say was watched is told.
use Rattle.std.proofs.Common.{◌≡◌, ◌∙◌, ◌⊎◌, ℕ, suc, ◌-◌, ◌<◌, ◌≤◌, List, [], ◌∷◌, length, All, Contains, Option, Some, ap, arith, get_or, inl, inr, refl, slice_get, subst, sym}
use Rattle.std.specs.Prelude.{AllPairs, nat_lt, if◌then◌else◌}
use Rattle.std.specs.List.{AllByRecursion}
use Rattle.std.proofs.lemmas.Bool.{cases_lt}
use Rattle.std.proofs.lemmas.List.Elements.{All-cons, All-contains, All-from_recursion, All-weaker, Contains-get_or}
use Rattle.encoding.specs.declared.bound_key.BoundKey.{BoundKey}
use Rattle.client.proofs.Unlikes.{at-place, is-among}
use Rattle.rootchain.proofs.Chains.{ascend-linked}
use Rattle.rootchain.proofs.Places.{ends}
use Rattle.rootchain.proofs.Walks.{up-to}
use Rattle.rootchain.specs.Chains.{Ascend, IsChain, IsHead, KeyedRoots}
use Rattle.rootchain.specs.Places.{IsFirst}
use Rattle.rootchain.specs.SignedRoots.{IsSignedRoot}
use Rattle.rootchain.specs.declared.body.Body.{Body}
use Rattle.rootchain.specs.declared.signed_promise.SignedPromise.{SignedPromise}
use Rattle.rootchain.specs.declared.signed_root.SignedRoot.{SignedRoot}
use Rattle.proofs.specs.Accepts.{stated}
use Rattle.proofs.specs.Comparisons.{IsAcceptedReply}
use Rattle.proofs.specs.Watches.{Watch, expected}
use Rattle.monitor.specs.Monitors.{Monitor}
use Rattle.monitor.specs.Stepping.{StepTells}
use Rattle.monitor.proofs.Expected.{expected-greatest}
use Rattle.memory.specs.Learning.{BeginsBehind, IsSince}
use Rattle.memory.specs.Memories.{Memory}
use Rattle.memory.specs.Taking.{PutsMark}
use Rattle.memory.specs.Watching.{IsWatchedUpTo}
use Rattle.memory.specs.declared.mark.Mark.{Mark}
use Rattle.runs.specs.Owning.{HasJoined, IsHeld, IsLeastAbove, IsOwn, IsOwnChange, IsOwners, WasWatched}
use Rattle.runs.specs.Saves.{Counts, IsAsFar, IsOwnAhead}
use Rattle.runs.specs.Told.{ExpectsAt, HasBody, HasLines, IsToldAt, TellsEpoch}
use Rattle.asking.specs.Watching.{step_told}
use Rattle.runs.proofs.OwnRoots.{covers-chain, not-between}
use Rattle.runs.proofs.PutMarks.{each-keeps, earlier-of, puts-from, EachPuts, IsBegun, IsMoved}
use Rattle.runs.proofs.Told.{told-key}

-- ---- roots

all-in : {A : Type 0} (P : A → Type 0) (xs : List A) (x : A) → AllByRecursion P xs → Contains xs x → P x
all-in P xs x all has = All-contains P xs x (All-from_recursion P xs all) has

-- no root is of an earlier epoch than the first, nor of a later one than the head
first-least : (roots : List SignedRoot) (first root : SignedRoot) → Ascend roots → slice_get roots 0 ≡ Some first → Contains roots root → first.body.epoch ≤ root.body.epoch
first-least roots first root up at has = up-to roots up 0 has.0 first root at (at-place roots root has) (omega arith)

head-last : (roots : List SignedRoot) (head root : SignedRoot) → Ascend roots → slice_get roots (length roots - 1) ≡ Some head → Contains roots root → root.body.epoch ≤ head.body.epoch
head-last roots head root up at has = up-to roots up has.0 (length roots - 1) root head (at-place roots root has) at (omega (arith, has.1))

-- of roots one of which is above an epoch, one is the least of those
abbrev pub LeastAbove : List SignedRoot → ℕ → Type 0
LeastAbove roots epoch = (next : SignedRoot) × Contains roots next × (epoch < next.body.epoch) × All (λ other. epoch < other.body.epoch → next.body.epoch ≤ other.body.epoch) roots

pub least-above : (roots : List SignedRoot) (epoch : ℕ) → All (λ (root : SignedRoot). root.body.epoch ≤ epoch) roots ⊎ LeastAbove roots epoch
least-above [] epoch = inl (λ k d within. absurd (omega (arith, within)))
least-above (root ∷ roots) epoch = elim (cases_lt epoch root.body.epoch) [
  | inr low ↦ elim (least-above roots epoch) [
    | inl none ↦ inl (All-cons (λ (r : SignedRoot). r.body.epoch ≤ epoch) root roots low none)
    | inr (next, has, above, least) ↦
        inr (next, (suc has.0, omega (arith, has.1), has.2), above, All-cons (λ (r : SignedRoot). epoch < r.body.epoch → next.body.epoch ≤ r.body.epoch) root roots (λ late. absurd (omega (arith, low, late))) least)
  ]
  | inl above ↦ elim (least-above roots epoch) [
    | inl none ↦ inr (
      root,
      (0, omega arith, refl),
      above,
      All-cons (λ (r : SignedRoot). epoch < r.body.epoch → root.body.epoch ≤ r.body.epoch) root roots (λ late. omega arith)
          (All-weaker (λ (r : SignedRoot). r.body.epoch ≤ epoch) (λ (r : SignedRoot). epoch < r.body.epoch → root.body.epoch ≤ r.body.epoch) (λ r low late. absurd (omega (arith, low, late))) roots none),
    )
    | inr (next, has, beyond, least) ↦ elim (cases_lt next.body.epoch root.body.epoch) [
      | inl less ↦
          inr (next, (suc has.0, omega (arith, has.1), has.2), beyond, All-cons (λ (r : SignedRoot). epoch < r.body.epoch → next.body.epoch ≤ r.body.epoch) root roots (λ late. omega (arith, less)) least)
      | inr more ↦ inr (
        root,
        (0, omega arith, refl),
        above,
        All-cons (λ (r : SignedRoot). epoch < r.body.epoch → root.body.epoch ≤ r.body.epoch) root roots (λ late. omega arith)
            (All-weaker (λ (r : SignedRoot). epoch < r.body.epoch → next.body.epoch ≤ r.body.epoch) (λ (r : SignedRoot). epoch < r.body.epoch → root.body.epoch ≤ r.body.epoch)
            (λ r low late. omega (arith, more, low late)) roots least),
      )
    ]
  ]
]

since-is : (mark : Mark) (since epoch : ℕ) → mark.since ≡ (if nat_lt mark.epoch since then mark.epoch else since) → mark.since < epoch → epoch ≤ mark.epoch → since < epoch
since-is mark since epoch is above below = elim (earlier-of mark.epoch since) [
  | inl early ↦ absurd (omega (arith, is, early.1, above, below))
  | inr late ↦ omega (arith, is, late.1, above)
]

-- ---- what an owner expects

module _ (Given : List ℕ → Option BoundKey → Type 0) (Own : SignedPromise → Type 0) (start : Memory) (name : List ℕ) (first : SignedRoot) (watch : Watch) (owners : IsOwners Given Own start name first watch) (epoch : ℕ) where
  -- a change that was promised before an epoch: what counts before that is no later
  counts-changed : (change : ℕ × BoundKey) → Contains watch.changes change → ((other : ℕ × BoundKey) → Contains watch.changes other → other.0 < epoch → other.0 ≤ change.0)
      → (other : SignedPromise) → Counts start other → other.promise.name ≡ name → other.promise.epoch < epoch → other.promise.epoch ≤ change.0
  counts-changed change has greatest other (was, awaited) named low = elim (cases_lt other.promise.epoch first.body.epoch) [
    | inl early ↦ let later = all-in (λ (c : ℕ × BoundKey). first.body.epoch ≤ c.0) watch.changes change owners.later has in omega (arith, early, later)
    | inr late ↦
        let (one, there, at) = owners.covers other (was, awaited) named late in
        omega (arith, at, greatest one there (omega (arith, at, low)))
  ]

  -- where no change was, what counts before the epoch is from before the first root
  counts-first : All (λ change. epoch ≤ change.0) watch.changes → (other : SignedPromise) → Counts start other → other.promise.name ≡ name → other.promise.epoch < epoch → other.promise.epoch < first.body.epoch
  counts-first none other (was, awaited) named low = elim (cases_lt other.promise.epoch first.body.epoch) [
    | inl early ↦ early
    | inr late ↦
        let (one, there, at) = owners.covers other (was, awaited) named late in
        absurd (omega (arith, low, at, All-contains (λ (c : ℕ × BoundKey). epoch ≤ c.0) watch.changes one none there))
  ]

  -- so the watch expects what the owner does, from the first root on
  owner-expects : AllPairs (λ earlier later. earlier.0 < later.0) watch.changes → first.body.epoch ≤ epoch → ExpectsAt Given (IsOwnAhead Own start) (Counts start) name epoch (expected watch epoch)
  owner-expects up low = elim (expected-greatest watch epoch up) [
    | inl (change, has, below, greatest, key) ↦
        let (signed, owns, named, made, keyed) = all-in (IsOwnChange Given Own start name) watch.changes change owners.changes has in
        inl (
          signed,
          owns,
          named,
          omega (arith, made, below),
          key ∙ ap Some (sym keyed),
          λ other counts same before. let least = counts-changed change has greatest other counts same before in omega (arith, least, made),
        )
    | inr (none, key) ↦ elim owners.begins [
      | inl (signed, owns, named, before, keyed, last) ↦
          inl (signed, owns, named, omega (arith, before, low), key ∙ keyed, λ other counts same early. last other counts same (counts-first none other counts same early))
      | inr (given, nothing) ↦ inr (
        subst (Given name) (sym key) given,
        λ other counts same. elim (cases_lt other.promise.epoch epoch) [
          | inl early ↦
              let before = counts-first none other counts same early in
              absurd (omega (arith, before, nothing other counts same))
          | inr late ↦ late
        ],
      )
    ]
  ]

module _ (hash : List ℕ → List ℕ) (accepted verified : List ℕ → List ℕ → List ℕ → Type 0) (Given : List ℕ → Option BoundKey → Type 0) (Own : SignedPromise → Type 0) (start : Memory) where
  told-same : (text name : List ℕ) (watch : Watch) (one other : SignedRoot) → one.body ≡ other.body → IsToldAt hash accepted text name watch one → IsToldAt hash accepted text name watch other
  told-same text name watch one other same (bytes, reply, step, is, tells, has) =
      let P = λ (body : Body). IsAcceptedReply hash accepted body name bytes reply × StepTells watch body.epoch (stated reply.end) step × HasLines text (step_told name body.epoch step).lines in
      let all = subst P same (is, tells, has) in
      (bytes, reply, step, all.0, all.1, all.2)

  module _ (text : List ℕ) (chain : KeyedRoots) (marks : List Mark) (is : IsChain hash verified chain) where
    up : Ascend chain.roots
    up = ascend-linked hash chain.roots is.linked

    -- ---- one monitor

    module _ (monitor : Monitor) (owns : IsOwn hash accepted verified Given Own start text chain marks monitor) where
      own-up : Ascend monitor.client.chain.roots
      own-up = ascend-linked hash monitor.client.chain.roots owns.told.chain.linked

      own-body : (root : SignedRoot) → Contains monitor.client.chain.roots root → HasBody chain root
      own-body root has = all-in (HasBody chain) monitor.client.chain.roots root owns.own has

      -- it begins no later than behind the epoch before its first root
      begins-behind : (epoch : ℕ) → BeginsBehind monitor epoch → (first : SignedRoot) → IsFirst monitor.client.chain first → IsLeastAbove chain epoch first
      begins-behind epoch (inl (root, next, before)) first at c has above =
          let least = not-between hash verified chain is root c (own-body root next.0) has (omega (arith, before, above)) in
          omega (arith, least, first-least monitor.client.chain.roots first root own-up at next.0)
      begins-behind epoch (inr (none, before)) first at c has above = elim (cases_lt 0 first.body.epoch) [
        | inl some ↦ absurd (none first (is-among monitor.client.chain.roots 0 first at, some, λ k d within late. first-least monitor.client.chain.roots first (get_or monitor.client.chain.roots k d) own-up at (Contains-get_or monitor.client.chain.roots k d within)))
        | inr none ↦ omega (arith, none)
      ]

      -- or behind that up to which it watched
      begins-watched : (epoch : ℕ) → IsWatchedUpTo monitor epoch → (first : SignedRoot) → IsFirst monitor.client.chain first → IsLeastAbove chain epoch first
      begins-watched epoch (inl (root, next, before)) first at c has above =
          let least = not-between hash verified chain is root c (own-body root next.0) has (omega (arith, before, above)) in
          omega (arith, least, first-least monitor.client.chain.roots first root own-up at next.0)
      begins-watched epoch (inr (none, (head, last, same))) first at c has above =
          let low = first-least monitor.client.chain.roots first head own-up at (is-among monitor.client.chain.roots (length monitor.client.chain.roots - 1) head last) in
          omega (arith, low, same, above)

      -- it watched as far as the roots go that are below its first
      watched-far : (below epoch : ℕ) → IsWatchedUpTo monitor epoch → ((first : SignedRoot) → IsFirst monitor.client.chain first → below < first.body.epoch)
          → (c : SignedRoot) → Contains chain.roots c → c.body.epoch ≤ below → c.body.epoch ≤ epoch
      watched-far below epoch (inl (root, next, before)) begins c has low = elim (cases_lt epoch c.body.epoch) [
        | inr up-to ↦ up-to
        | inl late ↦
            let both = ends monitor.client.chain.roots owns.told.chain.first in
            let least = not-between hash verified chain is root c (own-body root next.0) has (omega (arith, before, late)) in
            absurd (omega (arith, low, begins both.first both.at-first, first-least monitor.client.chain.roots both.first root own-up both.at-first next.0, least))
      ]
      watched-far below epoch (inr (none, (head, last, same))) begins c has low =
          let both = ends monitor.client.chain.roots owns.told.chain.first in
          let up-to = first-least monitor.client.chain.roots both.first head own-up both.at-first (is-among monitor.client.chain.roots (length monitor.client.chain.roots - 1) head last) in
          omega (arith, low, same, begins both.first both.at-first, up-to)

      module _ (formed : AllByRecursion IsSignedRoot chain.roots) where
        -- each root is above the one that it names
        own-later : (root : SignedRoot) → Contains monitor.client.chain.roots root → root.body.previous_epoch < root.body.epoch
        own-later root has =
            let (copy, there, same) = own-body root has in
            let later = (all-in IsSignedRoot chain.roots copy formed there).0.0.0 in
            subst (λ (b : Body). b.previous_epoch < b.epoch) same later

        -- what it watched is up to its head, and up to that of the client
        watched-low : (epoch : ℕ) (head : SignedRoot) → IsWatchedUpTo monitor epoch → IsHead monitor.client.chain head → epoch ≤ head.body.epoch
        watched-low epoch head (inl (root, next, before)) last =
            omega (arith, before, own-later root next.0, head-last monitor.client.chain.roots head root own-up last next.0)
        watched-low epoch head (inr (none, (other, also, same))) last =
            omega (arith, same, head-last monitor.client.chain.roots head other own-up last (is-among monitor.client.chain.roots (length monitor.client.chain.roots - 1) other also))

        own-low : (epoch : ℕ) (head : SignedRoot) → IsWatchedUpTo monitor epoch → IsHead chain head → epoch ≤ head.body.epoch
        own-low epoch head watched last =
            let both = ends monitor.client.chain.roots owns.told.chain.first in
            let (copy, there, same) = own-body both.head both.has-head in
            omega (arith, watched-low epoch both.head watched both.at-head, ap (λ (b : Body). b.epoch) same, head-last chain.roots head copy up last there)

        -- each root of its chain up to there was watched
        all-watched : (epoch : ℕ) (root : SignedRoot) → IsWatchedUpTo monitor epoch → Contains monitor.client.chain.roots root → root.body.epoch ≤ epoch → root.body.epoch ≤ monitor.watched
        all-watched epoch root (inl (next, is-next, before)) has low = elim (cases_lt monitor.watched root.body.epoch) [
          | inr watched ↦ watched
          | inl new ↦
              let least = All-contains (λ (r : SignedRoot). monitor.watched < r.body.epoch → next.body.epoch ≤ r.body.epoch) monitor.client.chain.roots root is-next.2 has new in
              absurd (omega (arith, least, before, low, own-later next is-next.0))
        ]
        all-watched epoch root (inr (none, (head, last, same))) has low = elim (least-above monitor.client.chain.roots monitor.watched) [
          | inl all ↦ All-contains (λ (r : SignedRoot). r.body.epoch ≤ monitor.watched) monitor.client.chain.roots root all has
          | inr (next, among, above, least) ↦ absurd (none next (among, above, least))
        ]

        -- so it is told of each root of the client's from its first one on up to there
        tells-between : (epoch : ℕ) (first c : SignedRoot) → IsWatchedUpTo monitor epoch → IsFirst monitor.client.chain first → Contains chain.roots c → 0 < c.body.epoch → first.body.epoch ≤ c.body.epoch → c.body.epoch ≤ epoch
            → TellsEpoch Given (IsOwnAhead Own start) (Counts start) hash accepted text monitor.name c
        tells-between epoch first c watched at has some low high =
            let both = ends monitor.client.chain.roots owns.told.chain.first in
            let up-to-head = watched-low epoch both.head watched both.at-head in
            let (own, there, same) = covers-chain hash verified chain is monitor.client.chain first both.head c owns.told.chain owns.own at both.at-head has low (omega (arith, high, up-to-head)) in
            let e : own.body.epoch ≡ c.body.epoch = ap (λ (b : Body). b.epoch) same in
            let was = all-watched epoch own watched there (omega (arith, e, high)) in
            let told = told-same text monitor.name monitor.watch own c same (owns.told.tells own (there, omega (arith, e, some), was)) in (
              expected monitor.watch c.body.epoch,
              owner-expects Given Own start monitor.name first monitor.watch (owns.expects first at) c.body.epoch owns.told.is.ascends low,
              told-key hash accepted text monitor.name monitor.watch c told,
            )

        tells-least : (epoch above : ℕ) (c : SignedRoot) → IsWatchedUpTo monitor epoch → ((first : SignedRoot) → IsFirst monitor.client.chain first → IsLeastAbove chain above first)
            → Contains chain.roots c → above < c.body.epoch → c.body.epoch ≤ epoch → TellsEpoch Given (IsOwnAhead Own start) (Counts start) hash accepted text monitor.name c
        tells-least epoch above c watched least has low high =
            let both = ends monitor.client.chain.roots owns.told.chain.first in
            tells-between epoch both.first c watched both.at-first has (omega (arith, low)) (least both.first both.at-first c has low) high

  -- ---- marks

  -- those that new monitors begin
  pub begun-held : (text text' : List ℕ) (chain : KeyedRoots) (marks : List Mark) (monitors : List Monitor) (begun : List Monitor) (before after : List Mark)
      → IsChain hash verified chain → AllByRecursion (IsOwn hash accepted verified Given Own start text' chain marks) monitors → AllByRecursion (Contains monitors) begun → EachPuts IsBegun begun before after
      → ((mark : Mark) → Contains before mark → IsHeld hash accepted verified Given Own start text marks chain monitors mark)
      → (mark : Mark) → Contains after mark → IsHeld hash accepted verified Given Own start text marks chain monitors mark
  begun-held text text' chain marks monitors begun before after is owns among puts =
      each-keeps IsBegun (Contains monitors) (λ known. (mark : Mark) → Contains known mark → IsHeld hash accepted verified Given Own start text marks chain monitors mark) keeps begun before after among puts
    where
      new-held : (monitor : Monitor) → Contains monitors monitor → (old : List Mark) (new : Mark) → IsBegun monitor old new → IsHeld hash accepted verified Given Own start text marks chain monitors new
      new-held monitor has old new begins = record {
        low = inl (omega (arith, begins.empty));
        told = λ root there above below. absurd (omega (arith, begins.empty, above, below));
        link = inr (monitor, has, sym begins.named, begins-behind text' chain marks is monitor (all-in (IsOwn hash accepted verified Given Own start text' chain marks) monitors monitor owns has) new.epoch begins.behind);
      }

      keeps : (monitor : Monitor) → Contains monitors monitor → (old now : List Mark) (new : Mark) → IsBegun monitor old new → PutsMark new old now
          → ((mark : Mark) → Contains old mark → IsHeld hash accepted verified Given Own start text marks chain monitors mark) → (mark : Mark) → Contains now mark → IsHeld hash accepted verified Given Own start text marks chain monitors mark
      keeps monitor has old now new begins puts held mark there = elim (puts-from new old now puts mark there) [
        | inl older ↦ held mark older
        | inr same ↦ subst (IsHeld hash accepted verified Given Own start text marks chain monitors) (sym same) (new-held monitor has old new begins)
      ]

  -- those that move to where monitors have watched
  module _ (text : List ℕ) (chain : KeyedRoots) (marks : List Mark) (monitors : List Monitor) (is : IsChain hash verified chain) (formed : AllByRecursion IsSignedRoot chain.roots)
      (owns : AllByRecursion (IsOwn hash accepted verified Given Own start text chain marks) monitors) where
    abbrev Held : Mark → Type 0
    Held = IsHeld hash accepted verified Given Own start text marks chain monitors

    own-of : (monitor : Monitor) → Contains monitors monitor → IsOwn hash accepted verified Given Own start text chain marks monitor
    own-of monitor has = all-in (IsOwn hash accepted verified Given Own start text chain marks) monitors monitor owns has

    -- a mark that moves does not go back over a root behind one of its name of an earlier run
    pub moved-far : (monitor : Monitor) (now : List Mark) (new : Mark) → IsMoved monitors monitor now new → (mark : Mark) → Contains marks mark → mark.name ≡ new.name → IsAsFar chain.roots mark new
    moved-far monitor now new moves mark has same root there low =
        let (place, one, within, at, (named, watched)) = moves.1.0 in
        let own = own-of one (place, within, at) in
        watched-far text chain marks is one own mark.epoch new.epoch watched (own.above mark has (same ∙ moves.0 ∙ sym named)) root there low

    abbrev TellsName : List ℕ → SignedRoot → Type 0
    TellsName name root = TellsEpoch Given (IsOwnAhead Own start) (Counts start) hash accepted text name root ⊎ WasWatched marks name root

    named : (one other : List ℕ) (root : SignedRoot) → one ≡ other → TellsName one root → TellsName other root
    named one other root same tells = subst (λ (name : List ℕ). TellsName name root) same tells

    module _ (monitor : Monitor) (among : Contains monitors monitor) (old : List Mark) (held : (mark : Mark) → Contains old mark → Held mark) (new : Mark) (moves : IsMoved monitors monitor old new) where
      -- a monitor of the name that has watched just so far
      least : (one : Monitor) × Contains monitors one × (one.name ≡ monitor.name) × IsWatchedUpTo one new.epoch
      least = let (place, one, within, at, (same, watched)) = moves.1.0 in (one, (place, within, at), same, watched)

      -- what the watching of one of its monitors tells
      tells-by : (one : Monitor) → Contains monitors one → one.name ≡ monitor.name → (above : ℕ) → ((first : SignedRoot) → IsFirst one.client.chain first → IsLeastAbove chain above first)
          → (root : SignedRoot) → Contains chain.roots root → above < root.body.epoch → root.body.epoch ≤ new.epoch → TellsName new.name root
      tells-by one has same above begins root there low high =
          let (own, watched, far) = All-contains (λ (m : Monitor). m.name ≡ monitor.name → (own : ℕ) × IsWatchedUpTo m own × (new.epoch ≤ own)) monitors one moves.1.1 has same in
          named one.name new.name root (same ∙ sym moves.0) (inl (tells-least text chain marks is one (own-of one has) formed own above root watched begins there low (omega (arith, high, far))))

      tells-above : (known : Mark) → Contains old known → known.name ≡ monitor.name → Contains marks known ⊎ HasJoined chain monitors known
          → (root : SignedRoot) → Contains chain.roots root → known.epoch < root.body.epoch → root.body.epoch ≤ new.epoch → TellsName new.name root
      tells-above known has same (inl was) root there low high =
          tells-by least.0 least.1 least.2 known.epoch ((own-of least.0 least.1).begins known was (same ∙ sym least.2)) root there low high
      tells-above known has same (inr (one, on, alike, begins)) root there low high = tells-by one on (alike ∙ same) known.epoch begins root there low high

      tells-since : (since : ℕ) → IsSince old monitor since → (root : SignedRoot) → Contains chain.roots root → since < root.body.epoch → root.body.epoch ≤ new.epoch → TellsName new.name root
      tells-since since (inl (known, has, same, from)) root there low high = elim (cases_lt known.epoch root.body.epoch) [
        | inl above ↦ tells-above known has same (held known has).link root there above high
        | inr below ↦ named known.name new.name root (same ∙ sym moves.0) ((held known has).told root there (omega (arith, from, low)) below)
      ]
      tells-since since (inr (none, begins)) root there low high =
          tells-by monitor among refl since (begins-behind text chain marks is monitor (own-of monitor among) since begins) root there low high

      moved-one : Held new
      moved-one = record {
        low =
            let both = ends chain.roots is.first in
            inr (both.head, both.at-head, own-low text chain marks is least.0 (own-of least.0 least.1) formed new.epoch both.head least.3 both.at-head);
        told = λ root there above below. tells-since moves.2.0 moves.2.1 root there (since-is new moves.2.0 root.body.epoch moves.2.2 above below) below;
        link = inr (least.0, least.1, least.2 ∙ sym moves.0, begins-watched text chain marks is least.0 (own-of least.0 least.1) new.epoch least.3);
      }

    keeps-held : (monitor : Monitor) → Contains monitors monitor → (old now : List Mark) (new : Mark) → IsMoved monitors monitor old new → PutsMark new old now
        → ((mark : Mark) → Contains old mark → Held mark) → (mark : Mark) → Contains now mark → Held mark
    keeps-held monitor among old now new moves puts held mark there = elim (puts-from new old now puts mark there) [
      | inl older ↦ held mark older
      | inr same ↦ subst (IsHeld hash accepted verified Given Own start text marks chain monitors) (sym same) (moved-one monitor among old held new moves)
    ]

    pub moved-held : (some : List Monitor) (before after : List Mark) → AllByRecursion (Contains monitors) some → EachPuts (IsMoved monitors) some before after
        → ((mark : Mark) → Contains before mark → IsHeld hash accepted verified Given Own start text marks chain monitors mark)
        → (mark : Mark) → Contains after mark → IsHeld hash accepted verified Given Own start text marks chain monitors mark
    moved-held some before after among puts =
        each-keeps (IsMoved monitors) (Contains monitors) (λ known. (mark : Mark) → Contains known mark → Held mark) keeps-held some before after among puts
