-- What a memory learns in a run: it takes items one after another, and those that change it are new.
use Rattle.std.specs.Prelude.{◌≡◌, ◌≢◌, ◌⊎◌, ℕ, nat_lt, if◌then◌else◌, Bool, List, [], ◌∷◌, ◌++◌, map, Some, None, All, Any, Contains, ⊤}
use Rattle.monitor.specs.Monitors.{Monitor}
use Rattle.rootchain.specs.Places.{IsNextAfter}
use Rattle.rootchain.specs.declared.signed_promise.SignedPromise.{SignedPromise}
use Rattle.rootchain.specs.declared.signed_root.SignedRoot.{SignedRoot}
use Rattle.memory.specs.Lines.{IsLineOf}
use Rattle.memory.specs.Lists.{IsLeft}
use Rattle.memory.specs.Memories.{signed_of, Memory}
use Rattle.memory.specs.Taking.{Takes}
use Rattle.memory.specs.Watching.{WatchedUpTo}
use Rattle.memory.specs.declared.final_seen.FinalSeen.{FinalSeen}
use Rattle.memory.specs.declared.item.Item.{Item}
use Rattle.memory.specs.declared.item.Item.TheVariants.{Promised, Watched, Final, Alarm, Evidence}
use Rattle.memory.specs.declared.kind.Kind.{Kind}
use Rattle.memory.specs.declared.kind.Kind.TheVariants.{Alarms, EvidenceLines}
use Rattle.memory.specs.declared.mark.Mark.{Mark}

-- the item is taken, and is new if it changes the memory
abbrev pub LearnsOne : Item → Memory → List Item → Memory → Type 0
LearnsOne item before news after = Takes item before after × (((after ≡ before) × (news ≡ [])) ⊎ ((after ≢ before) × (news ≡ item ∷ [])))

-- each of these does something to the memory, one after another, and this is new
abbrev pub Each : {X : Type 0} → (X → Memory → List Item → Memory → Type 0) → List X → Memory → List Item → Memory → Type 0
Each Does [] before news after = (news ≡ []) × (after ≡ before)
Each Does (x ∷ more) before news after =
    (first : List Item) × (middle : Memory) × (rest : List Item) × Does x before first middle × Each Does more middle rest after × (news ≡ first ++ rest)

-- the first of them do
abbrev pub EachOfSome : {X : Type 0} → (X → Memory → List Item → Memory → Type 0) → List X → Memory → Memory → Type 0
EachOfSome {X} Does xs before after = (done : List X) × (left : List X) × (news : List Item) × (xs ≡ done ++ left) × Each Does done before news after

-- a promise, for a change of the owner's own or of others
abbrev pub promised_item : Bool → SignedPromise → Item
promised_item own signed = Promised (record { signed = signed; is_own = own })

-- a promise that is remembered, for a change of the owner's own or not
abbrev pub Remembers : Memory → SignedPromise → Type 0
Remembers memory signed = Any (λ promised. promised.signed ≡ signed) memory.promises

-- of promises that are kept in order, those behind the last that is remembered
abbrev pub IsFresh : Memory → List SignedPromise → List SignedPromise → Type 0
IsFresh memory kept fresh = All (λ signed. ¬ Remembers memory signed) fresh
    × ((kept ≡ fresh) ⊎ ((front : List SignedPromise) × (last : SignedPromise) × (kept ≡ front ++ last ∷ fresh) × Remembers memory last))

-- of the promises that are remembered, those that are no longer kept
abbrev pub AreGone : Memory → List SignedPromise → List SignedPromise → Type 0
AreGone memory kept gone = IsLeft (λ (signed : SignedPromise). ¬ Contains kept signed) (map signed_of memory.promises) gone

-- an item of this kind
abbrev pub IsOfKind : Kind → Item → Type 0
IsOfKind Alarms (Alarm alarm) = ⊤
IsOfKind EvidenceLines (Evidence line) = ⊤
IsOfKind _ _ = ⊥

-- the line is of an item of this kind, which is taken; or it is not, and nothing is
abbrev pub LearnsLine : Kind → List ℕ → Memory → List Item → Memory → Type 0
LearnsLine kind line before news after =
    ((item : Item) × IsLineOf line item × IsOfKind kind item × LearnsOne item before news after)
    ⊎ (((item : Item) → IsLineOf line item → ¬ IsOfKind kind item) × (news ≡ []) × (after ≡ before))

-- the watching of a name that this monitor watches begins behind this epoch: the one before the first root of its chain
abbrev pub BeginsBehind : Monitor → ℕ → Type 0
BeginsBehind monitor epoch =
    ((root : SignedRoot) × IsNextAfter monitor.client.chain 0 root × (epoch ≡ root.body.previous_epoch))
    ⊎ (((root : SignedRoot) → ¬ IsNextAfter monitor.client.chain 0 root) × (epoch ≡ 0))

-- behind which epoch the name was watched: that of its mark, if there is one
abbrev pub IsSince : List Mark → Monitor → ℕ → Type 0
IsSince marks monitor since =
    ((mark : Mark) × Contains marks mark × (mark.name ≡ monitor.name) × (since ≡ mark.since))
    ⊎ (All (λ (mark : Mark). mark.name ≢ monitor.name) marks × BeginsBehind monitor since)

-- where the mark of a monitor's name goes: to the last epoch up to which each of these monitors of the name has watched
abbrev pub IsMarkFor : List Monitor → List Mark → Monitor → Mark → Type 0
IsMarkFor monitors marks monitor mark = (mark.name ≡ monitor.name) × WatchedUpTo monitors monitor.name (Some mark.epoch)
    × ((since : ℕ) × IsSince marks monitor since × (mark.since ≡ (if nat_lt mark.epoch since then mark.epoch else since)))

-- a reply is learned that stated a key with Final, if none is remembered for its name
abbrev pub LearnsFinal : FinalSeen → Memory → List Item → Memory → Type 0
LearnsFinal seen = LearnsOne (Final seen)

-- the mark of the name of one of them goes there, and no other
abbrev pub MarksOne : List Monitor → Monitor → Memory → List Item → Memory → Type 0
MarksOne monitors monitor before news after =
    ((mark : Mark) × IsMarkFor monitors before.marks monitor mark × LearnsOne (Watched mark) before news after)
    ⊎ (WatchedUpTo monitors monitor.name None × (news ≡ []) × (after ≡ before))

-- a name that has no mark gets one where the watching that this monitor begins has watched nothing yet
abbrev pub BeginsOne : Monitor → Memory → List Item → Memory → Type 0
BeginsOne monitor before news after =
    (All (λ (mark : Mark). mark.name ≢ monitor.name) before.marks
    × ((epoch : ℕ) × BeginsBehind monitor epoch × LearnsOne (Watched (record { name = monitor.name; since = epoch; epoch = epoch })) before news after))
    ⊎ (((mark : Mark) × Contains before.marks mark × (mark.name ≡ monitor.name)) × (news ≡ []) × (after ≡ before))
