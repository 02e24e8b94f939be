-- A monitor that joins expects a change of the epoch of each promise of earlier runs for its name that is of its chain.
use Rattle.std.proofs.Common.{◌≡◌, ◌∙◌, ◌⊎◌, ◌<◌, ◌≤◌, ℕ, zero, suc, List, [], ◌∷◌, ◌++◌, All, Any, Contains, get_or, Option, None, Some, ap, append-nil, append_assoc, arith, inl, inr, refl, subst, sym}
use Rattle.std.specs.List.{AllByRecursion}
use Rattle.std.specs.List.Sorted.{IsNonDecreasingBy}
use Rattle.std.proofs.lemmas.Bool.{cases_lt}
use Rattle.std.proofs.lemmas.List.Elements.{All-cons, All-contains, All-nil, Contains-append_cases, Contains-append_left, Contains-get_or, Contains-push}
use Rattle.encoding.specs.declared.bound_key.BoundKey.{BoundKey}
use Rattle.rootchain.specs.Chains.{KeyedRoots}
use Rattle.rootchain.specs.Promises.{signed_promise_bytes, IsSignedPromise, PromiseVerifies, SpellsPromise}
use Rattle.rootchain.specs.declared.signed_promise.SignedPromise.{SignedPromise}
use Rattle.client.specs.Clients.{HasRootOf}
use Rattle.client.specs.declared.client_refusal.Refusal.TheVariants as client
use Rattle.client.specs.declared.client_refusal.RootRefusal.TheVariants as root
use Rattle.memory.specs.Watching.{IsAwaited}
use Rattle.memory.specs.declared.mark.Mark.{Mark}
use Rattle.monitor.specs.Expecting.{MayExpect}
use Rattle.monitor.specs.Monitors.{Monitor}
use Rattle.monitor.specs.declared.monitor_refusal.Refusal.{Refusal}
use Rattle.monitor.specs.declared.monitor_refusal.Refusal.TheVariants.{Client, OtherPromise}
use Rattle.play.proofs.Calling.{one-promise}
use Rattle.asking.specs.Asking.{HandsTo}
use Rattle.asking.specs.Joining.{AllHand, IsLaterPromise, IsLatest}
use Rattle.runs.specs.Owning.{HasChange}
use Rattle.runs.proofs.OwnedRoots.{all-has, has-cases}
use Rattle.runs.proofs.ToldScenes.{all-push, stays-change}

-- ---- the promise that is expected at first

-- it is there, and of no earlier epoch than this
abbrev pub IsFrom : ℕ → Option SignedPromise → Type 0
IsFrom epoch found = (signed : SignedPromise) × (found ≡ Some signed) × (epoch ≤ signed.promise.epoch)

module _ (marks : List Mark) (name : List ℕ) (epoch : ℕ) where
  latest-up : (last : SignedPromise) (promises : List SignedPromise) (found : Option SignedPromise) → IsLatest marks name epoch (Some last) promises found → IsFrom last.promise.epoch found
  latest-up last [] found same = (last, same, omega arith)
  latest-up last (signed ∷ more) found (inl ((named, low, awaits, later), latest)) =
      let (one, is, from) = latest-up signed more found latest in
      (one, is, omega (arith, later, from))
  latest-up last (signed ∷ more) found (inr (not, latest)) = latest-up last more found latest

  -- one that is not later than the last
  latest-passed : (last : Option SignedPromise) (signed : SignedPromise) (more : List SignedPromise) (found : Option SignedPromise) → ¬ IsLaterPromise marks name epoch last signed → IsLatest marks name epoch last more found
      → signed.promise.name ≡ name → signed.promise.epoch < epoch → Any (IsAwaited signed) marks → IsFrom signed.promise.epoch found
  latest-passed None signed more found not latest named low awaits = absurd (not (named, low, awaits))
  latest-passed (Some last) signed more found not latest named low awaits = elim (cases_lt last.promise.epoch signed.promise.epoch) [
    | inl later ↦ absurd (not (named, low, awaits, later))
    | inr early ↦ let (one, is, from) = latest-up last more found latest in (one, is, omega (arith, early, from))
  ]

  pub latest-from : (last : Option SignedPromise) (promises : List SignedPromise) (found : Option SignedPromise) → IsLatest marks name epoch last promises found → (other : SignedPromise) → Contains promises other
      → other.promise.name ≡ name → other.promise.epoch < epoch → Any (IsAwaited other) marks → IsFrom other.promise.epoch found
  latest-from last [] found latest other has named low awaits = absurd (omega (arith, has.1))
  latest-from last (signed ∷ more) found (inl (later, latest)) other has named low awaits = elim (has-cases signed more other has) [
    | inl same ↦ subst (λ (s : SignedPromise). IsFrom s.promise.epoch found) same (latest-up signed more found latest)
    | inr behind ↦ latest-from (Some signed) more found latest other behind named low awaits
  ]
  latest-from last (signed ∷ more) found (inr (not, latest)) other has named low awaits = elim (has-cases signed more other has) [
    | inl same ↦ latest-passed last other more found (subst (λ (s : SignedPromise). ¬ IsLaterPromise marks name epoch last s) same not) latest named low awaits
    | inr behind ↦ latest-from last more found latest other behind named low awaits
  ]

-- ---- what is given

-- it is the same monitor, with some changes more
pub record HasMore (before after : Monitor) : Type 0 where
  pub chain : after.client.chain ≡ before.client.chain
  pub name : after.name ≡ before.name
  pub start : after.watch.start ≡ before.watch.start
  pub watched : after.watched ≡ before.watched
  pub changes : (more : List (ℕ × BoundKey)) × (after.watch.changes ≡ before.watch.changes ++ more)

none-more : (monitor : Monitor) → HasMore monitor monitor
none-more monitor = record { chain = refl; name = refl; start = refl; watched = refl; changes = ([], sym (append-nil monitor.watch.changes)) }

both-more : (before middle after : Monitor) → HasMore before middle → HasMore middle after → HasMore before after
both-more before middle after one other = record {
  chain = other.chain ∙ one.chain;
  name = other.name ∙ one.name;
  start = other.start ∙ one.start;
  watched = other.watched ∙ one.watched;
  changes = (
    one.changes.0 ++ other.changes.0,
    other.changes.1 ∙ ap (λ (cs : List (ℕ × BoundKey)). cs ++ other.changes.0) one.changes.1 ∙ append_assoc before.watch.changes one.changes.0 other.changes.0,
  );
}

-- all changes are of earlier epochs, or one is not
all-or-any : (changes : List (ℕ × BoundKey)) (epoch : ℕ) → All (λ change. change.0 < epoch) changes ⊎ ((change : ℕ × BoundKey) × Contains changes change × (epoch ≤ change.0))
all-or-any [] epoch = inl (All-nil (λ (change : ℕ × BoundKey). change.0 < epoch))
all-or-any (change ∷ changes) epoch = elim (cases_lt change.0 epoch) [
  | inr high ↦ inr (change, (0, omega arith, refl), high)
  | inl low ↦ elim (all-or-any changes epoch) [
    | inl all ↦ inl (All-cons (λ (c : ℕ × BoundKey). c.0 < epoch) change changes low all)
    | inr (other, has, high) ↦ inr (other, (suc has.0, omega (arith, has.1), has.2), high)
  ]
]

-- of promises that ascend by their epochs none is earlier than the first, and the others ascend
pub first-least : (first : SignedPromise) (promises : List SignedPromise) → IsNonDecreasingBy (λ (one : SignedPromise). one.promise.epoch) (first ∷ promises) → (other : SignedPromise) → Contains promises other → first.promise.epoch ≤ other.promise.epoch
first-least first promises up other has =
    All-contains (λ (one : SignedPromise). first.promise.epoch ≤ one.promise.epoch) promises other (λ k d within. up 0 (suc k) d (omega arith) (omega (arith, within))) has

pub rest-ascends : (first : SignedPromise) (promises : List SignedPromise) → IsNonDecreasingBy (λ (one : SignedPromise). one.promise.epoch) (first ∷ promises) → IsNonDecreasingBy (λ (one : SignedPromise). one.promise.epoch) promises
rest-ascends first promises up i j d low within = up (suc i) (suc j) d (omega (arith, low)) (omega (arith, within))

-- and the other way round
cons-ascends : (first : SignedPromise) (promises : List SignedPromise) → ((other : SignedPromise) → Contains promises other → first.promise.epoch ≤ other.promise.epoch) → IsNonDecreasingBy (λ (one : SignedPromise). one.promise.epoch) promises
    → IsNonDecreasingBy (λ (one : SignedPromise). one.promise.epoch) (first ∷ promises)
cons-ascends first promises least up zero zero d low within = omega arith
cons-ascends first promises least up zero (suc j) d low within = least (get_or promises j d) (Contains-get_or promises j d (omega (arith, within)))
cons-ascends first promises least up (suc i) zero d low within = absurd (omega (arith, low))
cons-ascends first promises least up (suc i) (suc j) d low within = up i j d (omega (arith, low)) (omega (arith, within))

-- promises that ascend, behind others that do, and that are not later
pub join-ascends : (promises more : List SignedPromise) → IsNonDecreasingBy (λ (one : SignedPromise). one.promise.epoch) promises → IsNonDecreasingBy (λ (one : SignedPromise). one.promise.epoch) more
    → ((one other : SignedPromise) → Contains promises one → Contains more other → one.promise.epoch ≤ other.promise.epoch) → IsNonDecreasingBy (λ (one : SignedPromise). one.promise.epoch) (promises ++ more)
join-ascends [] more up up' low = up'
join-ascends (first ∷ promises) more up up' low = cons-ascends first (promises ++ more)
    (λ other has. elim (Contains-append_cases promises more other has) [
      | inl there ↦ first-least first promises up other there
      | inr behind ↦ low first other (0, omega arith, refl) behind
    ])
    (join-ascends promises more (rest-ascends first promises up) up' (λ one other has. low one other (suc has.0, omega (arith, has.1), has.2)))

-- one of these promises, signed under this key
abbrev pub IsSignedOf : (List ℕ → List ℕ → List ℕ → Type 0) → (SignedPromise → Type 0) → List ℕ → SignedPromise → Type 0
IsSignedOf verified Was key signed = Was signed × IsSignedPromise signed × PromiseVerifies verified key signed

module _ (hash : List ℕ → List ℕ) (accepted verified : List ℕ → List ℕ → List ℕ → Type 0) where
  pub handed-more : (signed : SignedPromise) (promise : List ℕ) (before : Monitor) (why : Option Refusal) (after : Monitor) → HandsTo hash accepted verified signed promise before why after → HasMore before after
  handed-more signed promise before None after (inl (named, (given, is, same))) =
      subst (HasMore before) (sym same) (record { chain = refl; name = refl; start = refl; watched = refl; changes = ((given.promise.epoch, given.promise.key) ∷ [], refl) })
  handed-more signed promise before None after (inr (other, same)) = subst (HasMore before) (sym same) (none-more before)
  handed-more signed promise before (Some why) after (named, enough, expects) =
      subst (HasMore before) (sym (stays-change hash accepted verified before signed.promise.key promise why after expects)) (none-more before)

  pub all-more : (promises : List SignedPromise) (before after : Monitor) → AllHand hash accepted verified promises before after → HasMore before after
  all-more [] before after same = subst (HasMore before) (sym same) (none-more before)
  all-more (signed ∷ more) before after (why, middle, hands, rest) =
      both-more before middle after (handed-more signed (signed_promise_bytes signed) before why middle hands) (all-more more middle after rest)

  all-parted : (one other : List SignedPromise) (before after : Monitor) → AllHand hash accepted verified (one ++ other) before after → (middle : Monitor) × AllHand hash accepted verified one before middle × AllHand hash accepted verified other middle after
  all-parted [] other before after hands = (before, refl, hands)
  all-parted (signed ∷ one) other before after (why, next, hands, rest) =
      let (middle, first, second) = all-parted one other next after rest in
      (middle, (why, next, hands, first), second)

  -- what a monitor makes of a promise under its key over a root of its chain, where it watched no epoch above it and expects
  -- no later change: a change of its epoch is expected then
  module _ (key : List ℕ) (signed : SignedPromise) (promise : List ℕ) (spelled : SpellsPromise promise signed) (verifies : PromiseVerifies verified key signed) (before : Monitor) (same-name : before.name ≡ signed.promise.name)
      (keyed : before.client.chain.key ≡ key) (unwatched : before.watched ≤ signed.promise.epoch) (up-to : AllByRecursion (λ (change : ℕ × BoundKey). change.0 ≤ signed.promise.epoch) before.watch.changes) (rooted : HasRootOf hash before.client.chain signed.promise) where
    given-as : (given : SignedPromise) → SpellsPromise promise given → signed ≡ given
    given-as given spells = one-promise promise signed given spelled spells

    -- the promise may be expected, or one of its epoch is
    may-or-has : ¬ MayExpect before signed.promise.key signed.promise → HasChange before.watch.changes signed.promise.epoch
    may-or-has not = elim (all-or-any before.watch.changes signed.promise.epoch) [
      | inl all ↦ absurd (not (record { named = sym same-name; keyed = refl; later = all; unwatched = unwatched }))
      | inr (change, has, high) ↦
          let low = all-has (λ (c : ℕ × BoundKey). c.0 ≤ signed.promise.epoch) before.watch.changes change up-to has in
          (change, has, omega (arith, high, low))
    ]

    pub expects-handed : (why : Option Refusal) (after : Monitor) → HandsTo hash accepted verified signed promise before why after → HasChange after.watch.changes signed.promise.epoch
    expects-handed None after (inl (named, (given, (gives, may), same))) =
        let one = given-as given gives.0.0 in
        subst (λ (m : Monitor). HasChange m.watch.changes signed.promise.epoch) (sym same)
        ((given.promise.epoch, given.promise.key), Contains-push before.watch.changes (given.promise.epoch, given.promise.key), ap (λ (s : SignedPromise). s.promise.epoch) (sym one))
    expects-handed None after (inr (other, same)) = absurd (other same-name)
    expects-handed (Some OtherPromise) after (named, enough, ((given, gives, not), same)) =
        let one = given-as given gives.0.0 in
        subst (λ (m : Monitor). HasChange m.watch.changes signed.promise.epoch) (sym same) (may-or-has (subst (λ (s : SignedPromise). ¬ MayExpect before signed.promise.key s.promise) (sym one) not))
    expects-handed (Some (Client client.Memory)) after (named, enough, expects) = absurd (enough refl)
    expects-handed (Some (Client (client.Root root.Malformed))) after (named, enough, (not, same)) = absurd (not signed spelled)
    expects-handed (Some (Client (client.Root root.BadSignature))) after (named, enough, ((given, spells, not), same)) =
        absurd (subst (λ (s : SignedPromise). ¬ PromiseVerifies verified before.client.chain.key s) (sym (given-as given spells)) not (subst (λ (k : List ℕ). PromiseVerifies verified k signed) (sym keyed) verifies))
    expects-handed (Some (Client (client.Root root.NotLater))) after (named, enough, expects) = absurd expects.0
    expects-handed (Some (Client (client.Root root.BadLink))) after (named, enough, expects) = absurd expects.0
    expects-handed (Some (Client client.UnknownRoot)) after (named, enough, ((given, spells, not), same)) =
        absurd (subst (λ (s : SignedPromise). ¬ HasRootOf hash before.client.chain s.promise) (sym (given-as given spells.0)) not rooted)
    expects-handed (Some (Client (client.Proof why))) after (named, enough, expects) = absurd expects
    expects-handed (Some (Client (client.RootDiffers evidence))) after (named, enough, expects) = absurd expects
    expects-handed (Some (Client client.NoPromise)) after (named, enough, expects) = absurd expects

  module _ (Was : SignedPromise → Type 0) (key name : List ℕ) where
    change-stays : (before after : Monitor) (epoch : ℕ) → HasMore before after → HasChange before.watch.changes epoch → HasChange after.watch.changes epoch
    change-stays before after epoch more (change, has, at) =
        (change, subst (λ (cs : List (ℕ × BoundKey)). Contains cs change) (sym more.changes.1) (Contains-append_left before.watch.changes more.changes.0 change has), at)

    abbrev IsSigned : SignedPromise → Type 0
    IsSigned = IsSignedOf verified Was key

    -- no change is later than this
    abbrev UpTo : ℕ → List (ℕ × BoundKey) → Type 0
    UpTo epoch = AllByRecursion (λ (change : ℕ × BoundKey). change.0 ≤ epoch)

    -- a monitor that has watched nothing, and expects no change that is later than any of these promises
    pub record IsNew (promises : List SignedPromise) (monitor : Monitor) : Type 0 where
      pub named : monitor.name ≡ name
      pub keyed : monitor.client.chain.key ≡ key
      pub none : monitor.watched ≡ 0
      pub low : (other : SignedPromise) → Contains promises other → UpTo other.promise.epoch monitor.watch.changes

    module _ (signed : SignedPromise) (promises : List SignedPromise) (is : IsSigned signed) (up : IsNonDecreasingBy (λ (one : SignedPromise). one.promise.epoch) (signed ∷ promises)) (before : Monitor) (new : IsNew (signed ∷ promises) before) where
      given-same : (given : SignedPromise) → (signed_promise_bytes signed ≡ signed_promise_bytes given) × IsSignedPromise given → signed ≡ given
      given-same given spells = one-promise (signed_promise_bytes signed) signed given (refl, is.1) spells

      low-behind : (other : SignedPromise) → Contains promises other → UpTo other.promise.epoch before.watch.changes
      low-behind other has = new.low other (suc has.0, omega (arith, has.1), has.2)

      -- it is new again
      new-handed : (why : Option Refusal) (after : Monitor) → HandsTo hash accepted verified signed (signed_promise_bytes signed) before why after → IsNew promises after
      new-handed None after (inl (named, (given, (gives, may), same))) =
          let one = given-same given gives.0.0 in
          subst (IsNew promises) (sym same) (record {
            named = new.named;
            keyed = new.keyed;
            none = new.none;
            low = λ other has. all-push (λ (change : ℕ × BoundKey). change.0 ≤ other.promise.epoch) before.watch.changes (given.promise.epoch, given.promise.key) (low-behind other has)
                (subst (λ (s : SignedPromise). s.promise.epoch ≤ other.promise.epoch) one (first-least signed promises up other has));
          })
      new-handed None after (inr (other, same)) = subst (IsNew promises) (sym same) (record { named = new.named; keyed = new.keyed; none = new.none; low = low-behind })
      new-handed (Some why) after (named, enough, expects) =
          subst (IsNew promises) (sym (stays-change hash accepted verified before signed.promise.key (signed_promise_bytes signed) why after expects))
          (record { named = new.named; keyed = new.keyed; none = new.none; low = low-behind })

      module _ (named : signed.promise.name ≡ name) (rooted : HasRootOf hash before.client.chain signed.promise) where
        one-handed : (why : Option Refusal) (after : Monitor) → HandsTo hash accepted verified signed (signed_promise_bytes signed) before why after → HasChange after.watch.changes signed.promise.epoch
        one-handed = expects-handed key signed (signed_promise_bytes signed) (refl, is.1) is.2 before (new.named ∙ sym named) new.keyed (omega (arith, new.none)) (new.low signed (0, omega arith, refl)) rooted

    -- of the epoch of each of them that is of the chain a change is expected
    pub each-handed : (promises : List SignedPromise) (before after : Monitor) → AllHand hash accepted verified promises before after → AllByRecursion IsSigned promises
        → IsNonDecreasingBy (λ (one : SignedPromise). one.promise.epoch) promises → IsNew promises before
        → (other : SignedPromise) → Contains promises other → other.promise.name ≡ name → HasRootOf hash before.client.chain other.promise → HasChange after.watch.changes other.promise.epoch
    each-handed [] before after hands all up new other has named rooted = absurd (omega (arith, has.1))
    each-handed (signed ∷ promises) before after (why, middle, hands, rest) all up new other has named rooted = elim (has-cases signed promises other has) [
      | inl same ↦ subst (λ (s : SignedPromise). HasChange after.watch.changes s.promise.epoch) same (change-stays middle after signed.promise.epoch (all-more promises middle after rest)
          (one-handed signed promises all.0 up before new (ap (λ (s : SignedPromise). s.promise.name) same ∙ named) (subst (λ (s : SignedPromise). HasRootOf hash before.client.chain s.promise) (sym same) rooted) why middle hands))
      | inr later ↦
          let more = handed-more signed (signed_promise_bytes signed) before why middle hands in
          each-handed promises middle after rest all.1 (rest-ascends signed promises up) (new-handed signed promises all.0 up before new why middle hands) other later named
          (subst (λ (c : KeyedRoots). HasRootOf hash c other.promise) (sym more.chain) rooted)
    ]

    -- so it is for those of earlier runs, where those of this run are given behind them
    pub earlier-handed : (earlier noted : List SignedPromise) (before after : Monitor) → AllHand hash accepted verified (earlier ++ noted) before after → AllByRecursion IsSigned earlier
        → IsNonDecreasingBy (λ (one : SignedPromise). one.promise.epoch) earlier → before.name ≡ name → before.client.chain.key ≡ key → before.watched ≡ 0 → before.watch.changes ≡ []
        → (other : SignedPromise) → Contains earlier other → other.promise.name ≡ name → HasRootOf hash before.client.chain other.promise → HasChange after.watch.changes other.promise.epoch
    earlier-handed earlier noted before after hands all up named keyed none empty other has same rooted =
        let (middle, first, second) = all-parted earlier noted before after hands in
        change-stays middle after other.promise.epoch (all-more noted middle after second)
        (each-handed earlier before middle first all up
        (record { named = named; keyed = keyed; none = none; low = λ one there. subst (AllByRecursion (λ (change : ℕ × BoundKey). change.0 ≤ one.promise.epoch)) (sym empty) tt }) other has same rooted)
