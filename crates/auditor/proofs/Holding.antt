-- Chains at their keys: what is put in or replaced is found, other chains stay, and each is at its own key.
use Rattle.std.proofs.Common.{◌≡◌, ◌≢◌, ℕ, List, [], ◌∷◌, Bool, true, false, cond, Option, Some, Result, Ok, Err, IfSome, IfErr, IfOk, OnErr, refl, sym, ap, subst, ◌∙◌, inr}
use Rattle.std.specs.BTreeMap.{insert_entry, is_at}
use Rattle.std.specs.Map.{set_value}
use Rattle.std.specs.Ordering.{match_ordering}
use Rattle.std.specs.declared.cmp.Ordering.{Ordering}
use Rattle.std.specs.declared.cmp.Ordering.TheVariants.{Less, Equal, Greater}
use Rattle.std.proofs.lemmas.Map.Steps.{set_value_same}
use Rattle.std.proofs.lemmas.List.Elements.{All-contains, All-from_recursion, All-push}
use Rattle.prefixtree.proofs.Entries.{at_put_other, at_put_same, is_name}
use Rattle.prefixtree.proofs.Order.{same-equal}
use Rattle.rootchain.specs.declared.chain.placing.Place.{Place}
use Rattle.rootchain.specs.declared.chain.placing.Place.TheVariants.{Known, Evidence, Next, Ahead, BeforeStart}
use Rattle.rootchain.specs.declared.root_refusal.Refusal.{Refusal}
use Rattle.rootchain.specs.declared.root_refusal.Refusal.TheVariants.{Malformed, BadSignature, NotLater, BadLink, Memory}
use Rattle.rootchain.specs.declared.signed_root.SignedRoot.{SignedRoot}
use Rattle.rootchain.specs.Chains.{IsChain, KeyedRoots, Verifies}
use Rattle.rootchain.specs.Evidence.{IsRootEvidence}
use Rattle.rootchain.specs.Places.{EvidenceHolds, IsPlace}
use Rattle.rootchain.specs.SignedRoots.{IsSignedRoot}
use Rattle.rootchain.specs.Taking.{with_taken, IsTakeRefusal}
use Rattle.rootchain.proofs.Spelled.{place-given}
use Rattle.auditor.specs.Chains.{AreHeld, Chains, IsHeld, NowHas, chain_of}
use Rattle.auditor.specs.Observing.{HoldsAfter, IsObserveRefusal, ObservedHolds, ObservesRoot, PlaceHolds, compared_as, observed_as}
use Rattle.auditor.specs.Taking.{TakesAt, TakesRoot}
use Rattle.encoding.specs.Bytes.{bytes_cmp}

-- what is found is held
pub found-held : (chains : Chains) (key : List ℕ) → AreHeld chains → IfSome (chain_of chains key) (IsHeld key)
found-held [] key all = tt
found-held (held ∷ more) key all = by (is_at (bytes_cmp key) held.0) refl (found-held more key all.1)
  where
    by : (test : Bool) → is_at (bytes_cmp key) held.0 ≡ test → IfSome (chain_of more key) (IsHeld key) → IfSome (cond test (Some held.1) (chain_of more key)) (IsHeld key)
    by true is next = (all.0.0 ∙ is_name key held.0 is, all.0.1)
    by false is next = next

-- a chain that is put in at its key
pub put-held : (chains : Chains) (key : List ℕ) (chain : KeyedRoots) → AreHeld chains → IsHeld key chain → AreHeld (insert_entry bytes_cmp chains key chain)
put-held [] key chain all one = (one, tt)
put-held (held ∷ more) key chain all one = by (bytes_cmp key held.0) refl (put-held more key chain all.1 one)
  where
    by : (order : Ordering) → bytes_cmp key held.0 ≡ order → AreHeld (insert_entry bytes_cmp more key chain)
        → AreHeld (match_ordering order ((key, chain) ∷ held ∷ more) ((held.0, chain) ∷ more) (held ∷ insert_entry bytes_cmp more key chain))
    by Less is next = (one, all)
    by Equal is next = ((one.0 ∙ same-equal key held.0 is, one.1), all.1)
    by Greater is next = (all.0, next)

pub put-has : (chains : Chains) (key : List ℕ) (chain : KeyedRoots) → NowHas chains key chain (insert_entry bytes_cmp chains key chain)
put-has chains key chain = record {
  own = at_put_same key chain chains;
  others = λ other differ. at_put_other key chain chains other differ;
}

-- a chain that replaces another
pub set-held : (chains : Chains) (key : List ℕ) (chain : KeyedRoots) → AreHeld chains → IsHeld key chain → AreHeld (set_value (is_at (bytes_cmp key)) chains chain)
set-held [] key chain all one = tt
set-held (held ∷ more) key chain all one = by (is_at (bytes_cmp key) held.0) refl (set-held more key chain all.1 one)
  where
    by : (test : Bool) → is_at (bytes_cmp key) held.0 ≡ test → AreHeld (set_value (is_at (bytes_cmp key)) more chain)
        → AreHeld (cond test ((held.0, chain) ∷ more) (held ∷ set_value (is_at (bytes_cmp key)) more chain))
    by true is next = ((one.0 ∙ sym (is_name key held.0 is), one.1), all.1)
    by false is next = (all.0, next)

set-own : (chains : Chains) (key : List ℕ) (chain left : KeyedRoots) → chain_of chains key ≡ Some chain → chain_of (set_value (is_at (bytes_cmp key)) chains left) key ≡ Some left
set-own [] key chain left found = absurd cc
set-own (held ∷ more) key chain left found = by (is_at (bytes_cmp key) held.0) refl found (set-own more key chain left)
  where
    by : (test : Bool) → is_at (bytes_cmp key) held.0 ≡ test → cond test (Some held.1) (chain_of more key) ≡ Some chain
        → (chain_of more key ≡ Some chain → chain_of (set_value (is_at (bytes_cmp key)) more left) key ≡ Some left)
        → chain_of (cond test ((held.0, left) ∷ more) (held ∷ set_value (is_at (bytes_cmp key)) more left)) key ≡ Some left
    by true is here next = rw is refl
    by false is here next = rw is (next here)

set-other : (chains : Chains) (key : List ℕ) (left : KeyedRoots) (other : List ℕ) → other ≢ key → chain_of (set_value (is_at (bytes_cmp key)) chains left) other ≡ chain_of chains other
set-other [] key left other differ = refl
set-other (held ∷ more) key left other differ = by (is_at (bytes_cmp key) held.0) (is_at (bytes_cmp other) held.0) refl refl (set-other more key left other differ)
  where
    by : (test also : Bool) → is_at (bytes_cmp key) held.0 ≡ test → is_at (bytes_cmp other) held.0 ≡ also → chain_of (set_value (is_at (bytes_cmp key)) more left) other ≡ chain_of more other
        → chain_of (cond test ((held.0, left) ∷ more) (held ∷ set_value (is_at (bytes_cmp key)) more left)) other ≡ chain_of (held ∷ more) other
    by true true is too next = absurd (differ (sym (is_name other held.0 too) ∙ is_name key held.0 is))
    by true false is too next = rw too refl
    by false true is too next = rw too refl
    by false false is too next = rw too next

pub set-has : (chains : Chains) (key : List ℕ) (chain left : KeyedRoots) → chain_of chains key ≡ Some chain → NowHas chains key left (set_value (is_at (bytes_cmp key)) chains left)
set-has chains key chain left found = record {
  own = set-own chains key chain left found;
  others = λ other differ. set-other chains key left other differ;
}

-- the chain of one root
pub one-held : (key : List ℕ) (root : SignedRoot) → IsSignedRoot root → IsHeld key (record { key = key; roots = root ∷ [] })
one-held key root form = (refl, All-from_recursion IsSignedRoot (root ∷ []) (form, tt))

-- what a chain of the auditor is after it took a root
pub taken-held : (key : List ℕ) (chain left : KeyedRoots) (root : SignedRoot) → IsHeld key chain → IsSignedRoot root → (result : Result Place Refusal)
    → IfOk result (λ place. left ≡ with_taken chain root place) → OnErr result (left ≡ chain) → IsHeld key left
taken-held key chain left root held form (Ok place) taken stays = subst (IsHeld key) (sym taken) (by place)
  where
    by : (place : Place) → IsHeld key (with_taken chain root place)
    by Next = (held.0, All-push IsSignedRoot chain.roots root held.1 form)
    by Known = held
    by (Evidence evidence) = held
    by Ahead = held
    by BeforeStart = held
taken-held key chain left root held form (Err why) taken stays = subst (IsHeld key) (sym stays) held

module _ (hash : List ℕ → List ℕ) (verified : List ℕ → List ℕ → List ℕ → Type 0) (chain left : KeyedRoots) (root : SignedRoot) where
  pub takes : (result : Result Place Refusal) → IfOk result (λ _. Verifies verified chain.key root) → IfOk result (IsPlace hash chain root)
      → IfOk result (λ place. left ≡ with_taken chain root place) → IfErr result (IsTakeRefusal hash verified chain root) → OnErr result (left ≡ chain) → TakesRoot hash verified chain root result left
  takes (Ok place) verifies is taken refused stays = (verifies, is, taken)
  takes (Err why) verifies is taken refused stays = (refused, stays)

  -- the evidence that a chain gives holds of the provider, and its roots have a spelling
  pub place-holds : (key : List ℕ) → IsChain hash verified chain → IsHeld key chain → IsSignedRoot root → (place : Place) → IsPlace hash chain root place → EvidenceHolds hash verified chain.key place
      → PlaceHolds hash verified key place
  place-holds key is held form Known stands holds = tt
  place-holds key is held form Next stands holds = tt
  place-holds key is held form Ahead stands holds = tt
  place-holds key is held form BeforeStart stands holds = tt
  place-holds key is held form (Evidence evidence) stands holds = (
    subst (λ (k : List ℕ). IsRootEvidence hash verified k evidence) held.0 holds,
    place-given hash IsSignedRoot chain root (Evidence evidence) is.first (λ own has. All-contains IsSignedRoot chain.roots own held.1 has) form stands,
  )

  pub result-holds : (key : List ℕ) → IsChain hash verified chain → IsHeld key chain → IsSignedRoot root → (result : Result Place Refusal) → IfOk result (IsPlace hash chain root) → IfOk result (EvidenceHolds hash verified chain.key)
      → IfOk result (PlaceHolds hash verified key)
  result-holds key is held form (Ok place) stands holds = place-holds key is held form place stands holds
  result-holds key is held form (Err why) stands holds = tt

  pub told-holds : (key : List ℕ) (place : Place) → PlaceHolds hash verified key place → ObservedHolds hash verified key (observed_as place)
  told-holds key Known holds = tt
  told-holds key Next holds = tt
  told-holds key Ahead holds = tt
  told-holds key BeforeStart holds = tt
  told-holds key (Evidence evidence) holds = holds

  pub compared-holds : (key : List ℕ) (place : Place) → PlaceHolds hash verified key place → PlaceHolds hash verified key (compared_as place)
  compared-holds key Known holds = tt
  compared-holds key Next holds = tt
  compared-holds key Ahead holds = tt
  compared-holds key BeforeStart holds = tt
  compared-holds key (Evidence evidence) holds = holds

-- what an auditor tells where one of its chains took a root
module _ (hash : List ℕ → List ℕ) (verified : List ℕ → List ℕ → List ℕ → Type 0) (before : Chains) (key : List ℕ) (root : SignedRoot) (after : Chains) (all : AreHeld before) where
  own-key : (chain : KeyedRoots) → chain_of before key ≡ Some chain → IsHeld key chain
  own-key chain found = subst (λ (held : Option KeyedRoots). IfSome held (IsHeld key)) found (found-held before key all)

  taken-after : (chain left : KeyedRoots) (place : Place) → chain_of before key ≡ Some chain → after ≡ set_value (is_at (bytes_cmp key)) before left → left ≡ with_taken chain root place
      → HoldsAfter before key root (observed_as place) after
  taken-after chain left Next found set taken = (chain, found, subst (λ (a : Chains). NowHas before key (with_taken chain root Next) a) (sym set) (subst (λ (l : KeyedRoots). NowHas before key l (set_value (is_at (bytes_cmp key)) before left)) taken (set-has before key chain left found)))
  taken-after chain left Known found set taken = set ∙ ap (set_value (is_at (bytes_cmp key)) before) taken ∙ set_value_same (is_at (bytes_cmp key)) before chain found
  taken-after chain left (Evidence evidence) found set taken = set ∙ ap (set_value (is_at (bytes_cmp key)) before) taken ∙ set_value_same (is_at (bytes_cmp key)) before chain found
  taken-after chain left Ahead found set taken = set ∙ ap (set_value (is_at (bytes_cmp key)) before) taken ∙ set_value_same (is_at (bytes_cmp key)) before chain found
  taken-after chain left BeforeStart found set taken = set ∙ ap (set_value (is_at (bytes_cmp key)) before) taken ∙ set_value_same (is_at (bytes_cmp key)) before chain found

  pub observes-taken : (place : Place) → TakesAt hash verified before key root (Ok place) after → ObservesRoot hash verified before key root (Ok (observed_as place)) after
  observes-taken place (chain, left, found, set, took) = (
    subst (λ (k : List ℕ). Verifies verified k root) (own-key chain found).0 took.0,
    rw found (place, took.1, refl),
    taken-after chain left place found set took.2,
  )

  refuses : (chain : KeyedRoots) → chain_of before key ≡ Some chain → (why : Refusal) → IsTakeRefusal hash verified chain root why → IsObserveRefusal hash verified (chain_of before key) key root why
  refuses chain found Malformed refused = absurd refused
  refuses chain found BadSignature refused = λ signed. refused (subst (λ (k : List ℕ). Verifies verified k root) (sym (own-key chain found).0) signed)
  refuses chain found NotLater refused = absurd refused
  refuses chain found BadLink refused = absurd refused
  refuses chain found Memory refused = (subst (λ (k : List ℕ). Verifies verified k root) (own-key chain found).0 refused.0, rw found (inr (Next, refused.1, refl)))

  pub observes-refused : (why : Refusal) → TakesAt hash verified before key root (Err why) after → ObservesRoot hash verified before key root (Err why) after
  observes-refused why (chain, left, found, set, took) = (
    refuses chain found why took.0,
    set ∙ ap (set_value (is_at (bytes_cmp key)) before) took.1 ∙ set_value_same (is_at (bytes_cmp key)) before chain found,
  )
