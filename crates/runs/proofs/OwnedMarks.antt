-- Marks stay as they may stand where the client's chain grows, the monitors go on, and more is told.
use Rattle.std.proofs.Common.{◌≡◌, ◌∙◌, ◌⊎◌, ◌-◌, ◌<◌, ◌≤◌, ℕ, zero, suc, List, [], ◌∷◌, ◌++◌, length, Contains, Option, Some, arith, ap, inl, inr, refl, slice_set, subst, sym}
use Rattle.std.specs.Prelude.{slice_get, ⊤}
use Rattle.std.specs.List.{AllByRecursion}
use Rattle.encoding.specs.declared.bound_key.BoundKey.{BoundKey}
use Rattle.rootchain.specs.Chains.{IsChain, KeyedRoots}
use Rattle.rootchain.specs.Places.{IsFirst}
use Rattle.rootchain.specs.declared.signed_promise.SignedPromise.{SignedPromise}
use Rattle.rootchain.specs.declared.signed_root.SignedRoot.{SignedRoot}
use Rattle.client.specs.Clients.{Client}
use Rattle.client.proofs.Unlikes.{is-among}
use Rattle.memory.specs.Memories.{Memory}
use Rattle.memory.specs.declared.mark.Mark.{Mark}
use Rattle.monitor.specs.Monitors.{Monitor}
use Rattle.asking.specs.Following.{MonitorUpdates}
use Rattle.runs.specs.Owning.{HasJoined, IsHeld}
use Rattle.runs.specs.Saves.{Counts, IsOwnAhead}
use Rattle.runs.proofs.OwnedMonitors.{own-first, Owned}
use Rattle.runs.proofs.OwnedRoots.{all-has, has-cases, least-grown, taken-first, HasGrown}
use Rattle.runs.proofs.Told.{epoch-more}

-- ---- monitors that go on

-- of the same name, and its chain begins as before
abbrev pub GoesAs : Monitor → Monitor → Type 0
GoesAs before after = (after.name ≡ before.name) × ((first : SignedRoot) → IsFirst after.client.chain first → IsFirst before.client.chain first)

pub as-before : (monitor : Monitor) → GoesAs monitor monitor
as-before monitor = (refl, λ first at. at)

-- each goes on, and others may follow
abbrev pub AllGo : List Monitor → List Monitor → Type 0
AllGo [] after = ⊤
AllGo (monitor ∷ before) [] = ⊥
AllGo (monitor ∷ before) (monitor' ∷ after) = GoesAs monitor monitor' × AllGo before after

pub all-as_before : (monitors : List Monitor) → AllGo monitors monitors
all-as_before [] = tt
all-as_before (monitor ∷ monitors) = (as-before monitor, all-as_before monitors)

pub all-followed : (monitors more : List Monitor) → AllGo monitors (monitors ++ more)
all-followed [] more = tt
all-followed (monitor ∷ monitors) more = (as-before monitor, all-followed monitors more)

pub all-but : (monitors : List Monitor) (place : ℕ) (before after : Monitor) → slice_get monitors place ≡ Some before → GoesAs before after → AllGo monitors (slice_set monitors place after)
all-but [] place before after at goes = tt
all-but (monitor ∷ monitors) zero before after at goes =
    let one : monitor ≡ before = cc in
    (subst (λ (m : Monitor). GoesAs m after) (sym one) goes, all-as_before monitors)
all-but (monitor ∷ monitors) (suc place) before after at goes = (as-before monitor, all-but monitors place before after at goes)

-- one that takes a list goes on
pub updated-goes : (hash : List ℕ → List ℕ) (verified : List ℕ → List ℕ → List ℕ → Type 0) (list : List ℕ) (before after : Monitor) → IsChain hash verified before.client.chain → MonitorUpdates hash verified list before after → GoesAs before after
updated-goes hash verified list before after is ((roots, taken, spells, takes, grown), same) = (
  ap (λ (m : Monitor). m.name) same,
  λ first at. taken-first hash verified before.client.chain taken roots first is takes (subst (λ (c : Client). IsFirst c.chain first) grown at),
)

going : (before after : List Monitor) (monitor : Monitor) → AllGo before after → Contains before monitor → (other : Monitor) × Contains after other × GoesAs monitor other
going [] after monitor all has = absurd (omega (arith, has.1))
going (first ∷ before) [] monitor all has = absurd all
going (first ∷ before) (first' ∷ after) monitor all has = elim (has-cases first before monitor has) [
  | inl same ↦ (first', (0, omega arith, refl), subst (λ (m : Monitor). GoesAs m first') same all.0)
  | inr later ↦
      let (other, there, goes) = going before after monitor all.1 later in
      (other, (suc there.0, omega (arith, there.1), there.2), goes)
]

-- ---- marks

module _ (hash : List ℕ → List ℕ) (accepted verified : List ℕ → List ℕ → List ℕ → Type 0) (Given : List ℕ → Option BoundKey → Type 0) (Own : SignedPromise → Type 0) (start : Memory) (marks : List Mark) where
  abbrev Held : List ℕ → KeyedRoots → List Monitor → Mark → Type 0
  Held text chain monitors mark = IsHeld hash accepted verified Given Own start text marks chain monitors mark

  joined-grown : (text : List ℕ) (chain chain' : KeyedRoots) (before after : List Monitor) (mark : Mark) → HasGrown chain chain' → AllByRecursion (Owned hash accepted verified Given Own start text chain marks) before → AllGo before after
      → HasJoined chain before mark → HasJoined chain' after mark
  joined-grown text chain chain' before after mark grows all go (monitor, has, named, least) =
      let own = all-has (Owned hash accepted verified Given Own start text chain marks) before monitor all has in
      let (other, there, same) = going before after monitor go has in (
        other,
        there,
        same.0 ∙ named,
        λ first at. let at' = same.1 first at in
            least-grown chain chain' mark.epoch first grows (own-first hash accepted verified Given Own start text chain marks monitor first own at') (least first at'),
      )

  pub held-grown : (now text : List ℕ) (chain chain' : KeyedRoots) (before after : List Monitor) (mark : Mark) → HasGrown chain chain' → AllByRecursion (Owned hash accepted verified Given Own start now chain marks) before → AllGo before after
      → Held text chain before mark → Held text chain' after mark
  held-grown now text chain chain' before after mark grows all go is = record {
    low = elim is.low [
      | inl none ↦ inl none
      | inr (head, at, low) ↦ let (latest, at', up) = grows.head head at in inr (latest, at', omega (arith, low, up))
    ];
    told = λ root has above low. elim (grows.later root has) [
      | inl old ↦ is.told root old above low
      | inr new ↦ absurd (too-low root new above low is.low)
    ];
    link = elim is.link [
      | inl first ↦ inl first
      | inr joined ↦ inr (joined-grown now chain chain' before after mark grows all go joined)
    ];
  }
    where
      too-low : (root : SignedRoot) → ((own : SignedRoot) → Contains chain.roots own → own.body.epoch < root.body.epoch) → mark.since < root.body.epoch → root.body.epoch ≤ mark.epoch
          → (mark.epoch ≤ mark.since) ⊎ ((head : SignedRoot) × (slice_get chain.roots (length chain.roots - 1) ≡ Some head) × (mark.epoch ≤ head.body.epoch)) → ⊥
      too-low root new above low (inl none) = omega (arith, above, low, none)
      too-low root new above low (inr (head, at, high)) = let less = new head (is-among chain.roots (length chain.roots - 1) head at) in omega (arith, less, low, high)

  -- more was written
  pub held-more : (text more : List ℕ) (chain : KeyedRoots) (monitors : List Monitor) (mark : Mark) → Held text chain monitors mark → Held (text ++ more) chain monitors mark
  held-more text more chain monitors mark is = record {
    low = is.low;
    told = λ root has above low. elim (is.told root has above low) [
      | inl tells ↦ inl (epoch-more Given (IsOwnAhead Own start) (Counts start) hash accepted text more mark.name root tells)
      | inr watched ↦ inr watched
    ];
    link = is.link;
  }
