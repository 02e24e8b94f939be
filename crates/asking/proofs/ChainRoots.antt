-- Roots of which none is refused, and that are what was asked for, are those of the chain.
use Rattle.std.proofs.Common.{◌≡◌, ◌∙◌, ℕ, ◌-◌, ◌≤◌, List, [], ◌∷◌, Some, Ok, Err, ap, arith, inl, inr, length, refl, rules, slice_get, sym}
use Rattle.std.specs.List.{AllByRecursion}
use Rattle.std.specs.Prelude.{codes}
use Rattle.std.proofs.lemmas.Bool.{cases_lt}
use Rattle.rootchain.specs.Chains.{IsHead, KeyedRoots}
use Rattle.rootchain.specs.Places.{IsFirst, IsPlace, TellsEvidence}
use Rattle.rootchain.specs.declared.chain.placing.Place.{Place}
use Rattle.rootchain.specs.declared.chain.placing.Place.TheVariants.{Known, Evidence, Next, Ahead, BeforeStart}
use Rattle.rootchain.specs.declared.signed_root.SignedRoot.{SignedRoot}
use Rattle.client.specs.Refusals.{of_root}
use Rattle.asking.specs.Checking.{AreTold}
use Rattle.asking.specs.Reports.{Report}
use Rattle.asking.specs.Wanted.{last_epoch, AreWanted, FollowOn, IsOfChain}
use Rattle.asking.specs.declared.said.TheConstants.{CAUGHT, REFUSED}
use Rattle.asking.specs.declared.wanted.Wanted.{Wanted}
use Rattle.asking.proofs.Caught.{refused-some}

-- a list that has some root has a first one
first-of : (roots : List SignedRoot) (k : ℕ) (root : SignedRoot) → slice_get roots k ≡ Some root → (first : SignedRoot) × (slice_get roots 0 ≡ Some first)
first-of [] k root at = absurd cc
first-of (first ∷ more) k root at = (first, refl)

module _ (hash : List ℕ → List ℕ) (chain : KeyedRoots) where
  -- a root that is not above the head, and is no evidence
  of-place : (root first head : SignedRoot) (place : Place) → IsFirst chain first → IsHead chain head → root.body.epoch ≤ head.body.epoch → IsPlace hash chain root place → (¬ TellsEvidence place) → IsOfChain chain root
  of-place root first head place starts is most at not = elim (cases_lt root.body.epoch first.body.epoch) [
    | inl low ↦ inl (first, starts, low)
    | inr high ↦ within place at not high
  ]
    where
      within : (place' : Place) → IsPlace hash chain root place' → (¬ TellsEvidence place') → first.body.epoch ≤ root.body.epoch → IsOfChain chain root
      within Known at' not' high = inr (at'.within first head starts is high most)
      within (Evidence evidence) at' not' high = absurd (not' tt)
      within Next at' not' high = absurd (at'.within first head starts is high most)
      within Ahead at' not' high = absurd (at'.within first head starts is high most)
      within BeforeStart at' not' high = absurd (at'.within first head starts is high most)

  -- none is above the last
  below-last : (root : SignedRoot) (more : List SignedRoot) → FollowOn hash root more → root.body.epoch ≤ last_epoch root.body.epoch more
  below-last root [] follow = omega arith
  below-last root (next ∷ more) ((names, above), follow) = omega (arith, above, below-last next more follow)

module _ (hash : List ℕ → List ℕ) (verified : List ℕ → List ℕ → List ℕ → Type 0) (chain : KeyedRoots) (wanted : Wanted) where
  -- a root stands somewhere, and is no evidence
  abbrev IsUnrefused : SignedRoot → Type 0
  IsUnrefused root = (place : Place) × IsPlace hash chain root place × (¬ TellsEvidence place)

  -- what is refused has a status of its own
  not-fine : (told : Report) → told.status ≡ 0 → told.status ≡ REFUSED → ⊥
  not-fine told fine bad = search (rules, fine, bad)

  not-caught : (told : Report) → told.status ≡ 0 → told.status ≡ CAUGHT → ⊥
  not-caught told fine bad = search (rules, fine, bad)

  -- where the status is 0, none is refused, and they are what was asked for
  none-refused : (all : List SignedRoot) (told : Report) → told.status ≡ 0 → (rest : List SignedRoot) → AreTold hash verified chain wanted all rest told → AllByRecursion IsUnrefused rest × AreWanted hash chain wanted all
  none-refused all told fine [] (inl (are, is)) = (tt, are)
  none-refused all told fine [] (inr (not, is)) = absurd (not-fine told fine (ap (λ (r : Report). r.status) is))
  none-refused all told fine (first ∷ more) (Ok Known, (verifies, at), later) = let behind = none-refused all told fine more later in (((Known, at, λ never. never), behind.0), behind.1)
  none-refused all told fine (first ∷ more) (Ok Next, (verifies, at), later) = let behind = none-refused all told fine more later in (((Next, at, λ never. never), behind.0), behind.1)
  none-refused all told fine (first ∷ more) (Ok Ahead, (verifies, at), later) = let behind = none-refused all told fine more later in (((Ahead, at, λ never. never), behind.0), behind.1)
  none-refused all told fine (first ∷ more) (Ok BeforeStart, (verifies, at), later) = let behind = none-refused all told fine more later in (((BeforeStart, at, λ never. never), behind.0), behind.1)
  none-refused all told fine (first ∷ more) (Ok (Evidence evidence), placed, is) = absurd (not-caught told fine (ap (λ (r : Report). r.status) is))
  none-refused all told fine (first ∷ more) (Err why, placed, is) = absurd (refused-some (codes "client refuses root") (of_root why) (sym (ap (λ (r : Report). r.status) is) ∙ fine))

  all-of-chain : (first head : SignedRoot) → IsFirst chain first → IsHead chain head → (last : SignedRoot) (roots : List SignedRoot) → FollowOn hash last roots → last_epoch last.body.epoch roots ≤ head.body.epoch
      → AllByRecursion IsUnrefused roots → AllByRecursion (IsOfChain chain) roots
  all-of-chain first head starts is last [] follow most all = tt
  all-of-chain first head starts is last (root ∷ more) (linked, follow) most ((place, at, not), all) =
      (of-place hash chain root first head place starts is (omega (arith, most, below-last hash chain root more follow)) at not, all-of-chain first head starts is root more follow most all)

  of-chain : (roots : List SignedRoot) → AllByRecursion IsUnrefused roots → AreWanted hash chain wanted roots → AllByRecursion (IsOfChain chain) roots
  of-chain [] all are = tt
  of-chain (root ∷ more) ((place, at, not), all) ((begin, follow), enough, (head, is, most)) =
      let first = first-of chain.roots (length chain.roots - 1) head is in
      (of-place hash chain root first.0 head place first.1 is (omega (arith, most, below-last hash chain root more follow)) at not, all-of-chain first.0 head first.1 is root more follow most all)

  pub told_are_of_chain : (roots : List SignedRoot) (told : Report) → AreTold hash verified chain wanted roots roots told → told.status ≡ 0 → AllByRecursion (IsOfChain chain) roots
  told_are_of_chain roots told are fine = let none = none-refused roots told fine roots are in of-chain roots none.0 none.1
