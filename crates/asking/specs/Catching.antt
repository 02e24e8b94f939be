-- How a client gets as far as an epoch: by so many lists of roots, and what is done between two of them.
use Rattle.std.specs.Prelude.{◌≡◌, ◌⊎◌, ℕ, zero, suc, ◌<◌, ◌≤◌, Bool, true, false, List, length}
use Rattle.wire.specs.Frames.{Frame}
use Rattle.wire.specs.Requests.{RequestContent}
use Rattle.asking.specs.Following.{HasGotTo, IsBelow, StopsList, TakesList}
use Rattle.asking.specs.Scenes.{Scene}
use Rattle.asking.specs.Watching.{AllStep, SomeStep}
use Rattle.asking.specs.declared.following.TheConstants.{MAX_LISTS}

module _ (hash : List ℕ → List ℕ) (accepted verified : List ℕ → List ℕ → List ℕ → Type 0) {T : Type 0} (exchanged : T → RequestContent → Frame → T → Type 0) (epoch : ℕ) where
  -- Whether one more list is needed: a list is taken, the chain is still below the epoch, and the monitors watch what is new.
  -- None is needed where the chain is there already, or a list gets it there, or no root comes.
  abbrev pub Advances : Scene T → Bool → Scene T → Type 0
  Advances before true after = IsBelow epoch before.client × ((taken : Scene T) × TakesList hash verified exchanged before true taken × IsBelow epoch taken.client × AllStep hash accepted exchanged (length taken.monitors) taken 0 after)
  Advances before false after = (HasGotTo epoch before.client × (after ≡ before))
      ⊎ (IsBelow epoch before.client × (TakesList hash verified exchanged before false after ⊎ (TakesList hash verified exchanged before true after × HasGotTo epoch after.client)))

  -- so many such lists, and more are needed
  abbrev pub AdvancesBy : ℕ → Scene T → Scene T → Type 0
  AdvancesBy zero before after = after ≡ before
  AdvancesBy (suc count) before after = (middle : Scene T) × Advances before true middle × AdvancesBy count middle after

  -- no more are needed after some of them; there are at most 1,024 lists
  abbrev pub CatchesUp : Scene T → Scene T → Type 0
  CatchesUp before after = (count : ℕ) × (count < MAX_LISTS) × ((middle : Scene T) × AdvancesBy count before middle × Advances middle false after)

  -- a frame stops it; or 1,024 lists are taken that do not get there
  abbrev pub StopsBelow : Scene T → Scene T → Type 0
  StopsBelow before after = (count : ℕ) × ((middle : Scene T) × AdvancesBy count before middle
      × (((count < MAX_LISTS) × IsBelow epoch middle.client × StopsList hash verified exchanged middle after) ⊎ ((count ≡ MAX_LISTS) × (after ≡ middle))))

  -- nothing of a list comes; or one is taken that does not get to the epoch, and the monitors are at some step
  abbrev pub AdvancesSome : Scene T → Scene T → Type 0
  AdvancesSome before after = (after ≡ before)
      ⊎ ((taken : Scene T) × TakesList hash verified exchanged before true taken × IsBelow epoch taken.client × SomeStep hash accepted exchanged (length taken.monitors) taken 0 after)

  -- some lists are taken, wholly; or what is done behind the last of them is at some point
  abbrev pub CatchesSome : Scene T → Scene T → Type 0
  CatchesSome before after = IsBelow epoch before.client × ((count : ℕ) × (middle : Scene T) × AdvancesBy count before middle
      × (((count ≤ MAX_LISTS) × (after ≡ middle)) ⊎ ((count < MAX_LISTS) × AdvancesSome middle after)))
