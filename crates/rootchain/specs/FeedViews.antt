-- What is held, by a feed's stage and its bytes; and what its answers say.
use Rattle.std.specs.Prelude.{◌≡◌, ◌≢◌, ◌⊎◌, ℕ, ◌-◌, ◌<◌, ◌≤◌, Bool, true, false, List, [], ◌∷◌, length}
use Rattle.rootchain.specs.declared.root_feed.Next.{Next}
use Rattle.rootchain.specs.declared.root_feed.Next.TheVariants as next
use Rattle.rootchain.specs.declared.root_feed.Stage.{Stage}
use Rattle.rootchain.specs.declared.root_feed.Stage.TheVariants as stage
use Rattle.rootchain.specs.RootFeeds.{front, told_from, FeedState, Bad, Counts, Failed, Overlong, Owes, Part, TooLong, Whole}
use Rattle.rootchain.specs.SignedRoots.{IsSignedRoot}

abbrev pub held_of : Stage → List ℕ → FeedState
held_of stage.Count bytes = Counts bytes
held_of (stage.Roots left) bytes = Owes left bytes
held_of (stage.Overlong left missing) bytes = Overlong left missing
held_of stage.Failed bytes = Failed

-- what stands first in the bytes of a list of which so many roots are still to come, and what is then held
abbrev pub IsFront : ℕ → List ℕ → Next → FeedState → Type 0
IsFront left bytes (next.Root root rest) after = (front bytes ≡ Whole root rest.now) × (after ≡ Owes (left - 1) [])
IsFront left bytes next.Wait after = ((front bytes ≡ Part) × (after ≡ Owes left bytes))
    ⊎ ((missing : ℕ) × (0 < missing) × (front bytes ≡ TooLong missing) × (after ≡ Overlong left missing))
IsFront left bytes next.Failed after = (front bytes ≡ Bad) × (after ≡ Failed)

-- what comes of a piece while so many bytes of a root whose signature is too long are still to come
abbrev pub TellsPassed : ℕ → ℕ → List ℕ → Next → Stage → Type 0
TellsPassed left missing piece (next.Root root rest) after = ⊥
TellsPassed left missing piece next.Wait after = (length piece < missing) × (after ≡ stage.Overlong left (missing - length piece))
TellsPassed left missing piece next.Failed after = (missing ≤ length piece) × (after ≡ stage.Failed)

-- the first root that a piece makes whole, and what is then held; the others are in the bytes that are left
abbrev pub TellsNext : FeedState → List ℕ → Next → FeedState → Type 0
TellsNext held piece (next.Root root rest) after = told_from held piece ≡ (let more = told_from after rest.now in (root ∷ more.0, more.1))
TellsNext held piece next.Wait after = (told_from held piece ≡ ([], after)) × (after ≢ Failed)
TellsNext held piece next.Failed after = (told_from held piece ≡ ([], Failed)) × (after ≡ Failed)

-- a piece that makes no root whole is held, or nothing of it
abbrev pub TakesPart : FeedState → List ℕ → Bool → FeedState → Type 0
TakesPart held piece true after = (told_from held piece ≡ ([], after)) × (after ≢ Failed)
TakesPart held piece false after = after ≡ held

-- a root that is told has a spelling
abbrev pub HasSpelledRoot : Next → Type 0
HasSpelledRoot (next.Root root rest) = IsSignedRoot root
HasSpelledRoot next.Wait = Unit
HasSpelledRoot next.Failed = Unit
