-- For how many milliseconds a connection may stay as it is, and at most so many; and for how many a round may wait.
use Rattle.std.specs.Prelude.{◌≡◌, ◌↔◌, ◌≤◌, ℕ, ◌-◌, ◌==◌, if◌then◌else◌, min, Bool, true, false, Option, None, Some}
use Rattle.connections.specs.declared.loop_limits.TheConstants.{LAST_MILLISECONDS, LONGEST_WAIT}
use Rattle.connections.specs.Histories.{History, Course, IfThere, clock, course, stopped}
use Rattle.connections.specs.Rounds.{was_busy}

-- until the last time after an order to stop is over
abbrev pub until_stopped : ℕ → Option ℕ → ℕ → ℕ
until_stopped now None most = most
until_stopped now (Some since) most = min most (LAST_MILLISECONDS - (now - since))

-- until it was idle for as long as is allowed
abbrev pub until_idle : ℕ → ℕ → Option ℕ → ℕ → ℕ
until_idle now idle None most = most
until_idle now idle (Some since) most = if idle == 0 then most else min most (idle - (now - since))

-- until the first of both
abbrev pub until_due : ℕ → ℕ → Option ℕ → Option ℕ → ℕ → ℕ
until_due now idle stop idle_since most = until_idle now idle idle_since (until_stopped now stop most)

-- a connection may stay as it is for so long: it is not due to be closed sooner
abbrev pub MayStay : ℕ → History → ℕ → Course → Type 0
MayStay idle before most of = most ≤ until_due (clock before) idle (stopped before) of.idle_since most

-- a round may wait for so long: no longer than any round, and each connection may stay as it is
abbrev pub MayWait : ℕ → History → ℕ → Type 0
MayWait idle before most = (most ≤ LONGEST_WAIT) × ((place : ℕ) → IfThere (course before place) (MayStay idle before most))

-- so long does the next round wait at most: not at all if something was done, and else as long as it may
abbrev pub IsPause : ℕ → History → ℕ → Type 0
IsPause idle before pause = (was_busy before ≡ true → pause ≡ 0) × (was_busy before ≡ false → (most : ℕ) → (most ≤ pause) ↔ MayWait idle before most)

-- how long the next round waits, by whether something was done, and else so long
abbrev pub pause_of : Bool → ℕ → ℕ
pause_of true pause = 0
pause_of false pause = pause
