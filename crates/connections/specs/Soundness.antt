-- When a history is sound: each deed has its time.
use Rattle.std.specs.Prelude.{◌≡◌, ◌≢◌, ◌⊎◌, ◌+◌, ◌≤◌, ℕ, List, [], ◌∷◌, ◌++◌, length, true, false, Option, Some, None, ⊤}
use Rattle.connections.specs.declared.ending.Ending.{Ending}
use Rattle.connections.specs.declared.ending.Ending.TheVariants.{Done, Fault, Idle, Stopped, Unsynced, Memory, Refused}
use Rattle.textio.specs.declared.some_bytes.TheConstants.{PIECE_SIZE}
use Rattle.connections.specs.declared.loop_limits.TheConstants.{FULL_OUTPUT, LAST_MILLISECONDS}
use Rattle.connections.specs.Histories.{At, Ordered, GoesOn, Syncs, NoneWaits, On, Deed, Comes, Opens, Refuses, Reads, IsOver, IsSilent, Hears, Misses, Lacks, Takes, TakesNone, Fails, Ends, Closes, History, Course, Hearing, Telling, clock, course, just_taken, stage, stopped}
use Rattle.connections.specs.Pauses.{IsPause}
use Rattle.connections.specs.Rounds.{offers, reads, InRound, IsUnread}

-- there is a connection, and this is so of it
abbrev pub Here : Option Course → (Course → Type 0) → Type 0
Here None P = ⊥
Here (Some course) P = P course

-- all that was read is heard
abbrev pub IsHeard : Course → Type 0
IsHeard course = course.read ≡ course.heard

-- all that was answered is taken
abbrev pub IsTaken : Course → Type 0
IsTaken course = course.answered ≡ course.taken

-- of what was answered no more waits for the connection than it may
abbrev pub HasRoom : Course → Type 0
HasRoom course = length course.answered ≤ length course.taken + FULL_OUTPUT

-- these bytes are the next ones of those that go before the others
abbrev pub AreNext : List ℕ → List ℕ → List ℕ → Type 0
AreNext bytes all done = (rest : List ℕ) × (all ≡ done ++ (bytes ++ rest))

-- nothing has come of a connection but that it was taken
abbrev pub IsNew : Course → Type 0
IsNew course = course ≡ record just_taken { idle_since = course.idle_since }

-- no read or write failed, memory was not wanting, and the session refused nothing
abbrev pub IsFaultless : Course → Type 0
IsFaultless course = (course.has_failed ≡ false) × (course.is_wanting ≡ false) × (course.is_refused ≡ false)

-- a connection goes on
abbrev pub IsWell : Course → Type 0
IsWell course = (course.is_open ≡ true) × IsFaultless course

-- a connection may be read from: nothing that was read waits, and its answers leave room
abbrev pub MayBeRead : Course → Type 0
MayBeRead course = IsWell course × IsHeard course × HasRoom course × (course.is_over ≡ false)

-- a session may hear these bytes: they are the next ones, and its answers leave room
abbrev pub MayHear : Course → List ℕ → Type 0
MayHear course part = IsWell course × HasRoom course × (1 ≤ length part) × AreNext part course.read course.heard

-- a connection may be offered what its session was answered: some of it is not taken
abbrev pub MayBeOffered : Course → Type 0
MayBeOffered course = IsWell course × (course.answered ≢ course.taken)

-- why a connection is closed, where a connection may be idle for so long
abbrev pub IsReason : ℕ → History → Ending → Course → Type 0
IsReason idle before Done course = IsFaultless course × (course.is_over ≡ true) × IsHeard course × IsTaken course
IsReason idle before Fault course = course.has_failed ≡ true
IsReason idle before Idle course = IsFaultless course × (1 ≤ idle) × (since : ℕ) × (course.idle_since ≡ Some since) × (since + idle ≤ clock before)
IsReason idle before Stopped course = IsFaultless course × (since : ℕ) × (stopped before ≡ Some since) × (IsTaken course ⊎ (since + LAST_MILLISECONDS ≤ clock before))
IsReason idle before Unsynced course = IsFaultless course × (stage before ≡ Telling false) × (course.answered ≢ course.taken)
IsReason idle before Memory course = course.is_wanting ≡ true
IsReason idle before Refused course = course.is_refused ≡ true

-- the connection at a place had its turn in this round: no more is heard in it, and all that was answered is taken, or
-- some of it was offered
abbrev pub HadTurn : History → ℕ → Course → Type 0
HadTurn before place course = (stage before ≢ Hearing) × (IsTaken course ⊎ InRound offers before place)

-- the connection at a place may be closed for this reason: as idle, or for a stop, once it had its turn
abbrev pub MayBeClosed : ℕ → History → ℕ → Ending → Course → Type 0
MayBeClosed idle before place Done course = IsReason idle before Done course
MayBeClosed idle before place Fault course = IsReason idle before Fault course
MayBeClosed idle before place Idle course = IsReason idle before Idle course × HadTurn before place course
MayBeClosed idle before place Stopped course = IsReason idle before Stopped course × HadTurn before place course
MayBeClosed idle before place Unsynced course = IsReason idle before Unsynced course
MayBeClosed idle before place Memory course = IsReason idle before Memory course
MayBeClosed idle before place Refused course = IsReason idle before Refused course

-- Connections are heard: it is their time in the round, and no stop was ordered. After an order to stop none is taken
-- or read, and what was read and not heard stays unheard.
abbrev pub IsHearing : History → Type 0
IsHearing before = (stage before ≡ Hearing) × (stopped before ≡ None)

-- this is the time of a deed, at a place with this connection, after what happened
abbrev pub IsDue : ℕ → History → ℕ → Deed → Option Course → Type 0
IsDue idle before place Comes there = (there ≡ None) × IsHearing before
IsDue idle before place Opens there = Here there IsNew
IsDue idle before place (Refuses why) there = Here there IsNew
IsDue idle before place (Reads bytes) there = Here there (λ course. MayBeRead course × IsHearing before × (1 ≤ length bytes) × (length bytes ≤ PIECE_SIZE))
IsDue idle before place IsOver there = Here there (λ course. MayBeRead course × IsHearing before)
IsDue idle before place IsSilent there = Here there (λ course. MayBeRead course × IsHearing before)
IsDue idle before place (Hears part reply) there = Here there (λ course. MayHear course part × IsHearing before)
IsDue idle before place (Misses part why) there = Here there (λ course. MayHear course part × IsHearing before)
IsDue idle before place Lacks there = Here there (λ course. IsWell course × (course.read ≢ course.heard) × (¬ HasRoom course) × IsHearing before)
IsDue idle before place (Takes bytes) there = Here there (λ course. MayBeOffered course × (stage before ≡ Telling true) × (1 ≤ length bytes) × AreNext bytes course.answered course.taken)
IsDue idle before place TakesNone there = Here there (λ course. MayBeOffered course × (stage before ≡ Telling true))
IsDue idle before place Fails there = Here there (λ course. (MayBeRead course × IsHearing before) ⊎ (MayBeOffered course × (stage before ≡ Telling true)))
IsDue idle before place Ends there = Here there (λ course. course.is_open ≡ true)
IsDue idle before place (Closes why) there = Here there (λ course. (course.is_open ≡ false) × MayBeClosed idle before place why course)

-- no connection is asked a second time in a round for what it sends
abbrev pub IsOnce : History → ℕ → Deed → Type 0
IsOnce before place deed = reads deed ≡ true → IsUnread place before

-- Each deed had its time, and each round waited for as long as it may at most. What was answered is put on
-- its disk at most once in a round, once all are heard.
abbrev pub IsSoundHistory : ℕ → History → Type 0
IsSoundHistory idle [] = ⊤
IsSoundHistory idle (At pause now ∷ before) = IsPause idle before pause × IsSoundHistory idle before
IsSoundHistory idle (Ordered ∷ before) = IsSoundHistory idle before
IsSoundHistory idle (Syncs kept ∷ before) = (stage before ≡ Hearing) × IsSoundHistory idle before
IsSoundHistory idle (GoesOn ∷ before) = (stopped before ≡ None) × IsSoundHistory idle before
IsSoundHistory idle (NoneWaits ∷ before) = IsHearing before × IsSoundHistory idle before
IsSoundHistory idle (On place deed ∷ before) = (IsDue idle before place deed (course before place) × IsOnce before place deed) × IsSoundHistory idle before
