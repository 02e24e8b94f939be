-- What a sound history says of the bytes of a connection.
use Rattle.std.specs.Prelude.{◌≡◌, ◌+◌, ◌≤◌, ℕ, List, [], ◌∷◌, ◌++◌, length, Option, Some, None, ⊤}
use Rattle.connections.specs.declared.loop_limits.TheConstants.{FULL_OUTPUT}
use Rattle.connections.specs.Histories.{At, Ordered, GoesOn, Syncs, NoneWaits, On, Deed, Comes, Opens, Refuses, Reads, IsOver, IsSilent, Hears, Misses, Lacks, Takes, TakesNone, Fails, Ends, Closes, History, Course, course}

-- what was taken is a beginning of what was answered, and what was heard a beginning of what was read
abbrev pub AreInOrder : Option Course → Type 0
AreInOrder None = ⊤
AreInOrder (Some of) = (untold unheard : List ℕ) × (of.answered ≡ of.taken ++ untold) × (of.read ≡ of.heard ++ unheard)

-- ---- how much waits for a connection

-- a part is answered with at most so many bytes
abbrev pub IsAnsweredWithin : ℕ → Deed → Type 0
IsAnsweredWithin most Comes = ⊤
IsAnsweredWithin most Opens = ⊤
IsAnsweredWithin most (Refuses why) = ⊤
IsAnsweredWithin most (Reads bytes) = ⊤
IsAnsweredWithin most IsOver = ⊤
IsAnsweredWithin most IsSilent = ⊤
IsAnsweredWithin most (Hears part reply) = length reply ≤ most
IsAnsweredWithin most (Misses part why) = ⊤
IsAnsweredWithin most Lacks = ⊤
IsAnsweredWithin most (Takes bytes) = ⊤
IsAnsweredWithin most TakesNone = ⊤
IsAnsweredWithin most Fails = ⊤
IsAnsweredWithin most Ends = ⊤
IsAnsweredWithin most (Closes why) = ⊤

-- each part that is heard is answered with at most so many bytes
abbrev pub AreAnsweredWithin : ℕ → History → Type 0
AreAnsweredWithin most [] = ⊤
AreAnsweredWithin most (At pause now ∷ before) = AreAnsweredWithin most before
AreAnsweredWithin most (Ordered ∷ before) = AreAnsweredWithin most before
AreAnsweredWithin most (Syncs kept ∷ before) = AreAnsweredWithin most before
AreAnsweredWithin most (GoesOn ∷ before) = AreAnsweredWithin most before
AreAnsweredWithin most (NoneWaits ∷ before) = AreAnsweredWithin most before
AreAnsweredWithin most (On place deed ∷ before) = IsAnsweredWithin most deed × AreAnsweredWithin most before

-- of what its session was answered, at most 64 KiB and so many bytes wait for a connection
abbrev pub WaitsWithin : ℕ → Option Course → Type 0
WaitsWithin most None = ⊤
WaitsWithin most (Some of) = length of.answered ≤ length of.taken + (FULL_OUTPUT + most)

-- the same of each connection, at each time of a history
abbrev pub AlwaysWaitWithin : ℕ → History → Type 0
AlwaysWaitWithin most acts = (later earlier : History) (place : ℕ) → acts ≡ later ++ earlier → WaitsWithin most (course earlier place)
