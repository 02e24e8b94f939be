-- Each round gives each connection its turn.
use Rattle.std.specs.Prelude.{◌≡◌, ◌≢◌, ◌⊎◌, ◌+◌, ◌<◌, ℕ, [], ◌∷◌, length, true, None, ⊤}
use Rattle.connections.specs.declared.ending.Ending.{Ending}
use Rattle.connections.specs.declared.loop_limits.TheConstants.{FULL_OUTPUT}
use Rattle.connections.specs.Endings.{IsClosing, IsFinished, IsStopped}
use Rattle.connections.specs.Histories.{At, Ordered, GoesOn, Syncs, NoneWaits, On, History, Course, Hearing, IfThere, course, stage}
use Rattle.connections.specs.Rounds.{closes, gives_turn, offers, InRound}
use Rattle.connections.specs.Soundness.{IsHeard, IsReason, IsTaken}

-- ---- what happened in a round

-- in this round, no connection waited to be taken
abbrev pub NoneWaited : History → Type 0
NoneWaited [] = ⊥
NoneWaited (At pause now ∷ before) = ⊥
NoneWaited (Ordered ∷ before) = NoneWaited before
NoneWaited (Syncs kept ∷ before) = NoneWaited before
NoneWaited (GoesOn ∷ before) = NoneWaited before
NoneWaited (NoneWaits ∷ before) = ⊤
NoneWaited (On place deed ∷ before) = NoneWaited before

-- in this round, no stop was ordered so far
abbrev pub NoneOrdered : History → Type 0
NoneOrdered [] = ⊥
NoneOrdered (At pause now ∷ before) = ⊥
NoneOrdered (Ordered ∷ before) = NoneOrdered before
NoneOrdered (GoesOn ∷ before) = ⊤
NoneOrdered (Syncs kept ∷ before) = NoneOrdered before
NoneOrdered (NoneWaits ∷ before) = NoneOrdered before
NoneOrdered (On place deed ∷ before) = NoneOrdered before

-- ---- the turn of one connection

-- so much that was answered waits for the connection that nothing is read or heard
abbrev pub IsFull : Course → Type 0
IsFull of = length of.taken + FULL_OUTPUT < length of.answered

-- unless the connection is full, all that was read is heard; and it was asked for more, or it sends no more, or its session
-- heard some of the rest in this round
abbrev pub IsAttended : History → ℕ → Course → Type 0
IsAttended acts place of = IsFull of ⊎ (IsHeard of × ((of.is_over ≡ true) ⊎ InRound gives_turn acts place))

-- there is no reason to close the connection
abbrev pub IsNotDue : ℕ → History → Course → Type 0
IsNotDue idle acts of = (why : Ending) → ¬ IsReason idle acts why of

-- all that was answered is taken, or some of it was offered, and there is no reason to close the connection
abbrev pub IsServed : ℕ → History → ℕ → Course → Type 0
IsServed idle acts place of = (IsTaken of ⊎ InRound offers acts place) × IsNotDue idle acts of

-- a place has a connection, or had one in this round
abbrev pub IsUsed : History → ℕ → Type 0
IsUsed acts place = (course acts place ≢ None) ⊎ InRound closes acts place

-- ---- a round

-- each connection had its turn to send
abbrev pub AreAttended : History → Type 0
AreAttended acts = (place : ℕ) → IfThere (course acts place) (IsAttended acts place)

-- each connection had its turn to take
abbrev pub AreServed : ℕ → History → Type 0
AreServed idle acts = (place : ℕ) → IfThere (course acts place) (IsServed idle acts place)

-- so many places are in use
abbrev pub AreUsed : ℕ → History → Type 0
AreUsed size acts = (place : ℕ) → place < size → IsUsed acts place

-- the connections of a round are heard: none is left waiting for a free place, and each had its turn to send, unless
-- a stop was ordered
abbrev pub AreHeard : ℕ → ℕ → History → Type 0
AreHeard count size acts = (IsClosing count acts ⊎ NoneWaited acts ⊎ AreUsed size acts) × (IsStopped acts ⊎ (NoneOrdered acts × AreAttended acts))

-- the round is over: what was answered was put on its disk, and each connection had its turn to take
abbrev pub IsWhole : ℕ → History → Type 0
IsWhole idle acts = (stage acts ≢ Hearing) × AreServed idle acts

-- Each round was whole before the next, and left something to be done, of so many places, where so many connections
-- may be taken and one may be idle for so long.
abbrev pub IsFair : ℕ → ℕ → ℕ → History → Type 0
IsFair idle count size [] = ⊤
IsFair idle count size (At pause now ∷ before) = IsWhole idle before × (¬ IsFinished count before) × IsFair idle count size before
IsFair idle count size (Ordered ∷ before) = IsFair idle count size before
IsFair idle count size (Syncs kept ∷ before) = AreHeard count size before × IsFair idle count size before
IsFair idle count size (GoesOn ∷ before) = IsFair idle count size before
IsFair idle count size (NoneWaits ∷ before) = IsFair idle count size before
IsFair idle count size (On place deed ∷ before) = IsFair idle count size before
