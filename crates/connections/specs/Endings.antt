-- When the loop over connections has ended.
use Rattle.std.specs.Prelude.{◌≡◌, ◌⊎◌, ◌+◌, ◌-◌, ◌^◌, ◌<◌, ◌≤◌, ℕ, zero, suc, [], ◌∷◌, Some, None, ⊤}
use Rattle.connections.specs.Histories.{At, Ordered, GoesOn, Syncs, NoneWaits, On, Deed, Comes, Opens, Refuses, Reads, IsOver, IsSilent, Hears, Misses, Lacks, Takes, TakesNone, Fails, Ends, Closes, History, course, stopped}

-- how many connections come by a deed
abbrev pub newcomers : Deed → ℕ
newcomers Comes = 1
newcomers Opens = 0
newcomers (Refuses why) = 0
newcomers (Reads bytes) = 0
newcomers IsOver = 0
newcomers IsSilent = 0
newcomers (Hears part reply) = 0
newcomers (Misses part why) = 0
newcomers Lacks = 0
newcomers (Takes bytes) = 0
newcomers TakesNone = 0
newcomers Fails = 0
newcomers Ends = 0
newcomers (Closes why) = 0

-- how many connections were taken
abbrev pub comers : History → ℕ
comers [] = 0
comers (At pause now ∷ before) = comers before
comers (Ordered ∷ before) = comers before
comers (Syncs kept ∷ before) = comers before
comers (GoesOn ∷ before) = comers before
comers (NoneWaits ∷ before) = comers before
comers (On place deed ∷ before) = comers before + newcomers deed

-- how many rounds began
abbrev pub rounds : History → ℕ
rounds [] = 0
rounds (At pause now ∷ before) = rounds before + 1
rounds (Ordered ∷ before) = rounds before
rounds (Syncs kept ∷ before) = rounds before
rounds (GoesOn ∷ before) = rounds before
rounds (NoneWaits ∷ before) = rounds before
rounds (On place deed ∷ before) = rounds before

-- how many connections may be taken; 0 stands for the most that can be counted
abbrev pub most_comers : ℕ → ℕ
most_comers zero = 2 ^ 64 - 1
most_comers (suc count) = suc count

-- no more than may be taken were taken
abbrev pub AreWithin : ℕ → History → Type 0
AreWithin count acts = comers acts ≤ most_comers count

-- all happened at places below so many
abbrev pub AreInside : ℕ → History → Type 0
AreInside size [] = ⊤
AreInside size (At pause now ∷ before) = AreInside size before
AreInside size (Ordered ∷ before) = AreInside size before
AreInside size (Syncs kept ∷ before) = AreInside size before
AreInside size (GoesOn ∷ before) = AreInside size before
AreInside size (NoneWaits ∷ before) = AreInside size before
AreInside size (On place deed ∷ before) = (place < size) × AreInside size before

-- no place has a connection
abbrev pub AreGone : History → Type 0
AreGone acts = (place : ℕ) → course acts place ≡ None

-- a stop was ordered
abbrev pub IsStopped : History → Type 0
IsStopped acts = (since : ℕ) × (stopped acts ≡ Some since)

-- no more connections are taken: a stop was ordered, or as many were taken as may be
abbrev pub IsClosing : ℕ → History → Type 0
IsClosing count acts = IsStopped acts ⊎ (comers acts ≡ most_comers count)

-- nothing is left to be done: no more connections are taken, and those that were taken are gone
abbrev pub IsFinished : ℕ → History → Type 0
IsFinished count acts = AreGone acts × IsClosing count acts

-- nothing is left to be done, or the loop had all its rounds
abbrev pub HasEnded : ℕ → History → Type 0
HasEnded count acts = IsFinished count acts ⊎ (rounds acts ≡ 2 ^ 64 - 1)
