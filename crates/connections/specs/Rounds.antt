-- What happened in a round so far.
use Rattle.std.specs.Prelude.{◌≡◌, ◌⊎◌, ℕ, [], ◌∷◌, Bool, true, false, ◌||◌}
use Rattle.connections.specs.Histories.{At, Ordered, GoesOn, Syncs, NoneWaits, On, Deed, Comes, Opens, Refuses, Reads, IsOver, IsSilent, Hears, Misses, Lacks, Takes, TakesNone, Fails, Ends, Closes, History}

-- a connection was asked for what it sends, or its session heard some of it
abbrev pub gives_turn : Deed → Bool
gives_turn Comes = false
gives_turn Opens = false
gives_turn (Refuses why) = false
gives_turn (Reads bytes) = true
gives_turn IsOver = true
gives_turn IsSilent = true
gives_turn (Hears part reply) = true
gives_turn (Misses part why) = false
gives_turn Lacks = false
gives_turn (Takes bytes) = false
gives_turn TakesNone = false
gives_turn Fails = false
gives_turn Ends = false
gives_turn (Closes why) = false

-- a connection was asked for what it sends
abbrev pub reads : Deed → Bool
reads Comes = false
reads Opens = false
reads (Refuses why) = false
reads (Reads bytes) = true
reads IsOver = true
reads IsSilent = true
reads (Hears part reply) = false
reads (Misses part why) = false
reads Lacks = false
reads (Takes bytes) = false
reads TakesNone = false
reads Fails = false
reads Ends = false
reads (Closes why) = false

-- a connection was offered what its session was answered
abbrev pub offers : Deed → Bool
offers Comes = false
offers Opens = false
offers (Refuses why) = false
offers (Reads bytes) = false
offers IsOver = false
offers IsSilent = false
offers (Hears part reply) = false
offers (Misses part why) = false
offers Lacks = false
offers (Takes bytes) = true
offers TakesNone = true
offers Fails = false
offers Ends = false
offers (Closes why) = false

-- a connection was closed
abbrev pub closes : Deed → Bool
closes Comes = false
closes Opens = false
closes (Refuses why) = false
closes (Reads bytes) = false
closes IsOver = false
closes IsSilent = false
closes (Hears part reply) = false
closes (Misses part why) = false
closes Lacks = false
closes (Takes bytes) = false
closes TakesNone = false
closes Fails = false
closes Ends = false
closes (Closes why) = true

-- something is done: a read that finds nothing does nothing, nor does an offer of which nothing is taken
abbrev pub does_something : Deed → Bool
does_something Comes = true
does_something Opens = true
does_something (Refuses why) = true
does_something (Reads bytes) = true
does_something IsOver = true
does_something IsSilent = false
does_something (Hears part reply) = true
does_something (Misses part why) = true
does_something Lacks = true
does_something (Takes bytes) = true
does_something TakesNone = false
does_something Fails = true
does_something Ends = true
does_something (Closes why) = true

-- in this round something was done, or no round began yet
abbrev pub was_busy : History → Bool
was_busy [] = true
was_busy (At pause now ∷ before) = false
was_busy (Ordered ∷ before) = was_busy before
was_busy (Syncs kept ∷ before) = was_busy before
was_busy (GoesOn ∷ before) = was_busy before
was_busy (NoneWaits ∷ before) = was_busy before
was_busy (On place deed ∷ before) = does_something deed || was_busy before

-- in this round, such a deed happened at a place
abbrev pub InRound : (Deed → Bool) → History → ℕ → Type 0
InRound is [] place = ⊥
InRound is (At pause now ∷ before) place = ⊥
InRound is (Ordered ∷ before) place = InRound is before place
InRound is (Syncs kept ∷ before) place = InRound is before place
InRound is (GoesOn ∷ before) place = InRound is before place
InRound is (NoneWaits ∷ before) place = InRound is before place
InRound is (On other deed ∷ before) place = ((other ≡ place) × (is deed ≡ true)) ⊎ InRound is before place

-- in this round, the connection at a place was not asked for what it sends
abbrev pub IsUnread : ℕ → History → Type 0
IsUnread place acts = ¬ InRound reads acts place
