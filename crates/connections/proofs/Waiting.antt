-- At most 64 KiB and one answer wait for a connection.
use Rattle.std.proofs.Common.{◌≡◌, ℕ, ◌+◌, ◌≤◌, [], ◌∷◌, ◌++◌, Bool, true, false, Option, Some, None, length, refl, subst, arith}
use Rattle.std.proofs.lemmas.Bool.{eqb-true}
use Rattle.std.proofs.lemmas.List.{length-append}
use Rattle.std.specs.Prelude.{◌==◌}
use Rattle.connections.specs.declared.ending.SessionFault.TheVariants as fault
use Rattle.connections.specs.declared.loop_limits.TheConstants.{FULL_OUTPUT}
use Rattle.connections.specs.Histories.{At, Ordered, GoesOn, Syncs, NoneWaits, On, Deed, Comes, Opens, Refuses, Reads, IsOver, IsSilent, Hears, Misses, Lacks, Takes, TakesNone, Fails, Ends, Closes, History, Course, course, done_at}
use Rattle.connections.specs.Laws.{AlwaysWaitWithin, AreAnsweredWithin, IsAnsweredWithin, WaitsWithin}
use Rattle.connections.specs.Soundness.{IsDue, IsSoundHistory}
use Rattle.connections.proofs.Steps.{rested_so}

stays_within : (idle most : ℕ) (acts : History) (place : ℕ) (deed : Deed) (there : Option Course) → IsDue idle acts place deed there → IsAnsweredWithin most deed → WaitsWithin most there → WaitsWithin most (done_at deed there)
stays_within idle most acts place Comes None due few waits = omega arith
stays_within idle most acts place Comes (Some of) due few waits = omega arith
stays_within idle most acts place Opens None due few waits = tt
stays_within idle most acts place Opens (Some of) due few waits = waits
stays_within idle most acts place (Refuses why) None due few waits = tt
stays_within idle most acts place (Refuses fault.Memory) (Some of) due few waits = waits
stays_within idle most acts place (Refuses fault.Refused) (Some of) due few waits = waits
stays_within idle most acts place (Reads bytes) None due few waits = tt
stays_within idle most acts place (Reads bytes) (Some of) due few waits = waits
stays_within idle most acts place IsOver None due few waits = tt
stays_within idle most acts place IsOver (Some of) due few waits = waits
stays_within idle most acts place IsSilent None due few waits = tt
stays_within idle most acts place IsSilent (Some of) due few waits = waits
stays_within idle most acts place (Hears part reply) None due few waits = tt
stays_within idle most acts place (Hears part reply) (Some of) ((well, room, some, next), hearing) few waits =
    let grown : length (of.answered ++ reply) ≡ length of.answered + length reply = length-append of.answered reply in
    omega arith
stays_within idle most acts place (Misses part why) None due few waits = tt
stays_within idle most acts place (Misses part fault.Memory) (Some of) due few waits = waits
stays_within idle most acts place (Misses part fault.Refused) (Some of) due few waits = waits
stays_within idle most acts place Lacks None due few waits = tt
stays_within idle most acts place Lacks (Some of) due few waits = waits
stays_within idle most acts place (Takes bytes) None due few waits = tt
stays_within idle most acts place (Takes bytes) (Some of) due few waits =
    let grown : length (of.taken ++ bytes) ≡ length of.taken + length bytes = length-append of.taken bytes in
    let before : length of.answered ≤ length of.taken + (FULL_OUTPUT + most) = waits in
    omega arith
stays_within idle most acts place TakesNone None due few waits = tt
stays_within idle most acts place TakesNone (Some of) due few waits = waits
stays_within idle most acts place Fails None due few waits = tt
stays_within idle most acts place Fails (Some of) due few waits = waits
stays_within idle most acts place Ends None due few waits = tt
stays_within idle most acts place Ends (Some of) due few waits = waits
stays_within idle most acts place (Closes why) None due few waits = tt
stays_within idle most acts place (Closes why) (Some of) due few waits = tt

-- by whether the deed is at this place
at_place : (idle most : ℕ) (acts : History) (deed : Deed) (other place : ℕ) (here : Bool) → (other == place) ≡ here → IsDue idle acts other deed (course acts other) → IsAnsweredWithin most deed
    → WaitsWithin most (course acts place) → WaitsWithin most (course (On other deed ∷ acts) place)
at_place idle most acts deed other place true is due few waits =
    rw is (stays_within idle most acts place deed (course acts place) (subst (λ (n : ℕ). IsDue idle acts n deed (course acts n)) (eqb-true other place is) due) few waits)
at_place idle most acts deed other place false is due few waits = rw is waits

waits_now : (idle most : ℕ) (acts : History) (place : ℕ) → IsSoundHistory idle acts → AreAnsweredWithin most acts → WaitsWithin most (course acts place)
waits_now idle most [] place sound few = tt
waits_now idle most (At pause now ∷ acts) place sound few = rested_so now (course acts place) (WaitsWithin most) (λ of waits. waits) (waits_now idle most acts place sound.1 few)
waits_now idle most (Ordered ∷ acts) place sound few = waits_now idle most acts place sound few
waits_now idle most (Syncs kept ∷ acts) place sound few = waits_now idle most acts place sound.1 few
waits_now idle most (GoesOn ∷ acts) place sound few = waits_now idle most acts place sound.1 few
waits_now idle most (NoneWaits ∷ acts) place sound few = waits_now idle most acts place sound.1 few
waits_now idle most (On other deed ∷ acts) place sound few =
    at_place idle most acts deed other place (other == place) refl sound.0.0 few.0 (waits_now idle most acts place sound.1 few.1)

-- ---- what is so of a history is so at each earlier time

pub sound_before : (idle : ℕ) (later earlier : History) → IsSoundHistory idle (later ++ earlier) → IsSoundHistory idle earlier
sound_before idle [] earlier sound = sound
sound_before idle (At pause now ∷ later) earlier sound = sound_before idle later earlier sound.1
sound_before idle (Ordered ∷ later) earlier sound = sound_before idle later earlier sound
sound_before idle (Syncs kept ∷ later) earlier sound = sound_before idle later earlier sound.1
sound_before idle (GoesOn ∷ later) earlier sound = sound_before idle later earlier sound.1
sound_before idle (NoneWaits ∷ later) earlier sound = sound_before idle later earlier sound.1
sound_before idle (On place deed ∷ later) earlier sound = sound_before idle later earlier sound.1

few_before : (most : ℕ) (later earlier : History) → AreAnsweredWithin most (later ++ earlier) → AreAnsweredWithin most earlier
few_before most [] earlier few = few
few_before most (At pause now ∷ later) earlier few = few_before most later earlier few
few_before most (Ordered ∷ later) earlier few = few_before most later earlier few
few_before most (Syncs kept ∷ later) earlier few = few_before most later earlier few
few_before most (GoesOn ∷ later) earlier few = few_before most later earlier few
few_before most (NoneWaits ∷ later) earlier few = few_before most later earlier few
few_before most (On place deed ∷ later) earlier few = few_before most later earlier few.1

pub always_wait_within : (idle most : ℕ) (acts : History) → IsSoundHistory idle acts → AreAnsweredWithin most acts → AlwaysWaitWithin most acts
always_wait_within idle most acts sound few later earlier place split =
    waits_now idle most earlier place (sound_before idle later earlier (subst (IsSoundHistory idle) split sound)) (few_before most later earlier (subst (AreAnsweredWithin most) split few))
