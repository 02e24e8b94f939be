-- The bytes of each connection stay in order.
use Rattle.std.proofs.Common.{◌≡◌, ℕ, List, [], ◌∷◌, ◌++◌, Bool, true, false, Option, Some, None, refl, sym, ap, subst, ◌∙◌, append_assoc}
use Rattle.std.proofs.lemmas.Bool.{eqb-true}
use Rattle.std.specs.Prelude.{◌==◌}
use Rattle.connections.specs.declared.ending.Ending.TheVariants.{Done}
use Rattle.connections.specs.declared.ending.SessionFault.TheVariants as fault
use Rattle.connections.specs.Histories.{At, Ordered, GoesOn, Syncs, NoneWaits, On, Deed, Comes, Opens, Refuses, Reads, IsOver, IsSilent, Hears, Misses, Lacks, Takes, TakesNone, Fails, Ends, Closes, History, Course, course, done_at}
use Rattle.connections.specs.Laws.{AreInOrder}
use Rattle.connections.specs.Soundness.{Here, IsDue, IsHeard, IsSoundHistory, IsTaken}
use Rattle.connections.proofs.Steps.{rested_so}

stays_in_order : (idle : ℕ) (acts : History) (place : ℕ) (deed : Deed) (there : Option Course) → IsDue idle acts place deed there → AreInOrder there → AreInOrder (done_at deed there)
stays_in_order idle acts place Comes None due order = ([], [], refl, refl)
stays_in_order idle acts place Comes (Some of) due order = ([], [], refl, refl)
stays_in_order idle acts place Opens None due order = tt
stays_in_order idle acts place Opens (Some of) due order = order
stays_in_order idle acts place (Refuses why) None due order = tt
stays_in_order idle acts place (Refuses fault.Memory) (Some of) due order = order
stays_in_order idle acts place (Refuses fault.Refused) (Some of) due order = order
stays_in_order idle acts place (Reads bytes) None due order = tt
stays_in_order idle acts place (Reads bytes) (Some of) (may, hearing, some, few) (untold, unheard, told, heard) = (untold, bytes, told, ap (λ (t : List ℕ). t ++ bytes) may.1)
stays_in_order idle acts place IsOver None due order = tt
stays_in_order idle acts place IsOver (Some of) due order = order
stays_in_order idle acts place IsSilent None due order = tt
stays_in_order idle acts place IsSilent (Some of) due order = order
stays_in_order idle acts place (Hears part reply) None due order = tt
stays_in_order idle acts place (Hears part reply) (Some of) ((well, room, some, (rest, split)), hearing) (untold, unheard, told, heard) = (
  untold ++ reply,
  rest,
  ap (λ (t : List ℕ). t ++ reply) told ∙ append_assoc of.taken untold reply,
  split ∙ sym (append_assoc of.heard part rest),
)
stays_in_order idle acts place (Misses part why) None due order = tt
stays_in_order idle acts place (Misses part fault.Memory) (Some of) due order = order
stays_in_order idle acts place (Misses part fault.Refused) (Some of) due order = order
stays_in_order idle acts place Lacks None due order = tt
stays_in_order idle acts place Lacks (Some of) due order = order
stays_in_order idle acts place (Takes bytes) None due order = tt
stays_in_order idle acts place (Takes bytes) (Some of) (may, telling, some, (rest, split)) (untold, unheard, told, heard) = (rest, unheard, split ∙ sym (append_assoc of.taken bytes rest), heard)
stays_in_order idle acts place TakesNone None due order = tt
stays_in_order idle acts place TakesNone (Some of) due order = order
stays_in_order idle acts place Fails None due order = tt
stays_in_order idle acts place Fails (Some of) due order = order
stays_in_order idle acts place Ends None due order = tt
stays_in_order idle acts place Ends (Some of) due order = order
stays_in_order idle acts place (Closes why) None due order = tt
stays_in_order idle acts place (Closes why) (Some of) due order = tt

-- by whether the deed is at this place
at_place : (idle : ℕ) (acts : History) (deed : Deed) (other place : ℕ) (here : Bool) → (other == place) ≡ here → IsDue idle acts other deed (course acts other) → AreInOrder (course acts place)
    → AreInOrder (course (On other deed ∷ acts) place)
at_place idle acts deed other place true is due order =
    rw is (stays_in_order idle acts place deed (course acts place) (subst (λ (n : ℕ). IsDue idle acts n deed (course acts n)) (eqb-true other place is) due) order)
at_place idle acts deed other place false is due order = rw is order

pub in_order : (idle : ℕ) (acts : History) (place : ℕ) → IsSoundHistory idle acts → AreInOrder (course acts place)
in_order idle [] place sound = tt
in_order idle (At pause now ∷ acts) place sound = rested_so now (course acts place) AreInOrder (λ of order. order) (in_order idle acts place sound.1)
in_order idle (Ordered ∷ acts) place sound = in_order idle acts place sound
in_order idle (Syncs kept ∷ acts) place sound = in_order idle acts place sound.1
in_order idle (GoesOn ∷ acts) place sound = in_order idle acts place sound.1
in_order idle (NoneWaits ∷ acts) place sound = in_order idle acts place sound.1
in_order idle (On other deed ∷ acts) place sound = at_place idle acts deed other place (other == place) refl sound.0.0 (in_order idle acts place sound.1)

whole : (idle : ℕ) (acts : History) (place : ℕ) (there : Option Course) → IsDue idle acts place (Closes Done) there → Here there (λ of. IsHeard of × IsTaken of)
whole idle acts place None due = due
whole idle acts place (Some of) (shut, (fine, over, heard, told)) = (heard, told)

pub done_whole : (idle : ℕ) (acts : History) (place : ℕ) → IsSoundHistory idle (On place (Closes Done) ∷ acts) → Here (course acts place) (λ of. IsHeard of × IsTaken of)
done_whole idle acts place sound = whole idle acts place (course acts place) sound.0.0
