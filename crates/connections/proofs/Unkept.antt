-- What could not be kept is known by the answers of sessions.
use Rattle.std.proofs.Common.{◌≡◌, ℕ, List, [], ◌∷◌, ◌||◌, Bool, true, false, refl, sym, ap, ◌∙◌}
use Rattle.std.specs.Prelude.{if◌then◌else◌}
use mathlib.Core.Bool.{or-true, or_assoc}
use Rattle.connections.specs.declared.ending.SessionFault.{SessionFault}
use Rattle.connections.specs.Histories.{At, Ordered, GoesOn, Syncs, NoneWaits, On, Comes, Opens, Refuses, Reads, IsOver, IsSilent, Hears, Misses, Lacks, Takes, TakesNone, Fails, Ends, Closes, History, Leads}
use Rattle.connections.specs.Telling.{answered_unkept}

-- what is told after a round, by what was so before: whether what was answered was kept, and whether an answer or the
-- sessions before them said that something could not be
told_now : (kept unsynced answered before answered_new : Bool) → (answered ≡ true → answered_new ≡ true)
    → (((unsynced || answered) || before) || (if kept then (answered_new || before) else true)) ≡ (((if kept then unsynced else true) || answered_new) || before)
told_now true true answered before answered_new on = refl
told_now true false true before answered_new on = rw (on refl) refl
told_now true false false true answered_new on = sym (or-true answered_new)
told_now true false false false answered_new on = refl
told_now false unsynced answered before answered_new on = or-true ((unsynced || answered) || before)

pub told_on : (kept unsynced answered before told unsynced_new answered_new any told_new : Bool) → told ≡ ((unsynced || answered) || before) → unsynced_new ≡ (if kept then unsynced else true)
    → (answered ≡ true → answered_new ≡ true) → any ≡ (answered_new || before) → told_new ≡ (told || (if kept then any else true)) → told_new ≡ ((unsynced_new || answered_new) || before)
told_on kept unsynced answered before told unsynced_new answered_new any told_new was sync on follows is = rw (is, was, sync, follows) (told_now kept unsynced answered before answered_new on)

module _ {S : Type 0} (opens : S → ℕ → S → Type 0) (refuses : S → ℕ → SessionFault → Type 0) (hears : S → ℕ → List ℕ → List ℕ → S → Type 0) (misses : S → ℕ → List ℕ → SessionFault → S → Type 0) (ends : S → ℕ → S → Type 0)
    (is_unkept : List ℕ → Bool) (any_unkept : S → Bool)
    (opened : (before : S) (session : ℕ) (after : S) → opens before session after → any_unkept after ≡ any_unkept before)
    (heard : (before : S) (session : ℕ) (part reply : List ℕ) (after : S) → hears before session part reply after → any_unkept after ≡ (is_unkept reply || any_unkept before))
    (missed : (before : S) (session : ℕ) (part : List ℕ) (why : SessionFault) (after : S) → misses before session part why after → any_unkept after ≡ any_unkept before)
    (ended : (before : S) (session : ℕ) (after : S) → ends before session after → any_unkept after ≡ any_unkept before) where
  -- sessions know whether one of them was answered so
  pub follows : (start : S) (acts : History) (after : S) → Leads opens refuses hears misses ends start acts after → any_unkept after ≡ (answered_unkept is_unkept acts || any_unkept start)
  follows start [] after same = ap any_unkept same
  follows start (At pause now ∷ acts) after leads = follows start acts after leads
  follows start (Ordered ∷ acts) after leads = follows start acts after leads
  follows start (GoesOn ∷ acts) after leads = follows start acts after leads
  follows start (Syncs kept ∷ acts) after leads = follows start acts after leads
  follows start (NoneWaits ∷ acts) after leads = follows start acts after leads
  follows start (On place Comes ∷ acts) after leads = follows start acts after leads
  follows start (On place Opens ∷ acts) after (middle, leads, does) = opened middle place after does ∙ follows start acts middle leads
  follows start (On place (Refuses why) ∷ acts) after (leads, refused) = follows start acts after leads
  follows start (On place (Reads bytes) ∷ acts) after leads = follows start acts after leads
  follows start (On place IsOver ∷ acts) after leads = follows start acts after leads
  follows start (On place IsSilent ∷ acts) after leads = follows start acts after leads
  follows start (On place (Hears part reply) ∷ acts) after (middle, leads, does) =
      heard middle place part reply after does ∙ ap (λ (b : Bool). is_unkept reply || b) (follows start acts middle leads) ∙ sym (or_assoc (is_unkept reply) (answered_unkept is_unkept acts) (any_unkept start))
  follows start (On place (Misses part why) ∷ acts) after (middle, leads, does) = missed middle place part why after does ∙ follows start acts middle leads
  follows start (On place Lacks ∷ acts) after leads = follows start acts after leads
  follows start (On place (Takes bytes) ∷ acts) after leads = follows start acts after leads
  follows start (On place TakesNone ∷ acts) after leads = follows start acts after leads
  follows start (On place Fails ∷ acts) after leads = follows start acts after leads
  follows start (On place Ends ∷ acts) after (middle, leads, does) = ended middle place after does ∙ follows start acts middle leads
  follows start (On place (Closes why) ∷ acts) after leads = follows start acts after leads
