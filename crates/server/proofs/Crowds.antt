-- What is answered to many connections at once is answered one message after another.
use Rattle.std.proofs.Common.{◌≡◌, ◌≢◌, ℕ, ◌≤◌, List, [], ◌∷◌, ◌++◌, length, ◌||◌, Bool, true, false, None, Some, Result, Ok, Err, refl, sym, ap, subst, ◌∙◌, arith, inl, inr}
use Rattle.wire.specs.Frames.{Frame}
use Rattle.hub.specs.Events.{Happening, Open, Bytes, End, HubState, number}
use Rattle.hub.specs.Exchanges.{Exchange}
use Rattle.hub.specs.declared.hub_refusal.HubRefusal.{HubRefusal}
use Rattle.hub.specs.declared.hub_refusal.HubRefusal.TheVariants.{TooManySessions, SessionOpen, NoSession, Memory}
use Rattle.hub.specs.Happenings.{Does, DoesUnlessRefused, Happens}
use Rattle.hub.specs.Runs.{lines, AllAnswered, Line}
use Rattle.hub.proofs.Running.{answered_append}
use Rattle.connections.specs.Histories.{At, Ordered, GoesOn, Syncs, NoneWaits, On, Comes, Opens, Refuses, Reads, IsOver, IsSilent, Hears, Misses, Lacks, Takes, TakesNone, Fails, Ends, Closes, History, Leads}
use Rattle.connections.specs.declared.ending.SessionFault.TheVariants as fault
use Rattle.server.specs.Sessions.{AreLines, Ended, Heard, HubLeads, IsEventRefused, Loses, Missed, Opened, Proceeds, Unopened, session_fault}
use Rattle.server.proofs.Conversing.{all_replied}

-- there are some bytes
pub some_bytes : (bytes : List ℕ) → bytes ≢ [] → 1 ≤ length bytes
some_bytes [] some = absurd (some refl)
some_bytes (byte ∷ more) some = omega arith

module _ {S : Type 0} (answers : S → Frame → List ℕ → S → Type 0) where
  does_answered : (before : HubState S) (it : Happening) (xs : List Exchange) (after : HubState S) → Does answers before it xs after
      → AllAnswered answers before.service (lines (number it) xs) after.service
  does_answered before (Open session) xs after (none, does) =
      subst (λ (ys : List Exchange). AllAnswered answers before.service (lines session ys) after.service) (sym none) (ap (λ (h : HubState S). h.service) does)
  does_answered before (Bytes session piece) xs after (held, left, here, set, exchanged, leaves) =
      all_replied answers session before.service _ xs after.service left exchanged
  does_answered before (End session) xs after (none, does) =
      subst (λ (ys : List Exchange). AllAnswered answers before.service (lines session ys) after.service) (sym none) (ap (λ (h : HubState S). h.service) does)

  passes_answered : (before : HubState S) (it : Happening) (xs : List Exchange) (after : HubState S) → DoesUnlessRefused answers before it xs after
      → AllAnswered answers before.service (lines (number it) xs) after.service
  passes_answered before it xs after (inl (refusal, is, none, stays)) =
      subst (λ (ys : List Exchange). AllAnswered answers before.service (lines (number it) ys) after.service) (sym none) (ap (λ (h : HubState S). h.service) stays)
  passes_answered before it xs after (inr (is, does)) = does_answered before it xs after does

  loses_answered : (before : HubState S) (session : ℕ) (part : List ℕ) (xs : List Exchange) (after : HubState S) → Loses answers before session part xs after
      → AllAnswered answers before.service (lines session xs) after.service
  loses_answered before session part xs after (inl (due, takes, none, same)) =
      subst (λ (ys : List Exchange). AllAnswered answers before.service (lines session ys) after.service) (sym none) (ap (λ (h : HubState S). h.service) same)
  loses_answered before session part xs after (inr (held, left, here, set, exchanged, leaves)) = all_replied answers session before.service _ xs after.service left exchanged

  -- ---- one event

  pub opened : (before : HubState S) (session : ℕ) (output : List ℕ) (after : HubState S) (grown : List ℕ)
      → Happens answers before (Open session) output (Ok tt) after grown → Proceeds answers before (Open session) [] after
  opened before session output after grown (none, xs, does, same) = (none, (refl, does.1))

  pub ended : (before : HubState S) (session : ℕ) (output : List ℕ) (result : Result (Unit {0}) HubRefusal) (after : HubState S) (grown : List ℕ)
      → Happens answers before (End session) output result after grown → DoesUnlessRefused answers before (End session) [] after
  ended before session output (Ok done) after grown (none, xs, does, same) = inr (none, (refl, does.1))
  ended before session output (Err TooManySessions) after grown (is, same, kept) = inl (TooManySessions, is, refl, same)
  ended before session output (Err SessionOpen) after grown (is, same, kept) = inl (SessionOpen, is, refl, same)
  ended before session output (Err NoSession) after grown (is, same, kept) = inl (NoSession, is, refl, same)
  ended before session output (Err (Memory false)) after grown (takes, is, same, kept) = absurd takes
  ended before session output (Err (Memory true)) after grown (other, piece, xs, it, answered, kept) = absurd cc

  pub unopened : (before : HubState S) (session : ℕ) (output grown : List ℕ) (why : HubRefusal) (after : HubState S)
      → Happens answers before (Open session) output (Err why) after grown → (after ≡ before) × Unopened before session (session_fault why)
  unopened before session output grown TooManySessions after (is, same, kept) = (same, inr (λ none. absurd (let wrong : Some TooManySessions ≡ None = sym is ∙ none in cc)))
  unopened before session output grown SessionOpen after (is, same, kept) = (same, inr (λ none. absurd (let wrong : Some SessionOpen ≡ None = sym is ∙ none in cc)))
  unopened before session output grown NoSession after (is, same, kept) = (same, inr (λ none. absurd (let wrong : Some NoSession ≡ None = sym is ∙ none in cc)))
  unopened before session output grown (Memory false) after (takes, is, same, kept) = (same, is)
  unopened before session output grown (Memory true) after (other, piece, xs, it, answered, kept) = absurd cc

  pub missed : (before : HubState S) (session : ℕ) (part output grown : List ℕ) (why : HubRefusal) (after : HubState S)
      → Happens answers before (Bytes session part) output (Err why) after grown → Missed answers before session part (session_fault why) after
  missed before session part output grown TooManySessions after (is, same, kept) = (inr (λ none. absurd (let wrong : Some TooManySessions ≡ None = sym is ∙ none in cc)), same)
  missed before session part output grown SessionOpen after (is, same, kept) = (inr (λ none. absurd (let wrong : Some SessionOpen ≡ None = sym is ∙ none in cc)), same)
  missed before session part output grown NoSession after (is, same, kept) = (inr (λ none. absurd (let wrong : Some NoSession ≡ None = sym is ∙ none in cc)), same)
  missed before session part output grown (Memory false) after (takes, is, same, kept) = ([], inl (is, takes, refl, same))
  missed before session part output grown (Memory true) after (number, piece, xs, it, answered, kept) =
      let same_number : session ≡ number = cc in
      let same_piece : part ≡ piece = cc in
      rw (same_number, same_piece) (xs, inr answered)

  -- ---- a history

  module _ {X : Type 0} (hub_of : X → HubState S) where
    abbrev Told : X → History → X → Type 0
    Told start acts after = (ls : List Line) × AreLines answers (hub_of start) acts (hub_of after) ls × AllAnswered answers (hub_of start).service ls (hub_of after).service

    both : (start middle after : X) (one two : List Line) → AllAnswered answers (hub_of start).service one (hub_of middle).service
        → AllAnswered answers (hub_of middle).service two (hub_of after).service → AllAnswered answers (hub_of start).service (one ++ two) (hub_of after).service
    both start middle after one two first second = answered_append answers (hub_of start).service one (hub_of middle).service two (hub_of after).service first second

    -- an event without a message
    still : (start middle after : X) (ls : List Line) → AllAnswered answers (hub_of start).service ls (hub_of middle).service → AllAnswered answers (hub_of middle).service [] (hub_of after).service
        → AllAnswered answers (hub_of start).service ls (hub_of after).service
    still start middle after ls told same = subst (λ (s : S). AllAnswered answers (hub_of start).service ls s) (sym same) told

    ended_none : (middle after : X) (place : ℕ) → Ended answers (hub_of middle) place (hub_of after) → AllAnswered answers (hub_of middle).service [] (hub_of after).service
    ended_none middle after place (inl passes) = passes_answered (hub_of middle) (End place) [] (hub_of after) passes
    ended_none middle after place (inr (much, same)) = ap (λ (h : HubState S). h.service) same

    pub crowd_answered : (start : X) (acts : History) (after : X) → HubLeads answers hub_of start acts after → Told start acts after
    crowd_answered start [] after same = ([], (ap hub_of same, refl), ap (λ (x : X). (hub_of x).service) same)
    crowd_answered start (At pause now ∷ acts) after leads = crowd_answered start acts after leads
    crowd_answered start (Ordered ∷ acts) after leads = crowd_answered start acts after leads
    crowd_answered start (Syncs kept ∷ acts) after leads = crowd_answered start acts after leads
    crowd_answered start (GoesOn ∷ acts) after leads = crowd_answered start acts after leads
    crowd_answered start (NoneWaits ∷ acts) after leads = crowd_answered start acts after leads
    crowd_answered start (On place Comes ∷ acts) after leads = crowd_answered start acts after leads
    crowd_answered start (On place Opens ∷ acts) after (middle, leads, does) =
        let earlier = crowd_answered start acts middle leads in (
          earlier.0,
          (hub_of middle, earlier.1, does),
          still start middle after earlier.0 earlier.2 (does_answered (hub_of middle) (Open place) [] (hub_of after) does.1),
        )
    crowd_answered start (On place (Refuses why) ∷ acts) after (leads, refuses) =
        let earlier = crowd_answered start acts after leads in (earlier.0, (earlier.1, refuses), earlier.2)
    crowd_answered start (On place (Reads bytes) ∷ acts) after leads = crowd_answered start acts after leads
    crowd_answered start (On place IsOver ∷ acts) after leads = crowd_answered start acts after leads
    crowd_answered start (On place IsSilent ∷ acts) after leads = crowd_answered start acts after leads
    crowd_answered start (On place (Hears part reply) ∷ acts) after (middle, leads, (xs, does, is, one)) =
        let earlier = crowd_answered start acts middle leads in (
          earlier.0 ++ lines place xs,
          (hub_of middle, earlier.0, xs, earlier.1, does, is, one, refl),
          both start middle after earlier.0 (lines place xs) earlier.2 (does_answered (hub_of middle) (Bytes place part) xs (hub_of after) does.1),
        )
    crowd_answered start (On place (Misses part fault.Memory) ∷ acts) after (middle, leads, (lost, does)) =
        let earlier = crowd_answered start acts middle leads in (
          earlier.0 ++ lines place lost,
          (hub_of middle, earlier.0, lost, earlier.1, does, refl),
          both start middle after earlier.0 (lines place lost) earlier.2 (loses_answered (hub_of middle) place part lost (hub_of after) does),
        )
    crowd_answered start (On place (Misses part fault.Refused) ∷ acts) after (middle, leads, (is, same)) =
        let earlier = crowd_answered start acts middle leads in (
          earlier.0,
          (
            subst (λ (h : HubState S). AreLines answers (hub_of start) acts h earlier.0) (sym same) earlier.1,
            subst (λ (h : HubState S). IsEventRefused h place (Bytes place part)) (sym same) is,
          ),
          subst (λ (h : HubState S). AllAnswered answers (hub_of start).service earlier.0 h.service) (sym same) earlier.2,
        )
    crowd_answered start (On place Lacks ∷ acts) after leads = crowd_answered start acts after leads
    crowd_answered start (On place (Takes bytes) ∷ acts) after leads = crowd_answered start acts after leads
    crowd_answered start (On place TakesNone ∷ acts) after leads = crowd_answered start acts after leads
    crowd_answered start (On place Fails ∷ acts) after leads = crowd_answered start acts after leads
    crowd_answered start (On place Ends ∷ acts) after (middle, leads, does) =
        let earlier = crowd_answered start acts middle leads in
        (earlier.0, (hub_of middle, earlier.1, does), still start middle after earlier.0 earlier.2 (ended_none middle after place does))
    crowd_answered start (On place (Closes why) ∷ acts) after leads = crowd_answered start acts after leads

    -- what happens to sessions that also know whether one was answered so happens to those of the hub
    module _ (is_unkept : List ℕ → Bool) (any_unkept : X → Bool) where
      abbrev KnowingLeads : X → History → X → Type 0
      KnowingLeads = Leads (λ before session after. Opened answers (hub_of before) session (hub_of after) × (any_unkept after ≡ any_unkept before)) (λ before session why. Unopened (hub_of before) session why)
          (λ before session part reply after. Heard answers (hub_of before) session part reply (hub_of after) × (any_unkept after ≡ (is_unkept reply || any_unkept before)))
          (λ before session part why after. Missed answers (hub_of before) session part why (hub_of after) × (any_unkept after ≡ any_unkept before))
          (λ before session after. Ended answers (hub_of before) session (hub_of after) × (any_unkept after ≡ any_unkept before))

      pub hub_leads : (start : X) (acts : History) (after : X) → KnowingLeads start acts after → HubLeads answers hub_of start acts after
      hub_leads start [] after same = same
      hub_leads start (At pause now ∷ acts) after leads = hub_leads start acts after leads
      hub_leads start (Ordered ∷ acts) after leads = hub_leads start acts after leads
      hub_leads start (Syncs kept ∷ acts) after leads = hub_leads start acts after leads
      hub_leads start (GoesOn ∷ acts) after leads = hub_leads start acts after leads
      hub_leads start (NoneWaits ∷ acts) after leads = hub_leads start acts after leads
      hub_leads start (On place Comes ∷ acts) after leads = hub_leads start acts after leads
      hub_leads start (On place Opens ∷ acts) after (middle, leads, does) = (middle, hub_leads start acts middle leads, does.0)
      hub_leads start (On place (Refuses why) ∷ acts) after (leads, refuses) = (hub_leads start acts after leads, refuses)
      hub_leads start (On place (Reads bytes) ∷ acts) after leads = hub_leads start acts after leads
      hub_leads start (On place IsOver ∷ acts) after leads = hub_leads start acts after leads
      hub_leads start (On place IsSilent ∷ acts) after leads = hub_leads start acts after leads
      hub_leads start (On place (Hears part reply) ∷ acts) after (middle, leads, does) = (middle, hub_leads start acts middle leads, does.0)
      hub_leads start (On place (Misses part why) ∷ acts) after (middle, leads, does) = (middle, hub_leads start acts middle leads, does.0)
      hub_leads start (On place Lacks ∷ acts) after leads = hub_leads start acts after leads
      hub_leads start (On place (Takes bytes) ∷ acts) after leads = hub_leads start acts after leads
      hub_leads start (On place TakesNone ∷ acts) after leads = hub_leads start acts after leads
      hub_leads start (On place Fails ∷ acts) after leads = hub_leads start acts after leads
      hub_leads start (On place Ends ∷ acts) after (middle, leads, does) = (middle, hub_leads start acts middle leads, does.0)
      hub_leads start (On place (Closes why) ∷ acts) after leads = hub_leads start acts after leads
