-- What is so at each time of a history.
use Rattle.std.proofs.Common.{◌≡◌, ℕ, List, [], ◌∷◌, ◌++◌, sym, ap, subst, ◌∙◌, append_assoc, append-nil}
use Rattle.wire.specs.Frames.{Frame}
use Rattle.hub.specs.Events.{HubState}
use Rattle.hub.specs.Runs.{lines, Line}
use Rattle.connections.specs.declared.ending.SessionFault.TheVariants as fault
use Rattle.connections.specs.Histories.{At, Ordered, GoesOn, Syncs, NoneWaits, On, Comes, Opens, Refuses, Reads, IsOver, IsSilent, Hears, Misses, Lacks, Takes, TakesNone, Fails, Ends, Closes, History, course}
use Rattle.connections.specs.Soundness.{IsSoundHistory}
use Rattle.connections.proofs.Orderly.{in_order}
use Rattle.connections.proofs.Waiting.{sound_before}
use Rattle.server.specs.Sessions.{AlwaysAnswered, AlwaysInOrder, AreLines}
use Rattle.server.proofs.Following.{all_follow, is_answered}

pub always_in_order : (idle : ℕ) (acts : History) → IsSoundHistory idle acts → AlwaysInOrder acts
always_in_order idle acts sound later earlier place split = in_order idle earlier place (sound_before idle later earlier (subst (IsSoundHistory idle) split sound))

module _ {S : Type 0} (answers : S → Frame → List ℕ → S → Type 0) where
  -- the lines of an earlier time are the first ones
  abbrev LinesSoFar : HubState S → History → List Line → Type 0
  LinesSoFar start earlier all = (now : HubState S) × (first rest : List Line) × (all ≡ first ++ rest) × AreLines answers start earlier now first

  lines_before : (start : HubState S) (later earlier : History) (after : HubState S) (all : List Line) → AreLines answers start (later ++ earlier) after all → LinesSoFar start earlier all
  lines_before start [] earlier after all are = (after, all, [], sym (append-nil all), are)
  lines_before start (At pause now ∷ later) earlier after all are = lines_before start later earlier after all are
  lines_before start (Ordered ∷ later) earlier after all are = lines_before start later earlier after all are
  lines_before start (Syncs kept ∷ later) earlier after all are = lines_before start later earlier after all are
  lines_before start (GoesOn ∷ later) earlier after all are = lines_before start later earlier after all are
  lines_before start (NoneWaits ∷ later) earlier after all are = lines_before start later earlier after all are
  lines_before start (On place Comes ∷ later) earlier after all are = lines_before start later earlier after all are
  lines_before start (On place Opens ∷ later) earlier after all (middle, are, opened) = lines_before start later earlier middle all are
  lines_before start (On place (Refuses why) ∷ later) earlier after all (are, refuses) = lines_before start later earlier after all are
  lines_before start (On place (Reads bytes) ∷ later) earlier after all are = lines_before start later earlier after all are
  lines_before start (On place IsOver ∷ later) earlier after all are = lines_before start later earlier after all are
  lines_before start (On place IsSilent ∷ later) earlier after all are = lines_before start later earlier after all are
  lines_before start (On place (Hears part reply) ∷ later) earlier after all (middle, some, xs, are, proceeds, is, one, joined) =
      let (now, first, rest, split, lines_now) = lines_before start later earlier middle some are in
      (now, first, rest ++ lines place xs, joined ∙ ap (λ (t : List Line). t ++ lines place xs) split ∙ append_assoc first rest (lines place xs), lines_now)
  lines_before start (On place (Misses part fault.Memory) ∷ later) earlier after all (middle, some, lost, are, loses, joined) =
      let (now, first, rest, split, lines_now) = lines_before start later earlier middle some are in
      (now, first, rest ++ lines place lost, joined ∙ ap (λ (t : List Line). t ++ lines place lost) split ∙ append_assoc first rest (lines place lost), lines_now)
  lines_before start (On place (Misses part fault.Refused) ∷ later) earlier after all (are, refused) = lines_before start later earlier after all are
  lines_before start (On place Lacks ∷ later) earlier after all are = lines_before start later earlier after all are
  lines_before start (On place (Takes bytes) ∷ later) earlier after all are = lines_before start later earlier after all are
  lines_before start (On place TakesNone ∷ later) earlier after all are = lines_before start later earlier after all are
  lines_before start (On place Fails ∷ later) earlier after all are = lines_before start later earlier after all are
  lines_before start (On place Ends ∷ later) earlier after all (middle, are, ended) = lines_before start later earlier middle all are
  lines_before start (On place (Closes why) ∷ later) earlier after all are = lines_before start later earlier after all are

  pub always_answered : (start : HubState S) (idle : ℕ) (acts : History) (after : HubState S) (all : List Line) → AreLines answers start acts after all → IsSoundHistory idle acts → AlwaysAnswered answers start acts all
  always_answered start idle acts after all are sound later earlier split =
      let (now, first, rest, parts, lines_now) = lines_before start later earlier after all (subst (λ (a : History). AreLines answers start a after all) split are) in
      let follow = all_follow answers start idle earlier now first lines_now (sound_before idle later earlier (subst (IsSoundHistory idle) split sound)) in
      (now, first, rest, parts, lines_now, λ place. is_answered answers now first place (course earlier place) (follow place))
