-- A part of a connection's stream is answered with at most one reply.
use Rattle.std.proofs.Common.{◌≡◌, ℕ, ◌≤◌, List, [], ◌∷◌, ◌++◌, length, Option, Some, None, sym, ap, subst, ◌∙◌, arith}
use Rattle.std.proofs.lemmas.List.{length-append}
use Rattle.wire.specs.Frames.{Frame}
use Rattle.wire.specs.Streams.{Remainder, Message, with_more, IsSpent, TakesMessage}
use Rattle.wire.specs.declared.answer.TheConstants.{MAX_ANSWER_LEN}
use Rattle.wire.proofs.Streams.{spent-takes}
use Rattle.hub.specs.Events.{Bytes, HubState}
use Rattle.hub.specs.Exchanges.{Exchange, Exchanges, replies}
use Rattle.hub.specs.Runs.{lines, Line}
use Rattle.connections.specs.declared.ending.SessionFault.TheVariants as fault
use Rattle.connections.specs.Histories.{At, Ordered, GoesOn, Syncs, NoneWaits, On, Comes, Opens, Refuses, Reads, IsOver, IsSilent, Hears, Misses, Lacks, Takes, TakesNone, Fails, Ends, Closes, History, Course, course}
use Rattle.connections.specs.Laws.{AlwaysWaitWithin, AreAnsweredWithin}
use Rattle.connections.specs.Soundness.{Here, IsSoundHistory, MayHear}
use Rattle.connections.proofs.Waiting.{always_wait_within}
use Rattle.server.specs.Sessions.{AreLines, EndsOneAt, Proceeds}
use Rattle.server.proofs.Following.{all_follow, Follows}
use Rattle.server.proofs.ReplySizes.{AreShort}

-- ---- lines

short_append : (xs ys : List Line) → AreShort (xs ++ ys) → AreShort xs × AreShort ys
short_append [] ys short = (tt, short)
short_append (x ∷ xs) ys (one, short) = let more = short_append xs ys short in ((one, more.0), more.1)

module _ {S : Type 0} (answers : S → Frame → List ℕ → S → Type 0) where
  -- where a message leaves none behind it, there is at most one reply
  one_reply : (before after : S) (held left : Remainder) (place : ℕ) (xs : List Exchange) → Exchanges answers before held xs after left
      → ((message : Message) (behind : Remainder) → TakesMessage held message behind → IsSpent behind) → AreShort (lines place xs) → length (replies xs) ≤ MAX_ANSWER_LEN
  one_reply before after held left place [] exchanged ends short = omega arith
  one_reply before after held left place (x ∷ []) exchanged ends (one, none) = omega (arith, length-append x.reply [], one)
  one_reply before after held left place (x ∷ y ∷ xs) (middle, between, takes, replied, (next, behind, again, said, more)) ends short =
      absurd (spent-takes between y.message behind (ends x.message between takes) again)

  -- what a session is answered that holds no whole message
  answered_short : (before after : HubState S) (earlier : List Line) (place : ℕ) (part reply : List ℕ) (xs : List Exchange) (there : Option Course) (Time : Type 0) → Here there (λ of. MayHear of part × Time) → Follows answers before earlier place there
      → Proceeds answers before (Bytes place part) xs after → reply ≡ replies xs → EndsOneAt before place part → AreShort (lines place xs) → length reply ≤ MAX_ANSWER_LEN
  answered_short before after earlier place part reply xs None Time due follows proceeds is one short = absurd due
  answered_short before after earlier place part reply xs (Some of) Time ((well, room, some, next), time) follows (due, (held, left, there, set, exchanged, spent)) is one short =
      let (kept, kept_there, kept_spent, tells) = follows.1 well.0 well.1.1 in
      let same : kept ≡ held = (let e : Some kept ≡ Some held = sym kept_there ∙ there in cc) in
      let ends : (message : Message) (behind : Remainder) → TakesMessage (with_more held part) message behind → IsSpent behind = one held there (subst IsSpent same kept_spent) in
      omega (arith, ap length is, one_reply before.service after.service (with_more held part) left place xs exchanged ends short)

  answered_within : (start : HubState S) (idle : ℕ) (acts : History) (after : HubState S) (all : List Line) → AreLines answers start acts after all → IsSoundHistory idle acts → AreShort all → AreAnsweredWithin MAX_ANSWER_LEN acts
  answered_within start idle [] after all lines sound short = tt
  answered_within start idle (At pause now ∷ acts) after all lines sound short = answered_within start idle acts after all lines sound.1 short
  answered_within start idle (Ordered ∷ acts) after all lines sound short = answered_within start idle acts after all lines sound short
  answered_within start idle (Syncs kept ∷ acts) after all lines sound short = answered_within start idle acts after all lines sound.1 short
  answered_within start idle (GoesOn ∷ acts) after all lines sound short = answered_within start idle acts after all lines sound.1 short
  answered_within start idle (NoneWaits ∷ acts) after all lines sound short = answered_within start idle acts after all lines sound.1 short
  answered_within start idle (On place Comes ∷ acts) after all lines sound short = (tt, answered_within start idle acts after all lines sound.1 short)
  answered_within start idle (On place Opens ∷ acts) after all (middle, lines, opened) sound short = (tt, answered_within start idle acts middle all lines sound.1 short)
  answered_within start idle (On place (Refuses why) ∷ acts) after all (lines, refuses) sound short = (tt, answered_within start idle acts after all lines sound.1 short)
  answered_within start idle (On place (Reads bytes) ∷ acts) after all lines sound short = (tt, answered_within start idle acts after all lines sound.1 short)
  answered_within start idle (On place IsOver ∷ acts) after all lines sound short = (tt, answered_within start idle acts after all lines sound.1 short)
  answered_within start idle (On place IsSilent ∷ acts) after all lines sound short = (tt, answered_within start idle acts after all lines sound.1 short)
  answered_within start idle (On place (Hears part reply) ∷ acts) after all (middle, earlier, xs, are, proceeds, is, one, joined) sound short =
      let parts = short_append earlier (lines place xs) (subst AreShort joined short) in
      (answered_short middle after earlier place part reply xs (course acts place) _ sound.0.0 (all_follow answers start idle acts middle earlier are sound.1 place) proceeds is one parts.1, answered_within start idle acts middle earlier are sound.1 parts.0)
  answered_within start idle (On place (Misses part fault.Memory) ∷ acts) after all (middle, earlier, lost, are, loses, joined) sound short =
      (tt, answered_within start idle acts middle earlier are sound.1 (short_append earlier (lines place lost) (subst AreShort joined short)).0)
  answered_within start idle (On place (Misses part fault.Refused) ∷ acts) after all (lines, refused) sound short = (tt, answered_within start idle acts after all lines sound.1 short)
  answered_within start idle (On place Lacks ∷ acts) after all lines sound short = (tt, answered_within start idle acts after all lines sound.1 short)
  answered_within start idle (On place (Takes bytes) ∷ acts) after all lines sound short = (tt, answered_within start idle acts after all lines sound.1 short)
  answered_within start idle (On place TakesNone ∷ acts) after all lines sound short = (tt, answered_within start idle acts after all lines sound.1 short)
  answered_within start idle (On place Fails ∷ acts) after all lines sound short = (tt, answered_within start idle acts after all lines sound.1 short)
  answered_within start idle (On place Ends ∷ acts) after all (middle, lines, ended) sound short = (tt, answered_within start idle acts middle all lines sound.1 short)
  answered_within start idle (On place (Closes why) ∷ acts) after all lines sound short = (tt, answered_within start idle acts after all lines sound.1 short)

  pub crowd_waits_within : (start : HubState S) (idle : ℕ) (acts : History) (after : HubState S) (all : List Line) → AreLines answers start acts after all → IsSoundHistory idle acts → AreShort all → AlwaysWaitWithin MAX_ANSWER_LEN acts
  crowd_waits_within start idle acts after all lines sound short = always_wait_within idle MAX_ANSWER_LEN acts sound (answered_within start idle acts after all lines sound short)
