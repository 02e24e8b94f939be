-- What happens to connections and to their sessions, and what a history of it leads to.
use Rattle.std.specs.Prelude.{◌≡◌, ℕ, List, [], ◌∷◌, ◌++◌, ◌==◌, Bool, true, false, Option, Some, None, if◌then◌else◌, ⊤}
use Rattle.connections.specs.declared.ending.Ending.{Ending}
use Rattle.connections.specs.declared.ending.SessionFault.{SessionFault}
use Rattle.connections.specs.declared.ending.SessionFault.TheVariants.{Memory, Refused}

-- what happens to one connection or to its session
pub data Deed : Type 0 where
  -- the connection is taken
  Comes : Deed
  -- the session is opened
  Opens : Deed
  -- the session cannot be opened
  Refuses : SessionFault → Deed
  -- these bytes are read
  Reads : List ℕ → Deed
  -- the peer sends no more
  IsOver : Deed
  -- a read finds that nothing has come
  IsSilent : Deed
  -- the session hears this part, and is answered so
  Hears : List ℕ → List ℕ → Deed
  -- the session does not hear this part
  Misses : List ℕ → SessionFault → Deed
  -- memory is wanting to keep what was read and not heard
  Lacks : Deed
  -- the connection takes these bytes
  Takes : List ℕ → Deed
  -- the connection takes nothing now
  TakesNone : Deed
  -- a read or a write fails
  Fails : Deed
  -- the session is ended
  Ends : Deed
  -- the connection is closed
  Closes : Ending → Deed

-- what happens: a round begins that waited for at most so many milliseconds, at a time; a stop is ordered, or
-- none is so far; what was answered is put on its disk, or is not; no connection waits that can be taken; or
-- something happens at a place
pub data Act : Type 0 where
  At : ℕ → ℕ → Act
  Ordered : Act
  GoesOn : Act
  Syncs : Bool → Act
  NoneWaits : Act
  On : ℕ → Deed → Act

-- what happened, the latest first
abbrev pub History : Type 0
History = List Act

-- ---- one connection

-- what came of a connection so far, and whether its session is open, or has ended
pub record Course : Type 0 where
  pub is_open : Bool
  pub has_ended : Bool
  pub read : List ℕ
  pub heard : List ℕ
  pub answered : List ℕ
  pub taken : List ℕ
  -- when the round ended in which something was last read from it or taken by it, or else in which it was taken: since
  -- then it is idle. None as long as that round is not over.
  pub idle_since : Option ℕ
  pub is_over : Bool
  pub has_failed : Bool
  -- memory was wanting
  pub is_wanting : Bool
  -- its session was not opened, or refused a part
  pub is_refused : Bool

-- a connection that is just taken
abbrev pub just_taken : Course
just_taken = record { is_open = false; has_ended = false; read = []; heard = []; answered = []; taken = []; idle_since = None; is_over = false; has_failed = false; is_wanting = false; is_refused = false }

-- a time, or now if there is none yet
abbrev pub or_now : Option ℕ → ℕ → Option ℕ
or_now (Some since) now = Some since
or_now None now = Some now

-- the round is over now: who was not idle in it is idle from now on
abbrev pub rested : ℕ → Option Course → Option Course
rested now None = None
rested now (Some course) = Some (record course { idle_since = or_now course.idle_since now })

-- the course with one deed more
abbrev pub went_on : Deed → Course → Option Course
went_on Comes course = Some just_taken
went_on Opens course = Some (record course { is_open = true })
went_on (Refuses Memory) course = Some (record course { is_wanting = true })
went_on (Refuses Refused) course = Some (record course { is_refused = true })
went_on (Reads bytes) course = Some (record course { read = course.read ++ bytes; idle_since = None })
went_on IsOver course = Some (record course { is_over = true })
went_on IsSilent course = Some course
went_on (Hears part reply) course = Some (record course { heard = course.heard ++ part; answered = course.answered ++ reply })
went_on (Misses part Memory) course = Some (record course { is_wanting = true })
went_on (Misses part Refused) course = Some (record course { is_refused = true })
went_on Lacks course = Some (record course { is_wanting = true })
went_on (Takes bytes) course = Some (record course { taken = course.taken ++ bytes; idle_since = None })
went_on TakesNone course = Some course
went_on Fails course = Some (record course { has_failed = true })
went_on Ends course = Some (record course { is_open = false; has_ended = true })
went_on (Closes why) course = None

-- a deed at a place, which is free or has a connection
abbrev pub done_at : Deed → Option Course → Option Course
done_at deed (Some course) = went_on deed course
done_at Comes None = Some just_taken
done_at Opens None = None
done_at (Refuses why) None = None
done_at (Reads bytes) None = None
done_at IsOver None = None
done_at IsSilent None = None
done_at (Hears part reply) None = None
done_at (Misses part why) None = None
done_at Lacks None = None
done_at (Takes bytes) None = None
done_at TakesNone None = None
done_at Fails None = None
done_at Ends None = None
done_at (Closes why) None = None

-- ---- a history

-- when the latest round began
abbrev pub clock : History → ℕ
clock [] = 0
clock (At pause now ∷ before) = now
clock (Ordered ∷ before) = clock before
clock (Syncs kept ∷ before) = clock before
clock (GoesOn ∷ before) = clock before
clock (NoneWaits ∷ before) = clock before
clock (On place deed ∷ before) = clock before

-- where a round stands: connections are heard, until what was answered is put on its disk; then they are told
pub data Stage : Type 0 where
  Hearing : Stage
  Telling : Bool → Stage

abbrev pub stage : History → Stage
stage [] = Telling false
stage (At pause now ∷ before) = Hearing
stage (Ordered ∷ before) = stage before
stage (Syncs kept ∷ before) = Telling kept
stage (GoesOn ∷ before) = stage before
stage (NoneWaits ∷ before) = stage before
stage (On place deed ∷ before) = stage before

-- when a stop was first known to be ordered
abbrev pub stopped : History → Option ℕ
stopped [] = None
stopped (At pause now ∷ before) = stopped before
stopped (Ordered ∷ before) = or_now (stopped before) (clock before)
stopped (Syncs kept ∷ before) = stopped before
stopped (GoesOn ∷ before) = stopped before
stopped (NoneWaits ∷ before) = stopped before
stopped (On place deed ∷ before) = stopped before

-- the connection at a place, if one is there
abbrev pub course : History → ℕ → Option Course
course [] place = None
course (At pause now ∷ before) place = rested now (course before place)
course (Ordered ∷ before) place = course before place
course (Syncs kept ∷ before) place = course before place
course (GoesOn ∷ before) place = course before place
course (NoneWaits ∷ before) place = course before place
course (On other deed ∷ before) place = if other == place then done_at deed (course before place) else course before place

-- if there is a connection, this is so of it
abbrev pub IfThere : Option Course → (Course → Type 0) → Type 0
IfThere None P = ⊤
IfThere (Some of) P = P of

-- ---- what happens to sessions

-- a deed of a session, or of what is kept for it
abbrev pub IsOfSession : Deed → Type 0
IsOfSession Comes = ⊥
IsOfSession Opens = ⊤
IsOfSession (Refuses why) = ⊤
IsOfSession (Reads bytes) = ⊥
IsOfSession IsOver = ⊥
IsOfSession IsSilent = ⊥
IsOfSession (Hears part reply) = ⊤
IsOfSession (Misses part why) = ⊤
IsOfSession Lacks = ⊤
IsOfSession (Takes bytes) = ⊥
IsOfSession TakesNone = ⊥
IsOfSession Fails = ⊥
IsOfSession Ends = ⊤
IsOfSession (Closes why) = ⊥

-- what happens to sessions leads from these to those
module _ {S : Type 0} (opens : S → ℕ → S → Type 0) (refuses : S → ℕ → SessionFault → Type 0) (hears : S → ℕ → List ℕ → List ℕ → S → Type 0) (misses : S → ℕ → List ℕ → SessionFault → S → Type 0) (ends : S → ℕ → S → Type 0) where
  abbrev pub Leads : S → History → S → Type 0
  Leads start [] after = after ≡ start
  Leads start (At pause now ∷ before) after = Leads start before after
  Leads start (Ordered ∷ before) after = Leads start before after
  Leads start (Syncs kept ∷ before) after = Leads start before after
  Leads start (GoesOn ∷ before) after = Leads start before after
  Leads start (NoneWaits ∷ before) after = Leads start before after
  Leads start (On place Comes ∷ before) after = Leads start before after
  Leads start (On place Opens ∷ before) after = (middle : S) × Leads start before middle × opens middle place after
  Leads start (On place (Refuses why) ∷ before) after = Leads start before after × refuses after place why
  Leads start (On place (Reads bytes) ∷ before) after = Leads start before after
  Leads start (On place IsOver ∷ before) after = Leads start before after
  Leads start (On place IsSilent ∷ before) after = Leads start before after
  Leads start (On place (Hears part reply) ∷ before) after = (middle : S) × Leads start before middle × hears middle place part reply after
  Leads start (On place (Misses part why) ∷ before) after = (middle : S) × Leads start before middle × misses middle place part why after
  Leads start (On place Lacks ∷ before) after = Leads start before after
  Leads start (On place (Takes bytes) ∷ before) after = Leads start before after
  Leads start (On place TakesNone ∷ before) after = Leads start before after
  Leads start (On place Fails ∷ before) after = Leads start before after
  Leads start (On place Ends ∷ before) after = (middle : S) × Leads start before middle × ends middle place after
  Leads start (On place (Closes why) ∷ before) after = Leads start before after
