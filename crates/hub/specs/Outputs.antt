-- How the outputs of sessions grow.
use Rattle.std.specs.Prelude.{◌≡◌, ◌==◌, ℕ, List, ◌++◌, if◌then◌else◌, Option, Some, None, Vec}
use Rattle.hub.specs.declared.hub_refusal.HubRefusal.{HubRefusal}
use Rattle.hub.specs.Events.{BySession, at_session}

-- a session with its output, as a list of bytes
abbrev pub pair_seen : {Z : Type 0} → ℕ × Vec ℕ Z → ℕ × List ℕ
pair_seen pair = (pair.0, pair.1.items)

-- with more, of which it may be the first
abbrev pub appended : Option (List ℕ) → List ℕ → List ℕ
appended None bytes = bytes
appended (Some output) bytes = output ++ bytes

-- the output of a session has these bytes more, and the others stay
abbrev pub Appends : BySession (List ℕ) → ℕ → List ℕ → BySession (List ℕ) → Type 0
Appends before session bytes after = (other : ℕ) → at_session after other ≡ (if session == other then Some (appended (at_session before other) bytes) else at_session before other)

-- the same, unless the event was refused
abbrev pub AppendsUnless : Option HubRefusal → BySession (List ℕ) → ℕ → List ℕ → BySession (List ℕ) → Type 0
AppendsUnless None before session bytes after = Appends before session bytes after
AppendsUnless (Some refusal) before session bytes after = (other : ℕ) → at_session after other ≡ at_session before other
