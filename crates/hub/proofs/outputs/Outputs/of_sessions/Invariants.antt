use Rattle.std.proofs.Common.{◌≡◌, ℕ, []}
use Rattle.std.specs.Option.{option_map}
use Rattle.epochs.specs.Histories.{or_else}
use Rattle.hub.specs.Events.{at_session}
use Rattle.hub.proofs.outputs.Outputs.of_sessions.Given as goal

-- an output for each session, now or to come
abbrev pub invariant-loop-session : goal.invariant-loop-session
invariant-loop-session l = (n : ℕ) → or_else (at_session l.outputs n) (option_map (λ _. []) (at_session l.session-iterator n)) ≡ option_map (λ _. []) (at_session l.sessions.entries n)
