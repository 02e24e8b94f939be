-- The numbers of the refusals of events.
use Rattle.std.specs.Prelude.{ℕ}
use Rattle.hub.specs.declared.hub_refusal.HubRefusal.{HubRefusal}
use Rattle.hub.specs.declared.hub_refusal.HubRefusal.TheVariants.{TooManySessions, SessionOpen, NoSession, Memory}

abbrev pub hub_refusal_number : HubRefusal → ℕ
hub_refusal_number TooManySessions = 16
hub_refusal_number SessionOpen = 17
hub_refusal_number NoSession = 18
hub_refusal_number (Memory taken) = 14
