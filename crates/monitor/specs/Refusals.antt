-- The numbers of the refusals.
use Rattle.std.specs.Prelude.{ℕ}
use Rattle.client.specs.Refusals.{client_refusal_number}
use Rattle.monitor.specs.declared.monitor_refusal.Refusal.{Refusal}
use Rattle.monitor.specs.declared.monitor_refusal.Refusal.TheVariants.{Client, OtherPromise}

-- a refusal of the client keeps its own number
abbrev pub monitor_refusal_number : Refusal → ℕ
monitor_refusal_number (Client why) = client_refusal_number why
monitor_refusal_number OtherPromise = 24
