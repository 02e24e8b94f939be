-- How a server is asked to take connections.
use Rattle.std.specs.Prelude.{ℕ, ◌*◌, ◌-◌, ◌^◌, min, max, Bool, List}
use Rattle.hub.specs.declared.sessions.TheConstants.{MAX_SESSIONS}
use Rattle.server.specs.declared.listening.TheConstants.{MILLISECONDS_PER_SECOND}
use Rattle.server.specs.declared.order.ListenOrder.{ListenOrder}

-- how many, and how many at once; for how many seconds one may be idle; every how many seconds a report is wanted, or never;
-- whether the end of the input is an order to stop; and the text of the address
pub record ConnectionOptions : Type 0 where
  pub count : ℕ
  pub sessions : ℕ
  pub idle : ℕ
  pub report : ℕ
  pub until_eof : Bool
  pub address : List ℕ

abbrev pub connections_of : ListenOrder → ConnectionOptions
connections_of order = record { count = order.count; sessions = order.sessions; idle = order.idle; report = order.report; until_eof = order.until_eof; address = order.address.now }

-- for how many milliseconds a connection may be idle; 0 for ever
abbrev pub idle_limit : ConnectionOptions → ℕ
idle_limit taken = min (taken.idle * MILLISECONDS_PER_SECOND) (2 ^ 64 - 1)

-- every how many milliseconds a report is written; 0 for never
abbrev pub report_every : ConnectionOptions → ℕ
report_every taken = min (taken.report * MILLISECONDS_PER_SECOND) (2 ^ 64 - 1)

-- how many connections are open at once at most
abbrev pub most_open : ConnectionOptions → ℕ
most_open taken = max 1 (min taken.sessions MAX_SESSIONS)
