-- What a monitor stands for in contracts.
use Rattle.monitor.specs.declared.monitor.Monitor.TheInside.{Inside}
use Rattle.monitor.specs.Monitors.{Monitor}

abbrev pub monitor_of : {H V S : Type 0} → Inside H V S → Monitor
monitor_of inside = record {
  client = inside.client;
  name = inside.name;
  watch = record { start = inside.start; changes = inside.changes.items };
  watched = inside.watched;
}
