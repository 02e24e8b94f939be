use Rattle.std.proofs.Common.{◌≢◌, ◌<◌, ◌≤◌, length, true, rules}
use Rattle.std.specs.Prelude.{⊤}
use Rattle.connections.specs.declared.loop_limits.TheConstants.{FULL_OUTPUT}
use Rattle.connections.proofs.Hearing.{drop_some, heard_lost, only_full}
use Rattle.connections.proofs.talk.Talk.hear_new.Goals as goal

pub returns-in-Err-clause-hears : goal.returns-in-Err-clause-hears
returns-in-Err-clause-hears g c =
    let few : c.in_ok-heard.heard ≤ length c.args.bytes.now = c.in_ok-heard.ensures.hears.0.1 in
    let not : c.in_ok-heard.heard ≢ length c.args.bytes.now = search rules in
    let full : FULL_OUTPUT < length c.hear_parts.new.output.items = only_full c.in_ok-heard.ensures.all not in
    heard_lost g.S.Sessions.opens g.S.Sessions.refuses g.S.Sessions.hears g.S.Sessions.misses g.S.Sessions.ends {X = Unit {0}} (λ _. true) c.args.place c.args.sessions.now c.args.bytes.now c.args.self.now.output.items c.args.self.now.idle_since c.args.self.now.is_over
    c.in_ok-heard.heard c.hear_parts.new.sessions c.hear_parts.new.output.items (λ _ _. ⊤) c.in_ok-heard.ensures.hears (drop_some c.in_ok-heard.heard c.args.bytes.now few not) full
