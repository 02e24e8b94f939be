use Rattle.std.proofs.Common.{◌≡◌, ◌≤◌, List, ℕ, [], take, length, None, Err, Ok, IsTrue, false, true, refl, rules, arith, inl}
use Rattle.std.proofs.lemmas.Grind.{common_steps}
use Rattle.connections.specs.declared.ending.Ending.TheVariants.{Fault}
use Rattle.connections.specs.Rounds.{gives_turn}
use Rattle.connections.specs.Fitting.{KeepsCourse, KeepsTalk}
use Rattle.connections.specs.Histories.{Fails, IsOver, IsSilent, Reads, Course, History}
use Rattle.connections.specs.Soundness.{MayBeRead}
use Rattle.connections.proofs.Hearing.{attends_both, attends_first, attends_last, attends_stop}
use Rattle.connections.proofs.Steps.{come_to, here_so, may_read, next_fail, next_over, next_read, next_silent}
use Rattle.connections.proofs.talk.Talk.attend.Goals as goal

pub returns-then-not-may_read : goal.returns-then-not-may_read
returns-then-not-may_read g c =
    attends_last g.S.Sessions.opens g.S.Sessions.refuses g.S.Sessions.hears g.S.Sessions.misses g.S.Sessions.ends g.C.Connections.has g.met.C.Connections.passes c.args.place c.args.connections.now c.args.sessions.now c.args.self.now c.hear_rest.result c.hear_rest.new.sessions c.hear_rest.new.self
    c.hear_rest.ensures.hears c.hear_rest.ensures.all c.hear_rest.ensures.nothing (λ ready. search (rules, c.may_read.ensures.1 ready))

pub returns-in_err-hear_new-in-Bytes : goal.returns-in_err-hear_new-in-Bytes
returns-in_err-hear_new-in-Bytes g c =
    let passed : c.from_residual.result ≡ Err c.in_err-hear_new-in-Bytes.field-0.0 = search rules in
    let yes : IsTrue c.may_read.result = search rules in
    let ready : (c.args.self.now.input.items ≡ []) × (c.args.self.now.is_over ≡ false) × (length c.args.self.now.output.items ≤ 65536) = c.may_read.ensures.0 yes in
    let count : (1 ≤ c.in-Bytes.count) × (c.in-Bytes.count ≤ length c.read.new.room) = c.read.ensures.count c.in-Bytes.count c.in-Bytes.is in
    let room : length c.read.new.room ≡ 4096 = search rules in
    let bytes : List ℕ = take c.in-Bytes.count c.read.new.room in
    let some : 1 ≤ length bytes = grind (arith, common_steps) in
    let few : length bytes ≤ 4096 = grind (arith, common_steps) in
    rw passed (attends_stop g.S.Sessions.opens g.S.Sessions.refuses g.S.Sessions.hears g.S.Sessions.misses g.S.Sessions.ends g.C.Connections.has g.met.C.Connections.passes c.args.place c.args.connections.now c.args.sessions.now c.args.self.now c.read.new.self
    (KeepsCourse bytes c.args.self.now.output.items None c.args.self.now.is_over) c.in_err-hear_new-in-Bytes.field-0.0 c.hear_new.new.sessions c.hear_new.new.self
    (λ (idle : ℕ) (acts : History) knows hearing unread here.
    let a = come_to g.C.Connections.has idle c.args.place acts c.args.connections.now c.read.new.self (Reads bytes) _ tt
    (c.read.ensures.bytes c.in-Bytes.count c.in-Bytes.is acts) knows
    (next_read idle acts c.args.place bytes c.args.self.now.input.items _ _ _ unread hearing some few (may_read _ _ _ _ _ ready.0 ready.1 ready.2 here)) in
    (a.0, a.1, a.2, a.3, (a.4 gives_turn refl, a.5)))
    c.in_err-hear_new-in-Bytes.ensures.hears)

pub returns-in_ok-hear_new-in-Bytes : goal.returns-in_ok-hear_new-in-Bytes
returns-in_ok-hear_new-in-Bytes g c =
    let yes : IsTrue c.may_read.result = search rules in
    let ready : (c.args.self.now.input.items ≡ []) × (c.args.self.now.is_over ≡ false) × (length c.args.self.now.output.items ≤ 65536) = c.may_read.ensures.0 yes in
    let count : (1 ≤ c.in-Bytes.count) × (c.in-Bytes.count ≤ length c.read.new.room) = c.read.ensures.count c.in-Bytes.count c.in-Bytes.is in
    let room : length c.read.new.room ≡ 4096 = search rules in
    let bytes : List ℕ = take c.in-Bytes.count c.read.new.room in
    let some : 1 ≤ length bytes = grind (arith, common_steps) in
    let few : length bytes ≤ 4096 = grind (arith, common_steps) in
    attends_both g.S.Sessions.opens g.S.Sessions.refuses g.S.Sessions.hears g.S.Sessions.misses g.S.Sessions.ends g.C.Connections.has g.met.C.Connections.passes c.args.place c.args.connections.now c.args.sessions.now c.args.self.now c.read.new.self
    (KeepsCourse bytes c.args.self.now.output.items None c.args.self.now.is_over) c.hear_new.new.sessions c.hear_new.new.self
    (λ (idle : ℕ) (acts : History) knows hearing unread here.
    let a = come_to g.C.Connections.has idle c.args.place acts c.args.connections.now c.read.new.self (Reads bytes) _ tt
    (c.read.ensures.bytes c.in-Bytes.count c.in-Bytes.is acts) knows
    (next_read idle acts c.args.place bytes c.args.self.now.input.items _ _ _ unread hearing some few (may_read _ _ _ _ _ ready.0 ready.1 ready.2 here)) in
    (a.0, a.1, a.2, a.3, (a.4 gives_turn refl, a.5)))
    c.in_ok-hear_new-in-Bytes.ensures.hears c.in_ok-hear_new-in-Bytes.ensures.all

pub returns-in-End : goal.returns-in-End
returns-in-End g c =
    let yes : IsTrue c.may_read.result = search rules in
    let ready : (c.args.self.now.input.items ≡ []) × (c.args.self.now.is_over ≡ false) × (length c.args.self.now.output.items ≤ 65536) = c.may_read.ensures.0 yes in
    attends_first g.S.Sessions.opens g.S.Sessions.refuses g.S.Sessions.hears g.S.Sessions.misses g.S.Sessions.ends g.C.Connections.has g.met.C.Connections.passes c.args.place c.args.connections.now c.args.sessions.now c.args.self.now c.read.new.self (Ok true) (record c.args.self.now { is_over = true })
    (λ idle acts knows hearing unread here.
    let a = come_to g.C.Connections.has idle c.args.place acts c.args.connections.now c.read.new.self IsOver _ tt
    (c.read.ensures.end c.in-End.is acts) knows
    (next_over idle acts c.args.place _ _ _ _ unread hearing (may_read _ _ _ _ _ ready.0 ready.1 ready.2 here)) in
    (a.0, a.1, a.2, a.3, (a.4 gives_turn refl, a.5)))
    ready.0

pub returns-in-Wait : goal.returns-in-Wait
returns-in-Wait g c =
    let yes : IsTrue c.may_read.result = search rules in
    let ready : (c.args.self.now.input.items ≡ []) × (c.args.self.now.is_over ≡ false) × (length c.args.self.now.output.items ≤ 65536) = c.may_read.ensures.0 yes in
    attends_first g.S.Sessions.opens g.S.Sessions.refuses g.S.Sessions.hears g.S.Sessions.misses g.S.Sessions.ends g.C.Connections.has g.met.C.Connections.passes c.args.place c.args.connections.now c.args.sessions.now c.args.self.now c.read.new.self (Ok false) c.args.self.now
    (λ idle acts knows hearing unread here.
    let a = come_to g.C.Connections.has idle c.args.place acts c.args.connections.now c.read.new.self IsSilent _ tt
    (c.read.ensures.wait c.in-Wait.is acts) knows
    (next_silent idle acts c.args.place _ _ _ _ unread hearing (may_read _ _ _ _ _ ready.0 ready.1 ready.2 here)) in
    (a.0, a.1, a.2, a.3, (a.4 gives_turn refl, a.5)))
    ready.0

pub returns-in-Fault : goal.returns-in-Fault
returns-in-Fault g c =
    let yes : IsTrue c.may_read.result = search rules in
    let ready : (c.args.self.now.input.items ≡ []) × (c.args.self.now.is_over ≡ false) × (length c.args.self.now.output.items ≤ 65536) = c.may_read.ensures.0 yes in
    attends_first g.S.Sessions.opens g.S.Sessions.refuses g.S.Sessions.hears g.S.Sessions.misses g.S.Sessions.ends g.C.Connections.has g.met.C.Connections.passes c.args.place c.args.connections.now c.args.sessions.now c.args.self.now c.read.new.self (Err Fault) c.args.self.now
    (λ idle acts knows hearing unread here.
    let a = come_to g.C.Connections.has idle c.args.place acts c.args.connections.now c.read.new.self Fails _ tt
    (c.read.ensures.fault c.in-Fault.is acts) knows
    (next_fail idle acts c.args.place _ _ _ _
    (here_so _ _ _ (λ (of : Course) (may : KeepsTalk c.args.self.now of × MayBeRead of). (may.0, inl (may.1, hearing))) (may_read _ _ _ _ _ ready.0 ready.1 ready.2 here))) in
    (a.0, a.1, a.2, a.3, tt)) tt
