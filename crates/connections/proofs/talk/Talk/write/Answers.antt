use Rattle.std.proofs.Common.{◌≡◌, ◌≤◌, ◌++◌, List, ℕ, length, take, drop, arith, refl, sym, inr}
use Rattle.std.proofs.lemmas.Grind.{common_steps}
use Rattle.connections.specs.Rounds.{offers}
use Rattle.connections.specs.Fitting.{KeepsTalk}
use Rattle.connections.specs.Histories.{Fails, Takes, TakesNone, Course}
use Rattle.connections.specs.Soundness.{MayBeOffered}
use Rattle.connections.proofs.Steps.{come_to, here_so, may_take, next_fail, next_take, next_take_none}
use Rattle.connections.proofs.talk.Talk.write.Goals as goal

pub returns-in-Took-clause-writes : goal.returns-in-Took-clause-writes
returns-in-Took-clause-writes g c = λ idle acts knows telling here.
    let output : List ℕ = c.args.self.now.output.items in
    let seen : c.deref.result.now ≡ output = c.deref.ensures.value in
    let bytes : List ℕ = take c.in-Took.count output in
    let bounds : (1 ≤ c.in-Took.count) × (c.in-Took.count ≤ length c.deref.result.now) = c.write.ensures.count c.in-Took.count c.in-Took.is in
    let least : 1 ≤ c.in-Took.count = bounds.0 in
    let most : c.in-Took.count ≤ length output = rw (sym {A = List ℕ} seen) bounds.1 in
    let some : 1 ≤ length bytes = grind (arith, common_steps) in
    let rest : c.drop_front.new.bytes.items ≡ drop c.in-Took.count output = c.drop_front.ensures in
    let split : output ≡ bytes ++ c.drop_front.new.bytes.items = rw rest (grind (arith, common_steps)) in
    let next = next_take idle acts c.args.place bytes c.drop_front.new.bytes.items c.args.self.now.input.items output c.args.self.now.idle_since c.args.self.now.is_over telling some split here in
    let a = come_to g.C.Connections.has idle c.args.place acts c.args.connections.now c.write.new.self (Takes bytes) _ tt
    (rw seen at (c.write.ensures.bytes c.in-Took.count c.in-Took.is acts)) knows next in
    (a.0, a.1, a.2, a.3, (a.4 offers refl, a.5))

pub returns-in-Wait-clause-writes : goal.returns-in-Wait-clause-writes
returns-in-Wait-clause-writes g c = λ idle acts knows telling here.
    let a = come_to g.C.Connections.has idle c.args.place acts c.args.connections.now c.write.new.self TakesNone _ tt
    (c.write.ensures.wait c.in-Wait.is acts) knows
    (next_take_none idle acts c.args.place _ _ _ _ telling c.requires here) in
    (a.0, a.1, a.2, a.3, (a.4 offers refl, a.5))

pub returns-in-Fault-clause-writes : goal.returns-in-Fault-clause-writes
returns-in-Fault-clause-writes g c = λ idle acts knows telling here.
    let a = come_to g.C.Connections.has idle c.args.place acts c.args.connections.now c.write.new.self Fails _ tt
    (c.write.ensures.fault c.in-Fault.is acts) knows
    (next_fail idle acts c.args.place _ _ _ _
    (here_so _ _ _ (λ (of : Course) (may : KeepsTalk c.args.self.now of × MayBeOffered of). (may.0, inr (may.1, telling))) (may_take _ _ _ _ _ c.requires here))) in
    (a.0, a.1, a.2, a.3, tt)
