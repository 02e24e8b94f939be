use Rattle.std.proofs.Common.{◌≡◌, Err, rules}
use Rattle.textio.specs.declared.program_fault.ProgramFault.{ProgramFault}
use Rattle.runs.proofs.Late.{tells_fault, tells_none}
use Rattle.runs.proofs.running.tell_late.Goals.{in-Err, in_default-ended}
use Rattle.runs.proofs.running.tell_late.Goals as goal

pub returns-in-Ok-clause-tells : goal.returns-in-Ok-clause-tells
returns-in-Ok-clause-tells g c = λ epoch same. elim c.match-ended.branch [
  | in-Err w ↦ rw w.errors-is (tells_fault c.args.ended w.in-Err.fault w.tell-told.result (g.E.Write.contents c.args.errors.now) (g.E.Write.contents w.tell-told.new.writer) w.in-Err.is w.tell-told.ensures.ok w.tell-told.ensures.err)
  | in_default-ended w ↦
      let none : (fault : ProgramFault) → c.args.ended ≡ Err fault → ⊥ = search rules in
      rw w.errors-is (tells_none c.args.ended (g.E.Write.contents c.args.errors.now) none)
]
