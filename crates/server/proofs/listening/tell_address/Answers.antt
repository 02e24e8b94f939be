use Rattle.std.proofs.Common.{rules, ◌≡◌, subst, List, ℕ, Err}
use Rattle.std.specs.Io.KnownBytes.{Appends}
use Rattle.textio.specs.declared.program_fault.ProgramFault.TheVariants.{CannotWrite}
use Rattle.textio.specs.Output.{WritesBeginning}
use Rattle.server.specs.Listening.{address_line}
use Rattle.server.proofs.listening.tell_address.Goals as goal

pub returns-in_err-write_text-clause-tells : goal.returns-in_err-write_text-clause-tells
returns-in_err-write_text-clause-tells g c =
    let line : c.deref.result.now ≡ address_line c.in_ok-address.address.bytes.items = search rules in
    let passed : c.from_residual-in_err-write_text.result ≡ Err CannotWrite = search rules in
    rw passed (_, subst (λ (t : List ℕ). WritesBeginning (g.E.Write.contents c.args.errors.now) (g.E.Write.contents c.write_text.new.writer) t) line c.in_err-write_text.ensures.err.1)

pub returns-clause-tells : goal.returns-clause-tells
returns-clause-tells g c =
    let line : c.deref.result.now ≡ address_line c.in_ok-address.address.bytes.items = search rules in
    (_, subst (λ (t : List ℕ). Appends (g.E.Write.contents c.args.errors.now) (g.E.Write.contents c.write_text.new.writer) t) line c.in_ok-write_text.ensures.ok)
