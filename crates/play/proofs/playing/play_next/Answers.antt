use Rattle.std.proofs.Common.{◌≡◌, Err, inl, inr, refl, rules}
use Rattle.textio.specs.declared.program_fault.ProgramFault.TheVariants as fault
use Rattle.play.proofs.playing.play_next.Goals as goal

pub returns-in_err-take_line : goal.returns-in_err-take_line
returns-in_err-take_line g c stand are =
    let passed : c.from_residual.result ≡ Err c.in_err-take_line.field-0.0 = search rules in
    rw passed (refl, inl c.in_err-take_line.ensures.err)

pub returns-then-not-branch : goal.returns-then-not-branch
returns-then-not-branch g c stand are = (c.take_line.new.line.items, rw c.if-not-branch.true at c.in_ok-take_line.ensures.ok, refl)

pub returns-in_err-play_text : goal.returns-in_err-play_text
returns-in_err-play_text g c stand are =
    let passed : c.from_residual-in_err-play_text.result ≡ Err c.in_err-play_text.field-0.0 = search rules in
    let takes = rw (c.if-not-branch.false, ← c.deref.ensures.value) at c.in_ok-take_line.ensures.ok in
    rw passed (refl, inr (c.deref.result.now, c.clear.new.self.items, c.play_text.new.text.items, takes, c.in_err-play_text.ensures stand are))

pub returns-in_err-extend_from_slice : goal.returns-in_err-extend_from_slice
returns-in_err-extend_from_slice g c stand are =
    let passed : c.from_residual-in_err-extend_from_slice.result ≡ Err fault.OutOfMemory = search rules in
    rw passed (c.in_err-extend_from_slice.ensures.items, inl tt)

pub returns : goal.returns
returns g c stand are =
    let takes = rw (c.if-not-branch.false, ← c.deref.ensures.value) at c.in_ok-take_line.ensures.ok in
    let grows = rw c.deref-2.ensures.value at c.in_ok-extend_from_slice.ensures.items in
    (c.deref.result.now, c.play_text.new.text.items, takes, grows, rw c.clear.ensures.items at (c.in_ok-play_text.ensures stand are))
