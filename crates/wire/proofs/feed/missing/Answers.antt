use Rattle.std.proofs.Common.{arith, sym, ap, ◌∙◌}
use Rattle.std.proofs.Math.Nat.{max-eq_left}
use Rattle.encoding.specs.Reading.{read_number}
use Rattle.wire.proofs.Parts.{few_end_one, missing_ends_one, missing_frame, missing_length, no_number, number_length}
use Rattle.wire.proofs.feed.missing.Goals.{in-Ok, in-Err}
use Rattle.wire.proofs.feed.missing.Goals as goal

pub returns-clause-one : goal.returns-clause-one
returns-clause-one c = λ part bytes few spent message after takes. elim c.match-u32.branch [
  | in-Ok w ↦
      let read = ap (read_number 4) (sym c.new.ensures) ∙ w.in-Ok.ensures.read in
      let long = number_length c.args.held.now w.in-Ok.size c.u32.new.self read in
      missing_ends_one c.args.held.now part w.in-Ok.size c.u32.new.self (λ k. omega (arith, c.type_inv.held k)) bytes read long
      (λ short. omega (arith, few, c.max.ensures, c.saturating_sub.ensures, w.whole-is, long, short, max-eq_left {n = c.saturating_sub.result} {m = 1} (omega (arith, c.saturating_sub.ensures, w.whole-is, long, short))))
      spent message after takes
  | in-Err w ↦
      let read = ap (read_number 4) (sym c.new.ensures) ∙ w.in-Err.ensures.read in
      let short = no_number c.args.held.now w.in-Err.field-0 read in
      few_end_one c.args.held.now part (λ k. omega (arith, c.type_inv.held k)) bytes
      (omega (arith, few, c.max.ensures, c.saturating_sub.ensures, w.whole-is, short, max-eq_left {n = c.saturating_sub.result} {m = 1} (omega (arith, c.saturating_sub.ensures, w.whole-is, short))))
      spent message after takes
]

pub returns-clause-missing : goal.returns-clause-missing
returns-clause-missing c = elim c.match-u32.branch [
  | in-Ok w ↦
      let read = ap (read_number 4) (sym c.new.ensures) ∙ w.in-Ok.ensures.read in
      missing_frame c.args.held.now w.in-Ok.size c.u32.new.self _ _ _ read w.whole-is c.saturating_sub.ensures c.max.ensures
  | in-Err w ↦
      let read = ap (read_number 4) (sym c.new.ensures) ∙ w.in-Err.ensures.read in
      missing_length c.args.held.now _ _ _ (no_number c.args.held.now w.in-Err.field-0 read) w.whole-is c.saturating_sub.ensures c.max.ensures
]
