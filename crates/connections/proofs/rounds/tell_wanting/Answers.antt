use Rattle.std.proofs.Common.{rules, ◌≡◌, ◌+◌, ℕ, subst, arith}
use Rattle.connections.specs.Telling.{TellsLines}
use Rattle.connections.proofs.Wanting.{memory_next}
use Rattle.connections.proofs.rounds.tell_wanting.Goals as goal

pub loop-line-init : goal.loop-line-init
loop-line-init g c = λ every told count start lines.
    let same : count ≡ count + 0 = omega arith in
    subst (λ (n : ℕ). TellsLines every told n start (g.E.Write.contents c.args.errors.now)) same lines

pub loop-line-preserved : goal.loop-line-preserved
loop-line-preserved g c = λ every told count start lines.
    memory_next every count c.loop-line._line start _ _ c.write_text-told.result told (c.loop-line.invariant every told count start lines) (c.write_text-told.ensures.ok, c.write_text-told.ensures.err)

pub returns : goal.returns
returns g c = λ every told count start lines.
    let ended : c.loop-line._line ≡ c.args.wanting = search rules in
    subst (λ (n : ℕ). TellsLines every told (count + n) start (g.E.Write.contents c.loop-line.errors)) ended (c.loop-line.invariant every told count start lines)
