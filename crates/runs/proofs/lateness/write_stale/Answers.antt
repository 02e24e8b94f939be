use Rattle.std.proofs.Common.{[], ◌∷◌, ◌++◌}
use Rattle.std.specs.Prelude.{codes, decimal}
use Rattle.runs.proofs.Late.{part-all, part-behind, part-cut, part-first, part-grows}
use Rattle.runs.proofs.lateness.write_stale.Goals as goal

pub returns-in_err-write_text-clause-some : goal.returns-in_err-write_text-clause-some
returns-in_err-write_text-clause-some g c =
    part-first (g.W.Write.contents c.args.writer.now) (g.W.Write.contents c.write_text.new.writer) (codes "stale ") (decimal c.args.epoch ++ 10 ∷ []) (part-cut (g.W.Write.contents c.args.writer.now) (g.W.Write.contents c.write_text.new.writer) (codes "stale ") c.in_err-write_text.ensures.err.1)

pub returns-in_err-write_text-2-clause-some : goal.returns-in_err-write_text-2-clause-some
returns-in_err-write_text-2-clause-some g c =
    part-behind (g.W.Write.contents c.args.writer.now) (g.W.Write.contents c.write_text.new.writer) (g.W.Write.contents c.write_text-2.new.writer) (codes "stale ") (decimal c.args.epoch ++ 10 ∷ []) c.in_ok-write_text.ensures.ok (part-first (g.W.Write.contents c.write_text.new.writer) (g.W.Write.contents c.write_text-2.new.writer) (decimal c.args.epoch) (10 ∷ []) (part-cut (g.W.Write.contents c.write_text.new.writer) (g.W.Write.contents c.write_text-2.new.writer) (decimal c.args.epoch) (rw (c.as_bytes.ensures.value, c.format.ensures.text) at c.in_err-write_text-2.ensures.err.1)))

pub returns-in_err-write_text-2-clause-grows : goal.returns-in_err-write_text-2-clause-grows
returns-in_err-write_text-2-clause-grows g c =
    part-grows (g.W.Write.contents c.args.writer.now) (g.W.Write.contents c.write_text-2.new.writer) (codes "stale " ++ decimal c.args.epoch ++ 10 ∷ []) (part-behind (g.W.Write.contents c.args.writer.now) (g.W.Write.contents c.write_text.new.writer) (g.W.Write.contents c.write_text-2.new.writer) (codes "stale ") (decimal c.args.epoch ++ 10 ∷ []) c.in_ok-write_text.ensures.ok (part-first (g.W.Write.contents c.write_text.new.writer) (g.W.Write.contents c.write_text-2.new.writer) (decimal c.args.epoch) (10 ∷ []) (part-cut (g.W.Write.contents c.write_text.new.writer) (g.W.Write.contents c.write_text-2.new.writer) (decimal c.args.epoch) (rw (c.as_bytes.ensures.value, c.format.ensures.text) at c.in_err-write_text-2.ensures.err.1))))

pub returns-in_err-write_text-3-clause-some : goal.returns-in_err-write_text-3-clause-some
returns-in_err-write_text-3-clause-some g c =
    part-behind (g.W.Write.contents c.args.writer.now) (g.W.Write.contents c.write_text.new.writer) (g.W.Write.contents c.write_text-3.new.writer) (codes "stale ") (decimal c.args.epoch ++ 10 ∷ []) c.in_ok-write_text.ensures.ok (part-behind (g.W.Write.contents c.write_text.new.writer) (g.W.Write.contents c.write_text-2.new.writer) (g.W.Write.contents c.write_text-3.new.writer) (decimal c.args.epoch) (10 ∷ []) (rw (c.as_bytes.ensures.value, c.format.ensures.text) at c.in_ok-write_text-2.ensures.ok) (part-cut (g.W.Write.contents c.write_text-2.new.writer) (g.W.Write.contents c.write_text-3.new.writer) (10 ∷ []) c.in_err-write_text-3.ensures.err.1))

pub returns-in_err-write_text-3-clause-grows : goal.returns-in_err-write_text-3-clause-grows
returns-in_err-write_text-3-clause-grows g c =
    part-grows (g.W.Write.contents c.args.writer.now) (g.W.Write.contents c.write_text-3.new.writer) (codes "stale " ++ decimal c.args.epoch ++ 10 ∷ []) (part-behind (g.W.Write.contents c.args.writer.now) (g.W.Write.contents c.write_text.new.writer) (g.W.Write.contents c.write_text-3.new.writer) (codes "stale ") (decimal c.args.epoch ++ 10 ∷ []) c.in_ok-write_text.ensures.ok (part-behind (g.W.Write.contents c.write_text.new.writer) (g.W.Write.contents c.write_text-2.new.writer) (g.W.Write.contents c.write_text-3.new.writer) (decimal c.args.epoch) (10 ∷ []) (rw (c.as_bytes.ensures.value, c.format.ensures.text) at c.in_ok-write_text-2.ensures.ok) (part-cut (g.W.Write.contents c.write_text-2.new.writer) (g.W.Write.contents c.write_text-3.new.writer) (10 ∷ []) c.in_err-write_text-3.ensures.err.1)))

pub returns-clause-some : goal.returns-clause-some
returns-clause-some g c =
    part-behind (g.W.Write.contents c.args.writer.now) (g.W.Write.contents c.write_text.new.writer) (g.W.Write.contents c.write_text-3.new.writer) (codes "stale ") (decimal c.args.epoch ++ 10 ∷ []) c.in_ok-write_text.ensures.ok (part-behind (g.W.Write.contents c.write_text.new.writer) (g.W.Write.contents c.write_text-2.new.writer) (g.W.Write.contents c.write_text-3.new.writer) (decimal c.args.epoch) (10 ∷ []) (rw (c.as_bytes.ensures.value, c.format.ensures.text) at c.in_ok-write_text-2.ensures.ok) (part-all (g.W.Write.contents c.write_text-2.new.writer) (g.W.Write.contents c.write_text-3.new.writer) (10 ∷ []) c.in_ok-write_text-3.ensures.ok))

pub returns-clause-grows : goal.returns-clause-grows
returns-clause-grows g c =
    part-grows (g.W.Write.contents c.args.writer.now) (g.W.Write.contents c.write_text-3.new.writer) (codes "stale " ++ decimal c.args.epoch ++ 10 ∷ []) (part-behind (g.W.Write.contents c.args.writer.now) (g.W.Write.contents c.write_text.new.writer) (g.W.Write.contents c.write_text-3.new.writer) (codes "stale ") (decimal c.args.epoch ++ 10 ∷ []) c.in_ok-write_text.ensures.ok (part-behind (g.W.Write.contents c.write_text.new.writer) (g.W.Write.contents c.write_text-2.new.writer) (g.W.Write.contents c.write_text-3.new.writer) (decimal c.args.epoch) (10 ∷ []) (rw (c.as_bytes.ensures.value, c.format.ensures.text) at c.in_ok-write_text-2.ensures.ok) (part-all (g.W.Write.contents c.write_text-2.new.writer) (g.W.Write.contents c.write_text-3.new.writer) (10 ∷ []) c.in_ok-write_text-3.ensures.ok)))
