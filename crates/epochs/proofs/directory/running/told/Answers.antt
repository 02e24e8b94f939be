use Rattle.std.proofs.Common.{◌∙◌}
use Rattle.std.proofs.lemmas.List.{take_all, take_more}
use Rattle.epochs.proofs.directory.running.told.Goals as goal

pub loop-root-init : goal.loop-root-init
loop-root-init c = c.in_ok-told-in-Ok.ensures.items

pub loop-root-preserved : goal.loop-root-preserved
loop-root-preserved c =
    cc (c.in_ok-push-in-Ok.ensures.items, c.loop-root.invariant, c.copied.ensures, c.root-item.is, take_more c.in-Ok.roots.now c.loop-root.root-index c.root-item.result c.loop-root-test.true)

pub returns-after-loop-root : goal.returns-after-loop-root
returns-after-loop-root c = rw c.in-Ok.is (c.loop-root.invariant ∙ take_all c.loop-root.root-index c.in-Ok.roots.now c.loop-root-test.false)
