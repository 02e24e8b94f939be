use Rattle.play.proofs.Asking.{frame_begins, whole_begins}
use Rattle.play.proofs.engine.asking.frame_of.Goals as goal

pub unreachable-requires : goal.unreachable-requires
unreachable-requires c =
    let (frame, is, same) = c.requires in
    whole_begins c.frames_are_read.ensures c.args.bytes.now frame is same c.front_of.result c.front_of.ensures c.in-Short.is

pub returns : goal.returns
returns c = λ frame is same. frame_begins c.frames_are_read.ensures c.args.bytes.now frame is same c.front_of.result c.in-Whole.frame c.front_of.ensures c.in-Whole.is
