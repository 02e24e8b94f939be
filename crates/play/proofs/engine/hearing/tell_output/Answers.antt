use Rattle.std.proofs.Common.{◌+◌, ◌≤◌, length, arith, ap, ◌∙◌, length-drop}
use Rattle.play.proofs.Heard.{all_told, begun, empty_left, left_first, none_left, told_first}
use Rattle.play.proofs.engine.hearing.tell_output.Goals as goal

pub loop-init : goal.loop-init
loop-init c = (omega arith, λ heard are. begun c.args.session c.args.text.now.items c.args.output.now heard are)

pub tell_frame-requires : goal.tell_frame-requires
tell_frame-requires c =
    let m = c.loop.invariant.1 c.requires.0 c.requires.1 in
    let first = left_first c.frames_are_read.ensures c.loop.rest.now m.left c.in-Whole.frame m.are c.in-Whole.ensures.0 in
    (first.responded, first.read)

pub loop-preserved : goal.loop-preserved
loop-preserved c =
    let shorter = ap length c.split_at.ensures.back ∙ length-drop (5 + length c.in-Whole.frame.body.now) c.loop.rest.now in (
      omega (arith, shorter, c.in-Whole.ensures.1, c.loop.invariant.0),
      λ heard are.
          let m = c.loop.invariant.1 heard are in
          let first = left_first c.frames_are_read.ensures c.loop.rest.now m.left c.in-Whole.frame m.are c.in-Whole.ensures.0 in
          let told = c.in_ok-tell_frame.ensures first.responded first.read in
          let next = told_first c.frames_are_read.ensures c.args.session c.args.text.now.items c.loop.rest.now c.loop.text.items c.tell_frame.new.text.items heard c.in-Whole.frame m first told.0 told.1 in
          rw c.split_at.ensures.back next,
    )

pub returns-after-loop : goal.returns-after-loop
returns-after-loop c heard are =
    let m = c.loop.invariant.1 heard are in
    let none : length c.loop.rest.now ≤ 0 = omega (arith, c.loop-test.false, c.loop.invariant.0) in
    all_told c.args.session c.args.text.now.items c.loop.rest.now c.loop.text.items heard m (empty_left c.loop.rest.now m.left m.are none)

pub returns-in_default : goal.returns-in_default
returns-in_default c heard are =
    let m = c.loop.invariant.1 heard are in
    all_told c.args.session c.args.text.now.items c.loop.rest.now c.loop.text.items heard m (none_left c.frames_are_read.ensures c.loop.rest.now m.left c.front_of.result m.are c.front_of.ensures c.in_default.not-Whole)
