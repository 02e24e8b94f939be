use Rattle.std.proofs.Common.{rules, [], subst, List, ℕ, IsErr, IsOk}
use Rattle.hub.specs.Events.{Bytes}
use Rattle.hub.specs.Happenings.{Happens}
use Rattle.server.proofs.Heard.{part_unwritten, part_written, Writes}
use Rattle.server.proofs.serving.answer_piece.Goals as goal

pub returns-then-is_err-2 : goal.returns-then-is_err-2
returns-then-is_err-2 g c =
    let bad : IsErr c.event-heard.result = search rules in
    let failed : IsErr c.write_answers-written.result = search rules in
    let happens : Happens g.S.Service.answers c.args.hub.now (Bytes c.args.session c.args.piece.now) [] c.event-heard.result c.event-heard.new.self c.event-heard.new.output.items =
    subst (λ (t : List ℕ). Happens g.S.Service.answers c.args.hub.now (Bytes c.args.session c.args.piece.now) t c.event-heard.result c.event-heard.new.self c.event-heard.new.output.items) c.new-output.ensures.items c.event-heard.ensures.happens in
    let writes : Writes (g.W.Write.contents c.args.writer.now) (g.W.Write.contents c.write_answers-written.new.writer) c.event-heard.new.output.items c.write_answers-written.result =
    subst (λ (t : List ℕ). Writes (g.W.Write.contents c.args.writer.now) (g.W.Write.contents c.write_answers-written.new.writer) t c.write_answers-written.result) c.deref.ensures.value (c.write_answers-written.ensures.ok, c.write_answers-written.ensures.err) in
    part_unwritten g.S.Service.answers c.args.hub.now c.args.session c.args.piece.now _ c.event-heard.result c.event-heard.new.self _ _ c.write_answers-written.result happens c.requires bad writes failed

pub returns-then-is_err : goal.returns-then-is_err
returns-then-is_err g c =
    let bad : IsErr c.event-heard.result = search rules in
    let good : IsOk c.write_answers-written.result = search rules in
    let happens : Happens g.S.Service.answers c.args.hub.now (Bytes c.args.session c.args.piece.now) [] c.event-heard.result c.event-heard.new.self c.event-heard.new.output.items =
    subst (λ (t : List ℕ). Happens g.S.Service.answers c.args.hub.now (Bytes c.args.session c.args.piece.now) t c.event-heard.result c.event-heard.new.self c.event-heard.new.output.items) c.new-output.ensures.items c.event-heard.ensures.happens in
    let writes : Writes (g.W.Write.contents c.args.writer.now) (g.W.Write.contents c.write_answers-written.new.writer) c.event-heard.new.output.items c.write_answers-written.result =
    subst (λ (t : List ℕ). Writes (g.W.Write.contents c.args.writer.now) (g.W.Write.contents c.write_answers-written.new.writer) t c.write_answers-written.result) c.deref.ensures.value (c.write_answers-written.ensures.ok, c.write_answers-written.ensures.err) in
    part_written g.S.Service.answers c.args.hub.now c.args.session c.args.piece.now _ c.event-heard.result c.event-heard.new.self _ _ c.write_answers-written.result happens c.requires bad writes good
