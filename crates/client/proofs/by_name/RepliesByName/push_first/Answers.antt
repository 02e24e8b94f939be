use Rattle.std.proofs.Common.{ap, ◌∙◌}
use Rattle.client.specs.Finality.{keyed}
use Rattle.client.proofs.ByNames.{put-keyed, put-more, same-if}
use Rattle.client.proofs.by_name.RepliesByName.push_first.Goals as goal

pub returns-clause-ok : goal.returns-clause-ok
returns-clause-ok c =
    rw (ap (keyed (λ key. key.items)) c.in_ok-insert.ensures.entries ∙ put-keyed (λ key. key.items) c.in_ok-key.key c.in_ok-replies.replies c.self.inside.lists.entries, c.in_ok-key.ensures.items, c.bytes.ensures.value, c.self.view_is)
    (put-more c.args.self.now c.args.name.now c.args.reply c.in_ok-replies.replies c.requires.none c.in_ok-replies.ensures)

pub returns-in_err-insert-clause-err : goal.returns-in_err-insert-clause-err
returns-in_err-insert-clause-err c = same-if c.from_residual-in_err-insert.result c.args.self.now _ (ap (keyed (λ key. key.items)) c.in_err-insert.ensures.err ∙ c.self.view_is)
