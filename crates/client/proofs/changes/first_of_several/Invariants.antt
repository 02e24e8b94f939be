use Rattle.client.specs.Finality.{IsChangedByReply}
use Rattle.client.proofs.Changed.{NoneBelow}
use Rattle.client.proofs.changes.first_of_several.Given as goal

abbrev pub invariant-loop-reply : goal.invariant-loop-reply
invariant-loop-reply l = NoneBelow IsChangedByReply l.all l.reply-index
