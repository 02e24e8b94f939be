use Rattle.wire.specs.Streams.{Rest, messages}
use Rattle.wire.proofs.Messages.{messages_are_all, messages_are_these, one_frame}
use Rattle.wire.proofs.Splitting.{tells_spells}
use Rattle.wire.proofs.laws.messages_are_computed.Goals as goal

pub returns : goal.returns
returns c = record {
  spelled = λ stream small. tells_spells stream (messages (Rest stream)).0 (messages (Rest stream)).1 small (messages_are_all (Rest stream) small);
  all = messages_are_all;
  told = messages_are_these;
  one = one_frame;
}
