use Rattle.std.proofs.Common.{refl}
use Rattle.sha2.specs.Sha256.{first_words, schedule}
use Rattle.lanes.proofs.RoundKeys.{key_at}
use Rattle.lanes.proofs.padding_block.padding_key.Goals as goal

pub returns : goal.returns
unfolding first_words schedule
returns c = key_at _ c.args.t refl c.requires
