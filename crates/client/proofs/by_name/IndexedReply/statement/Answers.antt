use Rattle.std.proofs.Common.{rules}
use Rattle.proofs.specs.Views.{key_stated}
use Rattle.client.proofs.Greatest.{says-it}
use Rattle.client.proofs.by_name.IndexedReply.statement.Goals as goal

pub returns : goal.returns
returns c = says-it (key_stated c.statement.result) (search rules) c.requires c.statement.ensures
