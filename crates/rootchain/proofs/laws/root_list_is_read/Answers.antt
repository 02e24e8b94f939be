use Rattle.rootchain.proofs.RootLists.{root_list_field}
use Rattle.rootchain.proofs.laws.root_list_is_read.Goals as goal

pub returns : goal.returns
returns c = root_list_field
