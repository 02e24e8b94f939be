use Rattle.std.proofs.Common.{refl}
use Rattle.prefixtree.proofs.Several.{put_all-append}
use Rattle.prefixtree.proofs.laws.changes_join.Goals as goal

pub returns : goal.returns
returns c = record {
  parts = λ items changes more. put_all-append changes more items;
  one = λ items index commitment. refl;
}
