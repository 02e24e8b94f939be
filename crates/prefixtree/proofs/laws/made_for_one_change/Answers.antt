use Rattle.std.proofs.Common.{arith}
use Rattle.prefixtree.proofs.MadeCounts.{made-one}
use Rattle.prefixtree.proofs.laws.made_for_one_change.Goals as goal

pub returns : goal.returns
returns c = record {
  work = λ items index commitment level placed w ends. let made = made-one items index commitment level placed w ends in omega (arith, made.new);
  replaced = λ items index commitment level placed w ends found. let made = made-one items index commitment level placed w ends in omega (arith, made.replaced found);
}
