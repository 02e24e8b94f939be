use Rattle.std.proofs.Common.{◌≡◌, ◌≢◌, rules}
use Rattle.hex.specs.Hex.{encode_lower}
use Rattle.memory.proofs.OneWord.{lower_hex, not_lower}
use Rattle.memory.proofs.words.only_lower.Goals as goal

pub returns-then-branch : goal.returns-then-branch
returns-then-branch c = let is : c.args.word.now ≡ encode_lower c.args.bytes.items = search rules in lower_hex c.args.word.now c.args.bytes.items c.requires is

pub returns-else-branch : goal.returns-else-branch
returns-else-branch c = let other : c.args.word.now ≢ encode_lower c.args.bytes.items = search rules in not_lower c.args.word.now c.args.bytes.items c.requires other
