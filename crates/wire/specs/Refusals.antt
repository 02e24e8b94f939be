-- Why a piece of a stream is not taken, or why a frame is not read.
use Rattle.std.specs.Prelude.{ℕ}
use Rattle.wire.specs.declared.message_refusals.FeedRefusal.{FeedRefusal}
use Rattle.wire.specs.declared.message_refusals.FeedRefusal.TheVariants.{BadFrame, Memory}
use Rattle.wire.specs.declared.message_refusals.ReadRefusal.{ReadRefusal}
use Rattle.wire.specs.declared.message_refusals.ReadRefusal.TheVariants.{BadKind, BadBody}

-- the number of a refusal
abbrev pub feed_refusal_number : FeedRefusal → ℕ
feed_refusal_number BadFrame = 1
feed_refusal_number Memory = 14

abbrev pub read_refusal_number : ReadRefusal → ℕ
read_refusal_number BadKind = 2
read_refusal_number BadBody = 3
