use Rattle.std.proofs.Common.{◌≡◌, ℕ, ◌<◌, slice_get, Some}
use Rattle.client.specs.Finality.{IndexedReply, IsChangedByReply}
use Rattle.client.proofs.changes.first_to_change.Given as goal

abbrev pub invariant-loop-later : goal.invariant-loop-later
invariant-loop-later l = (k : ℕ) (w : IndexedReply) → k < l.later-index → slice_get l.replies k ≡ Some w → ¬ IsChangedByReply l.reply w
