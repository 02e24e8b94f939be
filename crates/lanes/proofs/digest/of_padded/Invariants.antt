use Rattle.std.proofs.Common.{[], map, slice_index_or}
use Rattle.sha2.specs.Sha256.{padded_message}
use Rattle.lanes.proofs.Places.{IsWritten}
use Rattle.lanes.proofs.digest.of_padded.Given as goal

abbrev pub invariant-pad : goal.invariant-pad
invariant-pad g l = IsWritten (λ k. padded_message (slice_index_or (map (λ message. message.now) l.messages) k [])) [] g.row.N l.k l.texts
