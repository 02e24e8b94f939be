-- The messages of sessions that are served one after another are answered one after another.
use Rattle.std.proofs.Common.{ℕ, List, [], ◌∷◌}
use Rattle.wire.specs.Frames.{Frame}
use Rattle.hub.specs.Exchanges.{Exchange}
use Rattle.hub.specs.Runs.{lines, AllAnswered}
use Rattle.hub.proofs.Running.{answered_append}
use Rattle.server.specs.Serving.{all_lines, AllServed}

pub all_answered : {S : Type 0} (answers : S → Frame → List ℕ → S → Type 0) (before : S) (served : List (ℕ × List Exchange)) (after : S) → AllServed answers before served after → AllAnswered answers before (all_lines served) after
all_answered answers before [] after same = same
all_answered answers before (one ∷ more) after (middle, replied, rest) = answered_append answers before (lines one.0 one.1) middle (all_lines more) after replied (all_answered answers middle more after rest)
