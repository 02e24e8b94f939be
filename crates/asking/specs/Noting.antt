-- What a frame that came for a look-up shows of a final binding.
use Rattle.std.specs.Prelude.{◌≡◌, ◌⊎◌, ℕ, List}
use Rattle.rootchain.specs.Chains.{KeyedRoots}
use Rattle.wire.specs.Frames.{Frame}
use Rattle.wire.specs.Requests.{RequestContent}
use Rattle.asking.specs.FinalBindings.{Finals, NotesReply}
use Rattle.asking.specs.Reports.{Report, silent}
use Rattle.asking.specs.Scenes.{FrameAnswers, IsUnanswered}

-- nothing where it is no answer, which was told; or what its body does
abbrev pub NotesAnswer : (List ℕ → List ℕ) → (List ℕ → List ℕ → List ℕ → Type 0) → KeyedRoots → List ℕ → RequestContent → Frame → Report → Finals → Report → Finals → Type 0
NotesAnswer hash accepted chain name asked frame told before shown after = (IsUnanswered asked frame told × (shown ≡ silent) × (after ≡ before))
    ⊎ (FrameAnswers asked frame × NotesReply hash accepted chain name frame.body before shown after)
