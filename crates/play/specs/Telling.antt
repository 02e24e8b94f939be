-- The words of what the parties of a script say, by what they have in hand.
use Rattle.std.specs.Prelude.{◌≡◌, ◌≢◌, ℕ, List, ◌++◌, map, codes, decimal}
use Rattle.std.specs.List.{flat_map, AllByRecursion}
use Rattle.hex.specs.Hex.{encode_lower}
use Rattle.book.specs.declared.directory_refusal.Refusal.TheVariants.{Memory}
use Rattle.book.specs.Refusals.{book_refusal_number}
use Rattle.wire.specs.Frames.{Frame, frame_bytes}
use Rattle.wire.specs.Laws.{IsReadAs}
use Rattle.wire.specs.Responses.{ResponseContent, Refused}
use Rattle.monitor.specs.declared.step.Step.{Step}
use Rattle.monitor.specs.declared.step.Step.TheVariants.{Kept, Alarm}
use Rattle.proofs.specs.Views.{key_stated}
use Rattle.play.specs.Hearing.{response_text}
use Rattle.play.specs.Lines.{of_session}
use Rattle.play.specs.Watchers.{alarm_key}

-- a word, a name in digits, and an epoch
abbrev pub placed_text : List ℕ → List ℕ → ℕ → List ℕ
placed_text word name epoch = word ++ encode_lower name ++ codes " " ++ decimal epoch

-- a step of a monitor of a name at an epoch
abbrev pub step_text : List ℕ → ℕ → Step → List ℕ
step_text name epoch Kept = placed_text (codes "kept ") name epoch
step_text name epoch (Alarm at found) = placed_text (codes "alarm ") name at ++ codes " " ++ alarm_key (key_stated found)

-- ---- what a session hears

-- a frame, and the response that it is
abbrev pub HeardFrame : Type 0
HeardFrame = Frame × ResponseContent

-- the bytes are these frames, one after another, and each is read as its response
abbrev pub AreFramesOf : List ℕ → List HeardFrame → Type 0
AreFramesOf bytes heard = (bytes ≡ flat_map (λ one. frame_bytes one.0) heard) × AllByRecursion (λ one. IsReadAs one.0 one.1) heard

-- no frame says that memory ran out
abbrev pub HaveMemory : List HeardFrame → Type 0
HaveMemory = AllByRecursion (λ one. one.1 ≢ Refused (book_refusal_number Memory))

-- the lines of a session
abbrev pub session_lines : ℕ → List HeardFrame → List (List ℕ)
session_lines session heard = map (of_session session) (map (λ one. response_text one.1) heard)
