-- One line more on the errors.
use Rattle.std.proofs.Common.{◌≡◌, ◌+◌, ◌<◌, ℕ, Bool, true, false, List, ◌∷◌, Option, Result, OnOk, IfErr, sym, ap, subst, arith}
use Rattle.std.specs.Io.KnownBytes.{Appends}
use Rattle.textio.specs.declared.stream_fault.StreamFault.{StreamFault}
use Rattle.textio.specs.declared.stream_fault.StreamFault.TheVariants.{CannotWrite}
use Rattle.textio.specs.Output.{WritesBeginning, WritesSome}
use Rattle.textio.proofs.Writing.{some_written}
use Rattle.connections.specs.Telling.{line_text, Line, OutOfMemory, Report, TellsLines, Unkept}

module _ (every count : ℕ) (start old new : Option (List ℕ)) (result : Result (Unit {0}) StreamFault) where
  -- the line is written, or a beginning of it
  abbrev pub Wrote : Line → Type 0
  Wrote line = OnOk result (Appends old new (line_text line)) × IfErr result (λ fault. (fault ≡ CannotWrite) × WritesBeginning old new (line_text line))

  wrote : (line : Line) → Wrote line → WritesSome old new (line_text line)
  wrote line (ok, err) = some_written old new (line_text line) result ok err

  pub memory_more : (told : Bool) → TellsLines every told count start old → Wrote OutOfMemory → TellsLines every told (count + 1) start new
  memory_more told (lines, written, memory, unkept, none) one = (OutOfMemory ∷ lines, (old, written, wrote OutOfMemory one), ap (λ (n : ℕ). n + 1) memory, unkept, none)

  pub unkept_more : TellsLines every false count start old → Wrote Unkept → TellsLines every true count start new
  unkept_more (lines, written, memory, unkept, none) one = (Unkept ∷ lines, (old, written, wrote Unkept one), memory, ap (λ (n : ℕ). n + 1) unkept, none)

  pub report_more : (told : Bool) (words : List ℕ) → 0 < every → TellsLines every told count start old → Wrote (Report words) → TellsLines every told count start new
  report_more told words wanted (lines, written, memory, unkept, none) one =
      (Report words ∷ lines, (old, written, wrote (Report words) one), memory, unkept, λ never. let n : every ≡ 0 = never in let w : 0 < every = wanted in omega arith)

  pub report_of : (told : Bool) (words text : List ℕ) → text ≡ line_text (Report words) → 0 < every → TellsLines every told count start old → OnOk result (Appends old new text)
      → IfErr result (λ fault. (fault ≡ CannotWrite) × WritesBeginning old new text) → TellsLines every told count start new
  report_of told words text is wanted lines ok err =
      report_more told words wanted lines (subst (λ (t : List ℕ). OnOk result (Appends old new t)) is ok, subst (λ (t : List ℕ). IfErr result (λ fault. (fault ≡ CannotWrite) × WritesBeginning old new t)) is err)

-- one line about memory more, behind so many
pub memory_next : (every count lines : ℕ) (start old new : Option (List ℕ)) (result : Result (Unit {0}) StreamFault) (told : Bool) → TellsLines every told (count + lines) start old
    → Wrote every count start old new result OutOfMemory → TellsLines every told (count + (lines + 1)) start new
memory_next every count lines start old new result told before one =
    let same : (count + lines) + 1 ≡ count + (lines + 1) = omega arith in
    subst (λ (n : ℕ). TellsLines every told n start new) same (memory_more every (count + lines) start old new result told before one)

-- what a round tells: lines about memory, perhaps the one about what cannot be kept, and perhaps a report
pub told_more : (every wanted wanting : ℕ) (told told_new : Bool) (errors middle between new : Option (List ℕ)) → wanted ≡ every
    → ((every : ℕ) (told : Bool) (count : ℕ) (start : Option (List ℕ)) → TellsLines every told count start errors → TellsLines every told (count + wanting) start middle)
    → ((every count : ℕ) (start : Option (List ℕ)) → TellsLines every told count start middle → TellsLines every told_new count start between)
    → ((told : Bool) (count : ℕ) (start : Option (List ℕ)) → TellsLines wanted told count start between → TellsLines wanted told count start new)
    → (count : ℕ) (start : Option (List ℕ)) → TellsLines every told count start errors → TellsLines every told_new (count + wanting) start new
told_more every wanted wanting told told_new errors middle between new same memory unkept report count start lines =
    let before = unkept every (count + wanting) start (memory every told count start lines) in
    subst (λ (e : ℕ). TellsLines e told_new (count + wanting) start new) same (report told_new (count + wanting) start (subst (λ (e : ℕ). TellsLines e told_new (count + wanting) start between) (sym same) before))
