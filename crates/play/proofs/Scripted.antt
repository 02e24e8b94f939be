-- A script is played line by line.
use Rattle.std.proofs.Common.{◌≡◌, ℕ, ◌+◌, List, [], ◌++◌, Bool, true, false, Option, Some, None, Result, Ok, Err, inl, inr, refl, sym, ap, subst, ◌∙◌, arith, append_assoc, append-nil}
use Rattle.std.specs.Prelude.{IfSome}
use Rattle.std.specs.Io.KnownBytes.{Appends}
use Rattle.std.proofs.KnownBytes.{Appends-nil, Appends-trans}
use Rattle.std.proofs.lemmas.List.{length-append}
use Rattle.rand_core.specs.Stream.{Stream}
use Rattle.textio.specs.declared.program_fault.ProgramFault.{ProgramFault}
use Rattle.textio.specs.declared.program_fault.ProgramFault.TheVariants as fault
use Rattle.textio.specs.Faults.{IsDeviceFault}
use Rattle.textio.specs.Lines.{lines_of}
use Rattle.textio.specs.Output.{WritesBeginning, WritesBut, WritesSome}
use Rattle.book.specs.Shows.{Provider, index_of}
use Rattle.epochs.specs.DirectoryStates.{provider}
use Rattle.epochs.proofs.Binding.{same_provider}
use Rattle.play.specs.Ends.{CannotRead, CannotWrite, Done, OutOfMemory, Plays}
use Rattle.play.specs.Lines.{as_lines}
use Rattle.play.specs.Parties.{AreAt, Parties}
use Rattle.play.specs.Played.{line_played, Stand}
use Rattle.play.specs.PlayedLines.{PlaysLine, PlaysNext}
use Rattle.play.specs.Plays.{PlaysTo}
use Rattle.play.specs.Printing.{by_line, onto, played_from, text, Printout}
use Rattle.play.specs.Reading.{TakesWholeLine}
use Rattle.play.specs.Scripts.{ScriptLine, line_of}
use Rattle.play.proofs.Through.{more-lines}

module _ (index : List ℕ → List ℕ) (begin : Stand) where
  -- what a script prints from the beginning on
  abbrev pub whole : List ℕ → Printout
  whole script = played_from index 1 begin (lines_of script)

  -- the lines before this one were printed, what is not written of them waits, and the script stands so
  pub record IsMidway (script : List ℕ) (old : Option (List ℕ)) (place : ℕ) (now : Stand) (left new : Option (List ℕ)) (waits : List ℕ) : Type 0 where
    pub rest : List ℕ
    pub is : left ≡ Some rest
    pub front : List (List ℕ)
    pub wrote : WritesBut old new (as_lines front) waits
    pub prints : whole script ≡ onto front (played_from index place now (lines_of rest))

  abbrev pub SoFar : Option (List ℕ) → Option (List ℕ) → ℕ → Stand → Option (List ℕ) → Option (List ℕ) → List ℕ → Type 0
  SoFar input old place now left new waits = IfSome input (λ script. IsMidway script old place now left new waits)

  pub at_first : (input old : Option (List ℕ)) → SoFar input old 1 begin input old []
  at_first None old = tt
  at_first (Some script) old = record { rest = script; is = refl; front = []; wrote = ([], refl, Appends-nil old); prints = refl }

  -- ---- ends

  text_is : (script : List ℕ) (old : Option (List ℕ)) (place : ℕ) (now : Stand) (left new : Option (List ℕ)) (waits : List ℕ) (m : IsMidway script old place now left new waits)
      → text (whole script) ≡ as_lines m.front ++ text (played_from index place now (lines_of m.rest))
  text_is script old place now left new waits m = ap text m.prints ∙ more-lines m.front (played_from index place now (lines_of m.rest)).lines

  writes_some : (script : List ℕ) (old : Option (List ℕ)) (place : ℕ) (now : Stand) (left new : Option (List ℕ)) (waits : List ℕ) → IsMidway script old place now left new waits → WritesSome old new (text (whole script))
  writes_some script old place now left new waits m =
      let later = text (played_from index place now (lines_of m.rest)) in
      let (begun, parts, appends) = m.wrote in (
        waits ++ later,
        (begun, text_is script old place now left new waits m ∙ ap (λ (t : List ℕ). t ++ later) parts ∙ append_assoc begun waits later, appends),
      )

  pub cannot_read : (input old : Option (List ℕ)) (place : ℕ) (now : Stand) (left new : Option (List ℕ)) (waits : List ℕ) → SoFar input old place now left new waits → Plays whole input old new CannotRead
  cannot_read None old place now left new waits so = tt
  cannot_read (Some script) old place now left new waits so = writes_some script old place now left new waits so

  out_of_memory : (input old : Option (List ℕ)) (place : ℕ) (now : Stand) (left new : Option (List ℕ)) (waits : List ℕ) → SoFar input old place now left new waits → Plays whole input old new OutOfMemory
  out_of_memory None old place now left new waits so = tt
  out_of_memory (Some script) old place now left new waits so = writes_some script old place now left new waits so

  -- a read failed, or memory ran out
  pub device_ends : (input old : Option (List ℕ)) (place : ℕ) (now : Stand) (left new : Option (List ℕ)) (waits : List ℕ) (why : ProgramFault) → IsDeviceFault why → SoFar input old place now left new waits
      → PlaysTo whole input old new (Err why)
  device_ends input old place now left new waits fault.CannotRead is so = cannot_read input old place now left new waits so
  device_ends input old place now left new waits fault.OutOfMemory is so = out_of_memory input old place now left new waits so
  device_ends input old place now left new waits fault.BadHex is so = absurd is
  device_ends input old place now left new waits (fault.BadItem other) is so = absurd is
  device_ends input old place now left new waits (fault.NotACommand other) is so = absurd is
  device_ends input old place now left new waits (fault.IndexRepeated other) is so = absurd is
  device_ends input old place now left new waits fault.NotEvidence is so = absurd is
  device_ends input old place now left new waits fault.BadRecord is so = absurd is
  device_ends input old place now left new waits fault.OtherKeys is so = absurd is
  device_ends input old place now left new waits fault.CannotWrite is so = absurd is
  device_ends input old place now left new waits fault.CannotListen is so = absurd is

  -- ---- writing

  joined : (old new newer : Option (List ℕ)) (printed waits after : List ℕ) → WritesBut old new printed waits → WritesBut new newer waits after → WritesBut old newer printed after
  joined old new newer printed waits after (begun, parts, appends) (more, rest, writes) =
      (begun ++ more, parts ∙ ap (λ (t : List ℕ). begun ++ t) rest ∙ sym (append_assoc begun more after), Appends-trans old new newer begun more appends writes)

  all_of : (old new : Option (List ℕ)) (printed : List ℕ) → Appends old new printed → WritesBut old new printed []
  all_of old new printed writes = (printed, sym (append-nil printed), writes)

  -- some of what waits was written
  pub writes_on : (input old : Option (List ℕ)) (place : ℕ) (now : Stand) (left new newer : Option (List ℕ)) (waits after : List ℕ) → SoFar input old place now left new waits → WritesBut new newer waits after
      → SoFar input old place now left newer after
  writes_on None old place now left new newer waits after so writes = tt
  writes_on (Some script) old place now left new newer waits after so writes =
      record { rest = so.rest; is = so.is; front = so.front; wrote = joined old new newer (as_lines so.front) waits after so.wrote writes; prints = so.prints }

  -- all of it was
  pub writes_all : (input old : Option (List ℕ)) (place : ℕ) (now : Stand) (left new newer : Option (List ℕ)) (waits : List ℕ) → SoFar input old place now left new waits → Appends new newer waits
      → SoFar input old place now left newer []
  writes_all input old place now left new newer waits so writes = writes_on input old place now left new newer waits [] so (all_of new newer waits writes)

  -- less of it was
  pub cannot_write : (input old : Option (List ℕ)) (place : ℕ) (now : Stand) (left new newer : Option (List ℕ)) (waits : List ℕ) → SoFar input old place now left new waits → WritesBeginning new newer waits
      → Plays whole input old newer CannotWrite
  cannot_write None old place now left new newer waits so writes = tt
  cannot_write (Some script) old place now left new newer waits so (rest, some, writes) =
      let later = text (played_from index place now (lines_of so.rest)) in
      let (begun, parts, appends) = joined old new newer (as_lines so.front) waits rest so.wrote writes in (
        rest ++ later,
        omega (arith, some, length-append rest later),
        (begun, text_is script old place now left new waits so ∙ ap (λ (t : List ℕ). t ++ later) parts ∙ append_assoc begun rest later, appends),
      )

  whole_front : (old new : Option (List ℕ)) (printed : List ℕ) → WritesBut old new printed [] → Appends old new printed
  whole_front old new printed (begun, parts, appends) = subst (Appends old new) (sym (parts ∙ append-nil begun)) appends

  -- no line is left
  pub all_played : (input old : Option (List ℕ)) (place : ℕ) (now : Stand) (left after new : Option (List ℕ)) (line : List ℕ) → SoFar input old place now left new [] → TakesWholeLine left after false line
      → Plays whole input old new Done
  all_played None old place now left after new line so takes = tt
  all_played (Some script) old place now left after new line so takes =
      let none : so.rest ≡ [] = subst (λ (l : Option (List ℕ)). TakesWholeLine l after false line) so.is takes in
      let prints : whole script ≡ onto so.front (record { lines = []; stopped = None }) = so.prints ∙ ap (λ (rest : List ℕ). onto so.front (played_from index place now (lines_of rest))) none in (
        ap (λ (p : Printout). p.stopped) prints,
        subst (Appends old new) (sym (ap text prints ∙ ap as_lines (append-nil so.front))) (whole_front old new (as_lines so.front) so.wrote),
      )

  -- ---- a line more

  -- the next line, and those behind it
  record IsNext (script : List ℕ) (old : Option (List ℕ)) (place : ℕ) (now : Stand) (line : List ℕ) (after new : Option (List ℕ)) (waits : List ℕ) : Type 0 where
    pub rest : List ℕ
    pub is : after ≡ Some rest
    pub front : List (List ℕ)
    pub wrote : WritesBut old new (as_lines front) waits
    pub prints : whole script ≡ onto front (by_line index place now (line_of line) (λ then_stand. played_from index (place + 1) then_stand (lines_of rest)))

  next_of : (script : List ℕ) (old : Option (List ℕ)) (place : ℕ) (now : Stand) (left after new : Option (List ℕ)) (waits line : List ℕ) → IsMidway script old place now left new waits → TakesWholeLine left after true line
      → IsNext script old place now line after new waits
  next_of script old place now left after new waits line m takes = by after (subst (λ (l : Option (List ℕ)). TakesWholeLine l after true line) m.is takes)
    where
      by : (after : Option (List ℕ)) → TakesWholeLine (Some m.rest) after true line → IsNext script old place now line after new waits
      by None is = absurd is
      by (Some rest) is = record { rest = rest; is = refl; front = m.front; wrote = m.wrote; prints = m.prints ∙ ap (λ (lines : List (List ℕ)). onto m.front (played_from index place now lines)) is }

  -- it is no command
  pub refused : (input old : Option (List ℕ)) (place : ℕ) (now : Stand) (left after new : Option (List ℕ)) (line : List ℕ) (other : ℕ) → SoFar input old place now left new [] → TakesWholeLine left after true line
      → other ≡ place → line_of line ≡ None → PlaysTo whole input old new (Err (fault.NotACommand other))
  refused None old place now left after new line other so takes same none = tt
  refused (Some script) old place now left after new line other so takes same none =
      let n = next_of script old place now left after new [] line so takes in
      let prints : whole script ≡ onto n.front (record { lines = []; stopped = Some place }) =
      n.prints ∙ ap (λ (said : Option ScriptLine). onto n.front (by_line index place now said (λ then_stand. played_from index (place + 1) then_stand (lines_of n.rest)))) none in (
        ap (λ (p : Printout). p.stopped) prints ∙ ap (λ (k : ℕ). Some k) (sym same),
        subst (Appends old new) (sym (ap text prints ∙ ap as_lines (append-nil n.front))) (whole_front old new (as_lines n.front) n.wrote),
      )

  module _ (place : ℕ) (now : Stand) (line : List ℕ) (said : ScriptLine) (is_said : line_of line ≡ Some said) where
    own : List (List ℕ)
    own = (line_played index now said).0

    then_stand : Stand
    then_stand = (line_played index now said).1

    prints_more : (script : List ℕ) (old after new : Option (List ℕ)) (waits : List ℕ) (n : IsNext script old place now line after new waits)
        → whole script ≡ onto (n.front ++ own) (played_from index (place + 1) then_stand (lines_of n.rest))
    unfolding own then_stand
    prints_more script old after new waits n =
        let later = played_from index (place + 1) (line_played index now said).1 (lines_of n.rest) in
        n.prints ∙ ap (λ (it : Option ScriptLine). onto n.front (by_line index place now it (λ stand. played_from index (place + 1) stand (lines_of n.rest)))) is_said
        ∙ ap (λ (lines : List (List ℕ)). record { lines = lines; stopped = later.stopped }) (sym (append_assoc n.front (line_played index now said).0 later.lines))

    -- it was played, and its text waits behind the rest
    pub one_more : (input old : Option (List ℕ)) (left after new : Option (List ℕ)) (waits wrote grown : List ℕ) → SoFar input old place now left new waits → TakesWholeLine left after true line
        → wrote ≡ as_lines (line_played index now said).0 → grown ≡ waits ++ wrote → SoFar input old (place + 1) (line_played index now said).1 after new grown
    unfolding own then_stand
    one_more None old left after new waits wrote grown so takes same grows = tt
    one_more (Some script) old left after new waits wrote grown so takes same grows =
        let n = next_of script old place now left after new waits line so takes in
        let (begun, parts, appends) = n.wrote in
        record {
          rest = n.rest;
          is = n.is;
          front = n.front ++ (line_played index now said).0;
          wrote = (
            begun,
            more-lines n.front (line_played index now said).0 ∙ ap (λ (t : List ℕ). t ++ as_lines (line_played index now said).0) parts ∙ append_assoc begun waits (as_lines (line_played index now said).0)
                ∙ ap (λ (t : List ℕ). begun ++ (waits ++ t)) (sym same) ∙ ap (λ (t : List ℕ). begun ++ t) (sym grows),
            appends,
          );
          prints = prints_more script old after new waits n;
        }

-- ---- the parties

module _ {R : Type 0} (digest_of : List ℕ → List ℕ) (value_of signature_of : List ℕ → List ℕ → List ℕ) (stream : R → Stream) (accepted verified : List ℕ → List ℕ → List ℕ → Type 0) where
  abbrev P : Parties R → Provider
  P parties = provider digest_of value_of signature_of parties.hub.service.directory

  -- the parties stand as the script does after the lines so far
  pub record GoesOn (first : Parties R) (begin : Stand) (input old : Option (List ℕ)) (place : ℕ) (now : Parties R) (left new : Option (List ℕ)) (waits : List ℕ) : Type 0 where
    pub stand : Stand
    pub at : AreAt digest_of value_of signature_of stream accepted verified now stand
    pub same : P now ≡ P first
    pub so : SoFar (index_of (P first)) begin input old place stand left new waits

  pub goes_at_first : (first : Parties R) (begin : Stand) (input old : Option (List ℕ)) (waits : List ℕ) → waits ≡ [] → AreAt digest_of value_of signature_of stream accepted verified first begin
      → GoesOn first begin input old 1 first input old waits
  goes_at_first first begin input old waits none are = record {
    stand = begin;
    at = are;
    same = refl;
    so = subst (λ (w : List ℕ). SoFar (index_of (P first)) begin input old 1 begin input old w) (sym none) (at_first (index_of (P first)) begin input old);
  }

  abbrev Whole : Parties R → Stand → List ℕ → Printout
  Whole first begin script = played_from (index_of (P first)) 1 begin (lines_of script)

  module _ (first : Parties R) (begin : Stand) (input old : Option (List ℕ)) (place : ℕ) (now : Parties R) (left new newer : Option (List ℕ)) (waits : List ℕ) (g : GoesOn first begin input old place now left new waits) where
    -- some of what waits was written
    pub goes_writing : (after : List ℕ) → WritesBut new newer waits after → GoesOn first begin input old place now left newer after
    goes_writing after writes = record { stand = g.stand; at = g.at; same = g.same; so = writes_on (index_of (P first)) begin input old place g.stand left new newer waits after g.so writes }

    -- all of it was
    pub goes_written : Appends new newer waits → GoesOn first begin input old place now left newer []
    goes_written writes = record { stand = g.stand; at = g.at; same = g.same; so = writes_all (index_of (P first)) begin input old place g.stand left new newer waits g.so writes }

    -- less of it was
    pub write_ends : WritesBeginning new newer waits → Plays (Whole first begin) input old newer CannotWrite
    write_ends writes = cannot_write (index_of (P first)) begin input old place g.stand left new newer waits g.so writes

  -- a line that is not played, where nothing waits
  pub line_ends : (first : Parties R) (begin : Stand) (input old : Option (List ℕ)) (place : ℕ) (now after : Parties R) (left later new : Option (List ℕ)) (line before grown : List ℕ) (why : ProgramFault)
      → (g : GoesOn first begin input old place now left new []) → TakesWholeLine left later true line
      → PlaysLine digest_of value_of signature_of stream accepted verified now g.stand place line before (Err why) grown after → PlaysTo (Whole first begin) input old new (Err why)
  line_ends first begin input old place now after left later new line before grown (fault.NotACommand other) g takes (same, none) =
      refused (index_of (P first)) begin input old place g.stand left later new line other g.so takes same none
  line_ends first begin input old place now after left later new line before grown fault.OutOfMemory g takes plays =
      device_ends (index_of (P first)) begin input old place g.stand left new [] fault.OutOfMemory tt g.so
  line_ends first begin input old place now after left later new line before grown fault.CannotRead g takes plays = absurd plays
  line_ends first begin input old place now after left later new line before grown fault.CannotWrite g takes plays = absurd plays
  line_ends first begin input old place now after left later new line before grown fault.BadHex g takes plays = absurd plays
  line_ends first begin input old place now after left later new line before grown (fault.BadItem other) g takes plays = absurd plays
  line_ends first begin input old place now after left later new line before grown (fault.IndexRepeated other) g takes plays = absurd plays
  line_ends first begin input old place now after left later new line before grown fault.NotEvidence g takes plays = absurd plays
  line_ends first begin input old place now after left later new line before grown fault.BadRecord g takes plays = absurd plays
  line_ends first begin input old place now after left later new line before grown fault.OtherKeys g takes plays = absurd plays
  line_ends first begin input old place now after left later new line before grown fault.CannotListen g takes plays = absurd plays

  module _ (first : Parties R) (begin : Stand) (input old : Option (List ℕ)) (place : ℕ) (now after : Parties R) (left later new : Option (List ℕ)) (waits line before wrote grown : List ℕ)
      (g : GoesOn first begin input old place now left new waits) (takes : TakesWholeLine left later true line) (none : before ≡ []) (grows : grown ≡ waits ++ wrote)
      (plays : PlaysLine digest_of value_of signature_of stream accepted verified now g.stand place line before (Ok tt) wrote after) where
    is_text : wrote ≡ as_lines (line_played (index_of (P first)) g.stand plays.0).0
    is_text = plays.2.text ∙ ap (λ (t : List ℕ). t ++ as_lines (line_played (index_of (P now)) g.stand plays.0).0) none
        ∙ ap (λ (p : Provider). as_lines (line_played (index_of p) g.stand plays.0).0) g.same

    -- one that is played, and its text waits
    pub goes_further : GoesOn first begin input old (place + 1) after later new grown
    goes_further = record {
      stand = (line_played (index_of (P first)) g.stand plays.0).1;
      at = subst (λ (p : Provider). AreAt digest_of value_of signature_of stream accepted verified after (line_played (index_of p) g.stand plays.0).1) g.same plays.2.stands;
      same = same_provider digest_of value_of signature_of now.hub.service.directory after.hub.service.directory plays.3 ∙ g.same;
      so = one_more (index_of (P first)) begin place g.stand line plays.0 plays.1 input old left later new waits wrote grown g.so takes is_text grows;
    }

  -- ---- the next line is taken and played

  module _ (first : Parties R) (begin : Stand) (input old : Option (List ℕ)) (place : ℕ) (now after : Parties R) (left later new : Option (List ℕ)) (waits grown : List ℕ)
      (g : GoesOn first begin input old place now left new waits) where
    abbrev Next : Result Bool ProgramFault → Type 0
    Next result = PlaysNext digest_of value_of signature_of stream accepted verified now g.stand place left later waits result grown after

    pub next_played : Next (Ok true) → GoesOn first begin input old (place + 1) after later new grown
    next_played (line, said, takes, grows, plays) = goes_further first begin input old place now after left later new waits line [] said grown g takes refl grows plays

    module _ (newer : Option (List ℕ)) where
      -- what waits was written
      all_written : grown ≡ waits → Appends new newer grown → SoFar (index_of (P first)) begin input old place g.stand left newer []
      all_written same writes = writes_all (index_of (P first)) begin input old place g.stand left new newer waits g.so (subst (Appends new newer) same writes)

      -- no line is left
      pub next_none : Next (Ok false) → Appends new newer grown → PlaysTo (Whole first begin) input old newer (Ok tt)
      next_none (line, takes, same) writes = all_played (index_of (P first)) begin input old place g.stand left later newer line (all_written same writes) takes

      -- it was not played
      pub next_stops : (why : ProgramFault) → Next (Err why) → Appends new newer grown → PlaysTo (Whole first begin) input old newer (Err why)
      next_stops why (same, inl device) writes = device_ends (index_of (P first)) begin input old place g.stand left newer [] why device (all_written same writes)
      next_stops why (same, inr (line, said, more, takes, plays)) writes =
          line_ends first begin input old place now after left later newer line said more why
          (record { stand = g.stand; at = g.at; same = g.same; so = all_written same writes }) takes plays

      -- less of what waits was written
      pub next_unwritten : grown ≡ waits → WritesBeginning new newer grown → Plays (Whole first begin) input old newer CannotWrite
      next_unwritten same writes = write_ends first begin input old place now left new newer waits g (subst (WritesBeginning new newer) same writes)
