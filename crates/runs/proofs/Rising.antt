-- No step lowers the status that was told.
use Rattle.std.proofs.Common.{◌≡◌, ◌≢◌, ◌≤◌, Bool, ℕ, List, Option, Result, Ok, Err, arith, refl, rules, subst, sym}
use Rattle.std.specs.Prelude.{IfErr, IfOk, OnOk, ⊤}
use Rattle.encoding.specs.declared.bound_key.BoundKey.{BoundKey}
use Rattle.rootchain.specs.declared.signed_promise.SignedPromise.{SignedPromise}
use Rattle.memory.specs.Memories.{Memory}
use Rattle.wire.specs.Frames.{Frame}
use Rattle.wire.specs.Requests.{RequestContent}
use Rattle.asking.specs.Asking.{HearsReply, HearsSome}
use Rattle.asking.specs.Catching.{Advances, AdvancesSome}
use Rattle.runs.specs.Ending.{LooksSome}
use Rattle.asking.specs.Following.{IsBelow, StopsList}
use Rattle.asking.specs.Joining.{BeginsSome, BeginsWatch}
use Rattle.asking.specs.Reports.{Report, report_of, told_after, worse}
use Rattle.runs.specs.Runs.{Background}
use Rattle.asking.specs.Scenes.{HaltsAfter, Scene, StopsAtHead}
use Rattle.asking.specs.declared.asker.Asker.{Asker}
use Rattle.memory.specs.declared.mark.Mark.{Mark}
use Rattle.asking.specs.declared.ask_fault.AskFault.{AskFault}
use Rattle.asking.specs.declared.ask_fault.AskFault.TheVariants.{NoReply, OutOfMemory, Stopped}
use Rattle.asking.specs.declared.said.Said.{Said}
use Rattle.runs.proofs.EveryStep.{advances-keep, advances_some-keeps, begins_some-keeps, begins_watch-keeps, hears_some-keeps, looks_some-keeps, reply-keeps, EachKeeps}

worse-above : (one other : ℕ) → one ≤ worse one other
worse-above one other = grind arith

at-most : (status : ℕ) → status ≤ status
at-most status = omega arith

pub rises_on : (low middle high : ℕ) → low ≤ middle → middle ≤ high → low ≤ high
rises_on low middle high one other = omega (arith, one, other)

no-reply : NoReply ≢ Stopped
no-reply same = search (rules, same)

no-memory : OutOfMemory ≢ Stopped
no-memory same = search (rules, same)

-- however a question ends
pub rises_ever : {A : Type 0} (low high : ℕ) (result : Result A AskFault) → OnOk result (low ≤ high) → (result ≡ Err Stopped → low ≤ high) → IfErr result (λ fault. fault ≢ Stopped → low ≤ high) → low ≤ high
rises_ever low high (Ok done) ends stops halts = ends
rises_ever low high (Err NoReply) ends stops halts = halts no-reply
rises_ever low high (Err Stopped) ends stops halts = stops refl
rises_ever low high (Err OutOfMemory) ends stops halts = halts no-memory

err-then : {A : Type 0} (Holds More : AskFault → Type 0) (result : Result A AskFault) → IfErr result Holds → ((fault : AskFault) → Holds fault → More fault) → IfErr result More
err-then Holds More (Ok done) holds more = tt
err-then Holds More (Err fault) holds more = more fault holds

module _ (hash : List ℕ → List ℕ) (accepted verified : List ℕ → List ℕ → List ℕ → Type 0) {T : Type 0} (exchanged : T → RequestContent → Frame → T → Type 0) where
  abbrev pub Rises : Scene T → Scene T → Type 0
  Rises before after = before.told.status ≤ after.told.status

  same-told : (before after : Scene T) → after.told ≡ before.told → Rises before after
  same-told before after same = subst (λ (r : Report). before.told.status ≤ r.status) (sym same) (at-most before.told.status)

  more-told : (before after : Scene T) (told : Report) → after.told ≡ told_after before.told told → Rises before after
  more-told before after told is = subst (λ (r : Report). before.told.status ≤ r.status) (sym is) (worse-above before.told.status told.status)

  twice-told : (before after : Scene T) (told more : Report) → after.told ≡ told_after (told_after before.told told) more → Rises before after
  twice-told before after told more is = subst (λ (r : Report). before.told.status ≤ r.status) (sym is)
      (rises_on before.told.status (worse before.told.status told.status) (worse (worse before.told.status told.status) more.status) (worse-above before.told.status told.status) (worse-above (worse before.told.status told.status) more.status))

  pub each-rises : (marks : List Mark) → EachKeeps hash accepted verified exchanged marks (λ noted. ⊤) (λ key promised name given. ⊤) ⊤ Rises
  each-rises marks = record {
    none = λ before. at-most before.told.status;
    both = λ before middle after one other. rises_on before.told.status middle.told.status after.told.status one other;
    sends = λ before stream. at-most before.told.status;
    tells = λ before told. worse-above before.told.status told.status;
    takes = λ before after takes. same-told before after takes.3;
    stops = λ before after may stops. more-told before after stops.4 stops.6;
    tests = λ before name kept after asks. more-told before after (told_after asks.told asks.shown) asks.tells;
    steps = λ before place went after asks. more-told before after (told_after asks.told (told_after asks.shown asks.found)) asks.tells;
    joins = λ before key promised name given first monitor may is joined. at-most before.told.status;
    hears = λ before after held asked frame heard told hears tells monitors. more-told before after told tells;
    hands = λ before after held asked frame noted noted' hears notes may. twice-told before after (told_after hears.told hears.shown) hears.handed hears.tells;
  }

  -- ---- however it ends

  halted : {H V S : Type 0} (Reached : Scene T → Type 0) (before : Scene T) (fault : AskFault) (asker : Asker H V S) (said : Said) → ((reached : Scene T) → Reached reached → Rises before reached)
      → HaltsAfter Reached fault asker said → before.told.status ≤ said.status
  halted Reached before fault asker said rises (reached, is, (same, still)) = subst (λ (r : Report). before.told.status ≤ r.status) (sym same) (rises reached is)

  -- a list is taken on the way to an epoch
  pub advance_rises : {H V S : Type 0} (marks : List Mark) (epoch : ℕ) (result : Result Bool AskFault) (before after : Scene T) (asker : Asker H V S) (said : Said) → report_of said ≡ after.told
      → IfOk result (λ goes. Advances hash accepted verified exchanged epoch before goes after)
      → (result ≡ Err Stopped → IsBelow epoch before.client × StopsList hash verified exchanged before after)
      → IfErr result (λ fault. fault ≢ Stopped → IsBelow epoch before.client × HaltsAfter (AdvancesSome hash accepted verified exchanged epoch before) fault asker said) → Rises before after
  advance_rises marks epoch (Ok goes) before after asker said same advances stops halts = advances-keep hash accepted verified exchanged marks (each-rises marks) epoch before goes after advances
  advance_rises marks epoch (Err NoReply) before after asker said same advances stops halts =
      subst (λ (r : Report). before.told.status ≤ r.status) same (halted (AdvancesSome hash accepted verified exchanged epoch before) before NoReply asker said (advances_some-keeps hash accepted verified exchanged marks (each-rises marks) epoch before) (halts no-reply).1)
  advance_rises marks epoch (Err Stopped) before after asker said same advances stops halts = (each-rises marks).stops before after tt (stops refl).1
  advance_rises marks epoch (Err OutOfMemory) before after asker said same advances stops halts =
      subst (λ (r : Report). before.told.status ≤ r.status) same (halted (AdvancesSome hash accepted verified exchanged epoch before) before OutOfMemory asker said (advances_some-keeps hash accepted verified exchanged marks (each-rises marks) epoch before) (halts no-memory).1)

  -- a reply is heard
  pub hear_rises : {H V S A : Type 0} (marks : List Mark) (held : ℕ) (asked : RequestContent) (frame : Frame) (noted noted' : List SignedPromise) (result : Result A AskFault) (before after : Scene T) (asker : Asker H V S) (said : Said) → report_of said ≡ after.told
      → OnOk result (HearsReply hash accepted verified exchanged marks held asked frame noted noted' before after)
      → IfErr result (λ fault. HaltsAfter (HearsSome hash accepted verified exchanged fault marks held asked frame noted noted' before) fault asker said) → Rises before after
  hear_rises marks held asked frame noted noted' (Ok done) before after asker said same hears halts = reply-keeps hash accepted verified exchanged marks (each-rises marks) held asked frame noted noted' before after tt hears
  hear_rises marks held asked frame noted noted' (Err fault) before after asker said same hears halts =
      subst (λ (r : Report). before.told.status ≤ r.status) same (halted (HearsSome hash accepted verified exchanged fault marks held asked frame noted noted' before) before fault asker said (λ reached is. hears_some-keeps hash accepted verified exchanged marks (each-rises marks) held asked frame noted noted' before reached tt is) halts)

  -- the latest root is heard, or some of it
  pub looked_rises : (background : Background) (held : ℕ) (frame : Frame) (before : Scene T) (said : Said) → (reached : Scene T) × LooksSome hash accepted verified exchanged background held frame before reached × (report_of said ≡ reached.told)
      → before.told.status ≤ said.status
  looked_rises background held frame before said (reached, looks, same) =
      subst (λ (r : Report). before.told.status ≤ r.status) (sym same) (looks_some-keeps hash accepted verified exchanged background (each-rises background.marks) held frame before reached looks)

  pub watch_rises : {H V S A : Type 0} (known : Memory) (marks : List Mark) (key : List ℕ) (promised : List SignedPromise) (name : List ℕ) (given : Option BoundKey) (result : Result A AskFault) (before after : Scene T) (asker : Asker H V S) (said : Said)
      → report_of said ≡ after.told → OnOk result (BeginsWatch hash accepted verified exchanged known marks key promised name given before after)
      → IfErr result (λ fault. HaltsAfter (BeginsSome hash accepted verified exchanged known marks key promised name given before) fault asker said) → Rises before after
  watch_rises known marks key promised name given (Ok done) before after asker said same begins halts = begins_watch-keeps hash accepted verified exchanged marks (each-rises marks) key promised name given tt known before after begins
  watch_rises known marks key promised name given (Err fault) before after asker said same begins halts = subst (λ (r : Report). before.told.status ≤ r.status) same
      (halted (BeginsSome hash accepted verified exchanged known marks key promised name given before) before fault asker said (begins_some-keeps hash accepted verified exchanged marks (each-rises marks) key promised name given tt known before) halts)

-- a client starts with the head, or does not
pub start_rises : {A T : Type 0} (verified : List ℕ → List ℕ → List ℕ → Type 0) (exchanged : T → RequestContent → Frame → T → Type 0) (key : List ℕ) (result : Result A AskFault) (said said' : Said) (before after : T) → OnOk result (said' ≡ said)
    → IfErr result (λ fault. fault ≡ Stopped → StopsAtHead verified exchanged key before (report_of said) after (report_of said')) → IfErr result (λ fault. fault ≢ Stopped → report_of said' ≡ report_of said)
    → said.status ≤ said'.status
start_rises verified exchanged key (Ok done) said said' before after starts stops halts = subst (λ (s : Said). said.status ≤ s.status) (sym starts) (at-most said.status)
start_rises verified exchanged key (Err NoReply) said said' before after starts stops halts = subst (λ (r : Report). said.status ≤ r.status) (sym (halts no-reply)) (at-most said.status)
start_rises verified exchanged key (Err OutOfMemory) said said' before after starts stops halts = subst (λ (r : Report). said.status ≤ r.status) (sym (halts no-memory)) (at-most said.status)
start_rises verified exchanged key (Err Stopped) said said' before after starts stops halts =
    let (frame, exchange, (now, none, told)) = stops refl in
    subst (λ (r : Report). said.status ≤ r.status) (sym told) (worse-above said.status now.status)
