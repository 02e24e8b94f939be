-- Where the asker stands behind a question, if memory did not run out.
use Rattle.std.proofs.Common.{◌≡◌, ◌≢◌, ◌⊎◌, Bool, true, false, ℕ, List, Option, Result, Ok, Err, inl, inr, refl, rules, subst}
use Rattle.std.specs.Prelude.{IfErr, IfOk, OnOk}
use Rattle.encoding.specs.declared.bound_key.BoundKey.{BoundKey}
use Rattle.rootchain.specs.declared.signed_promise.SignedPromise.{SignedPromise}
use Rattle.wire.specs.Frames.{Frame}
use Rattle.wire.specs.Requests.{RequestContent}
use Rattle.play.specs.Scripts.{Watch}
use Rattle.memory.specs.declared.mark.Mark.{Mark}
use Rattle.asking.specs.declared.ask_fault.AskFault.{AskFault}
use Rattle.asking.specs.declared.ask_fault.AskFault.TheVariants as fault
use Rattle.asking.specs.declared.asker.Asker.{Asker}
use Rattle.asking.specs.declared.said.Said.{Said}
use Rattle.asking.specs.Asking.{HearsHead, HearsReply, HearsSome}
use Rattle.asking.specs.Catching.{Advances, AdvancesSome}
use Rattle.runs.specs.Ending.{AdvancesPart, DoesSomeNoting, LooksSome}
use Rattle.asking.specs.Following.{IsBelow, StopsList}
use Rattle.asking.specs.Joining.{own_for, BeginsSome, BeginsWatch}
use Rattle.asking.specs.Reports.{report_of}
use Rattle.runs.specs.Runs.{Background}
use Rattle.asking.specs.Scenes.{HaltsAfter, Scene, scene}
use Rattle.asking.specs.Visiting.{TestsAll, TestsSome}

no-reply : fault.NoReply ≢ fault.Stopped
no-reply same = search (rules, same)

no-memory : fault.OutOfMemory ≢ fault.Stopped
no-memory same = search (rules, same)

-- the asker and what is said are those of the scene
abbrev pub StandsIn : {H V S T : Type 0} → (Scene T → Type 0) → Asker H V S → Said → Type 0
StandsIn {H} {V} {S} {T} IsReached asker said = (reached : Scene T) × IsReached reached × (report_of said ≡ reached.told) × (asker.client ≡ reached.client) × (asker.monitors.items ≡ reached.monitors)

-- what holds of an error holds of it where it is passed on
pub passed-enough : {A B : Type 0} (first : Result A AskFault) (result : Result B AskFault) (why : AskFault) → first ≡ Err why → result ≡ Err why → result ≢ Err fault.OutOfMemory → first ≢ Err fault.OutOfMemory
passed-enough first result why at passed enough same = search (rules, at, passed, enough, same)

module _ (hash : List ℕ → List ℕ) (accepted verified : List ℕ → List ℕ → List ℕ → Type 0) {T : Type 0} (exchanged : T → RequestContent → Frame → T → Type 0) (background : Background) where
  -- the latest root is heard, and the promises are tested, or some
  pub looked_stands : {H V S A : Type 0} (held : ℕ) (frame : Frame) (marks : List Mark) (result : Result A AskFault) (before middle : Scene T) (asker : Asker H V S) (said : Said) (stream : T) → marks ≡ background.marks
      → HearsHead hash accepted verified exchanged held frame before middle
      → OnOk result (TestsAll hash accepted exchanged marks middle (scene asker said stream)) → IfErr result (λ why. why ≢ fault.Stopped)
      → IfErr result (λ why. HaltsAfter (TestsSome hash accepted exchanged marks middle) why asker said)
      → result ≢ Err fault.OutOfMemory → StandsIn (LooksSome hash accepted verified exchanged background held frame before) asker said
  looked_stands held frame marks (Ok done) before middle asker said stream is hears tests err halts enough =
      (scene asker said stream, inr (middle, hears, inl (subst (λ (m : List Mark). TestsAll hash accepted exchanged m middle (scene asker said stream)) is tests)), refl, refl, refl)
  looked_stands held frame marks (Err fault.NoReply) before middle asker said stream is hears tests err (reached, some, halted) enough =
      let here = halted.1 refl in
      (reached, inr (middle, hears, inr (subst (λ (m : List Mark). TestsSome hash accepted exchanged m middle reached) is some)), halted.0, here.0, here.1)
  looked_stands held frame marks (Err fault.Stopped) before middle asker said stream is hears tests err halts enough = absurd (err refl)
  looked_stands held frame marks (Err fault.OutOfMemory) before middle asker said stream is hears tests err halts enough = absurd (enough refl)

  -- a list is taken on the way to an epoch, or some of what comes with it is done, or it stops
  abbrev pub AdvancesAny : ℕ → Scene T → Scene T → Type 0
  AdvancesAny epoch before reached = ((goes : Bool) × Advances hash accepted verified exchanged epoch before goes reached)
      ⊎ (StopsList hash verified exchanged before reached ⊎ AdvancesSome hash accepted verified exchanged epoch before reached)

  pub advanced_stands : {H V S : Type 0} (epoch : ℕ) (result : Result Bool AskFault) (before : Scene T) (asker : Asker H V S) (said : Said) (stream : T)
      → IfOk result (λ goes. Advances hash accepted verified exchanged epoch before goes (scene asker said stream))
      → (result ≡ Err fault.Stopped → IsBelow epoch before.client × StopsList hash verified exchanged before (scene asker said stream))
      → IfErr result (λ why. why ≢ fault.Stopped → IsBelow epoch before.client × HaltsAfter (AdvancesSome hash accepted verified exchanged epoch before) why asker said)
      → result ≢ Err fault.OutOfMemory → StandsIn (AdvancesAny epoch before) asker said
  advanced_stands epoch (Ok goes) before asker said stream advances stops halts enough = (scene asker said stream, inl (goes, advances), refl, refl, refl)
  advanced_stands epoch (Err fault.NoReply) before asker said stream advances stops halts enough =
      let (low, (reached, some, halted)) = halts no-reply in
      let here = halted.1 refl in
      (reached, inr (inr some), halted.0, here.0, here.1)
  advanced_stands epoch (Err fault.Stopped) before asker said stream advances stops halts enough = (scene asker said stream, inr (inl (stops refl).1), refl, refl, refl)
  advanced_stands epoch (Err fault.OutOfMemory) before asker said stream advances stops halts enough = absurd (enough refl)

  -- where one more list is needed, or a fault came, the chain was below the epoch
  pub advanced_part : {H V S : Type 0} (epoch : ℕ) (result : Result Bool AskFault) (before : Scene T) (asker : Asker H V S) (said : Said) (stream : T) → result ≢ Ok false
      → IfOk result (λ goes. Advances hash accepted verified exchanged epoch before goes (scene asker said stream))
      → (result ≡ Err fault.Stopped → IsBelow epoch before.client × StopsList hash verified exchanged before (scene asker said stream))
      → IfErr result (λ why. why ≢ fault.Stopped → IsBelow epoch before.client × HaltsAfter (AdvancesSome hash accepted verified exchanged epoch before) why asker said)
      → result ≢ Err fault.OutOfMemory → StandsIn (AdvancesPart hash accepted verified exchanged epoch before) asker said
  advanced_part epoch (Ok true) before asker said stream goes advances stops halts enough = (scene asker said stream, (advances.0, inl advances), refl, refl, refl)
  advanced_part epoch (Ok false) before asker said stream goes advances stops halts enough = absurd (goes refl)
  advanced_part epoch (Err fault.NoReply) before asker said stream goes advances stops halts enough =
      let (low, (reached, some, halted)) = halts no-reply in
      let here = halted.1 refl in
      (reached, (low, inr (inr some)), halted.0, here.0, here.1)
  advanced_part epoch (Err fault.Stopped) before asker said stream goes advances stops halts enough = let (low, stopped) = stops refl in (scene asker said stream, (low, inr (inl stopped)), refl, refl, refl)
  advanced_part epoch (Err fault.OutOfMemory) before asker said stream goes advances stops halts enough = absurd (enough refl)

  -- a reply is heard, or some of it
  abbrev pub HearsAny : AskFault → ℕ → RequestContent → Frame → List SignedPromise → List SignedPromise → Scene T → Scene T → Type 0
  HearsAny fault held asked frame noted noted' before reached = HearsReply hash accepted verified exchanged background.marks held asked frame noted noted' before reached ⊎ HearsSome hash accepted verified exchanged fault background.marks held asked frame noted noted' before reached

  pub heard_stands : {H V S A : Type 0} (held : ℕ) (asked : RequestContent) (frame : Frame) (noted noted' : List SignedPromise) (result : Result A AskFault) (before : Scene T) (asker : Asker H V S) (said : Said) (stream : T)
      → OnOk result (HearsReply hash accepted verified exchanged background.marks held asked frame noted noted' before (scene asker said stream)) → IfErr result (λ why. why ≢ fault.Stopped)
      → IfErr result (λ why. HaltsAfter (HearsSome hash accepted verified exchanged why background.marks held asked frame noted noted' before) why asker said)
      → result ≢ Err fault.OutOfMemory → StandsIn (HearsAny fault.NoReply held asked frame noted noted' before) asker said
  heard_stands held asked frame noted noted' (Ok done) before asker said stream hears err halts enough = (scene asker said stream, inl hears, refl, refl, refl)
  heard_stands held asked frame noted noted' (Err fault.NoReply) before asker said stream hears err (reached, some, halted) enough =
      let here = halted.1 refl in
      (reached, inr some, halted.0, here.0, here.1)
  heard_stands held asked frame noted noted' (Err fault.Stopped) before asker said stream hears err halts enough = absurd (err refl)
  heard_stands held asked frame noted noted' (Err fault.OutOfMemory) before asker said stream hears err halts enough = absurd (enough refl)

  -- a name is watched, or some of its epochs
  pub watched_stands : {H V S A : Type 0} (name : List ℕ) (given given' : Option BoundKey) (noted noted' : List SignedPromise) (result : Result A AskFault) (before : Scene T) (asker : Asker H V S) (said : Said) (stream : T) → given ≡ given' → noted' ≡ noted
      → OnOk result (BeginsWatch hash accepted verified exchanged background.known background.marks background.key (own_for background.marks name background.earlier noted) name given before (scene asker said stream))
      → IfErr result (λ why. why ≢ fault.Stopped)
      → IfErr result (λ why. HaltsAfter (BeginsSome hash accepted verified exchanged background.known background.marks background.key (own_for background.marks name background.earlier noted) name given before) why asker said)
      → result ≢ Err fault.OutOfMemory → StandsIn (DoesSomeNoting hash accepted verified exchanged background fault.NoReply (Watch name given') noted noted' before) asker said
  watched_stands name given given' noted noted' (Ok done) before asker said stream is same begins err halts enough = (
    scene asker said stream,
    inr (inl (subst (λ (g : Option BoundKey). BeginsWatch hash accepted verified exchanged background.known background.marks background.key (own_for background.marks name background.earlier noted) name g before (scene asker said stream)) is begins, same)),
    refl,
    refl,
    refl,
  )
  watched_stands name given given' noted noted' (Err fault.NoReply) before asker said stream is same begins err (reached, some, halted) enough =
      let here = halted.1 refl in (
        reached,
        inr (inr (subst (λ (g : Option BoundKey). BeginsSome hash accepted verified exchanged background.known background.marks background.key (own_for background.marks name background.earlier noted) name g before reached) is some, same)),
        halted.0,
        here.0,
        here.1,
      )
  watched_stands name given given' noted noted' (Err fault.Stopped) before asker said stream is same begins err halts enough = absurd (err refl)
  watched_stands name given given' noted noted' (Err fault.OutOfMemory) before asker said stream is same begins err halts enough = absurd (enough refl)
