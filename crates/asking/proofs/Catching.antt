-- How a list is taken on the way to an epoch, and where a fault comes.
use Rattle.std.proofs.Common.{ℕ, true, List, length, inl, inr, refl}
use Rattle.wire.specs.Frames.{Frame}
use Rattle.wire.specs.Requests.{RequestContent}
use Rattle.asking.specs.Catching.{AdvancesSome}
use Rattle.asking.specs.Following.{IsBelow, TakesList}
use Rattle.asking.specs.Scenes.{HaltsAfter, HaltsIn, Scene}
use Rattle.asking.specs.Watching.{SomeStep}
use Rattle.asking.specs.declared.ask_fault.AskFault.{AskFault}
use Rattle.asking.specs.declared.asker.Asker.{Asker}
use Rattle.asking.specs.declared.said.Said.{Said}

module _ {H V S T : Type 0} (hash : List ℕ → List ℕ) (accepted verified : List ℕ → List ℕ → List ℕ → Type 0) (exchanged : T → RequestContent → Frame → T → Type 0) (epoch : ℕ) where
  -- nothing of a list came
  pub halts_before : (fault : AskFault) (before : Scene T) (asker : Asker H V S) (said : Said) → IsBelow epoch before.client → HaltsIn fault before asker said
      → IsBelow epoch before.client × HaltsAfter (AdvancesSome hash accepted verified exchanged epoch before) fault asker said
  halts_before fault before asker said low halts = (low, (before, inl refl, halts))

  -- a list was taken, and the monitors went on
  pub halts_behind : (fault : AskFault) (before taken : Scene T) (asker : Asker H V S) (said : Said) → IsBelow epoch before.client → TakesList hash verified exchanged before true taken
      → IsBelow epoch taken.client → HaltsAfter (SomeStep hash accepted exchanged (length taken.monitors) taken 0) fault asker said
      → IsBelow epoch before.client × HaltsAfter (AdvancesSome hash accepted verified exchanged epoch before) fault asker said
  halts_behind fault before taken asker said low takes still (reached, steps, halts) = (low, (reached, inr (taken, takes, still, steps), halts))
