-- What the lines of earlier runs are remembered as.
use Rattle.std.specs.Prelude.{◌≡◌, ◌≤◌, ℕ, if◌then◌else◌, List, [], ◌∷◌, ◌++◌, Contains, ⊤}
use Rattle.rootchain.specs.Chains.{IsHead, KeyedRoots}
use Rattle.rootchain.specs.declared.signed_promise.SignedPromise.{SignedPromise}
use Rattle.rootchain.specs.declared.signed_root.SignedRoot.{SignedRoot}
use Rattle.memory.specs.Lines.{IsLineOf}
use Rattle.memory.specs.Memories.{Memory}
use Rattle.memory.specs.declared.item.Item.{Item}
use Rattle.memory.specs.declared.item.Item.TheVariants.{Promised, Watched, Final, Alarm, Evidence}
use Rattle.memory.specs.declared.mark.Mark.{Mark}

-- the promise of an item, if it is one for a change of the owner's own
abbrev pub own_of : Item → List SignedPromise
own_of (Promised promised) = if promised.is_own then promised.signed ∷ [] else []
own_of (Watched mark) = []
own_of (Final seen) = []
own_of (Alarm alarm) = []
own_of (Evidence line) = []

-- the promise of a line, if it is one for a change of the owner's own; an empty line has none
abbrev pub IsOwnOf : List ℕ → List SignedPromise → Type 0
IsOwnOf [] own = own ≡ []
IsOwnOf (byte ∷ line) own = (item : Item) × IsLineOf (byte ∷ line) item × (own ≡ own_of item)

-- those of these lines, in order
abbrev pub AreOwnOf : List (List ℕ) → List SignedPromise → Type 0
AreOwnOf [] own = own ≡ []
AreOwnOf (line ∷ more) own = (first : List SignedPromise) × (rest : List SignedPromise) × IsOwnOf line first × AreOwnOf more rest × (own ≡ first ++ rest)

-- no mark is above the chain's head
abbrev pub IsWithin : KeyedRoots → Item → Type 0
IsWithin chain (Watched mark) = (head : SignedRoot) × IsHead chain head × (mark.epoch ≤ head.body.epoch)
IsWithin chain (Promised promised) = ⊤
IsWithin chain (Final seen) = ⊤
IsWithin chain (Alarm alarm) = ⊤
IsWithin chain (Evidence line) = ⊤

-- so it is for all marks of a memory
abbrev pub AreWithin : KeyedRoots → Memory → Type 0
AreWithin chain memory = (mark : Mark) → Contains memory.marks mark → (head : SignedRoot) × IsHead chain head × (mark.epoch ≤ head.body.epoch)
