-- What comes of the lines of the files of a state, in a client. In the first file each line has a root: the first one's starts the
-- client's chain, and those of the others are taken behind it. The lines of the second have what was remembered, of which the
-- client keeps the promises.
use Rattle.std.specs.Prelude.{◌≡◌, ◌≢◌, ◌⊎◌, ℕ, ◌+◌, List, [], ◌∷◌, ◌++◌, All, Option, None, Some, Result, Ok, Err, ⊤}
use Rattle.hex.specs.Hex.{decode_of}
use Rattle.textio.specs.Lines.{lines_of}
use Rattle.textio.specs.declared.program_fault.ProgramFault.{ProgramFault}
use Rattle.textio.specs.declared.program_fault.ProgramFault.TheVariants.{BadItem, OutOfMemory}
use Rattle.rootchain.specs.Chains.{KeyedRoots}
use Rattle.client.specs.Clients.{with_promise, Client, IsPromised}
use Rattle.client.specs.Starting.{Starts}
use Rattle.client.specs.Updating.{Updates}
use Rattle.client.specs.declared.client_refusal.Refusal.{Refusal}
use Rattle.client.specs.declared.client_refusal.Refusal.TheVariants.{Root, Proof, UnknownRoot, RootDiffers, Memory, NoPromise}
use Rattle.asking.specs.FinalBindings.{IsFinalIn}
use Rattle.memory.specs.Lines.{IsLineOf}
use Rattle.memory.specs.Texts.{HasWholeLines}
use Rattle.memory.specs.declared.item.Item.{Item}
use Rattle.memory.specs.declared.item.Item.TheVariants.{Promised, Watched, Final, Alarm, Evidence}
use Rattle.runs.specs.Remembering.{IsWithin}

-- the fault names a line that is bad, by its number, or memory ran out
abbrev pub IsFaultAt : (ℕ → Type 0) → ProgramFault → Type 0
IsFaultAt IsBad fault = (fault ≡ OutOfMemory) ⊎ ((number : ℕ) × (fault ≡ BadItem number) × IsBad number)

-- the fault for a line of this number that the client refuses
abbrev pub fault_at : ℕ → Refusal → ProgramFault
fault_at number (Root why) = BadItem number
fault_at number (Proof why) = BadItem number
fault_at number UnknownRoot = BadItem number
fault_at number (RootDiffers evidence) = BadItem number
fault_at number Memory = OutOfMemory
fault_at number NoPromise = BadItem number

-- the line is no bytes in hexadecimal digits
abbrev pub IsNoHex : List ℕ → Type 0
IsNoHex line = (bytes : List ℕ) → ¬ (decode_of line ≡ Ok bytes)

-- the line is bytes in hexadecimal digits, of which this holds
abbrev pub IsHexOf : (List ℕ → Type 0) → List ℕ → Type 0
IsHexOf Holds line = (bytes : List ℕ) × (decode_of line ≡ Ok bytes) × Holds bytes

-- the line is no such bytes, or they are refused in some way, and not for want of memory
abbrev pub IsRefused : (List ℕ → Refusal → Type 0) → List ℕ → Type 0
IsRefused Refuses line = IsNoHex line ⊎ IsHexOf (λ bytes. (why : Refusal) × (why ≢ Memory) × Refuses bytes why) line

-- a client takes the next of some lines, or refuses it; an empty line is passed over
abbrev pub TakesNext : (List ℕ → Client → Client → Type 0) → List ℕ → Client → Client → Type 0
TakesNext Takes [] before after = after ≡ before
TakesNext Takes (byte ∷ line) before after = Takes (byte ∷ line) before after

abbrev pub RefusesNext : (List ℕ → Client → Type 0) → List ℕ → Client → Type 0
RefusesNext Refuses [] before = ⊥
RefusesNext Refuses (byte ∷ line) before = Refuses (byte ∷ line) before

module _ (Takes : List ℕ → Client → Client → Type 0) (Refuses : List ℕ → Client → Type 0) where
  -- What comes of lines, the first of which has this number, in a client: it takes one after another, up to the first that it
  -- refuses, which is named by its number.
  abbrev pub TakesLines : ℕ → List (List ℕ) → Client → Result Client ℕ → Type 0
  TakesLines number [] before result = result ≡ Ok before
  TakesLines number (line ∷ lines) before result =
      ((after : Client) × TakesNext Takes line before after × TakesLines (number + 1) lines after result)
      ⊎ (RefusesNext Refuses line before × (result ≡ Err number))

-- the bytes of the list of one root, which has these
abbrev pub list_of_one : List ℕ → List ℕ
list_of_one root = 0 ∷ 1 ∷ root

-- the text of a file without the end behind its last LF, which was cut short
abbrev pub IsUncut : List ℕ → List ℕ → Type 0
IsUncut bytes text = HasWholeLines text × ((rest : List ℕ) × (bytes ≡ text ++ rest) × All (λ byte. byte ≢ 10) rest)

-- that of the second file, if it is there
abbrev pub IsSecond : Option (List ℕ) → List ℕ → Type 0
IsSecond None text = text ≡ []
IsSecond (Some bytes) text = IsUncut bytes text

module _ (hash : List ℕ → List ℕ) (verified : List ℕ → List ℕ → List ℕ → Type 0) where
  -- the client takes the root of a line, or refuses it
  abbrev pub TakesRoot : List ℕ → Client → Client → Type 0
  TakesRoot line before after = IsHexOf (λ root. Updates hash verified before (list_of_one root) {A = Unit {0}} (Ok tt) after) line

  abbrev pub RefusesRoot : List ℕ → Client → Type 0
  RefusesRoot line before = IsRefused (λ root why. Updates hash verified before (list_of_one root) {A = Unit {0}} (Err why) before) line

  abbrev pub TakesRoots : ℕ → List (List ℕ) → Client → Result Client ℕ → Type 0
  TakesRoots = TakesLines TakesRoot RefusesRoot

  -- The client that comes of the lines of the first file under the provider's key, or the first line that is refused. The chain
  -- starts with the root of the first one.
  abbrev pub StartsFrom : List ℕ → List (List ℕ) → Result Client ℕ → Type 0
  StartsFrom key [] result = result ≡ Err 1
  StartsFrom key (line ∷ lines) result =
      ((start : Client) × IsHexOf (λ root. Starts verified key root (Ok start)) line × TakesRoots 2 lines start result)
      ⊎ (IsRefused (λ root why. Starts verified key root (Err why)) line × (result ≡ Err 1))

-- the client that keeps the promise of an item, if it is one
abbrev pub keeping : Client → Item → Client
keeping client (Promised promised) = with_promise client promised.signed
keeping client (Watched mark) = client
keeping client (Final seen) = client
keeping client (Alarm alarm) = client
keeping client (Evidence line) = client

module _ (hash : List ℕ → List ℕ) (accepted verified : List ℕ → List ℕ → List ℕ → Type 0) where
  -- A client with this chain accepts an item: a promise of its provider and of a root of the chain, a mark that is not above
  -- the head, or a reply that states a key with Final and is accepted under the chain's root of its epoch. Other items are not
  -- tested.
  abbrev pub IsAccepted : KeyedRoots → Item → Type 0
  IsAccepted chain (Promised promised) = IsPromised hash verified chain promised.signed
  IsAccepted chain (Watched mark) = IsWithin chain (Watched mark)
  IsAccepted chain (Final seen) = IsFinalIn hash accepted chain seen
  IsAccepted chain (Alarm alarm) = ⊤
  IsAccepted chain (Evidence line) = ⊤

  abbrev pub KeepsItem : Item → Client → Client → Type 0
  KeepsItem item before after = IsAccepted before.chain item × (after ≡ keeping before item)

  -- the client keeps what a line has, or the line is of no item that it accepts
  abbrev pub KeepsLine : List ℕ → Client → Client → Type 0
  KeepsLine line before after = (item : Item) × IsLineOf line item × KeepsItem item before after

  abbrev pub RefusesItem : List ℕ → Client → Type 0
  RefusesItem line before = (item : Item) → IsLineOf line item → ¬ IsAccepted before.chain item

  abbrev pub KeepsLines : ℕ → List (List ℕ) → Client → Result Client ℕ → Type 0
  KeepsLines = TakesLines KeepsLine RefusesItem

  -- What comes of the text of the first file and, behind it, of the bytes of the second, if that is there: a client, or the first
  -- line that is refused in one of them.
  abbrev pub LoadsClient : List ℕ → List ℕ → Option (List ℕ) → Result Client ℕ → Type 0
  LoadsClient key roots second result =
      ((number : ℕ) × StartsFrom hash verified key (lines_of roots) (Err number) × (result ≡ Err number))
      ⊎ ((start : Client) × (text : List ℕ) × StartsFrom hash verified key (lines_of roots) (Ok start) × IsSecond second text × KeepsLines 1 (lines_of text) start result)
