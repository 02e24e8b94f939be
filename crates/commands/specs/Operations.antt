-- What is asked of a directory, regardless of where its bytes lie, and what it may hold.
use Rattle.std.specs.Prelude.{ℕ, ◌^◌, ◌<◌, List, Option, IfSome, option_and_then, option_map, ⊤}
use Rattle.encoding.specs.Bytes.{Is32Bytes, IsBytes}
use Rattle.encoding.specs.Policies.{policy_byte, policy_of}
use Rattle.encoding.specs.declared.bound_key.BoundKey.{BoundKey}
use Rattle.commands.specs.declared.command.Command.{Command}
use Rattle.commands.specs.declared.command.Command.TheVariants as command
use Rattle.commands.specs.declared.edit.Edit.{Edit as EditMade}
use Rattle.commands.specs.declared.edit.Edit.TheVariants as edit
use Rattle.commands.specs.declared.edit.Verb.{Verb}
use Rattle.commands.specs.declared.query.Query.{Query as QueryMade}
use Rattle.commands.specs.declared.query.Query.TheVariants as query

-- what is to be read
pub data Question : Type 0 where
  Promise : List ℕ → Question
  Lookup : List ℕ → ℕ → Question
  History : ℕ → ℕ → Question
  Head : Question

-- a key that is asked for, with the byte of a policy, if there is one; whether it is allowed is the directory's answer
abbrev pub AskedKey : Type 0
AskedKey = List ℕ × Option ℕ

-- the key that is bound where this one is asked for
abbrev pub bound_key : AskedKey → BoundKey
bound_key key = record { value = key.0; policy = option_and_then policy_of key.1 }

-- the key that is asked for where this one is bound
abbrev pub asked_key : BoundKey → AskedKey
asked_key key = (key.value, option_map policy_byte key.policy)

-- what is to be changed: a key is put to a name; or a new page is begun, under this nonce, or under the last
-- page's
pub data Revision : Type 0 where
  Put : Verb → List ℕ → AskedKey → Revision
  Turn : ℕ → Option (List ℕ) → Revision

pub data Operation : Type 0 where
  Query : Question → Operation
  Edit : Revision → Operation

-- what a query asks
abbrev pub question : QueryMade → Question
question (query.Promise name) = Promise name.now
question (query.Lookup name epoch) = Lookup name.now epoch
question (query.History from count) = History from count
question query.Head = Head

-- what an edit asks
abbrev pub revision : EditMade → Revision
revision (edit.Put put) = Put put.verb put.name.now (put.key.now, put.policy)
revision (edit.Turn epoch nonce) = Turn epoch nonce

-- what a command asks
abbrev pub asked : Command → Operation
asked (command.Query query) = Query (question query)
asked (command.Edit edit) = Edit (revision edit)

-- a question names bytes, of any length
abbrev pub MayRead : Question → Type 0
MayRead (Promise name) = IsBytes name
MayRead (Lookup name epoch) = IsBytes name
MayRead (History from count) = ⊤
MayRead Head = ⊤

-- names and keys are bytes, of any length, the epoch of a new page fits in eight bytes, and its nonce has 32
abbrev pub MayChange : Revision → Type 0
MayChange (Put verb name key) = IsBytes name × IsBytes key.0
MayChange (Turn epoch nonce) = (epoch < 2 ^ 64) × IfSome nonce Is32Bytes

-- what a run shows rests on nothing more: a query may have any numbers
abbrev pub IsCommand : Operation → Type 0
IsCommand (Query read) = MayRead read
IsCommand (Edit change) = MayChange change
