-- The refusals: what they are to a chain, and their numbers.
use Rattle.std.specs.Prelude.{ℕ}
use Rattle.rootchain.specs.declared.root_refusal.Refusal as chains
use Rattle.rootchain.specs.declared.root_refusal.Refusal.TheVariants as chain
use Rattle.rootchain.specs.Refusals.{chain_refusal_number}
use Rattle.proofs.specs.Refusals.{reply_refusal_number}
use Rattle.client.specs.declared.client_refusal.Refusal.{Refusal}
use Rattle.client.specs.declared.client_refusal.Refusal.TheVariants.{Root, Proof, UnknownRoot, RootDiffers, Memory, NoPromise}
use Rattle.client.specs.declared.client_refusal.RootRefusal.{RootRefusal}
use Rattle.client.specs.declared.client_refusal.RootRefusal.TheVariants.{Malformed, BadSignature, NotLater, BadLink}

-- the like refusal of a chain
abbrev pub chain_refusal : RootRefusal → chains.Refusal
chain_refusal Malformed = chain.Malformed
chain_refusal BadSignature = chain.BadSignature
chain_refusal NotLater = chain.NotLater
chain_refusal BadLink = chain.BadLink

-- its number
abbrev pub root_number : RootRefusal → ℕ
root_number why = chain_refusal_number (chain_refusal why)

-- a refusal of a root or of a reply keeps its own number
abbrev pub client_refusal_number : Refusal → ℕ
client_refusal_number (Root why) = root_number why
client_refusal_number (Proof why) = reply_refusal_number why
client_refusal_number UnknownRoot = 20
client_refusal_number (RootDiffers evidence) = 21
client_refusal_number Memory = 22
client_refusal_number NoPromise = 23

-- a refusal of a chain as one of the client
abbrev pub of_root : chains.Refusal → Refusal
of_root chain.Malformed = Root Malformed
of_root chain.BadSignature = Root BadSignature
of_root chain.NotLater = Root NotLater
of_root chain.BadLink = Root BadLink
of_root chain.Memory = Memory
