-- Which replies to a look-up are accepted (CONIKS, sections 3 and 4, proofs of inclusion and of absence; absence has
-- this directory's own form).
use Rattle.std.specs.Prelude.{◌≡◌, ◌≢◌, ℕ, List, length, Option, Some, None}
use Rattle.encoding.specs.Bits.{Agree}
use Rattle.encoding.specs.declared.bound_key.BoundKey.{BoundKey}
use Rattle.nodehash.specs.NodeTexts.{empty_bytes, leaf_bytes}
use Rattle.commit.specs.Commitments.{commitment_bytes}
use Rattle.prefixtree.specs.Paths.{Way}
use Rattle.rootchain.specs.declared.body.Body.{Body}
use Rattle.proofs.specs.Replies.{End, Present, Empty, Other, Reply, SpellsReply}

-- the key that an end states, with its policy if it has one; or none
abbrev pub stated : End → Option BoundKey
stated (Present salt key) = Some key
stated Empty = None
stated (Other index commitment) = None

module _ (hash : List ℕ → List ℕ) where
  -- What may stand at the end of a way, at level n for an index: the text of its node, and what it
  -- states of the name. It is the leaf of the index, whose commitment opens to the salt, the name and
  -- the key with its policy; or the empty node; or the leaf of another index, which agrees with this one in n bits
  -- (CONIKS, section 3: inclusion or absence).
  abbrev pub EndStates : List ℕ → List ℕ → List ℕ → ℕ → End → List ℕ → Option BoundKey → Type 0
  EndStates nonce name index n (Present salt key) text statement =
      (text ≡ leaf_bytes nonce index n (hash (commitment_bytes salt name key))) × (statement ≡ Some key)
  EndStates nonce name index n Empty text statement = (text ≡ empty_bytes nonce index n) × (statement ≡ None)
  EndStates nonce name index n (Other other commitment) text statement =
      (other ≢ index) × Agree index other n × (text ≡ leaf_bytes nonce other n commitment) × (statement ≡ None)

module _ (hash : List ℕ → List ℕ) (accepted : List ℕ → List ℕ → List ℕ → Type 0) where
  -- The reply is of this body, its value is accepted for the name under the body's key, and from the
  -- body's root there is a way to an end that states this of the name.
  pub record States (body : Body) (name : List ℕ) (reply : Reply) (statement : Option BoundKey) : Type 0 where
    pub of_body : reply.body ≡ body
    pub value : accepted body.vuf_key name reply.value
    pub text : List ℕ
    pub way : Way hash body.root (hash reply.value) reply.siblings text
    pub end : EndStates hash body.nonce name (hash reply.value) (length reply.siblings) reply.end text statement

  -- the bytes are accepted for the name under this body, with a statement: a key, or none (CONIKS, section 3: proof
  -- of inclusion or of absence)
  abbrev pub Accepts : Body → List ℕ → List ℕ → Option BoundKey → Type 0
  Accepts body name bytes statement = (reply : Reply) × SpellsReply bytes reply × States body name reply statement

-- the index of the reply that the bytes spell (CONIKS, section 3: private index)
abbrev pub HasIndex : (List ℕ → List ℕ) → List ℕ → List ℕ → Type 0
HasIndex hash bytes index = (reply : Reply) × SpellsReply bytes reply × (hash reply.value ≡ index)

-- a reply, and the name that it was asked for
pub record NamedReply : Type 0 where
  pub name : List ℕ
  pub reply : Reply

-- the reply is accepted for the name, under its own body, with the statement of its end
abbrev pub IsAccepted : (List ℕ → List ℕ) → (List ℕ → List ℕ → List ℕ → Type 0) → NamedReply → Type 0
IsAccepted hash accepted named = States hash accepted named.reply.body named.name named.reply (stated named.reply.end)
