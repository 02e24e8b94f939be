-- What a reply to a look-up says, and its one spelling (after CONIKS, sections 3 and 4; the bytes are this
-- directory's own).
use Rattle.std.specs.Prelude.{◌≡◌, ℕ, ◌≤◌, Bool, true, false, List, [], ◌∷◌, ◌++◌, length, ⊤}
use Rattle.std.specs.List.{AllByRecursion}
use Rattle.encoding.specs.Bytes.{Is32Bytes, joined}
use Rattle.encoding.specs.Endian.{big_bytes}
use Rattle.encoding.specs.Forms.{counted_bytes}
use Rattle.encoding.specs.Limits.{IsKeyData, IsSmall}
use Rattle.encoding.specs.Policies.{has_policy, policy_bytes}
use Rattle.encoding.specs.declared.bound_key.BoundKey.{BoundKey}
use Rattle.rootchain.specs.Bodies.{body_bytes, IsBody}
use Rattle.rootchain.specs.declared.body.Body.{Body}
use Rattle.prefixtree.specs.declared.path.TheConstants.{MAX_SIBLINGS}

-- what stands at the end of a reply's way: the leaf of the name's index, whose commitment opens to this
-- salt and key with its policy; no leaf; or the leaf of another index with its commitment (CONIKS, section 3: end of
-- an authentication path)
pub data End : Type 0 where
  Present : List ℕ → BoundKey → End
  Empty : End
  Other : List ℕ → List ℕ → End

-- the body of a signed root, the value of the name, what stands at the end of the way, and the hashes
-- beside the way from the root down (CONIKS, section 3: proof of inclusion or of absence)
pub record Reply : Type 0 where
  pub body : Body
  pub value : List ℕ
  pub end : End
  pub siblings : List (List ℕ)

-- the kind of an opened leaf whose key has a policy, or has none
abbrev pub present_kind : Bool → ℕ
present_kind false = 1
present_kind true = 4

-- each end begins with its kind
abbrev pub end_kind : End → ℕ
end_kind (Present salt key) = present_kind (has_policy key.policy)
end_kind Empty = 2
end_kind (Other index commitment) = 3

-- an opened leaf has the policy if there is one, its salt and key, another leaf its index and commitment
abbrev pub end_parts : End → List ℕ
end_parts (Present salt key) = policy_bytes key.policy ++ (salt ++ counted_bytes key.value)
end_parts Empty = []
end_parts (Other index commitment) = index ++ commitment

abbrev pub reply_end_bytes : End → List ℕ
reply_end_bytes end = (end_kind end ∷ []) ++ end_parts end

-- their number in two bytes, then their bytes
abbrev pub sibling_bytes : List (List ℕ) → List ℕ
sibling_bytes siblings = big_bytes 2 (length siblings) ++ joined siblings

-- the body, the value behind its length, the end, and the number of the siblings
abbrev pub front_bytes : Body → List ℕ → End → ℕ → List ℕ
front_bytes body value end siblings = body_bytes body ++ (counted_bytes value ++ (reply_end_bytes end ++ big_bytes 2 siblings))

-- the body, the value behind its length, the end, and the siblings
abbrev pub reply_bytes : Reply → List ℕ
reply_bytes reply = body_bytes reply.body ++ (counted_bytes reply.value ++ (reply_end_bytes reply.end ++ sibling_bytes reply.siblings))

abbrev pub IsEnd : End → Type 0
IsEnd (Present salt key) = Is32Bytes salt × IsKeyData key.value
IsEnd Empty = ⊤
IsEnd (Other index commitment) = Is32Bytes index × Is32Bytes commitment

-- at most one sibling for each bit of an index
abbrev pub AreSiblings : List (List ℕ) → Type 0
AreSiblings siblings = (length siblings ≤ MAX_SIBLINGS) × AllByRecursion Is32Bytes siblings

-- what a reply may hold
abbrev pub IsReply : Reply → Type 0
IsReply reply = IsBody reply.body × IsSmall reply.value × IsEnd reply.end × AreSiblings reply.siblings

-- the bytes spell this reply
abbrev pub SpellsReply : List ℕ → Reply → Type 0
SpellsReply bytes reply = (bytes ≡ reply_bytes reply) × IsReply reply
