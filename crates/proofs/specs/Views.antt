-- What the types of this crate stand for in contracts.
use Rattle.std.specs.Prelude.{◌≡◌, List, ℕ, Option, Some, None}
use Rattle.encoding.specs.declared.bound_key.BoundKey.{BoundKey}
use Rattle.proofs.specs.declared.end.End.{End as GivenEnd}
use Rattle.proofs.specs.declared.end.End.TheVariants as given
use Rattle.proofs.specs.declared.view.EndView.{EndView}
use Rattle.proofs.specs.declared.view.EndView.TheVariants as seen
use Rattle.proofs.specs.declared.view.Parts.{Parts}
use Rattle.proofs.specs.declared.statement.Statement.{Statement}
use Rattle.proofs.specs.declared.statement.Statement.TheVariants as statement
use Rattle.proofs.specs.declared.accepted.Accepted.TheInside.{Inside}
use Rattle.proofs.specs.Accepts.{IsAccepted, NamedReply}
use Rattle.proofs.specs.Replies.{End, Present, Empty, Other, Reply}

abbrev pub end_given : GivenEnd → End
end_given (given.Present salt key) = Present salt key.now
end_given given.Empty = Empty
end_given (given.Other index commitment) = Other index commitment

abbrev pub end_seen : EndView → End
end_seen (seen.Present salt key policy) = Present salt.now (record { value = key.now; policy = policy })
end_seen seen.Empty = Empty
end_seen (seen.Other index commitment) = Other index.now commitment.now

-- the reply of these parts
abbrev pub reply_seen : Parts → Reply
reply_seen parts = record { body = parts.body; value = parts.value.now; end = end_seen parts.end; siblings = parts.siblings.now }

-- the key of a statement, with its policy if it has one; or none
abbrev pub key_stated : Statement → Option BoundKey
key_stated (statement.Present key policy) = Some (record { value = key.now; policy = policy })
key_stated statement.Absent = None

abbrev pub named_reply : {H V : Type 0} → Inside H V → NamedReply
named_reply inside = record { name = inside.name; reply = inside.view }

-- what stands inside of an accepted reply was accepted under these functions, and its index is that of
-- its value
pub record IsAcceptedUnder {H V : Type 0} (hash : List ℕ → List ℕ) (accepted : List ℕ → List ℕ → List ℕ → Type 0) (inside : Inside H V) : Type 0 where
  pub is : IsAccepted hash accepted (named_reply inside)
  pub index : inside.index ≡ hash inside.view.value
