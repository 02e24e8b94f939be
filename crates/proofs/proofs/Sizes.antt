-- What a reply spells are bytes, and how many at most.
use Rattle.std.proofs.Common.{ℕ, ◌+◌, ◌*◌, Bool, true, false, List, [], ◌∷◌, length, arith, lit≤}
use Rattle.encoding.specs.Bytes.{Is32Bytes}
use Rattle.encoding.specs.Policies.{has_policy}
use Rattle.proofs.specs.Replies.{reply_bytes, present_kind, reply_end_bytes, sibling_bytes, AreSiblings, End, Present, Empty, Other, IsEnd, IsReply, Reply}
use Rattle.rootchain.proofs.Sizes.{body_few, both_few, counted_few, each_few, fewer, hash_few, number_few, one_few, policy_few, AreFew}

end_few : (end : End) → IsEnd end → AreFew 2084 (reply_end_bytes end)
end_few (Present salt key) h = both_few 1 2083 (kind_few (has_policy key.policy)) (both_few 1 2082 (policy_few key.policy) (both_few 32 2050 (hash_few salt h.0) (counted_few 1 2048 key.value h.1)))
  where
    kind_few : (has : Bool) → AreFew 1 (present_kind has ∷ [])
    kind_few false = one_few 1 (lit≤ tt)
    kind_few true = one_few 4 (lit≤ tt)
end_few Empty h = fewer 1 2084 (one_few 2 (lit≤ tt)) (lit≤ tt)
end_few (Other index commitment) h = fewer 65 2084 (both_few 1 64 (one_few 3 (lit≤ tt)) (both_few 32 32 (hash_few index h.0) (hash_few commitment h.1))) (lit≤ tt)

siblings_few : (siblings : List (List ℕ)) → AreSiblings siblings → AreFew 8194 (sibling_bytes siblings)
siblings_few siblings h =
    fewer (2 + length siblings * 32) 8194 (both_few 2 (length siblings * 32) (number_few 2 (length siblings)) (each_few (λ bytes. bytes) Is32Bytes 32 hash_few siblings h.1)) (omega (arith, h.0))

-- the longest reply has 10,682 bytes
pub reply_few : (reply : Reply) → IsReply reply → AreFew 10682 (reply_bytes reply)
reply_few reply h =
    both_few 146 10536 (body_few reply.body h.0) (both_few 258 10278 (counted_few 1 256 reply.value h.1) (both_few 2084 8194 (end_few reply.end h.2) (siblings_few reply.siblings h.3)))
