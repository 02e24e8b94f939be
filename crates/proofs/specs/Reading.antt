-- The reader of replies, made of the readers of their parts.
use Rattle.std.specs.Prelude.{ℕ, ◌*◌, ◌==◌, if◌then◌else◌, Bool, true, false, List, Err}
use Rattle.std.specs.Simd.{first_chunks}
use Rattle.encoding.specs.declared.fault.Fault.TheVariants.{OutOfRange}
use Rattle.encoding.specs.Reading.{Reading, is_within, read_as, read_both, read_byte, read_bytes, read_counted, read_nothing, read_number, read_policy_if, read_then, read_where}
use Rattle.encoding.specs.declared.bounded.TheConstants.{MIN_LEN}
use Rattle.encoding.specs.declared.key_data.TheConstants.{MAX_KEY_DATA_LEN}
use Rattle.encoding.specs.declared.small.TheConstants.{MAX_SMALL_LEN}
use Rattle.rootchain.specs.declared.body.Body.{Body}
use Rattle.rootchain.specs.Bodies.{read_body}
use Rattle.proofs.specs.Replies.{End, Present, Empty, Other, Reply}
use Rattle.prefixtree.specs.declared.path.TheConstants.{MAX_SIBLINGS}

abbrev pub read_present : Bool → List ℕ → Reading End
read_present has_policy = read_as (λ parts. Present parts.1.0 (record { value = parts.1.1; policy = parts.0 })) (read_both (read_policy_if has_policy) (read_both (read_bytes 32) (read_counted MIN_LEN MAX_KEY_DATA_LEN)))

abbrev pub read_other : List ℕ → Reading End
read_other = read_as (λ parts. Other parts.0 parts.1) (read_both (read_bytes 32) (read_bytes 32))

-- the parts of an end of this kind
abbrev pub read_end_of : ℕ → List ℕ → Reading End
read_end_of kind bytes = if kind == 1 then read_present false bytes else (if kind == 2 then read_nothing Empty bytes else (if kind == 3 then read_other bytes
    else (if kind == 4 then read_present true bytes else Err OutOfRange)))

unfoldable pub read_end : List ℕ → Reading End
read_end = read_then read_byte read_end_of

unfoldable pub read_siblings : List ℕ → Reading (List (List ℕ))
read_siblings = read_then (read_where (is_within 0 MAX_SIBLINGS) (read_number 2)) (λ count. read_as (first_chunks 32 count) (read_bytes (32 * count)))

-- a reply's parts in their order
abbrev pub reply_of : Body × (List ℕ × (End × List (List ℕ))) → Reply
reply_of parts = record { body = parts.0; value = parts.1.0; end = parts.1.1.0; siblings = parts.1.1.1 }

unfoldable pub read_reply : List ℕ → Reading Reply
read_reply = read_as reply_of (read_both read_body (read_both (read_counted MIN_LEN MAX_SMALL_LEN) (read_both read_end read_siblings)))
