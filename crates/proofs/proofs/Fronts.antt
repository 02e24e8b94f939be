-- A reply in two parts: what stands before its siblings, and these.
use Rattle.std.proofs.Common.{◌≡◌, ℕ, List, ◌++◌, length, sym, ap, ◌∙◌, append_assoc}
use Rattle.encoding.specs.Bytes.{joined}
use Rattle.encoding.specs.Endian.{big_bytes}
use Rattle.encoding.specs.Forms.{counted_bytes}
use Rattle.rootchain.specs.Bodies.{body_bytes}
use Rattle.rootchain.specs.declared.body.Body.{Body}
use Rattle.proofs.specs.Replies.{End, front_bytes, reply_bytes, reply_end_bytes}

pub front_reply : (body : Body) (value : List ℕ) (end : End) (siblings : List (List ℕ)) (count : ℕ) → length siblings ≡ count
    → front_bytes body value end count ++ joined siblings ≡ reply_bytes (record { body = body; value = value; end = end; siblings = siblings })
front_reply body value end siblings count long =
    let beside : List ℕ = joined siblings in
    append_assoc (body_bytes body) (counted_bytes value ++ (reply_end_bytes end ++ big_bytes 2 count)) beside
    ∙ ap (λ (rest : List ℕ). body_bytes body ++ rest)
    (append_assoc (counted_bytes value) (reply_end_bytes end ++ big_bytes 2 count) beside
    ∙ ap (λ (rest : List ℕ). counted_bytes value ++ rest)
    (append_assoc (reply_end_bytes end) (big_bytes 2 count) beside ∙ ap (λ (n : ℕ). reply_end_bytes end ++ (big_bytes 2 n ++ beside)) (sym long)))
