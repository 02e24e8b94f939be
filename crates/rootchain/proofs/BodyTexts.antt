-- Two bodies with one text are equal, also where they are not well formed.
use Rattle.std.proofs.Common.{◌≡◌, ℕ, List, [], ◌++◌, refl, ap, lit≤}
use Rattle.encoding.specs.Fields.{IsField}
use Rattle.encoding.specs.Reading.{Reading, read_as, read_behind, read_both, read_bytes, read_number}
use Rattle.encoding.proofs.ByteLists.{IsBytes-two}
use Rattle.encoding.proofs.Fields.{bytes_field, numbers_field, one_spelling}
use Rattle.encoding.proofs.FieldsOf.{allowed, behind, both, renamed}
use Rattle.rootchain.specs.declared.body.Body.{Body}
use Rattle.rootchain.specs.Bodies.{body_bytes, body_head, body_of, IsSized}
use Rattle.rootchain.specs.Readable.{body_parts}

-- the reader of all bodies
abbrev read_sized : List ℕ → Reading Body
read_sized = read_behind body_head (read_as body_of
    (read_both (read_number 8) (read_both (read_number 8)
    (read_both (read_bytes 32) (read_both (read_bytes 32) (read_both (read_bytes 32) (read_bytes 32)))))))

sized_field : IsField read_sized body_bytes IsSized
sized_field =
    let hash = bytes_field 32 in
    let epoch = numbers_field 8 in
    behind body_head (IsBytes-two 0x52 1 (lit≤ tt) (lit≤ tt))
    (allowed
    (λ b h. let p = h.0 in (p.0, p.1.0, p.1.1.0, p.1.1.1.0, p.1.1.1.1.0, p.1.1.1.1.1))
    (λ b h. ((h.0, (h.1, (h.2, (h.3, (h.4, h.5))))), refl))
    (renamed body_of body_parts (λ _. refl) (both epoch (both epoch (both hash (both hash (both hash hash)))))))

pub same_text : (one other : Body) → IsSized one → IsSized other → body_bytes one ≡ body_bytes other → one ≡ other
same_text one other p q e = (one_spelling read_sized body_bytes IsSized sized_field one other [] [] p q (ap (λ text. text ++ []) e)).0
