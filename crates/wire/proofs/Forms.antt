-- What holds of all forms, by one induction: a body is read exactly where one is spelled, it consists of
-- bytes, and what fits into a frame is allowed.
use Rattle.std.proofs.Common.{ℕ, ◌≤◌, None, List, [], length, refl, arith, lit≤}
use Rattle.std.proofs.lemmas.List.{length-append}
use Rattle.encoding.specs.Bytes.{IsBytes}
use Rattle.encoding.specs.Endian.{big_bytes}
use Rattle.encoding.specs.Fields.{IsField}
use Rattle.encoding.specs.Forms.{counted_bytes}
use Rattle.encoding.proofs.ByteLists.{IsBytes-append, IsBytes-bytes_high_first}
use Rattle.encoding.proofs.Fields.{byte_field, bytes_field, counted_field, nothing_field, numbers_field}
use Rattle.encoding.proofs.FieldsOf.{both, allowed}
use Rattle.proofs.proofs.Replies.{reply_field}
use Rattle.proofs.proofs.Sizes.{reply_few}
use Rattle.proofs.specs.Replies.{Empty}
use Rattle.rootchain.proofs.RootLists.{root_list_field}
use Rattle.rootchain.proofs.Sizes.{one_few, root_few, roots_few, signed_promise_few}
use Rattle.rootchain.specs.declared.body.Body.{Body}
use Rattle.rootchain.specs.Readable.{signed_promise_field, signed_root_field}
use Rattle.wire.specs.Tables.{BodyForm, Nothing, Byte, Number, Bytes, Text, Both, Promise, Reply, Roots, Root, Content, spelling, reader, Allowed, MayHold}

pub form_field : (form : BodyForm) → IsField (reader form) (spelling form) (Allowed form)
form_field Nothing = allowed (λ x _. tt) (λ x _. refl) (nothing_field tt)
form_field Byte = byte_field
form_field (Number count) = numbers_field count
form_field (Bytes count) = bytes_field count
form_field Text = counted_field 0 65535 (lit≤ tt)
form_field (Both first second) = both (form_field first) (form_field second)
form_field Promise = signed_promise_field
form_field Reply = reply_field
form_field Roots = root_list_field
form_field Root = signed_root_field

-- some content, allowed or not
some_body : Body
some_body = record { epoch = 0; previous_epoch = 0; root = []; previous_hash = []; nonce = []; vuf_key = [] }

pub any : (form : BodyForm) → Content form
any Nothing = tt
any Byte = 0
any (Number count) = 0
any (Bytes count) = []
any Text = []
any (Both first second) = (any first, any second)
any Promise = record { promise = record { epoch = 0; body_hash = []; index = []; name = []; key = record { value = []; policy = None } }; signature = [] }
any Reply = record { body = some_body; value = []; end = Empty; siblings = [] }
any Roots = []
any Root = record { body = some_body; signature = [] }

counted_are_bytes : (bytes : List ℕ) → IsBytes bytes → IsBytes (counted_bytes bytes)
counted_are_bytes bytes h = IsBytes-append (big_bytes 2 (length bytes)) bytes (IsBytes-bytes_high_first 2 (length bytes)) h

pub are_bytes : (form : BodyForm) (content : Content form) → MayHold IsBytes form content → IsBytes (spelling form content)
are_bytes Nothing content h = λ k. omega arith
are_bytes Byte content h = (one_few content h).small
are_bytes (Number count) content h = IsBytes-bytes_high_first count content
are_bytes (Bytes count) content h = h.1
are_bytes Text content h = counted_are_bytes content h
are_bytes (Both first second) content h = IsBytes-append (spelling first content.0) (spelling second content.1) (are_bytes first content.0 h.0) (are_bytes second content.1 h.1)
are_bytes Promise content h = (signed_promise_few content h).small
are_bytes Reply content h = (reply_few content h).small
are_bytes Roots content h = (roots_few content h).small
are_bytes Root content h = (root_few content h).small

-- what fits into a frame has names and keys that are short enough
pub fits : (form : BodyForm) (content : Content form) → MayHold IsBytes form content → length (spelling form content) ≤ 65535 → Allowed form content
fits Text content h few = (omega arith, omega (arith, length-append (big_bytes 2 (length content)) content, few), h)
fits (Both first second) content h few =
    let sum = length-append (spelling first content.0) (spelling second content.1) in
    (fits first content.0 h.0 (omega (arith, sum, few)), fits second content.1 h.1 (omega (arith, sum, few)))
fits Nothing content h few = h
fits Byte content h few = h
fits (Number count) content h few = h
fits (Bytes count) content h few = h
fits Promise content h few = h
fits Reply content h few = h
fits Roots content h few = h
fits Root content h few = h
