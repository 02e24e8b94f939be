-- Kinds of messages as data. A body has a form, and a form is a value: what a body of it holds, how that is
-- spelled and read, and what of it is allowed follow from it. So a kind is one row: its byte and its form.
use Rattle.std.specs.Prelude.{ℕ, ◌^◌, ◌<◌, ◌==◌, if◌then◌else◌, List, [], ◌∷◌, ◌++◌, Option, Some, None, Result, Ok, Err, ⊤}
use Rattle.encoding.specs.Bytes.{HasBytes}
use Rattle.encoding.specs.Endian.{big_bytes}
use Rattle.encoding.specs.Forms.{counted_bytes}
use Rattle.encoding.specs.Limits.{IsWithin}
use Rattle.encoding.specs.Reading.{Reading, read_as, read_both, read_byte, read_bytes, read_counted, read_nothing, read_number}
use Rattle.proofs.specs.Reading.{read_reply}
use Rattle.proofs.specs.Replies as replies
use Rattle.proofs.specs.Replies.{reply_bytes, IsReply}
use Rattle.rootchain.specs.declared.signed_promise.SignedPromise.{SignedPromise}
use Rattle.rootchain.specs.declared.signed_root.SignedRoot.{SignedRoot}
use Rattle.rootchain.specs.Promises.{read_signed_promise, signed_promise_bytes, IsSignedPromise}
use Rattle.rootchain.specs.RootLists.{read_root_list, root_list_bytes, IsRootList}
use Rattle.rootchain.specs.SignedRoots.{read_signed_root, signed_root_bytes, IsSignedRoot}
use Rattle.wire.specs.Frames.{Frame}
use Rattle.wire.specs.declared.request.TheConstants.{MAX_COUNTED_LEN}
use Rattle.wire.specs.declared.message_refusals.ReadRefusal.{ReadRefusal}
use Rattle.wire.specs.declared.message_refusals.ReadRefusal.TheVariants.{BadKind, BadBody}

-- nothing; one byte; a number in so many bytes; so many bytes; a name or a key, behind its length in two
-- bytes; two forms, one behind the other; and the forms of what a directory signs and proves
pub data BodyForm : Type 0 where
  Nothing : BodyForm
  Byte : BodyForm
  Number : ℕ → BodyForm
  Bytes : ℕ → BodyForm
  Text : BodyForm
  Both : BodyForm → BodyForm → BodyForm
  Promise : BodyForm
  Reply : BodyForm
  Roots : BodyForm
  Root : BodyForm

-- what a body of the form holds
abbrev pub Content : BodyForm → Type 0
Content Nothing = ⊤
Content Byte = ℕ
Content (Number count) = ℕ
Content (Bytes count) = List ℕ
Content Text = List ℕ
Content (Both first second) = Content first × Content second
Content Promise = SignedPromise
Content Reply = replies.Reply
Content Roots = List SignedRoot
Content Root = SignedRoot

abbrev pub spelling : (form : BodyForm) → Content form → List ℕ
spelling Nothing content = []
spelling Byte content = content ∷ []
spelling (Number count) content = big_bytes count content
spelling (Bytes count) content = content
spelling Text content = counted_bytes content
spelling (Both first second) content = spelling first content.0 ++ spelling second content.1
spelling Promise content = signed_promise_bytes content
spelling Reply content = reply_bytes content
spelling Roots content = root_list_bytes content
spelling Root content = signed_root_bytes content

-- numbers fit in their bytes, and this holds of names and keys
abbrev pub MayHold : (List ℕ → Type 0) → (form : BodyForm) → Content form → Type 0
MayHold OfText Nothing content = ⊤
MayHold OfText Byte content = content < 256
MayHold OfText (Number count) content = content < 256 ^ count
MayHold OfText (Bytes count) content = HasBytes count content
MayHold OfText Text content = OfText content
MayHold OfText (Both first second) content = MayHold OfText first content.0 × MayHold OfText second content.1
MayHold OfText Promise content = IsSignedPromise content
MayHold OfText Reply content = IsReply content
MayHold OfText Roots content = IsRootList content
MayHold OfText Root content = IsSignedRoot content

-- bytes of any length that fits in two bytes
abbrev pub IsCounted : List ℕ → Type 0
IsCounted = IsWithin 0 MAX_COUNTED_LEN

-- what may be held where names and keys are such texts
abbrev pub Allowed : (form : BodyForm) → Content form → Type 0
Allowed = MayHold IsCounted

abbrev pub reader : (form : BodyForm) → List ℕ → Reading (Content form)
reader Nothing = read_nothing tt
reader Byte = read_byte
reader (Number count) = read_number count
reader (Bytes count) = read_bytes count
reader Text = read_counted 0 MAX_COUNTED_LEN
reader (Both first second) = read_both (reader first) (reader second)
reader Promise = read_signed_promise
reader Reply = read_reply
reader Roots = read_root_list
reader Root = read_signed_root

-- ---- kinds

-- a kind of message: its byte, the form of its bodies, and the message with what a body holds
pub record KindRow (Message : Type 0) : Type 0 where
  pub byte : ℕ
  pub form : BodyForm
  pub message : Content form → Message

-- any fault in the body is BadBody
abbrev pub or_bad_body : {Message : Type 0} → Reading Message → Result (Message × List ℕ) ReadRefusal
or_bad_body (Ok read) = Ok read
or_bad_body (Err fault) = Err BadBody

-- where kinds have such rows
module _ {Message Kind : Type 0} (row : Kind → KindRow Message) where
  -- a kind, with what a body of it holds
  pub data MessageParts : Type 0 where
    Of : (kind : Kind) → Content (row kind).form → MessageParts

  abbrev pub parts_kind : MessageParts → Kind
  parts_kind (Of kind content) = kind

  abbrev pub parts_message : MessageParts → Message
  parts_message (Of kind content) = (row kind).message content

  abbrev pub parts_frame : MessageParts → Frame
  parts_frame (Of kind content) = record { kind = (row kind).byte; body = spelling (row kind).form content }

  abbrev pub MayHave : (List ℕ → Type 0) → MessageParts → Type 0
  MayHave OfText (Of kind content) = MayHold OfText (row kind).form content

  -- the kind with this byte, if it is one of these
  abbrev pub kind_among : List Kind → ℕ → Option Kind
  kind_among [] byte = None
  kind_among (kind ∷ more) byte = if byte == (row kind).byte then Some kind else kind_among more byte

  -- by the form of the kind, or BadKind where there is none
  abbrev pub read_by : Option Kind → List ℕ → Result (Message × List ℕ) ReadRefusal
  read_by (Some kind) bytes = or_bad_body (read_as (row kind).message (reader (row kind).form) bytes)
  read_by None bytes = Err BadKind
