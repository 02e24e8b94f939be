-- A reply, regardless of where its roots lie, and two replies of calls that fail alike.
use Rattle.std.specs.Prelude.{◌≡◌, ◌≢◌, ◌↔◌, ℕ, List}
use Rattle.rootchain.specs.declared.signed_promise.SignedPromise.{SignedPromise}
use Rattle.rootchain.specs.declared.signed_root.SignedRoot.{SignedRoot}
use Rattle.book.specs.declared.directory_refusal.Refusal.{Refusal}
use Rattle.book.specs.declared.directory_refusal.Refusal.TheVariants.{Memory, KeepFailed}
use Rattle.book.specs.declared.reply.Reply.{Reply}
use Rattle.book.specs.declared.reply.Reply.TheVariants as reply

pub data ReplyContent : Type 0 where
  Promised : SignedPromise → ReplyContent
  Found : List ℕ → ReplyContent
  Told : List SignedRoot → ReplyContent
  Last : SignedRoot → ReplyContent
  Refused : Refusal → ReplyContent

abbrev pub reply_content : Reply → ReplyContent
reply_content (reply.Promised promise) = Promised promise
reply_content (reply.Found text) = Found text
reply_content (reply.Told told) = Told told.items
reply_content (reply.Last root) = Last root
reply_content (reply.Refused why) = Refused why

-- neither call ran out of memory, and the keeper failed in both or in neither
abbrev pub FailAlike : Reply → Reply → Type 0
FailAlike said other = (reply_content said ≢ Refused Memory) × (reply_content other ≢ Refused Memory) × ((reply_content said ≡ Refused KeepFailed) ↔ (reply_content other ≡ Refused KeepFailed))
