-- What a call returns, as a reply.
use Rattle.std.specs.Borrow.{Bor}
use Rattle.std.specs.Prelude.{◌≡◌, ℕ, List, Result, Ok, Err}
use Rattle.rootchain.specs.declared.signed_promise.SignedPromise.{SignedPromise}
use Rattle.rootchain.specs.declared.signed_root.SignedRoot.{SignedRoot}
use Rattle.book.specs.declared.directory_refusal.Refusal.{Refusal}
use Rattle.book.specs.declared.reply.Reply.{Reply}
use Rattle.book.specs.declared.reply.Reply.TheVariants as reply

abbrev pub promised : Result SignedPromise Refusal → Reply
promised (Ok promise) = reply.Promised promise
promised (Err why) = reply.Refused why

abbrev pub found : Result (List ℕ) Refusal → Reply
found (Ok text) = reply.Found text
found (Err why) = reply.Refused why

abbrev pub last : Result SignedRoot Refusal → Reply
last (Ok root) = reply.Last root
last (Err why) = reply.Refused why

-- the reply tells these roots, or is the refusal
abbrev pub TellsRoots : Result (Bor (List SignedRoot)) Refusal → Reply → Type 0
TellsRoots (Ok roots) (reply.Told told) = told.items ≡ roots.now
TellsRoots (Ok roots) (reply.Promised promise) = ⊥
TellsRoots (Ok roots) (reply.Found text) = ⊥
TellsRoots (Ok roots) (reply.Last root) = ⊥
TellsRoots (Ok roots) (reply.Refused why) = ⊥
TellsRoots (Err why) answered = answered ≡ reply.Refused why
