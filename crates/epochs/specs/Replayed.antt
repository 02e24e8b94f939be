-- What it is to carry out a record once more, and how many digests that and a new page take.
use Rattle.std.specs.Prelude.{◌≡◌, ℕ, ◌+◌, List, Option, None, Some, Result, Ok, Err}
use Rattle.rand_core.specs.Stream.{Stream}
use Rattle.prefixtree.specs.Changes.{made_count}
use Rattle.prefixtree.specs.Node.{node_count}
use Rattle.prefixtree.specs.Placement.{Items, put_all}
use Rattle.commands.specs.declared.edit.Verb.{Verb}
use Rattle.commands.specs.declared.edit.Verb.TheVariants.{Register, Change}
use Rattle.book.specs.declared.record.Record.{Record}
use Rattle.book.specs.declared.record.Record.TheVariants.{Start, Bound, Turned}
use Rattle.book.specs.declared.directory_refusal.Refusal.{Refusal}
use Rattle.book.specs.Replays.{replayed, IsUnreplayed}
use Rattle.book.specs.Shows.{Provider, placement}
use Rattle.epochs.specs.DirectoryStates.{book, DirectoryState}

-- the record is carried out; or it is refused, and the book stays
abbrev pub Replays : {R : Type 0} → (R → Stream) → (List ℕ → List ℕ) → DirectoryState R → Record → Result (Unit {0}) Refusal → DirectoryState R → Type 0
Replays stream index_of before what (Ok done) after = replayed index_of (book stream before) what ≡ Some (book stream after)
Replays stream index_of before what (Err why) after = (book stream after ≡ book stream before) × IsUnreplayed index_of (book stream before) what why

-- digests to find the address of a name: one for that of a new name
abbrev pub address_digests : Verb → ℕ
address_digests Register = 1
address_digests Change = 0

-- digests to put changes into a tree: one for each node that is made, under the tree's own nonce; one for each node,
-- under another
abbrev pub changed_digests : Option (List ℕ) → Items → Items → ℕ
changed_digests None items changes = made_count 256 items changes
changed_digests (Some nonce) items changes = node_count 256 (put_all items changes)

-- those for the tree of the next page
abbrev pub tree_digests : {R : Type 0} → Provider → DirectoryState R → Option (List ℕ) → ℕ
tree_digests provider kept nonce = changed_digests nonce (placement provider kept.last.bindings) (placement provider kept.pending)

-- at most so many digests
abbrev pub replay_digests : {R : Type 0} → Provider → DirectoryState R → Record → ℕ
replay_digests provider kept (Start epoch nonce signing_key vuf_key) = 0
replay_digests provider kept (Bound verb salt name key) = address_digests verb + 1
replay_digests provider kept (Turned epoch nonce) = tree_digests provider kept nonce + 1
