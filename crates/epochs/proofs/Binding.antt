-- A binding that waits under a salt of its own: the salts to come stay.
use Rattle.std.proofs.Common.{◌≡◌, ℕ, false, List, [], ◌∷◌, length, None, sym, ap, ◌∙◌}
use Rattle.rand_core.specs.Stream.{Stream, fill_bytes}
use Rattle.encoding.specs.Bytes.{Is32Bytes}
use Rattle.encoding.specs.Limits.{IsKeyData, IsName}
use Rattle.commit.specs.Commitments.{commitment_bytes}
use Rattle.prefixtree.specs.Placement.{Items, commitment_of, put}
use Rattle.encoding.specs.declared.bound_key.BoundKey.{BoundKey}
use Rattle.book.specs.Steps.{is_final_binding, with_pending}
use Rattle.book.specs.Books.{Book}
use Rattle.encoding.specs.Maps.{Map, at, put_at}
use Rattle.book.specs.Replays.{with_bound}
use Rattle.book.specs.Salted.{salted}
use Rattle.book.specs.Shows.{Provider, index_of, keyed_provider}
use Rattle.book.specs.Sound.{HoldsName}
use Rattle.book.proofs.Joining.{first-salt}
use Rattle.epochs.specs.DirectoryStates.{DirectoryState, HasKeysOf, provider}
use Rattle.epochs.specs.Histories.{Version}
use Rattle.epochs.specs.Parts.{Keeps, Parts, last_of, pending_of}
use Rattle.epochs.specs.Versions.{AllBefore, versions_of, with_version}
use Rattle.epochs.proofs.Changing.{book_accepted, index_free, keeps_accepted, later_version}
use Rattle.epochs.proofs.Parts.{book_of}

-- parts keep their book whatever salts are to come
pub resalted : (provider : Provider) (parts : Parts) (salt : List ℕ) (left : Stream) → Keeps provider parts (book_of parts salt left)
    → (other : List ℕ) (rest : Stream) → Is32Bytes other → Keeps provider parts (book_of parts other rest)
resalted provider parts salt left keeps other rest small = record {
  begun = keeps.begun;
  roots = keeps.roots;
  trees = keeps.trees;
  waiting = keeps.waiting;
  body_hash = keeps.body_hash;
  histories = keeps.histories;
  numbers = keeps.numbers;
  sound = record {
    ascend = keeps.sound.ascend;
    stay = keeps.sound.stay;
    finals = keeps.sound.finals;
    settled = keeps.sound.settled;
    pending = keeps.sound.pending;
    salt = small;
    apart = keeps.sound.apart;
    pages = keeps.sound.pages;
  };
}

module _ (provider : Provider) (parts : Parts) (own : List ℕ) (left : Stream) (keeps : Keeps provider parts (book_of parts own left)) (name : List ℕ) (key : BoundKey)
    (none : at (pending_of parts) name ≡ None) (free : (other : List ℕ) → HoldsName (book_of parts own left) other → index_of provider other ≡ index_of provider name → other ≡ name)
    (salt : List ℕ) (small : Is32Bytes salt) where
  -- the salts to come, where the binding's own comes first
  abbrev ahead : Stream
  ahead = salted (own ∷ []) left

  abbrev keeps_ahead : Keeps provider parts (book_of parts salt ahead)
  keeps_ahead = resalted provider parts own left keeps salt ahead small

  pub bound_free : (index : List ℕ) → index ≡ index_of provider name → commitment_of parts.waiting index ≡ None
  bound_free = index_free provider parts salt ahead keeps_ahead name key none free

  module _ (len : ℕ) (long : len ≡ length parts.roots) (version : Version) (is : version ≡ record { number = len; binding = record { key = key; salt = salt } }) where
    pub bound_later : AllBefore version.number (versions_of parts.names name)
    bound_later = later_version provider parts salt ahead keeps_ahead name key none free len long version is

    module _ (index commitment : List ℕ) (names : Map (List Version)) (waiting : Items)
        (indexed : index ≡ index_of provider name) (committed : commitment ≡ provider.hash (commitment_bytes salt name key))
        (named : names ≡ with_version parts.names name version) (waits : waiting ≡ put parts.waiting index commitment) where
      abbrev parts_bound : Parts
      parts_bound = record { names = names; roots = parts.roots; trees = parts.trees; waiting = waiting; body_hash = parts.body_hash }

      drawn : (own, left) ≡ fill_bytes 32 ahead
      drawn = sym (first-salt own [] left)

      pub keeps_bound : IsName name → IsKeyData key.value → is_final_binding (at (last_of parts).bindings name) ≡ false → Keeps provider parts_bound (book_of parts_bound own left)
      keeps_bound is-name is-key changeable = keeps_accepted provider parts salt ahead keeps_ahead name key none free len long version is index commitment own left names waiting indexed committed drawn named waits is-name is-key keeps.sound.salt changeable

      pub book_bound : book_of parts_bound own left ≡ with_bound (book_of parts own left) name (record { key = key; salt = salt })
      book_bound =
          book_accepted provider parts salt ahead keeps_ahead name key none free len long version is index commitment own left names waiting indexed committed drawn named waits
          ∙ ap with_drawn (first-salt own [] left)
        where
          with_drawn : List ℕ × Stream → Book
          with_drawn drawn-next = record (book_of parts (drawn-next.0) (drawn-next.1)) { pending = put_at (pending_of parts) name (record { key = key; salt = salt }) }

-- once the salt after it is drawn, the book is that in which the binding waits under the next salt
pub drawn_after : (before middle : Book) (name : List ℕ) (key : BoundKey) (next : List ℕ) (rest : Stream) → middle ≡ with_bound before name (record { key = key; salt = before.salt })
    → (next, rest) ≡ fill_bytes 32 middle.left → ◌≡◌ {A = Book} (record middle { salt = next; left = rest }) (with_pending before name key)
drawn_after before middle name key next rest is drawn =
    ap (λ (x : List ℕ × Stream). record middle { salt = x.0; left = x.1 }) drawn
    ∙ ap (λ (book : Book). record book { salt = (fill_bytes 32 book.left).0; left = (fill_bytes 32 book.left).1 }) is

-- what has the public keys of another has its provider
pub same_provider : {R : Type 0} (digest_of : List ℕ → List ℕ) (value_of signature_of : List ℕ → List ℕ → List ℕ) (first later : DirectoryState R) → HasKeysOf first later
    → provider digest_of value_of signature_of later ≡ provider digest_of value_of signature_of first
same_provider digest_of value_of signature_of first later has = λ i. keyed_provider digest_of value_of (has.0 i) signature_of (has.1 i)
