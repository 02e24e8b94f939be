-- One step of a book: the first refusal of a command that applies, what the book answers, what it is after the
-- command, and the record that is kept of it.
use Rattle.std.specs.Prelude.{ℕ, ◌&&◌, ◌||◌, not, nat_le, Bool, false, if◌then◌else◌, List, [], ◌∷◌, ◌++◌, length, filter, take, find, Option, Some, None, is_some, is_none, unwrap_or}
use Rattle.std.specs.Str.{bytes_eq}
use Rattle.rand_core.specs.Stream.{fill_bytes}
use Rattle.encoding.specs.Policies.{is_final, policy_of}
use Rattle.encoding.specs.declared.bound_key.BoundKey.{BoundKey}
use Rattle.encoding.specs.Reading.{is_within}
use Rattle.encoding.specs.declared.bounded.TheConstants.{MIN_LEN}
use Rattle.encoding.specs.declared.key_data.TheConstants.{MAX_KEY_DATA_LEN}
use Rattle.encoding.specs.declared.name.TheConstants.{MAX_NAME_LEN}
use Rattle.commands.specs.declared.edit.Verb.{Verb}
use Rattle.commands.specs.declared.edit.Verb.TheVariants.{Register, Change}
use Rattle.commands.specs.Operations.{asked_key, bound_key, Operation, Question, Revision, Query, Edit, Put, Turn, Promise, Lookup, History, Head}
use Rattle.book.specs.declared.record.Record.{Record}
use Rattle.book.specs.declared.record.Record.TheVariants.{Start, Bound, Turned}
use Rattle.book.specs.declared.directory_refusal.Refusal.{Refusal}
use Rattle.book.specs.declared.directory_refusal.Refusal.TheVariants.{BadName, BadKey, BadPolicy, NameTaken, NoSuchName, FinalBinding, PendingExists, IndexTaken, NoSuchEpoch, EpochNotLater, NoPromise, BadRange}
use Rattle.book.specs.Books.{Binding, Book, Page, page_at, pages}
use Rattle.encoding.specs.Maps.{Map, at, overwritten, put_at}
use Rattle.rootchain.specs.declared.root_list.TheConstants.{MAX_ROOTS}

-- the first of some tests that holds
abbrev pub first : List (Bool × Refusal) → Option Refusal
first [] = None
first (test ∷ tests) = if test.0 then Some test.1 else first tests

abbrev pub has_length_within : ℕ → ℕ → List ℕ → Bool
has_length_within least most bytes = is_within least most (length bytes)

abbrev pub bad_name : List ℕ → Bool × Refusal
bad_name name = (not (has_length_within MIN_LEN MAX_NAME_LEN name), BadName)

abbrev pub bad_key : List ℕ → Bool × Refusal
bad_key key = (not (has_length_within MIN_LEN MAX_KEY_DATA_LEN key), BadKey)

-- the byte of a policy, where there is one, is that of none
abbrev pub bad_policy : Option ℕ → Bool × Refusal
bad_policy None = (false, BadPolicy)
bad_policy (Some byte) = (is_none (policy_of byte), BadPolicy)

-- what a book answers, where nothing refuses
pub data Answer : Type 0 where
  -- the key will be bound to the name in the next epoch
  Promised : List ℕ → Binding → Answer
  -- what the page has at the name
  Found : Page → List ℕ → Option Binding → Answer
  -- these pages
  Told : List Page → Answer
  -- the last page
  Last : Page → Answer

-- the name's binding waits with the next salt, and the salt after it is drawn (CONIKS, section 4: what a temporary
-- binding promises)
abbrev pub with_pending : Book → List ℕ → BoundKey → Book
with_pending book name key = record book {
  pending = put_at book.pending name (record { key = key; salt = book.salt });
  salt = (fill_bytes 32 book.left).0;
  left = (fill_bytes 32 book.left).1;
}

-- the page of this epoch, under this nonce, or under the last one's: the last one's bindings, overwritten by
-- what waits (CONIKS, section 3: snapshot of an epoch)
abbrev pub next_page : Book → ℕ → Option (List ℕ) → Page
next_page book epoch nonce = record { epoch = epoch; nonce = unwrap_or nonce book.last.nonce; bindings = overwritten book.last.bindings book.pending }

abbrev pub with_page : Book → Page → Book
with_page book page = record book { earlier = pages book; last = page; pending = [] }

-- the first pages of at least this epoch, so many or all that there are
abbrev pub page_range : Book → ℕ → ℕ → List Page
page_range book from count = take count (filter (λ page. nat_le from page.epoch) (pages book))

-- the last page already has a name that is to be registered, or lacks one whose key is to be changed
abbrev pub bad_verb : Verb → Option Binding → Bool × Refusal
bad_verb Register found = (is_some found, NameTaken)
bad_verb Change found = (is_none found, NoSuchName)

-- what the last page has at a name is never changed
abbrev pub is_final_binding : Option Binding → Bool
is_final_binding None = false
is_final_binding (Some binding) = is_final binding.key.policy

-- a key that is to be changed is final
abbrev pub final_tests : Verb → Option Binding → List (Bool × Refusal)
final_tests Register found = []
final_tests Change found = (is_final_binding found, FinalBinding) ∷ []

-- what is against a key for a name, by what the last page has at the name, and what waits for it
abbrev pub binding_tests : Verb → Option Binding → Option Binding → List (Bool × Refusal)
binding_tests verb shown waits = bad_verb verb shown ∷ (final_tests verb shown ++ (is_some waits, PendingExists) ∷ [])

module _ (index_of : List ℕ → List ℕ) where
  -- another name of these has the index of this one
  abbrev pub has_its_index : List ℕ → Map Binding → Bool
  has_its_index name bindings = is_some (find (λ entry. not (bytes_eq entry.0 name) && bytes_eq (index_of entry.0) (index_of name)) bindings)

  -- another name has the index of one that is to be registered
  abbrev pub bad_index : Verb → Book → List ℕ → Bool × Refusal
  bad_index Register book name = (has_its_index name book.last.bindings || has_its_index name book.pending, IndexTaken)
  bad_index Change book name = (false, IndexTaken)

  -- the first refusal of a query that applies, if one does
  abbrev pub query_refusal : Book → Question → Option Refusal
  query_refusal book (Promise name) = first (bad_name name ∷ (is_none (at book.pending name), NoPromise) ∷ [])
  query_refusal book (Lookup name epoch) = first (bad_name name ∷ (is_none (page_at book epoch), NoSuchEpoch) ∷ [])
  query_refusal book (History from count) = first ((not (nat_le 1 count && nat_le count MAX_ROOTS), BadRange) ∷ [])
  query_refusal book Head = None

  -- what the book has against a key for a name, where these and the policy are allowed
  abbrev pub put_tests : Book → Verb → List ℕ → List (Bool × Refusal)
  put_tests book verb name = binding_tests verb (at book.last.bindings name) (at book.pending name) ++ bad_index verb book name ∷ []

  -- the first refusal of an edit that applies, if one does, but for want of memory and what is not kept
  abbrev pub edit_refusal : Book → Revision → Option Refusal
  edit_refusal book (Put verb name key) = first (bad_name name ∷ bad_key key.0 ∷ bad_policy key.1 ∷ put_tests book verb name)
  edit_refusal book (Turn epoch _) = first ((nat_le epoch book.last.epoch, EpochNotLater) ∷ [])

  -- the first refusal of a command
  abbrev pub refusal : Book → Operation → Option Refusal
  refusal book (Query question) = query_refusal book question
  refusal book (Edit revision) = edit_refusal book revision

-- ---- what comes of a command

-- what comes of a command
pub data Outcome : Type 0 where
  Answers : Answer → Outcome
  Refuses : Refusal → Outcome

-- the promise of what waits for a name, if something does (CONIKS, section 4: temporary binding)
abbrev pub promise_outcome : List ℕ → Option Binding → Outcome
promise_outcome name None = Refuses NoPromise
promise_outcome name (Some binding) = Answers (Promised name binding)

-- what a page has at a name, if there is such a page (CONIKS, section 4: key look-up)
abbrev pub found_in : List ℕ → Option Page → Outcome
found_in name None = Refuses NoSuchEpoch
found_in name (Some page) = Answers (Found page name (at page.bindings name))

-- what comes of a query that is not refused
abbrev pub read : Book → Question → Outcome
read book (Promise name) = promise_outcome name (at book.pending name)
read book (Lookup name epoch) = found_in name (page_at book epoch)
read book (History from count) = Answers (Told (page_range book from count))
read book Head = Answers (Last book.last)

-- the epoch of the page that an edit begins, if it begins one
abbrev pub page_begun : Revision → Option ℕ
page_begun (Put verb name key) = None
page_begun (Turn epoch _) = Some epoch

-- what an edit that is not refused does to a book
abbrev pub edited : Book → Revision → Outcome × Book
edited book (Put verb name key) = (Answers (Promised name (record { key = bound_key key; salt = book.salt })), with_pending book name (bound_key key))
edited book (Turn epoch nonce) = (Answers (Last (next_page book epoch nonce)), with_page book (next_page book epoch nonce))

-- what a command does to a book that does not refuse it: a query leaves it
abbrev pub done : Book → Operation → Outcome × Book
done book (Query question) = (read book question, book)
done book (Edit revision) = edited book revision

-- a refusal leaves the book
abbrev pub unless_refused : Option Refusal → Book → Operation → Outcome × Book
unless_refused None book asked = done book asked
unless_refused (Some why) book asked = (Refuses why, book)

-- what comes of a command, and the book after it; `index_of` gives the index of a name
abbrev pub step : (List ℕ → List ℕ) → Book → Operation → Outcome × Book
step index_of book asked = unless_refused (refusal index_of book asked) book asked

-- ---- records

-- what is kept of a command before it changes the book
abbrev pub kept_of : Book → Operation → Option Record
kept_of book (Query question) = None
kept_of book (Edit (Put verb name key)) = Some (Bound verb book.salt name (bound_key key))
kept_of book (Edit (Turn epoch nonce)) = Some (Turned epoch nonce)

-- what a record was kept of; a start is kept of no command
abbrev pub kept_edit : Record → Option Revision
kept_edit (Start epoch nonce signing_key vuf_key) = None
kept_edit (Bound verb salt name key) = Some (Put verb name (asked_key key))
kept_edit (Turned epoch nonce) = Some (Turn epoch nonce)
