-- A record of a binding that is carried out once more: its command asks for the very key, and is refused as the name is.
use Rattle.std.proofs.Common.{◌≡◌, ℕ, List, false, not, length, Option, Some, None, Result, Ok, Err, MatchResult, inl, inr, refl, sym, ap, subst, ◌∙◌}
use Rattle.std.specs.Prelude.{option_map}
use Rattle.std.proofs.lemmas.Bool.{le-leb}
use Rattle.rand_core.specs.Stream.{Stream}
use Rattle.encoding.specs.Limits.{IsKeyData, IsName}
use Rattle.encoding.specs.declared.bound_key.BoundKey.{BoundKey}
use Rattle.commands.specs.declared.edit.Verb.{Verb}
use Rattle.commands.specs.declared.edit.Verb.TheVariants.{Register, Change}
use Rattle.commands.specs.Operations.{asked_key, Edit, Put}
use Rattle.book.specs.Books.{Book}
use Rattle.book.specs.declared.directory_refusal.Refusal.{Refusal}
use Rattle.book.specs.declared.directory_refusal.Refusal.TheVariants.{Memory}
use Rattle.book.specs.declared.keeper.NoKeeper.{NoKeeper}
use Rattle.book.specs.declared.record.Record.{Record}
use Rattle.book.specs.declared.record.Record.TheVariants.{Bound}
use Rattle.book.specs.Keeps.{KeepsNothing, NeverFails}
use Rattle.book.specs.Replays.{after_answer, put_refusal, replay_refusal, replayed, with_bound, with_salt_of, with_salts_of, IsUnreplayed}
use Rattle.book.specs.Steps.{has_length_within, unless_refused}
use Rattle.book.specs.Turns.{IsUnkept}
use Rattle.book.proofs.Keys.{bound_again, policy_passes}
use Rattle.epochs.specs.DirectoryStates.{book as book_as, DirectoryState}
use Rattle.epochs.specs.KeyChanges.{IsRefusedSo}
use Rattle.epochs.specs.Replayed.{Replays}
use Rattle.epochs.proofs.Reading.{name-passes}
use Rattle.epochs.proofs.Turned.{put_within}

key-passes : (value : List ℕ) → IsKeyData value → not (has_length_within 1 2048 value) ≡ false
key-passes value is = rw (le-leb 1 (length value) is.0, le-leb (length value) 2048 is.1) refl

module _ (index_of : List ℕ → List ℕ) (book : Book) (verb : Verb) (salt name : List ℕ) (key : BoundKey) (named : IsName name) (keyed : IsKeyData key.value) where
  abbrev salted : Book
  salted = with_salt_of (Bound verb salt name key) book

  -- no test of a name looks at the salt
  salted-same : (v : Verb) → put_refusal index_of salted v name ≡ put_refusal index_of book v name
  salted-same Register = refl
  salted-same Change = refl

  -- the name and the key pass their tests
  pub due-is : replay_refusal index_of book (Bound verb salt name key) ≡ put_refusal index_of book verb name
  due-is =
      put_within index_of salted verb name (asked_key key) (name-passes name named)
      (rw (key-passes key.value keyed, policy_passes key) refl)
      ∙ salted-same verb

  pub replays-it : put_refusal index_of book verb name ≡ None → (after : Book) → after ≡ with_bound book name (record { key = key; salt = salt }) → replayed index_of book (Bound verb salt name key) ≡ Some after
  replays-it none after is =
      let R : Option Refusal → Option Book = λ due. option_map (with_salts_of book) (after_answer (unless_refused due salted (Edit (Put verb name (asked_key key))))) in
      ap R (due-is ∙ none) ∙ ap (λ (k : BoundKey). Some (with_bound book name (record { key = k; salt = salt }))) (bound_again key) ∙ ap (λ (b : Book). Some b) (sym is)

  pub refuses-it : (why : Refusal) → put_refusal index_of book verb name ≡ Some why → IsUnreplayed index_of book (Bound verb salt name key) why
  refuses-it why due = inl (due-is ∙ due)

  pub wants-it : put_refusal index_of book verb name ≡ None → (why : Refusal) → why ≡ Memory → IsUnreplayed index_of book (Bound verb salt name key) why
  wants-it none why is = inr (is, due-is ∙ none)

-- ---- the calls that carry it out

module _ {R : Type 0} (stream : R → Stream) (index_of : List ℕ → List ℕ) (before after : DirectoryState R) (verb : Verb) (salt name : List ℕ) (key : BoundKey) (named : IsName name) (keyed : IsKeyData key.value) where
  abbrev the_book : Book
  the_book = book_as stream before

  -- it is refused
  pub refused-again : (why : Refusal) → put_refusal index_of the_book verb name ≡ Some why → book_as stream after ≡ the_book → Replays stream index_of before (Bound verb salt name key) (Err why) after
  refused-again why due same = (same, refuses-it index_of the_book verb salt name key named keyed why due)

  module _ (keeper later : NoKeeper) (what : Record) where
    -- it is not kept
    unkept-again : (why : Refusal) → put_refusal index_of the_book verb name ≡ None → book_as stream after ≡ the_book → IsUnkept NeverFails keeper what why later → Replays stream index_of before (Bound verb salt name key) (Err why) after
    unkept-again why none same (inl (is, stays)) = (same, wants-it index_of the_book verb salt name key named keyed none why is)
    unkept-again why none same (inr (is, never)) = absurd never

    pub unchanged-again : (why : Refusal) → book_as stream after ≡ the_book → IsRefusedSo NeverFails keeper what (put_refusal index_of the_book verb name) why later → Replays stream index_of before (Bound verb salt name key) (Err why) after
    unchanged-again why same (inl (due, stays)) = refused-again why due same
    unchanged-again why same (inr (none, unkept)) = unkept-again why none same unkept

    -- what a binding makes known of the book that it was handed
    abbrev MadeOf : Book → Result (Unit {0}) Refusal → Type 0
    MadeOf middle made =
        MatchResult made (λ _. KeepsNothing keeper what later × (book_as stream after ≡ with_bound middle name (record { key = key; salt = salt })))
        (λ why. (book_as stream after ≡ middle) × IsUnkept NeverFails keeper what why later)

    kept-by : (made : Result (Unit {0}) Refusal) → put_refusal index_of the_book verb name ≡ None → MadeOf the_book made → Replays stream index_of before (Bound verb salt name key) made after
    kept-by (Ok done) none (keeps, is) = replays-it index_of the_book verb salt name key named keyed none (book_as stream after) is
    kept-by (Err why) none (same, unkept) = unkept-again why none same unkept

    pub kept-again : (made : Result (Unit {0}) Refusal) (middle : Book) → middle ≡ the_book → put_refusal index_of the_book verb name ≡ None → MadeOf middle made → Replays stream index_of before (Bound verb salt name key) made after
    kept-again made middle is none so = kept-by made none (subst (λ (b : Book). MadeOf b made) is so)
