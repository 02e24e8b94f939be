-- What a step that answers is, command by command, and when a step refuses.
use Rattle.std.proofs.Common.{◌≡◌, List, ℕ, [], ◌∷◌, ◌++◌, Bool, false, Option, Some, None, not, refl, sym, ap, ◌∙◌}
use Rattle.std.specs.Prelude.{is_none, is_some}
use Rattle.book.specs.declared.directory_refusal.Refusal.{Refusal}
use Rattle.book.specs.declared.directory_refusal.Refusal.TheVariants.{BadName, BadKey, FinalBinding, PendingExists, NoSuchEpoch, NoPromise}
use Rattle.book.specs.Steps.{Answer, Promised, Found, Told, Last, bad_index, bad_policy, bad_verb, final_tests, first, is_final_binding, has_length_within, next_page, refusal, page_range, with_page, with_pending, Outcome, Answers, Refuses, done, found_in, promise_outcome, read, step, unless_refused}
use Rattle.commands.specs.declared.edit.Verb.{Verb}
use Rattle.commands.specs.declared.edit.Verb.TheVariants.{Register, Change}
use Rattle.commands.specs.Operations.{bound_key, AskedKey, Operation, Question, Query, Edit, Put, Turn, Promise, Lookup, History, Head}
use Rattle.book.specs.Books.{Binding, Book, Page, page_at}
use Rattle.encoding.specs.Maps.{at}
use Rattle.book.proofs.Turning.{passed, two-passed}

-- what a book that does not refuse answers, and the book after it
abbrev pub Does : Book → Operation → Answer → Book → Type 0
Does book (Query question) answer after = (read book question ≡ Answers answer) × (after ≡ book)
Does book (Edit (Put verb name key)) answer after = (answer ≡ Promised name (record { key = bound_key key; salt = book.salt })) × (after ≡ with_pending book name (bound_key key))
Does book (Edit (Turn epoch nonce)) answer after = (answer ≡ Last (next_page book epoch nonce)) × (after ≡ with_page book (next_page book epoch nonce))

-- what a query finds
abbrev pub Finds : Book → Question → Answer → Type 0
Finds book (Promise name) answer = (binding : Binding) × (at book.pending name ≡ Some binding) × (answer ≡ Promised name binding)
Finds book (Lookup name epoch) answer = (page : Page) × (page_at book epoch ≡ Some page) × (answer ≡ Found page name (at page.bindings name))
Finds book (History from count) answer = answer ≡ Told (page_range book from count)
Finds book Head answer = answer ≡ Last book.last

abbrev made : Outcome → Book → Outcome × Book
made outcome book = (outcome, book)

-- ---- what is done

both_same : (a b : Answer) (p q : Book) → a ≡ b → q ≡ p → made (Answers b) p ≡ made (Answers a) q
both_same a b p q e f = ap (λ (x : Answer). made (Answers x) p) (sym e) ∙ ap (made (Answers a)) (sym f)

same_both : (a b : Answer) (p q : Book) → made (Answers b) p ≡ made (Answers a) q → (a ≡ b) × (q ≡ p)
same_both a b p q e = (by (ap (λ (x : Outcome × Book). x.0) e), sym (ap (λ (x : Outcome × Book). x.1) e))
  where
    by : Answers b ≡ Answers a → a ≡ b
    by f = cc

never : (why : Refusal) (answer : Answer) (p q : Book) → made (Refuses why) p ≡ made (Answers answer) q → ⊥
never why answer p q e = by (ap (λ (x : Outcome × Book). x.0) e)
  where
    by : Refuses why ≡ Answers answer → ⊥
    by f = absurd cc

does_done : (book : Book) (asked : Operation) (answer : Answer) (after : Book) → Does book asked answer after → done book asked ≡ (Answers answer, after)
does_done book (Query question) answer after does = ap (λ (outcome : Outcome). made outcome book) does.0 ∙ ap (made (Answers answer)) (sym does.1)
does_done book (Edit (Put verb name key)) answer after does = both_same answer _ _ after does.0 does.1
does_done book (Edit (Turn epoch _)) answer after does = both_same answer _ _ after does.0 does.1

done_does : (book : Book) (asked : Operation) (answer : Answer) (after : Book) → done book asked ≡ (Answers answer, after) → Does book asked answer after
done_does book (Query question) answer after e = (ap (λ (x : Outcome × Book). x.0) e, sym (ap (λ (x : Outcome × Book). x.1) e))
done_does book (Edit (Put verb name key)) answer after e = same_both answer _ _ after e
done_does book (Edit (Turn epoch _)) answer after e = same_both answer _ _ after e

answers_same : (a b : Answer) → Answers b ≡ Answers a → a ≡ b
answers_same a b e = cc

pub finds : (book : Book) (question : Question) (answer : Answer) → read book question ≡ Answers answer → Finds book question answer
finds book (Promise name) answer e = by (at book.pending name) refl e
  where
    by : (found : Option Binding) → at book.pending name ≡ found → promise_outcome name found ≡ Answers answer → Finds book (Promise name) answer
    by None is f = absurd cc
    by (Some binding) is f = (binding, is, answers_same answer (Promised name binding) f)
finds book (Lookup name epoch) answer e = by (page_at book epoch) refl e
  where
    by : (found : Option Page) → page_at book epoch ≡ found → found_in name found ≡ Answers answer → Finds book (Lookup name epoch) answer
    by None is f = absurd cc
    by (Some page) is f = (page, is, answers_same answer (Found page name (at page.bindings name)) f)
finds book (History from count) answer e = answers_same answer (Told (page_range book from count)) e
finds book Head answer e = answers_same answer (Last book.last) e

-- ---- what is refused

there : {X : Type 0} (found : Option X) → is_none found ≡ false → (x : X) × (found ≡ Some x)
there None e = absurd cc
there (Some x) e = (x, refl)

past_final : (verb : Verb) (found : Option Binding) (waits : Bool × Refusal) (last : List (Bool × Refusal)) → (bad_verb verb found).0 ≡ false → first ((final_tests verb found ++ waits ∷ []) ++ last) ≡ None
    → (is_final_binding found ≡ false) × (first (waits ∷ last) ≡ None)
past_final Register None waits last page e = (refl, e)
past_final Register (Some binding) waits last page e = absurd cc
past_final Change found waits last page e = passed (is_final_binding found, FinalBinding) (waits ∷ last) e

module _ (index_of : List ℕ → List ℕ) where
  -- where nothing refuses, the step is what is done
  pub none_steps : (book : Book) (asked : Operation) → refusal index_of book asked ≡ None → step index_of book asked ≡ done book asked
  none_steps book asked none = ap (λ (due : Option Refusal). unless_refused due book asked) none

  pub does_steps : (book : Book) (asked : Operation) (answer : Answer) (after : Book) → refusal index_of book asked ≡ None → Does book asked answer after → step index_of book asked ≡ (Answers answer, after)
  does_steps book asked answer after none does = none_steps book asked none ∙ does_done book asked answer after does

  pub due_steps : (book : Book) (asked : Operation) (why : Refusal) → refusal index_of book asked ≡ Some why → step index_of book asked ≡ (Refuses why, book)
  due_steps book asked why due = ap (λ (first : Option Refusal). unless_refused first book asked) due

  pub record IsDone (book : Book) (asked : Operation) (answer : Answer) (after : Book) : Type 0 where
    pub none : refusal index_of book asked ≡ None
    pub does : Does book asked answer after

  pub stepped : (book : Book) (asked : Operation) (answer : Answer) (after : Book) → step index_of book asked ≡ (Answers answer, after) → IsDone book asked answer after
  stepped book asked answer after e = by (refusal index_of book asked) refl e
    where
      by : (due : Option Refusal) → refusal index_of book asked ≡ due → unless_refused due book asked ≡ (Answers answer, after) → IsDone book asked answer after
      by None is f = record { none = is; does = done_does book asked answer after f }
      by (Some why) is f = absurd (never why answer book after f)

  -- what a put that is not refused has passed
  pub record HasPassed (book : Book) (verb : Verb) (name : List ℕ) (key : AskedKey) : Type 0 where
    pub named : not (has_length_within 1 255 name) ≡ false
    pub keyed : not (has_length_within 1 2048 key.0) ≡ false
    pub policy : (bad_policy key.1).0 ≡ false
    pub page : (bad_verb verb (at book.last.bindings name)).0 ≡ false
    pub changeable : is_final_binding (at book.last.bindings name) ≡ false
    pub pending : is_some (at book.pending name) ≡ false
    pub index : (bad_index index_of verb book name).0 ≡ false

  pub put_passed : (book : Book) (verb : Verb) (name : List ℕ) (key : AskedKey) → refusal index_of book (Edit (Put verb name key)) ≡ None → HasPassed book verb name key
  put_passed book verb name key none =
      let last = bad_index index_of verb book name ∷ [] in
      let waits : Bool × Refusal = (is_some (at book.pending name), PendingExists) in
      let shown = (final_tests verb (at book.last.bindings name) ++ waits ∷ []) ++ last in
      let one = two-passed (not (has_length_within 1 255 name)) (not (has_length_within 1 2048 key.0)) BadName BadKey (bad_policy key.1 ∷ bad_verb verb (at book.last.bindings name) ∷ shown) none in
      let two = passed (bad_policy key.1) (bad_verb verb (at book.last.bindings name) ∷ shown) one.2 in
      let three = passed (bad_verb verb (at book.last.bindings name)) shown two.1 in
      let behind = past_final verb (at book.last.bindings name) waits last three.0 three.1 in
      let four = passed waits last behind.1 in
      record { named = one.0; keyed = one.1; policy = two.0; page = three.0; changeable = behind.0; pending = four.0; index = (passed (bad_index index_of verb book name) [] four.1).0 }

  -- what is not refused is answered
  pub answer_of : (book : Book) (asked : Operation) → refusal index_of book asked ≡ None → (answer : Answer) × ((done book asked).0 ≡ Answers answer)
  answer_of book (Query (Promise name)) none =
      let t = there (at book.pending name) (two-passed (not (has_length_within 1 255 name)) (is_none (at book.pending name)) BadName NoPromise [] none).1 in
      (Promised name t.0, ap (promise_outcome name) t.1)
  answer_of book (Query (Lookup name epoch)) none =
      let t = there (page_at book epoch) (two-passed (not (has_length_within 1 255 name)) (is_none (page_at book epoch)) BadName NoSuchEpoch [] none).1 in
      (Found t.0 name (at (t.0).bindings name), ap (found_in name) t.1)
  answer_of book (Query (History from count)) none = (Told (page_range book from count), refl)
  answer_of book (Query Head) none = (Last book.last, refl)
  answer_of book (Edit (Put verb name key)) none = (Promised name (record { key = bound_key key; salt = book.salt }), refl)
  answer_of book (Edit (Turn epoch nonce)) none = (Last (next_page book epoch nonce), refl)

  pub refused_due : (book : Book) (asked : Operation) (why : Refusal) → (step index_of book asked).0 ≡ Refuses why → refusal index_of book asked ≡ Some why
  refused_due book asked why e = by (refusal index_of book asked) refl e
    where
      by : (due : Option Refusal) → refusal index_of book asked ≡ due → (unless_refused due book asked).0 ≡ Refuses why → refusal index_of book asked ≡ Some why
      by None is f = let a = answer_of book asked is in let g : Answers a.0 ≡ Refuses why = sym a.1 ∙ f in absurd cc
      by (Some due) is f = let g : due ≡ why = cc in is ∙ ap (λ (x : Refusal). Some x) g
