-- From what a private call promises to a turn.
use Rattle.std.proofs.Common.{◌≡◌, List, ℕ, ◌∷◌, false, not, Option, Some, None, Result, Ok, Err, MatchResult, refl, sym, subst, inl, inr}
use Rattle.rootchain.specs.declared.signed_promise.SignedPromise.{SignedPromise}
use Rattle.rootchain.specs.declared.signed_root.SignedRoot.{SignedRoot}
use Rattle.encoding.specs.declared.bound_key.BoundKey.{BoundKey}
use Rattle.book.specs.declared.record.Record.{Record}
use Rattle.book.specs.declared.record.Record.TheVariants as record_of_a
use Rattle.book.specs.declared.directory_refusal.Refusal.{Refusal}
use Rattle.book.specs.declared.reply.Reply.{Reply}
use Rattle.book.specs.declared.reply.Reply.TheVariants as reply
use Rattle.book.specs.Steps.{Answer, bad_key, bad_policy, first, has_length_within, put_tests, refusal, with_pending, Promised, kept_of}
use Rattle.commands.specs.declared.edit.Verb.{Verb}
use Rattle.commands.specs.Operations.{bound_key, AskedKey, Operation, Edit, Put}
use Rattle.book.specs.Books.{Book}
use Rattle.book.specs.Replays.{put_refusal}
use Rattle.book.specs.Shows.{Provider, index_of}
use Rattle.book.specs.Turns.{IsUnkept, KeepsOne, Shows, Turn}
use Rattle.book.proofs.Calls.{answers, fails, wants}
use Rattle.book.proofs.Stepping.{Does}
use Rattle.epochs.specs.Replied.{last, promised}

module _ (provider : Provider) {K : Type 0} (kept failed : K → Record → K → Type 0) (book done : Book) (keeper : K) (asked : Operation) (answer : Answer) (what : Record)
    (none : refusal (index_of provider) book asked ≡ None) (does : Does book asked answer done) (recorded : kept_of book asked ≡ Some what) where
  -- a command that is not kept
  unkept_turn : (why : Refusal) (after : Book) (keeper_after : K) → after ≡ book → IsUnkept failed keeper what why keeper_after → Turn provider kept failed book keeper asked (reply.Refused why) after keeper_after
  unkept_turn why after keeper_after same unkept = subst (λ (b : Book). Turn provider kept failed book keeper asked (reply.Refused why) b keeper_after) (sym same) (by unkept)
    where
      by : IsUnkept failed keeper what why keeper_after → Turn provider kept failed book keeper asked (reply.Refused why) book keeper_after
      by (inl (is, stays)) =
          subst (λ (k : K). Turn provider kept failed book keeper asked (reply.Refused why) book k) (sym stays)
          (subst (λ (w : Refusal). Turn provider kept failed book keeper asked (reply.Refused w) book keeper) (sym is) (wants provider kept failed book done asked answer none does keeper what recorded))
      by (inr (is, failing)) =
          subst (λ (w : Refusal). Turn provider kept failed book keeper asked (reply.Refused w) book keeper_after) (sym is) (fails provider kept failed book done asked answer none does keeper keeper_after what recorded failing)

  -- one that is
  kept_turn : (said : Reply) (after : Book) (keeper_after : K) → kept keeper what keeper_after → after ≡ done → Shows provider after answer said → Turn provider kept failed book keeper asked said after keeper_after
  kept_turn said after keeper_after keeps is shows =
      subst (λ (b : Book). Turn provider kept failed book keeper asked said b keeper_after) (sym is)
      (answers provider kept failed book done asked answer none does keeper keeper_after said
      (subst (λ (w : Option Record). KeepsOne provider kept failed keeper w keeper_after) (sym recorded) keeps)
      (subst (λ (b : Book). Shows provider b answer said) is shows))

  pub promised_turn : (r : Result SignedPromise Refusal) (after : Book) (keeper_after : K)
      → MatchResult r (λ promise. kept keeper what keeper_after × (after ≡ done) × Shows provider after answer (promised (Ok promise))) (λ why. (after ≡ book) × IsUnkept failed keeper what why keeper_after)
      → Turn provider kept failed book keeper asked (promised r) after keeper_after
  promised_turn (Ok promise) after keeper_after (keeps, is, shows) = kept_turn (reply.Promised promise) after keeper_after keeps is shows
  promised_turn (Err why) after keeper_after (same, unkept) = unkept_turn why after keeper_after same unkept

  pub last_turn : (r : Result SignedRoot Refusal) (after : Book) (keeper_after : K)
      → MatchResult r (λ root. kept keeper what keeper_after × (after ≡ done) × Shows provider after answer (last (Ok root))) (λ why. (after ≡ book) × IsUnkept failed keeper what why keeper_after)
      → Turn provider kept failed book keeper asked (last r) after keeper_after
  last_turn (Ok root) after keeper_after (keeps, is, shows) = kept_turn (reply.Last root) after keeper_after keeps is shows
  last_turn (Err why) after keeper_after (same, unkept) = unkept_turn why after keeper_after same unkept

-- ---- a name that begins to wait

-- what a book has against a name and a key that are allowed
pub put_within : (index_of : List ℕ → List ℕ) (book : Book) (verb : Verb) (name : List ℕ) (key : AskedKey) → not (has_length_within 1 255 name) ≡ false
    → first (bad_key key.0 ∷ bad_policy key.1 ∷ put_tests index_of book verb name) ≡ first (put_tests index_of book verb name)
    → refusal index_of book (Edit (Put verb name key)) ≡ put_refusal index_of book verb name
put_within index_of book verb name key named passes = rw named passes

-- a key that is not allowed
pub key_refused : (index_of : List ℕ → List ℕ) (book : Book) (verb : Verb) (name : List ℕ) (key : AskedKey) (why : Refusal) → not (has_length_within 1 255 name) ≡ false
    → first (bad_key key.0 ∷ bad_policy key.1 ∷ put_tests index_of book verb name) ≡ Some why → refusal index_of book (Edit (Put verb name key)) ≡ Some why
key_refused index_of book verb name key why named is = rw named is

record Handed : Type 0 where
  pub by : Provider
  pub book : Book
  pub name : List ℕ
  pub key : BoundKey
  pub what : Record

module _ (provider : Provider) {K : Type 0} (kept failed : K → Record → K → Type 0) (book : Book) (keeper : K) (name : List ℕ) (key : AskedKey) where
  -- what a call makes known of those that it was handed
  abbrev Made : Handed → Result SignedPromise Refusal → Book → K → Type 0
  Made handed r after keeper_after =
      MatchResult r
      (λ promise. kept keeper handed.what keeper_after × (after ≡ with_pending handed.book handed.name handed.key)
      × Shows handed.by after (Promised handed.name (record { key = handed.key; salt = handed.book.salt })) (promised (Ok promise)))
      (λ why. (after ≡ handed.book) × IsUnkept failed keeper handed.what why keeper_after)

  module _ (by : Provider) (middle : Book) (the_name : List ℕ) (the_key : BoundKey) (the_salt : List ℕ) (same_by : by ≡ provider) (same_book : middle ≡ book) (same_name : the_name ≡ name) (same_key : the_key ≡ bound_key key) (same_salt : the_salt ≡ book.salt)
      (r : Result SignedPromise Refusal) (after : Book) (keeper_after : K) where
    pub put_turn : (verb : Verb) → refusal (index_of provider) book (Edit (Put verb name key)) ≡ None
        → Made (record { by = by; book = middle; name = the_name; key = the_key; what = record_of_a.Bound verb the_salt the_name the_key }) r after keeper_after
        → Turn provider kept failed book keeper (Edit (Put verb name key)) (promised r) after keeper_after
    put_turn verb none made =
        promised_turn provider kept failed book (with_pending book name (bound_key key)) keeper (Edit (Put verb name key)) (Promised name (record { key = bound_key key; salt = book.salt })) (record_of_a.Bound verb book.salt name (bound_key key))
        none (refl, refl) refl r after keeper_after (subst (λ (handed : Handed). Made handed r after keeper_after) all made)
      where
        all : ◌≡◌ {A = Handed} (record { by = by; book = middle; name = the_name; key = the_key; what = record_of_a.Bound verb the_salt the_name the_key })
            (record { by = provider; book = book; name = name; key = bound_key key; what = record_of_a.Bound verb book.salt name (bound_key key) })
        all = λ i. record { by = same_by i; book = same_book i; name = same_name i; key = same_key i; what = record_of_a.Bound verb (same_salt i) (same_name i) (same_key i) }
