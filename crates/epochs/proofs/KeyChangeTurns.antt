-- A change of a key is a turn.
use Rattle.std.proofs.Common.{◌≡◌, ℕ, List, Option, None, Result, Ok, Err, MatchResult, refl, sym, ap, ◌∙◌, subst, inl, inr}
use Rattle.rootchain.specs.declared.signed_promise.SignedPromise.{SignedPromise}
use Rattle.commands.specs.declared.edit.Verb.TheVariants.{Change}
use Rattle.commands.specs.Operations.{bound_key, AskedKey, Edit, Put}
use Rattle.encoding.specs.declared.bound_key.BoundKey.{BoundKey}
use Rattle.book.specs.declared.record.Record.{Record}
use Rattle.book.specs.declared.record.Record.TheVariants as record_of_a
use Rattle.book.specs.declared.directory_refusal.Refusal.{Refusal}
use Rattle.book.specs.declared.reply.Reply.TheVariants as reply
use Rattle.book.specs.Steps.{refusal, with_pending, Promised}
use Rattle.book.specs.Books.{Book}
use Rattle.book.specs.Replays.{put_refusal}
use Rattle.book.specs.Shows.{Provider, index_of}
use Rattle.book.specs.Turns.{Shows, Turn}
use Rattle.book.proofs.Calls.{refuses}
use Rattle.epochs.specs.KeyChanges.{IsRefusedSo}
use Rattle.epochs.specs.Replied.{promised}
use Rattle.epochs.proofs.Turned.{put_turn}

module _ (provider : Provider) {K : Type 0} (kept failed : K → Record → K → Type 0) (book : Book) (keeper : K) (name : List ℕ) (key : AskedKey) (the_name : List ℕ) (the_key : BoundKey) (the_salt : List ℕ)
    (same_name : the_name ≡ name) (same_key : the_key ≡ bound_key key) (same_salt : the_salt ≡ book.salt) where
  abbrev due : List ℕ → Option Refusal
  due of = put_refusal (index_of provider) book Change of

  -- a name and a key that are allowed, which the book may refuse
  pub change_turn : (r : Result SignedPromise Refusal) (after : Book) (keeper_after : K)
      → refusal (index_of provider) book (Edit (Put Change name key)) ≡ due name
      → MatchResult r
      (λ promise. (due the_name ≡ None) × kept keeper (record_of_a.Bound Change the_salt the_name the_key) keeper_after × (after ≡ with_pending book the_name the_key)
      × Shows provider after (Promised the_name (record { key = the_key; salt = book.salt })) (promised (Ok promise)))
      (λ why. (after ≡ book) × IsRefusedSo failed keeper (record_of_a.Bound Change the_salt the_name the_key) (due the_name) why keeper_after)
      → Turn provider kept failed book keeper (Edit (Put Change name key)) (promised r) after keeper_after
  change_turn (Ok promise) after keeper_after within (none, keeps, is, shows) =
      put_turn provider kept failed book keeper name key provider book the_name the_key the_salt refl refl same_name same_key same_salt (Ok promise) after keeper_after
      Change (within ∙ ap due (sym same_name) ∙ none) (keeps, is, shows)
  change_turn (Err why) after keeper_after within (same, inr (none, unkept)) =
      put_turn provider kept failed book keeper name key provider book the_name the_key the_salt refl refl same_name same_key same_salt (Err why) after keeper_after
      Change (within ∙ ap due (sym same_name) ∙ none) (same, unkept)
  change_turn (Err why) after keeper_after within (same, inl (is, stays)) =
      subst (λ (b : Book). Turn provider kept failed book keeper (Edit (Put Change name key)) (reply.Refused why) b keeper_after) (sym same)
      (subst (λ (k : K). Turn provider kept failed book keeper (Edit (Put Change name key)) (reply.Refused why) book k) (sym stays)
      (refuses provider kept failed book keeper (Edit (Put Change name key)) why (within ∙ ap due (sym same_name) ∙ is)))
