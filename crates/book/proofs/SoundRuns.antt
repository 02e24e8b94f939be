-- A sound book stays sound along a run, where each salt to come has 32 bytes.
use Rattle.std.proofs.Common.{◌≡◌, ℕ, suc, List, [], Bool, true, false, Option, Some, None, All, IsSome, refl, sym, ap, subst, inl, inr, ◌⊎◌, ◌∙◌}
use Rattle.std.specs.Prelude.{is_some, nat_le}
use Rattle.std.specs.BTreeMap.{is_at}
use Rattle.encoding.specs.declared.bound_key.BoundKey.{BoundKey}
use Rattle.encoding.specs.Bytes.{bytes_cmp}
use Rattle.book.specs.declared.directory_refusal.Refusal.TheVariants.{EpochNotLater}
use Rattle.book.specs.declared.record.Record.{Record}
use Rattle.book.specs.declared.reply.Reply.{Reply}
use Rattle.book.specs.Steps.{Answer, refusal, with_pending}
use Rattle.commands.specs.Operations.{bound_key, Operation, IsCommand, Query, Edit, Put, Turn}
use Rattle.book.specs.Books.{Binding, Book}
use Rattle.encoding.specs.Maps.{Map, at, put_at}
use Rattle.book.specs.Salts.{GivesSalts}
use Rattle.book.specs.Shows.{Provider, index_of}
use Rattle.book.specs.Sound.{HoldsName, IsSound}
use Rattle.book.specs.Turns.{Run}
use Rattle.book.proofs.Begun.{begins-apart}
use Rattle.book.proofs.Carried.{carried}
use Rattle.book.proofs.Distinct.{HasName, IsApart, apart-after}
use Rattle.book.proofs.Entries.{at_put_other, at_put_same, is_name, is_no_name}
use Rattle.book.proofs.Soundness.{sound_page, sound_pending}
use Rattle.book.proofs.Stepping.{Does, put_passed}
use Rattle.book.proofs.Turning.{above-last, is-key, is-name, passed}

some-named : (map : Map Binding) (name : List ℕ) → IsSome (at map name) → HasName map name
some-named map name some = by (at map name) refl some
  where
    by : (found : Option Binding) → at map name ≡ found → IsSome found → HasName map name
    by None is has = absurd cc
    by (Some binding) is has = (binding, is)

module _ (provider : Provider) where
  pub record StaysSound (book : Book) : Type 0 where
    pub sound : IsSound (index_of provider) book
    pub salts : GivesSalts book.left

  -- where a put leaves each name that is held with an index of its own, no other has the index of the one that was put
  free : (book : Book) (name : List ℕ) (key : BoundKey) → IsApart provider (with_pending book name key) → (other : List ℕ) → HoldsName book other → index_of provider other ≡ index_of provider name → other ≡ name
  free book name key apart other holds same = apart.now other name (held holds) (inr (binding, at_put_same name binding book.pending)) same
    where
      binding : Binding
      binding = record { key = key; salt = book.salt }

      waits : IsSome (at book.pending other) → (t : Bool) → is_at (bytes_cmp name) other ≡ t → HasName (put_at book.pending name binding) other
      waits some true is = (binding, ap (at (put_at book.pending name binding)) (is_name name other is) ∙ at_put_same name binding book.pending)
      waits some false is = some-named (put_at book.pending name binding) other (ap is_some (at_put_other name binding book.pending other (is_no_name name other is)) ∙ some)

      held : HoldsName book other → HasName book.last.bindings other ⊎ HasName (put_at book.pending name binding) other
      held (inl last) = inl (some-named book.last.bindings other last)
      held (inr some) = inr (waits some (is_at (bytes_cmp name) other) refl)

  sound-after : (book after : Book) (asked : Operation) (answer : Answer) → IsCommand asked → StaysSound book → refusal (index_of provider) book asked ≡ None → Does book asked answer after → StaysSound after
  sound-after book after (Query question) answer are stays none does = subst StaysSound (sym does.1) stays
  sound-after book after (Edit (Put verb name key)) answer are stays none does =
      let has = put_passed (index_of provider) book verb name key none in
      let apart = apart-after provider book (with_pending book name (bound_key key)) (Edit (Put verb name key)) answer (begins-apart provider book stays.sound) none (does.0, refl) in
      subst StaysSound (sym does.1) (record {
        sound = sound_pending (index_of provider) book name (bound_key key) stays.sound (is-name name has.named are.0) (is-key key.0 has.keyed are.1) (stays.salts 0) has.changeable
            (free book name (bound_key key) apart);
        salts = λ count. stays.salts (suc count);
      })
  sound-after book after (Edit (Turn epoch nonce)) answer are stays none does =
      let one = passed (nat_le epoch book.last.epoch, EpochNotLater) [] none in
      subst StaysSound (sym does.1) (record {
        sound = sound_page (index_of provider) book epoch nonce stays.sound (above-last epoch book.last.epoch one.0) are.0 are.1;
        salts = stays.salts;
      })

  pub run-sound : {K : Type 0} (kept failed : K → Record → K → Type 0) (commands : List Operation) (replies : List Reply) (book after : Book) (before later : K)
      → IsSound (index_of provider) book → GivesSalts book.left → All IsCommand commands → Run provider kept failed book before commands replies after later → StaysSound after
  run-sound kept failed commands replies book after before later sound salts are run =
      carried provider kept failed StaysSound commands replies book after before later
      (λ asked there each next answer stays none does. sound-after each next asked answer (subst IsCommand there.2 (are there.0 asked there.1)) stays none does)
      (record { sound = sound; salts = salts }) run

  -- the book after a run is sound: it is known, or each salt to come has its size
  pub sound-end : {K : Type 0} (kept failed : K → Record → K → Type 0) (commands : List Operation) (replies : List Reply) (book after : Book) (before later : K)
      → IsSound (index_of provider) book → GivesSalts book.left ⊎ IsSound (index_of provider) after → All IsCommand commands → Run provider kept failed book before commands replies after later
      → IsSound (index_of provider) after
  sound-end kept failed commands replies book after before later sound (inl salts) are run = (run-sound kept failed commands replies book after before later sound salts are run).sound
  sound-end kept failed commands replies book after before later sound (inr known) are run = known
