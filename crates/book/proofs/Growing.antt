-- What a close leaves, and how the pages grow along a run.
use Rattle.std.proofs.Common.{◌≡◌, ℕ, ◌<◌, List, [], ◌∷◌, ◌++◌, AllPairs, Option, None, sym, ap, subst, ◌∙◌}
use Rattle.std.specs.Prelude.{nat_le, unwrap_or}
use Rattle.std.proofs.lemmas.List.{append-nil, append_assoc}
use Rattle.book.specs.declared.record.Record.{Record}
use Rattle.book.specs.declared.directory_refusal.Refusal.TheVariants.{EpochNotLater}
use Rattle.book.specs.declared.reply.Reply.{Reply}
use Rattle.book.specs.Steps.{Answer, next_page, refusal, with_page, Answers, step}
use Rattle.commands.specs.Operations.{Operation, Query, Edit, Put, Turn}
use Rattle.book.specs.Books.{Book, Page, pages}
use Rattle.encoding.specs.Maps.{overwritten}
use Rattle.book.specs.Shows.{Provider, index_of}
use Rattle.book.specs.Turns.{Run}
use Rattle.book.proofs.Carried.{carried}
use Rattle.book.proofs.Soundness.{IsBefore, ascend-push}
use Rattle.book.proofs.Stepping.{Does, stepped}
use Rattle.book.proofs.Turning.{above-last, passed}

pub closing : (index_of : List ℕ → List ℕ) (book after : Book) (epoch : ℕ) (nonce : Option (List ℕ)) (answer : Answer) → step index_of book (Edit (Turn epoch nonce)) ≡ (Answers answer, after)
    → (after.last.epoch ≡ epoch) × (after.last.nonce ≡ unwrap_or nonce book.last.nonce) × (after.last.bindings ≡ overwritten book.last.bindings book.pending) × (after.earlier ≡ pages book) × (after.pending ≡ [])
closing index_of book after epoch nonce answer is =
    let e = (stepped index_of book (Edit (Turn epoch nonce)) answer after is).does.1 in
    (ap (λ (b : Book). b.last.epoch) e, ap (λ (b : Book). b.last.nonce) e, ap (λ (b : Book). b.last.bindings) e, ap (λ (b : Book). b.earlier) e, ap (λ (b : Book). b.pending) e)

module _ (first : Book) where
  -- the pages are those of the first book, followed by others, and they ascend
  pub record HasGrown (book : Book) : Type 0 where
    pub more : List Page
    pub is : pages book ≡ pages first ++ more
    pub ascend : AllPairs IsBefore (pages book)

  grown-page : (book : Book) (epoch : ℕ) (nonce : Option (List ℕ)) → HasGrown book → book.last.epoch < epoch → HasGrown (with_page book (next_page book epoch nonce))
  grown-page book epoch nonce grown above = record {
    more = grown.more ++ next_page book epoch nonce ∷ [];
    is = ap (λ (all : List Page). all ++ next_page book epoch nonce ∷ []) grown.is ∙ append_assoc (pages first) grown.more (next_page book epoch nonce ∷ []);
    ascend = ascend-push book.earlier book.last (next_page book epoch nonce) grown.ascend above;
  }

  same-pages : (book after : Book) → HasGrown book → pages after ≡ pages book → HasGrown after
  same-pages book after grown same = record { more = grown.more; is = same ∙ grown.is; ascend = subst (AllPairs IsBefore) (sym same) grown.ascend }

  grown-after : (index_of : List ℕ → List ℕ) (book after : Book) (asked : Operation) (answer : Answer) → HasGrown book → refusal index_of book asked ≡ None → Does book asked answer after → HasGrown after
  grown-after index_of book after (Query question) answer grown none does = same-pages book after grown (ap pages does.1)
  grown-after index_of book after (Edit (Put verb name key)) answer grown none does = same-pages book after grown (ap pages does.1)
  grown-after index_of book after (Edit (Turn epoch nonce)) answer grown none does =
      subst HasGrown (sym does.1) (grown-page book epoch nonce grown (above-last epoch book.last.epoch (passed (nat_le epoch book.last.epoch, EpochNotLater) [] none).0))

pub run-grows : (provider : Provider) {K : Type 0} (kept failed : K → Record → K → Type 0) (commands : List Operation) (replies : List Reply) (book after : Book) (before later : K)
    → AllPairs IsBefore (pages book) → Run provider kept failed book before commands replies after later → HasGrown book after
run-grows provider kept failed commands replies book after before later ascend run =
    carried provider kept failed (HasGrown book) commands replies book after before later
    (λ command there each next answer grown none does. grown-after book (index_of provider) each next command answer grown none does)
    (record { more = []; is = sym (append-nil (pages book)); ascend = ascend }) run
