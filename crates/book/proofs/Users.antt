-- Where the indices of all names that are asked about differ, no page has another name with the index of one of them.
use Rattle.std.proofs.Common.{◌≡◌, ℕ, List, [], ◌∷◌, Option, Contains, refl, sym, subst, inl, inr}
use Rattle.std.specs.Bool.{⊤}
use Rattle.std.specs.List.{AllByRecursion}
use Rattle.std.proofs.lemmas.List.Elements.{All-contains, All-from_recursion}
use Rattle.rootchain.specs.declared.signed_root.SignedRoot.{SignedRoot}
use Rattle.book.specs.declared.record.Record.{Record}
use Rattle.book.specs.declared.reply.Reply.{Reply}
use Rattle.book.specs.Steps.{Answer, with_pending, next_page, with_page}
use Rattle.commands.specs.Operations.{bound_key, Operation, Query, Edit, Put, Turn}
use Rattle.book.specs.Books.{Binding, Book, Page, pages}
use Rattle.book.specs.Honest.{IsAbout, IsMentioned, IsSaid, UsersDiffer}
use Rattle.encoding.specs.declared.bound_key.BoundKey.{BoundKey}
use Rattle.encoding.specs.Maps.{Map}
use Rattle.book.specs.Shows.{index_of, Provider, IsRootOf}
use Rattle.book.specs.Turns.{Run}
use Rattle.book.proofs.Carried.{carried}
use Rattle.book.proofs.Entries.{all_overwritten, all_put}
use Rattle.book.proofs.Members.{first-there, later-there}
use Rattle.book.proofs.Sealing.{sealed-page}
use Rattle.book.proofs.Stepping.{Does}
use Rattle.book.proofs.Turning.{all-push, the-last}

-- names of which something holds
abbrev pub AreNamed : (List ℕ → Type 0) → Map Binding → Type 0
AreNamed P = AllByRecursion (λ entry. P entry.0 × ⊤)

pub record IsNamed (P : List ℕ → Type 0) (book : Book) : Type 0 where
  pub pages : AllByRecursion (λ page. AreNamed P page.bindings) (pages book)
  pub pending : AreNamed P book.pending

module _ (P : List ℕ → Type 0) where
  named-pending : (book : Book) (name : List ℕ) (key : BoundKey) → IsNamed P book → P name → IsNamed P (with_pending book name key)
  named-pending book name key named here = record { pages = named.pages; pending = all_put name (record { key = key; salt = book.salt }) P (λ binding. ⊤) book.pending here tt named.pending }

  named-page : (book : Book) (epoch : ℕ) (nonce : Option (List ℕ)) → IsNamed P book → IsNamed P (with_page book (next_page book epoch nonce))
  named-page book epoch nonce named = record {
    pages = all-push (λ page. AreNamed P page.bindings) (pages book) (next_page book epoch nonce) named.pages
        (all_overwritten P (λ binding. ⊤) book.pending book.last.bindings named.pending (the-last (λ page. AreNamed P page.bindings) book.earlier book.last named.pages));
    pending = tt;
  }

  named-after : (book after : Book) (asked : Operation) (answer : Answer) → IsNamed P book → ((name : List ℕ) → IsAbout asked name → P name) → Does book asked answer after → IsNamed P after
  named-after book after (Query question) answer named about does = subst (IsNamed P) (sym does.1) named
  named-after book after (Edit (Put verb name key)) answer named about does = subst (IsNamed P) (sym does.1) (named-pending book name (bound_key key) named (about name refl))
  named-after book after (Edit (Turn epoch nonce)) answer named about does = subst (IsNamed P) (sym does.1) (named-page book epoch nonce named)

pub said-asked : (commands : List Operation) (replies : List Reply) (asked : Operation) (said : Reply) → IsSaid commands replies asked said → Contains commands asked
said-asked [] replies asked said is = absurd is
said-asked (command ∷ commands) [] asked said is = absurd is
said-asked (command ∷ commands) (answer ∷ replies) asked said (inl here) = subst (Contains (command ∷ commands)) here.0 (first-there command commands)
said-asked (command ∷ commands) (answer ∷ replies) asked said (inr later) = later-there command commands asked (said-asked commands replies asked said later)

module _ (provider : Provider) where
  pub users-apart : {K : Type 0} (kept failed : K → Record → K → Type 0) (book after : Book) (before later : K) (commands : List Operation) (replies : List Reply)
      → IsNamed (IsMentioned book commands) book → Run provider kept failed book before commands replies after later → UsersDiffer provider book commands
      → (asked : Operation) → Contains commands asked → (name : List ℕ) → IsAbout asked name → (page : Page) (root : SignedRoot) → IsRootOf provider after page root
      → (entry : List ℕ × Binding) → Contains page.bindings entry → index_of provider entry.0 ≡ index_of provider name → entry.0 ≡ name
  users-apart kept failed book after before later commands replies begins run differ asked there name about page root rooted entry held same =
      let named = carried provider kept failed (IsNamed (IsMentioned book commands)) commands replies book after before later
      (λ command there one next given holds none does. named-after (IsMentioned book commands) one next command given holds (λ user about. inr (command, there, about)) does) begins run in
      let bound : AreNamed (IsMentioned book commands) page.bindings = All-contains (λ (each : Page). AreNamed (IsMentioned book commands) each.bindings) (pages after) page
      (All-from_recursion (λ (each : Page). AreNamed (IsMentioned book commands) each.bindings) (pages after) named.pages) (sealed-page provider 0 _ (pages after) (record { page = page; root = root }) rooted) in
      let user : IsMentioned book commands entry.0 = (All-contains (λ (each : List ℕ × Binding). IsMentioned book commands each.0 × ⊤) page.bindings entry (All-from_recursion (λ (each : List ℕ × Binding). IsMentioned book commands each.0 × ⊤) page.bindings bound) held).0 in
      differ entry.0 name user (inr (asked, there, about)) same
