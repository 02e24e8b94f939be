-- That what a directory answers to a line that asks is what the definition of scripts says of the line.
use Rattle.std.specs.Prelude.{◌≡◌, ℕ, List, Ok, ⊤}
use Rattle.encoding.specs.Bytes.{IsBytes}
use Rattle.rootchain.specs.declared.signed_root.SignedRoot.{SignedRoot}
use Rattle.commands.specs.Operations.{Operation, Query, Lookup}
use Rattle.wire.specs.Responses.{ResponseContent}
use Rattle.book.specs.declared.record.Record.{Record}
use Rattle.book.specs.declared.reply.Reply.{Reply}
use Rattle.book.specs.declared.reply.Reply.TheVariants as reply
use Rattle.book.specs.Steps.{Found}
use Rattle.book.specs.Books.{Book, Page}
use Rattle.encoding.specs.Maps.{at}
use Rattle.book.specs.Shows.{Provider, index_of}
use Rattle.book.specs.Sound.{IsSound}
use Rattle.book.specs.Turns.{Turn}
use Rattle.hub.specs.Desks.{IsResponseOf}
use Rattle.play.specs.Checking.{IsShownIn}
use Rattle.play.specs.Hearing.{response_text, IsGranted}
use Rattle.play.specs.Lines.{checked_text, upshot_text}
use Rattle.play.specs.Messages.{comes_of}

-- the reply is no reply to a look-up, which a client has to check
abbrev pub IsUnchecked : Reply → Type 0
IsUnchecked (reply.Found text) = ⊥
IsUnchecked (reply.Promised signed) = ⊤
IsUnchecked (reply.Told told) = ⊤
IsUnchecked (reply.Last root) = ⊤
IsUnchecked (reply.Refused why) = ⊤

module _ (provider : Provider) {K : Type 0} (kept failed : K → Record → K → Type 0) where
  -- what a turn of a directory answers, but to a look-up, is the line of its response
  abbrev pub AnswersAreTold : Type 0
  AnswersAreTold = (book after : Book) (keeper later : K) (asked : Operation) (said : Reply) (responded : ResponseContent)
      → IsSound (index_of provider) after → Turn provider kept failed book keeper asked said after later
      → IsGranted said → IsUnchecked said → IsResponseOf said responded
      → ((comes_of (index_of provider) book (Ok asked)).1 ≡ after)
      × (response_text responded ≡ upshot_text (checked_text (index_of provider) after) (comes_of (index_of provider) book (Ok asked)).0)

  -- and to a look-up, it is the reply of the book of what the page has
  abbrev pub LookupsAreShown : Type 0
  LookupsAreShown = (book after : Book) (keeper later : K) (name : List ℕ) (epoch : ℕ) (text : List ℕ)
      → IsSound (index_of provider) after → IsBytes name → Turn provider kept failed book keeper (Query (Lookup name epoch)) (reply.Found text) after later
      → (page : Page) × (root : SignedRoot) × IsShownIn provider after page root name text
      × (comes_of (index_of provider) book (Ok (Query (Lookup name epoch))) ≡ (Ok (Found page name (at page.bindings name)), after))
