-- What the client of a script checks: the replies to look-ups.
use Rattle.std.specs.Prelude.{◌≡◌, ◌≢◌, ℕ, List, [], ◌∷◌, Some, Result, Err, ⊤}
use Rattle.encoding.specs.Limits.{IsName}
use Rattle.rand_core.specs.Stream.{Stream}
use Rattle.rootchain.specs.declared.signed_root.SignedRoot.{SignedRoot}
use Rattle.proofs.specs.declared.statement.Statement.{Statement}
use Rattle.commands.specs.Operations.{Lookup, Query}
use Rattle.wire.specs.Requests.{RequestContent}
use Rattle.wire.specs.Requests as request
use Rattle.book.specs.declared.reply.Reply.{Reply}
use Rattle.book.specs.declared.reply.Reply.TheVariants as replies
use Rattle.book.specs.Books.{Page, page_at}
use Rattle.book.specs.Honest.{IsHonestRun}
use Rattle.encoding.specs.Maps.{at}
use Rattle.book.specs.ProviderLaws.{KeepsLaws}
use Rattle.book.specs.Shows.{index_of, roots, IsReplyOf, IsRootOf}
use Rattle.book.specs.Sound.{IsSound}
use Rattle.client.specs.Looking.{Looks}
use Rattle.client.specs.declared.client_refusal.Refusal.{Refusal}
use Rattle.client.specs.declared.client_refusal.Refusal.TheVariants as client
use Rattle.play.specs.Lines.{checked_text, upshot_text}
use Rattle.play.specs.Messages.{comes_of, request_asks}
use Rattle.play.specs.Parties.{book_of, chain_under, provider_of, HasAsked, Parties}
use Rattle.play.specs.Scripts.{ScriptLine, Pass, Ask, Watch, Piece, End}

module _ {R : Type 0} (hash : List ℕ → List ℕ) (accepted : List ℕ → List ℕ → List ℕ → Type 0) where
  -- The client looked, at a reply to the look-up of a name at an epoch, and memory did not run out. Nothing but
  -- the client changed.
  pub record HasLooked (before : Parties R) (name : List ℕ) (epoch : ℕ) (text : List ℕ) (after : Parties R) : Type 0 where
    pub answer : Result Statement Refusal
    pub looks : Looks hash accepted before.client name epoch text answer after.client
    pub memory : answer ≢ Err client.Memory
    pub others : after ≡ record before { client = after.client }

  -- what was said to a request was checked: the client looked at the reply to a look-up, and at no other
  abbrev pub HasChecked : Parties R → RequestContent → Reply → Parties R → Type 0
  HasChecked before requested (replies.Found text) after = (name : List ℕ) × (epoch : ℕ) × (requested ≡ request.Query (Lookup name epoch)) × HasLooked before name epoch text after
  HasChecked before requested (replies.Promised signed) after = after ≡ before
  HasChecked before requested (replies.Told told) after = after ≡ before
  HasChecked before requested (replies.Last root) after = after ≡ before
  HasChecked before requested (replies.Refused why) after = after ≡ before

module _ {R : Type 0} (digest_of : List ℕ → List ℕ) (value_of signature_of : List ℕ → List ℕ → List ℕ) (stream : R → Stream) (accepted verified : List ℕ → List ℕ → List ℕ → Type 0) where
  -- The look-up of a name at an epoch found what this page has, and this is the reply. The client has the roots
  -- of all pages.
  pub record HasLookedUp (parties : Parties R) (name : List ℕ) (epoch : ℕ) (text : List ℕ) (page : Page) : Type 0 where
    pub named : IsName name
    pub asked : page_at (book_of digest_of value_of signature_of stream accepted verified parties) epoch ≡ Some page
    pub root : SignedRoot
    pub rooted : IsRootOf (provider_of digest_of value_of signature_of stream accepted verified parties) (book_of digest_of value_of signature_of stream accepted verified parties) page root
    pub reply : IsReplyOf (provider_of digest_of value_of signature_of stream accepted verified parties) page root.body name (at page.bindings name) text
    pub honest : IsHonestRun (provider_of digest_of value_of signature_of stream accepted verified parties) accepted verified parties.key (book_of digest_of value_of signature_of stream accepted verified parties) (book_of digest_of value_of signature_of stream accepted verified parties) (Query (Lookup name epoch) ∷ []) (replies.Found text ∷ [])
    pub laws : KeepsLaws accepted verified parties.key (provider_of digest_of value_of signature_of stream accepted verified parties)
    pub sound : IsSound (index_of (provider_of digest_of value_of signature_of stream accepted verified parties)) (book_of digest_of value_of signature_of stream accepted verified parties)
    pub chain : parties.client.chain ≡ chain_under parties.key (roots (provider_of digest_of value_of signature_of stream accepted verified parties) (book_of digest_of value_of signature_of stream accepted verified parties))

  -- the line of what came of a request, where the client had the roots of all pages
  abbrev pub line_of_reply : Parties R → RequestContent → List ℕ
  line_of_reply before requested =
      let now = comes_of (index_of (provider_of digest_of value_of signature_of stream accepted verified before)) (book_of digest_of value_of signature_of stream accepted verified before) (request_asks requested) in
      upshot_text (checked_text (index_of (provider_of digest_of value_of signature_of stream accepted verified before)) now.1) now.0

  -- a request was asked, where the client had the roots of all pages
  pub record HasAskedKnowing (before : Parties R) (requested : RequestContent) (text : List ℕ) (after : Parties R) : Type 0 where
    pub asked : HasAsked digest_of value_of signature_of stream accepted verified before requested text after
    pub chain : before.client.chain ≡ chain_under before.key (roots (provider_of digest_of value_of signature_of stream accepted verified before) (book_of digest_of value_of signature_of stream accepted verified before))

  -- a request was asked and its reply checked, and the client has looked at nothing since
  pub record HasAnswered (before : Parties R) (requested : RequestContent) (after : Parties R) : Type 0 where
    pub asked : Parties R
    pub text : List ℕ
    pub was : HasAsked digest_of value_of signature_of stream accepted verified before requested text asked
    pub checked : Parties R
    pub checks : HasChecked digest_of accepted asked requested was.said checked
    pub looks : after.client.looks ≡ checked.client.looks

  -- so was that of a line that asks
  abbrev pub HasAnsweredLine : Parties R → ScriptLine → Parties R → Type 0
  HasAnsweredLine before Pass after = ⊤
  HasAnsweredLine before (Ask requested) after = HasAnswered before requested after
  HasAnsweredLine before (Watch name start) after = ⊤
  HasAnsweredLine before (Piece session piece) after = ⊤
  HasAnsweredLine before (End session) after = ⊤
