-- What a desk answers is a turn of its directory.
use Rattle.std.proofs.Common.{◌≡◌, ℕ, ◌≤◌, ◌&&◌, List, ◌++◌, Bool, true, false, cond, not, length, filter, Option, Some, None, Result, Ok, Err, IfOk, MatchResult, Bor, Global, min, refl, sym, ap, subst, ◌∙◌, arith}
use Rattle.std.proofs.lemmas.Bool.{and_parts, leb-true}
use Rattle.std.proofs.lemmas.List.{length-take}
use Rattle.std.proofs.lemmas.Slice.Zip.{AllZip-long}
use Rattle.std.specs.List.{AllZip}
use Rattle.std.specs.Prelude.{nat_le, Vec}
use Rattle.std.specs.Str.{bytes_eq}
use Rattle.rand_core.specs.Stream.{Stream}
use Rattle.rootchain.specs.declared.signed_root.SignedRoot.{SignedRoot}
use Rattle.book.specs.declared.record.Record.{Record}
use Rattle.book.specs.declared.directory_refusal.Refusal.{Refusal}
use Rattle.book.specs.declared.directory_refusal.Refusal.TheVariants.{BadRange}
use Rattle.book.specs.declared.reply.Reply.{Reply}
use Rattle.book.specs.declared.reply.Reply.TheVariants as reply
use Rattle.book.specs.Steps.{Told as ToldPages, page_range, Outcome, Answers, Refuses, unless_refused, step}
use Rattle.commands.specs.Operations.{Operation, Question, Query, Edit, Head, History}
use Rattle.commands.specs.Operations as ask
use Rattle.book.specs.Books.{Book, Page, pages as pages_of}
use Rattle.book.specs.Shows.{Provider, IsRootOf, index_of}
use Rattle.book.specs.Turns.{IsReadAnswer, IsRefused, ReadsOnly, Turn}
use Rattle.epochs.specs.DirectoryStates.{DirectoryState, HasKeysOf, book as book_kept, provider as provider_kept}
use Rattle.epochs.specs.Replied.{TellsRoots}
use Rattle.epochs.proofs.Running.{head_reads, reads_turn, tells_reads}
use Rattle.wire.specs.Frames.{frame_bytes}
use Rattle.hub.specs.Desks.{reply_frame, TakesTurn}

-- ---- the roots of a history

same_pages : (by : List ℕ → List ℕ) (book : Book) (from count : ℕ) (pages : List Page) (b : Bool)
    → unless_refused (cond (not b) (Some BadRange) None) book (Query (History from count)) ≡ (Answers (ToldPages pages), book) → (b ≡ true) × (pages ≡ page_range book from count)
same_pages by book from count pages true e =
    let one : Answers (ToldPages (page_range book from count)) ≡ Answers (ToldPages pages) = ap (λ (x : Outcome × Book). x.0) e in
    let same : page_range book from count ≡ pages = cc in
    (refl, sym same)
same_pages by book from count pages false e = absurd (let wrong : Refuses BadRange ≡ Answers (ToldPages pages) = ap (λ (x : Outcome × Book). x.0) e in cc)

pub few_pages : (by : List ℕ → List ℕ) (book : Book) (from count : ℕ) (pages : List Page) → step by book (Query (History from count)) ≡ (Answers (ToldPages pages), book) → length pages ≤ 64
few_pages by book from count pages e =
    let t = same_pages by book from count pages (nat_le 1 count && nat_le count 64) e in
    let below : count ≤ 64 = leb-true count 64 (and_parts (nat_le 1 count) (nat_le count 64) t.0).1 in
    let all : List Page = filter (λ (page : Page). nat_le from page.epoch) (pages_of book) in
    let size : length pages ≡ min count (length all) = ap length t.1 ∙ length-take count all in
    omega (arith, below, size)

pub few_roots : (provider : Provider) (book : Book) (from count : ℕ) (answer : Result (Bor (List SignedRoot)) Refusal)
    → MatchResult answer
    (λ roots. (pages : List Page) × IsReadAnswer provider book (Query (History from count)) (ToldPages pages) × AllZip (IsRootOf provider book) pages roots.now)
    (λ why. IsRefused provider book (Query (History from count)) why)
    → IfOk answer (λ roots. length roots.now ≤ 64)
few_roots provider book from count (Err why) reads = tt
few_roots provider book from count (Ok roots) (pages, is, zip) =
    omega (arith, few_pages (index_of provider) book from count pages is, AllZip-long (IsRootOf provider book) pages roots.now zip)

-- a list of so few roots
listed : (any : Vec ℕ Global) (roots : List SignedRoot) → length roots ≤ 64 → (all : Vec SignedRoot Global) × (all.items ≡ roots)
listed any roots few =
    (record { ptr = any.ptr; len = length roots; cap = length roots; alloc = any.alloc; items = roots; ok = (refl, omega arith); small = omega (arith, few) }, refl)

module _ {R K : Type 0} (digest_of : List ℕ → List ℕ) (value_of signature_of : List ℕ → List ℕ → List ℕ) (stream : R → Stream) (kept failed : K → Record → K → Type 0) where
  abbrev provider_of : DirectoryState R → Provider
  provider_of directory = provider_kept digest_of value_of signature_of directory

  -- a command is answered, and the frame of the reply is appended
  abbrev Serving : DirectoryState R → K → List ℕ → Option Operation → List ℕ → DirectoryState R → K → List ℕ → Type 0
  Serving directory keeper token asked output directory_after keeper_after grown = (text : List ℕ)
      × TakesTurn digest_of value_of signature_of stream kept failed (record { directory = directory; keeper = keeper; token = token }) asked text (record { directory = directory_after; keeper = keeper_after; token = token })
      × (grown ≡ output ++ text)

  -- a turn
  turned : (directory : DirectoryState R) (keeper : K) (token : List ℕ) (asked : Operation) (output : List ℕ) (later : DirectoryState R) (keeper_after : K) (grown : List ℕ) (said : Reply)
      → Turn (provider_of directory) kept failed (book_kept stream directory) keeper asked said (book_kept stream later) keeper_after → HasKeysOf directory later
      → grown ≡ output ++ frame_bytes (reply_frame said) → Serving directory keeper token (Some asked) output later keeper_after grown
  turned directory keeper token asked output later keeper_after grown said turn keys wrote = (frame_bytes (reply_frame said), (said, turn, refl, keys, refl), wrote)

  -- a query
  pub read_turned : (directory : DirectoryState R) (keeper : K) (token : List ℕ) (question : Question) (output : List ℕ) (later : DirectoryState R) (grown : List ℕ) (said : Reply)
      → ReadsOnly (provider_of directory) (book_kept stream directory) (Query question) said → book_kept stream later ≡ book_kept stream directory → HasKeysOf directory later
      → grown ≡ output ++ frame_bytes (reply_frame said) → Serving directory keeper token (Some (Query question)) output later keeper grown
  read_turned directory keeper token question output later grown said reads stays keys wrote =
      turned directory keeper token (Query question) output later keeper grown said
      (subst (λ (b : Book). Turn (provider_of directory) kept failed (book_kept stream directory) keeper (Query question) said b keeper) (sym stays)
      (reads_turn (provider_of directory) kept failed (book_kept stream directory) question keeper said reads)) keys wrote

  pub roots_turned : (any : Vec ℕ Global) (directory : DirectoryState R) (keeper : K) (token : List ℕ) (from count : ℕ) (output : List ℕ) (grown : List ℕ) (answer : Result (Bor (List SignedRoot)) Refusal)
      → MatchResult answer
      (λ roots. (pages : List Page) × IsReadAnswer (provider_of directory) (book_kept stream directory) (Query (History from count)) (ToldPages pages) × AllZip (IsRootOf (provider_of directory) (book_kept stream directory)) pages roots.now)
      (λ why. IsRefused (provider_of directory) (book_kept stream directory) (Query (History from count)) why)
      → ((said : Reply) → TellsRoots answer said → grown ≡ output ++ frame_bytes (reply_frame said)) → Serving directory keeper token (Some (Query (History from count))) output directory keeper grown
  roots_turned any directory keeper token from count output grown answer reads wrote =
      let said = by answer (few_roots (provider_of directory) (book_kept stream directory) from count answer reads) in
      read_turned directory keeper token (History from count) output directory grown said.0
      (tells_reads (provider_of directory) (book_kept stream directory) from count answer (the_reply said.0) reads said.1) refl (refl, refl) (wrote said.0 said.1)
    where
      the_reply : Reply → Result Reply (Unit {0})
      the_reply said = Ok said

      by : (answer : Result (Bor (List SignedRoot)) Refusal) → IfOk answer (λ roots. length roots.now ≤ 64) → (said : Reply) × TellsRoots answer said
      by (Ok roots) few = let all = listed any roots.now few in (reply.Told all.0, all.1)
      by (Err why) few = (reply.Refused why, refl)

  pub head_turned : (directory : DirectoryState R) (keeper : K) (token : List ℕ) (output : List ℕ) (grown : List ℕ) (root : SignedRoot)
      → IsRootOf (provider_of directory) (book_kept stream directory) (book_kept stream directory).last root → grown ≡ output ++ frame_bytes (reply_frame (reply.Last root))
      → Serving directory keeper token (Some (Query Head)) output directory keeper grown
  head_turned directory keeper token output grown root is wrote =
      read_turned directory keeper token Head output directory grown (reply.Last root) (head_reads (provider_of directory) (book_kept stream directory) root root refl is) refl (refl, refl) wrote

  pub turn_turned : (directory : DirectoryState R) (keeper : K) (token given : List ℕ) (epoch : ℕ) (nonce : Option (List ℕ)) (output : List ℕ) (later : DirectoryState R) (keeper_after : K) (grown : List ℕ) (said : Reply) → bytes_eq given token ≡ true
      → Turn (provider_of directory) kept failed (book_kept stream directory) keeper (Edit (ask.Turn epoch nonce)) said (book_kept stream later) keeper_after → HasKeysOf directory later
      → grown ≡ output ++ frame_bytes (reply_frame said) → Serving directory keeper token (cond (bytes_eq given token) (Some (Edit (ask.Turn epoch nonce))) None) output later keeper_after grown
  turn_turned directory keeper token given epoch nonce output later keeper_after grown said same turn keys wrote =
      rw same (turned directory keeper token (Edit (ask.Turn epoch nonce)) output later keeper_after grown said turn keys wrote)
