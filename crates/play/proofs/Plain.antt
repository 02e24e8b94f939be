-- Which lines a script prints.
use Rattle.std.proofs.Common.{◌≡◌, ◌⊎◌, ℕ, zero, suc, ◌+◌, ◌<◌, ◌/◌, ◌%◌, Bool, true, false, not, cond, List, [], ◌∷◌, ◌++◌, length, map, Option, Some, None, Result, Ok, Err, Contains, refl, sym, subst, ◌∙◌, inl, inr, append_assoc, arith}
use Rattle.std.specs.Bool.{⊤}
use Rattle.std.specs.Prelude.{◌==◌, ◌&&◌, if◌then◌else◌, codes, decimal, find, is_none, is_some, nat_lt}
use Rattle.std.specs.Fmt.{digit_glyph, digits, digits_onto}
use Rattle.std.specs.List.{AllByRecursion}
use Rattle.std.specs.Str.{bytes_eq}
use Rattle.std.proofs.Math.Nat.{mod-lt}
use Rattle.std.proofs.lemmas.Bool.{and_parts, eqb-true, lt-ltb}
use Rattle.std.proofs.lemmas.List.Elements.{Contains-append_left, Contains-push}
use Rattle.std.proofs.lemmas.Slice.Eq.{bytes_eq-Decides}
use Rattle.proofs.specs.Watches.{expected}
use Rattle.commands.specs.Operations.{bound_key, Operation, Query, Edit, Put, Turn, Promise, Lookup, History, Head}
use Rattle.textio.specs.Lines.{lines_of}
use Rattle.wire.specs.Requests as request
use Rattle.wire.specs.Requests.{RequestContent}
use Rattle.wire.specs.Streams.{Message}
use Rattle.encoding.specs.declared.bound_key.BoundKey.{BoundKey}
use Rattle.book.specs.declared.directory_refusal.Refusal.{Refusal}
use Rattle.book.specs.Steps.{has_its_index, next_page, refusal, page_range as page_told, with_page, Outcome, done, found_in, promise_outcome, step, unless_refused}
use Rattle.book.specs.Books.{Binding, Book, Page, page_at, pages}
use Rattle.book.specs.Honest.{key_at}
use Rattle.encoding.specs.Maps.{at, Map}
use Rattle.book.specs.Refusals.{book_refusal_number}
use Rattle.book.proofs.Members.{first-there, later-there}
use Rattle.hub.specs.Desks.{or_not_operator}
use Rattle.play.specs.Laws.{after_lines, is_plain, script_after_line, IsChecked, IsCheckedIn, IsPlain, IsQuestioned, IsRequested, LinesArePlain, NothingIsRefused}
use Rattle.play.specs.Lines.{checked_text, is_double, of_session, refused_proof, root_text, roots_text, statement_text, upshot_text}
use Rattle.play.specs.Messages.{Upshot, asks, comes_of, heard, upshot_of, request_asks}
use Rattle.play.specs.Played.{Stand, after_promise, answered, line_played, opening, piece_events, watch_on, watcher_of}
use Rattle.play.specs.Printing as printing
use Rattle.play.specs.Printing.{played_from}
use Rattle.play.specs.Scripts.{ScriptLine, Pass, Ask, Watch as Watching, Piece, End, line_of, token}
use Rattle.play.specs.Watchers.{Watcher, ahead, all_through, expecting, handed, onto_line, place_text, same_key, through, verdict_text, watched_text}
use Rattle.play.proofs.Lists.{all-in, both, filtered}

-- ---- texts

module _ (byte : ℕ) (more : List ℕ) where
  other-byte : (n : ℕ) → (byte ≡ n → ⊥) → (byte == n) ≡ false
  other-byte n differs = by (byte == n) refl
    where
      by : (b : Bool) → (byte == n) ≡ b → b ≡ false
      by true e = absurd (differs (eqb-true byte n e))
      by false e = refl

  plain-byte : byte < 99 → is_plain (byte ∷ more) ≡ true
  plain-byte low =
      let c = other-byte 99 (λ e. absurd (omega (arith, e, low))) in
      let brace = other-byte 123 (λ e. absurd (omega (arith, e, low))) in
      rw (c, brace) refl

glyph-plain : (d : ℕ) (more : List ℕ) → d < 10 → is_plain (digit_glyph false d ∷ more) ≡ true
glyph-plain d more low =
    let small : nat_lt d 10 ≡ true = lt-ltb d 10 low in
    let plain : is_plain ((48 + d) ∷ more) ≡ true = plain-byte (48 + d) more (omega (arith, low)) in
    rw small plain

digits-plain : (k n : ℕ) (acc more : List ℕ) → is_plain (acc ++ more) ≡ true → is_plain (digits_onto k 10 false n acc ++ more) ≡ true
digits-plain zero n acc more is = is
digits-plain (suc k) n acc more is = by (n / 10 == 0) (digits-plain k (n / 10) (digit_glyph false (n % 10) ∷ acc) more here)
  where
    here : is_plain (digit_glyph false (n % 10) ∷ (acc ++ more)) ≡ true
    here = glyph-plain (n % 10) (acc ++ more) (mod-lt n (omega arith))

    by : (b : Bool) → is_plain (digits_onto k 10 false (n / 10) (digit_glyph false (n % 10) ∷ acc) ++ more) ≡ true
        → is_plain (cond b (digit_glyph false (n % 10) ∷ acc) (digits_onto k 10 false (n / 10) (digit_glyph false (n % 10) ∷ acc)) ++ more) ≡ true
    by true later = here
    by false later = later

decimal-plain : (n : ℕ) (more : List ℕ) → is_plain (decimal n ++ more) ≡ true
unfolding digits
decimal-plain n more = by (n / 10 == 0) here (digits-plain 63 (n / 10) (digit_glyph false (n % 10) ∷ []) more here)
  where
    here : is_plain (digit_glyph false (n % 10) ∷ more) ≡ true
    here = glyph-plain (n % 10) more (mod-lt n (omega arith))

    by : (b : Bool) → is_plain (digit_glyph false (n % 10) ∷ more) ≡ true → is_plain (digits_onto 63 10 false (n / 10) (digit_glyph false (n % 10) ∷ []) ++ more) ≡ true
        → is_plain (cond b (digit_glyph false (n % 10) ∷ []) (digits_onto 63 10 false (n / 10) (digit_glyph false (n % 10) ∷ [])) ++ more) ≡ true
    by true now later = now
    by false now later = later

session-plain : (session : ℕ) (text : List ℕ) → is_plain (of_session session text) ≡ true
session-plain session text = subst (λ (line : List ℕ). is_plain line ≡ true) (sym (append_assoc (decimal session) (codes ": ") text)) (decimal-plain session (codes ": " ++ text))

watched-plain : (watcher : Watcher) (page : Page) → IsPlain (watched_text watcher page)
watched-plain watcher page = by (same_key (key_at page watcher.name) (expected watcher.watch page.epoch)) (place_text watcher.name page) (key_at page watcher.name)
  where
    by : (b : Bool) (place : List ℕ) (key : Option BoundKey) → IsPlain (verdict_text b place key)
    by true place key = refl
    by false place key = refl

statement-plain : (epoch : ℕ) (key : Option BoundKey) → IsPlain (statement_text epoch key)
statement-plain epoch None = refl
statement-plain epoch (Some key) = refl

-- ---- lists

find-there : {X : Type 0} (test : X → Bool) (xs : List X) (x : X) → find test xs ≡ Some x → Contains xs x
find-there test [] x is = absurd cc
find-there test (y ∷ ys) x is = by (test y) is (find-there test ys x)
  where
    by : (b : Bool) → cond b (Some y) (find test ys) ≡ Some x → (find test ys ≡ Some x → Contains ys x) → Contains (y ∷ ys) x
    by true e later = let same : y ≡ x = cc in subst (Contains (y ∷ ys)) same (first-there y ys)
    by false e later = later-there y ys x (later e)

-- ---- books

page-there : (book : Book) (epoch : ℕ) (page : Page) → page_at book epoch ≡ Some page → Contains (pages book) page
page-there book epoch page = by (epoch == 0)
  where
    by : (b : Bool) → cond b (Some book.last) (find (λ (each : Page). each.epoch == epoch) (pages book)) ≡ Some page → Contains (pages book) page
    by true e = let same : book.last ≡ page = cc in subst (Contains (pages book)) same (Contains-push book.earlier book.last)
    by false e = find-there (λ (each : Page). each.epoch == epoch) (pages book) page e

done-keeps : (book : Book) (asked : Operation) (page : Page) → Contains (pages book) page → Contains (pages (done book asked).1) page
done-keeps book (Query question) page there = there
done-keeps book (Edit (Put verb name key)) page there = there
done-keeps book (Edit (Turn epoch nonce)) page there = Contains-append_left (pages book) (next_page book epoch nonce ∷ []) page there

module _ (index_of : List ℕ → List ℕ) where
  step-keeps : (book : Book) (asked : Operation) (page : Page) → Contains (pages book) page → Contains (pages (step index_of book asked).1) page
  step-keeps book asked page there = by (refusal index_of book asked)
    where
      by : (why : Option Refusal) → Contains (pages (unless_refused why book asked).1) page
      by (Some why) = there
      by None = done-keeps book asked page there

  comes-keeps : (book : Book) (asked : Result Operation ℕ) (page : Page) → Contains (pages book) page → Contains (pages (comes_of index_of book asked).1) page
  comes-keeps book (Ok asked) page there = step-keeps book asked page there
  comes-keeps book (Err code) page there = there

  answered-keeps : (messages : List Message) (book : Book) (page : Page) → Contains (pages book) page → Contains (pages (answered index_of book messages).1) page
  answered-keeps [] book page there = there
  answered-keeps (message ∷ more) book page there = answered-keeps more (comes_of index_of book (asks message)).1 page (comes-keeps book (asks message) page there)

  line-keeps : (stand : Stand) (line : ScriptLine) (page : Page) → Contains (pages stand.book) page → Contains (pages (line_played index_of stand line).1.book) page
  line-keeps stand Pass page there = there
  line-keeps stand (Ask requested) page there = comes-keeps stand.book (request_asks requested) page there
  line-keeps stand (Watching name start) page there = there
  line-keeps stand (Piece session piece) page there = answered-keeps (heard stand.sessions (piece_events session piece)) stand.book page there
  line-keeps stand (End session) page there = there

  after-keeps : (lines : List (List ℕ)) (stand : Stand) (page : Page) → Contains (pages stand.book) page → Contains (pages (after_lines index_of stand lines).book) page
  after-keeps [] stand page there = there
  after-keeps (line ∷ more) stand page there = by (line_of line) (after-keeps more)
    where
      by : (said : Option ScriptLine) → ((later : Stand) (p : Page) → Contains (pages later.book) p → Contains (pages (after_lines index_of later more).book) p)
          → Contains (pages (script_after_line index_of stand said (λ later. after_lines index_of later more)).book) page
      by None next = there
      by (Some said) next = next (line_played index_of stand said).1 page (line-keeps stand said page there)

  -- no other name of these has the index of this one, if none that has it is another
  no-index : (name : List ℕ) (bindings : Map Binding) → ((entry : List ℕ × Binding) → Contains bindings entry → index_of entry.0 ≡ index_of name → entry.0 ≡ name)
      → has_its_index index_of name bindings ≡ false
  no-index name [] own = refl
  no-index name (entry ∷ more) own = by (bytes_eq entry.0 name) refl (bytes_eq (index_of entry.0) (index_of name)) refl (no-index name more (λ other there. own other (later-there entry more other there)))
    where
      by : (same : Bool) → bytes_eq entry.0 name ≡ same → (meet : Bool) → bytes_eq (index_of entry.0) (index_of name) ≡ meet → has_its_index index_of name more ≡ false
          → is_some (cond (not same && meet) (Some entry) (find (λ (other : List ℕ × Binding). not (bytes_eq other.0 name) && bytes_eq (index_of other.0) (index_of name)) more)) ≡ false
      by true e meet f rest = rest
      by false e false f rest = rest
      by false e true f rest =
          let one : entry.0 ≡ name = own entry (first-there entry more) ((bytes_eq-Decides (index_of entry.0) (index_of name)).0 f) in
          let clash : false ≡ true = sym e ∙ (bytes_eq-Decides entry.0 name).1 one in
          absurd cc

-- ---- lines

module _ (index_of : List ℕ → List ℕ) (after : Book) (P Q : List ℕ → Type 0) (plain : (line : List ℕ) → IsPlain line → Q line)
    (double : (name : List ℕ) (page : Page) → P name → Contains (pages after) page → is_double index_of page name ≡ true → Q refused_proof) where
  abbrev Within : Book → Type 0
  Within book = (page : Page) → Contains (pages book) page → Contains (pages after) page

  abbrev OnPages : List Page → Type 0
  OnPages = AllByRecursion (Contains (pages after))

  abbrev AreNamed : List Watcher → Type 0
  AreNamed = AllByRecursion (λ (watcher : Watcher). P watcher.name)

  found-line : (page : Page) (name : List ℕ) → P name → Contains (pages after) page
      → Q (if is_double index_of page name then refused_proof else statement_text page.epoch (key_at page name))
  found-line page name named there = by (is_double index_of page name) refl
    where
      by : (b : Bool) → is_double index_of page name ≡ b → Q (if b then refused_proof else statement_text page.epoch (key_at page name))
      by true e = double name page named there e
      by false e = plain (statement_text page.epoch (key_at page name)) (statement-plain page.epoch (key_at page name))

  -- what a line that asks is told
  abbrev Said : Outcome × Book → Type 0
  Said now = Q (upshot_text (checked_text index_of now.1) (upshot_of now.0))

  abbrev Asks : Operation → List ℕ → Type 0
  Asks (Query question) name = IsQuestioned question name
  Asks (Edit revision) name = ⊥

  done-line : (book : Book) (asked : Operation) → Within book → ((name : List ℕ) → Asks asked name → P name) → Said (done book asked)
  done-line book (Query (Promise name)) within named = by (at book.pending name)
    where
      by : (found : Option Binding) → Said (promise_outcome name found, book)
      by None = plain (codes "refused " ++ decimal 13) refl
      by (Some binding) = plain (codes "promise " ++ decimal book.last.epoch) refl
  done-line book (Query (Lookup name epoch)) within named = by (page_at book epoch) refl
    where
      by : (found : Option Page) → page_at book epoch ≡ found → Said (found_in name found, book)
      by None e = plain (codes "refused " ++ decimal 10) refl
      by (Some page) e = found-line page name (named name refl) (within page (page-there book epoch page e))
  done-line book (Query (History from count)) within named = plain (roots_text (page_told book from count)) refl
  done-line book (Query Head) within named = plain (root_text book) refl
  done-line book (Edit (Put verb name key)) within named = plain (codes "promise " ++ decimal book.last.epoch) refl
  done-line book (Edit (Turn epoch nonce)) within named = plain (root_text (with_page book (next_page book epoch nonce))) refl

  step-line : (book : Book) (asked : Operation) → Within book → ((name : List ℕ) → Asks asked name → P name) → Said (step index_of book asked)
  step-line book asked within named = by (refusal index_of book asked)
    where
      by : (why : Option Refusal) → Said (unless_refused why book asked)
      by (Some why) = plain (codes "refused " ++ decimal (book_refusal_number why)) refl
      by None = done-line book asked within named

  comes-line : (book : Book) (asked : Result Operation ℕ) → Within book → ((asks_this : Operation) → asked ≡ Ok asks_this → (name : List ℕ) → Asks asks_this name → P name)
      → Q (upshot_text (checked_text index_of (comes_of index_of book asked).1) (comes_of index_of book asked).0)
  comes-line book (Ok asked) within named = step-line book asked within (named asked refl)
  comes-line book (Err code) within named = plain (codes "refused " ++ decimal code) refl

  -- what a request asks about is what its line checks
  asks-checked : (requested : RequestContent) (asked : Operation) → request_asks requested ≡ Ok asked → (name : List ℕ) → Asks asked name → IsRequested requested name
  asks-checked (request.Query question) asked e name asks_it = let same : Query question ≡ asked = cc in subst (λ (a : Operation). Asks a name) (sym same) asks_it
  asks-checked (request.Put verb own key) asked e name asks_it = let same : Edit (Put verb own key) ≡ asked = cc in subst (λ (a : Operation). Asks a name) (sym same) asks_it
  asks-checked (request.Turn given epoch nonce) asked e name asks_it = by (bytes_eq given token) e
    where
      by : (b : Bool) → or_not_operator (cond b (Some (Edit (Turn epoch nonce))) None) ≡ Ok asked → ⊥
      by true f = let same : Edit (Turn epoch nonce) ≡ asked = cc in absurd (subst (λ (a : Operation). Asks a name) (sym same) asks_it)
      by false f = absurd cc

  through-lines : (shown : List Page) (watcher : Watcher) → P watcher.name → OnPages shown
      → AllByRecursion Q (through index_of watcher shown).0 × ((through index_of watcher shown).1.name ≡ watcher.name)
  through-lines [] watcher named on = (tt, refl)
  through-lines (page ∷ more) watcher named on =
      by (is_double index_of page watcher.name) refl (through index_of (record watcher { behind = page.epoch }) more) (through-lines more (record watcher { behind = page.epoch }) named on.1)
    where
      by : (b : Bool) → is_double index_of page watcher.name ≡ b → (later : List (List ℕ) × Watcher) → AllByRecursion Q later.0 × (later.1.name ≡ watcher.name)
          → AllByRecursion Q (cond b (refused_proof ∷ [], watcher) (onto_line (watched_text watcher page) later)).0
          × ((cond b (refused_proof ∷ [], watcher) (onto_line (watched_text watcher page) later)).1.name ≡ watcher.name)
      by true e later rest = ((double watcher.name page named on.0 e, tt), refl)
      by false e later rest = ((plain (watched_text watcher page) (watched-plain watcher page), rest.0), rest.1)

  all-lines : (shown : List Page) → OnPages shown → (watchers : List Watcher) → AreNamed watchers
      → AllByRecursion Q (all_through index_of shown watchers).0 × AreNamed (all_through index_of shown watchers).1
  all-lines shown on [] named = (tt, tt)
  all-lines shown on (watcher ∷ more) named =
      let now = through-lines (ahead watcher shown) watcher named.0 (filtered (Contains (pages after)) (λ (page : Page). nat_lt watcher.behind page.epoch) shown on) in
      let later = all-lines shown on more named.1 in
      (both Q (through index_of watcher (ahead watcher shown)).0 (all_through index_of shown more).0 now.0 later.0, (subst P (sym now.1) named.0, later.1))

  on-lines : (before later : Book) → Within later → (watchers : List Watcher) → AreNamed watchers
      → AllByRecursion Q (watch_on index_of before later watchers).0 × AreNamed (watch_on index_of before later watchers).1
  on-lines before later within watchers named = by (nat_lt (length (pages before)) (length (pages later)))
    where
      by : (b : Bool) → AllByRecursion Q (cond b (all_through index_of (pages later) watchers) ([], watchers)).0
          × AreNamed (cond b (all_through index_of (pages later) watchers) ([], watchers)).1
      by true = all-lines (pages later) (all-in (Contains (pages after)) (pages later) within) watchers named
      by false = (tt, named)

  handed-named : (name : List ℕ) (epoch : ℕ) (key : BoundKey) (watchers : List Watcher) → AreNamed watchers → AreNamed (handed name epoch key watchers)
  handed-named name epoch key [] named = tt
  handed-named name epoch key (watcher ∷ more) named = (by (bytes_eq watcher.name name), handed-named name epoch key more named.1)
    where
      by : (b : Bool) → P (cond b (record watcher { watch = expecting epoch key watcher.watch }) watcher).name
      by true = named.0
      by false = named.0

  promised-named : (requested : RequestContent) (epoch : ℕ) (said : Upshot) (watchers : List Watcher) → AreNamed watchers → AreNamed (after_promise requested epoch said watchers)
  promised-named (request.Put verb name key) epoch (Ok answer) watchers named = handed-named name epoch (bound_key key) watchers named
  promised-named _ epoch said watchers named = named

  of-session : (session : ℕ) (texts : List (List ℕ)) → AllByRecursion Q (map (of_session session) texts)
  of-session session [] = tt
  of-session session (text ∷ more) = (plain (of_session session text) (session-plain session text), of-session session more)

  line-lines : (stand : Stand) (line : ScriptLine) → AreNamed stand.watchers → Within (line_played index_of stand line).1.book → ((name : List ℕ) → IsChecked (Some line) name → P name)
      → AllByRecursion Q (line_played index_of stand line).0 × AreNamed (line_played index_of stand line).1.watchers
  line-lines stand Pass named within checked = (tt, named)
  line-lines stand (Ask requested) named within checked =
      let now = comes_of index_of stand.book (request_asks requested) in
      let first = comes-line stand.book (request_asks requested) (λ page there. within page (comes-keeps index_of stand.book (request_asks requested) page there))
      (λ asked is name asks_it. checked name (asks-checked requested asked is name asks_it)) in
      let seen = on-lines stand.book now.1 within stand.watchers named in
      ((first, seen.0), promised-named requested stand.book.last.epoch now.0 (watch_on index_of stand.book now.1 stand.watchers).1 seen.1)
  line-lines stand (Watching name start) named within checked =
      let now = through-lines (stand.book.last ∷ []) (watcher_of stand.book name start) (checked name refl) (within stand.book.last (Contains-push stand.book.earlier stand.book.last), tt) in (
        now.0,
        both (λ (watcher : Watcher). P watcher.name) stand.watchers ((through index_of (watcher_of stand.book name start) (stand.book.last ∷ [])).1 ∷ []) named
            (subst P (sym now.1) (checked name refl), tt),
      )
  line-lines stand (Piece session piece) named within checked =
      let messages = heard stand.sessions (piece_events session piece) in
      let now = answered index_of stand.book messages in
      let seen = on-lines stand.book now.1 within stand.watchers named in
      (both Q (map (of_session session) now.0) (watch_on index_of stand.book now.1 stand.watchers).0 (of-session session now.0) seen.0, seen.1)
  line-lines stand (End session) named within checked = (tt, named)

  pub from-lines : (lines : List (List ℕ)) (place : ℕ) (stand : Stand) → AreNamed stand.watchers → Within (after_lines index_of stand lines).book
      → ((name : List ℕ) → IsCheckedIn lines name → P name) → AllByRecursion Q (played_from index_of place stand lines).lines
  from-lines [] place stand named within checked = tt
  from-lines (line ∷ more) place stand named within checked =
      by (line_of line) within (λ name is. checked name (inl is)) (λ later own rest. from-lines more (place + 1) later own rest (λ name is. checked name (inr is)))
    where
      by : (said : Option ScriptLine) → Within (script_after_line index_of stand said (λ later. after_lines index_of later more)).book → ((name : List ℕ) → IsChecked said name → P name)
          → ((later : Stand) → AreNamed later.watchers → Within (after_lines index_of later more).book → AllByRecursion Q (played_from index_of (place + 1) later more).lines)
          → AllByRecursion Q (printing.by_line index_of place stand said (λ later. played_from index_of (place + 1) later more)).lines
      by None inside own next = tt
      by (Some said) inside own next =
          let l = line-lines stand said named (λ page there. inside page (after-keeps index_of more (line_played index_of stand said).1 page there)) own in
          both Q (line_played index_of stand said).0 (played_from index_of (place + 1) (line_played index_of stand said).1 more).lines l.0 (next (line_played index_of stand said).1 l.1 inside)

-- ---- the laws

pub always-plain : LinesArePlain
always-plain index_of salts script =
    from-lines index_of (after_lines index_of (opening salts) (lines_of script)).book (λ name. ⊤) (λ line. (line ≡ refused_proof) ⊎ IsPlain line) (λ line is. inr is)
    (λ name page named there is. inl refl) (lines_of script) 1 (opening salts) tt (λ page there. there) (λ name is. tt)

pub nothing-refused : NothingIsRefused
nothing-refused index_of salts script differ =
    from-lines index_of (after_lines index_of (opening salts) (lines_of script)).book (IsCheckedIn (lines_of script)) IsPlain (λ line is. is)
    never (lines_of script) 1 (opening salts) tt (λ page there. there) (λ name is. is)
  where
    never : (name : List ℕ) (page : Page) → IsCheckedIn (lines_of script) name → Contains (pages (after_lines index_of (opening salts) (lines_of script)).book) page
        → is_double index_of page name ≡ true → IsPlain refused_proof
    never name page checked there is =
        let other : has_its_index index_of name page.bindings ≡ false
        = no-index index_of name page.bindings (λ entry held same. differ name entry.0 checked (page, entry, there, held, refl) same) in
        let clash : false ≡ true = sym other ∙ (and_parts (is_none (at page.bindings name)) (has_its_index index_of name page.bindings) is).1 in
        absurd cc
