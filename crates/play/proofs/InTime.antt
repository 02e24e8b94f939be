-- Promises come in time.
use Rattle.std.proofs.Common.{◌≡◌, ℕ, ◌<◌, Bool, true, false, cond, List, [], ◌∷◌, length, Option, Some, None, Result, Ok, Err, refl, sym, ap, subst, ◌∙◌, inl, inr, arith}
use Rattle.std.specs.Prelude.{is_some, nat_le, nat_lt}
use Rattle.std.specs.BTreeMap.{is_at}
use Rattle.std.specs.List.{AllByRecursion}
use Rattle.std.specs.Str.{bytes_eq}
use Rattle.std.proofs.lemmas.Slice.Eq.{bytes_eq-Decides}
use Rattle.commands.specs.Operations as ask
use Rattle.commands.specs.Operations.{bound_key, Operation, Query, Edit, Put}
use Rattle.wire.specs.Requests as request
use Rattle.wire.specs.Streams.{Message}
use Rattle.encoding.specs.declared.bound_key.BoundKey.{BoundKey}
use Rattle.book.specs.declared.directory_refusal.Refusal.{Refusal}
use Rattle.book.specs.declared.directory_refusal.Refusal.TheVariants.{EpochNotLater}
use Rattle.book.specs.Steps.{refusal, done, step, unless_refused}
use Rattle.book.specs.Books.{Binding, Book, Page, pages}
use Rattle.encoding.specs.Maps.{Map, at, put_at}
use Rattle.book.proofs.Entries.{at_put_other, at_put_same, is_name, is_no_name}
use Rattle.book.proofs.Stepping.{put_passed}
use Rattle.book.proofs.Turning.{above-last, passed}
use Rattle.play.specs.InTime.{AreInTime, IsInTime, MonitorsAreInTime, PromisesAreLater}
use Rattle.play.specs.Laws.{after_lines, script_after_line}
use Rattle.play.specs.Lines.{is_double, refused_proof}
use Rattle.play.specs.Messages.{asks, comes_of, heard, upshot_of, request_asks}
use Rattle.play.specs.Played as played
use Rattle.play.specs.Played.{Stand, answered, line_played, opening, piece_events, watch_on, watcher_of}
use Rattle.play.specs.Scripts.{ScriptLine, Pass, Ask, Watch as Watching, Piece, End, line_of}
use Rattle.play.specs.Watchers.{Watcher, ahead, all_through, expecting, handed, onto_line, through, watched_text}
use Rattle.play.proofs.Lists.{both, each-so}
use Rattle.encoding.specs.Bytes.{bytes_cmp}

-- what waits stays when more is put
some-put : (map : Map Binding) (name own : List ℕ) (x : Binding) → is_some (at map name) ≡ true → is_some (at (put_at map own x) name) ≡ true
some-put map name own x some = by (is_at (bytes_cmp own) name) refl
  where
    by : (t : Bool) → is_at (bytes_cmp own) name ≡ t → is_some (at (put_at map own x) name) ≡ true
    by true is = let e = is_name own name is in subst (λ (n : List ℕ). is_some (at (put_at map own x) n) ≡ true) (sym e) (ap is_some (at_put_same own x map))
    by false is = ap is_some (at_put_other own x map name (is_no_name own name is)) ∙ some

module _ (index_of : List ℕ → List ℕ) where
  -- from a book to a later one
  abbrev Keeps : Book → Book → Type 0
  Keeps book after = (name : List ℕ) (change : ℕ × BoundKey) → IsInTime book name change → IsInTime after name change

  step-keeps : (book : Book) (asked : Operation) → Keeps book (step index_of book asked).1
  step-keeps book asked name change is = by (refusal index_of book asked) refl
    where
      by-done : (a : Operation) → refusal index_of book a ≡ None → IsInTime (done book a).1 name change
      by-done (Query question) none = is
      by-done (Edit (Put verb own key)) none = elim is [
        | inl low ↦ inl low
        | inr waits ↦ inr (waits.0, some-put book.pending name own _ waits.1)
      ]
      by-done (Edit (ask.Turn epoch _)) none =
          let above = above-last epoch book.last.epoch (passed (nat_le epoch book.last.epoch, EpochNotLater) [] none).0 in
          elim is [
            | inl low ↦ inl (omega (arith, low, above))
            | inr waits ↦ let e = waits.0 in inl (omega (arith, e, above))
          ]

      by : (why : Option Refusal) → refusal index_of book asked ≡ why → IsInTime (unless_refused why book asked).1 name change
      by (Some why) e = is
      by None e = by-done asked e

  comes-keeps : (book : Book) (asked : Result Operation ℕ) → Keeps book (comes_of index_of book asked).1
  comes-keeps book (Ok asked) = step-keeps book asked
  comes-keeps book (Err code) = λ name change is. is

  answered-keeps : (messages : List Message) (book : Book) → Keeps book (answered index_of book messages).1
  answered-keeps [] book = λ name change is. is
  answered-keeps (message ∷ more) book = λ name change is.
      answered-keeps more (comes_of index_of book (asks message)).1 name change (comes-keeps book (asks message) name change is)

  keep-all : (book after : Book) → Keeps book after → (watchers : List Watcher) → AreInTime book watchers → AreInTime after watchers
  keep-all book after keeps = each-so (λ (watcher : Watcher). AllByRecursion (IsInTime book watcher.name) watcher.watch.changes) (λ (watcher : Watcher). AllByRecursion (IsInTime after watcher.name) watcher.watch.changes)
      (λ watcher. each-so (IsInTime book watcher.name) (IsInTime after watcher.name) (keeps watcher.name) watcher.watch.changes)

  -- going through pages changes nothing else of a monitor
  through-same : (shown : List Page) (watcher : Watcher) → (behind : ℕ) × ((through index_of watcher shown).1 ≡ record watcher { behind = behind })
  through-same [] watcher = (watcher.behind, refl)
  through-same (page ∷ more) watcher =
      by (is_double index_of page watcher.name) (through index_of (record watcher { behind = page.epoch }) more) (through-same more (record watcher { behind = page.epoch }))
    where
      by : (b : Bool) (later : List (List ℕ) × Watcher) → (behind : ℕ) × (later.1 ≡ record watcher { behind = behind })
          → (behind : ℕ) × ((cond b (refused_proof ∷ [], watcher) (onto_line (watched_text watcher page) later)).1 ≡ record watcher { behind = behind })
      by true later rest = (watcher.behind, refl)
      by false later rest = rest

  through-keeps : (book : Book) (shown : List Page) (watcher : Watcher) → AllByRecursion (IsInTime book watcher.name) watcher.watch.changes
      → AllByRecursion (IsInTime book (through index_of watcher shown).1.name) (through index_of watcher shown).1.watch.changes
  through-keeps book shown watcher is =
      let same = through-same shown watcher in
      subst (λ (w : Watcher). AllByRecursion (IsInTime book w.name) w.watch.changes) (sym same.1) is

  all-keep : (book : Book) (shown : List Page) (watchers : List Watcher) → AreInTime book watchers → AreInTime book (all_through index_of shown watchers).1
  all-keep book shown [] are = tt
  all-keep book shown (watcher ∷ more) are = (through-keeps book (ahead watcher shown) watcher are.0, all-keep book shown more are.1)

  on-keeps : (book before after : Book) (watchers : List Watcher) → AreInTime book watchers → AreInTime book (watch_on index_of before after watchers).1
  on-keeps book before after watchers are = by (nat_lt (length (pages before)) (length (pages after)))
    where
      by : (b : Bool) → AreInTime book (cond b (all_through index_of (pages after) watchers) ([], watchers)).1
      by true = all-keep book (pages after) watchers are
      by false = are

  -- a promise over the last root, which waits, is handed out
  handed-in-time : (book : Book) (name : List ℕ) (key : BoundKey) (epoch : ℕ) → epoch ≡ book.last.epoch → is_some (at book.pending name) ≡ true → (watchers : List Watcher) → AreInTime book watchers
      → AreInTime book (handed name epoch key watchers)
  handed-in-time book name key epoch now waits [] are = tt
  handed-in-time book name key epoch now waits (watcher ∷ more) are = (by (bytes_eq watcher.name name) refl, handed-in-time book name key epoch now waits more are.1)
    where
      by : (b : Bool) → bytes_eq watcher.name name ≡ b
          → AllByRecursion (IsInTime book (cond b (record watcher { watch = expecting epoch key watcher.watch }) watcher).name) (cond b (record watcher { watch = expecting epoch key watcher.watch }) watcher).watch.changes
      by true e =
          let own : watcher.name ≡ name = (bytes_eq-Decides watcher.name name).0 e in
          both (IsInTime book watcher.name) watcher.watch.changes ((epoch, key) ∷ []) are.0 (inr (now, subst (λ (n : List ℕ). is_some (at book.pending n) ≡ true) (sym own) waits), tt)
      by false e = are.0

  line-in-time : (stand : Stand) (line : ScriptLine) → AreInTime stand.book stand.watchers → AreInTime (line_played index_of stand line).1.book (line_played index_of stand line).1.watchers
  line-in-time stand Pass are = are
  line-in-time stand (Ask (request.Put verb name key)) are = by (refusal index_of stand.book (Edit (Put verb name key))) (keep-all stand.book (step index_of stand.book (Edit (Put verb name key))).1 (step-keeps stand.book (Edit (Put verb name key))) stand.watchers are)
    where
      by : (why : Option Refusal) → AreInTime (unless_refused why stand.book (Edit (Put verb name key))).1 stand.watchers
          → AreInTime (unless_refused why stand.book (Edit (Put verb name key))).1
          (played.after_promise (request.Put verb name key) stand.book.last.epoch (upshot_of (unless_refused why stand.book (Edit (Put verb name key))).0)
          (watch_on index_of stand.book (unless_refused why stand.book (Edit (Put verb name key))).1 stand.watchers).1)
      by (Some why) kept = on-keeps stand.book stand.book stand.book stand.watchers kept
      by None kept =
          let after : Book = (done stand.book (Edit (Put verb name key))).1 in
          handed-in-time after name (bound_key key) stand.book.last.epoch refl (ap is_some (at_put_same name _ stand.book.pending)) (watch_on index_of stand.book after stand.watchers).1
          (on-keeps after stand.book after stand.watchers kept)
  line-in-time stand (Ask requested) are =
      let now = comes_of index_of stand.book (request_asks requested) in
      on-keeps now.1 stand.book now.1 stand.watchers (keep-all stand.book now.1 (comes-keeps stand.book (request_asks requested)) stand.watchers are)
  line-in-time stand (Watching name start) are =
      both (λ (watcher : Watcher). AllByRecursion (IsInTime stand.book watcher.name) watcher.watch.changes) stand.watchers ((through index_of (watcher_of stand.book name start) (stand.book.last ∷ [])).1 ∷ []) are
      (through-keeps stand.book (stand.book.last ∷ []) (watcher_of stand.book name start) tt, tt)
  line-in-time stand (Piece session piece) are =
      let messages = heard stand.sessions (piece_events session piece) in
      let now = answered index_of stand.book messages in
      on-keeps now.1 stand.book now.1 stand.watchers (keep-all stand.book now.1 (answered-keeps messages stand.book) stand.watchers are)
  line-in-time stand (End session) are = are

  lines-in-time : (lines : List (List ℕ)) (stand : Stand) → AreInTime stand.book stand.watchers → AreInTime (after_lines index_of stand lines).book (after_lines index_of stand lines).watchers
  lines-in-time [] stand are = are
  lines-in-time (line ∷ more) stand are = by (line_of line) (lines-in-time more)
    where
      by : (said : Option ScriptLine) → ((later : Stand) → AreInTime later.book later.watchers → AreInTime (after_lines index_of later more).book (after_lines index_of later more).watchers)
          → AreInTime (script_after_line index_of stand said (λ later. after_lines index_of later more)).book (script_after_line index_of stand said (λ later. after_lines index_of later more)).watchers
      by None next = are
      by (Some said) next = next (line_played index_of stand said).1 (line-in-time stand said are)

pub monitors-in-time : MonitorsAreInTime
monitors-in-time index_of salts lines = lines-in-time index_of lines (opening salts) tt

pub promises-later : PromisesAreLater
promises-later index_of book verb name key answer changes is are = by (refusal index_of book (Edit (Put verb name key))) refl is
  where
    by : (why : Option Refusal) → refusal index_of book (Edit (Put verb name key)) ≡ why → upshot_of (unless_refused why book (Edit (Put verb name key))).0 ≡ Ok answer
        → AllByRecursion (λ (change : ℕ × BoundKey). change.0 < book.last.epoch) changes
    by (Some why) e f = absurd cc
    by None e f = each-so (IsInTime book name) (λ (change : ℕ × BoundKey). change.0 < book.last.epoch) lower changes are
      where
        lower : (change : ℕ × BoundKey) → IsInTime book name change → change.0 < book.last.epoch
        lower change (inl low) = low
        lower change (inr waits) = let clash : true ≡ false = sym waits.1 ∙ (put_passed index_of book verb name key e).pending in absurd cc
