-- What a run leaves of a book: its pages and its roots, and the bindings that wait unless a page comes.
use Rattle.std.proofs.Common.{◌≡◌, ◌⊎◌, ℕ, ◌+◌, ◌<◌, List, [], ◌∷◌, ◌++◌, length, map, get_or, Bool, true, false, None, IsSome, refl, sym, ap, subst, ◌∙◌, inl, inr, arith, replicate}
use Rattle.std.specs.Prelude.{nat_le}
use Rattle.std.specs.BTreeMap.{is_at}
use Rattle.std.specs.List.{AllZip}
use Rattle.std.proofs.lemmas.List.{append-nil, get_or_append_left, get_or_push, length-append, map-append}
use Rattle.std.proofs.lemmas.List.Elements.{All-weaker}
use Rattle.rootchain.specs.Bodies.{body_bytes}
use Rattle.rootchain.specs.declared.signed_root.SignedRoot.{SignedRoot}
use Rattle.commands.specs.Operations.{bound_key, Operation, Query, Edit, Put, Turn}
use Rattle.encoding.specs.declared.bound_key.BoundKey.{BoundKey}
use Rattle.book.specs.declared.keeper.NoKeeper.{NoKeeper}
use Rattle.book.specs.declared.directory_refusal.Refusal.TheVariants.{EpochNotLater}
use Rattle.book.specs.declared.reply.Reply.{Reply}
use Rattle.book.specs.Steps.{Answer, refusal}
use Rattle.book.specs.Books.{Binding, Book, Page, pages}
use Rattle.book.specs.Keeps.{KeepsNothing, NeverFails}
use Rattle.encoding.specs.Maps.{Map, at, put_at}
use Rattle.book.specs.Shows.{Provider, SignedPage, body_behind, index_of, roots, sealed_behind, sealed_pages, signed}
use Rattle.book.specs.Turns.{Run}
use Rattle.book.proofs.Carried.{carried}
use Rattle.book.proofs.Entries.{at_put_other, at_put_same, is_name, is_no_name}
use Rattle.book.proofs.Growing.{HasGrown}
use Rattle.book.proofs.Stepping.{Does}
use Rattle.book.proofs.Turning.{above-last, passed}
use Rattle.monitor.specs.Monitors.{Monitor}
use Rattle.play.specs.Parties.{ArePromised, IsWatcher}
use Rattle.play.specs.Watchers.{Watcher}
use Rattle.encoding.specs.Bytes.{bytes_cmp}

-- ---- pages

-- new pages came, and the last one is of a later epoch; or none came
abbrev pub GrowsOrStays : Book → Book → Type 0
GrowsOrStays before after = ((length (pages before) < length (pages after)) × (before.last.epoch < after.last.epoch)) ⊎ ((pages after ≡ pages before) × (after.last.epoch ≡ before.last.epoch))

pub grows_or_stays : (before after : Book) → HasGrown before after → GrowsOrStays before after
grows_or_stays before after grown = by grown.more grown.is
  where
    n : ℕ
    n = length before.earlier

    m : ℕ
    m = length after.earlier

    size : length (pages before) ≡ n + 1
    size = length-append before.earlier (before.last ∷ [])

    size_after : length (pages after) ≡ m + 1
    size_after = length-append after.earlier (after.last ∷ [])

    own : (d : Page) → get_or (pages before) n d ≡ before.last
    own d = get_or_push before.earlier before.last d n refl

    last : (d : Page) → get_or (pages after) m d ≡ after.last
    last d = get_or_push after.earlier after.last d m refl

    by : (more : List Page) → pages after ≡ pages before ++ more → GrowsOrStays before after
    by [] is =
        let same : pages after ≡ pages before = is ∙ append-nil (pages before) in
        let places : m ≡ n = omega (arith, ap length same, size, size_after) in
        let d : Page = before.last in
        let pages_last : after.last ≡ before.last = sym (last d) ∙ ap (λ (k : ℕ). get_or (pages after) k d) places ∙ ap (λ (ps : List Page). get_or ps n d) same ∙ own d in
        inr (same, ap (λ (page : Page). page.epoch) pages_last)
    by (page ∷ more) is =
        let longer : m + 1 ≡ (n + 1) + length (page ∷ more) = sym size_after ∙ ap length is ∙ length-append (pages before) (page ∷ more) ∙ ap (λ (k : ℕ). k + length (page ∷ more)) size in
        let here : get_or (pages after) n page ≡ before.last =
        ap (λ (ps : List Page). get_or ps n page) is ∙ get_or_append_left (pages before) (page ∷ more) page n (omega (arith, size)) ∙ own page in
        let less : (get_or (pages after) n page).epoch < (get_or (pages after) m page).epoch = grown.ascend n m page (omega (arith, longer)) (omega (arith, size_after)) in
        let one = ap (λ (p : Page). p.epoch) here in
        let other = ap (λ (p : Page). p.epoch) (last page) in
        inl (omega (arith, size, size_after, longer), omega (arith, less, one, other))

-- ---- roots

module _ (provider : Provider) where
  sealed_append : (epoch : ℕ) (before : List ℕ) (front more : List Page) → (later : List SignedPage) × (sealed_behind provider epoch before (front ++ more) ≡ sealed_behind provider epoch before front ++ later)
  sealed_append epoch before [] more = (sealed_behind provider epoch before more, refl)
  sealed_append epoch before (page ∷ front) more =
      let rest = sealed_append page.epoch (provider.hash (body_bytes (body_behind provider epoch before page))) front more in
      (rest.0, ap (λ (all : List SignedPage). record { page = page; root = signed provider (body_behind provider epoch before page) } ∷ all) rest.1)

  pub roots_grow : (before after : Book) (more : List Page) → pages after ≡ pages before ++ more → (left : List SignedRoot) × (roots provider after ≡ roots provider before ++ left)
  roots_grow before after more is =
      let t = sealed_append 0 (replicate 32 0) (pages before) more in
      let root_of : SignedPage → SignedRoot = λ each. each.root in (
        map root_of t.0,
        ap (λ (all : List Page). map root_of (sealed_behind provider 0 (replicate 32 0) all)) is ∙ ap (map root_of) t.1 ∙ map-append root_of (sealed_pages provider before) t.0,
      )

  pub roots_stay : (before after : Book) → pages after ≡ pages before → roots provider after ≡ roots provider before
  roots_stay before after same = ap (λ (all : List Page). map (λ (each : SignedPage). each.root) (sealed_behind provider 0 (replicate 32 0) all)) same

-- ---- what waits

-- a page came, or what waited still waits
abbrev pub StillWaits : Book → Book → Type 0
StillWaits before book = (before.last.epoch < book.last.epoch)
    ⊎ ((book.last.epoch ≡ before.last.epoch) × ((name : List ℕ) → IsSome (at before.pending name) → IsSome (at book.pending name)))

pub put_waits : (pending : Map Binding) (name other : List ℕ) (binding : Binding) → IsSome (at pending other) → IsSome (at (put_at pending name binding) other)
put_waits pending name other binding some = by (is_at (bytes_cmp name) other) refl
  where
    by : (b : Bool) → is_at (bytes_cmp name) other ≡ b → IsSome (at (put_at pending name binding) other)
    by true is = subst IsSome (sym (ap (at (put_at pending name binding)) (is_name name other is) ∙ at_put_same name binding pending)) refl
    by false is = subst IsSome (sym (at_put_other name binding pending other (is_no_name name other is))) some

waits_after : (index : List ℕ → List ℕ) (before book after : Book) (asked : Operation) (answer : Answer) → StillWaits before book → refusal index book asked ≡ None → Does book asked answer after → StillWaits before after
waits_after index before book after (Query question) answer waits none does = subst (StillWaits before) (sym does.1) waits
waits_after index before book after (Edit (Put verb name key)) answer (inl less) none does = subst (StillWaits before) (sym does.1) (inl less)
waits_after index before book after (Edit (Put verb name key)) answer (inr (same, keeps)) none does =
    subst (StillWaits before) (sym does.1) (inr (same, λ other some. put_waits book.pending name other (record { key = bound_key key; salt = book.salt }) (keeps other some)))
waits_after index before book after (Edit (Turn epoch _)) answer waits none does =
    let above : book.last.epoch < epoch = above-last epoch book.last.epoch (passed (nat_le epoch book.last.epoch, EpochNotLater) [] none).0 in
    subst (StillWaits before) (sym does.1) (inl (below waits above))
  where
    below : StillWaits before book → book.last.epoch < epoch → before.last.epoch < epoch
    below (inl less) above = omega (arith, less, above)
    below (inr (same, keeps)) above = omega (arith, same, above)

pub run_waits : (provider : Provider) (commands : List Operation) (replies : List Reply) (book after : Book) (before later : NoKeeper) → Run provider KeepsNothing NeverFails book before commands replies after later → StillWaits book after
run_waits provider commands replies book after before later run =
    carried provider KeepsNothing NeverFails (StillWaits book) commands replies book after before later
    (λ command there each next answer waits none does. waits_after (index_of provider) book each next command answer waits none does)
    (inr (refl, λ name some. some)) run

-- ---- monitors

zip_weaker : {X Y : Type 0} (P Q : X → Y → Type 0) → ((x : X) (y : Y) → P x y → Q x y) → (xs : List X) (ys : List Y) → AllZip P xs ys → AllZip Q xs ys
zip_weaker P Q leads [] [] are = tt
zip_weaker P Q leads [] (y ∷ ys) are = absurd are
zip_weaker P Q leads (x ∷ xs) [] are = absurd are
zip_weaker P Q leads (x ∷ xs) (y ∷ ys) are = (leads x y are.0, zip_weaker P Q leads xs ys are.1)

-- the key was promised over the root of an epoch before the last page's, or it waits
abbrev IsPromised : Watcher → Book → ℕ × BoundKey → Type 0
IsPromised watcher now change = (change.0 < now.last.epoch) ⊎ ((change.0 ≡ now.last.epoch) × IsSome (at now.pending watcher.name))

promised_still : (book after : Book) (watcher : Watcher) → StillWaits book after → ArePromised book watcher → ArePromised after watcher
promised_still book after watcher waits = All-weaker (IsPromised watcher book) (IsPromised watcher after) (by waits) watcher.watch.changes
  where
    by : StillWaits book after → (change : ℕ × BoundKey) → IsPromised watcher book change → IsPromised watcher after change
    by (inl more) change (inl less) = inl (omega (arith, more, less))
    by (inl more) change (inr (is, some)) = inl (omega (arith, more, is))
    by (inr (same, keeps)) change (inl less) = inl (omega (arith, same, less))
    by (inr (same, keeps)) change (inr (is, some)) = inr (is ∙ sym same, keeps watcher.name some)

-- the monitors stand as before
pub watchers_still : (key : List ℕ) (taken : List SignedRoot) (book after : Book) (monitors : List Monitor) (watchers : List Watcher) → StillWaits book after
    → AllZip (IsWatcher key taken book) monitors watchers → AllZip (IsWatcher key taken after) monitors watchers
watchers_still key taken book after monitors watchers waits =
    zip_weaker (IsWatcher key taken book) (IsWatcher key taken after)
    (λ watching watcher is. record { name = is.name; watch = is.watch; skipped = is.skipped; chain = is.chain; some = is.some; behind = is.behind; promised = promised_still book after watcher waits is.promised; until = is.until })
    monitors watchers
