-- The monitors of a script, and what each prints of the pages that it watches, one after another.
use Rattle.std.specs.Prelude.{ℕ, nat_lt, ◌&&◌, Bool, true, false, if◌then◌else◌, List, [], ◌∷◌, ◌++◌, filter, map, Option, Some, None, codes, decimal}
use Rattle.std.specs.Str.{bytes_eq}
use Rattle.hex.specs.Hex.{encode_lower}
use Rattle.encoding.specs.Policies.{policy_bytes}
use Rattle.encoding.specs.declared.bound_key.BoundKey.{BoundKey}
use Rattle.proofs.specs.Watches.{Watch, expected}
use Rattle.book.specs.Books.{Page}
use Rattle.book.specs.Honest.{key_at}
use Rattle.play.specs.Lines.{is_double, key_text, refused_proof}

pub record Watcher : Type 0 where
  pub name : List ℕ
  pub watch : Watch
  -- the epoch of the last page behind it: one that it watched, or that came before its first
  pub behind : ℕ

-- one key, with one policy or none, or no key
abbrev pub same_key : Option BoundKey → Option BoundKey → Bool
same_key None None = true
same_key (Some key) (Some other) = bytes_eq key.value other.value && bytes_eq (policy_bytes key.policy) (policy_bytes other.policy)
same_key None (Some other) = false
same_key (Some key) None = false

-- the key of an alarm
abbrev pub alarm_key : Option BoundKey → List ℕ
alarm_key None = codes "absent"
alarm_key (Some key) = key_text key

-- what a monitor says of a page that has this key: that it is what the owner expects, or else what it is
abbrev pub verdict_text : Bool → List ℕ → Option BoundKey → List ℕ
verdict_text true place key = codes "kept " ++ place
verdict_text false place key = codes "alarm " ++ place ++ codes " " ++ alarm_key key

-- a name, and the epoch of a page
abbrev pub place_text : List ℕ → Page → List ℕ
place_text name page = encode_lower name ++ codes " " ++ decimal page.epoch

abbrev pub watched_text : Watcher → Page → List ℕ
watched_text watcher page =
    let key = key_at page watcher.name in
    verdict_text (same_key key (expected watcher.watch page.epoch)) (place_text watcher.name page) key

abbrev pub onto_line : List ℕ → List (List ℕ) × Watcher → List (List ℕ) × Watcher
onto_line line rest = (line ∷ rest.0, rest.1)

-- a monitor through pages, up to one whose proof its client refuses
abbrev pub through : (List ℕ → List ℕ) → Watcher → List Page → List (List ℕ) × Watcher
through index_of watcher [] = ([], watcher)
through index_of watcher (page ∷ more) =
    if is_double index_of page watcher.name then (refused_proof ∷ [], watcher)
    else onto_line (watched_text watcher page) (through index_of (record watcher { behind = page.epoch }) more)

-- the pages that a monitor has not watched
abbrev pub ahead : Watcher → List Page → List Page
ahead watcher = filter (λ page. nat_lt watcher.behind page.epoch)

-- each monitor through the pages that it has not watched, one monitor after another
abbrev pub all_through : (List ℕ → List ℕ) → List Page → List Watcher → List (List ℕ) × List Watcher
all_through index_of pages [] = ([], [])
all_through index_of pages (watcher ∷ more) =
    let now = through index_of watcher (ahead watcher pages) in
    let later = all_through index_of pages more in
    (now.0 ++ later.0, now.1 ∷ later.1)

-- a key that was promised over the root of an epoch is expected above it
abbrev pub expecting : ℕ → BoundKey → Watch → Watch
expecting epoch key watch = record watch { changes = watch.changes ++ (epoch, key) ∷ [] }

-- a promise is handed to the monitors of its name
abbrev pub handed : List ℕ → ℕ → BoundKey → List Watcher → List Watcher
handed name epoch key = map (λ (watcher : Watcher). if bytes_eq watcher.name name then record watcher { watch = expecting epoch key watcher.watch } else watcher)
