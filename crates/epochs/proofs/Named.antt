-- The names with their histories that a hash map holds.
use Rattle.std.proofs.Common.{◌≡◌, ℕ, List, [], ◌∷◌, ◌++◌, Option, Some, None, Bor, sym, ap, ◌∙◌, subst, MatchResult, Result, Ok, Err}
use Rattle.std.specs.Cmp.Lexicographic.{pointwise}
use Rattle.std.specs.HashMap.{HashMap, UpdatesBy}
use Rattle.std.specs.Map.{lookup}
use Rattle.std.specs.Option.{option_copied, option_map, unwrap_or}
use Rattle.std.specs.Prelude.{nat_eq}
use Rattle.encoding.specs.Maps.{at}
use Rattle.epochs.specs.declared.address.Address.{Address}
use Rattle.epochs.specs.Addresses.{HistoryContent, NamesContent, named, with_history, with_name}
use Rattle.epochs.specs.Histories.{Version}
use Rattle.epochs.specs.Versions.{AllBefore, AreHistories, versions_of}
use Rattle.epochs.proofs.Hashed.{bytes_ascend, hashed-put, hashed-put_at, lookup-bytes, put-same, test}
use Rattle.epochs.proofs.Versions.{histories_with}

-- of what a borrow shows
pub borrowed : {X Y : Type 0} (of : X → Y) (found : Option (Bor X)) (o : Option X) → option_copied found ≡ o → option_map (λ x. of x.now) found ≡ option_map of o
borrowed of None o is = ap (option_map of) is
borrowed of (Some x) o is = ap (option_map of) is

-- ---- of the histories of names
abbrev Versions : HistoryContent → List Version
Versions history = history.versions

abbrev At : HistoryContent → Address
At history = history.address

module _ {K : Type 0} (bytes : K → List ℕ) where
  -- a map in which a history was put at a name
  pub named-put : {S : Type 0} (name : List ℕ) (later : HistoryContent) (map map_after : HashMap K HistoryContent S)
      → UpdatesBy (λ x y. pointwise nat_eq (bytes x) (bytes y)) (test bytes name) map map_after (Some later) → named bytes map_after.entries ≡ with_history (named bytes map.entries) name later
  named-put name later map map_after updates =
      λ i. record { versions = hashed-put bytes Versions name later map map_after updates i; addresses = hashed-put bytes At name later map map_after updates i }

  -- the same at a key of these bytes
  pub named-put_at : {S : Type 0} (name : List ℕ) (key : K) (later : HistoryContent) (map map_after : HashMap K HistoryContent S) → bytes key ≡ name
      → UpdatesBy (λ x y. pointwise nat_eq (bytes x) (bytes y)) (test bytes (bytes key)) map map_after (Some later) → named bytes map_after.entries ≡ with_history (named bytes map.entries) name later
  named-put_at name key later map map_after is updates =
      λ i. record { versions = hashed-put_at bytes Versions name key later map map_after is updates i; addresses = hashed-put_at bytes At name key later map map_after is updates i }

  -- a history that is there
  module _ (name : List ℕ) (es : List (K × HistoryContent)) (earlier : HistoryContent) (found : lookup (test bytes name) es ≡ Some earlier) where
    versions-at : Some earlier.versions ≡ at (named bytes es).versions name
    versions-at = ap (option_map Versions) (sym found) ∙ lookup-bytes bytes Versions name es

    address-at : Some earlier.address ≡ at (named bytes es).addresses name
    address-at = ap (option_map At) (sym found) ∙ lookup-bytes bytes At name es

    pub versions-there : versions_of (named bytes es).versions name ≡ earlier.versions
    versions-there = ap (λ (o : Option (List Version)). unwrap_or o []) (sym versions-at)

    named-same : with_history (named bytes es) name earlier ≡ named bytes es
    named-same = λ i. record {
      versions = put-same name earlier.versions (named bytes es).versions (bytes_ascend bytes Versions es) (sym versions-at) i;
      addresses = put-same name earlier.address (named bytes es).addresses (bytes_ascend bytes At es) (sym address-at) i;
    }

-- ---- what a call leaves
module _ (A : Type 0) {E : Type 0} (B : E → Type 0) (name : List ℕ) (address : Address) (version : Version) where
  -- the names after a version was added, or not
  abbrev pub Added : Result (Unit {0}) E → NamesContent → NamesContent → Type 0
  Added result names after = MatchResult result (λ _. A × (after ≡ with_name names name address version)) (λ why. (after ≡ names) × B why)

  pub histories_after : (result : Result (Unit {0}) E) (names after : NamesContent) → AreHistories names.versions → AllBefore version.number (versions_of names.versions name) → Added result names after
      → AreHistories after.versions
  histories_after (Ok done) names after are before added = subst (λ (n : NamesContent). AreHistories n.versions) (sym added.1) (histories_with names.versions name version are before)
  histories_after (Err why) names after are before added = subst (λ (n : NamesContent). AreHistories n.versions) (sym added.0) are

  -- from what became of the history of a name that is there
  pub added-there : {K : Type 0} (bytes : K → List ℕ) (result : Result (Unit {0}) E) (es es_set es_after : List (K × HistoryContent)) (earlier later : HistoryContent)
      → lookup (test bytes name) es ≡ Some earlier → es_after ≡ es_set → named bytes es_set ≡ with_history (named bytes es) name later
      → MatchResult result (λ _. A × (later ≡ record earlier { versions = earlier.versions ++ version ∷ [] })) (λ why. (later ≡ earlier) × B why)
      → Added result (named bytes es) (named bytes es_after)
  added-there bytes (Ok done) es es_set es_after earlier later found is set added = (
    added.0,
    ap (named bytes) is ∙ set ∙ ap (with_history (named bytes es) name) added.1
        ∙ (λ i. with_history (named bytes es) name (record { address = unwrap_or (address-at bytes name es earlier found i) address; versions = unwrap_or (versions-at bytes name es earlier found i) [] ++ version ∷ [] })),
  )
  added-there bytes (Err why) es es_set es_after earlier later found is set added = (
    ap (named bytes) is ∙ set ∙ ap (with_history (named bytes es) name) added.0 ∙ named-same bytes name es earlier found,
    added.1,
  )

module _ (name : List ℕ) (address : Address) (version : Version) where
  -- from what became of the map where it lacked the name
  pub added-new : {K : Type 0} (bytes : K → List ℕ) (es es_set es_after : List (K × HistoryContent))
      → lookup (test bytes name) es ≡ None → es_after ≡ es_set
      → named bytes es_set ≡ with_history (named bytes es) name (record { address = address; versions = version ∷ [] })
      → named bytes es_after ≡ with_name (named bytes es) name address version
  added-new bytes es es_set es_after none is set =
      ap (named bytes) is ∙ set ∙ (λ i. with_history (named bytes es) name (record { address = unwrap_or (no-address i) address; versions = unwrap_or (no-version i) [] ++ version ∷ [] }))
    where
      no-address : None ≡ at (named bytes es).addresses name
      no-address = ap (option_map At) (sym none) ∙ lookup-bytes bytes At name es

      no-version : None ≡ at (named bytes es).versions name
      no-version = ap (option_map Versions) (sym none) ∙ lookup-bytes bytes Versions name es
