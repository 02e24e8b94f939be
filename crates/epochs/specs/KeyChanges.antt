-- A change of a name's key: why it is refused, where a version may come, and what comes of it.
use Rattle.std.specs.Prelude.{◌≡◌, ◌⊎◌, ℕ, ◌-◌, List, [], ◌∷◌, ◌++◌, Option, Some, None}
use Rattle.std.specs.Option.{option_map}
use Rattle.commands.specs.declared.edit.Verb.TheVariants.{Change}
use Rattle.book.specs.declared.record.Record.{Record}
use Rattle.book.specs.declared.directory_refusal.Refusal.{Refusal}
use Rattle.encoding.specs.Maps.{at}
use Rattle.book.specs.Steps.{binding_tests, first}
use Rattle.book.specs.Turns.{IsUnkept}
use Rattle.prefixtree.specs.Placement.{Items, commitment_of, put}
use Rattle.epochs.specs.declared.address.Address.{Address}
use Rattle.epochs.specs.Addresses.{HistoryContent, NamesContent, with_name}
use Rattle.epochs.specs.Histories.{Version, binding_at, waiting}
use Rattle.epochs.specs.Versions.{AllBefore, versions_of}

-- why the key of a name of these versions is not changed before this page
abbrev pub refused_before : ℕ → List Version → Option Refusal
refused_before page versions = first (binding_tests Change (binding_at (page - 1) versions) (waiting page versions))

-- why a call refuses: as is due; where nothing is, memory is wanting, or the keeper failed
abbrev pub IsRefusedSo : {K : Type 0} → (K → Record → K → Type 0) → K → Record → Option Refusal → Refusal → K → Type 0
IsRefusedSo failed keeper lost due why after = ((due ≡ Some why) × (after ≡ keeper)) ⊎ ((due ≡ None) × IsUnkept failed keeper lost why after)

-- if nothing refuses a change, a version of this page comes after those of the history, and nothing waits at
-- its index
abbrev pub FitsHistory : HistoryContent → Items → ℕ → Type 0
FitsHistory history waits page = refused_before page history.versions ≡ None → AllBefore page history.versions × (commitment_of waits history.address.index ≡ None)

-- the same of the history of a name, if it has one
abbrev pub FitsNames : NamesContent → Items → List ℕ → ℕ → Type 0
FitsNames names waits name page = refused_before page (versions_of names.versions name) ≡ None
    → AllBefore page (versions_of names.versions name) × ((address : Address) → at names.addresses name ≡ Some address → commitment_of waits address.index ≡ None)

-- nothing refuses the version; it is the last one of the history, and its commitment waits at the index
abbrev pub IsChangedHistory : HistoryContent → Items → Version → List ℕ → List ℕ → HistoryContent → Items → Type 0
IsChangedHistory history waits version commitment index history_after waits_after =
    (refused_before version.number history.versions ≡ None)
    × (index ≡ history.address.index)
    × (history_after ≡ record history { versions = history.versions ++ version ∷ [] })
    × (waits_after ≡ put waits index commitment)

-- the same of the history of a name, which has its index already
abbrev pub AreChangedNames : NamesContent → Items → List ℕ → Version → List ℕ → List ℕ → NamesContent → Items → Type 0
AreChangedNames names waits name version commitment index names_after waits_after =
    (refused_before version.number (versions_of names.versions name) ≡ None)
    × (option_map (λ address. address.index) (at names.addresses name) ≡ Some index)
    × ((address : Address) → names_after ≡ with_name names name address version)
    × (waits_after ≡ put waits index commitment)
