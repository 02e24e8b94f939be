-- The roots of one chain, observed one after another.
use Rattle.std.specs.Prelude.{◌≡◌, ◌⊎◌, ℕ, List, [], ◌∷◌, ◌++◌, Contains, Ok, ⊤}
use Rattle.rootchain.specs.declared.signed_root.SignedRoot.{SignedRoot}
use Rattle.auditor.specs.Chains.{Chains}
use Rattle.auditor.specs.Observing.{ObservesRoot}
use Rattle.auditor.specs.declared.auditor.Observed.{Observed}
use Rattle.auditor.specs.declared.auditor.Observed.TheVariants.{Started, Extended, Known}

-- Each root that comes is the next one of a chain, or one that came before: `taken` are those that came, and
-- `coming` those that the chain has behind them.
abbrev pub ComeInOrder : List SignedRoot → List SignedRoot → List SignedRoot → Type 0
ComeInOrder taken coming [] = ⊤
ComeInOrder taken coming (root ∷ more) =
    (Contains taken root × ComeInOrder taken coming more)
    ⊎ ((rest : List SignedRoot) × (coming ≡ root ∷ rest) × ComeInOrder (taken ++ root ∷ []) rest more)

-- the answer on the next root
abbrev pub next_answer : List SignedRoot → Observed
next_answer [] = Started
next_answer (first ∷ more) = Extended

-- the answers on roots that come in order: the first one starts a chain, each other one that is next extends
-- it, and one that came before is known
abbrev pub AreFollowed : List SignedRoot → List SignedRoot → List SignedRoot → List Observed → Type 0
AreFollowed taken coming [] answers = answers ≡ []
AreFollowed taken coming (root ∷ more) [] = ⊥
AreFollowed taken coming (root ∷ more) (told ∷ answers) =
    (Contains taken root × (told ≡ Known) × AreFollowed taken coming more answers)
    ⊎ ((rest : List SignedRoot) × (coming ≡ root ∷ rest) × (told ≡ next_answer taken) × AreFollowed (taken ++ root ∷ []) rest more answers)

-- an auditor observes roots of a provider, one after another, and answers on each
abbrev pub ObservesAll : (List ℕ → List ℕ) → (List ℕ → List ℕ → List ℕ → Type 0) → Chains → List ℕ → List SignedRoot → List Observed → Chains → Type 0
ObservesAll hash verified before key [] answers after = (answers ≡ []) × (after ≡ before)
ObservesAll hash verified before key (root ∷ more) [] after = ⊥
ObservesAll hash verified before key (root ∷ more) (told ∷ answers) after =
    (between : Chains) × ObservesRoot hash verified before key root (Ok told) between × ObservesAll hash verified between key more answers after
