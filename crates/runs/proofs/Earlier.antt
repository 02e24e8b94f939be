-- What earlier runs were promised is kept.
use Rattle.std.proofs.Common.{◌≡◌, ◌∙◌, List, [], ◌∷◌, ◌++◌, Contains, Global, Result, Ok, Err, Vec, ap, subst, sym}
use Rattle.std.specs.Prelude.{OnOk}
use Rattle.std.specs.List.{AllByRecursion}
use Rattle.std.proofs.lemmas.List.Elements.{Contains-append_left, Contains-push}
use Rattle.rootchain.specs.declared.signed_promise.SignedPromise.{SignedPromise}
use Rattle.client.specs.Clients.{Client, with_promise}
use Rattle.runs.specs.Runs.{KeepsAll}

all-then : {X : Type 0} (P Q : X → Type 0) (xs : List X) → ((x : X) → P x → Q x) → AllByRecursion P xs → AllByRecursion Q xs
all-then P Q [] leads all = tt
all-then P Q (x ∷ xs) leads (first, rest) = (leads x first, all-then P Q xs leads rest)

all-push : {X : Type 0} (P : X → Type 0) (xs : List X) (x : X) → AllByRecursion P xs → P x → AllByRecursion P (xs ++ x ∷ [])
all-push P [] x all last = (last, tt)
all-push P (first ∷ xs) x (holds, rest) last = (holds, all-push P xs x rest last)

pub ok_so : {A E P : Type 0} (result : Result A E) → P → OnOk result P
ok_so (Ok done) holds = holds
ok_so (Err why) holds = tt

-- nothing changes
pub keeps_same : (client after : Client) (earlier earlier' : List SignedPromise) → after ≡ client → earlier' ≡ earlier → KeepsAll client earlier → KeepsAll after earlier'
keeps_same client after earlier earlier' is same keeps = subst (λ (c : Client). KeepsAll c earlier') (sym is) (subst (λ (all : List SignedPromise). KeepsAll client all) (sym same) keeps)

-- one promise more is kept
pub keeps_more : (client after : Client) (signed : SignedPromise) (earlier earlier' : List SignedPromise) → after ≡ with_promise client signed → earlier' ≡ earlier → KeepsAll client earlier → KeepsAll after earlier'
keeps_more client after signed earlier earlier' is same keeps = keeps_same (with_promise client signed) after earlier earlier' is same
    (all-then (Contains client.promises) (Contains (client.promises ++ signed ∷ [])) earlier (λ each there. Contains-append_left client.promises (signed ∷ []) each there) keeps)

-- one is put behind promises that stayed
pub pushed_on : (earlier middle after : Vec SignedPromise Global) (signed : SignedPromise) → middle ≡ earlier → after.items ≡ middle.items ++ signed ∷ [] → after.items ≡ earlier.items ++ signed ∷ []
pushed_on earlier middle after signed same is = is ∙ ap (λ (all : Vec SignedPromise Global). all.items ++ signed ∷ []) same

-- and it was one for a change
pub keeps_change : (client after : Client) (signed : SignedPromise) (earlier earlier' : List SignedPromise) → after ≡ with_promise client signed → earlier' ≡ earlier ++ signed ∷ [] → KeepsAll client earlier → KeepsAll after earlier'
keeps_change client after signed earlier earlier' is same keeps = keeps_same (with_promise client signed) after (earlier ++ signed ∷ []) earlier' is same
    (all-push (Contains (client.promises ++ signed ∷ [])) earlier signed
    (all-then (Contains client.promises) (Contains (client.promises ++ signed ∷ [])) earlier (λ each there. Contains-append_left client.promises (signed ∷ []) each there) keeps)
    (Contains-push client.promises signed))
