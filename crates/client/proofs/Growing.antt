-- A client stays sound when its chain grows, and when a promise is dropped.
use Rattle.std.proofs.Common.{ℕ, zero, suc, List, [], ◌∷◌, ◌++◌, remove, ◌∙◌, arith}
use Rattle.std.specs.List.{AllByRecursion}
use Rattle.std.proofs.lemmas.List.{get_or_append_left, length-append}
use Rattle.rootchain.specs.declared.signed_root.SignedRoot.{SignedRoot}
use Rattle.rootchain.specs.Chains.{IsAt, KeyedRoots}
use Rattle.rootchain.specs.SignedRoots.{IsSignedRoot}
use Rattle.rootchain.specs.TakingLists.{with_roots}
use Rattle.client.specs.Clients.{Client, HasRootOf, IsAcceptedLook, IsPromised, IsSoundClient}

all-of : {A : Type 0} (P Q : A → Type 0) (xs : List A) → ((x : A) → P x → Q x) → AllByRecursion P xs → AllByRecursion Q xs
all-of P Q [] leads all = tt
all-of P Q (x ∷ xs) leads all = (leads x all.0, all-of P Q xs leads all.1)

all-rest : {A : Type 0} (P : A → Type 0) (xs : List A) (k : ℕ) → AllByRecursion P xs → AllByRecursion P (remove xs k)
all-rest P [] zero all = tt
all-rest P [] (suc k) all = tt
all-rest P (x ∷ xs) zero all = all.1
all-rest P (x ∷ xs) (suc k) all = (all.0, all-rest P xs k all.1)

still-at : (chain : KeyedRoots) (more : List SignedRoot) (epoch : ℕ) (root : SignedRoot) → IsAt chain epoch root → IsAt (with_roots chain more) epoch root
still-at chain more epoch root at =
    ((at.0.0, omega (arith, at.0.1, length-append chain.roots more), get_or_append_left chain.roots more root at.0.0 at.0.1 ∙ at.0.2), at.1)

module _ (hash : List ℕ → List ℕ) (accepted verified : List ℕ → List ℕ → List ℕ → Type 0) (before : Client) (sound : IsSoundClient hash accepted verified before) where
  still-rooted : (more : List SignedRoot) (promise : _) → HasRootOf hash before.chain promise → HasRootOf hash (with_roots before.chain more) promise
  unfolding HasRootOf
  still-rooted more promise has = (has.0, still-at before.chain more promise.epoch has.0 has.1, has.2)

  pub grown : (more : List SignedRoot) → AllByRecursion IsSignedRoot (before.chain.roots ++ more) → IsSoundClient hash accepted verified (record before { chain = with_roots before.chain more })
  grown more form = record {
    roots = form;
    looks = all-of (IsAcceptedLook hash accepted before.chain) _ before.looks
        (λ look is. record { named = is.named; root = is.root; at = still-at before.chain more look.epoch is.root is.at; reply = is.reply; is = is.is }) sound.looks;
    promises = all-of (IsPromised hash verified before.chain) _ before.promises
        (λ signed is. record { form = is.form; verifies = is.verifies; rooted = still-rooted more signed.promise is.rooted }) sound.promises;
  }

  pub dropped : (place : ℕ) → IsSoundClient hash accepted verified (record before { promises = remove before.promises place })
  dropped place = record { roots = sound.roots; looks = sound.looks; promises = all-rest _ before.promises place sound.promises }
