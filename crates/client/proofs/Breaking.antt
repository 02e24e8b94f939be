-- A promise that is told as broken is evidence.
use Rattle.std.proofs.Common.{◌≡◌, ℕ, zero, suc, ◌+◌, ◌<◌, ◌≤◌, List, [], ◌∷◌, length, get_or, slice_get, Some, Ok, Err, Contains, refl, sym, subst, ◌∙◌, inl, inr, arith}
use Rattle.std.specs.List.{AllAdjacentBelow, AllByRecursion}
use Rattle.std.proofs.lemmas.Bool.{cases_lt}
use Rattle.std.proofs.lemmas.List.{get_or_default}
use Rattle.std.proofs.lemmas.List.Elements.{All-contains, All-from_recursion}
use Rattle.rootchain.specs.declared.signed_promise.SignedPromise.{SignedPromise}
use Rattle.rootchain.specs.declared.signed_root.SignedRoot.{SignedRoot}
use Rattle.rootchain.specs.Chains.{IsChain, Links, Names, Verifies}
use Rattle.rootchain.specs.Places.{IsNextAfter}
use Rattle.rootchain.specs.SignedRoots.{IsSignedRoot}
use Rattle.rootchain.proofs.Chains.{ascend-linked, one-root}
use Rattle.rootchain.proofs.Places.{rising}
use Rattle.proofs.specs.Accepts.{stated, States}
use Rattle.client.specs.Clients.{Client, HasRootOf, IsPromised, IsSoundClient}
use Rattle.client.specs.Dues.{DueHolds, Dues, IsTested, Tests}
use Rattle.client.specs.declared.due.Due.{Due}
use Rattle.client.specs.declared.due.Due.TheVariants.{Kept, Broken, OtherIndex}
use Rattle.client.specs.declared.client_refusal.Refusal.{Refusal}
use Rattle.client.specs.declared.client_refusal.Refusal.TheVariants.{Root, Proof, UnknownRoot, RootDiffers, Memory, NoPromise}

pub all-at : {A : Type 0} (P : A → Type 0) (xs : List A) (k : ℕ) (x : A) → AllByRecursion P xs → slice_get xs k ≡ Some x → P x
all-at P [] k x all is = absurd cc
all-at P (y ∷ xs) zero x all is = let same : y ≡ x = cc in subst P same all.0
all-at P (y ∷ xs) (suc k) x all is = all-at P xs k x all.1 is

-- the chain's next root after one of its roots names that one
pub next-names : (hash : List ℕ → List ℕ) (roots : List SignedRoot) (key : List ℕ) (own root : SignedRoot) → AllAdjacentBelow (Links hash) roots (length roots) → Contains roots own
    → IsNextAfter (record { key = key; roots = roots }) own.body.epoch root → Names hash own root
next-names hash roots key own root linked has next = elim (cases_lt has.0 next.0.0) [
  | inl later ↦
      let up = ascend-linked hash roots linked in
      let inside : has.0 + 1 < length roots = omega (arith, later, next.0.1) in
      let after : SignedRoot = get_or roots (has.0 + 1) own in
      let at : get_or roots (has.0 + 1) after ≡ after = get_or_default roots (has.0 + 1) after own inside in
      let link : Links hash own after = subst (λ (x : SignedRoot). Links hash x after) has.2 (linked has.0 own inside) in
      let low : root.body.epoch ≤ after.body.epoch = rw at at (next.2 (has.0 + 1) after inside (rw at link.1)) in
      let there : get_or roots next.0.0 own ≡ root = get_or_default roots next.0.0 own root next.0.1 ∙ next.0.2 in
      let high : after.body.epoch ≤ root.body.epoch = rw there at (rising roots up (has.0 + 1) next.0.0 own (omega (arith, later)) next.0.1) in
      let same : after ≡ root = one-root roots up (has.0 + 1) next.0.0 after root inside next.0.1 at next.0.2 (omega (arith, low, high)) in
      subst (λ (x : SignedRoot). Names hash own x) same link.0
  | inr before ↦
      let up = ascend-linked hash roots linked in
      let here : get_or roots has.0 root ≡ own = get_or_default roots has.0 root own has.1 ∙ has.2 in
      let low : root.body.epoch ≤ own.body.epoch = rw (next.0.2, here) at (rising roots up next.0.0 has.0 root before has.1) in
      absurd (omega (arith, low, next.1))
]

module _ (hash : List ℕ → List ℕ) (accepted verified : List ℕ → List ℕ → List ℕ → Type 0) (before : Client) (name bytes : List ℕ) where
  pub due-holds : IsChain hash verified before.chain → IsSoundClient hash accepted verified before → (place : ℕ) (signed : SignedPromise) → IsTested before.promises name place signed
      → (due : Due) → Tests hash accepted before.chain name bytes signed (Ok due) → DueHolds hash accepted verified before.chain.key due
  unfolding HasRootOf Names
  due-holds chain sound place signed is Kept tests = tt
  due-holds chain sound place signed is OtherIndex tests = tt
  due-holds chain sound place signed is (Broken broken) (root, reply, next, accepts, told) =
      let promised : IsPromised hash verified before.chain signed = all-at _ before.promises place signed sound.promises is.at in
      let own = promised.rooted.0 in
      let at = promised.rooted.1 in
      let names : Names hash own root = next-names hash before.chain.roots before.chain.key own root chain.linked at.0 (subst (λ (e : ℕ). IsNextAfter before.chain e root) (sym at.1) next) in
      rw told.2 (
        record {
          signed = promised.verifies;
          rooted = All-contains (Verifies verified before.chain.key) before.chain.roots root chain.signed next.0;
          next = names.0 ∙ at.1;
          linked = names.1 ∙ sym promised.rooted.2;
          contradicts = record {
            statement = stated reply.end;
            passes = rw is.named (reply, accepts.0, subst (λ b. States hash accepted b name reply (stated reply.end)) accepts.1 accepts.2);
            index = (reply, accepts.0, told.0);
            broken = told.1;
          };
        },
        promised.form,
        All-contains IsSignedRoot before.chain.roots root (All-from_recursion IsSignedRoot before.chain.roots sound.roots) next.0,
      )

-- a reply that is refused
module _ (hash : List ℕ → List ℕ) (accepted : List ℕ → List ℕ → List ℕ → Type 0) (before : Client) (name bytes : List ℕ) where
  pub refused : (place : ℕ) (signed : SignedPromise) → IsTested before.promises name place signed → (why : Refusal) → Tests hash accepted before.chain name bytes signed (Err why) → Dues hash accepted before name bytes (Err why) before
  refused place signed is UnknownRoot tests = (place, (signed, is, tests), refl)
  refused place signed is (Proof why) tests = (place, (signed, is, tests), refl)
  refused place signed is (Root why) tests = absurd tests
  refused place signed is (RootDiffers evidence) tests = absurd tests
  refused place signed is Memory tests = absurd tests
  refused place signed is NoPromise tests = absurd tests
