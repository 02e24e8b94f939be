-- What comes of a look, as it comes of a reply under a root; and a client stays sound when it keeps a look.
use Rattle.std.proofs.Common.{◌≡◌, ℕ, zero, suc, ◌-◌, List, [], ◌∷◌, ◌++◌, length, slice_get, Some, Result, Ok, Err, refl, arith}
use Rattle.std.specs.List.{AllByRecursion}
use Rattle.rootchain.specs.Chains.{IsAt, IsHead, KeyedRoots}
use Rattle.rootchain.specs.Places.{IsNextAfter}
use Rattle.rootchain.specs.declared.signed_root.SignedRoot.{SignedRoot}
use Rattle.rootchain.proofs.Places.{ends, one-first}
use Rattle.proofs.specs.declared.statement.Statement.{Statement}
use Rattle.client.specs.Clients.{Client, IsSoundClient, Look}
use Rattle.client.specs.Looking.{IsAnswered, IsLookRoot, KeepsLook, Looks, LooksNext}
use Rattle.client.specs.declared.client_refusal.Refusal.{Refusal}
use Rattle.client.specs.declared.client_refusal.Refusal.TheVariants.{Root, Proof, UnknownRoot, RootDiffers, Memory, NoPromise}

pub one-more : {A : Type 0} (P : A → Type 0) (xs : List A) (x : A) → AllByRecursion P xs → P x → AllByRecursion P (xs ++ x ∷ [])
one-more P [] x all is = (is, tt)
one-more P (y ∷ xs) x all is = (all.0, one-more P xs x all.1 is)

-- the head is the root of its epoch
pub head-at : (chain : KeyedRoots) (root : SignedRoot) → IsHead chain root → IsAt chain root.body.epoch root
head-at chain root head = by chain.roots refl head
  where
    by : (roots : List SignedRoot) → chain.roots ≡ roots → slice_get roots (length roots - 1) ≡ Some root → IsAt chain root.body.epoch root
    by [] is at = absurd cc
    by (first ∷ more) is at =
        let e = ends (first ∷ more) (omega arith) in
        let same : e.head ≡ root = one-first e.head root _ e.at-head at in
        rw is (rw same at e.has-head, refl)

-- and the root that a look is checked under is that of its epoch
pub asked-epoch : (chain : KeyedRoots) (epoch : ℕ) (root : SignedRoot) → IsLookRoot chain epoch root → IsAt chain root.body.epoch root
asked-epoch chain zero root asked = head-at chain root asked
asked-epoch chain (suc n) root asked = (asked.0, refl)

module _ (hash : List ℕ → List ℕ) (accepted : List ℕ → List ℕ → List ℕ → Type 0) (before : Client) (name bytes : List ℕ) (root : SignedRoot) (after : List Look) where
  -- a look under the root of an epoch
  pub looked : (epoch : ℕ) → IsLookRoot before.chain epoch root → (result : Result Statement Refusal) → KeepsLook hash accepted before.looks name root bytes result after
      → Looks hash accepted before name epoch bytes result (record before { looks = after })
  unfolding IsAnswered
  looked epoch asked (Ok statement) (reply, is, states, named, same) = (root, reply, (asked, is), states, rw same refl)
  looked epoch asked (Err (Proof why)) (refuses, same) = (root, asked, refuses, rw same refl)
  looked epoch asked (Err Memory) (reply, is, same) = (root, reply, (asked, is), rw same refl)
  looked epoch asked (Err UnknownRoot) never = absurd never
  looked epoch asked (Err (Root why)) never = absurd never
  looked epoch asked (Err (RootDiffers evidence)) never = absurd never
  looked epoch asked (Err NoPromise) never = absurd never

  module _ (passed : ℕ) (next : IsNextAfter before.chain passed root) where
    -- a look under the first root after an epoch
    pub looked-next : (statement : Statement) → KeepsLook hash accepted before.looks name root bytes (Ok statement) after
        → LooksNext hash accepted before name passed bytes (Ok (root.body.epoch, statement)) (record before { looks = after })
    looked-next statement (reply, is, states, named, same) = (root, reply, (next, is), refl, states, rw same refl)

    pub refused-next : (why : Refusal) → KeepsLook hash accepted before.looks name root bytes (Err why) after
        → LooksNext hash accepted before name passed bytes (Err why) (record before { looks = after })
    refused-next (Proof why) (refuses, same) = (root, next, refuses, rw same refl)
    refused-next Memory (reply, is, same) = (root, reply, (next, is), rw same refl)
    refused-next UnknownRoot never = absurd never
    refused-next (Root why) never = absurd never
    refused-next (RootDiffers evidence) never = absurd never
    refused-next NoPromise never = absurd never

  -- a client stays sound if the chain has the root
  pub look-kept : (verified : List ℕ → List ℕ → List ℕ → Type 0) → IsAt before.chain root.body.epoch root → IsSoundClient hash accepted verified before
      → (result : Result Statement Refusal) → KeepsLook hash accepted before.looks name root bytes result after → IsSoundClient hash accepted verified (record before { looks = after })
  look-kept verified at sound (Ok statement) (reply, is, states, named, same) = rw same (record {
    roots = sound.roots;
    looks = one-more _ before.looks _ sound.looks (record { named = named; root = root; at = at; reply = reply; is = is });
    promises = sound.promises;
  })
  look-kept verified at sound (Err (Proof why)) (refuses, same) = rw same sound
  look-kept verified at sound (Err Memory) (reply, is, same) = rw same sound
  look-kept verified at sound (Err UnknownRoot) never = absurd never
  look-kept verified at sound (Err (Root why)) never = absurd never
  look-kept verified at sound (Err (RootDiffers evidence)) never = absurd never
  look-kept verified at sound (Err NoPromise) never = absurd never
