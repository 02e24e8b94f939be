-- What comes of a look (CONIKS, section 4: a client checks a reply against the signed root of an epoch).
use Rattle.std.specs.Prelude.{◌≡◌, ℕ, zero, suc, List, [], ◌∷◌, ◌++◌, Result, Ok, Err}
use Rattle.encoding.specs.Limits.{IsName}
use Rattle.rootchain.specs.Chains.{IsAt, IsHead, KeyedRoots}
use Rattle.rootchain.specs.Places.{IsNextAfter}
use Rattle.rootchain.specs.declared.signed_root.SignedRoot.{SignedRoot}
use Rattle.proofs.specs.Accepts.{stated}
use Rattle.proofs.specs.Comparisons.{IsAcceptedReply, Refuses}
use Rattle.proofs.specs.Replies.{Reply}
use Rattle.proofs.specs.Views.{key_stated}
use Rattle.proofs.specs.declared.statement.Statement.{Statement}
use Rattle.client.specs.Clients.{Client, Look, with_look}
use Rattle.client.specs.declared.client_refusal.Refusal.{Refusal}
use Rattle.client.specs.declared.client_refusal.Refusal.TheVariants.{Root, Proof, UnknownRoot, RootDiffers, Memory, NoPromise}

-- the root that a look at an epoch is checked under: for 0 the head, else the one of the epoch
abbrev pub IsLookRoot : KeyedRoots → ℕ → SignedRoot → Type 0
IsLookRoot chain zero root = IsHead chain root
IsLookRoot chain (suc n) root = IsAt chain (suc n) root

module _ (hash : List ℕ → List ℕ) (accepted : List ℕ → List ℕ → List ℕ → Type 0) (before : Client) (name : List ℕ) (epoch : ℕ) (bytes : List ℕ) where
  -- the bytes are a reply for the name that is accepted under that root
  unfoldable pub IsAnswered : SignedRoot → Reply → Type 0
  IsAnswered root reply = IsLookRoot before.chain epoch root × IsAcceptedReply hash accepted root.body name bytes reply

  -- The answer to a look and the client after it (CONIKS, section 4: key look-up). Only a look that is accepted and
  -- kept changes the client.
  abbrev pub Looks : Result Statement Refusal → Client → Type 0
  Looks (Ok statement) after = (root : SignedRoot) × (reply : Reply) × IsAnswered root reply × (key_stated statement ≡ stated reply.end)
      × (after ≡ with_look before (record { name = name; epoch = root.body.epoch; reply = bytes }))
  Looks (Err UnknownRoot) after = ((root : SignedRoot) → ¬ IsLookRoot before.chain epoch root) × (after ≡ before)
  Looks (Err (Proof why)) after = (root : SignedRoot) × IsLookRoot before.chain epoch root × Refuses hash accepted root.body name bytes why × (after ≡ before)
  Looks (Err Memory) after = (root : SignedRoot) × (reply : Reply) × IsAnswered root reply × (after ≡ before)
  Looks (Err (Root why)) after = ⊥
  Looks (Err (RootDiffers evidence)) after = ⊥
  Looks (Err NoPromise) after = ⊥

module _ (hash : List ℕ → List ℕ) (accepted : List ℕ → List ℕ → List ℕ → Type 0) (before : Client) (name : List ℕ) (passed : ℕ) (bytes : List ℕ) where
  -- the bytes are a reply for the name that is accepted under the chain's first root after the epoch
  abbrev pub IsAnsweredNext : SignedRoot → Reply → Type 0
  IsAnsweredNext root reply = IsNextAfter before.chain passed root × IsAcceptedReply hash accepted root.body name bytes reply

  -- The answer to a look at that root, with the epoch of the root, and the client after it (CONIKS, section 4: key
  -- look-up). Only a look that is accepted and kept changes the client.
  abbrev pub LooksNext : Result (ℕ × Statement) Refusal → Client → Type 0
  LooksNext (Ok (epoch, statement)) after = (root : SignedRoot) × (reply : Reply) × IsAnsweredNext root reply × (epoch ≡ root.body.epoch) × (key_stated statement ≡ stated reply.end)
      × (after ≡ with_look before (record { name = name; epoch = root.body.epoch; reply = bytes }))
  LooksNext (Err UnknownRoot) after = ((root : SignedRoot) → ¬ IsNextAfter before.chain passed root) × (after ≡ before)
  LooksNext (Err (Proof why)) after = (root : SignedRoot) × IsNextAfter before.chain passed root × Refuses hash accepted root.body name bytes why × (after ≡ before)
  LooksNext (Err Memory) after = (root : SignedRoot) × (reply : Reply) × IsAnsweredNext root reply × (after ≡ before)
  LooksNext (Err (Root why)) after = ⊥
  LooksNext (Err (RootDiffers evidence)) after = ⊥
  LooksNext (Err NoPromise) after = ⊥

-- What comes of a reply for a name under a root, and the looks after it. Only one that is accepted is kept.
module _ (hash : List ℕ → List ℕ) (accepted : List ℕ → List ℕ → List ℕ → Type 0) (before : List Look) (name : List ℕ) (root : SignedRoot) (bytes : List ℕ) where
  abbrev pub KeepsLook : Result Statement Refusal → List Look → Type 0
  KeepsLook (Ok statement) after = (reply : Reply) × IsAcceptedReply hash accepted root.body name bytes reply × (key_stated statement ≡ stated reply.end) × IsName name
      × (after ≡ before ++ (record { name = name; epoch = root.body.epoch; reply = bytes }) ∷ [])
  KeepsLook (Err (Proof why)) after = Refuses hash accepted root.body name bytes why × (after ≡ before)
  KeepsLook (Err Memory) after = (reply : Reply) × IsAcceptedReply hash accepted root.body name bytes reply × (after ≡ before)
  KeepsLook (Err UnknownRoot) after = ⊥
  KeepsLook (Err (Root why)) after = ⊥
  KeepsLook (Err (RootDiffers evidence)) after = ⊥
  KeepsLook (Err NoPromise) after = ⊥
