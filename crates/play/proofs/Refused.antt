-- What an honest directory gives no cause for: a refusal that is not for want of memory.
use Rattle.std.proofs.Common.{◌≡◌, ℕ, List, None, Some, Result, Ok, Err, inl, inr, refl, sym, subst, ◌∙◌, arith}
use Rattle.wire.specs.Frames.{Frame}
use Rattle.encoding.specs.declared.bound_key.BoundKey.{BoundKey}
use Rattle.rootchain.specs.Chains.{Verifies}
use Rattle.rootchain.specs.Promises.{PromiseVerifies}
use Rattle.rootchain.specs.SignedRoots.{SpellsRoot}
use Rattle.rootchain.specs.declared.root_refusal.Refusal.{Refusal as RootRefusal}
use Rattle.rootchain.specs.declared.root_refusal.Refusal.TheVariants as rooted
use Rattle.client.specs.declared.client_refusal.RootRefusal.TheVariants as told
use Rattle.rootchain.specs.declared.signed_promise.SignedPromise.{SignedPromise}
use Rattle.rootchain.specs.declared.signed_root.SignedRoot.{SignedRoot}
use Rattle.hub.specs.declared.hub_refusal.HubRefusal.{HubRefusal}
use Rattle.hub.specs.declared.hub_refusal.HubRefusal.TheVariants as hub
use Rattle.hub.specs.Events.{due, Happening, HubState}
use Rattle.hub.specs.Happenings.{Happens}
use Rattle.auditor.specs.Chains.{Chains}
use Rattle.auditor.specs.Observing.{Observes}
use Rattle.client.specs.Clients.{HasRootOf}
use Rattle.client.specs.Starting.{Starts}
use Rattle.client.specs.declared.client_refusal.Refusal.{Refusal}
use Rattle.client.specs.declared.client_refusal.Refusal.TheVariants as client
use Rattle.monitor.specs.Expecting.{Expects, IsNewPromise, MayExpect}
use Rattle.monitor.specs.Monitors.{Monitor, IsNext}
use Rattle.monitor.specs.Stepping.{Steps}
use Rattle.monitor.specs.declared.monitor_refusal.Refusal.{Refusal as MonitorRefusal}
use Rattle.monitor.specs.declared.monitor_refusal.Refusal.TheVariants as monitor
use Rattle.book.specs.declared.directory_refusal.Refusal.{Refusal as BookRefusal}
use Rattle.book.specs.declared.directory_refusal.Refusal.TheVariants as book
use Rattle.epochs.specs.Beginnings.{IsBeginRefusal}
use Rattle.book.specs.Books.{Page}
use Rattle.book.specs.Shows.{Provider}
use Rattle.play.specs.Wanting.{IsMemory, IsOfLook}
use Rattle.play.proofs.Added.{one-signed}
use Rattle.play.proofs.Calling.{one-promise}
use Rattle.play.proofs.Looked.{LooksSo}

-- ---- a directory that begins

pub begins-well : (why : BookRefusal) → IsBeginRefusal 1 why → why ≡ book.Memory
begins-well book.Memory is = refl
begins-well book.EpochNotLater is = absurd (omega (arith, is))
begins-well book.BadName is = absurd is
begins-well book.BadKey is = absurd is
begins-well book.BadPolicy is = absurd is
begins-well book.NameTaken is = absurd is
begins-well book.NoSuchName is = absurd is
begins-well book.FinalBinding is = absurd is
begins-well book.PendingExists is = absurd is
begins-well book.IndexTaken is = absurd is
begins-well book.NoSuchEpoch is = absurd is
begins-well book.NoPromise is = absurd is
begins-well book.BadRange is = absurd is
begins-well book.KeepFailed is = absurd is

-- ---- a root that the provider signed

module _ (verified : List ℕ → List ℕ → List ℕ → Type 0) (key bytes : List ℕ) (root : SignedRoot) (spells : SpellsRoot bytes root) (verifies : Verifies verified key root) where
  pub starts-well : (why : Refusal) → Starts verified key bytes (Err why) → why ≡ client.Memory
  starts-well client.Memory starts = refl
  starts-well (client.Root told.Malformed) starts = absurd (starts root spells)
  starts-well (client.Root told.BadSignature) (own, also, never) = absurd (never (subst (Verifies verified key) (one-signed bytes root own spells also) verifies))
  starts-well (client.Root told.NotLater) starts = absurd starts
  starts-well (client.Root told.BadLink) starts = absurd starts
  starts-well (client.Proof why) starts = absurd starts
  starts-well client.UnknownRoot starts = absurd starts
  starts-well (client.RootDiffers evidence) starts = absurd starts
  starts-well client.NoPromise starts = absurd starts

  pub observes-well : (hash : List ℕ → List ℕ) (before after : Chains) (why : RootRefusal) → Observes hash verified before key bytes (Err why) after → why ≡ rooted.Memory
  observes-well hash before after why (inr (none, is, stays)) = absurd (none root spells)
  observes-well hash before after rooted.Memory (inl observed) = refl
  observes-well hash before after rooted.Malformed (inl (own, also, refused)) = absurd refused.0
  observes-well hash before after rooted.BadSignature (inl (own, also, refused)) = absurd (refused.0 (subst (Verifies verified key) (one-signed bytes root own spells also) verifies))
  observes-well hash before after rooted.NotLater (inl (own, also, refused)) = absurd refused.0
  observes-well hash before after rooted.BadLink (inl (own, also, refused)) = absurd refused.0

-- ---- an event for which there is a place

module _ {S : Type 0} (answers : S → Frame → List ℕ → S → Type 0) (before after : HubState S) (it : Happening) (output grown : List ℕ) (free : due before.sessions it ≡ None) where
  other-due : (why : HubRefusal) → due before.sessions it ≡ Some why → ⊥
  other-due why is = let e : None ≡ Some why = sym free ∙ is in absurd cc

  pub happens-well : (why : HubRefusal) → Happens answers before it output (Err why) after grown → IsMemory why
  happens-well (hub.Memory taken) happens = tt
  happens-well hub.TooManySessions happens = absurd (other-due hub.TooManySessions happens.0)
  happens-well hub.SessionOpen happens = absurd (other-due hub.SessionOpen happens.0)
  happens-well hub.NoSession happens = absurd (other-due hub.NoSession happens.0)

-- ---- a look

pub looks-well : (provider : Provider) (page : Page) (name : List ℕ) (why : Refusal) → LooksSo provider page name (Err why) → IsOfLook why
looks-well provider page name (client.Proof why) so = tt
looks-well provider page name client.Memory so = tt
looks-well provider page name client.UnknownRoot so = absurd so
looks-well provider page name (client.Root why) so = absurd so
looks-well provider page name (client.RootDiffers evidence) so = absurd so
looks-well provider page name client.NoPromise so = absurd so

-- a step for which there is a next root
pub steps-well : (hash : List ℕ → List ℕ) (accepted : List ℕ → List ℕ → List ℕ → Type 0) (before after : Monitor) (bytes : List ℕ) (root : SignedRoot) → IsNext before root
    → (why : Refusal) → Steps hash accepted before bytes (Err (monitor.Client why)) after → IsOfLook why
steps-well hash accepted before after bytes root next (client.Proof why) steps = tt
steps-well hash accepted before after bytes root next client.Memory steps = tt
steps-well hash accepted before after bytes root next client.UnknownRoot steps = absurd (steps.0 root next)
steps-well hash accepted before after bytes root next (client.Root why) steps = absurd steps
steps-well hash accepted before after bytes root next (client.RootDiffers evidence) steps = absurd steps
steps-well hash accepted before after bytes root next client.NoPromise steps = absurd steps

-- ---- a promise that a monitor may expect

module _ (hash : List ℕ → List ℕ) (verified : List ℕ → List ℕ → List ℕ → Type 0) (before after : Monitor) (key : BoundKey) (bytes : List ℕ) (promised : SignedPromise) (new : IsNewPromise hash verified before key bytes promised) where
  pub expects-well : (result : Result (Unit {0}) MonitorRefusal) → Expects hash verified before key bytes result after → (why : MonitorRefusal) → result ≡ Err why → why ≡ monitor.Client client.Memory
  expects-well (Ok done) expects why is = absurd cc
  expects-well (Err (monitor.Client client.Memory)) expects why is = cc
  expects-well (Err monitor.OtherPromise) ((signed, given, may_not), stays) why is =
      absurd (may_not (subst (λ (p : SignedPromise). MayExpect before key p.promise) (one-promise bytes promised signed new.0.0.0 given.0.0) new.1))
  expects-well (Err (monitor.Client (client.Root told.Malformed))) expects why is = absurd (expects.0 promised new.0.0.0)
  expects-well (Err (monitor.Client (client.Root told.BadSignature))) ((signed, spells, never), stays) why is =
      absurd (never (subst (PromiseVerifies verified before.client.chain.key) (one-promise bytes promised signed new.0.0.0 spells) new.0.0.1))
  expects-well (Err (monitor.Client (client.Root told.NotLater))) expects why is = absurd expects.0
  expects-well (Err (monitor.Client (client.Root told.BadLink))) expects why is = absurd expects.0
  expects-well (Err (monitor.Client client.UnknownRoot)) ((signed, spells, none), stays) why is =
      absurd (none (subst (λ (p : SignedPromise). HasRootOf hash before.client.chain p.promise) (one-promise bytes promised signed new.0.0.0 spells.0) new.0.1))
  expects-well (Err (monitor.Client (client.Proof refusal))) expects why is = absurd expects
  expects-well (Err (monitor.Client (client.RootDiffers evidence))) expects why is = absurd expects
  expects-well (Err (monitor.Client client.NoPromise)) expects why is = absurd expects
