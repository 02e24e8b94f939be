-- A promise of a key, handed to the monitors of its name.
use Rattle.std.specs.Prelude.{◌≡◌, ◌≢◌, ◌⊎◌, ℕ, List}
use Rattle.std.specs.List.{AllZip}
use Rattle.rand_core.specs.Stream.{Stream}
use Rattle.encoding.specs.declared.bound_key.BoundKey.{BoundKey}
use Rattle.rootchain.specs.declared.signed_promise.SignedPromise.{SignedPromise}
use Rattle.wire.specs.Requests.{RequestContent}
use Rattle.book.specs.Shows.{index_of, roots}
use Rattle.monitor.specs.Expecting.{IsNewPromise}
use Rattle.monitor.specs.Monitors.{Monitor, with_change}
use Rattle.play.specs.Messages.{comes_of, request_asks}
use Rattle.play.specs.Parties.{book_of, provider_of, HasAsked, IsWatcher, Parties}
use Rattle.play.specs.Played.{after_promise}
use Rattle.play.specs.Watchers.{Watcher}

-- a monitor of the name expects the change of this promise, and no other changes
abbrev pub IsHanded : List ℕ → SignedPromise → Monitor → Monitor → Type 0
IsHanded name promised before after = ((before.name ≡ name) × (after ≡ with_change before promised)) ⊎ ((before.name ≢ name) × (after ≡ before))

-- if the monitor is one of the name, the bytes spell a promise of the key that it may expect
abbrev pub MayBeHanded : (List ℕ → List ℕ) → (List ℕ → List ℕ → List ℕ → Type 0) → List ℕ → BoundKey → List ℕ → Monitor → Type 0
MayBeHanded hash verified name key bytes monitor = monitor.name ≡ name → (promised : SignedPromise) × IsNewPromise hash verified monitor key bytes promised

module _ {R : Type 0} (digest_of : List ℕ → List ℕ) (value_of signature_of : List ℕ → List ℕ → List ℕ) (stream : R → Stream) (accepted verified : List ℕ → List ℕ → List ℕ → Type 0) where
  -- This was asked for, and answered with this text. The monitors are these watchers, as they were before.
  pub record MayHand (before asked now : Parties R) (requested : RequestContent) (text : List ℕ) (watchers : List Watcher) : Type 0 where
    pub was : HasAsked digest_of value_of signature_of stream accepted verified before requested text asked
    pub others : now ≡ record asked { client = now.client }
    pub are : AllZip (IsWatcher before.key (roots (provider_of digest_of value_of signature_of stream accepted verified before) (book_of digest_of value_of signature_of stream accepted verified before)) (book_of digest_of value_of signature_of stream accepted verified before)) before.monitors watchers

  -- the promise was handed out, if there was one: nothing but the monitors changed
  pub record HasHanded (before asked now : Parties R) (requested : RequestContent) (watchers : List Watcher) (after : Parties R) : Type 0 where
    pub others : after ≡ record now { monitors = after.monitors }
    pub are : AllZip (IsWatcher before.key (roots (provider_of digest_of value_of signature_of stream accepted verified before) (book_of digest_of value_of signature_of stream accepted verified before)) (book_of digest_of value_of signature_of stream accepted verified asked)) after.monitors
        (after_promise requested (book_of digest_of value_of signature_of stream accepted verified before).last.epoch
        (comes_of (index_of (provider_of digest_of value_of signature_of stream accepted verified before)) (book_of digest_of value_of signature_of stream accepted verified before) (request_asks requested)).0 watchers)
