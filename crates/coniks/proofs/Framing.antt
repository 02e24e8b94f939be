-- What is asked, as the frame that is put into a buffer.
use Rattle.std.proofs.Common.{◌≡◌, ◌≢◌, ◌⊎◌, ◌↔◌, Bool, IsTrue, inl, inr, ℕ, ◌+◌, List, drop, Option, None, Some, Result, Ok, Err, MatchResult, is_ok, length, refl, subst}
use Rattle.encoding.specs.Policies.{policy_of}
use Rattle.encoding.specs.declared.fault.Fault.{Fault}
use Rattle.encoding.specs.declared.fault.Fault.TheVariants.{OutOfRange}
use Rattle.encoding.specs.declared.policy.Policy.{Policy}
use Rattle.encoding.specs.Bytes.{IsBytes}
use Rattle.wire.specs.Frames.{frame_bytes, frame_head}
use Rattle.wire.specs.FrameViews.{frame_seen, BeginsWith}
use Rattle.wire.specs.declared.frame.FrameView.{FrameView}
use Rattle.wire.specs.declared.frame.Front.TheVariants.{Whole}
use Rattle.wire.proofs.Frames.{frame_field}
use Rattle.wire.specs.Requests.{request_body, request_frame, request_kind, RequestContent}
use Rattle.coniks.specs.Asking.{NonceAsked, PolicyAsked}
use Rattle.coniks.specs.Comparing.{IsPut}
use Rattle.coniks.specs.Hearing.{ReadsFrame}
use Rattle.coniks.specs.declared.parts.FrameParts.{FrameParts}
use Rattle.coniks.proofs.Cuts.{piece-at}

-- bytes of no length or of 32 ask for a nonce, or for none
pub nonce-asked : (bytes : List ℕ) → (length bytes ≡ 0) ⊎ (length bytes ≡ 32) → (asked : Option (List ℕ)) × NonceAsked bytes asked
nonce-asked bytes (inl none) = (None, inl (none, refl))
nonce-asked bytes (inr size) = (Some bytes, inr (size, refl))

-- a byte is 0, or that of a policy
pub policy-asked : (byte : ℕ) → (byte ≡ 0) ⊎ ((policy : Policy) × (policy_of byte ≡ Some policy)) → (asked : Option ℕ) × PolicyAsked byte asked
policy-asked byte (inl none) = (None, inl (none, refl))
policy-asked byte (inr (policy, is)) = (Some byte, inr (policy, is, refl))

-- whether a policy is read from a byte
pub policy-read : (byte : ℕ) (read : Result Policy Fault) → MatchResult read (λ policy. policy_of byte ≡ Some policy) (λ fault. (policy_of byte ≡ None) × (fault ≡ OutOfRange)) → (test : Bool) → test ≡ is_ok read
    → IsTrue test ↔ ((policy : Policy) × (policy_of byte ≡ Some policy))
policy-read byte (Ok policy) is test same = (λ holds. (policy, is), λ _. same)
policy-read byte (Err fault) (none, _) test same = (λ holds. absurd cc, λ (policy, is). absurd cc)

pub policy-said : (byte : ℕ) (test : Bool) → IsTrue test ↔ ((policy : Policy) × (policy_of byte ≡ Some policy)) → byte ≢ 0 → IsTrue test ↔ ((asked : Option ℕ) × PolicyAsked byte asked)
policy-said byte test exact more = (λ holds. policy-asked byte (inr (exact.0 holds)), λ (asked, is). by asked is)
  where
    by : (asked : Option ℕ) → PolicyAsked byte asked → IsTrue test
    by asked (inl (none, same)) = absurd (more none)
    by asked (inr (policy, is, same)) = exact.1 (policy, is)

pub nonce-said : (bytes : List ℕ) (test : Bool) → IsTrue test ↔ (length bytes ≡ 32) → length bytes ≢ 0 → IsTrue test ↔ ((asked : Option (List ℕ)) × NonceAsked bytes asked)
nonce-said bytes test exact more = (λ holds. nonce-asked bytes (inr (exact.0 holds)), λ (asked, is). by asked is)
  where
    by : (asked : Option (List ℕ)) → NonceAsked bytes asked → IsTrue test
    by asked (inl (none, same)) = absurd (more none)
    by asked (inr (size, same)) = exact.1 size

-- kind and body of a request are its frame
pub put-so : (asked : RequestContent) (kind : ℕ) (body : List ℕ) → kind ≡ request_kind asked → body ≡ request_body asked → (before after : List ℕ) (len : ℕ) → IsPut (frame_bytes (record { kind = kind; body = body })) before after len
    → IsPut (frame_bytes (request_frame asked)) before after len
put-so asked kind body kind-is body-is before after len is =
    subst (λ (b : List ℕ). IsPut (frame_bytes (record { kind = request_kind asked; body = b })) before after len) body-is
    (subst (λ (k : ℕ). IsPut (frame_bytes (record { kind = k; body = body })) before after len) kind-is is)

-- a frame at the front of bytes
pub begins-whole : (bytes : List ℕ) → IsBytes bytes → (view : FrameView) → BeginsWith bytes (Whole view) → (before : FrameParts) → ReadsFrame bytes 0 before (record { kind = view.kind; body = record { start = 5; len = length view.body.now } })
begins-whole bytes are view (reads, fits) before =
    let (is, form) = frame_field.spelled bytes (frame_seen view, drop (5 + length view.body.now) bytes) are reads in
    inl (frame_seen view, drop (5 + length view.body.now) bytes, is, form, refl, refl, refl, piece-at bytes (frame_head view.kind (length view.body.now)) view.body.now (drop (5 + length view.body.now) bytes) 5 (length view.body.now) is refl refl)
